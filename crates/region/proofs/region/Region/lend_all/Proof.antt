-- `lend_all` takes the bytes out of the `Vec`, and lends each under a new name.
use Rattle.region.proofs.Steps.{◌≡◌, ℕ, ◌+◌, ◌<◌, List, [], ◌∷◌, ◌++◌, length, refl, sym, ◌∙◌, arith, proved_at, tables, ftrue, ‵, raw, ◌⊛◌, later, some, prop, ◌$◌, ◌∵◌, !, qed, done, move, use1, split, fsplit, fsplit3, fjoin, fpick, fpack, feq_l, learn, pick, await, rewrite, regoal, suffices, forget, fact, heard, agg, of_opd, get, and_then, enter, no_more, returns, alloc_all, pass_all, free_all, look_at, sets, plain, yes, owns, alive, types_at, as_fields, layout, Typed, Val, WpFn, Goes-blank, Stays, walk_of, says, stay_dropped, ends_at, nothing, none, one, two, none_made, one_made, two_made, tells}
use base.Fml.{GName, fex}
use types.Kit.{given}
use types.Tokens.{lft_new}
use denote.RawPtr.{block_ptr}
use denote.RawPtr.Bytes.{bytes}
use base.Fraction.{full_share}
use Rattle.bytes.specs.Ownership.{closed}
use Rattle.bytes.proofs.Loans.{Lent, lend}
use Rattle.region.specs.Identity.{Identity}
use Rattle.region.proofs.Memory.{Bytes, bytes_laws, Back, carve}
use Rattle.region.specs.contracts.region.Emptied as E
use Rattle.region.specs.contracts.region.Region as R
use Rattle.region.specs.contracts.access.WriteAccess as W
use Rattle.region.specs.contracts.region.Region.lend_all as f
use Rattle.region.proofs.region.Region.lend_all.Statement.{statement}
use Rattle.region.proofs.region.Region.lend_all.Code as code

abbrev stayed : Stays f.ended.signature.params f.ended.kept
stayed = (stay_dropped _ yes, tt)

pub lend_all_spec : {M : Type 1} → statement M
lend_all_spec 𝓤 𝓛 𝓜 𝓡 wired =
    let c = f.clauses 𝓛 𝓜.mem 𝓡.returns in let 𝓦 = walk_of 𝓛 f.ended stayed c in let 𝓣 = tables 𝓤 𝓛.H 𝓜 𝓡 𝓡.env in
    proved_at 𝓛 f.ended stayed c 𝓜 𝓡 (Goes-blank 𝓛 0 (plain (λ _. Bytes)) yes (λ κs x w. tt), tt)
    f.Key.name code.function (code.unfolded 𝓤 𝓛.H 𝓜 𝓡 wired) (λ z are.
    let v = z.0.3.0 in let xs = v.items in let Asked = 0 < v.len in
    qed 𝓛 ((raw (alive 𝓛 f.ended.signature z.0.0 z.0.1) ⊛ ‵ (owns (types_at f.ended.signature.params z.0.0) z.0.3 z.0.4)) ∷ raw (fact 𝓤 Asked) ∷ []) ∵
    move ! (1 ∷ []) $ heard ! Asked (λ asked. split ! $ forget ! $ fsplit ! $ tells ! Bytes bytes_laws v z.0.4.0 (λ u is good. move ! (1 ∷ []) $ forget ! $
    use1 𝓛 (some (λ (at : ℕ × ℕ). given (v.ptr ≡ block_ptr at.0 at.1) (‵ (bytes full_share xs at.0 at.1) ⊛ ‵ (Back u v.len at.0 at.1)))) (carve 𝓛 v u asked) $ pick ! (λ at. learn ! (λ placed. split ! $
    let b = at.0 in let o = at.1 in
    regoal ! (λ (us : List Val). prop (WpFn 𝓤 𝓛.H 𝓣.C 𝓣.Λ code.function (us ++ []) (𝓦.post z))) is refl $
    enter ! _ _ _ _ _ $ alloc_all ! (λ l. pass_all ! refl (good, tt) $
    let inner = as_fields (layout Bytes ∷ []) (u ∷ []) (good, tt) in let outer = as_fields (layout E.the_row ∷ []) (one u ∷ []) (inner, tt) in
    sets ! (of_opd ! (get ! refl)) refl good $ sets ! (agg ! (and_then ! (get ! refl) (no_more !))) refl inner $
    sets ! (agg ! (and_then ! (get ! refl) (no_more !))) refl outer $ sets ! (agg ! (no_more !)) refl (tt, tt) $
    sets ! (agg ! (and_then ! (get ! refl) (and_then ! (get ! refl) (no_more !)))) refl (as_fields (layout R.the_row ∷ layout W.the_row ∷ []) (one (one u) ∷ none ∷ []) (outer, ((tt, tt), tt))) $
    -- [the bytes; how they come back; ..]
    lft_new ! tt (λ α. move ! (1 ∷ []) $ use1 𝓛 (later (‵ (fex (List GName) (Lent 𝓛 α b xs o)))) (lend 𝓛 α b xs o) $ await ! tt $ fpick ! (λ gs. fsplit3 ! $ feq_l ! (λ named.
    let i : Identity = record { life = α; names = gs; block = b; first = o } in
    let region : (R.the_row).Denot = record { memory = i; identity = i; same = refl } in let access : (W.the_row).Denot = record { identity = i; at = 0; items = xs } in
    -- [the borrows; what comes back when they end; the token; how the bytes come back; ..]
    let on : o ≡ o + 0 = omega arith in let many : v.len ≡ length gs = v.ok.0 ∙ sym named in
    rewrite ! 0 (λ (k : ℕ). ‵ (closed α gs xs b k)) on refl $ none_made ! $ fjoin ! $
    move ! (2 ∷ 1 ∷ []) $ fjoin ! $ move ! (2 ∷ []) $ rewrite ! 0 (λ (n : ℕ). ‵ (Back u n b o)) many refl $
    nothing ! $ fpack ! (Typed E.the_row.mir (one u ∷ [])) (λ _. ftrue) (inner, tt) $ fjoin ! $ one_made ! E.the_row i (one u) $ fjoin ! $ two_made ! R.the_row W.the_row region access (one (one u)) none $
    returns ! (look_at ! 0 refl) $ free_all ! refl $
    suffices ! _ (ends_at 𝓛 f.ended stayed c z (two (one (one u)) none) (region, access) (tt, tt) (tt, tt)) $ says ! (placed, refl) $
    nothing ! $ nothing ! $ fjoin ! $ move ! (2 ∷ 0 ∷ 1 ∷ []) $ done !)))))))))
