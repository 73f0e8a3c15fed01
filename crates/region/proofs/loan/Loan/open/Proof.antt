-- `open` takes a share of the region's token from the owner, and with it the bytes out of their borrows.
use Rattle.region.proofs.Steps.{◌≡◌, ℕ, ◌+◌, ◌^◌, ◌<◌, List, [], ◌∷◌, ◌++◌, length, refl, sym, ap, subst, ◌∙◌, proved_at, tables, ftrue, flft, u8, usize, ‵, raw, ◌⊛◌, later, some, prop, at_ret, ◌$◌, ◌∵◌, !, qed, done, move, keep, use1, use2, split, split3, fsplit, fjoin, fjoin3, fpack, join, Part, pick, learn, feq_l, await, rewrite, regoal, suffices, forget, fact, heard, agg, of_opd, get, and_then, enter, no_more, returns, first, blocks, exec, alloc_all, pass_all, free_all, look_at, sets, env, yes, plain, owns, alive, types_at, as_fields, layout, Typed, Val, WpFn, Goes-blank, Stays, walk_of, says_both, stay_dropped, ends_at, nothing, one, two, none_had, two_made, tells, only}
use Rattle.region.proofs.Owners.{Counted, counted_laws, owner_gives}
use Rattle.region.specs.contracts.loan.Loan.open as f
use Rattle.region.proofs.loan.Loan.open.Statement.{statement}
use Rattle.region.proofs.loan.Loan.open.Code as code
use mir.Val.{vptr}
use denote.Builtin.{RawPtr}
use denote.RawPtr.{ptr_val}
use Rattle.region.specs.Identity.{Identity, Stretch, byte_address}
use Rattle.region.specs.contracts.access.WriteAccess as W
use Rattle.region.specs.contracts.loan.Loan as L
use Rattle.region.specs.contracts.loan.Loan.TheInside as Inside
use Rattle.region.specs.Owned.{names_from, held_out}
use Rattle.region.proofs.Lasts.{Lasting, token_halves}
use base.Fml.{fex, fwand}
use base.Fraction.{full_share}
use types.Kit.{given, flt_l}
use types.ByLocal.{lands_last}
use types.Tokens.{shr_bor-open}
use denote.RawPtr.{block_ptr}
use denote.RawPtr.Bytes.{bytes}
use denote.Triple.Call.{calls_at_last}
use denote.Triple.Table.{framed}
use Rattle.std.proofs.Common.{Vec}
use Rattle.std_alloc.specs.declared.vec.lodged.Lodged.{Lodged}
use Rattle.std_alloc.proofs.vec.lodge.Met.{met}
use Rattle.bytes.specs.Ownership.{run_owns, opened}
use Rattle.bytes.proofs.Loans.{open_all, run_in}
use Rattle.bytes.proofs.Lodging.{Housed, housed-laws, byte_laws, Lodges, at_lodge, IsLodged, lodge_goes, lodge_gives}
use Rattle.bytes.proofs.Walks.{Good}

abbrev stayed : Stays f.ended.signature.params f.ended.kept
stayed = (stay_dropped _ yes, (stay_dropped _ yes, (stay_dropped _ yes, (stay_dropped _ yes, tt))))

pub open_spec : {M : Type 1} → statement M
open_spec 𝓤 𝓛 𝓜 𝓡 wired =
    let c = f.clauses 𝓛 𝓜.mem 𝓡.returns in let 𝓦 = walk_of 𝓛 f.ended stayed c in let 𝓣 = tables 𝓤 𝓛.H 𝓜 𝓡 𝓡.env in
    proved_at 𝓛 f.ended stayed c 𝓜 𝓡 (Goes-blank 𝓛 0 (plain (λ _. Counted)) yes (λ κs x w. tt), (Goes-blank 𝓛 0 (plain (λ _. W.the_row)) yes (λ κs x w. tt), (Goes-blank 𝓛 0 (plain (λ _. RawPtr)) yes (λ κs x w. tt), (Goes-blank 𝓛 0 (plain (λ _. usize)) yes (λ κs x w. tt), tt))))
    f.Key.name code.function (code.unfolded 𝓤 𝓛.H 𝓜 𝓡 wired) (λ z are.
    let arc = z.0.3.0 in let w = z.0.3.1.0 in let p = z.0.3.1.1.0 in let len = z.0.3.1.1.1.0 in let i : Identity = w.identity in let vss = z.0.4 in
    let b = i.block in let o = i.first + w.at in let gs = names_from i w.at in
    let X = Inside.the_row.Denot in let x : X = record { region = arc } in let identity_of = λ (o' : X). o'.region.value.identity in
    let t : Stretch = record { identity = i; at = w.at; len = len } in
    let G = Lodges 𝓛 𝓜.mem 𝓡.returns in let y = at_lodge 𝓛 𝓜.mem 𝓡.returns b o len w.items in
    let Asked = (i ≡ arc.value.identity) × (p ≡ byte_address i w.at) × (len ≡ length w.items) × (0 < len) × (len < 2 ^ 63) in
    qed 𝓛 ((raw (alive 𝓛 f.ended.signature z.0.0 z.0.1) ⊛ ‵ (owns (types_at f.ended.signature.params z.0.0) z.0.3 z.0.4)) ∷ raw (fact 𝓤 Asked) ∷ []) ∵
    move ! (1 ∷ []) $ heard ! Asked (λ asked. split ! $ forget ! $ fsplit ! $ tells ! Counted counted_laws arc vss.0 (λ u is good.
    let own = λ (o' : X). Inside.the_row.own_val o' (one u ∷ []) in let inner = as_fields (layout Counted ∷ []) (u ∷ []) (good, tt) in
    move ! (1 ∷ []) $ fsplit ! $ fsplit ! $ none_had ! vss.1.0 (λ is₁. move ! (1 ∷ []) $ fsplit ! $ feq_l ! (λ is₂. fsplit ! $ fsplit ! $ feq_l ! (λ is₃. flt_l ! (λ fits. forget ! $
    let at : vss.1.1.0 ≡ vptr b o ∷ [] = is₂ ∙ ap (λ q. ptr_val q ∷ []) asked.1 in
    regoal ! (λ (us : List Val). prop (WpFn 𝓤 𝓛.H 𝓣.C 𝓣.Λ code.function us (𝓦.post z))) (λ j. is j ++ (is₁ j ++ (at j ++ (is₃ j ++ [])))) refl $
    enter ! _ _ _ _ _ $ alloc_all ! (λ l. pass_all ! refl (good, ((tt, tt), ((tt, tt), ((tt, record { fits = fits }), tt)))) $
    -- [the borrows; the owner]
    move ! (1 ∷ []) $ use1 𝓛 (later (some (λ (s : ℕ × Part). ‵ (Lasting (s.0 ∷ []) arc.value.identity) ⊛ ‵ (flft (s.0 ∷ []) s.1) ⊛ ‵ (fwand (flft (s.0 ∷ []) s.1) (own x))))) (owner_gives 𝓛 arc u) $ await ! tt $ pick ! (λ s. split3 ! $
    rewrite ! 0 (λ (j : Identity). ‵ (Lasting (s.0 ∷ []) j)) (sym asked.0) refl $ shr_bor-open ! tt (token_halves 𝓛 (i.life ∷ [])) (λ q. move ! (3 ∷ 1 ∷ []) $
    use2 𝓛 (later (‵ (bytes full_share w.items b o) ⊛ ‵ (opened i.life q gs (length w.items) b o))) (open_all 𝓛 i.life b q gs w.items o) $ await ! tt $ split ! $
    rewrite ! 1 (λ (k : ℕ). ‵ (opened i.life q gs k b o)) (sym asked.2) refl $
    -- [the bytes; their open borrows; the region's; the way back to the owner]
    move ! (3 ∷ 2 ∷ 1 ∷ []) $ fjoin3 ! $ fpack ! (ℕ × Part × Part) (held_out t X identity_of own x) (s.0, s.1, q) $
    fpack ! (identity_of x ≡ i) (λ _. fex (ℕ × Part × Part) (held_out t X identity_of own x)) (sym asked.0) $
    fpack ! X (λ o'. fex (identity_of o' ≡ i) (λ _. fex (ℕ × Part × Part) (held_out t X identity_of own o'))) x $
    nothing ! $ fpack ! (Typed L.the_row.mir (one u ∷ [])) (λ _. ftrue) (inner, tt) $ fjoin ! $ move ! (1 ∷ []) $
    use1 𝓛 (‵ (run_owns (block_ptr b o) w.items)) (run_in 𝓛 (block_ptr b o) w.items refl) $ first ! $ blocks ! $
    use1 𝓛 (raw (G.pre y)) (lodge_goes 𝓛 𝓜.mem 𝓡.returns b o len w.items (sym asked.2) asked.3 asked.4) $
    calls_at_last ! (framed 𝓤 𝓛.H 𝓜 𝓣) G (met 𝓤 𝓛 𝓜 𝓡 (code.calls-std_alloc::vec::lodge 𝓡.env wired) u8 byte_laws) y (and_then ! (get ! refl) (and_then ! (get ! refl) (and_then ! (get ! refl) (no_more !)))) (λ v.
    use1 𝓛 (later (some (λ (r : Vec ℕ Lodged). given (IsLodged 𝓛 𝓜.mem 𝓡.returns b o len w.items r) (‵ (Housed.own_val r (v ∷ [])))))) (lodge_gives 𝓛 𝓜.mem 𝓡.returns b o len w.items v) $ await ! tt $ pick ! (λ r. learn ! (λ lies.
    tells ! Housed housed-laws r (v ∷ []) (λ v' same fine'. let fine : Good Housed v = subst (Good Housed) (sym (ap only same)) fine' in
    rewrite ! 0 (λ (k : Val). ‵ (Housed.own_val r (k ∷ []))) (sym (ap only same)) refl $ lands_last ! refl fine $
    exec ! 𝓣.C 𝓣.Λ (env code.Mir.locals l) code.Mir.t-2 (at_ret _ (𝓦.post z)) $
    sets ! (of_opd ! (get ! refl)) refl fine $ sets ! (of_opd ! (get ! refl)) refl fine $ sets ! (of_opd ! (get ! refl)) refl good $ sets ! (agg ! (and_then ! (get ! refl) (no_more !))) refl inner $
    sets ! (agg ! (and_then ! (get ! refl) (and_then ! (get ! refl) (no_more !)))) refl (as_fields (layout Housed ∷ layout L.the_row ∷ []) (v ∷ one u ∷ []) (fine, (inner, tt))) $
    two_made ! Housed L.the_row r t v (one u) $ returns ! (look_at ! 0 refl) $ free_all ! refl $
    suffices ! _ (ends_at 𝓛 f.ended stayed c z (two v (one u)) (r, t) (tt, (tt, (tt, (tt, tt)))) (tt, (tt, (tt, (tt, tt))))) $
    says_both ! (record { place = lies.3; all = lies.1; some = asked.3 }, lies.0) refl $
    keep ! (0 ∷ []) $ nothing ! $ nothing ! $ join ! $ nothing ! $ join ! $ nothing ! $ join ! $ nothing ! $ join ! $ nothing ! $ done !))))))))))))))
