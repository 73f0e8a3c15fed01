-- The ghost steps by which rights to bytes are cut, joined and shared. Assumes `Logic`.
use Rattle.std.proofs.Common.{◌≡◌, ℕ, zero, suc, ◌+◌, ◌^◌, ◌<◌, ◌≤◌, ◌-◌, List, [], ◌∷◌, ◌++◌, length, take, drop, drop-drop, refl, sym, arith}
use seplogic.Ra.Ura.{Ura}
use base.Algebras.{shares}
use base.Fraction.{full_share}
use base.FractionLaws.{Counts, Counts-all, Counts-op, counts_some, not-OpDef-full_share}
use base.Logic.{SProp, ent, sep, ex, upd, upd_i, never_e, id⊢, via}
use base.Fml.{Lft, GName, Share, Fml, Incl, Incl-refl, ftrue, fex, fsep, flft, fdead, fobs, fbor, flent, finv, fown, fshr_bor}
use contract.BorrowLft.{⊑_static, meet_⊑_left, meet_⊑_right}
use ghost.Rules.{span}
use mathlib.Core.Bool.{Bool, true, false}
use mir.Syntax.{w8}
use types.Logic.{Logic, sem, lfts}
use types.Kit.{‵, raw, ◌⊛◌, later, ◌$◌, ◌∵◌, !, qed, by, move, keep, use0, use1, use2, use3, split, split3, fsplit, fjoin, fpack, fpick, pick, some as exists, show, frame, assume, suffices, await, updating, now, done, rewrite}
use types.Kit.{drop as forget}
use types.Owned.{basic, own_new, own_glued, own_join}
use types.Tokens.{lent_back, lft_end}
use denote.Builtin.{u8}
use denote.Copied.{uint_Copied}
use denote.Memory.{mem, part_at, shared_of}
use denote.Moves.{moves_from}
use denote.Plain.{uint_row_laws}
use denote.Shares.{settles}
use denote.Sharing.{ShrLaws}
use denote.SharingLaws.{contraction}
use denote.Slice.{elements_shared, elements_shr_laws}
use denote.Steps.{nothing}
use Rattle.bytes.specs.Ownership.{cell, closed}
use Rattle.bytes.proofs.Loans.{cut}
use Rattle.left_right.specs.Parted.{tokens}
use Rattle.left_right.proofs.PartSteps.{tokens_whole, tokens_cut, tokens_glue}
use Rattle.region.specs.Identity.{Identity, Round}
use Rattle.region.specs.Owned.{names_from, write_owns, both, shown, deed, deed_of, kept, safe, stake, parts, read_owns, read_shares}

module _ {M : Type 1} {𝓤 : Ura M} (𝓛 : Logic 𝓤) where
  open 𝓛 use {H, A}

  -- ---- runs that may be written
  -- two runs side by side
  pub beside : (l b : ℕ) (gs : List GName) (xs ys : List ℕ) (o p : ℕ) → p ≡ o + length xs
      → ent 𝓤 (sep 𝓤 (sem 𝓛 (closed l gs xs b o)) (sem 𝓛 (closed l (drop (length xs) gs) ys b p))) (sem 𝓛 (closed l gs (xs ++ ys) b o))
  beside l b gs [] ys o p e =
      let same : p ≡ o = omega (arith, e) in
      qed 𝓛 (‵ (closed l gs [] b o) ∷ ‵ (closed l gs ys b p) ∷ []) ∵ forget ! $ rewrite ! 0 (λ (k : ℕ). ‵ (closed l gs ys b k)) same refl $ done !
  beside l b [] (x ∷ xs) ys o p e = qed 𝓛 (‵ (closed l [] (x ∷ xs) b o) ∷ ‵ (closed l (drop (length (x ∷ xs)) []) ys b p) ∷ []) ∵ keep ! (0 ∷ []) $ by ! (never_e 𝓤 _)
  beside l b (γ ∷ gs) (x ∷ xs) ys o p e =
      let on : p ≡ o + 1 + length xs = omega (arith, e) in
      qed 𝓛 (‵ (closed l (γ ∷ gs) (x ∷ xs) b o) ∷ ‵ (closed l (drop (length xs) gs) ys b p) ∷ []) ∵ fsplit ! $ move ! (1 ∷ 2 ∷ []) $
      use2 𝓛 (‵ (closed l gs (xs ++ ys) b (o + 1))) (beside l b gs xs ys (o + 1) p on) $ move ! (1 ∷ 0 ∷ []) $ fjoin ! $ done !

  module _ (i : Identity) (at : ℕ) (xs : List ℕ) where
    pub appended : (ys : List ℕ) → ent 𝓤 (sep 𝓤 (sem 𝓛 (write_owns i at xs)) (sem 𝓛 (write_owns i (at + length xs) ys))) (sem 𝓛 (write_owns i at (xs ++ ys)))
    appended ys =
        qed 𝓛 (‵ (write_owns i at xs) ∷ ‵ (write_owns i (at + length xs) ys) ∷ []) ∵
        rewrite ! 1 (λ (gs : List GName). ‵ (closed i.life gs ys i.block (i.first + (at + length xs)))) (sym (drop-drop (length xs) at i.names)) refl $
        by ! (beside i.life i.block (names_from i at) xs ys (i.first + at) (i.first + (at + length xs)) (omega arith))

    pub cut_at : (n : ℕ) → n ≤ length xs → ent 𝓤 (sem 𝓛 (write_owns i at xs)) (sep 𝓤 (sem 𝓛 (write_owns i at (take n xs))) (sem 𝓛 (write_owns i (at + n) (drop n xs))))
    cut_at n few =
        qed 𝓛 (‵ (write_owns i at xs) ∷ []) ∵
        use1 𝓛 (‵ (write_owns i at (take n xs)) ⊛ ‵ (closed i.life (drop n (names_from i at)) (drop n xs) i.block (i.first + (at + n))))
        (cut 𝓛 i.life i.block n (names_from i at) xs (i.first + at) (i.first + (at + n)) few (omega arith)) $ split ! $
        rewrite ! 1 (λ (gs : List GName). ‵ (closed i.life gs (drop n xs) i.block (i.first + (at + n)))) (drop-drop n at i.names) refl $ done !

  -- ---- a round begins and ends, for each byte
  module _ (a l b : ℕ) where
    -- the bytes are settled at their values, and shared while both lifetimes last
    settled : (ts : List (Lft × Share)) → Incl (span ts) (both a l) → (gs : List GName) (xs : List ℕ) (o : ℕ)
        → ent 𝓤 (sep 𝓤 (sem 𝓛 (closed l gs xs b o)) (lfts 𝓛 ts)) (H.⇛ (sep 𝓤 (sem 𝓛 (fsep (elements_shared u8 xs b o (both a l)) (deed a l gs xs b o))) (lfts 𝓛 ts)))
    settled ts sp [] [] o = qed 𝓛 (‵ ftrue ∷ raw (lfts 𝓛 ts) ∷ []) ∵ updating ! $ now ! $ nothing ! $ fjoin ! $ done !
    settled ts sp (γ ∷ gs) [] o = qed 𝓛 (‵ ftrue ∷ raw (lfts 𝓛 ts) ∷ []) ∵ updating ! $ now ! $ nothing ! $ fjoin ! $ done !
    settled ts sp [] (x ∷ xs) o = qed 𝓛 (‵ (closed l [] (x ∷ xs) b o) ∷ raw (lfts 𝓛 ts) ∷ []) ∵ keep ! (0 ∷ []) $ by ! (never_e 𝓤 _)
    settled ts sp (γ ∷ gs) (x ∷ xs) o =
        let κ : Lft = both a l in
        qed 𝓛 (‵ (closed l (γ ∷ gs) (x ∷ xs) b o) ∷ raw (lfts 𝓛 ts) ∷ []) ∵ updating ! $ fsplit ! $ fsplit ! $
        use1 𝓛 (later (‵ (fbor κ (cell b o γ)) ⊛ ‵ (flent κ (fbor (l ∷ []) (cell b o γ))))) (𝓛.more.bor_reborrow (l ∷ []) κ (cell b o γ) (meet_⊑_right (a ∷ []) (l ∷ []))) $ await ! tt $ split ! $
        -- [the shorter borrow; the right to the longer; the value; the others; the tokens]
        move ! (2 ∷ 0 ∷ 4 ∷ []) $
        use3 𝓛 (later (‵ (fobs γ (u8.coded.code x)) ⊛ ‵ (fbor κ (part_at u8 full_share x b o)) ⊛ raw (lfts 𝓛 ts))) (settles 𝓛 (mem u8) κ ts sp γ x b o) $ await ! tt $ split3 ! $
        move ! (1 ∷ 2 ∷ []) $
        use2 𝓛 (later (‵ (shared_of u8 x b o κ) ⊛ raw (lfts 𝓛 ts))) ((uint_Copied 𝓛 w8).shares full_share [] x κ ts b o (⊑_static (span ts)) sp) $ await ! tt $ split ! $
        -- [shared; the tokens; the value; the right; the others]
        move ! (4 ∷ 1 ∷ []) $
        use2 𝓛 (later (‵ (fsep (elements_shared u8 xs b (o + 1) κ) (deed a l gs xs b (o + 1))) ⊛ raw (lfts 𝓛 ts))) (settled ts sp gs xs (o + 1)) $ await ! tt $ split ! $ fsplit ! $
        -- [the others' shared; the others' rights; the tokens; shared; the value; the right]
        move ! (5 ∷ 4 ∷ []) $ fjoin ! $ move ! (0 ∷ 2 ∷ []) $ fjoin ! $ move ! (3 ∷ 1 ∷ []) $ fjoin ! $ move ! (0 ∷ 1 ∷ []) $ fjoin ! $ now ! $ done !

    -- once the round has ended the borrows are back
    returned : (gs : List GName) (xs : List ℕ) (o : ℕ) → ent 𝓤 (sep 𝓤 (sem 𝓛 (fdead (a ∷ []))) (sem 𝓛 (deed a l gs xs b o))) (H.⇛ (sem 𝓛 (closed l gs xs b o)))
    returned [] [] o = qed 𝓛 (‵ (fdead (a ∷ [])) ∷ ‵ ftrue ∷ []) ∵ updating ! $ now ! $ forget ! $ done !
    returned (γ ∷ gs) [] o = qed 𝓛 (‵ (fdead (a ∷ [])) ∷ ‵ ftrue ∷ []) ∵ updating ! $ now ! $ forget ! $ done !
    returned [] (x ∷ xs) o = qed 𝓛 (‵ (fdead (a ∷ [])) ∷ ‵ (deed a l [] (x ∷ xs) b o) ∷ []) ∵ keep ! (1 ∷ []) $ by ! (never_e 𝓤 _)
    returned (γ ∷ gs) (x ∷ xs) o =
        let κ : Lft = both a l in
        qed 𝓛 (‵ (fdead (a ∷ [])) ∷ ‵ (deed a l (γ ∷ gs) (x ∷ xs) b o) ∷ []) ∵ updating ! $
        use1 𝓛 (‵ (fdead (a ∷ [])) ⊛ ‵ (fdead (a ∷ []))) (𝓛.lfts.dead_dup (a ∷ [])) $ split ! $
        use1 𝓛 (‵ (fdead κ)) (𝓛.lfts.dead-incl κ (a ∷ []) (meet_⊑_left (a ∷ []) (l ∷ []))) $ move ! (2 ∷ []) $ fsplit ! $ fsplit ! $
        -- [the right; the value; the others; dead κ; dead a]
        move ! (3 ∷ 0 ∷ []) $ lent_back ! tt $ move ! (0 ∷ 1 ∷ []) $ fjoin ! $ move ! (2 ∷ 1 ∷ []) $
        use2 𝓛 (later (‵ (closed l gs xs b (o + 1)))) (returned gs xs (o + 1)) $ await ! tt $ move ! (1 ∷ 0 ∷ []) $ fjoin ! $ now ! $ done !

  -- ---- the right that lies in an invariant
  module _ (y : GName) where
    some_parts : (k : ℕ) (e : Share) → Counts 63 e k → ent 𝓤 (sem 𝓛 (fown shares y e)) (sem 𝓛 (stake y k))
    some_parts k e c = qed 𝓛 (‵ (fown shares y e) ∷ []) ∵ fpack ! (Counts 63 e k) (λ _. fown shares y e) c $ fpack ! Share (λ s. fex (Counts 63 s k) (λ _. fown shares y s)) e $ done !

    stake_cut : (i j : ℕ) → 0 < i → 0 < j → i + j ≤ 2 ^ 63 → ent 𝓤 (sem 𝓛 (stake y (i + j))) (sep 𝓤 (sem 𝓛 (stake y i)) (sem 𝓛 (stake y j)))
    stake_cut i j pi pj fits = let e = counts_some 63 i pi (omega arith) in let f = counts_some 63 j pj (omega arith) in
        qed 𝓛 (‵ (stake y (i + j)) ∷ []) ∵ fpick ! (λ r. fpick ! (λ c.
        use1 𝓛 (‵ (fown shares y e.0) ⊛ ‵ (fown shares y f.0)) (𝓛.algebras.own_cut shares y e.0 f.0 r (Counts-op 63 e.0 f.0 r i j (i + j) e.1 f.1 c refl)) $ split ! $
        move ! (1 ∷ []) $ use1 𝓛 (‵ (stake y j)) (some_parts j f.0 f.1) $ move ! (1 ∷ []) $ use1 𝓛 (‵ (stake y i)) (some_parts i e.0 e.1) $ done !))

    stakes : (i j : ℕ) (r : Share) → Counts 63 r (i + j) → ent 𝓤 (sep 𝓤 (sem 𝓛 (stake y i)) (sem 𝓛 (stake y j))) (sem 𝓛 (fown shares y r))
    stakes i j r c = qed 𝓛 (‵ (stake y i) ∷ ‵ (stake y j) ∷ []) ∵ fpick ! (λ e. fpick ! (λ ce. move ! (1 ∷ []) $ fpick ! (λ f. fpick ! (λ cf. move ! (1 ∷ []) $
        by ! (own_join 𝓛 shares y e f r (Counts-op 63 e f r i j (i + j) ce cf c refl))))))

    stake_join : (i j : ℕ) → 0 < i → i + j ≤ 2 ^ 63 → ent 𝓤 (sep 𝓤 (sem 𝓛 (stake y i)) (sem 𝓛 (stake y j))) (sem 𝓛 (stake y (i + j)))
    stake_join i j pos fits = let r = counts_some 63 (i + j) (omega arith) fits in
        qed 𝓛 (‵ (stake y i) ∷ ‵ (stake y j) ∷ []) ∵ use2 𝓛 (‵ (fown shares y r.0)) (stakes i j r.0 r.1) $ by ! (some_parts (i + j) r.0 r.1)

    stake_whole : ent 𝓤 (sem 𝓛 (stake y (2 ^ 63))) (sem 𝓛 (fown shares y full_share))
    stake_whole = qed 𝓛 (‵ (stake y (2 ^ 63)) ∷ []) ∵
        use1 𝓛 (‵ (stake y 1) ⊛ ‵ (stake y (2 ^ 63 - 1))) (stake_cut 1 (2 ^ 63 - 1) (omega arith) (omega arith) (omega arith)) $ split ! $
        by ! (stakes 1 (2 ^ 63 - 1) full_share (Counts-all 63))

    twice : (Z : SProp 𝓤) → ent 𝓤 (sep 𝓤 (sem 𝓛 (fown shares y full_share)) (sem 𝓛 (fown shares y full_share))) Z
    twice Z = own_glued 𝓛 shares y full_share full_share Z (λ c m. absurd (not-OpDef-full_share full_share m.0))

    module _ (D : Fml) where
      abbrev I : Fml
      I = fex Bool (kept y D)

      taken : (c : Bool) → ent 𝓤 (sep 𝓤 (sem 𝓛 (kept y D c)) (sem 𝓛 (fown shares y full_share))) (upd 𝓤 (sep 𝓤 (sem 𝓛 I) (sem 𝓛 D)))
      taken true = qed 𝓛 (‵ D ∷ ‵ (fown shares y full_share) ∷ []) ∵ suffices ! _ (upd_i 𝓤 (sep 𝓤 (sem 𝓛 I) (sem 𝓛 D))) $ move ! (1 ∷ []) $ fpack ! Bool (kept y D) false $ done !
      taken false = twice _

      -- all parts take it out
      takes_out : ent 𝓤 (sep 𝓤 (sem 𝓛 (safe y D)) (sem 𝓛 (stake y (2 ^ 63)))) (H.⇛ (sem 𝓛 D))
      takes_out = qed 𝓛 (‵ (finv I) ∷ ‵ (stake y (2 ^ 63)) ∷ []) ∵ move ! (1 ∷ []) $ use1 𝓛 (‵ (fown shares y full_share)) stake_whole $ move ! (1 ∷ []) $
          suffices ! _ (𝓛.invs.inv_acc I (sem 𝓛 D)) $ frame ! $ assume ! (‵ I) $ fpick ! (λ c. by ! (taken c))

  -- it is put there, under a new name
  puts_in : (D : Fml) → ent 𝓤 (sem 𝓛 D) (H.⇛ (ex 𝓤 (λ (y : GName). sep 𝓤 (sem 𝓛 (stake y (2 ^ 63))) (sem 𝓛 (safe y D)))))
  puts_in D = qed 𝓛 (‵ D ∷ []) ∵ updating ! $
      use0 𝓛 (later (exists (λ (y : GName). ‵ (fown shares y full_share)))) (via 𝓤 _ (own_new 𝓛 shares full_share) (basic 𝓛 (ex 𝓤 (λ (y : GName). sem 𝓛 (fown shares y full_share))))) $ await ! tt $ pick ! (λ y.
      use1 𝓛 (‵ (stake y (2 ^ 63))) (some_parts y (2 ^ 63) full_share (Counts-all 63)) $ move ! (1 ∷ []) $ fpack ! Bool (kept y D) true $
      use1 𝓛 (later (‵ (safe y D))) (𝓛.invs.inv_new (fex Bool (kept y D))) $ await ! tt $ now ! $ show ! (λ (z : GName). sep 𝓤 (sem 𝓛 (stake z (2 ^ 63))) (sem 𝓛 (safe z D))) y $ move ! (1 ∷ 0 ∷ []) $ done !)

  -- ---- parts of a round
  module _ (r : Round) (i : Identity) (at : ℕ) (xs : List ℕ) where
    shown_laws : ShrLaws (shown r i at xs)
    shown_laws = elements_shr_laws u8 (uint_row_laws w8) xs i.block (i.first + at)

    parts_out : (k : ℕ) → 0 < k → ent 𝓤 (sem 𝓛 (read_owns r i at xs k)) (sem 𝓛 (parts r i at xs k))
    parts_out zero pos = absurd (omega arith)
    parts_out (suc k) pos = id⊢ 𝓤 _

    parts_in : (k : ℕ) → 0 < k → ent 𝓤 (sem 𝓛 (parts r i at xs k)) (sem 𝓛 (read_owns r i at xs k))
    parts_in zero pos = absurd (omega arith)
    parts_in (suc k) pos = id⊢ 𝓤 _

    shares_some : (k : ℕ) (κ : Lft) → 0 < k → ent 𝓤 (sem 𝓛 (read_shares r i at xs k κ)) (sem 𝓛 (fsep (fshr_bor κ (λ q. flft (r.life ∷ []) q)) (shown r i at xs (both r.life i.life))))
    shares_some zero κ pos = absurd (omega arith)
    shares_some (suc k) κ pos = id⊢ 𝓤 _

    -- the first of them are shown too
    pub first_shown : (n : ℕ) (κ : Lft) → ent 𝓤 (sem 𝓛 (shown r i at xs κ)) (sem 𝓛 (shown r i at (take n xs) κ))
    first_shown n κ = firsts n xs (i.first + at)
      where
        firsts : (n : ℕ) (ys : List ℕ) (o : ℕ) → ent 𝓤 (sem 𝓛 (elements_shared u8 ys i.block o κ)) (sem 𝓛 (elements_shared u8 (take n ys) i.block o κ))
        firsts zero ys o = qed 𝓛 (‵ (elements_shared u8 ys i.block o κ) ∷ []) ∵ forget ! $ nothing ! $ done !
        firsts (suc n) [] o = id⊢ 𝓤 _
        firsts (suc n) (y ∷ ys) o = qed 𝓛 (‵ (elements_shared u8 (y ∷ ys) i.block o κ) ∷ []) ∵ fsplit ! $ move ! (1 ∷ []) $
            use1 𝓛 (‵ (elements_shared u8 (take n ys) i.block (o + 1) κ)) (firsts n ys (o + 1)) $ move ! (1 ∷ 0 ∷ []) $ fjoin ! $ done !

    -- while the region and the round last the bytes are shown
    pub moved : (k : ℕ) (κ : Lft) → 0 < k → ent 𝓤 (sep 𝓤 (sem 𝓛 (fshr_bor κ (λ q. flft (i.life ∷ []) q))) (sem 𝓛 (read_shares r i at xs k κ))) (sem 𝓛 (shown r i at xs κ))
    moved k κ pos =
        let μ : Lft = i.life ∷ κ in let t = shown r i at xs in let L = shown_laws in
        qed 𝓛 (‵ (fshr_bor κ (λ q. flft (i.life ∷ []) q)) ∷ ‵ (read_shares r i at xs k κ) ∷ []) ∵ move ! (1 ∷ []) $
        use1 𝓛 (‵ (fsep (fshr_bor κ (λ q. flft (r.life ∷ []) q)) (t (both r.life i.life)))) (shares_some k κ pos) $ fsplit ! $
        use1 𝓛 (‵ (fshr_bor μ (λ q. flft (r.life ∷ []) q))) (𝓛.shr_bors.shr_bor_shorten κ μ (λ q. flft (r.life ∷ []) q) (meet_⊑_right (i.life ∷ []) κ)) $
        use2 𝓛 (‵ (t μ)) (moves_from 𝓛 t L μ (r.life ∷ []) (both r.life i.life) (meet_⊑_left (both r.life i.life) κ)) $ move ! (1 ∷ 0 ∷ []) $
        by ! (moves_from 𝓛 t L κ (i.life ∷ []) μ (Incl-refl μ))

    shown_twice : ent 𝓤 (sem 𝓛 (shown r i at xs (both r.life i.life))) (sep 𝓤 (sem 𝓛 (shown r i at xs (both r.life i.life))) (sem 𝓛 (shown r i at xs (both r.life i.life))))
    shown_twice = contraction 𝓛 (shown r i at xs) shown_laws (both r.life i.life)

    parts_cut : (m n : ℕ) → 0 < m → 0 < n → m + n ≤ 2 ^ 63 → ent 𝓤 (sem 𝓛 (parts r i at xs (m + n))) (sep 𝓤 (sem 𝓛 (parts r i at xs m)) (sem 𝓛 (parts r i at xs n)))
    parts_cut m n pm pn fits =
        let D = deed_of r i at xs in let S = ‵ (shown r i at xs (both r.life i.life)) in
        qed 𝓛 (‵ (parts r i at xs (m + n)) ∷ []) ∵ fsplit ! $ fsplit ! $
        use1 𝓛 (‵ (tokens r.life m) ⊛ ‵ (tokens r.life n)) (tokens_cut 𝓛 r.life (m + n) m n pm pn refl fits) $ split ! $ move ! (2 ∷ []) $ use1 𝓛 (S ⊛ S) shown_twice $ split ! $
        -- [what is shown, twice; the tokens of m; of n; the stake and the invariant]
        move ! (2 ∷ 0 ∷ []) $ fjoin ! $ move ! (2 ∷ 1 ∷ []) $ fjoin ! $ move ! (2 ∷ []) $ fsplit ! $
        use1 𝓛 (‵ (stake r.book m) ⊛ ‵ (stake r.book n)) (stake_cut r.book m n pm pn fits) $ split ! $ move ! (2 ∷ []) $
        use1 𝓛 (‵ (safe r.book D) ⊛ ‵ (safe r.book D)) (𝓛.invs.inv_dup (fex Bool (kept r.book D))) $ split ! $
        -- [the invariant, twice; the stake of m; of n; the rest of n; of m]
        move ! (2 ∷ 0 ∷ []) $ fjoin ! $ move ! (4 ∷ 0 ∷ []) $ fjoin ! $ move ! (2 ∷ 1 ∷ []) $ fjoin ! $ move ! (2 ∷ 0 ∷ []) $ fjoin ! $ move ! (1 ∷ 0 ∷ []) $ done !

    -- some parts, and the others
    pub read_cut : (k m n : ℕ) → m + n ≡ k → k ≤ 2 ^ 63 → ent 𝓤 (sem 𝓛 (read_owns r i at xs k)) (sep 𝓤 (sem 𝓛 (read_owns r i at xs m)) (sem 𝓛 (read_owns r i at xs n)))
    read_cut k zero n sum fits =
        let all : k ≡ n = omega (arith, sum) in
        qed 𝓛 (‵ (read_owns r i at xs k) ∷ []) ∵ nothing ! $ rewrite ! 1 (λ (j : ℕ). ‵ (read_owns r i at xs j)) all refl $ done !
    read_cut k (suc m) zero sum fits =
        let all : k ≡ suc m = omega (arith, sum) in
        qed 𝓛 (‵ (read_owns r i at xs k) ∷ []) ∵ nothing ! $ rewrite ! 1 (λ (j : ℕ). ‵ (read_owns r i at xs j)) all refl $ move ! (1 ∷ 0 ∷ []) $ done !
    read_cut k (suc m) (suc n) sum fits =
        let all : k ≡ suc m + suc n = sym sum in
        qed 𝓛 (‵ (read_owns r i at xs k) ∷ []) ∵ use1 𝓛 (‵ (parts r i at xs k)) (parts_out k (omega arith)) $ rewrite ! 0 (λ (j : ℕ). ‵ (parts r i at xs j)) all refl $
        by ! (parts_cut (suc m) (suc n) (omega arith) (omega arith) (omega (arith, sum, fits)))

    -- Parts of one round are parts of what the first shows, whatever the others are said to show.
    parts_join : (j : Identity) (to : ℕ) (ys : List ℕ) (m n : ℕ) → 0 < m → m + n ≤ 2 ^ 63 → ent 𝓤 (sep 𝓤 (sem 𝓛 (parts r i at xs m)) (sem 𝓛 (parts r j to ys n))) (sem 𝓛 (parts r i at xs (m + n)))
    parts_join j to ys m n pm fits =
        qed 𝓛 (‵ (parts r i at xs m) ∷ ‵ (parts r j to ys n) ∷ []) ∵ move ! (1 ∷ []) $ fsplit ! $ fsplit ! $ move ! (1 ∷ []) $ forget ! $ move ! (1 ∷ []) $ fsplit ! $ move ! (1 ∷ []) $ forget ! $
        -- [the stake of n; the tokens of n; the parts of m]
        move ! (2 ∷ []) $ fsplit ! $ fsplit ! $ move ! (0 ∷ 4 ∷ []) $ use2 𝓛 (‵ (tokens r.life (m + n))) (tokens_glue 𝓛 r.life m n (omega arith) fits) $ move ! (0 ∷ 1 ∷ []) $ fjoin ! $
        move ! (1 ∷ []) $ fsplit ! $ move ! (0 ∷ 3 ∷ []) $ use2 𝓛 (‵ (stake r.book (m + n))) (stake_join r.book m n pm fits) $ move ! (0 ∷ 1 ∷ []) $ fjoin ! $ move ! (1 ∷ 0 ∷ []) $ fjoin ! $ done !

    pub read_join : (j : Identity) (to : ℕ) (ys : List ℕ) (m n : ℕ) → 0 < m → m + n ≤ 2 ^ 63
        → ent 𝓤 (sep 𝓤 (sem 𝓛 (read_owns r i at xs m)) (sem 𝓛 (read_owns r j to ys n))) (sem 𝓛 (read_owns r i at xs (m + n)))
    read_join j to ys zero n pm fits = absurd (omega arith)
    read_join j to ys (suc m) zero pm fits =
        let all : suc m ≡ suc m + 0 = omega arith in
        qed 𝓛 (‵ (read_owns r i at xs (suc m)) ∷ ‵ ftrue ∷ []) ∵ move ! (1 ∷ []) $ forget ! $ rewrite ! 0 (λ (k : ℕ). ‵ (read_owns r i at xs k)) all refl $ done !
    read_join j to ys (suc m) (suc n) pm fits =
        qed 𝓛 (‵ (parts r i at xs (suc m)) ∷ ‵ (parts r j to ys (suc n)) ∷ []) ∵ use2 𝓛 (‵ (parts r i at xs (suc m + suc n))) (parts_join j to ys (suc m) (suc n) pm fits) $
        by ! (parts_in (suc m + suc n) (omega arith))

    -- all parts are the borrows again
    pub read_ends : ent 𝓤 (sem 𝓛 (read_owns r i at xs (2 ^ 63))) (H.⇛ (sem 𝓛 (write_owns i at xs)))
    read_ends =
        qed 𝓛 (‵ (read_owns r i at xs (2 ^ 63)) ∷ []) ∵ updating ! $ use1 𝓛 (‵ (parts r i at xs (2 ^ 63))) (parts_out (2 ^ 63) (omega arith)) $
        fsplit ! $ fsplit ! $ move ! (1 ∷ []) $ forget ! $ move ! (1 ∷ []) $ fsplit ! $ move ! (1 ∷ 0 ∷ []) $
        use2 𝓛 (later (‵ (deed_of r i at xs))) (takes_out r.book (deed_of r i at xs)) $ await ! tt $ move ! (1 ∷ []) $ use1 𝓛 (‵ (flft (r.life ∷ []) full_share)) (tokens_whole 𝓛 r.life) $ lft_end ! tt $
        move ! (0 ∷ 1 ∷ []) $ use2 𝓛 (later (‵ (write_owns i at xs))) (returned r.life i.life i.block (names_from i at) xs (i.first + at)) $ await ! tt $ now ! $ done !

  -- the borrows are all parts of a round whose lifetime is new
  module _ (a : ℕ) (i : Identity) (at : ℕ) (xs : List ℕ) where
    abbrev pub Begun : GName → Fml
    Begun y = read_owns (record { life = a; book = y }) i at xs (2 ^ 63)

    pub read_begins : (q : Share)
        → ent 𝓤 (sep 𝓤 (sem 𝓛 (write_owns i at xs)) (lfts 𝓛 ((a ∷ [], full_share) ∷ (i.life ∷ [], q) ∷ []))) (H.⇛ (sep 𝓤 (sem 𝓛 (fex GName Begun)) (sem 𝓛 (flft (i.life ∷ []) q))))
    read_begins q =
        let ts : List (Lft × Share) = (a ∷ [], full_share) ∷ (i.life ∷ [], q) ∷ [] in let D = deed a i.life (names_from i at) xs i.block (i.first + at) in
        let S = elements_shared u8 xs i.block (i.first + at) (both a i.life) in
        qed 𝓛 (‵ (write_owns i at xs) ∷ raw (lfts 𝓛 ts) ∷ []) ∵ updating ! $
        use2 𝓛 (later (‵ (fsep S D) ⊛ (‵ (flft (a ∷ []) full_share) ⊛ ‵ (flft (i.life ∷ []) q)))) (settled a i.life i.block ts (Incl-refl (both a i.life)) (names_from i at) xs (i.first + at)) $ await ! tt $ split ! $
        fsplit ! $ move ! (2 ∷ []) $ split ! $
        fpack ! (Counts 63 full_share (2 ^ 63)) (λ _. flft (a ∷ []) full_share) (Counts-all 63) $ fpack ! Share (λ s. fex (Counts 63 s (2 ^ 63)) (λ _. flft (a ∷ []) s)) full_share $
        -- [the round's tokens; the region's; what is shown; the deed]
        move ! (0 ∷ 2 ∷ []) $ fjoin ! $ move ! (2 ∷ []) $
        use1 𝓛 (later (exists (λ (y : GName). ‵ (stake y (2 ^ 63)) ⊛ ‵ (safe y D)))) (puts_in D) $ await ! tt $ pick ! (λ y. split ! $ fjoin ! $ move ! (1 ∷ 0 ∷ []) $ fjoin ! $
        use1 𝓛 (‵ (Begun y)) (parts_in (record { life = a; book = y }) i at xs (2 ^ 63) (omega arith)) $ fpack ! GName Begun y $ now ! $ done !)
