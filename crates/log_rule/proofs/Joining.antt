-- The keeper's stores by which a consumer joins and leaves keep the whole rule, and so does a seat that goes back to it.
use Rattle.std.proofs.Common.{◌≡◌, ◌≢◌, inl, inr, ℕ, zero, suc, ◌+◌, ◌-◌, ◌*◌, ◌<◌, ◌≤◌, cond, Bool, max, List, [], ◌∷◌, ◌++◌, drop, take, map, length, set, length-set, get_or-set_same, get_or-set_other, sym, refl, ap, ◌∙◌, subst, ⊎_elim, eq-eqb, ne_eqb, arith}
use mathlib.Core.Option.{some, some-injective, some-ne-none}
use mathlib.Core.Logic.{dite}
use native.Mathlib.Decide.{ℕ_discrete}
use lib.ListN.{get_elem?}
use Rattle.std.specs.Prelude.{slice_index}
use Rattle.std.specs.List.{AllByRecursion}
use Rattle.std.proofs.lemmas.List.{map-set, take-append-drop}
use Rattle.atomic_table.specs.Table.{Allows, Joins as SeatsJoin, State, keeps}
use Rattle.atomic_table.proofs.Lists.{at_map, at_set, set_else}
use Rattle.theory.specs.Bytes.{Identity}
use Rattle.theory.proofs.Lists.{all_append, all_behind, all_front}
use Rattle.publication.specs.declared.pass.Keeping.{Keeping}
use Rattle.publication.specs.declared.pass.Pass.{Pass}
use Rattle.publication.specs.declared.pass.Reading.{Reading}
use Rattle.log_rule.specs.declared.claims.view.View.{View}
use Rattle.log_rule.specs.declared.rule.Key.{Key}
use Rattle.log_rule.specs.Claims.Closing.{spent_seat}
use Rattle.log_rule.specs.Claims.Packs.{consumer_place, limit_place, ring_of}
use Rattle.log_rule.specs.Claims.Plays.{Mine, newcomer, no_keeping, pass_in}
use Rattle.log_rule.specs.Claims.Events.{committed_weight}
use Rattle.log_rule.specs.Claims.Rule.{Bounds, shape_of, weight}
use Rattle.log_rule.specs.Claims.Memory.{Ruled}
use Rattle.log_rule.specs.Claims.Sums.{total}
use Rattle.log_rule.specs.Claims.Sure.{LearnsControls}
use Rattle.log_rule.specs.Edges.{IsPlaced}
use Rattle.log_rule.specs.Keepings.{Joins, Leaves, MayJoin, MayLeave, keeping, newly}
use Rattle.log_rule.specs.Kept.{Attends, IsReader, IsSeen, IsThere, Kept, keepers_of, readers_of, reads_as}
use Rattle.log_rule.specs.Numbers.{AreNumbered, numbers_as}
use Rattle.log_rule.specs.Table.{LogRuled, now_at, reader_alone, returned_seat}
use Rattle.log_rule.proofs.Claimed.Sures.{data_leaves, sure_join, sure_on, unsure}
use Rattle.log_rule.proofs.Claimed.Totals.{both_at, total_append, total_at, total_set}
use Rattle.log_rule.proofs.Consumers.{all_place, all_places, is_there}
use Rattle.log_rule.proofs.Dealing.{none_kept}
use Rattle.log_rule.proofs.Gathering.{kept_join}
use Rattle.log_rule.proofs.Growing.{Grows, grows, not_keeping, placed_on, reader_at, same_sum, seen_on}
use Rattle.log_rule.proofs.Keeping.{not_keeper}
use Rattle.log_rule.proofs.Owning.{attends_goes, numbered_join, numbered_on, owns_none}
use Rattle.log_rule.proofs.Resting.{attending, rest_looks, rested, rested_here}

-- ---- lists that are cut

all_taken : {A : Type 0} (P : A → Type 0) (k : ℕ) (xs : List A) → AllByRecursion P xs → AllByRecursion P (take k xs)
all_taken P k xs a = all_front P (take k xs) (drop k xs) (subst (AllByRecursion P) (sym (take-append-drop k xs)) a)

all_dropped : {A : Type 0} (P : A → Type 0) (k : ℕ) (xs : List A) → AllByRecursion P xs → AllByRecursion P (drop k xs)
all_dropped P k xs a = all_behind P (take k xs) (drop k xs) (subst (AllByRecursion P) (sym (take-append-drop k xs)) a)

total_cut : {A : Type 0} (f : A → ℕ) (k : ℕ) (xs : List A) → total f (take k xs) + total f (drop k xs) ≡ total f xs
total_cut f k xs = sym (total_append f (take k xs) (drop k xs)) ∙ ap (total f) (take-append-drop k xs)

-- one more stands among them
total_more : {A : Type 0} (f : A → ℕ) (k : ℕ) (x : A) (xs : List A) → total f (take k xs ++ x ∷ drop k xs) ≡ total f xs + f x
total_more f k x xs = let a = total_append f (take k xs) (x ∷ drop k xs) in let c = total_cut f k xs in sum (total f (take k xs ++ x ∷ drop k xs)) (total f (take k xs)) (f x) (total f (drop k xs)) (total f xs) a c
  where
    sum : (s t x d n : ℕ) → s ≡ t + (x + d) → t + d ≡ n → s ≡ n + x
    sum s t x d n a c = omega arith

-- and one less
total_less : {A : Type 0} (f : A → ℕ) (k : ℕ) (x : A) (xs : List A) → get_elem? xs k ≡ some x → total f (take k xs ++ drop (suc k) xs) + f x ≡ total f xs
total_less f k x [] at = absurd (some-ne-none x (sym at))
total_less f zero x (y ∷ ys) at = let e : f y ≡ f x = ap f (some-injective y x at) in omega arith
total_less f (suc k) x (y ∷ ys) at = let r = total_less f k x ys at in omega arith

-- ---- words of consumers

one_place : (j k : ℕ) → j * 16 + 80 ≡ k * 16 + 80 → j ≡ k
one_place j k e = omega arith

-- a word that another consumer has
other_word : (ws : List ℕ) (number n j : ℕ) → j ≢ number → slice_index (set ws (consumer_place number) n) (consumer_place j) ≡ slice_index ws (consumer_place j)
other_word ws number n j ne = get_or-set_other ws (consumer_place number) (consumer_place j) n 0 (λ e. ne (one_place j number e))

module _ (key : Key) (slots id : ℕ) (m : Mine) where
  module _ (s : State (Unit {0}) View) (q : LogRuled key s) (at : get_elem? s.views id ≡ some m.0) (number n : ℕ) (low : number < 8) (rs : List Reading) (k : Keeping) where
    abbrev b : Bounds
    b = now_at key (slice_index s.words limit_place) q.cleaned

    abbrev after : List ℕ
    after = set s.words (consumer_place number) n

    abbrev then : List Pass
    then = set (map pass_in s.views) id (attending m.0.pass rs k)

    far : 80 ≤ consumer_place number
    far = omega arith

    here : get_elem? (map pass_in s.views) id ≡ some m.0.pass
    here = at_map pass_in s.views id m.0 at

    ruled : Ruled b after then
    ruled = rested b s.words (map pass_in s.views) q.ruled id (consumer_place number) n m.0.pass rs k far (let l = low in within number l) here
      where
        within : (j : ℕ) → j < 8 → j * 16 + 80 < 208
        within j lt = omega arith

    pub going : Grows b (map pass_in s.views) then
    going = grows b s.words after (map pass_in s.views) then q.ruled ruled (inl (rest_looks (map pass_in s.views) id m.0.pass rs k here))

    pub stored : slice_index after (consumer_place number) ≡ n
    stored = get_or-set_same s.words (consumer_place number) n 0 (let e = q.ruled.claims.wide in let l = low in within number (length s.words) (ring_of (shape_of b)) l e)
      where
        within : (j l r : ℕ) → j < 8 → l ≡ 208 + r → j * 16 + 80 < l
        within j l r lt e = omega arith

    -- who has another number stands where it stood
    pub reader_stays : (y : Reading) → (y.number < 8 → y.number ≢ number) → IsReader s.words (map pass_in s.views) y → IsReader after then y
    reader_stays y ne r = reader_at b s.words after (map pass_in s.views) then going y (λ lt. other_word s.words number n y.number (ne lt)) r

    -- the state behind the store
    pub behind : (there : List ℕ) → Kept b there after then → AreNumbered then → LogRuled key record { words = after; homes = s.homes; views = set s.views id record { pass = attending m.0.pass rs k; steps = suc m.0.steps; controls = m.0.controls; sure = m.0.sure } }
    behind there kept numbered =
        let w : View = record { pass = attending m.0.pass rs k; steps = suc m.0.steps; controls = m.0.controls; sure = m.0.sure } in let sure = q.sure.each id m.0 at in
        let is_set : map pass_in (set s.views id w) ≡ then = map-set pass_in s.views id w in
        let limit : slice_index after limit_place ≡ slice_index s.words limit_place = get_or-set_other s.words (consumer_place number) 0 n 0 (λ e. omega arith) in record {
          cleaned = q.cleaned;
          there = there;
          ruled = subst (λ (y : ℕ × List Pass). Ruled (now_at key y.0 q.cleaned) after y.1) (λ j. (sym limit j, sym is_set j)) ruled;
          kept = subst (λ (y : ℕ × List Pass). Kept (now_at key y.0 q.cleaned) there after y.1) (λ j. (sym limit j, sym is_set j)) kept;
          sure = sure_on b s.words s.views q.ruled q.sure id m.0 w at (consumer_place number) (λ _. n) (inr (data_leaves (consumer_place number) n far)) record { whole = sure.whole; exact = λ one. sure.exact one ∙ sym (data_leaves (consumer_place number) n far s.words) };
          numbered = subst AreNumbered (sym is_set) numbered;
        }

  -- ---- a consumer joins

  pub join : (number place n : ℕ) → MayJoin m.0.pass number n → Allows (LogRuled key) slots id m (consumer_place number) (λ _. n) (λ _ m'. keeping (λ v w. LearnsControls [] v w) (λ v w. Joins v number place n w) m m')
  join number place n may s q homes at small =
      let v : View = m.0 in let ws : List ℕ = s.words in let qs : List Pass = map pass_in s.views in let bs : Bounds = now_at key (slice_index ws limit_place) q.cleaned in
      let here' = at_map pass_in s.views id v at in let a = q.kept.each id v.pass here' in let c = q.ruled.claims.each id v.pass here' in
      let rs : List Reading = take place v.pass.reading ++ newly number n ∷ drop place v.pass.reading in
      let k : Keeping = record v.pass.keeping { there = set v.pass.keeping.there number 1; positions = set v.pass.keeping.positions number n } in
      let low = may.inside in let ws' : List ℕ = set ws (consumer_place number) n in let w : Pass = attending v.pass rs k in let qs' : List Pass = set qs id w in
      let g : Grows bs qs qs' = going s q at number n low rs k in let put : slice_index ws' (consumer_place number) ≡ n = stored s q at number n low rs k in
      let was : v.pass.keeping.there ≡ q.there = a.keeping.there may.keeper in
      let none : slice_index q.there number ≡ 0 = subst (λ (l : List ℕ). slice_index l number ≡ 0) was may.free in
      let seen : IsSeen bs qs n = subst (IsSeen bs qs) (sym may.here) (a.keeping.seen may.keeper may.seen (subst (λ (l : List ℕ). IsThere l may.seen) was may.there)) in
      let placed : IsPlaced bs qs n = record {
        unit = seen.unit;
        from = seen.from;
        readable = subst (λ (y : ℕ × ℕ × Identity). y.0 ≤ max y.1 (n - y.2.geometry.term_length)) (λ i. (a.keeping.cleaned may.keeper i, c.start i, c.identity i)) may.readable;
        edge = seen.edge;
        passed = seen.passed;
      } in
      let there : List ℕ = set q.there number 1 in let eight = q.kept.eight in
      let flag : slice_index there number ≡ 1 = get_or-set_same q.there number 1 0 (omega arith) in
      let flags : (j : ℕ) → j ≢ number → slice_index there j ≡ slice_index q.there j = λ j ne. get_or-set_other q.there number j 1 0 ne in
      let long = a.keeping.all may.keeper in
      let position : slice_index k.positions number ≡ n = get_or-set_same v.pass.keeping.positions number n 0 (omega arith) in
      let positions : (j : ℕ) → j ≢ number → slice_index k.positions j ≡ slice_index v.pass.keeping.positions j = λ j ne. get_or-set_other v.pass.keeping.positions number j n 0 ne in
      -- nobody had the number
      let free : (i : ℕ) (u : Pass) (p : ℕ) (y : Reading) → get_elem? qs i ≡ some u → get_elem? u.reading p ≡ some y → y.number < 8 → y.number ≢ number = λ i u p y in_it is lt e. clash (slice_index q.there y.number) (slice_index q.there number) (ap (slice_index q.there) e) (is_there bs q.there ws qs q.kept i u p y in_it is lt) none in
      let reader : (i : ℕ) (u : Pass) → get_elem? qs i ≡ some u → AllByRecursion (IsReader ws' qs') u.reading = λ i u in_it. all_places (IsReader ws' qs') u.reading (λ p y is. reader_stays s q at number n low rs k y (free i u p y in_it is) (all_place (IsReader ws qs) u.reading p y is (q.kept.each i u in_it).readings)) in
      let mine = reader id v.pass here' in
      let kept : Kept bs there ws' qs' = record {
        eight = length-set q.there number 1 ∙ eight;
        flags = λ j. dite (ℕ_discrete j number) (λ e. low_one (slice_index there j) (ap (slice_index there) e ∙ flag)) (λ ne. subst (λ (t : ℕ). t ≤ 1) (sym (flags j ne)) (q.kept.flags j));
        one = q.kept.one;
        any = flags q.kept.one (λ e. clash (slice_index q.there q.kept.one) (slice_index q.there number) (ap (slice_index q.there) e) q.kept.any none) ∙ q.kept.any;
        unit = q.kept.unit;
        ahead = q.kept.ahead;
        placed = λ j h. dite (ℕ_discrete j number)
            (λ e. subst (IsPlaced bs qs') (sym (ap (λ (z : ℕ). slice_index ws' (consumer_place z)) e ∙ put)) (placed_on bs qs qs' g n placed))
            (λ ne. subst (IsPlaced bs qs') (sym (other_word ws number n j ne)) (placed_on bs qs qs' g (slice_index ws (consumer_place j)) (q.kept.placed j (sym (flags j ne) ∙ h))));
        free = λ j lt zero_is. dite (ℕ_discrete j number)
            (λ e. absurd (clash (slice_index there j) (slice_index there j) refl (ap (slice_index there) e ∙ flag) zero_is))
            (λ ne. other_word ws number n j ne ∙ q.kept.free j lt (sym (flags j ne) ∙ zero_is));
        single = λ j lt. (let t = total_set (readers_of j) qs id v.pass w here' in let more = total_more (reads_as j) place (newly number n) v.pass.reading in let most = q.kept.single j lt in
            dite (ℕ_discrete j number)
            (λ e. let one : reads_as j (newly number n) ≡ 1 = ap (λ (x : Bool). cond x 1 0) (eq-eqb number j (sym e)) in let f : slice_index there j ≡ 1 = ap (slice_index there) e ∙ flag in let z : slice_index q.there j ≡ 0 = ap (slice_index q.there) e ∙ none in
            added (total (readers_of j) qs') (readers_of j v.pass) (total (readers_of j) qs) (readers_of j w) (reads_as j (newly number n)) (slice_index q.there j) (slice_index there j) t more most one f z)
            (λ ne. let zero_is : reads_as j (newly number n) ≡ 0 = ap (λ (x : Bool). cond x 1 0) (ne_eqb number j (λ e. ne (sym e))) in let f = flags j ne in
            same (total (readers_of j) qs') (readers_of j v.pass) (total (readers_of j) qs) (readers_of j w) (reads_as j (newly number n)) (slice_index q.there j) (slice_index there j) t more most zero_is f));
        keepers = subst (λ (t : ℕ). t ≤ 1) (sym (same_sum keepers_of qs id v.pass w here' refl)) q.kept.keepers;
        each = λ i u e. ⊎_elim
            (λ (y : (i ≡ id) × (w ≡ u)). subst (Attends bs there ws' qs') y.1 record {
              readings = all_append (IsReader ws' qs') (take place v.pass.reading) (newly number n ∷ drop place v.pass.reading) (all_taken (IsReader ws' qs') place v.pass.reading mine) (record { position = λ _. put; known = tt }, all_dropped (IsReader ws' qs') place v.pass.reading mine);
              keeping = record {
                limit = a.keeping.limit;
                cleaned = a.keeping.cleaned;
                there = λ yes. ap (λ (l : List ℕ). set l number 1) (a.keeping.there yes);
                all = λ yes. length-set v.pass.keeping.positions number n ∙ a.keeping.all yes;
                swept = λ yes j h. dite (ℕ_discrete j number)
                    (λ e. exact (slice_index k.positions j) (slice_index ws' (consumer_place j)) n (ap (slice_index k.positions) e ∙ position) (ap (λ (z : ℕ). slice_index ws' (consumer_place z)) e ∙ put))
                    (λ ne. let le = a.keeping.swept yes j (sym (flags j ne) ∙ h) in stays (slice_index k.positions j) (slice_index v.pass.keeping.positions j) (slice_index ws (consumer_place j)) (slice_index ws' (consumer_place j)) (positions j ne) le (other_word ws number n j ne));
                seen = λ yes j h. dite (ℕ_discrete j number)
                    (λ e. subst (IsSeen bs qs') (sym (ap (slice_index k.positions) e ∙ position)) (seen_on bs qs qs' g n seen))
                    (λ ne. subst (IsSeen bs qs') (sym (positions j ne)) (seen_on bs qs qs' g (slice_index v.pass.keeping.positions j) (a.keeping.seen yes j (sym (flags j ne) ∙ h))));
              };
            })
            (λ (y : (i ≢ id) × (get_elem? qs i ≡ some u)). record {
              readings = reader i u y.1;
              keeping = not_keeping bs there ws' qs' u.keeping (not_keeper qs id i v.pass u here' y.0 y.1 may.keeper q.kept.keepers);
            })
            (at_set qs id i w u e);
      } in (
        record { pass = w; steps = suc v.steps; controls = v.controls; sure = v.sure },
        keeps,
        tt,
        behind s q at number n low rs k there kept (numbered_on qs id v.pass w here' (attends_goes v.pass rs k) q.numbered),
        (refl, refl, record { sure = refl; leads = λ one. refl }, refl),
      )
    where
      clash : (x y : ℕ) → x ≡ y → x ≡ 1 → y ≡ 0 → ⊥
      clash x y e one none = omega arith

      low_one : (x : ℕ) → x ≡ 1 → x ≤ 1
      low_one x e = omega arith

      added : (now v old w x f f' : ℕ) → now + v ≡ old + w → w ≡ v + x → old ≤ f → x ≡ 1 → f' ≡ 1 → f ≡ 0 → now ≤ f'
      added now v old w x f f' t more most one g z = omega arith

      same : (now v old w x f f' : ℕ) → now + v ≡ old + w → w ≡ v + x → old ≤ f → x ≡ 0 → f' ≡ f → now ≤ f'
      same now v old w x f f' t more most z g = omega arith

      exact : (a c n : ℕ) → a ≡ n → c ≡ n → a ≤ c
      exact a c n e f = omega arith

      stays : (a old c d : ℕ) → a ≡ old → old ≤ c → d ≡ c → a ≤ d
      stays a old c d e le f = omega arith

  -- ---- a consumer leaves

  pub leave : (place number : ℕ) → MayLeave m.0.pass place number → Allows (LogRuled key) slots id m (consumer_place number) (λ _. 0) (λ _ m'. keeping (λ v w. LearnsControls [] v w) (λ v w. Leaves v place number w) m m')
  leave place number may s q homes at small =
      let v : View = m.0 in let ws : List ℕ = s.words in let qs : List Pass = map pass_in s.views in let bs : Bounds = now_at key (slice_index ws limit_place) q.cleaned in
      let here' = at_map pass_in s.views id v at in let a = q.kept.each id v.pass here' in let r : Reading = may.consumer in
      let rs : List Reading = take place v.pass.reading ++ drop (suc place) v.pass.reading in
      let k : Keeping = record v.pass.keeping { there = set v.pass.keeping.there number 0 } in
      let low = may.inside in let ws' : List ℕ = set ws (consumer_place number) 0 in let w : Pass = attending v.pass rs k in let qs' : List Pass = set qs id w in
      let g : Grows bs qs qs' = going s q at number 0 low rs k in let put : slice_index ws' (consumer_place number) ≡ 0 = stored s q at number 0 low rs k in
      let was : v.pass.keeping.there ≡ q.there = a.keeping.there may.keeper in
      let there : List ℕ = set q.there number 0 in let eight = q.kept.eight in
      let flag : slice_index there number ≡ 0 = get_or-set_same q.there number 0 0 (omega arith) in
      let flags : (j : ℕ) → j ≢ number → slice_index there j ≡ slice_index q.there j = λ j ne. get_or-set_other q.there number j 0 0 ne in
      let is_other : (j : ℕ) → IsThere there j → j ≢ number = λ j h e. clash (slice_index there j) (slice_index there number) (ap (slice_index there) e) h flag in
      -- nobody else has the number
      let one : reads_as number r ≡ 1 = ap (λ (x : Bool). cond x 1 0) (eq-eqb r.number number may.number_is) in
      let most : total (readers_of number) qs ≤ 1 = (let x = q.kept.single number low in let f = q.kept.flags number in omega arith) in
      let less : (j : ℕ) → total (reads_as j) rs + reads_as j r ≡ readers_of j v.pass = λ j. total_less (reads_as j) place r v.pass.reading may.is in
      let none_left : total (reads_as number) rs ≡ 0 = (let l = less number in let x = total_at (readers_of number) qs id v.pass here' in none (total (reads_as number) rs) (reads_as number r) (readers_of number v.pass) (total (readers_of number) qs) l one x most) in
      let apart : (xs : List Reading) → total (reads_as number) xs ≡ 0 → AllByRecursion (IsReader ws qs) xs → AllByRecursion (IsReader ws' qs') xs = λ xs zero_is all. all_places (IsReader ws' qs') xs (λ p y is. reader_stays s q at number 0 low rs k y
      (λ _ e. let x = total_at (reads_as number) xs p y is in let yes : reads_as number y ≡ 1 = ap (λ (x : Bool). cond x 1 0) (eq-eqb y.number number e) in some_none (reads_as number y) (total (reads_as number) xs) yes x zero_is)
      (all_place (IsReader ws qs) xs p y is all)) in
      let kept : Kept bs there ws' qs' = record {
        eight = length-set q.there number 0 ∙ eight;
        flags = λ j. dite (ℕ_discrete j number) (λ e. low_none (slice_index there j) (ap (slice_index there) e ∙ flag)) (λ ne. subst (λ (t : ℕ). t ≤ 1) (sym (flags j ne)) (q.kept.flags j));
        one = may.other;
        any = flags may.other may.another ∙ subst (λ (l : List ℕ). IsThere l may.other) was may.there;
        unit = q.kept.unit;
        ahead = q.kept.ahead;
        placed = λ j h. subst (IsPlaced bs qs') (sym (other_word ws number 0 j (is_other j h))) (placed_on bs qs qs' g (slice_index ws (consumer_place j)) (q.kept.placed j (sym (flags j (is_other j h)) ∙ h)));
        free = λ j lt zero_is. dite (ℕ_discrete j number)
            (λ e. ap (λ (z : ℕ). slice_index ws' (consumer_place z)) e ∙ put)
            (λ ne. other_word ws number 0 j ne ∙ q.kept.free j lt (sym (flags j ne) ∙ zero_is));
        single = λ j lt. (let t = total_set (readers_of j) qs id v.pass w here' in let l = less j in let top = q.kept.single j lt in
            dite (ℕ_discrete j number)
            (λ e. let yes : reads_as j r ≡ 1 = ap (λ (x : ℕ). reads_as x r) e ∙ one in let f = q.kept.flags j in
            taken (total (readers_of j) qs') (readers_of j v.pass) (total (readers_of j) qs) (readers_of j w) (reads_as j r) (slice_index q.there j) (slice_index there j) t l top yes f)
            (λ ne. let zero_is : reads_as j r ≡ 0 = ap (λ (x : Bool). cond x 1 0) (ne_eqb r.number j (λ e. ne (sym e ∙ may.number_is))) in let f = flags j ne in
            same (total (readers_of j) qs') (readers_of j v.pass) (total (readers_of j) qs) (readers_of j w) (reads_as j r) (slice_index q.there j) (slice_index there j) t l top zero_is f));
        keepers = subst (λ (t : ℕ). t ≤ 1) (sym (same_sum keepers_of qs id v.pass w here' refl)) q.kept.keepers;
        each = λ i u e. ⊎_elim
            (λ (y : (i ≡ id) × (w ≡ u)). subst (Attends bs there ws' qs') y.1 record {
              readings = apart rs none_left (all_append (IsReader ws qs) (take place v.pass.reading) (drop (suc place) v.pass.reading) (all_taken (IsReader ws qs) place v.pass.reading a.readings) (all_dropped (IsReader ws qs) (suc place) v.pass.reading a.readings));
              keeping = record {
                limit = a.keeping.limit;
                cleaned = a.keeping.cleaned;
                there = λ yes. ap (λ (l : List ℕ). set l number 0) (a.keeping.there yes);
                all = a.keeping.all;
                swept = λ yes j h. (let le = a.keeping.swept yes j (sym (flags j (is_other j h)) ∙ h) in stays (slice_index v.pass.keeping.positions j) (slice_index ws (consumer_place j)) (slice_index ws' (consumer_place j)) le (other_word ws number 0 j (is_other j h)));
                seen = λ yes j h. seen_on bs qs qs' g (slice_index v.pass.keeping.positions j) (a.keeping.seen yes j (sym (flags j (is_other j h)) ∙ h));
              };
            })
            (λ (y : (i ≢ id) × (get_elem? qs i ≡ some u)). record {
              readings = apart u.reading (let x = both_at (readers_of number) qs id i v.pass u y.0 here' y.1 in let l = less number in alone (total (reads_as number) rs) (reads_as number r) (readers_of number v.pass) (readers_of number u) (total (readers_of number) qs) x l one most) (q.kept.each i u y.1).readings;
              keeping = not_keeping bs there ws' qs' u.keeping (not_keeper qs id i v.pass u here' y.0 y.1 may.keeper q.kept.keepers);
            })
            (at_set qs id i w u e);
      } in (
        record { pass = w; steps = suc v.steps; controls = v.controls; sure = v.sure },
        keeps,
        tt,
        behind s q at number 0 low rs k there kept (numbered_on qs id v.pass w here' (attends_goes v.pass rs k) q.numbered),
        (refl, refl, record { sure = refl; leads = λ yes. refl }, refl),
      )
    where
      clash : (x y : ℕ) → x ≡ y → x ≡ 1 → y ≡ 0 → ⊥
      clash x y e one none = omega arith

      low_none : (x : ℕ) → x ≡ 0 → x ≤ 1
      low_none x e = omega arith

      none : (rest x v t : ℕ) → rest + x ≡ v → x ≡ 1 → v ≤ t → t ≤ 1 → rest ≡ 0
      none rest x v t l one le most = omega arith

      some_none : (x t : ℕ) → x ≡ 1 → x ≤ t → t ≡ 0 → ⊥
      some_none x t one le z = omega arith

      alone : (rest x v u t : ℕ) → v + u ≤ t → rest + x ≡ v → x ≡ 1 → t ≤ 1 → u ≡ 0
      alone rest x v u t le l one most = omega arith

      taken : (now v old w x f f' : ℕ) → now + v ≡ old + w → w + x ≡ v → old ≤ f → x ≡ 1 → f ≤ 1 → now ≤ f'
      taken now v old w x f f' t l top one most = omega arith

      same : (now v old w x f f' : ℕ) → now + v ≡ old + w → w + x ≡ v → old ≤ f → x ≡ 0 → f' ≡ f → now ≤ f'
      same now v old w x f f' t l top z g = omega arith

      stays : (old c d : ℕ) → old ≤ c → d ≡ c → old ≤ d
      stays old c d le f = omega arith

-- ---- a seat goes back to the keeper

pub returns : (key : Key) (id other : ℕ) (v w : View) → (c : Reading) → w.pass ≡ reader_alone key.identity key.start c → SeatsJoin (LogRuled key) id v other w (returned_seat v w) (spent_seat key.identity key.start)
returns key id other v w c only s r at ne at' =
    let ps : List Pass = map pass_in s.views in let bs : Bounds = now_at key (slice_index s.words limit_place) r.cleaned in let l : View = returned_seat v w in let q : View = spent_seat key.identity key.start in
    let h = at_map pass_in s.views id v at in let was : get_elem? s.views other ≡ some w = sym (set_else s.views id other l ne) ∙ at' in let h' = at_map pass_in s.views other w was in
    let a = r.kept.each id v.pass h in let theirs = r.kept.each other w.pass h' in
    let ps1 : List Pass = set ps id l.pass in let at1 : get_elem? ps1 other ≡ some w.pass = set_else ps id other l.pass ne ∙ h' in
    let ruled1 : Ruled bs s.words ps1 = rested_here bs s.words ps r.ruled id v.pass l.pass.reading v.pass.keeping h in
    let fresh : attending w.pass [] no_keeping ≡ newcomer key.identity key.start 0 0 = ap (λ (p : Pass). attending p [] no_keeping) only in
    let ruled2 : Ruled bs s.words (set ps1 other q.pass) = subst (λ (p : Pass). Ruled bs s.words (set ps1 other p)) fresh (rested_here bs s.words ps1 ruled1 other w.pass [] no_keeping at1) in
    let is : map pass_in (set (set s.views id l) other q) ≡ set ps1 other q.pass = map-set pass_in (set s.views id l) other q ∙ ap (λ (x : List Pass). set x other q.pass) (map-set pass_in s.views id l) in
    let kept : Kept bs r.there s.words (set ps1 other q.pass) = kept_join bs r.there s.words ps r.ruled r.kept id other v.pass w.pass l.pass q.pass h at1 ruled2
    (λ f. (let z = only in ap (λ (p : Pass). weight f v.pass + weight f p) (sym z)))
    (λ f. (let z = only in ap (λ (p : Pass). committed_weight f v.pass + committed_weight f p) (sym z)))
    (λ j. (let t = total_append (reads_as j) w.pass.reading v.pass.reading in no_more (readers_of j l.pass) (readers_of j v.pass) (readers_of j w.pass) t))
    (low_keepers (keepers_of v.pass) (keepers_of w.pass))
    record { readings = all_append (IsReader s.words ps) w.pass.reading v.pass.reading theirs.readings a.readings; keeping = a.keeping } record { readings = tt; keeping = none_kept bs r.there s.words ps } in
    let mine = r.sure.each id v at in record {
      cleaned = r.cleaned;
      there = r.there;
      ruled = subst (Ruled bs s.words) (sym is) ruled2;
      kept = subst (Kept bs r.there s.words) (sym is) kept;
      sure = sure_join s.words s.views r.sure id other l q record { whole = mine.whole; exact = mine.exact } (unsure s.words q refl);
      numbered = subst AreNumbered (sym is) (numbered_join ps id other v.pass w.pass l.pass q.pass h at1 (λ n. ap (λ (p : Pass). numbers_as n v.pass + numbers_as n p) (sym only)) ((attends_goes v.pass l.pass.reading v.pass.keeping).owns (r.numbered.each id v.pass h)) (owns_none q.pass refl refl) r.numbered);
    }
  where
    no_more : (x y z : ℕ) → x ≡ z + y → x + 0 ≤ y + z
    no_more x y z e = omega arith

    low_keepers : (x y : ℕ) → x + 0 ≤ x + y
    low_keepers x y = omega arith
