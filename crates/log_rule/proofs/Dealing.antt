-- Seats that are dealt keep the rule.
use Rattle.std.proofs.Common.{zero-le, ◌≡◌, ◌≢◌, inl, ℕ, ◌+◌, ◌-◌, ◌*◌, ◌<◌, ◌≤◌, cond, Bool, List, [], ◌∷◌, ◌++◌, map, set, sym, refl, ap, ◌∙◌, subst, ⊎_elim, suc-ne-zero, ne_eqb, arith}
use mathlib.Core.Option.{some}
use lib.ListN.{get_elem?}
use Rattle.std.specs.Prelude.{slice_index}
use Rattle.std.specs.List.{AllByRecursion}
use Rattle.std.proofs.lemmas.List.{map-append, map-set}
use Rattle.atomic_table.specs.Table.{Joins, Splits, State}
use Rattle.atomic_table.proofs.Lists.{at_map, at_set, at_snoc, set_else}
use Rattle.theory.specs.Bytes.{Identity}
use Rattle.theory.specs.Entry.{Entry}
use Rattle.theory.proofs.Lists.{all_append, all_from, all_weaker}
use Rattle.publication.specs.declared.pass.FrameWords.{FrameWords}
use Rattle.publication.specs.declared.pass.Keeping.{Keeping}
use Rattle.publication.specs.declared.pass.Pass.{Pass}
use Rattle.publication.specs.declared.pass.Reading.{Reading}
use Rattle.log_rule.specs.declared.claims.view.View.{View}
use Rattle.log_rule.specs.Claims.Packs.{consumer_place, limit_place}
use Rattle.log_rule.specs.Claims.Sums.{total}
use Rattle.log_rule.specs.Claims.Rule.{Bounds, armed_on, weight}
use Rattle.log_rule.specs.Claims.Memory.{Ruled}
use Rattle.log_rule.specs.Claims.Events.{IsLook, committed_weight}
use Rattle.log_rule.specs.Claims.Sure.{IsSure}
use Rattle.log_rule.specs.Claims.Plays.{dealer, dealing_seat, dealt, dealt_seat, first_number, newcomer, no_keeping, other_numbers, pass_in}
use Rattle.log_rule.specs.Claims.Closing.{numbered_seat, spent_seat}
use Rattle.log_rule.proofs.Claimed.Accounts.{none_armed}
use Rattle.log_rule.proofs.Claimed.Begun.{plus_none, shared, split_ruled, split_total}
use Rattle.log_rule.proofs.Claimed.Numbers.{numbered}
use Rattle.log_rule.proofs.Claimed.Sures.{sure_join, sure_split, unsure}
use Rattle.log_rule.specs.declared.rule.Key.{Key}
use Rattle.log_rule.specs.Edges.{IsAmong}
use Rattle.log_rule.specs.Kept.{Attends, IsKeeper, IsReader, Kept, keepers_of, readers_of, reads_as}
use Rattle.log_rule.specs.Numbers.{AreNumbered, is_number, numbers_as}
use Rattle.log_rule.specs.Table.{LogRuled, all_known, first_reading, keeper_left, keeper_right, knowledge_right, knows_all, new_seat, news_left, news_right, now_at, other_readings, reader_left, reader_right, told_seat}
use Rattle.log_rule.proofs.Growing.{Grows, attends_on, grows, not_keeping, placed_on}
use Rattle.log_rule.proofs.Resting.{attending, rest_looks, rested_here}
use Rattle.log_rule.proofs.Known.{is_among}
use Rattle.log_rule.proofs.Owning.{attends_goes, numbered_join, numbered_split, owns_none}
use Rattle.log_rule.proofs.Consumers.{kept_rest, spared_same}

-- ---- a pass is cut in two

pub kept_split : (b : Bounds) (n : List ℕ) (ws : List ℕ) (ps : List Pass) → Ruled b ws ps → Kept b n ws ps → (id : ℕ) (v l q : Pass) → get_elem? ps id ≡ some v → Ruled b ws (set ps id l ++ q ∷ [])
    → ((h : Entry → ℕ) → weight h l + weight h q ≡ weight h v) → ((h : FrameWords → ℕ) → committed_weight h l + committed_weight h q ≡ committed_weight h v)
    → ((j : ℕ) → j < 8 → readers_of j l + readers_of j q ≡ readers_of j v) → keepers_of l + keepers_of q ≡ keepers_of v → Attends b n ws ps l → Attends b n ws ps q → Kept b n ws (set ps id l ++ q ∷ [])
kept_split b n ws ps r k id v l q at r' claims frames reads keep left right =
    let ps' : List Pass = set ps id l ++ q ∷ [] in
    let look : IsLook ps ps' = record { claimed = λ h. split_total (weight h) ps id v l q at (claims h); committed = λ h. split_total (committed_weight h) ps id v l q at (frames h) } in
    let g : Grows b ps ps' = grows b ws ws ps ps' r r' (inl look) in let on = attends_on b n k.eight ws ws ps ps' g (spared_same ws) in record {
      eight = k.eight;
      flags = k.flags;
      one = k.one;
      any = k.any;
      unit = k.unit;
      ahead = k.ahead;
      free = k.free;
      placed = λ j lt. placed_on b ps ps' g (slice_index ws (consumer_place j)) (k.placed j lt);
      single = λ j lt. subst (λ (t : ℕ). t ≤ slice_index n j) (sym (split_total (readers_of j) ps id v l q at (reads j lt))) (k.single j lt);
      keepers = subst (λ (t : ℕ). t ≤ 1) (sym (split_total keepers_of ps id v l q at keep)) k.keepers;
      each = λ i u e. ⊎_elim
          (λ (y : get_elem? (set ps id l) i ≡ some u). ⊎_elim
          (λ (z : (i ≡ id) × (l ≡ u)). subst (Attends b n ws ps') z.1 (on l left))
          (λ (z : (i ≢ id) × (get_elem? ps i ≡ some u)). on u (k.each i u z.1))
          (at_set ps id i l u y))
          (λ (y : q ≡ u). subst (Attends b n ws ps') y (on q right))
          (at_snoc (set ps id l) q u i e);
    }

-- nothing is known
pub none_kept : (b : Bounds) (n ws : List ℕ) (ps : List Pass) → IsKeeper b n ws ps no_keeping
none_kept b n ws ps = not_keeping b n ws ps no_keeping zero_one
  where
    zero_one : (no_keeping).right ≡ 1 → ⊥
    zero_one e = omega arith

-- some parts, some of the readings and perhaps the keeper's right go to a seat that claimed nothing
split_off : (b : Bounds) (ws : List ℕ) (ps : List Pass) → Ruled b ws ps → (id n left : ℕ) (p : Pass) (rs rs' : List Reading) (k k' : Keeping) → get_elem? ps id ≡ some p → 120 * p.right.armed ≤ left → left + n ≡ p.right.parts → (left ≡ 0 → p.right.claims ≡ [])
    → Ruled b ws (set ps id (record p { right = record p.right { parts = left }; reading = rs; keeping = k }) ++ attending (newcomer b.identity b.start 0 n) rs' k' ∷ [])
split_off b ws ps r id n left p rs rs' k k' at able sum idle =
    let l : Pass = record p { right = record p.right { parts = left }; reading = rs; keeping = k } in let q : Pass = attending (newcomer b.identity b.start 0 n) rs' k' in
    let c = r.claims.each id p at in let m = r.memory.each id p at in let from = r.claims.tailed.turns.from in
    split_ruled b ws ps r id p l q at (λ h. plus_none (weight h p)) sum (plus_none p.right.armed)
    (λ j. let d = none_armed j q refl in none (armed_on j p) (armed_on j q) d)
    record { identity = c.identity; start = c.start; number = c.number; right = record { capped = c.right.capped; able = able; once = c.right.once; idle = idle }; entries = c.entries; seen = c.seen }
    record { identity = refl; start = refl; number = omega arith; right = record { capped = omega arith; able = omega arith; once = omega arith; idle = λ z. refl }; entries = tt; seen = record { count = (omega arith, from); term = (omega arith, from); full = λ i e. absurd (suc-ne-zero i (sym e)); begun = from; shown = zero-le } }
    record { stands = m.stands; placed = m.placed; aligned = m.aligned; done = m.done; undone = m.undone; kept = m.kept }
    record { stands = tt; placed = λ h. refl; aligned = tt; done = tt; undone = tt; kept = tt }
  where
    none : (a c : ℕ) → c ≡ 0 → a + c ≡ a
    none a c e = omega arith

module _ (key : Key) (id : ℕ) (v : View) (s : State (Unit {0}) View) (r : LogRuled key s) (at : get_elem? s.views id ≡ some v) where
  abbrev b : Bounds
  b = now_at key (slice_index s.words limit_place) r.cleaned

  here : get_elem? (map pass_in s.views) id ≡ some v.pass
  here = at_map pass_in s.views id v at

  attends : Attends b r.there s.words (map pass_in s.views) v.pass
  attends = r.kept.each id v.pass here

  identity_is : v.pass.identity ≡ key.identity
  identity_is = (r.ruled.claims.each id v.pass here).identity

  start_is : v.pass.start ≡ key.start
  start_is = (r.ruled.claims.each id v.pass here).start

  -- the state with two seats in place of one
  pub cut : (l q : View) → Ruled b s.words (set (map pass_in s.views) id l.pass ++ q.pass ∷ []) → Kept b r.there s.words (set (map pass_in s.views) id l.pass ++ q.pass ∷ []) → IsSure s.words l → q.sure ≡ 0 → AreNumbered (set (map pass_in s.views) id l.pass ++ q.pass ∷ [])
      → LogRuled key record { words = s.words; homes = s.homes; views = set s.views id l ++ q ∷ [] }
  cut l q ruled kept sure none numbered =
      let is : map pass_in (set s.views id l ++ q ∷ []) ≡ set (map pass_in s.views) id l.pass ++ q.pass ∷ [] = map-append pass_in (set s.views id l) (q ∷ []) ∙ ap (λ (x : List Pass). x ++ q.pass ∷ []) (map-set pass_in s.views id l) in record {
        cleaned = r.cleaned;
        there = r.there;
        ruled = subst (Ruled b s.words) (sym is) ruled;
        kept = subst (Kept b r.there s.words) (sym is) kept;
        sure = sure_split s.words s.views r.sure id l q sure (unsure s.words q none);
        numbered = subst AreNumbered (sym is) numbered;
      }

pub deals : (key : Key) (id : ℕ) (v : View) → v.pass.right.armed ≡ 0 → v.pass.right.claims ≡ [] → 120 < v.pass.right.parts → Splits (LogRuled key) id v (dealing_seat v) (dealt_seat v)
deals key id v off fresh many s r at =
    let ps : List Pass = map pass_in s.views in let bs : Bounds = now_at key (slice_index s.words limit_place) r.cleaned in let h = here key id v s r at in let a = attends key id v s r at in
    let ruled = shared bs s.words ps r.ruled id v.pass h off many in
    cut key id v s r at (dealing_seat v) (dealt_seat v) ruled
    (kept_split bs r.there s.words ps r.ruled r.kept id v.pass (dealer v.pass) (dealt v.pass) h ruled (λ f. plus_none (weight f v.pass)) (λ f. plus_none (committed_weight f v.pass)) (λ j lt. plus_none (readers_of j v.pass)) (plus_none (keepers_of v.pass))
    record { readings = a.readings; keeping = a.keeping } record { readings = tt; keeping = none_kept bs r.there s.words ps })
    (unsure s.words (dealing_seat v) refl) refl
    (numbered_split ps id v.pass (dealer v.pass) (dealt v.pass) h (λ n. numbers_parted n v.pass.right.numbers) (owns_none (dealer v.pass) fresh off) (owns_none (dealt v.pass) refl refl) r.numbered)
  where
    numbers_parted : (n : ℕ) (ms : List ℕ) → total (is_number n) (other_numbers ms) + total (is_number n) (first_number ms) ≡ total (is_number n) ms
    numbers_parted n [] = refl
    numbers_parted n (m ∷ ms) = swapped (total (is_number n) ms) (is_number n m)
      where
        swapped : (a c : ℕ) → a + (c + 0) ≡ c + a
        swapped a c = omega arith

pub deals_reader : (key : Key) (id : ℕ) (v : View) → Splits (LogRuled key) id v (reader_left v) (reader_right v)
deals_reader key id v s r at =
    let mine = r.sure.each id v at in let ps : List Pass = map pass_in s.views in let bs : Bounds = now_at key (slice_index s.words limit_place) r.cleaned in let h = here key id v s r at in let a = attends key id v s r at in
    let idle = (r.ruled.claims.each id v.pass h).right.idle in
    let q : Pass = record (newcomer v.pass.identity v.pass.start 0 0) { reading = first_reading v.pass.reading } in
    let ruled : Ruled bs s.words (set ps id (record v.pass { reading = other_readings v.pass.reading }) ++ q ∷ []) = subst (λ (x : Identity × ℕ). Ruled bs s.words (set ps id (record v.pass { reading = other_readings v.pass.reading }) ++ attending (newcomer x.0 x.1 0 0) (first_reading v.pass.reading) no_keeping ∷ []))
    (λ i. (sym (identity_is key id v s r at) i, sym (start_is key id v s r at) i))
    (split_off bs s.words ps r.ruled id 0 v.pass.right.parts v.pass (other_readings v.pass.reading) (first_reading v.pass.reading) v.pass.keeping no_keeping h (r.ruled.claims.each id v.pass h).right.able (plus_none v.pass.right.parts) idle) in
    cut key id v s r at (reader_left v) (reader_right v) ruled
    (kept_split bs r.there s.words ps r.ruled r.kept id v.pass (record v.pass { reading = other_readings v.pass.reading }) q h ruled (λ f. plus_none (weight f v.pass)) (λ f. plus_none (committed_weight f v.pass))
    (λ j lt. parts_sum (reads_as j) v.pass.reading) (plus_none (keepers_of v.pass))
    record { readings = rest_all (IsReader s.words ps) v.pass.reading a.readings; keeping = a.keeping } record { readings = first_all (IsReader s.words ps) v.pass.reading a.readings; keeping = none_kept bs r.there s.words ps })
    record { whole = mine.whole; exact = mine.exact } refl
    (numbered_split ps id v.pass (record v.pass { reading = other_readings v.pass.reading }) q h (λ n. plus_none (numbers_as n v.pass)) ((attends_goes v.pass (other_readings v.pass.reading) v.pass.keeping).owns (r.numbered.each id v.pass h)) (owns_none q refl refl) r.numbered)
  where
    parts_sum : (f : Reading → ℕ) (rs : List Reading) → total f (other_readings rs) + total f (first_reading rs) ≡ total f rs
    parts_sum f [] = refl
    parts_sum f (x ∷ xs) = omega arith

    rest_all : (P : Reading → Type 0) (rs : List Reading) → AllByRecursion P rs → AllByRecursion P (other_readings rs)
    rest_all P [] a = tt
    rest_all P (x ∷ xs) a = a.1

    first_all : (P : Reading → Type 0) (rs : List Reading) → AllByRecursion P rs → AllByRecursion P (first_reading rs)
    first_all P [] a = tt
    first_all P (x ∷ xs) a = (a.0, tt)

pub deals_keeper : (key : Key) (id : ℕ) (v : View) → v.pass.right.armed ≡ 0 → v.pass.right.claims ≡ [] → 8 < v.pass.right.parts → Splits (LogRuled key) id v (keeper_left v) (keeper_right v)
deals_keeper key id v off fresh many s r at =
    let ps : List Pass = map pass_in s.views in let bs : Bounds = now_at key (slice_index s.words limit_place) r.cleaned in let h = here key id v s r at in let a = attends key id v s r at in
    let l : Pass = record v.pass { right = record v.pass.right { parts = v.pass.right.parts - 8 }; keeping = no_keeping } in let q : Pass = record (newcomer v.pass.identity v.pass.start 0 8) { keeping = v.pass.keeping } in
    let ruled : Ruled bs s.words (set ps id l ++ q ∷ []) = subst (λ (x : Identity × ℕ). Ruled bs s.words (set ps id l ++ attending (newcomer x.0 x.1 0 8) [] v.pass.keeping ∷ []))
    (λ i. (sym (identity_is key id v s r at) i, sym (start_is key id v s r at) i))
    (split_off bs s.words ps r.ruled id 8 (v.pass.right.parts - 8) v.pass v.pass.reading [] no_keeping v.pass.keeping h (unarmed v.pass.right.armed (v.pass.right.parts - 8) off) (back v.pass.right.parts many) (λ z. absurd (some_left v.pass.right.parts many z))) in
    cut key id v s r at (keeper_left v) (keeper_right v) ruled
    (kept_split bs r.there s.words ps r.ruled r.kept id v.pass l q h ruled (λ f. plus_none (weight f v.pass)) (λ f. plus_none (committed_weight f v.pass)) (λ j lt. plus_none (readers_of j v.pass)) (none_first (keepers_of v.pass))
    record { readings = a.readings; keeping = none_kept bs r.there s.words ps } record { readings = tt; keeping = a.keeping })
    (unsure s.words (keeper_left v) refl) refl
    (numbered_split ps id v.pass l q h (λ n. plus_none (numbers_as n v.pass)) (owns_none l fresh off) (owns_none q refl refl) r.numbered)
  where
    unarmed : (a t : ℕ) → a ≡ 0 → 120 * a ≤ t
    unarmed a t e = omega arith

    back : (n : ℕ) → 8 < n → (n - 8) + 8 ≡ n
    back n lt = omega arith

    none_first : (n : ℕ) → 0 + n ≡ n
    none_first n = omega arith

    some_left : (n : ℕ) → 8 < n → n - 8 ≡ 0 → ⊥
    some_left n lt e = omega arith

-- ---- a pass has another number

pub numbers : (key : Key) (id : ℕ) (v : View) (n : ℕ) → n < 8 → v.pass.right.parts ≡ 1024 → Splits (LogRuled key) id v (numbered_seat n v) (spent_seat v.pass.identity v.pass.start)
numbers key id v n low all s r at =
    let ps : List Pass = map pass_in s.views in let bs : Bounds = now_at key (slice_index s.words limit_place) r.cleaned in let h = here key id v s r at in let a = attends key id v s r at in let mine = r.sure.each id v at in
    let l : Pass = record v.pass { number = n } in let q : Pass = newcomer v.pass.identity v.pass.start 0 0 in
    let ruled : Ruled bs s.words (set ps id l ++ q ∷ []) = subst (λ (x : Identity × ℕ). Ruled bs s.words (set ps id l ++ newcomer x.0 x.1 0 0 ∷ [])) (λ i. (sym (identity_is key id v s r at) i, sym (start_is key id v s r at) i)) (numbered bs s.words ps r.ruled id v.pass h n low) in
    cut key id v s r at (numbered_seat n v) (spent_seat v.pass.identity v.pass.start) ruled
    (kept_split bs r.there s.words ps r.ruled r.kept id v.pass l q h ruled (λ f. plus_none (weight f v.pass)) (λ f. plus_none (committed_weight f v.pass)) (λ j lt. plus_none (readers_of j v.pass)) (plus_none (keepers_of v.pass))
    record { readings = a.readings; keeping = a.keeping } record { readings = tt; keeping = none_kept bs r.there s.words ps })
    record { whole = mine.whole; exact = mine.exact } refl
    (numbered_split ps id v.pass l q h (λ m. plus_none (numbers_as m v.pass)) record { claims = λ less. absurd (omega (arith, less, all)); armed = λ less _. absurd (omega (arith, less, all)) } (owns_none q refl refl) r.numbered)

-- ---- committed frames are told

pub known_all : (ws : List ℕ) (qs : List Pass) (xs : List Reading) → AllByRecursion (IsReader ws qs) xs → AllByRecursion (IsAmong qs) (all_known xs)
known_all ws qs [] a = tt
known_all ws qs (x ∷ xs) a = all_append (IsAmong qs) x.known (all_known xs) a.0.known (known_all ws qs xs a.1)

-- known alone, of no consumer
abbrev telling : List FrameWords → Reading
telling fs = record { number = 8; position = 0; known = fs; misses = 0 }

tells_alone : (key : Key) (id : ℕ) (v : View) (fs : List FrameWords) → ((s : State (Unit {0}) View) → LogRuled key s → get_elem? s.views id ≡ some v → AllByRecursion (IsAmong (map pass_in s.views)) fs)
    → Splits (LogRuled key) id v v (new_seat (record (newcomer v.pass.identity v.pass.start 0 0) { reading = telling fs ∷ [] }))
tells_alone key id v fs committed s r at =
    let ps : List Pass = map pass_in s.views in let bs : Bounds = now_at key (slice_index s.words limit_place) r.cleaned in let h = here key id v s r at in let a = attends key id v s r at in
    let idle = (r.ruled.claims.each id v.pass h).right.idle in
    let q : Pass = record (newcomer v.pass.identity v.pass.start 0 0) { reading = telling fs ∷ [] } in
    let ruled : Ruled bs s.words (set ps id v.pass ++ q ∷ []) = subst (λ (x : Identity × ℕ). Ruled bs s.words (set ps id v.pass ++ attending (newcomer x.0 x.1 0 0) (telling fs ∷ []) no_keeping ∷ []))
    (λ i. (sym (identity_is key id v s r at) i, sym (start_is key id v s r at) i))
    (split_off bs s.words ps r.ruled id 0 v.pass.right.parts v.pass v.pass.reading (telling fs ∷ []) v.pass.keeping no_keeping h (r.ruled.claims.each id v.pass h).right.able (plus_none v.pass.right.parts) idle) in
    cut key id v s r at v (new_seat q) ruled
    (kept_split bs r.there s.words ps r.ruled r.kept id v.pass v.pass q h ruled (λ f. plus_none (weight f v.pass)) (λ f. plus_none (committed_weight f v.pass))
    (λ j lt. (let z : reads_as j (telling fs) ≡ 0 = ap (λ (x : Bool). cond x 1 0) (ne_eqb 8 j (λ e. omega arith)) in none_more (readers_of j v.pass) (reads_as j (telling fs)) z)) (plus_none (keepers_of v.pass))
    a record { readings = (record { position = λ lt. absurd (omega arith); known = committed s r at }, tt); keeping = none_kept bs r.there s.words ps })
    (r.sure.each id v at) refl
    (numbered_split ps id v.pass v.pass q h (λ n. plus_none (numbers_as n v.pass)) (r.numbered.each id v.pass h) (owns_none q refl refl) r.numbered)
  where
    none_more : (a c : ℕ) → c ≡ 0 → a + (c + 0) ≡ a
    none_more a c e = omega arith

-- what a pass committed
pub news : (key : Key) (id : ℕ) (v : View) → Splits (LogRuled key) id v (news_left v) (news_right v)
news key id v = tells_alone key id v v.pass.work.frames (λ s r at. all_from (IsAmong (map pass_in s.views)) v.pass.work.frames (λ f among. is_among (map pass_in s.views) id v.pass f (here key id v s r at) among))

-- what its consumers know
pub knowledge : (key : Key) (id : ℕ) (v : View) → Splits (LogRuled key) id v (news_left v) (knowledge_right v)
knowledge key id v = tells_alone key id v (all_known v.pass.reading) (λ s r at. known_all s.words (map pass_in s.views) v.pass.reading (attends key id v s r at).readings)

-- two seats of the log: what the one's passes committed, the other's consumers know then
pub tells : (key : Key) (id other : ℕ) (v w : View) → w.pass ≡ record (newcomer key.identity key.start 0 0) { reading = w.pass.reading } → Joins (LogRuled key) id v other w (told_seat v w) (spent_seat key.identity key.start)
tells key id other v w new s r at ne at' =
    let ps : List Pass = map pass_in s.views in let bs : Bounds = now_at key (slice_index s.words limit_place) r.cleaned in let h = here key id v s r at in let a = attends key id v s r at in
    let fs : List FrameWords = all_known w.pass.reading in let rs : List Reading = map (knows_all fs) v.pass.reading in let l : View = told_seat v w in let q : View = spent_seat key.identity key.start in
    let was : get_elem? s.views other ≡ some w = sym (set_else s.views id other l ne) ∙ at' in let h' = at_map pass_in s.views other w was in let theirs = (r.kept.each other w.pass h').readings in
    let ps1 : List Pass = set ps id l.pass in
    let ruled1 : Ruled bs s.words ps1 = rested_here bs s.words ps r.ruled id v.pass rs v.pass.keeping h in
    let g1 : Grows bs ps ps1 = grows bs s.words s.words ps ps1 r.ruled ruled1 (inl (rest_looks ps id v.pass rs v.pass.keeping h)) in
    let base = attends_on bs r.there r.kept.eight s.words s.words ps ps1 g1 (spared_same s.words) v.pass a in
    let known : AllByRecursion (IsAmong ps1) fs = all_weaker (IsAmong ps) (IsAmong ps1) g1.among fs (known_all s.words ps w.pass.reading theirs) in
    let kept1 : Kept bs r.there s.words ps1 = kept_rest bs r.there s.words ps r.ruled r.kept id v.pass rs v.pass.keeping h (λ j lt. same_numbers j fs v.pass.reading) (omega arith) record { readings = more_all s.words ps1 fs known v.pass.reading base.readings; keeping = base.keeping } in
    let at1 : get_elem? ps1 other ≡ some w.pass = set_else ps id other l.pass ne ∙ h' in
    let ps2 : List Pass = set ps1 other (newcomer key.identity key.start 0 0) in
    let fresh : attending w.pass [] no_keeping ≡ newcomer key.identity key.start 0 0 = ap (λ (p : Pass). attending p [] no_keeping) new in
    let ruled2 : Ruled bs s.words ps2 = subst (λ (p : Pass). Ruled bs s.words (set ps1 other p)) fresh (rested_here bs s.words ps1 ruled1 other w.pass [] no_keeping at1) in
    let is : map pass_in (set (set s.views id l) other q) ≡ ps2 = map-set pass_in (set s.views id l) other q ∙ ap (λ (x : List Pass). set x other q.pass) (map-set pass_in s.views id l) in
    let kept2 : Kept bs r.there s.words ps2 = subst (λ (p : Pass). Kept bs r.there s.words (set ps1 other p)) fresh (kept_rest bs r.there s.words ps1 ruled1 kept1 other w.pass [] no_keeping at1 (λ j lt. omega arith) (omega arith) record { readings = tt; keeping = none_kept bs r.there s.words (set ps1 other (attending w.pass [] no_keeping)) }) in
    let mine = r.sure.each id v at in record {
      cleaned = r.cleaned;
      there = r.there;
      ruled = subst (Ruled bs s.words) (sym is) ruled2;
      kept = subst (Kept bs r.there s.words) (sym is) kept2;
      sure = sure_join s.words s.views r.sure id other l q record { whole = mine.whole; exact = mine.exact } (unsure s.words q refl);
      numbered = subst AreNumbered (sym is) (numbered_join ps id other v.pass w.pass l.pass q.pass h at1 (λ n. ap (λ (m : ℕ). numbers_as n v.pass + m) (sym (ap (λ (p : Pass). numbers_as n p) new))) ((attends_goes v.pass rs v.pass.keeping).owns (r.numbered.each id v.pass h)) (owns_none q.pass refl refl) r.numbered);
    }
  where
    same_numbers : (j : ℕ) (fs : List FrameWords) (xs : List Reading) → total (reads_as j) (map (knows_all fs) xs) ≤ total (reads_as j) xs
    same_numbers j fs [] = omega arith
    same_numbers j fs (x ∷ xs) = let r = same_numbers j fs xs in omega arith

    more_all : (ws : List ℕ) (qs : List Pass) (fs : List FrameWords) → AllByRecursion (IsAmong qs) fs → (xs : List Reading) → AllByRecursion (IsReader ws qs) xs → AllByRecursion (IsReader ws qs) (map (knows_all fs) xs)
    more_all ws qs fs known [] a = tt
    more_all ws qs fs known (x ∷ xs) a = (record { position = a.0.position; known = all_append (IsAmong qs) x.known fs a.0.known known }, more_all ws qs fs known xs a.1)
