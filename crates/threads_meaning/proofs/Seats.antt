-- Passes that are dealt, told and gathered: the same is claimed and committed, the same may add, and each consumer was one before.
use Rattle.std.proofs.Common.{◌≡◌, ◌≢◌, ◌⊎◌, inl, inr, ⊎_elim, ℕ, ◌+◌, ◌<◌, cond, eqb, List, [], ◌∷◌, ◌++◌, map, set, sym, refl, ap, ◌∙◌, subst, arith}
use mathlib.Core.Option.{some}
use lib.ListN.{get_elem?}
use Rattle.std.specs.Prelude.{slice_index}
use Rattle.std.proofs.lemmas.List.{map-set}
use Rattle.atomic_table.specs.Table.{State}
use Rattle.atomic_table.proofs.Lists.{at_map, at_set, at_snoc}
use Rattle.theory.specs.Entry.{Entry, committed}
use Rattle.theory.specs.Placed.{Among}
use Rattle.theory.specs.Refusal.{is_closed, is_connected, limit_in}
use Rattle.theory.proofs.Lists.{among_cases, among_left, among_right}
use Rattle.publication.specs.declared.pass.FrameWords.{FrameWords}
use Rattle.publication.specs.declared.pass.Keeping.{Keeping}
use Rattle.publication.specs.declared.pass.Pass.{Pass}
use Rattle.publication.specs.declared.pass.Reading.{Reading}
use Rattle.log_rule.specs.declared.claims.view.View.{View}
use Rattle.log_rule.specs.declared.rule.Key.{Key}
use Rattle.log_rule.specs.Claims.Closing.{both, both_seats, numbered_seat, spent_seat}
use Rattle.log_rule.specs.Claims.Events.{SameClaimed, SameCommitted, committed_weight}
use Rattle.log_rule.specs.Claims.Packs.{consumer_place, limit_place}
use Rattle.log_rule.specs.Claims.Plays.{dealer, dealing_seat, dealt, dealt_seat, newcomer, no_keeping, pass_in}
use Rattle.log_rule.specs.Claims.Rule.{entries_of, entry_of, weight}
use Rattle.log_rule.specs.Claims.Sums.{total}
use Rattle.log_rule.specs.Meetings.{back_left, back_right, meeting, meeting_seats}
use Rattle.log_rule.specs.Table.{LogRuled, all_known, first_reading, keeper_left, keeper_right, knowledge_right, knows_all, new_seat, news_left, news_right, other_readings, reader_left, reader_right, returned_seat, told_seat}
use Rattle.log_rule.proofs.Claimed.Memories.{maps_append}
use Rattle.log_rule.proofs.Claimed.Totals.{total_append}
use Rattle.model.specs.Log.{Log}
use Rattle.threads_meaning.specs.Modelled.{AreEntries, ArePublishers, AreReaders, HasReader, IsModelOf, KeepsReaders, armed_as}
use Rattle.threads_meaning.specs.Seats.{Deals, SeatsMove, Takes, deal_keeper, deal_publisher, deal_reader, gather, lift, lower, meet, part_again, renumber, return, tell, tell_known, tell_news}
use Rattle.threads_meaning.proofs.Parts.{armed_none}
use Rattle.threads_meaning.proofs.Resting.{entries_rest, modelled, publishers_rest, readers_rest}
use Rattle.threads_meaning.proofs.Totals.{total_join, total_split}

-- ---- the passes

-- one has what it has of two others: consumers, and what a keeper knows
pub record Has (v w x : Pass) : Type 0 where
  pub reads : (r : Reading) → Among r x.reading → r.number < 8 → (y : Reading) × (Among y v.reading ⊎ Among y w.reading) × (y.number ≡ r.number)
  pub keeps : x.keeping.right ≡ 1 → (x.keeping ≡ v.keeping) ⊎ (x.keeping ≡ w.keeping)

-- of a pass that is alone
abbrev HasOf : Pass → Pass → Type 0
HasOf v x = Has v v x

-- two have what a sum counts of another two
abbrev pub Sums : (v w l r : Pass) → Type 0
Sums v w l r = ((h : Entry → ℕ) → weight h l + weight h r ≡ weight h v + weight h w) × ((h : FrameWords → ℕ) → committed_weight h l + committed_weight h r ≡ committed_weight h v + committed_weight h w) × ((n : ℕ) → armed_as n l + armed_as n r ≡ armed_as n v + armed_as n w)

abbrev Parts : (v l r : Pass) → Type 0
Parts v l r = ((h : Entry → ℕ) → weight h l + weight h r ≡ weight h v) × ((h : FrameWords → ℕ) → committed_weight h l + committed_weight h r ≡ committed_weight h v) × ((n : ℕ) → armed_as n l + armed_as n r ≡ armed_as n v)

module _ (key : Key) (gone : List ℕ) (s t : State (Unit {0}) View) (l : Log) (q : LogRuled key t) (k : IsModelOf key gone s l) where
  -- a pass that has what two passes have that are there
  has_readers : (v w x : Pass) (i j : ℕ) → get_elem? (map pass_in s.views) i ≡ some v → get_elem? (map pass_in s.views) j ≡ some w → Has v w x → (r : Reading) → Among r x.reading → r.number < 8 → HasReader l.readers r.number
  has_readers v w x i j at there h r among low = let y = h.reads r among low in let less = subst (λ (n : ℕ). n < 8) (sym y.2) low in
      subst (HasReader l.readers) y.2 (⊎_elim (λ (a : Among y.0 v.reading). k.readers.mine i v y.0 at a less) (λ (a : Among y.0 w.reading). k.readers.mine j w y.0 there a less) y.1)

  has_keeper : (v w x : Pass) (i j : ℕ) → get_elem? (map pass_in s.views) i ≡ some v → get_elem? (map pass_in s.views) j ≡ some w → Has v w x → x.keeping.right ≡ 1 → KeepsReaders l.start l.cleaned (committed l.entries) l.readers x.keeping
  has_keeper v w x i j at there h one = ⊎_elim
      (λ (e : x.keeping ≡ v.keeping). subst (KeepsReaders l.start l.cleaned (committed l.entries) l.readers) (sym e) (k.readers.keeper i v at (ap (λ z. z.right) (sym e) ∙ one)))
      (λ (e : x.keeping ≡ w.keeping). subst (KeepsReaders l.start l.cleaned (committed l.entries) l.readers) (sym e) (k.readers.keeper j w there (ap (λ z. z.right) (sym e) ∙ one)))
      (h.keeps one)

  -- with the same words and log
  same_log : (qs : List Pass) → ((j : ℕ) → j < 208 → slice_index t.words j ≡ slice_index s.words j) → map pass_in t.views ≡ qs → SameClaimed (map pass_in s.views) qs → SameCommitted (map pass_in s.views) qs → ((n : ℕ) → total (armed_as n) qs ≡ total (armed_as n) (map pass_in s.views))
      → ((i : ℕ) (u : Pass) (r : Reading) → get_elem? qs i ≡ some u → Among r u.reading → r.number < 8 → HasReader l.readers r.number) → ((i : ℕ) (u : Pass) → get_elem? qs i ≡ some u → u.keeping.right ≡ 1 → KeepsReaders l.start l.cleaned (committed l.entries) l.readers u.keeping) → IsModelOf key gone t l
  same_log qs words passes claimed frames armed mine keeper =
      let ps : List Pass = map pass_in s.views in let word = sym (words limit_place (omega arith)) in
      modelled key gone t l q k.identity k.start (k.limit ∙ ap limit_in word) (k.connected ∙ ap is_connected word) (k.closed ∙ ap is_closed word)
      (subst (λ (us : List Pass). AreEntries key us l.start l.tail l.entries) (sym passes) (entries_rest key ps qs l.start l.tail l.entries k.entries claimed frames))
      (subst (λ (us : List Pass). ArePublishers gone us l.armed l.retired) (sym passes) (publishers_rest gone ps qs l.armed l.retired k.publishers (λ n lt. armed n)))
      (subst (λ (us : List Pass). AreReaders t.words us l.start l.cleaned (committed l.entries) l.readers) (sym passes) (readers_rest s.words t.words ps qs l.start l.cleaned (committed l.entries) l.readers k.readers record {
        words_same = λ j lt. words (consumer_place j) (omega arith);
        mine = mine;
        keeper = keeper;
      }))

  split_seat : (v left right : View) → Deals s v left right t → Parts v.pass left.pass right.pass → HasOf v.pass left.pass → HasOf v.pass right.pass → IsModelOf key gone t l
  split_seat v left right d sums hl hr =
      let ps : List Pass = map pass_in s.views in let at = at_map pass_in s.views d.id v d.at in
      let passes : map pass_in t.views ≡ set ps d.id left.pass ++ right.pass ∷ [] = ap (map pass_in) d.views ∙ maps_append pass_in (set s.views d.id left) (right ∷ []) ∙ ap (λ (us : List Pass). us ++ right.pass ∷ []) (map-set pass_in s.views d.id left) in
      same_log (set ps d.id left.pass ++ right.pass ∷ []) d.words passes (λ h. total_split (weight h) ps d.id v.pass left.pass right.pass at (sums.0 h)) (λ h. total_split (committed_weight h) ps d.id v.pass left.pass right.pass at (sums.1 h)) (λ n. total_split (armed_as n) ps d.id v.pass left.pass right.pass at (sums.2 n))
      (λ i u r e among low. ⊎_elim
      (λ (y : get_elem? (set ps d.id left.pass) i ≡ some u). ⊎_elim
      (λ (z : (i ≡ d.id) × (left.pass ≡ u)). has_readers v.pass v.pass left.pass d.id d.id at at hl r (subst (λ (x : Pass). Among r x.reading) (sym z.1) among) low)
      (λ (z : (i ≢ d.id) × (get_elem? ps i ≡ some u)). k.readers.mine i u r z.1 among low)
      (at_set ps d.id i left.pass u y))
      (λ (y : right.pass ≡ u). has_readers v.pass v.pass right.pass d.id d.id at at hr r (subst (λ (x : Pass). Among r x.reading) (sym y) among) low)
      (at_snoc (set ps d.id left.pass) right.pass u i e))
      (λ i u e one. ⊎_elim
      (λ (y : get_elem? (set ps d.id left.pass) i ≡ some u). ⊎_elim
      (λ (z : (i ≡ d.id) × (left.pass ≡ u)). subst (λ (x : Pass). KeepsReaders l.start l.cleaned (committed l.entries) l.readers x.keeping) z.1 (has_keeper v.pass v.pass left.pass d.id d.id at at hl (ap (λ (x : Pass). x.keeping.right) z.1 ∙ one)))
      (λ (z : (i ≢ d.id) × (get_elem? ps i ≡ some u)). k.readers.keeper i u z.1 one)
      (at_set ps d.id i left.pass u y))
      (λ (y : right.pass ≡ u). subst (λ (x : Pass). KeepsReaders l.start l.cleaned (committed l.entries) l.readers x.keeping) y (has_keeper v.pass v.pass right.pass d.id d.id at at hr (ap (λ (x : Pass). x.keeping.right) y ∙ one)))
      (at_snoc (set ps d.id left.pass) right.pass u i e))

  join_mine : (v w b spent : View) (d : Takes s v w b spent t) → Has v.pass w.pass b.pass → Has v.pass w.pass spent.pass → (i : ℕ) (u : Pass) (r : Reading) → get_elem? (set (set (map pass_in s.views) d.id b.pass) d.other spent.pass) i ≡ some u → Among r u.reading → r.number < 8 → HasReader l.readers r.number
  join_mine v w b spent d hb hs =
      let ps : List Pass = map pass_in s.views in let at = at_map pass_in s.views d.id v d.at in let there = at_map pass_in s.views d.other w d.there in
      λ i u r e among low. ⊎_elim
      (λ (y : (i ≡ d.other) × (spent.pass ≡ u)). has_readers v.pass w.pass spent.pass d.id d.other at there hs r (subst (λ (x : Pass). Among r x.reading) (sym y.1) among) low)
      (λ (y : (i ≢ d.other) × (get_elem? (set ps d.id b.pass) i ≡ some u)). ⊎_elim
      (λ (z : (i ≡ d.id) × (b.pass ≡ u)). has_readers v.pass w.pass b.pass d.id d.other at there hb r (subst (λ (x : Pass). Among r x.reading) (sym z.1) among) low)
      (λ (z : (i ≢ d.id) × (get_elem? ps i ≡ some u)). k.readers.mine i u r z.1 among low)
      (at_set ps d.id i b.pass u y.1))
      (at_set (set ps d.id b.pass) d.other i spent.pass u e)

  join_keeper : (v w b spent : View) (d : Takes s v w b spent t) → Has v.pass w.pass b.pass → Has v.pass w.pass spent.pass → (i : ℕ) (u : Pass) → get_elem? (set (set (map pass_in s.views) d.id b.pass) d.other spent.pass) i ≡ some u → u.keeping.right ≡ 1 → KeepsReaders l.start l.cleaned (committed l.entries) l.readers u.keeping
  join_keeper v w b spent d hb hs =
      let ps : List Pass = map pass_in s.views in let at = at_map pass_in s.views d.id v d.at in let there = at_map pass_in s.views d.other w d.there in
      λ i u e one. ⊎_elim
      (λ (y : (i ≡ d.other) × (spent.pass ≡ u)). subst (λ (x : Pass). KeepsReaders l.start l.cleaned (committed l.entries) l.readers x.keeping) y.1 (has_keeper v.pass w.pass spent.pass d.id d.other at there hs (ap (λ (x : Pass). x.keeping.right) y.1 ∙ one)))
      (λ (y : (i ≢ d.other) × (get_elem? (set ps d.id b.pass) i ≡ some u)). ⊎_elim
      (λ (z : (i ≡ d.id) × (b.pass ≡ u)). subst (λ (x : Pass). KeepsReaders l.start l.cleaned (committed l.entries) l.readers x.keeping) z.1 (has_keeper v.pass w.pass b.pass d.id d.other at there hb (ap (λ (x : Pass). x.keeping.right) z.1 ∙ one)))
      (λ (z : (i ≢ d.id) × (get_elem? ps i ≡ some u)). k.readers.keeper i u z.1 one)
      (at_set ps d.id i b.pass u y.1))
      (at_set (set ps d.id b.pass) d.other i spent.pass u e)

  pub join_passes : (v w b spent : View) (d : Takes s v w b spent t) → map pass_in t.views ≡ set (set (map pass_in s.views) d.id b.pass) d.other spent.pass
  join_passes v w b spent d = ap (map pass_in) d.views ∙ map-set pass_in (set s.views d.id b) d.other spent ∙ ap (λ (us : List Pass). set us d.other spent.pass) (map-set pass_in s.views d.id b)

  pub join_readers : (v w b spent : View) (d : Takes s v w b spent t) → Has v.pass w.pass b.pass → Has v.pass w.pass spent.pass → AreReaders t.words (map pass_in t.views) l.start l.cleaned (committed l.entries) l.readers
  join_readers v w b spent d hb hs =
      let ps : List Pass = map pass_in s.views in let at = at_map pass_in s.views d.id v d.at in let there = at_map pass_in s.views d.other w d.there in
      let qs : List Pass = set (set ps d.id b.pass) d.other spent.pass in
      subst (λ (us : List Pass). AreReaders t.words us l.start l.cleaned (committed l.entries) l.readers) (sym (join_passes v w b spent d)) (readers_rest s.words t.words ps qs l.start l.cleaned (committed l.entries) l.readers k.readers record {
        words_same = λ j lt. d.words (consumer_place j) (omega arith);
        mine = join_mine v w b spent d hb hs;
        keeper = join_keeper v w b spent d hb hs;
      })

  join_seat : (v w b spent : View) → Takes s v w b spent t → Sums v.pass w.pass b.pass spent.pass → Has v.pass w.pass b.pass → Has v.pass w.pass spent.pass → IsModelOf key gone t l
  join_seat v w b spent d sums hb hs =
      let ps : List Pass = map pass_in s.views in let at = at_map pass_in s.views d.id v d.at in let there = at_map pass_in s.views d.other w d.there in
      let qs : List Pass = set (set ps d.id b.pass) d.other spent.pass in
      let passes : map pass_in t.views ≡ qs = ap (map pass_in) d.views ∙ map-set pass_in (set s.views d.id b) d.other spent ∙ ap (λ (us : List Pass). set us d.other spent.pass) (map-set pass_in s.views d.id b) in
      same_log qs d.words passes (λ h. total_join (weight h) ps d.id d.other v.pass w.pass b.pass spent.pass at d.apart there (sums.0 h)) (λ h. total_join (committed_weight h) ps d.id d.other v.pass w.pass b.pass spent.pass at d.apart there (sums.1 h)) (λ n. total_join (armed_as n) ps d.id d.other v.pass w.pass b.pass spent.pass at d.apart there (sums.2 n))
      (join_mine v w b spent d hb hs)
      (join_keeper v w b spent d hb hs)

-- ---- what each has

right_none : (n : ℕ) → n + 0 ≡ n
right_none n = omega arith

zero_one : (n : ℕ) → n ≡ 0 → n ≡ 1 → ⊥
zero_one n a b = omega arith

-- a pass that is nothing
pub has_nothing : (v w : Pass) (x : Pass) → x.reading ≡ [] → x.keeping ≡ no_keeping → Has v w x
has_nothing v w x reading keeping = record {
  reads = λ r among low. absurd (subst (λ (rs : List Reading). Among r rs) reading among);
  keeps = λ one. absurd (zero_one x.keeping.right (ap (λ (z : Keeping). z.right) keeping) one);
}

-- one that has some of another's consumers, and may be the keeper that it is
pub has_of : (v x : Pass) → ((r : Reading) → Among r x.reading → r.number < 8 → (y : Reading) × Among y v.reading × (y.number ≡ r.number)) → (x.keeping ≡ v.keeping) ⊎ (x.keeping ≡ no_keeping) → (w : Pass) → Has v w x
has_of v x reads keeping w = record {
  reads = λ r among low. (let y = reads r among low in (y.0, inl y.1, y.2));
  keeps = λ one. ⊎_elim (λ (e : x.keeping ≡ v.keeping). inl e) (λ (e : x.keeping ≡ no_keeping). absurd (zero_one x.keeping.right (ap (λ (z : Keeping). z.right) e) one)) keeping;
}

first_among : (rs : List Reading) (r : Reading) → Among r (first_reading rs) → Among r rs
first_among [] r a = absurd a
first_among (x ∷ rs) r (inl e) = inl e
first_among (x ∷ rs) r (inr a) = absurd a

others_among : (rs : List Reading) (r : Reading) → Among r (other_readings rs) → Among r rs
others_among [] r a = absurd a
others_among (x ∷ rs) r a = inr a

knows_number : (fs : List FrameWords) (rs : List Reading) (r : Reading) → Among r (map (knows_all fs) rs) → (y : Reading) × Among y rs × (y.number ≡ r.number)
knows_number fs [] r a = absurd a
knows_number fs (x ∷ rs) r (inl e) = (x, inl refl, ap (λ (z : Reading). z.number) (sym e))
knows_number fs (x ∷ rs) r (inr a) = let y = knows_number fs rs r a in (y.0, inr y.1, y.2)

pub itself : (rs : List Reading) (r : Reading) → Among r rs → r.number < 8 → (y : Reading) × Among y rs × (y.number ≡ r.number)
itself rs r a low = (r, a, refl)

-- two that have the claims and frames of another two
pub both_sums : (v w b x : Pass) → b.right.claims ≡ v.right.claims ++ w.right.claims → b.work.frames ≡ v.work.frames ++ w.work.frames → v.right.armed ≡ 0 → w.right.armed ≡ 0 → b.right.armed ≡ 0 → x.right.claims ≡ [] → x.work.frames ≡ [] → x.right.armed ≡ 0 → Sums v w b x
both_sums v w b x claims frames av aw ab cx fx ax = (
  λ h. sums (weight h b) (weight h v) (weight h w) (weight h x) (ap (λ cs. total h (map entry_of cs)) claims ∙ ap (total h) (maps_append entry_of v.right.claims w.right.claims) ∙ total_append h (entries_of v) (entries_of w)) (ap (λ cs. total h (map entry_of cs)) cx),
  λ h. sums (committed_weight h b) (committed_weight h v) (committed_weight h w) (committed_weight h x) (ap (total h) frames ∙ total_append h v.work.frames w.work.frames) (ap (total h) fx),
  λ n. nones (armed_as n b) (armed_as n x) (armed_as n v) (armed_as n w) (armed_none n b ab) (armed_none n x ax) (armed_none n v av) (armed_none n w aw),
)
  where
    sums : (b v w x : ℕ) → b ≡ v + w → x ≡ 0 → b + x ≡ v + w
    sums b v w x e z = omega arith

    nones : (a b c d : ℕ) → a ≡ 0 → b ≡ 0 → c ≡ 0 → d ≡ 0 → a + b ≡ c + d
    nones a b c d p q r s = omega arith

-- one that has all of it, and one that has nothing
all_parts : (v l r : Pass) → l.right.claims ≡ v.right.claims → l.work.frames ≡ v.work.frames → l.right.armed ≡ v.right.armed → l.number ≡ v.number → r.right.claims ≡ [] → r.work.frames ≡ [] → r.right.armed ≡ 0 → Parts v l r
all_parts v l r cl fl al nl cr fr ar = (
  λ h. sums (weight h l) (weight h v) (weight h r) (ap (λ cs. total h (map entry_of cs)) cl) (ap (λ cs. total h (map entry_of cs)) cr),
  λ h. sums (committed_weight h l) (committed_weight h v) (committed_weight h r) (ap (total h) fl) (ap (total h) fr),
  λ n. sums (armed_as n l) (armed_as n v) (armed_as n r) (λ i. cond (eqb (nl i) n) (al i) 0) (armed_none n r ar),
)
  where
    sums : (l v r : ℕ) → l ≡ v → r ≡ 0 → l + r ≡ v
    sums l v r e z = omega arith

none_parts : (v l r : Pass) → l.right.claims ≡ v.right.claims → l.work.frames ≡ v.work.frames → v.right.armed ≡ 0 → l.right.armed ≡ 0 → r.right.claims ≡ [] → r.work.frames ≡ [] → r.right.armed ≡ 0 → Parts v l r
none_parts v l r cl fl av al cr fr ar = (
  λ h. sums (weight h l) (weight h v) (weight h r) (ap (λ cs. total h (map entry_of cs)) cl) (ap (λ cs. total h (map entry_of cs)) cr),
  λ h. sums (committed_weight h l) (committed_weight h v) (committed_weight h r) (ap (total h) fl) (ap (total h) fr),
  λ n. sums (armed_as n l) (armed_as n v) (armed_as n r) (armed_none n l al ∙ sym (armed_none n v av)) (armed_none n r ar),
)
  where
    sums : (l v r : ℕ) → l ≡ v → r ≡ 0 → l + r ≡ v
    sums l v r e z = omega arith

-- one that is told, or brings, no more than readings
told_sums : (v w b x : Pass) → b.right.claims ≡ v.right.claims → b.work.frames ≡ v.work.frames → b.right.armed ≡ v.right.armed → b.number ≡ v.number → w.right.claims ≡ [] → w.work.frames ≡ [] → w.right.armed ≡ 0 → x.right.claims ≡ [] → x.work.frames ≡ [] → x.right.armed ≡ 0 → Sums v w b x
told_sums v w b x cb fb ab nb cw fw aw cx fx ax = (
  λ h. sums (weight h b) (weight h x) (weight h v) (weight h w) (ap (λ cs. total h (map entry_of cs)) cb) (ap (λ cs. total h (map entry_of cs)) cx) (ap (λ cs. total h (map entry_of cs)) cw),
  λ h. sums (committed_weight h b) (committed_weight h x) (committed_weight h v) (committed_weight h w) (ap (total h) fb) (ap (total h) fx) (ap (total h) fw),
  λ n. sums (armed_as n b) (armed_as n x) (armed_as n v) (armed_as n w) (λ i. cond (eqb (nb i) n) (ab i) 0) (armed_none n x ax) (armed_none n w aw),
)
  where
    sums : (b x v w : ℕ) → b ≡ v → x ≡ 0 → w ≡ 0 → b + x ≡ v + w
    sums b x v w e z y = omega arith

-- two that were one
parted_again : (v p q l r : Pass) → v.right.claims ≡ p.right.claims ++ q.right.claims → v.work.frames ≡ p.work.frames ++ q.work.frames → v.right.armed ≡ 0 → l.right.claims ≡ p.right.claims → l.work.frames ≡ p.work.frames → l.right.armed ≡ 0 → r.right.claims ≡ q.right.claims → r.work.frames ≡ q.work.frames → r.right.armed ≡ 0 → Parts v l r
parted_again v p q l r cv fv av cl fl al cr fr ar = (
  λ h. sums (weight h l) (weight h r) (weight h v) (weight h p) (weight h q) (ap (λ cs. total h (map entry_of cs)) cl) (ap (λ cs. total h (map entry_of cs)) cr) (ap (λ cs. total h (map entry_of cs)) cv ∙ ap (total h) (maps_append entry_of p.right.claims q.right.claims) ∙ total_append h (entries_of p) (entries_of q)),
  λ h. sums (committed_weight h l) (committed_weight h r) (committed_weight h v) (committed_weight h p) (committed_weight h q) (ap (total h) fl) (ap (total h) fr) (ap (total h) fv ∙ total_append h p.work.frames q.work.frames),
  λ n. nones (armed_as n l) (armed_as n r) (armed_as n v) (armed_none n l al) (armed_none n r ar) (armed_none n v av),
)
  where
    sums : (l r v p q : ℕ) → l ≡ p → r ≡ q → v ≡ p + q → l + r ≡ v
    sums l r v p q a b c = omega arith

    nones : (a b c : ℕ) → a ≡ 0 → b ≡ 0 → c ≡ 0 → a + b ≡ c
    nones a b c p q r = omega arith

-- one that has nothing, and one that has all of it
moved_parts : (v l : Pass) → l.right.claims ≡ [] → l.work.frames ≡ [] → l.right.armed ≡ 0 → Parts v l v
moved_parts v l cl fl al = (
  λ h. sums (weight h l) (weight h v) (ap (λ cs. total h (map entry_of cs)) cl),
  λ h. sums (committed_weight h l) (committed_weight h v) (ap (total h) fl),
  λ n. sums (armed_as n l) (armed_as n v) (armed_none n l al),
)
  where
    sums : (l v : ℕ) → l ≡ 0 → l + v ≡ v
    sums l v z = omega arith

moved_sums : (v w x : Pass) → v.right.claims ≡ [] → v.work.frames ≡ [] → v.right.armed ≡ 0 → x.right.claims ≡ [] → x.work.frames ≡ [] → x.right.armed ≡ 0 → Sums v w w x
moved_sums v w x cv fv av cx fx ax = (
  λ h. sums (weight h v) (weight h w) (weight h x) (ap (λ cs. total h (map entry_of cs)) cv) (ap (λ cs. total h (map entry_of cs)) cx),
  λ h. sums (committed_weight h v) (committed_weight h w) (committed_weight h x) (ap (total h) fv) (ap (total h) fx),
  λ n. sums (armed_as n v) (armed_as n w) (armed_as n x) (armed_none n v av) (armed_none n x ax),
)
  where
    sums : (v w x : ℕ) → v ≡ 0 → x ≡ 0 → w + x ≡ v + w
    sums v w x a b = omega arith

-- a number that is no consumer's
no_consumer : (r x : Reading) → r ≡ x → x.number ≡ 8 → r.number < 8 → ⊥
no_consumer r x e eight low = let same : r.number ≡ x.number = ap (λ (z : Reading). z.number) e in omega arith

module _ (key : Key) (gone : List ℕ) (s t : State (Unit {0}) View) (l : Log) (q : LogRuled key t) (k : IsModelOf key gone s l) where
  pub seats : SeatsMove key s t → IsModelOf key gone t l
  seats (deal_publisher v idle none d) = split_seat key gone s t l q k v (dealing_seat v) (dealt_seat v) d (none_parts v.pass (dealer v.pass) (dealt v.pass) refl refl idle idle refl refl refl) (has_of v.pass (dealer v.pass) (itself v.pass.reading) (inl refl) v.pass) (has_nothing v.pass v.pass (dealt v.pass) refl refl)
  seats (deal_reader v d) = split_seat key gone s t l q k v (reader_left v) (reader_right v) d (all_parts v.pass (reader_left v).pass (reader_right v).pass refl refl refl refl refl refl refl) (has_of v.pass (reader_left v).pass (λ r a low. (r, others_among v.pass.reading r a, refl)) (inl refl) v.pass) (has_of v.pass (reader_right v).pass (λ r a low. (r, first_among v.pass.reading r a, refl)) (inr refl) v.pass)
  seats (deal_keeper v d) = split_seat key gone s t l q k v (keeper_left v) (keeper_right v) d (all_parts v.pass (keeper_left v).pass (keeper_right v).pass refl refl refl refl refl refl refl) (has_of v.pass (keeper_left v).pass (itself v.pass.reading) (inr refl) v.pass) (has_of v.pass (keeper_right v).pass (λ r a low. absurd a) (inl refl) v.pass)
  seats (tell_news v d) = split_seat key gone s t l q k v (news_left v) (news_right v) d (all_parts v.pass v.pass (news_right v).pass refl refl refl refl refl refl refl) (has_of v.pass v.pass (itself v.pass.reading) (inl refl) v.pass) (has_of v.pass (news_right v).pass (λ r a low. ⊎_elim (λ e. absurd (no_consumer r _ e refl low)) (λ b. absurd b) a) (inr refl) v.pass)
  seats (tell_known v d) = split_seat key gone s t l q k v (news_left v) (knowledge_right v) d (all_parts v.pass v.pass (knowledge_right v).pass refl refl refl refl refl refl refl) (has_of v.pass v.pass (itself v.pass.reading) (inl refl) v.pass) (has_of v.pass (knowledge_right v).pass (λ r a low. ⊎_elim (λ e. absurd (no_consumer r _ e refl low)) (λ b. absurd b) a) (inr refl) v.pass)
  seats (tell v w e d) = join_seat key gone s t l q k v w (told_seat v w) (spent_seat key.identity key.start) d (told_sums v.pass w.pass (told_seat v w).pass (spent_seat key.identity key.start).pass refl refl refl refl (ap (λ (p : Pass). p.right.claims) e) (ap (λ (p : Pass). p.work.frames) e) (ap (λ (p : Pass). p.right.armed) e) refl refl refl)
      (has_of v.pass (told_seat v w).pass (λ r a low. knows_number (all_known w.pass.reading) v.pass.reading r a) (inl refl) w.pass) (has_nothing v.pass w.pass (spent_seat key.identity key.start).pass refl refl)
  seats (return v w c e d) = join_seat key gone s t l q k v w (returned_seat v w) (spent_seat key.identity key.start) d (told_sums v.pass w.pass (returned_seat v w).pass (spent_seat key.identity key.start).pass refl refl refl refl (ap (λ (p : Pass). p.right.claims) e) (ap (λ (p : Pass). p.work.frames) e) (ap (λ (p : Pass). p.right.armed) e) refl refl refl)
      record { reads = λ r a low. ⊎_elim (λ (b : Among r w.pass.reading). (r, inr b, refl)) (λ (b : Among r v.pass.reading). (r, inl b, refl)) (among_cases r w.pass.reading v.pass.reading a); keeps = λ one. inl refl } (has_nothing v.pass w.pass (spent_seat key.identity key.start).pass refl refl)
  seats (gather v w av aw d) = join_seat key gone s t l q k v w (both_seats v w) (spent_seat key.identity key.start) d (both_sums v.pass w.pass (both v.pass w.pass) (spent_seat key.identity key.start).pass refl refl av aw av refl refl refl)
      (has_of v.pass (both v.pass w.pass) (itself v.pass.reading) (inl refl) w.pass) (has_nothing v.pass w.pass (spent_seat key.identity key.start).pass refl refl)
  seats (meet v w av aw d) = join_seat key gone s t l q k v w (meeting_seats v w) (spent_seat key.identity key.start) d (both_sums v.pass w.pass (meeting v.pass w.pass) (spent_seat key.identity key.start).pass refl refl av aw av refl refl refl)
      record { reads = λ r a low. ⊎_elim (λ (b : Among r v.pass.reading). (r, inl b, refl)) (λ (b : Among r w.pass.reading). (r, inr b, refl)) (among_cases r v.pass.reading w.pass.reading a); keeps = λ one. inl refl } (has_nothing v.pass w.pass (spent_seat key.identity key.start).pass refl refl)
  seats (part_again v shown p p' e ap' aq kq d) = split_seat key gone s t l q k v (back_left p v) (back_right p' v) d
      (parted_again v.pass p p' (back_left p v).pass (back_right p' v).pass (ap (λ (z : Pass). z.right.claims) e) (ap (λ (z : Pass). z.work.frames) e) (ap (λ (z : Pass). z.right.armed) e ∙ ap') refl refl ap' refl refl aq)
      (has_of v.pass (back_left p v).pass (λ r a low. (r, subst (λ (rs : List Reading). Among r rs) (ap (λ (z : Pass). z.reading) (sym e)) (among_left r p.reading p'.reading a), refl)) (inl (ap (λ (z : Pass). z.keeping) (sym e))) v.pass)
      (has_of v.pass (back_right p' v).pass (λ r a low. (r, subst (λ (rs : List Reading). Among r rs) (ap (λ (z : Pass). z.reading) (sym e)) (among_right r p.reading p'.reading a), refl)) (inr kq) v.pass)
  seats (renumber v number idle d) = split_seat key gone s t l q k v (numbered_seat number v) (spent_seat v.pass.identity v.pass.start) d (none_parts v.pass (numbered_seat number v).pass (spent_seat v.pass.identity v.pass.start).pass refl refl idle idle refl refl refl) (has_of v.pass (numbered_seat number v).pass (itself v.pass.reading) (inl refl) v.pass) (has_nothing v.pass v.pass (spent_seat v.pass.identity v.pass.start).pass refl refl)
  seats (lift v d) = split_seat key gone s t l q k v (new_seat (newcomer v.pass.identity v.pass.start 0 0)) (new_seat v.pass) d (moved_parts v.pass (newcomer v.pass.identity v.pass.start 0 0) refl refl refl) (has_nothing v.pass v.pass (newcomer v.pass.identity v.pass.start 0 0) refl refl) (has_of v.pass v.pass (itself v.pass.reading) (inl refl) v.pass)
  seats (lower v w e kw d) = join_seat key gone s t l q k v w (new_seat w.pass) (spent_seat key.identity key.start) d (moved_sums v.pass w.pass (spent_seat key.identity key.start).pass (ap (λ (z : Pass). z.right.claims) e) (ap (λ (z : Pass). z.work.frames) e) (ap (λ (z : Pass). z.right.armed) e) refl refl refl)
      record { reads = λ r a low. (r, inr a, refl); keeps = λ one. inr refl } (has_nothing v.pass w.pass (spent_seat key.identity key.start).pass refl refl)
