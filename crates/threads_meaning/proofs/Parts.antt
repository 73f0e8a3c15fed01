-- The parts of a log of the model: its numbers, its entries as they are kept, and where its tail is open.
use Rattle.std.proofs.Common.{◌≡◌, ◌≢◌, inr, ℕ, zero, suc, ◌+◌, ◌*◌, ◌/◌, ◌%◌, ◌^◌, ◌<◌, ◌≤◌, Bool, true, false, cond, eqb, List, [], ◌∷◌, map, set, sym, refl, ap, ◌∙◌, subst, lt_of_not-le, eq-eqb, ne_eqb, lt-ltb, arith}
use mathlib.Core.Option.{some}
use mathlib.Core.Logic.{dite}
use native.Mathlib.Decide.{dec_le, ℕ_discrete}
use lib.ListN.{get_elem?}
use Rattle.std.specs.Prelude.{slice_index, slice_get, slice_set, nat_lt, Option, Some}
use Rattle.std.proofs.lemmas.Option.{none-some}
use Rattle.atomic_table.specs.Table.{State}
use Rattle.theory.specs.Bytes.{Identity}
use Rattle.theory.specs.Consumer.{Consumer}
use Rattle.theory.specs.Placed.{Among, IsReached, Placed}
use Rattle.theory.specs.Position.{Geometry}
use Rattle.theory.specs.Tiling.{Tiles}
use Rattle.theory.specs.Words.{offset_in}
use Rattle.theory.proofs.Lists.{all_weaker}
use Rattle.theory.proofs.Places.{power_unit}
use Rattle.publication.specs.declared.pass.Pass.{Pass}
use Rattle.publication.specs.Steps.{count_in}
use Rattle.log_rule.specs.declared.claims.view.View.{View}
use Rattle.log_rule.specs.declared.rule.Key.{Key}
use Rattle.log_rule.specs.Claims.Packs.{limit_place, tail_place}
use Rattle.log_rule.specs.Claims.Plays.{pass_in}
use Rattle.log_rule.specs.Claims.Rule.{Bounds, first_of}
use Rattle.log_rule.specs.Claims.Sums.{total}
use Rattle.log_rule.specs.Says.{tail_shown}
use Rattle.log_rule.specs.Table.{LogRuled, now_at}
use Rattle.log_rule.proofs.Claimed.Looks.{ends_at, narrow, newest_of}
use Rattle.log_rule.proofs.Claimed.Shown.{count_is, greatest_is}
use Rattle.log_rule.proofs.Claimed.Tails.{shows}
use Rattle.log_rule.proofs.Owning.{one_claims}
use Rattle.model.specs.Log.{Log}
use Rattle.model.proofs.LogSteps.{IsSized, KeptLog}
use Rattle.threads_meaning.specs.Modelled.{ArePublishers, AreReaders, IsModelOf, KeepsReaders, armed_as, is_handed}
use Rattle.publication.specs.declared.pass.Keeping.{Keeping}
use Rattle.log_rule.proofs.Claimed.Totals.{total_at}
use Rattle.log_rule.proofs.Claimed.Whole.{set_at}
use Rattle.threads_meaning.proofs.Totals.{total_alone, total_kept}

-- ---- lists

pub get_put : {A : Type 0} (xs : List A) (k : ℕ) (x y : A) → slice_get xs k ≡ Some y → slice_get (slice_set xs k x) k ≡ Some x
get_put [] k x y e = absurd (none-some y e)
get_put (z ∷ xs) zero x y e = refl
get_put (z ∷ xs) (suc k) x y e = get_put xs k x y e

pub get_else : {A : Type 0} (xs : List A) (k j : ℕ) (x : A) → j ≢ k → slice_get (slice_set xs k x) j ≡ slice_get xs j
get_else [] k j x ne = refl
get_else (z ∷ xs) zero zero x ne = absurd (ne refl)
get_else (z ∷ xs) zero (suc j) x ne = refl
get_else (z ∷ xs) (suc k) zero x ne = refl
get_else (z ∷ xs) (suc k) (suc j) x ne = get_else xs k j x (λ e. ne (ap suc e))

-- ---- numbers

pub armed_mine : (v : Pass) → armed_as v.number v ≡ v.right.armed
armed_mine v = ap (λ (b : Bool). cond b v.right.armed 0) (eq-eqb v.number v.number refl)

pub armed_other : (n : ℕ) (v : Pass) → v.number ≢ n → armed_as n v ≡ 0
armed_other n v ne = ap (λ (b : Bool). cond b v.right.armed 0) (ne_eqb v.number n ne)

pub armed_none : (n : ℕ) (v : Pass) → v.right.armed ≡ 0 → armed_as n v ≡ 0
armed_none n v none = zeros (eqb v.number n) v.right.armed none
  where
    zeros : (b : Bool) (m : ℕ) → m ≡ 0 → cond b m 0 ≡ 0
    zeros true m e = e
    zeros false m e = refl

module _ (key : Key) (s : State (Unit {0}) View) (q : LogRuled key s) where
  -- no other pass may add under the number of one that may
  pub others_idle : (id : ℕ) (v : Pass) → get_elem? (map pass_in s.views) id ≡ some v → v.right.armed ≡ 1 → (j : ℕ) (u : Pass) → j ≢ id → get_elem? (map pass_in s.views) j ≡ some u → armed_as v.number u ≡ 0
  others_idle id v at one j u ne there =
      let b : Bounds = now_at key (slice_index s.words limit_place) q.cleaned in let c = q.ruled.claims in
      dite (ℕ_discrete u.number v.number)
      (λ same. dite (dec_le 1 u.right.armed)
      (λ pos. let once = (c.each j u there).right.once in absurd (ne (one_claims b s.words (map pass_in s.views) c q.numbered v.number j id u v there at (inr (most u.right.armed pos once, same)) (inr (one, refl)))))
      (λ none. armed_none v.number u (least u.right.armed (lt_of_not-le none))))
      (λ differs. armed_other v.number u differs)
    where
      most : (n : ℕ) → 1 ≤ n → n ≤ 1 → n ≡ 1
      most n le ge = omega arith

      least : (n : ℕ) → n < 1 → n ≡ 0
      least n lt = omega arith

  -- its entries are kept as the model keeps them
  pub kept_entries : (gone : List ℕ) (l : Log) → IsModelOf key gone s l → KeptLog l.identity l.start l.tail l.entries []
  kept_entries gone l k =
      let g = q.ruled.claims.sound.geometry in let same : l.identity ≡ key.identity = k.identity in record {
        sized = subst (λ (i : Identity). IsSized i.geometry) (sym same) (let least = g.term.least in let mtu = g.mtu.least in record { term = omega arith; term_unit = power_unit key.identity.geometry.term_length g.term.power g.term.least; payload = omega arith });
        start_unit = subst (λ (x : ℕ). x % 32 ≡ 0) (sym k.start) q.ruled.claims.sound.unit;
        tiles = subst (λ (i : Identity). Tiles i.geometry.term_length l.start l.tail l.entries) (sym same) k.entries.tiles;
        entries = k.entries.are;
        readers = tt;
      }

  -- a raw tail below its term's end is that of the newest term, where the stream ends
  pub record IsAtTail (n : ℕ) : Type 0 where
    pub tail : tail_shown key.identity.geometry s.words ≡ count_in key.identity.geometry n * key.identity.geometry.term_length + offset_in n
    pub small : count_in key.identity.geometry n < 2 ^ 31

  pub at_tail : (p : ℕ) → key.start / key.identity.geometry.term_length ≤ p → p ≤ q.ruled.claims.terms.newest → offset_in (slice_index s.words (tail_place p)) < key.identity.geometry.term_length → IsAtTail (slice_index s.words (tail_place p))
  at_tail p from to short =
      let b : Bounds = now_at key (slice_index s.words limit_place) q.cleaned in let ws : List ℕ = s.words in let ps : List Pass = map pass_in s.views in let c = q.ruled.claims in let t = c.terms in let g : Geometry = key.identity.geometry in
      let n : ℕ = slice_index ws (tail_place p) in
      let nar = narrow b ws ps c in let sh = shows g (first_of b) t ws c.sound.geometry.initial c.tailed nar p to in
      let up = sh.up in let low = sh.low in let last = c.tailed.turns.to in let small : sh.k < 2 ^ 31 = omega arith in
      let count : count_in g n ≡ sh.k = count_is g n sh.k c.sound.geometry small sh.id in
      let off : offset_in n ≡ t.offset sh.k = sh.off in
      let room : t.offset sh.k < g.term_length = subst (λ (x : ℕ). x < g.term_length) off short in
      let top : sh.k ≡ t.newest = newest_of g (first_of b) t c.tailed.turns sh.k (omega arith) low room in
      record {
        tail = greatest_is g (first_of b) t ws c.sound.geometry c.tailed nar ∙ ends_at g t sh.k (offset_in n) top off short ∙ ap (λ (x : ℕ). x * g.term_length + offset_in n) (sym count);
        small = subst (λ (x : ℕ). x < 2 ^ 31) (sym count) small;
      }

-- ---- consumers, where more frames are committed

pub reached_more : (frames more : List Placed) → ((s : Placed) → Among s frames → Among s more) → (start at : ℕ) → IsReached frames start at → IsReached more start at
reached_more frames more keeps start at r = record { read = r.read; chain = r.chain; among = all_weaker (λ s. Among s frames) (λ s. Among s more) keeps r.read r.among }

pub keeps_more : (frames more : List Placed) → ((s : Placed) → Among s frames → Among s more) → (start cleaned : ℕ) (readers : List (Option Consumer)) (k : Keeping) → KeepsReaders start cleaned frames readers k → KeepsReaders start cleaned more readers k
keeps_more frames more keeps start cleaned readers k y = record { cleaned_to = y.cleaned_to; taken = y.taken; free = y.free; seen = λ number low there. reached_more frames more keeps start _ (y.seen number low there) }

pub readers_more : (frames more : List Placed) → ((s : Placed) → Among s frames → Among s more) → (words : List ℕ) (ps : List Pass) (start cleaned : ℕ) (readers : List (Option Consumer)) → AreReaders words ps start cleaned frames readers → AreReaders words ps start cleaned more readers
readers_more frames more keeps words ps start cleaned readers a = record {
  eight = a.eight;
  standing = λ number c there. (let t = a.standing number c there in record { at = t.at; heard = t.heard; reached = reached_more frames more keeps start c.at t.reached });
  mine = a.mine;
  keeper = λ i v at right. keeps_more frames more keeps start cleaned readers v.keeping (a.keeper i v at right);
}

-- ---- who may add, where one pass changes

pub armed_on : (gone : List ℕ) (ps : List Pass) (armed retired : List Bool) → ArePublishers gone ps armed retired → (id : ℕ) (v w : Pass) → get_elem? ps id ≡ some v → w.number ≡ v.number → v.number < 8 → w.right.armed ≡ 1 → is_handed gone v.number ≡ false → ArePublishers gone (set ps id w) (slice_set armed v.number true) retired
armed_on gone ps armed retired a id v w at same low one living =
    let by : ℕ = v.number in let qs : List Pass = set ps id w in
    let mine : armed_as by w ≡ 1 = ap (λ (n : ℕ). armed_as n w) (sym same) ∙ armed_mine w ∙ one in
    let some' : 0 < total (armed_as by) qs = positive (armed_as by w) (total (armed_as by) qs) mine (total_at (armed_as by) qs id w (set_at ps id v w at)) in
    record {
      are_armed = λ n lt. dite (ℕ_discrete n by)
          (λ is. ap (slice_get (slice_set armed by true)) is ∙ get_put armed by true _ (a.are_armed by low) ∙ ap Some (sym (lt-ltb 0 (total (armed_as by) qs) some')) ∙ ap (λ (x : ℕ). Some (nat_lt 0 (total (armed_as x) qs))) (sym is))
          (λ ne. get_else armed by n true ne ∙ a.are_armed n lt ∙ ap (λ (x : ℕ). Some (nat_lt 0 x)) (sym (total_kept (armed_as n) ps id v w at (armed_other n w (λ e. ne (sym e ∙ same)) ∙ sym (armed_other n v (λ e. ne (sym e)))))));
      are_retired = a.are_retired;
      living = λ n lt pos. dite (ℕ_discrete n by)
          (λ is. ap (is_handed gone) is ∙ living)
          (λ ne. a.living n lt (subst (λ (x : ℕ). 0 < x) (total_kept (armed_as n) ps id v w at (armed_other n w (λ e. ne (sym e ∙ same)) ∙ sym (armed_other n v (λ e. ne (sym e))))) pos));
    }
  where
    positive : (m t : ℕ) → m ≡ 1 → m ≤ t → 0 < t
    positive m t e le = omega arith

pub armed_off : (gone : List ℕ) (ps : List Pass) (armed retired : List Bool) → ArePublishers gone ps armed retired → (id : ℕ) (v w : Pass) → get_elem? ps id ≡ some v → w.number ≡ v.number → v.number < 8 → w.right.armed ≡ 0 → ((j : ℕ) (u : Pass) → j ≢ id → get_elem? ps j ≡ some u → armed_as v.number u ≡ 0)
    → ArePublishers gone (set ps id w) (slice_set armed v.number false) retired
armed_off gone ps armed retired a id v w at same low none others =
    let by : ℕ = v.number in let qs : List Pass = set ps id w in
    let all : total (armed_as by) qs ≡ 0 = total_alone (armed_as by) ps id v w at others ∙ armed_none by w none in
    record {
      are_armed = λ n lt. dite (ℕ_discrete n by)
          (λ is. ap (slice_get (slice_set armed by false)) is ∙ get_put armed by false _ (a.are_armed by low) ∙ ap (λ (x : ℕ). Some (nat_lt 0 x)) (sym all) ∙ ap (λ (x : ℕ). Some (nat_lt 0 (total (armed_as x) qs))) (sym is))
          (λ ne. get_else armed by n false ne ∙ a.are_armed n lt ∙ ap (λ (x : ℕ). Some (nat_lt 0 x)) (sym (total_kept (armed_as n) ps id v w at (armed_other n w (λ e. ne (sym e ∙ same)) ∙ sym (armed_other n v (λ e. ne (sym e)))))));
      are_retired = a.are_retired;
      living = λ n lt pos. dite (ℕ_discrete n by)
          (λ is. absurd (empty (total (armed_as n) qs) pos (ap (λ (x : ℕ). total (armed_as x) qs) is ∙ all)))
          (λ ne. a.living n lt (subst (λ (x : ℕ). 0 < x) (total_kept (armed_as n) ps id v w at (armed_other n w (λ e. ne (sym e ∙ same)) ∙ sym (armed_other n v (λ e. ne (sym e))))) pos));
    }
  where
    empty : (t : ℕ) → 0 < t → t ≡ 0 → ⊥
    empty t pos e = omega arith

-- the model says that a pass which may add is armed
pub is_armed : (gone : List ℕ) (ps : List Pass) (armed retired : List Bool) → ArePublishers gone ps armed retired → (id : ℕ) (v : Pass) → get_elem? ps id ≡ some v → v.number < 8 → v.right.armed ≡ 1 → slice_get armed v.number ≡ Some true
is_armed gone ps armed retired a id v at low one =
    let by : ℕ = v.number in a.are_armed by low ∙ ap Some (lt-ltb 0 (total (armed_as by) ps) (positive (armed_as by v) (total (armed_as by) ps) (armed_mine v ∙ one) (total_at (armed_as by) ps id v at)))
  where
    positive : (m t : ℕ) → m ≡ 1 → m ≤ t → 0 < t
    positive m t e le = omega arith

pub is_living : (gone : List ℕ) (ps : List Pass) (armed retired : List Bool) → ArePublishers gone ps armed retired → (id : ℕ) (v : Pass) → get_elem? ps id ≡ some v → v.number < 8 → v.right.armed ≡ 1 → slice_get retired v.number ≡ Some false
is_living gone ps armed retired a id v at low one =
    let by : ℕ = v.number in a.are_retired by low ∙ ap Some (a.living by low (positive (armed_as by v) (total (armed_as by) ps) (armed_mine v ∙ one) (total_at (armed_as by) ps id v at)))
  where
    positive : (m t : ℕ) → m ≡ 1 → m ≤ t → 0 < t
    positive m t e le = omega arith
