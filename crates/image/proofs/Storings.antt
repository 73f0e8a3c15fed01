-- A frame is stored, step by step.
use Rattle.std.proofs.Common.{◌≡◌, ℕ, suc, ◌+◌, ◌-◌, ◌%◌, inl, min, List, [], ◌∷◌, sym, ap, ◌∙◌, subst, arith}
use Rattle.std.specs.Prelude.{bit_or, slice_index, slice_set}
use Rattle.region.specs.declared.access.ReadAccess.{ReadAccess}
use Rattle.image_rule.specs.declared.view.Frame.{Frame}
use Rattle.image_rule.specs.declared.view.Key.{Key}
use Rattle.image_rule.specs.declared.view.Site.{Site}
use Rattle.image_rule.specs.declared.view.View.{View}
use Rattle.image_rule.specs.Frames.{IsPart, held_place, ring}
use Rattle.image_rule.specs.Bits.{IsExact, IsMask, Marked, MayInsert, Stored, next_word, rest_end}
use Rattle.image_rule.specs.Rule.{IsKey, IsPartAt}
use Rattle.image_rule.specs.Steps.{Carries, Commits, MayCommit, MayStore, MayTake, Mine, TakenOver, TakesSlots, with_out}
use Rattle.image_rule.proofs.Storing.{exact_with, may_on, may_store_now, stored_now}
use Rattle.image.specs.Parts.{AnyPart}
use Rattle.image.proofs.Turned.{any_parts}

-- ---- the store of its first bits

module _ (key : Key) (is : IsKey key) (v w : View) (f : Frame) (one : v.inserting ≡ 1) (may : MayInsert key v.held f) (a : Marked key v f (next_word f) (rest_end f) v) (place count old m : ℕ) (there : place ≡ held_place (ring key) f.unit) (counted : count ≡ min f.units (64 - f.unit % 64)) (fetched : old ≡ slice_index v.held.words place) (same : w ≡ v) (mask : IsMask m (f.unit % 64) (f.unit % 64 + count)) where
  its_mask : IsMask m (f.unit % 64) (f.unit % 64 + min f.units (64 - f.unit % 64))
  its_mask = subst (λ (n : ℕ). IsMask m (f.unit % 64) (f.unit % 64 + n)) counted mask

  word_is : bit_or (slice_index v.held.words (held_place (ring key) f.unit)) m ≡ bit_or old m
  word_is = ap (λ (n : ℕ). bit_or n m) (sym (fetched ∙ ap (slice_index v.held.words) there))

  pub first_store : MayStore key w.held f place (bit_or old m)
  first_store = subst (λ (x : View × ℕ × ℕ). MayStore key x.0.held f x.1 x.2) (λ j. (sym same j, sym there j, word_is j)) (may_store_now key is v f one may a.marked a.started a.sound m its_mask)

  pub first_stored : (mine : List (ℕ × ReadAccess)) (k : ℕ) (y : Mine) → k ≡ place → Commits k f (w, mine) (bit_or old m) y → Stored key v f y.0
  first_stored mine k y at told =
      stored_now key is v f one may a.marked a.started a.sound y.0 record {
        bits = m;
        mask = its_mask;
        after = told.0 ∙ (λ j. record (same j) { held = record (same j).held { floor = (same j).held.floor; got = f ∷ (same j).held.got; words = slice_set (same j).held.words ((at ∙ there) j) (sym word_is j); out = 0 } });
      }

-- ---- the slots between

-- what is carried stays
pub commit_on : (t : Site) (f : Frame) (m n : Mine) → n.0.held.out ≡ m.0.held.out → n.1 ≡ m.1 → MayCommit t f m → MayCommit t f n
commit_on t f m n out mine may = record { out = out ∙ may.out; round = may.round; book = may.book; carries = subst (Carries t (IsPart (ring t.key) t.region f may.round may.book) f.unit) (sym mine) may.carries }

-- its slots may be taken
pub may_take : (key : Key) (v : View) (f : Frame) → v.inserting ≡ 1 → v.held.out ≡ 0 → IsExact key v.held → MayInsert key v.held f → MayTake key v f.unit
may_take key v f one idle exact may =
    let full = may.full in let near = may.near in record {
      inserts = one;
      idle = idle;
      from = may.from;
      near = omega arith;
      left = inl (λ s. may.free f.unit (omega arith, omega arith) (let n = exact.sound.full s.frame s.among in let h = s.here in record { frame = s.frame; among = s.among; covers = (omega arith, omega arith) }));
    }

module _ (t : Site) (key : Key) (v : View) (mine : List (ℕ × ReadAccess)) (x : Mine) (y : View) (u : ℕ) (none : mine ≡ []) (taken : TakesSlots t u (v, mine) x) (same : y ≡ x.0) where
  pub slots_taken : Carries t AnyPart u x.1
  slots_taken = any_parts t (IsPartAt t v.held taken.rounds u) u 8 [] x.1 (subst (λ (l : List (ℕ × ReadAccess)). TakenOver t (IsPartAt t v.held taken.rounds u) u 8 l x.1) none taken.carries)

  out_view : y ≡ with_out v (suc u)
  out_view = same ∙ taken.after

  pub exact_out : IsExact key v.held → IsExact key y.held
  exact_out exact = subst (λ (z : View). IsExact key z.held) (sym out_view) (exact_with key v.held (suc u) v.held.freed exact)

  pub may_out : (f : Frame) → MayInsert key v.held f → MayInsert key y.held f
  may_out f may = may_on key v.held y.held f (ap (λ (z : View). z.held.floor) out_view) (ap (λ (z : View). z.held.got) out_view) may

  -- what was stored then was stored
  pub stored_out : (f : Frame) (w : View) → Stored key y f w → Stored key v f w
  stored_out f w s = let e = out_view in record {
    after = s.after ∙ (λ j. record (e j) { held = w.held });
    floor = s.floor ∙ ap (λ (z : View). z.held.floor) e;
    got = s.got ∙ ap (λ (z : View). f ∷ z.held.got) e;
    freed = s.freed ∙ ap (λ (z : View). z.held.freed) e;
    out = s.out;
    exact = s.exact;
  }
