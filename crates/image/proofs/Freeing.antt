-- The memory of frames that all consumers have left is taken back.
use Rattle.std.proofs.Common.{◌≡◌, ℕ, ◌+◌, ◌*◌, ◌/◌, ◌%◌, ◌<◌, ◌≤◌, inr, ⊎_elim, Bool, true, false, List, [], length, refl, sym, ap, ◌∙◌, subst, arith}
use Rattle.std.specs.Prelude.{slice_index}
use Rattle.std.specs.Int.{to_le_bytes, w64}
use Rattle.std.proofs.lemmas.Bool.{cases_lt}
use Rattle.theory.specs.Position.{aligned}
use Rattle.position.specs.declared.head.FrameHead.{FrameHead}
use Rattle.position.specs.Heads.{head_of}
use Rattle.position.specs.Contents.{head_by}
use Rattle.region.specs.declared.access.ReadAccess.{ReadAccess}
use Rattle.region.specs.Identity.{Round}
use Rattle.region.specs.Pooled.{AreAll, stands}
use Rattle.image_rule.specs.declared.view.Frame.{Frame}
use Rattle.image_rule.specs.declared.view.Key.{Key}
use Rattle.image_rule.specs.declared.view.Site.{Site}
use Rattle.image_rule.specs.declared.view.View.{View}
use Rattle.image_rule.specs.Frames.{Among, Has, IsPart, StartsAt, byte_place, end_of, frame_said, ring}
use Rattle.image_rule.specs.Bits.{IsExact, MayRise}
use Rattle.image_rule.specs.Rule.{IsKey, IsPartAt}
use Rattle.image_rule.specs.Steps.{Carries, MayFree, MayTake, Mine, TakenOver, TakesSlots, with_out}
use Rattle.image_rule.proofs.Spelt.{says}
use Rattle.image_rule.proofs.Storing.{exact_with}
use Rattle.image.specs.Memory.{HasMemory, IsNext, found_at}
use Rattle.image.specs.Parts.{AnyPart, part_in}
use Rattle.image.proofs.Finds.{ends_here, short_here}
use Rattle.image.proofs.Memories.{found_there, memory_freed}
use Rattle.image.proofs.Turned.{each_part}

-- ---- the slots of a frame are taken

-- each of them has a part of one round
pub gather_slots : (t : Site) (v : View) (mine : List (ℕ × ReadAccess)) (x : Mine) (u n : ℕ) → mine ≡ [] → TakesSlots t u (v, mine) x → IsNext n v.held u
    → Carries t (IsPart (ring t.key) t.region (found_at x.0.held.got u) (part_in x.1).round.life (part_in x.1).round.book) u x.1
gather_slots t v mine x u n none taken next =
    let f : Frame = found_at v.held.got u in let r : ℕ = (taken.rounds u).0 in let b : ℕ = (taken.rounds u).1 in
    let here = next.here in let past = next.freed in
    let all : TakenOver t (IsPart (ring t.key) t.region f r b) u 8 [] x.1 =
    each_part t (IsPartAt t v.held taken.rounds u) (IsPart (ring t.key) t.region f r b) u 8 [] x.1 (λ g at. at f next.among here (omega (arith, past)))
    (subst (λ (l : List (ℕ × ReadAccess)). TakenOver t (IsPartAt t v.held taken.rounds u) u 8 l x.1) none taken.carries) in
    let first : part_in x.1 ≡ all.0 = ap part_in all.4 in
    let round : (part_in x.1).round ≡ record { life = r; book = b } = ap (λ (g : ReadAccess). g.round) first ∙ all.2.round in
    let got : x.0.held.got ≡ v.held.got = ap (λ (w : View). w.held.got) taken.after in
    subst (λ (y : List Frame × Round). Carries t (IsPart (ring t.key) t.region (found_at y.0 u) y.1.life y.1.book) u x.1) (λ j. (sym got j, sym round j)) all

pub may_take_next : (key : Key) (v : View) (u : ℕ) → v.inserting ≡ 1 → v.held.out ≡ 0 → IsExact key v.held → IsNext (ring key) v.held u → ((j : ℕ) → j < length v.seen → end_of (found_at v.held.got u) ≤ slice_index v.seen j) → MayTake key v u
may_take_next key v u one idle exact next passed = record {
  inserts = one;
  idle = idle;
  from = next.from;
  near = next.near;
  left = inr (λ j lt. let p = passed j lt in let full = exact.sound.full (found_at v.held.got u) next.among in let here = next.here in omega arith);
}

pub may_free : (t : Site) (v : View) (m : Mine) (u n : ℕ) → m.0 ≡ with_out v (u + 1) → v.inserting ≡ 1 → IsNext n v.held u → ((j : ℕ) → j < length v.seen → end_of (found_at v.held.got u) ≤ slice_index v.seen j) → Carries t AnyPart u m.1 → MayFree t (found_at m.0.held.got u) m
may_free t v m u n is one next passed carries =
    let here = next.here in let freed = next.freed in let from = next.from in
    subst (λ (w : View). MayFree t (found_at w.held.got u) (w, m.1)) (sym is) (record {
      inserts = one;
      among = next.among;
      from = omega (arith, here);
      here = here ∙ freed;
      out = omega (arith, here);
      passed = passed;
      carries = subst (λ (k : ℕ). Carries t AnyPart k m.1) (sym here) carries;
    })

-- ---- one after the other

-- what the inserter holds, with memory taken back up to a unit
abbrev pub freed_to : View → ℕ → View
freed_to v at = record v { held = record v.held { freed = at; out = 0 } }

module _ (key : Key) (is : IsKey key) (v x : View) (exact : IsExact key v.held) (at to : ℕ) (free : List Bool) (heads : List ℕ) (same : x ≡ freed_to v at) (memory : HasMemory (ring key) x.held free heads) (rise : MayRise key v to) (reached : (u : ℕ) → v.held.floor ≤ u → u < to → Has v.held.got u) (edge : (f : Frame) → Among f v.held.got → f.unit < to → end_of f ≤ to) (lt : at < to) where
  abbrev w : View
  w = freed_to v at

  mem : HasMemory (ring key) w.held free heads
  mem = subst (λ (y : View). HasMemory (ring key) y.held free heads) same memory

  abbrev f : Frame
  f = found_at v.held.got at

  starts : StartsAt v.held.got at
  starts =
      let h = reached at mem.floor lt in let lo = h.covers.0 in let hi = h.covers.1 in
      ⊎_elim
      (λ (l : h.frame.unit < at). absurd (let e = mem.edge h.frame h.among l in omega arith))
      (λ (l : at ≤ h.frame.unit). record { frame = h.frame; among = h.among; here = omega arith })
      (cases_lt h.frame.unit at)

  found : Among f v.held.got × (f.unit ≡ at)
  found = found_there v.held.got at starts

  next_w : IsNext (ring key) w.held at
  next_w = record { among = found.0; here = found.1; freed = refl; from = mem.floor; near = (let a = rise.near in omega arith) }

  exact_w : IsExact key w.held
  exact_w = exact_with key v.held 0 at exact

  ends_low : end_of f ≤ to
  ends_low = edge f found.0 (let e = found.1 in omega arith)

  pub exact_here : IsExact key x.held
  exact_here = subst (λ (y : View). IsExact key y.held) (sym same) exact_w

  pub next_here : IsNext (ring key) x.held at
  next_here = subst (λ (y : View). IsNext (ring key) y.held at) (sym same) next_w

  pub passed_here : (j : ℕ) → j < length x.seen → end_of (found_at x.held.got at) ≤ slice_index x.seen j
  passed_here = subst (λ (y : View). (j : ℕ) → j < length y.seen → end_of (found_at y.held.got at) ≤ slice_index y.seen j) (sym same) (λ j l. let p = rise.passed j l in let e = ends_low in omega arith)

  pub out_here : AreAll false (byte_place (ring key) (found_at x.held.got at).unit) (32 * (found_at x.held.got at).units) free
  out_here = subst (λ (y : View). AreAll false (byte_place (ring key) (found_at y.held.got at).unit) (32 * (found_at y.held.got at).units) free) (sym same) (mem.bytes f found.0 (let e = found.1 in omega arith)).out

  module _ (place : ℕ) (head : FrameHead) (there : place ≡ at % ring key) (said : head ≡ head_by (32 * at) (to_le_bytes w64 (slice_index heads place))) where
    head_is : head ≡ head_of (32 * at) (frame_said f.bytes)
    head_is =
        let b = mem.bytes f found.0 (let e = found.1 in omega arith) in
        let p : place ≡ f.unit % ring key = there ∙ ap (λ (u : ℕ). u % ring key) (sym found.1) in
        said ∙ ap (λ (k : ℕ). head_by (32 * at) (to_le_bytes w64 (slice_index heads k))) p ∙ ap (head_by (32 * at)) b.head ∙ (says key.identity f (exact.sound.spelt f found.0)).head (32 * at)

    pub short : head.frame_length ≤ 2147483648
    short = short_here f (32 * at) head (says key.identity f (exact.sound.spelt f found.0)) head_is

    pub ends : (size : ℕ) → size ≡ aligned head.frame_length → at + size / 32 ≡ end_of f
    ends size e = ends_here f (32 * at) at size head (says key.identity f (exact.sound.spelt f found.0)) head_is found.1 e

    pub ends_within : (size : ℕ) → size ≡ aligned head.frame_length → at + size / 32 ≤ to
    ends_within size e = let a = ends size e in let l = ends_low in omega arith

    pub further : (size : ℕ) → size ≡ aligned head.frame_length → at < at + size / 32
    further size e = let a = ends size e in let full = exact.sound.full f found.0 in let h = found.1 in omega arith

    pub freed_on : (size : ℕ) (y : View) → size ≡ aligned head.frame_length → y ≡ record x { held = record x.held { freed = end_of (found_at x.held.got at); out = 0 } } → y ≡ freed_to v (at + size / 32)
    freed_on size y e is = is ∙ (λ j. record (same j) { held = record (same j).held { freed = end_of (found_at (same j).held.got at); out = 0 } }) ∙ (λ j. freed_to v (sym (ends size e) j))

    pub memory_on : (y : View) (now : List Bool) → y ≡ record x { held = record x.held { freed = end_of (found_at x.held.got at); out = 0 } }
        → now ≡ stands true (byte_place (ring key) (found_at x.held.got at).unit) (32 * (found_at x.held.got at).units) free → HasMemory (ring key) y.held now heads
    memory_on y now after bytes =
        let m = memory_freed key is w.held free heads mem f exact_w.sound found.0 found.1 0 in
        subst (λ (z : View × List Bool). HasMemory (ring key) z.0.held z.1 heads)
        (λ j. (sym (after ∙ (λ k. record (same k) { held = record (same k).held { freed = end_of (found_at (same k).held.got at); out = 0 } })) j, sym (bytes ∙ (λ k. stands true (byte_place (ring key) (found_at (same k).held.got at).unit) (32 * (found_at (same k).held.got at).units) free)) j))
        m
