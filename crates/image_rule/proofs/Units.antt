-- The units of frames, in the words of the stream.
use Rattle.std.proofs.Common.{◌≡◌, ℕ, ◌-◌, ◌*◌, ◌/◌, inl, inr, List, [], ◌∷◌, sym, refl, ap, subst, arith}
use Rattle.theory.specs.Placed as placed
use Rattle.theory.specs.Placed.{Placed, covered, frame_length}
use Rattle.theory.specs.Position.{aligned}
use Rattle.theory.specs.Units.{HasUnit}
use Rattle.image_rule.specs.declared.view.Frame.{Frame}
use Rattle.image_rule.specs.declared.view.Held.{Held}
use Rattle.image_rule.specs.declared.view.Key.{Key}
use Rattle.image_rule.specs.Frames.{Among, Has, HasStart, StartsAt, frame_said, placed_all, placed_of}
use Rattle.image_rule.specs.Rule.{Sound}

pub among_placed : (f : Frame) (got : List Frame) → Among f got → placed.Among (placed_of f) (placed_all got)
among_placed f [] a = absurd a
among_placed f (g ∷ gs) (inl e) = inl (ap placed_of e)
among_placed f (g ∷ gs) (inr a) = inr (among_placed f gs a)

pub record IsPlacedIn (got : List Frame) (s : Placed) : Type 0 where
  pub frame : Frame
  pub among : Among frame got
  pub is : s ≡ placed_of frame

pub placed_among : (s : Placed) (got : List Frame) → placed.Among s (placed_all got) → IsPlacedIn got s
placed_among s [] a = absurd a
placed_among s (g ∷ gs) (inl e) = record { frame = g; among = inl refl; is = e }
placed_among s (g ∷ gs) (inr a) = let p = placed_among s gs a in record { frame = p.frame; among = inr p.among; is = p.is }

-- each frame covers what its words say
abbrev pub AreCovered : List Frame → Type 0
AreCovered got = (f : Frame) → Among f got → 32 * f.units ≡ aligned (frame_length (frame_said f.bytes))

pub sound_covered : (key : Key) (h : Held) → Sound key h → AreCovered h.got
sound_covered key h s f a = (s.spelt f a).covered

pub has_unit : (got : List Frame) (u : ℕ) → AreCovered got → Has got u → HasUnit (placed_all got) (32 * u)
has_unit got u are has = let f = has.frame in let e = are f has.among in let lo = has.covers.0 in let hi = has.covers.1 in
    record { frame = placed_of f; among = among_placed f got has.among; unit = u - f.unit; inside = omega arith; here = omega arith }

pub unit_has : (got : List Frame) (u : ℕ) → AreCovered got → HasUnit (placed_all got) (32 * u) → Has got u
unit_has got u are h =
    let p = placed_among h.frame got h.among in let f = p.frame in let e = are f p.among in
    let at : h.frame.at ≡ 32 * f.unit = ap (λ (s : Placed). s.at) p.is in
    let c : covered h.frame ≡ covered (placed_of f) = ap covered p.is in
    let i = h.inside in let k = h.here in
    record { frame = f; among = p.among; covers = (omega arith, omega arith) }

-- a position of a unit
pub unit_at : (got : List Frame) (p : ℕ) → HasUnit (placed_all got) p → 32 * (p / 32) ≡ p
unit_at got p h =
    let q = placed_among h.frame got h.among in let at : h.frame.at ≡ 32 * q.frame.unit = ap (λ (s : Placed). s.at) q.is in let k = h.here in omega arith

pub has_at : (got : List Frame) (p : ℕ) → AreCovered got → HasUnit (placed_all got) p → Has got (p / 32)
has_at got p are h = unit_has got (p / 32) are (subst (HasUnit (placed_all got)) (sym (unit_at got p h)) h)

-- ---- where frames start

-- one of the frames starts at a position
pub starts_placed : (got : List Frame) (u : ℕ) → StartsAt got u → HasStart (placed_all got) (32 * u)
starts_placed got u s = record { frame = placed_of s.frame; among = among_placed s.frame got s.among; here = ap (λ (x : ℕ). 32 * x) s.here }

pub placed_starts : (got : List Frame) (u : ℕ) → HasStart (placed_all got) (32 * u) → StartsAt got u
placed_starts got u h = let p = placed_among h.frame got h.among in let at : h.frame.at ≡ 32 * p.frame.unit = ap (λ (s : Placed). s.at) p.is in let k = h.here in record { frame = p.frame; among = p.among; here = omega arith }
