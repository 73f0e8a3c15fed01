-- What a reader carries: its part of the right to read the frame where it stands.
use Rattle.std.specs.Prelude.{◌≡◌, ℕ, ◌*◌, ◌<◌, ◌≤◌, List, [], ◌∷◌, ◌++◌, length}
use Rattle.std.proofs.Common.{lit<}
use Rattle.region.specs.declared.access.ReadAccess.{ReadAccess}
use Rattle.region.specs.declared.access.RegionKey.{RegionKey}
use Rattle.image_rule.specs.declared.view.Frame.{Frame}
use Rattle.image_rule.specs.declared.view.Site.{Site}
use Rattle.image_rule.specs.Frames.{IsPart, Spells, byte_place, slot_of}
use Rattle.image_rule.specs.Reads.{first_of}
use Rattle.image_rule.specs.Steps.{Mine, TakenOver}

-- an eighth of the right to read a frame's bytes, where it belongs in the ring
abbrev pub IsPartOf : ℕ → RegionKey → Frame → ReadAccess → Type 0
IsPartOf n region f g = IsPart n region f g.round.life g.round.book g

-- no part of any right
abbrev pub no_part : ReadAccess
no_part = record { round = record { life = 0; book = 0 }; count = 0; identity = record { life = 0; names = []; block = 0; first = 0 }; at = 0; items = []; small = lit< tt }

-- the first of what is carried
abbrev pub part_in : List (ℕ × ReadAccess) → ReadAccess
part_in [] = no_part
part_in (x ∷ xs) = x.1

-- a reader carries its part of the frame that it found last, where it stands
pub record HoldsPart (n : ℕ) (region : RegionKey) (m : Mine) : Type 0 where
  pub some : 0 < length m.0.reading.known
  pub here : (first_of m.0.reading.known).unit ≡ m.0.reading.unit
  pub is : IsPart n region (first_of m.0.reading.known) m.0.reading.round m.0.reading.book (part_in m.1)
  pub after : m.1 ≡ (slot_of n (first_of m.0.reading.known).unit m.0.reading.number, part_in m.1) ∷ []

-- it carries nothing, or that
pub record CarriesPart (n : ℕ) (region : RegionKey) (m : Mine) : Type 0 where
  pub one : m.0.reading.holds ≤ 1
  pub none : m.0.reading.holds ≡ 0 → m.1 ≡ []
  pub part : m.0.reading.holds ≡ 1 → HoldsPart n region m

-- so many of 2 ^ 63 parts of the right to read a frame's bytes, where it belongs in the ring
pub record IsShare (n : ℕ) (region : RegionKey) (f : Frame) (parts : ℕ) (g : ReadAccess) : Type 0 where
  pub identity : g.identity ≡ region.identity
  pub at : g.at ≡ byte_place n f.unit
  pub count : g.count ≡ parts
  pub long : length g.items ≡ 32 * f.units
  pub spells : Spells f g.items

abbrev pub AnyPart : ReadAccess → Type 0
AnyPart g = Unit {0}

-- the slots of a unit, as they are gone through, the last one first: so many are left in front, and the others follow in their
-- order
pub record Turning (t : Site) (before after : ReadAccess → Type 0) (u left : ℕ) (mine : List (ℕ × ReadAccess)) : Type 0 where
  pub front : List (ℕ × ReadAccess)
  pub back : List (ℕ × ReadAccess)
  pub both : mine ≡ front ++ back
  pub left_over : TakenOver t before u left [] front
  pub done : (rest : List (ℕ × ReadAccess)) → TakenOver t after u left [] rest → TakenOver t after u 8 [] (back ++ rest)
