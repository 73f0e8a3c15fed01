-- What the calls of an inserter are to the images of the definitions.
use Rattle.std.specs.Prelude.{◌≡◌, ℕ, ◌<◌, ◌≤◌, ◌⊎◌, ◌↔◌, ⊤, true, false, List, [], ◌∷◌, length, map, pos}
use Rattle.std.specs.List.{AllByRecursion}
use Rattle.theory.specs.Consumer.{Consumer}
use Rattle.theory.specs.Image.{Heartbeat, Image, ImageEvent, ImageStep, Inserted}
use Rattle.theory.specs.Insert.{head_of, insert_answer}
use Rattle.theory.specs.Placed.{Placed}
use Rattle.theory.specs.Units.{HasUnit, IsContiguous}
use Rattle.image.specs.declared.answer.Insert.{Insert}
use Rattle.image.specs.declared.answer.Insert.TheVariants as answers
use Rattle.image.specs.Seen.{accepts, least}
use Rattle.image.specs.Stored.{meant}
use Rattle.image.specs.Rebuilding.{Inserting, Inserts, Looked, geometry_of, join_of}

-- each consumer stands at such a position, or further on
abbrev pub AreAhead : List ℕ → List Consumer → Type 0
AreAhead [] [] = ⊤
AreAhead [] (c ∷ cs) = ⊥
AreAhead (p ∷ ps) [] = ⊥
AreAhead (p ∷ ps) (c ∷ cs) = (p ≤ c.at) × AreAhead ps cs

-- an image of the definitions that an inserter shows: what it stored, its mark, and consumers that stand where it saw them,
-- or further on
pub record Shows (i : Inserting) (o : Image) : Type 0 where
  pub join : join_of i ≡ o.join
  pub window : i.window ≡ o.window
  pub stored : i.stored ≡ o.stored
  pub high : i.high ≡ o.high
  pub ahead : AreAhead i.seen o.consumers

-- it has seen some, none of them below the join
pub record HasSeen (i : Inserting) : Type 0 where
  pub some : 0 < length i.seen
  pub from : AllByRecursion (λ p. join_of i ≤ p) i.seen

-- an event of the definitions after which the inserter shows the image
pub record IsEvent (i : Inserting) (o : Image) (given : List Placed) (event : ImageEvent) : Type 0 where
  pub image : Image
  pub step : ImageStep (geometry_of i) given o event image
  pub shown : Shows i image

-- what an insert answers and stores is what the definitions have, at the least position that it read: for each image that the
-- inserter showed, with its consumers where they were read or further on
abbrev pub InsertsAreEvents : Type 0
InsertsAreEvents = (i j : Inserting) (s : Placed) (a : Insert) (o : Image) → HasSeen j → Shows (record i { seen = j.seen }) o → meant a ≡ insert_answer (geometry_of i) (map head_of i.stored) (least j.seen) i.window (head_of s)
    → (a ≡ answers.Stored → Inserts i s j) → ((a ≡ answers.Stored → ⊥) → Looked i i.stored i.high j) → IsEvent j o (s ∷ []) (Inserted (least j.seen) s)

-- and so is what a heartbeat makes of the mark
abbrev pub BeatsAreEvents : Type 0
BeatsAreEvents = (i j : Inserting) (p : ℕ) (o : Image) → HasSeen j → Shows (record i { seen = j.seen }) o
    → (accepts (geometry_of i) i.high (least j.seen) (pos p) ≡ true → Looked i i.stored p j) → (accepts (geometry_of i) i.high (least j.seen) (pos p) ≡ false → Looked i i.stored i.high j) → IsEvent j o [] (Heartbeat (least j.seen) (pos p))

-- the units are those that were stored and those of the frame
abbrev pub StoringAddsUnits : Type 0
StoringAddsUnits = (s : Placed) (frames : List Placed) (p : ℕ) → HasUnit (s ∷ frames) p ↔ (HasUnit frames p ⊎ HasUnit (s ∷ []) p)

-- whatever the frames are
abbrev pub MoreUnitsReachFurther : Type 0
MoreUnitsReachFurther = (old new : List Placed) (j p q : ℕ) → ((u : ℕ) → HasUnit old u → HasUnit new u) → IsContiguous old j p → IsContiguous new j q → p ≤ q
