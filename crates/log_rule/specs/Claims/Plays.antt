-- The bounds of a log that opens, the first seat and how it is dealt, and what each step tells.
use Rattle.std.specs.Prelude.{◌≡◌, ℕ, zero, suc, ◌+◌, ◌-◌, ◌/◌, List, [], ◌∷◌}
use Rattle.atomic_table.specs.Table.{Me, Step}
use Rattle.theory.specs.Position.{greatest_claim}
use Rattle.theory.specs.Bytes.{Identity}
use Rattle.publication.specs.declared.pass.Keeping.{Keeping}
use Rattle.publication.specs.declared.pass.Pass.{Pass}
use Rattle.publication.specs.Steps.{works}
use Rattle.log_rule.specs.declared.claims.view.Origin.{Origin}
use Rattle.log_rule.specs.declared.claims.view.View.{View}
use Rattle.log_rule.specs.Claims.Rule.{Bounds}
use Rattle.publication.specs.declared.step.WordStep.{WordStep}
use Rattle.log_rule.specs.Claims.Admits.{Same}
use Rattle.log_rule.specs.Claims.Sure.{LearnsControls, fresh_controls, no_controls}

abbrev pub pass_in : View → Pass
pass_in v = v.pass

-- the log is connected, the limit stays half a term above the start, and nothing is cleaned
abbrev pub bounds_of : Origin → Bounds
bounds_of key = record {
  identity = key.identity;
  start = key.start;
  greatest = greatest_claim key.identity.geometry;
  limit = key.start + key.identity.geometry.term_length / 2;
  word = key.start + key.identity.geometry.term_length / 2 + 1;
  floor = key.start;
  cleaned = key.start;
}

abbrev pub no_keeping : Keeping
no_keeping = record { right = 0; limit = 0; cleaned = 0; there = []; positions = []; reads = [] }

-- so many numbers, from this one down
abbrev pub down : ℕ → ℕ → List ℕ
down n zero = []
down zero (suc many) = 0 ∷ []
down (suc n) (suc many) = suc n ∷ down n many

-- a pass with this number and so many parts, with a number for each 120 of them, which has seen the term in which the log begins, and claimed nothing
abbrev pub newcomer : Identity → ℕ → ℕ → ℕ → Pass
newcomer identity start number parts =
    let first = start / identity.geometry.term_length in
    record {
      identity = identity;
      start = start;
      number = number;
      call = [];
      right = record { parts = parts; limit = 0; armed = 0; claims = []; numbers = down number (parts / 120) };
      work = works [] [];
      seen = record { count = first; term = first; full = 0; begun = first; shown = 0 };
      reading = [];
      keeping = no_keeping;
    }

-- the first seat is the last publisher's, has all parts, and is sure
abbrev pub first_seat : Origin → View
first_seat key = record { pass = newcomer key.identity key.start 7 1024; steps = 0; controls = fresh_controls key.identity key.start; sure = 1 }

-- ---- a publisher is dealt: it has the number of the one that deals, which has the number below it from then on

abbrev pub first_number : List ℕ → List ℕ
first_number [] = []
first_number (n ∷ ns) = n ∷ []

abbrev pub other_numbers : List ℕ → List ℕ
other_numbers [] = []
other_numbers (n ∷ ns) = ns

abbrev pub dealer : Pass → Pass
dealer v = record v { number = v.number - 1; right = record v.right { parts = v.right.parts - 120; numbers = other_numbers v.right.numbers } }

abbrev pub dealt : Pass → Pass
dealt v = record v { call = []; right = record { parts = 120; limit = v.right.limit; armed = 0; claims = []; numbers = first_number v.right.numbers }; work = works [] []; reading = []; keeping = no_keeping }

abbrev pub dealing_seat : View → View
dealing_seat v = record { pass = dealer v.pass; steps = v.steps; controls = v.controls; sure = 0 }

abbrev pub dealt_seat : View → View
dealt_seat v = record { pass = dealt v.pass; steps = 0; controls = no_controls; sure = 0 }

-- ---- what a step tells

abbrev pub Mine : Type 0
Mine = Me (Unit {0}) View

-- a word call's relation of the pass before, the word and the pass after, one step more, and what the seat learns by the step on a control word that is noted, if there is one
abbrev pub playing : (Pass → ℕ → Pass → Type 0) → (Pass → ℕ → List WordStep) → Step (Unit {0}) → Mine → ℕ → Mine → Type 0
playing told noted st m n m' = (m'.1 ≡ m.1) × (m'.0.steps ≡ suc m.0.steps) × Same m.0.pass m'.0.pass × LearnsControls (noted m.0.pass n) m.0 m'.0 × told m.0.pass n m'.0.pass
