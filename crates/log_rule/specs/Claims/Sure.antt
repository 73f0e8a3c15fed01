-- The rule's third part: a seat that has all parts may be sure of the control words, which nobody else changes then.
-- A control word is changed only by a pass with parts, so where one seat has all of them no other can. Where parts
-- are dealt or gathered, nobody is sure.
use Rattle.std.specs.Prelude.{◌≡◌, ℕ, ◌+◌, ◌/◌, ◌%◌, List, [], ◌∷◌, slice_index, slice_set}
use mathlib.Core.Option.{some}
use lib.ListN.{get_elem?}
use Rattle.theory.specs.Position.{id_of}
use Rattle.theory.specs.Bytes.{Identity}
use Rattle.theory.specs.Words.{id_before, tail_word}
use Rattle.publication.specs.declared.pass.Controls.{Controls}
use Rattle.publication.specs.declared.step.WordStep.{WordStep}
use Rattle.publication.specs.Controls.{Leads}
use Rattle.log_rule.specs.declared.claims.view.View.{View}
use Rattle.log_rule.specs.Claims.Packs.{count_place, limit_place, tail_place}

-- the control words among all words
abbrev pub controls_in : List ℕ → Controls
controls_in words = record { limit = slice_index words limit_place; count = slice_index words count_place; tails = slice_index words (tail_place 0) ∷ slice_index words (tail_place 1) ∷ slice_index words (tail_place 2) ∷ [] }

pub record IsSure (words : List ℕ) (v : View) : Type 0 where
  pub whole : v.sure ≡ 1 → v.pass.right.parts ≡ 1024
  pub exact : v.sure ≡ 1 → v.controls ≡ controls_in words

pub record AreSure (words : List ℕ) (views : List View) : Type 0 where
  pub each : (j : ℕ) (v : View) → get_elem? views j ≡ some v → IsSure words v

-- what these steps tell a seat of the control words
pub record LearnsControls (steps : List WordStep) (v w : View) : Type 0 where
  pub sure : w.sure ≡ v.sure
  pub leads : v.sure ≡ 1 → Leads v.controls steps w.controls

-- those of a log that opens: the active count is that of the start, and the other two tails have the ids of the two terms before
abbrev pub fresh_tails : Identity → ℕ → List ℕ
fresh_tails identity start =
    let g = identity.geometry in let count = start / g.term_length in
    slice_set (slice_set (slice_set (0 ∷ 0 ∷ 0 ∷ []) (count % 3) (tail_word (id_of g count) (start % g.term_length))) ((count + 1) % 3) (tail_word (id_before g count 2) 0)) ((count + 2) % 3) (tail_word (id_before g count 1) 0)

abbrev pub fresh_controls : Identity → ℕ → Controls
fresh_controls identity start = record { limit = start + identity.geometry.term_length / 2 + 1; count = start / identity.geometry.term_length; tails = fresh_tails identity start }

-- before anything is known
abbrev pub no_controls : Controls
no_controls = record { limit = 0; count = 0; tails = [] }
