-- Passes that are gathered, and seats that have nothing or another number.
use Rattle.std.specs.Prelude.{ℕ, ◌+◌, ◌++◌, map, pos}
use Rattle.theory.specs.Bytes.{Identity}
use Rattle.publication.specs.declared.pass.ClaimRange.{ClaimRange}
use Rattle.publication.specs.declared.pass.Pass.{Pass}
use Rattle.publication.specs.Steps.{works}
use Rattle.log_rule.specs.declared.claims.view.View.{View}
use Rattle.log_rule.specs.Claims.Sure.{no_controls}
use Rattle.log_rule.specs.Claims.Plays.{newcomer}

-- one has the parts, the numbers, the claims and the frames of both
abbrev pub both : Pass → Pass → Pass
both v w = record v {
  right = record v.right { parts = v.right.parts + w.right.parts; claims = v.right.claims ++ w.right.claims; numbers = v.right.numbers ++ w.right.numbers };
  work = works (v.work.frames ++ w.work.frames) (v.work.drafts ++ w.work.drafts);
}

-- claims that are a publisher's own
abbrev pub owned_by : ℕ → ClaimRange → ClaimRange
owned_by number c = record c { owner = number }

abbrev pub renamed : ℕ → Pass → Pass
renamed number v = record v { right = record v.right { claims = map (owned_by number) v.right.claims } }

-- one has the parts and the frames of both, and what the other claimed is its own
abbrev pub handed_over : Pass → Pass → Pass
handed_over v w = both v (renamed v.number w)

-- nobody is sure of the control words then
abbrev pub both_seats : View → View → View
both_seats v w = record { pass = both v.pass w.pass; steps = v.steps; controls = v.controls; sure = 0 }

abbrev pub handing_seats : View → View → View
handing_seats v w = both_seats v (record w { pass = renamed v.pass.number w.pass })

-- and the other nothing
abbrev pub spent_seat : Identity → ℕ → View
spent_seat identity start = record { pass = newcomer identity start 0 0; steps = 0; controls = no_controls; sure = 0 }

-- a seat has another number
abbrev pub numbered_seat : ℕ → View → View
numbered_seat number v = record v { pass = record v.pass { number = number } }

abbrev pub no_identity : Identity
no_identity = record { geometry = record { term_length = 0; mtu = 0; initial_term_id = pos 0 }; session = pos 0; stream = pos 0 }
