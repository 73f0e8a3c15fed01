-- What a sender remembers of its SETUPs.
use Rattle.std.specs.Prelude.{ℕ, Bool, Option, Some, if◌then◌else◌}
use Rattle.std.specs.Option.{option_to_list}
use Rattle.theory.specs.Timing.{is_setup_due, seen}

-- the greatest moment seen, the moment of the last SETUP that was due, and whether each receiver that is waited for was heard
pub record Naming : Type 0 where
  pub clock : ℕ
  pub last : Option ℕ
  pub heard : Bool

abbrev pub is_due : Naming → ℕ → Bool
is_due n now = is_setup_due (option_to_list n.last) n.heard (seen n.clock now)

abbrev pub after_due : Naming → ℕ → Naming
after_due n now = record n { clock = seen n.clock now; last = if is_due n now then Some (seen n.clock now) else n.last }
