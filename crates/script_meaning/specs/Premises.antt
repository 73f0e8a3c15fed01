-- When a script meets the premises of what is said of its polls: a script that hands no receiver bytes of its own, and in whose
-- output no memory was refused.
use Rattle.std.specs.Prelude.{◌≡◌, ◌⊎◌, ◌<◌, ℕ, Bool, true, false, List}
use Rattle.std.specs.List.{AllByRecursion}
use Rattle.theory.specs.Position.{Geometry}
use Rattle.script.specs.Meaning as commands
use Rattle.script.specs.Meaning.{CommandContent}
use Rattle.script_meaning.specs.Published.{AllHonest, AllWhole, Played, PolledNothing, PolledPrefix, PolledTo, is_refusal}

abbrev pub is_raw : CommandContent → Bool
is_raw (commands.Raw number now bytes) = true
is_raw command = false

-- no line hands a receiver bytes of the script's own
abbrev pub HasNoRaw : List Played → Type 0
HasNoRaw played = AllByRecursion (λ p. is_raw p.command ≡ false) played

-- no line says that memory was refused to an assembler
abbrev pub IsUnrefused : List Played → Type 0
IsUnrefused played = AllByRecursion (λ p. AllByRecursion (λ line. is_refusal line ≡ false) p.lines) played

-- the first is honest at each receiver
abbrev pub HonestWithoutRaw : Type 0
HonestWithoutRaw = (i : ℕ) (played : List Played) → HasNoRaw played → AllHonest i played

-- the second is whole at each
abbrev pub WholeUnrefused : Type 0
WholeUnrefused = (i : ℕ) (played : List Played) → IsUnrefused played → AllWhole i played

-- so of each receiver of both, what it printed is what was published
abbrev pub PolledWithoutRaw : Type 0
PolledWithoutRaw = (g : Geometry) (played : List Played) → PolledPrefix g played → HasNoRaw played → IsUnrefused played → (i : ℕ) → i < 8 → PolledNothing i played ⊎ PolledTo g i played
