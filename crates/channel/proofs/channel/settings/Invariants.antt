use Rattle.std.proofs.Common.{◌≡◌, ℕ, List, ◌++◌}
use Rattle.channel.specs.Channels.{parts, parts_left}
use Rattle.channel.specs.Settings.{Sets, nothing}
use Rattle.channel.proofs.channel.settings.Given as goal

-- what was set by the parts before those that are left
abbrev pub invariant-loop-part : goal.invariant-loop-part
invariant-loop-part l = (before : List (List ℕ)) × (parts l.rest ≡ before ++ parts_left l.part-iterator) × Sets nothing before l.settings
