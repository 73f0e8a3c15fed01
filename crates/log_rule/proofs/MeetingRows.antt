-- What two that meet have noted and were shown, computed.
use Rattle.std.proofs.Common.{◌≡◌, [], ◌∷◌, refl}
use Rattle.publication.specs.declared.pass.Pass.{Pass}
use Rattle.log_rule.specs.Claims.Closing.{no_identity}
use Rattle.log_rule.specs.Claims.Plays.{newcomer}
use Rattle.log_rule.specs.Meetings.{meeting, unnoted, was_shown}

-- a seat that has noted no raw tail has none that is a word, for each of the three
tails_row : unnoted.tails ≡ 18446744073709551616 ∷ 18446744073709551616 ∷ 18446744073709551616 ∷ []
tails_row = refl

-- a publisher that was shown position 64, and one that was shown 32
abbrev one : Pass
one = was_shown 64 (newcomer no_identity 0 1 120)

abbrev other : Pass
other = was_shown 32 (newcomer no_identity 0 0 120)

-- it is remembered, and nothing smaller takes its place
shown_row : (one.seen.shown ∷ (was_shown 96 one).seen.shown ∷ (was_shown 32 one).seen.shown ∷ (meeting one other).seen.shown ∷ []) ≡ (64 ∷ 96 ∷ 64 ∷ 64 ∷ [])
shown_row = refl
