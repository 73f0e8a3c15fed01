-- Rows: whose bytes were written.
use Rattle.std.proofs.Common.{◌≡◌, [], ◌∷◌, negsuc, refl}
use Rattle.std.specs.Prelude.{codes, decimal}
use Rattle.std.specs.Fmt.{signed_decimal}
use Rattle.peer.specs.Texts.{joined}
use Rattle.subscriber.specs.Texts.{followed_text}

-- of one the session is named, of several how many there are
of_one : followed_text (record { session = negsuc 6; sessions = 1 }) ≡ joined (codes "session " ∷ signed_decimal (negsuc 6) ∷ [])
of_one = refl

of_three : followed_text (record { session = negsuc 6; sessions = 3 }) ≡ joined (decimal 3 ∷ codes " sessions" ∷ [])
of_three = refl
