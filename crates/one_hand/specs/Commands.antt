-- What publishers' commands answer, and what they make of a stream.
use Rattle.std.specs.Prelude.{ℕ, ◌&&◌, Bool, List, [], ◌∷◌, length, nat_eq, nat_le, nat_lt, if◌then◌else◌, Option, None, Some, is_none, Result, Ok, Err}
use Rattle.theory.specs.Position.{max_message, max_payload}
use Rattle.publication.specs.declared.refusal.Refusal.{Refusal}
use Rattle.one_hand.specs.Stream.{OpenClaim, Stream, after_claim, after_offer, answer_of, claim_by, claim_end, with_abort, with_commit}
use Rattle.one_hand.specs.declared.claims.claim_command.ClaimAnswer.{ClaimAnswer}
use Rattle.one_hand.specs.declared.claims.claim_command.ClaimAnswer.TheVariants.{Begins, Ends, Refused, Unfit}
use Rattle.one_hand.specs.declared.claims.claim_command.ClaimCommand.{ClaimCommand}
use Rattle.one_hand.specs.declared.claims.claim_command.ClaimCommand.TheVariants.{Abort, Claim, Commit, Offer}

-- ---- an offer or a claim

-- there is such a publisher, it has no claim open, and the message is of up to this length
abbrev pub may_add : Stream → ℕ → ℕ → ℕ → Bool
may_add s by size greatest = nat_lt by 8 && is_none (claim_by s by) && nat_le size greatest

abbrev pub may_offer : Stream → ℕ → List ℕ → Bool
may_offer s by message = may_add s by (length message) (max_message s.identity.geometry)

abbrev pub may_claim : Stream → ℕ → ℕ → Bool
may_claim s by size = may_add s by size (max_payload s.identity.geometry)

-- the position behind the message
abbrev pub offered : Result ℕ Refusal → ClaimAnswer
offered (Ok end) = Ends end
offered (Err refusal) = Refused refusal

-- the range from here on
abbrev pub claimed : ℕ → Result ℕ Refusal → ClaimAnswer
claimed start (Ok end) = Begins start end
claimed start (Err refusal) = Refused refusal

abbrev pub offer_answer : Stream → ℕ → List ℕ → ClaimAnswer
offer_answer s by message = if may_offer s by message then offered (answer_of s (length message)) else Unfit

abbrev pub offer_after : Stream → ℕ → List ℕ → Stream
offer_after s by message = if may_offer s by message then after_offer s by message else s

abbrev pub claim_answer : Stream → ℕ → ℕ → ClaimAnswer
claim_answer s by size = if may_claim s by size then claimed s.tail (answer_of s size) else Unfit

abbrev pub claim_after : Stream → ℕ → ℕ → Stream
claim_after s by size = if may_claim s by size then after_claim s by size else s

-- ---- the end of an open claim

-- the publisher's claim, if there is such a publisher and it has one open
abbrev pub claim_of : Stream → ℕ → Option OpenClaim
claim_of s by = if nat_lt by 8 then claim_by s by else None

-- the claim, if it is of this size
abbrev pub of_size : ℕ → Option OpenClaim → Option OpenClaim
of_size size None = None
of_size size (Some c) = if nat_eq c.size size then Some c else None

abbrev pub ended : Option OpenClaim → ClaimAnswer
ended None = Unfit
ended (Some c) = Ends (claim_end c)

abbrev pub committed : Stream → ℕ → List ℕ → Option OpenClaim → Stream
committed s by payload None = s
committed s by payload (Some c) = with_commit s by c payload

abbrev pub aborted : Stream → ℕ → Option OpenClaim → Stream
aborted s by None = s
aborted s by (Some c) = with_abort s by c

-- the claim that a commit of this payload ends
abbrev pub claim_for : Stream → ℕ → List ℕ → Option OpenClaim
claim_for s by payload = of_size (length payload) (claim_of s by)

-- ---- commands

abbrev pub answer_to : Stream → ClaimCommand → ClaimAnswer
answer_to s (Offer by message) = offer_answer s by message.items
answer_to s (Claim by size) = claim_answer s by size
answer_to s (Commit by payload) = ended (claim_for s by payload.items)
answer_to s (Abort by) = ended (claim_of s by)

abbrev pub after_command : Stream → ClaimCommand → Stream
after_command s (Offer by message) = offer_after s by message.items
after_command s (Claim by size) = claim_after s by size
after_command s (Commit by payload) = committed s by payload.items (claim_for s by payload.items)
after_command s (Abort by) = aborted s by (claim_of s by)

-- one after the other
abbrev pub answers_of : Stream → List ClaimCommand → List ClaimAnswer
answers_of s [] = []
answers_of s (c ∷ cs) = answer_to s c ∷ answers_of (after_command s c) cs

abbrev pub after_all : Stream → List ClaimCommand → Stream
after_all s [] = s
after_all s (c ∷ cs) = after_all (after_command s c) cs
