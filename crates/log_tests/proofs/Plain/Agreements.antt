-- Commands see nothing of a stream's consumers.
use Rattle.std.proofs.Common.{◌≡◌, ◌∙◌, ℕ, Bool, true, false, cond, List, [], ◌∷◌, length, refl, sym, ap}
use Rattle.std.specs.Prelude.{◌+◌, ◌-◌, ◌^◌, Option, None, Some, nat_eq}
use Rattle.one_hand.specs.Stream.{Fits, IsClosed, IsLimited, IsUsedUp, OfferCase, OpenClaim, Stream, Trips, after, after_claim, after_offer, case_of, room, turned, with_claim, with_message, with_padding}
use Rattle.one_hand.specs.declared.claims.claim_command.ClaimAnswer.{ClaimAnswer}
use Rattle.one_hand.specs.declared.claims.claim_command.ClaimCommand.{ClaimCommand}
use Rattle.one_hand.specs.declared.claims.claim_command.ClaimCommand.TheVariants.{Abort, Claim, Commit, Offer}
use Rattle.log_tests.specs.Agreements.{AlwaysAgain, AlwaysSameAnswers}
use Rattle.one_hand.specs.Commands.{aborted, after_all, after_command, answer_to, answers_of, claim_for, claim_of, committed, may_claim, may_offer}

abbrev lone : Stream → Stream
lone s = record s { consumers = [] }

same_answer : (s : Stream) (c : ClaimCommand) → answer_to s c ≡ answer_to (lone s) c
same_answer s (Offer by message) = refl
same_answer s (Claim by size) = refl
same_answer s (Commit by payload) = refl
same_answer s (Abort by) = refl

lone_cond : (b : Bool) (s t : Stream) → lone (cond b s t) ≡ cond b (lone s) (lone t)
lone_cond true s t = refl
lone_cond false s t = refl

lone_turned : (s : Stream) → lone (turned s) ≡ turned (lone s)
lone_turned s = lone_cond (nat_eq s.active (2 ^ 31 - 1)) s (record s { active = s.active + 1 })

lone_after : (s : Stream) (by : ℕ) (k : OfferCase) (t : Stream) → lone (after s by k t) ≡ after (lone s) by k (lone t)
lone_after s by IsClosed t = refl
lone_after s by IsUsedUp t = lone_turned s
lone_after s by IsLimited t = refl
lone_after s by Fits t = refl
lone_after s by Trips t = lone_turned (with_padding s by (room s))

lone_committed : (s : Stream) (by : ℕ) (payload : List ℕ) (c : Option OpenClaim) → lone (committed s by payload c) ≡ committed (lone s) by payload c
lone_committed s by payload None = refl
lone_committed s by payload (Some c) = refl

lone_aborted : (s : Stream) (by : ℕ) (c : Option OpenClaim) → lone (aborted s by c) ≡ aborted (lone s) by c
lone_aborted s by None = refl
lone_aborted s by (Some c) = refl

same_after : (s : Stream) (c : ClaimCommand) → lone (after_command s c) ≡ after_command (lone s) c
same_after s (Offer by message) =
    lone_cond (may_offer s by message.items) (after_offer s by message.items) s
    ∙ ap (λ (t : Stream). cond (may_offer s by message.items) t (lone s)) (lone_after s by (case_of s (length message.items)) (with_message s by message.items))
same_after s (Claim by size) =
    lone_cond (may_claim s by size) (after_claim s by size) s
    ∙ ap (λ (t : Stream). cond (may_claim s by size) t (lone s)) (lone_after s by (case_of s size) (with_claim s by size))
same_after s (Commit by payload) = lone_committed s by payload.items (claim_for s by payload.items)
same_after s (Abort by) = lone_aborted s by (claim_of s by)

same_answers : (s : Stream) (cs : List ClaimCommand) → answers_of s cs ≡ answers_of (lone s) cs
same_answers s [] = refl
same_answers s (c ∷ cs) =
    ap (λ (a : ClaimAnswer). a ∷ answers_of (after_command s c) cs) (same_answer s c)
    ∙ ap (λ (answers : List ClaimAnswer). answer_to (lone s) c ∷ answers) (same_answers (after_command s c) cs ∙ ap (λ (t : Stream). answers_of t cs) (same_after s c))

again : (s : Stream) (cs : List ClaimCommand) → lone (after_all s cs) ≡ after_all (lone s) cs
again s [] = refl
again s (c ∷ cs) = again (after_command s c) cs ∙ ap (λ (t : Stream). after_all t cs) (same_after s c)

pub always_same_answers : AlwaysSameAnswers
always_same_answers s t cs same = same_answers s cs ∙ ap (λ (r : Stream). answers_of r cs) same ∙ sym (same_answers t cs)

pub always_again : AlwaysAgain
always_again s t cs same = again s cs ∙ ap (λ (r : Stream). after_all r cs) same ∙ sym (again t cs)
