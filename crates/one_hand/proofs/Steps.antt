-- One command more.
use Rattle.std.proofs.Common.{◌≡◌, ◌∙◌, ℕ, suc, ◌+◌, ◌<◌, List, [], ◌∷◌, ◌++◌, length, take, get_or, refl, sym, ap, arith}
use Rattle.std.proofs.Math.Seq.{take-suc}
use Rattle.one_hand.specs.Stream.{Stream}
use Rattle.one_hand.specs.declared.claims.claim_command.ClaimAnswer.{ClaimAnswer}
use Rattle.one_hand.specs.declared.claims.claim_command.ClaimCommand.{ClaimCommand}
use Rattle.one_hand.specs.Commands.{after_all, after_command, answer_to, answers_of}

after_snoc : (s : Stream) (cs : List ClaimCommand) (c : ClaimCommand) → after_all s (cs ++ c ∷ []) ≡ after_command (after_all s cs) c
after_snoc s [] c = refl
after_snoc s (d ∷ ds) c = after_snoc (after_command s d) ds c

answers_snoc : (s : Stream) (cs : List ClaimCommand) (c : ClaimCommand) → answers_of s (cs ++ c ∷ []) ≡ answers_of s cs ++ answer_to (after_all s cs) c ∷ []
answers_snoc s [] c = refl
answers_snoc s (d ∷ ds) c = ap (λ (answers : List ClaimAnswer). answer_to s d ∷ answers) (answers_snoc (after_command s d) ds c)

pub one_more : {X : Type 0} (cs : List X) (k : ℕ) (c : X) → k < length cs → c ≡ get_or cs k c → take (k + 1) cs ≡ take k cs ++ c ∷ []
one_more {X} cs k c below is =
    let one : k + 1 ≡ suc k = omega arith in
    ap (λ (n : ℕ). take n cs) one ∙ take-suc cs k c below ∙ ap (λ (x : X). take k cs ++ x ∷ []) (sym is)

pub after_next : (s t u : Stream) (cs : List ClaimCommand) (k : ℕ) (c : ClaimCommand) → k < length cs → c ≡ get_or cs k c → t ≡ after_all s (take k cs) → u ≡ after_command t c → u ≡ after_all s (take (k + 1) cs)
after_next s t u cs k c below is before after =
    after
    ∙ ap (λ (x : Stream). after_command x c) before
    ∙ sym (after_snoc s (take k cs) c)
    ∙ sym (ap (λ (xs : List ClaimCommand). after_all s xs) (one_more cs k c below is))

pub answers_next : (s t : Stream) (cs : List ClaimCommand) (k : ℕ) (c : ClaimCommand) (old new : List ClaimAnswer) (answer : ClaimAnswer) → k < length cs → c ≡ get_or cs k c → t ≡ after_all s (take k cs) → old ≡ answers_of s (take k cs) → answer ≡ answer_to t c → new ≡ old ++ answer ∷ [] → new ≡ answers_of s (take (k + 1) cs)
answers_next s t cs k c old new answer below is before so_far one made =
    made
    ∙ ap (λ (xs : List ClaimAnswer). xs ++ answer ∷ []) so_far
    ∙ ap (λ (x : ClaimAnswer). answers_of s (take k cs) ++ x ∷ []) (one ∙ ap (λ (x : Stream). answer_to x c) before)
    ∙ sym (answers_snoc s (take k cs) c)
    ∙ sym (ap (λ (xs : List ClaimCommand). answers_of s xs) (one_more cs k c below is))
