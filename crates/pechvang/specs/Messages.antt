-- What opens a log's messages, and what their calls do, by what the handle holds.
use Rattle.std.specs.Prelude.{◌≡◌, ℕ, ◌⊎◌, ℤ, pos, negsuc, List}
use Rattle.std.specs.declared.option.Option.TheVariants.{None, Some}
use Rattle.cores.specs.Messages.{Begins, DeclinesMessages, GivesMessage, GivesNone, KeepsLonger, LosesOne}
use Rattle.pechvang.specs.declared.held.Pass.TheVariants.{Messages, Reader}
use Rattle.pechvang.specs.Answers.{Does, FailsCore, Unserved}
use Rattle.pechvang.specs.Owned.{Held}

-- a reader becomes the messages of its log, which another handle holds; or it is declined, and that one is as it was
abbrev pub MessagesOpen : Held → ℕ → Held → ℤ → Held → Held → Type 0
MessagesOpen (Some (Reader r)) greatest before code k after =
    (Does Messages (pos 0) (λ p. Begins r greatest p.value) code after × (k ≡ None)) ⊎ (FailsCore Reader (λ fault q. DeclinesMessages r fault q) code k × (after ≡ before))
MessagesOpen h greatest before code k after = Unserved h code k × (after ≡ before)

-- the next message is given; or it is longer than the room, told, and waits; or none is whole yet, or one is lost for the cause that
-- the code names, and nothing is told
abbrev pub GivesNext : Held → List ℕ → ℕ → ℤ → List ℕ → ℕ → Held → Type 0
GivesNext (Some (Messages p)) before length code after n k =
    Does Messages (pos 1) (λ q. GivesMessage p.value before n after q.value) code k
    ⊎ (Does Messages (negsuc 6) (λ q. KeepsLonger p.value before n after q.value) code k
    ⊎ ((Does Messages (pos 0) (λ q. GivesNone p.value before after q.value) code k ⊎ FailsCore Messages (λ fault q. LosesOne p.value fault before after q.value) code k) × (n ≡ length)))
GivesNext h before length code after n k = Unserved h code k × (after ≡ before) × (n ≡ length)

-- where their reader stands is written
abbrev pub TellsPosition : Held → ℕ → ℤ → ℕ → Held → Type 0
TellsPosition (Some (Messages p)) before code after k = Does Messages (pos 0) (λ q. (q ≡ p) × (after ≡ p.value.reading.reader.position)) code k
TellsPosition h before code after k = Unserved h code k × (after ≡ before)
