-- What a contract sees of a log's messages, and what its calls make of them.
use Rattle.std.specs.Prelude.{◌≡◌, ℕ, ◌<◌, ◌≤◌, true, false, List, ◌++◌, drop, length, Option, None, Some}
use Rattle.std.specs.Arc.{arc_value}
use Rattle.assembler.specs.declared.fault.AssemblyError.{AssemblyError}
use Rattle.shared_log.specs.Steps.Handles.{LogValue}
use Rattle.log_messages.specs.Reading as reads
use Rattle.log_messages.specs.Reading.{Reading}
use Rattle.claims.specs.declared.passes.reading.ReaderPass.{ReaderPass}
use Rattle.cores.specs.Numbers.{assembly_fault}
use Rattle.cores.specs.declared.fault.Fault.{Fault}
use Rattle.cores.specs.declared.fault.Fault.TheVariants.{HasRead, Memory}
use Rattle.cores.specs.declared.reading.NoMessage.{NoMessage}
use Rattle.cores.specs.declared.reading.NoMessage.TheVariants as none

-- the log, what its reader has read, and the message that was longer than a room, if there is one
pub record MessagesValue : Type 0 where
  pub log : LogValue
  pub reading : Reading
  pub waiting : Option (List ℕ)

-- ---- opening

-- the reader has read nothing, where it stands
abbrev pub unread : ReaderPass → ℕ → Reading
unread r greatest = record { reader = r.reader; assembler = record { greatest = greatest; begun = None }; begun_at = r.reader.position; has_refused = false }

pub record Begins (r : ReaderPass) (greatest : ℕ) (p : MessagesValue) : Type 0 where
  pub new : r.is_new ≡ true
  pub log : p.log ≡ arc_value r.log
  pub reading : p.reading ≡ unread r greatest
  pub waiting : p.waiting ≡ None

-- the reader is judged first; then memory is asked for
abbrev pub WhyNoMessages : ReaderPass → Fault → Type 0
WhyNoMessages r HasRead = r.is_new ≡ false
WhyNoMessages r Memory = r.is_new ≡ true
WhyNoMessages r other = ⊥

pub record DeclinesMessages (r : ReaderPass) (fault : Fault) (q : ReaderPass) : Type 0 where
  pub why : WhyNoMessages r fault
  pub log : arc_value q.log ≡ arc_value r.log
  pub reader : q.reader ≡ r.reader
  pub new : q.is_new ≡ r.is_new

-- ---- the next message

-- it is the one that waits, for which nothing is read; or else what the log gives
abbrev pub NextIs : Option (List ℕ) → Reading → List ℕ → Reading → Type 0
NextIs (Some waits) m message n = (message ≡ waits) × (n ≡ m)
NextIs None m message n = reads.GivesMessage m message n

-- it is taken, and none waits then
pub record Takes (p : MessagesValue) (message : List ℕ) (q : MessagesValue) : Type 0 where
  pub log : q.log ≡ p.log
  pub next : NextIs p.waiting p.reading message q.reading
  pub waiting : q.waiting ≡ None

-- none waited, and none of the log is whole yet
pub record TakesNone (p q : MessagesValue) : Type 0 where
  pub log : q.log ≡ p.log
  pub waited : p.waiting ≡ None
  pub nothing : reads.GivesNothing p.reading q.reading
  pub waiting : q.waiting ≡ None

-- none waited, and one of the log is lost
pub record Loses (p : MessagesValue) (fault : Fault) (q : MessagesValue) : Type 0 where
  pub log : q.log ≡ p.log
  pub waited : p.waiting ≡ None
  pub error : AssemblyError
  pub refuses : reads.Refuses p.reading error q.reading
  pub fault_is : fault ≡ assembly_fault error
  pub waiting : q.waiting ≡ None

abbrev pub WhyNoneTaken : MessagesValue → NoMessage → MessagesValue → Type 0
WhyNoneTaken p none.None q = TakesNone p q
WhyNoneTaken p (none.Longer n) q = ⊥
WhyNoneTaken p (none.Lost fault) q = Loses p fault q

-- ---- into a room

-- it stands in the room's front
pub record GivesMessage (p : MessagesValue) (before : List ℕ) (n : ℕ) (after : List ℕ) (q : MessagesValue) : Type 0 where
  pub message : List ℕ
  pub takes : Takes p message q
  pub long : n ≡ length message
  pub fits : n ≤ length before
  pub written : after ≡ message ++ drop n before

-- it is longer than the room, and waits
pub record KeepsLonger (p : MessagesValue) (before : List ℕ) (n : ℕ) (after : List ℕ) (q : MessagesValue) : Type 0 where
  pub message : List ℕ
  pub log : q.log ≡ p.log
  pub next : NextIs p.waiting p.reading message q.reading
  pub waiting : q.waiting ≡ Some message
  pub long : n ≡ length message
  pub longer : length before < n
  pub untouched : after ≡ before

pub record GivesNone (p : MessagesValue) (before after : List ℕ) (q : MessagesValue) : Type 0 where
  pub takes : TakesNone p q
  pub untouched : after ≡ before

pub record LosesOne (p : MessagesValue) (fault : Fault) (before after : List ℕ) (q : MessagesValue) : Type 0 where
  pub loses : Loses p fault q
  pub untouched : after ≡ before

abbrev pub WhyNoMessage : MessagesValue → List ℕ → NoMessage → List ℕ → MessagesValue → Type 0
WhyNoMessage p before none.None after q = GivesNone p before after q
WhyNoMessage p before (none.Longer n) after q = KeepsLonger p before n after q
WhyNoMessage p before (none.Lost fault) after q = LosesOne p fault before after q
