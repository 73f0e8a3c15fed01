-- What a script says, without where it lies in memory.
use Rattle.std.specs.Prelude.{ℕ, ℤ, Bool, true, false, List, [], ◌∷◌, Option, Some, None, map}
use Rattle.script.specs.declared.command.Command.{Command}
use Rattle.script.specs.declared.command.Command.TheVariants as commands
use Rattle.script.specs.declared.command.LogLine.{LogLine}
use Rattle.script.specs.declared.command.Script.{Script}

-- what the log is opened with
pub record Opening : Type 0 where
  pub term_length : ℕ
  pub mtu : ℕ
  pub initial_term_id : ℤ
  pub start : ℕ
  pub session : ℤ
  pub stream : ℤ
  pub readers : ℕ

-- what one line asks for; a message is its bytes or how many they are, a publisher, reader or receiver its number, and a group how many receivers it has
pub data CommandContent : Type 0 where
  Group : ℕ → CommandContent
  Connect : CommandContent
  Disconnect : CommandContent
  Close : CommandContent
  Limit : CommandContent
  Offer : ℕ → List ℕ → CommandContent
  OfferSize : ℕ → ℕ → CommandContent
  Claim : ℕ → ℕ → CommandContent
  Commit : ℕ → CommandContent
  Abort : ℕ → CommandContent
  Read : ℕ → CommandContent
  Join : ℕ → CommandContent
  Leave : ℕ → CommandContent
  Send : ℕ → CommandContent
  Deliver : ℕ → ℕ → ℕ → CommandContent
  Raw : ℕ → ℕ → List ℕ → CommandContent
  Tick : ℕ → ℕ → CommandContent
  Reply : ℕ → ℕ → CommandContent
  RawBack : ℕ → List ℕ → CommandContent
  Poll : ℕ → CommandContent
  Image : ℕ → CommandContent

abbrev pub is_group : CommandContent → Bool
is_group (Group size) = true
is_group command = false

-- the size of the group to which the sender sends, if the first command names it
abbrev pub group_in : List CommandContent → Option ℕ
group_in [] = None
group_in (Group size ∷ commands) = Some size
group_in (command ∷ commands) = None

-- a whole script
pub record ScriptContent : Type 0 where
  pub log : Opening
  pub commands : List CommandContent

abbrev pub opening : LogLine → Opening
opening l = record { term_length = l.term_length; mtu = l.mtu; initial_term_id = l.initial_term_id; start = l.start; session = l.session; stream = l.stream; readers = l.readers }

abbrev pub opened : Option LogLine → Option Opening
opened None = None
opened (Some log) = Some (opening log)

abbrev pub content_of : Command → CommandContent
content_of (commands.Group size) = Group size.receivers
content_of commands.Connect = Connect
content_of commands.Disconnect = Disconnect
content_of commands.Close = Close
content_of commands.Limit = Limit
content_of (commands.Offer publisher message) = Offer publisher.number message.items
content_of (commands.OfferSize publisher size) = OfferSize publisher.number size
content_of (commands.Claim publisher size) = Claim publisher.number size
content_of (commands.Commit publisher) = Commit publisher.number
content_of (commands.Abort publisher) = Abort publisher.number
content_of (commands.Read reader) = Read reader.number
content_of (commands.Join reader) = Join reader.number
content_of (commands.Leave reader) = Leave reader.number
content_of (commands.Send now) = Send now
content_of (commands.Deliver packet receiver now) = Deliver packet receiver.number now
content_of (commands.Raw receiver now bytes) = Raw receiver.number now bytes.items
content_of (commands.Tick receiver now) = Tick receiver.number now
content_of (commands.Reply packet now) = Reply packet now
content_of (commands.RawBack now bytes) = RawBack now bytes.items
content_of (commands.Poll receiver) = Poll receiver.number
content_of (commands.Image receiver) = Image receiver.number

abbrev pub contents_of : List Command → List CommandContent
contents_of commands = map content_of commands

abbrev pub script_content : Script → ScriptContent
script_content script = record { log = opening script.log; commands = contents_of script.commands.items }
