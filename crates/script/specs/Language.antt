-- The script language: what texts say, apart from how they are read.
use Rattle.std.specs.Prelude.{◌≡◌, ℕ, ◌+◌, ◌-◌, ◌^◌, ◌<◌, ◌≤◌, ℤ, pos, neg_ℤ, Bool, true, false, ◌⊎◌, List, [], ◌∷◌, length, max, nat_eq, take, get_or, codes, Ok}
use Rattle.std.specs.List.{AllPass, Any, filter}
use Rattle.std.specs.Char.{is_ascii_digit}
use Rattle.std.specs.Str.Parse.{digits_value}
use Rattle.hex.specs.Hex.{decode_of}
use Rattle.script.specs.Meaning.{Opening, CommandContent, ScriptContent, is_group, Group, Connect, Disconnect, Close, Limit, Offer, OfferSize, Claim, Commit, Abort, Read, Join, Leave, Send, Deliver, Raw, Tick, Reply, RawBack, Poll, Image}
use Rattle.script.specs.Pieces.{lines, words}

-- the word is a number, in decimal digits, with any leading zeros
pub record IsNumber (word : List ℕ) (n : ℕ) : Type 0 where
  pub some : 0 < length word
  pub digits : AllPass is_ascii_digit word
  pub value : n ≡ digits_value 10 word

abbrev pub IsUpTo : ℕ → List ℕ → ℕ → Type 0
IsUpTo most word n = IsNumber word n × (n ≤ most)

-- the number of a publisher or of a receiver
abbrev pub IsPartyNumber : List ℕ → ℕ → Type 0
IsPartyNumber word n = IsUpTo 7 word n

-- the number of a reader beside the sender
abbrev pub IsReader : List ℕ → ℕ → Type 0
IsReader word n = IsUpTo 7 word n × (0 < n)

-- a number of 64 bits, as sizes, packets, moments and starts are
abbrev pub IsWide : List ℕ → ℕ → Type 0
IsWide word n = IsUpTo (2 ^ 64 - 1) word n

-- a signed number of 32 bits: digits, or a minus sign and digits
abbrev pub IsSigned : List ℕ → ℤ → Type 0
IsSigned word z =
    ((n : ℕ) × IsUpTo (2 ^ 31 - 1) word n × (z ≡ pos n))
    ⊎ ((digits : List ℕ) × (n : ℕ) × (word ≡ 45 ∷ digits) × IsUpTo (2 ^ 31) digits n × (z ≡ neg_ℤ (pos n)))

-- two digits for each byte: 0 to 9, a to f, A to F
abbrev pub SpellsBytes : List ℕ → List ℕ → Type 0
SpellsBytes text bytes = decode_of text ≡ Ok bytes

abbrev pub IsHex : List ℕ → List ℕ → Type 0
IsHex word bytes = (0 < length bytes) × SpellsBytes word bytes

-- words that say a command
abbrev pub SayCommand : List (List ℕ) → CommandContent → Type 0
SayCommand ws (Group size) = (a : List ℕ) × (ws ≡ codes "group" ∷ a ∷ []) × IsUpTo 8 a size × (0 < size)
SayCommand ws Connect = ws ≡ codes "connect" ∷ []
SayCommand ws Disconnect = ws ≡ codes "disconnect" ∷ []
SayCommand ws Close = ws ≡ codes "close" ∷ []
SayCommand ws Limit = ws ≡ codes "limit" ∷ []
SayCommand ws (Offer publisher message) = (a : List ℕ) × (b : List ℕ) × (ws ≡ codes "offer" ∷ a ∷ codes "hex" ∷ b ∷ []) × IsPartyNumber a publisher × IsHex b message
SayCommand ws (OfferSize publisher size) = (a : List ℕ) × (b : List ℕ) × (ws ≡ codes "offer" ∷ a ∷ codes "size" ∷ b ∷ []) × IsPartyNumber a publisher × IsWide b size
SayCommand ws (Claim publisher size) = (a : List ℕ) × (b : List ℕ) × (ws ≡ codes "claim" ∷ a ∷ b ∷ []) × IsPartyNumber a publisher × IsWide b size
SayCommand ws (Commit publisher) = (a : List ℕ) × (ws ≡ codes "commit" ∷ a ∷ []) × IsPartyNumber a publisher
SayCommand ws (Abort publisher) = (a : List ℕ) × (ws ≡ codes "abort" ∷ a ∷ []) × IsPartyNumber a publisher
SayCommand ws (Read reader) = (a : List ℕ) × (ws ≡ codes "read" ∷ a ∷ []) × IsReader a reader
SayCommand ws (Join reader) = (a : List ℕ) × (ws ≡ codes "join" ∷ a ∷ []) × IsReader a reader
SayCommand ws (Leave reader) = (a : List ℕ) × (ws ≡ codes "leave" ∷ a ∷ []) × IsReader a reader
SayCommand ws (Send now) = (a : List ℕ) × (ws ≡ codes "send" ∷ a ∷ []) × IsWide a now
SayCommand ws (Deliver packet receiver now) = (a : List ℕ) × (b : List ℕ) × (c : List ℕ) × (ws ≡ codes "deliver" ∷ a ∷ b ∷ c ∷ []) × IsWide a packet × IsPartyNumber b receiver × IsWide c now
SayCommand ws (Raw receiver now bytes) = (a : List ℕ) × (b : List ℕ) × (c : List ℕ) × (ws ≡ codes "raw" ∷ a ∷ b ∷ c ∷ []) × IsPartyNumber a receiver × IsWide b now × IsHex c bytes
SayCommand ws (Tick receiver now) = (a : List ℕ) × (b : List ℕ) × (ws ≡ codes "tick" ∷ a ∷ b ∷ []) × IsPartyNumber a receiver × IsWide b now
SayCommand ws (Reply packet now) = (a : List ℕ) × (b : List ℕ) × (ws ≡ codes "reply" ∷ a ∷ b ∷ []) × IsWide a packet × IsWide b now
SayCommand ws (RawBack now bytes) = (a : List ℕ) × (b : List ℕ) × (ws ≡ codes "rawback" ∷ a ∷ b ∷ []) × IsWide a now × IsHex b bytes
SayCommand ws (Poll receiver) = (a : List ℕ) × (ws ≡ codes "poll" ∷ a ∷ []) × IsPartyNumber a receiver
SayCommand ws (Image receiver) = (a : List ℕ) × (ws ≡ codes "image" ∷ a ∷ []) × IsPartyNumber a receiver

-- the words that open a log, and their ranges
pub record AreLogWords (ws : List (List ℕ)) (log : Opening) (term_length mtu initial start session stream readers : List ℕ) : Type 0 where
  pub words : ws ≡ codes "log" ∷ term_length ∷ mtu ∷ initial ∷ start ∷ session ∷ stream ∷ readers ∷ []
  pub term_length_is : IsUpTo (2 ^ 32 - 1) term_length log.term_length
  pub mtu_is : IsUpTo (2 ^ 32 - 1) mtu log.mtu
  pub initial_is : IsSigned initial log.initial_term_id
  pub start_is : IsWide start log.start
  pub session_is : IsSigned session log.session
  pub stream_is : IsSigned stream log.stream
  pub readers_is : IsUpTo 7 readers log.readers

abbrev pub SayLog : List (List ℕ) → Opening → Type 0
SayLog ws log = (a : List ℕ) × (b : List ℕ) × (c : List ℕ) × (d : List ℕ) × (e : List ℕ) × (f : List ℕ) × (g : List ℕ) × AreLogWords ws log a b c d e f g

abbrev pub SaysOpening : List ℕ → Opening → Type 0
SaysOpening line log = SayLog (words line) log

abbrev pub Says : List ℕ → CommandContent → Type 0
Says line command = SayCommand (words line) command

-- a line that has a byte
abbrev pub is_full : List ℕ → Bool
is_full [] = false
is_full (byte ∷ line) = true

-- a group is named only by the first command
abbrev pub MayStand : Bool → CommandContent → Type 0
MayStand true command = Unit {0}
MayStand false command = is_group command ≡ false

-- each line says its command, the first of which is the first of all or not
abbrev pub AllSay : Bool → List (List ℕ) → List CommandContent → Type 0
AllSay first [] [] = Unit {0}
AllSay first [] (command ∷ commands) = ⊥
AllSay first (line ∷ ls) [] = ⊥
AllSay first (line ∷ ls) (command ∷ commands) = Says line command × MayStand first command × AllSay false ls commands

-- Of the lines that aren't empty the first opens the log, and the others say the commands; a group stands only right behind the log.
abbrev pub IsScript : List ℕ → ScriptContent → Type 0
IsScript text script = (first : List ℕ) × (rest : List (List ℕ)) × (filter is_full (lines text) ≡ first ∷ rest) × SaysOpening first script.log × AllSay true rest script.commands

-- A line fits behind others: it is empty; or it opens the log, and they are empty; or it says a command, and they aren't, and where it names a group, only one of them isn't.
abbrev pub FitsBehind : List (List ℕ) → List ℕ → Type 0
FitsBehind before line =
    (line ≡ []) ⊎ (((filter is_full before ≡ []) × ((log : Opening) × SaysOpening line log))
    ⊎ ((0 < length (filter is_full before)) × ((command : CommandContent) × Says line command × MayStand (nat_eq (length (filter is_full before)) 1) command)))

-- the line at this place, counted from 0, fits behind those above it
abbrev pub FitsAt : List (List ℕ) → ℕ → Type 0
FitsAt ls i = FitsBehind (take i ls) (get_or ls i [])

-- the number of the first line that doesn't fit
pub record IsFirstUnfit (ls : List (List ℕ)) (number : ℕ) : Type 0 where
  pub place : ℕ
  pub counted : number ≡ place + 1
  pub inside : place < length ls
  pub above : (i : ℕ) → i < place → FitsAt ls i
  pub unfit : FitsAt ls place → ⊥

-- a line whose first word is `log`, well formed or not
abbrev pub BeginsLog : List ℕ → Type 0
BeginsLog line = (rest : List (List ℕ)) × (words line ≡ codes "log" ∷ rest)

-- The line of a text's fault: the last one if no line begins with `log`, else the first that doesn't fit.
abbrev pub IsFaultLine : List ℕ → ℕ → Type 0
IsFaultLine text number =
    ((Any BeginsLog (lines text) → ⊥) × (number ≡ max 1 (length (lines text))))
    ⊎ (Any BeginsLog (lines text) × IsFirstUnfit (lines text) number)
