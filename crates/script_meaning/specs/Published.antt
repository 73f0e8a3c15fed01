-- What a reader of a script and its output sees of messages, positions and joins, and nothing else.
-- It speaks of the commands and the lines that they printed alone. Whether bytes of the script's own (`raw`) are
-- honest is judged by the line itself, which tells what became of each frame. Packets that a script delivers are
-- honest always.
use Rattle.std.specs.Prelude.{◌≡◌, ◌⊎◌, ◌<◌, ◌≤◌, ◌+◌, ◌-◌, ℕ, Bool, ⊤, true, false, ◌&&◌, List, [], ◌∷◌, ◌++◌, map, fold, length, replicate, Option, None, Some, nat_eq, nat_le, if◌then◌else◌}
use Rattle.std.specs.Option.{option_to_list}
use Rattle.std.specs.List.{filter, flat_map, sum_by, AllByRecursion}
use Rattle.theory.specs.Position.{Geometry, aligned, framed_length}
use Rattle.theory.specs.Placed.{Among, Data, Frame, Pad, frame_length}
use Rattle.theory.specs.Assembly.{after_all, nothing_heard}
use Rattle.theory.specs.Wire.{SpellsDatagram, Wire}
use Rattle.assembler.specs.declared.fault.AssemblyError.TheVariants.{Memory, TooLong}
use Rattle.script.specs.Meaning as commands
use Rattle.script.specs.Meaning.{CommandContent}
use Rattle.receiver.specs.declared.receiver_core.Outcome.{Outcome}
use Rattle.receiver.specs.declared.receiver_core.Outcome.TheVariants as outcomes
use Rattle.script_meaning.specs.LineContents as content
use Rattle.script_meaning.specs.LineContents.{LineContent}

-- a line of a script, and what it printed
pub record Played : Type 0 where
  pub command : CommandContent
  pub lines : List LineContent

-- a range of the stream that a line took for a message of so many bytes, and the message once it is committed
pub record Range : Type 0 where
  pub start : ℕ
  pub end : ℕ
  pub size : ℕ
  pub message : Option (List ℕ)

-- of a message that was offered, and answered with this position
abbrev pub offered_at : Geometry → List ℕ → ℕ → Range
offered_at g message end = record { start = end - framed_length g (length message); end = end; size = length message; message = Some message }

abbrev pub offers_in : Geometry → List ℕ → LineContent → List Range
offers_in g message (content.Position end) = offered_at g message end ∷ []
offers_in g message line = []

abbrev pub claims_in : ℕ → LineContent → List Range
claims_in size (content.Claimed start end) = record { start = start; end = end; size = size; message = None } ∷ []
claims_in size line = []

-- a claim that was committed holds bytes 61
abbrev pub filled_at : ℕ → Range → Range
filled_at end r = record r { message = if nat_eq r.end end then Some (replicate r.size 97) else r.message }

abbrev pub filled_by : List Range → LineContent → List Range
filled_by ranges (content.Position end) = map (filled_at end) ranges
filled_by ranges line = ranges

abbrev pub messages_in : LineContent → List (List ℕ)
messages_in (content.Message bytes) = bytes ∷ []
messages_in line = []

-- the assembler was refused memory
abbrev pub is_refusal : LineContent → Bool
is_refusal (content.Unassembled Memory) = true
is_refusal line = false

-- a message was longer than the greatest
abbrev pub is_too_long : LineContent → Bool
is_too_long (content.Unassembled TooLong) = true
is_too_long line = false

abbrev pub joins_of : Outcome → List ℕ
joins_of (outcomes.Opened join) = join ∷ []
joins_of outcome = []

abbrev pub joins_in : LineContent → List ℕ
joins_in (content.OfReceiver outcome) = joins_of outcome
joins_in line = []

-- the ranges behind a line: an offer that was accepted or a claim takes one more, a commit fills its own
abbrev pub ranges_after : Geometry → List Range → CommandContent → List LineContent → List Range
ranges_after g ranges (commands.Offer by message) lines = ranges ++ flat_map (offers_in g message) lines
ranges_after g ranges (commands.OfferSize by size) lines = ranges ++ flat_map (offers_in g (replicate size 97)) lines
ranges_after g ranges (commands.Claim by size) lines = ranges ++ flat_map (claims_in size) lines
ranges_after g ranges (commands.Commit by) lines = fold filled_by ranges lines
ranges_after g ranges command lines = ranges

-- the frame that a line of a reader shows
abbrev pub frames_in : LineContent → List Frame
frames_in (content.FrameData start flags bytes) = Data flags bytes ∷ []
frames_in (content.FramePad start frame_length) = Pad frame_length ∷ []
frames_in line = []

-- what is said of a reader where the line is one of its own
abbrev pub read_by : ℕ → CommandContent → List LineContent → List Frame
read_by r (commands.Read number) lines = if nat_eq number r then flat_map frames_in lines else []
read_by r command lines = []

-- where a line says that a reader joined, or that it left
abbrev pub turns_in : LineContent → List (Option ℕ)
turns_in (content.Joined at) = Some at ∷ []
turns_in content.Left = None ∷ []
turns_in line = []

abbrev pub turned_by : ℕ → CommandContent → List LineContent → List (Option ℕ)
turned_by r (commands.Join number) lines = if nat_eq number r then flat_map turns_in lines else []
turned_by r (commands.Leave number) lines = if nat_eq number r then flat_map turns_in lines else []
turned_by r command lines = []

-- what is said of a receiver where the line is one of its own
abbrev pub polled_by : ℕ → CommandContent → List LineContent → List (List ℕ)
polled_by i (commands.Poll number) lines = if nat_eq number i then flat_map messages_in lines else []
polled_by i command lines = []

abbrev pub joined_by : ℕ → CommandContent → List LineContent → List ℕ
joined_by i (commands.Deliver k number now) lines = if nat_eq number i then flat_map joins_in lines else []
joined_by i (commands.Raw number now bytes) lines = if nat_eq number i then flat_map joins_in lines else []
joined_by i command lines = []

-- no poll of the receiver printed that memory was refused to its assembler
abbrev pub IsWhole : ℕ → CommandContent → List LineContent → Type 0
IsWhole i (commands.Poll number) lines = number ≡ i → AllByRecursion (λ line. is_refusal line ≡ false) lines
IsWhole i command lines = ⊤

-- nor that a message was too long
abbrev pub IsShort : ℕ → CommandContent → List LineContent → Type 0
IsShort i (commands.Poll number) lines = number ≡ i → AllByRecursion (λ line. is_too_long line ≡ false) lines
IsShort i command lines = ⊤

-- the bytes of the packets that a line of the sender or of a receiver printed
abbrev pub packets_in : LineContent → List (List ℕ)
packets_in (content.Packet number bytes) = bytes ∷ []
packets_in line = []

abbrev pub packets_by : CommandContent → List LineContent → List (List ℕ)
packets_by (commands.Send now) lines = flat_map packets_in lines
packets_by (commands.Tick number now) lines = flat_map packets_in lines
packets_by (commands.Reply k now) lines = flat_map packets_in lines
packets_by (commands.RawBack now bytes) lines = flat_map packets_in lines
packets_by command lines = []

-- ---- bytes of the script's own

-- a frame of one of these packets
pub record WasPrinted (packets : List (List ℕ)) (w : Wire) : Type 0 where
  pub bytes : List ℕ
  pub among : Among bytes packets
  pub frames : List Wire
  pub spelled : SpellsDatagram frames bytes
  pub here : Among w frames

-- this holds where the frame was given to an image, or was a SETUP that opened one
abbrev pub IfGiven : Outcome → Type 0 → Type 0
IfGiven (outcomes.Inserted answer) Then = Then
IfGiven (outcomes.Opened join) Then = Then
IfGiven outcome Then = ⊤

-- a frame that an image was given, and a SETUP that opened one, was printed; heartbeats, NAKs, status messages and what was passed over may be anything
abbrev pub IsHonestFrame : List (List ℕ) → Wire → LineContent → Type 0
IsHonestFrame packets w (content.OfReceiver outcome) = IfGiven outcome (WasPrinted packets w)
IsHonestFrame packets w line = ⊤

-- the frames of a datagram, each with the line that says what became of it
abbrev pub AreHonestFrames : List (List ℕ) → List Wire → List LineContent → Type 0
AreHonestFrames packets [] lines = ⊤
AreHonestFrames packets (w ∷ ws) [] = ⊤
AreHonestFrames packets (w ∷ ws) (line ∷ lines) = IsHonestFrame packets w line × AreHonestFrames packets ws lines

-- what the line hands receiver i of the script's own bytes, behind these packets
abbrev pub IsHonestLine : ℕ → List (List ℕ) → CommandContent → List LineContent → Type 0
IsHonestLine i packets (commands.Raw number now bytes) lines = number ≡ i → (frames : List Wire) → SpellsDatagram frames bytes → AreHonestFrames packets frames lines
IsHonestLine i packets command lines = ⊤

-- ---- of a whole script

-- the ranges that lines took behind others
abbrev pub ranges_behind : Geometry → List Range → List Played → List Range
ranges_behind g ranges [] = ranges
ranges_behind g ranges (p ∷ ps) = ranges_behind g (ranges_after g ranges p.command p.lines) ps

-- the messages of the offers that were accepted and of the claims that were committed, in the order of their positions
abbrev pub published : Geometry → List Played → List Range
published g played = ranges_behind g [] played

-- the frames that the lines of reader r showed
abbrev pub read : ℕ → List Played → List Frame
read r played = flat_map (λ p. read_by r p.command p.lines) played

-- where reader r joined and when it left, in order
abbrev pub turns : ℕ → List Played → List (Option ℕ)
turns r played = flat_map (λ p. turned_by r p.command p.lines) played

-- the messages that the polls of receiver i printed
abbrev pub polled : ℕ → List Played → List (List ℕ)
polled i played = flat_map (λ p. polled_by i p.command p.lines) played

-- where its image was opened
abbrev pub joins : ℕ → List Played → List ℕ
joins i played = flat_map (λ p. joined_by i p.command p.lines) played

abbrev pub AllWhole : ℕ → List Played → Type 0
AllWhole i played = AllByRecursion (λ p. IsWhole i p.command p.lines) played

abbrev pub AllShort : ℕ → List Played → Type 0
AllShort i played = AllByRecursion (λ p. IsShort i p.command p.lines) played

-- the packets that lines printed
abbrev pub printed : List Played → List (List ℕ)
printed played = flat_map (λ p. packets_by p.command p.lines) played

-- what the script's own bytes gave the image of receiver i had been printed before, by the sender
abbrev pub AllHonest : ℕ → List Played → Type 0
AllHonest i played = (done later : List Played) (p : Played) → played ≡ done ++ p ∷ later → IsHonestLine i (printed done) p.command p.lines

-- the messages that start at or after j and end at or before q
abbrev pub between : ℕ → ℕ → List Range → List (List ℕ)
between j q ranges = flat_map (λ r. option_to_list r.message) (filter (λ r. nat_le j r.start && nat_le r.end q) ranges)

-- the last line was one of positions of receiver i, which named this least position
abbrev pub LastTold : ℕ → ℕ → List Played → Type 0
LastTold i least played =
    (before : List Played) × (rebuilt : ℕ) × (high : ℕ) × (played ≡ before ++ record { command = commands.Image i; lines = content.Positions least rebuilt high ∷ [] } ∷ [])

-- receiver i has no image yet, and printed no message
abbrev pub PolledNothing : ℕ → List Played → Type 0
PolledNothing i played = (joins i played ≡ []) × (polled i played ≡ [])

-- it joined at j, and printed what was published from there to q, in order and whole; q is what its line of positions names
abbrev pub PolledTo : Geometry → ℕ → List Played → Type 0
PolledTo g i played =
    (j : ℕ) × (q : ℕ) × (joins i played ≡ j ∷ []) × (polled i played ≡ between j q (published g played)) × ((least : ℕ) → LastTold i least played → q ≡ least)

-- after each line of a script: of each receiver whose image was given the sender's frames alone, unless memory was refused to its assembler. No message is too long for it
abbrev pub PolledPrefix : Geometry → List Played → Type 0
PolledPrefix g played = (i : ℕ) → i < 8 → AllWhole i played → AllHonest i played → (PolledNothing i played ⊎ PolledTo g i played) × AllShort i played

-- what frames cover
abbrev pub covered_by : List Frame → ℕ
covered_by frames = sum_by (λ f. aligned (frame_length f)) frames

-- these lines came since reader r began at j: with the log, of whose readers it is one, or by the line before them
abbrev pub HasBegun : ℕ → ℕ → ℕ → ℕ → List Played → List Played → Type 0
HasBegun start readers r j since played =
    ((0 < r) × (r ≤ readers) × (j ≡ start) × (since ≡ played))
    ⊎ ((before : List Played) × (p : Played) × (turned_by r p.command p.lines ≡ Some j ∷ []) × (played ≡ before ++ p ∷ since))

-- and it is still there: none of them says that it joined or left
pub record IsThere (start readers r j : ℕ) (since played : List Played) : Type 0 where
  pub begun : HasBegun start readers r j since played
  pub stays : turns r since ≡ []

-- what an assembler gives of the frames that these lines of reader r showed is what was published from there to their end, in order and whole
abbrev pub ReadTo : Geometry → ℕ → ℕ → List Played → List Played → Type 0
ReadTo g j r since played = (after_all nothing_heard (read r since)).given ≡ between j (j + covered_by (read r since)) (published g played)

-- of each reader that is there, from its join on
abbrev pub ReadPrefix : Geometry → ℕ → ℕ → List Played → Type 0
ReadPrefix g start readers played = (r j : ℕ) (since : List Played) → IsThere start readers r j since played → ReadTo g j r since played
