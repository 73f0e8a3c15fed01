-- Reading from the first line to the last, and in a line from the first word to the last.
use Rattle.std.specs.Prelude.{◌≡◌, ℕ, ◌+◌, ◌-◌, ◌^◌, ℤ, Bool, true, false, not, nat_lt, ◌&&◌, List, [], ◌∷◌, ◌++◌, length, max, Option, Some, None, Result, Ok, Err, if◌then◌else◌, codes, bytes_eq}
use Rattle.std.specs.List.{list_any}
use Rattle.script.specs.declared.fault.ScriptFault.{ScriptFault}
use Rattle.script.specs.declared.fault.ScriptFault.TheVariants as faults
use Rattle.script.specs.Meaning.{Opening, CommandContent, ScriptContent, is_group, Group, Connect, Disconnect, Close, Limit, Offer, OfferSize, Claim, Commit, Abort, Read, Join, Leave, Send, Deliver, Raw, Tick, Reply, RawBack, Poll, Image}
use Rattle.script.specs.Pieces.{lines, words}
use Rattle.text.specs.Decimals.{◌>>=◌, number_of, signed_of}
use Rattle.script.specs.Values.{hex_of}

-- What was returned, seen by `view`, is what reading gives.
abbrev pub ReturnsRead : {X Y : Type 0} → (X → Y) → Option X → Option Y → Type 0
ReturnsRead view (Some x) read = read ≡ Some (view x)
ReturnsRead view None read = read ≡ None

-- The same of a line with this number, unless memory runs out.
abbrev pub FailsAt : {Y : Type 0} → ℕ → ScriptFault → Option Y → Type 0
FailsAt number (faults.Line n) read = (n ≡ number) × (read ≡ None)
FailsAt number faults.Memory read = Unit {0}

abbrev pub GivesAt : {X Y : Type 0} → ℕ → (X → Y) → Result X ScriptFault → Option Y → Type 0
GivesAt number view (Ok x) read = read ≡ Some (view x)
GivesAt number view (Err fault) read = FailsAt number fault read

-- A field is a value and the words after it.
unfoldable pub word_at : List (List ℕ) → Option (List ℕ × List (List ℕ))
word_at [] = None
word_at (word ∷ rest) = Some (word, rest)

unfoldable pub number_at : ℕ → List (List ℕ) → Option (ℕ × List (List ℕ))
number_at most ws = word_at ws >>= λ w. number_of most w.0 >>= λ n. Some (n, w.1)

unfoldable pub signed_at : List (List ℕ) → Option (ℤ × List (List ℕ))
signed_at ws = word_at ws >>= λ w. signed_of w.0 >>= λ n. Some (n, w.1)

-- the greatest number of 64 bits
abbrev pub most_wide : ℕ
most_wide = 2 ^ 64 - 1

-- nothing, if no word is left
unfoldable pub end_of : List (List ℕ) → Option (Unit {0})
end_of [] = Some tt
end_of (word ∷ rest) = None

-- a value, if no word is left
abbrev pub whole : {A : Type 0} → A → List (List ℕ) → Option A
whole x ws = end_of ws >>= λ _. Some x

-- the number of the last word
unfoldable pub last_number : List (List ℕ) → Option ℕ
last_number ws = number_at most_wide ws >>= λ n. whole n.0 n.1

-- the bytes of the last word
unfoldable pub last_bytes : List (List ℕ) → Option (List ℕ)
last_bytes ws = word_at ws >>= λ digits. hex_of digits.0 >>= λ bytes. whole bytes digits.1

-- what stands behind the form of an offer
unfoldable pub offer_hex_of : ℕ → List (List ℕ) → Option CommandContent
offer_hex_of publisher ws = last_bytes ws >>= λ message. Some (Offer publisher message)

unfoldable pub offer_size_of : ℕ → List (List ℕ) → Option CommandContent
offer_size_of publisher ws = last_number ws >>= λ size. Some (OfferSize publisher size)

unfoldable pub form_of : ℕ → List ℕ → List (List ℕ) → Option CommandContent
form_of publisher form ws =
    if bytes_eq form (codes "hex") then offer_hex_of publisher ws
    else (if bytes_eq form (codes "size") then offer_size_of publisher ws else None)

-- the size of a group, 1 to 8, as the last word
unfoldable pub group_size_of : List (List ℕ) → Option ℕ
group_size_of ws = number_at 8 ws >>= λ n. whole n.0 n.1

-- what stands behind the names of some commands
unfoldable pub group_of : List (List ℕ) → Option CommandContent
group_of ws = group_size_of ws >>= λ size. (if nat_lt 0 size then Some (Group size) else None)

unfoldable pub offer_of : List (List ℕ) → Option CommandContent
offer_of ws = number_at 7 ws >>= λ p. word_at p.1 >>= λ form. form_of p.0 form.0 form.1

unfoldable pub send_of : List (List ℕ) → Option CommandContent
send_of ws = last_number ws >>= λ now. Some (Send now)

unfoldable pub deliver_of : List (List ℕ) → Option CommandContent
deliver_of ws = number_at most_wide ws >>= λ packet. number_at 7 packet.1 >>= λ receiver. last_number receiver.1 >>= λ now. Some (Deliver packet.0 receiver.0 now)

unfoldable pub reply_of : List (List ℕ) → Option CommandContent
reply_of ws = number_at most_wide ws >>= λ packet. last_number packet.1 >>= λ now. Some (Reply packet.0 now)

unfoldable pub raw_of : List (List ℕ) → Option CommandContent
raw_of ws = number_at 7 ws >>= λ receiver. number_at most_wide receiver.1 >>= λ now. last_bytes now.1 >>= λ bytes. Some (Raw receiver.0 now.0 bytes)

unfoldable pub raw_back_of : List (List ℕ) → Option CommandContent
raw_back_of ws = number_at most_wide ws >>= λ now. last_bytes now.1 >>= λ bytes. Some (RawBack now.0 bytes)

-- the command of a name behind which nothing stands
unfoldable pub bare_of : List ℕ → Option CommandContent
bare_of name =
    if bytes_eq name (codes "connect") then Some Connect
    else (if bytes_eq name (codes "disconnect") then Some Disconnect
    else (if bytes_eq name (codes "close") then Some Close
    else (if bytes_eq name (codes "limit") then Some Limit else None)))

-- of a name behind which a reader stands alone
unfoldable pub reader_of : List ℕ → ℕ → Option CommandContent
reader_of name reader =
    if bytes_eq name (codes "read") then Some (Read reader)
    else (if bytes_eq name (codes "join") then Some (Join reader)
    else (if bytes_eq name (codes "leave") then Some (Leave reader) else None))

-- of a name behind which a party stands alone; reader 0 is the sender, which no line names
unfoldable pub party_alone_of : List ℕ → ℕ → Option CommandContent
party_alone_of name party =
    if bytes_eq name (codes "commit") then Some (Commit party)
    else (if bytes_eq name (codes "abort") then Some (Abort party)
    else (if bytes_eq name (codes "poll") then Some (Poll party)
    else (if bytes_eq name (codes "image") then Some (Image party)
    else (if nat_lt 0 party then reader_of name party else None))))

-- of a name behind which a party and a number stand
unfoldable pub party_and_number_of : List ℕ → ℕ → ℕ → Option CommandContent
party_and_number_of name party number =
    if bytes_eq name (codes "claim") then Some (Claim party number)
    else (if bytes_eq name (codes "tick") then Some (Tick party number) else None)

-- one of two, as nothing is left or something
abbrev pub left_of : {A : Type 0} → Option (Unit {0}) → A → A → A
left_of (Some _) nothing something = nothing
left_of None nothing something = something

unfoldable pub of_party : List ℕ → List (List ℕ) → Option CommandContent
of_party name ws = number_at 7 ws >>= λ party.
    left_of (end_of party.1) (party_alone_of name party.0) (last_number party.1 >>= λ number. party_and_number_of name party.0 number)

-- of a name with words behind it
unfoldable pub numbered_of : List ℕ → List (List ℕ) → Option CommandContent
numbered_of name ws =
    if bytes_eq name (codes "send") then send_of ws
    else (if bytes_eq name (codes "deliver") then deliver_of ws
    else (if bytes_eq name (codes "reply") then reply_of ws
    else (if bytes_eq name (codes "group") then group_of ws else of_party name ws)))

unfoldable pub plain_of : List ℕ → List (List ℕ) → Option CommandContent
plain_of name ws = left_of (end_of ws) (bare_of name) (numbered_of name ws)

-- of those that hold bytes, and the others
unfoldable pub named_of : List ℕ → List (List ℕ) → Option CommandContent
named_of name ws =
    if bytes_eq name (codes "offer") then offer_of ws
    else (if bytes_eq name (codes "raw") then raw_of ws
    else (if bytes_eq name (codes "rawback") then raw_back_of ws else plain_of name ws))

unfoldable pub command_of : List ℕ → Option CommandContent
command_of line = word_at (words line) >>= λ name. named_of name.0 name.1

-- a command where it stands, the first or not
abbrev pub placed : Bool → CommandContent → Option CommandContent
placed first command = if not first && is_group command then None else Some command

unfoldable pub command_at : Bool → List ℕ → Option CommandContent
command_at first line = command_of line >>= λ command. placed first command

abbrev pub are_none : List CommandContent → Bool
are_none [] = true
are_none (command ∷ commands) = false

-- how a log is shaped
pub record ShapeContent : Type 0 where
  pub term_length : ℕ
  pub mtu : ℕ
  pub initial_term_id : ℤ
  pub start : ℕ

-- the fields of the line that opens the log
unfoldable pub shape_at : List (List ℕ) → Option (ShapeContent × List (List ℕ))
shape_at ws =
    number_at (2 ^ 32 - 1) ws >>= λ term_length. number_at (2 ^ 32 - 1) term_length.1 >>= λ mtu. signed_at mtu.1 >>= λ initial.
    number_at most_wide initial.1 >>= λ start. Some (record { term_length = term_length.0; mtu = mtu.0; initial_term_id = initial.0; start = start.0 }, start.1)

unfoldable pub opening_of : List (List ℕ) → Option Opening
opening_of ws =
    shape_at ws >>= λ shape. signed_at shape.1 >>= λ session. signed_at session.1 >>= λ stream. number_at 7 stream.1 >>= λ readers.
    whole (record { term_length = shape.0.term_length; mtu = shape.0.mtu; initial_term_id = shape.0.initial_term_id; start = shape.0.start; session = session.0; stream = stream.0; readers = readers.0 }) readers.1

unfoldable pub log_of : List ℕ → Option Opening
log_of line = word_at (words line) >>= λ name. (if bytes_eq name.0 (codes "log") then opening_of name.1 else None)

abbrev pub is_log_name : Option (List ℕ × List (List ℕ)) → Bool
is_log_name None = false
is_log_name (Some name) = bytes_eq name.0 (codes "log")

-- the first word is `log`
unfoldable pub is_log : List ℕ → Bool
is_log line = is_log_name (word_at (words line))

-- the pieces in front of what reading gives
abbrev pub with_front : List CommandContent → Result (Option Opening × List CommandContent) ℕ → Result (Option Opening × List CommandContent) ℕ
with_front front (Ok x) = Ok (x.0, front ++ x.1)
with_front front (Err number) = Err number

-- what comes after a value, or the number of the line that lacks it
abbrev pub behind : {A B : Type 0} → ℕ → Option A → (A → Result B ℕ) → Result B ℕ
behind number None next = Err number
behind number (Some x) next = next x

-- what the lines from this number on say, before the first command or behind it, once the log is opened or not; an error is the number of a line that doesn't fit
unfoldable pub script_from : ℕ → Bool → Option Opening → List (List ℕ) → Result (Option Opening × List CommandContent) ℕ
script_from number first log [] = Ok (log, [])
script_from number first log ([] ∷ rest) = script_from (number + 1) first log rest
script_from number first None ((byte ∷ line) ∷ rest) = behind number (log_of (byte ∷ line)) (λ log. script_from (number + 1) first (Some log) rest)
script_from number first (Some log) ((byte ∷ line) ∷ rest) = behind number (command_at first (byte ∷ line)) (λ command. with_front (command ∷ []) (script_from (number + 1) false (Some log) rest))

-- a line on, the rest says the same
abbrev pub ReadsOn : ℕ → List ℕ → Option Opening → List CommandContent → Option Opening → List CommandContent → Type 0
ReadsOn number line log commands next_log next_commands = (rest : List (List ℕ)) → with_front next_commands (script_from (number + 1) (are_none next_commands) next_log rest) ≡ with_front commands (script_from number (are_none commands) log (line ∷ rest))

abbrev pub finished : Result (Option Opening × List CommandContent) ℕ → Result ScriptContent ℕ
finished (Err number) = Err number
finished (Ok (None, commands)) = Err 1
finished (Ok (Some log, commands)) = Ok (record { log = log; commands = commands })

-- the script that a text is, or the number of the line of its fault
unfoldable pub script_of : List ℕ → Result ScriptContent ℕ
script_of bytes = if list_any is_log (lines bytes) then finished (script_from 1 true None (lines bytes)) else Err (max 1 (length (lines bytes)))

-- What was returned is what reading gives, unless memory runs out.
abbrev pub FaultIs : {Y : Type 0} → ScriptFault → Result Y ℕ → Type 0
FaultIs (faults.Line number) read = read ≡ Err number
FaultIs faults.Memory read = Unit {0}

abbrev pub GivesScript : {X Y : Type 0} → (X → Y) → Result X ScriptFault → Result Y ℕ → Type 0
GivesScript view (Ok x) read = read ≡ Ok (view x)
GivesScript view (Err fault) read = FaultIs fault read
