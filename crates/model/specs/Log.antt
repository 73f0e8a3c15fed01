-- A log, and what may happen to it.
-- An addition takes two steps of its publisher, as it does in threads. Who has seen a limit above the tail is armed
-- (`Arm`), and who is armed may add once: at the tail (`Add`), or nothing, where its term was finished meanwhile
-- (`Miss`). So several may be armed at one limit, which is why room counts them. Loads, stores of a frame's words but
-- for the first, and a turn of the term change nothing here.
use Rattle.std.specs.Prelude.{◌≡◌, ℕ, ◌+◌, ◌-◌, ◌*◌, ◌/◌, ◌%◌, ◌<◌, ◌≤◌, Bool, true, false, not, List, [], ◌∷◌, ◌++◌, map, max, nat_eq, nat_le, if◌then◌else◌, Option, None, Some, ◌⊎◌, slice_get, slice_set}
use Rattle.std.specs.List.{count_by, AllByRecursion}
use Rattle.theory.specs.Position.{cuts_of, greatest_claim, max_message, max_position, span}
use Rattle.theory.specs.Placed.{Among, Frame, IsReached, Pad, Placed, payload_of}
use Rattle.theory.specs.Entry.{Entry, HaveFrames, committed, entry_end}
use Rattle.theory.specs.Tiling.{retire}
use Rattle.theory.specs.Bytes.{Identity}
use Rattle.theory.specs.Numbered.{Each}
use Rattle.theory.specs.Consumer.{Consumer, MayMove, consumer_at, moved, passed_by}

-- armed and retired by the publisher's number, readers by theirs; the words below cleaned are zero
pub record Log : Type 0 where
  pub identity : Identity
  pub start : ℕ
  pub tail : ℕ
  pub entries : List Entry
  pub armed : List Bool
  pub retired : List Bool
  pub limit : ℕ
  pub connected : Bool
  pub closed : Bool
  pub cleaned : ℕ
  pub readers : List (Option Consumer)

abbrev pub term_of : Log → ℕ
term_of l = l.identity.geometry.term_length

-- what an addition for a message of this many bytes takes at the tail
abbrev pub room : Log → ℕ
room l = term_of l - l.tail % term_of l

abbrev pub taken_cuts : Log → ℕ → List ℕ
taken_cuts l bytes = if nat_le (span (cuts_of l.identity.geometry bytes)) (room l) then cuts_of l.identity.geometry bytes else room l ∷ []

abbrev pub entry_for : Log → ℕ → ℕ → Entry
entry_for l by bytes = record {
  start = l.tail;
  owner = by;
  padding = not (nat_le (span (cuts_of l.identity.geometry bytes)) (room l));
  cuts = taken_cuts l bytes;
  frames = [];
}

abbrev pub with_frame : ℕ → Frame → Entry → Entry
with_frame start f e = record e { frames = if nat_eq e.start start then e.frames ++ f ∷ [] else e.frames }

abbrev pub aborted_at : ℕ → Entry → Entry
aborted_at start e = record e {
  padding = if nat_eq e.start start then true else e.padding;
  frames = if nat_eq e.start start then map Pad e.cuts else e.frames;
}

pub data LogEvent : Type 0 where
  Look : LogEvent
  Arm : (by : ℕ) (seen_limit : ℕ) → LogEvent
  Add : (by : ℕ) (bytes : ℕ) → LogEvent
  Miss : (by : ℕ) → LogEvent
  Store : LogEvent
  Commit : (start : ℕ) (frame : Frame) → LogEvent
  Abort : (start : ℕ) → LogEvent
  Rotate : LogEvent
  Clean : (least : ℕ) → LogEvent
  Raise : (least : ℕ) → LogEvent
  Connect : (on : Bool) → LogEvent
  Close : LogEvent
  Join : (reader : ℕ) (at : ℕ) → LogEvent
  Leave : (reader : ℕ) → LogEvent
  Move : (reader : ℕ) (past : Placed) → LogEvent
  Pass : (reader : ℕ) (past : Placed) → LogEvent
  Retire : (kept : ℕ) (gone : ℕ) → LogEvent

-- the entry at this start may get this frame next
pub record MayCommit (l : Log) (start : ℕ) (f : Frame) : Type 0 where
  pub entry : Entry
  pub among : Among entry l.entries
  pub here : entry.start ≡ start
  pub frames : HaveFrames entry.padding entry.cuts (entry.frames ++ f ∷ [])
  pub bytes : AllByRecursion (λ b. b < 256) (payload_of f)

-- an open claim of one frame
pub record MayAbort (l : Log) (start : ℕ) : Type 0 where
  pub entry : Entry
  pub among : Among entry l.entries
  pub here : entry.start ≡ start
  pub open_message : entry.padding ≡ false
  pub untouched : entry.frames ≡ []
  pub cut : ℕ
  pub single : entry.cuts ≡ cut ∷ []

-- a position that a call read as the least: no consumer is below it now. Others are the positions of the consumers that are no readers here: the sender's, where there is one
pub record IsLowest (others : List ℕ) (l : Log) (least : ℕ) : Type 0 where
  pub others_above : AllByRecursion (λ p. least ≤ p) others
  pub readers_above : Each (λ r. least ≤ r.at) l.readers

-- another consumer than this one is there
abbrev pub HasOther : List ℕ → Log → ℕ → Type 0
HasOther others l which = (others ≡ [] → ⊥) ⊎ ((k : ℕ) × (r : Consumer) × (k ≡ which → ⊥) × (slice_get l.readers k ≡ Some (Some r)))

-- a publisher's number that isn't retired
abbrev pub IsLiving : Log → ℕ → Type 0
IsLiving l by = (by < 8) × (slice_get l.retired by ≡ Some false)

abbrev pub LogStep : List ℕ → Log → LogEvent → Log → Type 0
LogStep others old Look new = new ≡ old
LogStep others old (Arm by seen) new =
    IsLiving old by × (seen ≤ old.limit) × (old.tail < seen) × (new ≡ record old { armed = slice_set old.armed by true })
LogStep others old (Add by bytes) new =
    IsLiving old by × (slice_get old.armed by ≡ Some true) × (bytes ≤ max_message old.identity.geometry) × (old.tail < max_position old.identity.geometry)
    × (new ≡ record old { armed = slice_set old.armed by false; entries = old.entries ++ entry_for old by bytes ∷ []; tail = entry_end (entry_for old by bytes) })
-- an addition to a term that is finished takes nothing; the tail may stand in a later term by then
LogStep others old (Miss by) new = (slice_get old.armed by ≡ Some true) × (new ≡ record old { armed = slice_set old.armed by false })
LogStep others old Store new = new ≡ old
LogStep others old (Commit start f) new = MayCommit old start f × (new ≡ record old { entries = map (with_frame start f) old.entries })
LogStep others old (Abort start) new = MayAbort old start × (new ≡ record old { entries = map (aborted_at start) old.entries })
LogStep others old Rotate new = new ≡ old
LogStep others old (Clean least) new = IsLowest others old least × (old.cleaned + 8 ≤ max old.start (least - term_of old)) × (new ≡ record old { cleaned = old.cleaned + 8 })
LogStep others old (Raise least) new =
    (least % 32 ≡ 0) × IsLowest others old least × (max old.start (least - term_of old) ≤ old.cleaned) × (old.connected ≡ true) × (old.closed ≡ false)
    × (new ≡ record old { limit = max old.limit (least + term_of old / 2) })
LogStep others old (Connect on) new = new ≡ record old { connected = on }
LogStep others old Close new = new ≡ record old { closed = true }
-- a consumer joins at a least position that was read, from which nothing is cleaned
LogStep others old (Join which at) new =
    (slice_get old.readers which ≡ Some None) × IsReached (committed old.entries) old.start at × IsLowest others old at × (old.cleaned ≤ max old.start (at - term_of old))
    × (new ≡ record old { readers = slice_set old.readers which (Some (consumer_at at)) })
LogStep others old (Leave which) new = (r : Consumer) × (slice_get old.readers which ≡ Some (Some r)) × HasOther others old which × (new ≡ record old { readers = slice_set old.readers which None })
LogStep others old (Move which past) new =
    (r : Consumer) × (slice_get old.readers which ≡ Some (Some r)) × MayMove (committed old.entries) past r × (r.lost ≡ false)
    × (new ≡ record old { readers = slice_set old.readers which (Some (moved r past)) })
LogStep others old (Pass which past) new =
    (r : Consumer) × (slice_get old.readers which ≡ Some (Some r)) × MayMove (committed old.entries) past r
    × (new ≡ record old { readers = slice_set old.readers which (Some (passed_by r past)) })
-- the bytes of a number that isn't armed are another's, and it is retired for good
LogStep others old (Retire kept gone) new =
    IsLiving old kept × IsLiving old gone × (kept ≡ gone → ⊥) × (slice_get old.armed gone ≡ Some false)
    × (new ≡ record old { entries = retire kept gone old.entries; retired = slice_set old.retired gone true })

-- what each armed publisher may still take is within the limit and eight claims, and that within what is cleaned. That the bytes from the tail up to three terms past what is cleaned are zero is said of the log's own state, which has bytes
pub record HasRoom (l : Log) : Type 0 where
  pub tail : l.tail + greatest_claim l.identity.geometry * count_by (λ a. a) l.armed ≤ l.limit + 8 * greatest_claim l.identity.geometry
  pub limit : l.limit + 8 * greatest_claim l.identity.geometry ≤ l.cleaned + 3 * term_of l
