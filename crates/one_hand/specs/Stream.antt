-- A log that one hand holds with all its passes: what its calls answer, and what they make of it.
-- No raw tail, partition or pass is part of a stream: between two calls no turn is half done, so a term is used up
-- exactly where the tail stands at its end. Where a message doesn't fit its term, the next term is the active one
-- behind the padding, if there is a next. Cleaning forgets the entries that begin more than a term below the least
-- consumer.
use Rattle.std.specs.Prelude.{◌≡◌, ℕ, ◌+◌, ◌-◌, ◌*◌, ◌/◌, ◌^◌, ◌&&◌, Bool, true, false, not, List, [], ◌∷◌, ◌++◌, length, map, fold, max, min, replicate, nat_eq, nat_le, if◌then◌else◌, Option, None, Some, Result, Ok, Err, slice_get, slice_index, slice_index_or, slice_set}
use Rattle.std.specs.List.{filter}
use Rattle.theory.specs.Position.{aligned, framed_length}
use Rattle.theory.specs.Placed.{Data, Frame, Pad}
use Rattle.theory.specs.Entry.{Entry}
use Rattle.theory.specs.Bytes.{Identity}
use Rattle.publication.specs.declared.refusal.Refusal.{Refusal}
use Rattle.publication.specs.declared.refusal.Refusal.TheVariants.{NotConnected, BackPressured, AdminAction, Closed, MaxPositionExceeded}
use Rattle.one_hand.specs.Entries.{claim_of, padded, published, with_share}

-- a range that a publisher holds open, for a message of so many bytes
pub record OpenClaim : Type 0 where
  pub start : ℕ
  pub size : ℕ

pub record Stream : Type 0 where
  pub identity : Identity
  pub start : ℕ
  pub tail : ℕ
  pub limit : ℕ
  pub connected : Bool
  pub closed : Bool
  -- where each consumer stands, by its number; none where nobody has it
  pub consumers : List (Option ℕ)
  -- the count of the term to which the next claim adds
  pub active : ℕ
  -- how many bytes each publisher has claimed, in forgotten entries too
  pub shares : List ℕ
  -- the entries that begin below are forgotten
  pub cleaned : ℕ
  -- the others, in order
  pub entries : List Entry
  -- the claims that are open, by their publishers' numbers
  pub claims : List (Option OpenClaim)

abbrev pub term_of : Stream → ℕ
term_of l = l.identity.geometry.term_length

-- so many consumers, with the first of eight numbers, which stand there
abbrev pub first_consumers : ℕ → ℕ → List (Option ℕ)
first_consumers count at = replicate count (Some at) ++ replicate (8 - count) None

-- a log that was just opened
abbrev pub opened : Identity → ℕ → ℕ → Stream
opened identity start consumers = record {
  identity = identity;
  start = start;
  tail = start;
  limit = start;
  connected = false;
  closed = false;
  consumers = first_consumers consumers start;
  active = start / identity.geometry.term_length;
  shares = replicate 8 0;
  cleaned = start;
  entries = [];
  claims = replicate 8 None;
}

-- a log that was just opened and connected, with its limit half a term above the start
abbrev pub ready : Identity → ℕ → ℕ → Stream
ready identity start consumers = record (opened identity start consumers) { limit = start + identity.geometry.term_length / 2; connected = true }

-- ---- offers and claims

-- how an offer goes: the log is closed; the active term is used up; the tail is at the limit; the message fits; it doesn't
-- fit the rest of the term
pub data OfferCase : Type 0 where
  IsClosed : OfferCase
  IsUsedUp : OfferCase
  IsLimited : OfferCase
  Fits : OfferCase
  Trips : OfferCase

-- what is left of the active term
abbrev pub room : Stream → ℕ
room l = (l.active + 1) * term_of l - l.tail

-- what a message of this many bytes covers
abbrev pub covered : Stream → ℕ → ℕ
covered l bytes = framed_length l.identity.geometry bytes

abbrev pub case_of : Stream → ℕ → OfferCase
case_of l bytes =
    if l.closed then IsClosed
    else (if nat_eq (room l) 0 then IsUsedUp
    else (if nat_le l.limit l.tail then IsLimited
    else (if nat_le (covered l bytes) (room l) then Fits else Trips)))

abbrev pub refusal_at_limit : Stream → Refusal
refusal_at_limit l = if l.connected then BackPressured else NotConnected

abbrev pub refusal_at_end : ℕ → Refusal
refusal_at_end count = if nat_eq count (2 ^ 31 - 1) then MaxPositionExceeded else AdminAction

-- the position behind the message, or the refusal
abbrev pub answer : Stream → ℕ → OfferCase → Result ℕ Refusal
answer l bytes IsClosed = Err Closed
answer l bytes IsUsedUp = Err (refusal_at_end l.active)
answer l bytes IsLimited = Err (refusal_at_limit l)
answer l bytes Fits = Ok (l.tail + covered l bytes)
answer l bytes Trips = Err (refusal_at_end l.active)

abbrev pub answer_of : Stream → ℕ → Result ℕ Refusal
answer_of l bytes = answer l bytes (case_of l bytes)

-- the next term's turn, if this wasn't the last one
abbrev pub turned : Stream → Stream
turned l = if nat_eq l.active (2 ^ 31 - 1) then l else record l { active = l.active + 1 }

-- one entry more
abbrev pub with_entry : Stream → Entry → ℕ → Stream
with_entry l e bytes = record l { tail = l.tail + bytes; shares = with_share l.shares e.owner bytes; entries = l.entries ++ e ∷ [] }

abbrev pub with_message : Stream → ℕ → List ℕ → Stream
with_message l by message = with_entry l (published l.identity.geometry l.tail by message) (covered l (length message))

abbrev pub with_padding : Stream → ℕ → ℕ → Stream
with_padding l by bytes = with_entry l (padded l.tail by bytes) (aligned bytes)

abbrev pub with_claim : Stream → ℕ → ℕ → Stream
with_claim l by size = record (with_entry l (claim_of l.identity.geometry l.tail by false size) (covered l size)) {
  claims = slice_set l.claims by (Some (record { start = l.tail; size = size }));
}

-- the log behind an addition in a case; the last argument is the log where the message fits
abbrev pub after : Stream → ℕ → OfferCase → Stream → Stream
after l by IsClosed fitting = l
after l by IsUsedUp fitting = turned l
after l by IsLimited fitting = l
after l by Fits fitting = fitting
after l by Trips fitting = turned (with_padding l by (room l))

-- a message that fits is committed whole
abbrev pub after_offer : Stream → ℕ → List ℕ → Stream
after_offer l by message = after l by (case_of l (length message)) (with_message l by message)

-- a claim that fits is open
abbrev pub after_claim : Stream → ℕ → ℕ → Stream
after_claim l by size = after l by (case_of l size) (with_claim l by size)

-- ---- open claims

abbrev pub claim_by : Stream → ℕ → Option OpenClaim
claim_by l by = slice_index_or l.claims by None

abbrev pub claim_end : OpenClaim → ℕ
claim_end c = c.start + aligned (c.size + 32)

-- the entry that starts here, with one frame more
abbrev pub with_frame : ℕ → Frame → Entry → Entry
with_frame start f e = record e { frames = if nat_eq e.start start then e.frames ++ f ∷ [] else e.frames }

-- the entry that starts here is a padding
abbrev pub aborted_at : ℕ → Entry → Entry
aborted_at start e = record e {
  padding = if nat_eq e.start start then true else e.padding;
  frames = if nat_eq e.start start then map Pad e.cuts else e.frames;
}

-- the claim is open no more, and these are the entries
abbrev pub without_claim : Stream → ℕ → List Entry → Stream
without_claim l by entries = record l { entries = entries; claims = slice_set l.claims by None }

abbrev pub with_commit : Stream → ℕ → OpenClaim → List ℕ → Stream
with_commit l by c payload = without_claim l by (map (with_frame c.start (Data 192 payload)) l.entries)

abbrev pub with_abort : Stream → ℕ → OpenClaim → Stream
with_abort l by c = without_claim l by (map (aborted_at c.start) l.entries)

-- the publisher's claim became a message with this payload, which ends there
pub record Commits (old : Stream) (by : ℕ) (payload : List ℕ) (end : ℕ) (new : Stream) : Type 0 where
  pub claim : OpenClaim
  pub open_claim : claim_by old by ≡ Some claim
  pub ends : end ≡ claim_end claim
  pub after : new ≡ with_commit old by claim payload

-- the publisher's claim became a padding, which ends there
pub record Aborts (old : Stream) (by : ℕ) (end : ℕ) (new : Stream) : Type 0 where
  pub claim : OpenClaim
  pub open_claim : claim_by old by ≡ Some claim
  pub ends : end ≡ claim_end claim
  pub after : new ≡ with_abort old by claim

-- ---- the keeper

abbrev pub least : List ℕ → ℕ
least positions = fold min (slice_index positions 0) positions

-- the positions of the consumers that are there, in the order of their numbers
abbrev pub standing : List (Option ℕ) → List ℕ
standing [] = []
standing (None ∷ consumers) = standing consumers
standing (Some at ∷ consumers) = at ∷ standing consumers

-- the least of them
abbrev pub lowest : Stream → ℕ
lowest l = least (standing l.consumers)

-- how far the log may be cleaned
abbrev pub clean_end : Stream → ℕ
clean_end l = max l.start (lowest l - term_of l)

-- what a cleaning up to here keeps, and what it forgets
abbrev pub kept_from : ℕ → List Entry → List Entry
kept_from to entries = filter (λ e. nat_le to e.start) entries

abbrev pub forgotten_below : ℕ → List Entry → List Entry
forgotten_below to entries = filter (λ e. not (nat_le to e.start)) entries

-- half a term above the least consumer, unless the limit is further or nobody may publish
abbrev pub raised : Stream → ℕ
raised l = if l.connected && not l.closed then max l.limit (lowest l + term_of l / 2) else l.limit

abbrev pub cleaned_and_limited : Stream → Stream
cleaned_and_limited l = record l { cleaned = clean_end l; entries = kept_from (clean_end l) l.entries; limit = raised l }

-- ---- consumers

-- where the consumer of a number stands, if somebody has it
abbrev pub consumer_at : Stream → ℕ → Option ℕ
consumer_at l reader = slice_index_or l.consumers reader None

abbrev pub position_in : Option ℕ → ℕ
position_in None = 0
position_in (Some at) = at

abbrev pub position_of : Stream → ℕ → ℕ
position_of l reader = position_in (consumer_at l reader)

abbrev pub HasConsumer : Stream → ℕ → Type 0
HasConsumer l reader = consumer_at l reader ≡ Some (position_of l reader)

-- nobody has this one of the eight numbers
abbrev pub IsVacant : Stream → ℕ → Type 0
IsVacant l reader = slice_get l.consumers reader ≡ Some None

-- a consumer with another number is there
pub record HasOther (l : Stream) (reader : ℕ) : Type 0 where
  pub other : ℕ
  pub another : other ≡ reader → ⊥
  pub there : HasConsumer l other

abbrev pub with_consumer : Stream → ℕ → ℕ → Stream
with_consumer l reader at = record l { consumers = slice_set l.consumers reader (Some at) }

-- nobody has the number
abbrev pub without_consumer : Stream → ℕ → Stream
without_consumer l reader = record l { consumers = slice_set l.consumers reader None }
