-- What a plain log shows of its stream, and what holds of its parts between two calls.
-- The parts are what each addition took, and the bytes of the messages, in the order in which they were committed. No
-- entry is forgotten, so the tail is at most a term above the start.
use Rattle.std.specs.Prelude.{◌≡◌, ℕ, ◌+◌, ◌/◌, ◌≤◌, ⊤, true, false, List, [], ◌∷◌, length, map, replicate, take, drop, Option, None, Some, slice_get}
use Rattle.std.specs.List.{AllByRecursion}
use Rattle.std.specs.Option.{option_map}
use Rattle.theory.specs.Position.{Geometry}
use Rattle.theory.specs.Entry.{Entry}
use Rattle.theory.specs.Bytes.{Identity}
use Rattle.one_hand.specs.Entries.{claim_of, padded, published}
use Rattle.one_hand.specs.Legal.{IsStream}
use Rattle.one_hand.specs.Stream.{OpenClaim, Stream}
use Rattle.log_tests.specs.declared.plain_log.addition.Addition.{Addition}
use Rattle.log_tests.specs.declared.plain_log.addition.Content.{Content}
use Rattle.log_tests.specs.declared.plain_log.addition.Content.TheVariants as content
use Rattle.log_tests.specs.declared.plain_log.addition.PlacedClaim.{PlacedClaim}

-- the parts
pub record Plain : Type 0 where
  pub identity : Identity
  pub start : ℕ
  pub tail : ℕ
  pub active : ℕ
  pub shares : List ℕ
  pub additions : List Addition
  pub bytes : List ℕ
  pub held : List (Option PlacedClaim)

-- the bytes of a message
abbrev pub message_at : List ℕ → ℕ → ℕ → List ℕ
message_at bytes at size = take size (drop at bytes)

abbrev pub entry_by : Geometry → List ℕ → ℕ → ℕ → ℕ → Content → Entry
entry_by g bytes start owner size content.Open = claim_of g start owner false size
entry_by g bytes start owner size content.Padding = padded start owner size
entry_by g bytes start owner size (content.Message at) = published g start owner (message_at bytes at size)

abbrev pub entry_of : Geometry → List ℕ → Addition → Entry
entry_of g bytes a = entry_by g bytes a.start a.owner a.size a.content

abbrev pub claim_in : Option PlacedClaim → Option OpenClaim
claim_in held = option_map (λ (h : PlacedClaim). record { start = h.start; size = h.size }) held

abbrev pub stream_of : Plain → Stream
stream_of p = record {
  identity = p.identity;
  start = p.start;
  tail = p.tail;
  limit = p.start + p.identity.geometry.term_length / 2;
  connected = true;
  closed = false;
  consumers = replicate 8 None;
  active = p.active;
  shares = p.shares;
  cleaned = p.start;
  entries = map (entry_of p.identity.geometry p.bytes) p.additions;
  claims = map claim_in p.held;
}

-- ---- where the bytes of messages stand

abbrev pub EndsBelow : ℕ → ℕ → Content → Type 0
EndsBelow all size content.Open = ⊤
EndsBelow all size content.Padding = ⊤
EndsBelow all size (content.Message at) = at + size ≤ all

abbrev pub IsIn : ℕ → Addition → Type 0
IsIn all a = EndsBelow all a.size a.content

abbrev pub stored_by : ℕ → Content → ℕ
stored_by size content.Open = 0
stored_by size content.Padding = 0
stored_by size (content.Message at) = size

-- how many bytes the messages have
abbrev pub stored : List Addition → ℕ
stored [] = 0
stored (a ∷ more) = stored_by a.size a.content + stored more

-- ---- what holds of the parts

-- the addition of a claim that is open
abbrev pub open_addition : ℕ → PlacedClaim → Addition
open_addition by h = record { start = h.start; owner = by; size = h.size; content = content.Open }

-- it is a stream's, and nothing of it is forgotten
pub record IsFrom (start : ℕ) (s : Stream) : Type 0 where
  pub legal : IsStream s
  pub begins : legal.first ≡ start

pub record IsPlain (p : Plain) : Type 0 where
  pub whole : IsFrom p.start (stream_of p)
  pub bound : p.tail ≤ p.start + p.identity.geometry.term_length
  pub within : AllByRecursion (IsIn (length p.bytes)) p.additions
  pub all : length p.bytes ≡ stored p.additions
  pub holds : (by : ℕ) (h : PlacedClaim) → slice_get p.held by ≡ Some (Some h) → slice_get p.additions h.place ≡ Some (open_addition by h)
