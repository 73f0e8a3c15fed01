-- The stream that a log in one hand shows, by the pass that has all.
-- Its entries are the pass's claims in order, each with the committed frames whose words begin in its range, read off
-- those words; those that begin below what is cleaned are forgotten.
use Rattle.std.specs.Prelude.{◌≡◌, ℕ, zero, suc, ◌+◌, ◌<◌, ◌≤◌, ◌&&◌, ⊤, Bool, List, [], ◌∷◌, map, nat_eq, nat_le, length, Option, None, Some, slice_get}
use Rattle.std.specs.List.{AllByRecursion, filter, list_any}
use Rattle.theory.specs.Position.{aligned, span}
use Rattle.theory.specs.Placed.{Among, Frame, frame_length, is_padding}
use Rattle.theory.specs.Entry.{Entry}
use Rattle.theory.specs.Bytes.{Identity}
use Rattle.theory.specs.Refusal.{is_closed, is_connected, limit_in}
use Rattle.publication.specs.declared.pass.ClaimRange.{ClaimRange}
use Rattle.publication.specs.declared.pass.Controls.{Controls}
use Rattle.publication.specs.declared.pass.FrameWords.{FrameWords}
use Rattle.publication.specs.declared.pass.Pass.{Pass}
use Rattle.publication.specs.Contents.{frame_in}
use Rattle.publication.specs.Steps.{blank}
use Rattle.publication.specs.Alone.{Settled}
use Rattle.log_rule.specs.Claims.Sums.{total}
use Rattle.log_rule.specs.Shares.{range_bytes}
use Rattle.shared_log.specs.Readers.{positions_of}
use Rattle.one_hand.specs.Stream.{OpenClaim, Stream, kept_from, standing}
use Rattle.one_hand.specs.Legal.{IsStream}
use Rattle.one_hand.specs.declared.log_hand.held.Held.{Held}

-- ---- entries

abbrev pub end_of : ClaimRange → ℕ
end_of c = c.start + span c.cuts

abbrev pub lies_in : ClaimRange → FrameWords → Bool
lies_in c f = nat_le c.start f.start && nat_le (f.start + 1) (end_of c)

-- the committed frames of a claim
abbrev pub frames_in : List FrameWords → ClaimRange → List Frame
frames_in frames c = map frame_in (filter (lies_in c) frames)

abbrev pub entry_in : List FrameWords → ClaimRange → Entry
entry_in frames c = record { start = c.start; owner = c.owner; padding = list_any is_padding (frames_in frames c); cuts = c.cuts; frames = frames_in frames c }

-- ---- the stream

-- how many bytes claims cover
abbrev pub spans : List ClaimRange → ℕ
spans claims = total range_bytes claims

abbrev pub share : List ClaimRange → ℕ → ℕ
share claims by = spans (filter (λ c. nat_eq c.owner by) claims)

abbrev pub shares_of : List ClaimRange → List ℕ
shares_of claims = share claims 0 ∷ share claims 1 ∷ share claims 2 ∷ share claims 3 ∷ share claims 4 ∷ share claims 5 ∷ share claims 6 ∷ share claims 7 ∷ []

abbrev pub open_claim : Held → OpenClaim
open_claim h = record { start = h.start; size = h.size }

abbrev pub claim_in : Option Held → Option OpenClaim
claim_in None = None
claim_in (Some h) = Some (open_claim h)

-- the consumers by their numbers: those with a flag are there, at these positions in order
abbrev pub seated : List ℕ → List ℕ → List (Option ℕ)
seated [] positions = []
seated (zero ∷ flags) positions = None ∷ seated flags positions
seated (suc f ∷ flags) [] = None ∷ seated flags []
seated (suc f ∷ flags) (at ∷ positions) = Some at ∷ seated flags positions

abbrev pub consumers_of : Pass → List (Option ℕ)
consumers_of v = seated v.keeping.there (positions_of v)

-- by the claims in the order of the stream and the committed frames, with the entries that are forgotten too
abbrev pub stream_by : Identity → ℕ → List (Option ℕ) → ℕ → List ClaimRange → List FrameWords → Controls → List (Option Held) → Stream
stream_by identity start consumers cleaned claims frames c held = record {
  identity = identity;
  start = start;
  tail = start + spans claims;
  limit = limit_in c.limit;
  connected = is_connected c.limit;
  closed = is_closed c.limit;
  consumers = consumers;
  active = c.count;
  shares = shares_of claims;
  cleaned = cleaned;
  entries = map (entry_in frames) claims;
  claims = map claim_in held;
}

abbrev pub stream_of : Pass → Controls → List (Option Held) → Stream
stream_of v c held = stream_by v.identity v.start (consumers_of v) v.keeping.cleaned v.right.claims v.work.frames c held

-- without them
abbrev pub kept : Stream → Stream
kept l = record l { entries = kept_from l.cleaned l.entries }

-- the claims follow each other from here
abbrev pub Follow : ℕ → List ClaimRange → Type 0
Follow p [] = ⊤
Follow p (c ∷ cs) = (c.start ≡ p) × (0 < span c.cuts) × Follow (p + span c.cuts) cs

-- the frames follow each other from here
abbrev pub Chained : ℕ → List FrameWords → Type 0
Chained p [] = ⊤
Chained p (f ∷ fs) = (f.start ≡ p) × Chained (p + aligned (frame_length (frame_in f))) fs

-- what holds between two calls of the hand
pub record WholeBy (identity : Identity) (start : ℕ) (consumers : List (Option ℕ)) (cleaned : ℕ) (claims : List ClaimRange) (frames drafts : List FrameWords) (c : Controls) (held : List (Option Held)) : Type 0 where
  pub settled : Settled identity.geometry (start + spans claims) c.count c
  pub eight : length held ≡ 8
  pub follow : Follow start claims
  pub past : AllByRecursion (λ f. (start ≤ f.start) × (f.start < start + spans claims)) frames
  -- those of each claim are its first ones
  pub chained : AllByRecursion (λ c. Chained c.start (filter (lies_in c) frames)) claims
  pub begun : (by : ℕ) (h : Held) → slice_get held by ≡ Some (Some h) → Among (blank h.start (32 + h.size)) drafts
  -- no consumer stands above an open claim, or the tail
  pub above : (by : ℕ) (h : Held) → slice_get held by ≡ Some (Some h) → AllByRecursion (λ p. p ≤ h.start) (standing consumers)
  pub reached : AllByRecursion (λ p. (start ≤ p) × (p ≤ start + spans claims)) (standing consumers)
  pub stream : IsStream (stream_by identity start consumers cleaned claims frames c held)

abbrev pub IsWhole : Pass → Controls → List (Option Held) → Type 0
IsWhole v c held = WholeBy v.identity v.start (consumers_of v) v.keeping.cleaned v.right.claims v.work.frames v.work.drafts c held
