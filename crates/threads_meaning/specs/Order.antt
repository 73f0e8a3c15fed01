-- What `publication` commits is the next of its claim: the frames of a message from the first to the last, and the one
-- frame of a claim.
use Rattle.std.specs.Prelude.{◌≡◌, ℕ, ◌+◌, ◌<◌, false, true, List, [], ◌∷◌, ◌++◌, length, map}
use Rattle.std.specs.List.{AllByRecursion, flat_map}
use mathlib.Core.Option.{some}
use lib.ListN.{get_elem?}
use Rattle.atomic_table.specs.Table.{State}
use Rattle.theory.specs.Entry.{IsPiece, pieces_of}
use Rattle.theory.specs.Placed.{Among, Frame, frame_length}
use Rattle.theory.specs.Position.{IsGeometry, aligned, cuts_of}
use Rattle.position.specs.Words.{IsLegal}
use Rattle.publication.specs.declared.pass.ClaimRange.{ClaimRange}
use Rattle.publication.specs.declared.pass.Pass.{Pass}
use Rattle.publication.specs.Claims.{Claimed, Fills, HasBlank}
use Rattle.publication.specs.Frames.{CompletesFrame, message_frames}
use Rattle.publication.specs.Steps.{Commits, Extent, extent_of, frames_of, ranges_of, with_work}
use Rattle.log_rule.specs.declared.claims.view.View.{View}
use Rattle.log_rule.specs.declared.rule.Key.{Key}
use Rattle.log_rule.specs.Claims.Plays.{pass_in}
use Rattle.log_rule.specs.Table.{LogRuled}
use Rattle.log_rule.specs.Claims.Rule.{IsClaimEntry, entries_of}
use Rattle.log_rule.specs.Claims.Sums.{total}
use Rattle.threads_meaning.specs.Steps.{CommitsFrame, IsNextFrame}

-- these frames are committed one after the other, each where the one before ends, and each is the next of the claim that begins here
abbrev pub CommitsInOrder : Key → ℕ → ℕ → Pass → List Frame → Pass → Type 0
CommitsInOrder key start p v [] w = w ≡ v
CommitsInOrder key start p v (f ∷ fs) w = (u : Pass) × CommitsFrame key p f v u × IsNextFrame v start p f × CommitsInOrder key start (p + aligned (frame_length f)) u fs w

-- what the rule says of any pass: its frames are those of its claims, which are entries
pub record IsSound (key : Key) (v : Pass) : Type 0 where
  pub geometry : IsGeometry key.identity.geometry
  pub identity : v.identity ≡ key.identity
  pub entries : AllByRecursion IsClaimEntry (entries_of v)
  pub placed : (h : Extent → ℕ) → total h (flat_map ranges_of v.right.claims) ≡ total h (map extent_of (frames_of v))

-- so is each pass of a log, whatever state the rule holds of
abbrev pub PassesAreSound : Type 0
PassesAreSound = (key : Key) (s : State (Unit {0}) View) (id : ℕ) (v : Pass) → LogRuled key s → get_elem? (map pass_in s.views) id ≡ some v → IsSound key v

-- what an accepted offer commits, between its claim and its end
abbrev pub OffersInOrder : Type 0
OffersInOrder = (key : Key) (p between : Pass) (message : List ℕ) (start : ℕ) → IsSound key p → AllByRecursion (λ b. b < 256) message → Claimed p (length message) start between
    → CommitsInOrder key start start between (pieces_of true (cuts_of key.identity.geometry (length message)) message) (with_work (p.work.frames ++ message_frames p.identity true start message) p.work.drafts between)

-- a claim of one frame is committed with its message, or as a padding, whatever else is open
abbrev pub SinglesAreNext : Type 0
SinglesAreNext = (key : Key) (v w : Pass) (c : ClaimRange) (cut : ℕ) (f : Frame) → v.identity ≡ key.identity → Among c v.right.claims → c.padding ≡ false → c.cuts ≡ cut ∷ [] → 0 < cut → HasBlank v c.start cut → IsLegal key.identity.geometry f → frame_length f ≡ cut → Fills v c.start f w
    → CommitsFrame key c.start f v w × (IsPiece cut 192 f → IsNextFrame v c.start c.start f)

-- the store of a frame's first word commits it
abbrev pub WordsCommit : Type 0
WordsCommit = (key : Key) (v w : Pass) (p x : ℕ) (frame : CompletesFrame v p x) → v.identity ≡ key.identity → Commits v p x w → CommitsFrame key p frame.content v w
