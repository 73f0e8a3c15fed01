-- Which step on the words of a log is which event of the model.
-- Each is a step of one pass on one word, and what `publication` and `log_rule` say of such a step. Loads that arm nobody
-- are looks, and so is what only tells a pass of itself. Where `publication` doesn't say it of the step, an event asks for
-- more: that a frame is the first open one of its claim, and the one that the claim has there (`IsNextFrame`); that the
-- limit is raised by what the keeper has cleaned; that a consumer joins at the least position.
use Rattle.std.specs.Prelude.{◌≡◌, ℕ, ◌+◌, ◌-◌, ◌*◌, ◌/◌, ◌%◌, ◌^◌, ◌<◌, ◌≤◌, ◌==◌, Bool, true, false, max, List, [], ◌∷◌, ◌++◌, length, map, slice_index, slice_set}
use mathlib.Core.Option.{some}
use lib.ListN.{get_elem?}
use prog.Atomic.{either}
use Rattle.atomic_table.specs.Table.{State}
use Rattle.theory.specs.Entry.{IsPadFrame, IsPiece, flags_of}
use Rattle.theory.specs.Placed.{Among, Frame, Pad, Placed}
use Rattle.theory.specs.Position.{framed_length, id_of, max_message, span}
use Rattle.theory.specs.Refusal.{is_closed, is_connected, limit_in}
use Rattle.theory.specs.Words.{offset_in, tail_word}
use Rattle.position.specs.Words.{IsLegal}
use Rattle.publication.specs.declared.pass.ClaimRange.{ClaimRange}
use Rattle.publication.specs.declared.pass.FrameWords.{FrameWords}
use Rattle.publication.specs.declared.pass.Pass.{Pass}
use Rattle.publication.specs.declared.pass.Reading.{Reading}
use Rattle.publication.specs.Steps.{Adds, Arms, Counts, ExchangesCount, HasWord, Names, Nexts, Rotates, Sees, Stores, geometry_of, term_of, with_work}
use Rattle.log_rule.specs.declared.claims.view.View.{View}
use Rattle.log_rule.specs.declared.rule.Key.{Key}
use Rattle.log_rule.specs.Claims.Packs.{consumer_place, count_place, limit_place, slot, tail_place}
use Rattle.log_rule.specs.Claims.Plays.{pass_in}
use Rattle.log_rule.specs.Keepings.{CleansWord, Joins, Leaves, MayClean, MayJoin, MayLeave, MayRaise, Raises, SeesConsumer, least_there}
use Rattle.log_rule.specs.Kept.{IsThere}
use Rattle.log_rule.specs.Meetings.{was_shown}
use Rattle.log_rule.specs.Readings.{Consumes, IsConsumer, Looks, Rereads, end_of}
use Rattle.threads_meaning.specs.Modelled.{is_handed, spelled}

-- the pass with this number among the passes takes a step on the word i, which becomes f of what it was, and is told this. Of the words behind the control words nothing is said: they are what the rule says of them
pub record Turns (s : State (Unit {0}) View) (id : ℕ) (v : Pass) (i : ℕ) (f : ℕ → ℕ) (tells : ℕ → Pass → Type 0) (t : State (Unit {0}) View) : Type 0 where
  pub at : get_elem? (map pass_in s.views) id ≡ some v
  pub after : Pass
  pub words : (j : ℕ) → j < 208 → slice_index t.words j ≡ slice_index (slice_set s.words i (f (slice_index s.words i))) j
  pub passes : map pass_in t.views ≡ slice_set (map pass_in s.views) id after
  pub told : tells (slice_index s.words i) after

-- it loads a word
abbrev pub Loads : State (Unit {0}) View → ℕ → Pass → ℕ → (ℕ → Pass → Type 0) → State (Unit {0}) View → Type 0
Loads s id v i told t = Turns s id v i (λ n. n) told t

-- it stores this one
abbrev pub Puts : State (Unit {0}) View → ℕ → Pass → ℕ → ℕ → (Pass → Type 0) → State (Unit {0}) View → Type 0
Puts s id v i x told t = Turns s id v i (λ _. x) (λ _ w. told w) t

-- ---- looks

-- the tail of the count that was seen is one of that count, below the term's end and the limit
pub record IsOpen (v : Pass) (n : ℕ) : Type 0 where
  pub named : Names v n v.seen.count
  pub short : offset_in n < term_of v
  pub below : v.seen.count * term_of v + offset_in n < limit_in v.right.limit

-- a pass loads a word and learns what it says; it isn't armed by that
pub data LooksAt (s : State (Unit {0}) View) (t : State (Unit {0}) View) : Type 0 where
  load_limit : (id : ℕ) (v : Pass) → Loads s id v limit_place (λ n w. Sees v n w) t → LooksAt s t
  load_count : (id : ℕ) (v : Pass) → Loads s id v count_place (λ n w. Counts v n w) t → LooksAt s t
  load_tail : (id : ℕ) (v : Pass) → Loads s id v (tail_place v.seen.count) (λ n w. Arms v n w × (IsOpen v n → ⊥)) t → LooksAt s t
  load_next : (id : ℕ) (v : Pass) (k : ℕ) → Loads s id v (tail_place (k + 1)) (λ n w. Nexts v k n w) t → LooksAt s t
  load_here : (id : ℕ) (v : Pass) (place : ℕ) (r : Reading) (i : ℕ) → IsConsumer v place r → Loads s id v i (λ _ w. (n : ℕ) × Looks v place n w) t → LooksAt s t
  load_word : (id : ℕ) (v : Pass) (place p k i : ℕ) → Loads s id v i (λ _ w. (n : ℕ) × Rereads v place p k n w) t → LooksAt s t
  load_consumer : (id : ℕ) (v : Pass) (number : ℕ) → IsThere v.keeping.there number → v.keeping.right ≡ 1 → Loads s id v (consumer_place number) (λ n w. SeesConsumer v number n w) t → LooksAt s t
  -- what a pass is told of itself, and a position that it is shown
  load_own : (id : ℕ) (v : Pass) (i : ℕ) → Loads s id v i (λ _ w. w ≡ v) t → LooksAt s t
  load_shown : (id : ℕ) (v : Pass) (i : ℕ) → Loads s id v i (λ _ w. (p : ℕ) × (w ≡ was_shown p v)) t → LooksAt s t

-- ---- a publisher

-- a pass that may add loads the tail of the count that it has seen, and is armed
pub record StepArms (gone : List ℕ) (s : State (Unit {0}) View) (by seen : ℕ) (t : State (Unit {0}) View) : Type 0 where
  pub id : ℕ
  pub v : Pass
  pub turn : Loads s id v (tail_place v.seen.count) (λ n w. Arms v n w × IsOpen v n) t
  pub number : by ≡ v.number
  pub limit : seen ≡ limit_in v.right.limit
  -- a number that was handed over isn't used again
  pub living : is_handed gone by ≡ false

-- it adds what a message of so many bytes covers, to a tail below the term's end, or to one that has reached it
pub record StepAdds (s : State (Unit {0}) View) (by bytes : ℕ) (finds : Pass → ℕ → Type 0) (t : State (Unit {0}) View) : Type 0 where
  pub id : ℕ
  pub v : Pass
  pub turn : Turns s id v (tail_place v.seen.term) (λ n. (n + framed_length (geometry_of v) bytes) % 2 ^ 64) (λ n w. Adds v bytes n w × finds v n) t
  pub armed : v.right.armed ≡ 1
  pub number : by ≡ v.number
  pub size : bytes ≤ max_message (geometry_of v)

abbrev pub IsBelow : Pass → ℕ → Type 0
IsBelow v n = offset_in n < term_of v

abbrev pub IsOver : Pass → ℕ → Type 0
IsOver v n = term_of v ≤ offset_in n

-- a word of an open frame that isn't its first
pub record StepStores (s t : State (Unit {0}) View) : Type 0 where
  pub id : ℕ
  pub v : Pass
  pub p : ℕ
  pub x : ℕ
  pub has : HasWord v 1 p
  pub turn : Puts s id v (slot (geometry_of v) p) x (λ w. Stores v p x w) t

-- the term behind a full one begins, or the active count goes on
pub data StepTurns (s t : State (Unit {0}) View) : Type 0 where
  exchange_next : (id : ℕ) (v : Pass) (k from : ℕ) → Turns s id v (tail_place (k + 1)) (λ n. either (n == from) (tail_word (id_of (geometry_of v) (k + 1)) 0) n) (λ n w. Rotates v k from n w) t → StepTurns s t
  exchange_count : (id : ℕ) (v : Pass) (k : ℕ) → Turns s id v count_place (λ n. either (n == k) (k + 1) n) (λ n w. ExchangesCount v k n w) t → StepTurns s t

-- ---- a frame is committed

abbrev pub is_first : List ℕ → Bool
is_first [] = true
is_first (cut ∷ cuts) = false

-- what a claim has behind some of its cuts: the piece of a message, or the padding
abbrev pub IsFrameOf : Bool → List ℕ → ℕ → List ℕ → Frame → Type 0
IsFrameOf true front cut behind f = (front ≡ []) × (behind ≡ []) × IsPadFrame cut f
IsFrameOf false front cut behind f = IsPiece cut (flags_of (is_first front) behind) f

-- it is a frame of a claim that begins here, there and as the claim has it, and none below it in the claim is open
pub record IsNextFrame (v : Pass) (start p : ℕ) (f : Frame) : Type 0 where
  pub claim : ClaimRange
  pub among : Among claim v.right.claims
  pub here : claim.start ≡ start
  pub front : List ℕ
  pub cut : ℕ
  pub behind : List ℕ
  pub cuts : claim.cuts ≡ front ++ cut ∷ behind
  pub place : p ≡ start + span front
  pub first : (d : FrameWords) → Among d v.work.drafts → start ≤ d.start → p ≤ d.start
  pub is : IsFrameOf claim.padding front cut behind f

-- the open frame that begins at a position becomes a committed one
pub record CommitsFrame (key : Key) (p : ℕ) (f : Frame) (v w : Pass) : Type 0 where
  pub front : List FrameWords
  pub draft : FrameWords
  pub behind : List FrameWords
  pub parts : v.work.drafts ≡ front ++ draft ∷ behind
  pub inside : 0 < length draft.words
  pub position : p ≡ draft.start
  pub legal : IsLegal key.identity.geometry f
  pub after : w ≡ with_work (v.work.frames ++ spelled key.identity (record { at = p; frame = f }) ∷ []) (front ++ behind) v

-- by a step on a word that isn't a control word
pub record CommitsAt (key : Key) (s : State (Unit {0}) View) (id : ℕ) (v : Pass) (p : ℕ) (f : Frame) (t : State (Unit {0}) View) : Type 0 where
  pub i : ℕ
  pub x : ℕ
  pub far : 208 ≤ i
  pub turn : Puts s id v i x (λ w. CommitsFrame key p f v w) t

-- a frame that is the next of its claim is committed
pub record StepCommits (key : Key) (s : State (Unit {0}) View) (start : ℕ) (f : Frame) (t : State (Unit {0}) View) : Type 0 where
  pub id : ℕ
  pub v : Pass
  pub p : ℕ
  pub step : CommitsAt key s id v p f t
  pub next : IsNextFrame v start p f

-- a message's claim of one frame becomes a padding
pub record StepAborts (key : Key) (s : State (Unit {0}) View) (start : ℕ) (t : State (Unit {0}) View) : Type 0 where
  pub id : ℕ
  pub v : Pass
  pub claim : ClaimRange
  pub among : Among claim v.right.claims
  pub here : claim.start ≡ start
  pub message : claim.padding ≡ false
  pub cut : ℕ
  pub single : claim.cuts ≡ cut ∷ []
  pub step : CommitsAt key s id v start (Pad cut) t

-- ---- the keeper

-- one word more is zero, a term or more below each consumer that is there
pub record StepCleans (s : State (Unit {0}) View) (least : ℕ) (t : State (Unit {0}) View) : Type 0 where
  pub id : ℕ
  pub v : Pass
  pub may : MayClean v
  pub least_is : least ≡ least_there v.keeping.there v.keeping.positions
  pub turn : Puts s id v (slot (geometry_of v) v.keeping.cleaned) 0 (λ w. CleansWord v w) t

-- the limit's word is stored, of which this is so
pub record StepLimits (s : State (Unit {0}) View) (stores : Pass → ℕ → Type 0) (t : State (Unit {0}) View) : Type 0 where
  pub id : ℕ
  pub v : Pass
  pub word : ℕ
  pub may : MayRaise v word
  pub is : stores v word
  pub turn : Puts s id v limit_place word (λ w. Raises v word w) t

-- the log isn't closed and is connected, and all is cleaned that lies a term below the least position that was seen; the limit is half a term above that then, or where it was
pub record RaisesTo (least : ℕ) (v : Pass) (word : ℕ) : Type 0 where
  pub least_is : least ≡ least_there v.keeping.there v.keeping.positions
  pub free : (is_connected v.keeping.limit ≡ true) × (is_closed v.keeping.limit ≡ false)
  pub same : (is_connected word ≡ true) × (is_closed word ≡ false)
  pub cleaned : max v.start (least - term_of v) ≤ v.keeping.cleaned
  pub limit : limit_in word ≡ max (limit_in v.keeping.limit) (least + term_of v / 2)

pub record ConnectsBy (on : Bool) (v : Pass) (word : ℕ) : Type 0 where
  pub limit : limit_in word ≡ limit_in v.keeping.limit
  pub closed : is_closed word ≡ is_closed v.keeping.limit
  pub connected : is_connected word ≡ on

pub record ClosesBy (v : Pass) (word : ℕ) : Type 0 where
  pub limit : limit_in word ≡ limit_in v.keeping.limit
  pub closed : is_closed word ≡ true
  pub connected : is_connected word ≡ is_connected v.keeping.limit

-- ---- consumers

-- a consumer goes past the frame where it stands, which it knows
pub record StepMoves (key : Key) (s : State (Unit {0}) View) (number : ℕ) (past : Placed) (t : State (Unit {0}) View) : Type 0 where
  pub id : ℕ
  pub v : Pass
  pub place : ℕ
  pub r : Reading
  pub is : IsConsumer v place r
  pub low : r.number < 8
  pub number_is : number ≡ r.number
  pub frame : FrameWords
  pub known : Among frame r.known
  pub here : frame.start ≡ r.position
  -- what it says
  pub says : spelled key.identity past ≡ frame
  pub legal : IsLegal key.identity.geometry past.frame
  pub turn : Puts s id v (consumer_place r.number) (end_of frame) (λ w. Consumes v place (end_of frame) w) t

-- one joins at the least position that the keeper saw
pub record StepJoins (s : State (Unit {0}) View) (number at : ℕ) (t : State (Unit {0}) View) : Type 0 where
  pub id : ℕ
  pub v : Pass
  pub place : ℕ
  pub may : MayJoin v number at
  pub least : at ≡ least_there v.keeping.there v.keeping.positions
  pub turn : Puts s id v (consumer_place number) at (λ w. Joins v number place at w) t

pub record StepLeaves (s : State (Unit {0}) View) (number : ℕ) (t : State (Unit {0}) View) : Type 0 where
  pub id : ℕ
  pub v : Pass
  pub place : ℕ
  pub may : MayLeave v place number
  pub turn : Puts s id v (consumer_place number) 0 (λ w. Leaves v place number w) t
