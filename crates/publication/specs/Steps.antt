-- What a word call makes of a pass, by the word that it answered alone.
-- What threads share has no before and after that one of them could speak of, so a call is said by its pass: what it
-- has seen in this call, step by step; what it may do and has claimed; its frames with their words, committed ones
-- and open ones (drafts); and what it knows as a reader and as a keeper. A pass is a model: no value of it is made.
-- An addition opens all frames of a claim at once, each of zeros; storing a word changes a draft, and storing its
-- first word makes it a committed frame. An addition answers the word before it, and start, end, padding and the term
-- to turn from are computed from that word.
use Rattle.std.specs.Prelude.{◌≡◌, ◌≢◌, ℕ, suc, ◌+◌, ◌-◌, ◌*◌, ◌/◌, ◌%◌, ◌^◌, ◌<◌, ◌≤◌, ◌⊎◌, true, false, List, [], ◌∷◌, ◌++◌, length, max, min, nat_lt, if◌then◌else◌, replicate, slice_set}
use Rattle.std.specs.Int.{w32, cast_unsigned}
use Rattle.theory.specs.Position.{Geometry, aligned, count_of, cuts_of, framed_length, id_of}
use Rattle.theory.specs.Refusal.{limit_in}
use Rattle.theory.specs.Words.{id_in, offset_in, tail_word}
use Rattle.publication.specs.declared.pass.ClaimRange.{ClaimRange}
use Rattle.publication.specs.declared.pass.FrameWords.{FrameWords}
use Rattle.publication.specs.declared.pass.Pass.{Pass}
use Rattle.publication.specs.declared.pass.Work.{Work}
use Rattle.publication.specs.declared.step.WordStep.{WordStep}
use Rattle.publication.specs.declared.step.WordStep.TheVariants as steps
use Rattle.publication.specs.Orders.{EndBelow}

abbrev pub geometry_of : Pass → Geometry
geometry_of v = v.identity.geometry

abbrev pub term_of : Pass → ℕ
term_of v = v.identity.geometry.term_length

-- ---- ranges of the stream, in bytes, and the lengths without alignment of the frames that they are for

pub record Extent : Type 0 where
  pub start : ℕ
  pub bytes : ℕ
  pub cut : ℕ

-- those of frames with these lengths, each beginning where the one before ends
abbrev pub extents : ℕ → List ℕ → List Extent
extents p [] = []
extents p (cut ∷ cuts) = record { start = p; bytes = aligned cut; cut = cut } ∷ extents (p + aligned cut) cuts

abbrev pub ranges_of : ClaimRange → List Extent
ranges_of c = extents c.start c.cuts

abbrev pub frame : ℕ → ℕ → List ℕ → FrameWords
frame p cut ws = record { start = p; cut = cut; words = ws }

abbrev pub extent_of : FrameWords → Extent
extent_of f = record { start = f.start; bytes = 8 * length f.words; cut = f.cut }

-- a frame of this length in which nothing is stored
abbrev pub blank : ℕ → ℕ → FrameWords
blank p cut = frame p cut (replicate (aligned cut / 8) 0)

abbrev pub blanks : ℕ → List ℕ → List FrameWords
blanks p [] = []
blanks p (cut ∷ cuts) = blank p cut ∷ blanks (p + aligned cut) cuts

-- a word of a frame is stored
abbrev pub written : FrameWords → ℕ → ℕ → FrameWords
written f i x = frame f.start f.cut (slice_set f.words i x)

abbrev pub frames_of : Pass → List FrameWords
frames_of v = v.work.frames ++ v.work.drafts

-- ---- what is made of a pass

abbrev pub works : List FrameWords → List FrameWords → Work
works fs ds = record { frames = fs; drafts = ds }

abbrev pub with_work : List FrameWords → List FrameWords → Pass → Pass
with_work fs ds v = record v { work = works fs ds }

-- a new call begins
abbrev pub with_limit : Pass → ℕ → Pass
with_limit v n = record v { call = []; right = record v.right { limit = n } }

-- the count of a word's id, which is below 2 ^ 31 where a term has that id
abbrev pub count_in : Geometry → ℕ → ℕ
count_in g word = cast_unsigned w32 (count_of g (id_in word))

-- the position that a raw tail shows, or 0 where its partition isn't used yet
abbrev pub shown_position : Geometry → ℕ → ℕ
shown_position g word = if nat_lt (count_in g word) (2 ^ 31) then count_in g word * g.term_length + min (offset_in word) g.term_length else 0

-- the position that the word of a word call shows: the start of the active term, or that of a raw tail
abbrev pub shown_in : Geometry → WordStep → ℕ
shown_in g (steps.Limit word) = 0
shown_in g (steps.Count count) = count * g.term_length
shown_in g (steps.Tail partition word) = shown_position g word
shown_in g (steps.Addition partition taken word) = shown_position g word
shown_in g (steps.NextTail partition word) = shown_position g word
shown_in g (steps.TailExchange partition from to word) = shown_position g word
shown_in g (steps.CountExchange from count) = count * g.term_length

-- one word call more in the call, and what it showed
abbrev pub noted : WordStep → Pass → Pass
noted x v = record v { call = v.call ++ x ∷ []; seen = record v.seen { shown = max v.seen.shown (shown_in v.identity.geometry x) } }

abbrev pub with_count : Pass → ℕ → Pass
with_count v n = record v { seen = record v.seen { count = n } }

-- the term of this count is used up
abbrev pub with_full : Pass → ℕ → Pass
with_full v k = record v { seen = record v.seen { full = suc k } }

abbrev pub with_begun : Pass → ℕ → Pass
with_begun v k = record v { seen = record v.seen { begun = k } }

abbrev pub with_armed : Pass → Pass
with_armed v = record v { right = record v.right { armed = 1 }; seen = record v.seen { term = v.seen.count } }

-- the addition took a range, in which nothing is stored
abbrev pub opened : Pass → ClaimRange → Pass
opened v c = record v {
  right = record v.right { armed = 0; claims = v.right.claims ++ c ∷ [] };
  work = record v.work { drafts = v.work.drafts ++ blanks c.start c.cuts };
}

-- it took nothing
abbrev pub disarmed : Pass → Pass
disarmed v = record v { right = record v.right { armed = 0 } }

-- of the second only what was seen: its call, its limit word, whether it is armed, and the terms
abbrev pub seeing : Pass → Pass → Pass
seeing v w = record v { call = w.call; right = record v.right { limit = w.right.limit; armed = w.right.armed }; seen = w.seen }

-- no claim and no word of a frame is another
abbrev pub Keeps : Pass → Pass → Type 0
Keeps v w = w ≡ seeing v w

-- ---- what a word says

-- the word has the id of the count
abbrev pub Names : Pass → ℕ → ℕ → Type 0
Names v word k = id_in word ≡ id_of (geometry_of v) k

-- the position at which a word stands, or that it passed
abbrev pub start_in : Geometry → ℕ → ℕ
start_in g word = count_in g word * g.term_length + offset_in word

-- the count of a term, where the stream begins at this position
pub record IsTermFrom (position length_of k : ℕ) : Type 0 where
  pub begun : position / length_of ≤ k
  pub small : k < 2 ^ 31

-- a term of the log has this count
abbrev pub IsTerm : Pass → ℕ → Type 0
IsTerm v k = IsTermFrom v.start (term_of v) k

-- ---- the seven word calls: the pass before, the word that was answered, the pass after

abbrev pub Sees : Pass → ℕ → Pass → Type 0
Sees v n w = w ≡ noted (steps.Limit n) (with_limit v n)

pub record Counts (v : Pass) (n : ℕ) (w : Pass) : Type 0 where
  pub term : IsTerm v n
  pub after : w ≡ noted (steps.Count n) (with_count v n)

-- of the count that was loaded last
abbrev pub tail_step : Pass → ℕ → WordStep
tail_step v n = steps.Tail (v.seen.count % 3) n

pub record Arms (v : Pass) (n : ℕ) (w : Pass) : Type 0 where
  pub below : Names v n v.seen.count → offset_in n < term_of v → v.seen.count * term_of v + offset_in n < limit_in v.right.limit → w ≡ noted (tail_step v n) (with_armed v)
  pub limited : Names v n v.seen.count → offset_in n < term_of v → limit_in v.right.limit ≤ v.seen.count * term_of v + offset_in n → w ≡ noted (tail_step v n) v
  pub used_up : Names v n v.seen.count → term_of v ≤ offset_in n → w ≡ noted (tail_step v n) (with_full v v.seen.count)
  pub other : ¬ Names v n v.seen.count → w ≡ noted (tail_step v n) v

-- a message of this many bytes, where the word before the addition stands
abbrev pub message_at : Pass → ℕ → ℕ → ClaimRange
message_at v n size = record { start = start_in (geometry_of v) n; owner = v.number; cuts = cuts_of (geometry_of v) size; padding = false }

-- the rest of the term of the word before the addition
abbrev pub padding_at : Pass → ℕ → ClaimRange
padding_at v n = record { start = start_in (geometry_of v) n; owner = v.number; cuts = (term_of v - offset_in n) ∷ []; padding = true }

abbrev pub addition : Pass → ℕ → ℕ → WordStep
addition v size n = steps.Addition (v.seen.term % 3) (framed_length (geometry_of v) size) n

-- of what a message of this many bytes covers; the word is the one before it, perhaps of a later term than the one that
-- was seen
pub record Adds (v : Pass) (size n : ℕ) (w : Pass) : Type 0 where
  pub term : IsTerm v (count_in (geometry_of v) n)
  pub unit : offset_in n % 32 ≡ 0
  pub narrow : offset_in n + framed_length (geometry_of v) size < 2 ^ 32
  pub fits : offset_in n + framed_length (geometry_of v) size ≤ term_of v → w ≡ noted (addition v size n) (opened v (message_at v n size))
  pub trips : offset_in n < term_of v → term_of v < offset_in n + framed_length (geometry_of v) size → w ≡ noted (addition v size n) (with_full (opened v (padding_at v n)) (count_in (geometry_of v) n))
  pub over : term_of v ≤ offset_in n → w ≡ noted (addition v size n) (with_full (disarmed v) (count_in (geometry_of v) n))
  -- what it takes lies behind all that the pass has claimed
  pub behind : offset_in n < term_of v → EndBelow (start_in (geometry_of v) n) v.right.claims

-- of the partition behind that of the count k, which is used up
pub record Nexts (v : Pass) (k n : ℕ) (w : Pass) : Type 0 where
  pub begun : Names v n (k + 1) → w ≡ noted (steps.NextTail ((k + 1) % 3) n) (with_begun v (k + 1))
  pub other : ¬ Names v n (k + 1) → w ≡ noted (steps.NextTail ((k + 1) % 3) n) v

-- the word with which the term behind this count's begins
abbrev pub begun_word : Geometry → ℕ → ℕ
begun_word g k = tail_word (id_of g (k + 1)) 0

abbrev pub tail_exchange : Pass → ℕ → ℕ → ℕ → WordStep
tail_exchange v k from n = steps.TailExchange ((k + 1) % 3) from (begun_word (geometry_of v) k) n

-- from the word that was loaded, to the next term's start
pub record Rotates (v : Pass) (k from n : ℕ) (w : Pass) : Type 0 where
  pub begun : (n ≡ from) ⊎ Names v n (k + 1) → w ≡ noted (tail_exchange v k from n) (with_begun v (k + 1))
  pub other : n ≢ from → ¬ Names v n (k + 1) → w ≡ noted (tail_exchange v k from n) v

-- from the count k to the next
pub record ExchangesCount (v : Pass) (k n : ℕ) (w : Pass) : Type 0 where
  pub small : n < 2 ^ 31
  pub after : w ≡ noted (steps.CountExchange k n) v

-- ---- the stores, which are noted in no call

-- one of the open frames has a word at this position, the one with this number or a later one
pub record HasWord (v : Pass) (from p : ℕ) : Type 0 where
  pub front : List FrameWords
  pub draft : FrameWords
  pub behind : List FrameWords
  pub parts : v.work.drafts ≡ front ++ draft ∷ behind
  pub place : ℕ
  pub above : from ≤ place
  pub inside : place < length draft.words
  pub position : p ≡ draft.start + 8 * place

-- one of the open frames begins at this position
pub record BeginsFrame (v : Pass) (p : ℕ) : Type 0 where
  pub front : List FrameWords
  pub draft : FrameWords
  pub behind : List FrameWords
  pub parts : v.work.drafts ≡ front ++ draft ∷ behind
  pub inside : 0 < length draft.words
  pub position : p ≡ draft.start

-- a word of an open frame that isn't its first
abbrev pub Stores : Pass → ℕ → ℕ → Pass → Type 0
Stores v p x w = (front : List FrameWords) (draft : FrameWords) (behind : List FrameWords) (place : ℕ) → v.work.drafts ≡ front ++ draft ∷ behind → 1 ≤ place → place < length draft.words → p ≡ draft.start + 8 * place
    → w ≡ with_work v.work.frames (front ++ written draft place x ∷ behind) v

-- the first word of the open frame that begins there: it is committed
abbrev pub Commits : Pass → ℕ → ℕ → Pass → Type 0
Commits v p x w = (front : List FrameWords) (draft : FrameWords) (behind : List FrameWords) → v.work.drafts ≡ front ++ draft ∷ behind → 0 < length draft.words → p ≡ draft.start
    → w ≡ with_work (v.work.frames ++ written draft 0 x ∷ []) (front ++ behind) v

-- ---- what a step of one pass leaves of all

-- the log's identity, that the pass fits, and of each other pass everything
pub record Moved {L P I : Type 0} (fits : L → P → Type 0) (pass_of : L → P → Pass) (name : P → ℕ) (id : L → I) (l : L) (p : P) (m : L) (q : P) : Type 0 where
  pub same : id m ≡ id l
  pub still : fits m q
  pub named : name q ≡ name p
  pub others : (x : P) → name x ≢ name p → fits l x → fits m x × (pass_of m x ≡ pass_of l x)
