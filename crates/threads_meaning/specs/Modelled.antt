-- When a log of the model is what the words and the passes of a log in threads are.
-- An entry of the model is a claim of a pass, with the frames of it that are committed. It differs from the claim in one
-- thing: where an open claim of one frame was aborted, the entry is a padding by then, and the claim stays a message's.
use Rattle.std.specs.Prelude.{◌≡◌, ◌⊎◌, ⊤, ℕ, ◌<◌, ◌==◌, cond, nat_eq, nat_lt, Bool, true, false, List, [], ◌∷◌, length, map, Option, None, Some, slice_get, slice_index}
use Rattle.std.specs.List.{AllByRecursion, list_any}
use mathlib.Core.Option.{some}
use lib.ListN.{get_elem?}
use Rattle.atomic_table.specs.Table.{State}
use Rattle.theory.specs.Bytes.{Identity}
use Rattle.theory.specs.Consumer.{Consumer}
use Rattle.theory.specs.Entry.{Entry, IsEntry, committed}
use Rattle.theory.specs.Placed.{Among, IsReached, Pad, Placed}
use Rattle.theory.specs.Refusal.{is_closed, is_connected, limit_in}
use Rattle.theory.specs.Tiling.{Tiles}
use Rattle.position.specs.Words.{IsLegal}
use Rattle.publication.specs.declared.pass.FrameWords.{FrameWords}
use Rattle.publication.specs.declared.pass.Keeping.{Keeping}
use Rattle.publication.specs.declared.pass.Pass.{Pass}
use Rattle.publication.specs.declared.pass.Reading.{Reading}
use Rattle.publication.specs.Frames.{frame_at}
use Rattle.log_rule.specs.declared.claims.view.View.{View}
use Rattle.log_rule.specs.declared.rule.Key.{Key}
use Rattle.log_rule.specs.Claims.Events.{committed_weight}
use Rattle.log_rule.specs.Claims.Packs.{consumer_place, limit_place}
use Rattle.log_rule.specs.Claims.Plays.{pass_in}
use Rattle.log_rule.specs.Claims.Rule.{weight}
use Rattle.log_rule.specs.Claims.Sums.{total}
use Rattle.log_rule.specs.Kept.{IsThere}
use Rattle.log_rule.specs.Says.{tail_shown}
use Rattle.model.specs.Log.{Log}

-- ---- entries

-- a message's claim of which the entry is a padding
pub record IsAborted (claim entry : Entry) : Type 0 where
  pub message : claim.padding ≡ false
  pub padding : entry.padding ≡ true
  pub frames : entry.frames ≡ map Pad entry.cuts

pub record IsAs (claim entry : Entry) : Type 0 where
  pub start : entry.start ≡ claim.start
  pub owner : entry.owner ≡ claim.owner
  pub cuts : entry.cuts ≡ claim.cuts
  pub padding : (entry.padding ≡ claim.padding) ⊎ IsAborted claim entry

-- one for one, in the order of the stream
abbrev pub AreAs : List Entry → List Entry → Type 0
AreAs [] [] = ⊤
AreAs [] (e ∷ es) = ⊥
AreAs (c ∷ cs) [] = ⊥
AreAs (c ∷ cs) (e ∷ es) = IsAs c e × AreAs cs es

-- a frame of the stream, by the words that stand in the log
abbrev pub spelled : Identity → Placed → FrameWords
spelled i s = frame_at i s.at s.frame

-- ---- publishers

-- how often a pass may add under a number
abbrev pub armed_as : ℕ → Pass → ℕ
armed_as n v = cond (v.number == n) v.right.armed 0

abbrev pub is_handed : List ℕ → ℕ → Bool
is_handed gone n = list_any (nat_eq n) gone

-- who may add is armed, and who was handed over is retired; none of those may add
pub record ArePublishers (gone : List ℕ) (passes : List Pass) (armed retired : List Bool) : Type 0 where
  pub are_armed : (n : ℕ) → n < 8 → slice_get armed n ≡ Some (nat_lt 0 (total (armed_as n) passes))
  pub are_retired : (n : ℕ) → n < 8 → slice_get retired n ≡ Some (is_handed gone n)
  pub living : (n : ℕ) → n < 8 → 0 < total (armed_as n) passes → is_handed gone n ≡ false

-- ---- consumers

abbrev pub HasReader : List (Option Consumer) → ℕ → Type 0
HasReader readers number = (c : Consumer) × (slice_get readers number ≡ Some (Some c))

-- a reader of the model stands where the word of its number says, committed frames lead there, and its assembler has heard each that it passed
pub record Stands (words : List ℕ) (start : ℕ) (frames : List Placed) (number : ℕ) (c : Consumer) : Type 0 where
  pub at : c.at ≡ slice_index words (consumer_place number)
  pub heard : c.lost ≡ false
  pub reached : IsReached frames start c.at

-- the keeper knows which readers there are, where each was seen, and how far is cleaned
pub record KeepsReaders (start cleaned : ℕ) (frames : List Placed) (readers : List (Option Consumer)) (k : Keeping) : Type 0 where
  pub cleaned_to : k.cleaned ≡ cleaned
  pub taken : (number : ℕ) → number < 8 → IsThere k.there number → HasReader readers number
  pub free : (number : ℕ) → number < 8 → slice_index k.there number ≡ 0 → slice_get readers number ≡ Some None
  pub seen : (number : ℕ) → number < 8 → IsThere k.there number → IsReached frames start (slice_index k.positions number)

pub record AreReaders (words : List ℕ) (passes : List Pass) (start cleaned : ℕ) (frames : List Placed) (readers : List (Option Consumer)) : Type 0 where
  pub eight : length readers ≡ 8
  pub standing : (number : ℕ) (c : Consumer) → slice_get readers number ≡ Some (Some c) → Stands words start frames number c
  -- each consumer that a pass is is one of them
  pub mine : (i : ℕ) (v : Pass) (r : Reading) → get_elem? passes i ≡ some v → Among r v.reading → r.number < 8 → HasReader readers r.number
  pub keeper : (i : ℕ) (v : Pass) → get_elem? passes i ≡ some v → v.keeping.right ≡ 1 → KeepsReaders start cleaned frames readers v.keeping

-- ---- the log

-- entries that are the claims of all passes in the order of the stream, and whose committed frames, as they are spelled, are those of all passes
pub record AreEntries (key : Key) (passes : List Pass) (start tail : ℕ) (entries : List Entry) : Type 0 where
  pub log : List Entry
  pub claimed : (h : Entry → ℕ) → total (weight h) passes ≡ total h log
  pub alike : AreAs log entries
  pub frames : (h : FrameWords → ℕ) → total (committed_weight h) passes ≡ total h (map (spelled key.identity) (committed entries))
  pub tiles : Tiles key.identity.geometry.term_length start tail entries
  pub are : AllByRecursion IsEntry entries
  pub legal : AllByRecursion (λ e. AllByRecursion (IsLegal key.identity.geometry) e.frames) entries

-- the numbers that are gone were handed over to other passes
pub record IsModel (key : Key) (gone : List ℕ) (words : List ℕ) (passes : List Pass) (l : Log) : Type 0 where
  pub identity : l.identity ≡ key.identity
  pub start : l.start ≡ key.start
  -- the greatest position that the three raw tails show
  pub tail : l.tail ≡ tail_shown key.identity.geometry words
  -- what the limit's word says
  pub limit : l.limit ≡ limit_in (slice_index words limit_place)
  pub connected : l.connected ≡ is_connected (slice_index words limit_place)
  pub closed : l.closed ≡ is_closed (slice_index words limit_place)
  pub entries : AreEntries key passes l.start l.tail l.entries
  pub publishers : ArePublishers gone passes l.armed l.retired
  pub readers : AreReaders words passes l.start l.cleaned (committed l.entries) l.readers

abbrev pub IsModelOf : Key → List ℕ → State (Unit {0}) View → Log → Type 0
IsModelOf key gone s l = IsModel key gone s.words (map pass_in s.views) l
