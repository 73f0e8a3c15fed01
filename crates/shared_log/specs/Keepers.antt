-- What contracts see of the keeper of a log that threads share.
use Rattle.std.specs.Prelude.{◌≡◌, ℕ, zero, suc, ◌+◌, ◌-◌, ◌*◌, ◌/◌, ◌%◌, ◌<◌, ◌≤◌, ◌&&◌, not, Bool, if◌then◌else◌, List, [], ◌∷◌, ◌++◌, length, map, max, nat_eq, Option, slice_index}
use Rattle.theory.specs.Placed.{Among}
use Rattle.theory.specs.Refusal.{is_closed, is_connected, limit_in}
use Rattle.publication.specs.declared.pass.Keeping.{Keeping}
use Rattle.publication.specs.declared.pass.Pass.{Pass}
use Rattle.publication.specs.declared.pass.Reading.{Reading}
use Rattle.publication.specs.Steps.{term_of}
use Rattle.std.specs.List.{AllByRecursion}
use Rattle.theory.specs.Bytes.{Identity}
use Rattle.publication.specs.declared.pass.FrameWords.{FrameWords}
use Rattle.log_memory.specs.Frames.{Follow}
use Rattle.shared_log.specs.declared.home.Home.{Home}
use Rattle.shared_log.specs.Handles.{HasHome}
use Rattle.shared_log.specs.Steps.Handles.{LogValue, PublisherValue}
use Rattle.log_rule.specs.Kept.{IsThere}
use Rattle.log_rule.specs.Keepings.{MayStand, least_there, numbered, with_keeping}

-- its seat, the limit word, and the position below which nothing is readable any more
pub record KeeperValue : Type 0 where
  pub held : PublisherValue
  pub limit : ℕ
  pub cleaned : ℕ

-- the pass is the keeper, which knows this limit word and how far is cleaned
pub record IsKeeping (v : Pass) (limit cleaned : ℕ) : Type 0 where
  pub some : 0 < v.right.parts
  pub keeper : v.keeping.right ≡ 1
  pub limit_is : v.keeping.limit ≡ limit
  pub cleaned_is : v.keeping.cleaned ≡ cleaned

-- 1 where a consumer is there, else 0
abbrev pub flag_of : Bool → ℕ
flag_of there = if there then 1 else 0

-- the pass knows that these consumers are there, and one is; and where eight were seen last
pub record KnowsWho (v : Pass) (there : List Bool) : Type 0 where
  pub many : length there ≡ 8
  pub flags : v.keeping.there ≡ map flag_of there
  pub eight : length v.keeping.positions ≡ 8
  pub one : ℕ
  pub low : one < 8
  pub any : IsThere v.keeping.there one

-- what the keeper holds beside its pass
pub record IsKeeper (p : PublisherValue) (home : Option Home) (freed limit cleaned : ℕ) (there : List Bool) (identity : Identity) (start : ℕ) : Type 0 where
  pub keeping : IsKeeping p.pass limit cleaned
  pub knows : KnowsWho p.pass there
  pub home_is : HasHome p.of.region home
  pub freed_is : freed ≡ p.freed
  pub identity_is : identity ≡ p.pass.identity
  pub start_is : start ≡ p.pass.start

abbrev pub keeping_of : KeeperValue → Keeping
keeping_of k = k.held.pass.keeping

abbrev pub seen_positions : KeeperValue → List ℕ
seen_positions k = k.held.pass.keeping.positions

-- which consumers are there, by their numbers
abbrev pub there_of : KeeperValue → List ℕ
there_of k = k.held.pass.keeping.there

-- the numbers of those, in order
abbrev pub those_there : KeeperValue → List ℕ
those_there k = numbered 0 (there_of k)

-- the numbers of the consumers that it read, in order
abbrev pub reads_of : KeeperValue → List ℕ
reads_of k = k.held.pass.keeping.reads

abbrev pub with_reads : List ℕ → List ℕ → KeeperValue → Keeping
with_reads positions reads k = record (keeping_of k) { positions = positions; reads = reads }

abbrev pub with_cleaned : ℕ → KeeperValue → Keeping
with_cleaned cleaned k = record (keeping_of k) { cleaned = cleaned }

abbrev pub with_limit : ℕ → KeeperValue → Keeping
with_limit word k = record (keeping_of k) { limit = word }

-- the keeper keeps this from then on: of the rest its steps alone are others, and the limit among the control words, where its seat is sure of them
pub record KeepsAs (k : KeeperValue) (kept : Keeping) (q : KeeperValue) : Type 0 where
  pub of : q.held.of ≡ k.held.of
  pub seat : q.held.seat ≡ k.held.seat
  pub pass : q.held.pass ≡ with_keeping k.held.pass kept
  pub sure : q.held.sure ≡ k.held.sure
  pub controls : k.held.sure ≡ 1 → q.held.controls ≡ record k.held.controls { limit = kept.limit }
  pub limit : q.limit ≡ kept.limit
  pub cleaned : q.cleaned ≡ kept.cleaned

-- memory was taken back as far as before
abbrev pub SameFreed : KeeperValue → KeeperValue → Type 0
SameFreed k q = q.held.freed ≡ k.held.freed

-- a seat that is sure of the control words knows the limit word
abbrev pub KnowsLimit : KeeperValue → Type 0
KnowsLimit k = k.held.sure ≡ 1 → k.held.controls.limit ≡ k.limit

-- it took so many word steps
abbrev pub TookSteps : KeeperValue → ℕ → KeeperValue → Type 0
TookSteps k count q = q.held.steps ≡ k.held.steps + count

-- ---- limit words

abbrev pub connected_word : Bool → ℕ → ℕ
connected_word connected word = word / 2 * 2 + (if connected then 1 else 0)

abbrev pub closed_word : ℕ → ℕ
closed_word word = limit_in word + 2 + word % 2

-- half a term above the least consumer, unless the limit is further or nobody may publish
abbrev pub raised : ℕ → ℕ → ℕ → ℕ
raised word least length_of = if is_connected word && not (is_closed word) then max (limit_in word) (least + length_of / 2) + 1 else word

-- one store where the limit word becomes another, else none
abbrev pub stored_once : ℕ → ℕ → ℕ
stored_once before after = if nat_eq before after then 0 else 1

-- ---- what the keeper reads

-- so many numbers, from this one on
abbrev pub counted : ℕ → ℕ → List ℕ
counted from zero = []
counted from (suc n) = from ∷ counted (suc from) n

-- the consumer with this number stood there: not below where it was seen before, and at its own position where the keeper's pass is that consumer
pub record ReadsConsumer (k : KeeperValue) (j n : ℕ) : Type 0 where
  pub further : slice_index (seen_positions k) j ≤ n
  pub stands : MayStand k.held.pass n
  pub own : (r : Reading) → Among r k.held.pass.reading → r.number ≡ j → n ≡ r.position

-- each consumer that is there was read once, in the order of their numbers, and the least stood there
pub record Sweeps (l : LogValue) (k : KeeperValue) (least : ℕ) (q : KeeperValue) : Type 0 where
  pub is : IsKeeping k.held.pass k.limit k.cleaned
  pub once : reads_of q ≡ reads_of k ++ those_there k
  pub all : length (seen_positions q) ≡ 8
  pub reads : (j : ℕ) → Among j (those_there k) → ReadsConsumer k j (slice_index (seen_positions q) j)
  pub least_is : least ≡ least_there (there_of k) (seen_positions q)
  pub stands : MayStand k.held.pass least
  pub words : (l.start % 32 ≡ 0) × (k.cleaned % 8 ≡ 0)
  pub keeps : KeepsAs k (with_reads (seen_positions q) (reads_of q) k) q
  pub freed : SameFreed k q
  pub steps : TookSteps k (length (those_there k)) q

-- all may be cleaned up to there: it lies a term or more below the least consumer that was seen
pub record MayCleanTo (k : KeeperValue) (end : ℕ) : Type 0 where
  pub further : k.cleaned ≤ end
  pub words : (k.cleaned % 8 ≡ 0) × (end % 8 ≡ 0)
  pub below : end ≤ max k.held.pass.start (least_there (there_of k) (seen_positions k) - term_of k.held.pass)

-- the memory of these frames, which lie behind what was taken back, is room again: by two steps each and three more, if any was cleaned
pub record FreesBehind (i : Identity) (k q : KeeperValue) : Type 0 where
  pub frames : List FrameWords
  pub follow : Follow i k.held.freed frames q.held.freed
  pub low : AllByRecursion (λ f. f.start < q.cleaned) frames
  pub reached : k.cleaned < q.cleaned → q.cleaned ≤ q.held.freed
  pub same : q.cleaned ≡ k.cleaned → frames ≡ []

abbrev pub freeing_steps : ℕ → ℕ → ℕ → ℕ
freeing_steps before after frames = if nat_eq before after then 0 else 2 * frames + 3

-- all is clean up to there
pub record CleansTo (i : Identity) (end : ℕ) (k q : KeeperValue) : Type 0 where
  pub keeps : KeepsAs k (with_cleaned end k) q
  pub frees : FreesBehind i k q
  pub steps : TookSteps k (freeing_steps k.cleaned end (length frees.frames)) q

-- the limit may be raised to half a term above there: what lies a term below is clean
pub record MayRaiseFrom (k : KeeperValue) (least : ℕ) : Type 0 where
  pub stands : MayStand k.held.pass least
  pub clean : least ≤ k.cleaned + term_of k.held.pass

-- each consumer that is there was read once in this call; what lies a term or more below the least is cleaned, and the limit raised by it
pub record CleansAndLimits (l : LogValue) (k q : KeeperValue) : Type 0 where
  pub once : reads_of q ≡ reads_of k ++ those_there k
  pub all : length (seen_positions q) ≡ 8
  pub reads : (j : ℕ) → Among j (those_there k) → ReadsConsumer k j (slice_index (seen_positions q) j)
  pub not_back : k.cleaned ≤ q.cleaned
  pub keeps : let least = least_there (there_of k) (seen_positions q) in let length_of = l.identity.geometry.term_length in
      KeepsAs k (record (keeping_of k) { limit = raised k.limit least length_of; cleaned = max l.start (least - length_of); positions = seen_positions q; reads = reads_of q }) q
  pub frees : FreesBehind l.identity k q
  -- one load for each consumer that is there, two steps for each frame whose memory is room again and three more where there is something
  -- to clean, and one store of the limit word where that changed
  pub steps : TookSteps k (length (those_there k) + freeing_steps k.cleaned q.cleaned (length frees.frames) + stored_once k.limit q.limit) q
