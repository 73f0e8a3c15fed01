-- What the keeper's steps tell.
use Rattle.std.specs.Prelude.{◌≡◌, ◌≢◌, ℕ, zero, suc, ◌+◌, ◌-◌, ◌*◌, ◌%◌, ◌<◌, ◌≤◌, List, [], ◌∷◌, ◌++◌, drop, length, map, max, min, slice_index, slice_set, take}
use Rattle.std.specs.List.{fold}
use Rattle.theory.specs.Placed.{Among}
use Rattle.theory.specs.Position.{greatest_claim, max_position}
use Rattle.theory.specs.Refusal.{limit_in}
use Rattle.publication.specs.declared.pass.Keeping.{Keeping}
use Rattle.publication.specs.declared.pass.Pass.{Pass}
use Rattle.publication.specs.declared.pass.Reading.{Reading}
use Rattle.publication.specs.Steps.{geometry_of, term_of}
use Rattle.log_rule.specs.declared.claims.view.View.{View}
use Rattle.log_rule.specs.Claims.Plays.{Mine}
use Rattle.log_rule.specs.Kept.{IsThere}
use Rattle.log_rule.specs.Readings.{IsConsumer, reading}

abbrev pub least_of : List ℕ → ℕ
least_of positions = fold min (slice_index positions 0) positions

-- the numbers of those who are there, in order, from this number on
abbrev pub numbered : ℕ → List ℕ → List ℕ
numbered from [] = []
numbered from (zero ∷ there) = numbered (suc from) there
numbered from (suc n ∷ there) = from ∷ numbered (suc from) there

-- the least of the positions of those who are there
abbrev pub least_there : List ℕ → List ℕ → ℕ
least_there there positions = least_of (map (slice_index positions) (numbered 0 there))

abbrev pub with_keeping : Pass → Keeping → Pass
with_keeping v k = record v { keeping = k }

-- a consumer may stand there: at a unit of the stream, and what lies a term below is still readable
pub record MayStand (v : Pass) (n : ℕ) : Type 0 where
  pub unit : n % 32 ≡ 0
  pub low : n ≤ max_position (geometry_of v)
  pub readable : v.keeping.cleaned ≤ max v.start (n - term_of v)

-- the keeper read one of the consumers, which stood at a position, not below the one where it saw it before
pub record SeesConsumer (v : Pass) (j n : ℕ) (w : Pass) : Type 0 where
  pub all : length v.keeping.positions ≡ 8
  pub inside : j < 8
  pub further : slice_index v.keeping.positions j ≤ n
  pub stands : MayStand v n
  pub words : (v.start % 32 ≡ 0) × (v.keeping.cleaned % 8 ≡ 0)
  -- if the pass is that consumer, it is where that stands
  pub own : (r : Reading) → Among r v.reading → r.number ≡ j → n ≡ r.position
  pub after : w ≡ with_keeping v (record v.keeping { positions = slice_set v.keeping.positions j n; reads = v.keeping.reads ++ j ∷ [] })

-- and if its seat is sure of the control words, it has the limit word that the keeper knows
abbrev pub sweeping : ℕ → Mine → ℕ → Mine → Type 0
sweeping j m n m' = reading (λ v k w. SeesConsumer v j k w) m n m' × (m.0.sure ≡ 1 → m.0.controls.limit ≡ m.0.pass.keeping.limit)

-- the next word may be cleaned: it lies a term or more below each consumer that is there, as it saw that
pub record MayClean (v : Pass) : Type 0 where
  pub keeper : v.keeping.right ≡ 1
  pub below : v.keeping.cleaned + 8 ≤ max v.start (least_there v.keeping.there v.keeping.positions - term_of v)

abbrev pub CleansWord : Pass → Pass → Type 0
CleansWord v w = w ≡ with_keeping v (record v.keeping { cleaned = v.keeping.cleaned + 8 })

-- the limit may become that of this word: it doesn't fall, and where it rises, what may be claimed then is clean
pub record MayRaise (v : Pass) (word : ℕ) : Type 0 where
  pub keeper : v.keeping.right ≡ 1
  pub rises : limit_in v.keeping.limit ≤ limit_in word
  pub clean : limit_in v.keeping.limit < limit_in word → limit_in word + greatest_claim (geometry_of v) * 8 < v.keeping.cleaned + 3 * term_of v

abbrev pub Raises : Pass → ℕ → Pass → Type 0
Raises v word w = w ≡ with_keeping v (record v.keeping { limit = word })

-- a word is stored by the keeper: what its seat learns, and what the keeper makes of itself
abbrev pub keeping : (View → View → Type 0) → (Pass → Pass → Type 0) → Mine → Mine → Type 0
keeping learns told m m' = (m'.1 ≡ m.1) × (m'.0.steps ≡ suc m.0.steps) × learns m.0 m'.0 × told m.0.pass m'.0.pass

-- the limit word is this one then
pub record LearnsLimit (word : ℕ) (v w : View) : Type 0 where
  pub sure : w.sure ≡ v.sure
  pub limit : v.sure ≡ 1 → w.controls ≡ record v.controls { limit = word }

-- ---- who joins, and who leaves

-- a number that nobody has may be a consumer's: where one that is there was seen, and what lies a term below is readable
pub record MayJoin (v : Pass) (number n : ℕ) : Type 0 where
  pub keeper : v.keeping.right ≡ 1
  pub inside : number < 8
  pub free : slice_index v.keeping.there number ≡ 0
  pub seen : ℕ
  pub there : IsThere v.keeping.there seen
  pub here : n ≡ slice_index v.keeping.positions seen
  pub readable : v.keeping.cleaned ≤ max v.start (n - term_of v)

-- a consumer that has read nothing
abbrev pub newly : ℕ → ℕ → Reading
newly number position = record { number = number; position = position; known = []; misses = 0 }

-- the keeper's own pass is that consumer, at this place among those that it is
abbrev pub joined : Pass → ℕ → ℕ → ℕ → Pass
joined v number place position = record v {
  reading = take place v.reading ++ newly number position ∷ drop place v.reading;
  keeping = record v.keeping { there = slice_set v.keeping.there number 1; positions = slice_set v.keeping.positions number position };
}

abbrev pub Joins : Pass → ℕ → ℕ → ℕ → Pass → Type 0
Joins v number place position w = w ≡ joined v number place position

-- the consumer at this place of the keeper's own pass may leave: another one is there
pub record MayLeave (v : Pass) (place number : ℕ) : Type 0 where
  pub keeper : v.keeping.right ≡ 1
  pub consumer : Reading
  pub is : IsConsumer v place consumer
  pub number_is : consumer.number ≡ number
  pub inside : number < 8
  pub other : ℕ
  pub another : other ≢ number
  pub there : IsThere v.keeping.there other

-- nobody has its number then
abbrev pub left : Pass → ℕ → ℕ → Pass
left v place number = record v {
  reading = take place v.reading ++ drop (suc place) v.reading;
  keeping = record v.keeping { there = slice_set v.keeping.there number 0 };
}

abbrev pub Leaves : Pass → ℕ → ℕ → Pass → Type 0
Leaves v place number w = w ≡ left v place number
