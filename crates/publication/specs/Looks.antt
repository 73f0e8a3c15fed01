-- What a pass sees before it adds, and what its addition gave.
use Rattle.std.specs.Prelude.{◌≡◌, ℕ, suc, ◌+◌, ◌-◌, ◌%◌, ◌<◌, ◌≤◌, ◌⊎◌, ◌↔◌, Bool, IsTrue, true, false, List, [], ◌∷◌, ◌++◌}
use Rattle.theory.specs.Position.{framed_length, max_position}
use Rattle.theory.specs.Placed.{Pad}
use Rattle.theory.specs.Refusal.{IsLast, IsNotLast, is_closed, is_connected, limit_in}
use Rattle.theory.specs.Words.{id_before, id_in, offset_in}
use Rattle.publication.specs.declared.pass.Pass.{Pass}
use Rattle.publication.specs.declared.step.WordStep.{WordStep}
use Rattle.publication.specs.declared.step.WordStep.TheVariants as steps
use Rattle.publication.specs.declared.refusal.Refusal.{Refusal}
use Rattle.publication.specs.declared.refusal.Refusal.TheVariants.{NotConnected, BackPressured, AdminAction, Closed, MaxPositionExceeded}
use Rattle.publication.specs.declared.looking.Look.{Look}
use Rattle.publication.specs.declared.looking.Look.TheVariants as looks
use Rattle.publication.specs.Steps.{IsTerm, Keeps, Names, count_in, geometry_of, message_at, opened, start_in, tail_exchange, term_of}
use Rattle.publication.specs.Orders.{EndBelow}
use Rattle.publication.specs.Claims.{AtLimit, Fills, HasBlank, LeavesPadding, Saw, Shut, Stale, TurnsFrom, addition_to, position_in}

abbrev pub LookCause : Pass → ℕ → ℕ → ℕ → Look → Pass → Type 0
LookCause p limit count tail (looks.Refused NotConnected) q = AtLimit p limit count tail × (is_connected limit ≡ false) × (q.right.armed ≡ p.right.armed)
LookCause p limit count tail (looks.Refused BackPressured) q = AtLimit p limit count tail × (is_connected limit ≡ true) × (q.right.armed ≡ p.right.armed)
LookCause p limit count tail (looks.Refused AdminAction) q = Stale p count tail × (q.right.armed ≡ p.right.armed)
LookCause p limit count tail (looks.Refused Closed) q = ⊥
LookCause p limit count tail (looks.Refused MaxPositionExceeded) q = ⊥
LookCause p limit count tail (looks.UsedUp k) q = (k ≡ count) × Names p tail count × (term_of p ≤ offset_in tail) × (q.seen.full ≡ suc count) × (q.right.armed ≡ p.right.armed)
LookCause p limit count tail (looks.Open k) q = (k ≡ count) × Names p tail count × (offset_in tail < term_of p) × (position_in p count tail < limit_in limit) × (q.right.armed ≡ 1) × (q.seen.term ≡ count)

pub record LookedAt (p : Pass) (look : Look) (q : Pass) : Type 0 where
  pub limit : ℕ
  pub unclosed : is_closed limit ≡ false
  pub count : ℕ
  pub tail : ℕ
  pub saw : Saw q limit count tail []
  pub term : IsTerm p count
  pub cause : LookCause p limit count tail look q
  pub after : Keeps p q

abbrev pub Looked : Pass → Look → Pass → Type 0
Looked p (looks.Refused NotConnected) q = LookedAt p (looks.Refused NotConnected) q
Looked p (looks.Refused BackPressured) q = LookedAt p (looks.Refused BackPressured) q
Looked p (looks.Refused AdminAction) q = LookedAt p (looks.Refused AdminAction) q
Looked p (looks.Refused Closed) q = Shut p q
Looked p (looks.Refused MaxPositionExceeded) q = LookedAt p (looks.Refused MaxPositionExceeded) q
Looked p (looks.UsedUp k) q = LookedAt p (looks.UsedUp k) q
Looked p (looks.Open k) q = LookedAt p (looks.Open k) q

-- the addition fitted its term
pub record Granted (p : Pass) (count size start : ℕ) (q : Pass) : Type 0 where
  pub word : ℕ
  pub call : q.call ≡ p.call ++ addition_to p count size word ∷ []
  pub term : IsTerm p (count_in (geometry_of p) word)
  pub inside : offset_in word + framed_length (geometry_of p) size ≤ term_of p
  pub from : start ≡ start_in (geometry_of p) word
  pub in_stream : start + framed_length (geometry_of p) size ≤ max_position (geometry_of p)
  pub behind : EndBelow start p.right.claims
  pub after : Keeps (opened p (message_at p word size)) q
  pub idle : q.right.armed ≡ 0

-- the refusal at the end of the term of this count
abbrev pub EndsTerm : ℕ → Refusal → Type 0
EndsTerm count NotConnected = ⊥
EndsTerm count BackPressured = ⊥
EndsTerm count AdminAction = IsNotLast count
EndsTerm count Closed = ⊥
EndsTerm count MaxPositionExceeded = IsLast count

-- it passed the end of its term, which the pass knows is used up
pub record Tripping (p : Pass) (count size : ℕ) (why : Refusal) (q : Pass) : Type 0 where
  pub word : ℕ
  pub more : List WordStep
  pub call : q.call ≡ (p.call ++ addition_to p count size word ∷ []) ++ more
  pub over : term_of p < offset_in word + framed_length (geometry_of p) size
  pub term : IsTerm p (count_in (geometry_of p) word)
  pub why_is : EndsTerm (count_in (geometry_of p) word) why
  pub leaves : LeavesPadding p word q
  pub turns : TurnsFrom (geometry_of p) (count_in (geometry_of p) word) more
  pub idle : q.right.armed ≡ 0
  pub full : q.seen.full ≡ suc (count_in (geometry_of p) word)

-- the padding that an addition left open, if there is one, is committed
pub record Pads (v : Pass) (word : ℕ) (w : Pass) : Type 0 where
  pub below : offset_in word < term_of v → Fills v (start_in (geometry_of v) word) (Pad (term_of v - offset_in word)) w
  pub over : term_of v ≤ offset_in word → w ≡ v

pub record ToPad (v : Pass) (word : ℕ) : Type 0 where
  pub term : count_in (geometry_of v) word < 2147483648
  pub unit : offset_in word % 32 ≡ 0
  pub draft : offset_in word < term_of v → HasBlank v (start_in (geometry_of v) word) (term_of v - offset_in word)

-- the next term is begun, if nobody has: a turn but for the exchange of the count
pub record BeginsNext (p : Pass) (k : ℕ) (has : Bool) (q : Pass) : Type 0 where
  pub after : Keeps p q
  pub armed : q.right.armed ≡ p.right.armed
  pub full : q.seen.full ≡ p.seen.full
  pub next : ℕ
  pub rest : List WordStep
  pub call : q.call ≡ p.call ++ steps.NextTail ((k + 1) % 3) next ∷ rest
  pub begins : id_in next ≡ id_before (geometry_of p) k 2 → (found : ℕ) × (rest ≡ tail_exchange p k next found ∷ []) × (IsTrue has ↔ ((found ≡ next) ⊎ Names p found (k + 1)))
  pub others : ¬ (id_in next ≡ id_before (geometry_of p) k 2) → (rest ≡ []) × (IsTrue has ↔ Names p next (k + 1))
