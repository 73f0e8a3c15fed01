-- What a claim is answered, by the words that its pass saw.
use Rattle.std.specs.Prelude.{◌≡◌, ℕ, ◌+◌, ◌-◌, ◌*◌, ◌%◌, ◌<◌, ◌≤◌, ◌⊎◌, true, false, List, [], ◌∷◌, ◌++◌, Result, Ok, Err, length}
use Rattle.theory.specs.Position.{Geometry, cuts_of, framed_length, id_of, max_position}
use Rattle.theory.specs.Placed.{Frame, Pad, frame_length}
use Rattle.theory.specs.Refusal.{IsLast, IsNotLast, is_closed, is_connected, limit_in}
use Rattle.theory.specs.Words.{id_before, id_in, offset_in}
use Rattle.publication.specs.declared.pass.FrameWords.{FrameWords}
use Rattle.publication.specs.declared.pass.Pass.{Pass}
use Rattle.publication.specs.declared.step.WordStep.{WordStep}
use Rattle.publication.specs.declared.step.WordStep.TheVariants as steps
use Rattle.publication.specs.declared.refusal.Refusal.{Refusal}
use Rattle.publication.specs.declared.refusal.Refusal.TheVariants.{NotConnected, BackPressured, AdminAction, Closed, MaxPositionExceeded}
use Rattle.publication.specs.Steps.{IsTerm, Keeps, Moved, Names, begun_word, blank, count_in, geometry_of, message_at, opened, padding_at, start_in, term_of, with_work}
use Rattle.publication.specs.Frames.{frame_at}
use Rattle.publication.specs.Orders.{EndBelow}

-- ---- the steps that it took

-- these are noted in the call behind what was, and so many frames were stored
pub record TookMore {L P : Type 0} (took : L → P → L → P → List WordStep → ℕ → Type 0) (pass_of : L → P → Pass) (l : L) (p : P) (m : L) (q : P) (stored : ℕ) : Type 0 where
  pub noted : List WordStep
  pub steps : took l p m q noted stored
  pub call : (pass_of m q).call ≡ (pass_of l p).call ++ noted

-- all that the call notes were made in it
abbrev pub TookCall : {L P : Type 0} → (L → P → L → P → List WordStep → ℕ → Type 0) → (L → P → Pass) → L → P → L → P → ℕ → Type 0
TookCall took pass_of l p m q stored = took l p m q (pass_of m q).call stored

-- ---- how many frames were stored, each by one store, by the pass before and after

abbrev pub exactly : ℕ → Pass → Pass → ℕ
exactly count p q = count

-- a padding, for each frame that is committed more
abbrev pub padding_stores : Pass → Pass → ℕ
padding_stores p q = length q.work.frames - length p.work.frames

-- the frames of a message of this many bytes
abbrev pub message_stores : ℕ → Pass → Pass → ℕ
message_stores size p q = length (cuts_of p.identity.geometry size)

-- those, if it was accepted, and a padding's, if one is left
abbrev pub offer_stores : ℕ → Result ℕ Refusal → Pass → Pass → ℕ
offer_stores size (Ok end) p q = message_stores size p q
offer_stores size (Err why) p q = padding_stores p q

-- ---- what holds of all that a pass does

-- a whole call: the log and its other passes stay, the call notes each word step that was made in it, seven at the most, and so many frames were stored
pub record Called {L P I : Type 0} (fits : L → P → Type 0) (pass_of : L → P → Pass) (name : P → ℕ) (id : L → I) (made : L → P → L → P → List WordStep → ℕ → Type 0) (l : L) (p : P) (m : L) (q : P) (stored : Pass → Pass → ℕ) : Type 0 where
  pub moved : Moved fits pass_of name id l p m q
  pub took : TookCall made pass_of l p m q (stored (pass_of l p) (pass_of m q))
  pub few : length (pass_of m q).call ≤ 7

-- more of a call: its word steps are noted behind what was
pub record PartOfCall {L P I : Type 0} (fits : L → P → Type 0) (pass_of : L → P → Pass) (name : P → ℕ) (id : L → I) (made : L → P → L → P → List WordStep → ℕ → Type 0) (l : L) (p : P) (m : L) (q : P) (stored : Pass → Pass → ℕ) : Type 0 where
  pub moved : Moved fits pass_of name id l p m q
  pub took : TookMore made pass_of l p m q (stored (pass_of l p) (pass_of m q))

-- ---- a turn of the term

-- the count is exchanged where the next term has begun, and only there
pub record CountsOn (k : ℕ) (Begun : Type 0) (taken : List WordStep) : Type 0 where
  pub begun : Begun → (n : ℕ) × (taken ≡ steps.CountExchange k n ∷ [])
  pub other : ¬ Begun → taken ≡ []

-- the next tail is exchanged, once
pub record BeginsTerm (g : Geometry) (k from : ℕ) (taken : List WordStep) : Type 0 where
  pub found : ℕ
  pub rest : List WordStep
  pub exchange : taken ≡ steps.TailExchange ((k + 1) % 3) from (begun_word g k) found ∷ rest
  pub count : CountsOn k ((found ≡ from) ⊎ (id_in found ≡ id_of g (k + 1))) rest

-- the turn from the term of this count: the next tail is loaded, and exchanged where it has the id of two terms before
pub record IsTurn (g : Geometry) (k : ℕ) (taken : List WordStep) : Type 0 where
  pub next : ℕ
  pub rest : List WordStep
  pub load : taken ≡ steps.NextTail ((k + 1) % 3) next ∷ rest
  pub begins : id_in next ≡ id_before g k 2 → BeginsTerm g k next rest
  pub others : ¬ (id_in next ≡ id_before g k 2) → CountsOn k (id_in next ≡ id_of g (k + 1)) rest

-- at the end of the term of this count: a turn, where it isn't the last
pub record TurnsFrom (g : Geometry) (k : ℕ) (taken : List WordStep) : Type 0 where
  pub turns : IsNotLast k → IsTurn g k taken
  pub ends : IsLast k → taken ≡ []

-- steps such as these, and nothing but what was seen is another
pub record Takes (Such : List WordStep → Type 0) (p q : Pass) : Type 0 where
  pub after : Keeps p q
  pub armed : q.right.armed ≡ p.right.armed
  -- the term that it knows is used up
  pub full : q.seen.full ≡ p.seen.full
  pub taken : List WordStep
  pub call : q.call ≡ p.call ++ taken
  pub such : Such taken

-- ---- open frames are filled

-- one of the open frames begins there, has this length, and nothing of it is stored
pub record HasBlank (v : Pass) (p cut : ℕ) : Type 0 where
  pub front : List FrameWords
  pub behind : List FrameWords
  pub parts : v.work.drafts ≡ front ++ blank p cut ∷ behind

-- it is committed as this frame
abbrev pub Fills : Pass → ℕ → Frame → Pass → Type 0
Fills v p f w = (front behind : List FrameWords) → v.work.drafts ≡ front ++ blank p (frame_length f) ∷ behind → w ≡ with_work (v.work.frames ++ frame_at v.identity p f ∷ []) (front ++ behind) v

-- ---- a claim

-- the limit, the count and the tail that were seen
abbrev pub Saw : Pass → ℕ → ℕ → ℕ → List WordStep → Type 0
Saw q limit count tail rest = q.call ≡ steps.Limit limit ∷ steps.Count count ∷ steps.Tail (count % 3) tail ∷ rest

abbrev pub addition_to : Pass → ℕ → ℕ → ℕ → WordStep
addition_to p count size word = steps.Addition (count % 3) (framed_length (geometry_of p) size) word

abbrev pub position_in : Pass → ℕ → ℕ → ℕ
position_in p count tail = count * term_of p + offset_in tail

-- one claim more, at the position of the word that the addition answered; its frames are open, and nothing of them is
-- stored
pub record Claimed (p : Pass) (size start : ℕ) (q : Pass) : Type 0 where
  pub limit : ℕ
  pub count : ℕ
  pub tail : ℕ
  pub word : ℕ
  pub call : Saw q limit count tail (addition_to p count size word ∷ [])
  pub unclosed : is_closed limit ≡ false
  pub id : Names p tail count
  pub room : offset_in tail < term_of p
  pub below : position_in p count tail < limit_in limit
  pub term : IsTerm p (count_in (geometry_of p) word)
  pub inside : offset_in word + framed_length (geometry_of p) size ≤ term_of p
  pub from : start ≡ start_in (geometry_of p) word
  pub in_stream : start + framed_length (geometry_of p) size ≤ max_position (geometry_of p)
  -- what it had claimed ends there, or below
  pub behind : EndBelow start p.right.claims
  pub after : Keeps (opened p (message_at p word size)) q
  pub idle : q.right.armed ≡ 0

-- ---- a refusal

abbrev pub AtLimit : Pass → ℕ → ℕ → ℕ → Type 0
AtLimit p limit count tail = Names p tail count × (offset_in tail < term_of p) × (limit_in limit ≤ position_in p count tail)

abbrev pub Stale : Pass → ℕ → ℕ → Type 0
Stale p count tail = ¬ Names p tail count

-- the active term is used up
pub record Finished (p : Pass) (Which : ℕ → Type 0) (count tail : ℕ) (rest : List WordStep) : Type 0 where
  pub id : Names p tail count
  pub over : term_of p ≤ offset_in tail
  pub which : Which count
  pub turns : TurnsFrom (geometry_of p) count rest

-- the tail had room below the limit, and the addition passed the end of its term
pub record Tripped (p : Pass) (size : ℕ) (Which : ℕ → Type 0) (limit count tail : ℕ) (rest : List WordStep) : Type 0 where
  pub id : Names p tail count
  pub room : offset_in tail < term_of p
  pub below : position_in p count tail < limit_in limit
  pub word : ℕ
  pub more : List WordStep
  pub added : rest ≡ addition_to p count size word ∷ more
  pub turns : TurnsFrom (geometry_of p) (count_in (geometry_of p) word) more
  pub over : term_of p < offset_in word + framed_length (geometry_of p) size
  pub term : IsTerm p (count_in (geometry_of p) word)
  pub which : Which (count_in (geometry_of p) word)

abbrev pub Cause : Pass → ℕ → ℕ → ℕ → ℕ → List WordStep → Refusal → Type 0
Cause p size limit count tail rest NotConnected = AtLimit p limit count tail × (is_connected limit ≡ false) × (rest ≡ [])
Cause p size limit count tail rest BackPressured = AtLimit p limit count tail × (is_connected limit ≡ true) × (rest ≡ [])
Cause p size limit count tail rest AdminAction = (Stale p count tail × (rest ≡ [])) ⊎ (Finished p IsNotLast count tail rest ⊎ Tripped p size IsNotLast limit count tail rest)
Cause p size limit count tail rest Closed = ⊥
Cause p size limit count tail rest MaxPositionExceeded = Finished p IsLast count tail rest ⊎ Tripped p size IsLast limit count tail rest

-- the rest of the term of the word before the addition, committed
abbrev pub padded : Pass → ℕ → Pass
padded p word = record p {
  right = record p.right { claims = p.right.claims ++ padding_at p word ∷ [] };
  work = record p.work { frames = p.work.frames ++ frame_at p.identity (start_in (geometry_of p) word) (Pad (term_of p - offset_in word)) ∷ [] };
}

-- an addition that passed the end of its term leaves a padding, if it began below it
pub record LeavesPadding (p : Pass) (word : ℕ) (q : Pass) : Type 0 where
  pub below : offset_in word < term_of p → Keeps (padded p word) q
  pub over : term_of p ≤ offset_in word → Keeps p q
  -- what the pass had claimed ends where the padding begins, or below
  pub behind : offset_in word < term_of p → EndBelow (start_in (geometry_of p) word) p.right.claims

-- what the call notes behind its load of the tail says whether there was an addition
abbrev pub Leaves : Pass → List WordStep → Pass → Type 0
Leaves p [] q = Keeps p q
Leaves p (steps.Addition partition taken word ∷ more) q = LeavesPadding p word q
Leaves p (other ∷ more) q = Keeps p q

pub record Refused (p : Pass) (size : ℕ) (why : Refusal) (q : Pass) : Type 0 where
  pub limit : ℕ
  pub unclosed : is_closed limit ≡ false
  pub count : ℕ
  pub tail : ℕ
  pub rest : List WordStep
  pub saw : Saw q limit count tail rest
  pub cause : Cause p size limit count tail rest why
  pub leaves : Leaves p rest q
  pub idle : p.right.armed ≡ 0 → q.right.armed ≡ 0

-- the log was closed: nothing but the limit was looked at
pub record Shut (p q : Pass) : Type 0 where
  pub limit : ℕ
  pub call : q.call ≡ steps.Limit limit ∷ []
  pub closed : is_closed limit ≡ true
  pub after : Keeps p q
  pub armed : q.right.armed ≡ p.right.armed

abbrev pub Justified : Pass → ℕ → Refusal → Pass → Type 0
Justified p size NotConnected q = Refused p size NotConnected q
Justified p size BackPressured q = Refused p size BackPressured q
Justified p size AdminAction q = Refused p size AdminAction q
Justified p size Closed q = Shut p q
Justified p size MaxPositionExceeded q = Refused p size MaxPositionExceeded q
