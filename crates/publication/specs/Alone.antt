-- What a claim comes to where nobody else takes a step: the answer by the log's tail, its active count and its limit.
use Rattle.std.specs.Prelude.{◌≡◌, ℕ, ◌+◌, ◌-◌, ◌*◌, ◌%◌, ◌^◌, ◌<◌, ◌≤◌, ◌⊎◌, Bool, true, false, [], ◌∷◌, ◌++◌, length, min}
use Rattle.theory.specs.Placed.{Pad}
use Rattle.theory.specs.Position.{Geometry, cuts_of, framed_length, id_of}
use Rattle.theory.specs.Refusal.{IsLast, IsNotLast, is_closed, is_connected, limit_in}
use Rattle.theory.specs.Words.{id_before, id_in, tail_word}
use Rattle.publication.specs.declared.pass.ClaimRange.{ClaimRange}
use Rattle.publication.specs.declared.pass.Controls.{Controls}
use Rattle.publication.specs.declared.pass.Pass.{Pass}
use Rattle.publication.specs.declared.refusal.Refusal.{Refusal}
use Rattle.publication.specs.declared.refusal.Refusal.TheVariants.{NotConnected, BackPressured, AdminAction, Closed, MaxPositionExceeded}
use Rattle.publication.specs.Steps.{Keeps, geometry_of, opened, term_of}
use Rattle.publication.specs.Frames.{frame_at}
use Rattle.publication.specs.Controls.{tail_in}

-- no turn is half done: the control words show the tail and the active count
pub record Settled (g : Geometry) (tail active : ℕ) (c : Controls) : Type 0 where
  pub three : length c.tails ≡ 3
  pub count : c.count ≡ active
  pub small : active < 2 ^ 31
  pub offset : ℕ
  pub narrow : offset < 2 ^ 31
  pub here : tail_in c (active % 3) ≡ tail_word (id_of g active) offset
  pub tail_is : tail ≡ active * g.term_length + min offset g.term_length
  pub next : id_in (tail_in c ((active + 1) % 3)) ≡ id_before g active 2
  pub behind : id_in (tail_in c ((active + 2) % 3)) ≡ id_before g active 1

abbrev pub message_from : Pass → ℕ → ℕ → ClaimRange
message_from p tail size = record { start = tail; owner = p.number; cuts = cuts_of (geometry_of p) size; padding = false }

abbrev pub padding_from : Pass → ℕ → ℕ → ClaimRange
padding_from p tail bytes = record { start = tail; owner = p.number; cuts = bytes ∷ []; padding = true }

-- the rest of the term, committed as a padding
abbrev pub padded_from : Pass → ℕ → ℕ → Pass
padded_from p tail bytes = record p {
  right = record p.right { claims = p.right.claims ++ padding_from p tail bytes ∷ [] };
  work = record p.work { frames = p.work.frames ++ frame_at p.identity tail (Pad bytes) ∷ [] };
}

-- the log isn't closed, and its tail is below the limit and the end of its term
pub record MayAdd (p : Pass) (tail active : ℕ) (c : Controls) : Type 0 where
  pub unclosed : is_closed c.limit ≡ false
  pub room : tail < (active + 1) * term_of p
  pub below : tail < limit_in c.limit

-- the message was claimed at the tail
pub record TakesAt (p : Pass) (size tail active : ℕ) (c d : Controls) (start : ℕ) (q : Pass) : Type 0 where
  pub may : MayAdd p tail active c
  pub start_is : start ≡ tail
  pub inside : tail + framed_length (geometry_of p) size ≤ (active + 1) * term_of p
  pub settled : Settled (geometry_of p) (tail + framed_length (geometry_of p) size) active d
  pub limit : d.limit ≡ c.limit
  pub after : Keeps (opened p (message_from p tail size)) q
  pub idle : q.right.armed ≡ 0

-- the active term was used up
pub record FindsEnd (p : Pass) (tail active : ℕ) (c : Controls) (q : Pass) : Type 0 where
  pub unclosed : is_closed c.limit ≡ false
  pub end : tail ≡ (active + 1) * term_of p
  pub after : Keeps p q

-- the message didn't fit the rest of its term, which became a padding
pub record PadsEnd (p : Pass) (size tail active : ℕ) (c : Controls) (q : Pass) : Type 0 where
  pub may : MayAdd p tail active c
  pub over : (active + 1) * term_of p < tail + framed_length (geometry_of p) size
  pub after : Keeps (padded_from p tail ((active + 1) * term_of p - tail)) q

-- the next term is the active one, if this wasn't the last
pub record Ends (p : Pass) (size tail active then : ℕ) (c d : Controls) (q : Pass) : Type 0 where
  pub how : FindsEnd p tail active c q ⊎ PadsEnd p size tail active c q
  pub settled : Settled (geometry_of p) ((active + 1) * term_of p) then d
  pub limit : d.limit ≡ c.limit

-- the tail was at the limit
pub record Reaches (p : Pass) (tail active : ℕ) (connected : Bool) (c d : Controls) (q : Pass) : Type 0 where
  pub unclosed : is_closed c.limit ≡ false
  pub room : tail < (active + 1) * term_of p
  pub limited : limit_in c.limit ≤ tail
  pub flag : is_connected c.limit ≡ connected
  pub same : d ≡ c
  pub after : Keeps p q

pub record FindsClosed (p : Pass) (c d : Controls) (q : Pass) : Type 0 where
  pub closed : is_closed c.limit ≡ true
  pub same : d ≡ c
  pub after : Keeps p q

abbrev pub RefusedAlone : Pass → ℕ → ℕ → ℕ → Controls → Controls → Refusal → Pass → Type 0
RefusedAlone p size tail active c d NotConnected q = Reaches p tail active false c d q
RefusedAlone p size tail active c d BackPressured q = Reaches p tail active true c d q
RefusedAlone p size tail active c d AdminAction q = IsNotLast active × Ends p size tail active (active + 1) c d q
RefusedAlone p size tail active c d Closed q = FindsClosed p c d q
RefusedAlone p size tail active c d MaxPositionExceeded q = IsLast active × Ends p size tail active active c d q
