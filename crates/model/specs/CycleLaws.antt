-- Laws on what a sender sends in a cycle, and again.
use Rattle.std.specs.Prelude.{◌≡◌, ℕ, ◌≤◌, ◌/◌, ◌⊎◌, ⊤, true, List, [], ◌∷◌, ◌++◌, length, ◌+◌, ◌*◌, ◌<◌}
use Rattle.std.specs.List.{AllByRecursion}
use Rattle.theory.specs.Position.{Geometry}
use Rattle.theory.specs.Wire.{StandTogether}
use Rattle.theory.specs.Placed.{AllAmong, Among, Chain, Placed, is_padding}
use Rattle.theory.specs.Bytes.{Identity}
use Rattle.theory.specs.Resend.{Action, resent}
use Rattle.theory.specs.Datagrams.{MayBeSent, cycle_datagrams, frames_of, grouped, resend_datagrams, size_of, wire_size, wires}

-- a sender at this position may send these frames, which lead to another
pub record MaySend (frames : List Placed) (at limit : ℕ) (sent : List Placed) : Type 0 where
  pub to : ℕ
  pub chain : Chain at to sent
  pub among : AllAmong frames sent
  pub allowed : AllByRecursion (MayBeSent limit) sent

-- a frame doesn't go into a datagram behind a padding, beside frames of another term, or past the MTU
abbrev pub IsFullFor : Geometry → List Placed → Placed → Type 0
IsFullFor g d s = ((u : Placed) × Among u d × (is_padding u.frame ≡ true)) ⊎ ((AllByRecursion (λ u. u.at / g.term_length ≡ s.at / g.term_length) d → ⊥) ⊎ (g.mtu < size_of d + wire_size s s.frame))

-- that many datagrams have gone out, and the next frame doesn't go into the last of them
pub record IsSpent (g : Geometry) (most : ℕ) (datagrams : List (List Placed)) (next : Placed) : Type 0 where
  pub many : length datagrams ≡ most
  pub front : List (List Placed)
  pub last : List Placed
  pub parts : datagrams ≡ front ++ last ∷ []
  pub full : IsFullFor g last next

-- what is left behind these datagrams: nothing, or they are as many as may go
abbrev pub AreSpent : Geometry → ℕ → List (List Placed) → List Placed → Type 0
AreSpent g most datagrams [] = ⊤
AreSpent g most datagrams (s ∷ ss) = IsSpent g most datagrams s

-- in a cycle also where the next frame may not be sent
abbrev pub IsStopped : Geometry → ℕ → List (List Placed) → List Placed → Type 0
IsStopped g limit datagrams [] = ⊤
IsStopped g limit datagrams (s ∷ ss) = (MayBeSent limit s → ⊥) ⊎ IsSpent g 16 datagrams s

-- what a cycle sends of frames that follow each other and are the log's is what a sender may send; it sends all that may go
abbrev pub CycleMaySend : Type 0
CycleMaySend = (g : Geometry) (frames reads : List Placed) (at q limit : ℕ) → Chain at q reads → AllAmong frames reads → MaySend frames at limit (frames_of (cycle_datagrams g limit reads)) × (length (cycle_datagrams g limit reads) ≤ 16)

abbrev pub CycleSendsAll : Type 0
CycleSendsAll = (g : Geometry) (reads : List Placed) (limit : ℕ) → (rest : List Placed) × (reads ≡ frames_of (cycle_datagrams g limit reads) ++ rest) × IsStopped g limit (cycle_datagrams g limit reads) rest

-- a resend's datagrams are at most 15, and their frames are the first of its range: all, or as many as 15 datagrams hold
abbrev pub ResendsFirst : Type 0
ResendsFirst = (g : Geometry) (frames : List Placed) → (length (resend_datagrams g frames) ≤ 15) × ((rest : List Placed) × (frames ≡ frames_of (resend_datagrams g frames) ++ rest) × AreSpent g 15 (resend_datagrams g frames) rest)

-- a frame starts in what the NAK asked for, three quarters of a term behind the sender at most, below the sender, and in the NAK's term
pub record IsAskedFor (g : Geometry) (s : ℕ) (a : Action) (f : Placed) : Type 0 where
  pub from : a.at ≤ f.at
  pub to : f.at < a.at + a.length
  pub near : s ≤ f.at + 3 * g.term_length / 4
  pub below : f.at < s
  pub term : f.at < a.at / g.term_length * g.term_length + g.term_length

abbrev pub ResendsAsked : Type 0
ResendsAsked = (g : Geometry) (s : ℕ) (passed : List Placed) (a : Action) → AllByRecursion (IsAskedFor g s a) (resent g s passed a)

-- all frames start in one term
abbrev pub AreOfOneTerm : ℕ → List Placed → Type 0
AreOfOneTerm term [] = ⊤
AreOfOneTerm term (s ∷ ss) = AllByRecursion (λ t. t.at / term ≡ s.at / term) ss

-- each stands in the grammar, none passes the MTU, and none has frames of two terms
pub record AreDatagrams (i : Identity) (g : Geometry) (datagrams : List (List Placed)) : Type 0 where
  pub stand : AllByRecursion (λ d. StandTogether (wires i d)) datagrams
  pub sized : AllByRecursion (λ d. size_of d ≤ g.mtu) datagrams
  pub termed : AllByRecursion (AreOfOneTerm g.term_length) datagrams

-- frames that each fit the MTU are grouped into such datagrams, in order, also in a cycle and a resend
abbrev pub GroupsWell : Type 0
GroupsWell = (i : Identity) (g : Geometry) (frames : List Placed) (limit : ℕ) → AllByRecursion (λ s. wire_size s s.frame ≤ g.mtu) frames →
    (frames_of (grouped g frames) ≡ frames) × AreDatagrams i g (grouped g frames) × AreDatagrams i g (cycle_datagrams g limit frames) × AreDatagrams i g (resend_datagrams g frames)
