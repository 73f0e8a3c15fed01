-- Slots that a seat carries, on their way round.
use Rattle.std.specs.Prelude.{◌≡◌, ℕ, ◌+◌, ◌-◌, ◌*◌, ◌^◌, ◌<◌, ◌≤◌, List, [], ◌++◌, replicate}
use Rattle.region.specs.declared.access.Access.{Access}
use Rattle.region.specs.declared.access.ReadAccess.{ReadAccess}
use Rattle.region.specs.declared.access.WriteAccess.{WriteAccess}
use Rattle.log_memory.specs.declared.view.Site.{Site}
use Rattle.position.specs.Contents.{bytes_in}
use Rattle.log_memory.specs.Steps.{Carries, IsPartAt}

-- whatever a slot has
abbrev pub IsAnything : ℕ → Access → Type 0
IsAnything k g = Unit {0}

-- of so many slots from the number k on, which are carried over others, the first i were seen to, and went behind these
pub record IsHalfway (now later : ℕ → Access → Type 0) (k count i : ℕ) (before mine : List (ℕ × Access)) : Type 0 where
  pub low : i ≤ count
  pub behind : List (ℕ × Access)
  pub done : Carries later k i [] behind
  pub left : Carries now (k + i) (count - i) (before ++ behind) mine

-- the right to write so many bytes, from those of the slot k on, which are zero
pub record IsRun (t : Site) (k bytes : ℕ) (w : WriteAccess) : Type 0 where
  pub identity : w.identity ≡ t.region.identity
  pub at : w.at ≡ 4 * k
  pub zeros : w.items ≡ replicate bytes 0

-- the first eight slots, from the number k on, have an eighth each of a right to read
abbrev pub IsEighthAt : ℕ → ReadAccess → ℕ → Access → Type 0
IsEighthAt k whole i g = i < k + 8 → g.read ≡ record whole { count = 2 ^ 60 }

-- so much of the right to read the frame whose first unit's first slot has this number: its words, of this round and this account
pub record IsWholeOf (t : Site) (k : ℕ) (ws : List ℕ) (parts life book : ℕ) (r : ReadAccess) : Type 0 where
  pub identity : r.identity ≡ t.region.identity
  pub at : r.at ≡ 4 * k
  pub count : r.count ≡ parts
  pub round : r.round ≡ record { life = life; book = book }
  pub items : r.items ≡ bytes_in ws

-- the first eight of so many slots, from the number k on, have the parts of one frame
pub record HaveParts (t : Site) (k count : ℕ) (mine : List (ℕ × Access)) : Type 0 where
  pub words : List ℕ
  pub life : ℕ
  pub book : ℕ
  pub row : Carries (IsPartAt t k words life book) k count [] mine
