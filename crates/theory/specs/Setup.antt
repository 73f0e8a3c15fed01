-- Which SETUP opens an image, and where; the causes of a refusal in their order.
use Rattle.std.specs.Prelude.{◌≡◌, ℕ, ◌+◌, ◌-◌, ◌*◌, ◌%◌, ◌^◌, ◌<◌, ◌⊎◌, pos}
use Rattle.theory.specs.Position.{Geometry, IsGeometry, count_of}
use Rattle.theory.specs.Wire.{Setup}
use Rattle.theory.specs.Image.{IsWindow}

-- its numbers are this geometry
pub record NamesGeometry (f : Setup) (g : Geometry) : Type 0 where
  pub term_length : f.term_length ≡ pos g.term_length
  pub mtu : f.mtu ≡ pos g.mtu
  pub initial : f.initial_term_id ≡ g.initial_term_id
  pub legal : IsGeometry g

-- its active term and offset are this position: the offset is whole units below the term's length, or that length in the last term
pub record NamesPosition (f : Setup) (g : Geometry) (position : ℕ) : Type 0 where
  pub count : ℕ
  pub offset : ℕ
  pub counted : count_of g f.active_term_id ≡ pos count
  pub placed : f.term_offset ≡ pos offset
  pub unit : offset % 32 ≡ 0
  pub inside : (offset < g.term_length) ⊎ ((offset ≡ g.term_length) × (count ≡ 2 ^ 31 - 1))
  pub here : position ≡ count * g.term_length + offset

-- it opens an image of this geometry at this position, for a receiver with this window
pub record OpensAt (f : Setup) (width : ℕ) (g : Geometry) (p : ℕ) : Type 0 where
  pub geometry : NamesGeometry f g
  pub position : NamesPosition f g p
  pub window : IsWindow g.term_length g.mtu width

pub data SetupFault : Type 0 where
  BadGeometry : SetupFault
  BadPosition : SetupFault
  BadWindow : SetupFault

-- the first thing that is wrong with it
abbrev pub HasSetupFault : Setup → ℕ → SetupFault → Type 0
HasSetupFault f window BadGeometry = (g : Geometry) → NamesGeometry f g → ⊥
HasSetupFault f window BadPosition = (g : Geometry) × NamesGeometry f g × ((p : ℕ) → NamesPosition f g p → ⊥)
HasSetupFault f window BadWindow = (g : Geometry) × (p : ℕ) × NamesGeometry f g × NamesPosition f g p × (IsWindow g.term_length g.mtu window → ⊥)
