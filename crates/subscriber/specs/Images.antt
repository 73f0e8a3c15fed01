-- The images of a subscriber, one after the other, and what is missing between them.
use Rattle.std.specs.Prelude.{◌+◌, ◌-◌, ◌%◌, ◌^◌, ℕ, min, Bool, true, false, nat_lt, Option, None, Some, if◌then◌else◌, ◌<◌, ℤ, List, length}
use Rattle.subscriber.specs.declared.images.CutOff.{CutOff}
use Rattle.subscriber.specs.declared.images.Images.{Images}
use Rattle.subscriber.specs.declared.images.Loss.{Loss}
use Rattle.subscriber.specs.Places.{first_number}
use Rattle.std.specs.List.{Contains}

-- a place's first image
abbrev pub first_image : ℕ → Images
first_image place = record { number = first_number place; missing = 0; cut = None }

-- the image with the next number
abbrev pub next : ℕ → ℕ
next number = (number + 1) % 2 ^ 64

-- what is missing from one position to another, if that lies above it
abbrev pub loss_between : ℕ → ℕ → Option Loss
loss_between from to = if nat_lt from to then Some (record { from = from; to = to }) else None

-- in bytes
abbrev pub bytes_of : Option Loss → ℕ
bytes_of None = 0
bytes_of (Some loss) = loss.to - loss.from

-- with these, up to the greatest number
abbrev pub missing_with : ℕ → Option Loss → ℕ
missing_with missing loss = min (missing + bytes_of loss) (2 ^ 64 - 1)

-- the next image, before which this is missing, where so a stream was cut off or none was
abbrev pub next_images : Images → Option Loss → Option CutOff → Images
next_images i loss cut = record { number = next i.number; missing = missing_with i.missing loss; cut = cut }

-- the first stream that was cut off at a place: the one that was before, or else this one, if it is
abbrev pub first_cut : Option CutOff → Bool → CutOff → Option CutOff
first_cut (Some before) cut own = Some before
first_cut None true own = Some own
first_cut None false own = None

-- this session wasn't told yet, and fewer than 16 were
pub record IsUnnamed (sessions : List ℤ) (session : ℤ) : Type 0 where
  pub few : length sessions < 16
  pub untold : ¬ Contains sessions session
