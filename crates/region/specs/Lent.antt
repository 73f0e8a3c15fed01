-- A `Vec` whose memory is bytes of a region.
use Rattle.std.specs.Prelude.{◌≡◌, ℕ, ◌<◌, Vec}
use Rattle.std.specs.Vec.{vec_len, vec_ptr}
use Rattle.std_alloc.specs.declared.vec.lodged.Lodged.{Lodged}
use Rattle.region.specs.Identity.{Stretch, byte_address}

-- the `Vec` is the stretch's bytes, all of them
pub record IsOut (bytes : Vec ℕ Lodged) (s : Stretch) : Type 0 where
  pub place : vec_ptr bytes ≡ byte_address s.identity s.at
  pub all : vec_len bytes ≡ s.len
  pub some : 0 < s.len
