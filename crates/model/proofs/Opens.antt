-- Each legal geometry, start and identity opens a world.
use Rattle.std.proofs.Common.{◌≡◌, ℕ, ◌%◌, ◌<◌, [], false, refl, replicate, None, Some}
use Rattle.theory.specs.Position.{IsGeometry, max_position}
use Rattle.theory.specs.Bytes.{Identity, IsIdentity}
use Rattle.theory.specs.Consumer.{consumer_at}
use Rattle.model.specs.ExampleRun.{AlwaysOpens}
use Rattle.model.specs.World.{World, IsOpened, opened_sender}
use Rattle.theory.specs.Numbered.{IfThere}
use Rattle.theory.proofs.Lists.{all_replicate}

abbrev world_at : Identity → ℕ → ℕ → World
world_at i start readers = record {
  log = record { identity = i; start = start; tail = start; entries = []; armed = replicate 8 false; retired = replicate 8 false; limit = start; connected = false; closed = false; cleaned = start; readers = replicate readers (Some (consumer_at start)) };
  sender = opened_sender start None;
  images = replicate 8 None;
}

pub opens : (i : Identity) (start readers : ℕ) → IsGeometry i.geometry → IsIdentity i → start % 32 ≡ 0 → start < max_position i.geometry → IsOpened (world_at i start readers)
opens i start readers g n u l = record {
  geometry = g;
  identity = n;
  unit = u;
  below = l;
  tail = refl;
  entries = refl;
  armed = refl;
  retired = refl;
  limit = refl;
  connected = refl;
  closed = refl;
  cleaned = refl;
  readers = all_replicate (IfThere (λ r. r ≡ consumer_at start)) readers (Some (consumer_at start)) refl;
  sender = refl;
  images = refl;
}

pub opens_always : AlwaysOpens
opens_always = λ i begins g n u l. (world_at i begins 0, opens i begins 0 g n u l, refl, refl)
