-- What a reader has where it found a frame.
use Rattle.std.specs.Prelude.{ℕ, ◌<◌}
use Rattle.publication.specs.declared.pass.FrameWords.{FrameWords}
use Rattle.publication.specs.declared.pass.Reading.{Reading}
use Rattle.log_rule.specs.Readings.{IsConsumer}
use Rattle.log_memory.specs.declared.view.Site.{Site}
use Rattle.log_memory.specs.Frames.{HasPart, MayGiveBack}
use Rattle.log_memory.specs.Steps.{Looks, MayReread, Mine, Rereads}

-- its part is in front of what its seat carries, and it may give it back
pub record HasFound (t : Site) (number : ℕ) (f : FrameWords) (m : Mine) : Type 0 where
  pub part : HasPart t f number m.1
  pub back : MayGiveBack t m

pub record PartsAreFound : Type 0 where
  pub look : (t : Site) (place : ℕ) (r : Reading) (m : Mine) (is : IsConsumer m.0.view.pass place r) → r.number < 8 → (n : ℕ) (m' : Mine) (told : Looks t place r m is n m') (pos : 0 < n) → HasFound t r.number ((told.told.3 r is).found pos).frame m'
  pub reread : (t : Site) (place : ℕ) (r : Reading) (f : FrameWords) (m : Mine) → MayReread place r f m.0.view.pass → (n : ℕ) (m' : Mine) → Rereads t r f m n m' → HasFound t r.number f m'
