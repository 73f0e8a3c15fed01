-- A reader of a log that threads share as a source of frames: those that it knows, to which others may be added.
use Rattle.std.proofs.Common.{◌∙◌, arith, refl}
use Rattle.std.specs.Prelude.{◌≡◌, ℕ, ◌≤◌, List, map}
use Rattle.theory.specs.Placed.{Among, Placed}
use Rattle.frame_source.specs.Sources.{Source}
use Rattle.publication.specs.declared.pass.FrameWords.{FrameWords}
use Rattle.publication.specs.Contents.{frame_in}
use Rattle.shared_log.specs.Steps.Handles.{LogValue}
use Rattle.shared_log.specs.Readers.{ReaderValue, known_of, misses_of}

abbrev pub placed : FrameWords → Placed
placed f = record { at = f.start; frame = frame_in f }

abbrev pub source_of : LogValue → ReaderValue → Source
source_of l r = record { identity = l.identity; position = r.position; frames = map placed (known_of r) }

-- no frame is forgotten
abbrev pub Grows : List Placed → List Placed → Type 0
Grows a b = (f : Placed) → Among f a → Among f b

-- the same log, read by its reader of the same number, which forgets none of its looks that found no frame
pub record StaysOn (l : LogValue) (r : ReaderValue) (m : LogValue) (q : ReaderValue) : Type 0 where
  pub log : m ≡ l
  pub number : q.number ≡ r.number
  pub looked : misses_of r ≤ misses_of q

-- ---- the laws of a source

pub grows_on : (a b c : List Placed) → Grows a b → Grows b c → Grows a c
grows_on a b c h k f among = k f (h f among)

pub frames_stay : (l : LogValue) (r : ReaderValue) → StaysOn l r l r
frames_stay l r = record { log = refl; number = refl; looked = same (misses_of r) }
  where
    same : (n : ℕ) → n ≤ n
    same n = omega arith

pub stays_on : {L : Type 0} (a : LogValue) (r : ReaderValue) (b : LogValue) (q : ReaderValue) (c : LogValue) (s : ReaderValue) (l m n : L) → StaysOn a r b q × (m ≡ l) → StaysOn b q c s × (n ≡ m) → StaysOn a r c s × (n ≡ l)
stays_on a r b q c s l m n h k = (record { log = k.0.log ∙ h.0.log; number = k.0.number ∙ h.0.number; looked = through (misses_of r) (misses_of q) (misses_of s) h.0.looked k.0.looked }, k.1 ∙ h.1)
  where
    through : (a c d : ℕ) → a ≤ c → c ≤ d → a ≤ d
    through a c d x y = omega arith
