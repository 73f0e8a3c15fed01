-- A reader that is told what a pass committed.
use Rattle.std.proofs.Common.{◌≡◌, ℕ, zero, suc, List, [], ◌∷◌, ◌++◌, map, sym, refl, ap, ◌∙◌, subst}
use mathlib.Core.Option.{some, some-ne-none}
use lib.ListN.{get_elem?}
use Rattle.atomic_table.proofs.Lists.{at_map}
use Rattle.theory.proofs.Lists.{among_left}
use Rattle.publication.specs.declared.pass.FrameWords.{FrameWords}
use Rattle.publication.specs.declared.pass.Pass.{Pass}
use Rattle.publication.specs.declared.pass.Reading.{Reading}
use Rattle.shared_log.specs.Steps.Readers.{SameSeat}
use Rattle.shared_log.specs.Steps.Handles.{PublisherValue}
use Rattle.log_rule.specs.Table.{knows_all}
use Rattle.shared_log.specs.Readers.{IsReading, Learns, OnlyReads, ReaderValue, known_at, misses_at, positions_of}

same_of : (h : Reading → ℕ) (fs : List FrameWords) (rs : List Reading) → ((r : Reading) → h (knows_all fs r) ≡ h r) → map h (map (knows_all fs) rs) ≡ map h rs
same_of h fs [] same = refl
same_of h fs (r ∷ rs) same = λ j. same r j ∷ same_of h fs rs same j

known_told : (fs : List FrameWords) (rs : List Reading) (place : ℕ) (r : Reading) → get_elem? rs place ≡ some r → known_at (map (knows_all fs) rs) place ≡ known_at rs place ++ fs
known_told fs [] place r e = absurd (some-ne-none r (sym e))
known_told fs (x ∷ xs) zero r e = refl
known_told fs (x ∷ xs) (suc place) r e = known_told fs xs place r e

misses_told : (fs : List FrameWords) (rs : List Reading) (place : ℕ) → misses_at (map (knows_all fs) rs) place ≡ misses_at rs place
misses_told fs [] place = refl
misses_told fs (x ∷ xs) zero = refl
misses_told fs (x ∷ xs) (suc place) = misses_told fs xs place

abbrev pub told : Pass → List FrameWords → Pass
told v fs = record v { reading = map (knows_all fs) v.reading }

pub told_reading : (v w : Pass) (fs : List FrameWords) (place number position read_to : ℕ) → IsReading v place number position read_to → w ≡ told v fs → IsReading w place number position read_to
told_reading v w fs place number position read_to is e = subst (λ (x : Pass). IsReading x place number position read_to) (sym e) record {
  consumer = knows_all fs is.consumer;
  is = at_map (knows_all fs) v.reading place is.consumer is.is;
  number_is = is.number_is;
  position_is = is.position_is;
  read = λ lt. (let m = is.read lt in record {
    consumer = knows_all fs m.consumer;
    is = at_map (knows_all fs) v.reading place m.consumer m.is;
    frame = m.frame;
    known = among_left m.frame m.consumer.known fs m.known;
    here = m.here;
    ends = m.ends;
  });
  low = is.low;
  low_end = is.low_end;
}

pub learns_by : (r : ReaderValue) (w : PublisherValue) (v : Pass) (fs : List FrameWords) → IsReading r.held.pass r.place r.number r.position r.read_to → SameSeat r.held w → w.pass ≡ told r.held.pass fs → fs ≡ v.work.frames → Learns r v (record r { held = w })
learns_by r w v fs is seat after all = record {
  stays = record {
    seat = seat;
    pass = subst (OnlyReads r.held.pass) (sym after) record { rest = refl; numbers = same_of (λ (x : Reading). x.number) fs r.held.pass.reading (λ x. refl) };
    positions = ap positions_of after ∙ same_of (λ (x : Reading). x.position) fs r.held.pass.reading (λ x. refl);
    same = refl;
  };
  read_to = refl;
  known = ap (λ (x : Pass). known_at x.reading r.place) after ∙ known_told fs r.held.pass.reading r.place is.consumer is.is ∙ ap (λ (gs : List FrameWords). known_at r.held.pass.reading r.place ++ gs) all;
  looked = ap (λ (x : Pass). misses_at x.reading r.place) after ∙ misses_told fs r.held.pass.reading r.place;
}
