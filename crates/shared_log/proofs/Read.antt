-- A reader's part of a frame: taken, copied and given back.
use Rattle.std.proofs.Common.{◌≡◌, ℕ, zero, suc, ◌+◌, ◌*◌, ◌<◌, ◌≤◌, inl, ⊎_elim, List, [], ◌∷◌, ◌++◌, drop, length, take, sym, ap, ◌∙◌, subst, arith}
use Rattle.std.proofs.lemmas.List.{length-take-le}
use mathlib.Core.Option.{some, some-injective, some-ne-none}
use lib.ListN.{get_elem?}
use Rattle.std.specs.Prelude.{slice_index}
use Rattle.std.specs.Int.{w64, to_le_bytes}
use Rattle.atomic_table.proofs.Lists.{set_here}
use Rattle.theory.specs.Placed.{Among}
use Rattle.theory.specs.Position.{IsGeometry}
use Rattle.theory.specs.Bytes.{Identity}
use Rattle.theory.proofs.Lists.{among_cases}
use Rattle.region.specs.Identity as regions
use Rattle.region.specs.declared.access.Access.{Access}
use Rattle.position.specs.Contents.{head_by}
use Rattle.publication.specs.declared.pass.FrameWords.{FrameWords}
use Rattle.publication.specs.declared.pass.Pass.{Pass}
use Rattle.publication.specs.declared.pass.Reading.{Reading}
use Rattle.log_rule.specs.Claims.Memory.{IsCommittedFrame}
use Rattle.log_rule.specs.declared.claims.view.View.{View}
use Rattle.log_rule.specs.Readings.{FindsFrame, Has, IsConsumer, IsFrameAt, knows_more, with_consumer}
use Rattle.log_memory.specs.declared.view.Part.{Part}
use Rattle.log_memory.specs.declared.view.Site.{Site}
use Rattle.log_memory.specs.Found.{HasFound, PartsAreFound}
use Rattle.log_memory.specs.Frames.{CopiesPart, HasPart, HasPartAt, MayGiveBack}
use Rattle.log_memory.specs.Kinds.{LooksHere}
use Rattle.log_memory.specs.Places.{slot_of}
use Rattle.log_memory.specs.Rule.{ring}
use Rattle.log_memory.specs.Steps.{Gives, Mine, Rereads}
use Rattle.log_memory.specs.declared.reader.Consumer.{Consumer}
use Rattle.shared_log.specs.Steps.Readers.{Copies, IsAt, IsRead, MayRereadAt, frame_from, had_at, part_bytes, reading_at}
use Rattle.shared_log.specs.Steps.Rests.{IsResting}
use Rattle.shared_log.proofs.Heads.{behind_first, behind_header, part_inside}
use Rattle.shared_log.proofs.Picked.{picked_frame, picked_reading, picked_reread, reading_is}
use Rattle.shared_log.proofs.Resting.{rests_on}

there_low : {A : Type 0} (l : List A) (i : ℕ) (a : A) → get_elem? l i ≡ some a → i < length l
there_low [] i a e = absurd (some-ne-none a (sym e))
there_low (x ∷ xs) zero a e = omega arith
there_low (x ∷ xs) (suc i) a e = let r = there_low xs i a e in omega arith

same_number : (v : Pass) (c : Consumer) (at : IsAt v c) → (reading_at c.place v.reading).number ≡ c.number
same_number v c at = ap (λ (r : Reading). r.number) (picked_reading v c at) ∙ at.number_is

-- what was copied, by the words behind the header
pub copied_words : (t : Site) (f : FrameWords) (start number count : ℕ) (mine : List (ℕ × Access)) (before into after : List ℕ) → CopiesPart t start number count mine into → f.start ≡ start → HasPart t f number mine → after ≡ into ++ drop count before → Copies f count before after
copied_words t f start number count mine before into after copies at part is = is ∙ ap (λ (l : List ℕ). l ++ drop count before) (copies f at part ∙ ap (take count) (behind_header f.words))

pub copied_all : (t : Site) (f : FrameWords) (start number count part : ℕ) (mine : List (ℕ × Access)) (before into after : List ℕ) → count ≡ part → part ≤ length before → CopiesPart t start number (length (take count before)) mine into → f.start ≡ start → HasPart t f number mine → after ≡ into ++ drop count before → Copies f part before after
copied_all t f start number count part mine before into after e le copies at has is =
    let long : length (take count before) ≡ part = ap (λ (n : ℕ). length (take n before)) e ∙ length-take-le part before le in
    copied_words t f start number part mine before into after (subst (λ (n : ℕ). CopiesPart t start number n mine into) long copies) at has (is ∙ ap (λ (n : ℕ). into ++ drop n before) e)

pub low_cut : (count part : ℕ) (xs : List ℕ) → count ≡ part → part ≤ length xs → length (take count xs) ≤ part
low_cut count part xs e le = let l = ap (λ (n : ℕ). length (take n xs)) e ∙ length-take-le part xs le in omega arith

-- ---- a look that found a frame

module _ (parts : PartsAreFound) (t : Site) (legal : IsGeometry t.key.identity.geometry) (c : Consumer) (m m1 : Mine) (at : IsAt m.0.view.pass c) (n : ℕ) (told : LooksHere t c.place (reading_at c.place m.0.view.pass.reading) m n m1) (same : m.0.view.pass.identity ≡ t.key.identity) (pos : 0 < n) where
  abbrev r : Reading
  r = reading_at c.place m.0.view.pass.reading

  abbrev pub found : FindsFrame m.0.view.pass c.place (reading_at c.place m.0.view.pass.reading) n m1.0.view.pass
  found = (told.1.told.3 (reading_at c.place m.0.view.pass.reading) told.0).found pos

  has : HasFound t (reading_at c.place m.0.view.pass.reading).number found.frame m1
  has = parts.look t c.place (reading_at c.place m.0.view.pass.reading) m told.0 (subst (λ (k : ℕ). k < 8) (sym (same_number m.0.view.pass c at)) at.low) n m1 told.1 pos

  pub found_start : found.frame.start ≡ c.position
  found_start = found.here.at ∙ ap (λ (x : Reading). x.position) (picked_reading m.0.view.pass c at) ∙ at.position_is

  pub found_part : HasPart t found.frame c.number m1.1
  found_part = subst (λ (k : ℕ). HasPart t found.frame k m1.1) (same_number m.0.view.pass c at) has.part

  done : IsCommittedFrame t.key.identity found.frame
  done = subst (λ (i : Identity). IsCommittedFrame i found.frame) same found.here.done

  pub found_at : (room count : ℕ) → count ≤ part_bytes (head_by c.position (to_le_bytes w64 n)) room → HasPartAt t c.position c.number count m1.1
  found_at room count le = record { frame = found.frame; here = found_start; part = found_part; inside = (let a = part_inside t.key.identity found.frame legal done n c.position room (sym found.word) (sym found_start) in up count (part_bytes (head_by c.position (to_le_bytes w64 n)) room) (length found.frame.words) le a) }
    where
      up : (c b w : ℕ) → c ≤ b → 32 + b ≤ 8 * w → 32 + c ≤ 8 * w
      up c b w p q = omega arith

  pub found_back : MayGiveBack t m1
  found_back = has.back

  module _ (m2 m3 : Mine) (still : m2 ≡ m1) (gives : Gives m2 m3) where
    pub pass_kept : m3.0.view.pass ≡ with_consumer m.0.view.pass c.place (knows_more (reading_at c.place m.0.view.pass.reading) found.frame)
    pass_kept = ap (λ (v : View). v.pass) gives.rests ∙ ap (λ (x : Mine). x.0.view.pass) still ∙ found.after

    pub found_rests : (region : regions.Identity) → IsResting region m → IsResting region m3
    found_rests region rest = rests_on region m m3 rest
        (ap (λ (x : Part). x.has) gives.part, gives.parked ∙ ap (λ (x : Mine). x.0.parked) still ∙ told.1.parked ∙ rest.idle.1)
        (gives.carried ∙ ap (λ (x : Mine). drop 1 x.1) still ∙ behind_first m1.1 (slot_of (ring t) found.frame.start (reading_at c.place m.0.view.pass.reading).number, (told.1.found pos).access) m.1 (told.1.found pos).after)
        (gives.room ∙ ap (λ (x : Mine). x.0.room) still ∙ told.1.room)
        (ap (λ (p : Pass). p.work.drafts) pass_kept) (ap (λ (p : Pass). p.identity) pass_kept)

    -- the consumer knows no other there
    pub found_one : (x : Reading) (f : FrameWords) → IsConsumer m3.0.view.pass c.place x → Among f x.known → f.start ≡ c.position → f ≡ found.frame
    found_one x f is among there =
        let k : Reading = knows_more (reading_at c.place m.0.view.pass.reading) found.frame in
        let here : get_elem? m3.0.view.pass.reading c.place ≡ some k = ap (λ (p : Pass). get_elem? p.reading c.place) pass_kept ∙ set_here m.0.view.pass.reading c.place k (there_low m.0.view.pass.reading c.place (reading_at c.place m.0.view.pass.reading) told.0) in
        let e : x ≡ k = some-injective x k (sym is ∙ here) in
        ⊎_elim
        (λ old. found.only f (inl old) (there ∙ sym (ap (λ (y : Reading). y.position) (picked_reading m.0.view.pass c at) ∙ at.position_is)))
        (λ new. ⊎_elim (λ (z : f ≡ found.frame). z) (λ z. absurd z) new)
        (among_cases f (reading_at c.place m.0.view.pass.reading).known (found.frame ∷ []) (subst (λ (y : Reading). Among f y.known) e among))

-- one that found none
pub none_rests : (t : Site) (c : Consumer) (m m1 : Mine) (n : ℕ) (told : LooksHere t c.place (reading_at c.place m.0.view.pass.reading) m n m1) (region : regions.Identity) → n ≡ 0 → IsResting region m → IsResting region m1
none_rests t c m m1 n told region e rest =
    let none = told.1.none e in let pass = ((told.1.told.3 (reading_at c.place m.0.view.pass.reading) told.0).none e).0 in
    rests_on region m m1 rest (ap (λ (x : Part). x.has) none.1 ∙ rest.idle.0, told.1.parked ∙ rest.idle.1) none.0 told.1.room (ap (λ (p : Pass). p.work.drafts) pass) (ap (λ (p : Pass). p.identity) pass)

-- ---- a frame that is read again

module _ (parts : PartsAreFound) (t : Site) (legal : IsGeometry t.key.identity.geometry) (c : Consumer) (start : ℕ) (m m1 : Mine) (may : MayRereadAt m.0.view.pass c start) (n : ℕ) (told : Rereads t (reading_at c.place m.0.view.pass.reading) (frame_from start (had_at c.place m.0.view.pass)) m n m1) (same : m.0.view.pass.identity ≡ t.key.identity) where
  again : HasFound t (reading_at c.place m.0.view.pass.reading).number (frame_from start (had_at c.place m.0.view.pass)) m1
  again = parts.reread t c.place (reading_at c.place m.0.view.pass.reading) (frame_from start (had_at c.place m.0.view.pass)) m (picked_reread m.0.view.pass c start may) n m1 told

  again_start : (frame_from start (had_at c.place m.0.view.pass)).start ≡ start
  again_start = (picked_frame m.0.view.pass c start may).1

  pub again_part : HasPart t (frame_from start (had_at c.place m.0.view.pass)) c.number m1.1
  again_part = subst (λ (k : ℕ). HasPart t (frame_from start (had_at c.place m.0.view.pass)) k m1.1) (same_number m.0.view.pass c may.at) again.part

  pub again_at : (room count : ℕ) → count ≤ part_bytes (head_by start (to_le_bytes w64 n)) room → HasPartAt t start c.number count m1.1
  again_at room count le =
      let f = frame_from start (had_at c.place m.0.view.pass) in let done : IsCommittedFrame t.key.identity f = subst (λ (i : Identity). IsCommittedFrame i f) same told.here.done in record {
        frame = f;
        here = again_start;
        part = again_part;
        inside = (let a = part_inside t.key.identity f legal done n start room told.word (sym again_start) in up count (part_bytes (head_by start (to_le_bytes w64 n)) room) (length f.words) le a);
      }
    where
      up : (c b w : ℕ) → c ≤ b → 32 + b ≤ 8 * w → 32 + c ≤ 8 * w
      up c b w p q = omega arith

  pub again_back : MayGiveBack t m1
  again_back = again.back

  -- whichever frame the consumer has there is this one
  pub again_one : (x : Reading) (f : FrameWords) → IsConsumer m.0.view.pass c.place x → Has m.0.view.pass x f → f.start ≡ start → f ≡ frame_from start (had_at c.place m.0.view.pass)
  again_one x f is had there = told.only f (subst (λ (y : Reading). Has m.0.view.pass y f) (sym (reading_is m.0.view.pass.reading c.place x is)) had) (there ∙ sym again_start)

  pub again_read : (x : Reading) (f : FrameWords) → IsConsumer m.0.view.pass c.place x → Has m.0.view.pass x f → f.start ≡ start → IsRead m.0.view.pass x f start n
  again_read x f is had there =
      let e = again_one x f is had there in record {
        word = told.word ∙ ap (λ (y : FrameWords). slice_index y.words 0) (sym e);
        here = subst (λ (y : FrameWords × ℕ). IsFrameAt m.0.view.pass.identity y.1 y.0) (λ j. (sym e j, again_start j)) told.here;
        only = λ g has at. again_one x g is has at ∙ sym e;
      }

  module _ (m2 m3 : Mine) (still : m2 ≡ m1) (gives : Gives m2 m3) where
    pub again_pass : m3.0.view.pass ≡ m.0.view.pass
    again_pass = ap (λ (v : View). v.pass) gives.rests ∙ ap (λ (x : Mine). x.0.view.pass) still ∙ told.rests.3

    pub again_rests : (region : regions.Identity) → IsResting region m → IsResting region m3
    again_rests region rest = rests_on region m m3 rest
        (ap (λ (x : Part). x.has) gives.part, gives.parked ∙ ap (λ (x : Mine). x.0.parked) still ∙ told.parked ∙ rest.idle.1)
        (gives.carried ∙ ap (λ (x : Mine). drop 1 x.1) still ∙ behind_first m1.1 (slot_of (ring t) (frame_from start (had_at c.place m.0.view.pass)).start (reading_at c.place m.0.view.pass.reading).number, told.takes.access) m.1 told.takes.after)
        (gives.room ∙ ap (λ (x : Mine). x.0.room) still ∙ told.room)
        (ap (λ (p : Pass). p.work.drafts) again_pass) (ap (λ (p : Pass). p.identity) again_pass)
