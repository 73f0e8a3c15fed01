-- A reader that found a frame, where it stands or one that it has, carries its part of it, and may give that back.
use Rattle.std.proofs.Common.{ℕ, ◌<◌, inl, inr, List, [], ◌∷◌, ◌++◌, set, sym, refl, ap, ◌∙◌, subst}
use Rattle.atomic_table.specs.Table.{rest}
use Rattle.atomic_table.proofs.Lists.{set_here}
use Rattle.theory.specs.Placed.{Among}
use Rattle.publication.specs.declared.pass.FrameWords.{FrameWords}
use Rattle.publication.specs.declared.pass.Pass.{Pass}
use Rattle.publication.specs.declared.pass.Reading.{Reading}
use Rattle.region.specs.declared.access.Access.{Access}
use Rattle.log_rule.specs.Readings.{FindsFrame, Has, IsConsumer, knows_more}
use Rattle.log_rule.proofs.Known.{among_at}
use Rattle.log_memory.specs.declared.view.Part.{Part}
use Rattle.log_memory.specs.declared.view.Site.{Site}
use Rattle.log_memory.specs.Frames.{HasPart, MayGiveBack}
use Rattle.log_memory.specs.Places.{slot_of}
use Rattle.log_memory.specs.Rule.{ring}
use Rattle.log_memory.specs.Steps.{Looks, MayReread, Mine, Rereads, TakesPart}
use Rattle.log_memory.proofs.Lifting.{there_low}

among_last : (xs : List FrameWords) (f : FrameWords) → Among f (xs ++ f ∷ [])
among_last [] f = inl refl
among_last (x ∷ xs) f = inr (among_last xs f)

-- a part that was taken is in front
pub part_here : (t : Site) (number : ℕ) (f : FrameWords) (m m' : Mine) → TakesPart t number f m m' → HasPart t f number m'.1
part_here t number f m m' p = record { access = p.access; round = m'.0.part.round; book = m'.0.part.book; is = p.is; there = p.after ∙ ap (λ (l : List (ℕ × Access)). (slot_of (ring t) f.start number, p.access) ∷ l) (sym (ap rest p.after)) }

-- by a consumer that knows the frame then
part_back : (t : Site) (r : Reading) (f : FrameWords) (m m' : Mine) → r.number < 8 → Among r m'.0.view.pass.reading → Has m'.0.view.pass r f → TakesPart t r.number f m m' → MayGiveBack t m'
part_back t r f m m' low mine knows p = record {
  reading = r;
  frame = f;
  may = record {
    has = ap (λ (x : Part). x.has) p.part;
    mine = mine;
    low = low;
    knows = knows;
    here = sym (ap (λ (x : Part). x.at) p.part);
    number = ap (λ (x : Part). x.number) p.part;
    access = p.access;
    is = p.is;
    before = m.1;
    carries = p.after;
  };
}

-- where a consumer looked and found a frame
module _ (t : Site) (place : ℕ) (r : Reading) (m : Mine) (is : IsConsumer m.0.view.pass place r) (low : r.number < 8) (n : ℕ) (m' : Mine) (told : Looks t place r m is n m') (pos : 0 < n) where
  abbrev pub found : FindsFrame m.0.view.pass place r n m'.0.view.pass
  found = (told.told.3 r is).found pos

  pub looked_part : HasPart t found.frame r.number m'.1
  looked_part = part_here t r.number found.frame m m' (told.found pos)

  pub looked_back : MayGiveBack t m'
  looked_back =
      let k : Reading = knows_more r found.frame in let here = set_here m.0.view.pass.reading place k (there_low m.0.view.pass.reading place r is) in
      part_back t k found.frame m m' low (subst (λ (p : Pass). Among k p.reading) (sym found.after) (among_at (set m.0.view.pass.reading place k) place k here)) (inl (among_last r.known found.frame)) (told.found pos)

-- where it loaded the word of one that it has
module _ (t : Site) (place : ℕ) (r : Reading) (f : FrameWords) (m : Mine) (may : MayReread place r f m.0.view.pass) (n : ℕ) (m' : Mine) (told : Rereads t r f m n m') where
  pub reread_part : HasPart t f r.number m'.1
  reread_part = part_here t r.number f m m' told.takes

  pub reread_back : MayGiveBack t m'
  reread_back =
      let same = told.rests.3 in
      part_back t r f m m' may.low (subst (λ (p : Pass). Among r p.reading) (sym same) (among_at m.0.view.pass.reading place r may.is)) (subst (λ (p : Pass). Has p r f) (sym same) may.has) told.takes
