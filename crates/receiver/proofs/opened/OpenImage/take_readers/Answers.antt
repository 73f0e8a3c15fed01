use Rattle.std.proofs.Common.{Some, ap, refl, sym, ◌∙◌, subst}
use Rattle.std.specs.List.{All}
use Rattle.std.specs.Arc.{arc_value}
use Rattle.image.specs.Handles.{ImageWords, IsReaderOf}
use Rattle.image.specs.Rebuilding.{join_of}
use Rattle.receiver.specs.Dealt.{AreDealt, IsOpenImage}
use Rattle.receiver.proofs.ReadOn.{same_words}
use Rattle.receiver.proofs.Rooms.{all_of, taken_is}
use Rattle.receiver.proofs.opened.OpenImage.take_readers.Goals as goal

is_open : (c : goal.After-deal_all) → IsOpenImage (arc_value c.self.inside.image) c.self.inside.inserter (Some c.in-Some.taken)
is_open c = subst (IsOpenImage (arc_value c.self.inside.image) c.self.inside.inserter) (sym c.take.ensures.value ∙ c.in-Some.is) c.self.invariant

dealt : (c : goal.After-deal_all) → AreDealt (arc_value c.self.inside.image) (join_of c.self.inside.inserter) 0 c.deal_all.new.readers.items
dealt c = subst (λ (x : ImageWords). AreDealt x (join_of c.self.inside.inserter) 0 c.deal_all.new.readers.items) c.deref-image.ensures c.deal_all.ensures.readers

pub invariant_of-taken : goal.invariant_of-taken
invariant_of-taken c = record {
  fits =
      subst (λ (x : ImageWords). All (IsReaderOf x) c.deal_all.new.readers.items)
      (sym (same_words (arc_value c.self.inside.image) c.self.inside.inserter c.self.invariant.fits) ∙ sym (is_open c).kept.3)
      (all_of (arc_value c.self.inside.image) (join_of c.self.inside.inserter) 0 c.deal_all.new.readers.items (dealt c));
}

pub returns-clause-taken : goal.returns-clause-taken
returns-clause-taken c =
    let count = c.consumers-count.ensures ∙ ap (λ (x : ImageWords). x.key.consumers) c.deref-image.ensures ∙ (λ n. (sym c.self.invariant.fits.key n).consumers) in
    taken_is (arc_value c.self.inside.image) c.self.inside.inserter c.args.self.now c.deal_all.new.inserter c.in-Some.taken _ c.consumers-count.result c.self.view_is
    (subst (IsOpenImage (arc_value c.self.inside.image) c.self.inside.inserter) (sym c.take.ensures.value ∙ c.in-Some.is) c.self.invariant)
    refl count c.deal_all.ensures.left
    (subst (λ (x : ImageWords). AreDealt x (join_of c.self.inside.inserter) 0 c.deal_all.new.readers.items) c.deref-image.ensures c.deal_all.ensures.readers) c.deal_all.ensures.count
