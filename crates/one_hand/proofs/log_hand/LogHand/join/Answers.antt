use Rattle.std.proofs.Common.{◌∙◌, ap, arith, sym}
use Rattle.one_hand.specs.Stream.{Stream, lowest, with_consumer}
use Rattle.one_hand.proofs.Flags.{may_keep}
use Rattle.one_hand.proofs.Handing.{numbers, shown, there}
use Rattle.one_hand.proofs.Joined.{free_flag, joined, stands_joined, stands_least, vacant_in}
use Rattle.one_hand.proofs.log_hand.LogHand.join.Goals as goal

pub place_of-requires : goal.place_of-requires
place_of-requires c = (vacant_in c.self.inside.log c.in-Some.all c.self.inside.held (numbers c.self.inside) (there c.self.inside c.in-Some.all c.self.invariant (sym c.take.ensures.value ∙ c.in-Some.is)) c.args.self.now (shown c.self.inside c.in-Some.all c.args.self.now c.self.view_is (sym c.take.ensures.value ∙ c.in-Some.is)) c.args.reader c.requires).1

pub begin_as-all-requires-clause-may : goal.begin_as-all-requires-clause-may
begin_as-all-requires-clause-may c = may_keep c.self.inside.log c.in-Some.all c.self.inside.held (numbers c.self.inside) (there c.self.inside c.in-Some.all c.self.invariant (sym c.take.ensures.value ∙ c.in-Some.is))

pub begin_as-all-requires-clause-low : goal.begin_as-all-requires-clause-low
begin_as-all-requires-clause-low c = (vacant_in c.self.inside.log c.in-Some.all c.self.inside.held (numbers c.self.inside) (there c.self.inside c.in-Some.all c.self.invariant (sym c.take.ensures.value ∙ c.in-Some.is)) c.args.self.now (shown c.self.inside c.in-Some.all c.args.self.now c.self.view_is (sym c.take.ensures.value ∙ c.in-Some.is)) c.args.reader c.requires).1

pub begin_as-all-requires-clause-free : goal.begin_as-all-requires-clause-free
begin_as-all-requires-clause-free c = free_flag c.self.inside.log c.in-Some.all c.self.inside.held (numbers c.self.inside) (there c.self.inside c.in-Some.all c.self.invariant (sym c.take.ensures.value ∙ c.in-Some.is)) c.args.reader c.place_of.result c.place_of.ensures c.in-Some.all (vacant_in c.self.inside.log c.in-Some.all c.self.inside.held (numbers c.self.inside) (there c.self.inside c.in-Some.all c.self.invariant (sym c.take.ensures.value ∙ c.in-Some.is)) c.args.self.now (shown c.self.inside c.in-Some.all c.args.self.now c.self.view_is (sym c.take.ensures.value ∙ c.in-Some.is)) c.args.reader c.requires).0 (vacant_in c.self.inside.log c.in-Some.all c.self.inside.held (numbers c.self.inside) (there c.self.inside c.in-Some.all c.self.invariant (sym c.take.ensures.value ∙ c.in-Some.is)) c.args.self.now (shown c.self.inside c.in-Some.all c.args.self.now c.self.view_is (sym c.take.ensures.value ∙ c.in-Some.is)) c.args.reader c.requires).1

pub bounds-self-inside-reader : goal.bounds-self-inside-reader
bounds-self-inside-reader c = (vacant_in c.self.inside.log c.in-Some.all c.self.inside.held (numbers c.self.inside) (there c.self.inside c.in-Some.all c.self.invariant (sym c.take.ensures.value ∙ c.in-Some.is)) c.args.self.now (shown c.self.inside c.in-Some.all c.args.self.now c.self.view_is (sym c.take.ensures.value ∙ c.in-Some.is)) c.args.reader c.requires).1

pub offset_bounds-self-inside-reader : goal.offset_bounds-self-inside-reader
offset_bounds-self-inside-reader c = let low = (vacant_in c.self.inside.log c.in-Some.all c.self.inside.held (numbers c.self.inside) (there c.self.inside c.in-Some.all c.self.invariant (sym c.take.ensures.value ∙ c.in-Some.is)) c.args.self.now (shown c.self.inside c.in-Some.all c.args.self.now c.self.view_is (sym c.take.ensures.value ∙ c.in-Some.is)) c.args.reader c.requires).1 in record { fits = omega (arith, low) }

pub bounds-self-inside-reader-2 : goal.bounds-self-inside-reader-2
bounds-self-inside-reader-2 c = (vacant_in c.self.inside.log c.in-Some.all c.self.inside.held (numbers c.self.inside) (there c.self.inside c.in-Some.all c.self.invariant (sym c.take.ensures.value ∙ c.in-Some.is)) c.args.self.now (shown c.self.inside c.in-Some.all c.args.self.now c.self.view_is (sym c.take.ensures.value ∙ c.in-Some.is)) c.args.reader c.requires).1

pub invariant_of-self : goal.invariant_of-self
invariant_of-self c = stands_joined c.self.inside.log c.in-Some.all c.self.inside.held (numbers c.self.inside) (there c.self.inside c.in-Some.all c.self.invariant (sym c.take.ensures.value ∙ c.in-Some.is)) c.args.reader c.place_of.result c.place_of.ensures c.begin_as-all.result.0 (vacant_in c.self.inside.log c.in-Some.all c.self.inside.held (numbers c.self.inside) (there c.self.inside c.in-Some.all c.self.invariant (sym c.take.ensures.value ∙ c.in-Some.is)) c.args.self.now (shown c.self.inside c.in-Some.all c.args.self.now c.self.view_is (sym c.take.ensures.value ∙ c.in-Some.is)) c.args.reader c.requires).1 (vacant_in c.self.inside.log c.in-Some.all c.self.inside.held (numbers c.self.inside) (there c.self.inside c.in-Some.all c.self.invariant (sym c.take.ensures.value ∙ c.in-Some.is)) c.args.self.now (shown c.self.inside c.in-Some.all c.args.self.now c.self.view_is (sym c.take.ensures.value ∙ c.in-Some.is)) c.args.reader c.requires).0 c.begin_as-all.result.1 c.begin_as-all.ensures

pub returns-clause-least : goal.returns-clause-least
returns-clause-least c = stands_least c.self.inside.log c.in-Some.all c.self.inside.held (numbers c.self.inside) (there c.self.inside c.in-Some.all c.self.invariant (sym c.take.ensures.value ∙ c.in-Some.is)) c.args.reader c.place_of.result c.place_of.ensures c.begin_as-all.result.0 (vacant_in c.self.inside.log c.in-Some.all c.self.inside.held (numbers c.self.inside) (there c.self.inside c.in-Some.all c.self.invariant (sym c.take.ensures.value ∙ c.in-Some.is)) c.args.self.now (shown c.self.inside c.in-Some.all c.args.self.now c.self.view_is (sym c.take.ensures.value ∙ c.in-Some.is)) c.args.reader c.requires).1 (vacant_in c.self.inside.log c.in-Some.all c.self.inside.held (numbers c.self.inside) (there c.self.inside c.in-Some.all c.self.invariant (sym c.take.ensures.value ∙ c.in-Some.is)) c.args.self.now (shown c.self.inside c.in-Some.all c.args.self.now c.self.view_is (sym c.take.ensures.value ∙ c.in-Some.is)) c.args.reader c.requires).0 c.begin_as-all.result.1 c.begin_as-all.ensures ∙ ap lowest (shown c.self.inside c.in-Some.all c.args.self.now c.self.view_is (sym c.take.ensures.value ∙ c.in-Some.is))

pub returns-clause-after : goal.returns-clause-after
returns-clause-after c = joined c.self.inside.log c.in-Some.all c.self.inside.held (numbers c.self.inside) (there c.self.inside c.in-Some.all c.self.invariant (sym c.take.ensures.value ∙ c.in-Some.is)) c.args.reader c.place_of.result c.place_of.ensures c.begin_as-all.result.0 (vacant_in c.self.inside.log c.in-Some.all c.self.inside.held (numbers c.self.inside) (there c.self.inside c.in-Some.all c.self.invariant (sym c.take.ensures.value ∙ c.in-Some.is)) c.args.self.now (shown c.self.inside c.in-Some.all c.args.self.now c.self.view_is (sym c.take.ensures.value ∙ c.in-Some.is)) c.args.reader c.requires).1 (vacant_in c.self.inside.log c.in-Some.all c.self.inside.held (numbers c.self.inside) (there c.self.inside c.in-Some.all c.self.invariant (sym c.take.ensures.value ∙ c.in-Some.is)) c.args.self.now (shown c.self.inside c.in-Some.all c.args.self.now c.self.view_is (sym c.take.ensures.value ∙ c.in-Some.is)) c.args.reader c.requires).0 c.begin_as-all.result.1 c.begin_as-all.ensures ∙ ap (λ (s : Stream). with_consumer s c.args.reader (lowest s)) (shown c.self.inside c.in-Some.all c.args.self.now c.self.view_is (sym c.take.ensures.value ∙ c.in-Some.is))
