use Rattle.std.proofs.Common.{List, sym, ◌∙◌, subst}
use Rattle.shared_log.specs.Steps.Handles.{PublisherValue}
use Rattle.shared_log.specs.Books.{AreAll, ShowsBook}
use Rattle.speed.proofs.Books.{filled}
use Rattle.speed.proofs.Lanes.{all_there}
use Rattle.speed.proofs.rounds.closing.close_all.Goals as goal

pub close-requires : goal.close-requires
close-requires c = subst (λ (ps : List PublisherValue). AreAll c.args.log ps c.args.keeper) (sym (c.in_ok-publishers.ensures.items ∙ c.taken_apart-publishers.ensures.publishers)) (all_there c.args.log c.args.lanes c.args.keeper c.requires.lanes c.requires.whole c.requires.keeper)

pub returns : goal.returns
returns c = filled c.args.log c.args.lanes c.close.result c.taken_apart-publishers.result.1 c.requires.start c.requires.lanes (subst (λ (ps : List PublisherValue). ShowsBook c.args.log ps c.close.result) (c.in_ok-publishers.ensures.items ∙ c.taken_apart-publishers.ensures.publishers) c.close.ensures) c.taken_apart-publishers.ensures.accepted
