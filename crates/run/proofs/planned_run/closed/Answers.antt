use Rattle.std.proofs.Common.{List, subst}
use Rattle.shared_log.specs.Steps.Handles.{PublisherValue}
use Rattle.shared_log.specs.Books.{ShowsBook}
use Rattle.run.proofs.Closing.{all_there, shown}
use Rattle.run.proofs.planned_run.closed.Goals as goal

pub close-requires : goal.close-requires
close-requires c = all_there c.args.log c.args.size.now c.args.published c.args.keeper c.args.others.items c.append.new.self.items c.requires c.in_ok-append.ensures.items

pub returns-clause-is : goal.returns-clause-is
returns-clause-is c = shown c.args.log c.args.size.now c.args.published c.args.keeper c.args.others.items c.append.new.self.items c.close.result c.requires c.in_ok-append.ensures.items c.close.ensures

pub returns-clause-shows : goal.returns-clause-shows
returns-clause-shows c = subst (λ (xs : List PublisherValue). ShowsBook c.args.log xs c.close.result) c.in_ok-append.ensures.items c.close.ensures
