use Rattle.std.proofs.Common.{ℕ, ◌+◌, List, [], ◌∷◌, zero, suc, ap, ◌∙◌, subst}
use Rattle.std.specs.List.{AllByRecursion}
use Rattle.theory.proofs.Lists.{all_behind, all_front}
use Rattle.publication.specs.declared.pass.FrameWords.{FrameWords}
use Rattle.publication.specs.declared.pass.Pass.{Pass}
use Rattle.publication.specs.declared.pass.Reading.{Reading}
use Rattle.shared_log.specs.Steps.Handles.{parts_in}
use Rattle.log_rule.specs.Claims.Sums.{total}
use Rattle.log_rule.specs.Table.{all_known}
use Rattle.shared_log.specs.Books.{IsCommittedBy}
use Rattle.shared_log.specs.Readers.{known_at}
use Rattle.shared_log.proofs.closing.close_read.Goals as goal

-- what one of its consumers knows is some of what all know
known_there : (P : FrameWords → Type 0) (rs : List Reading) (place : ℕ) → AllByRecursion P (all_known rs) → AllByRecursion P (known_at rs place)
known_there P [] place all = tt
known_there P (r ∷ rs) zero all = all_front P r.known (all_known rs) all
known_there P (r ∷ rs) (suc place) all = known_there P rs place (all_behind P r.known (all_known rs) all)

pub gathered-requires : goal.gathered-requires
gathered-requires c = let same = c.remember.ensures.remembers in record {
  publishers_are = c.requires.all.publishers_are;
  keeper_is = record { idle = c.remember.ensures.idle; ended = ap (λ (v : Pass). v.work.drafts) same ∙ c.requires.all.keeper_is.ended };
  unclaimed = ap (λ (v : Pass). v.right.claims) same ∙ c.requires.all.unclaimed;
  whole = ap (λ (v : Pass). total parts_in c.args.publishers.items + v.right.parts) same ∙ c.requires.all.whole;
}

pub returns-clause-known : goal.returns-clause-known
returns-clause-known c =
    known_there (IsCommittedBy c.args.publishers.items) c.args.reader.held.pass.reading c.args.reader.place
    (all_front (IsCommittedBy c.args.publishers.items) (all_known c.args.reader.held.pass.reading) (all_known c.args.keeper.held.pass.reading)
    (subst (λ (v : Pass). AllByRecursion (IsCommittedBy c.args.publishers.items) (all_known v.reading)) c.remember.ensures.remembers c.gathered.ensures.known))
