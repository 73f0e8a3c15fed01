use Rattle.threads_meaning.proofs.Order.{offers_in_order, passes_are_sound, singles_are_next, words_commit}
use Rattle.threads_meaning.proofs.law.commits_are_in_order.Goals as goal

pub returns-clause-offers : goal.returns-clause-offers
returns-clause-offers c = offers_in_order

pub returns-clause-singles : goal.returns-clause-singles
returns-clause-singles c = singles_are_next

pub returns-clause-words : goal.returns-clause-words
returns-clause-words c = words_commit

pub returns-clause-sound : goal.returns-clause-sound
returns-clause-sound c = passes_are_sound
