-- A sender's reader at the end.
use Rattle.std.proofs.Common.{◌∙◌, ℕ, List, [], ap, subst, refl, sym}
use Rattle.std.specs.List.{AllByRecursion}
use Rattle.flow_control.specs.Stream.{flow_after, group_of}
use Rattle.flow_control.specs.declared.stream.StreamFlow.{StreamFlow}
use Rattle.position.specs.Openings.{IsStart}
use Rattle.shared_log.specs.Steps.Handles.{LogValue, PublisherValue}
use Rattle.shared_log.specs.Books.{IsCommittedBy}
use Rattle.shared_log.specs.Readers.{IsReaderOf, ReaderValue, known_of}
use Rattle.shared_log.specs.declared.reader.source.LogFrames.{LogFrames}
use Rattle.agents.specs.Duties.{Agent}
use Rattle.agents.specs.LogSenders.{IsNewSenderBy, SendsLog}
use Rattle.sender_meaning.specs.StreamLives.{StreamKeepsItsReader, StreamLived}
use Rattle.publisher.specs.Ended.{HasSent, SendsCommitted}

-- it is still a reader of the log
pub still_reads : StreamKeepsItsReader → (n : ℕ) (flow : StreamFlow) (l : LogValue) (r : ReaderValue) (a b : Agent LogFrames StreamFlow) → IsNewSenderBy flow l r a → StreamLived n a.core b.core → SendsLog l b → IsReaderOf l b.core.reads.reader
still_reads law n flow l r a b sender lived sends =
    subst (λ (x : LogValue). IsReaderOf x b.core.reads.reader) ((law n a.core b.core lived).log ∙ sender.log_is) sends.stands

pub has_sent : (n : ℕ) (l : LogValue) (r : ReaderValue) (a b : Agent LogFrames StreamFlow) → IsStart l.identity.geometry l.start → IsNewSenderBy (flow_after (group_of n) l.start []) l r a → StreamLived n a.core b.core → HasSent l n b.core.reads.reader
has_sent n l r a b start sender lived = record {
  first = a.core;
  last = b.core;
  begun = record { made = ap (λ (x : Agent LogFrames StreamFlow). x.core) sender.made; log_is = sender.log_is };
  start = start;
  lived = lived;
  reader = refl;
}

pub sends_committed : (l : LogValue) (n : ℕ) (r : ReaderValue) (publishers : List PublisherValue) → HasSent l n r → AllByRecursion (IsCommittedBy publishers) (known_of r) → SendsCommitted l n publishers
sends_committed l n r publishers sent known = record {
  first = sent.first;
  last = sent.last;
  begun = sent.begun;
  start = sent.start;
  lived = sent.lived;
  known = subst (λ (x : ReaderValue). AllByRecursion (IsCommittedBy publishers) (known_of x)) (sym sent.reader) known;
}
