-- What is left where the thread that reads has ended.
use Rattle.std.specs.Prelude.{◌≡◌, ℕ, List, Option}
use Rattle.theory.specs.Position.{max_message}
use Rattle.shared_log.specs.Steps.Handles.{LogValue, PublisherValue}
use Rattle.publication.specs.declared.pass.Pass.{Pass}
use Rattle.shared_log.specs.Books.{IsDone}
use Rattle.messages.specs.declared.form.Form.{Form}
use Rattle.publisher.specs.declared.offering.reading.Reading.{Reading}
use Rattle.publisher.specs.Offers.{PublishesInput}

-- the log's publisher has nothing open, and has published what was read from what the input had, for the log's shape
pub record EndsInput (form : Form) (l : LogValue) (old new : Option (List ℕ)) (p : Pass) (q : PublisherValue) (r : Reading) : Type 0 where
  pub done : IsDone l q
  pub geometry : r.geometry ≡ l.identity.geometry
  pub publishes : PublishesInput form (max_message l.identity.geometry) l.start old new p q.pass r.offered r.ended
