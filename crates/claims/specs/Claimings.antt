-- What the calls of a publisher that claims make of it.
use Rattle.std.specs.Prelude.{◌≡◌, ℕ, ◌≤◌, List, [], ◌∷◌, ◌++◌, length, replicate}
use Rattle.theory.specs.Placed.{Frame}
use Rattle.publication.specs.declared.looking.Look.TheVariants as looks
use Rattle.publication.specs.declared.refusal.Refusal.{Refusal}
use Rattle.publication.specs.declared.step.WordStep.{WordStep}
use Rattle.publication.specs.Steps.{with_work}
use Rattle.publication.specs.Frames.{frame_at}
use Rattle.publication.specs.Refusals.{SightsJustify}
use Rattle.publication.specs.Claims.{Justified, message_stores, padding_stores}
use Rattle.publication.specs.Looks.{Granted, LookedAt, Tripping}
use Rattle.publication.specs.Offers.{Offered, Opened}
use Rattle.log_rule.specs.Claims.Admits.{Same}
use Rattle.shared_log.specs.Steps.Handles.{IsOf, LogValue, PublisherValue, Took}
use Rattle.claims.specs.Holdings.{ArmedValue, ClaimValue}

-- a call that is whole: all its word steps, seven at the most, and so many frames stored; its number and its parts stay
pub record IsCall (l : LogValue) (p : PublisherValue) (stored : ℕ) (q : PublisherValue) : Type 0 where
  pub of : IsOf l q
  pub same : Same p.pass q.pass
  pub few : length q.pass.call ≤ 7
  pub took : Took p q.pass.call stored q

-- more of a call
pub record GoesOn (l : LogValue) (p : PublisherValue) (stored : ℕ) (q : PublisherValue) : Type 0 where
  pub of : IsOf l q
  pub same : Same p.pass q.pass
  pub noted : List WordStep
  pub took : Took p noted stored q
  pub call : q.pass.call ≡ p.pass.call ++ noted

-- a message was accepted
pub record AcceptsMessage (l : LogValue) (p : PublisherValue) (message : List ℕ) (end : ℕ) (q : PublisherValue) : Type 0 where
  pub call : IsCall l p (message_stores (length message) p.pass q.pass) q
  pub offered : Offered p.pass message end q.pass

-- a message of this many bytes was refused, by what the call loaded or added to
pub record DeniesMessage (l : LogValue) (p : PublisherValue) (size : ℕ) (why : Refusal) (q : PublisherValue) : Type 0 where
  pub call : IsCall l p (padding_stores p.pass q.pass) q
  pub refused : Justified p.pass size why q.pass
  pub justified : SightsJustify p.pass size why q.pass

-- ---- a claim

-- it looked for a message of this many bytes, and found room: the limit, the active count and its raw tail were loaded
pub record ArmsFor (l : LogValue) (p : PublisherValue) (size : ℕ) (a : ArmedValue) : Type 0 where
  pub call : IsCall l p 0 a.publisher
  pub looked : LookedAt p.pass (looks.Open a.count) a.publisher.pass
  pub size_is : a.size ≡ size

-- the addition fitted its term; the bytes are zeros
pub record AddsRange (l : LogValue) (a : ArmedValue) (c : ClaimValue) : Type 0 where
  pub more : GoesOn l a.publisher 0 c.publisher
  pub granted : Granted a.publisher.pass a.count a.size c.start c.publisher.pass
  pub zeros : c.bytes ≡ replicate a.size 0

-- it passed the end of its term
pub record TripsTerm (l : LogValue) (a : ArmedValue) (why : Refusal) (q : PublisherValue) : Type 0 where
  pub more : GoesOn l a.publisher (padding_stores a.publisher.pass q.pass) q
  pub tripped : Tripping a.publisher.pass a.count a.size why q.pass

-- one claim more, for a message of this many bytes, which is open; they are zeros
pub record OpensClaim (l : LogValue) (p : PublisherValue) (size : ℕ) (c : ClaimValue) : Type 0 where
  pub call : IsCall l p 0 c.publisher
  pub opened : Opened p.pass size c.start c.publisher.pass
  pub zeros : c.bytes ≡ replicate size 0

-- the open claim is committed as this frame, by one store and no other step
pub record EndsClaim (l : LogValue) (c : ClaimValue) (f : Frame) (q : PublisherValue) : Type 0 where
  pub of : IsOf l q
  pub took : Took c.publisher [] 1 q
  pub pass : q.pass ≡ with_work (c.publisher.pass.work.frames ++ frame_at c.publisher.pass.identity c.start f ∷ []) [] c.publisher.pass
