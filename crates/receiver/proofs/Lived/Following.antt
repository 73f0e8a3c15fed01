-- What is known of a receiver that is handed honest datagrams alone.
use Rattle.std.proofs.Common.{◌≡◌, ℕ, List, Option, None, Some, sym, ◌∙◌, subst}
use Rattle.theory.specs.Placed.{AllAmong}
use Rattle.theory.specs.Consumer.{Consumer}
use Rattle.theory.specs.Entry.{committed}
use Rattle.receiver.specs.Receiving.{Opened, Receiver}
use Rattle.receiver.specs.Lives.{Stream}

-- its image has frames of the stream alone, and this holds of its consumers and of where it joined
pub record IsFollowed (x : Stream) (P : List Consumer → ℕ → Type 0) (o : Opened) : Type 0 where
  pub geometry : o.geometry ≡ x.identity.geometry
  pub stored : AllAmong (committed x.entries) o.image.stored
  pub reading : P o.image.consumers o.image.join

-- and that, as long as there is none
abbrev pub FollowsImage : Option Opened → Stream → (List Consumer → ℕ → Type 0) → Type 0 → Type 0
FollowsImage None x P Q = Q
FollowsImage (Some o) x P Q = IsFollowed x P o

-- a receiver for so many consumers
pub record Follows (x : Stream) (P : List Consumer → ℕ → Type 0) (Q : Type 0) (n : ℕ) (r : Receiver) : Type 0 where
  pub session : r.session ≡ x.identity.session
  pub stream : r.stream ≡ x.identity.stream
  pub count : r.consumers ≡ n
  pub image : FollowsImage r.image x P Q

-- it has other frames of the stream, and all else as it was
pub stays_followed : (x : Stream) (P : List Consumer → ℕ → Type 0) (o q : Opened) → IsFollowed x P o → q.geometry ≡ o.geometry → AllAmong (committed x.entries) q.image.stored → q.image.consumers ≡ o.image.consumers → q.image.join ≡ o.image.join → IsFollowed x P q
stays_followed x P o q h geometry stored consumers join = record {
  geometry = geometry ∙ h.geometry;
  stored = stored;
  reading = subst (λ (c : List Consumer × ℕ). P c.0 c.1) (λ j. (sym consumers j, sym join j)) h.reading;
}

-- a receiver whose ids and number of consumers are the same, with this image
pub follows_with : (x : Stream) (P R : List Consumer → ℕ → Type 0) (Q S : Type 0) (n : ℕ) (r q : Receiver) → Follows x P Q n r → q.session ≡ r.session → q.stream ≡ r.stream → q.consumers ≡ r.consumers → FollowsImage q.image x R S → Follows x R S n q
follows_with x P R Q S n r q h session stream count image = record {
  session = session ∙ h.session;
  stream = stream ∙ h.stream;
  count = count ∙ h.count;
  image = image;
}

-- or with the same image
pub follows_as : (x : Stream) (P : List Consumer → ℕ → Type 0) (Q : Type 0) (n : ℕ) (r q : Receiver) → Follows x P Q n r → q.session ≡ r.session → q.stream ≡ r.stream → q.consumers ≡ r.consumers → q.image ≡ r.image → Follows x P Q n q
follows_as x P Q n r q h session stream count image = follows_with x P P Q Q n r q h session stream count (subst (λ o. FollowsImage o x P Q) (sym image) h.image)
