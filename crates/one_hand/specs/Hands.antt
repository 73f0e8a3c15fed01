-- A log in one hand: what holds between two calls, and what its calls come to.
use Rattle.std.specs.Prelude.{◌≡◌, ℕ, ◌+◌, ◌-◌, ◌<◌, ◌≤◌, List, Option, None, Some, Result, Ok, Err, length, slice_get, slice_set}
use Rattle.theory.specs.Position.{aligned, framed_length, max_payload, max_position}
use Rattle.publication.specs.declared.refusal.Refusal.{Refusal}
use Rattle.publication.specs.declared.pass.Controls.{Controls}
use Rattle.publication.specs.declared.pass.Pass.{Pass}
use Rattle.publication.specs.Claims.{HasBlank}
use Rattle.shared_log.specs.Steps.Handles.{IsOf, LogValue, PublisherValue}
use Rattle.log_rule.specs.Keepings.{numbered}
use Rattle.shared_log.specs.Readers.{numbers_of}
use Rattle.log_rule.specs.Shares.{claimed_bytes}
use Rattle.one_hand.specs.Entries.{with_share}
use Rattle.one_hand.specs.Stream.{Aborts, Commits, Stream, after_claim, after_offer, answer_of}
use Rattle.one_hand.specs.declared.log_hand.held.Held.{Held}
use Rattle.one_hand.specs.Shown.{IsWhole, kept, shares_of, stream_of}

abbrev pub stream_in : PublisherValue → List (Option Held) → Stream
stream_in p held = kept (stream_of p.pass p.controls held)

-- the publisher is one of this log, has all parts and nothing armed, and is sure of the words
pub record IsFree (l : LogValue) (p : PublisherValue) : Type 0 where
  pub of : IsOf l p
  pub sure : p.sure ≡ 1
  pub parts : p.pass.right.parts ≡ 1024
  pub idle : p.pass.right.armed ≡ 0

-- the pass has all parts, each consumer that is there, in the order of their numbers, and the keeper, which knows the limit word
pub record HasAll (v : Pass) (c : Controls) : Type 0 where
  pub parts : v.right.parts ≡ 1024
  pub numbers : numbers_of v ≡ numbered 0 v.keeping.there
  pub eight : length v.keeping.there ≡ 8
  pub some : 0 < length v.reading
  pub keeper : v.keeping.right ≡ 1
  pub limit : v.keeping.limit ≡ c.limit

pub record IsInHand (l : LogValue) (p : PublisherValue) (held : List (Option Held)) : Type 0 where
  pub free : IsFree l p
  pub whole : IsWhole p.pass p.controls held
  pub all : HasAll p.pass p.controls

-- its consumers and its keeper are as they were
pub record SameRest (p q : PublisherValue) : Type 0 where
  pub reading : q.pass.reading ≡ p.pass.reading
  pub keeping : q.pass.keeping ≡ p.pass.keeping

-- the publisher's share grew by what the pass claimed
pub record Shares (p : PublisherValue) (number : ℕ) (q : PublisherValue) : Type 0 where
  pub rest : SameRest p q
  pub more : claimed_bytes p.pass ≤ claimed_bytes q.pass
  pub shares : shares_of q.pass.right.claims ≡ with_share (shares_of p.pass.right.claims) number (claimed_bytes q.pass - claimed_bytes p.pass)

-- an offer by the publisher of a number
pub record IsOffer (l : LogValue) (p : PublisherValue) (held : List (Option Held)) (number : ℕ) (message : List ℕ) (answer : Result ℕ Refusal) (q : PublisherValue) : Type 0 where
  pub answered : answer ≡ answer_of (stream_in p held) (length message)
  pub after : stream_in q held ≡ after_offer (stream_in p held) number message
  pub shares : Shares p number q
  pub hand : IsInHand l q held

abbrev pub Offers : LogValue → PublisherValue → ℕ → List ℕ → Result ℕ Refusal → PublisherValue → Type 0
Offers l p number message answer q = (held : List (Option Held)) → IsInHand l p held → IsOffer l p held number message answer q

abbrev pub range : ℕ → ℕ → Held
range start size = record { start = start; size = size }

-- a claim that was accepted
pub record IsClaim (l : LogValue) (p : PublisherValue) (held : List (Option Held)) (number size start : ℕ) (q : PublisherValue) : Type 0 where
  pub begins : start ≡ (stream_in p held).tail
  pub answered : answer_of (stream_in p held) size ≡ Ok (start + framed_length p.pass.identity.geometry size)
  pub after : stream_in q (slice_set held number (Some (range start size))) ≡ after_claim (stream_in p held) number size
  pub shares : Shares p number q
  pub hand : IsInHand l q (slice_set held number (Some (range start size)))

-- one that was refused
pub record IsNoClaim (l : LogValue) (p : PublisherValue) (held : List (Option Held)) (number size : ℕ) (why : Refusal) (q : PublisherValue) : Type 0 where
  pub answered : answer_of (stream_in p held) size ≡ Err why
  pub after : stream_in q held ≡ after_claim (stream_in p held) number size
  pub shares : Shares p number q
  pub hand : IsInHand l q held

abbrev pub Claims : LogValue → PublisherValue → ℕ → ℕ → ℕ → PublisherValue → Type 0
Claims l p number size start q = (held : List (Option Held)) → IsInHand l p held → IsClaim l p held number size start q

abbrev pub ClaimsNone : LogValue → PublisherValue → ℕ → ℕ → Refusal → PublisherValue → Type 0
ClaimsNone l p number size why q = (held : List (Option Held)) → IsInHand l p held → IsNoClaim l p held number size why q

-- the end of an open claim
pub record IsEnd (l : LogValue) (p : PublisherValue) (held : List (Option Held)) (q : PublisherValue) (Ends : Stream → Type 0) : Type 0 where
  pub same : q.pass.right.claims ≡ p.pass.right.claims
  pub rest : SameRest p q
  pub ends : Ends (stream_in q held)
  pub hand : IsInHand l q held

abbrev pub CommitsClaim : LogValue → PublisherValue → ℕ → Held → List ℕ → ℕ → PublisherValue → Type 0
CommitsClaim l p number h payload end q = (held : List (Option Held)) → IsInHand l p held → slice_get held number ≡ Some (Some h) → IsEnd l p (slice_set held number None) q (Commits (stream_in p held) number payload end)

abbrev pub AbortsClaim : LogValue → PublisherValue → ℕ → Held → ℕ → PublisherValue → Type 0
AbortsClaim l p number h end q = (held : List (Option Held)) → IsInHand l p held → slice_get held number ≡ Some (Some h) → IsEnd l p (slice_set held number None) q (Aborts (stream_in p held) number end)

-- what an open claim asks of the pass, for its end
pub record MayEnd (v : Pass) (h : Held) (n : ℕ) : Type 0 where
  pub blank : HasBlank v h.start n
  pub in_stream : h.start + aligned n ≤ max_position v.identity.geometry
  pub short : h.size ≤ max_payload v.identity.geometry
