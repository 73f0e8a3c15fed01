-- What a subscriber with an image tells of its counters.
use Rattle.std.specs.Prelude.{◌≡◌, ◌+◌, ◌-◌, ◌^◌, ℕ, ℤ, min, length, List, [], ◌∷◌, Option, None, Some, option_map}
use Rattle.std.specs.Io.KnownBytes.{Appends}
use Rattle.receiver.specs.Polling.{TellsPositions}
use Rattle.receiver.specs.Receiving.{Receiver}
use Rattle.receiver.specs.Subscribing.{RepresentsSubscriber}
use Rattle.receiver.specs.declared.positions.Positions.{Positions}
use Rattle.frames.specs.declared.fault_counts.FaultCounts.{FaultCounts}
use Rattle.peer.specs.declared.farewell.StreamEnd.{StreamEnd}
use Rattle.subscriber.specs.Cuts.{cut_of}
use Rattle.subscriber.specs.Texts.{IsClean, counters_line, not_whole_line, refused_line, unfinished_line}
use Rattle.subscriber.specs.declared.images.CutOff.{CutOff}
use Rattle.subscriber.specs.Watches.{Timing}
use Rattle.subscriber.specs.declared.images.session.Session.{Session}
use Rattle.subscriber.specs.declared.reporting.Counts.{Counts}
use Rattle.subscriber.specs.declared.reporting.Followed.{Followed}
use Rattle.subscriber.specs.declared.reporting.Totals.{Totals}
use Rattle.subscriber.specs.Offers.{peer_of}
use Rattle.subscriber.specs.Standing.{HasAll, StandsHere}
use Rattle.subscriber.specs.declared.reporting.Unfinished.{Unfinished}

-- what it has counted behind so many messages, of which so many are new; of failed calls those that read the socket, and its device's
pub record AreCounts (j : Session) (s : Timing) (written more : ℕ) (c : Counts) : Type 0 where
  pub messages : c.messages ≡ written
  pub since : c.since ≡ more
  pub naks : c.naks ≡ j.duty.device.naks
  pub lost : c.lost ≡ min (s.lost + j.duty.device.inner.inner.lost) (2 ^ 64 - 1)
  pub strangers : c.strangers ≡ s.strangers
  pub refused : (r : Receiver) → RepresentsSubscriber j.follower.subscriber r → c.refused.counts ≡ r.faults

-- without an image nothing is told
abbrev pub TellsLine : Option Positions → ℤ → Counts → Option (List ℕ) → Option (List ℕ) → Type 0
TellsLine None session c before after = after ≡ before
TellsLine (Some p) session c before after = Appends before after (counters_line session p c)

-- where its image stands, and what it has counted behind so many messages, of which so many are new
pub record TellsNow (j : Session) (s : Timing) (written more : ℕ) (tells : Option Positions → Counts → Type 0) : Type 0 where
  pub positions : Option Positions
  pub stands : (r : Receiver) → RepresentsSubscriber j.follower.subscriber r → TellsPositions r positions
  pub counts : Counts
  pub counted : AreCounts j s written more counts
  pub told : tells positions counts

-- the counters of each, one after the other
abbrev pub TellsCountersOf : List Session → Timing → ℕ → ℕ → Option (List ℕ) → Option (List ℕ) → Type 0
TellsCountersOf [] s written more before after = after ≡ before
TellsCountersOf (j ∷ others) s written more before after =
    (between : Option (List ℕ)) × TellsNow j s written more (λ p c. TellsLine p j.opening.session c before between) × TellsCountersOf others s written more between after

-- those that came since the counters were told last are new
abbrev pub TellsCounters : List Session → Timing → ℕ → Option (List ℕ) → Option (List ℕ) → Type 0
TellsCounters sessions s written before after = TellsCountersOf sessions s written (written - s.written) before after

-- how many bytes of the newest images' streams their consumers have come past
abbrev pub AreBytesOf : List Session → ℕ → Type 0
AreBytesOf [] bytes = bytes ≡ 0
AreBytesOf (j ∷ others) bytes =
    (place rest : ℕ) × StandsHere j.follower.subscriber place × AreBytesOf others rest × (bytes ≡ min (rest + (place - j.opening.position)) (2 ^ 64 - 1))

abbrev pub naks_of : List Session → ℕ
naks_of [] = 0
naks_of (j ∷ others) = min (naks_of others + j.duty.device.naks) (2 ^ 64 - 1)

-- these, the first of which is this one
abbrev pub AreFollowed : List Session → Followed → Type 0
AreFollowed [] f = ⊥
AreFollowed (j ∷ others) f = (f.session ≡ j.opening.session) × (f.sessions ≡ length others + 1)

-- what all have done, in so many messages, since a moment
pub record AreTotals (sessions : List Session) (s : Timing) (messages opened : ℕ) (t : Totals) : Type 0 where
  pub count : t.pace.count ≡ messages
  pub time : t.pace.nanoseconds ≡ s.moment - opened
  pub of : AreFollowed sessions t.of
  pub bytes : AreBytesOf sessions t.bytes
  pub naks : t.naks ≡ naks_of sessions

-- what each has refused, with the first so many datagrams of strangers, each where there was any
abbrev pub TellsRefused : Session → ℕ → Option (List ℕ) → Option (List ℕ) → Type 0
TellsRefused j strangers before after =
    (refused : FaultCounts) × ((r : Receiver) → RepresentsSubscriber j.follower.subscriber r → refused.counts ≡ r.faults)
    × (¬ IsClean refused strangers → Appends before after (refused_line refused strangers)) × (IsClean refused strangers → after ≡ before)

abbrev pub TellsRefusedOf : ℕ → List Session → Option (List ℕ) → Option (List ℕ) → Type 0
TellsRefusedOf strangers [] before after = after ≡ before
TellsRefusedOf strangers (j ∷ others) before after = (between : Option (List ℕ)) × TellsRefused j strangers before between × TellsRefusedOf 0 others between after

-- the session that its image is of, by its peer, where it stands, and the greatest end that was told
pub record IsUnfinished (j : Session) (left : Unfinished) : Type 0 where
  pub from : left.from ≡ peer_of j.duty.device
  pub session : left.session ≡ j.opening.session
  pub position : StandsHere j.follower.subscriber left.position
  pub end : left.end ≡ option_map (λ (end : StreamEnd). end.position) j.follower.end

-- that is told of each that lacks something of its stream
abbrev pub TellsUnfinished : ℕ → Session → Option (List ℕ) → Option (List ℕ) → Type 0
TellsUnfinished seconds j before after =
    (¬ HasAll j.stood → (left : Unfinished) × IsUnfinished j left × Appends before after (unfinished_line seconds left)) × (HasAll j.stood → after ≡ before)

abbrev pub TellsUnfinishedOf : ℕ → List Session → Option (List ℕ) → Option (List ℕ) → Type 0
TellsUnfinishedOf seconds [] before after = after ≡ before
TellsUnfinishedOf seconds (j ∷ others) before after = (between : Option (List ℕ)) × TellsUnfinished seconds j before between × TellsUnfinishedOf seconds others between after

-- the stream that is cut off at a place is told, with the bytes that are missing between the images there
abbrev pub TellsCut : Option CutOff → ℕ → Option (List ℕ) → Option (List ℕ) → Type 0
TellsCut None missing before after = after ≡ before
TellsCut (Some cut) missing before after = Appends before after (not_whole_line cut missing)

abbrev pub TellsCutOf : List Session → Option (List ℕ) → Option (List ℕ) → Type 0
TellsCutOf [] before after = after ≡ before
TellsCutOf (j ∷ others) before after = (between : Option (List ℕ)) × TellsCut (cut_of j) j.images.missing before between × TellsCutOf others between after

-- and before that where each stands that lacks something
abbrev pub TellsShortOf : ℕ → List Session → Option (List ℕ) → Option (List ℕ) → Type 0
TellsShortOf seconds sessions before after =
    (between : Option (List ℕ)) × TellsUnfinishedOf seconds sessions before between × TellsCutOf sessions between after
