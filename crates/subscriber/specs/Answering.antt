-- How a subscriber answers the end of its stream: it tells at once where it stands.
use Rattle.std.specs.Prelude.{◌≡◌, ◌⊎◌, ◌≤◌, ◌+◌, ◌-◌, ◌^◌, ◌↔◌, ℕ, min, List, IsTrue}
use Rattle.receiver.specs.Lives.{Act, ActsSo, Lives, Ticks}
use Rattle.receiver.specs.Subscribing.{Subscribing}
use Rattle.subscriber.specs.Watches.{IsSilent}
use Rattle.subscriber.specs.declared.images.session.Session.{Session}
use Rattle.subscriber.specs.Leavings.{AreUnpolled, LivesUnpolled}
use Rattle.subscriber.specs.Standing.{HasAll, Stands}
use Rattle.subscriber.specs.declared.images.session.Stand.{Stand}

-- a moment that is ahead by what passes at the most from one status message to the next, so that one is due at it
abbrev pub ahead_of : ℕ → ℕ
ahead_of moment = min (moment + 200000000) (2 ^ 64 - 1)

-- it heard what had come, polled nothing, and was told a moment that is ahead of this one
pub record TellsPlace (moment : ℕ) (s t : Subscribing) : Type 0 where
  pub acts : List Act
  pub unpolled : AreUnpolled acts
  pub middle : Subscribing
  pub lived : Lives s acts middle
  pub told : ActsSo middle (Ticks (ahead_of moment)) t

-- for a second and more it lived on without a poll, and told where it stands, last at a moment since
pub record BidsFarewell (s : Subscribing) (from : ℕ) (t : Subscribing) (to : ℕ) : Type 0 where
  pub middle : Subscribing
  pub unpolled : LivesUnpolled s middle
  pub at : ℕ
  pub since : from ≤ at
  pub told : TellsPlace at middle t
  pub lasts : from + 1000000000 ≤ to

-- it was told this moment, and nothing has happened since
abbrev pub IsTicked : ℕ → Subscribing → Type 0
IsTicked at t = (prior : Subscribing) × ActsSo prior (Ticks at) t

-- it was told a moment, had all of its stream then, told at once where it stands, and has lived on since
pub record HasAnswered (t : Subscribing) : Type 0 where
  pub at : ℕ
  pub noted : Subscribing
  pub ticked : IsTicked at noted
  pub stand : Stand
  pub stands : Stands noted stand.end stand
  pub all : HasAll stand
  pub teller : Subscribing
  pub told : TellsPlace at noted teller
  pub since : List Act
  pub lived : Lives teller since t

-- where it has answered the end that was noted before, it has the one that is noted now
abbrev pub StaysAnswered : Session → Session → Type 0
StaysAnswered old new = (IsTrue old.ended → HasAnswered old.follower.subscriber) → IsTrue new.ended → HasAnswered new.follower.subscriber

-- whether it has all of its stream is noted, and where that is new it tells where it stands; what is heard then is no poll
pub record AnswersEnd (moment : ℕ) (old new : Session) (x : Stand) : Type 0 where
  pub before : Stand
  pub stood : Stands old.follower.subscriber old.follower.end before
  pub noted : IsTrue new.ended ↔ HasAll before
  pub stands : Stands new.follower.subscriber new.follower.end x
  pub still : HasAll x → IsTrue new.ended
  pub told : IsTrue new.ended → IsTrue old.ended ⊎ TellsPlace moment old.follower.subscriber new.follower.subscriber

-- that a session is silent is noted while its stream hasn't ended
pub record NotesSilence (old new : Session) : Type 0 where
  pub ended : IsTrue old.ended → new.silent ≡ old.silent
  pub going : ¬ IsTrue old.ended → IsTrue new.silent ↔ IsSilent old.watch
