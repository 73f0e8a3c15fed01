-- The passes of a log that was just opened.
use Rattle.std.specs.Prelude.{◌≡◌, ℕ, suc, ◌-◌, ◌≤◌, ◌*◌, ◌+◌, List, [], ◌∷◌, length, replicate}
use Rattle.std.specs.List.{AllByRecursion}
use Rattle.publication.specs.declared.pass.Keeping.{Keeping}
use Rattle.publication.specs.declared.pass.Pass.{Pass}
use Rattle.shared_log.specs.Steps.Handles.{IsOf, LogValue, PublisherValue}
use Rattle.log_rule.specs.Claims.Plays.{newcomer}
use Rattle.log_rule.specs.Table.{consumers_at, first_there}
use Rattle.shared_log.specs.Handles.{AreNew}
use Rattle.shared_log.specs.Readers.{IsAlone, IsReaderOf, ReaderValue}
use Rattle.shared_log.specs.Keepers.{KeeperValue}

-- of this log, with this pass: it has made no step, and isn't sure of the control words
pub record IsFresh (l : LogValue) (pass : Pass) (p : PublisherValue) : Type 0 where
  pub of : IsOf l p
  pub pass_is : p.pass ≡ pass
  pub steps : p.steps ≡ 0
  pub sure : p.sure ≡ 0

-- ---- the keeper and the readers

abbrev pub first_keeping : LogValue → Keeping
first_keeping l = record { right = 1; limit = l.start; cleaned = l.start; there = first_there l.consumers; positions = replicate 8 l.start; reads = [] }

pub record IsNewKeeper (l : LogValue) (k : KeeperValue) : Type 0 where
  pub held : IsFresh l (record (newcomer l.identity l.start 0 8) { keeping = first_keeping l }) k.held
  pub limit : k.limit ≡ l.start
  pub cleaned : k.cleaned ≡ l.start
  pub freed : k.held.freed ≡ l.start

pub record IsNewReader (l : LogValue) (number : ℕ) (r : ReaderValue) : Type 0 where
  pub held : IsFresh l (record (newcomer l.identity l.start 0 0) { reading = consumers_at l.start number 1 }) r.held
  pub place : r.place ≡ 0
  pub number_is : r.number ≡ number
  pub position : r.position ≡ l.start
  pub read_to : r.read_to ≡ l.start

-- by their numbers, from this one on
abbrev pub AreReaders : LogValue → ℕ → List ReaderValue → Type 0
AreReaders l number [] = Unit {0}
AreReaders l number (r ∷ rs) = IsNewReader l number r × AreReaders l (suc number) rs

-- all passes
pub record AreDealt (l : LogValue) (publishers : List PublisherValue) (readers : List ReaderValue) (keeper : KeeperValue) : Type 0 where
  pub publishers_are : AreNew l 0 publishers
  pub readers_are : AreReaders l 0 readers
  pub of_log : AllByRecursion (IsReaderOf l) readers
  pub alone : AllByRecursion (IsAlone l) readers
  pub all : length readers ≡ l.consumers
  pub keeper_is : IsNewKeeper l keeper

-- ---- in between

-- the pass that deals still has the consumers from this number on
abbrev pub IsDealing : LogValue → ℕ → PublisherValue → Type 0
IsDealing l number p = IsFresh l (record (newcomer l.identity l.start 7 1016) { reading = consumers_at l.start number (l.consumers - number) }) p

-- it still has the publishers up to its own number
abbrev pub IsDealer : LogValue → PublisherValue → Type 0
IsDealer l p = (p.pass.number ≤ 7) × IsFresh l (newcomer l.identity l.start p.pass.number (120 * p.pass.number + 176)) p

abbrev pub IsNewPublisher : LogValue → ℕ → PublisherValue → Type 0
IsNewPublisher l number p = IsFresh l (newcomer l.identity l.start number 120) p
