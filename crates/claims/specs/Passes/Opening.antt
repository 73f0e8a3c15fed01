-- A log that opens, and the passes that are taken from it.
use Rattle.std.specs.Prelude.{◌≡◌, true, [], ◌∷◌}
use Rattle.std.specs.Arc.{arc_value}
use Rattle.std.specs.declared.option.Option.TheVariants.{None, Some}
use Rattle.position.specs.Openings.{IsConsumerCount, IsStart}
use Rattle.shared_log.specs.Steps.Handles.{IsLogOf}
use Rattle.shared_log.specs.Keepers.{KeeperValue}
use Rattle.shared_log.specs.Parts.{AreDealt}
use Rattle.claims.specs.declared.passes.fault.Fault.{Fault}
use Rattle.claims.specs.declared.passes.fault.Fault.TheVariants.{Consumers, Memory, Mtu, NoneLeft, Start, TermLength}
use Rattle.claims.specs.declared.passes.opening.Config.{Config}
use Rattle.claims.specs.declared.passes.opening.Opened.{Opened}
use Rattle.claims.specs.declared.passes.keeping.KeeperPass.{KeeperPass}
use Rattle.claims.specs.declared.passes.publishing.PublisherPass.{PublisherPass}
use Rattle.claims.specs.declared.passes.reading.ReaderPass.{ReaderPass}
use Rattle.claims.specs.Passes.Shapes.{DeclinesShape, IsShape, identity_of, shape_of}

-- a log of this shape may open there, with so many consumers
abbrev pub IsInRange : Config → Type 0
IsInRange c = IsShape c × IsStart (shape_of c) c.start × IsConsumerCount c.consumers

-- a log of this stream, with all its passes
pub record OpensLog (c : Config) (o : Opened) : Type 0 where
  pub in_range : IsInRange c
  pub log : IsLogOf (identity_of c) c.start c.consumers (arc_value o.log)
  pub keeper : KeeperValue
  pub keeper_is : o.keeper ≡ Some keeper
  pub dealt : AreDealt (arc_value o.log) o.publishers.items o.readers.items keeper

-- the first of these that is out of range; else memory was refused
abbrev pub DeclinesLog : Config → Fault → Type 0
DeclinesLog c TermLength = DeclinesShape c TermLength
DeclinesLog c Mtu = DeclinesShape c Mtu
DeclinesLog c Start = IsShape c × (¬ IsStart (shape_of c) c.start)
DeclinesLog c Consumers = IsShape c × IsStart (shape_of c) c.start × (¬ IsConsumerCount c.consumers)
DeclinesLog c Memory = IsInRange c
DeclinesLog c other = ⊥

-- ---- passes are taken

-- the first publisher that nobody took yet
pub record TakesPublisher (o : Opened) (p : PublisherPass) (n : Opened) : Type 0 where
  pub log : arc_value n.log ≡ arc_value o.log
  pub same_log : arc_value p.log ≡ arc_value o.log
  pub publishers : o.publishers.items ≡ p.claimant ∷ n.publishers.items
  pub readers : n.readers ≡ o.readers
  pub keeper : n.keeper ≡ o.keeper

-- the first reader
pub record TakesReader (o : Opened) (p : ReaderPass) (n : Opened) : Type 0 where
  pub log : arc_value n.log ≡ arc_value o.log
  pub same_log : arc_value p.log ≡ arc_value o.log
  pub readers : o.readers.items ≡ p.reader ∷ n.readers.items
  pub is_new : p.is_new ≡ true
  pub publishers : n.publishers ≡ o.publishers
  pub keeper : n.keeper ≡ o.keeper

-- the keeper
pub record TakesKeeper (o : Opened) (p : KeeperPass) (n : Opened) : Type 0 where
  pub log : arc_value n.log ≡ arc_value o.log
  pub same_log : arc_value p.log ≡ arc_value o.log
  pub keeper : o.keeper ≡ Some p.keeper
  pub none : n.keeper ≡ None
  pub publishers : n.publishers ≡ o.publishers
  pub readers : n.readers ≡ o.readers

-- there is none, or memory was refused; nothing has changed
abbrev pub DeclinesPass : (o : Opened) → (IsGone : Type 0) → Fault → Opened → Type 0
DeclinesPass o IsGone NoneLeft n = IsGone × (n ≡ o)
DeclinesPass o IsGone Memory n = n ≡ o
DeclinesPass o IsGone other n = ⊥

abbrev pub DeclinesPublisher : Opened → Fault → Opened → Type 0
DeclinesPublisher o = DeclinesPass o (o.publishers.items ≡ [])

abbrev pub DeclinesReader : Opened → Fault → Opened → Type 0
DeclinesReader o = DeclinesPass o (o.readers.items ≡ [])

abbrev pub DeclinesKeeper : Opened → Fault → Opened → Type 0
DeclinesKeeper o = DeclinesPass o (o.keeper ≡ None)
