-- What the calls of a keeper make of its pass.
use Rattle.std.specs.Prelude.{◌≡◌, true, ℕ}
use Rattle.std.specs.Arc.{arc_value}
use Rattle.theory.specs.Refusal.{limit_in}
use Rattle.shared_log.specs.Joining.{AreEight, Joins}
use Rattle.shared_log.specs.Keepers.{CleansAndLimits, KeepsAs, TookSteps, there_of, with_limit}
use Rattle.claims.specs.declared.passes.fault.Fault.{Fault}
use Rattle.claims.specs.declared.passes.fault.Fault.TheVariants.{Full, Memory}
use Rattle.claims.specs.declared.passes.keeping.KeeperPass.{KeeperPass}
use Rattle.claims.specs.declared.passes.reading.ReaderPass.{ReaderPass}

-- it cleaned and raised the limit, which is this one then
pub record Cleans (p : KeeperPass) (limit : ℕ) (q : KeeperPass) : Type 0 where
  pub log : arc_value q.log ≡ arc_value p.log
  pub cleans : CleansAndLimits (arc_value p.log) p.keeper q.keeper
  pub limit_is : limit ≡ limit_in q.keeper.limit

-- it stored this limit word, and made no other step
pub record StoresLimit (p : KeeperPass) (word : ℕ) (q : KeeperPass) : Type 0 where
  pub log : arc_value q.log ≡ arc_value p.log
  pub keeps : KeepsAs p.keeper (with_limit word p.keeper) q.keeper
  pub once : TookSteps p.keeper 1 q.keeper

-- a reader of the same log is there more
pub record OpensReader (p : KeeperPass) (r : ReaderPass) (q : KeeperPass) : Type 0 where
  pub log : arc_value q.log ≡ arc_value p.log
  pub same_log : arc_value r.log ≡ arc_value p.log
  pub joins : Joins (arc_value p.log) p.keeper r.reader q.keeper
  pub is_new : r.is_new ≡ true

-- eight are there, and nothing has changed
pub record HasEight (p q : KeeperPass) : Type 0 where
  pub same : q ≡ p
  pub eight : AreEight (there_of p.keeper)

abbrev pub DeclinesReader : KeeperPass → Fault → KeeperPass → Type 0
DeclinesReader p Full q = HasEight p q
DeclinesReader p Memory q = q ≡ p
DeclinesReader p other q = ⊥
