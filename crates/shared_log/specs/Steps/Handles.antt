-- What contracts see of a log and of its passes.
use Rattle.std.specs.Prelude.{◌≡◌, ℕ, ◌+◌, ◌<◌, ◌≤◌, List, length}
use Rattle.atomic_table.specs.Seated.{TableId}
use Rattle.theory.specs.Bytes.{Identity}
use Rattle.theory.specs.Position.{IsGeometry, max_position}
use Rattle.publication.specs.declared.pass.Controls.{Controls}
use Rattle.publication.specs.declared.pass.Pass.{Pass}
use Rattle.publication.specs.declared.step.WordStep.{WordStep}
use Rattle.publication.specs.Controls.{Leads}
use Rattle.region.specs.Identity as regions
use Rattle.log_rule.specs.Claims.Admits.{Same}
use Rattle.log_rule.specs.Claims.Sure.{fresh_controls}
use Rattle.log_rule.specs.Table.{whole_pass}
use Rattle.log_memory.specs.declared.view.Site.{Site}

-- which log: its table, and the region where its frames lie
pub record LogId : Type 0 where
  pub table : TableId
  pub region : regions.Identity

-- which log it is, the stream that it carries, where that begins, and how many consumers it was opened with
pub record LogValue : Type 0 where
  pub table : LogId
  pub identity : Identity
  pub start : ℕ
  pub consumers : ℕ

-- the seat of a log, its pass, the word steps that it has made, and what it knows of the control words
pub record PublisherValue : Type 0 where
  pub of : LogId
  pub seat : ℕ
  pub pass : Pass
  pub steps : ℕ
  -- the control words, where it is sure of them
  pub controls : Controls
  pub sure : ℕ
  -- the position below which memory was taken back, where it is the keeper
  pub freed : ℕ

-- the site is that of this stream's log
pub record IsSite (t : Site) (identity : Identity) (start consumers : ℕ) : Type 0 where
  pub identity_is : t.key.identity ≡ identity
  pub start_is : t.key.start ≡ start
  pub consumers_is : t.key.consumers ≡ consumers
  pub geometry : IsGeometry identity.geometry
  pub few : consumers ≤ 8
  pub any : 0 < consumers
  pub below : start ≤ max_position identity.geometry

-- the pass is one of this log
pub record IsOf (l : LogValue) (p : PublisherValue) : Type 0 where
  pub table : p.of ≡ l.table
  pub identity : p.pass.identity ≡ l.identity
  pub start : p.pass.start ≡ l.start

-- it has made one step more, which is this one where it is on a control word
pub record Stepped (noted : List WordStep) (p q : PublisherValue) : Type 0 where
  pub of : q.of ≡ p.of
  pub seat : q.seat ≡ p.seat
  pub steps : q.steps ≡ p.steps + 1
  pub same : Same p.pass q.pass
  pub sure : q.sure ≡ p.sure
  pub leads : p.sure ≡ 1 → Leads p.controls noted q.controls
  pub freed : q.freed ≡ p.freed

-- it has made these steps on control words, and so many stores
pub record Took (p : PublisherValue) (noted : List WordStep) (stored : ℕ) (q : PublisherValue) : Type 0 where
  pub steps : q.steps ≡ p.steps + (length noted + stored)
  pub sure : q.sure ≡ p.sure
  pub leads : p.sure ≡ 1 → Leads p.controls noted q.controls
  pub freed : q.freed ≡ p.freed

abbrev pub parts_in : PublisherValue → ℕ
parts_in p = p.pass.right.parts

-- a log of this stream
pub record IsLogOf (identity : Identity) (start consumers : ℕ) (l : LogValue) : Type 0 where
  pub identity_is : l.identity ≡ identity
  pub start_is : l.start ≡ start
  pub consumers_is : l.consumers ≡ consumers

-- the one pass of a log that was just opened: it has all, and is sure of the control words
pub record IsWholeNew (l : LogValue) (p : PublisherValue) : Type 0 where
  pub of : IsOf l p
  pub pass : p.pass ≡ whole_pass record { identity = l.identity; start = l.start; consumers = l.consumers }
  pub steps : p.steps ≡ 0
  pub sure : p.sure ≡ 1
  pub controls : p.controls ≡ record (fresh_controls l.identity l.start) { limit = l.start }
  pub freed : p.freed ≡ l.start
