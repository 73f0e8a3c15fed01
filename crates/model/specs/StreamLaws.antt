-- Laws on a log's stream: shares, what an assembler gives of a run of entries, and how long that is.
use Rattle.std.specs.Prelude.{◌≡◌, ℕ, ◌+◌, ◌-◌, ◌≤◌, ◌==◌, if◌then◌else◌, true, Bool, List, length, map, Some, slice_get, slice_set}
use Rattle.std.specs.List.{AllByRecursion}
use Rattle.std.specs.Option.{option_to_list}
use Rattle.theory.specs.Position.{max_message}
use Rattle.theory.specs.Placed.{AllAmong, Chain, Placed}
use Rattle.theory.specs.Entry.{Entry, IsEntry, committed}
use Rattle.theory.specs.Tiling.{Tiles, share_of}
use Rattle.theory.specs.Messages.{messages}
use Rattle.theory.specs.Assembly.{Assembly, after_all, nothing_heard}
use Rattle.theory.specs.Numbered.{Each}
use Rattle.model.specs.Log.{Add, Log, LogEvent, LogStep, Retire}
use Rattle.model.specs.World.{World}

-- a publisher's share after an event: an addition's bytes are its publisher's, a retired publisher's are the other's, and no other event changes a share
abbrev pub share_after : Log → LogEvent → Log → ℕ → ℕ
share_after old (Add by bytes) new o = share_of o old.entries + (if by == o then new.tail - old.tail else 0)
share_after old (Retire kept gone) new o = if gone == o then 0 else share_of o old.entries + (if kept == o then share_of gone old.entries else 0)
share_after old other new o = share_of o old.entries

abbrev pub SharesFollow : Type 0
SharesFollow = (others : List ℕ) (old new : Log) (e : LogEvent) → LogStep others old e new → (o : ℕ) → share_of o new.entries ≡ share_after old e new o

-- who is retired after an event: one number more where that is retired, and nobody comes back
abbrev pub retired_after : Log → LogEvent → List Bool
retired_after old (Retire kept gone) = slice_set old.retired gone true
retired_after old other = old.retired

abbrev pub RetiresForGood : Type 0
RetiresForGood = (others : List ℕ) (old new : Log) (e : LogEvent) → LogStep others old e new → new.retired ≡ retired_after old e

-- nothing belongs to who is retired
abbrev pub HaveNoShare : World → Type 0
HaveNoShare w = (by : ℕ) → slice_get w.log.retired by ≡ Some true → share_of by w.log.entries ≡ 0

-- frames of a tiled stream that follow each other, from any of them on, are assembled to the messages between their ends
abbrev pub GivesMessages : Type 0
GivesMessages = (term start tail j q : ℕ) (es : List Entry) (read : List Placed) → Tiles term start tail es → AllByRecursion IsEntry es → Chain j q read → AllAmong (committed es) read → (after_all nothing_heard (map (λ s. s.frame) read)).given ≡ messages j q es

-- none of these is longer
abbrev pub AreWithin : ℕ → List (List ℕ) → Type 0
AreWithin most messages = AllByRecursion (λ m. length m ≤ most) messages

-- neither is a message that it gave, nor what it has begun
pub record IsWithin (most : ℕ) (a : Assembly) : Type 0 where
  pub given : AreWithin most a.given
  pub begun : AreWithin most (option_to_list a.begun)

-- no assembler has begun or given more than the log's greatest message
abbrev pub AreShort : World → Type 0
AreShort w =
    Each (λ r. IsWithin (max_message w.log.identity.geometry) r.assembly) w.log.readers
    × Each (λ i. AllByRecursion (λ r. IsWithin (max_message w.log.identity.geometry) r.assembly) i.consumers) w.images
