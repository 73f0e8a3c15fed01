-- What a consumer may still read isn't cleaned.
use Rattle.std.proofs.Common.{◌≡◌, ℕ, ◌+◌, ◌-◌, ◌/◌, ◌%◌, ◌≤◌, List, [], ◌∷◌, Some, sym, ap, subst, arith}
use Rattle.std.specs.Prelude.{max, slice_get, slice_set, Option}
use Rattle.theory.specs.Entry.{committed}
use Rattle.theory.specs.Numbered.{Each}
use Rattle.theory.specs.Consumer.{Consumer, moved, passed_by, consumer_at}
use Rattle.model.specs.Log.{Log, LogStep, LogEvent, Look, Arm, Add, Miss, Store, Commit, Abort, Rotate, Clean, Raise, Connect, Close, Join, Leave, Move, Pass, Retire, term_of}
use Rattle.model.specs.Sender.{Sender, SenderStep, SenderEvent, Send, Resend, SendSetup, HearStatus, See, HearNak}
use Rattle.model.specs.World.{World, Event, AtLog, AtSender, AtImage, Open, Step, Run, IsOpened}
use Rattle.model.specs.Headline.{IsReadable}
use Rattle.theory.proofs.Lists.{each_weaker, each_get, each_set, each_leave}
use Rattle.theory.proofs.Follow.{chain_le}

abbrev Behind : ℕ → ℕ → ℕ → ℕ → Type 0
Behind start cleaned term at = cleaned ≤ max start (at - term)

pub record KeptBehind (sent_to start cleaned term limit : ℕ) (readers : List (Option Consumer)) : Type 0 where
  pub sender : Behind start cleaned term sent_to
  pub all : Each (λ r. Behind start cleaned term r.at) readers
  pub unit : limit % 32 ≡ 0
  pub half : term % 64 ≡ 0

abbrev pub IsKeptBehind : ℕ → Log → Type 0
IsKeptBehind n l = KeptBehind n l.start l.cleaned (term_of l) l.limit l.readers

moves_on : (n : ℕ) (l : Log) (which : ℕ) (r s : Consumer) → slice_get l.readers which ≡ Some (Some r) → r.at ≤ s.at → IsKeptBehind n l → IsKeptBehind n (record l { readers = slice_set l.readers which (Some s) })
moves_on n l which r s e le k =
    let here : l.cleaned ≤ max l.start (r.at - term_of l) = each_get (λ r. Behind l.start l.cleaned (term_of l) r.at) l.readers which r e k.all in
    record { sender = k.sender; all = each_set (λ r. Behind l.start l.cleaned (term_of l) r.at) l.readers which s (omega arith) k.all; unit = k.unit; half = k.half }

log_behind : (n : ℕ) (old : Log) (e : LogEvent) (new : Log) → IsKeptBehind n old → LogStep (n ∷ []) old e new → IsKeptBehind n new
log_behind n old Look new k h = subst (IsKeptBehind n) (sym h) k
log_behind n old (Arm by seen) new k h = subst (IsKeptBehind n) (sym h.3) k
log_behind n old (Add by bytes) new k h = subst (IsKeptBehind n) (sym h.4) k
log_behind n old (Miss by) new k h = subst (IsKeptBehind n) (sym h.1) k
log_behind n old Store new k h = subst (IsKeptBehind n) (sym h) k
log_behind n old (Commit start f) new k h = subst (IsKeptBehind n) (sym h.1) k
log_behind n old (Abort start) new k h = subst (IsKeptBehind n) (sym h.1) k
log_behind n old Rotate new k h = subst (IsKeptBehind n) (sym h) k
log_behind n old (Clean least) new k h =
    let top : old.cleaned + 8 ≤ max old.start (least - term_of old) = h.1 in
    let low : least ≤ n = h.0.others_above.0 in
    subst (IsKeptBehind n) (sym h.2) (record {
      sender = omega arith;
      all = each_weaker (λ r. least ≤ r.at) (λ r. Behind old.start (old.cleaned + 8) (term_of old) r.at) (λ r le. omega arith) old.readers h.0.readers_above;
      unit = k.unit;
      half = k.half;
    })
log_behind n old (Raise least) new k h =
    let was : old.limit % 32 ≡ 0 = k.unit in
    let half : term_of old % 64 ≡ 0 = k.half in
    let whole : least % 32 ≡ 0 = h.0 in
    let more : (least + term_of old / 2) % 32 ≡ 0 = omega arith in
    subst (IsKeptBehind n) (sym h.5) (record { sender = k.sender; all = k.all; unit = omega arith; half = k.half })
log_behind n old (Connect on) new k h = subst (IsKeptBehind n) (sym h) k
log_behind n old Close new k h = subst (IsKeptBehind n) (sym h) k
log_behind n old (Join which at) new k h =
    subst (IsKeptBehind n) (sym h.4) (record { sender = k.sender; all = each_set (λ r. Behind old.start old.cleaned (term_of old) r.at) old.readers which (consumer_at at) h.3 k.all; unit = k.unit; half = k.half })
log_behind n old (Leave which) new k h =
    subst (IsKeptBehind n) (sym h.3) (record { sender = k.sender; all = each_leave (λ r. Behind old.start old.cleaned (term_of old) r.at) old.readers which k.all; unit = k.unit; half = k.half })
log_behind n old (Move which past) new k h =
    let here : past.at ≡ h.0.at = h.2.here in
    subst (IsKeptBehind n) (sym h.4) (moves_on n old which h.0 (moved h.0 past) h.1 (omega arith) k)
log_behind n old (Pass which past) new k h =
    let here : past.at ≡ h.0.at = h.2.here in
    subst (IsKeptBehind n) (sym h.3) (moves_on n old which h.0 (passed_by h.0 past) h.1 (omega arith) k)
log_behind n old (Retire a b) new k h = subst (IsKeptBehind n) (sym h.4) k

sender_on : (l : Log) (old : Sender) (e : SenderEvent) (new : Sender) → SenderStep l.identity.geometry l.start (committed l.entries) old e new → old.at ≤ new.at
sender_on l old (Send now frames to) new h = subst (λ (s : Sender). old.at ≤ s.at) (sym h.3) (chain_le old.at to frames h.0)
sender_on l old (Resend now a frames) new h = subst (λ (s : Sender). old.at ≤ s.at) (sym h.2) (omega arith)
sender_on l old SendSetup new h = subst (λ (s : Sender). old.at ≤ s.at) (sym h) (omega arith)
sender_on l old (HearStatus now receiver said) new h = subst (λ (s : Sender). old.at ≤ s.at) (sym h) (omega arith)
sender_on l old (See now) new h = subst (λ (s : Sender). old.at ≤ s.at) (sym h) (omega arith)
sender_on l old (HearNak now p n) new h = subst (λ (s : Sender). old.at ≤ s.at) (sym h) (omega arith)

abbrev pub IsKept : World → Type 0
IsKept w = IsKeptBehind w.sender.at w.log

after : (old : World) (e : Event) (new : World) → IsKept old → Step old e new → IsKept new
after old (AtLog e) new k h = subst IsKept (sym h.2) (log_behind old.sender.at old.log e h.0 k h.1)
after old (AtSender e) new k h =
    let on : old.sender.at ≤ h.0.at = sender_on old.log old.sender e h.0 h.1 in
    let was : old.log.cleaned ≤ max old.log.start (old.sender.at - term_of old.log) = k.sender in
    subst IsKept (sym h.2) (record { sender = omega arith; all = k.all; unit = k.unit; half = k.half })
after old (AtImage which e) new k h = subst IsKept (sym h.4) k
after old (Open which join window consumers) new k h = subst IsKept (sym h.5) k

every : (events : List Event) (old new : World) → IsKept old → Run old events new → IsKept new
every [] old new k h = subst IsKept (sym h) k
every (e ∷ es) old new k h = every es h.0 new (after old e h.0 k h.1) h.2

pub readable : (w v : World) (events : List Event) → IsOpened w → Run w events v → w.log.identity.geometry.term_length % 64 ≡ 0 → IsReadable v
readable w v events o run half =
    let at : w.sender.at ≡ w.log.start = ap (λ (s : Sender). s.at) o.sender in
    let from : w.log.cleaned ≡ w.log.start = o.cleaned in
    let lim : w.log.limit ≡ w.log.start = o.limit in
    let unit : w.log.start % 32 ≡ 0 = o.unit in
    let k = every events w v (record { sender = omega arith; all = each_weaker (λ r. r ≡ consumer_at w.log.start) (λ r. Behind w.log.start w.log.cleaned (term_of w.log) r.at) (λ r e. omega arith) w.log.readers o.readers; unit = omega arith; half = half }) run in
    record { sender = k.sender; readers = k.all; unit = k.unit }
