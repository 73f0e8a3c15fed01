-- A cycle is what was heard, and then a tick.
use Rattle.std.proofs.Common.{◌≡◌, ◌⊎◌, inl, inr, ℕ, ◌<◌, ◌≤◌, Bool, List, [], ◌∷◌, ◌++◌, length, Result, Ok, Err, refl, sym, ap, ◌∙◌, subst, arith, append-nil, eq-or-lt_of_le}
use Rattle.std.proofs.lemmas.Bool.{lt-ltb}
use Rattle.std.specs.Prelude.{nat_lt, IfErr}
use Rattle.endpoint.specs.Devices.{Device, HasGrown, NeverFall}
use Rattle.endpoint.specs.declared.datagrams.DeviceFailed.{DeviceFailed}
use Rattle.agents.specs.Traffic.{Carries, IsPart, are_some}
use Rattle.agents.specs.Cycles.{Cycle, Explains, Fault, Hearing, TicksBehind, Ticking}
use Rattle.endpoint.specs.declared.device_error.DeviceError.{DeviceError}
use Rattle.endpoint.specs.declared.device_error.DeviceError.TheVariants as faults
use Rattle.agents.proofs.Carrying.{carried_on, grown_later, part_behind}
use Rattle.agents.proofs.Hearings.{Hears}

abbrev Ticks : Type 0 → Type 1
Ticks P = P → ℕ → P → List (List ℕ) → Type 0

pub some_came : (hs gs : List (List ℕ)) (n : ℕ) → n ≡ length hs → 0 < n → nat_lt 0 n ≡ are_some (hs ++ gs)
some_came [] gs n h low = absurd (omega (arith, h, low))
some_came (x ∷ hs) gs n h low = lt-ltb 0 n low

pub none_came : (hs gs : List (List ℕ)) (n : ℕ) (any : Bool) → n ≡ length hs → n ≤ 0 → any ≡ are_some gs → any ≡ are_some (hs ++ gs)
none_came [] gs n any h low is = is
none_came (x ∷ hs) gs n any h low is = absurd (omega (arith, h, low))

-- all that was heard was answered, and at the tick a fault may have come
both_carried : (tells still : Type 0) (d e f : Device) (heard lost answers first given : List (List ℕ)) → (tells → still) → first ≡ answers → lost ≡ [] → (tells → Carries d (heard ++ lost) first e) → (still → Carries e [] given f) → tells → Carries d heard (answers ++ given) f
both_carried tells still d e f heard lost answers first given on whole none one two x =
    let first_part : Carries d heard answers e = subst (λ xs. Carries d xs answers e) (ap (λ l. heard ++ l) none ∙ append-nil heard) (subst (λ xs. Carries d (heard ++ lost) xs e) whole (one x)) in
    subst (λ hs. Carries d hs (answers ++ given) f) (append-nil heard) (carried_on d e f heard answers [] given first_part (two (on x)))

-- where hearing ended without a fault, 16 were heard, or then none was there
all_came : {P : Type 0} (hears : Hears P) (now : ℕ) (tells : Type 0) (s m : P) (d e f : Device) (n : ℕ) → (h : Hearing hears now tells 16 s d (Ok n) m e) → f.nones ≡ e.nones → (length h.heard ≡ 16) ⊎ HasGrown d.nones f.nones
all_came hears now tells s m d e f n h stays = either (eq-or-lt_of_le (omega (arith, h.few)))
  where
    either : (length h.heard ≡ 16) ⊎ (length h.heard < 16) → (length h.heard ≡ 16) ⊎ HasGrown d.nones f.nones
    either (inl all) = inl all
    either (inr low) = inr (subst (λ y. HasGrown d.nones y) (sym stays) (h.ended (omega (arith, h.number, low))))

-- no fault came
pub cycle_done : {P : Type 0} (hears : Hears P) (ticks : Ticks P) (now : ℕ) (tells still : Type 0) (s m t : P) (d e f : Device) (n : ℕ) (any busy : Bool) →
    (tells → still) → (h : Hearing hears now tells 16 s d (Ok n) m e) → f.nones ≡ e.nones → (k : Ticking ticks now still m e (Ok any) t f) → busy ≡ are_some (h.heard ++ k.given) → Cycle hears ticks now tells s d busy t f
cycle_done hears ticks now tells still s m t d e f n any busy on h stays k is =
    record {
      heard = h.heard;
      answers = h.given;
      given = k.given;
      middle = m;
      few = omega (arith, h.few);
      ended = all_came hears now tells s m d e f n h stays;
      all_heard = h.all_heard;
      ticked = k.ticked;
      carries = both_carried tells still d e f h.heard h.lost h.given h.sent k.given on h.whole h.none_lost h.carries (λ y. subst (λ xs. Carries e [] xs f) k.whole (k.carries y));
      is_busy = is;
    }

-- one came before the tick
pub fault_before : {P : Type 0} (hears : Hears P) (ticks : Ticks P) (now : ℕ) (tells : Type 0) (s m : P) (d e : Device) (fault : DeviceError) (r : Result Bool DeviceError) →
    r ≡ Err fault → Hearing hears now tells 16 s d (Err fault) m e → IfErr r (λ why. Fault hears ticks now tells why s d m e)
fault_before hears ticks now tells s m d e fault r is h = subst (λ x. IfErr x (λ why. Fault hears ticks now tells why s d m e)) (sym is) (record {
  heard = h.heard;
  lost = h.lost;
  answers = h.given;
  given = [];
  sent = h.sent;
  middle = m;
  few = h.few;
  all_heard = h.all_heard;
  ticked = inl (refl, refl);
  part = subst (λ xs. IsPart xs h.sent) (sym (append-nil h.given)) h.part;
  explained = h.explained;
  carries = h.carries;
})

-- one came when the tick was done
pub fault_behind : {P : Type 0} (hears : Hears P) (ticks : Ticks P) (now : ℕ) (tells still : Type 0) (s m t : P) (d e f : Device) (n : ℕ) (failed : DeviceFailed) (r : Result Bool DeviceError) →
    r ≡ Err faults.Device → (tells → still) → NeverFall d e → Hearing hears now tells 16 s d (Ok n) m e → f.nones ≡ e.nones → Ticking ticks now still m e (Err failed) t f → IfErr r (λ why. Fault hears ticks now tells why s d t f)
fault_behind hears ticks now tells still s m t d e f n failed r is on counts h stays k = subst (λ x. IfErr x (λ why. Fault hears ticks now tells why s d t f)) (sym is) (record {
  heard = h.heard;
  lost = [];
  answers = h.given;
  given = k.given;
  sent = h.given ++ k.sent;
  middle = m;
  few = omega (arith, h.few);
  all_heard = h.all_heard;
  ticked = inr (record { ended = all_came hears now tells s m d e f n h stays; none_lost = refl; answered = record { unsent = k.sent; parts = refl }; ticked = k.ticked });
  part = part_behind h.given k.given k.sent k.part;
  explained = (grown_later _ _ _ counts.failures k.failed, refl);
  carries = λ x. subst (λ xs. Carries d xs (h.given ++ k.sent) f) (sym (append-nil h.heard)) (both_carried tells still d e f h.heard h.lost h.given h.sent k.sent on h.whole h.none_lost h.carries k.carries x);
})

-- ---- what the definitions keep out

-- a device's fault loses no datagram
pub device_loses_none : (d e : Device) (lost : List (List ℕ)) → Explains faults.Device d lost e → lost ≡ []
device_loses_none d e lost h = h.1

-- where memory was refused the tick isn't done
pub memory_before_tick : {P : Type 0} (hears : Hears P) (ticks : Ticks P) (now : ℕ) (tells : Type 0) (s t : P) (d e : Device) → (c : Fault hears ticks now tells faults.Memory s d t e) → (t ≡ c.middle) × (c.given ≡ [])
memory_before_tick hears ticks now tells s t d e c = either c.ticked
  where
    either : ((t ≡ c.middle) × (c.given ≡ [])) ⊎ TicksBehind ticks now c.heard c.lost c.answers c.given c.sent c.middle d t e → (t ≡ c.middle) × (c.given ≡ [])
    either (inl before) = before
    either (inr k) = absurd (omega (arith, c.explained, ap length k.none_lost))

-- fewer than 16 are heard only where there are no more
pub few_are_all : {P : Type 0} (hears : Hears P) (ticks : Ticks P) (now : ℕ) (tells : Type 0) (s t : P) (d e : Device) (busy : Bool) → (c : Cycle hears ticks now tells s d busy t e) → length c.heard < 16 → HasGrown d.nones e.nones
few_are_all hears ticks now tells s t d e busy c low = either c.ended
  where
    either : (length c.heard ≡ 16) ⊎ HasGrown d.nones e.nones → HasGrown d.nones e.nones
    either (inl all) = absurd (omega (arith, all, low))
    either (inr grown) = grown
