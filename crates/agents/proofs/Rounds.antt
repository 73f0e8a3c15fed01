-- A cycle over a device of several ways: they are heard one after the other, and then comes a tick.
use Rattle.std.proofs.Common.{◌≡◌, inl, inr, ℕ, ℤ, zero, suc, ◌+◌, Bool, true, List, Ok, ap, ◌∙◌, subst, arith}
use Rattle.std.specs.Prelude.{◌||◌, nat_lt}
use Rattle.theory.specs.Placed.{Placed}
use Rattle.frame_source.specs.Sources.{Source}
use Rattle.endpoint.specs.Devices.{Device}
use Rattle.endpoint.specs.declared.device_error.DeviceError.{DeviceError}
use Rattle.sender.specs.Sending.{Sending}
use Rattle.agents.specs.Cycles.{Hearing}
use Rattle.agents.specs.Duties.{Hears, Ticks}
use Rattle.agents.specs.Rounds.{HearsWays, WaysCycle, WaysFault}
use Rattle.agents.proofs.Heard.{all_keep, tick_keeps}

module _ {P D : Type 0} (hears : P → ℕ → List ℕ → P → List (List ℕ) → Type 0) (ticks : P → ℕ → P → List (List ℕ) → Type 0) (now : ℕ) (device : D → Device) (tells : D → Type 0) (turned : D → ℕ → D) where
  -- a way more was heard
  pub way_heard : (way : ℕ) (before any : Bool) (count : ℕ) (s : P) (d : D) (u : P) (f g : D) (t : P) (e : D) → HearsWays hears ticks now device tells turned way before s d u f → g ≡ turned f way
      → Hearing hears now (tells g) 16 u (device g) (Ok count) t (device e) → any ≡ (before || nat_lt 0 count) → HearsWays hears ticks now device tells turned (way + 1) any s d t e
  way_heard way before any count s d u f g t e h at k is =
      let next : suc way ≡ way + 1 = omega arith in
      subst (λ (n : ℕ). HearsWays hears ticks now device tells turned n any s d t e) next
      (before, count, u, f, h, subst (λ (x : D). Hearing hears now (tells x) 16 u (device x) (Ok count) t (device e)) at k, is)

-- what a sender has heard it has heard for good
module _ {R F D : Type 0} (source : R → Source) (leaves : R → R → Type 0) (looked : R → R → Type 0) (after_status : F → ℤ → ℤ → ℤ → ℕ → F) (reached : F → ℕ) (has_heard : F → Bool) (grown : List Placed → List Placed → Type 0) (after_tick : F → ℕ → F) (now : ℕ) (device : D → Device) (tells : D → Type 0) (turned : D → ℕ → D) where
  ways_keep : (ways : ℕ) (any : Bool) (s : Sending R F) (d : D) (t : Sending R F) (e : D) → HearsWays (Hears source leaves after_status reached has_heard) (Ticks source leaves looked grown after_tick reached) now device tells turned ways any s d t e → s.heard ≡ true → t.heard ≡ true
  ways_keep zero any s d t e h on = ap (λ (x : Sending R F). x.heard) h.0 ∙ on
  ways_keep (suc way) any s d t e h on = all_keep source leaves after_status reached has_heard now h.2 h.5.heard t h.5.given h.5.all_heard (ways_keep way h.0 s d h.2 h.3 h.4 on)

  pub cycle_keeps : (ways : ℕ) (s : Sending R F) (d : D) (busy : Bool) (t : Sending R F) (e : D) → WaysCycle (Hears source leaves after_status reached has_heard) (Ticks source leaves looked grown after_tick reached) now device tells turned ways s d busy t e → s.heard ≡ true → t.heard ≡ true
  cycle_keeps ways s d busy t e c on = tick_keeps source leaves grown after_tick reached now c.middle t c.ticked.given c.ticked.ticked (ways_keep ways c.any s d c.middle c.between c.heard on)

  pub fault_keeps : (ways : ℕ) (fault : DeviceError) (s : Sending R F) (d : D) (t : Sending R F) (e : D) → WaysFault (Hears source leaves after_status reached has_heard) (Ticks source leaves looked grown after_tick reached) now device tells turned ways fault s d t e → s.heard ≡ true → t.heard ≡ true
  fault_keeps ways fault s d t e (inl c) on = all_keep source leaves after_status reached has_heard now c.middle c.stopped.heard t c.stopped.given c.stopped.all_heard (ways_keep c.way c.any s d c.middle c.between c.heard on)
  fault_keeps ways fault s d t e (inr c) on = tick_keeps source leaves grown after_tick reached now c.middle t c.ticked.given c.ticked.ticked (ways_keep ways c.any s d c.middle c.between c.heard on)
