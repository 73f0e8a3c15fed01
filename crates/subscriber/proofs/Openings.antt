-- A SETUP that is refused opens no image.
use Rattle.std.proofs.Common.{◌≡◌, ◌∙◌, ℕ, ℤ, pos, sym, ap, subst, arith}
use Rattle.theory.specs.Image.{IsWindow}
use Rattle.theory.specs.Position.{Geometry}
use Rattle.theory.specs.Setup.{HasSetupFault, NamesGeometry, NamesPosition, OpensAt}
use Rattle.theory.specs.Wire.{Setup}
use Rattle.receiver.specs.SetupFaults.{fault_of}
use Rattle.receiver.specs.declared.setup.fault.SetupError.{SetupError}
use Rattle.receiver.specs.declared.setup.fault.SetupError.TheVariants as errors
use Rattle.options.specs.declared.ends.plans.SubscribePlan.{SubscribePlan}
use Rattle.subscriber.specs.Meetings.{OpensNothing, window_in}

same_pos : (a b : ℕ) → pos a ≡ pos b → a ≡ b
same_pos a b e = grind (arith, e)

shape : ℕ → ℕ → ℤ → Geometry
shape term mtu initial = record { term_length = term; mtu = mtu; initial_term_id = initial }

-- a SETUP names one geometry
one_geometry : (f : Setup) (g h : Geometry) → NamesGeometry f g → NamesGeometry f h → g ≡ h
unfolding shape
one_geometry f g h a b =
    ap (λ (n : ℕ). shape n g.mtu g.initial_term_id) (same_pos _ _ (sym a.term_length ∙ b.term_length))
    ∙ ap (λ (n : ℕ). shape h.term_length n g.initial_term_id) (same_pos _ _ (sym a.mtu ∙ b.mtu))
    ∙ ap (λ (i : ℤ). shape h.term_length h.mtu i) (sym a.initial ∙ b.initial)

pub never : (f : Setup) (width : ℕ) (g : Geometry) (p : ℕ) (e : SetupError) → HasSetupFault f width (fault_of e) → OpensAt f width g p → ⊥
never f width g p errors.Geometry wrong opens = wrong g opens.geometry
never f width g p errors.Position (h, named, nowhere) opens =
    nowhere p (subst (λ (x : Geometry). NamesPosition f x p) (one_geometry f g h opens.geometry named) opens.position)
never f width g p errors.Window (h, q, named, placed, narrow) opens =
    narrow (subst (λ (x : Geometry). IsWindow x.term_length x.mtu width) (one_geometry f g h opens.geometry named) opens.window)

pub refused : (plan : SubscribePlan) (f : Setup) (e : SetupError) → HasSetupFault f (window_in 1 f) (fault_of e) → OpensNothing plan f
refused plan f e wrong = λ o opens. never f (window_in 1 f) o.geometry o.position e wrong opens.at
