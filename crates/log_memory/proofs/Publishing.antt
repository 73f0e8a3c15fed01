-- A publisher's loads and exchanges move no memory.
use Rattle.std.proofs.Common.{◌≡◌, ℕ, suc, ◌+◌, ◌*◌, ◌%◌, ◌^◌, ◌<◌, ◌≤◌, ◌⊎◌, eqb, inl, inr, List, [], ◌∷◌, ap, refl, subst, sym, lt_of_not-le, arith}
use mathlib.Core.Logic.{dite}
use native.Mathlib.Decide.{dec_le, ℕ_discrete}
use lib.IntN.{ℤ_discrete}
use prog.Atomic.{either}
use Rattle.theory.specs.Placed.{Among}
use Rattle.theory.specs.Position.{id_of}
use Rattle.theory.specs.Refusal.{limit_in}
use Rattle.theory.specs.Words.{id_before, id_in, offset_in, tail_word}
use Rattle.publication.specs.declared.pass.Pass.{Pass}
use Rattle.publication.specs.declared.step.WordStep.{WordStep}
use Rattle.publication.specs.declared.step.WordStep.TheVariants as steps
use Rattle.publication.specs.Steps.{Arms, Counts, ExchangesCount, Nexts, Rotates, Sees, geometry_of, noted, tail_exchange, tail_step, term_of, with_armed, with_begun, with_full}
use Rattle.log_rule.specs.Claims.Events.{Eventful}
use Rattle.log_rule.specs.Claims.Packs.{count_place, limit_place, tail_place}
use Rattle.log_rule.specs.Claims.Plays.{playing}
use Rattle.log_rule.specs.Claims.Rule.{Bounds}
use Rattle.log_rule.proofs.Claimed.Eventful.{steps_are_events}
use Rattle.log_rule.proofs.Claimed.Sures.{Leaves, Turns, advance_turns, count_turns, limit_turns, load_leaves, next_turns, rotate_turns, tail_turns}
use Rattle.log_rule.proofs.Lifting.{Spares, lifted, load_spares, other_spares}
use Rattle.log_rule.proofs.Owning.{Goes, arms_goes, counts_goes, exchanges_goes, nexts_goes, rotates_goes, sees_goes}
use Rattle.log_memory.specs.declared.view.Site.{Site}
use Rattle.log_memory.specs.Law.{Keeps}
use Rattle.log_memory.specs.Steps.{IsCalm, IsIdle, Mine, any_step, as_view}
use Rattle.log_memory.proofs.Lifting.{lift, quiet_same}

-- the same is claimed, and the same committed
abbrev Same : Pass → Pass → Type 0
Same v w = (w.right.claims ≡ v.right.claims) × (w.work.frames ≡ v.work.frames)

same : (v w x : Pass) → x.right.claims ≡ v.right.claims → x.work.frames ≡ v.work.frames → w ≡ x → Same v w
same v w x claims frames e = subst (λ (y : Pass). Same v y) (sym e) (claims, frames)

look : (t : Site) (id i : ℕ) (m : Mine) (f : ℕ → ℕ) (told : Pass → ℕ → Pass → Type 0) (noted : Pass → ℕ → List WordStep) → i < 208 → IsIdle m.0 → IsCalm m.0.view i f → Turns i f (noted m.0.view.pass) → ((0 < m.0.view.pass.right.parts) ⊎ Leaves i f) → Spares i f → ((n : ℕ) (w : Pass) → told m.0.view.pass n w → Goes m.0.view.pass w)
    → ((b : Bounds) → Eventful b id m.0.view.pass i f (told m.0.view.pass)) → ((n : ℕ) (w : Pass) → told m.0.view.pass n w → Same m.0.view.pass w) → Keeps t id i f (playing told noted any_step) m
look t id i m f told noted low idle calm turns may spares goes event keeps slots = lift t slots id i m f (playing told noted any_step) low idle calm
    (lifted t.key 0 id i (as_view m.0) f (told m.0.view.pass) (noted m.0.view.pass) turns may spares goes event)
    (λ s r at n w then. let k = keeps n w.0.pass then.4 in quiet_same m.0.view w.0 then.2 k.0 k.1)

arms_same : (v : Pass) (n : ℕ) (w : Pass) → Arms v n w → Same v w
arms_same v n w a = dite (ℤ_discrete (id_in n) (id_of (geometry_of v) v.seen.count))
    (λ named. dite (dec_le (term_of v) (offset_in n))
    (λ full. same v w (noted (tail_step v n) (with_full v v.seen.count)) refl refl (a.used_up named full))
    (λ no. let room = lt_of_not-le no in dite (dec_le (limit_in v.right.limit) (v.seen.count * term_of v + offset_in n))
    (λ past. same v w (noted (tail_step v n) v) refl refl (a.limited named room past))
    (λ not. same v w (noted (tail_step v n) (with_armed v)) refl refl (a.below named room (lt_of_not-le not)))))
    (λ other. same v w (noted (tail_step v n) v) refl refl (a.other other))

nexts_same : (v : Pass) (k n : ℕ) (w : Pass) → Nexts v k n w → Same v w
nexts_same v k n w a = dite (ℤ_discrete (id_in n) (id_of (geometry_of v) (k + 1)))
    (λ yes. same v w (noted (steps.NextTail ((k + 1) % 3) n) (with_begun v (k + 1))) refl refl (a.begun yes))
    (λ no. same v w (noted (steps.NextTail ((k + 1) % 3) n) v) refl refl (a.other no))

rotates_same : (v : Pass) (k from n : ℕ) (w : Pass) → Rotates v k from n w → Same v w
rotates_same v k from n w a = dite (ℕ_discrete n from)
    (λ e. same v w (noted (tail_exchange v k from n) (with_begun v (k + 1))) refl refl (a.begun (inl e)))
    (λ ne. dite (ℤ_discrete (id_in n) (id_of (geometry_of v) (k + 1)))
    (λ yes. same v w (noted (tail_exchange v k from n) (with_begun v (k + 1))) refl refl (a.begun (inr yes)))
    (λ no. same v w (noted (tail_exchange v k from n) v) refl refl (a.other ne no)))

module _ (t : Site) (id : ℕ) (m : Mine) (idle : IsIdle m.0) where
  abbrev v : Pass
  v = m.0.view.pass

  pub load_limit : Keeps t id limit_place (λ n. n) (playing Sees (λ _ n. steps.Limit n ∷ []) any_step) m
  load_limit = look t id limit_place m (λ n. n) Sees (λ _ n. steps.Limit n ∷ []) (omega arith) idle (inr (inl (λ n. refl))) limit_turns (inr (load_leaves limit_place)) (load_spares limit_place) (λ n w. sees_goes v n w) (λ b. steps_are_events.load_limit b id v)
      (λ n w e. (ap (λ (x : Pass). x.right.claims) e, ap (λ (x : Pass). x.work.frames) e))

  pub load_count : Keeps t id count_place (λ n. n) (playing Counts (λ _ n. steps.Count n ∷ []) any_step) m
  load_count = look t id count_place m (λ n. n) Counts (λ _ n. steps.Count n ∷ []) (omega arith) idle (inr (inl (λ n. refl))) count_turns (inr (load_leaves count_place)) (load_spares count_place) (λ n w. counts_goes v n w) (λ b. steps_are_events.load_count b id v)
      (λ n w e. (ap (λ (x : Pass). x.right.claims) e.after, ap (λ (x : Pass). x.work.frames) e.after))

  pub load_tail : 120 ≤ m.0.view.pass.right.parts → (m.0.view.pass.right.parts < 1024 → Among m.0.view.pass.number m.0.view.pass.right.numbers) → Keeps t id (tail_place m.0.view.pass.seen.count) (λ n. n) (playing Arms (λ v n. tail_step v n ∷ []) any_step) m
  load_tail able own = look t id (tail_place v.seen.count) m (λ n. n) Arms (λ v n. tail_step v n ∷ []) (omega arith) idle (inr (inl (λ n. refl))) (tail_turns v.seen.count) (inr (load_leaves (tail_place v.seen.count))) (load_spares (tail_place v.seen.count)) (λ n w. arms_goes v own n w) (λ b. steps_are_events.load_tail b id v able)
      (λ n w a. arms_same v n w a)

  pub load_next : (k : ℕ) → m.0.view.pass.seen.full ≡ suc k → k + 1 < 2 ^ 31 → Keeps t id (tail_place (k + 1)) (λ n. n) (playing (λ v n w. Nexts v k n w) (λ _ n. steps.NextTail ((k + 1) % 3) n ∷ []) any_step) m
  load_next k full low = look t id (tail_place (k + 1)) m (λ n. n) (λ v n w. Nexts v k n w) (λ _ n. steps.NextTail ((k + 1) % 3) n ∷ []) (omega arith) idle (inr (inl (λ n. refl))) (next_turns (k + 1)) (inr (load_leaves (tail_place (k + 1)))) (load_spares (tail_place (k + 1))) (λ n w. nexts_goes v k n w) (λ b. steps_are_events.load_next b id v k full low)
      (λ n w a. nexts_same v k n w a)

  pub exchange_next : (k from : ℕ) → 0 < m.0.view.pass.right.parts → m.0.view.pass.seen.full ≡ suc k → k + 1 < 2 ^ 31 → id_in from ≡ id_before (geometry_of m.0.view.pass) k 2
      → Keeps t id (tail_place (k + 1)) (λ n. either (eqb n from) (tail_word (id_of (geometry_of m.0.view.pass) (k + 1)) 0) n) (playing (λ v n w. Rotates v k from n w) (λ v n. tail_exchange v k from n ∷ []) any_step) m
  exchange_next k from some' full low named =
      let f : ℕ → ℕ = λ n. either (eqb n from) (tail_word (id_of (geometry_of v) (k + 1)) 0) n in
      look t id (tail_place (k + 1)) m f (λ v n w. Rotates v k from n w) (λ v n. tail_exchange v k from n ∷ []) (omega arith) idle (inl (λ e. omega arith)) (rotate_turns (k + 1) from (tail_word (id_of (geometry_of v) (k + 1)) 0)) (inl some') (other_spares (tail_place (k + 1)) f (λ e. omega arith) (λ j lt e. omega arith)) (λ n w. rotates_goes v k from n w) (λ b. steps_are_events.exchange_next b id v k from full low named)
      (λ n w a. rotates_same v k from n w a)

  pub exchange_count : (k : ℕ) → 0 < m.0.view.pass.right.parts → m.0.view.pass.seen.begun ≡ k + 1 → Keeps t id count_place (λ n. either (eqb n k) (k + 1) n) (playing (λ v n w. ExchangesCount v k n w) (λ _ n. steps.CountExchange k n ∷ []) any_step) m
  exchange_count k some' began =
      let f : ℕ → ℕ = λ n. either (eqb n k) (k + 1) n in
      look t id count_place m f (λ v n w. ExchangesCount v k n w) (λ _ n. steps.CountExchange k n ∷ []) (omega arith) idle (inl (λ e. omega arith)) (advance_turns k) (inl some') (other_spares count_place f (λ e. omega arith) (λ j lt e. omega arith)) (λ n w. exchanges_goes v k n w) (λ b. steps_are_events.exchange_count b id v k began)
      (λ n w e. (ap (λ (x : Pass). x.right.claims) e.after, ap (λ (x : Pass). x.work.frames) e.after))
