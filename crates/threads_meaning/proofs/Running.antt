-- Each step, and any list of them.
use Rattle.std.proofs.Common.{◌≡◌, ⊎_elim, ℕ, ◌+◌, ◌*◌, ◌/◌, ◌≤◌, List, [], ◌∷◌, length, refl, sym, ap, subst, arith}
use Rattle.std.specs.List.{count_by}
use Rattle.std.specs.Prelude.{None}
use Rattle.atomic_table.specs.Table.{State}
use Rattle.theory.specs.Numbered.{IfThere}
use Rattle.theory.specs.Position.{greatest_claim}
use Rattle.theory.proofs.Claims.{claim_bound}
use Rattle.theory.proofs.Lists.{all_replicate}
use Rattle.log_rule.specs.declared.claims.view.View.{View}
use Rattle.log_rule.specs.declared.rule.Key.{Key}
use Rattle.log_rule.specs.Table.{LogRuled}
use Rattle.model.specs.Log.{Abort, Add, Arm, Clean, Close, Commit, Connect, Join, Leave, Log, LogEvent, LogStep, Look, Miss, Move, Pass as PassBy, Raise, Retire, Rotate, Store}
use Rattle.model.specs.World.{IsOpened}
use Rattle.model.proofs.LogSteps.{IsKeptLog, log_step, room_unit}
use Rattle.model.proofs.Room.{IsKeptRoom, room_step}
use Rattle.model.proofs.WorldSteps.{KeptImage, KeptWorld, in_bounds, opened, polled, tiled}
use Rattle.threads_meaning.specs.Law.{EachStepIsAnEvent, HeadlineHolds, LogRun, StepOf, Steps, StepsAreARun, alone, opened_log}
use Rattle.threads_meaning.specs.Modelled.{IsModelOf}
use Rattle.threads_meaning.specs.Seats.{SeatsMove}
use Rattle.threads_meaning.specs.Steps.{LooksAt}
use Rattle.threads_meaning.proofs.Committing.{aborts, commits}
use Rattle.threads_meaning.proofs.Consumers.{joins, leaves, moves}
use Rattle.threads_meaning.proofs.Handing.{hands_over}
use Rattle.threads_meaning.proofs.Keeping.{cleans, closes, connects, raises}
use Rattle.threads_meaning.proofs.Looking.{looks}
use Rattle.threads_meaning.proofs.Opening.{opens_as_model}
use Rattle.threads_meaning.proofs.Publishers.{adds, arms, misses, stores, turns}
use Rattle.threads_meaning.proofs.Seats.{seats}

-- ---- one step

-- the numbers that are handed over are the same
module _ (key : Key) (gone : List ℕ) (s t : State (Unit {0}) View) (l : Log) (q : LogRuled key s) (q' : LogRuled key t) (k : IsModelOf key gone s l) where
  stays : (after : List ℕ) (e : LogEvent) → after ≡ gone → (m : Log) × LogStep [] l e m × IsModelOf key gone t m → (m : Log) × LogStep [] l e m × IsModelOf key after t m
  stays after e same r = (r.0, r.1, subst (λ (g : List ℕ). IsModelOf key g t r.0) (sym same) r.2)

  pub one_step : (after : List ℕ) (e : LogEvent) → StepOf key gone s e t after → (m : Log) × LogStep [] l e m × IsModelOf key after t m
  one_step after Look y = stays after Look y.0 (l, refl, ⊎_elim (λ (x : LooksAt s t). looks key gone s t l q' k x) (λ (x : SeatsMove key s t). seats key gone s t l q' k x) y.1)
  one_step after (Arm by seen) y = stays after (Arm by seen) y.0 (arms key gone s t l q q' k by seen y.1)
  one_step after (Add by bytes) y = stays after (Add by bytes) y.0 (adds key gone s t l q q' k by bytes y.1)
  one_step after (Miss by) y = stays after (Miss by) y.0 (misses key gone s t l q q' k by y.1.0 y.1.1)
  one_step after Store y = stays after Store y.0 (l, refl, stores key gone s t l q' k y.1)
  one_step after (Commit start frame) y = stays after (Commit start frame) y.0 (commits key gone s t l q q' k start frame y.1)
  one_step after (Abort start) y = stays after (Abort start) y.0 (aborts key gone s t l q q' k start y.1)
  one_step after Rotate y = stays after Rotate y.0 (l, refl, turns key gone s t l q' k y.1)
  one_step after (Clean least) y = stays after (Clean least) y.0 (cleans key gone s t l q q' k least y.1)
  one_step after (Raise least) y = stays after (Raise least) y.0 (raises key gone s t l q q' k least y.1)
  one_step after (Connect on) y = stays after (Connect on) y.0 (connects key gone s t l q q' k on y.1)
  one_step after Close y = stays after Close y.0 (closes key gone s t l q q' k y.1)
  one_step after (Join number at) y = stays after (Join number at) y.0 (joins key gone s t l q q' k number at y.1)
  one_step after (Leave number) y = stays after (Leave number) y.0 (leaves key gone s t l q q' k number y.1)
  one_step after (Move number past) y = stays after (Move number past) y.0 (moves key gone s t l q q' k number past y.1)
  one_step after (PassBy number past) y = absurd y
  one_step after (Retire kept number) y = let r = hands_over key gone s t l q q' k kept number y.1 in (r.0, r.1, subst (λ (g : List ℕ). IsModelOf key g t r.0) (sym y.0) r.2)

pub each_step_is_an_event : EachStepIsAnEvent
each_step_is_an_event key gone after s t e l q q' k y = one_step key gone s t l q q' k after e y

-- ---- what the model keeps

pub kept_run : (es : List LogEvent) (old new : Log) → IsKeptLog old → IsKeptRoom old → LogRun old es new → IsKeptLog new × IsKeptRoom new
kept_run [] old new k r run = (subst IsKeptLog (sym run) k, subst IsKeptRoom (sym run) r)
kept_run (e ∷ es) old new k r run = kept_run es run.0 new (log_step [] old e run.0 k run.1).kept (room_step [] old e run.0 (room_unit old k) r run.1) run.2

pub opened_room : (l : Log) → IsOpened (alone l) → IsKeptRoom l
opened_room l o =
    let g = l.identity.geometry in
    let claim : greatest_claim g ≤ g.term_length / 7 + 63 = claim_bound g o.geometry.mtu.unit o.geometry.mtu.least in
    let long : 65536 ≤ g.term_length = o.geometry.term.least in
    let none : greatest_claim g * count_by (λ a. a) l.armed ≡ greatest_claim g * 0 = ap (λ x. greatest_claim g * count_by (λ a. a) x) o.armed in
    record { geometry = o.geometry; eight = ap length o.armed; within = omega (arith, o.tail, o.limit); ahead = omega (arith, o.limit, o.cleaned) }

kept_alone : (l : Log) → IsKeptLog l → KeptWorld (alone l)
kept_alone l k = record {
  log = k;
  sender = record { passed = refl; sent = tt; read = tt; unit = k.start_unit; setups = tt };
  images = all_replicate (IfThere (KeptImage [])) 8 None tt;
}

pub holds : (l : Log) → IsKeptLog l → IsKeptRoom l → HeadlineHolds l
holds l k r = let w = kept_alone l k in record { tiled = tiled (alone l) w; bounded = in_bounds (alone l) w; polled = polled (alone l) w; room = record { tail = r.within; limit = r.ahead } }

-- ---- a list of steps

pub steps_run : (key : Key) (es : List LogEvent) (gone after : List ℕ) (s t : State (Unit {0}) View) (l : Log) → LogRuled key s → IsModelOf key gone s l → Steps key gone s es t after → (m : Log) × LogRun l es m × IsModelOf key after t m
steps_run key [] gone after s t l q k y = (l, refl, subst (λ (x : List ℕ × State (Unit {0}) View). IsModelOf key x.0 x.1 l) (λ i. (sym y.1 i, sym y.0 i)) k)
steps_run key (e ∷ es) gone after s t l q k y =
    let one = one_step key gone s y.0 l q y.2 k y.1 e y.3 in let rest = steps_run key es y.1 after y.0 t one.0 y.2 one.2 y.4 in
    (rest.0, (one.0, one.1, rest.1), rest.2)

pub steps_are_a_run : StepsAreARun
steps_are_a_run key after s t events identity q views y =
    let begun = opens_as_model key s identity q views in let run = steps_run key events [] after s t (opened_log key) q begun.1 y in
    let kept = kept_run events (opened_log key) run.0 (opened (alone (opened_log key)) begun.0).log (opened_room (opened_log key) begun.0) run.1 in
    (run.0, run.1, run.2, holds run.0 kept.0 kept.1)
