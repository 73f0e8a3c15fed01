-- What a repeater holds is the last message that it was told.
use Rattle.std.proofs.Common.{◌≡◌, ◌∙◌, ◌-◌, ◌≤◌, ◌<◌, ◌⊎◌, inl, inr, ℕ, zero, suc, List, [], ◌∷◌, length, get_or, set, Option, None, Some, refl, sym, ap, ⊎_elim, arith}
use Rattle.std.proofs.lemmas.Bool.{cases_lt}
use Rattle.subscriber.specs.Repeats.{IsDue, Repeating, Repeats, RepeatsTheLast, Runs, Steps, StepsAt, Turn, holding_none, last_told, told_by}
use Rattle.subscriber.specs.Statuses.{Sent}
use Rattle.subscriber.specs.declared.images.session_device.StatusNews.{StatusNews}
use Rattle.subscriber.specs.declared.images.session_device.StatusNews.TheVariants as news
use Rattle.subscriber.specs.declared.repeating.repeater.Held.{Held}

-- the message that is to be repeated
abbrev held_in : Option Held → Option Sent
held_in None = None
held_in (Some h) = Some h.status

is_none : (s : Sent) (sent : Option Sent) → sent ≡ None → sent ≡ Some s → ⊥
is_none s sent none some = cc

due_or_early : (now : ℕ) (h : Held) → IsDue now h ⊎ (¬ IsDue now h)
due_or_early now h = ⊎_elim (λ (lt : now - h.since < 300000000). inr (λ (due : IsDue now h). absurd (omega (arith, lt, due)))) (λ (le : 300000000 ≤ now - h.since). inl le) (cases_lt (now - h.since) 300000000)

-- where nothing is new the same is to be repeated
kept : (now : ℕ) (h : Option Held) (sent : Option Sent) (t : Repeating) → Repeats now h sent t → held_in t.held ≡ held_in h
kept now None sent t step = ap (λ (r : Repeating). held_in r.held) step.1
kept now (Some h) sent t step =
    ⊎_elim
    (λ (due : IsDue now h). ap (λ (r : Repeating). held_in r.held) (step.due due).1)
    (λ (early : ¬ IsDue now h). ap (λ (r : Repeating). held_in r.held) (step.early early).1)
    (due_or_early now h)

told : (now : ℕ) (n : Option StatusNews) (r : Repeating) (sent : Option Sent) (t : Repeating) → Steps now n r sent t → held_in t.held ≡ told_by (held_in r.held) n
told now None r sent t step = kept now r.held sent t step
told now (Some (news.Sent s)) r sent t step = ap (λ (r : Repeating). held_in r.held) step.1
told now (Some news.Cleared) r sent t step = ap (λ (r : Repeating). held_in r.held) step.1

told_along : (turns : List Turn) (r t : Repeating) → Runs r turns t → held_in t.held ≡ last_told (held_in r.held) turns
told_along [] r t run = ap (λ (r : Repeating). held_in r.held) run
told_along (a ∷ turns) r t run = told_along turns run.0 t run.2 ∙ ap (λ (b : Option Sent). last_told b turns) (told a.moment a.news r a.sent run.0 run.1)

-- what is sent where nothing is new was to be repeated
was_held : (now : ℕ) (h : Option Held) (sent : Option Sent) (t : Repeating) (s : Sent) → Repeats now h sent t → sent ≡ Some s → held_in h ≡ Some s
was_held now None sent t s step is = absurd (is_none s sent step.0 is)
was_held now (Some h) sent t s step is =
    ⊎_elim
    (λ (due : IsDue now h). sym (step.due due).0 ∙ is)
    (λ (early : ¬ IsDue now h). absurd (is_none s sent (step.early early).0 is))
    (due_or_early now h)

was_told : (now : ℕ) (n : Option StatusNews) (r : Repeating) (sent : Option Sent) (t : Repeating) (s : Sent) → Steps now n r sent t → sent ≡ Some s → (held_in r.held ≡ Some s) × (n ≡ None)
was_told now None r sent t s step is = (was_held now r.held sent t s step is, refl)
was_told now (Some (news.Sent n)) r sent t s step is = absurd (is_none s sent step.0 is)
was_told now (Some news.Cleared) r sent t s step is = absurd (is_none s sent step.0 is)

pub repeats_the_last : RepeatsTheLast
repeats_the_last turns last r t s run step is =
    let was = was_told last.moment last.news r last.sent t s step is in record {
      told = sym (told_along turns holding_none r run) ∙ was.0;
      nothing_new = was.1;
    }

-- ---- of many places

pub no_place : (place now : ℕ) (n : Option StatusNews) (rs : List Repeating) → length rs ≤ place → StepsAt place now n rs None rs
no_place place now n [] none = (refl, refl)
no_place zero now n (r ∷ rs) none = absurd (omega (arith, none))
no_place (suc place) now n (r ∷ rs) none = (rs, refl, no_place place now n rs (omega (arith, none)))

pub steps_at : (place now : ℕ) (n : Option StatusNews) (rs : List Repeating) (d t : Repeating) (sent : Option Sent) → place < length rs → Steps now n (get_or rs place d) sent t → StepsAt place now n rs sent (set rs place t)
steps_at place now n [] d t sent low step = absurd (omega (arith, low))
steps_at zero now n (r ∷ rs) d t sent low step = (t, step, refl)
steps_at (suc place) now n (r ∷ rs) d t sent low step = (set rs place t, refl, steps_at place now n rs d t sent (omega (arith, low)) step)
