-- What has been done where a status says so.
use Rattle.std.proofs.Common.{◌≡◌, ◌≢◌, ◌⊎◌, ◌≤◌, ℕ, IsTrue, ap, inl, inr, List, [], ◌∷◌, Option, Result, Ok, Err, refl, sym, ◌∙◌, arith, subst, drop, true≢false}
use mathlib.Core.List.{cons≢nil}
use Rattle.std.specs.Prelude.{IfOk, OnOk, is_ok}
use Rattle.clap.specs.Words.{Kinds, Text}
use Rattle.command_line.specs.Readers.{faults_by, faults_of, reader_of}
use Rattle.command_line.specs.Refusals.{IsFaultOf}
use Rattle.command_line.specs.declared.fault.LineFault.{LineFault}
use Rattle.command_line.specs.declared.fault.LineFault.TheVariants.{Memory, Shown}
use Rattle.options.specs.declared.ends.plans.SubscribePlan.{SubscribePlan}
use Rattle.peer.specs.declared.attendance.Ending.{Ending as Published}
use Rattle.peer.specs.declared.attendance.Ending.TheVariants as published
use Rattle.publisher.specs.declared.fault.PublishFault.{PublishFault}
use Rattle.subscriber.specs.Endings.{HasEnded}
use Rattle.subscriber.specs.Living.{Writes, WritesPlaces}
use Rattle.subscriber.specs.declared.ending.Ending.{Ending as EndedAs}
use Rattle.subscriber.specs.declared.ending.Ending.TheVariants as subscribed
use Rattle.subscriber.specs.declared.ending.Subscribed.{Subscribed}
use Rattle.subscriber.specs.declared.fault.SubscribeFault.{SubscribeFault}
use Rattle.command_line.specs.declared.readers.Reader.{Reader}
use Rattle.commands.specs.Done.{IsDone, IsDoneBy, IsShort, IsShortBy, IsSubscribed}
use Rattle.commands.specs.Statuses.{IsLineStatus, done_status, published_status, subscribed_as, subscribed_status}

pub done_whole : {T F : Type 0} (r : Result T F) (P : Type 0) → OnOk r P → done_status r ≡ 0 → P
done_whole (Ok x) P h is = h
done_whole (Err e) P h is = absurd (omega (arith, is))

-- of a call whose fault was made another
pub done_mapped : {T E F : Type 0} (r : Result T E) (m : Result T F) (P : Type 0) → OnOk r P → is_ok m ≡ is_ok r → done_status m ≡ 0 → P
done_mapped (Ok x) m P h same is = h
done_mapped (Err e) (Ok y) P h same is = absurd (true≢false same)
done_mapped (Err e) (Err f) P h same is = absurd (omega (arith, is))

pub published_whole : (r : Result Published PublishFault) (P : Type 0) → (r ≡ Ok published.Whole → P) → published_status r ≡ 0 → P
published_whole (Ok published.Whole) P h is = h refl
published_whole (Ok published.Short) P h is = absurd (omega (arith, is))
published_whole (Err fault) P h is = absurd (omega (arith, is))

-- by what it ended as
pub told_whole : (P : EndedAs → Type 0) (n : ℕ) → n ≡ 0 → (e : EndedAs) × (n ≡ subscribed_as e) × P e → P subscribed.Whole
told_whole P n zero (subscribed.Whole, is, p) = p
told_whole P n zero (subscribed.Short, is, p) = absurd (omega (arith, is, zero))
told_whole P n zero (subscribed.Lost, is, p) = absurd (omega (arith, is, zero))

pub told_short : (P : EndedAs → Type 0) (n : ℕ) → n ≡ 3 → (e : EndedAs) × (n ≡ subscribed_as e) × P e → P subscribed.Short ⊎ P subscribed.Lost
told_short P n three (subscribed.Whole, is, p) = absurd (omega (arith, is, three))
told_short P n three (subscribed.Short, is, p) = inl p
told_short P n three (subscribed.Lost, is, p) = inr p

pub subscribed_so : (p : SubscribePlan) (before after : Option (List ℕ)) (r : Result Subscribed SubscribeFault)
    → IfOk r (λ s. Writes p.end.form 0 before s.messages after) → IfOk r (λ s. WritesPlaces p before s.messages after)
    → IfOk r (λ s. s.messages ≤ p.messages) → IfOk r (λ s. HasEnded p before s after)
    → subscribed_status r ≢ 1 → (e : EndedAs) × (subscribed_status r ≡ subscribed_as e) × IsSubscribed p before after e
subscribed_so p before after (Ok s) w l f h not = (s.ending, refl, record { done = s; ended_as = refl; few = f; writes = w; lives = l; ended = h })
subscribed_so p before after (Err fault) w l f h not = absurd (not refl)

-- one that ended with 3 was to end with the stream, or has lost an image
pub once_so : (p : SubscribePlan) (before after : Option (List ℕ)) (r : Result Subscribed SubscribeFault)
    → IfOk r (λ s. Writes p.end.form 0 before s.messages after) → IfOk r (λ s. WritesPlaces p before s.messages after)
    → IfOk r (λ s. s.messages ≤ p.messages) → IfOk r (λ s. HasEnded p before s after) → IfOk r (λ s. s.ending ≡ subscribed.Short → IsTrue p.once)
    → subscribed_status r ≡ 3 → IsTrue p.once ⊎ IsSubscribed p before after subscribed.Lost
once_so p before after (Ok s) w l f h once three = by_ending s.ending refl
  where
    by_ending : (e : EndedAs) → s.ending ≡ e → IsTrue p.once ⊎ IsSubscribed p before after subscribed.Lost
    by_ending subscribed.Whole is = absurd (let whole : 0 ≡ 3 = sym (ap subscribed_as is) ∙ three in omega (arith, whole))
    by_ending subscribed.Short is = inl (once is)
    by_ending subscribed.Lost is = inr (record { done = s; ended_as = is; few = f; writes = w; lives = l; ended = h })
once_so p before after (Err fault) w l f h once three = absurd (omega (arith, three))

-- a line against which nothing is held isn't refused for its words
pub none_held : (faults : Kinds) (fault : LineFault) (status : ℕ) → IsFaultOf faults fault → IsLineStatus fault status → faults ≡ [] → status ≡ 0 → ⊥
none_held [] (Shown e) status is line none done = is.0
none_held [] Memory status is line none done = let one = line.memory refl in omega (arith, one, done)
none_held (kind ∷ rest) fault status is line none done = absurd (cons≢nil none)

pub none_short : (fault : LineFault) (status : ℕ) → IsLineStatus fault status → status ≡ 3 → ⊥
none_short fault status line three = let most = line.most in omega (arith, most, three)

-- by who reads the line
pub done_by : (words : List Text) (r : Reader) (n : ℕ) (input before after : Option (List ℕ)) → r ≡ reader_of (drop 1 words)
    → (faults_by r words ≡ [] → n ≡ 0 → IsDoneBy r words input before after) → faults_of words ≡ [] → n ≡ 0 → IsDone words input before after
done_by words r n input before after is h = subst (λ (x : Reader). faults_by x words ≡ [] → n ≡ 0 → IsDoneBy x words input before after) is h

pub short_by : (words : List Text) (r : Reader) (n : ℕ) (before after : Option (List ℕ)) → r ≡ reader_of (drop 1 words)
    → (n ≡ 3 → IsShortBy r words before after) → n ≡ 3 → IsShort words before after
short_by words r n before after is h = subst (λ (x : Reader). n ≡ 3 → IsShortBy x words before after) is h

pub no_version : (n : ℕ) → n ≤ 1 → n ≡ 3 → ⊥
no_version n few three = omega (arith, few, three)
