-- Whether a sender has heard a status message, over the datagrams and the moment of a cycle.
use Rattle.std.proofs.Common.{◌≡◌, ◌⊎◌, inl, inr, ℕ, ℤ, Bool, true, List, [], ◌∷◌, ap, ◌∙◌, subst}
use Rattle.theory.specs.Bytes.{Identity}
use Rattle.theory.specs.Placed.{Placed}
use Rattle.theory.specs.Wire.{Status}
use Rattle.frame_source.specs.Sources.{Source}
use Rattle.sender.specs.Cycling.{IsNews, NewsContent, Says, AsksSetup, Misses, TellsNothing, Unreadable}
use Rattle.sender.specs.Sending.{HearsNews, Sending, at_moment}
use Rattle.sender.specs.declared.sender_core.SenderAnswer.{SenderAnswer}
use Rattle.agents.specs.Cycles.{HearsAll}
use Rattle.agents.specs.Duties.{HaveStatus, Hears, Ticks}

abbrev heard_of : {R F : Type 0} → Sending R F → Bool
heard_of s = s.heard

abbrev identity_of : {R F : Type 0} → Sending R F → Identity
identity_of s = s.identity

same_identity : {R F : Type 0} (after_status : F → ℤ → ℤ → ℤ → ℕ → F) (reached : F → ℕ) (has_heard : F → Bool) (s : Sending R F) (news : NewsContent) (answer : SenderAnswer) (t : Sending R F) (sent : List (List ℕ)) → HearsNews after_status reached has_heard s news answer t sent → t.identity ≡ s.identity
same_identity after_status reached has_heard s (Says f) answer t sent h = ap identity_of h.0
same_identity after_status reached has_heard s AsksSetup answer t sent h = ap identity_of h.0
same_identity after_status reached has_heard s (Misses f) answer t sent h = ap identity_of h.3
same_identity after_status reached has_heard s TellsNothing answer t sent h = ap identity_of h.0
same_identity after_status reached has_heard s (Unreadable fault) answer t sent h = ap identity_of h.0

-- it stays as it was, or a status message came
abbrev Heard : {R F : Type 0} → Sending R F → Sending R F → Type 0 → Type 0
Heard s t Came = (t.heard ≡ s.heard) ⊎ ((t.heard ≡ true) × Came)

by_news : {R F : Type 0} (after_status : F → ℤ → ℤ → ℤ → ℕ → F) (reached : F → ℕ) (has_heard : F → Bool) (i : Identity) (bytes : List ℕ) (s : Sending R F) (news : NewsContent) (answer : SenderAnswer) (t : Sending R F) (sent : List (List ℕ)) → HearsNews after_status reached has_heard s news answer t sent → IsNews i bytes news → Heard s t ((f : Status) × IsNews i bytes (Says f))
by_news after_status reached has_heard i bytes s (Says f) answer t sent h is = inr (ap heard_of h.0, (f, is))
by_news after_status reached has_heard i bytes s AsksSetup answer t sent h is = inl (ap heard_of h.0)
by_news after_status reached has_heard i bytes s (Misses f) answer t sent h is = inl (ap heard_of h.3)
by_news after_status reached has_heard i bytes s TellsNothing answer t sent h is = inl (ap heard_of h.0)
by_news after_status reached has_heard i bytes s (Unreadable fault) answer t sent h is = inl (ap heard_of h.0)

joined : {R F : Type 0} (s t u : Sending R F) (First Rest : Type 0) → Heard s t First → Heard t u Rest → Heard s u (First ⊎ Rest)
joined s t u First Rest (inl a) (inl b) = inl (b ∙ a)
joined s t u First Rest (inr a) (inl b) = inr (b ∙ a.0, inl a.1)
joined s t u First Rest a (inr b) = inr (b.0, inr b.1)

-- over datagrams one after the other
by_all : {R F : Type 0} (source : R → Source) (leaves : R → R → Type 0) (after_status : F → ℤ → ℤ → ℤ → ℕ → F) (reached : F → ℕ) (has_heard : F → Bool) (now : ℕ) (s : Sending R F) (ds : List (List ℕ)) (t : Sending R F) (given : List (List ℕ)) → HearsAll (Hears source leaves after_status reached has_heard) now s ds t given → Heard s t (HaveStatus s.identity ds)
by_all source leaves after_status reached has_heard now s [] t given h = inl (ap heard_of h.0)
by_all source leaves after_status reached has_heard now s (d ∷ ds) t given h =
    let k = h.3.hears.hears in
    joined s h.0 t _ _
    (by_news after_status reached has_heard s.identity d (at_moment s now) k.news h.3.hears.answer h.0 h.1 k.hears k.is)
    (subst (λ i. Heard h.0 t (HaveStatus i ds)) (same_identity after_status reached has_heard (at_moment s now) k.news h.3.hears.answer h.0 h.1 k.hears) (by_all source leaves after_status reached has_heard now h.0 ds t h.2 h.4))

-- and then a moment, which doesn't change it
on_tick : {R F : Type 0} (s t u : Sending R F) (Came : Type 0) → Heard s t Came → u.heard ≡ t.heard → Heard s u Came
on_tick s t u Came (inl a) e = inl (e ∙ a)
on_tick s t u Came (inr a) e = inr (e ∙ a.0, a.1)

-- a sender that has heard after a cycle had heard before, or a status message came in it: datagrams, and then the moment
pub by_cycle : {R F : Type 0} (source : R → Source) (leaves : R → R → Type 0) {looked : R → R → Type 0} (after_status : F → ℤ → ℤ → ℤ → ℕ → F) (reached : F → ℕ) (has_heard : F → Bool) (grown : List Placed → List Placed → Type 0) (after_tick : F → ℕ → F) (now : ℕ) (s : Sending R F) (ds : List (List ℕ)) (m : Sending R F) (answers : List (List ℕ)) (t : Sending R F) (given : List (List ℕ))
    → HearsAll (Hears source leaves after_status reached has_heard) now s ds m answers → Ticks source leaves looked grown after_tick reached m now t given → Heard s t (HaveStatus s.identity ds)
by_cycle source leaves after_status reached has_heard grown after_tick now s ds m answers t given heard ticked = on_tick s m t _ (by_all source leaves after_status reached has_heard now s ds m answers heard) (ap heard_of ticked.cycles.state)

keeps : {R F : Type 0} (s t : Sending R F) (Came : Type 0) → Heard s t Came → s.heard ≡ true → t.heard ≡ true
keeps s t Came (inl a) on = a ∙ on
keeps s t Came (inr a) on = a.0

-- over datagrams one after the other, and over a moment
pub all_keep : {R F : Type 0} (source : R → Source) (leaves : R → R → Type 0) (after_status : F → ℤ → ℤ → ℤ → ℕ → F) (reached : F → ℕ) (has_heard : F → Bool) (now : ℕ) (s : Sending R F) (ds : List (List ℕ)) (t : Sending R F) (given : List (List ℕ)) → HearsAll (Hears source leaves after_status reached has_heard) now s ds t given → s.heard ≡ true → t.heard ≡ true
all_keep source leaves after_status reached has_heard now s ds t given h on = keeps s t _ (by_all source leaves after_status reached has_heard now s ds t given h) on

pub tick_keeps : {R F : Type 0} (source : R → Source) (leaves : R → R → Type 0) {looked : R → R → Type 0} (grown : List Placed → List Placed → Type 0) (after_tick : F → ℕ → F) (reached : F → ℕ) (now : ℕ) (s t : Sending R F) (given : List (List ℕ)) → Ticks source leaves looked grown after_tick reached s now t given → s.heard ≡ true → t.heard ≡ true
tick_keeps source leaves grown after_tick reached now s t given k on = ap heard_of k.cycles.state ∙ on
