-- Subscribers and the receivers that they show, one more at the end.
use Rattle.std.proofs.Common.{◌≡◌, ◌∙◌, ◌<◌, ◌+◌, ℕ, List, [], ◌∷◌, ◌++◌, take, map, sym, ap, subst, arith}
use Rattle.std.specs.Prelude.{ℤ, suc}
use Rattle.std.proofs.Math.Seq.{take-suc}
use Rattle.std.proofs.lemmas.List.{map-append}
use Rattle.theory.specs.Bytes.{Identity}
use Rattle.receiver.specs.Receiving.{Receiver, listening}
use Rattle.receiver.specs.Representing.{Core, Represents}
use Rattle.script_meaning.specs.ScriptState.{listening_at, numbers}
use Rattle.simulation.specs.Simulated.{AllShow}
use Rattle.script_meaning.proofs.Numbers.{number_at}
use Rattle.receiver.specs.Subscribing.{RepresentsSubscriber, Subscribing}

snoc_shows : (vs : List Subscribing) (rs : List Receiver) (v : Subscribing) (r : Receiver) → AllShow vs rs → RepresentsSubscriber v r → AllShow (vs ++ v ∷ []) (rs ++ r ∷ [])
snoc_shows [] [] v r h k = (k, tt)
snoc_shows [] (s ∷ rs) v r h k = absurd h
snoc_shows (w ∷ vs) [] v r h k = absurd h
snoc_shows (w ∷ vs) (s ∷ rs) v r h k = (h.0, snoc_shows vs rs v r h.1 k)

-- the first receivers are shown
abbrev pub FirstListen : Identity → ℕ → List Subscribing → Type 0
FirstListen i k vs = AllShow vs (map (listening_at i) (take k numbers))

one_more_number : (k : ℕ) → k < 8 → take (suc k) numbers ≡ take k numbers ++ k ∷ []
one_more_number k h = take-suc numbers k 0 h ∙ ap (λ (n : ℕ). take k numbers ++ n ∷ []) (number_at k h)

one_more_listening : (i : Identity) (k : ℕ) → k < 8 → map (listening_at i) (take (suc k) numbers) ≡ map (listening_at i) (take k numbers) ++ listening_at i k ∷ []
one_more_listening i k h = ap (map (listening_at i)) (one_more_number k h) ∙ map-append (listening_at i) (take k numbers) (k ∷ [])

next_listens : (i : Identity) (k : ℕ) (vs : List Subscribing) (v : Subscribing) → k < 8 → FirstListen i k vs → RepresentsSubscriber v (listening_at i k) → FirstListen i (suc k) (vs ++ v ∷ [])
next_listens i k vs v below h s =
    subst (AllShow (vs ++ v ∷ [])) (sym (one_more_listening i k below)) (snoc_shows vs (map (listening_at i) (take k numbers)) v (listening_at i k) h s)

pub one_more : (i : Identity) (k : ℕ) (vs ws : List Subscribing) (v : Subscribing) → k < 8 → FirstListen i k vs → RepresentsSubscriber v (listening_at i k) → ws ≡ vs ++ v ∷ [] → FirstListen i (k + 1) ws
one_more i k vs ws v below h s e =
    let next : suc k ≡ k + 1 = omega arith in
    subst (FirstListen i (k + 1)) (sym e)
    (subst (λ (n : ℕ). FirstListen i n (vs ++ v ∷ [])) next (next_listens i k vs v below h s))

pub shows_listening : (v : Core) (s t a b : ℤ) (w x : ℕ) (n m : ℤ) (g : ℕ) → s ≡ a → t ≡ b → w ≡ x → n ≡ m → Represents v (listening s t w n 1 g) → Represents v (listening a b x m 1 g)
shows_listening v s t a b w x n m g es et ew en h =
    subst (λ (z : ℤ). Represents v (listening a b x z 1 g)) en
    (subst (λ (z : ℕ). Represents v (listening a b z n 1 g)) ew
    (subst (λ (z : ℤ). Represents v (listening a z w n 1 g)) et
    (subst (λ (z : ℤ). Represents v (listening z t w n 1 g)) es h)))
