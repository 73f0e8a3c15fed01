-- Clients in a row, of which one made a call.
use Rattle.std.proofs.Common.{◌≡◌, ℕ, suc, zero, ◌<◌, ◌⊎◌, List, [], ◌∷◌, sym, refl, ap, ◌∙◌, inl, inr, ⊎_elim, Some, slice_get, get_or, set, length-set}
use Rattle.std.proofs.lemmas.List.Elements.{All-set}
use Rattle.std.proofs.lemmas.Option.{slice_get_read}
use Rattle.atomic_table.specs.Seated.{TableId}
use Rattle.conductor.specs.Parties.{ClientSeen, AreFirst}
use Rattle.conductor.proofs.Rows.{queue_of}

set_cases : (xs : List ClientSeen) (i : ℕ) (x c : ClientSeen) (k : ℕ) → slice_get (set xs i x) k ≡ Some c → ((k ≡ i) × (x ≡ c)) ⊎ (slice_get xs k ≡ Some c)
set_cases [] i x c k e = inr e
set_cases (y ∷ xs) zero x c zero e = inl (refl, cc)
set_cases (y ∷ xs) zero x c (suc k) e = inr e
set_cases (y ∷ xs) (suc i) x c zero e = inr e
set_cases (y ∷ xs) (suc i) x c (suc k) e = ⊎_elim (λ (h : (k ≡ i) × (x ≡ c)). inl (ap suc h.0, h.1)) (λ h. inr h) (set_cases xs i x c k e)

-- a client that keeps its queue and its number keeps its place
pub first_set : (queue : TableId) (n : ℕ) (xs : List ClientSeen) (i : ℕ) (x : ClientSeen) → AreFirst queue n xs → x.queue ≡ queue → x.number ≡ i → AreFirst queue n (set xs i x)
first_set queue n xs i x h q is = record {
  many = length-set xs i x ∙ h.many;
  same_queue = let Q : ClientSeen → Type 0 = λ c. c.queue ≡ queue in All-set Q xs i x q h.same_queue;
  numbers = λ k c e. ⊎_elim (λ (s : (k ≡ i) × (x ≡ c)). ap (λ (y : ClientSeen). y.number) (sym s.1) ∙ is ∙ sym s.0) (λ s. h.numbers k c s) (set_cases xs i x c k e);
}

pub first_kept : (queue : TableId) (n : ℕ) (xs : List ClientSeen) (i : ℕ) (y x : ClientSeen) → AreFirst queue n xs → i < n → y ≡ get_or xs i y → x.queue ≡ y.queue → x.number ≡ y.number → AreFirst queue n (set xs i x)
first_kept queue n xs i y x h lt is q m =
    let here : slice_get xs i ≡ Some y = slice_get_read xs n i y (sym h.many) lt is in
    first_set queue n xs i x h (q ∙ queue_of queue n xs i y h here) (m ∙ h.numbers i y here)
