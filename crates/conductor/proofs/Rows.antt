-- Clients in a row.
use Rattle.std.proofs.Common.{◌≡◌, ℕ, suc, zero, ◌+◌, ◌<◌, ◌≤◌, ◌⊎◌, List, [], ◌∷◌, ◌++◌, length, map, sym, refl, ap, ◌∙◌, inl, inr, ⊎_elim, arith, length-append, append_assoc, Some, slice_get, get_or, subst}
use Rattle.std.proofs.lemmas.List.{get_or_past, length-map}
use Rattle.std.proofs.lemmas.List.Elements.{All-append, All-from_get_or, All-get_or}
use Rattle.std.proofs.lemmas.Option.{get_or_from_slice_get, slice_get_within}
use Rattle.atomic_table.specs.Seated.{TableId}
use Rattle.conductor.specs.Parties.{ClientSeen, AreFirst, AreFresh, accepted_of}

seam : (xs : List ClientSeen) (x : ClientSeen) (ys : List ClientSeen) → slice_get (xs ++ x ∷ ys) (length xs) ≡ Some x
seam [] x ys = refl
seam (y ∷ xs) x ys = seam xs x ys

seam_accepted : (xs : List ClientSeen) (x : ClientSeen) (ys : List ClientSeen) → accepted_of (xs ++ x ∷ ys) (length xs) ≡ x.accepted
seam_accepted [] x ys = refl
seam_accepted (y ∷ xs) x ys = seam_accepted xs x ys

-- behind the last one nothing was accepted
pub past_all : (clients : List ClientSeen) (p : ℕ) → length clients ≤ p → accepted_of clients p ≡ []
past_all clients p le = get_or_past (map (λ (c : ClientSeen). c.accepted) clients) p [] (simp length-map le)

-- one more behind a row: it is the last, or one of the others
snoc_cases : (xs : List ClientSeen) (x c : ClientSeen) (k : ℕ) → slice_get (xs ++ x ∷ []) k ≡ Some c → (slice_get xs k ≡ Some c) ⊎ ((k ≡ length xs) × (x ≡ c))
snoc_cases [] x c zero e = inr (refl, cc)
snoc_cases [] x c (suc k) e = absurd (cc)
snoc_cases (y ∷ xs) x c zero e = inl e
snoc_cases (y ∷ xs) x c (suc k) e = ⊎_elim (λ h. inl h) (λ (h : (k ≡ length xs) × (x ≡ c)). inr (ap suc h.0, h.1)) (snoc_cases xs x c k e)

pub first_more : (queue : TableId) (n : ℕ) (xs : List ClientSeen) (x : ClientSeen) → AreFirst queue n xs → x.queue ≡ queue → x.number ≡ n → AreFirst queue (n + 1) (xs ++ x ∷ [])
first_more queue n xs x h q is = record {
  many = length-append xs (x ∷ []) ∙ ap (λ m. m + 1) h.many;
  same_queue = let Q : ClientSeen → Type 0 = λ c. c.queue ≡ queue in All-append Q xs (x ∷ []) h.same_queue (All-from_get_or Q (x ∷ []) x (λ k lt. only k lt));
  numbers = λ k c e. ⊎_elim (λ s. h.numbers k c s) (λ (s : (k ≡ length xs) × (x ≡ c)). ap (λ (y : ClientSeen). y.number) (sym s.1) ∙ is ∙ sym h.many ∙ sym s.0) (snoc_cases xs x c k e);
}
  where
    only : (k : ℕ) → k < 1 → (get_or (x ∷ []) k x).queue ≡ queue
    only zero lt = q
    only (suc k) lt = absurd (omega (arith, lt))

-- each is of the queue
pub queue_of : (queue : TableId) (n : ℕ) (xs : List ClientSeen) (k : ℕ) (c : ClientSeen) → AreFirst queue n xs → slice_get xs k ≡ Some c → c.queue ≡ queue
queue_of queue n xs k c h e =
    let Q : ClientSeen → Type 0 = λ y. y.queue ≡ queue in
    subst Q (get_or_from_slice_get xs k c c e) (All-get_or Q xs k c (slice_get_within xs k c e) h.same_queue)

pub fresh_more : (xs : List ClientSeen) (x : ClientSeen) → AreFresh xs → x.accepted ≡ [] → AreFresh (xs ++ x ∷ [])
fresh_more xs x h none = λ k c e. ⊎_elim (λ s. h k c s) (λ (s : (k ≡ length xs) × (x ≡ c)). ap (λ (y : ClientSeen). y.accepted) (sym s.1) ∙ none) (snoc_cases xs x c k e)

-- the last of those that are left, where others have gone
pub record IsLast (all front : List ClientSeen) (x : ClientSeen) (gone : List ClientSeen) : Type 0 where
  pub whole : all ≡ front ++ x ∷ gone
  pub here : slice_get all (length front) ≡ Some x
  pub accepted : accepted_of all (length front) ≡ x.accepted

pub last_of : (all front : List ClientSeen) (x : ClientSeen) (gone : List ClientSeen) → all ≡ (front ++ x ∷ []) ++ gone → IsLast all front x gone
last_of all front x gone e =
    let whole : all ≡ front ++ x ∷ gone = e ∙ append_assoc front (x ∷ []) gone in
    record { whole = whole; here = ap (λ l. slice_get l (length front)) whole ∙ seam front x gone; accepted = ap (λ l. accepted_of l (length front)) whole ∙ seam_accepted front x gone }
