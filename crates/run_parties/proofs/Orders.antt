-- A tally goes on with the next message.
use Rattle.std.proofs.Common.{◌≡◌, ◌⊎◌, inl, inr, ◌≢◌, ℕ, ◌+◌, ◌%◌, ◌^◌, ◌<◌, ◌≤◌, ◌==◌, cond, Bool, false, List, [], ◌∷◌, ◌++◌, true≢false, length, set, take, sym, ap, ◌∙◌, subst, arith}
use Rattle.std.specs.Prelude.{slice_index, slice_index_or}
use Rattle.std.proofs.Math.Nat.{eq-or-lt_of_le}
use Rattle.std.proofs.Math.ListN.{get_or-append}
use Rattle.std.proofs.Math.Seq.{get_or-append_seam, take-append_seam}
use Rattle.std.proofs.lemmas.List.{get_or-set_other, get_or-set_same, length-append, take-append-le}
use Rattle.std.proofs.lemmas.List.Sums.{count_by-le-length, sum_by-append}
use Rattle.std.proofs.lemmas.Bool.{cases_eq, eq-eqb, ne_eqb}
use Rattle.run_parties.specs.Tallies.{AreInOrder, Continues, Counted, IsNext, IsTallyOf, count_of, publisher_of}

-- messages that are in order, and the next one behind them
pub in_order : (ms : List (List ℕ)) (m : List ℕ) → AreInOrder ms → IsNext ms m → AreInOrder (ms ++ m ∷ [])
in_order ms m all next k low = at (eq-or-lt_of_le (short k low))
  where
    short : (k : ℕ) → k < length (ms ++ m ∷ []) → k ≤ length ms
    short k low = let e = length-append ms (m ∷ []) in omega arith

    at : (k ≡ length ms) ⊎ (k < length ms) → IsNext (take k (ms ++ m ∷ [])) (slice_index_or (ms ++ m ∷ []) k [])
    at (inl e) =
        subst (λ (j : ℕ). IsNext (take j (ms ++ m ∷ [])) (slice_index_or (ms ++ m ∷ []) j [])) (sym e)
        (subst (λ (xs : List (List ℕ)). IsNext xs (slice_index_or (ms ++ m ∷ []) (length ms) [])) (sym (take-append_seam ms (m ∷ [])))
        (subst (IsNext ms) (sym (get_or-append_seam ms m [] [])) next))
    at (inr below) =
        subst (λ (xs : List (List ℕ)). IsNext xs (slice_index_or (ms ++ m ∷ []) k [])) (sym (take-append-le k ms (m ∷ []) (omega arith)))
        (subst (IsNext (take k ms)) (sym (get_or-append ms (m ∷ []) [] k below)) (all k below))

-- what is in order was so before its last one, which is the next one behind the others
pub before_last : (ms : List (List ℕ)) (m : List ℕ) → AreInOrder (ms ++ m ∷ []) → AreInOrder ms × IsNext ms m
before_last ms m all = (front, last)
  where
    e : length (ms ++ m ∷ []) ≡ length ms + 1
    e = length-append ms (m ∷ [])

    front : AreInOrder ms
    front k low =
        subst (λ (xs : List (List ℕ)). IsNext xs (slice_index_or ms k [])) (take-append-le k ms (m ∷ []) (let z = low in omega arith))
        (subst (IsNext (take k (ms ++ m ∷ []))) (get_or-append ms (m ∷ []) [] k low) (all k (let a = e in let z = low in omega arith)))

    last : IsNext ms m
    last =
        subst (λ (xs : List (List ℕ)). IsNext xs m) (take-append_seam ms (m ∷ []))
        (subst (IsNext (take (length ms) (ms ++ m ∷ []))) (get_or-append_seam ms m [] []) (all (length ms) (let a = e in omega arith)))

-- one more of a publisher's
pub one_more : (p : ℕ) (ms : List (List ℕ)) (m : List ℕ) → count_of p (ms ++ m ∷ []) ≡ count_of p ms + cond (publisher_of m == p) 1 0
one_more p ms m = let a = sum_by-append (λ x. cond (publisher_of x == p) 1 0) ms (m ∷ []) in omega arith

few : (p : ℕ) (ms : List (List ℕ)) → count_of p ms ≤ length ms
few p ms = count_by-le-length (λ m. publisher_of m == p) ms

-- the counts, with one more of the publisher's that the message names
counted_more : (ms : List (List ℕ)) (m : List ℕ) (counts : List ℕ) (q : ℕ) → length counts ≡ 8 → q ≡ publisher_of m → q < 8 → length ms < 2 ^ 63
    → ((p : ℕ) → p < 8 → slice_index counts p ≡ count_of p ms) → (p : ℕ) → p < 8 → slice_index (set counts q ((slice_index counts q + 1) % 2 ^ 64)) p ≡ count_of p (ms ++ m ∷ [])
counted_more ms m counts q long is low room all p small = either (cases_eq p q)
  where
    either : (p ≡ q) ⊎ (p ≢ q) → slice_index (set counts q ((slice_index counts q + 1) % 2 ^ 64)) p ≡ count_of p (ms ++ m ∷ [])
    either (inl e) =
        let a = all q low in let b = few q ms in
        let plus : count_of q (ms ++ m ∷ []) ≡ count_of q ms + 1 = one_more q ms m ∙ ap (λ (b : Bool). count_of q ms + cond b 1 0) (eq-eqb _ _ (sym is)) in
        subst (λ (j : ℕ). slice_index (set counts q ((slice_index counts q + 1) % 2 ^ 64)) j ≡ count_of j (ms ++ m ∷ [])) (sym e)
        (get_or-set_same counts q _ _ (omega arith) ∙ (let c : (slice_index counts q + 1) % 2 ^ 64 ≡ count_of q ms + 1 = omega arith in c) ∙ sym plus)
    either (inr n) =
        let same : count_of p (ms ++ m ∷ []) ≡ count_of p ms + 0 = one_more p ms m ∙ ap (λ (b : Bool). count_of p ms + cond b 1 0) (ne_eqb _ _ (λ e. n (sym e ∙ sym is))) in
        get_or-set_other counts q p _ _ n ∙ all p small ∙ (let c : count_of p ms ≡ count_of p ms + 0 = omega arith in c) ∙ sym same

-- a message that is the next one of its publisher
pub goes_on : (ms : List (List ℕ)) (m : List ℕ) (t : Counted) (q : ℕ) → length t.counts ≡ 8 → length ms < 2 ^ 63 → IsTallyOf ms t → q ≡ publisher_of m → Continues t m
    → IsTallyOf (ms ++ m ∷ []) (record { polled = (t.polled + 1) % 2 ^ 64; kept = t.kept; counts = set t.counts q ((slice_index t.counts q + 1) % 2 ^ 64) })
goes_on ms m t q long room is whose c = record {
  many = let a = is.many in let b = length-append ms (m ∷ []) in omega arith;
  order = (
    (λ kept. in_order ms m (is.order.0 kept) (record { whole = c.whole; known = c.known; next = c.next ∙ is.counts kept (publisher_of m) c.known })),
    (λ all. is.order.1 (before_last ms m all).0),
  );
  counts = λ kept. counted_more ms m t.counts q long whose (let k = c.known in omega arith) room (is.counts kept);
}

-- and one that isn't
pub breaks : (ms : List (List ℕ)) (m : List ℕ) (t : Counted) → length ms < 2 ^ 63 → IsTallyOf ms t → (Continues t m → ⊥)
    → IsTallyOf (ms ++ m ∷ []) (record { polled = (t.polled + 1) % 2 ^ 64; kept = false; counts = t.counts })
breaks ms m t room is not = record {
  many = let a = is.many in let b = length-append ms (m ∷ []) in omega arith;
  order = (
    (λ kept. absurd (true≢false (sym kept))),
    (λ all. let both = before_last ms m all in let kept = is.order.1 both.0 in
        absurd (not (record { whole = both.1.whole; known = both.1.known; next = both.1.next ∙ sym (is.counts kept (publisher_of m) both.1.known) }))),
  );
  counts = λ kept. absurd (true≢false (sym kept));
}
