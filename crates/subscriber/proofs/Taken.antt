-- The oldest of what was routed to a device is taken.
use Rattle.std.proofs.Common.{◌≡◌, ◌∙◌, ℕ, min, List, ◌∷◌, ◌++◌, length, take, drop, Some, sym, ap, subst, arith, length-append}
use Rattle.std.proofs.lemmas.List.{length-drop, length-take}
use Rattle.std.proofs.Math.Seq.{take-append_seam}
use Rattle.subscriber.specs.Hearings.{Following, Routed, Takes, TakesFrom, notes_after}

front_long : (bytes old new : List ℕ) (n : ℕ) → n ≡ min (length bytes) (length old) → new ≡ take n bytes → length new ≡ n
front_long bytes old new n size front = omega (arith, size, ap (length {A = ℕ}) front, length-take n bytes)

front_kept : (bytes old new : List ℕ) (n : ℕ) → n ≡ min (length bytes) (length old) → length new ≡ n → length (new ++ drop n old) ≡ length old
front_kept bytes old new n size long = omega (arith, size, long, length-append new (drop n old), length-drop n old)

-- it stands at the buffer's front, as far as there is room
pub takes_one : {D : Type 0} (f g : Following D) (r : Routed) (rest : List Routed) (n : ℕ) (old new : List ℕ) → f.inbox ≡ r ∷ rest → n ≡ min (length r.bytes) (length old) → new ≡ take n r.bytes
    → g ≡ record f { inbox = rest; notes = notes_after f.session f.stream r.first f.notes } → Takes f (Some n) (new ++ drop n old) g
takes_one f g r rest n old new is size front after =
    let after_it : List ℕ = new ++ drop n old in
    let long : length new ≡ n = front_long r.bytes old new n size front in
    let same : n ≡ min (length r.bytes) (length after_it) = size ∙ ap (λ k. min (length r.bytes) k) (sym (front_kept r.bytes old new n size long)) in
    subst (λ (xs : List Routed). TakesFrom f xs (Some n) after_it g) (sym is) (record {
      size = ap Some same;
      front = subst (λ (k : ℕ). take k after_it ≡ take k r.bytes) same (ap (λ k. take k after_it) (sym long) ∙ take-append_seam new (drop n old) ∙ front);
      is = after;
    })
