-- The calls of an inserter as events of the definitions.
use Rattle.std.proofs.Common.{◌≡◌, ℕ, ◌≤◌, List, [], ◌∷◌, map, max, inl, refl, sym, ap, ◌∙◌, subst, arith, true, false, ⊎_elim}
use Rattle.std.specs.List.{AllByRecursion}
use Rattle.std.proofs.lemmas.Bool.{cases_Bool, cond-true, cond-false}
use Rattle.theory.specs.Consumer.{Consumer}
use Rattle.theory.specs.Image.{Image, Inserted, IsLeast, after_insert, is_accepted}
use Rattle.theory.specs.Insert as meaning
use Rattle.theory.specs.Insert.{head_of, insert_answer}
use Rattle.theory.specs.Placed.{Placed, end_of}
use Rattle.image.specs.declared.answer.Insert.{Insert}
use Rattle.image.specs.declared.answer.Insert.TheVariants as answers
use Rattle.image.specs.Seen.{least}
use Rattle.image.specs.Stored.{meant}
use Rattle.image.proofs.Lists.{all_least, least_each}
use Rattle.image.specs.Law.{AreAhead, BeatsAreEvents, HasSeen, InsertsAreEvents, IsEvent, Shows}
use Rattle.image.specs.Rebuilding.{Inserting, Inserts, Looked, geometry_of, join_of}

-- no consumer is below the least
ahead_least : (m : ℕ) (ps : List ℕ) (cs : List Consumer) → AllByRecursion (λ p. m ≤ p) ps → AreAhead ps cs → AllByRecursion (λ c. m ≤ c.at) cs
ahead_least m [] [] low ahead = tt
ahead_least m [] (c ∷ cs) low ahead = absurd ahead
ahead_least m (p ∷ ps) [] low ahead = absurd ahead
ahead_least m (p ∷ ps) (c ∷ cs) low ahead = (let a = low.0 in let b = ahead.0 in omega arith, ahead_least m ps cs low.1 ahead.1)

is_least : (i j : Inserting) (o : Image) → join_of j ≡ join_of i → HasSeen j → Shows (record i { seen = j.seen }) o → IsLeast o (least j.seen)
is_least i j o join seen shows = record {
  low = (let a = all_least (λ p. join_of j ≤ p) j.seen seen.some seen.from in let b = shows.join in omega arith);
  all = ahead_least (least j.seen) j.seen o.consumers (least_each j.seen) shows.ahead;
}

same_join : (i j : Inserting) (stored : List Placed) (high : ℕ) → Looked i stored high j → join_of j ≡ join_of i
same_join i j stored high l = ap join_of l.after

-- what the inserter shows then
shown : (i j : Inserting) (stored : List Placed) (high : ℕ) (o : Image) → Looked i stored high j → Shows (record i { seen = j.seen }) o → Shows j (record o { stored = stored; high = high })
shown i j stored high o l shows = record {
  join = same_join i j stored high l ∙ shows.join;
  window = ap (λ (x : Inserting). x.window) l.after ∙ shows.window;
  stored = ap (λ (x : Inserting). x.stored) l.after;
  high = ap (λ (x : Inserting). x.high) l.after;
  ahead = shows.ahead;
}

module _ (i j : Inserting) (s : Placed) (o : Image) (seen : HasSeen j) (shows : Shows (record i { seen = j.seen }) o) where
  -- the answer of the definitions
  said : (a : meaning.Insert) → a ≡ insert_answer (geometry_of i) (map head_of i.stored) (least j.seen) i.window (head_of s) → a ≡ insert_answer (geometry_of i) (map head_of o.stored) (least j.seen) o.window (head_of s)
  said a e = e ∙ (λ k. insert_answer (geometry_of i) (map head_of (shows.stored k)) (least j.seen) (shows.window k) (head_of s))

  same_geometry : (stored : List Placed) (high : ℕ) → Looked i stored high j → geometry_of j ≡ geometry_of i
  same_geometry stored high l = ap geometry_of l.after

  -- an event with this answer
  event : (a : meaning.Insert) (stored : List Placed) (high : ℕ) (image : Image) → Looked i stored high j → a ≡ insert_answer (geometry_of i) (map head_of i.stored) (least j.seen) i.window (head_of s) → image ≡ after_insert o s a → Shows j image → IsEvent j o (s ∷ []) (Inserted (least j.seen) s)
  event a stored high image l e is show = record {
    image = image;
    step = (
      inl refl,
      is_least i j o (same_join i j stored high l) seen shows,
      is ∙ ap (after_insert o s) (said a e ∙ ap (λ g. insert_answer g (map head_of o.stored) (least j.seen) o.window (head_of s)) (sym (same_geometry stored high l))),
    );
    shown = show;
  }

  -- where nothing was stored
  nothing : (a : meaning.Insert) → o ≡ after_insert o s a → Looked i i.stored i.high j → a ≡ insert_answer (geometry_of i) (map head_of i.stored) (least j.seen) i.window (head_of s) → IsEvent j o (s ∷ []) (Inserted (least j.seen) s)
  nothing a stays l e = event a i.stored i.high o l e stays
      (subst (Shows j) (λ k. record o { stored = shows.stored k; high = shows.high k }) (shown i j i.stored i.high o l shows))

  inserted : (a : Insert) → meant a ≡ insert_answer (geometry_of i) (map head_of i.stored) (least j.seen) i.window (head_of s) → (a ≡ answers.Stored → Inserts i s j) → ((a ≡ answers.Stored → ⊥) → Looked i i.stored i.high j) → IsEvent j o (s ∷ []) (Inserted (least j.seen) s)
  inserted answers.Stored e stored others =
      let l = stored refl in
      event meaning.Stored (s ∷ i.stored) (max i.high (end_of s)) (record o { stored = s ∷ i.stored; high = max i.high (end_of s) }) l e
      (λ k. record o { stored = s ∷ shows.stored k; high = max (shows.high k) (end_of s) })
      (shown i j (s ∷ i.stored) (max i.high (end_of s)) o l shows)
  inserted answers.Duplicate e stored others = nothing meaning.Duplicate refl (others (λ q. cc)) e
  inserted answers.Below e stored others = nothing meaning.Below refl (others (λ q. cc)) e
  inserted answers.OverWindow e stored others = nothing meaning.OverWindow refl (others (λ q. cc)) e
  inserted answers.Overlap e stored others = nothing meaning.Overlap refl (others (λ q. cc)) e
  inserted answers.CrossesTerm e stored others = nothing meaning.CrossesTerm refl (others (λ q. cc)) e

pub inserts_are_events : InsertsAreEvents
inserts_are_events i j s a o seen shows e stored others = inserted i j s o seen shows a e stored others

pub beats_are_events : BeatsAreEvents
beats_are_events i j p o seen shows raised refused = ⊎_elim
    (λ (y : is_accepted (geometry_of i) i.high (least j.seen) p ≡ true).
    let l = raised y in let g : geometry_of j ≡ geometry_of i = ap geometry_of l.after in
    let accepted : is_accepted (geometry_of j) o.high (least j.seen) p ≡ true = (λ k. is_accepted (g k) (sym shows.high k) (least j.seen) p) ∙ y in
    record {
      image = record o { high = p };
      step = (is_least i j o (same_join i j i.stored p l) seen shows, sym (cond-true (is_accepted (geometry_of j) o.high (least j.seen) p) (record o { high = p }) o accepted));
      shown = subst (Shows j) (λ k. record o { stored = shows.stored k; high = p }) (shown i j i.stored p o l shows);
    })
    (λ (n : is_accepted (geometry_of i) i.high (least j.seen) p ≡ false).
    let l = refused n in let g : geometry_of j ≡ geometry_of i = ap geometry_of l.after in
    let not_accepted : is_accepted (geometry_of j) o.high (least j.seen) p ≡ false = (λ k. is_accepted (g k) (sym shows.high k) (least j.seen) p) ∙ n in
    record {
      image = o;
      step = (is_least i j o (same_join i j i.stored i.high l) seen shows, sym (cond-false (is_accepted (geometry_of j) o.high (least j.seen) p) (record o { high = p }) o not_accepted));
      shown = subst (Shows j) (λ k. record o { stored = shows.stored k; high = shows.high k }) (shown i j i.stored i.high o l shows);
    })
    (cases_Bool (is_accepted (geometry_of i) i.high (least j.seen) p))
