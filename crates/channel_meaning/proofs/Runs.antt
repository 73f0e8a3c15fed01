-- The messages between two positions are a run of all messages of a stream.
use Rattle.std.proofs.Common.{◌≡◌, ◌∙◌, ℕ, ◌<◌, ◌≤◌, ◌&&◌, not, nat_le, Bool, true, false, List, [], ◌∷◌, ◌++◌, ⊎_elim, refl, sym, ap, subst, cond, arith}
use Rattle.std.specs.List.{AllByRecursion}
use Rattle.std.proofs.lemmas.Bool.{cases_Bool, cases_lt, le-leb, leb-false, lt-leb}
use Rattle.theory.specs.Entry.{Entry, IsEntry, entry_end}
use Rattle.theory.specs.Messages.{is_between, is_whole, message_of, messages}
use Rattle.theory.specs.Tiling.{Tiles}
use Rattle.theory.proofs.Frames.{tiles_le}
use Rattle.model.proofs.Messages.{messages_from, messages_none}
use Rattle.channel_meaning.specs.Streams.{StandsIn}
use Rattle.channel_meaning.proofs.Streams.{messages_skip, messages_take}

abbrev IsFull : Entry → Bool
IsFull e = not e.padding && is_whole e

and_parts : (a b : Bool) → (a && b) ≡ true → (a ≡ true) × (b ≡ true)
and_parts true b h = (refl, h)
and_parts false b h = absurd (subst (λ (x : Bool). cond x ⊥ (Unit {0})) h tt)

-- an entry between two positions is between the first and the last
within : (c j q tail : ℕ) (e : Entry) → c ≤ e.start → entry_end e ≤ tail → is_between j q e ≡ true → is_between c tail e ≡ true
within c j q tail e from to h =
    let full = (and_parts (IsFull e) (nat_le j e.start) (and_parts (IsFull e && nat_le j e.start) (nat_le (entry_end e) q) h).0).0 in
    let low : nat_le c e.start ≡ true = le-leb c e.start from in
    let high : nat_le (entry_end e) tail ≡ true = le-leb (entry_end e) tail to in
    λ k. full k && low k && high k

-- one that is between the first and the last, and begins late enough, ends too late where it isn't
beyond : (c j q tail : ℕ) (e : Entry) → j ≤ e.start → is_between c tail e ≡ true → is_between j q e ≡ false → q < entry_end e
beyond c j q tail e from there not_here =
    let full = (and_parts (IsFull e) (nat_le c e.start) (and_parts (IsFull e && nat_le c e.start) (nat_le (entry_end e) tail) there).0).0 in
    let low : nat_le j e.start ≡ true = le-leb j e.start from in
    let same : is_between j q e ≡ nat_le (entry_end e) q = λ k. full k && low k && nat_le (entry_end e) q in
    leb-false (entry_end e) q (sym same ∙ not_here)

-- one that begins too early isn't
early : (j q : ℕ) (e : Entry) → e.start < j → is_between j q e ≡ false
early j q e low =
    let none : nat_le j e.start ≡ false = lt-leb j e.start low in
    (λ k. IsFull e && none k && nat_le (entry_end e) q) ∙ nothing (IsFull e) (nat_le (entry_end e) q)
  where
    nothing : (a b : Bool) → (a && false && b) ≡ false
    nothing true b = refl
    nothing false b = refl

-- those from a position on that stands before all of them are the first ones
pub beginning : (term p tail c j q : ℕ) (es : List Entry) → Tiles term p tail es → AllByRecursion IsEntry es → c ≤ p → j ≤ p → (behind : List (List ℕ)) × (messages c tail es ≡ messages j q es ++ behind)
beginning term p tail c j q [] t k low from = ([], refl)
beginning term p tail c j q (e ∷ es) t k low from =
    let here : e.start ≡ p = t.0 in
    let end = tiles_le term (entry_end e) tail es t.2 in
    let later = beginning term (entry_end e) tail c j q es t.2 k.1 (omega (arith, here, low)) (omega (arith, here, from)) in
    let c_low : c ≤ e.start = omega (arith, here, low) in
    let j_low : j ≤ e.start = omega (arith, here, from) in
    ⊎_elim
    (λ (y : is_between j q e ≡ true). (
      later.0,
      messages_take c tail e es (within c j q tail e c_low end y)
          ∙ ap (λ ms. message_of e ∷ ms) later.1
          ∙ ap (λ ms. ms ++ later.0) (sym (messages_take j q e es y)),
    ))
    (λ (n : is_between j q e ≡ false).
    ⊎_elim
    (λ (y : is_between c tail e ≡ true).
    let past = beyond c j q tail e j_low y n in
    let none : messages j q (e ∷ es) ≡ [] =
    messages_skip j q e es n
    ∙ messages_from j (entry_end e) q term (entry_end e) tail es t.2 (omega (arith, here, from)) (omega arith)
    ∙ messages_none (entry_end e) q es k.1 (omega (arith, past)) in
    (messages c tail (e ∷ es), ap (λ ms. ms ++ messages c tail (e ∷ es)) (sym none)))
    (λ (m : is_between c tail e ≡ false). (later.0, messages_skip c tail e es m ∙ later.1 ∙ ap (λ ms. ms ++ later.0) (sym (messages_skip j q e es n))))
    (cases_Bool (is_between c tail e)))
    (cases_Bool (is_between j q e))

pub run_in : (term p tail c j q : ℕ) (es : List Entry) → Tiles term p tail es → AllByRecursion IsEntry es → c ≤ p → StandsIn (messages c tail es) (messages j q es) (j ≤ p)
run_in term p tail c j q [] t k low = record { before = []; behind = []; parts = refl; first = λ h. refl }
run_in term p tail c j q (e ∷ es) t k low =
    let here : e.start ≡ p = t.0 in
    ⊎_elim
    (λ (before : p < j).
    let later = run_in term (entry_end e) tail c j q es t.2 k.1 (omega (arith, here, low)) in
    let n = early j q e (omega (arith, here, before)) in
    let same : messages j q es ≡ messages j q (e ∷ es) = sym (messages_skip j q e es n) in
    let never : j ≤ p → ⊥ = λ h. omega (arith, h, before) in
    ⊎_elim
    (λ (y : is_between c tail e ≡ true). record {
      before = message_of e ∷ later.before;
      behind = later.behind;
      parts = messages_take c tail e es y ∙ ap (λ ms. message_of e ∷ ms) later.parts ∙ ap (λ ms. message_of e ∷ (later.before ++ (ms ++ later.behind))) same;
      first = λ h. absurd (never h);
    })
    (λ (m : is_between c tail e ≡ false). record {
      before = later.before;
      behind = later.behind;
      parts = messages_skip c tail e es m ∙ later.parts ∙ ap (λ ms. later.before ++ (ms ++ later.behind)) same;
      first = λ h. absurd (never h);
    })
    (cases_Bool (is_between c tail e)))
    (λ (from : j ≤ p).
    let b = beginning term p tail c j q (e ∷ es) t k low from in
    record { before = []; behind = b.0; parts = b.1; first = λ h. refl })
    (cases_lt p j)
