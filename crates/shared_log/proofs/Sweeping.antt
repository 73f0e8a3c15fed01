-- Consumers that are there are seen one after the other.
use Rattle.std.proofs.Common.{◌≡◌, ◌≢◌, inl, inr, ℕ, zero, suc, ◌+◌, ◌%◌, ◌<◌, ◌≤◌, min, List, [], ◌∷◌, ◌++◌, append_assoc, length, map, take, set, length-set, length-append, get_or-set_same, get_or-set_other, sym, refl, ap, ◌∙◌, subst, ⊎_elim, ◌⊎◌, lt_of_not-le, arith}
use Rattle.std.specs.Prelude.{slice_index}
use Rattle.std.specs.List.{fold}
use mathlib.Core.Logic.{dite}
use native.Mathlib.Decide.{ℕ_discrete, dec_le}
use Rattle.std.proofs.lemmas.List.{map-append}
use Rattle.theory.specs.Bytes.{Identity}
use Rattle.theory.specs.Placed.{Among}
use Rattle.theory.specs.Position.{max_position}
use Rattle.publication.specs.declared.pass.Keeping.{Keeping}
use Rattle.publication.specs.declared.pass.Pass.{Pass}
use Rattle.shared_log.specs.Steps.Handles.{IsOf, LogValue}
use Rattle.log_rule.specs.Kept.{IsThere}
use Rattle.log_rule.specs.Keepings.{MayStand, SeesConsumer, least_of, least_there, numbered, with_keeping}
use Rattle.log_rule.proofs.Growing.{there_low}
use Rattle.log_rule.proofs.Keeping.{among_numbered}
use Rattle.shared_log.specs.Keepers.{IsKeeping, KeepsAs, KeeperValue, ReadsConsumer, SameFreed, Sweeps, TookSteps, reads_of, seen_positions, there_of, those_there, with_reads}
use Rattle.shared_log.proofs.Stepping.{keeping_is, keeps_then}

-- ---- the numbers of those who are there

-- one flag more
taken_next : (there : List ℕ) (j : ℕ) → j < length there → take (suc j) there ≡ take j there ++ slice_index there j ∷ []
taken_next [] j lt = absurd (omega arith)
taken_next (x ∷ xs) zero lt = refl
taken_next (x ∷ xs) (suc j) lt = ap (λ (l : List ℕ). x ∷ l) (taken_next xs j (omega arith))

numbered_append : (from : ℕ) (xs ys : List ℕ) → numbered from (xs ++ ys) ≡ numbered from xs ++ numbered (from + length xs) ys
numbered_append from [] ys = ap (λ (n : ℕ). numbered n ys) (let e : from ≡ from + 0 = omega arith in e)
numbered_append from (zero ∷ xs) ys = numbered_append (suc from) xs ys ∙ ap (λ (n : ℕ). numbered (suc from) xs ++ numbered n ys) (let e : suc from + length xs ≡ from + suc (length xs) = omega arith in e)
numbered_append from (suc x ∷ xs) ys = ap (λ (l : List ℕ). from ∷ l) (numbered_append (suc from) xs ys ∙ ap (λ (n : ℕ). numbered (suc from) xs ++ numbered n ys) (let e : suc from + length xs ≡ from + suc (length xs) = omega arith in e))

taken_length : (there : List ℕ) (j : ℕ) → j ≤ length there → length (take j there) ≡ j
taken_length there zero le = refl
taken_length [] (suc j) le = absurd (omega arith)
taken_length (x ∷ xs) (suc j) le = ap suc (taken_length xs j (omega arith))

-- who is there is one number more
numbered_one : (there : List ℕ) (j : ℕ) → j < length there → IsThere there j → numbered 0 (take (j + 1) there) ≡ numbered 0 (take j there) ++ j ∷ []
numbered_one there j lt is =
    ap (λ (n : ℕ). numbered 0 (take n there)) (let e : j + 1 ≡ suc j = omega arith in e)
    ∙ ap (numbered 0) (taken_next there j lt ∙ ap (λ (x : ℕ). take j there ++ x ∷ []) is)
    ∙ numbered_append 0 (take j there) (1 ∷ [])
    ∙ ap (λ (n : ℕ). numbered 0 (take j there) ++ n ∷ []) (let l = taken_length there j (omega arith) in let e : 0 + length (take j there) ≡ j = omega arith in e)

-- and who isn't is none
numbered_none : (there : List ℕ) (j : ℕ) → j < length there → slice_index there j ≡ 0 → numbered 0 (take (j + 1) there) ≡ numbered 0 (take j there)
numbered_none there j lt is =
    ap (λ (n : ℕ). numbered 0 (take n there)) (let e : j + 1 ≡ suc j = omega arith in e)
    ∙ ap (numbered 0) (taken_next there j lt ∙ ap (λ (x : ℕ). take j there ++ x ∷ []) is)
    ∙ numbered_append 0 (take j there) (0 ∷ [])
    ∙ append_none (numbered 0 (take j there))
  where
    append_none : (xs : List ℕ) → xs ++ [] ≡ xs
    append_none [] = refl
    append_none (x ∷ xs) = ap (λ (l : List ℕ). x ∷ l) (append_none xs)

taken_all : (there : List ℕ) (n : ℕ) → length there ≡ n → take n there ≡ there
taken_all [] n e = ap (λ (k : ℕ). take k []) (sym e)
taken_all (x ∷ xs) zero e = absurd (omega arith)
taken_all (x ∷ xs) (suc n) e = ap (λ (l : List ℕ). x ∷ l) (taken_all xs n (omega arith))

-- a number that stands there is that of one who is there
pub numbered_is : (from : ℕ) (there : List ℕ) (i : ℕ) → Among i (numbered from there) → (k : ℕ) × (i ≡ from + k) × (0 < slice_index there k) × (k < length there)
numbered_is from [] i a = absurd a
numbered_is from (zero ∷ xs) i a = let r = numbered_is (suc from) xs i a in let e = r.1 in let lt = r.3 in (suc r.0, (let z : i ≡ from + suc (r.0) = omega arith in z), r.2, (let z : suc (r.0) < suc (length xs) = omega arith in z))
numbered_is from (suc x ∷ xs) i (inl e) = (0, (let z : i ≡ from + 0 = omega arith in z), (let z : 0 < suc x = omega arith in z), (let z : 0 < suc (length xs) = omega arith in z))
numbered_is from (suc x ∷ xs) i (inr a) = let r = numbered_is (suc from) xs i a in let e = r.1 in let lt = r.3 in (suc r.0, (let z : i ≡ from + suc (r.0) = omega arith in z), r.2, (let z : suc (r.0) < suc (length xs) = omega arith in z))

-- ---- positions

pub map_same : (f g : ℕ → ℕ) (xs : List ℕ) → ((x : ℕ) → Among x xs → f x ≡ g x) → map f xs ≡ map g xs
map_same f g [] same = refl
map_same f g (x ∷ xs) same = (λ i. same x (inl refl) i ∷ map_same f g xs (λ y a. same y (inr a)) i)

fold_snoc : (a : ℕ) (xs : List ℕ) (n : ℕ) → fold min a (xs ++ n ∷ []) ≡ min (fold min a xs) n
fold_snoc a [] n = refl
fold_snoc a (x ∷ xs) n = fold_snoc (min a x) xs n

-- the least of some is one of them
fold_among : (a : ℕ) (xs : List ℕ) → (fold min a xs ≡ a) ⊎ Among (fold min a xs) xs
fold_among a [] = inl refl
fold_among a (x ∷ xs) = ⊎_elim
    (λ (e : fold min (min a x) xs ≡ min a x). dite (dec_le a x)
    (λ le. inl (e ∙ (let z : min a x ≡ a = omega (arith, le) in z)))
    (λ no. inr (inl (e ∙ (let lt = lt_of_not-le no in let z : min a x ≡ x = omega (arith, lt) in z)))))
    (λ (m : Among (fold min (min a x) xs) xs). inr (inr m))
    (fold_among (min a x) xs)

least_among : (x : ℕ) (xs : List ℕ) → Among (least_of (x ∷ xs)) (x ∷ xs)
least_among x xs = ⊎_elim
    (λ (e : fold min (min x x) xs ≡ min x x). inl (e ∙ (let z : min x x ≡ x = omega arith in z)))
    (λ (m : Among (fold min (min x x) xs) xs). inr m)
    (fold_among (min x x) xs)

map_among : (f : ℕ → ℕ) (xs : List ℕ) (y : ℕ) → Among y (map f xs) → (x : ℕ) × Among x xs × (y ≡ f x)
map_among f [] y a = absurd a
map_among f (x ∷ xs) y (inl e) = (x, inl refl, e)
map_among f (x ∷ xs) y (inr a) = let r = map_among f xs y a in (r.0, inr r.1, r.2)

-- from a bound down, the least is the same
fold_least : (a : ℕ) (f : ℕ → ℕ) (xs : List ℕ) (x : ℕ) → Among x xs → ((y : ℕ) → Among y xs → f y ≤ a) → fold min a (map f xs) ≡ least_of (map f xs)
fold_least a f [] x among low = absurd among
fold_least a f (y ∷ ys) x among low = let le = low y (inl refl) in ap (λ (n : ℕ). fold min n (map f ys)) (let z : min a (f y) ≡ min (f y) (f y) = omega arith in z)

-- one of those who are there stands at the least position
pub least_is : (there seen : List ℕ) (one : ℕ) → IsThere there one → (flags : (j : ℕ) → slice_index there j ≤ 1) → (j : ℕ) × IsThere there j × (least_there there seen ≡ slice_index seen j)
least_is there seen one is flags = go (numbered 0 there) refl
  where
    go : (ns : List ℕ) → numbered 0 there ≡ ns → (j : ℕ) × IsThere there j × (least_there there seen ≡ slice_index seen j)
    go [] e = absurd (subst (Among (0 + one)) e (among_numbered 0 there one (let z = is in omega arith)))
    go (n ∷ ns) e =
        let m = map_among (slice_index seen) (n ∷ ns) (least_of (map (slice_index seen) (n ∷ ns))) (least_among (slice_index seen n) (map (slice_index seen) ns)) in
        let k = numbered_is 0 there m.0 (subst (Among m.0) (sym e) m.1) in let same : m.0 ≡ k.0 = (let z = k.1 in omega arith) in let pos = k.2 in let most = flags k.0 in (
          k.0,
          (let z : slice_index there (k.0) ≡ 1 = omega arith in z),
          ap (λ (xs : List ℕ). least_of (map (slice_index seen) xs)) e ∙ m.2 ∙ ap (slice_index seen) same,
        )

-- ---- the keeper's sweep

-- those below a number that are there were seen, and this is the least of their positions and of the greatest that may be
pub record SweepsSome (l : LogValue) (k : KeeperValue) (below least : ℕ) (q : KeeperValue) : Type 0 where
  pub all : length (seen_positions q) ≡ 8
  pub once : reads_of q ≡ reads_of k ++ numbered 0 (take below (there_of k))
  pub reads : (j : ℕ) → j < below → IsThere (there_of k) j → ReadsConsumer k j (slice_index (seen_positions q) j)
  pub words : (j : ℕ) → j < below → IsThere (there_of k) j → (l.start % 32 ≡ 0) × (k.cleaned % 8 ≡ 0)
  pub later : (j : ℕ) → below ≤ j → slice_index (seen_positions q) j ≡ slice_index (seen_positions k) j
  pub least_is : least ≡ fold min (max_position l.identity.geometry) (map (slice_index (seen_positions q)) (numbered 0 (take below (there_of k))))
  -- nothing has changed while none was seen
  pub keeps : (q ≡ k) ⊎ KeepsAs k (with_reads (seen_positions q) (reads_of q) k) q
  pub freed : SameFreed k q
  pub steps : TookSteps k (length (numbered 0 (take below (there_of k)))) q

-- it may stand there whatever the keeper has seen
still : (v : Pass) (ps rs : List ℕ) (n : ℕ) → MayStand (with_keeping v (record v.keeping { positions = ps; reads = rs })) n → MayStand v n
still v ps rs n s = record { unit = s.unit; low = s.low; readable = s.readable }

-- what the keeper's pass is, and what it keeps behind one look more
pass_of : (k q : KeeperValue) → (q ≡ k) ⊎ KeepsAs k (with_reads (seen_positions q) (reads_of q) k) q → q.held.pass ≡ with_keeping k.held.pass (with_reads (seen_positions q) (reads_of q) k)
pass_of k q (inl same) = ap (λ (x : KeeperValue). x.held.pass) same ∙ ap (λ (x : KeeperValue). with_keeping k.held.pass (with_reads (seen_positions x) (reads_of x) k)) (sym same)
pass_of k q (inr keeps) = keeps.pass

keeps_on : (k q r : KeeperValue) → (q ≡ k) ⊎ KeepsAs k (with_reads (seen_positions q) (reads_of q) k) q → KeepsAs q (with_reads (seen_positions r) (reads_of r) q) r → KeepsAs k (with_reads (seen_positions r) (reads_of r) k) r
keeps_on k q r (inl same) x = subst (λ (y : KeeperValue). KeepsAs y (with_reads (seen_positions r) (reads_of r) y) r) same x
keeps_on k q r (inr keeps) x = subst (λ (y : Keeping). KeepsAs k y r) (ap (λ (y : Keeping). record y { positions = seen_positions r; reads = reads_of r }) (keeping_is keeps)) (keeps_then keeps x)

pub there_on : (l : LogValue) (k q : KeeperValue) (j least : ℕ) → SweepsSome l k j least q → there_of q ≡ there_of k
there_on l k q j least w = ap (λ (v : Pass). v.keeping.there) (pass_of k q w.keeps)

append_none : (xs : List ℕ) → xs ≡ xs ++ []
append_none [] = refl
append_none (x ∷ xs) = ap (λ (l : List ℕ). x ∷ l) (append_none xs)

-- nobody was seen yet
pub none : (l : LogValue) (k : KeeperValue) → length (seen_positions k) ≡ 8 → SweepsSome l k 0 (max_position l.identity.geometry) k
none l k all = record {
  all = all;
  once = append_none (reads_of k);
  reads = λ j lt. absurd (omega arith);
  words = λ j lt. absurd (omega arith);
  later = λ j le. refl;
  least_is = refl;
  keeps = inl refl;
  freed = refl;
  steps = (let z : k.held.steps ≡ k.held.steps + 0 = omega arith in z);
}

-- nobody has the next number
pub passes : (l : LogValue) (k q : KeeperValue) (j least : ℕ) → SweepsSome l k j least q → j < length (there_of k) → slice_index (there_of k) j ≡ 0 → SweepsSome l k (j + 1) least q
passes l k q j least w lt isnt = let same = numbered_none (there_of k) j lt isnt in record {
  all = w.all;
  once = w.once ∙ ap (λ (xs : List ℕ). reads_of k ++ xs) (sym same);
  reads = λ i below is. w.reads i (before i below (λ e. clash (slice_index (there_of k) i) (slice_index (there_of k) j) (ap (slice_index (there_of k)) e) is isnt)) is;
  words = λ i below is. w.words i (before i below (λ e. clash (slice_index (there_of k) i) (slice_index (there_of k) j) (ap (slice_index (there_of k)) e) is isnt)) is;
  later = λ i le. w.later i (omega arith);
  least_is = w.least_is ∙ ap (λ (xs : List ℕ). fold min (max_position l.identity.geometry) (map (slice_index (seen_positions q)) xs)) (sym same);
  keeps = w.keeps;
  freed = w.freed;
  steps = w.steps ∙ ap (λ (xs : List ℕ). k.held.steps + length xs) (sym same);
}
  where
    before : (i : ℕ) → i < j + 1 → i ≢ j → i < j
    before i lt ne = omega (arith, ne)

    clash : (x y : ℕ) → x ≡ y → x ≡ 1 → y ≡ 0 → ⊥
    clash x y e one z = omega arith

-- who has the next number was seen
pub next : (l : LogValue) (k q r : KeeperValue) (j least n : ℕ) → IsOf l k.held → IsKeeping k.held.pass k.limit k.cleaned → SweepsSome l k j least q → j < length (there_of k) → IsThere (there_of k) j → SeesConsumer q.held.pass j n r.held.pass → KeepsAs q (with_reads (seen_positions r) (reads_of r) q) r → TookSteps q 1 r → SameFreed q r → SweepsSome l k (j + 1) (min least n) r
next l k q r j least n of is w low there s keeps once freed =
    let put : seen_positions r ≡ set (seen_positions q) j n = ap (λ (v : Pass). v.keeping.positions) s.after in let below = s.inside in let all = s.all in let pass = pass_of k q w.keeps in
    let here_is : slice_index (seen_positions r) j ≡ n = ap (λ (ps : List ℕ). slice_index ps j) put ∙ get_or-set_same (seen_positions q) j n 0 (omega (arith, below, all)) in
    let other : (i : ℕ) → i ≢ j → slice_index (seen_positions r) i ≡ slice_index (seen_positions q) i = λ i ne. ap (λ (ps : List ℕ). slice_index ps i) put ∙ get_or-set_other (seen_positions q) j i n 0 ne in
    let same = numbered_one (there_of k) j low there in let before : List ℕ = numbered 0 (take j (there_of k)) in
    let now : SeesConsumer (with_keeping k.held.pass (with_reads (seen_positions q) (reads_of q) k)) j n r.held.pass = subst (λ (v : Pass). SeesConsumer v j n r.held.pass) pass s in
    let here : ReadsConsumer k j n = record { further = subst (λ (x : ℕ). x ≤ n) (w.later j (omega arith)) s.further; stands = still k.held.pass (seen_positions q) (reads_of q) n now.stands; own = now.own } in
    let words : (l.start % 32 ≡ 0) × (k.cleaned % 8 ≡ 0) = (ap (λ (x : ℕ). x % 32) (sym of.start) ∙ now.words.0, ap (λ (x : ℕ). x % 8) (sym is.cleaned_is) ∙ now.words.1) in
    let apart : (i : ℕ) → Among i before → i ≢ j = λ i a e. (let x = numbered_is 0 (take j (there_of k)) i a in let y = taken_length (there_of k) j (omega arith) in let u = x.1 in let z = x.3 in omega (arith, e)) in
    let least_on : map (slice_index (seen_positions q)) before ≡ map (slice_index (seen_positions r)) before = map_same (slice_index (seen_positions q)) (slice_index (seen_positions r)) before (λ i a. sym (other i (apart i a))) in record {
      all = ap length put ∙ length-set (seen_positions q) j n ∙ s.all;
      once =
          ap (λ (v : Pass). v.keeping.reads) s.after
          ∙ ap (λ (xs : List ℕ). xs ++ j ∷ []) w.once
          ∙ append_assoc (reads_of k) before (j ∷ [])
          ∙ ap (λ (xs : List ℕ). reads_of k ++ xs) (sym same);
      reads = λ i lt is. dite (ℕ_discrete i j)
          (λ e. subst (λ (x : ℕ × ℕ). ReadsConsumer k x.0 x.1) (λ h. (sym e h, sym (ap (slice_index (seen_positions r)) e ∙ here_is) h)) here)
          (λ ne. subst (ReadsConsumer k i) (sym (other i ne)) (w.reads i (less i j lt ne) is));
      words = λ i lt is. words;
      later = λ i le. other i (more i j le) ∙ w.later i (up i j le);
      least_is =
          ap (λ (x : ℕ). min x n) (w.least_is ∙ ap (fold min (max_position l.identity.geometry)) least_on)
          ∙ ap (min (fold min (max_position l.identity.geometry) (map (slice_index (seen_positions r)) before))) (sym here_is)
          ∙ sym (fold_snoc (max_position l.identity.geometry) (map (slice_index (seen_positions r)) before) (slice_index (seen_positions r) j))
          ∙ ap (fold min (max_position l.identity.geometry)) (sym (map-append (slice_index (seen_positions r)) before (j ∷ [])))
          ∙ ap (λ (xs : List ℕ). fold min (max_position l.identity.geometry) (map (slice_index (seen_positions r)) xs)) (sym same);
      keeps = inr (keeps_on k q r w.keeps keeps);
      freed = freed ∙ w.freed;
      steps = (let before_is = w.steps in let more' = ap length same ∙ length-append before (j ∷ []) in counts r.held.steps q.held.steps k.held.steps (length before) (length (numbered 0 (take (j + 1) (there_of k)))) before_is once more');
    }
  where
    less : (i j : ℕ) → i < j + 1 → i ≢ j → i < j
    less i j lt ne = omega (arith, ne)

    more : (i j : ℕ) → j + 1 ≤ i → i ≢ j
    more i j le e = omega arith

    up : (i j : ℕ) → j + 1 ≤ i → j ≤ i
    up i j le = omega arith

    counts : (r q k n m : ℕ) → q ≡ k + n → r ≡ q + 1 → m ≡ n + 1 → r ≡ k + m
    counts r q k n m a b c = omega arith

-- all were seen
pub last : (l : LogValue) (k q : KeeperValue) (least one : ℕ) → IsOf l k.held → IsKeeping k.held.pass k.limit k.cleaned → length (there_of k) ≡ 8 → ((j : ℕ) → slice_index (there_of k) j ≤ 1) → one < 8 → IsThere (there_of k) one → SweepsSome l k 8 least q → Sweeps l k least q
last l k q least one of is eight flags low there w =
    let whole : take 8 (there_of k) ≡ there_of k = taken_all (there_of k) 8 eight in let those : numbered 0 (take 8 (there_of k)) ≡ those_there k = ap (numbered 0) whole in
    let inside : (j : ℕ) → IsThere (there_of k) j → j < 8 = λ j h. there_low (there_of k) j eight h in
    let reads : (j : ℕ) → IsThere (there_of k) j → ReadsConsumer k j (slice_index (seen_positions q) j) = λ j h. w.reads j (inside j h) h in
    let bound : (n : ℕ) → Among n (those_there k) → slice_index (seen_positions q) n ≤ max_position l.identity.geometry = λ n a. (let x = numbered_is 0 (there_of k) n a in let pos = x.2 in let most = flags (x.0) in let e : n ≡ x.0 = (let z = x.1 in omega arith) in
    let r = reads (x.0) (let z : slice_index (there_of k) (x.0) ≡ 1 = omega arith in z) in subst (λ (y : ℕ × Identity). slice_index (seen_positions q) y.0 ≤ max_position y.1.geometry) (λ i. (sym e i, of.identity i)) r.stands.low) in
    let is_least : least ≡ least_there (there_of k) (seen_positions q) = w.least_is ∙ ap (λ (xs : List ℕ). fold min (max_position l.identity.geometry) (map (slice_index (seen_positions q)) xs)) those ∙ fold_least (max_position l.identity.geometry) (slice_index (seen_positions q)) (those_there k) (0 + one) (among_numbered 0 (there_of k) one (let z = there in omega arith)) bound in
    let at = least_is (there_of k) (seen_positions q) one there flags in record {
      is = is;
      once = w.once ∙ ap (λ (xs : List ℕ). reads_of k ++ xs) those;
      all = w.all;
      reads = λ j a. (let x = numbered_is 0 (there_of k) j a in let pos = x.2 in let most = flags (x.0) in let e : j ≡ x.0 = (let z = x.1 in omega arith) in reads j (ap (slice_index (there_of k)) e ∙ (let z : slice_index (there_of k) (x.0) ≡ 1 = omega arith in z)));
      least_is = is_least;
      stands = subst (MayStand k.held.pass) (sym (is_least ∙ at.2)) (reads at.0 at.1).stands;
      words = w.words one low there;
      keeps = ⊎_elim
          (λ (same : q ≡ k). absurd (let e = ap length (sym (ap reads_of same) ∙ w.once) in some_more (reads_of k) (numbered 0 (take 8 (there_of k))) (0 + one) (subst (Among (0 + one)) (sym those) (among_numbered 0 (there_of k) one (let z = there in omega arith))) e))
          (λ (keeps : KeepsAs k (with_reads (seen_positions q) (reads_of q) k) q). keeps)
          w.keeps;
      freed = w.freed;
      steps = w.steps ∙ ap (λ (xs : List ℕ). k.held.steps + length xs) those;
    }
  where
    some_more : (xs ys : List ℕ) (y : ℕ) → Among y ys → length xs ≡ length (xs ++ ys) → ⊥
    some_more xs [] y a e = absurd a
    some_more xs (z ∷ ys) y a e = let l = length-append xs (z ∷ ys) in omega arith
