-- What is read again for the action that is due is what the sender sends again.
use Rattle.std.proofs.Common.{◌≡◌, ℕ, zero, suc, ◌+◌, ◌-◌, ◌<◌, ◌≤◌, inl, inr, ⊎_elim, List, [], ◌∷◌, ◌++◌, map, take, length, Bool, true, false, Option, None, Some, find, filter, refl, sym, ap, ◌∙◌, subst, arith, append-nil}
use Rattle.std.specs.List.{AllByRecursion}
use Rattle.std.specs.Option.{option_map, option_and_then}
use Rattle.std.specs.Prelude.{nat_le, nat_lt, ◌&&◌}
use Rattle.std.proofs.lemmas.Bool.{and_from, and_parts, and_right, cases_Bool, cases_lt, cond-false, cond-true, le-leb, le-ltb, leb-true, lt-ltb, ltb-true}
use Rattle.theory.specs.Position.{Geometry}
use Rattle.theory.specs.Placed.{AllAmong, Among, Chain, Placed, end_of}
use Rattle.theory.specs.Datagrams.{fits_in, frames_of, grouped, grouped_behind, resend_datagrams}
use Rattle.theory.specs.Resend.{Action, first_resent, is_in_range, is_resent, range_end, resend_range}
use Rattle.theory.proofs.Lists.{all_weaker}
use Rattle.model.specs.Sender.{Sender}
use Rattle.theory.proofs.Grouping.{grouped_is}
use Rattle.sender.specs.Resending.Handler.{is_near}
use Rattle.sender.specs.Resending.Laws.{NearGiveRange}
use Rattle.sender.specs.Cycling.{GivesAgain, GivesRange, TakesAll}
use Rattle.script_meaning.specs.Answers.{again_for}

-- ---- frames that start in a range

abbrev Within : ℕ → ℕ → ℕ → Bool
Within low high p = nat_le low p && nat_lt p high

-- those of a chain that starts behind it
none_behind : (low high j q : ℕ) (ss : List Placed) → Chain j q ss → high ≤ j → filter (λ s. Within low high s.at) ss ≡ []
none_behind low high j q [] c h = refl
none_behind low high j q (s ∷ ss) c h =
    cond-false (Within low high s.at) (s ∷ filter (λ s. Within low high s.at) ss) (filter (λ s. Within low high s.at) ss) (and_right (nat_le low s.at) (nat_lt s.at high) (le-ltb s.at high (omega (arith, c.0, h))))
    ∙ none_behind low high (end_of s) q ss c.1 (omega (arith, c.0, h))

-- frames of one place are one
abbrev AreOne : List Placed → Type 0
AreOne frames = (s t : Placed) → Among s frames → Among t frames → s.at ≡ t.at → s ≡ t

-- frames that were read within the range, from where the chain begins, are the first of those of the chain in the range; there are no more where the last ends behind it
record IsFirst (test : Placed → Bool) (chain reads : List Placed) (high to : ℕ) : Type 0 where
  rest : List Placed
  parts : filter test chain ≡ reads ++ rest
  whole : high ≤ to → rest ≡ []

first_of : (frames : List Placed) → AreOne frames → (low high j q to : ℕ) (ss reads : List Placed) → Chain j q ss → Chain j to reads → AllAmong frames ss → AllAmong frames reads → AllByRecursion (λ s. s.at < high) reads → low ≤ j → high ≤ q → IsFirst (λ s. Within low high s.at) ss reads high to
first_of frames one low high j q to ss [] c d a b below l h = record {
  rest = filter (λ s. Within low high s.at) ss;
  parts = refl;
  whole = λ e. none_behind low high j q ss c (omega (arith, e, d));
}
first_of frames one low high j q to [] (r ∷ rs) c d a b below l h = absurd (omega (arith, c, d.0, below.0, h))
first_of frames one low high j q to (s ∷ ss) (r ∷ rs) c d a b below l h =
    let same : s ≡ r = one s r a.0 b.0 (c.0 ∙ sym d.0) in
    let behind : Chain (end_of s) to rs = subst (λ x. Chain (end_of x) to rs) (sym same) d.1 in
    let more = first_of frames one low high (end_of s) q to ss rs c.1 behind a.1 b.1 below.1 (omega (arith, l, c.0)) h in
    let here : Within low high s.at ≡ true = and_from (nat_le low s.at) (nat_lt s.at high) (le-leb low s.at (omega (arith, l, c.0))) (lt-ltb s.at high (omega (arith, below.0, c.0, d.0))) in
    record {
      rest = more.rest;
      parts = cond-true (Within low high s.at) (s ∷ filter (λ s. Within low high s.at) ss) (filter (λ s. Within low high s.at) ss) here ∙ ap (λ xs. s ∷ xs) more.parts ∙ ap (λ x. x ∷ (rs ++ more.rest)) same;
      whole = more.whole;
    }

-- the part of a chain from the first that passes a test, in which all that do lie
record StartsAt (test : ℕ → Bool) (ss : List Placed) (p q : ℕ) (frames : List Placed) : Type 0 where
  part : List Placed
  chain : Chain p q part
  among : AllAmong frames part
  same : filter (λ s. test s.at) ss ≡ filter (λ s. test s.at) part
  passes : test p ≡ true

found_at : (test : ℕ → Bool) (frames : List Placed) (j q p : ℕ) (ss : List Placed) → Chain j q ss → AllAmong frames ss → find test (map (λ s. s.at) ss) ≡ Some p → StartsAt test ss p q frames
found_at test frames j q p [] c a e = absurd (cc)
found_at test frames j q p (s ∷ ss) c a e =
    ⊎_elim
    (λ (t : test s.at ≡ true).
    let is : Some s.at ≡ Some p = sym (cond-true (test s.at) (Some s.at) (find test (map (λ s. s.at) ss)) t) ∙ e in
    let at : s.at ≡ p = cc in
    record { part = s ∷ ss; chain = (at, c.1); among = a; same = refl; passes = ap test (sym at) ∙ t })
    (λ (f : test s.at ≡ false).
    let more = found_at test frames (end_of s) q p ss c.1 a.1 (sym (cond-false (test s.at) (Some s.at) (find test (map (λ s. s.at) ss)) f) ∙ e) in
    record {
      part = more.part;
      chain = more.chain;
      among = more.among;
      same = cond-false (test s.at) (s ∷ filter (λ s. test s.at) ss) (filter (λ s. test s.at) ss) f ∙ more.same;
      passes = more.passes;
    })
    (cases_Bool (test s.at))

none_found : (test : ℕ → Bool) (ss : List Placed) → find test (map (λ (s : Placed). s.at) ss) ≡ None → filter (λ (s : Placed). test s.at) ss ≡ []
none_found test [] e = refl
none_found test (s ∷ ss) e =
    ⊎_elim
    (λ (t : test s.at ≡ true). let is : Some s.at ≡ None = sym (cond-true (test s.at) (Some s.at) (find test (map (λ (s : Placed). s.at) ss)) t) ∙ e in absurd (cc))
    (λ (f : test s.at ≡ false).
    cond-false (test s.at) (s ∷ filter (λ (s : Placed). test s.at) ss) (filter (λ (s : Placed). test s.at) ss) f
    ∙ none_found test ss (sym (cond-false (test s.at) (Some s.at) (find test (map (λ (s : Placed). s.at) ss)) f) ∙ e))
    (cases_Bool (test s.at))

-- ---- datagrams of the first frames

-- where these make more than n datagrams, what follows changes none of the first n
behind_same : (g : Geometry) (n : ℕ) (front xs ys : List Placed) → n < length (grouped_behind g front xs) → take n (grouped_behind g front (xs ++ ys)) ≡ take n (grouped_behind g front xs)
behind_same g zero front xs ys h = refl
behind_same g (suc n) front [] ys h = absurd (omega (arith, h))
behind_same g (suc n) front (x ∷ xs) ys h =
    ⊎_elim
    (λ (t : fits_in g front x ≡ true).
    let long = cond-true (fits_in g front x) (grouped_behind g (front ++ x ∷ []) (xs ++ ys)) (front ∷ grouped_behind g (x ∷ []) (xs ++ ys)) t in
    let short = cond-true (fits_in g front x) (grouped_behind g (front ++ x ∷ []) xs) (front ∷ grouped_behind g (x ∷ []) xs) t in
    ap (take (suc n)) long ∙ behind_same g (suc n) (front ++ x ∷ []) xs ys (subst (λ ds. suc n < length ds) short h) ∙ sym (ap (take (suc n)) short))
    (λ (f : fits_in g front x ≡ false).
    let long = cond-false (fits_in g front x) (grouped_behind g (front ++ x ∷ []) (xs ++ ys)) (front ∷ grouped_behind g (x ∷ []) (xs ++ ys)) f in
    let short = cond-false (fits_in g front x) (grouped_behind g (front ++ x ∷ []) xs) (front ∷ grouped_behind g (x ∷ []) xs) f in
    let more : suc n < length (front ∷ grouped_behind g (x ∷ []) xs) = subst (λ ds. suc n < length ds) short h in
    ap (take (suc n)) long ∙ ap (λ ds. front ∷ ds) (behind_same g n (x ∷ []) xs ys (omega (arith, more))) ∙ sym (ap (take (suc n)) short))
    (cases_Bool (fits_in g front x))

first_same : (g : Geometry) (n : ℕ) (xs ys : List Placed) → n < length (grouped g xs) → take n (grouped g (xs ++ ys)) ≡ take n (grouped g xs)
first_same g n [] ys h = absurd (omega (arith, h))
first_same g n (x ∷ xs) ys h = behind_same g n (x ∷ []) xs ys h

take_all : (n : ℕ) (ds : List (List Placed)) → length ds ≤ n → take n ds ≡ ds
take_all zero [] h = refl
take_all zero (d ∷ ds) h = absurd (omega (arith, h))
take_all (suc n) [] h = refl
take_all (suc n) (d ∷ ds) h = ap (λ x. d ∷ x) (take_all n ds (omega (arith, h)))

longer : (xs : List Placed) (x : Placed) → xs ≡ xs ++ x ∷ [] → ⊥
longer [] x e = absurd (cc)
longer (y ∷ ys) x e = let rest : ys ≡ ys ++ x ∷ [] = cc in longer ys x rest

-- one frame has no place in these datagrams
many : (g : Geometry) (n : ℕ) (reads : List Placed) (last : Placed) → reads ≡ frames_of (take n (grouped g reads)) ++ last ∷ [] → n < length (grouped g reads)
many g n reads last left =
    ⊎_elim
    (λ (l : n < length (grouped g reads)). l)
    (λ (few : length (grouped g reads) ≤ n).
    let all : frames_of (take n (grouped g reads)) ≡ reads = ap frames_of (take_all n (grouped g reads) few) ∙ grouped_is g reads in
    absurd (longer reads last (left ∙ ap (λ xs. xs ++ last ∷ []) all)))
    (cases_lt n (length (grouped g reads)))

-- ---- a range that is due

range_sent : (g : Geometry) (reads rest : List Placed) (sent : List (List Placed)) (Ended : Type 0) → sent ≡ resend_datagrams g reads → TakesAll sent reads Ended → (Ended → rest ≡ []) → sent ≡ resend_datagrams g (reads ++ rest)
range_sent g reads rest sent Ended is (inl whole) none = is ∙ ap (resend_datagrams g) (sym (ap (λ xs. reads ++ xs) (none whole.1) ∙ append-nil reads))
range_sent g reads rest sent Ended is (inr left) none = is ∙ sym (first_same g 15 reads rest (many g 15 reads left.0 (left.1 ∙ ap (λ ds. frames_of ds ++ left.0 ∷ []) is)))

-- what was read are the first of the frames that pass the test, in a part that has all that do
range_again : (g : Geometry) (test : Placed → Bool) (ss part reads : List Placed) (high to : ℕ) (sent : List (List Placed)) (Ended : Type 0) → IsFirst test part reads high to → filter test ss ≡ filter test part → sent ≡ resend_datagrams g reads → TakesAll sent reads Ended → (Ended → high ≤ to) → sent ≡ resend_datagrams g (filter test ss)
range_again g test ss part reads high to sent Ended first same is takes ends = range_sent g reads first.rest sent Ended is takes (λ e. first.whole (ends e)) ∙ ap (resend_datagrams g) (sym (same ∙ first.parts))

-- the frames that the sender passed, among frames of which one stands at a place; of these some can be read
pub record HasPassed (frames kept : List Placed) (start : ℕ) (x : Sender) : Type 0 where
  pub more : (s : Placed) → Among s kept → Among s frames
  pub chain : Chain start x.at x.passed
  pub among : AllAmong frames x.passed
  pub one : (s t : Placed) → Among s frames → Among t frames → s.at ≡ t.at → s ≡ t

in_range : (g : Geometry) (frames kept : List Placed) (start : ℕ) (x : Sender) (a : Action) (p : ℕ) (sent : List (List Placed)) → HasPassed frames kept start x → find (is_in_range g x.at a) (map (λ s. s.at) x.passed) ≡ Some p → GivesRange g kept (record { start = p; length = range_end g x.at a - p }) sent → sent ≡ resend_datagrams g (filter (is_resent g x.at a) x.passed)
in_range g frames kept start x a p sent k found h =
    let low = first_resent g x.at a.at in
    let high = range_end g x.at a in
    let from = found_at (is_in_range g x.at a) frames start x.at p x.passed k.chain k.among found in
    let parts = and_parts (nat_le low p) (nat_lt p high) from.passes in
    let above : low ≤ p = leb-true low p parts.0 in
    let below : p < high = ltb-true p high parts.1 in
    let end : p + (high - p) ≡ high = omega (arith, below) in
    let first = first_of frames k.one low high p x.at h.to from.part h.reads from.chain h.read.chain from.among (all_weaker (λ s. Among s kept) (λ s. Among s frames) k.more h.reads h.read.among) (subst (λ e. AllByRecursion (λ s. s.at < e) h.reads) end h.within) above (omega arith) in
    range_again g (is_resent g x.at a) x.passed from.part h.reads high h.to sent (p + (high - p) ≤ h.to) first from.same h.sent_is h.ends (λ e. subst (λ z. z ≤ h.to) end e)

of_found : (g : Geometry) (frames kept : List Placed) (start : ℕ) (x : Sender) (a : Action) (o : Option ℕ) (sent : List (List Placed)) → HasPassed frames kept start x → find (is_in_range g x.at a) (map (λ s. s.at) x.passed) ≡ o → GivesAgain g kept (option_map (λ p. record { start = p; length = range_end g x.at a - p }) o) sent → sent ≡ resend_datagrams g (filter (is_resent g x.at a) x.passed)
of_found g frames kept start x a None sent k found h = h ∙ ap (resend_datagrams g) (sym (none_found (is_in_range g x.at a) x.passed found))
of_found g frames kept start x a (Some p) sent k found h = in_range g frames kept start x a p sent k found h

pub of_due : NearGiveRange → (g : Geometry) (frames kept : List Placed) (start : ℕ) (x : Sender) (o : Option Action) (sent : List (List Placed)) → HasPassed frames kept start x → GivesAgain g kept (option_and_then (λ a. resend_range g x.at (filter (is_near g x.at) (map (λ s. s.at) x.passed)) a) o) sent → sent ≡ again_for g x o
of_due near g frames kept start x None sent k h = h
of_due near g frames kept start x (Some a) sent k h =
    let starts = map (λ (s : Placed). s.at) x.passed in
    of_found g frames kept start x a (find (is_in_range g x.at a) starts) sent k refl (subst (λ r. GivesAgain g kept r sent) (near g x.at starts a) h)
