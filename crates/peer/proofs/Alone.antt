-- One receiver was heard, and no other.
use Rattle.std.proofs.Common.{◌≡◌, ◌∙◌, ◌⊎◌, ℕ, ℤ, ◌≤◌, ◌+◌, ◌-◌, ◌^◌, max, min, Bool, true, false, ◌&&◌, ◌||◌, nat_eq, ⊎_elim, List, [], ◌∷◌, Option, None, Some, if◌then◌else◌, refl, sym, ap, subst, arith, inl, inr}
use Rattle.std.specs.Ordering.{int_eq}
use Rattle.std.proofs.lemmas.Bool.{and_parts, eqb-true, leb-true, eq-eqb, le-leb}
use Rattle.std.proofs.lemmas.Bool.Decides.{Decides-int_eq}
use Rattle.peer.specs.declared.attendance.Heard.{Heard}
use Rattle.peer.specs.declared.attendance.Attendance.{Attendance}
use Rattle.peer.specs.declared.attendance.Ending.TheVariants.{Whole, Short}
use Rattle.peer.specs.Attending.{after_all, after_status, after_status_from, changed, newcomer, nobody, told_more}
use Rattle.peer.specs.Endings.{AllOf, IsOneFromStart, IsWhole, Tell, ending_of, is_alone, is_one, is_whole}

back_heard : (b : Bool) (a : Attendance) (h : Heard) (r : ℤ) (p : ℕ) → (if b then told_more a h p else changed a h r p).changes ≡ 0 → a.changes ≡ 0
back_heard true a h r p e = e
back_heard false a h r p e = grind (arith, e)

back : (o : Option Heard) (a : Attendance) (r : ℤ) (p : ℕ) → (after_status_from o a r p).changes ≡ 0 → a.changes ≡ 0
back None a r p e = e
back (Some h) a r p e = back_heard (int_eq h.receiver r) a h r p e

-- the changes never fall
never_fall : (ms : List (ℤ × ℕ)) (a : Attendance) → (after_all a ms).changes ≡ 0 → a.changes ≡ 0
never_fall [] a e = e
never_fall (m ∷ ms) a e = back a.present a m.0 m.1 (never_fall ms (after_status a m.0 m.1) e)

-- a receiver stands like this behind messages of its own
pub record Stays (h : Heard) (ms : List (ℤ × ℕ)) (b : Attendance) : Type 0 where
  pub now : Heard
  pub is : b.present ≡ Some now
  pub first : now.first ≡ h.first
  pub all : AllOf h.receiver ms
  pub told : (tail : ℕ) → tail ≤ now.last → (tail ≤ h.last) ⊎ Tell tail ms

abbrev attended : ℕ → Heard → Option Heard → ℕ → Attendance
attended start h left n = record { start = start; present = Some h; left = left; changes = n }

more : (h : Heard) (m : ℤ × ℕ) (ms : List (ℤ × ℕ)) (b : Attendance) → h.receiver ≡ m.0 → Stays (record h { last = max h.last m.1 }) ms b → Stays h (m ∷ ms) b
more h m ms b same s = record {
  now = s.now;
  is = s.is;
  first = s.first;
  all = (sym same, s.all);
  told = λ tail le. further tail (s.told tail le);
}
  where
    greatest : (tail : ℕ) → tail ≤ max h.last m.1 → (tail ≤ h.last) ⊎ (tail ≤ m.1)
    greatest tail le = grind (arith, le)

    first_or : (tail : ℕ) → (tail ≤ h.last) ⊎ (tail ≤ m.1) → (tail ≤ h.last) ⊎ Tell tail (m ∷ ms)
    first_or tail (inl a) = inl a
    first_or tail (inr b) = inr (inl b)

    further : (tail : ℕ) → (tail ≤ max h.last m.1) ⊎ Tell tail ms → (tail ≤ h.last) ⊎ Tell tail (m ∷ ms)
    further tail (inl a) = first_or tail (greatest tail a)
    further tail (inr b) = inr (inr b)

step : (c : Bool) (m : ℤ × ℕ) (ms : List (ℤ × ℕ)) (start : ℕ) (h : Heard) (left : Option Heard) (n : ℕ)
    → ((k : Heard) → (after_all (attended start k left n) ms).changes ≡ 0 → Stays k ms (after_all (attended start k left n) ms))
    → (c ≡ true → h.receiver ≡ m.0)
    → (after_all (if c then told_more (attended start h left n) h m.1 else changed (attended start h left n) h m.0 m.1) ms).changes ≡ 0
    → Stays h (m ∷ ms) (after_all (if c then told_more (attended start h left n) h m.1 else changed (attended start h left n) h m.0 m.1) ms)
step true m ms start h left n ih same e = more h m ms _ (same refl) (ih (record h { last = max h.last m.1 }) e)
step false m ms start h left n ih same e = absurd (let z : min (n + 1) (2 ^ 64 - 1) ≡ 0 = never_fall ms (changed (attended start h left n) h m.0 m.1) e in grind (arith, z))

same_id : (x y : ℤ) → int_eq x y ≡ true → x ≡ y
same_id x y e = grind (arith, Decides-int_eq x y, e)

stays : (ms : List (ℤ × ℕ)) (start : ℕ) (h : Heard) (left : Option Heard) (n : ℕ) → (after_all (attended start h left n) ms).changes ≡ 0 → Stays h ms (after_all (attended start h left n) ms)
stays [] start h left n e = record { now = h; is = refl; first = refl; all = tt; told = λ tail le. inl le }
stays (m ∷ ms) start h left n e = step (int_eq h.receiver m.0) m ms start h left n (λ k. stays ms start k left n) (same_id h.receiver m.0) e

-- the start stays

start_heard : (b : Bool) (a : Attendance) (h : Heard) (r : ℤ) (p : ℕ) → (if b then told_more a h p else changed a h r p).start ≡ a.start
start_heard true a h r p = refl
start_heard false a h r p = refl

start_once : (o : Option Heard) (a : Attendance) (r : ℤ) (p : ℕ) → (after_status_from o a r p).start ≡ a.start
start_once None a r p = refl
start_once (Some h) a r p = start_heard (int_eq h.receiver r) a h r p

start_all : (ms : List (ℤ × ℕ)) (a : Attendance) → (after_all a ms).start ≡ a.start
start_all [] a = refl
start_all (m ∷ ms) a = start_all ms (after_status a m.0 m.1) ∙ start_once a.present a m.0 m.1

-- a whole end says that the test was met
pub record Met (b : Attendance) (tail : ℕ) : Type 0 where
  pub heard : Heard
  pub is : b.present ≡ Some heard
  pub alone : is_alone b heard tail ≡ true

met_if : (c d : Bool) → (if c then Some Whole else (if d then Some Short else None)) ≡ Some Whole → c ≡ true
met_if true d e = refl
met_if false true e = absurd (grind (arith, e))
met_if false false e = absurd (grind (arith, e))

met_from : (o : Option Heard) (b : Attendance) (tail : ℕ) → b.present ≡ o → is_one b o tail ≡ true → Met b tail
met_from None b tail p e = absurd (grind (arith, e))
met_from (Some h) b tail p e = record { heard = h; is = p; alone = e }

or_met : (a b : Bool) (X : Type 0) → (a ≡ true → X) → (b ≡ true → X) → (a || b) ≡ true → X
or_met true b X f g e = f refl
or_met false b X f g e = g e

told_first : (start tail : ℕ) (m : ℤ × ℕ) (ms : List (ℤ × ℕ)) (b : Attendance) → b.start ≡ start → Met b tail → (b.changes ≡ 0 → Stays (newcomer m.0 m.1) ms b) → IsOneFromStart start tail (m ∷ ms)
told_first start tail m ms b begins met stay =
    let w = and_parts _ _ met.alone in
    let v = and_parts _ _ w.1 in
    let s = stay (eqb-true _ _ w.0) in
    let same : s.now ≡ met.heard = grind (arith, s.is, met.is) in
    record {
      receiver = m.0;
      one = (refl, s.all);
      start_told = sym s.first ∙ ap (λ (x : Heard). x.first) same ∙ eqb-true _ _ v.0 ∙ begins;
      tail_told = elim (s.told tail (subst (λ (x : Heard). tail ≤ x.last) (sym same) (leb-true _ _ v.1))) as (λ _. Tell tail (m ∷ ms)) [ inl a ↦ inl a | inr t ↦ inr t ];
    }

one_of : (start tail : ℕ) (messages : List (ℤ × ℕ)) → is_one (after_all (nobody start) messages) (after_all (nobody start) messages).present tail ≡ true → IsOneFromStart start tail messages
one_of start tail [] e = absurd (grind (arith, e))
one_of start tail (m ∷ ms) e =
    let b = after_all (after_status (nobody start) m.0 m.1) ms in
    told_first start tail m ms b (start_all ms (after_status (nobody start) m.0 m.1)) (met_from b.present b tail refl e) (stays ms start (newcomer m.0 m.1) None 0)

whole_of : (start : ℕ) (end : Option ℕ) (messages : List (ℤ × ℕ)) → is_whole (after_all (nobody start) messages) end ≡ true → IsWhole start end messages
whole_of start None messages e = absurd (grind (arith, e))
whole_of start (Some tail) messages e = or_met _ _ (IsWhole start (Some tail) messages)
    (λ (t : nat_eq tail (after_all (nobody start) messages).start ≡ true). inl (eqb-true _ _ t ∙ start_all messages (nobody start)))
    (λ t. inr (one_of start tail messages t))
    e

pub one : (start : ℕ) (end silence : Option ℕ) (linger wait : ℕ) (messages : List (ℤ × ℕ)) → ending_of (after_all (nobody start) messages) end silence linger wait ≡ Some Whole → IsWhole start end messages
one start end silence linger wait messages e = whole_of start end messages (met_if _ _ e)

-- ---- and the other way round

-- a receiver that is heard alone only tells more
pub record Told (start : ℕ) (h : Heard) (left : Option Heard) (n : ℕ) (ms : List (ℤ × ℕ)) : Type 0 where
  pub last : ℕ
  pub is : after_all (attended start h left n) ms ≡ attended start (record h { last = last }) left n
  pub reaches : (tail : ℕ) → (tail ≤ h.last) ⊎ Tell tail ms → tail ≤ last

tells_step : (c : Bool) (m : ℤ × ℕ) (ms : List (ℤ × ℕ)) (start : ℕ) (h : Heard) (left : Option Heard) (n : ℕ) → c ≡ true
    → Told start (record h { last = max h.last m.1 }) left n ms
    → (last : ℕ) × (after_all (if c then told_more (attended start h left n) h m.1 else changed (attended start h left n) h m.0 m.1) ms ≡ attended start (record h { last = last }) left n) × ((tail : ℕ) → (tail ≤ max h.last m.1) ⊎ Tell tail ms → tail ≤ last)
tells_step true m ms start h left n is t = (t.last, t.is, t.reaches)
tells_step false m ms start h left n is t = absurd (grind (arith, is))

eq_id : (x y : ℤ) → x ≡ y → int_eq x y ≡ true
eq_id x y e = grind (arith, Decides-int_eq x y, e)

tells : (ms : List (ℤ × ℕ)) (start : ℕ) (h : Heard) (left : Option Heard) (n : ℕ) → AllOf h.receiver ms → Told start h left n ms
tells [] start h left n all = record { last = h.last; is = refl; reaches = λ tail t. ⊎_elim (λ a. a) (λ b. absurd b) t }
tells (m ∷ ms) start h left n all =
    let rest = tells_step (int_eq h.receiver m.0) m ms start h left n (eq_id h.receiver m.0 (sym all.0)) (tells ms start (record h { last = max h.last m.1 }) left n all.1) in
    record {
      last = rest.0;
      is = rest.1;
      reaches = λ tail t. rest.2 tail (grown tail t);
    }
  where
    grown : (tail : ℕ) → (tail ≤ h.last) ⊎ Tell tail (m ∷ ms) → (tail ≤ max h.last m.1) ⊎ Tell tail ms
    grown tail (inl a) = inl (grind (arith, a))
    grown tail (inr (inl b)) = inl (grind (arith, b))
    grown tail (inr (inr t)) = inr t

or_left : (a b : Bool) → a ≡ true → (a || b) ≡ true
or_left true b e = refl
or_left false b e = absurd (grind (arith, e))

or_right : (a b : Bool) → b ≡ true → (a || b) ≡ true
or_right true b e = refl
or_right false b e = e

and_both : (a b : Bool) → a ≡ true → b ≡ true → (a && b) ≡ true
and_both true b e f = f
and_both false b e f = absurd (grind (arith, e))

alone_met : (start tail : ℕ) (h : Heard) (left : Option Heard) → h.first ≡ start → tail ≤ h.last → is_alone (attended start h left 0) h tail ≡ true
alone_met start tail h left first told = and_both _ _ refl (and_both _ _ (eq-eqb _ _ first) (le-leb _ _ told))

is_one_from : (start tail : ℕ) (messages : List (ℤ × ℕ)) → IsOneFromStart start tail messages → is_one (after_all (nobody start) messages) (after_all (nobody start) messages).present tail ≡ true
is_one_from start tail [] o = absurd o.start_told
is_one_from start tail (m ∷ ms) o =
    let t = tells ms start (newcomer m.0 m.1) None 0 (all_as ms o.receiver m.0 o.one.0 o.one.1) in
    subst (λ (b : Attendance). is_one b b.present tail ≡ true) (sym t.is) (alone_met start tail (record (newcomer m.0 m.1) { last = t.last }) None o.start_told (t.reaches tail o.tail_told))
  where
    all_as : (ms : List (ℤ × ℕ)) (r s : ℤ) → s ≡ r → AllOf r ms → AllOf s ms
    all_as ms r s e all = subst (λ x. AllOf x ms) (sym e) all

whole_from : (start : ℕ) (end : Option ℕ) (messages : List (ℤ × ℕ)) → IsWhole start end messages → is_whole (after_all (nobody start) messages) end ≡ true
whole_from start None messages w = absurd w
whole_from start (Some tail) messages (inl e) = or_left _ _ (eq-eqb _ _ (e ∙ sym (start_all messages (nobody start))))
whole_from start (Some tail) messages (inr o) = or_right _ _ (is_one_from start tail messages o)

whole_if : (c d : Bool) → c ≡ true → (if c then Some Whole else (if d then Some Short else None)) ≡ Some Whole
whole_if true d e = refl
whole_if false d e = absurd (grind (arith, e))

pub whole : (start : ℕ) (end silence : Option ℕ) (linger wait : ℕ) (messages : List (ℤ × ℕ)) → IsWhole start end messages → ending_of (after_all (nobody start) messages) end silence linger wait ≡ Some Whole
whole start end silence linger wait messages w = whole_if _ _ (whole_from start end messages w)
