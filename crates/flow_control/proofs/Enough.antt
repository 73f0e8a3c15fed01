-- What a group's flow control keeps of its receivers is what all events say of them.
use Rattle.std.proofs.Common.{◌≡◌, ◌⊎◌, ℕ, zero, suc, ◌+◌, ◌<◌, ◌≤◌, ⊎_elim, List, [], ◌∷◌, Bool, true, false, cond, Option, None, Some, length, refl, sym, ap, ◌∙◌, subst, arith}
use Rattle.std.specs.Prelude.{ℤ, pos, negsuc, ◌+ℤ◌, ◌&&◌, ◌||◌, max, nat_eq, nat_le, nat_lt, is_some, replicate, slice_index_or, slice_set}
use Rattle.std.specs.List.{list_any}
use Rattle.std.proofs.Math.Bool.{or-false}
use Rattle.std.proofs.lemmas.Bool.{cases_Bool, cases_eq, cond-true, cond-false, eq-eqb, leb-false, leb-true, le-leb, lt-leb, ltb-false, ltb-true, ne_eqb}
use Rattle.std.proofs.lemmas.List.{get_or-replicate, get_or-set_other, get_or-set_same, length-replicate, length-set}
use Rattle.theory.specs.FlowLimit.{clipped, flow_limit}
use Rattle.theory.specs.GroupLimit.{GroupEvent, StatusCame, Ticked, all_heard, at_clock, at_least, best, candidate, clock_of, in_time, is_inside, is_of, is_same, least_or, limit_in_time, moment_of, reach_of, said_of}
use Rattle.theory.specs.GroupLimit as groups
use Rattle.theory.specs.Timing.{seen}
use Rattle.flow_control.specs.Group.{Group, after_status, after_tick, are_heard, at_moment, best_of, group_after, inside, is_live, least_live, member_at, opened, raised, told, with_member, with_status}
use Rattle.flow_control.specs.Laws.{GroupKeepsEnough, OneKeepsEnough, is_status}
use Rattle.flow_control.specs.Unicast.{unicast_after}
use Rattle.flow_control.specs.declared.least.Member.{Member}

-- ---- one receiver

pub one_keeps_enough : OneKeepsEnough
one_keeps_enough start [] = (refl, refl)
one_keeps_enough start (StatusCame r p w now ∷ es) = (ap (max (clipped (p +ℤ w))) (one_keeps_enough start es).0, refl)
one_keeps_enough start (Ticked now ∷ es) = one_keeps_enough start es

-- ---- a receiver of a group

abbrev last_of : Option Member → ℕ
last_of None = 0
last_of (Some m) = m.last

-- what is kept of the receiver r is what these events say of it
record Tells (r clock : ℕ) (ts : List GroupEvent) (m : Option Member) : Type 0 where
  heard : list_any (is_of r) ts ≡ is_some m
  best_is : best r ts ≡ best_of m
  live : (now : ℕ) → groups.is_live now r ts ≡ is_live now m
  last : last_of m ≤ clock

-- an event that isn't of it
tells_still : (r clock later : ℕ) (t : GroupEvent) (ts : List GroupEvent) (m : Option Member) → is_of r t ≡ false → clock ≤ later → Tells r clock ts m → Tells r later (t ∷ ts) m
tells_still r clock later t ts m fails low h = record {
  heard = ap (λ b. b || list_any (is_of r) ts) fails ∙ h.heard;
  best_is = cond-false (is_of r t) (max (reach_of t) (best r ts)) (best r ts) fails ∙ h.best_is;
  live = λ now. ap (λ b. (b && nat_le now (moment_of t + 5000000000)) || groups.is_live now r ts) fails ∙ h.live now;
  last = omega (arith, h.last, low);
}

-- the last moment is the one that counts
last_counts : (now moment : ℕ) (m : Option Member) → last_of m ≤ moment → (nat_le now (moment + 5000000000) || is_live now m) ≡ nat_le now (moment + 5000000000)
last_counts now moment None low = or-false (nat_le now (moment + 5000000000))
last_counts now moment (Some m) low =
    ⊎_elim
    (λ (y : nat_le now (moment + 5000000000) ≡ true). ap (λ b. b || nat_le now (m.last + 5000000000)) y ∙ sym y)
    (λ (n : nat_le now (moment + 5000000000) ≡ false).
    let late : moment + 5000000000 < now = leb-false now (moment + 5000000000) n in
    ap (λ b. b || nat_le now (m.last + 5000000000)) n ∙ lt-leb now (m.last + 5000000000) (omega (arith, late, low)) ∙ sym n)
    (cases_Bool (nat_le now (moment + 5000000000)))

-- its own status message
tells_more : (r clock : ℕ) (t : GroupEvent) (ts : List GroupEvent) (m : Option Member) → is_of r t ≡ true → clock ≤ moment_of t → Tells r clock ts m → Tells r (moment_of t) (t ∷ ts) (Some (record { best = max (reach_of t) (best_of m); last = moment_of t }))
tells_more r clock t ts m holds low h = record {
  heard = ap (λ b. b || list_any (is_of r) ts) holds;
  best_is = cond-true (is_of r t) (max (reach_of t) (best r ts)) (best r ts) holds ∙ ap (max (reach_of t)) h.best_is;
  live = λ now.
      ap (λ b. (b && nat_le now (moment_of t + 5000000000)) || groups.is_live now r ts) holds
      ∙ ap (λ b. nat_le now (moment_of t + 5000000000) || b) (h.live now)
      ∙ last_counts now (moment_of t) m (omega (arith, h.last, low));
  last = omega arith;
}

-- ---- all of them

abbrev AllTell : ℕ → ℕ → List GroupEvent → List (Option Member) → Type 0
AllTell size clock ts ms = (r : ℕ) → r < size → Tells r clock ts (member_at ms r)

heard_is : (n size clock : ℕ) (ts : List GroupEvent) (ms : List (Option Member)) → n ≤ size → AllTell size clock ts ms → are_heard n ms ≡ all_heard n ts
heard_is zero size clock ts ms low all = refl
heard_is (suc n) size clock ts ms low all =
    let here = sym (all n (omega (arith, low))).heard in
    let rest = heard_is n size clock ts ms (omega (arith, low)) all in
    (λ j. here j && rest j)

least_is : (n now size clock : ℕ) (ts : List GroupEvent) (ms : List (Option Member)) → n ≤ size → AllTell size clock ts ms → least_live n now ms ≡ candidate n now ts
least_is zero now size clock ts ms low all = refl
least_is (suc n) now size clock ts ms low all =
    let h = all n (omega (arith, low)) in
    let live = sym (h.live now) in
    let sum = sym h.best_is in
    let rest = least_is n now size clock ts ms (omega (arith, low)) all in
    (λ j. cond (live j) (least_or (sum j) (rest j)) (rest j))

-- ---- behind a list of events

record Keeps (size start clock : ℕ) (ts : List GroupEvent) (f : Group) : Type 0 where
  size_is : f.size ≡ size
  clock_is : f.clock ≡ clock
  limit_is : f.limit ≡ limit_in_time size start ts
  eight : length f.members ≡ 8
  members : AllTell size clock ts f.members

-- an event of the group, before its candidate
record Nearly (size start clock : ℕ) (t : GroupEvent) (ts : List GroupEvent) (f : Group) : Type 0 where
  size_is : f.size ≡ size
  clock_is : f.clock ≡ clock
  moment : moment_of t ≡ clock
  limit_is : f.limit ≡ limit_in_time size start ts
  eight : length f.members ≡ 8
  members : AllTell size clock (t ∷ ts) f.members

raise_keeps : (size start clock : ℕ) (t : GroupEvent) (ts : List GroupEvent) (f : Group) → is_inside size t ≡ true → Nearly size start clock t ts f → Keeps size start clock (t ∷ ts) (raised f)
raise_keeps size start clock t ts f holds h =
    let now : f.clock ≡ moment_of t = h.clock_is ∙ sym h.moment in
    let heard : are_heard f.size f.members ≡ all_heard size (t ∷ ts) = ap (λ n. are_heard n f.members) h.size_is ∙ heard_is size size clock (t ∷ ts) f.members (omega arith) h.members in
    let least : least_live f.size f.clock f.members ≡ candidate size (moment_of t) (t ∷ ts) =
    ap (λ n. least_live n f.clock f.members) h.size_is ∙ ap (λ n. least_live size n f.members) now ∙ least_is size (moment_of t) size clock (t ∷ ts) f.members (omega arith) h.members in
    let limit = h.limit_is in
    record {
      size_is = h.size_is;
      clock_is = h.clock_is;
      limit_is =
          (λ j. cond (heard j) (at_least (least j) (limit j)) (limit j))
          ∙ ap (λ b. cond (b && all_heard size (t ∷ ts)) (at_least (candidate size (moment_of t) (t ∷ ts)) (limit_in_time size start ts)) (limit_in_time size start ts)) (sym holds);
      eight = h.eight;
      members = h.members;
    }

-- a moment, of an event that isn't of the group
wait_keeps : (size start clock now : ℕ) (t : GroupEvent) (ts : List GroupEvent) (f : Group) → is_inside size t ≡ false → ((r : ℕ) → r < size → is_of r t ≡ false) → Keeps size start clock ts f → Keeps size start (seen clock now) (t ∷ ts) (at_moment f now)
wait_keeps size start clock now t ts f fails none h = record {
  size_is = h.size_is;
  clock_is = ap (λ n. seen n now) h.clock_is;
  limit_is =
      h.limit_is
      ∙ ap (λ b. cond (b && all_heard size (t ∷ ts)) (at_least (candidate size (moment_of t) (t ∷ ts)) (limit_in_time size start ts)) (limit_in_time size start ts)) (sym fails);
  eight = h.eight;
  members = λ r low. tells_still r clock (seen clock now) t ts (member_at f.members r) (none r low) (omega arith) (h.members r low);
}

tick_keeps : (size start clock now : ℕ) (ts : List GroupEvent) (f : Group) → Keeps size start clock ts f → Keeps size start (seen clock now) (Ticked (seen clock now) ∷ ts) (after_tick f now)
tick_keeps size start clock now ts f h =
    raise_keeps size start (seen clock now) (Ticked (seen clock now)) ts (at_moment f now) refl (record {
      size_is = h.size_is;
      clock_is = ap (λ n. seen n now) h.clock_is;
      moment = refl;
      limit_is = h.limit_is;
      eight = h.eight;
      members = λ r low. tells_still r clock (seen clock now) (Ticked (seen clock now)) ts (member_at f.members r) refl (omega arith) (h.members r low);
    })

-- what is kept of the receiver r behind a status message of n
member_tells : (size clock now r n : ℕ) (p w : ℤ) (ts : List GroupEvent) (f : Group) → r < size → n < length f.members → f.clock ≡ clock → AllTell size clock ts f.members → Tells r (seen clock now) (StatusCame (pos n) p w (seen clock now) ∷ ts) (member_at (with_status (at_moment f now) n (clipped (p +ℤ w))).members r)
member_tells size clock now r n p w ts f low fits is all =
    let t = StatusCame (pos n) p w (seen clock now) in
    let ms = f.members in
    let m : Member = record { best = max (clipped (p +ℤ w)) (best_of (member_at ms n)); last = seen f.clock now } in
    ⊎_elim
    (λ (e : n ≡ r).
    let same : Some (record { best = max (clipped (p +ℤ w)) (best_of (member_at ms r)); last = seen clock now }) ≡ member_at (slice_set ms n (Some m)) r =
    sym (ap (λ k. slice_index_or (slice_set ms n (Some m)) k None) (sym e) ∙ get_or-set_same ms n (Some m) None fits ∙ ap (λ k. Some (record { best = max (clipped (p +ℤ w)) (best_of (member_at ms k)); last = seen f.clock now })) e ∙ ap (λ k. Some (record { best = max (clipped (p +ℤ w)) (best_of (member_at ms r)); last = seen k now })) is) in
    subst (Tells r (seen clock now) (t ∷ ts)) same (tells_more r clock t ts (member_at ms r) (eq-eqb n r e) (omega arith) (all r low)))
    (λ (d : n ≡ r → ⊥).
    let same : member_at ms r ≡ member_at (slice_set ms n (Some m)) r = sym (get_or-set_other ms n r (Some m) None (λ e. d (sym e))) in
    subst (Tells r (seen clock now) (t ∷ ts)) same (tells_still r clock (seen clock now) t ts (member_at ms r) (ne_eqb n r d) (omega arith) (all r low)))
    (cases_eq n r)

-- a receiver of the group
inside_keeps : (size start clock now n : ℕ) (p w : ℤ) (ts : List GroupEvent) (f : Group) → size ≤ 8 → nat_lt n size ≡ true → Keeps size start clock ts f → Keeps size start (seen clock now) (StatusCame (pos n) p w (seen clock now) ∷ ts) (raised (with_status (at_moment f now) n (clipped (p +ℤ w))))
inside_keeps size start clock now n p w ts f small holds h =
    let low : n < size = ltb-true n size holds in
    let eight = h.eight in
    raise_keeps size start (seen clock now) (StatusCame (pos n) p w (seen clock now)) ts (with_status (at_moment f now) n (clipped (p +ℤ w))) holds (record {
      size_is = h.size_is;
      clock_is = ap (λ k. seen k now) h.clock_is;
      moment = refl;
      limit_is = h.limit_is;
      eight = length-set f.members n _ ∙ h.eight;
      members = λ r fits. member_tells size clock now r n p w ts f fits (omega (arith, eight, small, low)) h.clock_is h.members;
    })

-- by its number
number_keeps : (size start clock now n : ℕ) (p w : ℤ) (ts : List GroupEvent) (f : Group) → size ≤ 8 → Keeps size start clock ts f → Keeps size start (seen clock now) (StatusCame (pos n) p w (seen clock now) ∷ ts) (told (at_moment f now) (clipped (p +ℤ w)) (cond (nat_lt n size) (Some n) None))
number_keeps size start clock now n p w ts f small h =
    let K = Keeps size start (seen clock now) (StatusCame (pos n) p w (seen clock now) ∷ ts) in
    let reach = clipped (p +ℤ w) in
    ⊎_elim
    (λ (y : nat_lt n size ≡ true). subst (λ o. K (told (at_moment f now) reach o)) (sym (cond-true (nat_lt n size) (Some n) None y)) (inside_keeps size start clock now n p w ts f small y h))
    (λ (o : nat_lt n size ≡ false).
    let high : size ≤ n = ltb-false n size o in
    subst (λ q. K (told (at_moment f now) reach q)) (sym (cond-false (nat_lt n size) (Some n) None o))
    (wait_keeps size start clock now (StatusCame (pos n) p w (seen clock now)) ts f o (λ r low. ne_eqb n r (λ e. absurd (omega (arith, e, low, high)))) h))
    (cases_Bool (nat_lt n size))

status_keeps : (size start clock now : ℕ) (r p w : ℤ) (ts : List GroupEvent) (f : Group) → size ≤ 8 → Keeps size start clock ts f → Keeps size start (seen clock now) (StatusCame r p w (seen clock now) ∷ ts) (told (at_moment f now) (clipped (p +ℤ w)) (inside size r))
status_keeps size start clock now (pos n) p w ts f small h = number_keeps size start clock now n p w ts f small h
status_keeps size start clock now (negsuc n) p w ts f small h = wait_keeps size start clock now (StatusCame (negsuc n) p w (seen clock now)) ts f refl (λ r low. refl) h

opened_keeps : (size start : ℕ) → size ≤ 8 → Keeps size start 0 [] (opened size start)
opened_keeps size start small = record {
  size_is = refl;
  clock_is = refl;
  limit_is = refl;
  eight = refl;
  members = λ r low. subst (Tells r 0 []) (sym (get_or-replicate 8 r None None (omega (arith, low, small)))) (record { heard = refl; best_is = refl; live = λ now. refl; last = omega arith });
}

all_keep : (size start : ℕ) (es : List GroupEvent) → size ≤ 8 → Keeps size start (clock_of es) (in_time es) (group_after size start es)
all_keep size start [] small = opened_keeps size start small
all_keep size start (StatusCame r p w now ∷ es) small =
    let f = group_after size start es in
    let h = all_keep size start es small in
    subst (λ n. Keeps size start (seen (clock_of es) now) (StatusCame r p w (seen (clock_of es) now) ∷ in_time es) (told (at_moment f now) (clipped (p +ℤ w)) (inside n r))) (sym h.size_is)
    (status_keeps size start (clock_of es) now r p w (in_time es) f small h)
all_keep size start (Ticked now ∷ es) small = tick_keeps size start (clock_of es) now (in_time es) (group_after size start es) (all_keep size start es small)

-- the moments don't count in who was heard
of_then : (r clock : ℕ) (t : GroupEvent) → is_of r (at_clock clock t) ≡ is_of r t
of_then r clock (StatusCame id p w now) = refl
of_then r clock (Ticked now) = refl

any_then : (r : ℕ) (es : List GroupEvent) → list_any (is_of r) (in_time es) ≡ list_any (is_of r) es
any_then r [] = refl
any_then r (t ∷ es) =
    let one = of_then r (clock_of (t ∷ es)) t in
    let rest = any_then r es in
    (λ j. one j || rest j)

heard_then : (n : ℕ) (es : List GroupEvent) → all_heard n (in_time es) ≡ all_heard n es
heard_then zero es = refl
heard_then (suc n) es =
    let one = any_then n es in
    let rest = heard_then n es in
    (λ j. one j && rest j)

pub group_keeps_enough : GroupKeepsEnough
group_keeps_enough size start es small =
    let h = all_keep size start es small in
    (h.limit_is, heard_is size size (clock_of es) (in_time es) (group_after size start es).members (omega arith) h.members ∙ heard_then size es)
