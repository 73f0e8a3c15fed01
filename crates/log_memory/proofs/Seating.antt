-- Each kind of seat that is dealt or joined.
use Rattle.std.proofs.Common.{◌≡◌, ℕ, ◌+◌, ◌%◌, ◌<◌, ◌⊎◌, inl, inr, ⊎_elim, List, [], ◌∷◌, ◌++◌, map, sym, refl, ap, ◌∙◌, subst, arith}
use Rattle.std.specs.Prelude.{slice_index}
use Rattle.atomic_table.specs.Table.{Joins, Splits}
use Rattle.theory.specs.Entry.{Entry, length_of}
use Rattle.theory.specs.Placed.{Among}
use Rattle.theory.proofs.Lists.{among_cases, among_left, among_right}
use Rattle.publication.specs.declared.pass.ClaimRange.{ClaimRange}
use Rattle.publication.specs.declared.pass.FrameWords.{FrameWords}
use Rattle.publication.specs.declared.pass.Keeping.{Keeping}
use Rattle.publication.specs.declared.pass.Pass.{Pass}
use Rattle.publication.specs.declared.pass.Reading.{Reading}
use Rattle.log_rule.specs.declared.claims.view.View.{View}
use Rattle.log_rule.specs.Claims.Closing.{both_seats, handing_seats, numbered_seat, owned_by, spent_seat}
use Rattle.log_rule.specs.Claims.Events.{committed_weight}
use Rattle.log_rule.specs.Claims.Packs.{tail_place}
use Rattle.log_rule.specs.Claims.Plays.{dealing_seat, dealt_seat, newcomer, no_keeping}
use Rattle.log_rule.specs.Claims.Rule.{entries_of, entry_of, weight}
use Rattle.log_rule.specs.Claims.Sums.{total}
use Rattle.log_rule.specs.Edges.{in_entry}
use Rattle.log_rule.specs.Kept.{IsThere}
use Rattle.log_rule.specs.Meetings.{Steadies, Steady, back_left, back_right, meeting, meeting_seats, showing, was_shown}
use Rattle.log_rule.specs.Readings.{reading}
use Rattle.log_rule.specs.Shares.{Weighs}
use Rattle.log_rule.specs.Table.{first_reading, keeper_left, keeper_right, knowledge_right, knows_all, news_left, news_right, other_readings, reader_alone, reader_left, reader_right, returned_seat, told_seat}
use Rattle.log_memory.specs.Lifted.{lifted_left, lifted_right, lowered}
use Rattle.log_rule.proofs.Claimed.Memories.{maps_append}
use Rattle.log_rule.proofs.Claimed.Totals.{total_append}
use Rattle.log_rule.proofs.Dealing as dealing
use Rattle.log_rule.proofs.Gathering as gathering
use Rattle.log_rule.proofs.Handing as handing
use Rattle.log_rule.proofs.Joining as joining
use Rattle.log_rule.proofs.Meetings as meetings
use Rattle.log_rule.proofs.Showing as showings
use Rattle.log_memory.proofs.Swapping as swapping
use Rattle.log_memory.specs.declared.view.LogView.{LogView}
use Rattle.log_memory.specs.declared.view.Site.{Site}
use Rattle.log_memory.specs.Law.{Keeps, SeatsKeep}
use Rattle.log_memory.specs.Rule.{LogMemoryRuled}
use Rattle.log_memory.specs.Seats.{dealt_with, spent_with, viewing}
use Rattle.log_memory.specs.Seats as seats
use Rattle.log_memory.specs.Steps.{IsIdle, IsQuiet, Mine, SawBehind, StandsBehind, as_view}
use Rattle.log_memory.proofs.Dealing.{ComesFrom, ComesFromBoth, joins, splits}
use Rattle.log_memory.proofs.Lifting.{lift}

plus_none : (n : ℕ) → n + 0 ≡ n
plus_none n = omega arith

none_plus : (n : ℕ) → 0 + n ≡ n
none_plus n = omega arith

one_none : (n : ℕ) → n ≡ 0 → n ≡ 1 → ⊥
one_none n z e = omega arith

mine_behind : (v : View) (r : Reading) → Among r v.pass.reading → r.number < 8 → StandsBehind v r.position
mine_behind v r among low = inl (r, among, low, omega arith)

mine_seen : (v : View) → v.pass.keeping.right ≡ 1 → (j : ℕ) → IsThere v.pass.keeping.there j → SawBehind v (slice_index v.pass.keeping.positions j)
mine_seen v one j there = (one, (j, there, omega arith))

-- what it reads is read there too, and it is the same keeper
comes_as : (v w : View) → ((r : Reading) → Among r w.pass.reading → r.number < 8 → Among r v.pass.reading) → w.pass.keeping ≡ v.pass.keeping → ComesFrom v w
comes_as v w reads keeping = record {
  readings = λ r among low. mine_behind v r (reads r among low) low;
  keeper = λ one. ap (λ (k : Keeping). k.right) (sym keeping) ∙ one;
  cleaned = λ _. ap (λ (k : Keeping). k.cleaned) keeping;
  seen = λ one j there. subst (λ (k : Keeping). SawBehind v (slice_index k.positions j)) (sym keeping) (mine_seen v (ap (λ (k : Keeping). k.right) (sym keeping) ∙ one) j (subst (λ (k : Keeping). IsThere k.there j) keeping there));
}

-- and it is no keeper
comes_reading : (v w : View) → ((r : Reading) → Among r w.pass.reading → r.number < 8 → Among r v.pass.reading) → w.pass.keeping ≡ no_keeping → ComesFrom v w
comes_reading v w reads none = record {
  readings = λ r among low. mine_behind v r (reads r among low) low;
  keeper = λ one. absurd (one_none w.pass.keeping.right (ap (λ (k : Keeping). k.right) none) one);
  cleaned = λ one. absurd (one_none w.pass.keeping.right (ap (λ (k : Keeping). k.right) none) one);
  seen = λ one. absurd (one_none w.pass.keeping.right (ap (λ (k : Keeping). k.right) none) one);
}

first_among : (rs : List Reading) (r : Reading) → Among r (first_reading rs) → Among r rs
first_among [] r a = a
first_among (x ∷ xs) r (inl e) = inl e
first_among (x ∷ xs) r (inr a) = absurd a

others_among : (rs : List Reading) (r : Reading) → Among r (other_readings rs) → Among r rs
others_among [] r a = a
others_among (x ∷ xs) r a = inr a

-- ---- seats are dealt

module _ (t : Site) (id : ℕ) (v : LogView) (idle : IsIdle v) where
  pub deal_publisher : v.view.pass.right.armed ≡ 0 → v.view.pass.right.claims ≡ [] → 120 < v.view.pass.right.parts → Splits (LogMemoryRuled t) id v (viewing dealing_seat v) (dealt_with dealt_seat v)
  deal_publisher off fresh many = splits t id v dealing_seat dealt_seat idle (comes_as v.view (dealing_seat v.view) (λ r a low. a) refl) (comes_reading v.view (dealt_seat v.view) (λ r a low. absurd a) refl) (λ h. plus_none (weight h v.view.pass)) (λ h. plus_none (committed_weight h v.view.pass)) (dealing.deals t.key id v.view off fresh many)

  pub deal_reader : Splits (LogMemoryRuled t) id v (viewing reader_left v) (dealt_with reader_right v)
  deal_reader = splits t id v reader_left reader_right idle (comes_as v.view (reader_left v.view) (λ r a low. others_among v.view.pass.reading r a) refl) (comes_reading v.view (reader_right v.view) (λ r a low. first_among v.view.pass.reading r a) refl) (λ h. plus_none (weight h v.view.pass)) (λ h. plus_none (committed_weight h v.view.pass)) (dealing.deals_reader t.key id v.view)

  pub deal_keeper : v.view.pass.right.armed ≡ 0 → v.view.pass.right.claims ≡ [] → 8 < v.view.pass.right.parts → Splits (LogMemoryRuled t) id v (viewing keeper_left v) (dealt_with keeper_right v)
  deal_keeper off fresh many = splits t id v keeper_left keeper_right idle (comes_reading v.view (keeper_left v.view) (λ r a low. a) refl) (comes_as v.view (keeper_right v.view) (λ r a low. absurd a) refl) (λ h. plus_none (weight h v.view.pass)) (λ h. plus_none (committed_weight h v.view.pass)) (dealing.deals_keeper t.key id v.view off fresh many)

  pub renumber : (n : ℕ) → n < 8 → v.view.pass.right.parts ≡ 1024 → Splits (LogMemoryRuled t) id v (viewing (numbered_seat n) v) (dealt_with (λ w. spent_seat w.pass.identity w.pass.start) v)
  renumber n low all = splits t id v (numbered_seat n) (λ w. spent_seat w.pass.identity w.pass.start) idle (comes_as v.view (numbered_seat n v.view) (λ r a low. a) refl) (comes_reading v.view (spent_seat v.view.pass.identity v.view.pass.start) (λ r a low. absurd a) refl) (λ h. plus_none (weight h v.view.pass)) (λ h. plus_none (committed_weight h v.view.pass)) (dealing.numbers t.key id v.view n low all)

  alone : (r : Reading) (fs : List FrameWords) → Among r (record { number = 8; position = 0; known = fs; misses = 0 } ∷ []) → r.number < 8 → ⊥
  alone r fs (inl e) low = let n = ap (λ (x : Reading). x.number) e in absurd (omega arith)
  alone r fs (inr a) low = a

  pub news : Splits (LogMemoryRuled t) id v (viewing news_left v) (dealt_with news_right v)
  news = splits t id v news_left news_right idle (comes_as v.view v.view (λ r a low. a) refl) (comes_reading v.view (news_right v.view) (λ r a low. absurd (alone r v.view.pass.work.frames a low)) refl) (λ h. plus_none (weight h v.view.pass)) (λ h. plus_none (committed_weight h v.view.pass)) (dealing.news t.key id v.view)

  pub knowledge : Splits (LogMemoryRuled t) id v (viewing news_left v) (dealt_with knowledge_right v)
  knowledge = splits t id v news_left knowledge_right idle (comes_as v.view v.view (λ r a low. a) refl) (comes_reading v.view (knowledge_right v.view) (λ r a low. absurd (alone r _ a low)) refl) (λ h. plus_none (weight h v.view.pass)) (λ h. plus_none (committed_weight h v.view.pass)) (dealing.knowledge t.key id v.view)

  pub part_again : (k : ℕ) (p q : Pass) → v.view.pass ≡ was_shown k (meeting p q) → Steady p → Steady q → p.right.armed ≡ 0 → q.right.armed ≡ 0 → 0 < p.right.parts → 0 < q.right.parts → q.identity ≡ p.identity → q.start ≡ p.start → q.keeping ≡ no_keeping
      → Splits (LogMemoryRuled t) id v (viewing (back_left p) v) (dealt_with (back_right q) v)
  part_again k p q is sp sq off off' able more same from none =
      let reads : v.view.pass.reading ≡ p.reading ++ q.reading = ap (λ (x : Pass). x.reading) is in
      splits t id v (back_left p) (back_right q) idle
      (comes_as v.view (back_left p v.view) (λ r a low. subst (Among r) (sym reads) (among_left r p.reading q.reading a)) (sym (ap (λ (x : Pass). x.keeping) is)))
      (comes_reading v.view (back_right q v.view) (λ r a low. subst (Among r) (sym reads) (among_right r p.reading q.reading a)) none)
      (λ h. sym (ap (λ (x : Pass). weight h x) is ∙ ap (total h) (maps_append entry_of p.right.claims q.right.claims) ∙ total_append h (entries_of p) (entries_of q)))
      (λ h. sym (ap (λ (x : Pass). committed_weight h x) is ∙ total_append h p.work.frames q.work.frames))
      (meetings.parts_again t.key id v.view k p q is sp sq off off' able more same from none)

  pub lift_pass : Splits (LogMemoryRuled t) id v (viewing lifted_left v) (dealt_with lifted_right v)
  lift_pass = splits t id v lifted_left lifted_right idle (comes_reading v.view (lifted_left v.view) (λ r a low. absurd a) refl) (comes_as v.view (lifted_right v.view) (λ r a low. a) refl) (λ h. none_plus (weight h v.view.pass)) (λ h. none_plus (committed_weight h v.view.pass)) (swapping.lifts t.key id v.view)

-- ---- and joined

-- who takes in the other keeps as before
keeps_as : (v x w : View) → ((r : Reading) → Among r w.pass.reading → r.number < 8 → StandsBehind v r.position ⊎ StandsBehind x r.position) → w.pass.keeping ≡ v.pass.keeping → ComesFromBoth v x w
keeps_as v x w reads keeping = record {
  readings = reads;
  keeper = λ one. ap (λ (k : Keeping). k.right) (sym keeping) ∙ one;
  cleaned = ap (λ (k : Keeping). k.cleaned) keeping;
  seen = λ one j there. subst (λ (k : Keeping). SawBehind v (slice_index k.positions j)) (sym keeping) (mine_seen v (ap (λ (k : Keeping). k.right) (sym keeping) ∙ one) j (subst (λ (k : Keeping). IsThere k.there j) keeping there));
}

-- a consumer that is told more stands where it did
told_behind : (v : View) (fs : List FrameWords) (rs : List Reading) (r : Reading) → ((x : Reading) → Among x rs → Among x v.pass.reading) → Among r (map (knows_all fs) rs) → r.number < 8 → StandsBehind v r.position
told_behind v fs [] r all a low = absurd a
told_behind v fs (x ∷ xs) r all (inl e) low = inl (x, all x (inl refl), (let n = ap (λ (y : Reading). y.number) e in omega arith), (let n = ap (λ (y : Reading). y.position) e in omega arith))
told_behind v fs (x ∷ xs) r all (inr a) low = told_behind v fs xs r (λ y b. all y (inr b)) a low

-- claims under another number are as long, and of the same frames
owned_same : (f : Entry → ℕ) (n : ℕ) (cs : List ClaimRange) → ((c : ClaimRange) → f (entry_of (owned_by n c)) ≡ f (entry_of c)) → total f (map entry_of (map (owned_by n) cs)) ≡ total f (map entry_of cs)
owned_same f n [] e = refl
owned_same f n (c ∷ cs) e = λ i. e c i + owned_same f n cs e i

gathered : (f : Entry → ℕ) (cs ds : List ClaimRange) → total f (map entry_of (cs ++ ds)) + 0 ≡ total f (map entry_of cs) + total f (map entry_of ds)
gathered f cs ds = plus_none (total f (map entry_of (cs ++ ds))) ∙ ap (total f) (maps_append entry_of cs ds) ∙ total_append f (map entry_of cs) (map entry_of ds)

module _ (t : Site) (id other : ℕ) (v x : LogView) (idle : IsIdle v) (idle' : IsIdle x) where
  abbrev spent : View
  spent = spent_seat t.key.identity t.key.start

  pub tell : x.view.pass ≡ record (newcomer t.key.identity t.key.start 0 0) { reading = x.view.pass.reading } → Joins (LogMemoryRuled t) id v other x (seats.joining told_seat v x) (spent_with spent)
  tell new = joins t id other v x told_seat spent idle idle'.0 (λ f a. absurd (subst (Among f) (ap (λ (p : Pass). p.work.drafts) new) a)) (keeps_as v.view x.view (told_seat v.view x.view) (λ r a low. inl (told_behind v.view _ v.view.pass.reading r (λ y b. b) a low)) refl) (λ r a low. a) (λ one. one_none 0 refl one)
      (ap (λ (p : Pass). weight length_of v.view.pass + weight length_of p) (sym new)) (λ h. ap (λ (p : Pass). weight (in_entry h) v.view.pass + weight (in_entry h) p) (sym new)) (λ h. ap (λ (p : Pass). committed_weight h v.view.pass + committed_weight h p) (sym new))
      (dealing.tells t.key id other v.view x.view new)

  pub return : (c : Reading) → x.view.pass ≡ reader_alone t.key.identity t.key.start c → Joins (LogMemoryRuled t) id v other x (seats.joining returned_seat v x) (spent_with spent)
  return c only = joins t id other v x returned_seat spent idle idle'.0 (λ f a. absurd (subst (Among f) (ap (λ (p : Pass). p.work.drafts) only) a))
      (keeps_as v.view x.view (returned_seat v.view x.view) (λ r a low. ⊎_elim (λ b. inr (mine_behind x.view r b low)) (λ b. inl (mine_behind v.view r b low)) (among_cases r x.view.pass.reading v.view.pass.reading a)) refl)
      (λ r a low. a) (λ one. one_none 0 refl one)
      (ap (λ (p : Pass). weight length_of v.view.pass + weight length_of p) (sym only)) (λ h. ap (λ (p : Pass). weight (in_entry h) v.view.pass + weight (in_entry h) p) (sym only)) (λ h. ap (λ (p : Pass). committed_weight h v.view.pass + committed_weight h p) (sym only))
      (joining.returns t.key id other v.view x.view c only)

  pub gather : v.view.pass.right.armed ≡ 0 → x.view.pass.right.armed ≡ 0 → 0 < v.view.pass.right.parts → Joins (LogMemoryRuled t) id v other x (seats.joining both_seats v x) (spent_with spent)
  gather off off' able = joins t id other v x both_seats spent idle idle'.0 (λ f a. among_right f v.view.pass.work.drafts x.view.pass.work.drafts a) (keeps_as v.view x.view (both_seats v.view x.view) (λ r a low. inl (mine_behind v.view r a low)) refl) (λ r a low. a) (λ one. one_none 0 refl one)
      (gathered length_of v.view.pass.right.claims x.view.pass.right.claims) (λ h. gathered (in_entry h) v.view.pass.right.claims x.view.pass.right.claims)
      (λ h. plus_none (total h (v.view.pass.work.frames ++ x.view.pass.work.frames)) ∙ total_append h v.view.pass.work.frames x.view.pass.work.frames)
      (gathering.gathers t.key id other v.view x.view off off' able)

  pub meet : v.view.pass.right.armed ≡ 0 → x.view.pass.right.armed ≡ 0 → 0 < v.view.pass.right.parts → Joins (LogMemoryRuled t) id v other x (seats.joining meeting_seats v x) (spent_with spent)
  meet off off' able = joins t id other v x meeting_seats spent idle idle'.0 (λ f a. among_right f v.view.pass.work.drafts x.view.pass.work.drafts a)
      (keeps_as v.view x.view (meeting_seats v.view x.view) (λ r a low. ⊎_elim (λ b. inl (mine_behind v.view r b low)) (λ b. inr (mine_behind x.view r b low)) (among_cases r v.view.pass.reading x.view.pass.reading a)) refl)
      (λ r a low. a) (λ one. one_none 0 refl one)
      (gathered length_of v.view.pass.right.claims x.view.pass.right.claims) (λ h. gathered (in_entry h) v.view.pass.right.claims x.view.pass.right.claims)
      (λ h. plus_none (total h (v.view.pass.work.frames ++ x.view.pass.work.frames)) ∙ total_append h v.view.pass.work.frames x.view.pass.work.frames)
      (meetings.meets t.key id other v.view x.view off off' able)

-- a pass comes back to the seat where its room is
module _ (t : Site) (id other : ℕ) (v x : LogView) (idle : IsIdle v) (idle' : IsIdle x) (none : v.view.pass ≡ newcomer t.key.identity t.key.start 0 0) (plain : x.view.pass.keeping ≡ no_keeping) where
  comes_back : ComesFromBoth v.view x.view (lowered v.view x.view)
  comes_back = record {
    readings = λ r a low. inr (mine_behind x.view r a low);
    keeper = λ one. absurd (one_none x.view.pass.keeping.right (ap (λ (k : Keeping). k.right) plain) one);
    cleaned = ap (λ (k : Keeping). k.cleaned) plain ∙ sym (ap (λ (p : Pass). p.keeping.cleaned) none);
    seen = λ one. absurd (one_none x.view.pass.keeping.right (ap (λ (k : Keeping). k.right) plain) one);
  }

  pub lower_pass : Joins (LogMemoryRuled t) id v other x (seats.joining lowered v x) (spent_with (spent_seat t.key.identity t.key.start))
  lower_pass = joins t id other v x lowered (spent_seat t.key.identity t.key.start) idle idle'.0 (λ f a. a) comes_back (λ r a low. a) (λ one. one_none 0 refl one)
      (first_none (weight length_of x.view.pass) (weight length_of v.view.pass) (ap (λ (p : Pass). weight length_of p) none)) (λ h. first_none (weight (in_entry h) x.view.pass) (weight (in_entry h) v.view.pass) (ap (λ (p : Pass). weight (in_entry h) p) none))
      (λ h. first_none (committed_weight h x.view.pass) (committed_weight h v.view.pass) (ap (λ (p : Pass). committed_weight h p) none)) (swapping.lowers t.key id other v.view x.view none)
    where
      first_none : (a c : ℕ) → c ≡ 0 → a + 0 ≡ c + a
      first_none a c e = omega arith

-- whose room may be at home
module _ (t : Site) (id other : ℕ) (v x : LogView) (idle : IsIdle v) (idle' : x.part.has ≡ 0) where
  pub hand_over : v.view.pass.number < 8 → (v.view.pass.right.parts < 1024 → Among v.view.pass.number v.view.pass.right.numbers) → v.view.pass.right.armed ≡ 0 → x.view.pass.right.armed ≡ 0 → 0 < v.view.pass.right.parts → Joins (LogMemoryRuled t) id v other x (seats.joining handing_seats v x) (spent_with (spent_seat t.key.identity t.key.start))
  hand_over low mine off off' able = let n : ℕ = v.view.pass.number in let cs = v.view.pass.right.claims in let ds = x.view.pass.right.claims in
      joins t id other v x handing_seats (spent_seat t.key.identity t.key.start) idle idle' (λ f a. among_right f v.view.pass.work.drafts x.view.pass.work.drafts a) (keeps_as v.view x.view (handing_seats v.view x.view) (λ r a lt. inl (mine_behind v.view r a lt)) refl) (λ r a lt. a) (λ one. one_none 0 refl one)
      (gathered length_of cs (map (owned_by n) ds) ∙ ap (λ (k : ℕ). total length_of (map entry_of cs) + k) (owned_same length_of n ds (λ c. refl)))
      (λ h. gathered (in_entry h) cs (map (owned_by n) ds) ∙ ap (λ (k : ℕ). total (in_entry h) (map entry_of cs) + k) (owned_same (in_entry h) n ds (λ c. refl)))
      (λ h. plus_none (total h (v.view.pass.work.frames ++ x.view.pass.work.frames)) ∙ total_append h v.view.pass.work.frames x.view.pass.work.frames)
      (handing.hands_over t.key id other v.view x.view low mine off off' able)

-- ---- loads that tell a pass of itself

quiet_as : (v w : View) → w.pass.right.claims ≡ v.pass.right.claims → w.pass.work.frames ≡ v.pass.work.frames → w.pass.reading ≡ v.pass.reading → w.pass.keeping ≡ v.pass.keeping → IsQuiet v w
quiet_as v w claims frames reads keeping = let c = comes_as v w (λ r a low. subst (Among r) reads a) keeping in record { claims = claims; frames = frames; readings = c.readings; keeper = c.keeper; cleaned = ap (λ (k : Keeping). k.cleaned) keeping; seen = c.seen }

module _ (t : Site) (id : ℕ) (m : Mine) (idle : IsIdle m.0) where
  pub settle : (i : ℕ) → i < 208 → Keeps t id i (λ n. n) (reading (λ v k w. Steadies v w)) m
  settle i low slots = lift t slots id i m (λ n. n) (reading (λ v k w. Steadies v w)) low idle (inr (inl (λ n. refl))) (meetings.steadies t.key 0 id i (as_view m.0))
      (λ s r at n w told. let e = told.3.same in quiet_as m.0.view w.0 (ap (λ (p : Pass). p.right.claims) e) (ap (λ (p : Pass). p.work.frames) e) (ap (λ (p : Pass). p.reading) e) (ap (λ (p : Pass). p.keeping) e))

  pub weigh : (i : ℕ) → i < 208 → Keeps t id i (λ n. n) (reading (λ v k w. Weighs v w)) m
  weigh i low slots = lift t slots id i m (λ n. n) (reading (λ v k w. Weighs v w)) low idle (inr (inl (λ n. refl))) (gathering.weigh t.key 0 id i (as_view m.0))
      (λ s r at n w told. let e = told.3.same in quiet_as m.0.view w.0 (ap (λ (p : Pass). p.right.claims) e) (ap (λ (p : Pass). p.work.frames) e) (ap (λ (p : Pass). p.reading) e) (ap (λ (p : Pass). p.keeping) e))

  pub show : (p : ℕ) → Keeps t id (tail_place p) (λ n. n) (showing (p % 3)) m
  show p slots = lift t slots id (tail_place p) m (λ n. n) (showing (p % 3)) (omega arith) idle (inr (inl (λ n. refl))) (showings.shown t.key 0 id p (as_view m.0))
      (λ s r at n w told. let e = told.0.3.after in quiet_as m.0.view w.0 (ap (λ (p : Pass). p.right.claims) e) (ap (λ (p : Pass). p.work.frames) e) (ap (λ (p : Pass). p.reading) e) (ap (λ (p : Pass). p.keeping) e))

pub seats_keep : SeatsKeep
seats_keep = record {
  deal_publisher = deal_publisher;
  deal_reader = deal_reader;
  deal_keeper = deal_keeper;
  renumber = renumber;
  news = news;
  knowledge = knowledge;
  part_again = part_again;
  lift = lift_pass;
  lower = lower_pass;
  tell = tell;
  return = return;
  gather = gather;
  hand_over = hand_over;
  meet = meet;
  settle = settle;
  weigh = weigh;
  show = show;
}
