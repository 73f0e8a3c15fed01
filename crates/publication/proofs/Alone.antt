-- A claim's answer where nobody else takes a step.
use Rattle.std.proofs.Common.{◌≡◌, ◌≢◌, ℕ, ◌+◌, ◌-◌, ◌*◌, ◌%◌, ◌^◌, ◌<◌, ◌≤◌, ◌⊎◌, inl, inr, ⊎_elim, Bool, true, false, cond, min, List, [], ◌∷◌, ◌++◌, length-set, get_or-set_other, sym, refl, ap, ◌∙◌, subst, arith}
use Rattle.std.specs.Prelude.{nat_eq, slice_set}
use Rattle.std.proofs.lemmas.Bool.{cond-true, eq-eqb}
use Rattle.std.proofs.lemmas.List.{get_or-set_same}
use Rattle.theory.specs.Placed.{Pad}
use Rattle.theory.specs.Position.{Geometry, IsGeometry, cuts_of, framed_length, id_of, max_message}
use Rattle.theory.specs.Refusal.{IsLast, IsNotLast, is_closed, is_connected, limit_in}
use Rattle.theory.specs.Words.{id_in, offset_in, tail_word}
use Rattle.theory.proofs.Claims.{claim_bounded}
use Rattle.theory.proofs.Named.{counts}
use Rattle.std.specs.Int.{w32, cast_unsigned}
use Rattle.theory.specs.Position.{count_of}
use Rattle.publication.specs.declared.pass.Controls.{Controls}
use Rattle.publication.specs.declared.pass.Pass.{Pass}
use Rattle.publication.specs.declared.refusal.Refusal.{Refusal}
use Rattle.publication.specs.declared.refusal.Refusal.TheVariants.{NotConnected, BackPressured, AdminAction, Closed, MaxPositionExceeded}
use Rattle.publication.specs.declared.step.WordStep.{WordStep}
use Rattle.publication.specs.declared.step.WordStep.TheVariants as steps
use Rattle.publication.specs.Steps.{Keeps, begun_word, count_in, geometry_of, opened, start_in}
use Rattle.publication.specs.Frames.{frame_at}
use Rattle.publication.specs.Controls.{Leads, tail_in, with_tail}
use Rattle.publication.specs.Claims.{AtLimit, Claimed, Finished, IsTurn, Justified, Leaves, LeavesPadding, Refused, Saw, Shut, Stale, Tripped, TurnsFrom, addition_to}
use Rattle.publication.specs.Alone.{Ends, FindsClosed, FindsEnd, PadsEnd, Reaches, RefusedAlone, Settled, TakesAt}
use Rattle.publication.proofs.Packed.{add_to_word, before_count, before_next, id_fits, id_of_word, offset_of_word}

count_is : (g : Geometry) (word k : ℕ) → IsGeometry g → k < 2147483648 → id_in word ≡ id_of g k → count_in g word ≡ k
count_is g word k is low e = ap (λ z. cast_unsigned w32 (count_of g z)) e ∙ ap (cast_unsigned w32) (counts g k is.initial low)

next_apart : (n : ℕ) → (n + 1) % 3 ≢ n % 3
next_apart n e = omega (arith, e)

behind_apart : (n : ℕ) → (n + 2) % 3 ≢ n % 3
behind_apart n e = omega (arith, e)

then_apart : (n : ℕ) → (n + 2) % 3 ≢ (n + 1) % 3
then_apart n e = omega (arith, e)

round : (n : ℕ) → (n + 3) % 3 ≡ n % 3
round n = omega arith

third : (n : ℕ) → n % 3 < 3
third n = omega arith

one_more : (n t : ℕ) → (n + 1) * t ≡ n * t + t
one_more n t = omega arith

-- ---- control words where no turn is half done

module _ (g : Geometry) (tail active : ℕ) (c : Controls) (is : IsGeometry g) (s : Settled g tail active c) where
  -- the word of the active term's tail
  module _ (word : ℕ) (at : word ≡ tail_in c (active % 3)) where
    word_is : word ≡ tail_word (id_of g active) s.offset
    word_is = at ∙ s.here

    pub id_is : id_in word ≡ id_of g active
    id_is = ap id_in word_is ∙ id_of_word (id_of g active) s.offset (id_fits g active) (let n = s.narrow in omega arith)

    pub offset_is : offset_in word ≡ s.offset
    offset_is = ap offset_in word_is ∙ offset_of_word (id_of g active) s.offset (let n = s.narrow in omega arith)

    pub counted : count_in g word ≡ active
    counted = count_is g word active is s.small id_is

    start_is : start_in g word ≡ active * g.term_length + s.offset
    start_is = ap (λ (n : ℕ). n * g.term_length + offset_in word) counted ∙ ap (λ (n : ℕ). active * g.term_length + n) offset_is

    -- it has room
    pub tail_there : offset_in word < g.term_length → (start_in g word ≡ tail) × (tail < (active + 1) * g.term_length)
    tail_there room = inside (active * g.term_length) ((active + 1) * g.term_length) s.offset g.term_length tail (start_in g word) (one_more active g.term_length) start_is s.tail_is (subst (λ (n : ℕ). n < g.term_length) offset_is room)
      where
        inside : (x y o t tail start : ℕ) → y ≡ x + t → start ≡ x + o → tail ≡ x + min o t → o < t → (start ≡ tail) × (tail < y)
        inside x y o t tail start e a b low = (omega arith, omega arith)

    pub position_is : (count : ℕ) → count ≡ active → count * g.term_length + offset_in word ≡ start_in g word
    position_is count e = ap (λ (n : ℕ). n * g.term_length + offset_in word) (e ∙ sym counted)

    -- it has none
    pub end_there : g.term_length ≤ offset_in word → tail ≡ (active + 1) * g.term_length
    end_there over = past (active * g.term_length) s.offset g.term_length tail s.tail_is (subst (λ (n : ℕ). g.term_length ≤ n) offset_is over) ∙ sym (one_more active g.term_length)
      where
        past : (x o t tail : ℕ) → tail ≡ x + min o t → t ≤ o → tail ≡ x + t
        past x o t tail b over = omega arith

  -- so many bytes are added to it
  pub added : (n : ℕ) → s.offset + n < 2147483648 → (tail_after : ℕ) → tail_after ≡ active * g.term_length + min (s.offset + n) g.term_length → Settled g tail_after active (with_tail c (active % 3) ((tail_in c (active % 3) + n) % 2 ^ 64))
  added n narrow tail_after e = record {
    three = length-set c.tails (active % 3) ((tail_in c (active % 3) + n) % 2 ^ 64) ∙ s.three;
    count = s.count;
    small = s.small;
    offset = s.offset + n;
    narrow = narrow;
    here = get_or-set_same c.tails (active % 3) ((tail_in c (active % 3) + n) % 2 ^ 64) 0 (let three = s.three in omega (arith, three)) ∙ ap (λ (w : ℕ). (w + n) % 2 ^ 64) s.here ∙ add_to_word (id_of g active) s.offset n (id_fits g active) (omega arith);
    tail_is = e;
    next = ap id_in (get_or-set_other c.tails (active % 3) ((active + 1) % 3) ((tail_in c (active % 3) + n) % 2 ^ 64) 0 (next_apart active)) ∙ s.next;
    behind = ap id_in (get_or-set_other c.tails (active % 3) ((active + 2) % 3) ((tail_in c (active % 3) + n) % 2 ^ 64) 0 (behind_apart active)) ∙ s.behind;
  }

  -- the next term has begun
  begun : tail ≡ (active + 1) * g.term_length → active + 1 < 2147483648 → Settled g tail (active + 1) (record { limit = c.limit; count = active + 1; tails = slice_set c.tails ((active + 1) % 3) (begun_word g active) })
  begun end small = let p : ℕ = (active + 1) % 3 in let three = s.three in record {
    three = length-set c.tails p (begun_word g active) ∙ s.three;
    count = refl;
    small = small;
    offset = 0;
    narrow = omega arith;
    here = get_or-set_same c.tails p (begun_word g active) 0 (omega (arith, three));
    tail_is = omega (arith, end);
    next = ap (λ (k : ℕ). id_in (tail_in (record { limit = c.limit; count = active + 1; tails = slice_set c.tails p (begun_word g active) }) (k % 3))) (let e : active + 1 + 1 ≡ active + 2 = omega arith in e) ∙ ap id_in (get_or-set_other c.tails p ((active + 2) % 3) (begun_word g active) 0 (then_apart active)) ∙ s.behind ∙ sym (before_next g is.initial active 1 (omega arith) s.small);
    behind = ap (λ (k : ℕ). id_in (tail_in (record { limit = c.limit; count = active + 1; tails = slice_set c.tails p (begun_word g active) }) k)) (let e : (active + 1 + 2) % 3 ≡ active % 3 = omega arith in e) ∙ ap id_in (get_or-set_other c.tails p (active % 3) (begun_word g active) 0 (λ e. next_apart active (sym e))) ∙ id_is (tail_in c (active % 3)) refl ∙ sym (before_count g is.initial active 0 (omega arith) (omega arith) s.small ∙ ap (id_of g) (let e : active - 0 ≡ active = omega arith in e)) ∙ sym (before_next g is.initial active 0 (omega arith) s.small);
  }

  -- a turn from the active term
  pub turned : (d : Controls) (taken : List WordStep) → tail ≡ (active + 1) * g.term_length → active + 1 < 2147483648 → IsTurn g active taken → Leads c taken d → Settled g tail (active + 1) d × (d.limit ≡ c.limit)
  turned d taken end small turn leads =
      let p : ℕ = (active + 1) % 3 in let word : ℕ = tail_in c p in
      let loads : Leads c (steps.NextTail p turn.next ∷ turn.rest) d = subst (λ (xs : List WordStep). Leads c xs d) turn.load leads in
      let b = turn.begins (ap id_in loads.0 ∙ s.next) in
      let exchanges : Leads c (steps.TailExchange p turn.next (begun_word g active) b.found ∷ b.rest) d = subst (λ (xs : List WordStep). Leads c xs d) b.exchange loads.1 in
      let ends = b.count.begun (inl (exchanges.0 ∙ sym loads.0)) in
      let hit : nat_eq word turn.next ≡ true = eq-eqb word turn.next (sym loads.0) in
      let to : cond (nat_eq word turn.next) (begun_word g active) word ≡ begun_word g active = cond-true (nat_eq word turn.next) (begun_word g active) word hit in
      let middle : Controls = with_tail c p (cond (nat_eq word turn.next) (begun_word g active) word) in
      let counts_on : Leads middle (steps.CountExchange active ends.0 ∷ []) d = subst (λ (xs : List WordStep). Leads middle xs d) ends.1 exchanges.1 in
      let count : cond (nat_eq c.count active) (active + 1) c.count ≡ active + 1 = cond-true (nat_eq c.count active) (active + 1) c.count (eq-eqb c.count active s.count) in
      let all : d ≡ record { limit = c.limit; count = active + 1; tails = slice_set c.tails p (begun_word g active) } = counts_on.1 ∙ (λ j. record { limit = c.limit; count = count j; tails = slice_set c.tails p (to j) }) in
      (subst (Settled g tail (active + 1)) (sym all) (begun end small), ap (λ (x : Controls). x.limit) all)

-- ---- a claim that was accepted

pub accepted : (p : Pass) (size start tail active : ℕ) (q : Pass) (c d : Controls) → IsGeometry (geometry_of p) → Settled (geometry_of p) tail active c → Claimed p size start q → Leads c q.call d → TakesAt p size tail active c d start q
accepted p size start tail active q c d is s h leads =
    let g : Geometry = geometry_of p in let n : ℕ = framed_length g size in
    let led : Leads c (steps.Limit h.limit ∷ steps.Count h.count ∷ steps.Tail (h.count % 3) h.tail ∷ addition_to p h.count size h.word ∷ []) d = subst (λ (xs : List WordStep). Leads c xs d) h.call leads in
    let e : h.count ≡ active = led.1.0 ∙ s.count in
    let seen : h.tail ≡ tail_in c (active % 3) = led.1.1.0 ∙ ap (λ (k : ℕ). tail_in c (k % 3)) e in
    let word : h.word ≡ tail_in c (active % 3) = led.1.1.1.0 ∙ ap (λ (k : ℕ). tail_in c (k % 3)) e in
    let room : offset_in h.word < g.term_length = subst (λ (w : ℕ). offset_in w < g.term_length) (seen ∙ sym word) h.room in
    let there = tail_there g tail active c is s h.word word room in
    let here = tail_there g tail active c is s h.tail seen h.room in
    let offset = offset_is g tail active c is s h.word word in
    let d_is : d ≡ with_tail c (active % 3) ((tail_in c (active % 3) + n) % 2 ^ 64) = led.1.1.1.1 ∙ ap (λ (k : ℕ). with_tail c (k % 3) ((tail_in c (k % 3) + n) % 2 ^ 64)) e in
    let sums = within (active * g.term_length) ((active + 1) * g.term_length) s.offset g.term_length n tail (one_more active g.term_length) (subst (λ (o : ℕ). o < g.term_length) offset room) s.tail_is (subst (λ (o : ℕ). o + n ≤ g.term_length) offset h.inside) in
    record {
      may = record {
        unclosed = subst (λ (l : ℕ). is_closed l ≡ false) led.0 h.unclosed;
        room = there.1;
        below = subst (λ (x : ℕ × ℕ). x.0 < limit_in x.1) (λ j. ((position_is g tail active c is s h.tail seen h.count e ∙ here.0) j, led.0 j)) h.below;
      };
      start_is = h.from ∙ there.0;
      inside = sums.0;
      settled = subst (Settled g (tail + n) active) (sym d_is) (added g tail active c is s n (let t = is.term.greatest in omega (arith, sums.1)) (tail + n) sums.2);
      limit = ap (λ (x : Controls). x.limit) d_is;
      after = subst (λ (at : ℕ). Keeps (opened p (record { start = at; owner = p.number; cuts = cuts_of g size; padding = false })) q) there.0 h.after;
      idle = h.idle;
    }
  where
    within : (x y o t n tail : ℕ) → y ≡ x + t → o < t → tail ≡ x + min o t → o + n ≤ t → (tail + n ≤ y) × (o + n ≤ t) × (tail + n ≡ x + min (o + n) t)
    within x y o t n tail z low e le = (omega arith, le, omega arith)

-- ---- one that was refused

module _ (p : Pass) (size tail active : ℕ) (q : Pass) (c d : Controls) (is : IsGeometry (geometry_of p)) (s : Settled (geometry_of p) tail active c) where
  abbrev g : Geometry
  g = geometry_of p

  -- the three words that were loaded
  record Loaded (limit count word : ℕ) (rest : List WordStep) : Type 0 where
    limit_is : limit ≡ c.limit
    count_there : count ≡ active
    word_there : word ≡ tail_in c (active % 3)
    leads : Leads c rest d

  loaded : (limit count word : ℕ) (rest : List WordStep) → Saw q limit count word rest → Leads c q.call d → Loaded limit count word rest
  loaded limit count word rest saw leads =
      let led : Leads c (steps.Limit limit ∷ steps.Count count ∷ steps.Tail (count % 3) word ∷ rest) d = subst (λ (xs : List WordStep). Leads c xs d) saw leads in
      let e : count ≡ active = led.1.0 ∙ s.count in
      record { limit_is = led.0; count_there = e; word_there = led.1.1.0 ∙ ap (λ (k : ℕ). tail_in c (k % 3)) e; leads = led.1.1.1 }

  -- at the limit
  reaches : (limit count word : ℕ) (connected : Bool) → Loaded limit count word [] → is_closed limit ≡ false → AtLimit p limit count word → is_connected limit ≡ connected → Keeps p q → Reaches p tail active connected c d q
  reaches limit count word connected l unclosed at flag keeps = let there = tail_there g tail active c is s word l.word_there at.1 in record {
    unclosed = subst (λ (x : ℕ). is_closed x ≡ false) l.limit_is unclosed;
    room = there.1;
    limited = subst (λ (x : ℕ × ℕ). limit_in x.1 ≤ x.0) (λ j. ((position_is g tail active c is s word l.word_there count l.count_there ∙ there.0) j, l.limit_is j)) at.2;
    flag = subst (λ (x : ℕ). is_connected x ≡ connected) l.limit_is flag;
    same = l.leads;
    after = keeps;
  }

  never_stale : (limit count word : ℕ) (rest : List WordStep) → Loaded limit count word rest → Stale p count word → ⊥
  never_stale limit count word rest l other = other (id_is g tail active c is s word l.word_there ∙ ap (id_of g) (sym l.count_there))

  -- what follows the end of the active term
  ended : (at : ℕ) (m : Controls) (rest : List WordStep) → at ≡ (active + 1) * g.term_length → Settled g at active m → m.limit ≡ c.limit → TurnsFrom g active rest → Leads m rest d
      → (IsNotLast active → Settled g at (active + 1) d × (d.limit ≡ c.limit)) × (IsLast active → Settled g at active d × (d.limit ≡ c.limit))
  ended at m rest end settled limit turns leads = (
    (λ go. let t = turned g at active m is settled d rest end (omega (arith, go)) (turns.turns go) leads in (t.0, t.1 ∙ limit)),
    (λ last. let same : d ≡ m = subst (λ (xs : List WordStep). Leads m xs d) (turns.ends last) leads in (subst (Settled g at active) (sym same) settled, ap (λ (x : Controls). x.limit) same ∙ limit)),
  )

  -- nothing is left where no addition was made
  no_addition : (rest : List WordStep) → TurnsFrom g active rest → IsLast active ⊎ IsNotLast active → Leaves p rest q → Keeps p q
  no_addition rest turns which leaves = ⊎_elim (λ last. subst (λ (xs : List WordStep). Leaves p xs q) (turns.ends last) leaves) (λ go. subst (λ (xs : List WordStep). Leaves p xs q) (turns.turns go).load leaves) which

  finished : (Which : ℕ → Type 0) (limit count word : ℕ) (rest : List WordStep) → Loaded limit count word rest → is_closed limit ≡ false → Finished p Which count word rest → Leaves p rest q → (Which active → IsLast active ⊎ IsNotLast active)
      → FindsEnd p tail active c q × TurnsFrom g active rest × Which active
  finished Which limit count word rest l unclosed f leaves either =
      let which = subst Which l.count_there f.which in let turns = subst (λ (k : ℕ). TurnsFrom g k rest) l.count_there f.turns in
      (record { unclosed = subst (λ (x : ℕ). is_closed x ≡ false) l.limit_is unclosed; end = end_there g tail active c is s word l.word_there f.over; after = no_addition rest turns (either which) leaves }, turns, which)

  -- the addition passed the end of its term
  record Past (Which : ℕ → Type 0) : Type 0 where
    pads : PadsEnd p size tail active c q
    which : Which active
    more : List WordStep
    turns : TurnsFrom g active more
    middle : Controls
    settled : Settled g ((active + 1) * g.term_length) active middle
    limit : middle.limit ≡ c.limit
    leads : Leads middle more d

  tripped : (Which : ℕ → Type 0) (limit count word : ℕ) (rest : List WordStep) → size ≤ max_message g → Loaded limit count word rest → is_closed limit ≡ false → Tripped p size Which limit count word rest → Leaves p rest q → Past Which
  tripped Which limit count word rest short l unclosed t leaves =
      let n : ℕ = framed_length g size in
      let led : Leads c (addition_to p count size t.word ∷ t.more) d = subst (λ (xs : List WordStep). Leads c xs d) t.added l.leads in
      let at : t.word ≡ tail_in c (active % 3) = led.0 ∙ ap (λ (k : ℕ). tail_in c (k % 3)) l.count_there in
      let low : offset_in t.word < g.term_length = subst (λ (w : ℕ). offset_in w < g.term_length) (l.word_there ∙ sym at) t.room in
      let here = tail_there g tail active c is s word l.word_there t.room in
      let there = tail_there g tail active c is s t.word at low in
      let offset = offset_is g tail active c is s t.word at in
      let k : count_in g t.word ≡ active = counted g tail active c is s t.word at in
      let middle : Controls = with_tail c (active % 3) ((tail_in c (active % 3) + n) % 2 ^ 64) in
      let leads : Leads middle t.more d = subst (λ (j : ℕ). Leads (with_tail c (j % 3) ((tail_in c (j % 3) + n) % 2 ^ 64)) t.more d) l.count_there led.1 in
      let left : LeavesPadding p t.word q = subst (λ (xs : List WordStep). Leaves p xs q) t.added leaves in
      let sums = beyond (active * g.term_length) ((active + 1) * g.term_length) s.offset g.term_length n tail (one_more active g.term_length) (subst (λ (o : ℕ). o < g.term_length) offset low) s.tail_is (subst (λ (o : ℕ). g.term_length < o + n) offset t.over) in
      let rest_is : g.term_length - offset_in t.word ≡ (active + 1) * g.term_length - tail = ap (λ (o : ℕ). g.term_length - o) offset ∙ sums.1 in
      let most = claim_bounded g size is short in
      record {
        pads = record {
          may = record {
            unclosed = subst (λ (x : ℕ). is_closed x ≡ false) l.limit_is unclosed;
            room = there.1;
            below = subst (λ (x : ℕ × ℕ). x.0 < limit_in x.1) (λ j. ((position_is g tail active c is s word l.word_there count l.count_there ∙ here.0) j, l.limit_is j)) t.below;
          };
          over = sums.0;
          after = subst (λ (x : ℕ × ℕ). Keeps (record p {
            right = record p.right { claims = p.right.claims ++ record { start = x.0; owner = p.number; cuts = x.1 ∷ []; padding = true } ∷ [] };
            work = record p.work { frames = p.work.frames ++ frame_at p.identity x.0 (Pad x.1) ∷ [] };
          }) q) (λ j. (there.0 j, rest_is j)) (left.below low);
        };
        which = subst Which k t.which;
        more = t.more;
        turns = subst (λ (j : ℕ). TurnsFrom g j t.more) k t.turns;
        middle = middle;
        settled = added g tail active c is s n (let b = is.term.greatest in omega (arith, most.0, most.1, sums.3, b)) ((active + 1) * g.term_length) sums.2;
        limit = refl;
        leads = leads;
      }
    where
      beyond : (x y o t n tail : ℕ) → y ≡ x + t → o < t → tail ≡ x + min o t → t < o + n → (y < tail + n) × (t - o ≡ y - tail) × (y ≡ x + min (o + n) t) × (o < t)
      beyond x y o t n tail z low e over = (omega arith, omega arith, omega arith, low)

  not_last_then : IsNotLast active → (how : FindsEnd p tail active c q ⊎ PadsEnd p size tail active c q) → Settled g ((active + 1) * g.term_length) (active + 1) d × (d.limit ≡ c.limit) → IsNotLast active × Ends p size tail active (active + 1) c d q
  not_last_then go how after = (go, record { how = how; settled = after.0; limit = after.1 })

  last_then : IsLast active → (how : FindsEnd p tail active c q ⊎ PadsEnd p size tail active c q) → Settled g ((active + 1) * g.term_length) active d × (d.limit ≡ c.limit) → IsLast active × Ends p size tail active active c d q
  last_then last how after = (last, record { how = how; settled = after.0; limit = after.1 })

  at_end : tail ≡ (active + 1) * g.term_length → Settled g ((active + 1) * g.term_length) active c
  at_end e = subst (λ (t : ℕ). Settled g t active c) e s

  refused_by : (why : Refusal) → size ≤ max_message g → (r : Refused p size why q) → Leads c q.call d → RefusedAlone p size tail active c d why q
  refused_by NotConnected short r leads = let l = loaded r.limit r.count r.tail r.rest r.saw leads in reaches r.limit r.count r.tail false (subst (Loaded r.limit r.count r.tail) r.cause.2 l) r.unclosed r.cause.0 r.cause.1 (subst (λ (xs : List WordStep). Leaves p xs q) r.cause.2 r.leaves)
  refused_by BackPressured short r leads = let l = loaded r.limit r.count r.tail r.rest r.saw leads in reaches r.limit r.count r.tail true (subst (Loaded r.limit r.count r.tail) r.cause.2 l) r.unclosed r.cause.0 r.cause.1 (subst (λ (xs : List WordStep). Leaves p xs q) r.cause.2 r.leaves)
  refused_by AdminAction short r leads = let l = loaded r.limit r.count r.tail r.rest r.saw leads in ⊎_elim
      (λ (h : Stale p r.count r.tail × (r.rest ≡ [])). absurd (never_stale r.limit r.count r.tail r.rest l h.0))
      (λ (h : Finished p IsNotLast r.count r.tail r.rest ⊎ Tripped p size IsNotLast r.limit r.count r.tail r.rest). ⊎_elim
      (λ (f : Finished p IsNotLast r.count r.tail r.rest). let u = finished IsNotLast r.limit r.count r.tail r.rest l r.unclosed f r.leaves (λ w. inr w) in not_last_then u.2 (inl u.0) ((ended ((active + 1) * g.term_length) c r.rest refl (at_end u.0.end) refl u.1 l.leads).0 u.2))
      (λ (t : Tripped p size IsNotLast r.limit r.count r.tail r.rest). let u = tripped IsNotLast r.limit r.count r.tail r.rest short l r.unclosed t r.leaves in not_last_then u.which (inr u.pads) ((ended ((active + 1) * g.term_length) u.middle u.more refl u.settled u.limit u.turns u.leads).0 u.which))
      h)
      r.cause
  refused_by Closed short r leads = absurd r.cause
  refused_by MaxPositionExceeded short r leads = let l = loaded r.limit r.count r.tail r.rest r.saw leads in ⊎_elim
      (λ (f : Finished p IsLast r.count r.tail r.rest). let u = finished IsLast r.limit r.count r.tail r.rest l r.unclosed f r.leaves (λ w. inl w) in last_then u.2 (inl u.0) ((ended ((active + 1) * g.term_length) c r.rest refl (at_end u.0.end) refl u.1 l.leads).1 u.2))
      (λ (t : Tripped p size IsLast r.limit r.count r.tail r.rest). let u = tripped IsLast r.limit r.count r.tail r.rest short l r.unclosed t r.leaves in last_then u.which (inr u.pads) ((ended ((active + 1) * g.term_length) u.middle u.more refl u.settled u.limit u.turns u.leads).1 u.which))
      r.cause

  shut_by : Shut p q → Leads c q.call d → FindsClosed p c d q
  shut_by h leads = let led : Leads c (steps.Limit h.limit ∷ []) d = subst (λ (xs : List WordStep). Leads c xs d) h.call leads in record { closed = subst (λ (x : ℕ). is_closed x ≡ true) led.0 h.closed; same = led.1; after = h.after }

  pub refused : (why : Refusal) → size ≤ max_message g → Justified p size why q → Leads c q.call d → RefusedAlone p size tail active c d why q
  refused NotConnected short r leads = refused_by NotConnected short r leads
  refused BackPressured short r leads = refused_by BackPressured short r leads
  refused AdminAction short r leads = refused_by AdminAction short r leads
  refused Closed short r leads = shut_by r leads
  refused MaxPositionExceeded short r leads = refused_by MaxPositionExceeded short r leads
