-- What a log that was just opened is in one hand.
use Rattle.std.proofs.Common.{◌++◌, Bool, ◌≡◌, ◌∙◌, ◌≢◌, ℕ, zero, suc, ◌+◌, ◌-◌, ◌*◌, ◌/◌, ◌%◌, ◌<◌, ◌≤◌, max, List, [], ◌∷◌, map, min, length, length-set, get_or-set_other, false, Some, None, refl, sym, ap, subst, arith, mod-lt}
use Rattle.std.proofs.Common.{to_z, of_z}
use Rattle.std.specs.Prelude.{ℤ, FitsSigned, Option, replicate, slice_get, slice_index, slice_index_or, slice_set}
use Rattle.std.specs.List.{AllByRecursion}
use Rattle.std.proofs.lemmas.Bool.{ne_eqb}
use Rattle.std.proofs.Math.Nat.{div-lt_iff_lt-mul}
use Rattle.std.proofs.lemmas.Nat.{div-add-mod'}
use Rattle.std.proofs.lemmas.List.{length-replicate, get_or-set_same}
use Rattle.std.specs.Int.{w32}
use Rattle.std.proofs.lemmas.Int.{to_z-of_z}
use Rattle.theory.specs.Position.{Geometry, IsGeometry, id_of}
use Rattle.theory.specs.Bytes.{Identity, IsIdentity}
use Rattle.theory.specs.Refusal.{is_closed, is_connected, limit_in}
use Rattle.theory.specs.Words.{id_before, id_in, tail_word}
use Rattle.publication.specs.declared.pass.Controls.{Controls}
use Rattle.publication.specs.declared.pass.Pass.{Pass}
use Rattle.publication.specs.Alone.{Settled}
use Rattle.publication.proofs.Packed.{before_fits, id_of_word}
use Rattle.shared_log.specs.Steps.Handles.{IsLogOf, IsWholeNew, LogValue, PublisherValue}
use Rattle.publication.specs.declared.pass.Reading.{Reading}
use Rattle.log_rule.specs.declared.rule.Key.{Key}
use Rattle.log_rule.specs.Table.{consumers_at, first_there, whole_pass}
use Rattle.position.specs.Openings.{IsConsumerCount, IsStart}
use Rattle.log_rule.specs.Claims.Sure.{fresh_controls}
use Rattle.one_hand.specs.Legal.{IsStream}
use Rattle.one_hand.specs.Stream.{OpenClaim, first_consumers, opened, standing}
use Rattle.one_hand.specs.declared.log_hand.held.Held.{Held}
use Rattle.one_hand.specs.Shown.{IsWhole, claim_in, consumers_of, kept, seated, shares_of, stream_of}
use Rattle.one_hand.specs.Parts.{Stands}
use Rattle.log_rule.specs.Keepings.{numbered as there_numbers}
use Rattle.log_rule.proofs.Beginning.{first_is}
use Rattle.shared_log.specs.Keepers.{KnowsWho, counted, flag_of}
use Rattle.one_hand.specs.Hands.{HasAll, IsInHand, stream_in}

abbrev none_held : List (Option Held)
none_held = replicate 8 None

nobody_holds : (n by : ℕ) (h : Held) → slice_get (replicate n None) by ≡ Some (Some h) → ⊥
nobody_holds zero by h e = cc
nobody_holds (suc n) zero h e = cc
nobody_holds (suc n) (suc by) h e = nobody_holds n by h e

nobody_claims : (n by : ℕ) (c : OpenClaim) → slice_get (map claim_in (replicate n None)) by ≡ Some (Some c) → ⊥
nobody_claims zero by c e = cc
nobody_claims (suc n) zero c e = cc
nobody_claims (suc n) (suc by) c e = nobody_claims n by c e

stood : (start from n : ℕ) → map (λ (r : Reading). r.position) (consumers_at start from n) ≡ replicate n start
stood start from zero = refl
stood start from (suc n) = ap (λ xs. start ∷ xs) (stood start (suc from) n)

numbered : (start from n : ℕ) → map (λ (r : Reading). r.number) (consumers_at start from n) ≡ counted from n
numbered start from zero = refl
numbered start from (suc n) = ap (λ xs. from ∷ xs) (numbered start (suc from) n)

none_numbered : (from n : ℕ) → there_numbers from (replicate n 0) ≡ []
none_numbered from zero = refl
none_numbered from (suc n) = none_numbered (suc from) n

numbered_first : (from n m : ℕ) → there_numbers from (replicate n 1 ++ replicate m 0) ≡ counted from n
numbered_first from zero m = none_numbered from m
numbered_first from (suc n) m = ap (λ xs. from ∷ xs) (numbered_first (suc from) n m)

none_seated : (n : ℕ) (ps : List ℕ) → seated (replicate n 0) ps ≡ replicate n None
none_seated zero ps = refl
none_seated (suc n) ps = ap (λ (cs : List (Option ℕ)). None ∷ cs) (none_seated n ps)

seated_first : (start n m : ℕ) → seated (replicate n 1 ++ replicate m 0) (replicate n start) ≡ replicate n (Some start) ++ replicate m None
seated_first start zero m = none_seated m []
seated_first start (suc n) m = ap (λ (cs : List (Option ℕ)). Some start ∷ cs) (seated_first start n m)

standing_none : (n : ℕ) → standing (replicate n None) ≡ []
standing_none zero = refl
standing_none (suc n) = standing_none n

standing_first : (start n m : ℕ) → standing (replicate n (Some start) ++ replicate m None) ≡ replicate n start
standing_first start zero m = standing_none m
standing_first start (suc n) m = ap (λ (ps : List ℕ). start ∷ ps) (standing_first start n m)

first_at : (start n m k at : ℕ) → slice_index_or (replicate n (Some start) ++ replicate m None) k None ≡ Some at → at ≡ start × (k < n)
first_at start zero zero k at e = absurd (cc)
first_at start zero (suc m) zero at e = absurd (cc)
first_at start zero (suc m) (suc k) at e = let low = (first_at start zero m k at e).1 in absurd (omega (arith, low))
first_at start (suc n) m zero at e = (let i : Some start ≡ Some at = e in cc, omega arith)
first_at start (suc n) m (suc k) at e = let r = first_at start n m k at e in (r.0, let low = r.1 in omega (arith, low))

both_long : {A : Type 0} (a b : A) (n m : ℕ) → length (replicate n a ++ replicate m b) ≡ n + m
both_long a b zero m = length-replicate m b ∙ (let e : m ≡ 0 + m = omega arith in e)
both_long a b (suc n) m = ap suc (both_long a b n m) ∙ (let e : suc (n + m) ≡ suc n + m = omega arith in e)

all_there : (P : ℕ → Type 0) (start n : ℕ) → P start → AllByRecursion P (replicate n start)
all_there P start zero h = tt
all_there P start (suc n) h = (h, all_there P start n h)

module _ (i : Identity) (start : ℕ) (legal : IsGeometry i.geometry) (ids : IsIdentity i) (at : IsStart i.geometry start) (count : ℕ) (any : IsConsumerCount count) where
  abbrev g : Geometry
  g = i.geometry

  abbrev t : ℕ
  t = i.geometry.term_length

  abbrev n : ℕ
  n = start / i.geometry.term_length

  abbrev c : Controls
  c = record (fresh_controls i start) { limit = start }

  some : 0 < t
  some = let l = legal.term.least in omega (arith, l)

  parts : start ≡ n * t + start % t
  parts = sym (div-add-mod' start t)

  rest_low : start % t < t
  rest_low = mod-lt start some

  count_low : n < 2147483648
  count_low = (div-lt_iff_lt-mul some).1 (let turned : t * 2147483648 ≡ 2147483648 * t = omega arith in subst (λ (k : ℕ). start < k) turned at.1)

  first_apart : n % 3 ≢ (n + 2) % 3
  first_apart e = omega (arith, e)

  first_next : n % 3 ≢ (n + 1) % 3
  first_next e = omega (arith, e)

  next_apart : (n + 1) % 3 ≢ (n + 2) % 3
  next_apart e = omega (arith, e)

  abbrev a : ℕ
  a = tail_word (id_of i.geometry (start / i.geometry.term_length)) (start % i.geometry.term_length)

  abbrev b : ℕ
  b = tail_word (id_before i.geometry (start / i.geometry.term_length) 2) 0

  abbrev d : ℕ
  d = tail_word (id_before i.geometry (start / i.geometry.term_length) 1) 0

  abbrev one : List ℕ
  one = slice_set (0 ∷ 0 ∷ 0 ∷ []) (n % 3) a

  abbrev two : List ℕ
  two = slice_set one ((n + 1) % 3) b

  one_long : length one ≡ 3
  one_long = length-set (0 ∷ 0 ∷ 0 ∷ []) (n % 3) a

  two_long : length two ≡ 3
  two_long = length-set one ((n + 1) % 3) b ∙ one_long

  settled : Settled g (start + 0) n c
  settled = record {
    three = length-set two ((n + 2) % 3) d ∙ two_long;
    count = refl;
    small = count_low;
    offset = start % t;
    narrow = (let h = legal.term.greatest in let r = rest_low in omega (arith, h, r));
    here = get_or-set_other two ((n + 2) % 3) (n % 3) d 0 first_apart ∙ get_or-set_other one ((n + 1) % 3) (n % 3) b 0 first_next ∙ get_or-set_same (0 ∷ 0 ∷ 0 ∷ []) (n % 3) a 0 (omega arith);
    tail_is = shown start (n * t) (start % t) t parts rest_low;
    next = ap id_in (get_or-set_other two ((n + 2) % 3) ((n + 1) % 3) d 0 next_apart ∙ get_or-set_same one ((n + 1) % 3) b 0 (let l = one_long in omega (arith, l))) ∙ id_of_word (id_before g n 2) 0 (before_fits g n 2) (omega arith);
    behind = ap id_in (get_or-set_same two ((n + 2) % 3) d 0 (let l = two_long in omega (arith, l))) ∙ id_of_word (id_before g n 1) 0 (before_fits g n 1) (omega arith);
  }
    where
      shown : (s x r t : ℕ) → s ≡ x + r → r < t → s + 0 ≡ x + min r t
      shown s x r t e low = omega arith

  limit_is : (limit_in start ≡ start) × (is_connected start ≡ false) × (is_closed start ≡ false)
  limit_is = let u = at.0 in (omega (arith, u), ne_eqb (start % 2) 1 (λ e. omega (arith, u, e)), ne_eqb (start / 2 % 2) 1 (λ e. omega (arith, u, e)))

  abbrev p : Pass
  p = whole_pass record { identity = i; start = start; consumers = count }

  stand : consumers_of p ≡ first_consumers count start
  stand = ap (seated (first_there count)) (stood start 0 count) ∙ seated_first start count (8 - count)

  shown_is : stream_of p c none_held ≡ opened i start count
  shown_is = (λ j. record (opened i start count) { tail = same start j; limit = limit_is.0 j; connected = limit_is.1 j; closed = limit_is.2 j; consumers = stand j })
    where
      same : (s : ℕ) → s + 0 ≡ s
      same s = omega arith

  each : (P : ℕ → Type 0) → P start → AllByRecursion P (standing (consumers_of p))
  each P h = subst (AllByRecursion P) (sym (ap standing stand ∙ standing_first start count (8 - count))) (all_there P start count h)

  stream_is : IsStream (stream_of p c none_held)
  stream_is = let w = ends start (n * t) ((n + 1) * t) (start % t) t parts rest_low (let e : (n + 1) * t ≡ n * t + t = omega arith in e) in let u = at.0 in record {
    geometry = legal;
    identity = ids;
    unit = u;
    below = at.1;
    from = w.0;
    to = w.1;
    last = count_low;
    first = start;
    tiles = (let e : start + 0 ≡ start = omega arith in e);
    entries = tt;
    eight = refl;
    shares = omega arith;
    numbers = refl;
    claims = λ by o e. absurd (nobody_claims 8 by o e);
    word = omega (arith, u);
    consumer_units = each (λ x. x % 32 ≡ 0) u;
    readable = each (λ x. start ≤ max start (x - t)) (omega arith);
  }
    where
      ends : (s x y r t : ℕ) → s ≡ x + r → r < t → y ≡ x + t → (x ≤ s + 0) × (s + 0 ≤ y)
      ends s x y r t e low f = (omega arith, omega arith)

  whole_is : IsWhole p c none_held
  whole_is = record { settled = settled; eight = refl; follow = tt; past = tt; chained = tt; begun = λ by h e. absurd (nobody_holds 8 by h e); above = λ by h e. absurd (nobody_holds 8 by h e); reached = each (λ x. (start ≤ x) × (x ≤ start + 0)) (omega arith, omega arith); stream = stream_is }

many : (start from n : ℕ) → 0 < n → 0 < length (consumers_at start from n)
many start from zero some = absurd (omega (arith, some))
many start from (suc n) some = omega arith

pub opens : (l : LogValue) (q : PublisherValue) → IsWholeNew l q → IsGeometry l.identity.geometry → IsIdentity l.identity → IsStart l.identity.geometry l.start → IsConsumerCount l.consumers → IsInHand l q none_held × (stream_in q none_held ≡ opened l.identity l.start l.consumers)
opens l q new legal ids at any =
    let key : Key = record { identity = l.identity; start = l.start; consumers = l.consumers } in
    let whole : IsWhole q.pass q.controls none_held = subst (λ (x : Pass × Controls). IsWhole x.0 x.1 none_held) (λ j. (sym new.pass j, sym new.controls j)) (whole_is l.identity l.start legal ids at l.consumers any) in
    let all : HasAll (whole_pass key) (record (fresh_controls l.identity l.start) { limit = l.start }) = record {
      parts = refl;
      numbers = numbered l.start 0 l.consumers ∙ sym (numbered_first 0 l.consumers (8 - l.consumers));
      eight = both_long 1 0 l.consumers (8 - l.consumers) ∙ (let few = any.1 in let e : l.consumers + (8 - l.consumers) ≡ 8 = omega (arith, few) in e);
      some = many l.start 0 l.consumers any.0;
      keeper = refl;
      limit = refl;
    } in (
      record { free = record { of = new.of; sure = new.sure; parts = ap (λ (x : Pass). x.right.parts) new.pass; idle = ap (λ (x : Pass). x.right.armed) new.pass }; whole = whole; all = subst (λ (x : Pass × Controls). HasAll x.0 x.1) (λ j. (sym new.pass j, sym new.controls j)) all },
      (λ j. kept (stream_of (new.pass j) (new.controls j) none_held)) ∙ ap kept (shown_is l.identity l.start legal ids at l.consumers any),
    )

all_eight : (s k : ℕ) → k < 8 → slice_index (s ∷ s ∷ s ∷ s ∷ s ∷ s ∷ s ∷ s ∷ []) k ≡ s
all_eight s zero low = refl
all_eight s (suc zero) low = refl
all_eight s (suc (suc zero)) low = refl
all_eight s (suc (suc (suc zero))) low = refl
all_eight s (suc (suc (suc (suc zero)))) low = refl
all_eight s (suc (suc (suc (suc (suc zero))))) low = refl
all_eight s (suc (suc (suc (suc (suc (suc zero)))))) low = refl
all_eight s (suc (suc (suc (suc (suc (suc (suc zero))))))) low = refl
all_eight s (suc (suc (suc (suc (suc (suc (suc (suc k)))))))) low = absurd (omega (arith, low))

-- what a log's opening ensures
module _ (g : Geometry) (session stream : ℤ) (start consumers : ℕ) (l : LogValue) (q : PublisherValue) (log : IsLogOf (record { geometry = g; session = to_z w32 (of_z w32 session); stream = to_z w32 (of_z w32 stream) }) start consumers l) (new : IsWholeNew l q)
    (legal : IsGeometry g) (session_fits : FitsSigned w32 session) (stream_fits : FitsSigned w32 stream) (range : IsStart g start × IsConsumerCount consumers) where
  identity_is : l.identity ≡ record { geometry = g; session = session; stream = stream }
  identity_is = log.identity_is ∙ (λ j. record { geometry = g; session = to_z-of_z w32 session session_fits j; stream = to_z-of_z w32 stream stream_fits j })

  pub opens_as : IsInHand l q none_held × (stream_in q none_held ≡ opened (record { geometry = g; session = session; stream = stream }) start consumers)
  opens_as =
      let o = opens l q new (subst (λ (i : Identity). IsGeometry i.geometry) (sym identity_is) legal) (subst IsIdentity (sym identity_is) (record { session = session_fits; stream = stream_fits }))
      (subst (λ (x : Identity × ℕ). IsStart x.0.geometry x.1) (λ j. (sym identity_is j, sym log.start_is j)) range.0) (subst IsConsumerCount (sym log.consumers_is) range.1) in
      (o.0, o.1 ∙ (λ j. opened (identity_is j) (log.start_is j) (log.consumers_is j)))

  abbrev eight : List ℕ
  eight = start ∷ start ∷ start ∷ start ∷ start ∷ start ∷ start ∷ start ∷ []

  pub opens_stands : (there : List Bool) → map flag_of there ≡ first_there l.consumers → length there ≡ 8 → (block : ℕ) → g.mtu ≤ block → Stands l q none_held (record { shares = replicate 8 0; positions = eight; limit = start; cleaned = start; there = there; block = block })
  opens_stands there flags many block fits = record {
    hand = opens_as.0;
    numbers = record {
      shares = sym (ap (λ (x : Pass). shares_of x.right.claims) new.pass);
      places = refl;
      positions = λ k at e. (let few = range.1.1 in
          let is : consumers_of q.pass ≡ first_consumers consumers start = ap consumers_of new.pass ∙ (λ j. seated (first_there (log.consumers_is j)) (stood (log.start_is j) 0 (log.consumers_is j) j)) ∙ seated_first start consumers (8 - consumers) in
          let r = first_at start consumers (8 - consumers) k at (subst (λ (cs : List (Option ℕ)). slice_index_or cs k None ≡ Some at) is e) in let low = r.1 in all_eight start k (omega (arith, low, few)) ∙ sym r.0);
      limit = sym (ap (λ (x : Pass). x.keeping.limit) new.pass ∙ log.start_is);
      cleaned = sym (ap (λ (x : Pass). x.keeping.cleaned) new.pass ∙ log.start_is);
      knows = subst (λ (v : Pass). KnowsWho v there) (sym new.pass) record { many = many; flags = sym flags; eight = length-replicate 8 l.start; one = 0; low = omega arith; any = first_is l.consumers 0 (subst (λ (n : ℕ). 0 < n) (sym log.consumers_is) range.1.0) };
      block = subst (λ (i : Identity). i.geometry.mtu ≤ block) (sym log.identity_is) fits;
    };
  }
