-- An addition more.
use Rattle.std.proofs.Common.{◌≡◌, ◌∙◌, ℕ, zero, suc, ◌+◌, ◌*◌, ◌/◌, ◌%◌, ◌<◌, ◌≤◌, ⊎_elim, List, [], ◌∷◌, ◌++◌, map, length, take, append-nil, Some, refl, sym, ap, subst, arith}
use Rattle.std.specs.Prelude.{Option, false, slice_get, slice_set}
use Rattle.std.proofs.Math.Seq.{drop-append_seam, take-length}
use Rattle.std.proofs.lemmas.List.{length-append, map-append, map-set}
use Rattle.theory.specs.Position.{Geometry, aligned, framed_length, max_message, max_payload}
use Rattle.theory.specs.Entry.{Entry}
use Rattle.theory.proofs.Claims.{claim_bounded}
use Rattle.theory.proofs.Lists.{all_pushed}
use Rattle.theory.proofs.Places.{power_unit}
use Rattle.one_hand.specs.Entries.{claim_of, padded, published, with_share}
use Rattle.one_hand.specs.Stream.{Fits, OpenClaim, Stream, case_of, covered, room, term_of, with_claim, with_entry, with_message, with_padding}
use Rattle.one_hand.proofs.Cases.{has_room}
use Rattle.one_hand.proofs.Keeps.{claim_keeps, entry_keeps, message_keeps, padding_keeps, set_get, turn_keeps}
use Rattle.log_tests.specs.declared.plain_log.addition.Addition.{Addition}
use Rattle.log_tests.specs.declared.plain_log.addition.Content.TheVariants as content
use Rattle.log_tests.specs.declared.plain_log.addition.PlacedClaim.{PlacedClaim}
use Rattle.log_tests.specs.Plain.{IsFrom, IsIn, IsPlain, Plain, claim_in, entry_of, open_addition, stored_by, stream_of}
use Rattle.log_tests.proofs.Plain.Rows.{entries_stay, in_more, stored_more, tail_unit}

get_before : {X : Type 0} (xs ys : List X) (k : ℕ) (x : X) → slice_get xs k ≡ Some x → slice_get (xs ++ ys) k ≡ Some x
get_before [] ys k x h = absurd (cc)
get_before (y ∷ xs) ys zero x h = h
get_before (y ∷ xs) ys (suc k) x h = get_before xs ys k x h

get_last : {X : Type 0} (xs : List X) (x : X) → slice_get (xs ++ x ∷ []) (length xs) ≡ Some x
get_last [] x = refl
get_last (y ∷ xs) x = get_last xs x

-- the parts with an addition more
abbrev pub grown : Plain → ℕ → Addition → ℕ → List ℕ → List (Option PlacedClaim) → Plain
grown p by a bytes row later = record p { tail = p.tail + bytes; shares = with_share p.shares by bytes; additions = p.additions ++ a ∷ []; bytes = row; held = later }

abbrev Holds : List (Option PlacedClaim) → List Addition → Type 0
Holds held xs = (by : ℕ) (h : PlacedClaim) → slice_get held by ≡ Some (Some h) → slice_get xs h.place ≡ Some (open_addition by h)

module _ (p : Plain) (is : IsPlain p) where
  abbrev s : Stream
  s = stream_of p

  abbrev g : Geometry
  g = p.identity.geometry

  module _ (by : ℕ) (a : Addition) (bytes : ℕ) (more row : List ℕ) (row_is : row ≡ p.bytes ++ more) (later : List (Option PlacedClaim)) (e : Entry) (entry : entry_of g row a ≡ e) (owner : e.owner ≡ by) where
    abbrev after : Stream
    after = record (with_entry s e bytes) { claims = map claim_in later }

    entries_are : map (entry_of g row) (p.additions ++ a ∷ []) ≡ map (entry_of g p.bytes) p.additions ++ e ∷ []
    entries_are =
        map-append (entry_of g row) p.additions (a ∷ [])
        ∙ (λ j. map (entry_of g (row_is j)) p.additions ++ entry j ∷ [])
        ∙ ap (λ (es : List Entry). es ++ e ∷ []) (entries_stay g p.bytes more p.additions is.within)

    shows : stream_of (grown p by a bytes row later) ≡ after
    shows = (λ j. record (stream_of (grown p by a bytes row later)) { shares = with_share p.shares (sym owner j) bytes; entries = entries_are j })

    grows : IsFrom p.start after → p.tail + bytes ≤ p.start + g.term_length → IsIn (length row) a → stored_by a.size a.content ≡ length more → Holds later (p.additions ++ a ∷ []) → IsPlain (grown p by a bytes row later)
    grows from bound here stored_is holds =
        let longer : length row ≡ length p.bytes + length more = ap length row_is ∙ length-append p.bytes more in
        let sum = stored_more p.additions a in let all = is.all in
        record {
          whole = subst (IsFrom p.start) (sym shows) from;
          bound = bound;
          within = all_pushed (IsIn (length row)) p.additions a (in_more (length p.bytes) (length row) p.additions (omega (arith, longer)) is.within) here;
          all = omega (arith, longer, sum, all, stored_is);
          holds = holds;
        }

  still_held : (a : Addition) → Holds p.held (p.additions ++ a ∷ [])
  still_held a by h at = get_before p.additions (a ∷ []) h.place (open_addition by h) (is.holds by h at)

  -- what fits ends within a term from the start
  pub ends_low : (n : ℕ) → n ≤ max_message g → p.tail < s.limit → p.tail + framed_length g n ≤ p.start + g.term_length
  ends_low n short below =
      let b = claim_bounded g n is.whole.legal.geometry short in
      let least = is.whole.legal.geometry.term.least in
      let low : p.tail < p.start + g.term_length / 2 = below in
      omega (arith, low, b.0, b.1, least)

  -- ---- a message

  module _ (by : ℕ) (low : by < 8) (message : List ℕ) (short : length message ≤ max_message g) (fits : case_of s (length message) ≡ Fits) where
    abbrev put : Addition
    put = record { start = p.tail; owner = by; size = length message; content = content.Message (length p.bytes) }

    put_is : entry_of g (p.bytes ++ message) put ≡ published g p.tail by message
    put_is = ap (published g p.tail by) (ap (take (length message)) (drop-append_seam p.bytes message) ∙ take-length message)

    abbrev covers : ℕ
    covers = framed_length g (length message)

    pub put_shows : stream_of (grown p by put covers (p.bytes ++ message) p.held) ≡ with_message s by message
    put_shows = shows by put covers message (p.bytes ++ message) refl p.held (published g p.tail by message) put_is refl

    pub put_plain : IsPlain (grown p by put covers (p.bytes ++ message) p.held)
    unfolding message_keeps entry_keeps
    put_plain =
        let r = has_room s (length message) fits in
        let l = length-append p.bytes message in
        grows by put covers message (p.bytes ++ message) refl p.held (published g p.tail by message) put_is refl
        (record { legal = message_keeps s by message is.whole.legal low r.some r.inside; begins = is.whole.begins })
        (ends_low (length message) short r.below) (omega (arith, l)) refl (still_held put)

  -- ---- a claim

  module _ (by : ℕ) (low : by < 8) (size : ℕ) (short : size ≤ max_payload g) (fits : case_of s size ≡ Fits) where
    abbrev held : PlacedClaim
    held = record { place = length p.additions; start = p.tail; size = size }

    abbrev hold : Addition
    hold = open_addition by held

    abbrev later : List (Option PlacedClaim)
    later = slice_set p.held by (Some held)

    claims_are : map claim_in later ≡ slice_set (map claim_in p.held) by (Some (record { start = p.tail; size = size }))
    claims_are = map-set claim_in p.held by (Some held)

    pub hold_shows : stream_of (grown p by hold (framed_length g size) p.bytes later) ≡ with_claim s by size
    hold_shows =
        shows by hold (framed_length g size) [] p.bytes (sym (append-nil p.bytes)) later (claim_of g p.tail by false size) refl refl
        ∙ ap (λ (cs : List (Option OpenClaim)). record (with_entry s (claim_of g p.tail by false size) (covered s size)) { claims = cs }) claims_are

    claim_held : Holds later (p.additions ++ hold ∷ [])
    claim_held b h at = ⊎_elim
        (λ (q : (b ≡ by) × (Some held ≡ Some h)). let same : held ≡ h = (let o = q.1 in cc) in
        subst (λ (x : ℕ × PlacedClaim). slice_get (p.additions ++ hold ∷ []) x.1.place ≡ Some (open_addition x.0 x.1)) (λ j. (sym q.0 j, same j)) (get_last p.additions hold))
        (λ (q : slice_get p.held b ≡ Some (Some h)). still_held hold b h q)
        (set_get p.held by b (Some held) (Some h) at)

    pub hold_plain : IsPlain (grown p by hold (framed_length g size) p.bytes later)
    unfolding claim_keeps entry_keeps
    hold_plain =
        let r = has_room s size fits in
        let legal : IsFrom p.start (with_claim s by size) = record { legal = claim_keeps s by size is.whole.legal low short r.some r.inside; begins = is.whole.begins } in
        grows by hold (framed_length g size) [] p.bytes (sym (append-nil p.bytes)) later (claim_of g p.tail by false size) refl refl
        (subst (λ (cs : List (Option OpenClaim)). IsFrom p.start (record (with_entry s (claim_of g p.tail by false size) (covered s size)) { claims = cs })) (sym claims_are) legal)
        (ends_low size (let m = is.whole.legal.geometry.mtu.within in let t = is.whole.legal.geometry.term.greatest in omega (arith, short, m, t)) r.below) tt refl claim_held

  -- ---- a padding

  whole_rest : (rest : ℕ) → rest ≡ room s → 0 < rest → aligned rest ≡ rest
  whole_rest rest rest_is some =
      let u = tail_unit p is in let v = power_unit g.term_length is.whole.legal.geometry.term.power is.whole.legal.geometry.term.least in
      let m = times (p.active + 1) g.term_length v in omega (arith, u, m, some, rest_is)
    where
      times : (k x : ℕ) → x % 32 ≡ 0 → (k * x) % 32 ≡ 0
      times zero x e = omega arith
      times (suc k) x e = let h = times k x e in omega (arith, e, h)

  module _ (by : ℕ) (low : by < 8) (rest : ℕ) (rest_is : rest ≡ room s) (some : 0 < rest) (bound : p.tail + rest ≤ p.start + g.term_length) where
    abbrev pad : Addition
    pad = record { start = p.tail; owner = by; size = rest; content = content.Padding }

    pub pad_shows : stream_of (grown p by pad rest p.bytes p.held) ≡ with_padding s by rest
    pad_shows = shows by pad rest [] p.bytes (sym (append-nil p.bytes)) p.held (padded p.tail by rest) refl refl ∙ ap (with_entry s (padded p.tail by rest)) (sym (whole_rest rest rest_is some))

    pub pad_plain : IsPlain (grown p by pad rest p.bytes p.held)
    unfolding padding_keeps entry_keeps
    pad_plain =
        let legal : IsFrom p.start (with_padding s by (room s)) = record { legal = padding_keeps s by is.whole.legal low (omega (arith, some, rest_is)) (ap aligned (sym rest_is) ∙ whole_rest rest rest_is some ∙ rest_is); begins = is.whole.begins } in
        grows by pad rest [] p.bytes (sym (append-nil p.bytes)) p.held (padded p.tail by rest) refl refl
        (subst (IsFrom p.start) (ap (with_padding s by) (sym rest_is) ∙ ap (with_entry s (padded p.tail by rest)) (whole_rest rest rest_is some)) legal)
        bound tt refl (still_held pad)

  -- ---- a turn

  pub turn_plain : p.tail ≡ (p.active + 1) * g.term_length → p.active + 1 < 2147483648 → IsPlain (record p { active = p.active + 1 })
  unfolding turn_keeps
  turn_plain end low = record {
    whole = record { legal = turn_keeps s is.whole.legal end low; begins = is.whole.begins };
    bound = is.bound;
    within = is.within;
    all = is.all;
    holds = is.holds;
  }

-- behind a padding the term is at its end
pub pad_ends : (p : Plain) (now : Stream) → stream_of p ≡ now → IsPlain p → (rest : ℕ) → rest ≡ room now → 0 < rest → now.tail + aligned rest ≡ (now.active + 1) * term_of now
pad_ends p now view is rest rest_is some =
    let r = subst (λ (s : Stream). rest ≡ room s) (sym view) rest_is in let u = whole_rest p is rest r some in
    subst (λ (s : Stream). s.tail + aligned rest ≡ (s.active + 1) * term_of s) view (omega (arith, u, r, some))
