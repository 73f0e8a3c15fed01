-- An open claim ends.
use Rattle.std.proofs.Common.{◌≡◌, ◌∙◌, ℕ, zero, suc, ◌+◌, ◌-◌, ◌*◌, ◌^◌, ◌<◌, ◌≤◌, inl, inr, List, [], ◌∷◌, ◌++◌, map, length, take, Bool, true, false, cond, Some, None, refl, sym, ap, subst, arith, append-nil}
use Rattle.std.specs.Prelude.{Option, nat_eq, slice_get, slice_index_or, slice_set}
use Rattle.std.specs.List.{AllByRecursion}
use Rattle.std.proofs.Math.Nat.{mul-le-mul_right}
use Rattle.std.proofs.Math.Seq.{drop-append_seam, take-length}
use Rattle.std.proofs.lemmas.Bool.{cond-false, cond-true, eq-eqb, ne_eqb}
use Rattle.std.proofs.lemmas.List.{length-append, map-set}
use Rattle.theory.specs.Position.{Geometry, aligned, cuts_of, span}
use Rattle.theory.specs.Placed.{Among, Data, Frame, Pad}
use Rattle.theory.specs.Entry.{Entry, HaveFrames, IsEntry, entry_end, pieces_of}
use Rattle.theory.specs.Tiling.{Tiles}
use Rattle.theory.proofs.Cuts.{short_cuts}
use Rattle.theory.proofs.Lists.{all_set}
use Rattle.one_hand.specs.Entries.{claim_of, published}
use Rattle.one_hand.specs.Legal.{IsOpenClaim}
use Rattle.one_hand.specs.Stream.{OpenClaim, Stream, aborted_at, claim_by, with_abort, with_commit, with_frame, without_claim}
use Rattle.one_hand.proofs.Keeps.{claim_is, ends_keeps}
use Rattle.log_tests.specs.declared.plain_log.addition.Addition.{Addition}
use Rattle.log_tests.specs.declared.plain_log.addition.Content.TheVariants as content
use Rattle.log_tests.specs.declared.plain_log.addition.PlacedClaim.{PlacedClaim}
use Rattle.log_tests.specs.Plain.{IsFrom, IsIn, IsPlain, Plain, claim_in, entry_of, message_at, open_addition, stored_by, stream_of}
use Rattle.log_tests.proofs.Plain.Rows.{entries_stay, in_more, stored_set}

-- ---- places

get_map : {X Y : Type 0} (f : X → Y) (xs : List X) (k : ℕ) (x : X) → slice_get xs k ≡ Some x → slice_get (map f xs) k ≡ Some (f x)
get_map f [] k x h = absurd (cc)
get_map f (y ∷ xs) zero x h = let same : y ≡ x = cc in ap (λ z. Some (f z)) same
get_map f (y ∷ xs) (suc k) x h = get_map f xs k x h

index_get : {X : Type 0} (xs : List X) (k : ℕ) (x d : X) → slice_get xs k ≡ Some x → slice_index_or xs k d ≡ x
index_get [] k x d h = absurd (cc)
index_get (y ∷ ys) zero x d h = let same : y ≡ x = cc in same
index_get (y ∷ ys) (suc k) x d h = index_get ys k x d h

pub get_low : {X : Type 0} (xs : List X) (k : ℕ) (x : X) → slice_get xs k ≡ Some x → k < length xs
get_low [] k x h = absurd (cc)
get_low (y ∷ xs) zero x h = omega arith
get_low (y ∷ xs) (suc k) x h = let low = get_low xs k x h in omega (arith, low)

get_other : {X : Type 0} (xs : List X) (i k : ℕ) (x : X) → (k ≡ i → ⊥) → slice_get (slice_set xs i x) k ≡ slice_get xs k
get_other [] i k x apart = refl
get_other (y ∷ xs) zero zero x apart = absurd (apart refl)
get_other (y ∷ xs) zero (suc k) x apart = refl
get_other (y ∷ xs) (suc i) zero x apart = refl
get_other (y ∷ xs) (suc i) (suc k) x apart = get_other xs i k x (λ e. apart (ap suc e))

unset_get : {X : Type 0} (xs : List (Option X)) (i k : ℕ) (x : X) → slice_get (slice_set xs i None) k ≡ Some (Some x) → (slice_get xs k ≡ Some (Some x)) × (k ≡ i → ⊥)
unset_get [] i k x h = absurd (cc)
unset_get (y ∷ xs) zero zero x h = absurd (cc)
unset_get (y ∷ xs) zero (suc k) x h = (h, λ e. omega (arith, e))
unset_get (y ∷ xs) (suc i) zero x h = (h, λ e. omega (arith, e))
unset_get (y ∷ xs) (suc i) (suc k) x h = let q = unset_get xs i k x h in (q.0, λ e. q.1 (omega (arith, e)))

-- ---- entries

among_get : (xs : List Entry) (k : ℕ) (x : Entry) → slice_get xs k ≡ Some x → Among x xs
among_get [] k x h = absurd (cc)
among_get (y ∷ ys) zero x h = let same : y ≡ x = cc in inl (sym same)
among_get (y ∷ ys) (suc k) x h = inr (among_get ys k x h)

starts_from : (term p tail : ℕ) (es : List Entry) (a : Entry) → Tiles term p tail es → Among a es → p ≤ a.start
starts_from term p tail [] a t h = absurd h
starts_from term p tail (e ∷ es) a t (inl same) = omega (arith, ap (λ (x : Entry). x.start) same, t.0)
starts_from term p tail (e ∷ es) a t (inr h) = omega (arith, starts_from term (entry_end e) tail es a t.2 h, t.0)

ends_before : (term p tail : ℕ) (es : List Entry) (e : Entry) → Tiles term p tail es → Among e es → (p ≤ tail) × (entry_end e ≤ tail)
ends_before term p tail [] e t h = absurd h
ends_before term p tail (d ∷ []) e t (inr h) = absurd h
ends_before term p tail (d ∷ []) e t (inl same) = let at = t.0 in let end : tail ≡ entry_end d = t.2 in let ends : entry_end e ≡ entry_end d = ap entry_end same in (omega (arith, at, end), omega (arith, end, ends))
ends_before term p tail (d ∷ f ∷ es) e t (inl same) =
    let rest = ends_before term (entry_end d) tail (f ∷ es) f t.2 (inl refl) in let at = t.0 in let ends : entry_end e ≡ entry_end d = ap entry_end same in (omega (arith, at, rest.0), omega (arith, rest.0, ends))
ends_before term p tail (d ∷ f ∷ es) e t (inr h) = let rest = ends_before term (entry_end d) tail (f ∷ es) e t.2 h in let at = t.0 in (omega (arith, at, rest.0), rest.1)

-- it changes only what starts here
abbrev IsOnlyAt : ℕ → (Entry → Entry) → Type 0
IsOnlyAt start ch = (x : Entry) → (x.start ≡ start → ⊥) → ch x ≡ x

above_stay : (ch : Entry → Entry) (start term p tail : ℕ) (es : List Entry) → IsOnlyAt start ch → start < p → Tiles term p tail es → map ch es ≡ es
above_stay ch start term p tail [] only low t = refl
above_stay ch start term p tail (e ∷ es) only low t =
    (λ j. only e (λ same. absurd (omega (arith, same, low, t.0))) j ∷ above_stay ch start term (entry_end e) tail es only (omega (arith, low, t.0)) t.2 j)

-- a change at a start is a change at a place
put_map : (ch : Entry → Entry) (term p tail : ℕ) (es : List Entry) (k : ℕ) (e : Entry) → IsOnlyAt e.start ch → Tiles term p tail es → AllByRecursion IsEntry es → slice_get es k ≡ Some e → slice_set es k (ch e) ≡ map ch es
put_map ch term p tail [] k e only t all h = absurd (cc)
put_map ch term p tail (x ∷ xs) zero e only t all h =
    let same : x ≡ e = cc in
    let here : x.start ≡ e.start = ap (λ y. y.start) same in
    ap (λ y. ch y ∷ xs) (sym same) ∙ ap (λ ys. ch x ∷ ys) (sym (above_stay ch e.start term (entry_end x) tail xs only (omega (arith, here, all.0.long)) t.2))
put_map ch term p tail (x ∷ xs) (suc k) e only t all h =
    ap (λ y. y ∷ slice_set xs k (ch e)) (sym (only x (λ same. absurd (omega (arith, same, all.0.long, starts_from term (entry_end x) tail xs e t.2 (among_get xs k e h))))))
    ∙ ap (λ ys. ch x ∷ ys) (put_map ch term (entry_end x) tail xs k e only t.2 all.1 h)

-- the parts with this addition in the place of a claim
abbrev pub ended : Plain → ℕ → PlacedClaim → Addition → List ℕ → Plain
ended p by h a row = record p { additions = slice_set p.additions h.place a; bytes = row; held = slice_set p.held by None }

module _ (p : Plain) (is : IsPlain p) (by : ℕ) (low : by < 8) (h : PlacedClaim) (at : slice_get p.held by ≡ Some (Some h)) where
  abbrev s : Stream
  s = stream_of p

  abbrev g : Geometry
  g = p.identity.geometry

  abbrev claim : OpenClaim
  claim = record { start = h.start; size = h.size }

  abbrev e : Entry
  e = claim_of g h.start by false h.size

  open_is : IsOpenClaim s by claim
  open_is = is.whole.legal.claims by claim (get_map claim_in p.held by (Some h) at)

  there : slice_get p.additions h.place ≡ Some (open_addition by h)
  there = is.holds by h at

  pub place_low : h.place < length p.additions
  place_low = get_low p.additions h.place (open_addition by h) there

  pub claim_there : claim_by s by ≡ Some claim
  claim_there = index_get (map claim_in p.held) by (Some claim) None (get_map claim_in p.held by (Some h) at)

  pub size_low : h.size + 32 ≤ 65504
  size_low = let a = open_is.short in let m = is.whole.legal.geometry.mtu in let b = m.greatest in let c = m.least in omega (arith, a, b, c)

  one_cut : cuts_of g h.size ≡ (h.size + 32) ∷ []
  one_cut = short_cuts g h.size open_is.short

  pub end_low : h.start + aligned (h.size + 32) < 2 ^ 64
  end_low =
      let t : ℕ = g.term_length in let last = is.whole.legal.last in let to = is.whole.legal.to in let greatest = is.whole.legal.geometry.term.greatest in
      let ends = (ends_before t is.whole.legal.first p.tail s.entries e is.whole.legal.tiles open_is.entry).1 in
      let end : entry_end e ≡ h.start + (aligned (h.size + 32) + 0) = ap (λ (cuts : List ℕ). h.start + span cuts) one_cut in
      let most : (p.active + 1) * t ≤ 2147483648 * t = mul-le-mul_right t (omega (arith, last)) in
      omega (arith, ends, end, most, to, greatest)

  module _ (a : Addition) (more row : List ℕ) (row_is : row ≡ p.bytes ++ more) (ch : Entry → Entry) (change : entry_of g row a ≡ ch e) (ends : (x : Entry) → entry_end (ch x) ≡ entry_end x) (starts : (x : Entry) → (ch x).start ≡ x.start) (only : IsOnlyAt h.start ch) (legal : IsEntry (ch e)) where
    entries_are : map (entry_of g row) (slice_set p.additions h.place a) ≡ map ch s.entries
    entries_are =
        map-set (entry_of g row) p.additions h.place a
        ∙ (λ j. slice_set (map (entry_of g (row_is j)) p.additions) h.place (change j))
        ∙ ap (λ (es : List Entry). slice_set es h.place (ch e)) (entries_stay g p.bytes more p.additions is.within)
        ∙ put_map ch g.term_length is.whole.legal.first p.tail s.entries h.place e only is.whole.legal.tiles is.whole.legal.entries (get_map (entry_of g p.bytes) p.additions h.place (open_addition by h) there)

    shows : stream_of (ended p by h a row) ≡ without_claim s by (map ch s.entries)
    shows = (λ j. record s { entries = entries_are j; claims = map-set claim_in p.held by None j })

    others : (b : ℕ) (x : PlacedClaim) → slice_get (slice_set p.held by None) b ≡ Some (Some x) → slice_get (slice_set p.additions h.place a) x.place ≡ Some (open_addition b x)
    others b x got =
        let q = unset_get p.held by b x got in
        let mine = is.holds b x q.0 in
        get_other p.additions h.place x.place a (λ same. q.1 (owners b x (sym mine ∙ ap (slice_get p.additions) same ∙ there))) ∙ mine
      where
        owners : (b : ℕ) (x : PlacedClaim) → Some (open_addition b x) ≡ Some (open_addition by h) → b ≡ by
        owners b x same = let one : open_addition b x ≡ open_addition by h = cc in ap (λ (y : Addition). y.owner) one

    ends_plain : IsIn (length row) a → stored_by a.size a.content ≡ length more → IsPlain (ended p by h a row)
    unfolding ends_keeps
    ends_plain here stored_is =
        let longer : length row ≡ length p.bytes + length more = ap length row_is ∙ length-append p.bytes more in
        let sum = stored_set p.additions h.place (open_addition by h) a there refl in
        let all = is.all in
        record {
          whole = subst (IsFrom p.start) (sym shows) (record { legal = ends_keeps s by claim ch is.whole.legal open_is ends starts only legal; begins = is.whole.begins });
          bound = is.bound;
          within = all_set (IsIn (length row)) p.additions h.place a here (in_more (length p.bytes) (length row) p.additions (omega (arith, longer)) is.within);
          all = omega (arith, longer, sum, all, stored_is);
          holds = others;
        }

  same_there : nat_eq h.start h.start ≡ true
  same_there = eq-eqb h.start h.start refl

  -- ---- a commit

  module _ (payload : List ℕ) (size : length payload ≡ h.size) where
    abbrev message : Addition
    message = record { start = h.start; owner = by; size = h.size; content = content.Message (length p.bytes) }

    abbrev framed : Entry → Entry
    framed = with_frame h.start (Data 192 payload)

    payload_is : message_at (p.bytes ++ payload) (length p.bytes) h.size ≡ payload
    payload_is = ap (take h.size) (drop-append_seam p.bytes payload) ∙ ap (λ (n : ℕ). take n payload) (sym size) ∙ take-length payload

    piece_is : pieces_of true (cuts_of g (length payload)) payload ≡ cond (nat_eq h.start h.start) (Data 192 payload ∷ []) []
    piece_is =
        ap (λ (n : ℕ). pieces_of true (cuts_of g n) payload) size ∙ ap (λ (cuts : List ℕ). pieces_of true cuts payload) one_cut
        ∙ ap (λ (xs : List ℕ). Data 192 xs ∷ []) (ap (λ (n : ℕ). take n payload) (let q : h.size + 32 - 32 ≡ length payload = omega (arith, size) in q) ∙ take-length payload)
        ∙ sym (cond-true (nat_eq h.start h.start) (Data 192 payload ∷ []) [] same_there)

    framed_is : entry_of g (p.bytes ++ payload) message ≡ framed e
    framed_is = ap (published g h.start by) payload_is ∙ (λ j. record { start = h.start; owner = by; padding = false; cuts = cuts_of g (size j); frames = piece_is j })

    framed_only : IsOnlyAt h.start framed
    framed_only x apart = ap (λ (fs : List Frame). record x { frames = fs }) (cond-false (nat_eq x.start h.start) (x.frames ++ Data 192 payload ∷ []) x.frames (ne_eqb x.start h.start apart))

    framed_legal : IsEntry (framed e)
    framed_legal = let k = claim_is g h.start by h.size is.whole.legal.geometry low in record {
      owner = k.owner;
      cuts = k.cuts;
      long = k.long;
      frames = subst (λ (b : Bool). HaveFrames false (cuts_of g h.size) (cond b (Data 192 payload ∷ []) [])) (sym same_there) (subst (λ (cuts : List ℕ). HaveFrames false cuts (Data 192 payload ∷ [])) (sym one_cut) ((refl, omega (arith, size)), tt));
    }

    pub commit_shows : stream_of (ended p by h message (p.bytes ++ payload)) ≡ with_commit s by claim payload
    commit_shows = shows message payload (p.bytes ++ payload) refl framed framed_is (λ x. refl) (λ x. refl) framed_only framed_legal

    pub commit_plain : IsPlain (ended p by h message (p.bytes ++ payload))
    commit_plain = ends_plain message payload (p.bytes ++ payload) refl framed framed_is (λ x. refl) (λ x. refl) framed_only framed_legal (let l = length-append p.bytes payload in omega (arith, l, size)) (sym size)

  -- ---- an abort

  abbrev padding : Addition
  padding = record { start = h.start; owner = by; size = h.size + 32; content = content.Padding }

  padded_is : entry_of g p.bytes padding ≡ aborted_at h.start e
  padded_is = (λ j. record {
    start = h.start;
    owner = by;
    padding = sym (cond-true (nat_eq h.start h.start) true false same_there) j;
    cuts = sym one_cut j;
    frames = (ap (map Pad) (sym one_cut) ∙ sym (cond-true (nat_eq h.start h.start) (map Pad (cuts_of g h.size)) [] same_there)) j;
  })

  padded_only : IsOnlyAt h.start (aborted_at h.start)
  padded_only x apart = (λ j. record x { padding = cond-false (nat_eq x.start h.start) true x.padding (ne_eqb x.start h.start apart) j; frames = cond-false (nat_eq x.start h.start) (map Pad x.cuts) x.frames (ne_eqb x.start h.start apart) j })

  padded_legal : IsEntry (aborted_at h.start e)
  padded_legal = let k = claim_is g h.start by h.size is.whole.legal.geometry low in record {
    owner = k.owner;
    cuts = k.cuts;
    long = k.long;
    frames = subst (λ (b : Bool). HaveFrames (cond b true false) (cuts_of g h.size) (cond b (map Pad (cuts_of g h.size)) [])) (sym same_there) (subst (λ (cuts : List ℕ). HaveFrames true cuts (map Pad cuts)) (sym one_cut) refl);
  }

  pub abort_shows : stream_of (ended p by h padding p.bytes) ≡ with_abort s by claim
  abort_shows = shows padding [] p.bytes (sym (append-nil p.bytes)) (aborted_at h.start) padded_is (λ x. refl) (λ x. refl) padded_only padded_legal

  pub abort_plain : IsPlain (ended p by h padding p.bytes)
  abort_plain = ends_plain padding [] p.bytes (sym (append-nil p.bytes)) (aborted_at h.start) padded_is (λ x. refl) (λ x. refl) padded_only padded_legal tt refl
