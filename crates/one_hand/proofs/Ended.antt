-- What the end of an open claim makes of the stream that the pass with all publishers shows.
use Rattle.std.proofs.Common.{◌≡◌, ◌∙◌, ℕ, zero, suc, ◌+◌, ◌*◌, ◌<◌, ◌≤◌, inl, inr, ⊎_elim, List, [], ◌∷◌, ◌++◌, map, length, length-set, Bool, true, false, cond, Some, None, refl, sym, ap, subst, arith}
use Rattle.std.specs.Prelude.{Option, nat_eq, slice_get, slice_index_or, slice_set}
use Rattle.std.proofs.Math.Nat.{mul-le-mul_right}
use Rattle.std.proofs.lemmas.Bool.{cond-false, eq-eqb, ne_eqb}
use Rattle.std.proofs.lemmas.List.{map-set}
use Rattle.theory.specs.Position.{Geometry, aligned, cuts_of, max_payload, max_position, span}
use Rattle.theory.specs.Placed.{Among, Data, Frame, Pad, frame_length}
use Rattle.theory.specs.Entry.{Entry, HaveFrames, IsEntry, entry_end}
use Rattle.theory.specs.Tiling.{Tiles}
use Rattle.theory.proofs.Cuts.{short_cuts}
use Rattle.theory.proofs.Lists.{all_append, among_cases, among_left, among_right}
use Rattle.one_hand.specs.Entries.{claim_of}
use Rattle.publication.specs.declared.pass.Controls.{Controls}
use Rattle.publication.specs.declared.pass.FrameWords.{FrameWords}
use Rattle.publication.specs.declared.pass.Pass.{Pass}
use Rattle.publication.specs.Steps.{blank, with_work}
use Rattle.publication.specs.Frames.{frame_at}
use Rattle.publication.specs.Claims.{Fills, HasBlank}
use Rattle.one_hand.specs.Legal.{IsOpenClaim, IsStream}
use Rattle.one_hand.specs.Stream.{Aborts, Commits, OpenClaim, Stream, aborted_at, claim_by, claim_end, with_frame, without_claim}
use Rattle.one_hand.specs.declared.log_hand.held.Held.{Held}
use Rattle.one_hand.specs.Shown.{WholeBy, IsWhole, claim_in, consumers_of, entry_in, open_claim, stream_by, stream_of}
use Rattle.position.proofs.Contents.{IsSmall, data_said, pad_said}
use Rattle.one_hand.proofs.Answered.{Rests}
use Rattle.one_hand.proofs.Entries.{chained_first, data_more, from_among, pad_more}
use Rattle.one_hand.proofs.Keeps.{claim_is, ends_keeps, one_entry}

-- ---- lists

parted : {X : Type 0} (x : X) (xs : List X) → Among x xs → (front : List X) × (behind : List X) × (xs ≡ front ++ x ∷ behind)
parted x [] h = absurd h
parted x (y ∷ ys) (inl same) = ([], ys, ap (λ z. z ∷ ys) (sym same))
parted x (y ∷ ys) (inr h) = let p = parted x ys h in (y ∷ p.0, p.1, ap (λ zs. y ∷ zs) p.2)

without : {X : Type 0} (x y : X) (front behind : List X) → (x ≡ y → ⊥) → Among x (front ++ y ∷ behind) → Among x (front ++ behind)
without x y front behind apart h = ⊎_elim
    (λ (a : Among x front). among_left x front behind a)
    (λ (a : Among x (y ∷ behind)). ⊎_elim (λ e. absurd (apart e)) (λ b. among_right x front behind b) a)
    (among_cases x front (y ∷ behind) h)

get_map : (held : List (Option Held)) (by : ℕ) (h : Held) → slice_get held by ≡ Some (Some h) → slice_get (map claim_in held) by ≡ Some (Some (open_claim h))
get_map [] by h e = absurd (cc)
get_map (x ∷ xs) zero h e = let same : x ≡ Some h = cc in ap (λ y. Some (claim_in y)) same
get_map (x ∷ xs) (suc by) h e = get_map xs by h e

pub get_back : (held : List (Option Held)) (by : ℕ) (c : OpenClaim) → slice_get (map claim_in held) by ≡ Some (Some c) → (h : Held) × (slice_get held by ≡ Some (Some h)) × (open_claim h ≡ c)
get_back [] by c e = absurd (cc)
get_back (None ∷ xs) zero c e = absurd (cc)
get_back (Some x ∷ xs) zero c e = (x, refl, cc)
get_back (x ∷ xs) (suc by) c e = get_back xs by c e

index_map : (held : List (Option Held)) (by : ℕ) (h : Held) → slice_get held by ≡ Some (Some h) → slice_index_or (map claim_in held) by None ≡ Some (open_claim h)
index_map [] by h e = absurd (cc)
index_map (x ∷ xs) zero h e = let same : x ≡ Some h = cc in ap claim_in same
index_map (x ∷ xs) (suc by) h e = index_map xs by h e

unset_get : (held : List (Option Held)) (by b : ℕ) (x : Held) → slice_get (slice_set held by None) b ≡ Some (Some x) → (slice_get held b ≡ Some (Some x)) × (b ≡ by → ⊥)
unset_get [] by b x h = absurd (cc)
unset_get (z ∷ zs) zero zero x h = absurd (cc)
unset_get (z ∷ zs) zero (suc b) x h = (h, λ e. omega (arith, e))
unset_get (z ∷ zs) (suc by) zero x h = (h, λ e. omega (arith, e))
unset_get (z ∷ zs) (suc by) (suc b) x h = let q = unset_get zs by b x h in (q.0, λ e. q.1 (let o : b ≡ by = omega (arith, e) in o))

ends_before : (term p tail : ℕ) (es : List Entry) (e : Entry) → Tiles term p tail es → Among e es → entry_end e ≤ tail
ends_before term p tail [] e t h = absurd h
ends_before term p tail (d ∷ es) e t (inl same) = let a = tiled term (entry_end d) tail es t.2 in let same_end : entry_end e ≡ entry_end d = ap entry_end same in omega (arith, a, same_end)
  where
    tiled : (term p tail : ℕ) (es : List Entry) → Tiles term p tail es → p ≤ tail
    tiled term p tail [] t = omega (arith, t)
    tiled term p tail (d ∷ es) t = let a = tiled term (entry_end d) tail es t.2 in let b = t.0 in omega (arith, a, b)
ends_before term p tail (d ∷ es) e t (inr h) = ends_before term (entry_end d) tail es e t.2 h

-- ---- an open claim

module _ (v : Pass) (c : Controls) (held : List (Option Held)) (w : IsWhole v c held) (low : v.number < 8) (h : Held) (holds : slice_get held v.number ≡ Some (Some h)) where
  abbrev s : Stream
  s = stream_of v c held

  abbrev g : Geometry
  g = v.identity.geometry

  abbrev oc : OpenClaim
  oc = open_claim h

  abbrev e : Entry
  e = claim_of v.identity.geometry h.start v.number false h.size

  open_is : IsOpenClaim s v.number oc
  open_is = w.stream.claims v.number oc (get_map held v.number h holds)

  one_cut : cuts_of g h.size ≡ (32 + h.size) ∷ []
  one_cut = short_cuts g h.size open_is.short ∙ ap (λ (k : ℕ). k ∷ []) (let q : h.size + 32 ≡ 32 + h.size = omega arith in q)

  end_is : entry_end e ≡ h.start + aligned (32 + h.size)
  end_is = ap (λ (cuts : List ℕ). h.start + span cuts) one_cut ∙ plus h.start (aligned (32 + h.size))
    where
      plus : (a b : ℕ) → a + (b + 0) ≡ a + b
      plus a b = omega arith

  pub has_blank : HasBlank v h.start (32 + h.size)
  has_blank = let p = parted (blank h.start (32 + h.size)) v.work.drafts (w.begun v.number h holds) in record { front = p.0; behind = p.1; parts = p.2 }

  pub short : h.size ≤ max_payload g
  short = open_is.short

  pub within : h.start + aligned (32 + h.size) ≤ s.tail
  within = let a = ends_before g.term_length w.stream.first s.tail s.entries e w.stream.tiles open_is.entry in omega (arith, a, end_is)

  pub in_stream : h.start + aligned (32 + h.size) ≤ max_position g
  in_stream =
      let t : ℕ = g.term_length in let last = w.stream.last in let to = w.stream.to in
      let most : (c.count + 1) * t ≤ 2147483648 * t = mul-le-mul_right t (omega (arith, last)) in
      let turned : 2147483648 * t ≡ t * 2147483648 = omega arith in
      omega (arith, within, to, most, turned)

  pub claim_there : claim_by s v.number ≡ Some oc
  claim_there = index_map held v.number h holds

  pub claim_ends : claim_end oc ≡ h.start + aligned (32 + h.size)
  claim_ends = ap (λ (k : ℕ). h.start + aligned k) (let q : h.size + 32 ≡ 32 + h.size = omega arith in q)

  -- by what becomes of the claim's entry
  module _ (f : Frame) (q : Pass) (fills : Fills v h.start f q) (size : frame_length f ≡ 32 + h.size) (ch : Entry → Entry)
      (entries_are : map (entry_in (v.work.frames ++ frame_at v.identity h.start f ∷ [])) v.right.claims ≡ map ch (stream_of v c held).entries)
      (ends : (x : Entry) → entry_end (ch x) ≡ entry_end x) (starts : (x : Entry) → (ch x).start ≡ x.start) (only : (x : Entry) → (x.start ≡ h.start → ⊥) → ch x ≡ x) (legal : IsEntry (ch (claim_of v.identity.geometry h.start v.number false h.size))) where
    abbrev later : List (Option Held)
    later = slice_set held v.number None

    filled : q ≡ with_work (v.work.frames ++ frame_at v.identity h.start f ∷ []) (has_blank.front ++ has_blank.behind) v
    filled = fills has_blank.front has_blank.behind (has_blank.parts ∙ ap (λ (k : ℕ). has_blank.front ++ blank h.start k ∷ has_blank.behind) (sym size))

    ended_stream : stream_by v.identity v.start (consumers_of v) v.keeping.cleaned v.right.claims (v.work.frames ++ frame_at v.identity h.start f ∷ []) c later ≡ without_claim s v.number (map ch s.entries)
    ended_stream = (λ j. record s { entries = entries_are j; claims = map-set claim_in held v.number None j })

    start_low : h.start < s.tail
    start_low = let a = within in omega (arith, a)

    -- another publisher's claim begins elsewhere
    others_stay : (b : ℕ) (x : Held) → slice_get later b ≡ Some (Some x) → Among (blank x.start (32 + x.size)) (has_blank.front ++ has_blank.behind)
    others_stay b x at =
        let got = unset_get held v.number b x at in
        let there = w.stream.claims b (open_claim x) (get_map held b x got.0) in
        without (blank x.start (32 + x.size)) (blank h.start (32 + h.size)) has_blank.front has_blank.behind
        (λ same. got.1 (ap (λ (y : Entry). y.owner) (one_entry g.term_length w.stream.first s.tail s.entries (claim_of g x.start b false x.size) e w.stream.tiles w.stream.entries there.entry open_is.entry (ap (λ (y : FrameWords). y.start) same))))
        (subst (Among (blank x.start (32 + x.size))) has_blank.parts (w.begun b x got.0))

    ended_whole : WholeBy v.identity v.start (consumers_of v) v.keeping.cleaned v.right.claims (v.work.frames ++ frame_at v.identity h.start f ∷ []) (has_blank.front ++ has_blank.behind) c later
    ended_whole = record {
      settled = w.settled;
      eight = length-set held v.number None ∙ w.eight;
      follow = w.follow;
      past = all_append (λ (x : FrameWords). (v.start ≤ x.start) × (x.start < s.tail)) v.work.frames (frame_at v.identity h.start f ∷ []) w.past ((from_among v.work.frames v.start v.right.claims e w.follow open_is.entry, start_low), tt);
      chained = chained_first v.start v.work.frames (frame_at v.identity h.start f) e v.right.claims w.follow open_is.entry refl refl w.chained;
      begun = others_stay;
      above = λ b x at. w.above b x (unset_get held v.number b x at).0;
      reached = w.reached;
      stream = subst IsStream (sym ended_stream) (ends_keeps s v.number oc ch w.stream open_is ends starts only legal);
    }

    pub ended : (stream_of q c later ≡ without_claim s v.number (map ch s.entries)) × IsWhole q c later × (q.right.armed ≡ v.right.armed) × Rests v c q c × (q.right.claims ≡ v.right.claims)
    ended = (ap (λ (x : Pass). stream_of x c later) filled ∙ ended_stream, subst (λ (x : Pass). IsWhole x c later) (sym filled) ended_whole, ap (λ (x : Pass). x.right.armed) filled, record { parts = ap (λ (x : Pass). x.right.parts) filled; reading = ap (λ (x : Pass). x.reading) filled; keeping = ap (λ (x : Pass). x.keeping) filled; limit = refl }, ap (λ (x : Pass). x.right.claims) filled)

  same_there : nat_eq h.start h.start ≡ true
  same_there = eq-eqb h.start h.start refl

  -- ---- a commit

  pub committed : (payload : List ℕ) (q : Pass) (end : ℕ) → IsSmall payload → length payload ≡ h.size → Fills v h.start (Data 192 payload) q → end ≡ h.start + aligned (32 + length payload)
      → Commits s v.number payload end (stream_of q c (slice_set held v.number None)) × IsWhole q c (slice_set held v.number None) × (q.right.armed ≡ v.right.armed) × Rests v c q c × (q.right.claims ≡ v.right.claims)
  committed payload q end small size fills ends =
      let low_size = short in let b = w.stream.geometry.mtu.greatest in
      let x : FrameWords = frame_at v.identity h.start (Data 192 payload) in
      let said_is = data_said v.identity h.start 192 payload (omega arith) small (omega (arith, size, low_size, b)) in
      let done = ended (Data 192 payload) q fills (ap (λ (k : ℕ). 32 + k) size) (with_frame h.start (Data 192 payload)) (data_more v.start v.work.frames x 192 payload e v.right.claims w.follow open_is.entry said_is refl)
      (λ y. refl) (λ y. refl) (λ y apart. ap (λ (fs : List Frame). record y { frames = fs }) (cond-false (nat_eq y.start h.start) (y.frames ++ Data 192 payload ∷ []) y.frames (ne_eqb y.start h.start apart))) legal_message in
      (record { claim = oc; open_claim = claim_there; ends = ends ∙ ap (λ (k : ℕ). h.start + aligned (32 + k)) size ∙ sym claim_ends; after = done.0 }, done.1, done.2, done.3, done.4)
    where
      legal_message : IsEntry (with_frame h.start (Data 192 payload) e)
      legal_message = let k = claim_is g h.start v.number h.size w.stream.geometry low in record {
        owner = k.owner;
        cuts = k.cuts;
        long = k.long;
        frames = subst (λ (b : Bool). HaveFrames false (cuts_of g h.size) (cond b (Data 192 payload ∷ []) [])) (sym same_there) (subst (λ (cuts : List ℕ). HaveFrames false cuts (Data 192 payload ∷ [])) (sym one_cut) ((refl, ap (λ (n : ℕ). 32 + n) size), tt));
      }

  -- ---- an abort

  pub aborted : (q : Pass) (end : ℕ) → Fills v h.start (Pad (32 + h.size)) q → end ≡ h.start + aligned (32 + h.size)
      → Aborts s v.number end (stream_of q c (slice_set held v.number None)) × IsWhole q c (slice_set held v.number None) × (q.right.armed ≡ v.right.armed) × Rests v c q c × (q.right.claims ≡ v.right.claims)
  aborted q end fills ends =
      let low_size = short in let b = w.stream.geometry.mtu.greatest in
      let x : FrameWords = frame_at v.identity h.start (Pad (32 + h.size)) in
      let said_is = pad_said v.identity h.start (32 + h.size) (omega arith) (omega (arith, low_size, b)) in
      let done = ended (Pad (32 + h.size)) q fills refl (aborted_at h.start) (pad_more v.start v.work.frames x (32 + h.size) e v.right.claims w.follow open_is.entry said_is refl refl one_cut)
      (λ y. refl) (λ y. refl)
      (λ y apart. (λ j. record y { padding = cond-false (nat_eq y.start h.start) true y.padding (ne_eqb y.start h.start apart) j; frames = cond-false (nat_eq y.start h.start) (map Pad y.cuts) y.frames (ne_eqb y.start h.start apart) j })) legal_padding in
      (record { claim = oc; open_claim = claim_there; ends = ends ∙ sym claim_ends; after = done.0 }, done.1, done.2, done.3, done.4)
    where
      legal_padding : IsEntry (aborted_at h.start e)
      legal_padding = let k = claim_is g h.start v.number h.size w.stream.geometry low in record {
        owner = k.owner;
        cuts = k.cuts;
        long = k.long;
        frames = subst (λ (b : Bool). HaveFrames (cond b true false) (cuts_of g h.size) (cond b (map Pad (cuts_of g h.size)) [])) (sym same_there) (subst (λ (cuts : List ℕ). HaveFrames true cuts (map Pad cuts)) (sym one_cut) refl);
      }
