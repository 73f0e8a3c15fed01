-- What the calls of the pass that has all publishers make of the stream that it shows.
use Rattle.std.proofs.Common.{◌≡◌, ◌∙◌, ℕ, zero, suc, ◌+◌, ◌-◌, ◌*◌, ◌%◌, ◌<◌, ◌≤◌, inl, ⊎_elim, List, [], ◌∷◌, ◌++◌, map, length, length-set, true, false, Some, refl, sym, ap, subst, arith}
use Rattle.std.specs.Prelude.{Option, slice_get, slice_set}
use Rattle.std.specs.List.{AllByRecursion}
use Rattle.std.proofs.lemmas.List.{map-set}
use Rattle.theory.specs.Position.{Geometry, IsGeometry, aligned, cuts_of, framed_length, max_payload, span}
use Rattle.theory.specs.Placed.{Among, Frame, Pad}
use Rattle.theory.specs.Entry.{Entry, pieces_of}
use Rattle.theory.specs.Bytes.{Identity}
use Rattle.theory.specs.Refusal.{is_closed, is_connected, limit_in}
use Rattle.theory.proofs.Claims.{covers_framed}
use Rattle.theory.proofs.Cuts.{cut_units, long_cuts, span_unit}
use Rattle.theory.proofs.Holds.{holds_bytes}
use Rattle.theory.proofs.Lists.{all_append, all_weaker, among_left, among_right}
use Rattle.theory.proofs.Places.{power_unit}
use Rattle.one_hand.specs.Entries.{claim_of, padded, published, with_share}
use Rattle.publication.specs.declared.pass.ClaimRange.{ClaimRange}
use Rattle.publication.specs.declared.pass.Controls.{Controls}
use Rattle.publication.specs.declared.pass.FrameWords.{FrameWords}
use Rattle.publication.specs.Steps.{blank}
use Rattle.publication.specs.Frames.{frame_at, message_frames}
use Rattle.publication.specs.Alone.{Settled}
use Rattle.one_hand.specs.Legal.{IsStream}
use Rattle.one_hand.specs.Stream.{OpenClaim, Stream, covered, standing, with_claim, with_entry, with_message, with_padding}
use Rattle.one_hand.specs.declared.log_hand.held.Held.{Held}
use Rattle.publication.specs.Contents.{frame_in}
use Rattle.one_hand.specs.Shown.{Chained, WholeBy, claim_in, end_of, entry_in, open_claim, shares_of, spans, stream_by}
use Rattle.position.proofs.Contents.{IsSmall, pad_said}
use Rattle.one_hand.proofs.Pieced.{no_padding, pieces_chained, pieces_said, pieces_within}
use Rattle.one_hand.proofs.Entries.{chained_more, entry_by, entry_more, follow_more, shares_more, sum_more}
use Rattle.one_hand.proofs.Keeps.{claim_keeps, message_keeps, payload_sum, set_get, turn_keeps}

-- ---- claims more

module _ (i : Identity) (start : ℕ) (ps : List (Option ℕ)) (z : ℕ) (cs : List ClaimRange) (fs ds : List FrameWords) (c : Controls) (held : List (Option Held)) (w : WholeBy i start ps z cs fs ds c held) where
  abbrev g : Geometry
  g = i.geometry

  abbrev s : Stream
  s = stream_by i start ps z cs fs c held

  abbrev tail : ℕ
  tail = start + spans cs

  abbrev t : ℕ
  t = i.geometry.term_length

  legal : IsGeometry g
  legal = w.stream.geometry

  tail_unit : tail % 32 ≡ 0
  tail_unit = let a = w.stream.unit in let b = spans_unit cs in omega (arith, a, b)
    where
      spans_unit : (ds : List ClaimRange) → spans ds % 32 ≡ 0
      spans_unit [] = refl
      spans_unit (d ∷ ds) = let a = span_unit d.cuts in let b = spans_unit ds in omega (arith, a, b)

  before : AllByRecursion (λ f. f.start < start + spans cs) fs
  before = all_weaker (λ f. (start ≤ f.start) × (f.start < start + spans cs)) (λ f. f.start < start + spans cs) (λ f h. h.1) fs w.past

  -- a claim more, the frames of it, and a log that is settled behind it
  grown : (d : Controls) (cl : ClaimRange) (new : List FrameWords) (later : List (Option Held)) (e : Entry) (bytes count : ℕ) → cl.start ≡ tail → cl.owner < 8 → span cl.cuts ≡ bytes → 0 < span cl.cuts → AllByRecursion (λ f. (cl.start ≤ f.start) × (f.start < end_of cl)) new
      → entry_by cl (map frame_in new) ≡ e → e.owner ≡ cl.owner → d.limit ≡ c.limit → d.count ≡ count
      → stream_by i start ps z (cs ++ cl ∷ []) (fs ++ new) d later ≡ record (with_entry s e bytes) { active = count; claims = map claim_in later }
  grown d cl new later e bytes count at low size long inside is owner limit counts = (λ j. record {
    identity = i;
    start = start;
    tail = (ap (λ (n : ℕ). start + n) (sum_more cs cl) ∙ plus start (spans cs) (span cl.cuts) bytes size) j;
    limit = limit_in (limit j);
    connected = is_connected (limit j);
    closed = is_closed (limit j);
    consumers = ps;
    active = counts j;
    shares = (shares_more cs cl low ∙ (λ k. with_share (shares_of cs) (sym owner k) (size k))) j;
    cleaned = z;
    entries = (entry_more start fs new cs cl w.follow at before inside ∙ (λ k. map (entry_in fs) cs ++ is k ∷ [])) j;
    claims = map claim_in later;
  })
    where
      plus : (a b n m : ℕ) → n ≡ m → a + (b + n) ≡ a + b + m
      plus a b n m e = omega (arith, e)

  -- what else holds then
  whole_grown : (d : Controls) (cl : ClaimRange) (new drafts : List FrameWords) (later : List (Option Held)) (bytes count : ℕ) → cl.start ≡ tail → span cl.cuts ≡ bytes → 0 < span cl.cuts → AllByRecursion (λ f. (cl.start ≤ f.start) × (f.start < end_of cl)) new → Chained cl.start new
      → Settled g (tail + bytes) count d → d.count ≡ count → length later ≡ 8 → ((by : ℕ) (h : Held) → slice_get later by ≡ Some (Some h) → Among (blank h.start (32 + h.size)) drafts)
      → ((by : ℕ) (h : Held) → slice_get later by ≡ Some (Some h) → AllByRecursion (λ p. p ≤ h.start) (standing ps)) → IsStream (stream_by i start ps z (cs ++ cl ∷ []) (fs ++ new) d later) → WholeBy i start ps z (cs ++ cl ∷ []) (fs ++ new) drafts d later
  whole_grown d cl new drafts later bytes count at size long inside mine settled counts eight open' higher stream =
      let sum : start + spans (cs ++ cl ∷ []) ≡ tail + bytes = (let e = sum_more cs cl in omega (arith, e, size)) in
      record {
        settled = subst (λ (x : ℕ × ℕ). Settled g x.0 x.1 d) (λ j. (sym sum j, sym counts j)) settled;
        eight = eight;
        follow = follow_more start cs cl w.follow at long;
        past = subst (λ (n : ℕ). AllByRecursion (λ f. (start ≤ f.start) × (f.start < n)) (fs ++ new)) (sym sum) (all_append (λ f. (start ≤ f.start) × (f.start < tail + bytes)) fs new
            (all_weaker (λ f. (start ≤ f.start) × (f.start < tail)) (λ f. (start ≤ f.start) × (f.start < tail + bytes)) (λ f h. let u = h.1 in (h.0, omega (arith, u))) fs w.past)
            (all_weaker (λ f. (cl.start ≤ f.start) × (f.start < end_of cl)) (λ f. (start ≤ f.start) × (f.start < tail + bytes)) (λ f h. let l = h.0 in let u = h.1 in (omega (arith, l, at), omega (arith, u, at, size))) new inside));
        chained = chained_more start fs new cs cl w.follow at before inside mine w.chained;
        begun = open';
        above = higher;
        reached = subst (λ (n : ℕ). AllByRecursion (λ p. (start ≤ p) × (p ≤ n)) (standing ps)) (sym sum) (all_weaker (λ p. (start ≤ p) × (p ≤ tail)) (λ p. (start ≤ p) × (p ≤ tail + bytes)) (λ p h. let u = h.1 in (h.0, omega (arith, u))) (standing ps) w.reached);
        stream = stream;
      }

  -- ---- a message that fits

  module _ (d : Controls) (by n : ℕ) (low : by < 8) (some : tail < (c.count + 1) * t) (inside : tail + framed_length g n ≤ (c.count + 1) * t) (settled : Settled g (tail + framed_length g n) c.count d) (limit : d.limit ≡ c.limit) where
    abbrev range : ClaimRange
    range = record { start = tail; owner = by; cuts = cuts_of g n; padding = false }

    long : 0 < span (cuts_of g n)
    long = long_cuts g n (let b = legal.mtu.least in omega (arith, b))

    pub message_grown : (message : List ℕ) → n ≡ length message → IsSmall message → length message < 2147483648
        → (stream_by i start ps z (cs ++ range ∷ []) (fs ++ message_frames i true tail message) d held ≡ with_message s by message) × WholeBy i start ps z (cs ++ range ∷ []) (fs ++ message_frames i true tail message) ds d held
    message_grown message size small short =
        let new : List FrameWords = message_frames i true tail message in
        let spots : AllByRecursion (λ f. (tail ≤ f.start) × (f.start < tail + span (cuts_of g n))) new = subst (λ (k : ℕ). AllByRecursion (λ f. (tail ≤ f.start) × (f.start < tail + span (cuts_of g k))) new) (sym size) (pieces_within i true tail (cuts_of g (length message)) message (cut_units g (length message) (let b = legal.mtu.least in omega (arith, b))) (payload_sum (cuts_of g (length message)) ∙ holds_bytes g (length message) legal)) in
        let said_is : map frame_in new ≡ pieces_of true (cuts_of g (length message)) message = pieces_said i true tail (cuts_of g (length message)) message small short in
        let entry : entry_by range (map frame_in new) ≡ published g tail by message = ap (entry_by range) said_is ∙ (λ j. record { start = tail; owner = by; padding = no_padding true (cuts_of g (length message)) message j; cuts = cuts_of g (size j); frames = pieces_of true (cuts_of g (length message)) message }) in
        let same = grown d range new held (published g tail by message) (covered s (length message)) c.count refl low (ap (λ (k : ℕ). span (cuts_of g k)) size ∙ covers_framed g (length message) legal) long spots entry refl limit settled.count in
        let keeps : IsStream (with_message s by message) = message_keeps s by message w.stream low some (subst (λ (k : ℕ). tail + framed_length g k ≤ (c.count + 1) * t) size inside) in
        (same, whole_grown d range new ds held (framed_length g n) c.count refl (covers_framed g n legal) long spots (subst (λ (k : ℕ). Chained tail new) (sym size) (pieces_chained i true tail (cuts_of g (length message)) message small short)) settled settled.count w.eight w.begun w.above (subst IsStream (sym same) keeps))

    pub claim_grown : (h : Held) → h.start ≡ tail → h.size ≡ n → n ≤ max_payload g
        → (stream_by i start ps z (cs ++ range ∷ []) (fs ++ []) d (slice_set held by (Some h)) ≡ with_claim s by n) × WholeBy i start ps z (cs ++ range ∷ []) (fs ++ []) (ds ++ blank tail (32 + n) ∷ []) d (slice_set held by (Some h))
    claim_grown h at size short =
        let later : List (Option Held) = slice_set held by (Some h) in
        let open_is : open_claim h ≡ record { start = tail; size = n } = (λ j. record { start = at j; size = size j }) in
        let same = grown d range [] later (claim_of g tail by false n) (covered s n) c.count refl low (covers_framed g n legal) long tt refl refl limit settled.count in
        let all : stream_by i start ps z (cs ++ range ∷ []) (fs ++ []) d later ≡ with_claim s by n = same ∙ ap (λ (xs : List (Option OpenClaim)). record (with_entry s (claim_of g tail by false n) (covered s n)) { claims = xs }) (map-set claim_in held by (Some h) ∙ ap (λ (x : OpenClaim). slice_set (map claim_in held) by (Some x)) open_is) in
        let keeps : IsStream (with_claim s by n) = claim_keeps s by n w.stream low short some inside in
        let mine : blank h.start (32 + h.size) ≡ blank tail (32 + n) = (λ j. blank (at j) (32 + size j)) in (
          all,
          whole_grown d range [] (ds ++ blank tail (32 + n) ∷ []) later (framed_length g n) c.count refl (covers_framed g n legal) long tt tt settled settled.count (length-set held by (Some h) ∙ w.eight)
              (λ b x e. ⊎_elim
              (λ (q : (b ≡ by) × (Some h ≡ Some x)). let one : h ≡ x = (let o = q.1 in cc) in among_right (blank x.start (32 + x.size)) ds (blank tail (32 + n) ∷ []) (inl (ap (λ (y : Held). blank y.start (32 + y.size)) (sym one) ∙ mine)))
              (λ (q : slice_get held b ≡ Some (Some x)). among_left (blank x.start (32 + x.size)) ds (blank tail (32 + n) ∷ []) (w.begun b x q))
              (set_get held by b (Some h) (Some x) e))
              (λ b x e. ⊎_elim
              (λ (q : (b ≡ by) × (Some h ≡ Some x)). let one : h ≡ x = (let o = q.1 in cc) in subst (λ (n : ℕ). AllByRecursion (λ p. p ≤ n) (standing ps)) (sym at ∙ ap (λ (y : Held). y.start) one) (all_weaker (λ p. (start ≤ p) × (p ≤ tail)) (λ p. p ≤ tail) (λ p r. r.1) (standing ps) w.reached))
              (λ (q : slice_get held b ≡ Some (Some x)). w.above b x q)
              (set_get held by b (Some h) (Some x) e))
              (subst IsStream (sym all) keeps),
        )

  -- ---- a refusal

  pub still : (d : Controls) → d ≡ c → (stream_by i start ps z cs fs d held ≡ s) × WholeBy i start ps z cs fs ds d held
  still d same = (ap (λ (x : Controls). stream_by i start ps z cs fs x held) same, subst (λ (x : Controls). WholeBy i start ps z cs fs ds x held) (sym same) w)

  -- the active term was used up
  pub used_up : (d : Controls) → tail ≡ (c.count + 1) * t → c.count + 1 < 2147483648 → Settled g ((c.count + 1) * t) (c.count + 1) d → d.limit ≡ c.limit → (stream_by i start ps z cs fs d held ≡ record s { active = c.count + 1 }) × WholeBy i start ps z cs fs ds d held
  used_up d end low settled limit =
      let same : stream_by i start ps z cs fs d held ≡ record s { active = c.count + 1 } = (λ j. record s { limit = limit_in (limit j); connected = is_connected (limit j); closed = is_closed (limit j); active = settled.count j }) in (
        same,
        record {
          settled = subst (λ (x : ℕ × ℕ). Settled g x.0 x.1 d) (λ j. (sym end j, sym settled.count j)) settled;
          eight = w.eight;
          follow = w.follow;
          past = w.past;
          chained = w.chained;
          begun = w.begun;
          above = w.above;
          reached = w.reached;
          stream = subst IsStream (sym same) (turn_keeps s w.stream end low);
        },
      )

  pub used_last : (d : Controls) → tail ≡ (c.count + 1) * t → Settled g ((c.count + 1) * t) c.count d → d.limit ≡ c.limit → (stream_by i start ps z cs fs d held ≡ s) × WholeBy i start ps z cs fs ds d held
  used_last d end settled limit =
      let same : stream_by i start ps z cs fs d held ≡ s = (λ j. record s { limit = limit_in (limit j); connected = is_connected (limit j); closed = is_closed (limit j); active = settled.count j }) in (
        same,
        record {
          settled = subst (λ (x : ℕ × ℕ). Settled g x.0 x.1 d) (λ j. (sym end j, sym settled.count j)) settled;
          eight = w.eight;
          follow = w.follow;
          past = w.past;
          chained = w.chained;
          begun = w.begun;
          above = w.above;
          reached = w.reached;
          stream = subst IsStream (sym same) w.stream;
        },
      )

  -- the rest of the term became a padding
  module _ (d : Controls) (by : ℕ) (low : by < 8) (some : tail < (c.count + 1) * t) where
    abbrev rest : ℕ
    rest = (c.count + 1) * t - tail

    abbrev pad_range : ClaimRange
    pad_range = record { start = tail; owner = by; cuts = rest ∷ []; padding = true }

    pub rest_unit : aligned rest ≡ rest
    rest_unit = let u = tail_unit in let v = power_unit t legal.term.power legal.term.least in let m = times (c.count + 1) t v in omega (arith, u, m, some)
      where
        times : (k x : ℕ) → x % 32 ≡ 0 → (k * x) % 32 ≡ 0
        times zero x e = omega arith
        times (suc k) x e = let h = times k x e in omega (arith, e, h)

    rest_low : rest < 2147483648
    rest_low = let from = w.stream.from in let n : (c.count + 1) * t ≡ c.count * t + t = omega arith in let b = legal.term.greatest in omega (arith, from, n, b)

    pad_span : span (rest ∷ []) ≡ aligned rest
    pad_span = omega arith

    pub pad_grown : (then : ℕ) → Settled g ((c.count + 1) * t) then d → d.limit ≡ c.limit → IsStream (record (with_padding s by rest) { active = then })
        → (stream_by i start ps z (cs ++ pad_range ∷ []) (fs ++ frame_at i tail (Pad rest) ∷ []) d held ≡ record (with_padding s by rest) { active = then }) × WholeBy i start ps z (cs ++ pad_range ∷ []) (fs ++ frame_at i tail (Pad rest) ∷ []) ds d held
    pad_grown then settled limit keeps =
        let u = rest_unit in
        let spots : AllByRecursion (λ f. (tail ≤ f.start) × (f.start < tail + span (rest ∷ []))) (frame_at i tail (Pad rest) ∷ []) = ((omega arith, omega (arith, some, pad_span, u)), tt) in
        let pad_is : map frame_in (frame_at i tail (Pad rest) ∷ []) ≡ Pad rest ∷ [] = ap (λ (f : Frame). f ∷ []) (pad_said i tail rest (omega (arith, some)) rest_low) in
        let same = grown d pad_range (frame_at i tail (Pad rest) ∷ []) held (padded tail by rest) (aligned rest) then refl low pad_span (omega (arith, some, pad_span, u)) spots (ap (entry_by pad_range) pad_is) refl limit settled.count in
        let end : (c.count + 1) * t ≡ tail + aligned rest = omega (arith, u, some) in
        (same, whole_grown d pad_range (frame_at i tail (Pad rest) ∷ []) ds held (aligned rest) then refl pad_span (omega (arith, some, pad_span, u)) spots (refl, tt) (subst (λ (n : ℕ). Settled g n then d) end settled) settled.count w.eight w.begun w.above (subst IsStream (sym same) keeps))
