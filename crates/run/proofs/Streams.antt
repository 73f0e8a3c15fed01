-- The log of a run is a stream of what its publishers have claimed.
use Rattle.std.proofs.Common.{◌≡◌, ℕ, zero, suc, ◌+◌, ◌-◌, ◌*◌, ◌/◌, ◌^◌, ◌<◌, ◌≤◌, List, [], ◌∷◌, ◌++◌, map, length, take, drop, append-nil, Bool, true, false, cond, refl, sym, ap, ◌∙◌, subst, arith}
use Rattle.std.specs.Prelude.{◌%◌, replicate}
use Rattle.std.specs.List.{AllByRecursion, flat_map}
use Rattle.std.proofs.lemmas.List.{length-append, length-drop, length-replicate, length-take}
use Rattle.byteorder.specs.Endian.{little_bytes}
use Rattle.byteorder.specs.Numbers.{length-bytes_low_first}
use Rattle.theory.specs.Bytes.{Identity}
use Rattle.theory.specs.Entry.{Entry, ArePadding, ArePieces, HaveFrames, IsEntry, entry_end, flags_of, length_of, pieces_of}
use Rattle.theory.specs.Placed.{AllAmong, Data, Frame, Pad}
use Rattle.theory.specs.Position.{Geometry, IsGeometry, aligned, cuts_of, max_message, span}
use Rattle.theory.specs.Tiling.{InOneTerm, Tiles}
use Rattle.theory.proofs.Lists.{all_append}
use Rattle.model.proofs.Commits.{pieces_are}
use Rattle.publication.specs.declared.pass.ClaimRange.{ClaimRange}
use Rattle.publication.specs.declared.pass.FrameWords.{FrameWords}
use Rattle.publication.specs.Frames.{frames_at, message_frames}
use Rattle.publication.specs.Orders as orders
use Rattle.shared_log.specs.Steps.Handles.{LogValue, PublisherValue}
use Rattle.log_rule.specs.Claims.Rule.{IsClaimEntry}
use Rattle.log_rule.specs.Claims.Rule as rules
use Rattle.log_rule.specs.Claims.Sums.{total}
use Rattle.shared_log.specs.Books.{HasEntries, ShowsBook, weight_in}
use Rattle.shared_log.specs.Sourced.{placed}
use Rattle.log_messages.specs.Closed.{AreInOrder, ClosedIsStream, ClosesAsStream, CommitsItsClaims, HasClaimed, HaveClaimed, IsTold, bare, joined, words_in}
use Rattle.options.specs.declared.run.made.Plan.{Plan}
use Rattle.run_parties.specs.Messages.{HasPublished, IsRunClaim, frames_from, frames_in, message_in, message_of}
use Rattle.run_parties.specs.Passes.{HasNone}
use Rattle.run.specs.Threads.{HavePublished, IsWaiting}
use Rattle.run.specs.Outcomes.{PublishersPublish}
use Rattle.receiver.specs.Lives.{IsStream}
use Rattle.run_parties.specs.Runs.{GivesARun}
use Rattle.run.specs.Streams.{RunIsAStream, entries_from, entry_with, its_entries, stream_of}
use Rattle.run.specs.declared.outcome.Outcome.{Outcome}
use Rattle.run.proofs.Counting.{run_claims}

-- ---- a message's bytes

abbrev AreBytes : List ℕ → Type 0
AreBytes m = AllByRecursion (λ b. b < 256) m

low_bytes : (n : ℕ) → AreBytes (little_bytes 4 n)
low_bytes n = (omega arith, (omega arith, (omega arith, (omega arith, tt))))

zero_bytes : (n : ℕ) → AreBytes (replicate n 0)
zero_bytes zero = tt
zero_bytes (suc n) = (omega arith, zero_bytes n)

message_bytes : (bytes number count : ℕ) → AreBytes (message_of bytes number count)
message_bytes bytes number count = all_append (λ b. b < 256) (little_bytes 4 number ++ little_bytes 4 count) (replicate (bytes - 8) 0) (all_append (λ b. b < 256) (little_bytes 4 number) (little_bytes 4 count) (low_bytes number) (low_bytes count)) (zero_bytes (bytes - 8))

message_length : (bytes number count : ℕ) → 8 ≤ bytes → length (message_of bytes number count) ≡ bytes
message_length bytes number count long =
    length-append (little_bytes 4 number ++ little_bytes 4 count) (replicate (bytes - 8) 0)
    ∙ (λ j. length-append (little_bytes 4 number) (little_bytes 4 count) j + length-replicate {A = ℕ} (bytes - 8) 0 j)
    ∙ (λ j. (length-bytes_low_first 0 4 number j + length-bytes_low_first 0 4 count j) + (bytes - 8))
    ∙ sum bytes long
  where
    sum : (n : ℕ) → 8 ≤ n → (4 + 4) + (n - 8) ≡ n
    sum n le = omega (arith, le)

-- ---- the frames of a claim are told by their words

low_flags : (first : Bool) (cuts : List ℕ) → flags_of first cuts < 256
low_flags true [] = omega arith
low_flags false [] = omega arith
low_flags true (cut ∷ cuts) = omega arith
low_flags false (cut ∷ cuts) = omega arith

bytes_take : (n : ℕ) (m : List ℕ) → AreBytes m → AreBytes (take n m)
bytes_take zero m all = tt
bytes_take (suc n) [] all = tt
bytes_take (suc n) (b ∷ m) all = (all.0, bytes_take n m all.1)

bytes_drop : (n : ℕ) (m : List ℕ) → AreBytes m → AreBytes (drop n m)
bytes_drop zero m all = all
bytes_drop (suc n) [] all = tt
bytes_drop (suc n) (b ∷ m) all = bytes_drop n m all.1

told_pieces : (first : Bool) (cuts m : List ℕ) → AreBytes m → length m < 2147483648 → AllByRecursion IsTold (pieces_of first cuts m)
told_pieces first [] m all short = tt
told_pieces first (cut ∷ cuts) m all short =
    let front = length-take (cut - 32) m in
    let rest = length-drop (cut - 32) m in
    ((low_flags first cuts, omega (arith, front, short), bytes_take (cut - 32) m all), told_pieces false cuts (drop (cut - 32) m) (bytes_drop (cut - 32) m all) (omega (arith, rest, short)))

told_pads : (cuts : List ℕ) → AllByRecursion (λ cut. 0 < cut) cuts → span cuts ≤ 16777216 → AllByRecursion IsTold (map Pad cuts)
told_pads [] some short = tt
told_pads (cut ∷ cuts) some short = ((some.0, omega (arith, short)), told_pads cuts some.1 (omega (arith, short)))

told_frames : (g : Geometry) (padding : Bool) (cuts m : List ℕ) → AllByRecursion (λ cut. 0 < cut) cuts → span cuts ≤ 16777216 → AreBytes m → length m < 2147483648 → AllByRecursion IsTold (cond padding (map Pad cuts) (pieces_of true (cuts_of g (length m)) m))
told_frames g true cuts m some short all low = told_pads cuts some short
told_frames g false cuts m some short all low = told_pieces true (cuts_of g (length m)) m all low

-- ---- and are those of an entry

pad_frames : (cuts : List ℕ) → ArePadding cuts [] → ArePadding cuts (map Pad cuts)
pad_frames [] h = h
pad_frames (cut ∷ []) h = refl
pad_frames (cut ∷ more ∷ cuts) h = h

have_frames : (g : Geometry) (padding : Bool) (cuts m : List ℕ) → IsGeometry g → HaveFrames padding cuts [] → (padding ≡ false → cuts ≡ cuts_of g (length m)) → HaveFrames padding cuts (cond padding (map Pad cuts) (pieces_of true (cuts_of g (length m)) m))
have_frames g true cuts m legal h same = pad_frames cuts h
have_frames g false cuts m legal h same = subst (λ (cs : List ℕ). ArePieces true cs (pieces_of true (cuts_of g (length m)) m)) (sym (same refl)) (pieces_are g m legal)

words_are : (i : Identity) (start : ℕ) (padding : Bool) (xs ys : List Frame) → cond padding (frames_at i start xs) (frames_at i start ys) ≡ frames_at i start (cond padding xs ys)
words_are i start true xs ys = refl
words_are i start false xs ys = refl

-- ---- no claim is longer than a term

none_long : (term p q : ℕ) (es : List Entry) → Tiles term p q es → total (λ e. length_of e - term) es ≡ 0
none_long term p q [] t = refl
none_long term p q (e ∷ es) t = zeros (length_of e - term) (total (λ x. length_of x - term) es) (within e.start p (span e.cuts) term (p / term * term) t.0 t.1 (low p term)) (none_long term (entry_end e) q es t.2)
  where
    zeros : (a b : ℕ) → a ≡ 0 → b ≡ 0 → a + b ≡ 0
    zeros a b x y = omega (arith, x, y)

    low : (n d : ℕ) → n / d * d ≤ n
    low n d = omega arith

    within : (s p n term base : ℕ) → s ≡ p → s + n ≤ base + term → base ≤ p → n - term ≡ 0
    within s p n term base same end le = omega (arith, same, end, le)

one_long : (h : Entry → ℕ) (ps : List PublisherValue) → total (weight_in h) ps ≡ 0 → AllByRecursion (λ p. total h (map rules.entry_of p.pass.right.claims) ≡ 0) ps
one_long h [] none = tt
one_long h (p ∷ ps) none = let both = parts (weight_in h p) (total (weight_in h) ps) none in (both.0, one_long h ps both.1)
  where
    parts : (a b : ℕ) → a + b ≡ 0 → (a ≡ 0) × (b ≡ 0)
    parts a b e = (omega (arith, e), omega (arith, e))

-- ---- the claims of one publisher

module _ (i : Identity) (bytes number term : ℕ) (legal : IsGeometry i.geometry) (long : 8 ≤ bytes) (short : bytes < 2147483648) (small : term ≤ 16777216) where
  bare_are : (count : ℕ) (cs : List ClaimRange) → map rules.entry_of cs ≡ map bare (entries_from i bytes number count cs)
  bare_are count [] = refl
  bare_are count (c ∷ cs) = λ j. rules.entry_of c ∷ bare_are (count + message_in c) cs j

  begin_behind : (p count : ℕ) (cs : List ClaimRange) → AllByRecursion (λ d. p ≤ d.start) cs → AllByRecursion (λ (e : Entry). p ≤ e.start) (entries_from i bytes number count cs)
  begin_behind p count [] all = tt
  begin_behind p count (c ∷ cs) all = (all.0, begin_behind p (count + message_in c) cs all.1)

  in_order : (count : ℕ) (cs : List ClaimRange) → orders.AreInOrder cs → AreInOrder (entries_from i bytes number count cs)
  in_order count [] order = tt
  in_order count (c ∷ cs) order = (begin_behind (orders.claim_end c) (count + message_in c) cs order.0, in_order (count + message_in c) cs order.1)

  entries_are : (count owner : ℕ) (cs : List ClaimRange) → AllByRecursion IsClaimEntry (map rules.entry_of cs) → AllByRecursion (IsRunClaim i.geometry bytes owner) cs → AllByRecursion IsEntry (entries_from i bytes number count cs)
  entries_are count owner [] all claims = tt
  entries_are count owner (c ∷ cs) all claims =
      let m = message_of bytes number count in (
        record {
          owner = all.0.entry.owner;
          cuts = all.0.entry.cuts;
          long = all.0.entry.long;
          frames = have_frames i.geometry c.padding c.cuts m legal all.0.entry.frames (λ e. claims.0.message e ∙ ap (cuts_of i.geometry) (sym (message_length bytes number count long)));
        },
        entries_are (count + message_in c) owner cs all.1 claims.1,
      )

  all_told : (count : ℕ) (cs : List ClaimRange) → AllByRecursion IsClaimEntry (map rules.entry_of cs) → total (λ e. length_of e - term) (map rules.entry_of cs) ≡ 0 → AllByRecursion (λ e. AllByRecursion IsTold e.frames) (entries_from i bytes number count cs)
  all_told count [] all none = tt
  all_told count (c ∷ cs) all none =
      let m = message_of bytes number count in
      let both = parts (span c.cuts) (total (λ e. length_of e - term) (map rules.entry_of cs)) none in (
        told_frames i.geometry c.padding c.cuts m all.0.entry.cuts both.0 (message_bytes bytes number count) (let same = message_length bytes number count long in omega (arith, same, short)),
        all_told (count + message_in c) cs all.1 both.1,
      )
    where
      parts : (n b : ℕ) → (n - term) + b ≡ 0 → (n ≤ 16777216) × (b ≡ 0)
      parts n b e = (omega (arith, e, small), omega (arith, e))

  frames_are : (count : ℕ) (cs : List ClaimRange) → frames_from i bytes number count cs ≡ flat_map (words_in i) (entries_from i bytes number count cs)
  frames_are count [] = refl
  frames_are count (c ∷ cs) =
      let m = message_of bytes number count in
      (λ j. words_are i c.start c.padding (map Pad c.cuts) (pieces_of true (cuts_of i.geometry (length m)) m) j ++ frames_are (count + message_in c) cs j)

-- ---- all publishers

module _ (commits : CommitsItsClaims) (l : LogValue) (bytes : ℕ) (long : 8 ≤ bytes) (short : bytes < 2147483648) (legal : IsGeometry l.identity.geometry) where
  abbrev term : ℕ
  term = l.identity.geometry.term_length

  abbrev excess : Entry → ℕ
  excess e = length_of e - term

  one_claimed : (publishers accepted : ℕ) (w q : PublisherValue) → IsWaiting l publishers w → HasPublished l bytes accepted w q → HasEntries q → total excess (map rules.entry_of q.pass.right.claims) ≡ 0
      → HasClaimed q (its_entries l.identity bytes q ∷ [])
  one_claimed publishers accepted w q waits h has none =
      let i = l.identity in
      let cs = q.pass.right.claims in
      let number = q.pass.number in
      let more : cs ≡ h.more = h.claims ∙ ap (λ (xs : List ClaimRange). xs ++ h.more) waits.none.claims in
      let frames : q.pass.work.frames ≡ frames_from i bytes number 0 cs =
      h.frames ∙ ap (λ (fs : List FrameWords). fs ++ frames_from i bytes w.pass.number 0 h.more) waits.none.frames ∙ (λ j. frames_from i bytes (sym h.ends.number j) 0 (sym more j)) in
      let alone : joined (its_entries i bytes q ∷ []) ≡ its_entries i bytes q = append-nil (its_entries i bytes q) in
      commits i q (its_entries i bytes q ∷ []) (record {
        claims = bare_are i bytes number term legal long short legal.term.greatest 0 cs ∙ ap (map bare) (sym alone);
        ordered = (in_order i bytes number term legal long short legal.term.greatest 0 cs (h.ordered (subst orders.AreInOrder (sym waits.none.claims) tt)), tt);
        entries = subst (AllByRecursion IsEntry) (sym alone) (entries_are i bytes number term legal long short legal.term.greatest 0 number cs has (run_claims l bytes accepted w q waits.none.claims h));
        told = subst (AllByRecursion (λ e. AllByRecursion IsTold e.frames)) (sym alone) (all_told i bytes number term legal long short legal.term.greatest 0 cs has none);
        frames = frames ∙ frames_are i bytes number term legal long short legal.term.greatest 0 cs ∙ ap (flat_map (words_in i)) (sym alone);
      })

  abbrev claimed_back : List PublisherValue → List PublisherValue → List (List (List Entry))
  claimed_back [] others = map (λ o. []) others
  claimed_back (q ∷ qs) others = (its_entries l.identity bytes q ∷ []) ∷ claimed_back qs others

  no_claims : (others : List PublisherValue) → AllByRecursion HasNone others → HaveClaimed others (map (λ o. []) others)
  no_claims [] all = tt
  no_claims (o ∷ os) all = (
    record {
      claims = ap (map rules.entry_of) all.0.claims;
      ordered = tt;
      entries = tt;
      frames = subst (λ (fs : List FrameWords). AllAmong [] (map placed fs)) (sym all.0.frames) tt;
    },
    no_claims os all.1,
  )

  all_claimed : (publishers : ℕ) (ws qs others : List PublisherValue) → AllByRecursion (IsWaiting l publishers) ws → HavePublished l bytes ws qs → AllByRecursion HasNone others
      → AllByRecursion HasEntries (qs ++ others) → AllByRecursion (λ p. total excess (map rules.entry_of p.pass.right.claims) ≡ 0) (qs ++ others) → HaveClaimed (qs ++ others) (claimed_back qs others)
  all_claimed publishers [] [] others waits published unclaimed has none = no_claims others unclaimed
  all_claimed publishers [] (q ∷ qs) others waits published unclaimed has none = absurd published
  all_claimed publishers (w ∷ ws) [] others waits published unclaimed has none = absurd published
  all_claimed publishers (w ∷ ws) (q ∷ qs) others waits published unclaimed has none =
      (one_claimed publishers (total message_in q.pass.right.claims) w q waits.0 published.0 has.0 none.0, all_claimed publishers ws qs others waits.1 published.1 unclaimed has.1 none.1)

  lists_are : (qs others : List PublisherValue) → joined (claimed_back qs others) ≡ map (its_entries l.identity bytes) qs
  lists_are [] [] = refl
  lists_are [] (o ∷ os) = lists_are [] os
  lists_are (q ∷ qs) others = λ j. its_entries l.identity bytes q ∷ lists_are qs others j

-- a message isn't longer than a run's messages may be
fits_low : (g : Geometry) (bytes : ℕ) → bytes ≤ max_message g → bytes < 2147483648
fits_low g bytes le = omega (arith, le)

closes : ClosedIsStream → CommitsItsClaims → (plan : Plan) (o : Outcome) (p : PublishersPublish plan o) → ClosesAsStream p.log (p.back ++ p.others) o.book (map (its_entries p.log.identity plan.length) p.back)
closes law commits plan o p =
    let l = p.log in
    let bytes = plan.length in
    let long : 8 ≤ bytes = plan.runnable.of_length.0 in
    let short : bytes < 2147483648 = fits_low plan.geometry bytes plan.runnable.of_length.1 in
    let legal : IsGeometry l.identity.geometry = p.book.geometry in
    let none = one_long (λ e. length_of e - l.identity.geometry.term_length) (p.back ++ p.others) (p.book.tiled.fair (λ e. length_of e - l.identity.geometry.term_length) ∙ none_long l.identity.geometry.term_length l.start o.book.tail p.book.tiled.log p.book.tiled.tiles) in
    subst (ClosesAsStream l (p.back ++ p.others) o.book) (lists_are commits l bytes long short legal p.back p.others)
    (law l (p.back ++ p.others) o.book (claimed_back commits l bytes long short legal p.back p.others) p.book
    (all_claimed commits l bytes long short legal plan.publishers p.waiting p.back p.others p.new p.published p.unclaimed p.book.entries none))

pub run_is_a_stream : ClosedIsStream → CommitsItsClaims → GivesARun → RunIsAStream
run_is_a_stream law commits gives plan o p =
    let c = closes law commits plan o p in
    let stream : IsStream (stream_of p.log o.book c.entries) = record { geometry = c.closed.geometry; tiles = c.closed.tiles; entries = c.closed.entries; tail_low = c.closed.low } in
    record { closes = c; stream = stream; tallies = gives (stream_of p.log o.book c.entries) stream p.log_is.session p.log_is.stream }
