-- What a look finds, for a reader.
use Rattle.std.proofs.Common.{rules, ◌≡◌, ℕ, zero, suc, ◌+◌, ◌-◌, ◌*◌, ◌/◌, ◌^◌, ◌<◌, ◌≤◌, Bool, true, false, List, [], ◌∷◌, ◌++◌, length, take, drop, inl, inr, sym, refl, ap, ◌∙◌, subst, arith}
use Rattle.std.specs.Prelude.{nat_eq, nat_le, slice_index, if◌then◌else◌}
use Rattle.std.specs.Int.{w64, to_le_bytes}
use Rattle.theory.specs.Position.{Geometry, IsGeometry, aligned, max_position}
use Rattle.theory.specs.Bytes.{Identity}
use Rattle.theory.specs.Placed.{Among, Data, Frame, Pad, frame_length, payload_of}
use Rattle.theory.proofs.Lists.{among_right}
use Rattle.position.specs.declared.head.FrameHead.{FrameHead}
use Rattle.position.specs.declared.head.FrameKind.{FrameKind}
use Rattle.position.specs.declared.head.FrameKind.TheVariants as kinds
use Rattle.position.specs.Heads.{IsStreamFrame, head_of}
use Rattle.publication.specs.declared.pass.FrameWords.{FrameWords}
use Rattle.publication.specs.declared.pass.Pass.{Pass}
use Rattle.publication.specs.declared.pass.Reading.{Reading}
use Rattle.publication.specs.Steps.{frame, term_of}
use Rattle.position.specs.Contents.{bytes_in, head_by}
use Rattle.publication.specs.Contents.{frame_in}
use Rattle.position.proofs.Contents.{head_said, legal_said}
use Rattle.log_rule.specs.Claims.Memory.{IsCommittedFrame}
use Rattle.log_memory.specs.declared.reader.Consumer.{Consumer}
use Rattle.shared_log.specs.Steps.Readers.{Copies, CopiesHad, CopiesKnown, IsRead, MayRereadAt, ReadsAgain, SameSeat, fitting, part_bytes, part_of}
use Rattle.shared_log.specs.Steps.Handles.{LogValue, PublisherValue}
use Rattle.shared_log.specs.Readers.{Advances, Finds, FindsNone, FindsPart, Has, IsReaderOf, IsReading, MayReread, Misses, OnlyReads, ReaderValue, ReadsFrame, Rereads, Rests, Stays, consumer_of, known_at, known_of, misses_at, positions_of}
use Rattle.log_rule.specs.Readings as Frames
use Rattle.log_rule.specs.Readings.{Consumes, IsConsumer, IsFrameAt, Looks, knows_more, missed, moved_to, with_consumer}
use Rattle.log_rule.proofs.InTerm.{words_cover}
use Rattle.log_rule.proofs.Saying.{known_committed}
use Rattle.std.proofs.lemmas.List.{map-set}
use Rattle.shared_log.proofs.Looking.{known_is, known_missing, misses_is, missing_is, put_equal, put_there}

-- which frame its words say
pub content_is : (i : Identity) (f : FrameWords) → IsGeometry i.geometry → (d : IsCommittedFrame i f) → frame_in f ≡ d.content
content_is i f g d = ap (λ (ws : List ℕ). frame_in (frame f.start f.cut ws)) d.spelt ∙ legal_said i f.start d.content g d.legal

pub head_is : (i : Identity) (f : FrameWords) → IsGeometry i.geometry → (d : IsCommittedFrame i f) → head_by f.start (to_le_bytes w64 (slice_index f.words 0)) ≡ head_of f.start (frame_in f)
head_is i f g d = ap (λ (ws : List ℕ). head_by f.start (to_le_bytes w64 (slice_index ws 0))) d.spelt ∙ head_said i f.start d.content g d.legal ∙ ap (head_of f.start) (sym (content_is i f g d))

head_long : (p : ℕ) (f : Frame) → (head_of p f).frame_length ≡ frame_length f
head_long p (Data flags payload) = refl
head_long p (Pad n) = refl

-- where it ends
pub covers_is : (i : Identity) (f : FrameWords) → IsGeometry i.geometry → (d : IsCommittedFrame i f) → aligned (head_of f.start (frame_in f)).frame_length ≡ 8 * length f.words
covers_is i f g d = ap (λ (x : Frame). aligned (head_of f.start x).frame_length) (content_is i f g d) ∙ ap aligned (head_long f.start d.content) ∙ sym (words_cover i f d)

-- ---- a look, by the value before the call

pub only_reads : (v : Pass) (place : ℕ) (r x : Reading) → IsConsumer v place r → x.number ≡ r.number → OnlyReads v (with_consumer v place x)
only_reads v place r x is same = record { rest = refl; numbers = put_equal (λ (y : Reading). y.number) v.reading place r x is same }

pub stays_by : (r : ReaderValue) (w : PublisherValue) (consumer x : Reading) (end : ℕ) → IsConsumer r.held.pass r.place consumer → SameSeat r.held w → w.pass ≡ with_consumer r.held.pass r.place x → x.number ≡ consumer.number → x.position ≡ consumer.position → Stays r (record r { held = w; read_to = end })
stays_by r w consumer x end is seat after number position = record {
  seat = seat;
  pass = subst (OnlyReads r.held.pass) (sym after) (only_reads r.held.pass r.place consumer x is number);
  positions = ap positions_of after ∙ put_equal (λ (y : Reading). y.position) r.held.pass.reading r.place consumer x is position;
  same = refl;
}

-- what is known where one consumer is changed
known_put : (v w : Pass) (place : ℕ) (consumer x : Reading) → IsConsumer v place consumer → w ≡ with_consumer v place x → known_at w.reading place ≡ x.known
known_put v w place consumer x is after = ap (λ (u : Pass). known_at u.reading place) after ∙ known_is (with_consumer v place x).reading place x (put_there v place consumer x is)

-- and how often it missed
misses_put : (v w : Pass) (place : ℕ) (consumer x : Reading) → IsConsumer v place consumer → w ≡ with_consumer v place x → misses_at w.reading place ≡ x.misses
misses_put v w place consumer x is after = ap (λ (u : Pass). misses_at u.reading place) after ∙ misses_is (with_consumer v place x).reading place x (put_there v place consumer x is)

had_by : (r : ReaderValue) (consumer : Reading) → IsConsumer r.held.pass r.place consumer → (f : FrameWords) → Has r f → Frames.Has r.held.pass consumer f
had_by r consumer is f (inl k) = inl (subst (Among f) (known_is r.held.pass.reading r.place consumer is) k)
had_by r consumer is f (inr a) = inr a

finds_by : (l : LogValue) (r : ReaderValue) (w : PublisherValue) (n end : ℕ) (head : FrameHead) → IsGeometry l.identity.geometry → IsReaderOf l r → IsReading r.held.pass r.place r.number r.position r.read_to → SameSeat r.held w → Looks r.held.pass r.place n w.pass → 0 < n
    → head ≡ head_by r.position (to_le_bytes w64 n) → end ≡ r.position + aligned head.frame_length → Finds l r head (record r { held = w; read_to = end })
finds_by l r w n end head g of is seat told pos shown ends =
    let f = (told is.consumer is.is).found pos in let x : FrameWords = f.frame in let p : ℕ = r.position in
    let at : x.start ≡ p = f.here.at ∙ is.position_is in
    let here : IsFrameAt l.identity p x = subst (λ (y : Identity × ℕ). IsFrameAt y.0 y.1 x) (λ j. (of.of.identity j, is.position_is j)) f.here in
    let said : head ≡ head_of p (frame_in x) = shown ∙ (λ j. head_by (sym at j) (to_le_bytes w64 (sym f.word j))) ∙ head_is l.identity x g here.done ∙ ap (λ (y : ℕ). head_of y (frame_in x)) at in
    let after : w.pass ≡ with_consumer r.held.pass r.place (knows_more is.consumer x) = f.after in
    record {
      frame = x;
      here = here;
      shown = said;
      legal = subst (IsStreamFrame l.identity.geometry) (ap (head_of p) (sym (content_is l.identity x g here.done)) ∙ sym said) here.head;
      known = known_put r.held.pass w.pass r.place is.consumer (knows_more is.consumer x) is.is after ∙ ap (λ (fs : List FrameWords). fs ++ x ∷ []) (sym (known_is r.held.pass.reading r.place is.consumer is.is));
      committed = known_committed w.pass r.place (knows_more is.consumer x) x (subst (λ (u : Pass). IsConsumer u r.place (knows_more is.consumer x)) (sym after) (put_there r.held.pass r.place is.consumer (knows_more is.consumer x) is.is)) (among_right x is.consumer.known (x ∷ []) (inl refl));
      looked = misses_put r.held.pass w.pass r.place is.consumer (knows_more is.consumer x) is.is after ∙ sym (misses_is r.held.pass.reading r.place is.consumer is.is);
      only = λ y has here'. f.only y (had_by r is.consumer is.is y has) (here' ∙ sym is.position_is);
      own = f.own;
      stays = stays_by r w is.consumer (knows_more is.consumer x) end is.is seat after refl refl;
      read = ends ∙ ap (λ (h : FrameHead). p + aligned h.frame_length) said ∙ (λ j. sym at j + aligned (head_of (sym at j) (frame_in x)).frame_length) ∙ ap (λ (k : ℕ). x.start + k) (covers_is l.identity x g here.done);
    }

pub finds_none : (r q : ReaderValue) (n : ℕ) → IsReading r.held.pass r.place r.number r.position r.read_to → SameSeat r.held q.held → Looks r.held.pass r.place n q.held.pass → q ≡ record r { held = q.held } → n ≡ 0 → FindsNone r q
finds_none r q n is seat told same e =
    let l = (told is.consumer is.is).none e in let gone : Misses r q = record { seat = seat; pass = l.0 ∙ ap (λ (rs : List Reading). record r.held.pass { reading = rs }) (missing_is r.held.pass.reading r.place is.consumer is.is); same = same } in record {
      none = λ f has at. l.1 f (had_by r is.consumer is.is f has) (at ∙ sym is.position_is);
      looked =
          ap (λ (k : ℕ). misses_at q.held.pass.reading k) (ap (λ (x : ReaderValue). x.place) same)
          ∙ misses_put r.held.pass q.held.pass r.place is.consumer (missed is.consumer) is.is l.0
          ∙ ap suc (sym (misses_is r.held.pass.reading r.place is.consumer is.is));
      known = known_missing r q gone;
      rests = gone;
    }

pub advances_by : (r : ReaderValue) (w : PublisherValue) → IsReading r.held.pass r.place r.number r.position r.read_to → SameSeat r.held w → Consumes r.held.pass r.place r.read_to w.pass → Advances r (record r { held = w; position = r.read_to })
advances_by r w is seat told =
    let after = (told is.consumer is.is).after in let y : Reading = moved_to is.consumer r.read_to in record {
      seat = seat;
      pass = subst (OnlyReads r.held.pass) (sym after) (only_reads r.held.pass r.place is.consumer y is.is refl);
      positions = ap positions_of after ∙ map-set (λ (z : Reading). z.position) r.held.pass.reading r.place y;
      same = refl;
      known = known_put r.held.pass w.pass r.place is.consumer y is.is after ∙ sym (known_is r.held.pass.reading r.place is.consumer is.is);
      looked = misses_put r.held.pass w.pass r.place is.consumer y is.is after ∙ sym (misses_is r.held.pass.reading r.place is.consumer is.is);
      ends = λ g has at. (told is.consumer is.is).ends g (had_by r is.consumer is.is g has) (at ∙ sym is.position_is);
      here = λ g has at. subst (λ (p : ℕ). IsFrameAt r.held.pass.identity p g) is.position_is ((told is.consumer is.is).here g (had_by r is.consumer is.is g has) (at ∙ sym is.position_is));
    }

pub finds_seen : (l : LogValue) (v r : ReaderValue) (w : PublisherValue) (n end : ℕ) (head : FrameHead) → v ≡ r → IsGeometry l.identity.geometry → IsReaderOf l r → IsReading v.held.pass v.place v.number v.position v.read_to → SameSeat r.held w → Looks r.held.pass r.place n w.pass → (n ≡ 0 → ⊥)
    → head ≡ head_by v.position (to_le_bytes w64 n) → end ≡ v.position + aligned head.frame_length → Finds l r head (record r { held = w; read_to = end })
finds_seen l v r w n end head same g of is seat told non shown ends =
    finds_by l r w n end head g of (subst (λ (x : ReaderValue). IsReading x.held.pass x.place x.number x.position x.read_to) same is) seat told (more n non) (shown ∙ ap (λ (x : ReaderValue). head_by x.position (to_le_bytes w64 n)) same) (ends ∙ ap (λ (x : ReaderValue). x.position + aligned head.frame_length) same)
  where
    more : (n : ℕ) → (n ≡ 0 → ⊥) → 0 < n
    more n non = omega (arith, non)

pub found_reading : (l : LogValue) (r : ReaderValue) (head : FrameHead) (q : ReaderValue) (read_to n : ℕ) → IsReading q.held.pass q.place q.number q.position read_to → IsReaderOf l r → Finds l r head q → q.read_to ≡ r.position + n → n ≡ aligned head.frame_length → IsReading q.held.pass q.place q.number q.position q.read_to
found_reading l r head q read_to n is of f ends is_n = record {
  consumer = is.consumer;
  is = is.is;
  number_is = is.number_is;
  position_is = is.position_is;
  read = λ lt. record {
    consumer = is.consumer;
    is = is.is;
    frame = f.frame;
    known = subst (Among f.frame) (known_is q.held.pass.reading q.place is.consumer is.is) (subst (Among f.frame) (sym f.known) (among_right f.frame (known_of r) (f.frame ∷ []) (inl refl)));
    here = f.here.at ∙ sym (ap (λ (x : ReaderValue). x.position) f.stays.same) ∙ sym is.position_is;
    ends = f.read;
  };
  low = is.low;
  low_end = (let a = f.legal.in_stream in let same : q.held.pass.identity ≡ l.identity = ap (λ (v : Pass). v.identity) f.stays.pass.rest ∙ of.of.identity in
      subst (λ (i : Identity). q.read_to ≤ max_position i.geometry) (sym same) (up q.read_to r.position n (aligned head.frame_length) head.start (max_position l.identity.geometry) ends is_n (ap (λ (h : FrameHead). h.start) f.shown ∙ at_start r.position (frame_in f.frame)) a));
}
  where
    up : (e p n m s g : ℕ) → e ≡ p + n → n ≡ m → s ≡ p → s + m ≤ g → e ≤ g
    up e p n m s g a c d le = omega arith

    at_start : (p : ℕ) (x : Frame) → (head_of p x).start ≡ p
    at_start p (Data flags payload) = refl
    at_start p (Pad k) = refl

-- its bounds
pub short_head : (g : Geometry) (head : FrameHead) → IsGeometry g → IsStreamFrame g head → head.frame_length ≤ 2147483648
short_head g head is legal = let t = is.term.greatest in let a = legal.in_term in omega arith

pub low_end : (g : Geometry) (head : FrameHead) (p n : ℕ) → IsGeometry g → IsStreamFrame g head → p ≡ head.start → n ≡ aligned head.frame_length → p + n < 2 ^ 56
low_end g head p n is legal e f = let t = is.term.greatest in let a = legal.in_stream in omega arith

-- ---- its payload

abbrev is_data : FrameKind → Type 0
is_data kinds.Data = Unit
is_data kinds.Pad = ⊥

kinds_apart : kinds.Data ≡ kinds.Pad → ⊥
kinds_apart e = subst is_data e tt

take_again : (m : ℕ) (xs : List ℕ) → take (length (take m xs)) xs ≡ take m xs
take_again zero xs = refl
take_again (suc m) [] = refl
take_again (suc m) (x ∷ xs) = ap (λ (ys : List ℕ). x ∷ ys) (take_again m xs)

taken : (b : Bool) (p n flags m : ℕ) (xs : List ℕ) → (head_of p (if b then Pad n else Data flags (take m xs))).kind ≡ kinds.Data
    → (take ((head_of p (if b then Pad n else Data flags (take m xs))).frame_length - 32) xs ≡ payload_of (if b then Pad n else Data flags (take m xs))) × ((head_of p (if b then Pad n else Data flags (take m xs))).frame_length - 32 ≡ length (payload_of (if b then Pad n else Data flags (take m xs))))
taken true p n flags m xs e = absurd (kinds_apart (sym e))
taken false p n flags m xs e = let l : 32 + length (take m xs) - 32 ≡ length (take m xs) = omega arith in (ap (λ (k : ℕ). take k xs) l ∙ take_again m xs, l)

le_is : (a b : ℕ) → a ≤ b → nat_le a b ≡ true
le_is a b le = search (rules, le)

not_le : (a b : ℕ) → b < a → nat_le a b ≡ false
not_le a b lt = search (rules, lt)

-- how much of it is copied
fits_is : (count room : ℕ) → count ≤ room → fitting count room ≡ count
fits_is count room le = ap (λ (b : Bool). if b then count else 0) (le_is count room le)

-- a payload that fits stands in front of the bytes
whole : (head : FrameHead) (p : ℕ) (x : FrameWords) (before after : List ℕ) → head ≡ head_of p (frame_in x) → (head.kind ≡ kinds.Data → head.frame_length - 32 ≤ length before) → Copies x (part_bytes head (length before)) before after → after ≡ payload_of (frame_in x) ++ drop (length (payload_of (frame_in x))) before
whole head p x before after shown fits copied = by head.kind refl
  where
    n : ℕ
    n = head.frame_length - 32

    long : n ≡ (head_of p (frame_in x)).frame_length - 32
    long = ap (λ (h : FrameHead). h.frame_length - 32) shown

    empty : (y : Frame) → (head_of p y).kind ≡ kinds.Pad → before ≡ payload_of y ++ drop (length (payload_of y)) before
    empty (Data flags payload) e = absurd (kinds_apart e)
    empty (Pad k) e = refl

    by : (k : FrameKind) → head.kind ≡ k → after ≡ payload_of (frame_in x) ++ drop (length (payload_of (frame_in x))) before
    by kinds.Data e =
        let both = taken (nat_eq (slice_index (to_le_bytes w64 (slice_index x.words 0)) 6) 0) p _ _ _ (bytes_in (drop 4 x.words)) (sym (ap (λ (h : FrameHead). h.kind) shown) ∙ e) in
        copied ∙ ap (λ (m : ℕ). take m (bytes_in (drop 4 x.words)) ++ drop m before) (ap (λ (k : FrameKind). part_of k n (length before)) e ∙ fits_is n (length before) (fits e))
        ∙ (λ j. take (long j) (bytes_in (drop 4 x.words)) ++ drop ((long ∙ both.1) j) before) ∙ ap (λ (ys : List ℕ). ys ++ drop (length (payload_of (frame_in x))) before) both.0
    by kinds.Pad e = copied ∙ ap (λ (k : FrameKind). take (part_of k n (length before)) (bytes_in (drop 4 x.words)) ++ drop (part_of k n (length before)) before) e ∙ empty (frame_in x) (sym (ap (λ (h : FrameHead). h.kind) shown) ∙ e)

-- bytes that took the place of as many
pub whole_again : (xs ys : List ℕ) → length xs ≡ length ys → take (length ys) (xs ++ drop (length xs) ys) ≡ xs
whole_again [] [] e = refl
whole_again [] (y ∷ ys) e = absurd (omega (arith, e))
whole_again (x ∷ xs) [] e = absurd (omega (arith, e))
whole_again (x ∷ xs) (y ∷ ys) e = ap (λ (zs : List ℕ). x ∷ zs) (whole_again xs ys (omega (arith, e)))

pub not_data : {P : Type 0} (head : FrameHead) → head.kind ≡ kinds.Pad → head.kind ≡ kinds.Data → P
not_data head pad is = absurd (kinds_apart (sym is ∙ pad))

-- one that doesn't leaves them as they were
pub unfit : (head : FrameHead) (x : FrameWords) (before after : List ℕ) → head.kind ≡ kinds.Data → 32 + length before < head.frame_length → Copies x (part_bytes head (length before)) before after → after ≡ before
unfit head x before after kind long copied = copied ∙ ap (λ (m : ℕ). take m (bytes_in (drop 4 x.words)) ++ drop m before) (ap (λ (k : FrameKind). part_of k n (length before)) kind ∙ none n (length before) (more head.frame_length (length before) long))
  where
    n : ℕ
    n = head.frame_length - 32

    none : (count room : ℕ) → room < count → fitting count room ≡ 0
    none count room lt = ap (λ (b : Bool). if b then count else 0) (not_le count room lt)

    more : (a m : ℕ) → 32 + m < a → m < a - 32
    more a m lt = omega arith

pub read_part : (l : LogValue) (r : ReaderValue) (head : FrameHead) (before : List ℕ) (q : ReaderValue) (after : List ℕ) → (f : FindsPart l r head before q after) → (head.kind ≡ kinds.Data → head.frame_length - 32 ≤ length before) → ReadsFrame l r head before q after
read_part l r head before q after f fits = record { finds = f.finds; copied = whole head r.position f.finds.frame before after f.finds.shown fits f.copied }

-- a block that holds a datagram's longest frame holds its payload
pub fits_block : (g : Geometry) (head : FrameHead) (room : ℕ) → IsStreamFrame g head → g.mtu ≤ room → head.kind ≡ kinds.Data → head.frame_length - 32 ≤ room
fits_block g head room legal le e = let short = legal.short e in omega arith

-- ---- read again

pub may_reread : (l : LogValue) (r : ReaderValue) (p : ℕ) → IsReaderOf l r → IsReading r.held.pass r.place r.number r.position r.read_to → MayReread l r p → MayRereadAt r.held.pass (consumer_of r) p
may_reread l r p of is may = record {
  at = record { reading = is.consumer; is = is.is; number_is = is.number_is; position_is = is.position_is; low = of.number };
  frame = may.frame;
  has = had_by r is.consumer is.is may.frame may.has;
  here = may.here;
  near = (let size : term_of r.held.pass ≡ l.identity.geometry.term_length = ap (λ (i : Identity). i.geometry.term_length) of.of.identity in let close = may.near in within r.position p l.identity.geometry.term_length (term_of r.held.pass) close size);
}
  where
    within : (q p t u : ℕ) → q ≤ p + 3 * t / 4 → u ≡ t → q ≤ p + u
    within q p t u le e = omega arith

pub rereads_by : (l : LogValue) (r q : ReaderValue) (position n : ℕ) (head : FrameHead) (before after : List ℕ) → IsGeometry l.identity.geometry → IsReaderOf l r → IsReading r.held.pass r.place r.number r.position r.read_to → MayReread l r position → l.identity.geometry.mtu ≤ length before
    → Rests r q → ReadsAgain r.held.pass (consumer_of r) position n → head ≡ head_by position (to_le_bytes w64 n) → CopiesHad r.held.pass (consumer_of r) position (part_bytes head (length before)) before after → Rereads l r position head before q after
rereads_by l r q position n head before after g of is may room rests told shown copied =
    let f : FrameWords = may.frame in let has = had_by r is.consumer is.is f may.has in let it : IsRead r.held.pass is.consumer f position n = told is.consumer f is.is has may.here in
    let here : IsFrameAt l.identity position f = subst (λ (i : Identity). IsFrameAt i position f) of.of.identity it.here in
    let said : head ≡ head_of position (frame_in f) = shown ∙ (λ j. head_by (sym here.at j) (to_le_bytes w64 (it.word j))) ∙ head_is l.identity f g here.done ∙ ap (λ (y : ℕ). head_of y (frame_in f)) here.at in
    let legal : IsStreamFrame l.identity.geometry head = subst (IsStreamFrame l.identity.geometry) (ap (head_of position) (sym (content_is l.identity f g here.done)) ∙ sym said) here.head in record {
      frame = f;
      has = may.has;
      at = may.here;
      only = λ y has' at'. it.only y (had_by r is.consumer is.is y has') at';
      shown = said;
      legal = legal;
      copied = whole head position f before after said (fits_block l.identity.geometry head (length before) legal room) (copied is.consumer f is.is has may.here);
      rests = rests;
    }

-- ---- what the pass's look told, by the reader's value

pub looked_by : (v r : ReaderValue) (w : PublisherValue) (k : Consumer) (n : ℕ) → v ≡ r → k ≡ consumer_of r → SameSeat v.held w → Looks v.held.pass k.place n w.pass → SameSeat r.held w × Looks r.held.pass r.place n w.pass
looked_by v r w k n e is seat told = (subst (λ (x : ReaderValue). SameSeat x.held w) e seat, subst (λ (x : ReaderValue × ℕ). Looks x.0.held.pass x.1 n w.pass) (λ j. (e j, ap (λ (y : Consumer). y.place) is j)) told)

-- ---- a look that found one

pub finds_part : (l : LogValue) (r q : ReaderValue) (head : FrameHead) (count end : ℕ) (before after : List ℕ) → (f : Finds l r head (record q { read_to = end })) → (is : IsReading q.held.pass q.place q.number q.position q.read_to) → count ≡ part_bytes head (length before) → q.place ≡ r.place → CopiesKnown q.held.pass (consumer_of r) count before after → FindsPart l r head before (record q { read_to = end }) after
finds_part l r q head count end before after f is e place copied = record {
  finds = f;
  copied = subst (λ (n : ℕ). Copies f.frame n before after) e
      (copied is.consumer f.frame (subst (λ (k : ℕ). IsConsumer q.held.pass k is.consumer) place is.is) (subst (Among f.frame) (known_is q.held.pass.reading q.place is.consumer is.is) (subst (Among f.frame) (sym f.known) (among_right f.frame (known_of r) (f.frame ∷ []) (inl refl)))) f.here.at);
}
