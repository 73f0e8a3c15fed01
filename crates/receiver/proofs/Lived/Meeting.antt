-- Honest frames keep what is known of a receiver.
use Rattle.std.proofs.Common.{◌≡◌, ℕ, ◌≤◌, List, [], ◌∷◌, Option, None, Some, inl, inr, refl, sym, ap, ◌∙◌, subst, arith}
use Rattle.std.specs.Prelude.{ℤ, pos, negsuc, replicate, Bool, true, false, cond}
use Rattle.std.specs.List.{AllByRecursion}
use Rattle.theory.specs.Position.{Geometry, NamesPlace, max_position}
use Rattle.theory.specs.Wire.{Header, Setup, Wire, DATA, PAD, HEARTBEAT, NAK, SM, SETUP}
use Rattle.theory.specs.Bytes.{Identity, header_at, wire_at}
use Rattle.theory.specs.Placed.{AllAmong, Among, Data, Frame, Pad, Placed, end_of}
use Rattle.theory.specs.Entry.{committed}
use Rattle.theory.specs.Consumer.{Consumer, consumer_at, least_of}
use Rattle.theory.specs.Control.{named_by}
use Rattle.theory.specs.Image.{Image, after_heartbeat, after_insert, image_at, is_accepted}
use Rattle.theory.specs.Insert.{Insert, Below, CrossesTerm, Duplicate, OverWindow, Overlap, Stored}
use Rattle.theory.specs.Laws.{HeaderNamesPlace}
use Rattle.theory.specs.Setup.{NamesGeometry}
use Rattle.theory.proofs.Frames.{committed_below}
use Rattle.theory.proofs.Lists.{all_at}
use Rattle.theory.proofs.Stays.{beat_stays, insert_stays}
use Rattle.receiver.specs.Receiving.{Meets, MeetsAll, MeetsFrame, MeetsHeartbeat, MeetsSetup, Opened, OpensImage, Receiver, RefusesDatagram, TakesDatagram, answer_at, at_moment, given_at}
use Rattle.receiver.specs.declared.receiver_core.Outcome.{Outcome}
use Rattle.receiver.specs.Lives.{IsHonest, IsHonestFrame, IsIts, IsStream, NamesIt, Stream, WasCommitted}
use Rattle.receiver.proofs.Lived.Following.{Follows, FollowsImage, IsFollowed, follows_as, follows_with, stays_followed}

-- laws on positions
pub record Places : Type 0 where
  pub place : NamesPlace
  pub header : HeaderNamesPlace

-- ---- what an image stores

stored_on : (fs : List Placed) (i : Image) (t : Placed) (a : Insert) → Among t fs → AllAmong fs i.stored → AllAmong fs (after_insert i t a).stored
stored_on fs i t CrossesTerm a all = all
stored_on fs i t Below a all = all
stored_on fs i t OverWindow a all = all
stored_on fs i t Duplicate a all = all
stored_on fs i t Overlap a all = all
stored_on fs i t Stored a all = (a, all)

-- a heartbeat stores nothing
beat_stored : (g : Geometry) (i : Image) (least : ℕ) (p : ℤ) → (after_heartbeat g i least p).stored ≡ i.stored
beat_stored g i least (negsuc n) = refl
beat_stored g i least (pos p) = both (is_accepted g i.high least p) (record i { high = p }) i refl
  where
    both : (b : Bool) (j k : Image) → j.stored ≡ k.stored → (cond b j k).stored ≡ k.stored
    both true j k e = e
    both false j k e = refl

-- ---- a frame of the stream

-- it is committed, and its header names its place
record IsFrameOf (x : Stream) (h : Header) (f : Frame) : Type 0 where
  placed : Placed
  among : Among placed (committed x.entries)
  named : named_by x.identity.geometry h ≡ pos placed.at
  same : f ≡ placed.frame

pub data_is : (i : Identity) (p : ℕ) (f : Frame) (h : Header) (flags : ℕ) (payload : List ℕ) → DATA h flags payload ≡ wire_at i p f → (h ≡ header_at i p) × (Data flags payload ≡ f)
data_is i p (Data g bytes) h flags payload e =
    let a : h ≡ header_at i p = cc in
    let b : flags ≡ g = cc in
    let c : payload ≡ bytes = cc in
    (a, ap (λ x. Data x payload) b ∙ ap (λ x. Data g x) c)
data_is i p (Pad n) h flags payload e = absurd (cc)

pub pad_is : (i : Identity) (p : ℕ) (f : Frame) (h : Header) (n : ℕ) → PAD h n ≡ wire_at i p f → (h ≡ header_at i p) × (Pad n ≡ f)
pad_is i p (Data g bytes) h n e = absurd (cc)
pad_is i p (Pad m) h n e =
    let a : h ≡ header_at i p = cc in
    let b : n ≡ m = cc in
    (a, ap Pad b)

-- a committed frame begins in the stream
place_low : (x : Stream) (s : Placed) → IsStream x → Among s (committed x.entries) → s.at ≤ max_position x.identity.geometry
place_low x s is a =
    let below : end_of s ≤ x.tail = all_at (λ t. end_of t ≤ x.tail) s (committed x.entries) (committed_below x.identity.geometry.term_length x.start x.tail x.entries is.tiles is.entries) a in
    let low = is.tail_low in omega (arith, below, low)

data_of : Places → (x : Stream) (h : Header) (flags : ℕ) (payload : List ℕ) → IsStream x → WasCommitted x (DATA h flags payload) → IsFrameOf x h (Data flags payload)
data_of laws x h flags payload is was =
    let parts = data_is x.identity was.0.at was.0.frame h flags payload was.2 in
    record { placed = was.0; among = was.1; named = ap (named_by x.identity.geometry) parts.0 ∙ laws.header x.identity was.0.at is.geometry (place_low x was.0 is was.1); same = parts.1 }

pad_of : Places → (x : Stream) (h : Header) (n : ℕ) → IsStream x → WasCommitted x (PAD h n) → IsFrameOf x h (Pad n)
pad_of laws x h n is was =
    let parts = pad_is x.identity was.0.at was.0.frame h n was.2 in
    record { placed = was.0; among = was.1; named = ap (named_by x.identity.geometry) parts.0 ∙ laws.header x.identity was.0.at is.geometry (place_low x was.0 is was.1); same = parts.1 }

-- ---- a SETUP

pub same_geometry : (f : Setup) (g h : Geometry) → NamesGeometry f g → f.term_length ≡ pos h.term_length → f.mtu ≡ pos h.mtu → f.initial_term_id ≡ h.initial_term_id → g ≡ h
same_geometry f g h n t m i =
    let terms : pos g.term_length ≡ pos h.term_length = sym n.term_length ∙ t in
    let mtus : pos g.mtu ≡ pos h.mtu = sym n.mtu ∙ m in
    let term : g.term_length ≡ h.term_length = cc in
    let mtu : g.mtu ≡ h.mtu = cc in
    ap (λ x. record g { term_length = x }) term ∙ ap (λ x. record g { term_length = h.term_length; mtu = x }) mtu ∙ ap (λ x. record h { initial_term_id = x }) (sym n.initial ∙ i)

-- ---- what a datagram keeps, where it holds of consumers that begin

module _ (x : Stream) (is : IsStream x) (P : List Consumer → ℕ → Type 0) (Q : Type 0) (n : ℕ) (begins : Q → (j : ℕ) → P (replicate n (consumer_at j)) j) where
  abbrev pub Kept : Receiver → Type 0
  Kept = Follows x P Q n

  -- ---- a frame of the stream

  frame_met : (r q : Receiver) (image : Option Opened) (h : Header) (f : Frame) (out : Outcome) → Kept r → r.image ≡ image → IsFrameOf x h f → MeetsFrame image r h f out q → Kept q
  frame_met r q None h f out k was t m = follows_as x P Q n r q k (ap (λ z. z.session) m.1) (ap (λ z. z.stream) m.1) (ap (λ z. z.consumers) m.1) (ap (λ z. z.image) m.1)
  frame_met r q (Some o) h f out k was t m =
      let before : IsFollowed x P o = subst (λ z. FollowsImage z x P Q) was k.image in
      let at : named_by o.geometry h ≡ pos t.placed.at = ap (λ g. named_by g h) before.geometry ∙ t.named in
      let same : q ≡ record r { image = Some (given_at o (pos t.placed.at) t.placed.frame) } = m.3 ∙ ap (λ z. record r { image = Some (given_at o z f) }) at ∙ ap (λ y. record r { image = Some (given_at o (pos t.placed.at) y) }) t.same in
      let answer = answer_at o (pos t.placed.at) t.placed.frame in
      let keeps = insert_stays o.image t.placed answer in
      let after = stays_followed x P o (given_at o (pos t.placed.at) t.placed.frame) before refl (stored_on (committed x.entries) o.image t.placed answer t.among before.stored) keeps.0 keeps.1 in
      follows_with x P P Q Q n r q k (ap (λ z. z.session) same) (ap (λ z. z.stream) same) (ap (λ z. z.consumers) same) (subst (λ z. FollowsImage z x P Q) (sym (ap (λ z. z.image) same)) after)

  beat_met : (r q : Receiver) (image : Option Opened) (h : Header) (out : Outcome) → Kept r → r.image ≡ image → MeetsHeartbeat image r h out q → Kept q
  beat_met r q None h out k was m = follows_as x P Q n r q k (ap (λ z. z.session) m.1) (ap (λ z. z.stream) m.1) (ap (λ z. z.consumers) m.1) (ap (λ z. z.image) m.1)
  beat_met r q (Some o) h out k was m =
      let before : IsFollowed x P o = subst (λ z. FollowsImage z x P Q) was k.image in
      let least = least_of o.image.consumers in
      let z = named_by o.geometry h in
      let keeps = beat_stays o.geometry o.image least z in
      let after = stays_followed x P o (record o { image = after_heartbeat o.geometry o.image least z }) before refl (subst (AllAmong (committed x.entries)) (sym (beat_stored o.geometry o.image least z)) before.stored) keeps.0 keeps.1 in
      follows_with x P P Q Q n r q k (ap (λ y. y.session) m.1) (ap (λ y. y.stream) m.1) (ap (λ y. y.consumers) m.1) (subst (λ y. FollowsImage y x P Q) (sym (ap (λ y. y.image) m.1)) after)

  -- ---- a SETUP

  opens : (r q : Receiver) (f : Setup) (out : Outcome) → Kept r → r.image ≡ None → NamesIt x f → OpensImage r f out q → Kept q
  opens r q f out k was named m =
      let i = x.identity in
      let shape : m.0 ≡ i.geometry = same_geometry f m.0 i.geometry m.2.geometry (ap (λ z. z.term_length) named.2) (ap (λ z. z.mtu) named.2) (ap (λ z. z.initial_term_id) named.2) in
      let nothing : Q = subst (λ z. FollowsImage z x P Q) was k.image in
      let after : IsFollowed x P (record { geometry = m.0; image = image_at m.1 r.window r.consumers }) = record {
        geometry = shape;
        stored = tt;
        reading = subst (λ c. P (replicate c (consumer_at m.1)) m.1) (sym k.count) (begins nothing m.1);
      } in
      follows_with x P P Q Q n r q k (ap (λ y. y.session) m.4) (ap (λ y. y.stream) m.4) (ap (λ y. y.consumers) m.4) (subst (λ y. FollowsImage y x P Q) (sym (ap (λ y. y.image) m.4)) after)

  setup_met : (r q : Receiver) (image : Option Opened) (f : Setup) (out : Outcome) → Kept r → r.image ≡ image → NamesIt x f → MeetsSetup image r f out q → Kept q
  setup_met r q None f out k was named (inl m) = opens r q f out k was named m
  setup_met r q None f out k was named (inr m) = follows_as x P Q n r q k (ap (λ y. y.session) m.3) (ap (λ y. y.stream) m.3) (ap (λ y. y.consumers) m.3) (ap (λ y. y.image) m.3)
  setup_met r q (Some o) f out k was named m = follows_as x P Q n r q k (ap (λ y. y.session) m.1) (ap (λ y. y.stream) m.1) (ap (λ y. y.consumers) m.1) (ap (λ y. y.image) m.1)

  -- ---- any frame, and the frames of a datagram

  -- it is left as it was
  stays : (r q : Receiver) → Kept r → q ≡ r → Kept q
  stays r q k e = subst Kept (sym e) k

  its : (r : Receiver) (session stream : ℤ) → Kept r → (session ≡ r.session) × (stream ≡ r.stream) → IsIts x session stream
  its r session stream k ours = (ours.0 ∙ k.session, ours.1 ∙ k.stream)

  pub meets : Places → (r q : Receiver) (w : Wire) (out : Outcome) → Kept r → IsHonestFrame x w → Meets r w out q → Kept q
  meets laws r q (DATA h flags payload) out k honest (inl m) = frame_met r q r.image h (Data flags payload) out k refl (data_of laws x h flags payload is (honest (its r h.session h.stream k m.0))) m.1
  meets laws r q (DATA h flags payload) out k honest (inr m) = stays r q k m.1.1
  meets laws r q (PAD h n) out k honest (inl m) = frame_met r q r.image h (Pad n) out k refl (pad_of laws x h n is (honest (its r h.session h.stream k m.0))) m.1
  meets laws r q (PAD h n) out k honest (inr m) = stays r q k m.1.1
  meets laws r q (HEARTBEAT h) out k honest (inl m) = beat_met r q r.image h out k refl m.1
  meets laws r q (HEARTBEAT h) out k honest (inr m) = stays r q k m.1.1
  meets laws r q (NAK f) out k honest m = stays r q k m.1
  meets laws r q (SM asks f) out k honest m = stays r q k m.1
  meets laws r q (SETUP f) out k honest (inl m) = setup_met r q r.image f out k refl (honest (its r f.session f.stream k m.0)) m.1
  meets laws r q (SETUP f) out k honest (inr m) = stays r q k m.1.1

  meets_all : Places → (r q : Receiver) (ws : List Wire) (outs : List Outcome) → Kept r → AllByRecursion (IsHonestFrame x) ws → MeetsAll r ws outs q → Kept q
  meets_all laws r q [] outs k honest m = stays r q k m.1
  meets_all laws r q (w ∷ ws) outs k honest m = meets_all laws m.1 q ws m.2 (meets laws r m.1 w m.0 k honest.0 m.3) honest.1 m.5

  -- a datagram that can't be read
  pub refuses : (r q : Receiver) (bytes : List ℕ) (outs : List Outcome) → Kept r → RefusesDatagram r bytes outs q → Kept q
  refuses r q bytes outs k m = follows_as x P Q n r q k (ap (λ z. z.session) m.3) (ap (λ z. z.stream) m.3) (ap (λ z. z.consumers) m.3) (ap (λ z. z.image) m.3)

  pub takes : Places → (r q : Receiver) (now : ℕ) (bytes : List ℕ) (outs : List Outcome) → Kept r → IsHonest x bytes → TakesDatagram r now bytes outs q → Kept q
  takes laws r q now bytes outs k honest (inl m) = meets_all laws (at_moment r now) q m.0 outs (record { session = k.session; stream = k.stream; count = k.count; image = k.image }) (honest m.0 m.1) m.2
  takes laws r q now bytes outs k honest (inr m) = refuses (at_moment r now) q bytes outs (record { session = k.session; stream = k.stream; count = k.count; image = k.image }) m
