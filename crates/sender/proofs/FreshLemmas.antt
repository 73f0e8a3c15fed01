-- New frames given out one after the other.
use Rattle.std.proofs.Common.{◌≡◌, ◌⊎◌, ℕ, ◌+◌, ◌*◌, ◌%◌, ◌<◌, ◌≤◌, inl, inr, true, false, List, [], ◌∷◌, ◌++◌, length, map, refl, sym, ap, ◌∙◌, subst, append-nil, arith}
use Rattle.std.specs.List.{AllByRecursion}
use Rattle.std.proofs.lemmas.List.{length-append}
use Rattle.theory.specs.Position.{Geometry, aligned, max_position}
use Rattle.theory.specs.Placed.{Among, Chain, Frame, Placed, end_of}
use Rattle.theory.specs.Bytes.{Identity}
use Rattle.theory.specs.Datagrams.{MayBeSent, cycle_datagrams, frames_of, grouped, sent_end, wires}
use Rattle.theory.proofs.Follow.{chain_span}
use Rattle.theory.proofs.Grouping.{cycle_sends_these, cycle_stops_at_limit, cycle_stops_when_full, grouped_is}
use Rattle.theory.proofs.Lists.{all_pushed, all_weaker}
use Rattle.position.specs.declared.head.FrameHead.{FrameHead}
use Rattle.position.specs.Heads.{frame_in, head_of}
use Rattle.position.proofs.Heads.{frame_again, length_in, start_in}
use Rattle.frame_source.specs.Sources.{HasNone, ReadsAt, Source}
use Rattle.sender.specs.Resending.Handler.{Handler, after_note}
use Rattle.sender.specs.Cycling.{AreRead, GivesNew, datagrams}
use Rattle.sender.specs.Giving.{SendsNew, with_all}
use Rattle.frames.specs.Outgoing.{Outgoing}
use Rattle.sender.specs.Packed.{Packs, Puts, placed_in}
use Rattle.sender.specs.Sending.{AreThere, ReadsTo, all_noted}
use Rattle.sender.specs.declared.packing.Packing.{Packing}
use Rattle.sender.proofs.StartLemmas.{there_after_note, there_in_more}

-- ---- what becomes of the frame at the position

-- the frame at the sender's position went out, and was noted
pub record FrameGoes (grown : List Placed → List Placed → Type 0) (i : Identity) (limit : ℕ) (old : Source) (h : Handler) (p : Packing) (o : Outgoing) (new : Source) (k : Handler) (q : Packing) (n : Outgoing) : Type 0 where
  pub frame : Placed
  pub among : Among frame new.frames
  pub here : frame.at ≡ h.at
  pub allowed : MayBeSent limit frame
  pub handler : k ≡ after_note h frame.at (end_of frame)
  pub reads : ReadsTo grown old k.at new
  pub put : Puts i p o frame true q n
  pub further : h.at < k.at
  pub in_stream : k.at ≤ max_position i.geometry

-- the frame at the position may not go: it ends above the limit, or has no place
pub record IsBarred (i : Identity) (limit : ℕ) (frames : List Placed) (at : ℕ) (p : Packing) (o : Outgoing) : Type 0 where
  pub frame : Placed
  pub among : Among frame frames
  pub here : frame.at ≡ at
  pub barred : (limit < sent_end frame frame.frame) ⊎ (MayBeSent limit frame × Puts i p o frame false p o)

-- nothing went out, since it looked and no frame is there, or it may not go
pub record FrameStays (Looked : Type 0) (grown : List Placed → List Placed → Type 0) (i : Identity) (limit : ℕ) (old : Source) (h : Handler) (p : Packing) (o : Outgoing) (new : Source) (k : Handler) (q : Packing) (n : Outgoing) : Type 0 where
  pub handler : k ≡ h
  pub packing : q ≡ p
  pub out : n ≡ o
  pub reads : ReadsTo grown old h.at new
  pub stops : (HasNone new h.at × Looked) ⊎ IsBarred i limit new.frames h.at p o

-- ---- the frame that was read

-- head and block show the frame at the position
pub shown_is : (g : Geometry) (frames : List Placed) (position : ℕ) (head : FrameHead) (before after : List ℕ) (r : ReadsAt g frames position head before after) → placed_in head after ≡ record { at = position; frame = r.frame }
shown_is g frames position head before after r =
    ap (λ (x : FrameHead). placed_in x after) r.shown
    ∙ ap (λ (n : ℕ). record { at = n; frame = frame_in (head_of position r.frame).kind (head_of position r.frame).flags (head_of position r.frame).frame_length after }) (start_in position r.frame)
    ∙ ap (λ (b : List ℕ). record { at = position; frame = frame_in (head_of position r.frame).kind (head_of position r.frame).flags (head_of position r.frame).frame_length b }) r.copied
    ∙ ap (λ (f : Frame). record { at = position; frame = f }) (frame_again position r.frame before)

-- and the head tells where it ends
pub end_shown : (g : Geometry) (frames : List Placed) (position : ℕ) (head : FrameHead) (before after : List ℕ) (r : ReadsAt g frames position head before after) → head.start + aligned head.frame_length ≡ end_of (record { at = position; frame = r.frame })
end_shown g frames position head before after r =
    ap (λ (x : FrameHead). x.start + aligned x.frame_length) r.shown
    ∙ ap (λ (n : ℕ). n + aligned (head_of position r.frame).frame_length) (start_in position r.frame)
    ∙ ap (λ (n : ℕ). position + aligned n) (length_in position r.frame)

-- ---- lists of frames that follow each other

pub chain_push : (j q : ℕ) (ss : List Placed) (s : Placed) → Chain j q ss → s.at ≡ q → Chain j (end_of s) (ss ++ s ∷ [])
chain_push j q [] s h e = (e ∙ h, refl)
chain_push j q (t ∷ ts) s h e = (h.0, chain_push (end_of t) q ts s h.1 e)

noted_push : (h : Handler) (ss : List Placed) (s : Placed) → all_noted h (ss ++ s ∷ []) ≡ after_note (all_noted h ss) s.at (end_of s)
noted_push h [] s = refl
noted_push h (t ∷ ts) s = noted_push (after_note h t.at (end_of t)) ts s

-- frames that were read, and one more
pub read_more : (old new : List Placed) (j q : ℕ) (ss : List Placed) (s : Placed) → ((f : Placed) → Among f old → Among f new) → AreRead old j q ss → Among s new → s.at ≡ q → AreRead new j (end_of s) (ss ++ s ∷ [])
read_more old new j q ss s keeps r among here = record {
  chain = chain_push j q ss s r.chain here;
  among = all_pushed (λ x. Among x new) ss s (all_weaker (λ x. Among x old) (λ x. Among x new) keeps ss r.among) among;
}

pub read_still : (old new : List Placed) (j q : ℕ) (ss : List Placed) → ((f : Placed) → Among f old → Among f new) → AreRead old j q ss → AreRead new j q ss
read_still old new j q ss keeps r = record { chain = r.chain; among = all_weaker (λ x. Among x old) (λ x. Among x new) keeps ss r.among }

-- ---- the outbox

pub packs_none : (i : Identity) (most : ℕ) (p : Packing) (o : Outgoing) → p ≡ record { left = most; term = 0; size = 0; takes_more = false } → o.mtu ≡ i.geometry.mtu → Packs i most o.datagrams p o []
packs_none i most p o e size = record {
  out = ap (λ (m : ℕ). record { mtu = m; datagrams = o.datagrams }) size ∙ ap (λ (d : List (List ℕ)). record { mtu = i.geometry.mtu; datagrams = d }) (sym (append-nil o.datagrams));
  left = omega (arith, ap (λ (x : Packing). x.left) e);
  last = inl (refl, ap (λ (x : Packing). x.takes_more) e);
  small = omega (arith, ap (λ (x : Packing). x.size) e);
}

pub packed_out : (i : Identity) (most : ℕ) (p : Packing) (o n : Outgoing) (frames : List Placed) → o.mtu ≡ i.geometry.mtu → Packs i most o.datagrams p n frames → n ≡ with_all o (map (wires i) (grouped i.geometry frames))
packed_out i most p o n frames size packs = packs.out ∙ ap (λ (m : ℕ). record { mtu = m; datagrams = o.datagrams ++ datagrams (map (wires i) (grouped i.geometry frames)) }) (sym size)

-- ---- the frames that were sent so far

pub record Sent (grown : List Placed → List Placed → Type 0) (i : Identity) (limit : ℕ) (old : Source) (h : Handler) (o : Outgoing) (new : Source) (k : Handler) (p : Packing) (n : Outgoing) : Type 0 where
  pub frames : List Placed
  pub read : AreRead new.frames h.at k.at frames
  pub allowed : AllByRecursion (MayBeSent limit) frames
  pub handler : k ≡ all_noted h frames
  pub reads : ReadsTo grown old k.at new
  pub packs : Packs i 16 o.datagrams p n frames
  pub there : AreThere new.frames k
  pub stream : k.geometry ≡ i.geometry

reads_on : (grown : List Placed → List Placed → Type 0) (a : Source) (m : ℕ) (b : Source) (to : ℕ) (c : Source) → ((x y z : List Placed) → grown x y → grown y z → grown x z) → ReadsTo grown a m b → ReadsTo grown b to c → ReadsTo grown a to c
reads_on grown a m b to c on r q = record {
  grows = on a.frames b.frames c.frames r.grows q.grows;
  moved = q.moved ∙ ap (λ (x : Source). record x { position = to; frames = c.frames }) r.moved;
}

pub sent_more : (grown : List Placed → List Placed → Type 0) (i : Identity) (limit : ℕ) (old : Source) (h : Handler) (o : Outgoing) (mid : Source) (k : Handler) (p : Packing) (n : Outgoing) (new : Source) (k' : Handler) (p' : Packing) (n' : Outgoing)
    → ((x y z : List Placed) → grown x y → grown y z → grown x z) → ((x y : List Placed) → grown x y → (f : Placed) → Among f x → Among f y)
    → Sent grown i limit old h o mid k p n → FrameGoes grown i limit mid k p n new k' p' n' → Sent grown i limit old h o new k' p' n'
sent_more grown i limit old h o mid k p n new k' p' n' on keeps s g =
    let f = g.frame in
    let more = keeps mid.frames new.frames g.reads.grows in
    let ends : end_of f ≡ k'.at = sym (ap (λ (x : Handler). x.at) g.handler) in
    record {
      frames = s.frames ++ f ∷ [];
      read = subst (λ (to : ℕ). AreRead new.frames h.at to (s.frames ++ f ∷ [])) ends (read_more mid.frames new.frames h.at k.at s.frames f more s.read g.among g.here);
      allowed = all_pushed (MayBeSent limit) s.frames f s.allowed g.allowed;
      handler = g.handler ∙ ap (λ (x : Handler). after_note x f.at (end_of f)) s.handler ∙ sym (noted_push h s.frames f);
      reads = reads_on grown old k.at mid k'.at new on s.reads g.reads;
      packs = g.put 16 o.datagrams s.frames s.packs;
      there = subst (AreThere new.frames) (sym g.handler) (there_after_note new.frames k f (there_in_more mid.frames new.frames k more s.there) g.among g.here);
      stream = ap (λ (x : Handler). x.geometry) g.handler ∙ s.stream;
    }

-- ---- when no more go

few : (i : Identity) (o : Outgoing) (p : Packing) (n : Outgoing) (frames : List Placed) → Packs i 16 o.datagrams p n frames → length (grouped i.geometry frames) ≤ 16
few i o p n frames packs = omega (arith, packs.left)

barred_stops : (i : Identity) (limit : ℕ) (o : Outgoing) (p : Packing) (n : Outgoing) (frames : List Placed) (s : Placed) → AllByRecursion (MayBeSent limit) frames → Packs i 16 o.datagrams p n frames
    → (limit < sent_end s s.frame) ⊎ (MayBeSent limit s × Puts i p n s false p n) → cycle_datagrams i.geometry limit (frames ++ s ∷ []) ≡ grouped i.geometry frames
barred_stops i limit o p n frames s allowed packs (inl above) = cycle_stops_at_limit i.geometry limit frames s allowed above (few i o p n frames packs)
barred_stops i limit o p n frames s allowed packs (inr full) = cycle_stops_when_full i.geometry limit frames s allowed full.0 (full.1.2 16 o.datagrams frames packs)

gives_new : {Looked : Type 0} (grown : List Placed → List Placed → Type 0) (i : Identity) (limit : ℕ) (old : Source) (h : Handler) (o : Outgoing) (mid : Source) (k : Handler) (p : Packing) (n : Outgoing) (new : Source)
    → ((f : Placed) → Among f mid.frames → Among f new.frames) → (s : Sent grown i limit old h o mid k p n) → (HasNone new k.at × Looked) ⊎ IsBarred i limit new.frames k.at p n → GivesNew i.geometry new.frames h.at limit (grouped i.geometry s.frames)
gives_new grown i limit old h o mid k p n new more s (inl none) = record {
  reads = s.frames;
  to = k.at;
  read = read_still mid.frames new.frames h.at k.at s.frames more s.read;
  sent_is = sym (cycle_sends_these i.geometry limit s.frames s.allowed (few i o p n s.frames s.packs));
  ends = inl (sym (grouped_is i.geometry s.frames), none.0);
}
gives_new grown i limit old h o mid k p n new more s (inr b) = record {
  reads = s.frames ++ b.frame ∷ [];
  to = end_of b.frame;
  read = read_more mid.frames new.frames h.at k.at s.frames b.frame more s.read b.among b.here;
  sent_is = sym (barred_stops i limit o p n s.frames b.frame s.allowed s.packs b.barred);
  ends = inr (b.frame, ap (λ (x : List Placed). x ++ b.frame ∷ []) (sym (grouped_is i.geometry s.frames)));
}

-- where all that was read goes out, it ended at a look
looked_new : {Looked : Type 0} (grown : List Placed → List Placed → Type 0) (i : Identity) (limit : ℕ) (old : Source) (h : Handler) (o : Outgoing) (mid : Source) (k : Handler) (p : Packing) (n : Outgoing) (new : Source)
    → (more : (f : Placed) → Among f mid.frames → Among f new.frames) → (s : Sent grown i limit old h o mid k p n) → (stops : (HasNone new k.at × Looked) ⊎ IsBarred i limit new.frames k.at p n)
    → (gives_new grown i limit old h o mid k p n new more s stops).reads ≡ frames_of (grouped i.geometry s.frames) → Looked
unfolding gives_new
looked_new grown i limit old h o mid k p n new more s (inl none) all = none.1
looked_new grown i limit old h o mid k p n new more s (inr b) all =
    let longer : length (s.frames ++ b.frame ∷ []) ≡ length s.frames = ap (λ (fs : List Placed). length fs) (all ∙ grouped_is i.geometry s.frames) in
    absurd (omega (arith, longer, length-append s.frames (b.frame ∷ [])))

unit_kept : (a b n : ℕ) → b ≡ a + 32 * n → a % 32 ≡ 0 → b % 32 ≡ 0
unit_kept a b n e h = omega (arith, e, h)

pub sent_all : {Looked Ended : Type 0} (grown : List Placed → List Placed → Type 0) (i : Identity) (limit : ℕ) (old : Source) (h : Handler) (o : Outgoing) (mid : Source) (k : Handler) (p : Packing) (n : Outgoing) (new : Source) (k' : Handler) (p' : Packing) (n' : Outgoing)
    → ((x y z : List Placed) → grown x y → grown y z → grown x z) → ((x y : List Placed) → grown x y → (f : Placed) → Among f x → Among f y) → (Ended → Looked) → o.mtu ≡ i.geometry.mtu → h.at % 32 ≡ 0
    → Sent grown i limit old h o mid k p n → FrameStays Ended grown i limit mid k p n new k' p' n' → SendsNew Looked grown i limit old h o new k' n'
sent_all grown i limit old h o mid k p n new k' p' n' on keeps looks size unit s g =
    let more = keeps mid.frames new.frames g.reads.grows in
    let stood : k.at ≡ k'.at = sym (ap (λ (x : Handler). x.at) g.handler) in
    let span = chain_span h.at k.at s.frames s.read.chain in
    record {
      fresh = grouped i.geometry s.frames;
      gives = gives_new grown i limit old h o mid k p n new more s g.stops;
      looked = λ all. looks (looked_new grown i limit old h o mid k p n new more s g.stops all);
      handler = g.handler ∙ s.handler ∙ ap (all_noted h) (sym (grouped_is i.geometry s.frames));
      reads = subst (λ (to : ℕ). ReadsTo grown old to new) stood (reads_on grown old k.at mid k.at new on s.reads g.reads);
      out = g.out ∙ packed_out i 16 p o n s.frames size s.packs;
      few = few i o p n s.frames s.packs;
      there = subst (AreThere new.frames) (sym g.handler) (there_in_more mid.frames new.frames k more s.there);
      unit = omega (arith, unit_kept h.at k.at span.0 span.1 unit, stood);
    }
