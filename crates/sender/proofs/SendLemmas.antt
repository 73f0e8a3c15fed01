-- A sender that gives out new frames one after the other: what holds of it at each turn, and when it ends.
use Rattle.std.proofs.Common.{◌≡◌, ℕ, ◌+◌, ◌%◌, ◌≤◌, false, List, [], length, refl, ap, ◌∙◌, subst, arith}
use Rattle.theory.specs.Placed.{Among, Placed}
use Rattle.theory.specs.Bytes.{Identity}
use Rattle.theory.proofs.Follow.{chain_span}
use Rattle.position.specs.declared.head.FrameHead.{FrameHead}
use Rattle.position.specs.Heads.{IsStreamFrame}
use Rattle.frame_source.specs.Sources.{ReadsNext, Source}
use Rattle.sender.specs.Resending.Handler.{Handler}
use Rattle.sender.specs.Giving.{SendsNew}
use Rattle.frames.specs.Outgoing.{Outgoing}
use Rattle.sender.specs.Packed.{HasPacked}
use Rattle.sender.specs.Sending.{ReadsTo, Sending, SendsFrom}
use Rattle.sender.specs.declared.packing.Packing.{Packing}
use Rattle.sender.proofs.FreshLemmas.{FrameGoes, FrameStays, Sent, packs_none, sent_all, sent_more}
use Rattle.sender.proofs.StartLemmas.{there_in_more}

-- the sender s, which gave out frames so far, is t now; the block holds any payload, and datagrams have room
pub record SendsOn {R F : Type 0} (grown : List Placed → List Placed → Type 0) (limit : ℕ) (old : Source) (s : Sending R F) (o : Outgoing) (mid : Source) (t : Sending R F) (block : List ℕ) (p : Packing) (n : Outgoing) : Type 0 where
  pub sent : Sent grown t.identity limit old s.handler o mid t.handler p n
  pub state : t ≡ record s { reads = t.reads; handler = t.handler }
  pub same : old.identity ≡ t.identity
  pub unit : s.handler.at % 32 ≡ 0
  pub payload : t.identity.geometry.mtu ≤ length block
  pub size : o.mtu ≡ t.identity.geometry.mtu
  pub room : length o.datagrams + 16 ≤ 32

pub sends_none : {R F : Type 0} (grown : List Placed → List Placed → Type 0) (limit : ℕ) (old : Source) (s : Sending R F) (o : Outgoing) (block : List ℕ) (p : Packing) → ((frames : List Placed) → grown frames frames) → SendsFrom s old → s.identity.geometry.mtu ≤ length block → s.handler.geometry ≡ s.identity.geometry → s.handler.at % 32 ≡ 0
    → o.mtu ≡ s.identity.geometry.mtu → length o.datagrams + 16 ≤ 32 → p ≡ record { left = 16; term = 0; size = 0; takes_more = false } → SendsOn grown limit old s o old s block p o
sends_none grown limit old s o block p same from payload stream unit size room new = record {
  sent = record {
    frames = [];
    read = record { chain = refl; among = tt };
    allowed = tt;
    handler = refl;
    reads = record { grows = same old.frames; moved = ap (λ (n : ℕ). record old { position = n }) from.position };
    packs = packs_none s.identity 16 p o new size;
    there = from.near;
    stream = stream;
  };
  state = refl;
  same = from.identity;
  unit = unit;
  payload = payload;
  size = size;
  room = room;
}

pub sends_more : {R F : Type 0} (grown : List Placed → List Placed → Type 0) (limit : ℕ) (old : Source) (s : Sending R F) (o : Outgoing) (mid : Source) (t : Sending R F) (block : List ℕ) (p : Packing) (n : Outgoing) (new : Source) (reads : R) (k : Handler) (block' : List ℕ) (p' : Packing) (n' : Outgoing)
    → ((x y z : List Placed) → grown x y → grown y z → grown x z) → ((x y : List Placed) → grown x y → (f : Placed) → Among f x → Among f y)
    → SendsOn grown limit old s o mid t block p n → length block' ≡ length block → FrameGoes grown t.identity limit mid t.handler p n new k p' n' → SendsOn grown limit old s o new (record t { reads = reads; handler = k }) block' p' n'
sends_more {R = R} {F = F} grown limit old s o mid t block p n new reads k block' p' n' on keeps v long goes = record {
  sent = sent_more grown t.identity limit old s.handler o mid t.handler p n new k p' n' on keeps v.sent goes;
  state = ap (λ (x : Sending R F). record x { reads = reads; handler = k }) v.state;
  same = v.same;
  unit = v.unit;
  payload = omega (arith, v.payload, long);
  size = v.size;
  room = v.room;
}

module _ {R F : Type 0} (grown : List Placed → List Placed → Type 0) (limit : ℕ) (old : Source) (s : Sending R F) (o : Outgoing) (mid : Source) (t : Sending R F) (block : List ℕ) (p : Packing) (n : Outgoing) (v : SendsOn grown limit old s o mid t block p n) where
  -- the reads stand where the sender does, in its stream
  pub from_here : mid.position ≡ t.handler.at
  from_here = ap (λ (x : Source). x.position) v.sent.reads.moved

  pub same_stream : mid.identity ≡ t.identity
  same_stream = ap (λ (x : Source). x.identity) v.sent.reads.moved ∙ v.same

  pub legal_here : (head : FrameHead) (before : List ℕ) (new : Source) (after : List ℕ) → ReadsNext grown mid head before new after → IsStreamFrame t.identity.geometry head
  legal_here head before new after r = subst (λ (i : Identity). IsStreamFrame i.geometry head) same_stream r.read.legal

  pub has_packed : HasPacked t.identity p n
  has_packed = record { most = 16; before = o.datagrams; frames = v.sent.frames; packs = v.sent.packs; room = v.room }

  -- it stands at a unit of its stream
  pub unit_here : t.handler.at % 32 ≡ 0
  unit_here =
      let span = chain_span s.handler.at t.handler.at v.sent.frames v.sent.read.chain in
      omega (arith, v.unit, span.1)

  -- it ends here
  pub sends_new : {Looked Ended : Type 0} (reached : ℕ) (new : Source) (k : Handler) (p' : Packing) (n' : Outgoing)
      → ((x y z : List Placed) → grown x y → grown y z → grown x z) → ((x y : List Placed) → grown x y → (f : Placed) → Among f x → Among f y) → (Ended → Looked) → limit ≡ reached
      → FrameStays Ended grown t.identity limit mid t.handler p n new k p' n' → SendsNew Looked grown s.identity reached old s.handler o new k n'
  sends_new {Looked = Looked} reached new k p' n' on keeps looks is stays =
      let all : SendsNew Looked grown t.identity limit old s.handler o new k n' = sent_all grown t.identity limit old s.handler o mid t.handler p n new k p' n' on keeps looks v.size v.unit v.sent stays in
      subst (λ (x : Sending R F). SendsNew Looked grown x.identity reached old s.handler o new k n') v.state (subst (λ (m : ℕ). SendsNew Looked grown t.identity m old s.handler o new k n') is all)

  pub sends_from : (new : Source) (reads : R) → ((x y : List Placed) → grown x y → (f : Placed) → Among f x → Among f y) → ReadsTo grown mid t.handler.at new → SendsFrom (record t { reads = reads }) new
  sends_from new reads keeps to = record {
    identity = ap (λ (x : Source). x.identity) to.moved ∙ same_stream;
    position = ap (λ (x : Source). x.position) to.moved;
    near = there_in_more mid.frames new.frames t.handler (keeps mid.frames new.frames to.grows) v.sent.there;
  }
