-- The next new frame: none is there, it may not go, or it goes.
use Rattle.std.proofs.Common.{◌≡◌, ℕ, ◌+◌, ◌<◌, ◌≤◌, inl, inr, true, false, List, refl, sym, ap, ◌∙◌, subst, arith}
use Rattle.theory.specs.Position.{aligned}
use Rattle.theory.specs.Placed.{Among, Frame, Placed, end_of}
use Rattle.theory.specs.Bytes.{Identity}
use Rattle.theory.specs.Datagrams.{sent_end}
use Rattle.position.specs.declared.head.FrameHead.{FrameHead}
use Rattle.position.specs.Heads.{IsStreamFrame, head_of}
use Rattle.position.proofs.Heads.{start_in}
use Rattle.frame_source.specs.Sources.{FindsNone, HasFrame, HasNone, Passes, ReadsNext, Source}
use Rattle.sender.specs.Resending.Handler.{Handler, after_note}
use Rattle.frames.specs.Outgoing.{Outgoing}
use Rattle.sender.specs.Packed.{Puts, placed_in}
use Rattle.sender.specs.Sending.{ReadsTo}
use Rattle.sender.specs.declared.packing.Packing.{Packing}
use Rattle.sender.proofs.FreshLemmas.{FrameGoes, FrameStays, end_shown, shown_is}

-- the reader stays where none was found
pub none_to : (grown : List Placed → List Placed → Type 0) (s : Source) (at : ℕ) (t : Source) (before after : List ℕ) → ((frames : List Placed) → grown frames frames) → s.position ≡ at → FindsNone s before t after → ReadsTo grown s at t
none_to grown s at t before after same from none =
    let stays : ReadsTo grown s at s = record { grows = same s.frames; moved = ap (λ (n : ℕ). record s { position = n }) from } in
    subst (ReadsTo grown s at) (sym none.same) stays

-- and where one was read
pub read_to : (grown : List Placed → List Placed → Type 0) (s : Source) (at : ℕ) (head : FrameHead) (before : List ℕ) (t : Source) (after : List ℕ) → s.position ≡ at → ReadsNext grown s head before t after → ReadsTo grown s at t
read_to grown s at head before t after from r = record { grows = r.grows; moved = r.stays ∙ ap (λ (n : ℕ). record s { position = n; frames = t.frames }) from }

pub no_frame : {Looked : Type 0} (grown : List Placed → List Placed → Type 0) (i : Identity) (limit : ℕ) (s : Source) (h : Handler) (p : Packing) (o : Outgoing) (t : Source) (before after : List ℕ) → ((frames : List Placed) → grown frames frames) → s.position ≡ h.at → FindsNone s before t after → Looked → FrameStays Looked grown i limit s h p o t h p o
no_frame grown i limit s h p o t before after same from none looked = record {
  handler = refl;
  packing = refl;
  out = refl;
  reads = none_to grown s h.at t before after same from none;
  stops = inl (subst (λ (x : Source). HasNone x h.at) (sym none.same) (λ f among e. none.none f among (e ∙ sym from)), looked);
}

-- where what goes out of this head's frame ends
abbrev IsSentTo : FrameHead → ℕ → Type 0
IsSentTo head to = (at : ℕ) (frame : Frame) → head ≡ head_of at frame → to ≡ sent_end (record { at = at; frame = frame }) frame

pub ends_above : {Looked : Type 0} (grown : List Placed → List Placed → Type 0) (i : Identity) (limit to : ℕ) (s : Source) (h : Handler) (p : Packing) (o : Outgoing) (head : FrameHead) (before : List ℕ) (t : Source) (after : List ℕ) → s.position ≡ h.at → ReadsNext grown s head before t after → IsSentTo head to → limit < to → FrameStays Looked grown i limit s h p o t h p o
ends_above grown i limit to s h p o head before t after from r sent above =
    let f : Placed = record { at = s.position; frame = r.read.frame } in
    let end : to ≡ sent_end f f.frame = sent s.position r.read.frame r.read.shown in
    record {
      handler = refl;
      packing = refl;
      out = refl;
      reads = read_to grown s h.at head before t after from r;
      stops = inr (record { frame = f; among = r.read.among; here = from; barred = inl (omega (arith, above, end)) });
    }

pub has_no_room : {Looked : Type 0} (grown : List Placed → List Placed → Type 0) (i : Identity) (limit to : ℕ) (s : Source) (h : Handler) (p : Packing) (o : Outgoing) (head : FrameHead) (before : List ℕ) (t : Source) (after : List ℕ) (q : Packing) (n : Outgoing) → s.position ≡ h.at → ReadsNext grown s head before t after → IsSentTo head to → to ≤ limit → Puts i p o (placed_in head after) false q n → FrameStays Looked grown i limit s h p o t h q n
has_no_room grown i limit to s h p o head before t after q n from r sent below puts =
    let f : Placed = record { at = s.position; frame = r.read.frame } in
    let end : to ≡ sent_end f f.frame = sent s.position r.read.frame r.read.shown in
    let full : Puts i p o (placed_in head after) false p o = (refl, refl, puts.2) in
    record {
      handler = refl;
      packing = puts.0;
      out = puts.1;
      reads = read_to grown s h.at head before t after from r;
      stops = inr (record {
        frame = f;
        among = r.read.among;
        here = from;
        barred = inr (omega (arith, below, end), subst (λ (x : Placed). Puts i p o x false p o) (shown_is s.identity.geometry t.frames s.position head before after r.read) full);
      });
    }

-- the frame that was read may be passed, and ends there
pub read_here : (grown : List Placed → List Placed → Type 0) (s t : Source) (head : FrameHead) (before after : List ℕ) → ReadsNext grown s head before t after → HasFrame t t.position
read_here grown s t head before after r = subst (HasFrame t) (sym (ap (λ (x : Source). x.position) r.stays)) (record { frame = r.read.frame; among = r.read.among })

pub passed_end : (grown : List Placed → List Placed → Type 0) (s t u : Source) (end : ℕ) (head : FrameHead) (before after : List ℕ) → ReadsNext grown s head before t after → Passes t end u → end ≡ head.start + aligned head.frame_length
passed_end grown s t u end head before after r q =
    q.behind (record { at = s.position; frame = r.read.frame }) r.read.among (sym (ap (λ (x : Source). x.position) r.stays))
    ∙ sym (end_shown s.identity.geometry t.frames s.position head before after r.read)

pub start_read : (grown : List Placed → List Placed → Type 0) (s t : Source) (head : FrameHead) (before after : List ℕ) → ReadsNext grown s head before t after → head.start ≡ s.position
start_read grown s t head before after r = ap (λ (x : FrameHead). x.start) r.read.shown ∙ start_in s.position r.read.frame

pub goes : (grown : List Placed → List Placed → Type 0) (i : Identity) (limit to end : ℕ) (s : Source) (h : Handler) (p : Packing) (o : Outgoing) (head : FrameHead) (before : List ℕ) (t : Source) (after : List ℕ) (u : Source) (k : Handler) (q : Packing) (n : Outgoing) → s.identity ≡ i → s.position ≡ h.at → ReadsNext grown s head before t after → IsSentTo head to → to ≤ limit → Puts i p o (placed_in head after) true q n → Passes t end u → k ≡ after_note h head.start end → FrameGoes grown i limit s h p o u k q n
goes grown i limit to end s h p o head before t after u k q n same from r sent below puts passes note =
    let f : Placed = record { at = s.position; frame = r.read.frame } in
    let sent_to : to ≡ sent_end f f.frame = sent s.position r.read.frame r.read.shown in
    let start = start_read grown s t head before after r in
    let far = passed_end grown s t u end head before after r passes in
    let ends : end ≡ end_of f = far ∙ end_shown s.identity.geometry t.frames s.position head before after r.read in
    let at : k.at ≡ end = ap (λ (x : Handler). x.at) note in
    let frames : u.frames ≡ t.frames = ap (λ (x : Source). x.frames) passes.moved in
    let legal : IsStreamFrame i.geometry head = subst (λ (j : Identity). IsStreamFrame j.geometry head) same r.read.legal in
    record {
      frame = f;
      among = subst (Among f) (sym frames) r.read.among;
      here = from;
      allowed = omega (arith, below, sent_to);
      handler = note ∙ ap (λ (x : ℕ). after_note h x end) start ∙ ap (λ (x : ℕ). after_note h s.position x) ends;
      reads = record {
        grows = subst (grown s.frames) (sym frames) r.grows;
        moved =
            passes.moved
            ∙ ap (λ (x : Source). record x { position = end }) r.stays
            ∙ ap (λ (x : ℕ). record s { position = x; frames = t.frames }) (sym at)
            ∙ ap (λ (x : List Placed). record s { position = k.at; frames = x }) (sym frames);
      };
      put = subst (λ (x : Placed). Puts i p o x true q n) (shown_is s.identity.geometry t.frames s.position head before after r.read) puts;
      further = omega (arith, at, far, start, from, legal.long);
      in_stream = omega (arith, at, far, legal.in_stream);
    }
