-- Frames of a range given out again.
use Rattle.std.proofs.Common.{◌≡◌, ◌⊎◌, ℕ, ◌+◌, ◌-◌, ◌<◌, ◌≤◌, ⊎_elim, inl, inr, true, false, List, [], ◌∷◌, ◌++◌, length, Some, refl, sym, ap, ◌∙◌, subst, arith}
use Rattle.std.specs.List.{AllByRecursion}
use Rattle.std.proofs.lemmas.List.{take_all}
use Rattle.theory.specs.Position.{aligned}
use Rattle.theory.specs.Placed.{Among, Placed, end_of}
use Rattle.theory.specs.Bytes.{Identity}
use Rattle.theory.specs.Gap.{Gap}
use Rattle.theory.specs.Datagrams.{grouped, resend_datagrams}
use Rattle.theory.proofs.Follow.{chain_le}
use Rattle.theory.proofs.Grouping.{grouped_is}
use Rattle.theory.proofs.Lists.{all_pushed}
use Rattle.position.specs.declared.head.FrameHead.{FrameHead}
use Rattle.frame_source.specs.Sources.{MayReread, ReadsAt, Rereads, Source}
use Rattle.sender.specs.Cycling.{AreRead}
use Rattle.sender.specs.Giving.{CanBeReread, SendsAgain}
use Rattle.frames.specs.Outgoing.{Outgoing}
use Rattle.sender.specs.Packed.{HasPacked, Packs, Puts, placed_in}
use Rattle.sender.specs.Sending.{LeadsOn}
use Rattle.sender.specs.declared.packing.Packing.{Packing}
use Rattle.sender.proofs.FreshLemmas.{end_shown, packed_out, packs_none, read_more, shown_is}

-- the frames that went out so far, and what is next
pub record Resent (i : Identity) (s : Source) (range : Gap) (o : Outgoing) (at : ℕ) (p : Packing) (n : Outgoing) : Type 0 where
  pub can : CanBeReread s range
  pub frames : List Placed
  pub read : AreRead s.frames range.start at frames
  pub within : AllByRecursion (λ f. f.at < range.start + range.length) frames
  pub packs : Packs i 15 o.datagrams p n frames
  pub next : (at ≡ s.position) ⊎ Among at can.starts

pub resent_none : (i : Identity) (s : Source) (range : Gap) (o : Outgoing) (p : Packing) → CanBeReread s range → p ≡ record { left = 15; term = 0; size = 0; takes_more = false } → o.mtu ≡ i.geometry.mtu → Resent i s range o range.start p o
resent_none i s range o p can e size = record {
  can = can;
  frames = [];
  read = record { chain = refl; among = tt };
  within = tt;
  packs = packs_none i 15 p o e size;
  next = inr can.first;
}

pub resent_from : (i : Identity) (s : Source) (range : Gap) (o : Outgoing) (at : ℕ) (p : Packing) (n : Outgoing) → Resent i s range o at p n → range.start ≤ at
resent_from i s range o at p n r = chain_le range.start at r.frames r.read.chain

pub is_below : (i : Identity) (s : Source) (range : Gap) (o : Outgoing) (at : ℕ) (p : Packing) (n : Outgoing) → Resent i s range o at p n → at - range.start < range.length → at < range.start + range.length
is_below i s range o at p n r h = omega (arith, resent_from i s range o at p n r, h)

pub is_behind : (i : Identity) (s : Source) (range : Gap) (o : Outgoing) (at : ℕ) (p : Packing) (n : Outgoing) → Resent i s range o at p n → range.length ≤ at - range.start → range.start + range.length ≤ at
is_behind i s range o at p n r h = omega (arith, resent_from i s range o at p n r, h)

-- what holds of the frame that was reread, by the source at the start
pub reread_at : (s t : Source) (at : ℕ) (head : FrameHead) (before : List ℕ) (u : Source) (after : List ℕ) → t ≡ s → Rereads t at head before u after → ReadsAt s.identity.geometry s.frames at head before after
reread_at s t at head before u after same r = subst (λ (x : Source). ReadsAt x.identity.geometry x.frames at head before after) same r.read

pub resent_has_packed : (i : Identity) (s : Source) (range : Gap) (o : Outgoing) (at : ℕ) (p : Packing) (n : Outgoing) → length o.datagrams + 15 ≤ 32 → Resent i s range o at p n → HasPacked i p n
resent_has_packed i s range o at p n room r = record { most = 15; before = o.datagrams; frames = r.frames; packs = r.packs; room = room }

-- below the end of the range the next frame is known
leads_on : (i : Identity) (s : Source) (range : Gap) (o : Outgoing) (at : ℕ) (p : Packing) (n : Outgoing) → at < range.start + range.length → (r : Resent i s range o at p n) → LeadsOn s.identity.geometry.term_length s.frames r.can.starts s.position at
leads_on i s range o at p n below r = ⊎_elim (λ (e : at ≡ s.position). absurd (omega (arith, below, e, r.can.passed))) (λ (a : Among at r.can.starts). r.can.there at a) r.next

pub may_reread : (i : Identity) (s : Source) (range : Gap) (o : Outgoing) (at : ℕ) (p : Packing) (n : Outgoing) → at < range.start + range.length → Resent i s range o at p n → MayReread s at
may_reread i s range o at p n below r =
    let l = leads_on i s range o at p n below r in
    record {
      frame = l.frame.frame;
      among = subst (λ (a : ℕ). Among (record { at = a; frame = l.frame.frame }) s.frames) l.here l.among;
      passed = omega (arith, l.below, l.here);
      near = l.near;
    }

pub resent_more : (i : Identity) (s : Source) (range : Gap) (o : Outgoing) (at to : ℕ) (p q : Packing) (n m : Outgoing) (head : FrameHead) (before after : List ℕ) → at < range.start + range.length → Resent i s range o at p n
    → ReadsAt s.identity.geometry s.frames at head before after → Puts i p n (placed_in head after) true q m → to ≡ head.start + aligned head.frame_length → Resent i s range o to q m
resent_more i s range o at to p q n m head before after below r a puts e =
    let f : Placed = record { at = at; frame = a.frame } in
    let l = leads_on i s range o at p n below r in
    let same : l.frame ≡ f = a.only l.frame l.among l.here in
    let end : to ≡ end_of f = e ∙ end_shown s.identity.geometry s.frames at head before after a in
    let read : AreRead s.frames range.start (end_of f) (r.frames ++ f ∷ []) = read_more s.frames s.frames range.start at r.frames f (λ x h. h) r.read a.among refl in
    let on : (end_of f ≡ s.position) ⊎ Among (end_of f) r.can.starts = subst (λ (x : Placed). (end_of x ≡ s.position) ⊎ Among (end_of x) r.can.starts) same l.on in
    record {
      can = r.can;
      frames = r.frames ++ f ∷ [];
      read = subst (λ (x : ℕ). AreRead s.frames range.start x (r.frames ++ f ∷ [])) (sym end) read;
      within = all_pushed (λ x. x.at < range.start + range.length) r.frames f r.within below;
      packs = subst (λ (x : Placed). Packs i 15 o.datagrams q m (r.frames ++ x ∷ [])) (shown_is s.identity.geometry s.frames at head before after a) (puts 15 o.datagrams r.frames r.packs);
      next = subst (λ (x : ℕ). (x ≡ s.position) ⊎ Among x r.can.starts) (sym end) on;
    }

few : (i : Identity) (o : Outgoing) (p : Packing) (n : Outgoing) (frames : List Placed) → Packs i 15 o.datagrams p n frames → length (grouped i.geometry frames) ≤ 15
few i o p n frames packs = omega (arith, packs.left)

-- behind the range
pub resent_all : (i : Identity) (s : Source) (range : Gap) (o : Outgoing) (at : ℕ) (p : Packing) (n : Outgoing) → o.mtu ≡ i.geometry.mtu → range.start + range.length ≤ at → Resent i s range o at p n → SendsAgain i s.frames (Some range) o n
resent_all i s range o at p n size behind r = record {
  again = grouped i.geometry r.frames;
  gives = record {
    reads = r.frames;
    to = at;
    read = r.read;
    within = r.within;
    sent_is = sym (take_all 15 (grouped i.geometry r.frames) (few i o p n r.frames r.packs));
    ends = inl (sym (grouped_is i.geometry r.frames), behind);
  };
  out = packed_out i 15 p o n r.frames size r.packs;
}

-- or where the next has no place
pub resent_full : (i : Identity) (s : Source) (range : Gap) (o : Outgoing) (at : ℕ) (p q : Packing) (n m : Outgoing) (head : FrameHead) (before after : List ℕ) → o.mtu ≡ i.geometry.mtu → at < range.start + range.length → Resent i s range o at p n
    → ReadsAt s.identity.geometry s.frames at head before after → Puts i p n (placed_in head after) false q m → SendsAgain i s.frames (Some range) o m
resent_full i s range o at p q n m head before after size below r a puts =
    let f : Placed = record { at = at; frame = a.frame } in
    let shows = shown_is s.identity.geometry s.frames at head before after a in
    record {
      again = grouped i.geometry r.frames;
      gives = record {
        reads = r.frames ++ f ∷ [];
        to = end_of f;
        read = read_more s.frames s.frames range.start at r.frames f (λ x h. h) r.read a.among refl;
        within = all_pushed (λ x. x.at < range.start + range.length) r.frames f r.within below;
        sent_is = sym (subst (λ (x : Placed). resend_datagrams i.geometry (r.frames ++ x ∷ []) ≡ grouped i.geometry r.frames) shows (puts.2 15 o.datagrams r.frames r.packs));
        ends = inr (f, ap (λ (x : List Placed). x ++ f ∷ []) (sym (grouped_is i.geometry r.frames)));
      };
      out = puts.1 ∙ packed_out i 15 p o n r.frames size r.packs;
    }
