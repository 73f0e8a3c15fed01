use Rattle.std.proofs.Common.{◌≡◌, ℕ, suc, ◌*◌, ◌/◌, ◌<◌, List, [], ◌∷◌, ◌++◌, drop, length, replicate, sym, ap, ◌∙◌, subst, arith}
use Rattle.std.proofs.lemmas.List.{length-replicate}
use Rattle.theory.specs.Position.{aligned}
use Rattle.publication.specs.declared.pass.FrameWords.{FrameWords}
use Rattle.publication.specs.declared.pass.Pass.{Pass}
use Rattle.publication.specs.Steps.{blank, frame, with_work}
use Rattle.region.specs.declared.access.Access.{Access}
use Rattle.log_rule.specs.Claims.Sure.{LearnsControls}
use Rattle.log_memory.specs.declared.drafts.Draft.{Draft}
use Rattle.log_memory.specs.declared.view.LogView.{LogView}
use Rattle.log_memory.specs.declared.view.Site.{Site}
use Rattle.log_memory.specs.Drafts.{IsParted, MayStore, StoresFrame, behind_of, words_of}
use Rattle.log_memory.specs.Open.{HoldsOpen, HoldsRooms, IsOneOpen, IsOpenDraft, front_of, others_of, slots_in}
use Rattle.log_memory.specs.Order.{rotated}
use Rattle.log_memory.specs.Places.{slot_of}
use Rattle.log_memory.specs.Rule.{ring}
use Rattle.log_memory.specs.Steps.{CarriesRange, IsPartAt, IsRoomAt, Mine}
use Rattle.log_memory.proofs.Frees.{carries_drop}
use Rattle.log_memory.proofs.OpenRooms.{holds_turned, picked}
use Rattle.log_memory.proofs.open_frames.commit_open.Goals as goal

-- those before it and those behind it are the picked ones
opened : (t : Site) (d : Draft) (m : Mine) → IsOneOpen t d m → (front others : List FrameWords) → front ≡ front_of d.start m.0.view.pass.work.drafts → others ≡ others_of d.start m.0.view.pass.work.drafts → IsOpenDraft t d front others m
opened t d m o front others a b =
    let p = picked m.0.view.pass.work.drafts o.front (blank d.start o.is.cut) o.others o.apart o.is.drafts in
    subst (λ (x : List FrameWords × List FrameWords). IsOpenDraft t d x.0 x.1 m) (λ j. (sym (a ∙ p.0) j, sym (b ∙ p.1) j)) o.is

-- as it was stored and committed, over what was carried before
committed : (t : Site) (d : Draft) (m mine after : Mine) (behind : List (ℕ × Access)) → IsParted t d behind mine.1 → mine.0 ≡ m.0 → StoresFrame d (behind_of d mine.1) mine after → StoresFrame d behind m after
committed t d m mine after behind r same e = record {
  carried = e.carried ∙ carries_drop (IsPartAt t (slot_of (ring t) d.start 0) (words_of d) r.round r.book) (slot_of (ring t) d.start 0) (d.bytes / 4) behind mine.1 r.row;
  part = e.part ∙ ap (λ (v : LogView). v.part) same;
  room = e.room ∙ ap (λ (v : LogView). v.room) same;
  parked = e.parked ∙ ap (λ (v : LogView). v.parked) same;
  steps = e.steps ∙ ap (λ (v : LogView). suc v.view.steps) same;
  learns = subst (λ (v : LogView). LearnsControls [] v.view after.0.view) same e.learns;
  fills = subst (λ (v : LogView). (front : List FrameWords) (cut : ℕ) (others : List FrameWords) → 0 < cut → v.view.pass.work.drafts ≡ front ++ blank d.start cut ∷ others → after.0.view.pass ≡ with_work (v.view.pass.work.frames ++ frame d.start cut (words_of d) ∷ []) (front ++ others) v.view.pass) same e.fills;
}

-- the room of the frame is in front, where those before it went behind
shown : (t : Site) (d : Draft) (m : Mine) (front others : List FrameWords) → IsOpenDraft t d front others m → HoldsOpen t m → (rest : List (ℕ × Access)) × CarriesRange t (IsRoomAt t) d.start d.bytes rest (rotated (slots_in front) m.1) × HoldsRooms t (others ++ front) [] rest
shown t d m front others o h =
    let f : FrameWords = blank d.start o.cut in
    let r = holds_turned t front (f ∷ others) m.1 (subst (λ (fs : List FrameWords). HoldsRooms t fs [] m.1) o.drafts h) in
    (r.0, subst (λ (n : ℕ). CarriesRange t (IsRoomAt t) d.start n r.0 (rotated (slots_in front) m.1)) (whole d.bytes o.cut (length (replicate {A = ℕ} (aligned o.cut / 8) 0)) o.long (length-replicate {A = ℕ} (aligned o.cut / 8) 0)) r.1, r.2)
  where
    whole : (b c r : ℕ) → b ≡ aligned c → r ≡ aligned c / 8 → 8 * r ≡ b
    whole b c r e f = omega arith

-- what is behind it then
behind_is : (t : Site) (d : Draft) (rest mine : List (ℕ × Access)) → CarriesRange t (IsRoomAt t) d.start d.bytes rest mine → drop (d.bytes / 4) mine ≡ rest
behind_is t d rest mine c = carries_drop (IsRoomAt t) (slot_of (ring t) d.start 0) (d.bytes / 4) rest mine c

pub store_frame-home-requires-clause-row : goal.store_frame-home-requires-clause-row
store_frame-home-requires-clause-row g c =
    let t : Site = c.args.memory.now.table.shared.key in let d : Draft = c.args.draft.now in let m : Mine = c.args.seat.now.me in let front = g.N.Opened.front in let others = g.N.Opened.others in let o = opened t d m c.requires.open front others c.requires.front c.requires.others in
    let holds = shown t d m front others o c.requires.holds in
    let e : drop g.N.Opened.slots (rotated (slots_in front) g.N.Opened.carried) ≡ holds.0 = (λ j. drop (c.requires.row.1 j) (rotated (slots_in front) (c.requires.row.0 j))) ∙ behind_is t d holds.0 (rotated (slots_in front) m.1) holds.1 in
    subst (λ (x : List (ℕ × Access) × List (ℕ × Access)). CarriesRange t (IsRoomAt t) d.start d.bytes x.0 x.1) (λ j. (sym e j, sym (ap (λ (y : Mine). y.1) c.pass_chosen.ensures.2) j)) holds.1

pub commit_word-requires-clause-may : goal.commit_word-requires-clause-may
commit_word-requires-clause-may g c =
    let t : Site = c.args.memory.now.table.shared.key in let d : Draft = c.args.draft.now in let m : Mine = c.args.seat.now.me in let front = g.N.Opened.front in let others = g.N.Opened.others in let o = opened t d m c.requires.open front others c.requires.front c.requires.others in
    let same : c.store_frame-home.new.seat.me.0 ≡ m.0 = c.store_frame-home.ensures.seat.2 ∙ ap (λ (y : Mine). y.0) c.pass_chosen.ensures.2 in record {
      idle = subst (λ (v : LogView). (v.part.has ≡ 0) × (v.parked ≡ [])) (sym same) o.idle;
      front = front;
      cut = o.cut;
      others = others;
      drafts = ap (λ (v : LogView). v.view.pass.work.drafts) same ∙ o.drafts;
      long = o.long;
      done = o.done;
    }

pub commit_word-requires-clause-row : goal.commit_word-requires-clause-row
commit_word-requires-clause-row g c =
    let t : Site = c.args.memory.now.table.shared.key in let d : Draft = c.args.draft.now in let r = c.store_frame-home.ensures.row in let mine = c.store_frame-home.new.seat.me.1 in
    subst (λ (l : List (ℕ × Access)). IsParted t d l mine) (sym (carries_drop (IsPartAt t (slot_of (ring t) d.start 0) (words_of d) r.round r.book) (slot_of (ring t) d.start 0) (d.bytes / 4) (drop g.N.Opened.slots (rotated (slots_in g.N.Opened.front) g.N.Opened.carried)) mine r.row)) r

pub returns-clause-stores : goal.returns-clause-stores
returns-clause-stores g c =
    let t : Site = c.args.memory.now.table.shared.key in let d : Draft = c.args.draft.now in let m : Mine = c.args.seat.now.me in let front = g.N.Opened.front in let others = g.N.Opened.others in let o = opened t d m c.requires.open front others c.requires.front c.requires.others in
    let holds = shown t d m front others o c.requires.holds in
    let e : drop g.N.Opened.slots (rotated (slots_in front) g.N.Opened.carried) ≡ holds.0 = (λ j. drop (c.requires.row.1 j) (rotated (slots_in front) (c.requires.row.0 j))) ∙ behind_is t d holds.0 (rotated (slots_in front) m.1) holds.1 in
    let same : c.pass_chosen.new.seat.me.0 ≡ m.0 = ap (λ (y : Mine). y.0) c.pass_chosen.ensures.2 in let s = committed t d c.pass_chosen.new.seat.me c.store_frame-home.new.seat.me c.commit_word.new.seat.me (drop g.N.Opened.slots (rotated (slots_in front) g.N.Opened.carried)) c.store_frame-home.ensures.row c.store_frame-home.ensures.seat.2 c.commit_word.ensures.stores in
    let last : c.pass_chosen-2.new.seat.me ≡ (c.commit_word.new.seat.me.0, rotated (slots_in others) c.commit_word.new.seat.me.1) = c.pass_chosen-2.ensures.2 in let view = ap (λ (y : Mine). y.0) last in
    let pass : c.pass_chosen-2.new.seat.me.0.view.pass ≡ with_work (c.pass_chosen.new.seat.me.0.view.pass.work.frames ++ frame d.start o.cut (words_of d) ∷ []) (front ++ others) c.pass_chosen.new.seat.me.0.view.pass =
    ap (λ (v : LogView). v.view.pass) view ∙ s.fills front o.cut others o.some (ap (λ (v : LogView). v.view.pass.work.drafts) same ∙ o.drafts) in record {
      holds = subst (λ (x : List FrameWords × List (ℕ × Access)). HoldsRooms t x.0 [] x.1) (λ j. (sym (ap (λ (p : Pass). p.work.drafts) pass) j, sym (ap (λ (y : Mine). y.1) last ∙ ap (rotated (slots_in others)) (s.carried ∙ e)) j)) (holds_turned t others front holds.0 holds.2);
      part = ap (λ (v : LogView). v.part) view ∙ s.part ∙ ap (λ (v : LogView). v.part) same;
      room = ap (λ (v : LogView). v.room) view ∙ s.room ∙ ap (λ (v : LogView). v.room) same;
      parked = ap (λ (v : LogView). v.parked) view ∙ s.parked ∙ ap (λ (v : LogView). v.parked) same;
      steps = ap (λ (v : LogView). v.view.steps) view ∙ s.steps ∙ ap (λ (v : LogView). suc v.view.steps) same;
      learns = subst (λ (x : LogView × LogView). LearnsControls [] x.0.view x.1.view) (λ j. (same j, sym view j)) s.learns;
      fills = subst (λ (x : LogView × LogView). (front : List FrameWords) (cut : ℕ) (others : List FrameWords) → 0 < cut → x.0.view.pass.work.drafts ≡ front ++ blank d.start cut ∷ others → x.1.view.pass ≡ with_work (x.0.view.pass.work.frames ++ frame d.start cut (words_of d) ∷ []) (front ++ others) x.0.view.pass) (λ j. (same j, sym view j)) s.fills;
    }
