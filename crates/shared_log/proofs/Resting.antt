-- A seat between two calls carries the room of its open frames, by whichever site.
use Rattle.std.proofs.Common.{◌≡◌, ℕ, zero, suc, ◌*◌, ◌/◌, inl, inr, List, [], ◌∷◌, ◌++◌, length, refl, sym, ap, ◌∙◌, subst}
use Rattle.theory.specs.Bytes.{Identity}
use Rattle.theory.specs.Placed.{Among}
use Rattle.publication.specs.declared.pass.FrameWords.{FrameWords}
use Rattle.region.specs.Identity as regions
use Rattle.region.specs.declared.access.Access.{Access}
use Rattle.log_memory.specs.declared.view.Room.{Room}
use Rattle.log_memory.specs.declared.view.Site.{Site}
use Rattle.log_memory.specs.Open.{HoldsOpen, HoldsRooms}
use Rattle.log_memory.specs.Places.{slot_of, units}
use Rattle.log_memory.specs.Rule.{ring}
use Rattle.log_memory.specs.Steps.{AreApart, Carries, IsIdle, IsRoomAt, Mine}
use Rattle.shared_log.specs.Steps.Rests.{IsResting, site_of}

room_as : (t u : Site) → t.region.identity ≡ u.region.identity → (k : ℕ) (g : Access) → IsRoomAt t k g → IsRoomAt u k g
room_as t u e k g is first = let x = is first in record { identity = subst (λ (r : regions.Identity). g.write.identity ≡ r) e x.identity; at = x.at; zeros = x.zeros }

carries_as : (is so : ℕ → Access → Type 0) → ((k : ℕ) (g : Access) → is k g → so k g) → (k count : ℕ) (before mine : List (ℕ × Access)) → Carries is k count before mine → Carries so k count before mine
carries_as is so f k zero before mine c = c
carries_as is so f k (suc count) before mine c = (c.0, c.1, c.2, f k c.0 c.3, carries_as is so f (suc k) count before c.1 c.4)

rooms_as : (t u : Site) → ring t ≡ ring u → t.region.identity ≡ u.region.identity → (fs : List FrameWords) (before mine : List (ℕ × Access)) → HoldsRooms t fs before mine → HoldsRooms u fs before mine
rooms_as t u e r [] before mine h = h
rooms_as t u e r (f ∷ fs) before mine h =
    let n : ℕ = 8 * length f.words / 4 in
    (h.0, subst (λ (k : ℕ). Carries (IsRoomAt u) (slot_of k f.start 0) n h.0 mine) e (carries_as (IsRoomAt t) (IsRoomAt u) (room_as t u r) (slot_of (ring t) f.start 0) n h.0 mine h.1), rooms_as t u e r fs before h.0 h.2)

same_ring : (t u : Site) → t.key.identity ≡ u.key.identity → ring t ≡ ring u
same_ring t u e = ap (λ (i : Identity). units i.geometry) e

-- what a resting seat carries, by the site of its log
pub here : (t : Site) (region : regions.Identity) (m : Mine) → m.0.view.pass.identity ≡ t.key.identity → region ≡ t.region.identity → IsResting region m → HoldsOpen t m
here t region m e r h = let u = site_of region m.0.view.pass in rooms_as u t (same_ring u t e) r m.0.view.pass.work.drafts [] m.1 h.holds

-- and back
pub rested : (t : Site) (region : regions.Identity) (m : Mine) → m.0.view.pass.identity ≡ t.key.identity → region ≡ t.region.identity → IsIdle m.0 → m.0.room.out ≡ 0 → HoldsOpen t m → AreApart m.0.view.pass.work.drafts → IsResting region m
rested t region m e r idle out h apart = let u = site_of region m.0.view.pass in record { idle = idle; none_out = out; holds = rooms_as t u (same_ring t u (sym e)) (sym r) m.0.view.pass.work.drafts [] m.1 h; apart = apart }

-- ---- frames that begin apart

among_less : (g f : FrameWords) (front others : List FrameWords) → Among g (front ++ others) → Among g (front ++ f ∷ others)
among_less g f [] others a = inr a
among_less g f (h ∷ front) others (inl e) = inl e
among_less g f (h ∷ front) others (inr a) = inr (among_less g f front others a)

pub apart_less : (front : List FrameWords) (f : FrameWords) (others : List FrameWords) → AreApart (front ++ f ∷ others) → AreApart (front ++ others)
apart_less [] f others a = a.1
apart_less (h ∷ front) f others a = (λ g among. a.0 g (among_less g f front others among), apart_less front f others a.1)

-- where a step moved no memory, and left the open frames as they were
pub rests_on : (region : regions.Identity) (m n : Mine) → IsResting region m → IsIdle n.0 → n.1 ≡ m.1 → n.0.room ≡ m.0.room → n.0.view.pass.work.drafts ≡ m.0.view.pass.work.drafts → n.0.view.pass.identity ≡ m.0.view.pass.identity → IsResting region n
rests_on region m n r idle carried room drafts identity =
    let t = site_of region m.0.view.pass in let u = site_of region n.0.view.pass in let v = m.0.view.pass.work.drafts in
    let holds : HoldsRooms u v [] m.1 = rooms_as t u (same_ring t u (sym identity)) refl v [] m.1 r.holds in record {
      idle = idle;
      none_out = ap (λ (x : Room). x.out) room ∙ r.none_out;
      holds = subst (λ (x : List FrameWords × List (ℕ × Access)). HoldsRooms u x.0 [] x.1) (λ j. (sym drafts j, sym carried j)) holds;
      apart = subst AreApart (sym drafts) r.apart;
    }
