-- The keeper cleans, while the room of its open frames is at home.
use Rattle.std.proofs.Common.{◌≡◌, ℕ, suc, ◌+◌, ◌-◌, ◌*◌, ◌≤◌, max, List, [], length, sym, ap, ◌∙◌, subst, arith}
use Rattle.region.specs.Identity as regions
use Rattle.publication.specs.declared.pass.FrameWords.{FrameWords}
use Rattle.publication.specs.declared.pass.Pass.{Pass}
use Rattle.publication.specs.Steps.{term_of}
use Rattle.region.specs.declared.access.Access.{Access}
use Rattle.log_rule.specs.declared.claims.view.View.{View}
use Rattle.log_rule.specs.Keepings.{least_there, with_keeping}
use Rattle.log_memory.specs.declared.view.LogView.{LogView}
use Rattle.log_memory.specs.declared.view.Part.{Part}
use Rattle.log_memory.specs.declared.view.Room.{Room}
use Rattle.log_memory.specs.declared.view.Site.{Site}
use Rattle.log_memory.specs.Frames.{FreesTo, MayFreeTo}
use Rattle.log_memory.specs.Open.{HoldsOpen, HoldsRooms}
use Rattle.log_memory.specs.Parking.{Fetches, Parks}
use Rattle.log_memory.specs.Steps.{AreApart, CleansTo, IsIdle, Mine}
use Rattle.log_memory.specs.Steps as memory
use Rattle.shared_log.specs.Steps.Keepers.{MayCleanTo}
use Rattle.shared_log.specs.Steps.Rests.{IsResting}
use Rattle.shared_log.proofs.Resting.{rested}

module _ (t : Site) (region : regions.Identity) (m m1 m2 m3 m4 : Mine) (rest : IsResting region m) (same : m.0.view.pass.identity ≡ t.key.identity) (here : region ≡ t.region.identity) (position freed : ℕ) (may : MayCleanTo m.0.view.pass position) (p : Parks m m1) where
  passes : m1.0.view.pass ≡ m.0.view.pass
  passes = ap (λ (v : LogView). v.view.pass) p.view

  pub may_free : MayFreeTo position m1
  may_free = record {
    keeper = ap (λ (v : Pass). v.keeping.right) passes ∙ may.keeper;
    idle = ap (λ (v : LogView). v.room.out) p.view ∙ rest.none_out;
    below = subst (λ (v : Pass). position ≤ max v.start (least_there v.keeping.there v.keeping.positions - term_of v)) (sym passes) may.below;
    empty = p.carried;
  }

  module _ (f : FreesTo t.key.identity position freed m1 m2) where
    pass_two : m2.0.view.pass ≡ m.0.view.pass
    pass_two = ap (λ (v : View). v.pass) f.rests ∙ passes

    parked_two : m2.0.parked ≡ m.0.view.pass.work.drafts
    parked_two = f.parked ∙ ap (λ (v : LogView). v.parked) p.view

    pub idle_two : m2.0.part.has ≡ 0
    idle_two = ap (λ (x : Part). x.has) f.part ∙ ap (λ (v : LogView). v.part.has) p.view ∙ rest.idle.0

    pub apart_two : AreApart m2.0.parked
    apart_two = subst AreApart (sym parked_two) rest.apart

    module _ (g : Fetches t m2 m3) where
      pass_three : m3.0.view.pass ≡ m.0.view.pass
      pass_three = ap (λ (v : LogView). v.view.pass) g.view ∙ pass_two

      pub idle_three : IsIdle m3.0
      idle_three = (ap (λ (v : LogView). v.part.has) g.view ∙ idle_two, ap (λ (v : LogView). v.parked) g.view)

      room_three : m3.0.room ≡ record { freed = freed; out = 0 }
      room_three = ap (λ (v : LogView). v.room) g.view ∙ f.room

      pub may_three : memory.MayCleanTo position m3.0
      may_three = subst (λ (x : Pass × ℕ). memory.MayCleanTo position (record m3.0 { view = record m3.0.view { pass = x.0 }; room = record m3.0.room { freed = x.1 } })) (λ j. (sym pass_three j, sym (ap (λ (x : Room). x.freed) room_three) j)) record {
        keeper = may.keeper;
        from = may.further;
        unit = may.unit;
        below = may.below;
        freed = f.reached;
      }

      holds_three : HoldsOpen t m3
      holds_three = subst (λ (x : List FrameWords × List (ℕ × Access)). HoldsRooms t x.0 x.1 m3.1) (λ j. ((parked_two ∙ sym (ap (λ (v : Pass). v.work.drafts) pass_three)) j, f.carried j)) g.rooms

      module _ (c : CleansTo position m3 m4) where
        pub pass_four : m4.0.view.pass ≡ with_keeping m.0.view.pass (record m.0.view.pass.keeping { cleaned = position })
        pass_four = c.pass ∙ ap (λ (v : Pass). with_keeping v (record v.keeping { cleaned = position })) pass_three

        pub steps_four : m4.0.view.steps ≡ m.0.view.steps + (2 * length f.frames + 3)
        steps_four = c.steps ∙ ap (λ (v : LogView). suc v.view.steps) g.view ∙ ap (λ (v : View). suc (suc v.steps)) f.rests ∙ ap (λ (v : LogView). suc (suc (v.view.steps + 2 * length f.frames))) p.view ∙ count m.0.view.steps (length f.frames)
          where
            count : (n k : ℕ) → suc (suc (suc n + 2 * k)) ≡ n + (2 * k + 3)
            count n k = omega arith

        pub sure_four : m4.0.view.sure ≡ m.0.view.sure
        sure_four = c.learns.sure ∙ ap (λ (v : LogView). v.view.sure) g.view ∙ ap (λ (v : View). v.sure) f.rests ∙ ap (λ (v : LogView). v.view.sure) p.view

        controls_three : m3.0.view.controls ≡ m.0.view.controls
        controls_three = ap (λ (v : LogView). v.view.controls) g.view ∙ ap (λ (v : View). v.controls) f.rests ∙ ap (λ (v : LogView). v.view.controls) p.view

        pub controls_four : m.0.view.sure ≡ 1 → m4.0.view.controls ≡ m.0.view.controls
        controls_four one = c.learns.leads (ap (λ (v : LogView). v.view.sure) g.view ∙ ap (λ (v : View). v.sure) f.rests ∙ ap (λ (v : LogView). v.view.sure) p.view ∙ one) ∙ controls_three

        pub freed_four : m4.0.room.freed ≡ freed
        freed_four = ap (λ (x : Room). x.freed) (c.room ∙ room_three)

        pub rests_four : IsResting region m4
        rests_four =
            let drafts : m4.0.view.pass.work.drafts ≡ m3.0.view.pass.work.drafts = ap (λ (v : Pass). v.work.drafts) (pass_four ∙ sym (ap (λ (v : Pass). with_keeping v (record v.keeping { cleaned = position })) pass_three)) in
            rested t region m4 (ap (λ (v : Pass). v.identity) pass_four ∙ same) here (ap (λ (x : Part). x.has) c.part ∙ idle_three.0, c.parked ∙ idle_three.1) (ap (λ (x : Room). x.out) (c.room ∙ room_three))
            (subst (λ (x : List FrameWords × List (ℕ × Access)). HoldsRooms t x.0 [] x.1) (λ j. (sym drafts j, sym c.carried j)) holds_three)
            (subst AreApart (sym (ap (λ (v : Pass). v.work.drafts) pass_four)) rest.apart)
