use Rattle.std.proofs.Common.{◌≡◌, ℕ, ◌-◌, ◌*◌, ◌/◌, ◌≤◌, List, [], ◌∷◌, ◌++◌, map, filter, max, nat_le, arith, rules, subst, sym, ap, ◌∙◌}
use Rattle.std.specs.VecDeque.{deque_capacity}
use Rattle.theory.specs.Position.{Geometry, max_position}
use Rattle.sender.specs.Resending.Handler.{Handler, action_of, is_near, after_note}
use Rattle.sender.specs.Resending.Spaced.{AreSpaced}
use Rattle.sender.proofs.Resending.Ascending.{has_room, one_more_far, one_more_near, same_near}
use Rattle.sender.proofs.Resending.Noted.{still_kept}
use Rattle.sender.proofs.retransmit.handler.Retransmit.note.Goals as goal

pub push_back_reserved-requires : goal.push_back_reserved-requires
push_back_reserved-requires c =
    let at : c.self.inside.at ≡ c.args.start = ap (λ (h : Handler). h.at) c.self.view_is ∙ sym c.requires.next in
    let reach : c.reach.result ≡ 3 * c.self.inside.geometry.term_length / 4 = c.reach.ensures ∙ ap (λ (h : Handler). 3 * h.geometry.term_length / 4) (sym c.self.view_is) in
    let from = c.saturating_sub-from.ensures in
    let far = c.requires.further in
    let fit = c.self.invariant.starts_fit in
    let lower = max c.self.inside.start (c.self.inside.at - 3 * c.self.inside.geometry.term_length / 4) in
    let spaced = subst (λ (s : ℕ). AreSpaced lower s c.self.inside.starts.items) at c.self.invariant.spaced in
    let room = has_room lower c.args.start c.saturating_sub-from.result (deque_capacity c.self.inside.starts) c.self.inside.starts.items c.forget_below.new.starts.items spaced c.forget_below.ensures.others c.if-start-from.true (omega (arith, reach, from, far, fit)) in
    let same = c.forget_below.ensures.room in
    search (rules, room, same)

-- those that aren't forgotten are the near ones
near : (g : Geometry) (at end from reach : ℕ) (xs ys : List ℕ) → reach ≡ 3 * g.term_length / 4 → from ≡ end - reach → ys ≡ filter (nat_le from) (xs ++ at ∷ []) → ys ≡ filter (is_near g end) (xs ++ at ∷ [])
near g at end from reach xs ys far begins e = e ∙ ap (λ (f : ℕ). filter (nat_le f) (xs ++ at ∷ [])) (begins ∙ ap (λ (r : ℕ). end - r) far) ∙ sym (same_near (3 * g.term_length / 4) end (xs ++ at ∷ []))

pub invariant_of-self : goal.invariant_of-self
invariant_of-self c =
    let at : c.self.inside.at ≡ c.args.start = ap (λ (h : Handler). h.at) c.self.view_is ∙ sym c.requires.next in
    let reach : c.reach.result ≡ 3 * c.self.inside.geometry.term_length / 4 = c.reach.ensures ∙ ap (λ (h : Handler). 3 * h.geometry.term_length / 4) (sym c.self.view_is) in
    let far = c.requires.further in
    let within : c.args.end ≤ max_position c.self.inside.geometry = subst (λ (h : Handler). c.args.end ≤ max_position h.geometry) (sym c.self.view_is) c.requires.in_stream in
    let items = c.push_back_reserved.ensures.items ∙ one_more_near c.saturating_sub-from.result c.args.start c.self.inside.starts.items c.forget_below.new.starts.items c.forget_below.ensures.others c.if-start-from.true in
    let noted = near c.self.inside.geometry c.args.start c.args.end _ _ c.self.inside.starts.items c.push_back_reserved.new.self.items reach c.saturating_sub-from.ensures items ∙ ap (λ (s : ℕ). filter (is_near c.self.inside.geometry c.args.end) (c.self.inside.starts.items ++ s ∷ [])) (sym at) in
    still_kept c.self.inside.geometry c.self.inside.start c.self.inside.at c.args.end _ _ _ c.self.inside.starts.items c.push_back_reserved.new.self.items c.self.inside.actions.items c.self.invariant (omega (arith, at, far)) within noted (c.push_back_reserved.ensures.capacity ∙ c.forget_below.ensures.room)

pub invariant_of-self-else-start-from : goal.invariant_of-self-else-start-from
invariant_of-self-else-start-from c =
    let at : c.self.inside.at ≡ c.args.start = ap (λ (h : Handler). h.at) c.self.view_is ∙ sym c.requires.next in
    let reach : c.reach.result ≡ 3 * c.self.inside.geometry.term_length / 4 = c.reach.ensures ∙ ap (λ (h : Handler). 3 * h.geometry.term_length / 4) (sym c.self.view_is) in
    let far = c.requires.further in
    let within : c.args.end ≤ max_position c.self.inside.geometry = subst (λ (h : Handler). c.args.end ≤ max_position h.geometry) (sym c.self.view_is) c.requires.in_stream in
    let items = one_more_far c.saturating_sub-from.result c.args.start c.self.inside.starts.items c.forget_below.new.starts.items c.forget_below.ensures.others c.if-start-from.false in
    let noted = near c.self.inside.geometry c.args.start c.args.end _ _ c.self.inside.starts.items c.forget_below.new.starts.items reach c.saturating_sub-from.ensures items ∙ ap (λ (s : ℕ). filter (is_near c.self.inside.geometry c.args.end) (c.self.inside.starts.items ++ s ∷ [])) (sym at) in
    still_kept c.self.inside.geometry c.self.inside.start c.self.inside.at c.args.end _ _ _ c.self.inside.starts.items c.forget_below.new.starts.items c.self.inside.actions.items c.self.invariant (omega (arith, at, far)) within noted c.forget_below.ensures.room

pub returns-then-start-from : goal.returns-then-start-from
returns-then-start-from c =
    let reach : c.reach.result ≡ 3 * c.self.inside.geometry.term_length / 4 = c.reach.ensures ∙ ap (λ (h : Handler). 3 * h.geometry.term_length / 4) (sym c.self.view_is) in
    let items = c.push_back_reserved.ensures.items ∙ one_more_near c.saturating_sub-from.result c.args.start c.self.inside.starts.items c.forget_below.new.starts.items c.forget_below.ensures.others c.if-start-from.true in
    let noted = near c.self.inside.geometry c.args.start c.args.end _ _ c.self.inside.starts.items c.push_back_reserved.new.self.items reach c.saturating_sub-from.ensures items in
    let view : List ℕ → Handler = λ zs. record { geometry = c.self.inside.geometry; start = c.self.inside.start; at = c.args.end; clock = c.self.inside.clock; starts = zs; actions = map action_of c.self.inside.actions.items } in
    subst (λ (h : Handler). view c.push_back_reserved.new.self.items ≡ after_note h c.args.start c.args.end) c.self.view_is (ap view noted)
