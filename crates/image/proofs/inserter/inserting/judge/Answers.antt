use lib.IntN.{nat_abs}
use lib.Signed.{lt_z}
use mir.Syntax.{w64}
use mir.Val.{to_z, of_z}
use Rattle.std.proofs.Common.{◌≡◌, Bool, ◌+◌, ◌%◌, ◌≤◌, ℕ, ℤ, pos, negsuc, cond, false, true, min, map, refl, sym, ap, ◌∙◌, subst, arith}
use Rattle.std.proofs.lemmas.Bool.{ltb-false}
use Rattle.std.proofs.lemmas.Int.{to_z-of_z}
use Rattle.theory.specs.Bytes.{Identity}
use Rattle.theory.specs.Insert.{Duplicate, Head, Insert, Overlap, Stored, head_end, head_of, insert_answer, insert_answer_at, window_end}
use Rattle.theory.specs.Position.{aligned, max_position}
use Rattle.image.specs.Kinds.{is_pad}
use Rattle.image_rule.specs.declared.view.Key.{Key}
use Rattle.image.specs.Handles.{ImageWords, InserterSeat, floor_of, stored_by}
use Rattle.image.specs.Rebuilding.{Inserting, IsRebuilding, geometry_of, inserting}
use Rattle.image.specs.Seen.{crosses}
use Rattle.image.specs.Stored.{IsUnit, meant}
use Rattle.image_rule.specs.Frames.{ring}
use Rattle.image.proofs.Looks.{on_free}
use Rattle.image.proofs.Resting.{seat_of}
use Rattle.image.proofs.Judged.{again, answered, free_said}
use Rattle.image.proofs.Kept.{laid}
use Rattle.image.proofs.inserter.inserting.judge.Goals as goal
use Rattle.image.proofs.inserter.inserting.judge.Goals.{After-has_like, After-units_free, in-Data, in-Pad, then-units_free, else-units_free}

behind : (b : Bool) (at length : ℕ) → at ≤ window_end (record { at = at; padding = b; length = length })
behind true at length = omega arith
behind false at length = omega arith

whole : (w : ℤ) → lt_z w (pos 0) ≡ false → pos (nat_abs w) ≡ w
whole (pos p) lt = refl
whole (negsuc n) lt = absurd (cc)

there : (z w : ℤ) → w ≡ z → lt_z w (pos 0) ≡ false → pos (nat_abs w) ≡ z
there z w e lt = whole w lt ∙ e

kept : (n : InserterSeat) (m : InserterSeat) (window high rebuilt : ℕ) → m ≡ n → IsRebuilding (inserting n window high) rebuilt → IsRebuilding (inserting m window high) rebuilt
kept n m window high rebuilt e k = subst (λ (x : InserterSeat). IsRebuilding (inserting x window high) rebuilt) (sym e) k

-- what is said of the seat's words and a position from 0 on
said_at : (a : Insert) (n : InserterSeat) (window high : ℕ) (i : Inserting) (p : ℕ) (z : ℤ) (b : Bool) (length : ℕ) → inserting n window high ≡ i → pos p ≡ z → a ≡ insert_answer n.key.identity.geometry (map head_of (stored_by n)) (floor_of n) window (record { at = p; padding = b; length = length })
    → a ≡ insert_answer_at (geometry_of i) (map head_of i.stored) i.floor i.window z b length
said_at a n window high i p z b length same here is = subst (λ (x : Inserting × ℤ). a ≡ insert_answer_at (geometry_of x.0) (map head_of x.0.stored) x.0.floor x.0.window x.1 b length) (λ j. (same j, here j)) is

pub has_like-requires-clause-unit : goal.has_like-requires-clause-unit
has_like-requires-clause-unit c = subst IsUnit (sym (there c.args.position _ (to_z-of_z _ c.args.position c.ranges.position) c.if-position-lt0.false)) c.requires.unit

pub invariant_of-inserter : goal.invariant_of-inserter
invariant_of-inserter c = let n = c.inserter.inside in kept n.words c.has_like.new.words n.window n.high_water n.rebuilt c.has_like.ensures.same c.inserter.invariant

abbrev start_of : (c : After-has_like) → ℕ
start_of c = nat_abs (to_z w64 (of_z w64 c.args.position))

abbrev head : (c : After-has_like) → Head
head c = record { at = start_of c; padding = is_pad c.args.kind; length = c.args.frame_length }

here : (c : After-has_like) → pos (start_of c) ≡ c.args.position
here c = there c.args.position _ (to_z-of_z _ c.args.position c.ranges.position) c.if-position-lt0.false

same : (c : After-has_like) → c.geometry-geometry.result ≡ c.inserter.inside.words.key.identity.geometry
same c = c.geometry-geometry.ensures.value ∙ ap (λ (i : Identity). i.geometry) c.identity.ensures ∙ ap (λ (k : Key). k.identity.geometry) (sym c.requires.fits.key) ∙ ap (λ (i : Inserting). geometry_of i) (sym c.inserter.view_is)

inside : (c : After-has_like) → crosses c.inserter.inside.words.key.identity.geometry.term_length (pos (start_of c)) (aligned c.args.frame_length) ≡ false
inside c = (λ j. crosses (sym (same c) j).term_length (whole (to_z w64 (of_z w64 c.args.position)) c.if-position-lt0.false j) (sym c.align32-size.ensures j)) ∙ sym c.if-crosses_term.ensures

near : (c : After-has_like) → window_end (head c) ≤ min (floor_of c.inserter.inside.words + c.inserter.inside.window) (max_position c.inserter.inside.words.key.identity.geometry)
near c =
    let end : start_of c + c.align32-size.result ≡ head_end (head c) = ap (λ x. start_of c + x) c.align32-size.ensures in
    let needed : c.match-kind.needed ≡ window_end (head c) = elim c.match-kind.branch [ in-Data w ↦ w.needed-is ∙ ap (λ x. start_of c + x) w.from.ensures ∙ end ∙ sym (ap (λ k. window_end (record { at = start_of c; padding = is_pad k; length = c.args.frame_length })) w.in-Data.is) | in-Pad w ↦ w.needed-is ∙ sym (ap (λ k. window_end (record { at = start_of c; padding = is_pad k; length = c.args.frame_length })) w.in-Pad.is) ] in
    let greatest : c.max_position.result ≡ max_position c.inserter.inside.words.key.identity.geometry = c.max_position.ensures.value ∙ ap max_position (same c) in
    omega (arith, c.if-needed-reach.false, c.min-reach.ensures, c.from-2.ensures, c.floor-least.ensures.value, needed, greatest)

from : (c : After-has_like) → floor_of c.inserter.inside.words ≤ start_of c
from c = omega (arith, c.if-start-least.false, c.floor-least.ensures.value)

pub returns-then-has_like-clause-answer : goal.returns-then-has_like-clause-answer
returns-then-has_like-clause-answer c = let d = c.before in let n = d.inserter.inside in
    said_at Duplicate n.words n.window n.high_water d.args.inserter.now (start_of d) d.args.position (is_pad d.args.kind) d.args.frame_length d.inserter.view_is (here d)
    (again n.words.key.identity.geometry (stored_by n.words) (floor_of n.words) n.window (head d) (inside d) (from d) (near d) c.if-has_like.ensures.like)

pub units_free-requires-clause-near : goal.units_free-requires-clause-near
units_free-requires-clause-near c =
    let d : After-has_like = c.before.before.before.before.before.before.before in let n = d.inserter.inside in let same : seat_of c.store.inside ≡ n.words = c.store.view_is ∙ c.has_like.ensures.same in
    let key : c.image.inside.words.key ≡ n.words.key = ap (λ (x : ImageWords). x.key) c.image.view_is ∙ sym c.requires.fits.key ∙ sym (ap (λ (i : Inserting). i.key) d.inserter.view_is) in
    let rings = ap ring key in let floor = ap (λ (x : InserterSeat). x.view.held.floor) same in let low = c.store.inside.hand.floor_is in
    let in_term = ltb-false n.words.key.identity.geometry.term_length _ (inside d) in let below = near d in let at = behind (is_pad d.args.kind) (start_of d) d.args.frame_length in let size = c.from-3.ensures in let a = c.align32-size.ensures in let window = d.inserter.invariant.window.greatest in
    omega (arith, rings, floor, low, in_term, below, at, size, a, window)

pub invariant_of-inserter-2 : goal.invariant_of-inserter-2
invariant_of-inserter-2 c =
    let n = c.inserter.inside in
    kept n.words _ n.window n.high_water n.rebuilt
    ((λ j. record { of = record { table = c.units_free.ensures.fits j; region = c.store.inside.region; units = ring c.store.inside.key }; key = c.store.inside.key; view = (c.units_free.ensures.same j).0 }) ∙ c.store.view_is ∙ c.has_like.ensures.same)
    c.inserter.invariant

judged : (c : After-units_free) → cond (cond c.units_free.result false true) Overlap Stored ≡ insert_answer_at (geometry_of c.args.inserter.now) (map head_of c.args.inserter.now.stored) c.args.inserter.now.floor c.args.inserter.now.window c.args.position (is_pad c.args.kind) c.args.frame_length
judged c =
    let d : After-has_like = c.before.before.before.before.before.before.before.before in let n = d.inserter.inside in let h : Head = head d in let long = c.requires.long in let laid = laid (inserting n.words n.window n.high_water) n.rebuilt d.inserter.invariant in
    let unit : start_of d % 32 ≡ 0 = subst IsUnit (sym (here d)) c.requires.unit in
    let to : start_of d + c.from-3.result ≡ head_end h = ap (λ x. start_of d + x) (c.from-3.ensures ∙ c.align32-size.ensures) in
    let end : (start_of d + c.from-3.result) % 32 ≡ 0 = omega (arith, unit, to) in
    let said = on_free (seat_of c.store.inside) n.words (start_of d) (start_of d + c.from-3.result) c.units_free.result (c.store.view_is ∙ c.has_like.ensures.same) c.store.invariant.inserting unit end c.units_free.ensures.free in
    said_at _ n.words n.window n.high_water d.args.inserter.now (start_of d) d.args.position (is_pad d.args.kind) d.args.frame_length d.inserter.view_is (here d)
    (answered n.words.key.identity.geometry (stored_by n.words) (floor_of n.words) n.window h c.units_free.result (inside d) (from d) (near d) c.if-has_like.ensures.like
    (free_said (stored_by n.words) h (start_of d + c.from-3.result) c.units_free.result laid unit (omega (arith, long)) to said))

pub returns-clause-answer : goal.returns-clause-answer
returns-clause-answer c = elim c.if-units_free.branch [ then-units_free w ↦ ap meant w.result-is ∙ ap (λ b. cond (cond b false true) Overlap Stored) (sym w.if-units_free.true) ∙ judged c.before | else-units_free w ↦ ap meant w.result-is ∙ ap (λ b. cond (cond b false true) Overlap Stored) (sym w.if-units_free.false) ∙ judged c.before ]
