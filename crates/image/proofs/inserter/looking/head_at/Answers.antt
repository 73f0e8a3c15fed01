use Rattle.position.specs.Contents.{head_by}
use Rattle.std.specs.Int.{to_le_bytes, w64}
use Rattle.std.proofs.Common.{ℕ, List, ◌≡◌, ◌+◌, ◌*◌, ◌/◌, ◌%◌, ◌^◌, ◌<◌, ◌≤◌, ap, sym, subst, refl, ◌∙◌}
use Rattle.std.specs.Prelude.{◌↔◌, bit_and, slice_index}
use Rattle.image_rule.specs.declared.view.Key.{Key}
use Rattle.image_rule.specs.Frames.{HasStart, ring, start_place}
use Rattle.image.specs.Handles.{InserterSeat, floor_of, stored_by}
use Rattle.image.specs.Looking.{IsFirstWord}
use Rattle.image.proofs.Looks.{first_bytes, on_head, on_start}
use Rattle.image.proofs.Resting.{memory_of, same_key, seat_of}
use Rattle.image.proofs.inserter.looking.head_at.Goals as goal
use Rattle.image.proofs.inserter.looking.head_at.Goals.{After-fetch_as-word}

-- its start bit says whether a frame starts there
starts : (c : After-fetch_as-word) → (bit_and (c.fetch_as-word.result / 2 ^ (c.args.position / 32 % 64)) 1 ≡ 1) ↔ HasStart (stored_by c.args.inserter.now) c.args.position
starts c =
    let n : InserterSeat = seat_of c.inserter.inside in
    let key : c.inserter.inside.key ≡ c.image.inside.words.key = same_key c.image.inside.words c.inserter.inside c.args.image.now c.args.inserter.now c.image.view_is c.inserter.view_is c.requires.fits in
    on_start n c.args.inserter.now c.args.position c.fetch_as-word.result c.inserter.view_is c.inserter.invariant.inserting c.requires.unit (subst (λ (x : InserterSeat). floor_of x ≤ c.args.position) (sym c.inserter.view_is) c.requires.low)
    (subst (λ (x : InserterSeat). c.args.position < floor_of x + 3 * x.key.identity.geometry.term_length) (sym c.inserter.view_is) c.requires.near)
    (c.fetch_as-word.ensures.told.0 ∙ ap (slice_index n.view.held.words) (c.start_word-start.ensures.is ∙ ap (λ (k : Key). start_place (ring k) (c.args.position / 32)) (sym key)))

pub returns-then-word-unit-ne1-clause-none : goal.returns-then-word-unit-ne1-clause-none
returns-then-word-unit-ne1-clause-none c has = c.if-word-unit-ne1.true ((starts c.before).1 has)

pub returns-clause-head : goal.returns-clause-head
returns-clause-head c =
    let n = c.inserter.inside in let i = c.image.inside.words in let is = c.inserter.invariant in
    let key : n.key ≡ i.key = same_key i n c.args.image.now c.args.inserter.now c.image.view_is c.inserter.view_is c.requires.fits in
    let has = memory_of (ring n.key) n.region n.hand.seat.me.0.held n.room n.heads.items is.has in
    let place = c.place-place.result in
    let first : IsFirstWord (seat_of n) c.args.position (slice_index n.heads.items place) =
    first_bytes (seat_of n) is.inserting c.args.position (slice_index n.heads.items place) place has.free n.heads.items has.memory has.freed c.requires.unit (subst (λ (x : InserterSeat). floor_of x ≤ c.args.position) (sym c.inserter.view_is) c.requires.low)
    (c.place-place.ensures.is ∙ ap (λ (k : Key). c.args.position / 32 % ring k) (sym key)) refl in (
      (starts c.before.before.before.before.before).0 c.if-word-unit-ne1.false,
      on_head (seat_of n) c.args.inserter.now c.args.position (slice_index n.heads.items place) c.head_in.result c.inserter.view_is is.inserting (subst (λ (x : InserterSeat). IsFirstWord x c.args.position (slice_index n.heads.items place)) c.inserter.view_is first) (c.head_in.ensures ∙ ap (λ (hs : List ℕ). head_by c.args.position (to_le_bytes w64 (slice_index hs place))) c.as_slice.ensures.value),
    )
