use Rattle.std.proofs.Common.{◌≡◌, ◌∙◌, ◌++◌, ◌∷◌, ◌<◌, ◌≤◌, ◌+◌, [], suc, ℕ, List, Result, Ok, Err, length, drop, take, arith, ap, subst, sym}
use Rattle.std.specs.Prelude.{OnErr}
use Rattle.std.specs.List.{AllByRecursion, flat_map}
use Rattle.std.proofs.lemmas.List.{append_assoc, length-take-le, take-append-drop, take_all}
use Rattle.frames.specs.Fronts.{FrontSpells}
use Rattle.theory.specs.Wire.{IsFrame, StandTogether, Wire, spelling}
use Rattle.frames.specs.Frames.{wire}
use Rattle.receiver.specs.Representing.{MeetsEach}
use Rattle.frames.proofs.FrameSteps.{frame_at, frame_first, front_spells, next_first, slice_to_end}
use Rattle.receiver.proofs.Meeting.{meets_more}
use Rattle.receiver.proofs.Together.{setup_alone}
use Rattle.receiver.proofs.receiver_core.ReceiverCore.on_frames.Goals as goal

pub known_frame-size-requires : goal.known_frame-size-requires
known_frame-size-requires c =
    let frames = c.requires.frames.0 in
    let i = c.loop-turn._turn in
    let before = c.loop-turn.invariant.taken frames c.requires.frames.1 c.requires.frames.2 in
    let below : i < length frames = omega (arith, c.requires.frames.2, c.loop-turn-test.true) in
    let at = frame_at frames i c.requires.frames.1.1 below in
    let parts = frame_first frames c.loop-turn.rest.now i at before.0 in
    (at.frame, length (spelling at.frame), front_spells at.frame c.loop-turn.rest.now (flat_map spelling (drop (suc i) frames)) at.is parts)

-- the frame that was read is the next one of the datagram
record IsNext (frames : List Wire) (i : ℕ) (rest : List ℕ) (w : Wire) (size : ℕ) : Type 0 where
  dropped : drop size rest ≡ flat_map spelling (drop (i + 1) frames)
  taken : take i frames ++ w ∷ [] ≡ take (i + 1) frames

next_is : (frames : List Wire) (i : ℕ) (rest : List ℕ) (w : Wire) (size : ℕ) → AllByRecursion IsFrame frames → i < length frames → rest ≡ flat_map spelling (drop i frames) → ((x : Wire) (n : ℕ) → FrontSpells rest x n → (w ≡ x) × (size ≡ n)) → IsNext frames i rest w size
next_is frames i rest w size all below left read =
    let at = frame_at frames i all below in
    let parts = frame_first frames rest i at left in
    let is = read at.frame (length (spelling at.frame)) (front_spells at.frame rest (flat_map spelling (drop (suc i) frames)) at.is parts) in
    let next : suc i ≡ i + 1 = omega arith in
    record {
      dropped = next_first at.frame rest (flat_map spelling (drop (suc i) frames)) size parts is.1 ∙ ap (λ k. flat_map spelling (drop k frames)) next;
      taken = ap (λ x. take i frames ++ x ∷ []) is.0 ∙ sym at.taken ∙ ap (λ k. take k frames) next;
    }

pub loop-turn-preserved : goal.loop-turn-preserved
loop-turn-preserved c = record {
  taken = λ frames spells counted.
      let i = c.loop-turn._turn in
      let before = c.loop-turn.invariant.taken frames spells counted in
      let below : i < length frames = omega (arith, counted, c.loop-turn-test.true) in
      let next = next_is frames i c.loop-turn.rest.now (wire c.known_frame-size.result.0) c.known_frame-size.result.1 spells.1 below before.0 c.known_frame-size.ensures.only in (
        slice_to_end c.loop-turn.rest.now c.known_frame-size.result.1 ∙ next.dropped,
        subst (λ ws. MeetsEach c.args.self.now ws c.push_reserved.new.self.items c.on_frame.new.self) next.taken
            (subst (λ outs. MeetsEach c.args.self.now (take i frames ++ wire c.known_frame-size.result.0 ∷ []) outs c.on_frame.new.self) (sym c.push_reserved.ensures.items)
            (meets_more c.args.self.now c.loop-turn.self c.on_frame.new.self (take i frames) c.loop-turn.outcomes.items (wire c.known_frame-size.result.0) c.in_ok-outcome.outcome before.1 c.in_ok-outcome.ensures.met c.in_ok-outcome.ensures.looks)),
      );
  room = omega (arith, c.loop-turn.invariant.room, c.push_reserved.ensures.len, c.push_reserved.ensures.capacity, c.loop-turn-test.true);
  fresh = λ e. absurd (omega arith);
  consumers = c.in_ok-outcome.ensures.consumers ∙ c.loop-turn.invariant.consumers;
}

on_err : {V E : Type 0} (out : Result V E) (P : Type 0) → P → OnErr out P
on_err (Ok v) P p = tt
on_err (Err e) P p = p

-- a SETUP stands alone
pub returns-in_err-outcome-clause-refused : goal.returns-in_err-outcome-clause-refused
returns-in_err-outcome-clause-refused c =
    let frames = c.requires.frames.0 in
    let spells = c.requires.frames.1 in
    let counted = c.requires.frames.2 in
    let i = c.loop-turn._turn in
    let before = c.loop-turn.invariant.taken frames spells counted in
    let below : i < length frames = omega (arith, counted, c.loop-turn-test.true) in
    let w : Wire = wire c.known_frame-size.result.0 in
    let next = next_is frames i c.loop-turn.rest.now w c.known_frame-size.result.1 spells.1 below before.0 c.known_frame-size.ensures.only in
    let parts : frames ≡ take i frames ++ w ∷ drop (i + 1) frames = sym (take-append-drop (i + 1) frames) ∙ ap (λ ws. ws ++ drop (i + 1) frames) (sym next.taken) ∙ append_assoc (take i frames) (w ∷ []) (drop (i + 1) frames) in
    let first : length (take i frames) ≡ 0 = setup_alone (take i frames) (drop (i + 1) frames) w (subst StandTogether parts spells.0) c.in_err-outcome.ensures.wanted in
    let none : i ≡ 0 = omega (arith, length-take-le i frames (omega arith), first) in
    on_err c.from_residual.result (c.on_frame.new.self ≡ c.args.self.now) (c.in_err-outcome.ensures.refused ∙ c.loop-turn.invariant.fresh none)

pub returns-clause-met : goal.returns-clause-met
returns-clause-met c = λ frames spells counted.
    let done : length frames ≤ c.loop-turn._turn = omega (arith, counted, c.loop-turn-test.false) in
    subst (λ ws. MeetsEach c.args.self.now ws c.loop-turn.outcomes.items c.loop-turn.self) (take_all c.loop-turn._turn frames done) (c.loop-turn.invariant.taken frames spells counted).1
