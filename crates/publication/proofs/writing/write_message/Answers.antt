use Rattle.std.proofs.Common.{◌≡◌, ℕ, ◌+◌, ◌-◌, ◌<◌, ◌≤◌, arith, refl, sym, ap, ◌∙◌, subst, length, take, drop, length-drop, List, false}
use Rattle.std.proofs.lemmas.List.{length-take-le}
use Rattle.theory.specs.Bytes.{Identity}
use Rattle.theory.specs.Placed.{Data}
use Rattle.theory.specs.Position.{Geometry, IsGeometry, cuts_of, framed_length, max_payload}
use Rattle.publication.specs.Steps.{geometry_of}
use Rattle.publication.specs.Frames.{frame_flags}
use Rattle.publication.specs.Claims.{Fills, HasBlank, exactly, message_stores}
use Rattle.publication.specs.Offers.{FillsAll, HasBlanks}
use Rattle.publication.proofs.Steppings.{goes_further, moves, moves_none, took_more, took_none}
use Rattle.publication.proofs.Messages.{begins_in, fits_frame, full_blank, full_filled, full_framed, full_left, full_shape, full_stored, last_blank, last_filled, last_stored, part_fits}
use Rattle.publication.proofs.writing.write_message.Goals as goal

pub loop-rest-init : goal.loop-rest-init
loop-rest-init g c = record {
  moved = moves_none g.W.WordCalls.fits g.W.WordCalls.pass_of g.W.WordCalls.name g.W.WordCalls.id _ _ c.requires.fits;
  took = (0, took_none g.W.WordCalls.took g.W.WordCalls.pass_of _ _ (g.met.W.WordCalls.none _ _), omega arith);
  shape = refl;
  blanks = c.requires.blanks;
  fills = λ w h. h;
  in_stream = c.requires.in_stream;
  short = c.requires.short;
}

pub fill_data-requires-clause-blank : goal.fill_data-requires-clause-blank
fill_data-requires-clause-blank g c =
    let geometry : c.geometry-geometry.result ≡ (geometry_of (g.W.WordCalls.pass_of c.args.words.now c.args.pass.now)) = c.geometry-geometry.ensures.value ∙ ap (λ (i : Identity). i.geometry) c.identity.ensures in
    let legal : IsGeometry (geometry_of (g.W.WordCalls.pass_of c.args.words.now c.args.pass.now)) = subst IsGeometry geometry c.geometry-geometry.ensures.legal in
    let most : c.max_payload-most.result ≡ max_payload (geometry_of (g.W.WordCalls.pass_of c.args.words.now c.args.pass.now)) = c.max_payload-most.ensures.value ∙ ap max_payload geometry in
    let high : max_payload (geometry_of (g.W.WordCalls.pass_of c.args.words.now c.args.pass.now)) < length c.loop-rest.rest.now = omega (arith, most, c.loop-rest-test.true) in
    let front : c.split_at.result.0.now ≡ take (max_payload (geometry_of (g.W.WordCalls.pass_of c.args.words.now c.args.pass.now))) c.loop-rest.rest.now = c.split_at.ensures.front ∙ ap (λ (n : ℕ). take n c.loop-rest.rest.now) most in
    let back : c.split_at.result.1.now ≡ drop (max_payload (geometry_of (g.W.WordCalls.pass_of c.args.words.now c.args.pass.now))) c.loop-rest.rest.now = c.split_at.ensures.back ∙ ap (λ (n : ℕ). drop n c.loop-rest.rest.now) most in
    subst (λ (xs : List ℕ). HasBlank (g.W.WordCalls.pass_of c.loop-rest.words c.loop-rest.pass) c.loop-rest.at (32 + length xs)) (sym front) (full_blank (geometry_of (g.W.WordCalls.pass_of c.args.words.now c.args.pass.now)) legal c.loop-rest.rest.now high (g.W.WordCalls.pass_of c.loop-rest.words c.loop-rest.pass) c.loop-rest.invariant.shape c.loop-rest.first c.loop-rest.at c.loop-rest.invariant.blanks)

pub loop-rest-preserved : goal.loop-rest-preserved
loop-rest-preserved g c =
    let geometry : c.geometry-geometry.result ≡ (geometry_of (g.W.WordCalls.pass_of c.args.words.now c.args.pass.now)) = c.geometry-geometry.ensures.value ∙ ap (λ (i : Identity). i.geometry) c.identity.ensures in
    let legal : IsGeometry (geometry_of (g.W.WordCalls.pass_of c.args.words.now c.args.pass.now)) = subst IsGeometry geometry c.geometry-geometry.ensures.legal in
    let most : c.max_payload-most.result ≡ max_payload (geometry_of (g.W.WordCalls.pass_of c.args.words.now c.args.pass.now)) = c.max_payload-most.ensures.value ∙ ap max_payload geometry in
    let high : max_payload (geometry_of (g.W.WordCalls.pass_of c.args.words.now c.args.pass.now)) < length c.loop-rest.rest.now = omega (arith, most, c.loop-rest-test.true) in
    let front : c.split_at.result.0.now ≡ take (max_payload (geometry_of (g.W.WordCalls.pass_of c.args.words.now c.args.pass.now))) c.loop-rest.rest.now = c.split_at.ensures.front ∙ ap (λ (n : ℕ). take n c.loop-rest.rest.now) most in
    let back : c.split_at.result.1.now ≡ drop (max_payload (geometry_of (g.W.WordCalls.pass_of c.args.words.now c.args.pass.now))) c.loop-rest.rest.now = c.split_at.ensures.back ∙ ap (λ (n : ℕ). drop n c.loop-rest.rest.now) most in
    let fills : Fills (g.W.WordCalls.pass_of c.loop-rest.words c.loop-rest.pass) c.loop-rest.at (Data (frame_flags c.loop-rest.first false) (take (max_payload (geometry_of (g.W.WordCalls.pass_of c.args.words.now c.args.pass.now))) c.loop-rest.rest.now)) (g.W.WordCalls.pass_of c.fill_data.new.self c.fill_data.new.pass) =
    subst (λ (n : ℕ). Fills (g.W.WordCalls.pass_of c.loop-rest.words c.loop-rest.pass) c.loop-rest.at (Data n (take (max_payload (geometry_of (g.W.WordCalls.pass_of c.args.words.now c.args.pass.now))) c.loop-rest.rest.now)) (g.W.WordCalls.pass_of c.fill_data.new.self c.fill_data.new.pass)) c.flags_of.ensures.value (subst (λ (xs : List ℕ). Fills (g.W.WordCalls.pass_of c.loop-rest.words c.loop-rest.pass) c.loop-rest.at (Data c.flags_of.result xs) (g.W.WordCalls.pass_of c.fill_data.new.self c.fill_data.new.pass)) front c.fill_data.ensures.fills) in
    let mtu : c.from-at.result ≡ (geometry_of (g.W.WordCalls.pass_of c.args.words.now c.args.pass.now)).mtu = c.from-at.ensures ∙ c.mtu.ensures.value ∙ ap (λ (h : Geometry). h.mtu) geometry in
    let at : c.loop-rest.at + (geometry_of (g.W.WordCalls.pass_of c.args.words.now c.args.pass.now)).mtu ≡ c.loop-rest.at + c.from-at.result = ap (λ (n : ℕ). c.loop-rest.at + n) (sym mtu) in
    let part_long : length c.split_at.result.0.now ≡ max_payload (geometry_of (g.W.WordCalls.pass_of c.args.words.now c.args.pass.now)) = ap (λ (xs : List ℕ). length xs) front ∙ length-take-le (max_payload (geometry_of (g.W.WordCalls.pass_of c.args.words.now c.args.pass.now))) c.loop-rest.rest.now (omega (arith, high)) in
    let back_long : length c.split_at.result.1.now ≡ length c.loop-rest.rest.now - max_payload (geometry_of (g.W.WordCalls.pass_of c.args.words.now c.args.pass.now)) = ap (λ (xs : List ℕ). length xs) back ∙ length-drop (max_payload (geometry_of (g.W.WordCalls.pass_of c.args.words.now c.args.pass.now))) c.loop-rest.rest.now in
    let back_stored : length (cuts_of (geometry_of (g.W.WordCalls.pass_of c.args.words.now c.args.pass.now)) (length c.split_at.result.1.now)) ≡ length (cuts_of (geometry_of (g.W.WordCalls.pass_of c.args.words.now c.args.pass.now)) (length c.loop-rest.rest.now - max_payload (geometry_of (g.W.WordCalls.pass_of c.args.words.now c.args.pass.now)))) = ap (λ (n : ℕ). length (cuts_of (geometry_of (g.W.WordCalls.pass_of c.args.words.now c.args.pass.now)) n)) back_long in
    let back_framed : framed_length (geometry_of (g.W.WordCalls.pass_of c.args.words.now c.args.pass.now)) (length c.split_at.result.1.now) ≡ framed_length (geometry_of (g.W.WordCalls.pass_of c.args.words.now c.args.pass.now)) (length c.loop-rest.rest.now - max_payload (geometry_of (g.W.WordCalls.pass_of c.args.words.now c.args.pass.now))) = ap (λ (n : ℕ). framed_length (geometry_of (g.W.WordCalls.pass_of c.args.words.now c.args.pass.now)) n) back_long in
    record {
      moved = moves g.W.WordCalls.fits g.W.WordCalls.pass_of g.W.WordCalls.name g.W.WordCalls.id _ _ _ _ _ _ c.loop-rest.invariant.moved c.fill_data.ensures.part.moved;
      took = (
        c.loop-rest.invariant.took.0 + 1,
        took_more g.W.WordCalls.took g.W.WordCalls.pass_of g.met.W.WordCalls.more _ _ _ _ _ _ c.loop-rest.invariant.took.0 1 _ c.loop-rest.invariant.took.1 c.fill_data.ensures.part.took refl,
        omega (arith, back_stored, full_stored (geometry_of (g.W.WordCalls.pass_of c.args.words.now c.args.pass.now)) legal (length c.loop-rest.rest.now) high, c.loop-rest.invariant.took.2),
      );
      shape = full_shape (geometry_of (g.W.WordCalls.pass_of c.args.words.now c.args.pass.now)) legal c.loop-rest.rest.now high (g.W.WordCalls.pass_of c.loop-rest.words c.loop-rest.pass) c.loop-rest.invariant.shape c.loop-rest.first c.loop-rest.at (g.W.WordCalls.pass_of c.fill_data.new.self c.fill_data.new.pass) fills c.loop-rest.invariant.blanks;
      blanks = subst (λ (n : ℕ). HasBlanks (g.W.WordCalls.pass_of c.fill_data.new.self c.fill_data.new.pass) n (cuts_of (geometry_of (g.W.WordCalls.pass_of c.fill_data.new.self c.fill_data.new.pass)) (length c.split_at.result.1.now))) at (subst (λ (xs : List ℕ). HasBlanks (g.W.WordCalls.pass_of c.fill_data.new.self c.fill_data.new.pass) (c.loop-rest.at + (geometry_of (g.W.WordCalls.pass_of c.args.words.now c.args.pass.now)).mtu) (cuts_of (geometry_of (g.W.WordCalls.pass_of c.fill_data.new.self c.fill_data.new.pass)) (length xs))) (sym back) (full_left (geometry_of (g.W.WordCalls.pass_of c.args.words.now c.args.pass.now)) legal c.loop-rest.rest.now high (g.W.WordCalls.pass_of c.loop-rest.words c.loop-rest.pass) c.loop-rest.invariant.shape c.loop-rest.first c.loop-rest.at (g.W.WordCalls.pass_of c.fill_data.new.self c.fill_data.new.pass) fills c.loop-rest.invariant.blanks));
      fills = λ u h. c.loop-rest.invariant.fills u (full_filled (geometry_of (g.W.WordCalls.pass_of c.args.words.now c.args.pass.now)) legal c.loop-rest.rest.now high (g.W.WordCalls.pass_of c.loop-rest.words c.loop-rest.pass) c.loop-rest.invariant.shape c.loop-rest.first c.loop-rest.at (g.W.WordCalls.pass_of c.fill_data.new.self c.fill_data.new.pass) fills u (subst (λ (xs : List ℕ). FillsAll (g.W.WordCalls.pass_of c.fill_data.new.self c.fill_data.new.pass) false (c.loop-rest.at + (geometry_of (g.W.WordCalls.pass_of c.args.words.now c.args.pass.now)).mtu) xs u) back (subst (λ (n : ℕ). FillsAll (g.W.WordCalls.pass_of c.fill_data.new.self c.fill_data.new.pass) false n c.split_at.result.1.now u) (sym at) h)));
      in_stream = omega (arith, mtu, back_framed, full_framed (geometry_of (g.W.WordCalls.pass_of c.args.words.now c.args.pass.now)) legal (length c.loop-rest.rest.now) high, c.loop-rest.invariant.in_stream);
      short = omega (arith, back_long, c.loop-rest.invariant.short);
    }

pub returns-clause-part : goal.returns-clause-part
returns-clause-part g c =
    let geometry : c.geometry-geometry.result ≡ (geometry_of (g.W.WordCalls.pass_of c.args.words.now c.args.pass.now)) = c.geometry-geometry.ensures.value ∙ ap (λ (i : Identity). i.geometry) c.identity.ensures in
    let legal : IsGeometry (geometry_of (g.W.WordCalls.pass_of c.args.words.now c.args.pass.now)) = subst IsGeometry geometry c.geometry-geometry.ensures.legal in
    let most : c.max_payload-most.result ≡ max_payload (geometry_of (g.W.WordCalls.pass_of c.args.words.now c.args.pass.now)) = c.max_payload-most.ensures.value ∙ ap max_payload geometry in
    let low : length c.loop-rest.rest.now ≤ max_payload (geometry_of (g.W.WordCalls.pass_of c.args.words.now c.args.pass.now)) = omega (arith, most, c.loop-rest-test.false) in
    goes_further g.W.WordCalls.fits g.W.WordCalls.pass_of g.W.WordCalls.name g.W.WordCalls.id g.W.WordCalls.took g.met.W.WordCalls.more _ _ _ _ _ _ (exactly c.loop-rest.invariant.took.0) (exactly 1) (message_stores (length c.args.message.now)) record { moved = c.loop-rest.invariant.moved; took = c.loop-rest.invariant.took.1 } c.fill_data-2.ensures.part
    (omega (arith, last_stored (geometry_of (g.W.WordCalls.pass_of c.args.words.now c.args.pass.now)) (length c.loop-rest.rest.now) low, c.loop-rest.invariant.took.2))

pub returns-clause-fills : goal.returns-clause-fills
returns-clause-fills g c =
    let geometry : c.geometry-geometry.result ≡ (geometry_of (g.W.WordCalls.pass_of c.args.words.now c.args.pass.now)) = c.geometry-geometry.ensures.value ∙ ap (λ (i : Identity). i.geometry) c.identity.ensures in
    let legal : IsGeometry (geometry_of (g.W.WordCalls.pass_of c.args.words.now c.args.pass.now)) = subst IsGeometry geometry c.geometry-geometry.ensures.legal in
    let most : c.max_payload-most.result ≡ max_payload (geometry_of (g.W.WordCalls.pass_of c.args.words.now c.args.pass.now)) = c.max_payload-most.ensures.value ∙ ap max_payload geometry in
    let low : length c.loop-rest.rest.now ≤ max_payload (geometry_of (g.W.WordCalls.pass_of c.loop-rest.words c.loop-rest.pass)) = fits_frame (g.W.WordCalls.pass_of c.args.words.now c.args.pass.now) (g.W.WordCalls.pass_of c.loop-rest.words c.loop-rest.pass) (length c.loop-rest.rest.now) c.loop-rest.invariant.shape (omega (arith, most, c.loop-rest-test.false)) in
    c.loop-rest.invariant.fills (g.W.WordCalls.pass_of c.fill_data-2.new.self c.fill_data-2.new.pass) (last_filled (g.W.WordCalls.pass_of c.loop-rest.words c.loop-rest.pass) (g.W.WordCalls.pass_of c.fill_data-2.new.self c.fill_data-2.new.pass) c.loop-rest.first c.loop-rest.at c.loop-rest.rest.now low (subst (λ (n : ℕ). Fills (g.W.WordCalls.pass_of c.loop-rest.words c.loop-rest.pass) c.loop-rest.at (Data n c.loop-rest.rest.now) (g.W.WordCalls.pass_of c.fill_data-2.new.self c.fill_data-2.new.pass)) c.flags_of-2.ensures.value c.fill_data-2.ensures.fills))

pub fill_data-requires-clause-fits : goal.fill_data-requires-clause-fits
fill_data-requires-clause-fits g c = c.loop-rest.invariant.moved.still

pub fill_data-requires-clause-in_stream : goal.fill_data-requires-clause-in_stream
fill_data-requires-clause-in_stream g c = begins_in (g.W.WordCalls.pass_of c.args.words.now c.args.pass.now) (g.W.WordCalls.pass_of c.loop-rest.words c.loop-rest.pass) c.loop-rest.at (framed_length (geometry_of (g.W.WordCalls.pass_of c.args.words.now c.args.pass.now)) (length c.loop-rest.rest.now)) c.loop-rest.invariant.shape c.loop-rest.invariant.in_stream

pub fill_data-requires-clause-flags : goal.fill_data-requires-clause-flags
fill_data-requires-clause-flags g c = c.flags_of.ensures.legal

pub fill_data-requires-clause-short : goal.fill_data-requires-clause-short
fill_data-requires-clause-short g c =
    let geometry : c.geometry-geometry.result ≡ (geometry_of (g.W.WordCalls.pass_of c.args.words.now c.args.pass.now)) = c.geometry-geometry.ensures.value ∙ ap (λ (i : Identity). i.geometry) c.identity.ensures in
    let legal : IsGeometry (geometry_of (g.W.WordCalls.pass_of c.args.words.now c.args.pass.now)) = subst IsGeometry geometry c.geometry-geometry.ensures.legal in
    let most : c.max_payload-most.result ≡ max_payload (geometry_of (g.W.WordCalls.pass_of c.args.words.now c.args.pass.now)) = c.max_payload-most.ensures.value ∙ ap max_payload geometry in
    let high : max_payload (geometry_of (g.W.WordCalls.pass_of c.args.words.now c.args.pass.now)) < length c.loop-rest.rest.now = omega (arith, most, c.loop-rest-test.true) in
    let front : c.split_at.result.0.now ≡ take (max_payload (geometry_of (g.W.WordCalls.pass_of c.args.words.now c.args.pass.now))) c.loop-rest.rest.now = c.split_at.ensures.front ∙ ap (λ (n : ℕ). take n c.loop-rest.rest.now) most in
    let part_long : length c.split_at.result.0.now ≡ max_payload (geometry_of (g.W.WordCalls.pass_of c.args.words.now c.args.pass.now)) = ap (λ (xs : List ℕ). length xs) front ∙ length-take-le (max_payload (geometry_of (g.W.WordCalls.pass_of c.args.words.now c.args.pass.now))) c.loop-rest.rest.now (omega (arith, high)) in
    part_fits (g.W.WordCalls.pass_of c.args.words.now c.args.pass.now) (g.W.WordCalls.pass_of c.loop-rest.words c.loop-rest.pass) (length c.split_at.result.0.now) c.loop-rest.invariant.shape legal (let few : length c.split_at.result.0.now ≤ max_payload (geometry_of (g.W.WordCalls.pass_of c.args.words.now c.args.pass.now)) = omega (arith, part_long) in few)

pub fill_data-requires-2-clause-fits : goal.fill_data-requires-2-clause-fits
fill_data-requires-2-clause-fits g c = c.loop-rest.invariant.moved.still

pub fill_data-requires-2-clause-in_stream : goal.fill_data-requires-2-clause-in_stream
fill_data-requires-2-clause-in_stream g c = begins_in (g.W.WordCalls.pass_of c.args.words.now c.args.pass.now) (g.W.WordCalls.pass_of c.loop-rest.words c.loop-rest.pass) c.loop-rest.at (framed_length (geometry_of (g.W.WordCalls.pass_of c.args.words.now c.args.pass.now)) (length c.loop-rest.rest.now)) c.loop-rest.invariant.shape c.loop-rest.invariant.in_stream

pub fill_data-requires-2-clause-flags : goal.fill_data-requires-2-clause-flags
fill_data-requires-2-clause-flags g c = c.flags_of-2.ensures.legal

pub fill_data-requires-2-clause-short : goal.fill_data-requires-2-clause-short
fill_data-requires-2-clause-short g c =
    let geometry : c.geometry-geometry.result ≡ (geometry_of (g.W.WordCalls.pass_of c.args.words.now c.args.pass.now)) = c.geometry-geometry.ensures.value ∙ ap (λ (i : Identity). i.geometry) c.identity.ensures in
    let legal : IsGeometry (geometry_of (g.W.WordCalls.pass_of c.args.words.now c.args.pass.now)) = subst IsGeometry geometry c.geometry-geometry.ensures.legal in
    let most : c.max_payload-most.result ≡ max_payload (geometry_of (g.W.WordCalls.pass_of c.args.words.now c.args.pass.now)) = c.max_payload-most.ensures.value ∙ ap max_payload geometry in
    let low : length c.loop-rest.rest.now ≤ max_payload (geometry_of (g.W.WordCalls.pass_of c.args.words.now c.args.pass.now)) = omega (arith, most, c.loop-rest-test.false) in
    part_fits (g.W.WordCalls.pass_of c.args.words.now c.args.pass.now) (g.W.WordCalls.pass_of c.loop-rest.words c.loop-rest.pass) (length c.loop-rest.rest.now) c.loop-rest.invariant.shape legal low

pub fill_data-requires-2-clause-blank : goal.fill_data-requires-2-clause-blank
fill_data-requires-2-clause-blank g c =
    let geometry : c.geometry-geometry.result ≡ (geometry_of (g.W.WordCalls.pass_of c.args.words.now c.args.pass.now)) = c.geometry-geometry.ensures.value ∙ ap (λ (i : Identity). i.geometry) c.identity.ensures in
    let most : c.max_payload-most.result ≡ max_payload (geometry_of (g.W.WordCalls.pass_of c.args.words.now c.args.pass.now)) = c.max_payload-most.ensures.value ∙ ap max_payload geometry in
    let low : length c.loop-rest.rest.now ≤ max_payload (geometry_of (g.W.WordCalls.pass_of c.loop-rest.words c.loop-rest.pass)) = fits_frame (g.W.WordCalls.pass_of c.args.words.now c.args.pass.now) (g.W.WordCalls.pass_of c.loop-rest.words c.loop-rest.pass) (length c.loop-rest.rest.now) c.loop-rest.invariant.shape (omega (arith, most, c.loop-rest-test.false)) in
    last_blank (g.W.WordCalls.pass_of c.loop-rest.words c.loop-rest.pass) c.loop-rest.at c.loop-rest.rest.now low c.loop-rest.invariant.blanks
