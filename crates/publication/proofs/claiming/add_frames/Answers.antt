use Rattle.std.proofs.Common.{◌≡◌, ℕ, suc, ◌+◌, ◌*◌, ◌<◌, ◌≤◌, arith, sym, ap, ◌∙◌, subst, length, List}
use Rattle.theory.specs.Bytes.{Identity}
use Rattle.theory.specs.Position.{Geometry, IsGeometry, framed_length}
use Rattle.theory.specs.Words.{offset_in}
use Rattle.publication.specs.declared.pass.FrameWords.{FrameWords}
use Rattle.publication.specs.declared.pass.Pass.{Pass}
use Rattle.publication.specs.Steps.{addition, count_in, geometry_of, message_at, noted, opened, start_in}
use Rattle.publication.specs.Claims.{Takes, TurnsFrom, exactly, padding_stores}
use Rattle.publication.specs.Looks.{EndsTerm}
use Rattle.publication.proofs.Steppings.{frames_kept, goes_as, goes_by, goes_further}
use Rattle.publication.proofs.Adding.{full_then, granted, to_pad, tripped_call, tripped_frames, tripping}
use Rattle.publication.proofs.claiming.add_frames.Goals as goal

pub returns-then-offset-covered-clause-part : goal.returns-then-offset-covered-clause-part
returns-then-offset-covered-clause-part g c =
    let geometry : c.geometry-geometry.result ≡ (geometry_of (g.W.WordCalls.pass_of c.args.words.now c.args.pass.now)) = c.geometry-geometry.ensures.value ∙ ap (λ (i : Identity). i.geometry) c.identity.ensures in
    let covered : c.framed_length-covered.result ≡ framed_length (geometry_of (g.W.WordCalls.pass_of c.args.words.now c.args.pass.now)) c.args.size = c.framed_length-covered.ensures ∙ ap (λ (h : Geometry). framed_length h c.args.size) geometry in
    let offset : c.term_offset-offset.result ≡ offset_in c.add-word.result = c.term_offset-offset.ensures in
    let term : c.term_length.result ≡ (geometry_of (g.W.WordCalls.pass_of c.args.words.now c.args.pass.now)).term_length = c.term_length.ensures.value ∙ ap (λ (h : Geometry). h.term_length) geometry in
    let found : c.term_count-found.result ≡ count_in (geometry_of (g.W.WordCalls.pass_of c.args.words.now c.args.pass.now)) c.add-word.result = c.term_count-found.ensures ∙ ap (λ (h : Geometry). count_in h c.add-word.result) geometry in
    let inside : offset_in c.add-word.result + framed_length (geometry_of (g.W.WordCalls.pass_of c.args.words.now c.args.pass.now)) c.args.size ≤ (geometry_of (g.W.WordCalls.pass_of c.args.words.now c.args.pass.now)).term_length = omega (arith, covered, offset, term, c.if-offset-covered.true) in
    let e : (g.W.WordCalls.pass_of c.add-word.new.self c.add-word.new.pass) ≡ noted (addition (g.W.WordCalls.pass_of c.args.words.now c.args.pass.now) c.args.size c.add-word.result) (opened (g.W.WordCalls.pass_of c.args.words.now c.args.pass.now) (message_at (g.W.WordCalls.pass_of c.args.words.now c.args.pass.now) c.add-word.result c.args.size)) = c.add-word.ensures.told.fits inside in
    let frames : length (g.W.WordCalls.pass_of c.add-word.new.self c.add-word.new.pass).work.frames ≡ length (g.W.WordCalls.pass_of c.args.words.now c.args.pass.now).work.frames = ap (λ (u : Pass). length u.work.frames) e in
    goes_as g.W.WordCalls.fits g.W.WordCalls.pass_of g.W.WordCalls.name g.W.WordCalls.id g.W.WordCalls.took _ _ _ _ (exactly 0) padding_stores
    (goes_by g.W.WordCalls.fits g.W.WordCalls.pass_of g.W.WordCalls.name g.W.WordCalls.id g.W.WordCalls.took _ _ _ _ _ c.add-word.ensures.moved c.add-word.ensures.took (ap (λ (u : Pass). u.call) e))
    (let z : 0 ≡ padding_stores (g.W.WordCalls.pass_of c.args.words.now c.args.pass.now) (g.W.WordCalls.pass_of c.add-word.new.self c.add-word.new.pass) = omega (arith, frames) in z)

pub returns-then-offset-covered-clause-accepted : goal.returns-then-offset-covered-clause-accepted
returns-then-offset-covered-clause-accepted g c =
    let geometry : c.geometry-geometry.result ≡ (geometry_of (g.W.WordCalls.pass_of c.args.words.now c.args.pass.now)) = c.geometry-geometry.ensures.value ∙ ap (λ (i : Identity). i.geometry) c.identity.ensures in
    let covered : c.framed_length-covered.result ≡ framed_length (geometry_of (g.W.WordCalls.pass_of c.args.words.now c.args.pass.now)) c.args.size = c.framed_length-covered.ensures ∙ ap (λ (h : Geometry). framed_length h c.args.size) geometry in
    let offset : c.term_offset-offset.result ≡ offset_in c.add-word.result = c.term_offset-offset.ensures in
    let term : c.term_length.result ≡ (geometry_of (g.W.WordCalls.pass_of c.args.words.now c.args.pass.now)).term_length = c.term_length.ensures.value ∙ ap (λ (h : Geometry). h.term_length) geometry in
    let found : c.term_count-found.result ≡ count_in (geometry_of (g.W.WordCalls.pass_of c.args.words.now c.args.pass.now)) c.add-word.result = c.term_count-found.ensures ∙ ap (λ (h : Geometry). count_in h c.add-word.result) geometry in
    let inside : offset_in c.add-word.result + framed_length (geometry_of (g.W.WordCalls.pass_of c.args.words.now c.args.pass.now)) c.args.size ≤ (geometry_of (g.W.WordCalls.pass_of c.args.words.now c.args.pass.now)).term_length = omega (arith, covered, offset, term, c.if-offset-covered.true) in
    let from : c.position_at.result ≡ start_in (geometry_of (g.W.WordCalls.pass_of c.args.words.now c.args.pass.now)) c.add-word.result =
    c.position_at.ensures ∙ ap (λ (h : Geometry). c.term_count-found.result * h.term_length + c.term_offset-offset.result) geometry ∙ ap (λ (n : ℕ). n * (geometry_of (g.W.WordCalls.pass_of c.args.words.now c.args.pass.now)).term_length + c.term_offset-offset.result) found ∙ ap (λ (n : ℕ). count_in (geometry_of (g.W.WordCalls.pass_of c.args.words.now c.args.pass.now)) c.add-word.result * (geometry_of (g.W.WordCalls.pass_of c.args.words.now c.args.pass.now)).term_length + n) offset in
    granted (g.W.WordCalls.pass_of c.args.words.now c.args.pass.now) (g.W.WordCalls.pass_of c.add-word.new.self c.add-word.new.pass) c.args.size c.add-word.result c.add-word.ensures.told c.args.count c.position_at.result (subst IsGeometry geometry c.geometry-geometry.ensures.legal) c.requires.count inside from

pub turn_from-requires-clause-full : goal.turn_from-requires-clause-full
turn_from-requires-clause-full g c =
    let geometry : c.geometry-geometry.result ≡ (geometry_of (g.W.WordCalls.pass_of c.args.words.now c.args.pass.now)) = c.geometry-geometry.ensures.value ∙ ap (λ (i : Identity). i.geometry) c.identity.ensures in
    let covered : c.framed_length-covered.result ≡ framed_length (geometry_of (g.W.WordCalls.pass_of c.args.words.now c.args.pass.now)) c.args.size = c.framed_length-covered.ensures ∙ ap (λ (h : Geometry). framed_length h c.args.size) geometry in
    let offset : c.term_offset-offset.result ≡ offset_in c.add-word.result = c.term_offset-offset.ensures in
    let term : c.term_length.result ≡ (geometry_of (g.W.WordCalls.pass_of c.args.words.now c.args.pass.now)).term_length = c.term_length.ensures.value ∙ ap (λ (h : Geometry). h.term_length) geometry in
    let found : c.term_count-found.result ≡ count_in (geometry_of (g.W.WordCalls.pass_of c.args.words.now c.args.pass.now)) c.add-word.result = c.term_count-found.ensures ∙ ap (λ (h : Geometry). count_in h c.add-word.result) geometry in
    let over : (geometry_of (g.W.WordCalls.pass_of c.args.words.now c.args.pass.now)).term_length < offset_in c.add-word.result + framed_length (geometry_of (g.W.WordCalls.pass_of c.args.words.now c.args.pass.now)) c.args.size = omega (arith, covered, offset, term, c.if-offset-covered.false) in
    full_then (g.W.WordCalls.pass_of c.args.words.now c.args.pass.now) (g.W.WordCalls.pass_of c.add-word.new.self c.add-word.new.pass) c.args.size c.add-word.result c.add-word.ensures.told over (g.W.WordCalls.pass_of c.pad.new.words c.pad.new.pass) c.pad.ensures.pads ∙ ap suc (sym found)

pub returns-clause-part : goal.returns-clause-part
returns-clause-part g c =
    let geometry : c.geometry-geometry.result ≡ (geometry_of (g.W.WordCalls.pass_of c.args.words.now c.args.pass.now)) = c.geometry-geometry.ensures.value ∙ ap (λ (i : Identity). i.geometry) c.identity.ensures in
    let covered : c.framed_length-covered.result ≡ framed_length (geometry_of (g.W.WordCalls.pass_of c.args.words.now c.args.pass.now)) c.args.size = c.framed_length-covered.ensures ∙ ap (λ (h : Geometry). framed_length h c.args.size) geometry in
    let offset : c.term_offset-offset.result ≡ offset_in c.add-word.result = c.term_offset-offset.ensures in
    let term : c.term_length.result ≡ (geometry_of (g.W.WordCalls.pass_of c.args.words.now c.args.pass.now)).term_length = c.term_length.ensures.value ∙ ap (λ (h : Geometry). h.term_length) geometry in
    let found : c.term_count-found.result ≡ count_in (geometry_of (g.W.WordCalls.pass_of c.args.words.now c.args.pass.now)) c.add-word.result = c.term_count-found.ensures ∙ ap (λ (h : Geometry). count_in h c.add-word.result) geometry in
    let over : (geometry_of (g.W.WordCalls.pass_of c.args.words.now c.args.pass.now)).term_length < offset_in c.add-word.result + framed_length (geometry_of (g.W.WordCalls.pass_of c.args.words.now c.args.pass.now)) c.args.size = omega (arith, covered, offset, term, c.if-offset-covered.false) in
    let before : length (g.W.WordCalls.pass_of c.add-word.new.self c.add-word.new.pass).work.frames ≡ length (g.W.WordCalls.pass_of c.args.words.now c.args.pass.now).work.frames = ap (λ (fs : List FrameWords). length fs) (tripped_frames (g.W.WordCalls.pass_of c.args.words.now c.args.pass.now) (g.W.WordCalls.pass_of c.add-word.new.self c.add-word.new.pass) c.args.size c.add-word.result c.add-word.ensures.told over) in
    let after : length (g.W.WordCalls.pass_of c.turn_from.new.words c.turn_from.new.pass).work.frames ≡ length (g.W.WordCalls.pass_of c.pad.new.words c.pad.new.pass).work.frames = frames_kept (g.W.WordCalls.pass_of c.pad.new.words c.pad.new.pass) (g.W.WordCalls.pass_of c.turn_from.new.words c.turn_from.new.pass) c.turn_from.ensures.turns.after in
    goes_further g.W.WordCalls.fits g.W.WordCalls.pass_of g.W.WordCalls.name g.W.WordCalls.id g.W.WordCalls.took g.met.W.WordCalls.more _ _ _ _ _ _ padding_stores (exactly 0) padding_stores
    (goes_further g.W.WordCalls.fits g.W.WordCalls.pass_of g.W.WordCalls.name g.W.WordCalls.id g.W.WordCalls.took g.met.W.WordCalls.more _ _ _ _ _ _ (exactly 0) padding_stores padding_stores
    (goes_by g.W.WordCalls.fits g.W.WordCalls.pass_of g.W.WordCalls.name g.W.WordCalls.id g.W.WordCalls.took _ _ _ _ _ c.add-word.ensures.moved c.add-word.ensures.took (tripped_call (g.W.WordCalls.pass_of c.args.words.now c.args.pass.now) (g.W.WordCalls.pass_of c.add-word.new.self c.add-word.new.pass) c.args.size c.add-word.result c.add-word.ensures.told over))
    c.pad.ensures.part (omega (arith, before)))
    c.turn_from.ensures.part
    (omega (arith, before, after))

pub returns-clause-refused : goal.returns-clause-refused
returns-clause-refused g c =
    let geometry : c.geometry-geometry.result ≡ (geometry_of (g.W.WordCalls.pass_of c.args.words.now c.args.pass.now)) = c.geometry-geometry.ensures.value ∙ ap (λ (i : Identity). i.geometry) c.identity.ensures in
    let covered : c.framed_length-covered.result ≡ framed_length (geometry_of (g.W.WordCalls.pass_of c.args.words.now c.args.pass.now)) c.args.size = c.framed_length-covered.ensures ∙ ap (λ (h : Geometry). framed_length h c.args.size) geometry in
    let offset : c.term_offset-offset.result ≡ offset_in c.add-word.result = c.term_offset-offset.ensures in
    let term : c.term_length.result ≡ (geometry_of (g.W.WordCalls.pass_of c.args.words.now c.args.pass.now)).term_length = c.term_length.ensures.value ∙ ap (λ (h : Geometry). h.term_length) geometry in
    let found : c.term_count-found.result ≡ count_in (geometry_of (g.W.WordCalls.pass_of c.args.words.now c.args.pass.now)) c.add-word.result = c.term_count-found.ensures ∙ ap (λ (h : Geometry). count_in h c.add-word.result) geometry in
    let over : (geometry_of (g.W.WordCalls.pass_of c.args.words.now c.args.pass.now)).term_length < offset_in c.add-word.result + framed_length (geometry_of (g.W.WordCalls.pass_of c.args.words.now c.args.pass.now)) c.args.size = omega (arith, covered, offset, term, c.if-offset-covered.false) in
    tripping (g.W.WordCalls.pass_of c.args.words.now c.args.pass.now) (g.W.WordCalls.pass_of c.add-word.new.self c.add-word.new.pass) c.args.size c.add-word.result c.add-word.ensures.told over (g.W.WordCalls.pass_of c.pad.new.words c.pad.new.pass) c.pad.ensures.pads (g.W.WordCalls.pass_of c.turn_from.new.words c.turn_from.new.pass) c.args.count c.turn_from.result c.requires.count (subst (λ (n : ℕ). Takes (TurnsFrom (geometry_of (g.W.WordCalls.pass_of c.pad.new.words c.pad.new.pass)) n) (g.W.WordCalls.pass_of c.pad.new.words c.pad.new.pass) (g.W.WordCalls.pass_of c.turn_from.new.words c.turn_from.new.pass)) found c.turn_from.ensures.turns) (subst (λ (n : ℕ). EndsTerm n c.turn_from.result) found c.turn_from.ensures.why)

pub pad-requires-clause-fits : goal.pad-requires-clause-fits
pad-requires-clause-fits g c = c.add-word.ensures.moved.still

pub pad-requires-clause-draft : goal.pad-requires-clause-draft
pad-requires-clause-draft g c =
    let geometry : c.geometry-geometry.result ≡ (geometry_of (g.W.WordCalls.pass_of c.args.words.now c.args.pass.now)) = c.geometry-geometry.ensures.value ∙ ap (λ (i : Identity). i.geometry) c.identity.ensures in
    let covered : c.framed_length-covered.result ≡ framed_length (geometry_of (g.W.WordCalls.pass_of c.args.words.now c.args.pass.now)) c.args.size = c.framed_length-covered.ensures ∙ ap (λ (h : Geometry). framed_length h c.args.size) geometry in
    let offset : c.term_offset-offset.result ≡ offset_in c.add-word.result = c.term_offset-offset.ensures in
    let term : c.term_length.result ≡ (geometry_of (g.W.WordCalls.pass_of c.args.words.now c.args.pass.now)).term_length = c.term_length.ensures.value ∙ ap (λ (h : Geometry). h.term_length) geometry in
    let over : (geometry_of (g.W.WordCalls.pass_of c.args.words.now c.args.pass.now)).term_length < offset_in c.add-word.result + framed_length (geometry_of (g.W.WordCalls.pass_of c.args.words.now c.args.pass.now)) c.args.size = omega (arith, covered, offset, term, c.if-offset-covered.false) in
    to_pad (g.W.WordCalls.pass_of c.args.words.now c.args.pass.now) (g.W.WordCalls.pass_of c.add-word.new.self c.add-word.new.pass) c.args.size c.add-word.result c.add-word.ensures.told over

pub turn_from-requires-clause-fits : goal.turn_from-requires-clause-fits
turn_from-requires-clause-fits g c = c.pad.ensures.part.moved.still
