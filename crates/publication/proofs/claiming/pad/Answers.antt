use Rattle.std.proofs.Common.{◌≡◌, ℕ, ◌+◌, ◌-◌, ◌*◌, ◌%◌, ◌<◌, ◌≤◌, sym, ap, ◌∙◌, subst}
use Rattle.theory.specs.Bytes.{Identity}
use Rattle.theory.specs.Position.{Geometry}
use Rattle.theory.specs.Words.{offset_in}
use Rattle.publication.specs.declared.pass.Pass.{Pass}
use Rattle.publication.specs.Steps.{count_in, geometry_of, start_in, term_of}
use Rattle.publication.specs.Claims.{HasBlank, exactly, padding_stores}
use Rattle.publication.proofs.Padded.{blank_here, none_more, one_more, pad_in_stream, pad_long, pad_short, pads_below, pads_over}
use Rattle.publication.proofs.Steppings.{goes_as, moves_none, took_none}
use Rattle.publication.proofs.claiming.pad.Goals as goal

pub fill_padding-requires-clause-fits : goal.fill_padding-requires-clause-fits
fill_padding-requires-clause-fits g c = c.requires.fits

pub fill_padding-requires-clause-in_stream : goal.fill_padding-requires-clause-in_stream
fill_padding-requires-clause-in_stream g c =
    let v : Pass = g.W.WordCalls.pass_of c.args.words.now c.args.pass.now in
    let geometry : c.geometry-geometry.result ≡ geometry_of v = c.geometry-geometry.ensures.value ∙ ap (λ (i : Identity). i.geometry) c.identity.ensures in
    let offset : c.term_offset-offset.result ≡ offset_in c.args.word = c.term_offset-offset.ensures in
    let count : c.term_count.result ≡ count_in (geometry_of v) c.args.word = c.term_count.ensures ∙ ap (λ (h : Geometry). count_in h c.args.word) geometry in
    let at : c.position_at-start.result ≡ start_in (geometry_of v) c.args.word =
    c.position_at-start.ensures ∙ ap (λ (h : Geometry). c.term_count.result * h.term_length + c.term_offset-offset.result) geometry ∙ (λ j. count j * term_of v + offset j) in
    let below : offset_in c.args.word < term_of v =
    (let term : c.term_length.result ≡ term_of v = c.term_length.ensures.value ∙ ap (λ (h : Geometry). h.term_length) geometry in subst (λ (x : ℕ × ℕ). x.0 < x.1) (λ j. (offset j, term j)) c.if-offset-term_length.true) in
    pad_in_stream v c.args.word c.position_at-start.result at c.requires.draft.term below

pub fill_padding-requires-clause-long : goal.fill_padding-requires-clause-long
fill_padding-requires-clause-long g c = pad_long c.term_offset-offset.result c.term_length-then-offset-term_length.result (ap (λ (n : ℕ). n % 32) c.term_offset-offset.ensures ∙ c.requires.draft.unit) c.term_length-then-offset-term_length.ensures.whole (subst (λ (n : ℕ). c.term_offset-offset.result < n) (c.term_length.ensures.value ∙ sym c.term_length-then-offset-term_length.ensures.value) c.if-offset-term_length.true)

pub fill_padding-requires-clause-short : goal.fill_padding-requires-clause-short
fill_padding-requires-clause-short g c =
    let v : Pass = g.W.WordCalls.pass_of c.args.words.now c.args.pass.now in
    let geometry : c.geometry-geometry.result ≡ geometry_of v = c.geometry-geometry.ensures.value ∙ ap (λ (i : Identity). i.geometry) c.identity.ensures in
    subst (λ (n : ℕ). c.term_length-then-offset-term_length.result - c.term_offset-offset.result ≤ n) (c.term_length-then-offset-term_length.ensures.value ∙ ap (λ (h : Geometry). h.term_length) geometry) (pad_short c.term_offset-offset.result c.term_length-then-offset-term_length.result)

pub fill_padding-requires-clause-blank : goal.fill_padding-requires-clause-blank
fill_padding-requires-clause-blank g c =
    let v : Pass = g.W.WordCalls.pass_of c.args.words.now c.args.pass.now in
    let geometry : c.geometry-geometry.result ≡ geometry_of v = c.geometry-geometry.ensures.value ∙ ap (λ (i : Identity). i.geometry) c.identity.ensures in
    let offset : c.term_offset-offset.result ≡ offset_in c.args.word = c.term_offset-offset.ensures in
    let count : c.term_count.result ≡ count_in (geometry_of v) c.args.word = c.term_count.ensures ∙ ap (λ (h : Geometry). count_in h c.args.word) geometry in
    let at : c.position_at-start.result ≡ start_in (geometry_of v) c.args.word =
    c.position_at-start.ensures ∙ ap (λ (h : Geometry). c.term_count.result * h.term_length + c.term_offset-offset.result) geometry ∙ (λ j. count j * term_of v + offset j) in
    let long : c.term_length-then-offset-term_length.result - c.term_offset-offset.result ≡ term_of v - offset_in c.args.word =
    (let term : c.term_length-then-offset-term_length.result ≡ term_of v = c.term_length-then-offset-term_length.ensures.value ∙ ap (λ (h : Geometry). h.term_length) geometry in λ j. term j - offset j) in
    let below : offset_in c.args.word < term_of v =
    (let term : c.term_length.result ≡ term_of v = c.term_length.ensures.value ∙ ap (λ (h : Geometry). h.term_length) geometry in subst (λ (x : ℕ × ℕ). x.0 < x.1) (λ j. (offset j, term j)) c.if-offset-term_length.true) in
    blank_here v c.args.word c.position_at-start.result (c.term_length-then-offset-term_length.result - c.term_offset-offset.result) at long (c.requires.draft.draft below)

pub returns-then-offset-term_length-clause-part : goal.returns-then-offset-term_length-clause-part
returns-then-offset-term_length-clause-part g c =
    let v : Pass = g.W.WordCalls.pass_of c.args.words.now c.args.pass.now in
    let geometry : c.geometry-geometry.result ≡ geometry_of v = c.geometry-geometry.ensures.value ∙ ap (λ (i : Identity). i.geometry) c.identity.ensures in
    let offset : c.term_offset-offset.result ≡ offset_in c.args.word = c.term_offset-offset.ensures in
    let count : c.term_count.result ≡ count_in (geometry_of v) c.args.word = c.term_count.ensures ∙ ap (λ (h : Geometry). count_in h c.args.word) geometry in
    let at : c.position_at-start.result ≡ start_in (geometry_of v) c.args.word =
    c.position_at-start.ensures ∙ ap (λ (h : Geometry). c.term_count.result * h.term_length + c.term_offset-offset.result) geometry ∙ (λ j. count j * term_of v + offset j) in
    let long : c.term_length-then-offset-term_length.result - c.term_offset-offset.result ≡ term_of v - offset_in c.args.word =
    (let term : c.term_length-then-offset-term_length.result ≡ term_of v = c.term_length-then-offset-term_length.ensures.value ∙ ap (λ (h : Geometry). h.term_length) geometry in λ j. term j - offset j) in
    let below : offset_in c.args.word < term_of v =
    (let term : c.term_length.result ≡ term_of v = c.term_length.ensures.value ∙ ap (λ (h : Geometry). h.term_length) geometry in subst (λ (x : ℕ × ℕ). x.0 < x.1) (λ j. (offset j, term j)) c.if-offset-term_length.true) in
    let blank : HasBlank v c.position_at-start.result (c.term_length-then-offset-term_length.result - c.term_offset-offset.result) = blank_here v c.args.word c.position_at-start.result (c.term_length-then-offset-term_length.result - c.term_offset-offset.result) at long (c.requires.draft.draft below) in
    goes_as g.W.WordCalls.fits g.W.WordCalls.pass_of g.W.WordCalls.name g.W.WordCalls.id g.W.WordCalls.took _ _ _ _ (exactly 1) padding_stores c.fill_padding.ensures.part (one_more v (g.W.WordCalls.pass_of c.fill_padding.new.self c.fill_padding.new.pass) c.position_at-start.result (c.term_length-then-offset-term_length.result - c.term_offset-offset.result) blank c.fill_padding.ensures.fills)

pub returns-then-offset-term_length-clause-pads : goal.returns-then-offset-term_length-clause-pads
returns-then-offset-term_length-clause-pads g c =
    let v : Pass = g.W.WordCalls.pass_of c.args.words.now c.args.pass.now in
    let geometry : c.geometry-geometry.result ≡ geometry_of v = c.geometry-geometry.ensures.value ∙ ap (λ (i : Identity). i.geometry) c.identity.ensures in
    let offset : c.term_offset-offset.result ≡ offset_in c.args.word = c.term_offset-offset.ensures in
    let count : c.term_count.result ≡ count_in (geometry_of v) c.args.word = c.term_count.ensures ∙ ap (λ (h : Geometry). count_in h c.args.word) geometry in
    let at : c.position_at-start.result ≡ start_in (geometry_of v) c.args.word =
    c.position_at-start.ensures ∙ ap (λ (h : Geometry). c.term_count.result * h.term_length + c.term_offset-offset.result) geometry ∙ (λ j. count j * term_of v + offset j) in
    let long : c.term_length-then-offset-term_length.result - c.term_offset-offset.result ≡ term_of v - offset_in c.args.word =
    (let term : c.term_length-then-offset-term_length.result ≡ term_of v = c.term_length-then-offset-term_length.ensures.value ∙ ap (λ (h : Geometry). h.term_length) geometry in λ j. term j - offset j) in
    let below : offset_in c.args.word < term_of v =
    (let term : c.term_length.result ≡ term_of v = c.term_length.ensures.value ∙ ap (λ (h : Geometry). h.term_length) geometry in subst (λ (x : ℕ × ℕ). x.0 < x.1) (λ j. (offset j, term j)) c.if-offset-term_length.true) in
    pads_below v (g.W.WordCalls.pass_of c.fill_padding.new.self c.fill_padding.new.pass) c.args.word c.position_at-start.result (c.term_length-then-offset-term_length.result - c.term_offset-offset.result) at long below c.fill_padding.ensures.fills

pub returns-else-offset-term_length-clause-part : goal.returns-else-offset-term_length-clause-part
returns-else-offset-term_length-clause-part g c =
    goes_as g.W.WordCalls.fits g.W.WordCalls.pass_of g.W.WordCalls.name g.W.WordCalls.id g.W.WordCalls.took _ _ _ _ (exactly 0) padding_stores
    (record { moved = moves_none g.W.WordCalls.fits g.W.WordCalls.pass_of g.W.WordCalls.name g.W.WordCalls.id _ _ c.requires.fits; took = took_none g.W.WordCalls.took g.W.WordCalls.pass_of _ _ (g.met.W.WordCalls.none _ _) })
    (none_more (g.W.WordCalls.pass_of c.args.words.now c.args.pass.now))

pub returns-else-offset-term_length-clause-pads : goal.returns-else-offset-term_length-clause-pads
returns-else-offset-term_length-clause-pads g c =
    let v : Pass = g.W.WordCalls.pass_of c.args.words.now c.args.pass.now in
    let geometry : c.geometry-geometry.result ≡ geometry_of v = c.geometry-geometry.ensures.value ∙ ap (λ (i : Identity). i.geometry) c.identity.ensures in
    let term : c.term_length.result ≡ term_of v = c.term_length.ensures.value ∙ ap (λ (h : Geometry). h.term_length) geometry in
    pads_over v c.args.word (subst (λ (x : ℕ × ℕ). x.0 ≤ x.1) (λ j. (term j, c.term_offset-offset.ensures j)) c.if-offset-term_length.false)
