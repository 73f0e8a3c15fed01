use Rattle.std.proofs.Common.{◌≡◌, ◌+◌, inl, inr, nat_eq, ⊎_elim, sym, refl, ap, ◌∙◌}
use Rattle.std.proofs.lemmas.Bool.{eq-eqb, false≢true}
use Rattle.theory.specs.Bytes.{Identity}
use Rattle.theory.specs.Position.{Geometry, id_of}
use Rattle.theory.specs.Words.{id_before}
use Rattle.publication.specs.declared.pass.Pass.{Pass}
use Rattle.publication.specs.Steps.{geometry_of}
use Rattle.publication.specs.Claims.{exactly}
use Rattle.publication.proofs.Steppings.{goes_by, goes_further}
use Rattle.publication.proofs.Turned.{begins_exchanging, begins_looking, exchanged_call, found, found_call}
use Rattle.publication.proofs.turn.begin_next.Goals as goal

pub returns-then-was-found-clause-part : goal.returns-then-was-found-clause-part
returns-then-was-found-clause-part g c =
    goes_further g.W.WordCalls.fits g.W.WordCalls.pass_of g.W.WordCalls.name g.W.WordCalls.id g.W.WordCalls.took g.met.W.WordCalls.more _ _ _ _ _ _ (exactly 0) (exactly 0) (exactly 0)
    (goes_by g.W.WordCalls.fits g.W.WordCalls.pass_of g.W.WordCalls.name g.W.WordCalls.id g.W.WordCalls.took _ _ _ _ _ c.load_next-found.ensures.moved c.load_next-found.ensures.took (found_call _ _ c.args.count c.load_next-found.result c.load_next-found.ensures.told))
    (goes_by g.W.WordCalls.fits g.W.WordCalls.pass_of g.W.WordCalls.name g.W.WordCalls.id g.W.WordCalls.took _ _ _ _ _ c.exchange_next-was.ensures.moved c.exchange_next-was.ensures.took (exchanged_call _ _ c.args.count c.load_next-found.result c.exchange_next-was.result c.exchange_next-was.ensures.told))
    refl

pub returns-else-was-found-clause-part : goal.returns-else-was-found-clause-part
returns-else-was-found-clause-part g c =
    goes_further g.W.WordCalls.fits g.W.WordCalls.pass_of g.W.WordCalls.name g.W.WordCalls.id g.W.WordCalls.took g.met.W.WordCalls.more _ _ _ _ _ _ (exactly 0) (exactly 0) (exactly 0)
    (goes_by g.W.WordCalls.fits g.W.WordCalls.pass_of g.W.WordCalls.name g.W.WordCalls.id g.W.WordCalls.took _ _ _ _ _ c.load_next-found.ensures.moved c.load_next-found.ensures.took (found_call _ _ c.args.count c.load_next-found.result c.load_next-found.ensures.told))
    (goes_by g.W.WordCalls.fits g.W.WordCalls.pass_of g.W.WordCalls.name g.W.WordCalls.id g.W.WordCalls.took _ _ _ _ _ c.exchange_next-was.ensures.moved c.exchange_next-was.ensures.took (exchanged_call _ _ c.args.count c.load_next-found.result c.exchange_next-was.result c.exchange_next-was.ensures.told))
    refl

pub returns-else-was-found-clause-begins : goal.returns-else-was-found-clause-begins
returns-else-was-found-clause-begins g c =
    let p : Pass = g.W.WordCalls.pass_of c.args.words.now c.args.pass.now in
    let geometry : c.geometry-geometry.result ≡ geometry_of p = c.geometry-geometry.ensures.value ∙ ap (λ (i : Identity). i.geometry) c.identity.ensures in
    begins_exchanging p (g.W.WordCalls.pass_of c.load_next-found.new.self c.load_next-found.new.pass) (g.W.WordCalls.pass_of c.exchange_next-was.new.self c.exchange_next-was.new.pass) c.args.count c.load_next-found.result c.exchange_next-was.result c.is_of-else-was-found.result c.load_next-found.ensures.told c.exchange_next-was.ensures.told
    (c.is_two_before.ensures.0 c.if-not-is_two_before.false ∙ ap (λ (h : Geometry). id_before h c.args.count 2) geometry)
    (λ t. inr (c.is_of-else-was-found.ensures.0 t ∙ ap (λ (h : Geometry). id_of h (c.args.count + 1)) geometry), λ h. ⊎_elim (λ e. absurd (c.if-was-found.false e)) (λ e. c.is_of-else-was-found.ensures.1 (e ∙ ap (λ (h : Geometry). id_of h (c.args.count + 1)) (sym geometry))) h)

pub returns-then-was-found-clause-begins : goal.returns-then-was-found-clause-begins
returns-then-was-found-clause-begins g c =
    let p : Pass = g.W.WordCalls.pass_of c.args.words.now c.args.pass.now in
    let geometry : c.geometry-geometry.result ≡ geometry_of p = c.geometry-geometry.ensures.value ∙ ap (λ (i : Identity). i.geometry) c.identity.ensures in
    begins_exchanging p (g.W.WordCalls.pass_of c.load_next-found.new.self c.load_next-found.new.pass) (g.W.WordCalls.pass_of c.exchange_next-was.new.self c.exchange_next-was.new.pass) c.args.count c.load_next-found.result c.exchange_next-was.result (nat_eq c.exchange_next-was.result c.load_next-found.result) c.load_next-found.ensures.told c.exchange_next-was.ensures.told
    (c.is_two_before.ensures.0 c.if-not-is_two_before.false ∙ ap (λ (h : Geometry). id_before h c.args.count 2) geometry)
    (λ _. inl c.if-was-found.true, λ _. eq-eqb c.exchange_next-was.result c.load_next-found.result c.if-was-found.true)

pub returns-then-not-is_two_before-clause-begins : goal.returns-then-not-is_two_before-clause-begins
returns-then-not-is_two_before-clause-begins g c =
    let p : Pass = g.W.WordCalls.pass_of c.args.words.now c.args.pass.now in
    let geometry : c.geometry-geometry.result ≡ geometry_of p = c.geometry-geometry.ensures.value ∙ ap (λ (i : Identity). i.geometry) c.identity.ensures in
    begins_looking p (g.W.WordCalls.pass_of c.load_next-found.new.self c.load_next-found.new.pass) c.args.count c.load_next-found.result c.is_of.result c.load_next-found.ensures.told
    (λ two. false≢true (sym c.if-not-is_two_before.true ∙ c.is_two_before.ensures.1 (two ∙ ap (λ (h : Geometry). id_before h c.args.count 2) (sym geometry))))
    (λ t. c.is_of.ensures.0 t ∙ ap (λ (h : Geometry). id_of h (c.args.count + 1)) geometry, λ e. c.is_of.ensures.1 (e ∙ ap (λ (h : Geometry). id_of h (c.args.count + 1)) (sym geometry)))

pub returns-then-not-is_two_before-clause-begun : goal.returns-then-not-is_two_before-clause-begun
returns-then-not-is_two_before-clause-begun g c =
    let p : Pass = g.W.WordCalls.pass_of c.args.words.now c.args.pass.now in
    let geometry : c.geometry-geometry.result ≡ geometry_of p = c.geometry-geometry.ensures.value ∙ ap (λ (i : Identity). i.geometry) c.identity.ensures in
    λ t. ap (λ (u : Pass). u.seen.begun) (c.load_next-found.ensures.told.begun (c.is_of.ensures.0 t ∙ ap (λ (h : Geometry). id_of h (c.args.count + 1)) geometry))

pub returns-then-was-found-clause-begun : goal.returns-then-was-found-clause-begun
returns-then-was-found-clause-begun g c = λ _. ap (λ (u : Pass). u.seen.begun) (c.exchange_next-was.ensures.told.begun (inl c.if-was-found.true))

pub returns-else-was-found-clause-begun : goal.returns-else-was-found-clause-begun
returns-else-was-found-clause-begun g c =
    let p : Pass = g.W.WordCalls.pass_of c.args.words.now c.args.pass.now in
    let x : Pass = g.W.WordCalls.pass_of c.load_next-found.new.self c.load_next-found.new.pass in
    let geometry : c.geometry-geometry.result ≡ geometry_of p = c.geometry-geometry.ensures.value ∙ ap (λ (i : Identity). i.geometry) c.identity.ensures in
    λ t. ap (λ (u : Pass). u.seen.begun) (c.exchange_next-was.ensures.told.begun (inr (c.is_of-else-was-found.ensures.0 t ∙ ap (λ (h : Geometry). id_of h (c.args.count + 1)) geometry ∙ ap (λ (u : Pass). id_of u.identity.geometry (c.args.count + 1)) (sym (found p x c.args.count c.load_next-found.result c.load_next-found.ensures.told).0))))

pub returns-then-not-is_two_before-clause-part : goal.returns-then-not-is_two_before-clause-part
returns-then-not-is_two_before-clause-part g c =
    goes_by g.W.WordCalls.fits g.W.WordCalls.pass_of g.W.WordCalls.name g.W.WordCalls.id g.W.WordCalls.took _ _ _ _ _ c.load_next-found.ensures.moved c.load_next-found.ensures.took (found_call _ _ c.args.count c.load_next-found.result c.load_next-found.ensures.told)

pub exchange_next-was-requires-clause-fits : goal.exchange_next-was-requires-clause-fits
exchange_next-was-requires-clause-fits g c = c.load_next-found.ensures.moved.still

pub exchange_next-was-requires-clause-full : goal.exchange_next-was-requires-clause-full
exchange_next-was-requires-clause-full g c =
    let p : Pass = g.W.WordCalls.pass_of c.args.words.now c.args.pass.now in
    let x : Pass = g.W.WordCalls.pass_of c.load_next-found.new.self c.load_next-found.new.pass in
    (found p x c.args.count c.load_next-found.result c.load_next-found.ensures.told).2 ∙ c.requires.full

pub exchange_next-was-requires-clause-from : goal.exchange_next-was-requires-clause-from
exchange_next-was-requires-clause-from g c =
    let p : Pass = g.W.WordCalls.pass_of c.args.words.now c.args.pass.now in
    let x : Pass = g.W.WordCalls.pass_of c.load_next-found.new.self c.load_next-found.new.pass in
    let geometry : c.geometry-geometry.result ≡ geometry_of p = c.geometry-geometry.ensures.value ∙ ap (λ (i : Identity). i.geometry) c.identity.ensures in
    c.is_two_before.ensures.0 c.if-not-is_two_before.false ∙ ap (λ (h : Geometry). id_before h c.args.count 2) geometry ∙ ap (λ (u : Pass). id_before u.identity.geometry c.args.count 2) (sym (found p x c.args.count c.load_next-found.result c.load_next-found.ensures.told).0)
