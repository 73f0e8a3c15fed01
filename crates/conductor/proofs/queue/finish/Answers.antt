use Rattle.std.proofs.Common.{◌≡◌, ◌+◌, [], ◌∷◌, ◌++◌, length, sym, ap, ◌∙◌, arith, append-nil, length-append}
use Rattle.crossbeam_queue.specs.Passes.{view}
use Rattle.conductor.specs.declared.hand.Hand.{Hand}
use Rattle.conductor.specs.Commands.{of}
use Rattle.conductor.specs.Parties.{ClientSeen, TakerSeen, accepted_of}
use Rattle.conductor.proofs.Moves.{ends, totals, known_then, unknown_then}
use Rattle.conductor.proofs.Rows.{past_all, last_of, queue_of}
use Rattle.conductor.proofs.queue.finish.Goals as goal

pub loop-client-init : goal.loop-client-init
loop-client-init g c =
    let t = c.taker.invariant in
    let many = c.requires.clients.many in
    record {
      front = ([], sym (append-nil c.args.clients.items));
      queue = ap (λ (y : TakerSeen). y.queue) c.taker.view_is ∙ c.requires.taker;
      slots = t.0;
      takes = t.1;
      left = t.3 ∙ sym many;
      taken = ap (λ (y : TakerSeen). y.taken) c.taker.view_is;
      ended = λ p le. ap (of p) t.4 ∙ sym (past_all c.args.clients.items p le);
      unknown = λ p lt. ap (of p) t.4;
    }

pub absorb-requires-clause-queue : goal.absorb-requires-clause-queue
absorb-requires-clause-queue g c =
    let h = c.loop-client.invariant in
    let last = last_of c.args.clients.items c.pop.new.self.items c.in-Some.client h.front.0 (h.front.1 ∙ ap (λ l. l ++ h.front.0) c.in-Some.ensures.items) in
    ((h.queue ∙ sym c.conductor.view_is, h.slots), (ap (λ (y : ClientSeen). y.queue) c.client.view_is ∙ queue_of _ _ _ _ _ c.requires.clients last.here ∙ sym c.conductor.view_is, c.client.invariant.0))

pub absorb-requires-clause-rule : goal.absorb-requires-clause-rule
absorb-requires-clause-rule g c =
    let h = c.loop-client.invariant in
    let last = last_of c.args.clients.items c.pop.new.self.items c.in-Some.client h.front.0 (h.front.1 ∙ ap (λ l. l ++ h.front.0) c.in-Some.ensures.items) in
    let number : c.in-Some.client.number ≡ length c.pop.new.self.items = c.requires.clients.numbers _ _ last.here in
    let is : (view c.client.inside.seat).client ≡ length c.pop.new.self.items = c.client.invariant.2 ∙ ap (λ (y : ClientSeen). y.number) c.client.view_is ∙ number in
    let many : length c.loop-client.clients.items ≡ length c.pop.new.self.items + 1 = ap length c.in-Some.ensures.items ∙ length-append c.pop.new.self.items (c.in-Some.client ∷ []) in
    ends _ _ _ _ h.takes c.client.invariant.1 (h.left ∙ many ∙ ap (λ n. n + 1) (sym is))

pub loop-client-preserved : goal.loop-client-preserved
loop-client-preserved g c =
    let h = c.loop-client.invariant in
    let last = last_of c.args.clients.items c.pop.new.self.items c.in-Some.client h.front.0 (h.front.1 ∙ ap (λ l. l ++ h.front.0) c.in-Some.ensures.items) in
    let number : c.in-Some.client.number ≡ length c.pop.new.self.items = c.requires.clients.numbers _ _ last.here in
    let is : (view c.client.inside.seat).client ≡ length c.pop.new.self.items = c.client.invariant.2 ∙ ap (λ (y : ClientSeen). y.number) c.client.view_is ∙ number in
    let many : length c.loop-client.clients.items ≡ length c.pop.new.self.items + 1 = ap length c.in-Some.ensures.items ∙ length-append c.pop.new.self.items (c.in-Some.client ∷ []) in
    let now = c.absorb.ensures.rule in
    let next : length c.loop-client.clients.items ≡ (view c.client.inside.seat).client + 1 = many ∙ ap (λ n. n + 1) (sym is) in
    let put : (view c.client.inside.seat).put ≡ accepted_of c.args.clients.items (view c.client.inside.seat).client = ap (λ (y : ClientSeen). y.accepted) c.client.view_is ∙ sym last.accepted ∙ ap (accepted_of c.args.clients.items) (sym is) in
    record {
      front = (c.in-Some.client ∷ h.front.0, last.whole);
      queue = c.absorb.ensures.queue.0 ∙ h.queue;
      slots = c.absorb.ensures.queue.2 ∙ h.slots;
      takes = ap (λ (v : Hand). v.takes) now ∙ h.takes;
      left = ap (λ (v : Hand). v.left) now ∙ is;
      taken = ap (λ (v : Hand). v.taken) now ∙ h.taken;
      ended = λ p le. ap (λ (v : Hand). of p v.known) now
          ∙ known_then (length c.loop-client.clients.items) (accepted_of c.args.clients.items) (view c.loop-client.seat).known (view c.client.inside.seat).client (view c.client.inside.seat).put next put h.ended h.unknown p (omega (arith, is, le));
      unknown = λ p lt. ap (λ (v : Hand). of p v.known) now ∙ unknown_then (length c.loop-client.clients.items) (view c.loop-client.seat).known (view c.client.inside.seat).client (view c.client.inside.seat).put next h.unknown p (omega (arith, is, lt));
    }

pub len_as-requires-clause-rule : goal.len_as-requires-clause-rule
len_as-requires-clause-rule g c = totals _ _ c.loop-client.invariant.takes (c.loop-client.invariant.left ∙ sym c.loop-client.clients.ok.0 ∙ c.in_default.ensures.cases.0)
