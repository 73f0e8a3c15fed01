-- What a sender's cycle left is a step of the states that the simulation shows.
use Rattle.std.proofs.Common.{◌≡◌, map, ℕ, ◌≤◌, List, ◌∷◌, ◌++◌, length, Bool, true, false, Option, Some, refl, sym, ap, ◌∙◌, subst, arith}
use Rattle.std.specs.Prelude.{IfSome, slice_set, ◌&&◌, if◌then◌else◌}
use Rattle.std.specs.Option.{option_to_list}
use Rattle.theory.specs.Bytes.{Identity}
use Rattle.theory.specs.Datagrams.{frames_of}
use Rattle.theory.specs.Entry.{committed}
use Rattle.theory.specs.GroupLimit.{Ticked}
use Rattle.flow_control.specs.Laws.{GroupKeepsEnough, OneKeepsEnough}
use Rattle.flow_control.specs.Stream.{flow_after, reached_of, tick_after}
use Rattle.flow_control.specs.declared.stream.StreamFlow.{StreamFlow}
use Rattle.theory.specs.Placed.{Chain}
use Rattle.theory.specs.Position.{Geometry}
use Rattle.theory.specs.Timing.{is_heartbeat_due, seen}
use Rattle.model.specs.Sender.{Sender}
use Rattle.frame_source.specs.Sources.{Source}
use Rattle.one_hand.specs.HandReads.{MovesReader}
use Rattle.one_hand.specs.Reads.{source_of}
use Rattle.one_hand.specs.Stream.{Stream, position_of, with_consumer}
use Rattle.script_meaning.specs.ScriptState.{seat_of}
use Rattle.one_hand.specs.declared.hand_reader.HandReader.{HandReader}
use Rattle.sender.specs.Resending.Handler.{Handler, after_due, due_range}
use Rattle.sender.specs.Resending.Laws.{NearStayNear}
use Rattle.script.specs.Meaning as commands
use Rattle.sender.specs.Naming.{after_due as after_naming, is_due}
use Rattle.simulation.specs.Lines.{line_contents}
use Rattle.simulation.specs.declared.line.Line.{Line}
use Rattle.script_meaning.specs.Answers.{after_cycle, again_of, behind_new, clock_at, cycle_limit, cycled, has_come, lines_of, named, or_nothing, packet_lines, wires_of}
use Rattle.sender.specs.Cycling.{GivesAgain, GivesNew, datagrams, is_heard, is_silent, sent_wires}
use Rattle.sender.specs.Sending.{AreThere, Cycles, Sending, SendsFrom, at_moment, all_noted}
use Rattle.simulation.proofs.Flows.{flow_reaches, flow_ticks}
use Rattle.simulation.proofs.HandlerSteps.{due_is, later, noted_is, sent_chain}
use Rattle.simulation.specs.Simulated.{IsAnswered, IsSenderOf, Simulated, StandsSomewhere}
use Rattle.script_meaning.specs.Standing.{AlwaysAgain, AlwaysThere, handler_of}

named_at : (x : Sender) (due : Bool) → (named x due).at ≡ x.at
named_at x true = refl
named_at x false = refl

named_group : (x : Sender) (due : Bool) → (named x due).group ≡ x.group
named_group x true = refl
named_group x false = refl

named_heard : (x : Sender) (due : Bool) → (named x due).heard ≡ x.heard
named_heard x true = refl
named_heard x false = refl

named_handler : (g : Geometry) (start k : ℕ) (x : Sender) (due : Bool) → handler_of g start x k ≡ handler_of g start (named x due) k
named_handler g start k x true = refl
named_handler g start k x false = refl

-- the log's first consumer is where the sender is
behind_log : (others : List (Option ℕ)) (l m : Stream) (r q at end : ℕ) → l.consumers ≡ Some at ∷ others → r ≡ 0 → MovesReader r l q m → position_of m q ≡ end → m ≡ record l { consumers = Some end ∷ others }
behind_log others l m r q at end one zeroth h moved =
    let first : position_of m r ≡ end = ap (position_of m) (sym h.number_is) ∙ moved in
    h.moved
    ∙ ap (with_consumer l r) first
    ∙ ap (λ (n : ℕ). with_consumer l n end) zeroth
    ∙ ap (λ (cs : List (Option ℕ)). record l { consumers = slice_set cs 0 (Some end) }) one

-- what is known of a cycle: where the sender is, and what it sends is what the state's sender sends
pub send_answered : {Looked : Type 0} → NearStayNear → AlwaysAgain → OneKeepsEnough → GroupKeepsEnough → (old : Simulated) (now : ℕ) (m : Stream) (t : Sending HandReader StreamFlow) (packets sent : List (List ℕ)) (before after : List Line) → old.sender.reads.number ≡ 0 → IsSenderOf old.sender (source_of old.log old.sender.reads.number) → Cycles Looked (λ fs gs. gs ≡ fs) tick_after reached_of (at_moment old.sender now) (source_of old.log old.sender.reads.number) (source_of m t.reads.number) t sent → MovesReader old.sender.reads.number old.log t.reads.number m → packets ≡ old.packets ++ sent → line_contents after ≡ line_contents before ++ or_nothing (packet_lines (length old.packets) sent) → IsAnswered old (commands.Send now) before after (record old { log = m; sender = t; packets = packets })
send_answered near always one group old now m t packets sent before after zeroth from c moves given told = λ s h standing.
    let y = c.cycle in
    let v = old.sender in
    let g = s.log.identity.geometry in
    let start = s.log.start in
    let k = h.sender.handler.clock in
    let clock : seen v.clock now ≡ clock_at s now = ap (λ n. seen n now) h.sender.clock in
    let identity : v.identity ≡ s.log.identity = sym from.identity ∙ ap (λ (l : Stream). l.identity) (sym h.log) in
    let at : v.handler.at ≡ s.sender.at = ap (λ (x : Handler). x.at) h.sender.handler.is in
    let frames : committed m.entries ≡ committed s.log.entries = c.reads.grows ∙ ap (λ (l : Stream). committed l.entries) (sym h.log) in
    let z = named s.sender y.setup in
    let z_at : z.at ≡ s.sender.at = named_at s.sender y.setup in
    let flow : tick_after v.flow (seen v.clock now) ≡ flow_after s.sender.group start (Ticked (clock_at s now) ∷ s.sender.heard) =
    ap (λ c. tick_after v.flow c) clock ∙ ap (λ q. tick_after q (clock_at s now)) h.sender.flow ∙ flow_ticks s.sender.group start s.sender.heard (clock_at s now) in
    let limit : reached_of (tick_after v.flow (seen v.clock now)) ≡ cycle_limit s now = ap reached_of flow ∙ flow_reaches one group s.sender.group h.sender.small start (Ticked (clock_at s now) ∷ s.sender.heard) in
    let new : GivesNew g (committed s.log.entries) s.sender.at (cycle_limit s now) y.fresh =
    subst (λ (i : Identity). GivesNew i.geometry (committed s.log.entries) s.sender.at (cycle_limit s now) y.fresh) identity
    (subst (λ fs. GivesNew v.identity.geometry fs s.sender.at (cycle_limit s now) y.fresh) frames
    (subst (λ p. GivesNew v.identity.geometry (committed m.entries) p (cycle_limit s now) y.fresh) at
    (subst (λ n. GivesNew v.identity.geometry (committed m.entries) v.handler.at n y.fresh) limit c.is.new))) in
    let chain = sent_chain z.at new.to y.fresh new.reads _ new.ends (subst (λ p. Chain p new.to new.reads) (sym z_at) new.read.chain) in
    let x = behind_new s now y in
    let zs : handler_of g start s.sender k ≡ handler_of g start z k = named_handler g start k s.sender y.setup in
    let noted_so : all_noted v.handler (frames_of y.fresh) ≡ handler_of g start x k =
    ap (λ (q : Handler). all_noted q (frames_of y.fresh)) (h.sender.handler.is ∙ zs) ∙ noted_is near g start k chain.0 z (frames_of y.fresh) chain.1 in
    let x_clock : x.clock ≡ clock_at s now = refl in
    let low : k ≤ x.clock = subst (λ n. k ≤ n) (sym x_clock) (later k s.sender.clock now h.sender.handler.seen) in
    let again : y.again ≡ again_of g x =
    always s now k y standing new
    (subst (λ (q : Handler). GivesAgain g (committed s.log.entries) (due_range q) y.again) noted_so
    (subst (λ (i : Identity). GivesAgain i.geometry (committed s.log.entries) (due_range (all_noted v.handler (frames_of y.fresh))) y.again) identity
    (subst (λ fs. GivesAgain v.identity.geometry fs (due_range (all_noted v.handler (frames_of y.fresh))) y.again) frames c.is.again))) in
    let n = cycled s now y in
    let handler : t.handler ≡ handler_of g start n x.clock =
    ap (λ (u : Sending HandReader StreamFlow). u.handler) c.state
    ∙ ap (λ (q : Handler). after_due q (seen v.clock now)) noted_so
    ∙ ap (λ c. after_due (handler_of g start x k) c) (clock ∙ sym x_clock)
    ∙ due_is g start k x (frames_of y.again) low in
    let end : t.handler.at ≡ n.at = ap (λ (q : Handler). q.at) handler in
    let wires : sent ≡ datagrams (wires_of s now y) =
    c.sends
    ∙ ap (λ i. datagrams (sent_wires i v.handler.at t.handler.at y)) identity
    ∙ ap (λ p. datagrams (sent_wires s.log.identity p t.handler.at y)) at
    ∙ ap (λ p. datagrams (sent_wires s.log.identity s.sender.at p y)) end in
    let moved : position_of m t.reads.number ≡ n.at = ap (λ (x : Source). x.position) c.reads.moved ∙ end in
    let others = map seat_of s.readers in
    let log : m ≡ record old.log { consumers = Some n.at ∷ others } = behind_log others old.log m v.reads.number t.reads.number s.sender.at n.at h.consumers zeroth moves moved in
    let due : y.setup ≡ is_due s.naming (clock_at s now) = c.is.setup ∙ ap (λ n. is_due n (seen v.clock now)) h.sender.naming ∙ ap (is_due s.naming) clock in
    let beat : y.beat ≡ (is_silent y && is_heartbeat_due (option_to_list s.last) (has_come s.sender.heard) (clock_at s now)) =
    c.is.beat
    ∙ ap (λ o. is_silent y && is_heartbeat_due (option_to_list o) v.heard (seen v.clock now)) h.sender.last
    ∙ ap (λ (b : Bool). is_silent y && is_heartbeat_due (option_to_list s.last) b (seen v.clock now)) h.sender.heard
    ∙ ap (λ o. is_silent y && is_heartbeat_due (option_to_list s.last) (has_come s.sender.heard) o) clock in
    let n_clock : n.clock ≡ clock_at s now = x_clock in
    let n_group = named_group s.sender y.setup in
    let n_heard = named_heard s.sender y.setup in
    let same_group = sym n_group in
    let same_heard = sym n_heard in
    record {
      lines = or_nothing (lines_of s (wires_of s now y));
      state = after_cycle s now y;
      answers = (y, record { setup = due; new = new; again = again; beat = beat }, refl, refl);
      printed = told ∙ ap (λ ws. line_contents before ++ or_nothing (packet_lines (length old.packets) ws)) wires ∙ ap (λ ps. line_contents before ++ or_nothing (packet_lines (length ps) (datagrams (wires_of s now y)))) (sym h.packets);
      shows = record {
        log = ap (λ (l : Stream). record l { consumers = Some n.at ∷ others }) h.log ∙ sym log;
        sender = record {
          flow = ap (λ (u : Sending HandReader StreamFlow). u.flow) c.state ∙ flow ∙ (λ j. flow_after (same_group j) start (Ticked (clock_at s now) ∷ same_heard j));
          small = subst (λ o. IfSome o (λ size. size ≤ 8)) same_group h.sender.small;
          naming = ap (λ (u : Sending HandReader StreamFlow). u.naming) c.state ∙ ap (λ o. after_naming o (seen v.clock now)) h.sender.naming ∙ ap (after_naming s.naming) clock;
          heard = ap (λ (u : Sending HandReader StreamFlow). u.heard) c.state ∙ h.sender.heard ∙ ap has_come same_heard;
          handler = record { clock = x.clock; seen = subst (λ p. p ≤ n.clock) (n_clock ∙ sym x_clock) (omega arith); is = handler };
          last = ap (λ (u : Sending HandReader StreamFlow). u.last) c.state ∙ ap (λ o. if is_heard y then Some (seen v.clock now) else o) h.sender.last ∙ ap (λ o. if is_heard y then Some o else s.last) clock;
          clock = ap (λ (u : Sending HandReader StreamFlow). u.clock) c.state ∙ clock ∙ sym n_clock;
        };
        consumers = ap (λ (l : Stream). l.consumers) log;
        receivers = h.receivers;
        packets = ap (λ ps. ps ++ datagrams (wires_of s now y)) h.packets ∙ ap (λ ws. old.packets ++ ws) (sym wires) ∙ sym given;
      };
    }

-- ---- what the sender is asked of

-- what it may send again can be read
pub sends_from : AlwaysThere → (v : Simulated) → StandsSomewhere v → IsSenderOf v.sender (source_of v.log v.sender.reads.number) → SendsFrom v.sender (source_of v.log v.sender.reads.number)
sends_from law v h from =
    let s = h.0 in
    let k = h.1.sender.handler.clock in
    record {
      identity = from.identity;
      position = from.position;
      near = subst (λ (q : Handler). AreThere (committed v.log.entries) q) (sym h.1.sender.handler.is) (subst (λ (l : Stream). AreThere (committed l.entries) (handler_of s.log.identity.geometry s.log.start s.sender k)) h.1.log (law s k h.2));
    }
