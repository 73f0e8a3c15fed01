-- What a datagram told the sender is a step of the states that the simulation shows.
use Rattle.std.proofs.Common.{◌≡◌, arith, map, ℕ, ◌≤◌, List, [], ◌∷◌, ◌++◌, length, true, Option, None, Some, inr, refl, sym, ap, ◌∙◌, subst, append-nil, append_assoc}
use Rattle.std.proofs.lemmas.List.{set-get_or}
use Rattle.std.specs.Prelude.{IfSome, slice_get, slice_set, pos}
use Rattle.theory.specs.Bytes.{Identity}
use Rattle.theory.specs.Control.{setup_at}
use Rattle.flow_control.specs.Laws.{GroupKeepsEnough, OneKeepsEnough}
use Rattle.flow_control.specs.Stream.{flow_after, has_heard_of, reached_of, status_after}
use Rattle.flow_control.specs.declared.stream.StreamFlow.{StreamFlow}
use Rattle.theory.specs.Position as places
use Rattle.theory.specs.Timing.{seen}
use Rattle.theory.specs.Wire.{Wire}
use Rattle.model.specs.Sender.{Sender}
use Rattle.frame_source.specs.Sources.{Source}
use Rattle.one_hand.specs.HandReads.{MovesReader}
use Rattle.one_hand.specs.Reads.{source_of}
use Rattle.one_hand.specs.Stream.{HasConsumer, Stream, position_of, with_consumer}
use Rattle.one_hand.specs.declared.hand_reader.HandReader.{HandReader}
use Rattle.sender.specs.Resending.Answers.{nak_result}
use Rattle.sender.specs.Resending.Handler.{Handler, after_nak, nak_answer_of}
use Rattle.sender.specs.Resending.Laws.{NearAreEnough}
use Rattle.script.specs.Meaning as commands
use Rattle.script.specs.Meaning.{CommandContent}
use Rattle.sender.specs.Naming.{Naming}
use Rattle.simulation.specs.Lines.{line_contents}
use Rattle.simulation.specs.declared.line.Line.{Line}
use Rattle.simulation.specs.declared.line.Line.TheVariants as lines
use Rattle.script_meaning.specs.Answers.{Answers, Hears, clock_at, given_out, has_come, have_all_come, heard, limit_of, lines_of, missed, named, nak_answered, packet_lines, place_in, SenderHears, with_sender, woken}
use Rattle.script_meaning.specs.LineContents.{LineContent, OfSender}
use Rattle.script_meaning.specs.ScriptState.{ScriptState, seat_of}
use Rattle.sender.specs.declared.sender_core.SenderAnswer.{SenderAnswer}
use Rattle.sender.specs.declared.sender_core.SenderAnswer.TheVariants as answers
use Rattle.sender.specs.Cycling.{AsksSetup, IsNews, Misses, NewsContent, Says, TellsNothing, Unreadable, alone, datagrams, setups}
use Rattle.sender.specs.Sending.{HearsDatagram, HearsNews, Sending, at_moment, flow_told, named_once}
use Rattle.simulation.proofs.Flows.{flow_heard, flow_hears, flow_reaches}
use Rattle.simulation.proofs.HandlerSteps.{later, missed_is, nak_is}
use Rattle.simulation.proofs.Simulations.{one_line}
use Rattle.simulation.specs.Simulated.{Answered, IsAnswered, IsSenderOf, RepresentsHandler, RepresentsState, Simulated}

-- the log stays, and the sender stands where it stood
heard_shown : (old : Simulated) (s : ScriptState) (x : Sender) (naming : Naming) (t : Sending HandReader StreamFlow) (packets : List (List ℕ)) (out : List (List Wire)) (sent : List (List ℕ)) → RepresentsState old s → packets ≡ old.packets ++ sent → x.at ≡ s.sender.at → t.flow ≡ flow_after x.group s.log.start x.heard → IfSome x.group (λ size. size ≤ 8) → t.naming ≡ naming → t.heard ≡ has_come x.heard → RepresentsHandler t.handler s.log.identity.geometry s.log.start x → t.last ≡ s.last → t.clock ≡ x.clock → sent ≡ datagrams out → RepresentsState (record old { sender = t; packets = packets }) (record (given_out s out) { sender = x; naming = naming })
heard_shown old s x naming t packets out sent h given at flow small name came handler last clock is = record {
  log = h.log;
  sender = record { flow = flow; small = small; naming = name; heard = came; handler = handler; last = last; clock = clock };
  consumers = h.consumers ∙ ap (λ p. Some p ∷ map seat_of s.readers) (sym at);
  receivers = h.receivers;
  packets = ap (λ ps. ps ++ datagrams out) h.packets ∙ ap (λ ws. old.packets ++ ws) (sym is) ∙ sym given;
}

-- without packets
quiet_shown : (new : Simulated) (s : ScriptState) (x : Sender) (naming : Naming) → RepresentsState new (record (given_out s []) { sender = x; naming = naming }) → RepresentsState new (record s { sender = x; naming = naming })
quiet_shown new s x naming h = subst (λ ps. RepresentsState new (record s { packets = ps; sender = x; naming = naming })) (append-nil s.packets) h

answer_line : (before after : List Line) (answer is : SenderAnswer) (k : ℕ) (sent : List (List ℕ)) → line_contents after ≡ line_contents before ++ (OfSender answer ∷ packet_lines k sent) → answer ≡ is → sent ≡ [] → line_contents after ≡ line_contents before ++ OfSender is ∷ []
answer_line before after answer is k sent told same none = told ∙ ap (λ a. line_contents before ++ (OfSender a ∷ packet_lines k sent)) same ∙ ap (λ ws. line_contents before ++ (OfSender is ∷ packet_lines k ws)) none

-- a line that means this hearing
abbrev Means : ScriptState → ℕ → List ℕ → CommandContent → Type 0
Means s now bytes command = (lines : List LineContent) (t : ScriptState) → Hears s now bytes lines t → Answers s command lines t

-- only its moment is seen
unheard : (old : Simulated) (s : ScriptState) (now : ℕ) (x : Sender) (t : Sending HandReader StreamFlow) (packets : List (List ℕ)) (out : List (List Wire)) (sent : List (List ℕ)) → RepresentsState old s → packets ≡ old.packets ++ sent → x.at ≡ s.sender.at → flow_after s.sender.group s.log.start s.sender.heard ≡ flow_after x.group s.log.start x.heard → IfSome x.group (λ size. size ≤ 8) → has_come s.sender.heard ≡ has_come x.heard → RepresentsHandler old.sender.handler s.log.identity.geometry s.log.start x → t ≡ at_moment old.sender now → sent ≡ datagrams out → clock_at s now ≡ x.clock → RepresentsState (record old { sender = t; packets = packets }) (record (given_out s out) { sender = x; naming = s.naming })
unheard old s now x t packets out sent h given at flow small came handler same is moment =
    heard_shown old s x s.naming t packets out sent h given at
    (ap (λ (u : Sending HandReader StreamFlow). u.flow) same ∙ h.sender.flow ∙ flow)
    small
    (ap (λ (u : Sending HandReader StreamFlow). u.naming) same ∙ h.sender.naming)
    (ap (λ (u : Sending HandReader StreamFlow). u.heard) same ∙ h.sender.heard ∙ came)
    (subst (λ (q : Handler). RepresentsHandler q s.log.identity.geometry s.log.start x) (sym (ap (λ (u : Sending HandReader StreamFlow). u.handler) same)) handler)
    (ap (λ (u : Sending HandReader StreamFlow). u.last) same ∙ h.sender.last)
    (ap (λ (u : Sending HandReader StreamFlow). u.clock) same ∙ ap (λ c. seen c now) h.sender.clock ∙ moment)
    is

-- what tells it nothing
nothing_heard : (old : Simulated) (s : ScriptState) (command : CommandContent) (now : ℕ) (bytes : List ℕ) (news : NewsContent) (is answer : SenderAnswer) (t : Sending HandReader StreamFlow) (packets sent : List (List ℕ)) (before after : List Line) → Means s now bytes command → RepresentsState old s → IsNews s.log.identity bytes news → SenderHears s now news (OfSender is ∷ []) (with_sender s (woken s now)) → t ≡ at_moment old.sender now → answer ≡ is → sent ≡ [] → packets ≡ old.packets ++ sent → line_contents after ≡ line_contents before ++ (OfSender answer ∷ packet_lines (length old.packets) sent) → Answered s command (line_contents before) (line_contents after) (record old { sender = t; packets = packets })
nothing_heard old s command now bytes news is answer t packets sent before after means h tells hears same one none given told =
    let x = woken s now in
    let handler : RepresentsHandler old.sender.handler s.log.identity.geometry s.log.start x = record { clock = h.sender.handler.clock; seen = later h.sender.handler.clock s.sender.clock now h.sender.handler.seen; is = h.sender.handler.is } in
    record {
      lines = OfSender is ∷ [];
      state = with_sender s x;
      answers = means (OfSender is ∷ []) (with_sender s x) (news, tells, hears);
      printed = answer_line before after answer is (length old.packets) sent told one none;
      shows = quiet_shown (record old { sender = t; packets = packets }) s x s.naming (unheard old s now x t packets [] sent h given refl refl h.sender.small refl handler same none refl);
    }

hears_news : NearAreEnough → OneKeepsEnough → GroupKeepsEnough → (old : Simulated) (s : ScriptState) (command : CommandContent) (now : ℕ) (bytes : List ℕ) (news : NewsContent) (answer : SenderAnswer) (t : Sending HandReader StreamFlow) (packets sent : List (List ℕ)) (before after : List Line) → Means s now bytes command → RepresentsState old s → old.log.identity ≡ old.sender.identity → IsNews old.sender.identity bytes news → HearsNews status_after reached_of has_heard_of (at_moment old.sender now) news answer t sent → packets ≡ old.packets ++ sent → line_contents after ≡ line_contents before ++ (OfSender answer ∷ packet_lines (length old.packets) sent) → Answered s command (line_contents before) (line_contents after) (record old { sender = t; packets = packets })
hears_news law one group old s command now bytes (Says f) answer t packets sent before after means h same is hears given told =
    let v = old.sender in
    let identity : v.identity ≡ s.log.identity = sym same ∙ ap (λ l. l.identity) (sym h.log) in
    let clock : seen v.clock now ≡ clock_at s now = ap (λ c. seen c now) h.sender.clock in
    let x = heard s now f in
    let place = places.position_of s.log.identity.geometry f.term_id f.term_offset in
    let told_flow : flow_told status_after (at_moment v now) f ≡ flow_after s.sender.group s.log.start x.heard =
    ap (λ (i : Identity). status_after v.flow (places.position_of i.geometry f.term_id f.term_offset) f.window f.receiver (seen v.clock now)) identity
    ∙ ap (λ c. status_after v.flow place f.window f.receiver c) clock
    ∙ ap (λ q. status_after q place f.window f.receiver (clock_at s now)) h.sender.flow
    ∙ flow_hears s.sender.group s.log.start s.sender.heard place f.window f.receiver (clock_at s now) in
    let flow : t.flow ≡ flow_after s.sender.group s.log.start x.heard = ap (λ (u : Sending HandReader StreamFlow). u.flow) hears.0 ∙ told_flow in
    let limit : reached_of t.flow ≡ limit_of s.log x = ap reached_of flow ∙ flow_reaches one group s.sender.group h.sender.small s.log.start x.heard in
    let naming = named_once (have_all_come s.sender.group x.heard) s.naming in
    let named_is : t.naming ≡ naming =
    ap (λ (u : Sending HandReader StreamFlow). u.naming) hears.0
    ∙ ap (λ q. named_once (has_heard_of q) v.naming) told_flow
    ∙ ap (λ b. named_once b v.naming) (flow_heard one group s.sender.group h.sender.small s.log.start x.heard)
    ∙ ap (λ (n : Naming). named_once (have_all_come s.sender.group x.heard) n) h.sender.naming in
    let handler : RepresentsHandler t.handler s.log.identity.geometry s.log.start x = record {
      clock = h.sender.handler.clock;
      seen = later h.sender.handler.clock s.sender.clock now h.sender.handler.seen;
      is = ap (λ (u : Sending HandReader StreamFlow). u.handler) hears.0 ∙ h.sender.handler.is;
    } in
    let state = record s { sender = x; naming = naming } in
    record {
      lines = OfSender (answers.Status (pos (limit_of s.log x))) ∷ [];
      state = state;
      answers = means (OfSender (answers.Status (pos (limit_of s.log x))) ∷ []) state (Says f, subst (λ i. IsNews i bytes (Says f)) identity is, (refl, refl));
      printed = answer_line before after answer (answers.Status (pos (limit_of s.log x))) (length old.packets) sent told (hears.1 ∙ ap (λ n. answers.Status (pos n)) limit) hears.2;
      shows = quiet_shown (record old { sender = t; packets = packets }) s x naming (heard_shown old s x naming t packets [] sent h given refl flow h.sender.small named_is (ap (λ (u : Sending HandReader StreamFlow). u.heard) hears.0) handler (ap (λ (u : Sending HandReader StreamFlow). u.last) hears.0 ∙ h.sender.last) (ap (λ (u : Sending HandReader StreamFlow). u.clock) hears.0 ∙ clock) hears.2);
    }
hears_news law one group old s command now bytes AsksSetup answer t packets sent before after means h same is hears given told =
    let v = old.sender in
    let identity : v.identity ≡ s.log.identity = sym same ∙ ap (λ l. l.identity) (sym h.log) in
    let at : v.handler.at ≡ s.sender.at = ap (λ (q : Handler). q.at) h.sender.handler.is in
    let x = named (woken s now) true in
    let out = alone (setup_at s.log.identity s.sender.at ∷ []) in
    let wires : sent ≡ datagrams out = hears.2 ∙ ap (λ i. datagrams (alone (setups i v.handler.at true))) identity ∙ ap (λ p. datagrams (alone (setups s.log.identity p true))) at in
    let state = with_sender (given_out s out) x in
    record {
      lines = OfSender answers.Asked ∷ lines_of s out;
      state = state;
      answers = means (OfSender answers.Asked ∷ lines_of s out) state (AsksSetup, subst (λ i. IsNews i bytes AsksSetup) identity is, (refl, refl));
      printed = told ∙ ap (λ a. line_contents before ++ (OfSender a ∷ packet_lines (length old.packets) sent)) hears.1 ∙ ap (λ ws. line_contents before ++ (OfSender answers.Asked ∷ packet_lines (length old.packets) ws)) wires ∙ ap (λ ps. line_contents before ++ (OfSender answers.Asked ∷ packet_lines (length ps) (datagrams out))) (sym h.packets);
      shows = unheard old s now x t packets out sent h given refl refl h.sender.small refl (record { clock = h.sender.handler.clock; seen = later h.sender.handler.clock s.sender.clock now h.sender.handler.seen; is = h.sender.handler.is }) hears.0 wires refl;
    }
hears_news law one group old s command now bytes (Misses f) answer t packets sent before after means h same is hears given told =
    let v = old.sender in
    let g = s.log.identity.geometry in
    let k = h.sender.handler.clock in
    let identity : v.identity ≡ s.log.identity = sym same ∙ ap (λ l. l.identity) (sym h.log) in
    let clock : seen v.clock now ≡ clock_at s now = ap (λ c. seen c now) h.sender.clock in
    let low : k ≤ clock_at s now = later k s.sender.clock now h.sender.handler.seen in
    let x = missed s now f in
    let place : places.position_of v.identity.geometry f.term_id f.term_offset ≡ place_in s f = ap (λ (i : Identity). places.position_of i.geometry f.term_id f.term_offset) identity in
    let answered : nak_result hears.0 ≡ nak_answered s now f =
    hears.2
    ∙ ap (λ p. nak_answer_of v.handler (seen v.clock now) p f.length) place
    ∙ ap (λ c. nak_answer_of v.handler c (place_in s f) f.length) clock
    ∙ ap (λ (q : Handler). nak_answer_of q (clock_at s now) (place_in s f) f.length) h.sender.handler.is
    ∙ nak_is law g s.log.start k (clock_at s now) s.sender (place_in s f) f.length low in
    let handler : RepresentsHandler t.handler g s.log.start x = record {
      clock = clock_at s now;
      seen = omega arith;
      is =
          ap (λ (u : Sending HandReader StreamFlow). u.handler) hears.3
          ∙ ap (λ p. after_nak v.handler (seen v.clock now) p f.length) place
          ∙ ap (λ c. after_nak v.handler c (place_in s f) f.length) clock
          ∙ ap (λ (q : Handler). after_nak q (clock_at s now) (place_in s f) f.length) h.sender.handler.is
          ∙ missed_is law g s.log.start k (clock_at s now) s.sender (place_in s f) f.length low;
    } in
    let state = with_sender s x in
    record {
      lines = OfSender (answers.Missed hears.0) ∷ [];
      state = state;
      answers = means (OfSender (answers.Missed hears.0) ∷ []) state (Misses f, subst (λ i. IsNews i bytes (Misses f)) identity is, (hears.0, refl, answered, refl));
      printed = answer_line before after answer (answers.Missed hears.0) (length old.packets) sent told hears.1 hears.4;
      shows = quiet_shown (record old { sender = t; packets = packets }) s x s.naming (heard_shown old s x s.naming t packets [] sent h given refl (ap (λ (u : Sending HandReader StreamFlow). u.flow) hears.3 ∙ h.sender.flow) h.sender.small (ap (λ (u : Sending HandReader StreamFlow). u.naming) hears.3 ∙ h.sender.naming) (ap (λ (u : Sending HandReader StreamFlow). u.heard) hears.3 ∙ h.sender.heard) handler (ap (λ (u : Sending HandReader StreamFlow). u.last) hears.3 ∙ h.sender.last) (ap (λ (u : Sending HandReader StreamFlow). u.clock) hears.3 ∙ clock) hears.4);
    }
hears_news law one group old s command now bytes TellsNothing answer t packets sent before after means h same is hears given told =
    let identity : old.sender.identity ≡ s.log.identity = sym same ∙ ap (λ l. l.identity) (sym h.log) in
    nothing_heard old s command now bytes TellsNothing answers.Other answer t packets sent before after means h (subst (λ i. IsNews i bytes TellsNothing) identity is) (refl, refl) hears.0 hears.1 hears.2 given told
hears_news law one group old s command now bytes (Unreadable fault) answer t packets sent before after means h same is hears given told =
    nothing_heard old s command now bytes (Unreadable fault) (answers.Refused fault) answer t packets sent before after means h is (refl, refl) hears.0 hears.1 hears.2 given told

-- what stands where it stood, did not move
unmoved : (l m : Stream) (r q : ℕ) → HasConsumer l r → MovesReader r l q m → position_of m q ≡ position_of l r → m ≡ l
unmoved l m r q there h at = h.moved ∙ ap (with_consumer l r) (ap (position_of m) (sym h.number_is) ∙ at) ∙ ap (λ (cs : List (Option ℕ)). record l { consumers = cs }) (ap (slice_set l.consumers r) (sym there) ∙ set-get_or l.consumers r None)

-- whichever line hands it the bytes
heard_answered : NearAreEnough → OneKeepsEnough → GroupKeepsEnough → (old : Simulated) (command : CommandContent) (now : ℕ) (bytes : List ℕ) (answer : SenderAnswer) (t : Sending HandReader StreamFlow) (packets sent : List (List ℕ)) (m : Stream) (before after : List Line) → ((s : ScriptState) → RepresentsState old s → Means s now bytes command) → IsSenderOf old.sender (source_of old.log old.sender.reads.number) → HasConsumer old.log old.sender.reads.number → MovesReader old.sender.reads.number old.log t.reads.number m → (source_of m t.reads.number ≡ source_of old.log old.sender.reads.number) × HearsDatagram status_after reached_of has_heard_of (at_moment old.sender now) bytes answer t sent → packets ≡ old.packets ++ sent → line_contents after ≡ line_contents before ++ (OfSender answer ∷ packet_lines (length old.packets) sent) → IsAnswered old command before after (record old { log = m; sender = t; packets = packets })
heard_answered law one group old command now bytes answer t packets sent m before after means from there moves c given told = λ s h standing.
    subst (λ (l : Stream). Answered s command (line_contents before) (line_contents after) (record old { log = l; sender = t; packets = packets }))
    (sym (unmoved old.log m old.sender.reads.number t.reads.number there moves (ap (λ (x : Source). x.position) c.0)))
    (hears_news law one group old s command now bytes c.1.news answer t packets sent before after (means s h) h from.identity c.1.is c.1.hears given told)

pub reply_answered : NearAreEnough → OneKeepsEnough → GroupKeepsEnough → (old : Simulated) (k now : ℕ) (bytes : List ℕ) (answer : SenderAnswer) (t : Sending HandReader StreamFlow) (packets sent : List (List ℕ)) (m : Stream) (before after : List Line) → slice_get old.packets k ≡ Some bytes → IsSenderOf old.sender (source_of old.log old.sender.reads.number) → HasConsumer old.log old.sender.reads.number → MovesReader old.sender.reads.number old.log t.reads.number m → (source_of m t.reads.number ≡ source_of old.log old.sender.reads.number) × HearsDatagram status_after reached_of has_heard_of (at_moment old.sender now) bytes answer t sent → packets ≡ old.packets ++ sent → line_contents after ≡ line_contents before ++ (OfSender answer ∷ packet_lines (length old.packets) sent) → IsAnswered old (commands.Reply k now) before after (record old { log = m; sender = t; packets = packets })
reply_answered law one group old k now bytes answer t packets sent m before after packet =
    heard_answered law one group old (commands.Reply k now) now bytes answer t packets sent m before after (λ s h lines u hears. inr (bytes, ap (λ ps. slice_get ps k) h.packets ∙ packet, hears))

pub raw_back_answered : NearAreEnough → OneKeepsEnough → GroupKeepsEnough → (old : Simulated) (now : ℕ) (bytes : List ℕ) (answer : SenderAnswer) (t : Sending HandReader StreamFlow) (packets sent : List (List ℕ)) (m : Stream) (before after : List Line) → IsSenderOf old.sender (source_of old.log old.sender.reads.number) → HasConsumer old.log old.sender.reads.number → MovesReader old.sender.reads.number old.log t.reads.number m → (source_of m t.reads.number ≡ source_of old.log old.sender.reads.number) × HearsDatagram status_after reached_of has_heard_of (at_moment old.sender now) bytes answer t sent → packets ≡ old.packets ++ sent → line_contents after ≡ line_contents before ++ (OfSender answer ∷ packet_lines (length old.packets) sent) → IsAnswered old (commands.RawBack now bytes) before after (record old { log = m; sender = t; packets = packets })
raw_back_answered law one group old now bytes answer t packets sent m before after = heard_answered law one group old (commands.RawBack now bytes) now bytes answer t packets sent m before after (λ s h lines u hears. hears)

pub replied_lines : (before between after : List Line) (answer : SenderAnswer) (k : ℕ) (sent : List (List ℕ)) → between ≡ before ++ lines.Sender answer ∷ [] → line_contents after ≡ line_contents between ++ packet_lines k sent → line_contents after ≡ line_contents before ++ (OfSender answer ∷ packet_lines k sent)
replied_lines before between after answer k sent one more = more ∙ ap (λ ls. ls ++ packet_lines k sent) (one_line before between (lines.Sender answer) one) ∙ append_assoc (line_contents before) (OfSender answer ∷ []) (packet_lines k sent)
