-- What the calls of a line's handler left is a step of the states that the simulation shows.
use Rattle.std.proofs.Common.{◌≡◌, ◌⊎◌, ℕ, zero, suc, ◌-◌, ◌<◌, ◌≤◌, List, [], ◌∷◌, ◌++◌, map, length, Option, None, Some, inl, inr, refl, sym, ap, ◌∙◌, subst, arith, append-nil}
use Rattle.std.specs.Prelude.{slice_get, slice_index_or, slice_set, replicate, Result, Ok, Err, OnOk}
use Rattle.std.proofs.lemmas.List.{map-append, map-set}
use Rattle.theory.specs.Bytes.{Identity}
use Rattle.theory.specs.Consumer.{Consumer, consumer_at, moved}
use Rattle.theory.specs.Entry.{Entry, committed}
use Rattle.theory.specs.Placed.{Among}
use Rattle.theory.specs.Position.{max_message}
use Rattle.theory.specs.Wire.{Wire, spelling}
use Rattle.flow_control.specs.Stream.{flow_after}
use Rattle.flow_control.specs.declared.stream.StreamFlow.{StreamFlow}
use Rattle.one_hand.specs.Legal.{IsStream}
use Rattle.one_hand.specs.Stream.{HasConsumer, IsVacant, Stream, clean_end, cleaned_and_limited, forgotten_below, lowest, position_of, raised, with_consumer, without_consumer}
use Rattle.receiver.specs.Polling.{Answer, Polls, TellsPositions}
use Rattle.receiver.specs.Receiving.{TakesDatagram, Receiver, replies, ticked}
use Rattle.receiver.specs.Subscribing.{SubscriberBecomes, RepresentsSubscriber, Subscribing}
use Rattle.receiver.specs.declared.positions.Positions.{Positions}
use Rattle.receiver.specs.declared.receiver_core.Outcome.{Outcome}
use Rattle.script.specs.Meaning as commands
use Rattle.script.specs.Meaning.{CommandContent}
use Rattle.simulation.specs.Lines.{line_content, line_contents}
use Rattle.simulation.specs.Packed.{bytes_of}
use Rattle.simulation.specs.declared.line.Line.{Line}
use Rattle.simulation.proofs.PacketNumbers.{none_past}
use Rattle.script_meaning.specs.Answers as states
use Rattle.script_meaning.specs.Answers.{Answers, AreFrames, MayNotTake, OffersMessage, GetsDatagram, given_out, lines_of, or_nothing, packet_lines, reader_at, with_log, with_reader, with_receiver}
use Rattle.script_meaning.specs.LineContents.{Bad, Done, Joined, Limit, LineContent, OfReceiver, poll_line, positions_line}
use Rattle.script_meaning.specs.ScriptState.{ScriptState, seat_of}
use Rattle.one_hand.specs.declared.hand_reader.HandReader.{HandReader}
use Rattle.sender.specs.Cycling.{alone, datagrams}
use Rattle.sender.specs.Sending.{Sending}
use Rattle.simulation.specs.Reading.{JoinsLine, LeadsTo, LeavesLine, ReadsLine, StandsStill}
use Rattle.simulation.specs.Reading.{MayBeOffered}
use Rattle.simulation.specs.Simulated.{AllShow, IsAnswered, IsOffered, RepresentsSender, RepresentsState, Simulated}
use Rattle.script_meaning.specs.Standing.{handler_of}

-- ---- lines

pub one_line : (before after : List Line) (line : Line) → after ≡ before ++ line ∷ [] → line_contents after ≡ line_contents before ++ line_content line ∷ []
one_line before after line e = ap line_contents e ∙ map-append line_content before (line ∷ [])

-- as the simulation is seen
pub seen_as : (v old new : Simulated) (command : CommandContent) (before after : List Line) → v ≡ old → IsAnswered v command before after new → IsAnswered old command before after new
seen_as v old new command before after e h = subst (λ x. IsAnswered x command before after new) e h

pub unchanged : (v old : Simulated) (command : CommandContent) (before after : List Line) → v ≡ old → IsAnswered v command before after v → IsAnswered old command before after old
unchanged v old command before after e h = subst (λ x. IsAnswered x command before after x) e h

-- what can't be had
pub bad_answered : (old : Simulated) (command : CommandContent) (line : Line) (before after : List Line) → line_content line ≡ Bad → ((s : ScriptState) → RepresentsState old s → Answers s command (Bad ∷ []) s) → after ≡ before ++ line ∷ [] → IsAnswered old command before after old
bad_answered old command line before after bad answers told = λ s h standing. record {
  lines = Bad ∷ [];
  state = s;
  answers = answers s h;
  printed = one_line before after line told ∙ ap (λ x. line_contents before ++ x ∷ []) bad;
  shows = h;
}

-- what changes nothing
pub done_answered : (old : Simulated) (command : CommandContent) (line : Line) (before after : List Line) → line_content line ≡ Done → ((s : ScriptState) → Answers s command (Done ∷ []) s) → after ≡ before ++ line ∷ [] → IsAnswered old command before after old
done_answered old command line before after done answers told = λ s h standing. record {
  lines = Done ∷ [];
  state = s;
  answers = answers s;
  printed = one_line before after line told ∙ ap (λ x. line_contents before ++ x ∷ []) done;
  shows = h;
}

-- what is too long for the log
pub too_long : (old : Simulated) (command : CommandContent) (most : Stream → ℕ) (size : ℕ) (line : Line) (before after : List Line) → line_content line ≡ Bad → most old.log < size → ((s : ScriptState) → most s.log < size → Answers s command (Bad ∷ []) s) → after ≡ before ++ line ∷ [] → IsAnswered old command before after old
too_long old command most size line before after bad long means told = bad_answered old command line before after bad (λ s h. means s (subst (λ l. most l < size) (sym h.log) long)) told

-- ---- subscribers

pub shows_at : (vs : List Subscribing) (rs : List Receiver) (k : ℕ) (v : Subscribing) → AllShow vs rs → slice_get vs k ≡ Some v → (r : Receiver) × (slice_get rs k ≡ Some r) × RepresentsSubscriber v r
shows_at [] rs k v h e = absurd (cc)
shows_at (w ∷ ws) [] k v h e = absurd h
shows_at (w ∷ ws) (r ∷ rs) zero v h e = let same : w ≡ v = cc in (r, refl, subst (λ x. RepresentsSubscriber x r) same h.0)
shows_at (w ∷ ws) (r ∷ rs) (suc k) v h e = shows_at ws rs k v h.1 e

pub shows_set : (vs : List Subscribing) (rs : List Receiver) (k : ℕ) (v : Subscribing) (r : Receiver) → AllShow vs rs → RepresentsSubscriber v r → AllShow (slice_set vs k v) (slice_set rs k r)
shows_set [] [] k v r h s = h
shows_set [] (q ∷ rs) k v r h s = absurd h
shows_set (w ∷ ws) [] k v r h s = absurd h
shows_set (w ∷ ws) (q ∷ rs) zero v r h s = (s, h.1)
shows_set (w ∷ ws) (q ∷ rs) (suc k) v r h s = (h.0, shows_set ws rs k v r h.1 s)

-- ---- the log alone

-- of a log with the same identity and start it is the sender too
log_changed : (v : Sending HandReader StreamFlow) (s : ScriptState) (m : Stream) (past : List Entry) → RepresentsSender v s → s.log.identity ≡ m.identity → s.log.start ≡ m.start → RepresentsSender v (record s { log = m; past = past })
log_changed v s m past h identity start = record {
  flow = h.flow ∙ ap (λ n. flow_after s.sender.group n s.sender.heard) start;
  small = h.small;
  naming = h.naming;
  heard = h.heard;
  handler = record {
    clock = h.handler.clock;
    seen = h.handler.seen;
    is = h.handler.is ∙ ap (λ (i : Identity). handler_of i.geometry s.log.start s.sender h.handler.clock) identity ∙ ap (λ (n : ℕ). handler_of m.identity.geometry n s.sender h.handler.clock) start;
  };
  last = h.last;
  clock = h.clock;
}

-- with these entries forgotten
log_shown : (old : Simulated) (s : ScriptState) (m : Stream) (past : List Entry) → RepresentsState old s → StandsStill old.log m → RepresentsState (record old { log = m }) (record s { log = m; past = past })
log_shown old s m past h k = record {
  log = refl;
  sender = log_changed old.sender s m past h.sender (ap (λ (l : Stream). l.identity) h.log ∙ sym k.identity) (ap (λ (l : Stream). l.start) h.log ∙ sym k.start);
  consumers = k.consumers ∙ h.consumers;
  receivers = h.receivers;
  packets = h.packets;
}

pub log_answered : (old : Simulated) (m : Stream) (command : CommandContent) (line : Line) (before after : List Line) → StandsStill old.log m → LeadsTo (λ s lines t. Answers s command lines t) old.log (line_content line) m → after ≡ before ++ line ∷ [] → IsAnswered old command before after (record old { log = m })
log_answered old m command line before after k leads told = λ s h standing. record {
  lines = line_content line ∷ [];
  state = with_log s m;
  answers = leads s h.log;
  printed = one_line before after line told;
  shows = log_shown old s m s.past h k;
}

pub offer_answered : (old : Simulated) (m : Stream) (by : ℕ) (message : List ℕ) (line : Line) (before after : List Line) → StandsStill old.log m → LeadsTo (λ s lines t. MayBeOffered s by message lines t) old.log (line_content line) m → after ≡ before ++ line ∷ [] → IsOffered old by message before after (record old { log = m })
offer_answered old m by message line before after k leads told = λ command means.
    log_answered old m command line before after k (λ s e. means s (with_log s m) (line_content line ∷ []) (leads s e)) told

pub limit_answered : (old : Simulated) (m : Stream) (line : Line) (before after : List Line) → IsStream old.log → m ≡ cleaned_and_limited old.log → line_content line ≡ Limit (raised old.log) → after ≡ before ++ line ∷ [] → IsAnswered old commands.Limit before after (record old { log = m })
limit_answered old m line before after legal is shown told = λ s h standing.
    let past = s.past ++ forgotten_below (clean_end s.log) s.log.entries in
    record {
      lines = line_content line ∷ [];
      state = record s { log = m; past = past };
      answers = record {
        legal = subst IsStream (sym h.log) legal;
        shown = ap (λ x. x ∷ []) shown ∙ ap (λ l. Limit (raised l) ∷ []) (sym h.log);
        new_is = ap (λ (l : Stream). record s { log = l; past = past }) (is ∙ ap (λ l. cleaned_and_limited l) (sym h.log));
      };
      printed = one_line before after line told;
      shows = log_shown old s m past h (record { identity = ap (λ l. l.identity) is; start = ap (λ l. l.start) is; consumers = ap (λ l. l.consumers) is });
    }

-- ---- another receiver

subscriber_shown : (old : Simulated) (s : ScriptState) (k : ℕ) (v : Subscribing) (r : Receiver) → RepresentsState old s → RepresentsSubscriber v r → RepresentsState (record old { subscribers = slice_set old.subscribers k v }) (with_receiver s k r)
subscriber_shown old s k v r h shown = record {
  log = h.log;
  sender = record { flow = h.sender.flow; small = h.sender.small; naming = h.sender.naming; heard = h.sender.heard; handler = h.sender.handler; last = h.sender.last; clock = h.sender.clock };
  consumers = h.consumers;
  receivers = shows_set old.subscribers s.receivers k v r h.receivers shown;
  packets = h.packets;
}

pub poll_answered : (old : Simulated) (k : ℕ) (v w : Subscribing) (answer : Answer) (line : Line) (before after : List Line) → slice_get old.subscribers k ≡ Some v → SubscriberBecomes v w (λ r s. Polls r answer s) → line_content line ≡ poll_line answer → after ≡ before ++ line ∷ [] → IsAnswered old (commands.Poll k) before after (record old { subscribers = slice_set old.subscribers k w })
poll_answered old k v w answer line before after there polls said told = λ s h standing.
    let found = shows_at old.subscribers s.receivers k v h.receivers there in
    let next = polls found.0 found.2 in
    record {
      lines = line_content line ∷ [];
      state = with_receiver s k next.0;
      answers = (answer, found.0, next.0, found.1, next.1, ap (λ x. x ∷ []) said, refl);
      printed = one_line before after line told;
      shows = subscriber_shown old s k w next.0 h next.2;
    }

pub image_answered : (old : Simulated) (k : ℕ) (v : Subscribing) (positions : Option Positions) (line : Line) (before after : List Line) → slice_get old.subscribers k ≡ Some v → ((r : Receiver) → RepresentsSubscriber v r → TellsPositions r positions) → line_content line ≡ positions_line positions → after ≡ before ++ line ∷ [] → IsAnswered old (commands.Image k) before after old
image_answered old k v positions line before after there tells said told = λ s h standing.
    let found = shows_at old.subscribers s.receivers k v h.receivers there in
    record {
      lines = line_content line ∷ [];
      state = s;
      answers = (positions, found.0, found.1, tells found.0 found.2, ap (λ x. x ∷ []) said, refl);
      printed = one_line before after line told;
      shows = h;
    }

-- ---- packets

packet_missing : (old : Simulated) (s : ScriptState) (k : ℕ) → RepresentsState old s → slice_get old.packets k ≡ None → length s.packets ≤ k
packet_missing old s k h none = none_past s.packets k (ap (λ ps. slice_get ps k) h.packets ∙ none)

pub missing_deliver : (old : Simulated) (k n now : ℕ) (line : Line) (before after : List Line) → slice_get old.packets k ≡ None → line_content line ≡ Bad → after ≡ before ++ line ∷ [] → IsAnswered old (commands.Deliver k n now) before after old
missing_deliver old k n now line before after none bad told = bad_answered old (commands.Deliver k n now) line before after bad (λ s h. inl (packet_missing old s k h none, refl, refl)) told

pub missing_reply : (old : Simulated) (k now : ℕ) (line : Line) (before after : List Line) → slice_get old.packets k ≡ None → line_content line ≡ Bad → after ≡ before ++ line ∷ [] → IsAnswered old (commands.Reply k now) before after old
missing_reply old k now line before after none bad told = bad_answered old (commands.Reply k now) line before after bad (λ s h. inl (packet_missing old s k h none, refl, refl)) told

-- a receiver is handed a datagram
taken : (old : Simulated) (command : CommandContent) (n now : ℕ) (bytes : List ℕ) (v w : Subscribing) (outs : List Outcome) (before after : List Line) → ((s t : ScriptState) (lines : List LineContent) → RepresentsState old s → GetsDatagram s n now bytes lines t → Answers s command lines t) → slice_get old.subscribers n ≡ Some v → SubscriberBecomes v w (λ r s. TakesDatagram r now bytes outs s) → line_contents after ≡ line_contents before ++ map OfReceiver outs → IsAnswered old command before after (record old { subscribers = slice_set old.subscribers n w })
taken old command n now bytes v w outs before after means there hears told = λ s h standing.
    let found = shows_at old.subscribers s.receivers n v h.receivers there in
    let next = hears found.0 found.2 in
    record {
      lines = map OfReceiver outs;
      state = with_receiver s n next.0;
      answers = means s (with_receiver s n next.0) (map OfReceiver outs) h (outs, found.0, next.0, found.1, next.1, refl, refl);
      printed = told;
      shows = subscriber_shown old s n w next.0 h next.2;
    }

pub deliver_answered : (old : Simulated) (k n now : ℕ) (bytes : List ℕ) (v w : Subscribing) (outs : List Outcome) (before after : List Line) → slice_get old.packets k ≡ Some bytes → slice_get old.subscribers n ≡ Some v → SubscriberBecomes v w (λ r s. TakesDatagram r now bytes outs s) → line_contents after ≡ line_contents before ++ map OfReceiver outs → IsAnswered old (commands.Deliver k n now) before after (record old { subscribers = slice_set old.subscribers n w })
deliver_answered old k n now bytes v w outs before after packet =
    taken old (commands.Deliver k n now) n now bytes v w outs before after (λ s t lines h takes. inr (bytes, ap (λ ps. slice_get ps k) h.packets ∙ packet, takes))

pub raw_answered : (old : Simulated) (n now : ℕ) (bytes : List ℕ) (v w : Subscribing) (outs : List Outcome) (before after : List Line) → slice_get old.subscribers n ≡ Some v → SubscriberBecomes v w (λ r s. TakesDatagram r now bytes outs s) → line_contents after ≡ line_contents before ++ map OfReceiver outs → IsAnswered old (commands.Raw n now bytes) before after (record old { subscribers = slice_set old.subscribers n w })
raw_answered old n now bytes v w outs before after = taken old (commands.Raw n now bytes) n now bytes v w outs before after (λ s t lines h takes. takes)

-- the bytes of frames, each in a datagram of its own
pub alone_bytes : (ws : List Wire) → datagrams (alone ws) ≡ bytes_of ws
alone_bytes [] = refl
alone_bytes (w ∷ ws) = ap (λ bytes. bytes ∷ datagrams (alone ws)) (append-nil (spelling w)) ∙ ap (λ rest. spelling w ∷ rest) (alone_bytes ws)

-- with packets given out
pub tick_answered : (old : Simulated) (n now : ℕ) (v w : Subscribing) (wires : List Wire) (packets : List (List ℕ)) (before after : List Line) → slice_get old.subscribers n ≡ Some v → ((r : Receiver) → RepresentsSubscriber v r → wires ≡ replies r now) → ((r : Receiver) → RepresentsSubscriber v r → RepresentsSubscriber w (ticked r now)) → AreFrames wires → packets ≡ old.packets ++ datagrams (alone wires) → line_contents after ≡ line_contents before ++ or_nothing (packet_lines (length old.packets) (datagrams (alone wires))) → IsAnswered old (commands.Tick n now) before after (record old { subscribers = slice_set old.subscribers n w; packets = packets })
tick_answered old n now v w wires packets before after there out next frames given told = λ s h standing.
    let found = shows_at old.subscribers s.receivers n v h.receivers there in
    let r = found.0 in
    let sent : wires ≡ replies r now = out r found.2 in
    let base = subscriber_shown old s n w (ticked r now) h (next r found.2) in
    record {
      lines = or_nothing (lines_of s (alone (replies r now)));
      state = with_receiver (given_out s (alone (replies r now))) n (ticked r now);
      answers = (r, found.1, subst AreFrames sent frames, refl, refl);
      printed = told ∙ ap (λ ws. line_contents before ++ or_nothing (packet_lines (length old.packets) (datagrams (alone ws)))) sent ∙ ap (λ ps. line_contents before ++ or_nothing (packet_lines (length ps) (datagrams (alone (replies r now))))) (sym h.packets);
      shows = record {
        log = base.log;
        sender = record { flow = h.sender.flow; small = h.sender.small; naming = h.sender.naming; heard = h.sender.heard; handler = h.sender.handler; last = h.sender.last; clock = h.sender.clock };
        consumers = base.consumers;
        receivers = base.receivers;
        packets = ap (λ ps. ps ++ datagrams (alone (replies r now))) h.packets ∙ ap (λ ws. old.packets ++ datagrams (alone ws)) (sym sent) ∙ sym given;
      };
    }

pub on_both : {X E : Type 0} (r : Result X E) (P Q R : Type 0) → OnOk r P → OnOk r Q → (P → Q → R) → OnOk r R
on_both (Ok x) P Q R h k f = f h k
on_both (Err e) P Q R h k f = tt

-- ---- a reader

reader_there : (rs : List (Option Consumer)) (j x : ℕ) → slice_index_or (map seat_of rs) j None ≡ Some x → (c : Consumer) × (slice_index_or rs j None ≡ Some c) × (x ≡ c.at)
reader_there [] j x e = absurd (cc)
reader_there (None ∷ rs) zero x e = absurd (cc)
reader_there (Some c ∷ rs) zero x e = (c, refl, let i : Some c.at ≡ Some x = e in cc)
reader_there (r ∷ rs) (suc j) x e = reader_there rs j x e

vacant_seat : (rs : List (Option Consumer)) (j : ℕ) → slice_get (map seat_of rs) j ≡ Some None → slice_get rs j ≡ Some None
vacant_seat [] j e = absurd (cc)
vacant_seat (None ∷ rs) zero e = refl
vacant_seat (Some c ∷ rs) zero e = absurd (let i : Some (Some c.at) ≡ Some None = e in let k : Some c.at ≡ None = cc in cc)
vacant_seat (r ∷ rs) (suc j) e = vacant_seat rs j e

none_seated : (rs : List (Option Consumer)) (j : ℕ) → slice_get rs j ≡ Some None → slice_index_or rs j None ≡ None
none_seated [] j e = absurd (cc)
none_seated (r ∷ rs) zero e = let i : Some r ≡ Some None = e in cc
none_seated (r ∷ rs) (suc j) e = none_seated rs j e

taken_seat : (rs : List (Option Consumer)) (j : ℕ) (c : Consumer) → slice_index_or rs j None ≡ Some c → slice_get rs j ≡ Some None → ⊥
taken_seat rs j c e f = let i : None ≡ Some c = sym (none_seated rs j f) ∙ e in absurd (cc)

-- the reader of a number in the state
reader_in : (old : Simulated) (s : ScriptState) (j : ℕ) → RepresentsState old s → HasConsumer old.log (suc j) → (c : Consumer) × (reader_at s (suc j) ≡ Some c) × (position_of old.log (suc j) ≡ c.at)
reader_in old s j h there = reader_there s.readers j (position_of old.log (suc j)) (ap (λ cs. slice_index_or cs (suc j) None) (sym h.consumers) ∙ there)

vacant_in : (old : Simulated) (s : ScriptState) (j : ℕ) → RepresentsState old s → IsVacant old.log (suc j) → slice_get s.readers j ≡ Some None
vacant_in old s j h none = vacant_seat s.readers j (ap (λ cs. slice_get cs (suc j)) (sym h.consumers) ∙ none)

no_reader_at : (old : Simulated) (s : ScriptState) (k : ℕ) → RepresentsState old s → (k ≡ 0) ⊎ IsVacant old.log k → reader_at s k ≡ None
no_reader_at old s zero h e = refl
no_reader_at old s (suc j) h (inl e) = absurd (omega (arith, e))
no_reader_at old s (suc j) h (inr e) = none_seated s.readers j (vacant_in old s j h e)

pub no_reader : (old : Simulated) (k : ℕ) (line : Line) (before after : List Line) → (k ≡ 0) ⊎ IsVacant old.log k → line_content line ≡ Bad → after ≡ before ++ line ∷ [] → IsAnswered old (commands.Read k) before after old
no_reader old k line before after none bad told =
    bad_answered old (commands.Read k) line before after bad (λ s h. inl (no_reader_at old s k h none, (refl, refl))) told

-- the state with another reader of this number, or none
reseated : (old : Simulated) (s : ScriptState) (j : ℕ) (o : Option Consumer) (m : Stream) → RepresentsState old s → m ≡ record old.log { consumers = slice_set old.log.consumers (suc j) (seat_of o) }
    → RepresentsState (record old { log = m }) (record s { log = record s.log { consumers = slice_set s.log.consumers (suc j) (seat_of o) }; readers = slice_set s.readers (suc j - 1) o })
reseated old s j o m h is =
    let index : suc j - 1 ≡ j = omega arith in
    record {
      log = ap (λ (l : Stream). record l { consumers = slice_set l.consumers (suc j) (seat_of o) }) h.log ∙ sym is;
      sender = record { flow = h.sender.flow; small = h.sender.small; naming = h.sender.naming; heard = h.sender.heard; handler = h.sender.handler; last = h.sender.last; clock = h.sender.clock };
      consumers = ap (λ (l : Stream). l.consumers) is ∙ ap (λ cs. slice_set cs (suc j) (seat_of o)) h.consumers ∙ ap (λ cs. Some s.sender.at ∷ cs) (sym (map-set seat_of s.readers j o) ∙ ap (λ n. map seat_of (slice_set s.readers n o)) (sym index));
      receivers = h.receivers;
      packets = h.packets;
    }

read_so : (old : Simulated) (j : ℕ) (m : Stream) (line : Line) (before after : List Line) → HasConsumer old.log (suc j) → ReadsLine old.log (suc j) (line_content line) m → after ≡ before ++ line ∷ [] → IsAnswered old (commands.Read (suc j)) before after (record old { log = m })
read_so old j m line before after there (inl n) told = λ s h standing.
    let c = reader_in old s j h there in
    record {
      lines = line_content line ∷ [];
      state = s;
      answers = inr (inl (c.0, c.1, (λ p a e. n.0 p (subst (λ l. Among p (committed l.entries)) h.log a) (e ∙ sym c.2)), ap (λ x. x ∷ []) n.1, refl));
      printed = one_line before after line told;
      shows = subst (λ l. RepresentsState (record old { log = l }) s) (sym n.2) h;
    }
read_so old j m line before after there (inr f) told = λ s h standing.
    let c = reader_in old s j h there in
    record {
      lines = line_content line ∷ [];
      state = with_reader s (suc j) (moved c.0 f.0);
      answers = inr (inr (c.0, f.0, c.1, subst (λ l. Among f.0 (committed l.entries)) (sym h.log) f.1, f.2 ∙ c.2, ap (λ x. x ∷ []) f.3, refl));
      printed = one_line before after line told;
      shows = reseated old s j (Some (moved c.0 f.0)) m h f.4;
    }

pub read_answered : (old : Simulated) (k j : ℕ) (m : Stream) (line : Line) (before after : List Line) → k ≡ suc j → HasConsumer old.log k → ReadsLine old.log k (line_content line) m → after ≡ before ++ line ∷ [] → IsAnswered old (commands.Read k) before after (record old { log = m })
read_answered old k j m line before after is there reads told =
    subst (λ n. IsAnswered old (commands.Read n) before after (record old { log = m })) (sym is)
    (read_so old j m line before after (subst (λ n. HasConsumer old.log n) is there) (subst (λ n. ReadsLine old.log n (line_content line) m) is reads) told)

-- ---- a reader that joins, and one that leaves

-- who has a number may not join with it
not_vacant : (old : Simulated) (s : ScriptState) (k : ℕ) → RepresentsState old s → HasConsumer old.log k → states.IsVacant s k → ⊥
not_vacant old s zero h there vacant = vacant
not_vacant old s (suc j) h there vacant = let c = reader_in old s j h there in taken_seat s.readers j c.0 c.1 vacant

pub join_answered : (old : Simulated) (k : ℕ) (m : Stream) (line : Line) (before after : List Line) → JoinsLine old.log k (line_content line) m → after ≡ before ++ line ∷ [] → IsAnswered old (commands.Join k) before after (record old { log = m })
join_answered old k m line before after (inl n) told =
    subst (λ l. IsAnswered old (commands.Join k) before after (record old { log = l })) (sym n.2)
    (bad_answered old (commands.Join k) line before after n.1 (λ s h. inl (not_vacant old s k h n.0, (refl, refl))) told)
join_answered old zero m line before after (inr n) told = λ s h standing. absurd (sender_there old s h n.vacant)
  where
    sender_there : (old : Simulated) (s : ScriptState) → RepresentsState old s → IsVacant old.log 0 → ⊥
    sender_there old s h none = let e : Some (Some s.sender.at) ≡ Some None = ap (λ cs. slice_get cs 0) (sym h.consumers) ∙ none in let f : Some s.sender.at ≡ None = cc in absurd (cc)
join_answered old (suc j) m line before after (inr n) told = λ s h standing.
    let same : lowest old.log ≡ lowest s.log = ap lowest (sym h.log) in
    record {
      lines = line_content line ∷ [];
      state = with_reader s (suc j) (consumer_at (lowest s.log));
      answers = inr record { legal = subst IsStream (sym h.log) n.legal; vacant = vacant_in old s j h n.vacant; shown = ap (λ x. x ∷ []) (n.shown ∙ ap Joined same); new_is = refl };
      printed = one_line before after line told;
      shows = reseated old s j (Some (consumer_at (lowest s.log))) m h (n.after ∙ ap (with_consumer old.log (suc j)) same);
    }

pub leave_answered : (old : Simulated) (k : ℕ) (m : Stream) (line : Line) (before after : List Line) → LeavesLine old.log k (line_content line) m → after ≡ before ++ line ∷ [] → IsAnswered old (commands.Leave k) before after (record old { log = m })
leave_answered old k m line before after (inl n) told =
    subst (λ l. IsAnswered old (commands.Leave k) before after (record old { log = l })) (sym n.2)
    (bad_answered old (commands.Leave k) line before after n.1 (λ s h. inl (no_reader_at old s k h n.0, (refl, refl))) told)
leave_answered old zero m line before after (inr n) told = absurd (let some = n.0 in omega (arith, some))
leave_answered old (suc j) m line before after (inr n) told = λ s h standing.
    let c = reader_in old s j h n.1 in
    record {
      lines = line_content line ∷ [];
      state = record s { log = without_consumer s.log (suc j); readers = slice_set s.readers (suc j - 1) None };
      answers = inr (c.0, c.1, ap (λ x. x ∷ []) n.2, refl);
      printed = one_line before after line told;
      shows = reseated old s j None m h n.3;
    }

-- ---- what a publisher has, and its offer

-- ---- offers, by what orders them

pub may_offer : (s t : ScriptState) (by : ℕ) (message : List ℕ) (lines : List LineContent) → MayBeOffered s by message lines t → MayNotTake s by (max_message s.log.identity.geometry) (length message) lines t ⊎ OffersMessage s by message lines t
may_offer s t by message lines (inl x) = inl (inr x.0, x.1)
may_offer s t by message lines (inr x) = inr x

pub may_offer_size : (s t : ScriptState) (by size : ℕ) (lines : List LineContent) → MayBeOffered s by (replicate size 97) lines t → MayNotTake s by (max_message s.log.identity.geometry) size lines t ⊎ OffersMessage s by (replicate size 97) lines t
may_offer_size s t by size lines (inl x) = inl (inr x.0, x.1)
may_offer_size s t by size lines (inr x) = inr x
