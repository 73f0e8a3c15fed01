-- The example run, step for step.
use Rattle.std.specs.Prelude.{ℕ, ◌<◌, pos, true, false, List, [], ◌∷◌, ◌++◌, map, replicate, Option, None, Some, slice_set}
use Rattle.std.proofs.Common.{refl, inl, inr, arith}
use Rattle.theory.specs.Entry.{entry_end}
use Rattle.theory.specs.Insert.{Stored}
use Rattle.theory.specs.Consumer.{Consumer, consumer_at, moved, passed_by}
use Rattle.theory.specs.Image.{Image, image_at, after_insert, Inserted, Lose, Poll}
use Rattle.model.specs.Log.{Log, entry_for, with_frame, aborted_at, Connect, Raise, Arm, Add, Commit, Abort, Join, Leave, Move, Pass}
use Rattle.theory.specs.Resend.{answered}
use Rattle.model.specs.Sender.{Sender, after_nak, after_status, in_cycle, SendSetup, HearStatus, Send, HearNak, Resend}
use Rattle.model.specs.World.{World, Event, AtLog, AtSender, AtImage, Open, IsOpened, Run, opened_sender}
use Rattle.model.specs.ExampleRun.{start, log_at_start, world_at_start, begin, end, aborted, tripped, abc, ItRuns}
use Rattle.theory.proofs.Lists.{all_replicate}

abbrev world : Log → Sender → List (Option Image) → World
world l s is = record { log = l; sender = s; images = is }

abbrev both : Option Image → Option Image → List (Option Image)
both a b = a ∷ None ∷ None ∷ b ∷ None ∷ None ∷ None ∷ None ∷ []

abbrev arms : ℕ → Log → Log
arms by l = record l { armed = slice_set l.armed by true }

abbrev takes : ℕ → ℕ → Log → Log
takes by bytes l = record l { armed = slice_set l.armed by false; entries = l.entries ++ entry_for l by bytes ∷ []; tail = entry_end (entry_for l by bytes) }

is_opened : IsOpened world_at_start
is_opened = record {
  geometry = record { term = record { power = (16, refl); least = omega arith; greatest = omega arith }; mtu = record { unit = refl; least = omega arith; greatest = omega arith; within = omega arith }; initial = record { sfits = omega arith } };
  identity = record { session = record { sfits = omega arith }; stream = record { sfits = omega arith } };
  unit = refl;
  below = omega arith;
  tail = refl;
  entries = refl;
  armed = refl;
  retired = refl;
  limit = refl;
  connected = refl;
  closed = refl;
  cleaned = refl;
  readers = (refl, (tt, tt));
  sender = refl;
  images = refl;
}

abbrev log1 : Log
log1 = record log_at_start { connected = true }

abbrev log2 : Log
log2 = record log1 { limit = 97856 }

abbrev log3 : Log
log3 = arms 0 log2

abbrev log4 : Log
log4 = takes 0 230 log3

abbrev log5 : Log
log5 = arms 1 log4

abbrev log6 : Log
log6 = takes 1 10 log5

abbrev log7 : Log
log7 = record log6 { entries = map (with_frame 65088 begin.frame) log6.entries }

abbrev log8 : Log
log8 = record log7 { entries = map (aborted_at 65408) log7.entries }

abbrev log9 : Log
log9 = record log8 { entries = map (with_frame 65088 end.frame) log8.entries }

abbrev log10 : Log
log10 = arms 0 log9

abbrev log11 : Log
log11 = takes 0 100 log10

abbrev log12 : Log
log12 = record log11 { entries = map (with_frame 65472 tripped.frame) log11.entries }

abbrev log13 : Log
log13 = arms 0 log12

abbrev log14 : Log
log14 = takes 0 3 log13

abbrev log15 : Log
log15 = record log14 { entries = map (with_frame 65536 abc.frame) log14.entries }

abbrev log16 : Log
log16 = record log15 { readers = Some (consumer_at start) ∷ Some (consumer_at 65088) ∷ [] }

abbrev log17 : Log
log17 = record log16 { readers = Some (consumer_at start) ∷ None ∷ [] }

abbrev r1 : Consumer
r1 = moved (consumer_at start) begin

abbrev seats : Consumer → Consumer → Log
seats a b = record log17 { readers = Some a ∷ Some b ∷ [] }

abbrev log18 : Log
log18 = record log17 { readers = Some r1 ∷ None ∷ [] }

abbrev late : Consumer
late = consumer_at 65344

abbrev log19 : Log
log19 = seats r1 late

abbrev late1 : Consumer
late1 = moved late end

abbrev late2 : Consumer
late2 = moved late1 aborted

abbrev late3 : Consumer
late3 = moved late2 tripped

abbrev late4 : Consumer
late4 = moved late3 abc

abbrev log24 : Log
log24 = seats (passed_by r1 end) late4

abbrev sender1 : Sender
sender1 = record (opened_sender start (Some 2)) { setups = 65088 ∷ [] }

abbrev a0 : Image
a0 = image_at 65088 32768 1

abbrev b0 : Image
b0 = image_at 65088 16384 2

abbrev sender2 : Sender
sender2 = after_status sender1 3 (pos 0) (record { position = pos 65088; window = pos 32768 })

abbrev both_heard : Sender
both_heard = after_status sender2 4 (pos 1) (record { position = pos 65088; window = pos 16384 })

abbrev sender3 : Sender
sender3 = record (in_cycle both_heard 5) { at = 65600; passed = begin ∷ end ∷ aborted ∷ tripped ∷ abc ∷ []; sent = begin ∷ end ∷ aborted ∷ tripped ∷ abc ∷ [] }

abbrev a1 : Image
a1 = after_insert a0 abc Stored

abbrev a2 : Image
a2 = after_insert a1 begin Stored

abbrev a3 : Image
a3 = after_insert a2 tripped Stored

abbrev a4 : Image
a4 = after_insert a3 aborted Stored

abbrev c1 : Consumer
c1 = moved (consumer_at 65088) begin

abbrev a5 : Image
a5 = record a4 { consumers = c1 ∷ [] }

abbrev b1 : Image
b1 = after_insert b0 begin Stored

abbrev b2 : Image
b2 = after_insert b1 end Stored

abbrev b3 : Image
b3 = after_insert b2 aborted Stored

abbrev b4 : Image
b4 = after_insert b3 tripped Stored

abbrev b5 : Image
b5 = after_insert b4 abc Stored

abbrev sender4 : Sender
sender4 = after_nak log_at_start.identity.geometry start sender3 5 (pos 65344) (pos 64)

abbrev sender5 : Sender
sender5 = record sender4 { sent = end ∷ begin ∷ end ∷ aborted ∷ tripped ∷ abc ∷ []; actions = answered 5 (record { at = 65344; length = 64; lingers = false; until = 0 }) sender4.actions }

abbrev a6 : Image
a6 = after_insert a5 end Stored

abbrev c2 : Consumer
c2 = moved c1 end

abbrev a7 : Image
a7 = record a6 { consumers = c2 ∷ [] }

abbrev c3 : Consumer
c3 = moved c2 aborted

abbrev a8 : Image
a8 = record a7 { consumers = c3 ∷ [] }

abbrev c4 : Consumer
c4 = moved c3 tripped

abbrev a9 : Image
a9 = record a8 { consumers = c4 ∷ [] }

abbrev c5 : Consumer
c5 = moved c4 abc

abbrev a10 : Image
a10 = record a9 { consumers = c5 ∷ [] }

abbrev c6 : Consumer
c6 = moved (consumer_at 65088) begin

abbrev b6 : Image
b6 = record b5 { consumers = c6 ∷ consumer_at 65088 ∷ [] }

abbrev c7 : Consumer
c7 = moved c6 end

abbrev b7 : Image
b7 = record b6 { consumers = c7 ∷ consumer_at 65088 ∷ [] }

abbrev c8 : Consumer
c8 = moved c7 aborted

abbrev b8 : Image
b8 = record b7 { consumers = c8 ∷ consumer_at 65088 ∷ [] }

abbrev c9 : Consumer
c9 = moved c8 tripped

abbrev b9 : Image
b9 = record b8 { consumers = c9 ∷ consumer_at 65088 ∷ [] }

abbrev c10 : Consumer
c10 = moved c9 abc

abbrev b10 : Image
b10 = record b9 { consumers = c10 ∷ consumer_at 65088 ∷ [] }

abbrev b11 : Image
b11 = record b10 { consumers = c10 ∷ moved (consumer_at 65088) begin ∷ [] }

abbrev b12 : Image
b12 = record b11 { consumers = c10 ∷ passed_by (moved (consumer_at 65088) begin) end ∷ [] }

abbrev last : World
last = world log24 sender5 (both (Some a10) (Some b12))

abbrev rest_42 : List Event
rest_42 = AtImage 3 (Poll 0 tripped) ∷ AtImage 3 (Poll 0 abc) ∷ AtImage 3 (Poll 1 begin) ∷ AtImage 3 (Lose 1 end) ∷ []

from_42 : Run (world log24 sender5 (both (Some a10) (Some b8))) rest_42 last
from_42 = (
  world log24 sender5 (both (Some a10) (Some b9)),
  (b8, b9, refl, (c8, refl, record { among = inr (inl refl); here = refl }, refl, refl), refl),
  (
    world log24 sender5 (both (Some a10) (Some b10)),
    (b9, b10, refl, (c9, refl, record { among = inl refl; here = refl }, refl, refl), refl),
    (
      world log24 sender5 (both (Some a10) (Some b11)),
      (b10, b11, refl, (consumer_at 65088, refl, record { among = inr (inr (inr (inr (inl refl)))); here = refl }, refl, refl), refl),
      (
        world log24 sender5 (both (Some a10) (Some b12)),
        (b11, b12, refl, (moved (consumer_at 65088) begin, refl, record { among = inr (inr (inr (inl refl))); here = refl }, refl), refl),
        refl,
      ),
    ),
  ),
)

abbrev rest_36 : List Event
rest_36 = AtImage 0 (Poll 0 aborted) ∷ AtImage 0 (Poll 0 tripped) ∷ AtImage 0 (Poll 0 abc) ∷ AtImage 3 (Poll 0 begin) ∷ AtImage 3 (Poll 0 end) ∷ AtImage 3 (Poll 0 aborted) ∷ rest_42

from_36 : Run (world log24 sender5 (both (Some a7) (Some b5))) rest_36 last
from_36 = (
  world log24 sender5 (both (Some a8) (Some b5)),
  (a7, a8, refl, (c2, refl, record { among = inr (inl refl); here = refl }, refl, refl), refl),
  (
    world log24 sender5 (both (Some a9) (Some b5)),
    (a8, a9, refl, (c3, refl, record { among = inr (inr (inl refl)); here = refl }, refl, refl), refl),
    (
      world log24 sender5 (both (Some a10) (Some b5)),
      (a9, a10, refl, (c4, refl, record { among = inr (inr (inr (inr (inl refl)))); here = refl }, refl, refl), refl),
      (
        world log24 sender5 (both (Some a10) (Some b6)),
        (b5, b6, refl, (consumer_at 65088, refl, record { among = inr (inr (inr (inr (inl refl)))); here = refl }, refl, refl), refl),
        (
          world log24 sender5 (both (Some a10) (Some b7)),
          (b6, b7, refl, (c6, refl, record { among = inr (inr (inr (inl refl))); here = refl }, refl, refl), refl),
          (
            world log24 sender5 (both (Some a10) (Some b8)),
            (b7, b8, refl, (c7, refl, record { among = inr (inr (inl refl)); here = refl }, refl, refl), refl),
            from_42,
          ),
        ),
      ),
    ),
  ),
)

abbrev rest_30 : List Event
rest_30 = AtImage 3 (Inserted 65088 tripped) ∷ AtImage 3 (Inserted 65088 abc) ∷ AtSender (HearNak 5 (pos 65344) (pos 64)) ∷ AtSender (Resend 5 (record { at = 65344; length = 64; lingers = false; until = 0 }) (end ∷ [])) ∷ AtImage 0 (Inserted 65344 end) ∷ AtImage 0 (Poll 0 end) ∷ rest_36

from_30 : Run (world log24 sender3 (both (Some a5) (Some b3))) rest_30 last
from_30 = (
  world log24 sender3 (both (Some a5) (Some b4)),
  (b3, b4, refl, (inr (inr (inr (inl refl))), record { low = omega arith; all = (omega arith, (omega arith, tt)) }, refl), refl),
  (
    world log24 sender3 (both (Some a5) (Some b5)),
    (b4, b5, refl, (inr (inr (inr (inr (inl refl)))), record { low = omega arith; all = (omega arith, (omega arith, tt)) }, refl), refl),
    (
      world log24 sender4 (both (Some a5) (Some b5)),
      (sender4, refl, refl),
      (
        world log24 sender5 (both (Some a5) (Some b5)),
        (sender5, (refl, refl, refl), refl),
        (
          world log24 sender5 (both (Some a6) (Some b5)),
          (a5, a6, refl, (inl refl, record { low = omega arith; all = (omega arith, tt) }, refl), refl),
          (
            world log24 sender5 (both (Some a7) (Some b5)),
            (a6, a7, refl, (c1, refl, record { among = inl refl; here = refl }, refl, refl), refl),
            from_36,
          ),
        ),
      ),
    ),
  ),
)

abbrev rest_24 : List Event
rest_24 = AtImage 0 (Inserted 65088 tripped) ∷ AtImage 0 (Inserted 65088 aborted) ∷ AtImage 0 (Poll 0 begin) ∷ AtImage 3 (Inserted 65088 begin) ∷ AtImage 3 (Inserted 65088 end) ∷ AtImage 3 (Inserted 65088 aborted) ∷ rest_30

from_24 : Run (world log24 sender3 (both (Some a2) (Some b0))) rest_24 last
from_24 = (
  world log24 sender3 (both (Some a3) (Some b0)),
  (a2, a3, refl, (inr (inr (inr (inl refl))), record { low = omega arith; all = (omega arith, tt) }, refl), refl),
  (
    world log24 sender3 (both (Some a4) (Some b0)),
    (a3, a4, refl, (inr (inr (inl refl)), record { low = omega arith; all = (omega arith, tt) }, refl), refl),
    (
      world log24 sender3 (both (Some a5) (Some b0)),
      (a4, a5, refl, (consumer_at 65088, refl, record { among = inr (inr (inl refl)); here = refl }, refl, refl), refl),
      (
        world log24 sender3 (both (Some a5) (Some b1)),
        (b0, b1, refl, (inl refl, record { low = omega arith; all = (omega arith, (omega arith, tt)) }, refl), refl),
        (
          world log24 sender3 (both (Some a5) (Some b2)),
          (b1, b2, refl, (inr (inl refl), record { low = omega arith; all = (omega arith, (omega arith, tt)) }, refl), refl),
          (
            world log24 sender3 (both (Some a5) (Some b3)),
            (b2, b3, refl, (inr (inr (inl refl)), record { low = omega arith; all = (omega arith, (omega arith, tt)) }, refl), refl),
            from_30,
          ),
        ),
      ),
    ),
  ),
)

abbrev rest_22 : List Event
rest_22 = AtLog (Move 0 begin) ∷ AtLog (Join 1 65344) ∷ AtLog (Move 1 end) ∷ AtLog (Move 1 aborted) ∷ AtLog (Move 1 tripped) ∷ AtLog (Move 1 abc) ∷ AtLog (Pass 0 end) ∷ AtImage 0 (Inserted 65088 abc) ∷ AtImage 0 (Inserted 65088 begin) ∷ rest_24

from_22 : Run (world log17 sender3 (both (Some a0) (Some b0))) rest_22 last
from_22 = (
  world log18 sender3 (both (Some a0) (Some b0)),
  (log18, (consumer_at start, refl, record { among = inl refl; here = refl }, refl, refl), refl),
  (
    world log19 sender3 (both (Some a0) (Some b0)),
    (log19, (refl, record { read = begin ∷ []; chain = (refl, refl); among = (inl refl, tt) }, record { others_above = (omega arith, tt); readers_above = (omega arith, (tt, tt)) }, omega arith, refl), refl),
    (
      world (seats r1 late1) sender3 (both (Some a0) (Some b0)),
      (seats r1 late1, (late, refl, record { among = inr (inl refl); here = refl }, refl, refl), refl),
      (
        world (seats r1 late2) sender3 (both (Some a0) (Some b0)),
        (seats r1 late2, (late1, refl, record { among = inr (inr (inl refl)); here = refl }, refl, refl), refl),
        (
          world (seats r1 late3) sender3 (both (Some a0) (Some b0)),
          (seats r1 late3, (late2, refl, record { among = inr (inr (inr (inl refl))); here = refl }, refl, refl), refl),
          (
            world (seats r1 late4) sender3 (both (Some a0) (Some b0)),
            (seats r1 late4, (late3, refl, record { among = inr (inr (inr (inr (inl refl)))); here = refl }, refl, refl), refl),
            (
              world log24 sender3 (both (Some a0) (Some b0)),
              (log24, (r1, refl, record { among = inr (inl refl); here = refl }, refl), refl),
              (
                world log24 sender3 (both (Some a1) (Some b0)),
                (a0, a1, refl, (inr (inr (inr (inr (inl refl)))), record { low = omega arith; all = (omega arith, tt) }, refl), refl),
                (
                  world log24 sender3 (both (Some a2) (Some b0)),
                  (a1, a2, refl, (inl refl, record { low = omega arith; all = (omega arith, tt) }, refl), refl),
                  from_24,
                ),
              ),
            ),
          ),
        ),
      ),
    ),
  ),
)

abbrev rest_18 : List Event
rest_18 = Open 0 65088 32768 1 ∷ Open 3 65088 16384 2 ∷ AtSender (HearStatus 3 (pos 0) (record { position = pos 65088; window = pos 32768 })) ∷ AtSender (HearStatus 4 (pos 1) (record { position = pos 65088; window = pos 16384 })) ∷ AtSender (Send 5 (begin ∷ end ∷ aborted ∷ tripped ∷ abc ∷ []) 65600) ∷ rest_22

from_18 : Run (world log17 sender1 (replicate 8 None)) rest_18 last
from_18 = (
  world log17 sender1 (both (Some a0) None),
  (refl, inl refl, omega arith, omega arith, record { unit = refl; least = omega arith; greatest = omega arith }, refl),
  (
    world log17 sender1 (both (Some a0) (Some b0)),
    (refl, inl refl, omega arith, omega arith, record { unit = refl; least = omega arith; greatest = omega arith }, refl),
    (
      world log17 sender2 (both (Some a0) (Some b0)),
      (sender2, refl, refl),
      (
        world log17 both_heard (both (Some a0) (Some b0)),
        (both_heard, refl, refl),
        (
          world log17 sender3 (both (Some a0) (Some b0)),
          (sender3, ((refl, (refl, (refl, (refl, (refl, refl))))), (inl refl, (inr (inl refl), (inr (inr (inl refl)), (inr (inr (inr (inl refl))), (inr (inr (inr (inr (inl refl)))), tt))))), (omega arith, (omega arith, (omega arith, (omega arith, (omega arith, tt))))), refl), refl),
          from_22,
        ),
      ),
    ),
  ),
)

abbrev rest_12 : List Event
rest_12 = AtLog (Arm 0 97856) ∷ AtLog (Add 0 3) ∷ AtLog (Commit 65536 abc.frame) ∷ AtLog (Join 1 65088) ∷ AtLog (Leave 1) ∷ AtSender SendSetup ∷ rest_18

from_12 : Run (world log12 (opened_sender start (Some 2)) (replicate 8 None)) rest_12 last
from_12 = (
  world log13 (opened_sender start (Some 2)) (replicate 8 None),
  (log13, ((omega arith, refl), omega arith, omega arith, refl), refl),
  (
    world log14 (opened_sender start (Some 2)) (replicate 8 None),
    (log14, ((omega arith, refl), refl, omega arith, omega arith, refl), refl),
    (
      world log15 (opened_sender start (Some 2)) (replicate 8 None),
      (log15, (record { entry = entry_for log13 0 3; among = inr (inr (inr (inl refl))); here = refl; frames = ((refl, refl), tt); bytes = (omega arith, (omega arith, (omega arith, tt))) }, refl), refl),
      (
        world log16 (opened_sender start (Some 2)) (replicate 8 None),
        (log16, (refl, record { read = []; chain = refl; among = tt }, record { others_above = (omega arith, tt); readers_above = (omega arith, (tt, tt)) }, omega arith, refl), refl),
        (
          world log17 (opened_sender start (Some 2)) (replicate 8 None),
          (log17, (consumer_at 65088, refl, inr (0, consumer_at start, λ e. absurd (omega arith), refl), refl), refl),
          (
            world log17 sender1 (replicate 8 None),
            (sender1, refl, refl),
            from_18,
          ),
        ),
      ),
    ),
  ),
)

abbrev rest_6 : List Event
rest_6 = AtLog (Commit 65088 begin.frame) ∷ AtLog (Abort 65408) ∷ AtLog (Commit 65088 end.frame) ∷ AtLog (Arm 0 97856) ∷ AtLog (Add 0 100) ∷ AtLog (Commit 65472 tripped.frame) ∷ rest_12

from_6 : Run (world log6 (opened_sender start (Some 2)) (replicate 8 None)) rest_6 last
from_6 = (
  world log7 (opened_sender start (Some 2)) (replicate 8 None),
  (log7, (record { entry = entry_for log3 0 230; among = inl refl; here = refl; frames = ((refl, refl), tt); bytes = all_replicate (λ b. b < 256) 224 1 (omega arith) }, refl), refl),
  (
    world log8 (opened_sender start (Some 2)) (replicate 8 None),
    (log8, (record { entry = entry_for log5 1 10; among = inr (inl refl); here = refl; open_message = refl; untouched = refl; cut = 42; single = refl }, refl), refl),
    (
      world log9 (opened_sender start (Some 2)) (replicate 8 None),
      (log9, (record { entry = record (entry_for log3 0 230) { frames = begin.frame ∷ [] }; among = inl refl; here = refl; frames = ((refl, refl), ((refl, refl), tt)); bytes = all_replicate (λ b. b < 256) 6 2 (omega arith) }, refl), refl),
      (
        world log10 (opened_sender start (Some 2)) (replicate 8 None),
        (log10, ((omega arith, refl), omega arith, omega arith, refl), refl),
        (
          world log11 (opened_sender start (Some 2)) (replicate 8 None),
          (log11, ((omega arith, refl), refl, omega arith, omega arith, refl), refl),
          (
            world log12 (opened_sender start (Some 2)) (replicate 8 None),
            (log12, (record { entry = entry_for log10 0 100; among = inr (inr (inl refl)); here = refl; frames = refl; bytes = tt }, refl), refl),
            from_12,
          ),
        ),
      ),
    ),
  ),
)

abbrev rest_0 : List Event
rest_0 = AtLog (Connect true) ∷ AtLog (Raise 65088) ∷ AtLog (Arm 0 97856) ∷ AtLog (Add 0 230) ∷ AtLog (Arm 1 97856) ∷ AtLog (Add 1 10) ∷ rest_6

from_0 : Run (world_at_start) rest_0 last
from_0 = (
  world log1 (opened_sender start (Some 2)) (replicate 8 None),
  (log1, refl, refl),
  (
    world log2 (opened_sender start (Some 2)) (replicate 8 None),
    (log2, (refl, record { others_above = (omega arith, tt); readers_above = (omega arith, (tt, tt)) }, omega arith, refl, refl, refl), refl),
    (
      world log3 (opened_sender start (Some 2)) (replicate 8 None),
      (log3, ((omega arith, refl), omega arith, omega arith, refl), refl),
      (
        world log4 (opened_sender start (Some 2)) (replicate 8 None),
        (log4, ((omega arith, refl), refl, omega arith, omega arith, refl), refl),
        (
          world log5 (opened_sender start (Some 2)) (replicate 8 None),
          (log5, ((omega arith, refl), omega arith, omega arith, refl), refl),
          (
            world log6 (opened_sender start (Some 2)) (replicate 8 None),
            (log6, ((omega arith, refl), refl, omega arith, omega arith, refl), refl),
            from_6,
          ),
        ),
      ),
    ),
  ),
)

pub it_runs : ItRuns
it_runs = (is_opened, (last, from_0, record { one = a10; one_there = refl; one_polled = refl; other = b12; other_there = refl; other_window = refl; other_polled = refl; readers = refl; tail = refl; shares = (refl, refl) }))
