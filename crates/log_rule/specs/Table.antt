-- The rule over all words and seats, the first seat, and how seats are dealt, told and joined.
use Rattle.std.specs.Prelude.{ℕ, zero, suc, ◌-◌, List, [], ◌∷◌, ◌++◌, map, replicate, slice_index}
use Rattle.atomic_table.specs.Table.{State}
use Rattle.theory.specs.Bytes.{Identity}
use Rattle.theory.specs.Position.{greatest_claim}
use Rattle.theory.specs.Refusal.{limit_in}
use Rattle.publication.specs.declared.pass.FrameWords.{FrameWords}
use Rattle.publication.specs.declared.pass.Pass.{Pass}
use Rattle.publication.specs.declared.pass.Reading.{Reading}
use Rattle.log_rule.specs.declared.claims.view.View.{View}
use Rattle.log_rule.specs.Claims.Packs.{limit_place}
use Rattle.log_rule.specs.Claims.Rule.{Bounds}
use Rattle.log_rule.specs.Claims.Memory.{Ruled}
use Rattle.log_rule.specs.Claims.Sure.{AreSure, fresh_controls, no_controls}
use Rattle.log_rule.specs.Claims.Plays.{newcomer, no_keeping, pass_in}
use Rattle.log_rule.specs.declared.rule.Key.{Key}
use Rattle.log_rule.specs.Kept.{Kept}
use Rattle.log_rule.specs.Numbers.{AreNumbered}

-- what others may move: the limit word, and how far is cleaned
abbrev pub now_at : Key → ℕ → ℕ → Bounds
now_at key word cleaned = record {
  identity = key.identity;
  start = key.start;
  greatest = greatest_claim key.identity.geometry;
  limit = limit_in word;
  word = word;
  floor = cleaned;
  cleaned = cleaned;
}

-- the four parts: claims and memory; consumers and the keeper; who is sure of the control words; under which numbers passes claim
pub record LogRuled (key : Key) (s : State (Unit {0}) View) : Type 0 where
  pub cleaned : ℕ
  -- which consumers are there
  pub there : List ℕ
  pub ruled : Ruled (now_at key (slice_index s.words limit_place) cleaned) s.words (map pass_in s.views)
  pub kept : Kept (now_at key (slice_index s.words limit_place) cleaned) there s.words (map pass_in s.views)
  pub sure : AreSure s.words s.views
  pub numbered : AreNumbered (map pass_in s.views)

-- ---- the first seat

-- so many consumers at a position, with these numbers and those behind
abbrev pub consumers_at : ℕ → ℕ → ℕ → List Reading
consumers_at start number zero = []
consumers_at start number (suc n) = record { number = number; position = start; known = []; misses = 0 } ∷ consumers_at start (suc number) n

-- so many are there of eight, by the first numbers
abbrev pub first_there : ℕ → List ℕ
first_there n = replicate n 1 ++ replicate (8 - n) 0

-- all publishers, all consumers and the keeper of a log that opens, unconnected, with its limit at the start
abbrev pub whole_pass : Key → Pass
whole_pass key = record (newcomer key.identity key.start 7 1024) {
  reading = consumers_at key.start 0 key.consumers;
  keeping = record { right = 1; limit = key.start; cleaned = key.start; there = first_there key.consumers; positions = replicate 8 key.start; reads = [] };
}

abbrev pub whole_seat : Key → View
whole_seat key = record { pass = whole_pass key; steps = 0; controls = record (fresh_controls key.identity key.start) { limit = key.start }; sure = 1 }

-- ---- seats are dealt

-- of a seat that deals: it isn't sure of the control words any more
abbrev pub dealing : Pass → View → View
dealing p v = record { pass = p; steps = v.steps; controls = v.controls; sure = 0 }

-- a seat that has made no step
abbrev pub new_seat : Pass → View
new_seat p = record { pass = p; steps = 0; controls = no_controls; sure = 0 }

abbrev pub first_reading : List Reading → List Reading
first_reading [] = []
first_reading (r ∷ rs) = r ∷ []

abbrev pub other_readings : List Reading → List Reading
other_readings [] = []
other_readings (r ∷ rs) = rs

-- the first consumer goes to a seat of its own
abbrev pub reader_left : View → View
reader_left v = record v { pass = record v.pass { reading = other_readings v.pass.reading } }

abbrev pub reader_right : View → View
reader_right v = new_seat (record (newcomer v.pass.identity v.pass.start 0 0) { reading = first_reading v.pass.reading })

-- the keeper does, with eight parts
abbrev pub keeper_left : View → View
keeper_left v = dealing (record v.pass { right = record v.pass.right { parts = v.pass.right.parts - 8 }; keeping = no_keeping }) v

abbrev pub keeper_right : View → View
keeper_right v = new_seat (record (newcomer v.pass.identity v.pass.start 0 8) { keeping = v.pass.keeping })

-- ---- what one pass committed is told to another

-- what is known alone, of no consumer
abbrev pub news_of : Pass → Reading
news_of v = record { number = 8; position = 0; known = v.work.frames; misses = 0 }

abbrev pub news_left : View → View
news_left v = v

abbrev pub news_right : View → View
news_right v = new_seat (record (newcomer v.pass.identity v.pass.start 0 0) { reading = news_of v.pass ∷ [] })

abbrev pub all_known : List Reading → List FrameWords
all_known [] = []
all_known (r ∷ rs) = r.known ++ all_known rs

-- so is what its consumers know
abbrev pub knowledge_of : Pass → Reading
knowledge_of v = record { number = 8; position = 0; known = all_known v.reading; misses = 0 }

abbrev pub knowledge_right : View → View
knowledge_right v = new_seat (record (newcomer v.pass.identity v.pass.start 0 0) { reading = knowledge_of v.pass ∷ [] })

abbrev pub knows_all : List FrameWords → Reading → Reading
knows_all fs r = record r { known = r.known ++ fs }

abbrev pub told_seat : View → View → View
told_seat v w = record v { pass = record v.pass { reading = map (knows_all (all_known w.pass.reading)) v.pass.reading } }

-- ---- a consumer goes back to the keeper

abbrev pub returned_seat : View → View → View
returned_seat v w = record v { pass = record v.pass { reading = w.pass.reading ++ v.pass.reading } }

-- a pass that is one consumer, and nothing else
abbrev pub reader_alone : Identity → ℕ → Reading → Pass
reader_alone identity start r = record (newcomer identity start 0 0) { reading = r ∷ [] }
