-- A small world: a log, in which its first publisher has published the lines abc and ab that its input had, and which is closed. Term
-- length 65536, MTU 1408, first term 7, session 1, stream 1001.
use Rattle.std.specs.Prelude.{◌≡◌, ◌<◌, ◌≤◌, ◌+◌, ◌==◌, cond, ℕ, zero, suc, pos, true, false, Bool, List, [], ◌∷◌, map, slice_index, Some, Ok}
use Rattle.std.specs.List.{AllByRecursion, flat_map}
use Rattle.std.proofs.Common.{arith, ap, inl, refl}
use Rattle.std.proofs.lemmas.Grind.{merely}
use Rattle.atomic_table.specs.Seated.{TableId}
use Rattle.theory.specs.Entry.{Entry}
use Rattle.theory.specs.Tiling.{share_of}
use Rattle.theory.proofs.Rows.{abc, identity, the_geometry}
use Rattle.theory.proofs.UnitRows.{legal}
use Rattle.position.specs.Words.{frame_words}
use Rattle.publication.specs.Steps.{Extent, works}
use Rattle.shared_log.specs.Steps.Handles.{LogId, IsOf, LogValue, PublisherValue}
use Rattle.log_rule.specs.Claims.Plays.{newcomer}
use Rattle.log_rule.specs.Claims.Rule.{IsClaimEntry, entries_of}
use Rattle.log_rule.specs.Claims.Sure.{no_controls}
use Rattle.log_rule.specs.Claims.Sums.{total}
use Rattle.log_rule.specs.Edges.{in_entry}
use Rattle.shared_log.specs.Books.{IsDone, ShowsBook, committed_in, share_as}
use Rattle.shared_log.specs.declared.book.Book.{Book}
use Rattle.sender_meaning.proofs.StreamRows.{ab, two}
use Rattle.options.specs.declared.ends.plans.PublishPlan.{PublishPlan}
use Rattle.messages.specs.declared.form.Form.TheVariants.{Lines}
use Rattle.publisher.specs.InputEnds.{EndsInput}
use Rattle.publisher.specs.Offers.{Publishes, Taken, claim_of, frames_in}
use Rattle.publisher.specs.Offers.Taken.{Message}
use Rattle.publisher.specs.declared.offering.reading.Reading.{Reading}
use Rattle.publisher.specs.declared.offering.reading.ReadingEnd.TheVariants.{All}
use Rattle.messages.specs.Inputs.{IsOneLine}
use Rattle.channel_meaning.specs.Streams.{IsItsStream}

-- ---- a log, its publishers, and what the first has claimed

abbrev pub table : TableId
table = record { words = 0; slots = 0; views_name = 0; atom = 0; block = 0; offset = 0; slot_names = [] }

abbrev pub place : LogId
place = record { table = table; region = record { life = 0; names = []; block = 0; first = 0 } }

abbrev pub log : LogValue
log = record { table = place; identity = identity; start = 0; consumers = 1 }

abbrev pub first : PublisherValue
first = record { of = place; seat = 0; pass = newcomer identity 0 0 176; steps = 0; controls = no_controls; sure = 0; freed = 0 }

abbrev pub taken : List Taken
taken = Message 0 abc ∷ Message 64 ab ∷ []

-- all of it committed
abbrev pub last : PublisherValue
last = record first { pass = record first.pass { right = record first.pass.right { claims = map (claim_of identity 0) taken }; work = works (flat_map (frames_in identity) taken) [] } }

-- the parts of the others are one pass's, which has claimed nothing
abbrev pub other : PublisherValue
other = record first { seat = 1; pass = record (newcomer identity 0 7 840) { right = record (newcomer identity 0 7 840).right { numbers = [] } } }

abbrev pub both : List PublisherValue
both = other ∷ last ∷ []

abbrev pub publishes : Publishes first.pass 0 (abc ∷ ab ∷ []) last.pass 128
publishes = record {
  taken = taken;
  identity = refl;
  number = refl;
  parts = refl;
  claims = refl;
  frames = refl;
  drafts = refl;
  ordered = λ none. ((omega arith, tt), (tt, tt));
  are = refl;
  ends = refl;
}

-- it is the stream of both messages, and not one in which the first is left out, nor one in which they have changed places
pub its : IsItsStream first.pass taken two
its = record { identity = refl; entries = refl }

its_second_alone : IsItsStream first.pass (Message 64 ab ∷ []) two → ⊥
its_second_alone s = let e = s.entries in absurd (cc)

turned : IsItsStream first.pass (Message 64 ab ∷ Message 0 abc ∷ []) two → ⊥
turned s = let e : 0 ≡ 64 = ap first_start s.entries in omega (arith, e)
  where
    first_start : List Entry → ℕ
    first_start [] = 0
    first_start (e ∷ es) = e.start

-- ---- its input

abbrev pub planned : PublishPlan → PublishPlan
planned p = record p { end = record p.end { stream = pos 1001; form = Lines }; geometry = the_geometry; session = pos 1; start = 0; legal = (refl, omega arith) }

-- abc and ab, a line each
abbrev pub input : List ℕ
input = 97 ∷ 98 ∷ 99 ∷ 10 ∷ 97 ∷ 98 ∷ 10 ∷ []

abbrev pub reading : Reading
reading = record { geometry = the_geometry; offered = record { messages = 2; tail = 128 }; ended = Ok All; stops = merely tt }

pub abc_is_one_line : IsOneLine abc
abc_is_one_line zero low e = omega (arith, e)
abc_is_one_line (suc zero) low e = omega (arith, e)
abc_is_one_line (suc (suc zero)) low e = omega (arith, e)
abc_is_one_line (suc (suc (suc i))) low e = omega (arith, low)

pub ab_is_one_line : IsOneLine ab
ab_is_one_line zero low e = omega (arith, e)
ab_is_one_line (suc zero) low e = omega (arith, e)
ab_is_one_line (suc (suc i)) low e = omega (arith, low)

is_of : IsOf log last
is_of = record { table = refl; identity = refl; start = refl }

pub is_done : IsDone log last
is_done = record { idle = record { of = is_of; unarmed = refl }; ended = refl }

pub is_of_other : IsDone log other
is_of_other = record { idle = record { of = record { table = refl; identity = refl; start = refl }; unarmed = refl }; ended = refl }

abbrev pub ends_input : EndsInput Lines log (Some input) (Some []) first.pass last reading
ends_input = record {
  done = is_done;
  geometry = refl;
  publishes = record {
    messages = abc ∷ ab ∷ [];
    between = Some [];
    reads = (Some (97 ∷ 98 ∷ 10 ∷ []), ((abc_is_one_line, inl refl), omega arith), (Some [], ((ab_is_one_line, inl refl), omega arith), refl));
    publishes = publishes;
    counted = refl;
    behind = last.pass;
    published = publishes;
    stops = (refl, refl);
  };
}

-- ---- the book

abbrev pub book : Book
book = record { start = 0; tail = 128; shares = 128 ∷ 0 ∷ 0 ∷ 0 ∷ 0 ∷ 0 ∷ 0 ∷ 0 ∷ [] }

few : (b : Bool) → 0 + ((cond b 1 0 + 0) + 0) ≤ 1
few true = omega arith
few false = omega arith

claim_entries : AllByRecursion IsClaimEntry (entries_of last.pass)
claim_entries = (
  record { entry = record { owner = omega arith; cuts = (omega arith, tt); long = omega arith; frames = tt }; unit = refl },
  (record { entry = record { owner = omega arith; cuts = (omega arith, tt); long = omega arith; frames = tt }; unit = refl }, tt),
)

each_committed : (h : Extent → ℕ) → total (in_entry h) (entries_of last.pass) ≡ total (committed_in h) both
unfolding frame_words
each_committed h = omega arith

pub shows : ShowsBook log both book
shows = record {
  geometry = legal;
  start = refl;
  low = omega arith;
  shares = shares;
  whole = refl;
  entries = (tt, (claim_entries, tt));
  tiled = record { log = entries_of last.pass; tiles = (refl, omega arith, (refl, omega arith, refl)); fair = λ h. omega arith };
  owned = owned;
  numbers = λ n. few (0 == n);
  committed = each_committed;
}
  where
    shares : (n : ℕ) → n < 8 → slice_index book.shares n ≡ total (share_as n) both
    shares zero low = refl
    shares (suc zero) low = refl
    shares (suc (suc zero)) low = refl
    shares (suc (suc (suc zero))) low = refl
    shares (suc (suc (suc (suc zero)))) low = refl
    shares (suc (suc (suc (suc (suc zero))))) low = refl
    shares (suc (suc (suc (suc (suc (suc zero)))))) low = refl
    shares (suc (suc (suc (suc (suc (suc (suc zero))))))) low = refl
    shares (suc (suc (suc (suc (suc (suc (suc (suc n)))))))) low = absurd (omega arith)

    owned : (n : ℕ) → n < 8 → slice_index book.shares n ≡ share_of n (entries_of last.pass)
    owned zero low = refl
    owned (suc zero) low = refl
    owned (suc (suc zero)) low = refl
    owned (suc (suc (suc zero))) low = refl
    owned (suc (suc (suc (suc zero)))) low = refl
    owned (suc (suc (suc (suc (suc zero))))) low = refl
    owned (suc (suc (suc (suc (suc (suc zero)))))) low = refl
    owned (suc (suc (suc (suc (suc (suc (suc zero))))))) low = refl
    owned (suc (suc (suc (suc (suc (suc (suc (suc n)))))))) low = absurd (omega arith)
