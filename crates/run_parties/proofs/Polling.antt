-- What a subscriber reads, and what is tallied of it.
use Rattle.std.proofs.Common.{Ok, Err, inr, ◌≡◌, ℕ, ◌+◌, ◌*◌, ◌<◌, ◌^◌, List, [], ◌∷◌, ◌++◌, length, Option, None, Some, refl, sym, ap, ◌∙◌, subst, append-nil, arith}
use Rattle.theory.specs.Placed.{Among, Placed}
use Rattle.assembler.specs.declared.fault.AssemblyError.{AssemblyError}
use Rattle.image.specs.Handles.{ImageWords, ReaderSeat, known_by, position_of}
use Rattle.image.specs.Meeting.{Meets}
use Rattle.receiver.specs.Representing.{words_of}
use Rattle.image.specs.Rebuilding.{Inserting, join_of}
use Rattle.receiver.specs.Dealt.{Learns}
use Rattle.receiver.specs.Reading.{GivesMessage, GivesNothing, Hears, HearsFurther, IsImage, Passes, PassesRead, Reading, RefusesFrame}
use Rattle.run_parties.specs.Receptions.{Answer, AnswersSo, HasPolled, IsBegun, PollsAll, PolledFrom, PolledOf, counted, given_by, refused_by}
use Rattle.run_parties.specs.Tallies.{Counted, IsTallyOf}

-- ---- one poll more

polled_more : (m n o p : Reading) (answers : List Answer) (a : Answer) → PollsAll m answers n → AnswersSo n a o → Passes o p → PollsAll m (answers ++ a ∷ []) p
polled_more m n o p [] a polled so past = (o, p, subst (λ (x : Reading). AnswersSo x a o) polled so, past, refl)
polled_more m n o p (b ∷ answers) a polled so past = (polled.0, polled.1, polled.2, polled.3, polled_more polled.1 n o p answers a polled.4 so past)

given_more : (answers : List Answer) (a : Answer) → given_by (answers ++ a ∷ []) ≡ given_by answers ++ given_by (a ∷ [])
given_more [] a = refl
given_more (Ok (Some message) ∷ answers) a = ap (λ ms. message ∷ ms) (given_more answers a)
given_more (Ok None ∷ answers) a = given_more answers a
given_more (Err fault ∷ answers) a = given_more answers a

refused_more : (answers : List Answer) (a : Answer) → refused_by (answers ++ a ∷ []) ≡ refused_by answers + refused_by (a ∷ [])
refused_more [] a = omega arith
refused_more (Ok found ∷ answers) a = refused_more answers a
refused_more (Err fault ∷ answers) a = let e = refused_more answers a in omega (arith, e)

-- its reader stands where it has heard to
rests : (n : Reading) → position_of n.seat ≡ n.heard_to → Passes n n
rests n stands = record { same = refl; stands = stands; keeps = λ s a. a; misses = refl }

with_answer : (m n o : Reading) (c k : Counted) (refused more : ℕ) (a : Answer) (h : HasPolled (record { reader = m; tally = c; refused = refused })) → AnswersSo m a n → Passes n o → IsTallyOf (given_by h.answers ++ given_by (a ∷ [])) k → more ≡ counted (refused_by h.answers + refused_by (a ∷ []))
    → HasPolled (record { reader = o; tally = k; refused = more })
with_answer m n o c k refused more a h so past tally count = record {
  first = h.first;
  begun = h.begun;
  answers = h.answers ++ a ∷ [];
  polled = polled_more h.first m n o h.answers a h.polled so past;
  tally = subst (λ ms. IsTallyOf ms k) (sym (given_more h.answers a)) tally;
  refused = count ∙ ap counted (sym (refused_more h.answers a));
  stands = past.stands ∙ sym (ap (λ (x : Reading). x.heard_to) past.same);
}

-- ---- what a poll leaves

-- one that has polled nothing
pub polled_none : (m : Reading) (t : Counted) → IsBegun m → IsTallyOf [] t → HasPolled (record { reader = m; tally = t; refused = 0 })
polled_none m t begun tally = record { first = m; begun = begun; answers = []; polled = refl; tally = tally; refused = refl; stands = begun.stands }

-- a message more, which is tallied
pub polled_message : (m n o : Reading) (c k : Counted) (refused : ℕ) (message : List ℕ) → c.polled < 2 ^ 63 → ((ms : List (List ℕ)) → length ms < 2 ^ 63 → IsTallyOf ms c → IsTallyOf (ms ++ message ∷ []) k)
    → GivesMessage m message n → Passes n o → HasPolled (record { reader = m; tally = c; refused = refused }) → HasPolled (record { reader = o; tally = k; refused = refused })
polled_message m n o c k refused message room takes gives past h =
    with_answer m n o c k refused refused (Ok (Some message)) h gives past (takes (given_by h.answers) (let l = h.tally.many in omega arith) h.tally) (h.refused ∙ ap counted (omega arith))

-- none: the tally stays
pub polled_nothing : (m n : Reading) (c : Counted) (refused : ℕ) → GivesNothing m n → HasPolled (record { reader = m; tally = c; refused = refused }) → HasPolled (record { reader = n; tally = c; refused = refused })
polled_nothing m n c refused gives h =
    with_answer m n n c c refused refused (Ok None) h gives (rests n gives.stands) (subst (λ ms. IsTallyOf ms c) (sym (append-nil (given_by h.answers))) h.tally) (h.refused ∙ ap counted (omega arith))

-- a message was refused
pub polled_refused : (m n : Reading) (c : Counted) (refused more : ℕ) (error : AssemblyError) → more ≡ counted (refused + 1) → RefusesFrame m error n → HasPolled (record { reader = m; tally = c; refused = refused }) → HasPolled (record { reader = n; tally = c; refused = more })
polled_refused m n c refused more error e refuses h =
    with_answer m n n c c refused more (Err error) h refuses (rests n refuses.stands) (subst (λ ms. IsTallyOf ms c) (sym (append-nil (given_by h.answers))) h.tally) (let r = h.refused in omega (arith, e, r))

-- ---- it meets the core

met_from : (i j : Inserting) (m : Reading) (q : ReaderSeat) (c : Counted) (refused : ℕ) → IsImage (Some i) m.image → Meets i m.seat j q → HasPolled (record { reader = m; tally = c; refused = refused }) → PolledFrom j c refused
met_from i j m q c refused image met h =
    let of : h.first.image ≡ words_of i = sym (same_image h.first m h.answers h.polled) ∙ sym image in
    record {
      first = h.first;
      last = m;
      join = h.begun.at ∙ ap (λ (w : ImageWords). 32 * w.key.join) of ∙ ap join_of (sym met.inserter);
      nothing = h.begun.nothing;
      answers = h.answers;
      polled = h.polled;
      stored = λ s a. subst (Among s) (ap (λ (x : Inserting). x.stored) (sym met.inserter)) ((met.knows s).0 (met.keeps s a));
      tally = h.tally;
      refused_are = h.refused;
    }
  where
    answered_image : (x y : Reading) (a : Answer) → AnswersSo x a y → y.image ≡ x.image
    answered_image x y (Ok (Some message)) so = so.hears.reads.image
    answered_image x y (Ok None) so = so.hears.reads.image
    answered_image x y (Err fault) so = so.reads.image

    same_image : (x y : Reading) (answers : List Answer) → PollsAll x answers y → y.image ≡ x.image
    same_image x y [] polled = ap (λ (z : Reading). z.image) polled
    same_image x y (a ∷ answers) polled = same_image polled.1 y answers polled.4 ∙ ap (λ (z : Reading). z.image) polled.3.same ∙ answered_image x polled.0 a polled.2

pub met_core : (v w : Option Inserting) (m : Reading) (q : ReaderSeat) (c : Counted) (refused : ℕ) → IsImage v m.image → Learns v m.seat w q → HasPolled (record { reader = m; tally = c; refused = refused }) → PolledOf w c refused
met_core None w m q c refused image learns h = absurd image
met_core (Some i) w m q c refused image learns h = subst (λ (x : Option Inserting). PolledOf x c refused) (sym learns.1) (inr (met_from i learns.0 m q c refused image learns.2 h))

-- ---- polls of which none was refused

pub hears_all : HearsFurther → PassesRead → (m n : Reading) (answers : List Answer) → PollsAll m answers n → refused_by answers ≡ 0 → (frames : List Placed) × Hears m frames (given_by answers) n
hears_all further passes m n [] polled none = ([], record { reads = record { image = ap (λ (x : Reading). x.image) polled; chain = ap (λ (x : Reading). x.heard_to) polled; known = tt; keeps = λ s a. subst (λ (x : Reading). Among s (known_by x.seat)) (sym polled) a; greatest = ap (λ (x : Reading). x.assembler.greatest) polled }; heard = ap (λ (x : Reading). record { begun = x.assembler.begun; given = [] }) (sym polled) })
hears_all further passes m n (Ok (Some message) ∷ answers) polled none =
    let frames = polled.2.earlier ++ polled.2.last ∷ [] in
    let rest = hears_all further passes polled.1 n answers polled.4 none in
    (frames ++ rest.0, further m polled.1 n frames rest.0 (message ∷ []) (given_by answers) (passes m polled.0 polled.1 frames (message ∷ []) polled.2.hears polled.3) rest.1)
hears_all further passes m n (Ok None ∷ answers) polled none =
    let rest = hears_all further passes polled.1 n answers polled.4 none in
    (polled.2.frames ++ rest.0, further m polled.1 n polled.2.frames rest.0 [] (given_by answers) (passes m polled.0 polled.1 polled.2.frames [] polled.2.hears polled.3) rest.1)
hears_all further passes m n (Err fault ∷ answers) polled none = absurd (omega (arith, none))
