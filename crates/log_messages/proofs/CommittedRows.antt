-- A reader that has read a frame which another pass committed, step by step.
-- A log opens, and its reader gets a seat of its own. The other pass, which has all else, connects the log and raises the limit,
-- sees that, arms, adds for an empty message and commits it; then the reader loads the first word of its frame, and goes behind it.
-- Each step keeps the rule of the log. Term length 65536, MTU 1408, all ids 0.
use Rattle.std.proofs.Common.{◌≡◌, ℕ, zero, suc, ◌+◌, ◌*◌, ◌%◌, ◌^◌, ◌<◌, ◌≤◌, List, [], ◌∷◌, map, set, length, length-set, inl, inr, refl, sym, ap, ◌∙◌, subst, pos, get_or-set_other, get_or-set_same, arith}
use mathlib.Core.Option.{some, some-injective, some-ne-none}
use lib.ListN.{get_elem?}
use Rattle.std.specs.Prelude.{None, false, slice_index}
use Rattle.std.proofs.lemmas.List.{set-get_or}
use Rattle.atomic_table.specs.Seated.{TableId}
use Rattle.atomic_table.specs.Table.{State}
use Rattle.theory.specs.Bytes.{Identity}
use Rattle.theory.specs.Placed.{Among, Data}
use Rattle.theory.specs.Position.{IsGeometry, framed_length}
use Rattle.theory.specs.Words.{id_before, tail_word}
use Rattle.position.specs.Words.{frame_words}
use Rattle.publication.specs.declared.pass.FrameWords.{FrameWords}
use Rattle.publication.specs.declared.pass.Pass.{Pass}
use Rattle.publication.specs.declared.pass.Reading.{Reading}
use Rattle.publication.specs.declared.step.WordStep.{WordStep}
use Rattle.publication.specs.declared.step.WordStep.TheVariants as steps
use Rattle.publication.specs.Frames.{CompletesFrame, frame_at}
use Rattle.publication.specs.Steps.{Adds, Arms, Commits, Sees, addition, message_at, noted, opened, tail_step, with_armed, with_limit, with_work}
use Rattle.log_rule.specs.declared.claims.view.View.{View}
use Rattle.log_rule.specs.declared.rule.Key.{Key}
use Rattle.log_rule.specs.Claims.Events.{Eventful}
use Rattle.log_rule.specs.Claims.Openings.{Fresh}
use Rattle.log_rule.specs.Claims.Plays.{bounds_of, pass_in}
use Rattle.log_rule.specs.Claims.Rule.{Bounds, Sound}
use Rattle.log_rule.specs.Claims.Sure.{no_controls}
use Rattle.log_rule.specs.Edges.{CommittedBy}
use Rattle.log_rule.specs.Keepings.{MayRaise}
use Rattle.log_rule.specs.Opening.{Begun}
use Rattle.log_rule.specs.Readings.{MayPass, knows_more, moved_to, with_consumer}
use Rattle.log_rule.specs.Table.{LogRuled, reader_left, reader_right, whole_seat}
use Rattle.log_rule.proofs.Beginning.{opens, origin_of}
use Rattle.log_rule.proofs.Claimed.Begun.{fresh_words, sound_key}
use Rattle.log_rule.proofs.Claimed.Eventful.{steps_are_events}
use Rattle.log_rule.proofs.Claimed.Sures.{Turns, add_turns, data_turns, limit_turns, tail_turns}
use Rattle.log_rule.proofs.Dealing.{deals_reader}
use Rattle.log_rule.proofs.Lifting.{Spares, lifted, load_spares, other_spares}
use Rattle.log_rule.proofs.Looked.{others_are_looks}
use Rattle.log_rule.proofs.Owning.{Goes, adds_goes, arms_goes, commits_goes, sees_goes}
use Rattle.log_rule.proofs.Saying.{rule_says}
use Rattle.shared_log.specs.Steps.Handles.{LogId}
use Rattle.shared_log.specs.Readers.{ReaderValue, known_of}
use Rattle.log_messages.specs.Law.{ReadIsCommitted}
use Rattle.log_messages.specs.Reading.{HasRead, given_of}
use Rattle.log_messages.specs.Reading as messages

abbrev identity : Identity
identity = record { geometry = record { term_length = 65536; mtu = 1408; initial_term_id = pos 0 }; session = pos 0; stream = pos 0 }

abbrev key : Key
key = record { identity = identity; start = 0; consumers = 1 }

legal : IsGeometry identity.geometry
legal = record { term = record { power = (16, refl); least = omega arith; greatest = omega arith }; mtu = record { unit = refl; least = omega arith; greatest = omega arith; within = omega arith }; initial = record { sfits = omega arith } }

sound : Sound (bounds_of (origin_of key))
sound = sound_key (origin_of key) legal refl (omega arith)

-- ---- two seats: one pass has all but the reader, which is the other

abbrev with_pass : Pass → View → View
with_pass p v = record { pass = p; steps = v.steps; controls = v.controls; sure = v.sure }

record Stands (p r : Pass) (tail : ℕ) : Type 0 where
  words : List ℕ
  one : View
  two : View
  ruled : LogRuled key record { words = words; homes = []; views = with_pass p one ∷ with_pass r two ∷ [] }
  tail_is : slice_index words 32 ≡ tail
  long : 208 < length words

-- a step of the first pass, by which that becomes this one
steps_on : (p q r : Pass) (before after i n : ℕ) (f : ℕ → ℕ) (told : ℕ → Pass → Type 0) (noted : ℕ → List WordStep) → 0 < p.right.parts → Turns i f noted → Spares i f → ((n : ℕ) (w : Pass) → told n w → Goes p w) → ((b : Bounds) → Eventful b 0 p i f told)
    → (s : Stands p r before) → slice_index s.words i ≡ n → n < 2 ^ 64 → ((w : Pass) → told n w → w ≡ q) → slice_index (set s.words i (f n)) 32 ≡ after → Stands q r after
steps_on p q r before after i n f told noted some' turns spares goes event s is low becomes tail =
    let v : View = with_pass p s.one in
    let g = lifted key 0 0 i (v, []) f told noted turns (inl some') spares goes event (record { words = s.words; homes = []; views = v ∷ with_pass r s.two ∷ [] }) s.ruled refl refl (subst (λ (m : ℕ). m < 2 ^ 64) (sym is) low) in
    let w : View = g.0 in let now = g.3 in
    let same : w.pass ≡ q = becomes w.pass (subst (λ (m : ℕ). told m w.pass) is g.4.4) in record {
      words = set s.words i (f n);
      one = w;
      two = s.two;
      ruled = subst (λ (x : ℕ × Pass). LogRuled key record { words = set s.words i (f x.0); homes = []; views = with_pass x.1 w ∷ with_pass r s.two ∷ [] }) (λ j. (is j, same j)) record { cleaned = now.cleaned; there = now.there; ruled = now.ruled; kept = now.kept; sure = now.sure; numbered = now.numbered };
      tail_is = tail;
      long = subst (λ (m : ℕ). 208 < m) (sym (length-set s.words i (f n))) s.long;
    }

-- ---- the log opens, and is connected up to half a term

abbrev connected : ℕ
connected = 32769

abbrev whole : Pass
whole = (reader_left (whole_seat key)).pass

abbrev reader : Pass
reader = (reader_right (whole_seat key)).pass

abbrev limited : Pass
limited = record whole { keeping = record whole.keeping { limit = connected } }

may_raise : MayRaise whole connected
may_raise = record { keeper = refl; rises = omega arith; clean = λ _. omega arith }

opened_log : (ws0 : List ℕ) → Fresh (bounds_of (origin_of key)) ws0 → Stands limited reader 0
opened_log ws0 fresh =
    let ws : List ℕ = set ws0 0 0 in let far : 208 < length ws = subst (λ (m : ℕ). 208 < m) (sym (length-set ws0 0 0)) (subst (λ (m : ℕ). 208 < m) (sym fresh.wide) (omega arith)) in
    let begun : Begun 0 ws0 1 ws = record {
      wide = length-set ws0 0 0;
      limit = get_or-set_same ws0 0 0 0 (subst (λ (m : ℕ). 0 < m) (sym fresh.wide) (omega arith));
      consumers = λ j lt. get_or-set_other ws0 0 (j * 16 + 80) 0 0 (λ e. omega arith) ∙ fresh.others (j * 16 + 80) record { limit = λ e. omega arith; count = λ e. omega arith; here = λ e. omega arith; next = λ e. omega arith; last = λ e. omega arith };
      others = λ i ne away. get_or-set_other ws0 0 i 0 0 (λ e. ne e);
    } in
    let all = opens key ws0 ws sound (omega arith, omega arith) fresh begun in
    let apart = deals_reader key 0 (whole_seat key) (record { words = ws; homes = []; views = whole_seat key ∷ [] }) all refl in
    let g = others_are_looks.limit key 0 (reader_left (whole_seat key)) connected may_raise (omega arith) (record { words = ws; homes = []; views = reader_left (whole_seat key) ∷ reader_right (whole_seat key) ∷ [] }) apart refl (subst (λ (m : ℕ). m < 2 ^ 64) (sym begun.limit) (omega arith)) in
    let w : View = g.0 in let now = g.1 in record {
      words = set ws 0 connected;
      one = w;
      two = reader_right (whole_seat key);
      ruled = subst (λ (x : Pass). LogRuled key record { words = set ws 0 connected; homes = []; views = with_pass x w ∷ reader_right (whole_seat key) ∷ [] }) g.2 record { cleaned = now.cleaned; there = now.there; ruled = now.ruled; kept = now.kept; sure = now.sure; numbered = now.numbered };
      tail_is = get_or-set_other ws 0 32 connected 0 (λ e. omega arith) ∙ get_or-set_other ws0 0 32 0 0 (λ e. omega arith) ∙ fresh.here;
      long = subst (λ (m : ℕ). 208 < m) (sym (length-set ws 0 connected)) far;
    }

-- ---- the limit is seen

abbrev seen : Pass
seen = noted (steps.Limit connected) (with_limit limited connected)

-- the keeper knows the limit's word
limit_here : (s : Stands limited reader 0) → slice_index s.words 0 ≡ connected
limit_here s = sym ((s.ruled.kept.each 0 limited refl).keeping.limit refl)

same_tail : (ws : List ℕ) (n i t : ℕ) → slice_index ws i ≡ n → slice_index ws 32 ≡ t → slice_index (set ws i n) 32 ≡ t
same_tail ws n i t is tail = subst (λ (m : ℕ). slice_index (set ws i m) 32 ≡ t) is (ap (λ (l : List ℕ). slice_index l 32) (set-get_or ws i 0) ∙ tail)

seen_limit : Stands limited reader 0 → Stands seen reader 0
seen_limit s = steps_on limited seen reader 0 0 0 connected (λ n. n) (λ n w. Sees limited n w) (λ n. steps.Limit n ∷ []) (omega arith) limit_turns (load_spares 0) (λ n w. sees_goes limited n w) (λ b. steps_are_events.load_limit b 0 limited)
    s (limit_here s) (omega arith) (λ w told. told) (same_tail s.words connected 0 0 (limit_here s) s.tail_is)

-- ---- it is armed

abbrev armed : Pass
armed = noted (tail_step seen 0) (with_armed seen)

arm : Stands seen reader 0 → Stands armed reader 0
arm s = steps_on seen armed reader 0 0 32 0 (λ n. n) (λ n w. Arms seen n w) (λ n. tail_step seen n ∷ []) (omega arith) (tail_turns 0) (load_spares 32) (λ n w. arms_goes seen (λ less. absurd (omega arith)) n w) (λ b. steps_are_events.load_tail b 0 seen (omega arith))
    s s.tail_is (omega arith) (λ w told. told.below refl (omega arith) (omega arith)) (same_tail s.words 0 32 0 s.tail_is s.tail_is)

-- ---- it adds for an empty message

abbrev claimed : Pass
claimed = noted (addition armed 0 0) (opened armed (message_at armed 0 0))

add : Stands armed reader 0 → Stands claimed reader 32
add s = steps_on armed claimed reader 0 32 32 0 (λ n. (n + framed_length identity.geometry 0) % 2 ^ 64) (λ n w. Adds armed 0 n w) (λ n. addition armed 0 n ∷ []) (omega arith) (add_turns 0 32) (other_spares 32 (λ n. (n + 32) % 2 ^ 64) (λ e. omega arith) (λ j lt e. omega arith))
    (λ n w. adds_goes armed refl 0 n w) (λ b. steps_are_events.add b 0 armed 0 (omega arith) refl (omega arith))
    s s.tail_is (omega arith) (λ w told. told.fits (omega arith)) (get_or-set_same s.words 32 32 0 (let l = s.long in omega arith))

-- ---- it commits it

abbrev frame : FrameWords
frame = frame_at identity 0 (Data 192 [])

abbrev first_word : ℕ
first_word = slice_index frame.words 0

abbrev committed : Pass
committed = with_work (frame ∷ []) [] claimed

completes : CompletesFrame claimed 0 first_word
unfolding frame_words
completes = record { front = []; draft = record { start = 0; cut = 32; words = 0 ∷ 0 ∷ 0 ∷ 0 ∷ [] }; behind = []; parts = refl; inside = omega arith; position = refl; content = Data 192 []; legal = (inr (inr (inr refl)), omega arith, tt); whole = refl; spelt = refl }

above_zero : 0 < first_word
unfolding frame_words
above_zero = omega arith

narrow : first_word < 2 ^ 64
unfolding frame_words
narrow = omega arith

-- nothing is stored there yet
zero_here : (s : Stands claimed reader 32) → slice_index s.words 208 ≡ 0
zero_here s =
    let low : s.ruled.cleaned ≡ 0 = sym ((s.ruled.kept.each 0 claimed refl).keeping.cleaned refl) in
    (s.ruled.ruled.memory.each 0 claimed refl).stands.0 0 (omega arith) (subst (λ (m : ℕ). m ≤ 0) (sym low) (omega arith))

becomes : (w : Pass) → Commits claimed 0 first_word w → w ≡ committed
unfolding frame_words
becomes w told = told [] (record { start = 0; cut = 32; words = 0 ∷ 0 ∷ 0 ∷ 0 ∷ [] }) [] refl (omega arith) refl

commit : Stands claimed reader 32 → Stands committed reader 32
commit s = steps_on claimed committed reader 32 32 208 0 (λ _. first_word) (λ _ w. Commits claimed 0 first_word w) (λ _. []) (omega arith) (data_turns 208 first_word (omega arith)) (other_spares 208 (λ _. first_word) (λ e. omega arith) (λ j lt e. omega arith))
    (λ _ w. commits_goes claimed 0 first_word w completes) (λ b. steps_are_events.commit b 0 claimed 0 first_word completes above_zero) s (zero_here s) (omega arith) (λ w told. becomes w told)
    (get_or-set_other s.words 208 32 first_word 0 (λ e. omega arith) ∙ s.tail_is)

-- ---- the reader loads its first word

abbrev at_start : Reading
at_start = record { number = 0; position = 0; known = []; misses = 0 }

-- a frame that it knows
abbrev knowing : FrameWords → Pass
knowing f = with_consumer reader 0 (knows_more at_start f)

word_here : (s : Stands committed reader 32) → slice_index s.words 208 ≡ first_word
unfolding frame_words
word_here s =
    let low : s.ruled.cleaned ≡ 0 = sym ((s.ruled.kept.each 0 committed refl).keeping.cleaned refl) in
    (s.ruled.ruled.memory.each 0 committed refl).stands.0 0 (omega arith) (subst (λ (m : ℕ). m ≤ 0) (sym low) (omega arith))

-- no other one is committed
the_one : (f g : FrameWords) → CommittedBy (committed ∷ knowing g ∷ []) f → f ≡ frame
the_one f g c = at_place c.place c.holder c.at c.among
  where
    is_frame : Among f (frame ∷ []) → f ≡ frame
    is_frame (inl e) = e
    is_frame (inr a) = absurd a

    at_place : (place : ℕ) (v : Pass) → get_elem? (committed ∷ knowing g ∷ []) place ≡ some v → Among f v.work.frames → f ≡ frame
    at_place zero v e a = is_frame (subst (λ (p : Pass). Among f p.work.frames) (sym (some-injective committed v e)) a)
    at_place (suc zero) v e a = absurd (subst (λ (p : Pass). Among f p.work.frames) (sym (some-injective (knowing g) v e)) a)
    at_place (suc (suc n)) v e a = absurd (some-ne-none v (sym e))

-- the words and both passes, where the reader is this one
record Reads (r : Pass) : Type 0 where
  words : List ℕ
  one : View
  two : View
  ruled : LogRuled key record { words = words; homes = []; views = with_pass committed one ∷ with_pass r two ∷ [] }

look : Stands committed reader 32 → Reads (knowing frame)
look s =
    let v : View = with_pass committed s.one in let here = word_here s in
    let g = others_are_looks.load_here key 1 (with_pass reader s.two) 0 at_start refl (omega arith) (record { words = s.words; homes = []; views = v ∷ with_pass reader s.two ∷ [] }) s.ruled refl (subst (λ (m : ℕ). m < 2 ^ 64) (sym here) narrow) in
    let w : View = g.0 in let now = g.1 in
    let found = (g.2 at_start refl).found (subst (λ (m : ℕ). 0 < m) (sym here) above_zero) in
    let ws : List ℕ = set s.words 208 (slice_index s.words 208) in
    let after : LogRuled key record { words = ws; homes = []; views = v ∷ with_pass (knowing found.frame) w ∷ [] } = subst (λ (x : Pass). LogRuled key record { words = ws; homes = []; views = v ∷ with_pass x w ∷ [] }) found.after record { cleaned = now.cleaned; there = now.there; ruled = now.ruled; kept = now.kept; sure = now.sure; numbered = now.numbered } in
    let same : found.frame ≡ frame = the_one found.frame found.frame ((rule_says key _ after).known 1 (knowing found.frame) (knows_more at_start found.frame) refl (inl refl)).0 in
    record { words = ws; one = v; two = w; ruled = subst (λ (f : FrameWords). LogRuled key record { words = ws; homes = []; views = v ∷ with_pass (knowing f) w ∷ [] }) same after }

-- ---- it goes behind it

abbrev behind : Pass
behind = with_consumer (knowing frame) 0 (moved_to (knows_more at_start frame) 32)

may_pass : MayPass (knowing frame) 0 32
unfolding frame_words
may_pass = record { consumer = knows_more at_start frame; is = refl; frame = frame; known = inl refl; here = refl; ends = refl }

-- its own position was 0
position_low : (s : Reads (knowing frame)) → slice_index s.words 80 ≡ 0
position_low s = (s.ruled.kept.each 1 (knowing frame) refl).readings.0.position (omega arith)

move : Reads (knowing frame) → Reads behind
move s =
    let g = others_are_looks.move key 1 (with_pass (knowing frame) s.two) 0 (knows_more at_start frame) 32 refl (omega arith) may_pass (record { words = s.words; homes = []; views = with_pass committed s.one ∷ with_pass (knowing frame) s.two ∷ [] }) s.ruled refl (subst (λ (m : ℕ). m < 2 ^ 64) (sym (position_low s)) (omega arith)) in
    let w : View = g.0 in let now = g.1 in let ws : List ℕ = set s.words 80 32 in
    record { words = ws; one = s.one; two = w; ruled = subst (λ (x : Pass). LogRuled key record { words = ws; homes = []; views = with_pass committed s.one ∷ with_pass x w ∷ [] }) (g.2 (knows_more at_start frame) refl).after record { cleaned = now.cleaned; there = now.there; ruled = now.ruled; kept = now.kept; sure = now.sure; numbered = now.numbered } }

-- ---- all of it

at_end : Reads behind
at_end = move (look (commit (add (arm (seen_limit (opened_log _ (fresh_words (origin_of key) sound 24784 32 48 64 0 (tail_word (id_before identity.geometry 0 2) 0) (tail_word (id_before identity.geometry 0 1) 0) refl refl refl refl refl refl refl)))))))

abbrev state : State (Unit {0}) View
state = record { words = at_end.words; homes = []; views = with_pass committed at_end.one ∷ with_pass behind at_end.two ∷ [] }

abbrev table : TableId
table = record { words = 0; slots = 0; views_name = 0; atom = 0; block = 0; offset = 0; slot_names = [] }

abbrev place : LogId
place = record { table = table; region = record { life = 0; names = []; block = 0; first = 0 } }

abbrev its_reader : ReaderValue
its_reader = record { held = record { of = place; seat = 1; pass = behind; steps = 0; controls = no_controls; sure = 0; freed = 0 }; place = 0; number = 0; position = 32; read_to = 32 }

abbrev reading : messages.Reading
reading = record { reader = its_reader; assembler = record { greatest = 16; begun = None }; begun_at = 0; has_refused = false }

-- ---- the law, there

-- its premises are met, by a reader that has read one frame, which it didn't commit itself
obeys : LogRuled key state
obeys = at_end.ruled

among_passes : get_elem? (map pass_in state.views) 1 ≡ some reading.reader.held.pass
among_passes = refl

has_read : HasRead 0 its_reader reading.assembler false
unfolding frame_words
has_read = record { legal = legal; chain = (refl, refl); whole = (refl, tt); begun = λ none. refl }

knows_one : known_of its_reader ≡ frame ∷ []
knows_one = refl

its_own : behind.work.frames ≡ []
its_own = refl

one_message : given_of reading ≡ [] ∷ []
unfolding frame_words
one_message = refl

-- and the law says who committed it: the other pass
committed_by : ReadIsCommitted → CommittedBy (map pass_in state.views) frame
committed_by law = (law reading key state 1 obeys among_passes).0

by_the_other : (law : ReadIsCommitted) → (committed_by law).holder ≡ committed
by_the_other law = let c = committed_by law in other c.place c.holder c.at c.among
  where
    other : (n : ℕ) (v : Pass) → get_elem? (map pass_in state.views) n ≡ some v → Among frame v.work.frames → v ≡ committed
    other zero v e a = sym (some-injective committed v e)
    other (suc zero) v e a = absurd (subst (λ (p : Pass). Among frame p.work.frames) (sym (some-injective behind v e)) a)
    other (suc (suc n)) v e a = absurd (some-ne-none v (sym e))
