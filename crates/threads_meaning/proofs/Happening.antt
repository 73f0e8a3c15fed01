-- There are such steps.
use Rattle.std.proofs.Common.{◌≡◌, ◌≢◌, ◌⊎◌, inl, inr, ℕ, ◌+◌, ◌*◌, ◌%◌, ◌^◌, ◌<◌, ◌≤◌, List, [], ◌∷◌, ◌++◌, length, length-set, map, replicate, set, sym, refl, ap, ◌∙◌, subst, get_or-set_other, arith}
use mathlib.Core.Option.{some}
use lib.ListN.{get_elem?}
use Rattle.std.specs.Prelude.{slice_index, pos}
use Rattle.std.proofs.lemmas.List.{map-set, set-get_or}
use Rattle.atomic_table.specs.Table.{State, homes_after}
use Rattle.theory.specs.Placed.{Data, Frame}
use Rattle.theory.specs.Position.{Geometry, IsGeometry, framed_length, greatest_claim}
use Rattle.theory.specs.Words.{id_before, tail_word}
use Rattle.position.specs.Words.{frame_words}
use Rattle.publication.specs.declared.pass.ClaimRange.{ClaimRange}
use Rattle.publication.specs.declared.pass.FrameWords.{FrameWords}
use Rattle.publication.specs.declared.pass.Pass.{Pass}
use Rattle.publication.specs.declared.step.WordStep.{WordStep}
use Rattle.publication.specs.declared.step.WordStep.TheVariants as steps
use Rattle.publication.specs.declared.pass.Controls.{Controls}
use Rattle.publication.specs.Frames.{CompletesFrame}
use Rattle.publication.specs.Steps.{Adds, Arms, Commits, Counts, HasWord, Sees, Stores, addition, blank, geometry_of, message_at, noted, opened, tail_step, with_armed, with_count, with_limit, with_work, written}
use Rattle.log_rule.specs.declared.claims.view.View.{View}
use Rattle.log_rule.specs.declared.rule.Key.{Key}
use Rattle.log_rule.specs.Claims.Events.{Eventful}
use Rattle.log_rule.specs.Claims.Openings.{Fresh, IsOther}
use Rattle.log_rule.specs.Claims.Packs.{count_place, limit_place, table_length}
use Rattle.log_rule.specs.Claims.Plays.{bounds_of, pass_in}
use Rattle.log_rule.specs.Claims.Rule.{Bounds, Sound}
use Rattle.log_rule.specs.Keepings.{MayRaise, Raises, with_keeping}
use Rattle.log_rule.specs.Opening.{Begun}
use Rattle.log_rule.specs.Table.{LogRuled, whole_pass, whole_seat}
use Rattle.log_rule.proofs.Beginning.{opens, origin_of}
use Rattle.log_rule.proofs.Claimed.Begun.{fresh_words, sound_key}
use Rattle.log_rule.proofs.Claimed.Eventful.{steps_are_events}
use Rattle.log_rule.proofs.Claimed.Sures as sures
use Rattle.log_rule.proofs.Claimed.Whole.{first_set}
use Rattle.log_rule.proofs.Lifting.{Spares, lifted, load_spares, other_spares}
use Rattle.log_rule.proofs.Looked.{others_are_looks}
use Rattle.log_rule.proofs.Owning.{Goes, adds_goes, arms_goes, commits_goes, counts_goes, sees_goes, stores_goes}
use Rattle.threads_meaning.specs.Row.{ItHappens, row_key}
use Rattle.threads_meaning.specs.Steps.{CommitsFrame, IsBelow, IsNextFrame, IsOpen, Turns, load_count, load_limit}
use Rattle.threads_meaning.proofs.Order.{words_commit}

-- ---- a step that the rule allows

-- a state of one seat, which has this pass, and these words
record Stage (key : Key) (p : Pass) (ws : List ℕ) : Type 0 where
  s : State (Unit {0}) View
  ruled : LogRuled key s
  steps : ℕ
  controls : Controls
  sure : ℕ
  views : s.views ≡ record { pass = p; steps = steps; controls = controls; sure = sure } ∷ []
  words : s.words ≡ ws

-- whatever stands, there is a state after it
abbrev Makes : Key → View → ℕ → (ℕ → ℕ) → (ℕ → Pass → Type 0) → Type 0
Makes key v i f told = (s : State (Unit {0}) View) → LogRuled key s → get_elem? s.views 0 ≡ some v → slice_index s.words i < 2 ^ 64
    → (t : State (Unit {0}) View) × (w : View) × LogRuled key t × (t.words ≡ set s.words i (f (slice_index s.words i))) × (t.views ≡ set s.views 0 w) × told (slice_index s.words i) w.pass

-- it leaves this pass, and these words
record After (key : Key) (p p' : Pass) (ws ws' : List ℕ) (a : Stage key p ws) (i : ℕ) (f : ℕ → ℕ) (told : ℕ → Pass → Type 0) : Type 0 where
  stage : Stage key p' ws'
  turn : Turns a.s 0 p i f told stage.s

abbrev view_of : (key : Key) (p : Pass) (ws : List ℕ) → Stage key p ws → View
view_of key p ws a = record { pass = p; steps = a.steps; controls = a.controls; sure = a.sure }

goes : (key : Key) (p p' : Pass) (ws ws' : List ℕ) (a : Stage key p ws) (i n : ℕ) (f : ℕ → ℕ) (told : ℕ → Pass → Type 0) → Makes key (record { pass = p; steps = a.steps; controls = a.controls; sure = a.sure }) i f told → slice_index ws i ≡ n → n < 2 ^ 64 → set ws i (f n) ≡ ws' → ((w : Pass) → told n w → w ≡ p') → After key p p' ws ws' a i f told
goes key p p' ws ws' a i n f told makes value small after is =
    let v : View = record { pass = p; steps = a.steps; controls = a.controls; sure = a.sure } in
    let found : slice_index a.s.words i ≡ n = ap (λ (l : List ℕ). slice_index l i) a.words ∙ value in
    let here : get_elem? a.s.views 0 ≡ some v = ap (λ (l : List View). get_elem? l 0) a.views in
    let g = makes a.s a.ruled here (subst (λ (x : ℕ). x < 2 ^ 64) (sym found) small) in
    let t : State (Unit {0}) View = g.0 in let w : View = g.1 in let e : w.pass ≡ p' = is w.pass (subst (λ (x : ℕ). told x w.pass) found g.5) in
    record {
      stage = record {
        s = t;
        ruled = g.2;
        steps = w.steps;
        controls = w.controls;
        sure = w.sure;
        views = g.4 ∙ ap (λ (l : List View). set l 0 w) a.views ∙ (λ j. record { pass = e j; steps = w.steps; controls = w.controls; sure = w.sure } ∷ []);
        words = g.3 ∙ (λ j. set (a.words j) i (f (found j))) ∙ after;
      };
      turn = record {
        at = ap (λ (l : List View). get_elem? (map pass_in l) 0) a.views;
        after = w.pass;
        words = λ j lt. ap (λ (l : List ℕ). slice_index l j) g.3;
        passes = ap (map pass_in) g.4 ∙ map-set pass_in a.s.views 0 w;
        told = g.5;
      };
    }

-- a publisher's step
publishes : (key : Key) (v : View) (i : ℕ) (f : ℕ → ℕ) (told : ℕ → Pass → Type 0) (noted' : ℕ → List WordStep) → sures.Turns i f noted' → (0 < v.pass.right.parts) ⊎ sures.Leaves i f → Spares i f → ((n : ℕ) (w : Pass) → told n w → Goes v.pass w) → ((b : Bounds) → Eventful b 0 v.pass i f told) → Makes key v i f told
publishes key v i f told noted' turns may spares own event s q at small =
    let g = lifted key (length s.homes) 0 i (v, []) f told noted' turns may spares own event s q refl at small in
    (record { words = set s.words i (f (slice_index s.words i)); homes = homes_after s.homes [] g.1; views = set s.views 0 g.0 }, g.0, g.3, refl, refl, g.4.4)

-- ---- the words of the log that opens

geometry : Geometry
geometry = record { term_length = 65536; mtu = 256; initial_term_id = pos 7 }

legal : IsGeometry row_key.identity.geometry
legal = record { term = record { power = (16, refl); least = omega arith; greatest = omega arith }; mtu = record { unit = refl; least = omega arith; greatest = omega arith; within = omega arith }; initial = record { sfits = omega arith } }

sound : Sound (bounds_of (origin_of row_key))
sound = sound_key (origin_of row_key) legal refl (omega arith)

-- the raw tail of the first term
abbrev first_tail : ℕ
first_tail = 30064771072

abbrev before_words : List ℕ
before_words = set (set (set (set (set (replicate {A = ℕ} (table_length row_key.identity.geometry) 0) 0 32769) 16 0) 32 first_tail) 48 (tail_word (id_before row_key.identity.geometry 0 2) 0)) 64 (tail_word (id_before row_key.identity.geometry 0 1) 0)

are_fresh : Fresh (bounds_of (origin_of row_key)) before_words
are_fresh = fresh_words (origin_of row_key) sound (table_length row_key.identity.geometry) 32 48 64 first_tail (tail_word (id_before row_key.identity.geometry 0 2) 0) (tail_word (id_before row_key.identity.geometry 0 1) 0) refl refl refl refl refl refl refl

other : (i : ℕ) → 80 ≤ i → IsOther (bounds_of (origin_of row_key)) i
other i le = record { limit = λ e. omega arith; count = λ e. omega arith; here = λ e. omega arith; next = λ e. omega arith; last = λ e. omega arith }

long : 0 < length before_words
long = let w = are_fresh.wide in subst (λ (n : ℕ). 0 < n) (sym w) (omega arith)

abbrev words0 : List ℕ
words0 = set before_words 0 0

are_begun : Begun 0 before_words 1 words0
are_begun = record {
  wide = length-set before_words 0 0;
  limit = first_set before_words 0 long;
  consumers = λ j lt. get_or-set_other before_words 0 (j * 16 + 80) 0 0 (λ e. omega arith) ∙ are_fresh.others (j * 16 + 80) (other (j * 16 + 80) (omega arith));
  others = λ i ne far. get_or-set_other before_words 0 i 0 0 ne;
}

opened_stage : Stage row_key (whole_pass row_key) words0
opened_stage = record {
  s = record { words = words0; homes = []; views = whole_seat row_key ∷ [] };
  ruled = opens row_key before_words words0 sound (omega arith, omega arith) are_fresh are_begun;
  steps = 0;
  controls = (whole_seat row_key).controls;
  sure = 1;
  views = refl;
  words = refl;
}

-- ---- the keeper connects it, and raises the limit

raising : (key : Key) (v : View) (word : ℕ) → MayRaise v.pass word → 0 < v.pass.right.parts → Makes key v limit_place (λ _. word) (λ _ w. Raises v.pass word w)
raising key v word may parts s q at small = let g = others_are_looks.limit key 0 v word may parts s q at small in (record { words = set s.words limit_place word; homes = s.homes; views = set s.views 0 g.0 }, g.0, g.1, refl, refl, g.2)

abbrev pass0 : Pass
pass0 = whole_pass row_key

abbrev pass1 : Pass
pass1 = with_keeping pass0 (record pass0.keeping { limit = 1 })

abbrev words1 : List ℕ
words1 = set words0 0 1

may_connect : MayRaise pass0 1
may_connect = record { keeper = refl; rises = omega arith; clean = λ lt. absurd (omega arith) }

long0 : 0 < length words0
long0 = let e = length-set before_words 0 0 in subst (λ (n : ℕ). 0 < n) (sym e) long

long1 : 0 < length words1
long1 = let e = length-set words0 0 1 in subst (λ (n : ℕ). 0 < n) (sym e) long0

connected_stage : After row_key pass0 pass1 words0 words1 opened_stage limit_place (λ _. 1) (λ _ w. Raises pass0 1 w)
connected_stage = goes row_key pass0 pass1 words0 words1 opened_stage limit_place 0 (λ _. 1) (λ _ w. Raises pass0 1 w) (raising row_key (view_of row_key pass0 words0 opened_stage) 1 may_connect (omega arith)) (first_set before_words 0 long) (omega arith) refl (λ w t. t)

abbrev pass2 : Pass
pass2 = with_keeping pass1 (record pass1.keeping { limit = 32769 })

abbrev words2 : List ℕ
words2 = set words1 0 32769

may_raise : MayRaise pass1 32769
may_raise = record { keeper = refl; rises = omega arith; clean = λ lt. (let e : greatest_claim row_key.identity.geometry ≡ 9376 = refl in omega arith) }

raised_stage : After row_key pass1 pass2 words1 words2 connected_stage.stage limit_place (λ _. 32769) (λ _ w. Raises pass1 32769 w)
raised_stage = goes row_key pass1 pass2 words1 words2 connected_stage.stage limit_place 1 (λ _. 32769) (λ _ w. Raises pass1 32769 w) (raising row_key (view_of row_key pass1 words1 connected_stage.stage) 32769 may_raise (omega arith)) (first_set words0 1 long0) (omega arith) refl (λ w t. t)

-- ---- a publisher looks, and is armed

abbrev pass3 : Pass
pass3 = noted (steps.Limit 32769) (with_limit pass2 32769)

kept_words : (ws : List ℕ) (i n : ℕ) → slice_index ws i ≡ n → set ws i n ≡ ws
kept_words ws i n value = ap (set ws i) (sym value) ∙ set-get_or ws i 0

limit_value : slice_index words2 limit_place ≡ 32769
limit_value = first_set words1 32769 long1

limit_stage : After row_key pass2 pass3 words2 words2 raised_stage.stage limit_place (λ n. n) (λ n w. Sees pass2 n w)
limit_stage = goes row_key pass2 pass3 words2 words2 raised_stage.stage limit_place 32769 (λ n. n) (λ n w. Sees pass2 n w) (publishes row_key (view_of row_key pass2 words2 raised_stage.stage) limit_place (λ n. n) (λ n w. Sees pass2 n w) (λ n. steps.Limit n ∷ []) sures.limit_turns (inr (sures.load_leaves limit_place)) (load_spares limit_place) (λ n w t. sees_goes pass2 n w t) (λ b. steps_are_events.load_limit b 0 pass2))
    limit_value (omega arith) (kept_words words2 limit_place 32769 limit_value) (λ w t. t)

abbrev pass4 : Pass
pass4 = noted (steps.Count 0) (with_count pass3 0)

-- a word behind the limit's is as it was
behind_limit : (i n : ℕ) → i ≢ 0 → slice_index before_words i ≡ n → slice_index words2 i ≡ n
behind_limit i n ne e = get_or-set_other words1 0 i 32769 0 ne ∙ get_or-set_other words0 0 i 1 0 ne ∙ get_or-set_other before_words 0 i 0 0 ne ∙ e

count_value : slice_index words2 count_place ≡ 0
count_value = behind_limit count_place 0 (λ e. omega arith) are_fresh.count

count_stage : After row_key pass3 pass4 words2 words2 limit_stage.stage count_place (λ n. n) (λ n w. Counts pass3 n w)
count_stage = goes row_key pass3 pass4 words2 words2 limit_stage.stage count_place 0 (λ n. n) (λ n w. Counts pass3 n w) (publishes row_key (view_of row_key pass3 words2 limit_stage.stage) count_place (λ n. n) (λ n w. Counts pass3 n w) (λ n. steps.Count n ∷ []) sures.count_turns (inr (sures.load_leaves count_place)) (load_spares count_place) (λ n w t. counts_goes pass3 n w t) (λ b. steps_are_events.load_count b 0 pass3))
    count_value (omega arith) (kept_words words2 count_place 0 count_value) (λ w t. t.after)

abbrev pass5 : Pass
pass5 = noted (tail_step pass4 first_tail) (with_armed pass4)

tail_value : slice_index words2 32 ≡ first_tail
tail_value = behind_limit 32 first_tail (λ e. omega arith) are_fresh.here

is_open : IsOpen pass4 first_tail
is_open = record { named = refl; short = omega arith; below = omega arith }

armed_stage : After row_key pass4 pass5 words2 words2 count_stage.stage 32 (λ n. n) (λ n w. Arms pass4 n w)
armed_stage = goes row_key pass4 pass5 words2 words2 count_stage.stage 32 first_tail (λ n. n) (λ n w. Arms pass4 n w) (publishes row_key (view_of row_key pass4 words2 count_stage.stage) 32 (λ n. n) (λ n w. Arms pass4 n w) (λ n. tail_step pass4 n ∷ []) (sures.tail_turns 0) (inr (sures.load_leaves 32)) (load_spares 32) (λ n w t. arms_goes pass4 (λ lt. absurd (omega arith)) n w t) (λ b. steps_are_events.load_tail b 0 pass4 (omega arith)))
    tail_value (omega arith) (kept_words words2 32 first_tail tail_value) (λ w t. t.below is_open.named is_open.short is_open.below)

-- ---- it adds

abbrev pass6 : Pass
pass6 = noted (addition pass5 0 first_tail) (opened pass5 (message_at pass5 first_tail 0))

abbrev adds_here : ℕ → ℕ
adds_here n = (n + framed_length (geometry_of pass5) 0) % 2 ^ 64

abbrev words6 : List ℕ
words6 = set words2 32 30064771104

added_stage : After row_key pass5 pass6 words2 words6 armed_stage.stage 32 adds_here (λ n w. Adds pass5 0 n w)
added_stage = goes row_key pass5 pass6 words2 words6 armed_stage.stage 32 first_tail adds_here (λ n w. Adds pass5 0 n w) (publishes row_key (view_of row_key pass5 words2 armed_stage.stage) 32 adds_here (λ n w. Adds pass5 0 n w) (λ n. addition pass5 0 n ∷ []) (sures.add_turns 0 (framed_length (geometry_of pass5) 0)) (inl (omega arith)) (other_spares 32 adds_here (λ e. omega arith) (λ j lt e. omega arith)) (λ n w t. adds_goes pass5 refl 0 n w t) (λ b. steps_are_events.add b 0 pass5 0 (omega arith) refl (omega arith)))
    tail_value (omega arith) refl (λ w t. t.fits (omega arith))

-- ---- the frame of its claim is stored, and committed

abbrev row_frame : Frame
row_frame = Data 192 []

abbrev row_words : List ℕ
row_words = frame_words row_key.identity 0 row_frame

row_long : length row_words ≡ 4
unfolding frame_words
row_long = refl

first_word : slice_index row_words 0 ≡ 492581209243680
unfolding frame_words
first_word = refl

last_word : slice_index row_words 3 ≡ 0
unfolding frame_words
last_word = refl

four : (ws : List ℕ) → length ws ≡ 4 → slice_index ws 3 ≡ 0 → slice_index ws 0 ∷ slice_index ws 1 ∷ slice_index ws 2 ∷ 0 ∷ [] ≡ ws
four [] e z = absurd (omega (arith, e))
four (a ∷ []) e z = absurd (omega (arith, e))
four (a ∷ b ∷ []) e z = absurd (omega (arith, e))
four (a ∷ b ∷ c ∷ []) e z = absurd (omega (arith, e))
four (a ∷ b ∷ c ∷ d ∷ []) e z = ap (λ (n : ℕ). a ∷ b ∷ c ∷ n ∷ []) (sym z)
four (a ∷ b ∷ c ∷ d ∷ f ∷ ws) e z = absurd (omega (arith, e))

abbrev second_x : ℕ
second_x = slice_index row_words 1

abbrev third_x : ℕ
third_x = slice_index row_words 2

abbrev first_x : ℕ
first_x = slice_index row_words 0

-- a word of the stream is zero yet
data_zero : (i : ℕ) → 208 ≤ i → slice_index words6 i ≡ 0
data_zero i far = get_or-set_other words2 32 i 30064771104 0 (λ e. omega arith) ∙ behind_limit i 0 (λ e. omega arith) (are_fresh.others i (other i (omega arith)))

abbrev draft7 : FrameWords
draft7 = written (blank 0 32) 1 second_x

abbrev pass7 : Pass
pass7 = with_work pass6.work.frames (draft7 ∷ []) pass6

abbrev words7 : List ℕ
words7 = set words6 209 second_x

has6 : HasWord pass6 1 8
has6 = record { front = []; draft = blank 0 32; behind = []; parts = refl; place = 1; above = omega arith; inside = omega arith; position = refl }

stored_stage : After row_key pass6 pass7 words6 words7 added_stage.stage 209 (λ _. second_x) (λ _ w. Stores pass6 8 second_x w)
stored_stage = goes row_key pass6 pass7 words6 words7 added_stage.stage 209 0 (λ _. second_x) (λ _ w. Stores pass6 8 second_x w) (publishes row_key (view_of row_key pass6 words6 added_stage.stage) 209 (λ _. second_x) (λ _ w. Stores pass6 8 second_x w) (λ _. []) (sures.data_turns 209 second_x (omega arith)) (inr (sures.data_leaves 209 second_x (omega arith))) (other_spares 209 (λ _. second_x) (λ e. omega arith) (λ j lt e. omega arith)) (λ _ w t. stores_goes pass6 8 second_x w has6 t) (λ b. steps_are_events.store b 0 pass6 8 second_x has6))
    (data_zero 209 (omega arith)) (omega arith) refl (λ w t. t [] (blank 0 32) [] 1 refl (omega arith) (omega arith) refl)

abbrev draft8 : FrameWords
draft8 = written draft7 2 third_x

abbrev pass8 : Pass
pass8 = with_work pass7.work.frames (draft8 ∷ []) pass7

abbrev words8 : List ℕ
words8 = set words7 210 third_x

has7 : HasWord pass7 1 16
has7 = record { front = []; draft = draft7; behind = []; parts = refl; place = 2; above = omega arith; inside = omega arith; position = refl }

stored_again : After row_key pass7 pass8 words7 words8 stored_stage.stage 210 (λ _. third_x) (λ _ w. Stores pass7 16 third_x w)
stored_again = goes row_key pass7 pass8 words7 words8 stored_stage.stage 210 0 (λ _. third_x) (λ _ w. Stores pass7 16 third_x w) (publishes row_key (view_of row_key pass7 words7 stored_stage.stage) 210 (λ _. third_x) (λ _ w. Stores pass7 16 third_x w) (λ _. []) (sures.data_turns 210 third_x (omega arith)) (inr (sures.data_leaves 210 third_x (omega arith))) (other_spares 210 (λ _. third_x) (λ e. omega arith) (λ j lt e. omega arith)) (λ _ w t. stores_goes pass7 16 third_x w has7 t) (λ b. steps_are_events.store b 0 pass7 16 third_x has7))
    (get_or-set_other words6 209 210 second_x 0 (λ e. omega arith) ∙ data_zero 210 (omega arith)) (omega arith) refl (λ w t. t [] draft7 [] 2 refl (omega arith) (omega arith) refl)

completes : CompletesFrame pass8 0 first_x
completes = record { front = []; draft = draft8; behind = []; parts = refl; inside = omega arith; position = refl; content = row_frame; legal = (inr (inr (inr refl)), omega arith, tt); whole = refl; spelt = four row_words row_long last_word }

some_first : 0 < first_x
some_first = let e = first_word in omega arith

abbrev pass9 : Pass
pass9 = with_work (pass8.work.frames ++ written draft8 0 first_x ∷ []) [] pass8

abbrev words9 : List ℕ
words9 = set words8 208 first_x

committed_stage : After row_key pass8 pass9 words8 words9 stored_again.stage 208 (λ _. first_x) (λ _ w. Commits pass8 0 first_x w)
committed_stage = goes row_key pass8 pass9 words8 words9 stored_again.stage 208 0 (λ _. first_x) (λ _ w. Commits pass8 0 first_x w) (publishes row_key (view_of row_key pass8 words8 stored_again.stage) 208 (λ _. first_x) (λ _ w. Commits pass8 0 first_x w) (λ _. []) (sures.data_turns 208 first_x (omega arith)) (inr (sures.data_leaves 208 first_x (omega arith))) (other_spares 208 (λ _. first_x) (λ e. omega arith) (λ j lt e. omega arith)) (λ _ w t. commits_goes pass8 0 first_x w completes t) (λ b. steps_are_events.commit b 0 pass8 0 first_x completes some_first))
    (get_or-set_other words7 210 208 third_x 0 (λ e. omega arith) ∙ get_or-set_other words6 209 208 second_x 0 (λ e. omega arith) ∙ data_zero 208 (omega arith)) (omega arith) refl (λ w t. t [] draft8 [] refl (omega arith) refl)

-- ---- all of it

-- the same step, told more
told_more : (s t : State (Unit {0}) View) (v : Pass) (i n : ℕ) (f : ℕ → ℕ) (told more : ℕ → Pass → Type 0) → slice_index s.words i ≡ n → ((w : Pass) → told n w → more n w) → Turns s 0 v i f told t → Turns s 0 v i f more t
told_more s t v i n f told more value adds y = record { at = y.at; after = y.after; words = y.words; passes = y.passes; told = subst (λ (x : ℕ). more x y.after) (sym value) (adds y.after (subst (λ (x : ℕ). told x y.after) value y.told)) }

word_in : (p : Pass) (ws : List ℕ) (a : Stage row_key p ws) (i n : ℕ) → slice_index ws i ≡ n → slice_index a.s.words i ≡ n
word_in p ws a i n e = ap (λ (l : List ℕ). slice_index l i) a.words ∙ e

abbrev row_claim : ClaimRange
row_claim = message_at pass5 first_tail 0

next_row : IsNextFrame pass8 0 0 row_frame
next_row = record { claim = row_claim; among = inl refl; here = refl; front = []; cut = 32; behind = []; cuts = refl; place = refl; first = λ d a le. le; is = (refl, refl) }

pub it_happens : ItHappens
unfolding opened_stage completes
it_happens = (
  record { session = record { sfits = omega arith }; stream = record { sfits = omega arith } },
  (
    opened_stage.s,
    committed_stage.stage.s,
    opened_stage.ruled,
    opened_stage.views,
    (
      connected_stage.stage.s,
      [],
      connected_stage.stage.ruled,
      (refl, record { id = 0; v = pass0; word = 1; may = may_connect; is = record { limit = refl; closed = refl; connected = refl }; turn = connected_stage.turn }),
      (
        raised_stage.stage.s,
        [],
        raised_stage.stage.ruled,
        (refl, record { id = 0; v = pass1; word = 32769; may = may_raise; is = record { least_is = refl; free = (refl, refl); same = (refl, refl); cleaned = omega arith; limit = refl }; turn = raised_stage.turn }),
        (
          limit_stage.stage.s,
          [],
          limit_stage.stage.ruled,
          (refl, inl (load_limit 0 pass2 limit_stage.turn)),
          (
            count_stage.stage.s,
            [],
            count_stage.stage.ruled,
            (refl, inl (load_count 0 pass3 count_stage.turn)),
            (
              armed_stage.stage.s,
              [],
              armed_stage.stage.ruled,
              (refl, record { id = 0; v = pass4; turn = told_more count_stage.stage.s armed_stage.stage.s pass4 32 first_tail (λ n. n) (λ n w. Arms pass4 n w) (λ n w. Arms pass4 n w × IsOpen pass4 n) (word_in pass4 words2 count_stage.stage 32 first_tail tail_value) (λ w told. (told, is_open)) armed_stage.turn; number = refl; limit = refl; living = refl }),
              (
                added_stage.stage.s,
                [],
                added_stage.stage.ruled,
                (refl, record { id = 0; v = pass5; turn = told_more armed_stage.stage.s added_stage.stage.s pass5 32 first_tail adds_here (λ n w. Adds pass5 0 n w) (λ n w. Adds pass5 0 n w × IsBelow pass5 n) (word_in pass5 words2 armed_stage.stage 32 first_tail tail_value) (λ w told. (told, (let short : 0 < 65536 = omega arith in short))) added_stage.turn; armed = refl; number = refl; size = omega arith }),
                (
                  stored_stage.stage.s,
                  [],
                  stored_stage.stage.ruled,
                  (refl, record { id = 0; v = pass6; p = 8; x = second_x; has = has6; turn = stored_stage.turn }),
                  (
                    stored_again.stage.s,
                    [],
                    stored_again.stage.ruled,
                    (refl, record { id = 0; v = pass7; p = 16; x = third_x; has = has7; turn = stored_again.turn }),
                    (
                      committed_stage.stage.s,
                      [],
                      committed_stage.stage.ruled,
                      (
                        refl,
                        record {
                          id = 0;
                          v = pass8;
                          p = 0;
                          step = record { i = 208; x = first_x; far = omega arith; turn = told_more stored_again.stage.s committed_stage.stage.s pass8 208 0 (λ _. first_x) (λ _ w. Commits pass8 0 first_x w) (λ _ w. CommitsFrame row_key 0 row_frame pass8 w) (word_in pass8 words8 stored_again.stage 208 0 (get_or-set_other words7 210 208 third_x 0 (λ e. omega arith) ∙ get_or-set_other words6 209 208 second_x 0 (λ e. omega arith) ∙ data_zero 208 (omega arith))) (λ w told. words_commit row_key pass8 w 0 first_x completes refl told) committed_stage.turn };
                          next = next_row;
                        },
                      ),
                      (refl, refl),
                    ),
                  ),
                ),
              ),
            ),
          ),
        ),
      ),
    ),
  ),
)
