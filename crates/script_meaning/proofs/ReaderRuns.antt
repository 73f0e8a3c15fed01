-- A line of a reader leaves a sound state.
use Rattle.std.proofs.Common.{Option, ◌≡◌, ◌⊎◌, ℕ, zero, suc, ◌+◌, ◌-◌, ⊎_elim, List, [], ◌∷◌, ◌++◌, Bool, true, false, cond, None, Some, inl, inr, refl, sym, ap, ◌∙◌, subst, arith}
use Rattle.std.specs.Prelude.{nat_eq, slice_get, slice_index_or, slice_set}
use Rattle.std.specs.List.{AllByRecursion, flat_map}
use Rattle.std.proofs.lemmas.Bool.{cases_eq, cond-true, cond-false, eq-eqb, ne_eqb}
use Rattle.std.proofs.lemmas.List.{map-set}
use Rattle.std.proofs.lemmas.List.Sums.{sum_by-append, sum_by-cons}
use Rattle.theory.specs.Position.{aligned}
use Rattle.theory.specs.Bytes.{Identity}
use Rattle.theory.specs.Entry.{committed}
use Rattle.theory.specs.Placed.{Among, Data, Frame, IsReached, Pad, Placed, frame_length}
use Rattle.theory.specs.Assembly.{after, nothing_heard}
use Rattle.theory.specs.Consumer.{Consumer, consumer_at, moved}
use Rattle.model.specs.Log.{Join, Leave, Move}
use Rattle.model.specs.World.{AtLog, World}
use Rattle.one_hand.specs.Legal.{IsStream}
use Rattle.one_hand.specs.Stream.{lowest, standing}
use Rattle.script.specs.Meaning as commands
use Rattle.script.specs.Meaning.{CommandContent}
use Rattle.script_meaning.specs.Answers.{HasNoReader, MayNotJoin, ReaderFindsNone, ReaderJoins, ReaderLeaves, ReaderReads, frame_line, reader_at}
use Rattle.script_meaning.specs.LineContents.{Bad, Joined, Left, LineContent, NoMessage}
use Rattle.script_meaning.specs.Published.{Played, covered_by, frames_in, joined_by, polled_by, read_by, turned_by, turns_in}
use Rattle.script_meaning.specs.ScriptState.{ScriptState, entries_of, lone, opened_state, seat_of, world_of}
use Rattle.script_meaning.specs.Standing.{Begins}
use Rattle.theory.proofs.Stays.{after_last}
use Rattle.script_meaning.proofs.Runs.{Goes, goes_on, goes_one}
use Rattle.script_meaning.proofs.Seen.{Seen, and_line, seen, seen_by, seen_more, seen_quiet, showing, turning}
use Rattle.script_meaning.proofs.SenderRuns.{all_above, among_kept, clean_grows, least_holds, standing_each}
use Rattle.script_meaning.proofs.Sound.{HasRead, IsSound, Laws, ReadSo, SaysNoRange, followed_stays, law_of}
use Rattle.script_meaning.proofs.SoundLines.{matches_stay, same_state}

-- ---- lines that show no frame, or say nothing of who is there

quiet_for : {A : Type 0} (number r : ℕ) (f : LineContent → List A) (line : LineContent) (lines : List LineContent) → f line ≡ [] → lines ≡ line ∷ [] → cond {A = List A} (nat_eq number r) (flat_map f lines) [] ≡ []
quiet_for {A} number r f line lines none e = ap (λ ls. cond {A = List A} (nat_eq number r) (flat_map f ls) []) e ∙ ap (λ (xs : List A). cond {A = List A} (nat_eq number r) (xs ++ []) []) none ∙ both (nat_eq number r)
  where
    both : (b : Bool) → cond {A = List A} b [] [] ≡ []
    both true = refl
    both false = refl

said_for : {A : Type 0} (number : ℕ) (f : LineContent → List A) (line : LineContent) (lines : List LineContent) (a : A) → f line ≡ a ∷ [] → lines ≡ line ∷ [] → cond (nat_eq number number) (flat_map f lines) [] ≡ a ∷ []
said_for number f line lines a one e = cond-true (nat_eq number number) (flat_map f lines) [] (eq-eqb number number refl) ∙ ap (flat_map f) e ∙ ap (λ xs. xs ++ []) one

-- ---- a reader that passes a frame

covered_more : (fs : List Frame) (f : Frame) → covered_by (fs ++ f ∷ []) ≡ covered_by fs + aligned (frame_length f)
covered_more fs f = sum_by-append (λ g. aligned (frame_length g)) fs (f ∷ []) ∙ ap (λ n. covered_by fs + n) (sum_by-cons (λ g. aligned (frame_length g)) f [] ∙ omega arith)

read_so : (c : Consumer) (s : Placed) (w : Seen) → s.at ≡ c.at → ReadSo c w → ReadSo (moved c s) (record w { frames = w.frames ++ s.frame ∷ [] })
read_so c s w here h = record {
  join = h.join;
  whole = h.whole;
  heard = ap (λ a. after a s.frame) h.heard ∙ sym (after_last nothing_heard w.frames s.frame);
  at = omega (arith, here, h.at, covered_more w.frames s.frame);
}

shown_in : (at : ℕ) (f : Frame) → frames_in (frame_line at f) ≡ f ∷ []
shown_in at (Data flags payload) = refl
shown_in at (Pad n) = refl

-- what is known of a reader that is there
there_so : (c : Consumer) (o : Option Seen) → HasRead (Some c) o → (w : Seen) × (o ≡ Some w) × ReadSo c w
there_so c None h = absurd h
there_so c (Some w) h = (w, refl, h)

-- the number of a reader and its place
before : (n : ℕ) → suc n - 1 ≡ n
before n = omega arith

got : (rs : List (Option Consumer)) (k : ℕ) (c : Consumer) → slice_index_or rs k None ≡ Some c → slice_get rs k ≡ Some (Some c)
got [] k c e = absurd (cc)
got (r ∷ rs) zero c e = ap (λ x. Some x) e
got (r ∷ rs) (suc k) c e = got rs k c e

set_seat : (rs : List (Option Consumer)) (k : ℕ) (o : Option Consumer) (x : Option Consumer) → slice_get rs k ≡ Some x → slice_index_or (slice_set rs k o) k None ≡ o
set_seat [] k o x e = absurd (cc)
set_seat (r ∷ rs) zero o x e = refl
set_seat (r ∷ rs) (suc k) o x e = set_seat rs k o x e

other_seat : (rs : List (Option Consumer)) (k j : ℕ) (o : Option Consumer) → (j ≡ k → ⊥) → slice_index_or (slice_set rs k o) j None ≡ slice_index_or rs j None
other_seat [] k j o ne = refl
other_seat (r ∷ rs) zero zero o ne = absurd (ne refl)
other_seat (r ∷ rs) zero (suc j) o ne = refl
other_seat (r ∷ rs) (suc k) zero o ne = refl
other_seat (r ∷ rs) (suc k) (suc j) o ne = other_seat rs k j o (λ e. ne (ap suc e))

-- the state with another reader of this place, or none
abbrev pub seated : ScriptState → ℕ → Option Consumer → ScriptState
seated s k o = record s { log = record s.log { consumers = slice_set s.log.consumers (suc k) (seat_of o) }; readers = slice_set s.readers k o }

same_place : (s : ScriptState) (k : ℕ) (o : Option Consumer) → record s { log = record s.log { consumers = slice_set s.log.consumers (suc k) (seat_of o) }; readers = slice_set s.readers (suc k - 1) o } ≡ seated s k o
same_place s k o = ap (λ n. record s { log = record s.log { consumers = slice_set s.log.consumers (suc k) (seat_of o) }; readers = slice_set s.readers n o }) (before k)

-- the world with it
abbrev seated_world : ScriptState → ℕ → Option Consumer → World
seated_world s k o = record (world_of s) { log = record (world_of s).log { readers = slice_set s.readers k o } }

-- a line of the reader with this place, after which it is that one
module _ (i : Identity) (group : Option ℕ) (start readers only : ℕ) (played : List Played) (command : CommandContent) (lines : List LineContent) (s : ScriptState) (k : ℕ) (o x : Option Consumer) (there : slice_get s.readers k ≡ Some x) (none : SaysNoRange command lines)
    (silent : (joined_by only command lines ≡ []) × (polled_by only command lines ≡ [])) (others : (r : ℕ) → (r ≡ suc k → ⊥) → (read_by r command lines ≡ []) × (turned_by r command lines ≡ [])) where
  abbrev At : ScriptState → ℕ → Type 0
  At v r = HasRead (reader_at v r) (seen start readers r (and_line played command lines))

  pub seat_line : Goes (world_of (lone only s)) (seated_world (lone only s) k o) → HasRead o (seen_by (suc k) (seen start readers (suc k) played) command lines) → IsSound i group start readers only played s → IsSound i group start readers only (and_line played command lines) (seated s k o)
  seat_line goes now h = let v = seated s k o in record {
    runs = goes_on (world_of (opened_state i group start readers)) (world_of (lone only s)) (world_of (lone only v)) h.runs goes;
    identity = h.identity;
    start_is = h.start_is;
    consumers = ap (λ cs. slice_set cs (suc k) (seat_of o)) h.consumers ∙ ap (λ cs. Some s.sender.at ∷ cs) (sym (map-set seat_of s.readers k o));
    named = h.named;
    forgotten = h.forgotten;
    honest = h.honest;
    matches = matches_stay i.geometry played command lines (entries_of s) none h.matches;
    eight = h.eight;
    followed = followed_stays i played command lines s v only silent refl h.followed;
    reading = λ r. ⊎_elim (λ (e : suc k ≡ r). subst (At v) e here) (λ (ne : suc k ≡ r → ⊥). elsewhere r (λ e. ne (sym e))) (cases_eq (suc k) r);
  }
    where
      here : At (seated s k o) (suc k)
      here = subst (λ (y : Option Consumer × Option Seen). HasRead y.0 y.1) (λ j. (sym (set_seat s.readers k o x there) j, sym (seen_more start readers (suc k) played command lines) j)) now

      still : (r : ℕ) → (r ≡ suc k → ⊥) → reader_at (seated s k o) r ≡ reader_at s r
      still zero ne = refl
      still (suc j) ne = other_seat s.readers k j o (λ e. ne (ap suc e))

      elsewhere : (r : ℕ) → (r ≡ suc k → ⊥) → At (seated s k o) r
      elsewhere r ne = subst (λ (y : Option Consumer × Option Seen). HasRead y.0 y.1) (λ j. (sym (still r ne) j, sym (seen_quiet start readers r played command lines (others r ne).0 (others r ne).1) j)) (h.reading r)

-- of another reader a line of this one says nothing
not_own : {A : Type 0} (number r : ℕ) (xs : List A) → (r ≡ number → ⊥) → cond (nat_eq number r) xs [] ≡ []
not_own number r xs ne = cond-false (nat_eq number r) xs [] (ne_eqb number r (λ e. ne (sym e)))

-- ---- a reader that passes a frame

moves : (s : ScriptState) (k : ℕ) (c : Consumer) (past : Placed) → slice_index_or s.readers k None ≡ Some c → Among past (committed s.log.entries) → past.at ≡ c.at → c.lost ≡ false → Goes (world_of s) (seated_world s k (Some (moved c past)))
moves s k c past there among here whole =
    let w = world_of s in
    let l = record w.log { readers = slice_set s.readers k (Some (moved c past)) } in
    goes_one w (record w { log = l }) (AtLog (Move k past)) (l, (c, got s.readers k c there, record { among = among_kept s.past s.log.entries past among; here = here }, whole, refl), refl)

frame_read : (i : Identity) (group : Option ℕ) (start readers only : ℕ) (played : List Played) (s t : ScriptState) (k : ℕ) (lines : List LineContent) → IsSound i group start readers only played s → ReaderReads s (suc k) lines t → IsSound i group start readers only (and_line played (commands.Read (suc k)) lines) t
frame_read i group start readers only played s t k lines h m =
    let c = m.0 in
    let past = m.1 in
    let known = there_so c (seen start readers (suc k) played) (subst (λ o. HasRead o (seen start readers (suc k) played)) m.2 (h.reading (suc k))) in
    let own : read_by (suc k) (commands.Read (suc k)) lines ≡ past.frame ∷ [] = said_for (suc k) frames_in (frame_line past.at past.frame) lines past.frame (shown_in past.at past.frame) m.5 in
    let now : HasRead (Some (moved c past)) (seen_by (suc k) (seen start readers (suc k) played) (commands.Read (suc k)) lines) =
    subst (HasRead (Some (moved c past))) (sym (ap (λ fs. showing (seen start readers (suc k) played) fs) own ∙ ap (λ o. showing o (past.frame ∷ [])) known.1)) (read_so c past known.0 m.4 known.2) in
    subst (λ x. IsSound i group start readers only (and_line played (commands.Read (suc k)) lines) x) (sym (m.6 ∙ same_place s k (Some (moved c past))))
    (seat_line i group start readers only played (commands.Read (suc k)) lines s k (Some (moved c past)) (Some c) (got s.readers k c m.2) (λ g ranges. refl) (refl, refl) (λ r ne. (not_own (suc k) r (flat_map frames_in lines) ne, refl))
    (moves (lone only s) k c past m.2 m.3 m.4 known.2.whole) now h)

pub read_line : (i : Identity) (group : Option ℕ) (start readers only : ℕ) (played : List Played) (s t : ScriptState) (r : ℕ) (lines : List LineContent) → IsSound i group start readers only played s → HasNoReader s r lines t ⊎ (ReaderFindsNone s r lines t ⊎ ReaderReads s r lines t) → IsSound i group start readers only (and_line played (commands.Read r) lines) t
read_line i group start readers only played s t r lines h (inl m) =
    same_state i group start readers only played (commands.Read r) lines s t (record { joins = λ k. refl; polls = λ k. refl; reads = λ k. (quiet_for r k frames_in Bad lines refl m.1.0, refl) }) (λ g ranges. refl) m.1.1 h
read_line i group start readers only played s t r lines h (inr (inl m)) =
    same_state i group start readers only played (commands.Read r) lines s t (record { joins = λ k. refl; polls = λ k. refl; reads = λ k. (quiet_for r k frames_in NoMessage lines refl m.3, refl) }) (λ g ranges. refl) m.4 h
read_line i group start readers only played s t zero lines h (inr (inr m)) = absurd (no_reader m.0 m.2)
  where
    no_reader : (c : Consumer) → None ≡ Some c → ⊥
    no_reader c e = absurd (cc)
read_line i group start readers only played s t (suc k) lines h (inr (inr m)) = frame_read i group start readers only played s t k lines h m

-- ---- one that joins

abbrev joined : ScriptState → Option Consumer
joined s = Some (consumer_at (lowest s.log))

joins : Laws → (i : Identity) (group : Option ℕ) (start readers only : ℕ) (played : List Played) (s : ScriptState) (k : ℕ) → Begins i start → IsSound i group start readers only played s → IsStream s.log → slice_get s.readers k ≡ Some None → Goes (world_of (lone only s)) (seated_world (lone only s) k (joined s))
joins laws i group start readers only played s k b h legal vacant =
    let w = world_of (lone only s) in
    let l = record w.log { readers = slice_set s.readers k (joined s) } in
    let law = law_of laws.reached i group start readers only s b h.runs in
    let all : AllByRecursion (λ p. IsReached (committed (entries_of s)) s.log.start p) (standing s.log.consumers) = subst (AllByRecursion (λ p. IsReached (committed (entries_of s)) s.log.start p)) (sym (ap standing h.consumers)) (law.sender, standing_each (λ p. IsReached (committed (entries_of s)) s.log.start p) s.readers law.readers) in
    goes_one w (record w { log = l }) (AtLog (Join k (lowest s.log)))
    (l, (vacant, least_holds (λ p. IsReached (committed (entries_of s)) s.log.start p) s h.consumers all, all_above (lone only s) h.consumers, clean_grows s legal h.consumers, refl), refl)

begins_so : (at : ℕ) → ReadSo (consumer_at at) (record { join = at; frames = [] })
begins_so at = record { join = refl; whole = refl; heard = refl; at = omega arith }

pub join_line : Laws → (i : Identity) (group : Option ℕ) (start readers only : ℕ) (played : List Played) (s t : ScriptState) (r : ℕ) (lines : List LineContent) → Begins i start → IsSound i group start readers only played s → MayNotJoin s r lines t ⊎ ReaderJoins s r lines t → IsSound i group start readers only (and_line played (commands.Join r) lines) t
join_line laws i group start readers only played s t r lines b h (inl m) =
    same_state i group start readers only played (commands.Join r) lines s t (record { joins = λ k. refl; polls = λ k. refl; reads = λ k. (refl, quiet_for r k turns_in Bad lines refl m.1.0) }) (λ g ranges. refl) m.1.1 h
join_line laws i group start readers only played s t zero lines b h (inr m) = absurd m.vacant
join_line laws i group start readers only played s t (suc k) lines b h (inr m) =
    let at = lowest s.log in
    let own : turned_by (suc k) (commands.Join (suc k)) lines ≡ Some at ∷ [] = said_for (suc k) turns_in (Joined at) lines (Some at) refl m.shown in
    let now : HasRead (joined s) (seen_by (suc k) (seen start readers (suc k) played) (commands.Join (suc k)) lines) =
    subst (HasRead (joined s)) (sym (ap (λ ts. showing (turning (seen start readers (suc k) played) ts) []) own)) (begins_so at) in
    subst (λ x. IsSound i group start readers only (and_line played (commands.Join (suc k)) lines) x) (sym (m.new_is ∙ same_place s k (joined s)))
    (seat_line i group start readers only played (commands.Join (suc k)) lines s k (joined s) None m.vacant (λ g ranges. refl) (refl, refl) (λ n ne. (refl, not_own (suc k) n (flat_map turns_in lines) ne))
    (joins laws i group start readers only played s k b h m.legal m.vacant) now h)

-- ---- one that leaves

leaves : (s : ScriptState) (k : ℕ) (c : Consumer) → slice_index_or s.readers k None ≡ Some c → Goes (world_of s) (seated_world s k None)
leaves s k c there =
    let w = world_of s in
    let l = record w.log { readers = slice_set s.readers k None } in
    goes_one w (record w { log = l }) (AtLog (Leave k)) (l, (c, got s.readers k c there, inl some_other, refl), refl)
  where
    some_other : s.sender.at ∷ [] ≡ [] → ⊥
    some_other e = absurd (cc)

pub leave_line : (i : Identity) (group : Option ℕ) (start readers only : ℕ) (played : List Played) (s t : ScriptState) (r : ℕ) (lines : List LineContent) → IsSound i group start readers only played s → HasNoReader s r lines t ⊎ ReaderLeaves s r lines t → IsSound i group start readers only (and_line played (commands.Leave r) lines) t
leave_line i group start readers only played s t r lines h (inl m) =
    same_state i group start readers only played (commands.Leave r) lines s t (record { joins = λ k. refl; polls = λ k. refl; reads = λ k. (refl, quiet_for r k turns_in Bad lines refl m.1.0) }) (λ g ranges. refl) m.1.1 h
leave_line i group start readers only played s t zero lines h (inr m) = absurd (no_reader m.0 m.1)
  where
    no_reader : (c : Consumer) → None ≡ Some c → ⊥
    no_reader c e = absurd (cc)
leave_line i group start readers only played s t (suc k) lines h (inr m) =
    let own : turned_by (suc k) (commands.Leave (suc k)) lines ≡ None ∷ [] = said_for (suc k) turns_in Left lines None refl m.2 in
    let now : HasRead None (seen_by (suc k) (seen start readers (suc k) played) (commands.Leave (suc k)) lines) =
    subst (HasRead None) (sym (ap (λ ts. showing (turning (seen start readers (suc k) played) ts) []) own)) tt in
    subst (λ x. IsSound i group start readers only (and_line played (commands.Leave (suc k)) lines) x) (sym (m.3 ∙ same_place s k None))
    (seat_line i group start readers only played (commands.Leave (suc k)) lines s k None (Some m.0) (got s.readers k m.0 m.1) (λ g ranges. refl) (refl, refl) (λ n ne. (refl, not_own (suc k) n (flat_map turns_in lines) ne))
    (leaves (lone only s) k m.0 m.1) now h)
