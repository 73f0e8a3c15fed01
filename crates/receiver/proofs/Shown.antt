-- What the calls of an inserter promise, told of the images of the definitions that it shows.
use Rattle.std.proofs.Common.{◌≡◌, ℕ, ◌+◌, ◌*◌, ◌/◌, ◌%◌, ◌^◌, ◌<◌, ◌≤◌, ⊎_elim, List, [], ◌∷◌, map, min, max, Bool, true, false, Option, None, Some, refl, sym, ap, ◌∙◌, subst, arith}
use Rattle.std.specs.Prelude.{replicate, ℤ, pos, negsuc, IfSome}
use Rattle.std.specs.List.{fold}
use Rattle.std.proofs.lemmas.Bool.{cases_Bool, cond-true, cond-false}
use Rattle.theory.specs.Bytes.{Identity}
use Rattle.theory.specs.Position.{Geometry, IsGeometry, max_position}
use Rattle.theory.specs.Placed.{Frame, Placed, end_of, frame_length, is_padding}
use Rattle.theory.specs.Units.{contiguous}
use Rattle.theory.specs.Consumer.{Consumer, consumer_at, least_from, least_of}
use Rattle.theory.specs.Control.{named_by}
use Rattle.theory.specs.Gap.{IsAnswer, IsGap, gap_of}
use Rattle.theory.specs.Image.{Image, after_heartbeat, after_insert, image_at, is_accepted}
use Rattle.theory.specs.Insert.{Insert, CrossesTerm, Below, OverWindow, Duplicate, Overlap, Stored, head_of, insert_answer_at}
use Rattle.theory.specs.Wire.{Header}
use Rattle.theory.proofs.Held.{not_stored}
use Rattle.theory.proofs.Lists.{all_replicate}
use Rattle.theory.proofs.Tables.{map_replicate}
use Rattle.position.specs.Gaps as code
use Rattle.position.specs.declared.gap.Gap as declared
use Rattle.image.specs.Seen.{accepts, least}
use Rattle.image.specs.Stored.{meant}
use Rattle.image.specs.declared.answer.Insert as given
use Rattle.image.specs.declared.answer.Insert.TheVariants as answers
use Rattle.image.specs.Rebuilding as rebuilt
use Rattle.image.specs.Rebuilding.{Inserting, Looked, geometry_of, join_of}
use Rattle.receiver.specs.Receiving.{Opened, answer_at, gap_in, given_at}
use Rattle.receiver.specs.Representing.{HearsBeat, Inserts, IsOpen, LooksOnce, RepresentsImage, SeesOn}

-- ---- the least consumer

least_along : (p : ℕ) (rs : List Consumer) → fold min p (map (λ (c : Consumer). c.at) rs) ≡ least_from p rs
least_along p [] = refl
least_along p (r ∷ rs) = least_along (min p r.at) rs ∙ swapped p r.at rs
  where
    swapped : (p q : ℕ) (rs : List Consumer) → least_from (min p q) rs ≡ min q (least_from p rs)
    swapped p q [] = omega arith
    swapped p q (s ∷ ss) = let h : least_from (min p q) ss ≡ min q (least_from p ss) = swapped p q ss in omega arith

least_is : (rs : List Consumer) → least (map (λ (c : Consumer). c.at) rs) ≡ least_of rs
least_is [] = refl
least_is (r ∷ rs) = least_along r.at rs

pub least_shown : (v : Inserting) (o : Opened) → RepresentsImage v o → least v.seen ≡ least_of o.image.consumers
least_shown v o h = ap least h.consumers ∙ least_is o.image.consumers

-- ---- a look at the consumers

pub looks_once : (i j : Inserting) (stored : List Placed) (high : ℕ) → Looked i stored high j → LooksOnce i j
looks_once i j stored high l = record { looked = l.looked; floor = l.floor }

pub sees_on : (i j : Inserting) (stored : List Placed) (high : ℕ) → Looked i stored high j → SeesOn i j
sees_on i j stored high l = record {
  of = ap (λ (x : Inserting). x.of) l.after;
  key = ap (λ (x : Inserting). x.key) l.after;
  window = ap (λ (x : Inserting). x.window) l.after;
  undealt = ap (λ (x : Inserting). x.undealt) l.after;
  floor = l.rises;
  all = l.all;
  forward = l.forward;
}

-- with the same frames and the same mark
pub still_shown : (v w : Inserting) (o : Opened) → Looked v v.stored v.high w → RepresentsImage (record v { seen = w.seen }) o → RepresentsImage w o
still_shown v w o l h = record {
  geometry = ap geometry_of l.after ∙ h.geometry;
  join = ap join_of l.after ∙ h.join;
  window = ap (λ (x : Inserting). x.window) l.after ∙ h.window;
  high = ap (λ (x : Inserting). x.high) l.after ∙ h.high;
  stored = ap (λ (x : Inserting). x.stored) l.after ∙ h.stored;
  consumers = h.consumers;
}

-- ---- a frame

-- what the call promises of its answer
pub record Answers (v w : Inserting) (z : ℤ) (f : Frame) (a : given.Insert) : Type 0 where
  pub answer : meant a ≡ insert_answer_at (geometry_of v) (map head_of v.stored) (least w.seen) v.window z (is_padding f) (frame_length f)
  pub stored : a ≡ answers.Stored → (p : ℕ) → z ≡ pos p → rebuilt.Inserts v (record { at = p; frame = f }) w
  pub others : (a ≡ answers.Stored → ⊥) → Looked v v.stored v.high w

-- it has looked, whatever it answers
record HasLooked (v w : Inserting) : Type 0 where
  stored : List Placed
  high : ℕ
  looked : Looked v stored high w

frame_looked : (v w : Inserting) (z : ℤ) (f : Frame) (a : given.Insert) → Answers v w z f a → HasLooked v w
frame_looked v w z f answers.Duplicate h = record { stored = v.stored; high = v.high; looked = h.others (λ e. cc) }
frame_looked v w z f answers.Below h = record { stored = v.stored; high = v.high; looked = h.others (λ e. cc) }
frame_looked v w z f answers.OverWindow h = record { stored = v.stored; high = v.high; looked = h.others (λ e. cc) }
frame_looked v w z f answers.Overlap h = record { stored = v.stored; high = v.high; looked = h.others (λ e. cc) }
frame_looked v w z f answers.CrossesTerm h = record { stored = v.stored; high = v.high; looked = h.others (λ e. cc) }
frame_looked v w (pos p) f answers.Stored h = record { stored = record { at = p; frame = f } ∷ v.stored; high = max v.high (end_of (record { at = p; frame = f })); looked = h.stored refl p refl }
frame_looked v w (negsuc k) f answers.Stored h = absurd (negative (sym h.answer))
  where
    negative : insert_answer_at (geometry_of v) (map head_of v.stored) (least w.seen) v.window (negsuc k) (is_padding f) (frame_length f) ≡ Stored → ⊥
    negative e = not_stored _ e

pub frame_sees : (v w : Inserting) (z : ℤ) (f : Frame) (a : given.Insert) → Answers v w z f a → SeesOn v w
frame_sees v w z f a h = let l = frame_looked v w z f a h in sees_on v w l.stored l.high l.looked

pub frame_looks : (v w : Inserting) (z : ℤ) (f : Frame) (a : given.Insert) → Answers v w z f a → LooksOnce v w
frame_looks v w z f a h = let l = frame_looked v w z f a h in looks_once v w l.stored l.high l.looked

-- the image has one frame more
more_shown : (v w : Inserting) (o : Opened) (s : Placed) → rebuilt.Inserts v s w → RepresentsImage (record v { seen = w.seen }) o → RepresentsImage w (record o { image = record o.image { stored = s ∷ o.image.stored; high = max o.image.high (end_of s) } })
more_shown v w o s l h = record {
  geometry = ap geometry_of l.after ∙ h.geometry;
  join = ap join_of l.after ∙ h.join;
  window = ap (λ (x : Inserting). x.window) l.after ∙ h.window;
  high = ap (λ (x : Inserting). x.high) l.after ∙ ap (λ (n : ℕ). max n (end_of s)) h.high;
  stored = ap (λ (x : Inserting). x.stored) l.after ∙ ap (λ (xs : List Placed). s ∷ xs) h.stored;
  consumers = h.consumers;
}

answer_shown : (v : Inserting) (o : Opened) → RepresentsImage v o → (z : ℤ) (b : Bool) (n : ℕ) → insert_answer_at (geometry_of v) (map head_of v.stored) (least v.seen) v.window z b n ≡ insert_answer_at o.geometry (map head_of o.image.stored) (least_of o.image.consumers) o.image.window z b n
answer_shown v o h z b n = let m = least_shown v o h in (λ j. insert_answer_at (h.geometry j) (map head_of (h.stored j)) (m j) (h.window j) z b n)

inserted_shown : (v w : Inserting) (o : Opened) (z : ℤ) (f : Frame) (a : given.Insert) → RepresentsImage (record v { seen = w.seen }) o → Answers v w z f a → (meant a ≡ answer_at o z f) × RepresentsImage w (given_at o z f)
inserted_shown v w o z f a h is = let same = is.answer ∙ answer_shown (record v { seen = w.seen }) o h z (is_padding f) (frame_length f) in (same, shown z a same is.stored is.others)
  where
    kept : (p : ℕ) (b : Insert) → answer_at o (pos p) f ≡ b → after_insert o.image (record { at = p; frame = f }) b ≡ o.image → Looked v v.stored v.high w → RepresentsImage w (given_at o (pos p) f)
    kept p b e same l = subst (λ x. RepresentsImage w (record o { image = after_insert o.image (record { at = p; frame = f }) x })) (sym e) (subst (λ (i : Image). RepresentsImage w (record o { image = i })) (sym same) (still_shown v w o l h))

    shown : (z : ℤ) (a : given.Insert) → meant a ≡ answer_at o z f → (a ≡ answers.Stored → (p : ℕ) → z ≡ pos p → rebuilt.Inserts v (record { at = p; frame = f }) w) → ((a ≡ answers.Stored → ⊥) → Looked v v.stored v.high w) → RepresentsImage w (given_at o z f)
    shown (pos p) answers.Stored e s n = subst (λ x. RepresentsImage w (record o { image = after_insert o.image (record { at = p; frame = f }) x })) e (more_shown v w o (record { at = p; frame = f }) (s refl p refl) h)
    shown (pos p) answers.Duplicate e s n = kept p Duplicate (sym e) refl (n (λ d. cc))
    shown (pos p) answers.Below e s n = kept p Below (sym e) refl (n (λ d. cc))
    shown (pos p) answers.OverWindow e s n = kept p OverWindow (sym e) refl (n (λ d. cc))
    shown (pos p) answers.Overlap e s n = kept p Overlap (sym e) refl (n (λ d. cc))
    shown (pos p) answers.CrossesTerm e s n = kept p CrossesTerm (sym e) refl (n (λ d. cc))
    shown (negsuc k) a e s n = still_shown v w o (n (λ d. not_stored _ (sym (subst (λ x. meant x ≡ answer_at o (negsuc k) f) d e)))) h

pub frame_inserted : (v w : Inserting) (h : Header) (z : ℤ) (f : Frame) (a : given.Insert) → z ≡ named_by (geometry_of v) h → Answers v w z f a → Inserts v h f a w
frame_inserted v w h z f a named is = λ o s.
    subst (λ x. (meant a ≡ answer_at o x f) × RepresentsImage w (given_at o x f)) (named ∙ ap (λ g. named_by g h) s.geometry) (inserted_shown v w o z f a s is)

-- ---- a heartbeat

-- what the call promises of its answer
pub record Accepts (v w : Inserting) (z : ℤ) (b : Bool) : Type 0 where
  pub answer : b ≡ accepts (geometry_of v) v.high (least w.seen) z
  pub raised : b ≡ true → (p : ℕ) → z ≡ pos p → Looked v v.stored p w
  pub refused : b ≡ false → Looked v v.stored v.high w

beat_looked : (v w : Inserting) (z : ℤ) (b : Bool) → Accepts v w z b → HasLooked v w
beat_looked v w z false h = record { stored = v.stored; high = v.high; looked = h.refused refl }
beat_looked v w (pos p) true h = record { stored = v.stored; high = p; looked = h.raised refl p refl }
beat_looked v w (negsuc k) true h = let e = h.answer in absurd (cc)

pub beat_sees : (v w : Inserting) (z : ℤ) (b : Bool) → Accepts v w z b → SeesOn v w
beat_sees v w z b h = let l = beat_looked v w z b h in sees_on v w l.stored l.high l.looked

pub beat_looks : (v w : Inserting) (z : ℤ) (b : Bool) → Accepts v w z b → LooksOnce v w
beat_looks v w z b h = let l = beat_looked v w z b h in looks_once v w l.stored l.high l.looked

beaten_shown : (v w : Inserting) (o : Opened) (z : ℤ) (b : Bool) → RepresentsImage (record v { seen = w.seen }) o → Accepts v w z b → RepresentsImage w (record o { image = after_heartbeat o.geometry o.image (least_of o.image.consumers) z })
beaten_shown v w o (negsuc n) b h is = still_shown v w o (is.refused is.answer) h
beaten_shown v w o (pos p) b h is =
    let m = least_of o.image.consumers in let same = least_shown (record v { seen = w.seen }) o h in
    let test : b ≡ is_accepted o.geometry o.image.high m p = is.answer ∙ (λ j. is_accepted (h.geometry j) (h.high j) (same j) p) in
    ⊎_elim
    (λ (y : b ≡ true). subst (λ (i : Image). RepresentsImage w (record o { image = i })) (sym (cond-true (is_accepted o.geometry o.image.high m p) (record o.image { high = p }) o.image (sym test ∙ y))) (marked (is.raised y p refl)))
    (λ (n : b ≡ false). subst (λ (i : Image). RepresentsImage w (record o { image = i })) (sym (cond-false (is_accepted o.geometry o.image.high m p) (record o.image { high = p }) o.image (sym test ∙ n))) (still_shown v w o (is.refused n) h))
    (cases_Bool b)
  where
    marked : Looked v v.stored p w → RepresentsImage w (record o { image = record o.image { high = p } })
    marked l = record {
      geometry = ap geometry_of l.after ∙ h.geometry;
      join = ap join_of l.after ∙ h.join;
      window = ap (λ (x : Inserting). x.window) l.after ∙ h.window;
      high = ap (λ (x : Inserting). x.high) l.after;
      stored = ap (λ (x : Inserting). x.stored) l.after ∙ h.stored;
      consumers = h.consumers;
    }

pub beat_heard : (v w : Inserting) (h : Header) (z : ℤ) (b : Bool) → z ≡ named_by (geometry_of v) h → Accepts v w z b → HearsBeat v h w
beat_heard v w h z b named is = λ o s.
    subst (λ x. RepresentsImage w (record o { image = after_heartbeat o.geometry o.image (least_of o.image.consumers) x })) (named ∙ ap (λ g. named_by g h) s.geometry) (beaten_shown v w o z b s is)

-- ---- what is missing

pub gap_shown : (v : Inserting) (o : Opened) → RepresentsImage v o → gap_of (geometry_of v).term_length v.stored v.high (contiguous v.stored (join_of v) v.high) ≡ gap_in o
gap_shown v o h = (λ j. gap_of (h.geometry j).term_length (h.stored j) (h.high j) (contiguous (h.stored j) (h.join j) (h.high j)))

-- it begins at a position of the stream, and is no longer than a term
pub answer_low : (g : Geometry) (frames : List Placed) (high q : ℕ) (found : Option declared.Gap) → IsGeometry g → high ≤ max_position g → IsAnswer g.term_length frames high q (code.gap_of found) → IfSome found (λ gap. (gap.start ≤ max_position g) × (gap.length < 2 ^ 31))
answer_low g frames high q None legal low is = tt
answer_low g frames high q (Some gap) legal low is =
    let start : gap.start ≡ q = is.0 in
    let found : IsGap g.term_length frames high q (q + gap.length) = is.1 in
    let below : q + gap.length ≤ high = found.below in
    let short : q + gap.length ≤ q / g.term_length * g.term_length + g.term_length = found.one_term in
    let most : g.term_length ≤ 16777216 = legal.term.greatest in
    let least : 65536 ≤ g.term_length = legal.term.least in
    (omega arith, omega arith)

-- ---- an image that was just opened

abbrev pub fresh : Inserting → Identity → ℕ → ℕ → ℕ → Inserting
fresh v identity join window n = record { of = v.of; key = record { identity = identity; join = join / 32; consumers = n }; window = window; stored = []; high = join; floor = join; seen = replicate n join; looks = replicate n 0; undealt = n }

pub opened_shown : (v : Inserting) (i : Identity) (join window n : ℕ) → join % 32 ≡ 0 → RepresentsImage (fresh v i join window n) (record { geometry = i.geometry; image = image_at join window n })
opened_shown v i join window n unit = record {
  geometry = refl;
  join = omega arith;
  window = refl;
  high = refl;
  stored = refl;
  consumers = map_replicate (λ (c : Consumer). c.at) n (consumer_at join);
}

pub opened_open : (v : Inserting) (i : Identity) (join window n : ℕ) → IsOpen (fresh v i join window n)
opened_open v i join window n = record { undealt = refl; from = all_replicate (λ (p : ℕ). 32 * (join / 32) ≤ p) n join (omega arith) }
