-- Frames of a datagram: what stands together, and either frames or a fault.
use Rattle.std.proofs.Common.{◌≡◌, ◌≢◌, ◌⊎◌, ℕ, ◌+◌, ◌<◌, Bool, true, false, ◌&&◌, eqb, List, [], ◌∷◌, ◌++◌, length, drop, Option, Some, None, Result, Ok, Err, refl, sym, ap, subst, ◌∙◌, append_assoc, inl, inr, arith}
use Rattle.std.specs.Prelude.{IfOk, IfErr}
use Rattle.std.specs.Result.{result_err}
use Rattle.std.proofs.lemmas.Bool.{eqb-true, eqb-false, ne_eqb}
use Rattle.std.specs.List.{flat_map, AllByRecursion}
use Rattle.std.proofs.lemmas.List.{append-nil, length-drop, length-take, nil_from_length, length_push, flat_map_more}
use Rattle.theory.specs.Wire.{Wire, DATA, PAD, HEARTBEAT, NAK, SM, SETUP, spelling, IsFrame, MayFollow, StandTogether, SpellsDatagram}
use Rattle.theory.proofs.Lists.{all_pushed}
use Rattle.theory.proofs.Readings.{not_empty, one_reading, some_bytes, stands_alone}
use Rattle.theory.proofs.Spelled.{one_spelling}
use Rattle.frames.specs.declared.fault.FrameError.{FrameError}
use Rattle.frames.specs.Fronts.{FrontSpells}
use Rattle.frames.specs.Order.{first_fault}
use Rattle.frames.specs.Datagrams.{IsData, IsPad, may_stand, DataThen, IsUnreadable, IsMisplaced, IsDatagramFault}
use Rattle.frames.proofs.Again.{reading_again}
use Rattle.frames.proofs.Faults.{reading_order}
use Rattle.frames.proofs.Laws.{front_parts}

-- frames in front are the first of a datagram's frames
pub record Split (before frames : List Wire) (rest : List ℕ) : Type 0 where
  pub others : List Wire
  pub whole : frames ≡ before ++ others
  pub legal : AllByRecursion IsFrame others
  pub left : rest ≡ flat_map spelling others

pub split : (before frames : List Wire) (rest : List ℕ) → AllByRecursion IsFrame before → AllByRecursion IsFrame frames → flat_map spelling before ++ rest ≡ flat_map spelling frames → Split before frames rest
split [] frames rest fa fb e = record { others = frames; whole = refl; legal = fb; left = e }
split (w ∷ before) [] rest fa fb e = absurd (not_empty w (flat_map spelling before ++ rest) (sym e ∙ append_assoc (spelling w) (flat_map spelling before) rest))
split (w ∷ before) (v ∷ frames) rest fa fb e =
    let p = one_spelling w v (flat_map spelling before ++ rest) (flat_map spelling frames) fa.0 fb.0 (sym (append_assoc (spelling w) (flat_map spelling before) rest) ∙ e) in
    let s = split before frames rest fa.1 fb.1 p.1 in
    record {
      others = s.others;
      whole = ap (λ (x : Wire). x ∷ frames) (sym p.0) ∙ ap (λ (xs : List Wire). w ∷ xs) s.whole;
      legal = s.legal;
      left = s.left;
    }

-- ---- what may stand together

-- data frames and one more
follows : (before : List Wire) (w : Wire) → AllByRecursion IsData before → may_stand w false true ≡ true → MayFollow (before ++ w ∷ [])
follows [] (DATA h flags payload) kinds e = tt
follows [] (PAD h n) kinds e = tt
follows [] (HEARTBEAT h) kinds e = absurd cc
follows [] (NAK f) kinds e = absurd cc
follows [] (SM asks f) kinds e = absurd cc
follows [] (SETUP f) kinds e = absurd cc
follows (DATA h flags payload ∷ before) w kinds e = follows before w kinds.1 e
follows (PAD h n ∷ before) w kinds e = absurd kinds.0
follows (HEARTBEAT h ∷ before) w kinds e = absurd kinds.0
follows (NAK f ∷ before) w kinds e = absurd kinds.0
follows (SM asks f ∷ before) w kinds e = absurd kinds.0
follows (SETUP f ∷ before) w kinds e = absurd kinds.0

abbrev pub is_none : List Wire → Bool
is_none [] = true
is_none (w ∷ ws) = false

pub together : (before : List Wire) (w : Wire) → AllByRecursion IsData before → may_stand w (is_none before) true ≡ true → StandTogether (before ++ w ∷ [])
together [] w kinds e = stands_alone w
together (DATA h flags payload ∷ before) w kinds e = follows before w kinds.1 e
together (PAD h n ∷ before) w kinds e = absurd kinds.0
together (HEARTBEAT h ∷ before) w kinds e = absurd kinds.0
together (NAK f ∷ before) w kinds e = absurd kinds.0
together (SM asks f ∷ before) w kinds e = absurd kinds.0
together (SETUP f ∷ before) w kinds e = absurd kinds.0

-- what can't follow data frames
ends_there : (before others : List Wire) (w : Wire) → AllByRecursion IsData before → (IsData w → ⊥) → MayFollow (before ++ w ∷ others) → IsPad w × (others ≡ [])
ends_there [] others (DATA h flags payload) kinds other m = absurd (other tt)
ends_there [] [] (PAD h n) kinds other m = (tt, refl)
ends_there [] (v ∷ others) (PAD h n) kinds other m = absurd m
ends_there [] others (HEARTBEAT h) kinds other m = absurd m
ends_there [] others (NAK f) kinds other m = absurd m
ends_there [] others (SM asks f) kinds other m = absurd m
ends_there [] others (SETUP f) kinds other m = absurd m
ends_there (DATA h flags payload ∷ before) others w kinds other m = ends_there before others w kinds.1 other m
ends_there (PAD h n ∷ before) others w kinds other m = absurd kinds.0
ends_there (HEARTBEAT h ∷ before) others w kinds other m = absurd kinds.0
ends_there (NAK f ∷ before) others w kinds other m = absurd kinds.0
ends_there (SM asks f ∷ before) others w kinds other m = absurd kinds.0
ends_there (SETUP f ∷ before) others w kinds other m = absurd kinds.0

alone : (others : List Wire) (w : Wire) → (IsData w → ⊥) → StandTogether (w ∷ others) → others ≡ []
alone others (DATA h flags payload) other s = absurd (other tt)
alone others (PAD h n) other s = s
alone others (HEARTBEAT h) other s = s
alone others (NAK f) other s = s
alone others (SM asks f) other s = s
alone others (SETUP f) other s = s

-- in a datagram a frame that isn't data is the last, and a padding where data frames are before it
must_end : (before others : List Wire) (w : Wire) → AllByRecursion IsData before → (IsData w → ⊥) → StandTogether (before ++ w ∷ others) → (others ≡ []) × ((before ≢ []) → IsPad w)
must_end [] others w kinds other s = (alone others w other s, λ some. absurd (some refl))
must_end (DATA h flags payload ∷ before) others w kinds other s = let p = ends_there before others w kinds.1 other s in (p.1, λ some. p.0)
must_end (PAD h n ∷ before) others w kinds other s = absurd kinds.0
must_end (HEARTBEAT h ∷ before) others w kinds other s = absurd kinds.0
must_end (NAK f ∷ before) others w kinds other s = absurd kinds.0
must_end (SM asks f ∷ before) others w kinds other s = absurd kinds.0
must_end (SETUP f ∷ before) others w kinds other s = absurd kinds.0

-- ---- no datagram has a fault

pub readable : (w : Wire) (rest : List ℕ) → IsFrame w → first_fault (spelling w ++ rest) ≡ None
readable w rest fits = sym (reading_order (spelling w ++ rest)) ∙ ap result_err (reading_again w rest fits)

abbrev pub fault_or : FrameError → Option FrameError
fault_or e = Some e

pub no_fault : (e : FrameError) → None ≡ fault_or e → ⊥
no_fault e h = cc

clean_unreadable : (before others : List Wire) (rest : List ℕ) (fault : FrameError) → AllByRecursion IsFrame others → StandTogether (before ++ others) → rest ≡ flat_map spelling others → IsUnreadable before rest fault → ⊥
clean_unreadable before [] rest fault legal s left u =
    elim u.begun [
      | inl none ↦ subst (λ (b : List Wire). StandTogether (b ++ [])) none s
      | inr some ↦ some left
    ]
clean_unreadable before (w ∷ others) rest fault legal s left u =
    let fine : first_fault rest ≡ None = ap first_fault left ∙ readable w (flat_map spelling others) legal.0 in
    no_fault fault (sym fine ∙ u.reason)

clean_misplaced : (before others : List Wire) (rest : List ℕ) → AllByRecursion IsData before → AllByRecursion IsFrame others → StandTogether (before ++ others) → rest ≡ flat_map spelling others → IsMisplaced before rest → ⊥
clean_misplaced before [] rest kinds legal s left m = not_empty m.frame (drop m.size rest) (sym left ∙ front_parts rest m.frame m.size m.read)
clean_misplaced before (w ∷ others) rest kinds legal s left m =
    let p = one_spelling m.frame w (drop m.size rest) (flat_map spelling others) m.read.spelled.0 legal.0 (sym (front_parts rest m.frame m.size m.read) ∙ left) in
    let other : IsData w → ⊥ = subst (λ (v : Wire). IsData v → ⊥) p.0 m.other in
    let q = must_end before others w kinds other s in
    let nothing : drop m.size rest ≡ [] = p.1 ∙ ap (flat_map spelling) q.0 in
    elim m.wrong [
      | inl follows ↦ follows.1 (subst IsPad (sym p.0) (q.1 follows.0))
      | inr more ↦ absurd (omega (arith, ap length nothing, length-drop m.size rest))
    ]

pub no_datagram : (bytes : List ℕ) (frames : List Wire) (fault : FrameError) → SpellsDatagram frames bytes → IsDatagramFault bytes fault → ⊥
no_datagram bytes frames fault d f =
    let before : List Wire = f.0 in
    let rest : List ℕ = f.1 in
    let s = split before frames rest f.2.frames d.1 (sym f.2.parts ∙ d.2) in
    let stand : StandTogether (before ++ s.others) = subst StandTogether s.whole d.0 in
    elim f.3 [
      | inl u ↦ clean_unreadable before s.others rest fault s.legal stand s.left u
      | inr m ↦ clean_misplaced before s.others rest f.2.kinds s.legal stand s.left m.1
    ]

-- ---- one frame more

abbrev counted : ℕ → Result ℕ FrameError
counted n = Ok n

pub is_only_datagram : (bytes : List ℕ) (r : Result ℕ FrameError) (frames : List Wire) → IfOk r (λ n. (read : List Wire) × SpellsDatagram read bytes × (length read ≡ n)) → IfErr r (λ fault. IsDatagramFault bytes fault) → SpellsDatagram frames bytes → r ≡ Ok (length frames)
is_only_datagram bytes (Ok n) frames found fault d = ap (λ (k : ℕ). counted k) (sym found.2 ∙ ap length (one_reading found.0 frames bytes found.1 d))
is_only_datagram bytes (Err e) frames found fault d = absurd (no_datagram bytes frames e d fault)

-- data frames were read, and bytes are left unless none was
abbrev pub Begun : List ℕ → List ℕ → ℕ → Type 0
Begun bytes rest count = (before : List Wire) × DataThen bytes before rest × (length before ≡ count) × ((before ≡ []) ⊎ (rest ≢ []))

none_counted : (before : List Wire) → is_none before ≡ eqb (length before) 0
none_counted [] = refl
none_counted (w ∷ before) = sym (ne_eqb (length (w ∷ before)) 0 (λ e. omega arith))

parts_and : (bytes rest : List ℕ) (before : List Wire) (w : Wire) (size : ℕ) → DataThen bytes before rest → FrontSpells rest w size → bytes ≡ flat_map spelling (before ++ w ∷ []) ++ drop size rest
parts_and bytes rest before w size d f =
    d.parts ∙ ap (λ (r : List ℕ). flat_map spelling before ++ r) (front_parts rest w size f) ∙ sym (append_assoc (flat_map spelling before) (spelling w) (drop size rest))
    ∙ ap (λ (b : List ℕ). b ++ drop size rest) (flat_map_more spelling [] before w)

pub accepted : (bytes rest cut : List ℕ) (w : Wire) (size count : ℕ) (stands last : Bool) → Begun bytes rest count → FrontSpells rest w size → cut ≡ drop size rest → last ≡ eqb (length cut) 0 → stands ≡ may_stand w (eqb count 0) last → stands ≡ true → last ≡ true
    → (frames : List Wire) × SpellsDatagram frames bytes × (length frames ≡ count + 1)
accepted bytes rest cut w size count stands last begun f cut-is left is fine end =
    let before : List Wire = begun.0 in
    let first : is_none before ≡ eqb count 0 = none_counted before ∙ ap (λ (n : ℕ). eqb n 0) begun.2 in
    let legal : may_stand w (is_none before) true ≡ true = ap (λ b. may_stand w b true) first ∙ ap (may_stand w (eqb count 0)) (sym end) ∙ sym is ∙ fine in
    let nothing : drop size rest ≡ [] = sym cut-is ∙ nil_from_length cut (eqb-true _ _ (sym left ∙ end)) in
    let whole : bytes ≡ flat_map spelling (before ++ w ∷ []) = parts_and bytes rest before w size begun.1 f ∙ ap (λ (r : List ℕ). flat_map spelling (before ++ w ∷ []) ++ r) nothing ∙ append-nil (flat_map spelling (before ++ w ∷ [])) in
    (before ++ w ∷ [], (together before w begun.1.kinds legal, all_pushed IsFrame before w begun.1.frames f.spelled.0, whole), omega (arith, length_push before w, begun.2))

never : (first : Bool) → (first && false) ≡ true → ⊥
never true e = cc
never false e = cc

only_data : (w : Wire) (first : Bool) → may_stand w first false ≡ true → IsData w
only_data (DATA h flags payload) first e = tt
only_data (PAD h n) first e = absurd cc
only_data (HEARTBEAT h) first e = absurd (never first e)
only_data (NAK f) first e = absurd (never first e)
only_data (SM asks f) first e = absurd (never first e)
only_data (SETUP f) first e = absurd (never first e)

pub goes_on : (bytes rest cut : List ℕ) (w : Wire) (size count : ℕ) (stands last : Bool) → Begun bytes rest count → FrontSpells rest w size → cut ≡ drop size rest → last ≡ eqb (length cut) 0 → stands ≡ may_stand w (eqb count 0) last → stands ≡ true → last ≡ false → Begun bytes cut (count + 1)
goes_on bytes rest cut w size count stands last begun f cut-is left is fine more =
    let before : List Wire = begun.0 in
    let kind : IsData w = only_data w (eqb count 0) (ap (may_stand w (eqb count 0)) (sym more) ∙ sym is ∙ fine) in
    let some : cut ≢ [] = λ e. eqb-false (length cut) 0 (sym left ∙ more) (ap length e) in
    let parts : bytes ≡ flat_map spelling (before ++ w ∷ []) ++ cut = parts_and bytes rest before w size begun.1 f ∙ ap (λ (r : List ℕ). flat_map spelling (before ++ w ∷ []) ++ r) (sym cut-is) in
    (before ++ w ∷ [], record { frames = all_pushed IsFrame before w begun.1.frames f.spelled.0; kinds = all_pushed IsData before w begun.1.kinds kind; parts = parts }, omega (arith, length_push before w, begun.2), inr some)

-- a frame takes some of the bytes that there are
pub takes_some : (rest cut : List ℕ) (w : Wire) (size : ℕ) → FrontSpells rest w size → cut ≡ drop size rest → length cut < length rest
takes_some rest cut w size f cut-is =
    omega (arith, some_bytes w, ap length f.spelled.1, length-take size rest, f.within, ap length cut-is, length-drop size rest)
