-- What each event of a log keeps.
use Rattle.std.proofs.Common.{◌≡◌, ℕ, ◌+◌, ◌*◌, ◌/◌, ◌%◌, ◌<◌, ◌≤◌, inl, inr, ⊎_elim, List, [], ◌∷◌, ◌++◌, map, Bool, true, false, cond, not, refl, sym, ap, ◌∙◌, subst, arith}
use Rattle.std.specs.List.{AllByRecursion}
use Rattle.std.specs.Prelude.{nat_le, nat_eq, max, slice_set, slice_get, Option, None, Some}
use Rattle.std.proofs.lemmas.Bool.{cases_Bool, leb-true, eqb-true}
use Rattle.theory.specs.Position.{Geometry, aligned, span, cuts_of, max_payload}
use Rattle.theory.specs.Placed.{IsReached, Frame, Pad, Placed, Among, place_all}
use Rattle.theory.specs.Entry.{Entry, IsEntry, HaveFrames, ArePadding, entry_end, committed}
use Rattle.theory.specs.Tiling.{Tiles, InOneTerm, handed, retire}
use Rattle.theory.specs.Bytes.{Identity}
use Rattle.theory.specs.Numbered.{Each}
use Rattle.theory.specs.Consumer.{Consumer, moved, passed_by, MayMove, consumer_at}
use Rattle.model.specs.Log.{Log, LogStep, LogEvent, Look, Arm, Add, Miss, Store, Commit, Abort, Rotate, Clean, Raise, Connect, Close, Join, Leave, Move, Pass, Retire, MayCommit, MayAbort, with_frame, aborted_at, entry_for, room, term_of}
use Rattle.theory.proofs.Cuts.{cut_units, span_unit, long_cuts}
use Rattle.theory.proofs.Lists.{all_append, all_map, all_weaker, each_weaker, each_get, each_set, each_leave}
use Rattle.theory.proofs.Tiling.{Tiles-map, Tiles-push}
use Rattle.theory.proofs.Frames.{Kept-map, Kept-push, placed_front}
use Rattle.model.proofs.Consumers.{Follows, follows_more, follows_joined, follows_moved, follows_passed}
use Rattle.theory.proofs.Places.{mod_unit}

-- ---- what is kept

pub record IsSized (g : Geometry) : Type 0 where
  pub term : 0 < g.term_length
  pub term_unit : g.term_length % 32 ≡ 0
  pub payload : 0 < max_payload g

pub record KeptLog (i : Identity) (start tail : ℕ) (es : List Entry) (rs : List (Option Consumer)) : Type 0 where
  pub sized : IsSized i.geometry
  pub start_unit : start % 32 ≡ 0
  pub tiles : Tiles i.geometry.term_length start tail es
  pub entries : AllByRecursion IsEntry es
  pub readers : Each (Follows (committed es) start) rs

abbrev pub IsKeptLog : Log → Type 0
IsKeptLog l = KeptLog l.identity l.start l.tail l.entries l.readers

pub record Grows (old new : Log) : Type 0 where
  pub kept : IsKeptLog new
  pub more : (s : Placed) → Among s (committed old.entries) → Among s (committed new.entries)
  pub identity : new.identity ≡ old.identity
  pub start : new.start ≡ old.start

-- ---- entries with one start are one

pub entry_from : (term p tail : ℕ) (es : List Entry) (a : Entry) → Tiles term p tail es → Among a es → p ≤ a.start
entry_from term p tail [] a t h = absurd h
entry_from term p tail (e ∷ es) a t (inl s) = let same : a.start ≡ e.start = ap (λ x. x.start) s in omega (arith, t.0)
entry_from term p tail (e ∷ es) a t (inr h) = omega (arith, entry_from term (entry_end e) tail es a t.2 h, t.0)

pub one_entry : (term p tail : ℕ) (es : List Entry) (a b : Entry) → Tiles term p tail es → AllByRecursion IsEntry es → Among a es → Among b es → a.start ≡ b.start → a ≡ b
one_entry term p tail [] a b t k h j s = absurd h
one_entry term p tail (e ∷ es) a b t k (inl x) (inl y) s = x ∙ sym y
one_entry term p tail (e ∷ es) a b t k (inl x) (inr y) s =
    let same : a.start ≡ e.start = ap (λ z. z.start) x in
    let later : entry_end e ≤ b.start = entry_from term (entry_end e) tail es b t.2 y in
    absurd (omega (arith, k.0.long))
one_entry term p tail (e ∷ es) a b t k (inr x) (inl y) s =
    let same : b.start ≡ e.start = ap (λ z. z.start) y in
    let later : entry_end e ≤ a.start = entry_from term (entry_end e) tail es a t.2 x in
    absurd (omega (arith, k.0.long))
one_entry term p tail (e ∷ es) a b t k (inr x) (inr y) s = one_entry term (entry_end e) tail es a b t.2 k.1 x y s

-- ---- a commit

frame_more : (start : ℕ) (f : Frame) (e : Entry) (s : Placed) → Among s (place_all e.start e.frames) → Among s (place_all e.start (cond (nat_eq e.start start) (e.frames ++ f ∷ []) e.frames))
frame_more start f e s a =
    ⊎_elim
    (λ (t : nat_eq e.start start ≡ true). subst (λ b. Among s (place_all e.start (cond b (e.frames ++ f ∷ []) e.frames))) (sym t) (placed_front e.start e.frames (f ∷ []) s a))
    (λ (n : nat_eq e.start start ≡ false). subst (λ b. Among s (place_all e.start (cond b (e.frames ++ f ∷ []) e.frames))) (sym n) a)
    (cases_Bool (nat_eq e.start start))

commit_entry : (l : Log) (start : ℕ) (f : Frame) → IsKeptLog l → MayCommit l start f → (e : Entry) → Among e l.entries → IsEntry e → IsEntry (with_frame start f e)
commit_entry l start f k m e a is = record {
  owner = is.owner;
  cuts = is.cuts;
  long = is.long;
  frames = ⊎_elim
      (λ (t : nat_eq e.start start ≡ true).
      let here : e.start ≡ start = eqb-true e.start start t in
      let same : e ≡ m.entry = one_entry (term_of l) l.start l.tail l.entries e m.entry k.tiles k.entries a m.among (here ∙ sym m.here) in
      subst (λ b. HaveFrames e.padding e.cuts (cond b (e.frames ++ f ∷ []) e.frames)) (sym t) (subst (λ (x : Entry). HaveFrames x.padding x.cuts (x.frames ++ f ∷ [])) (sym same) m.frames))
      (λ (n : nat_eq e.start start ≡ false). subst (λ b. HaveFrames e.padding e.cuts (cond b (e.frames ++ f ∷ []) e.frames)) (sym n) is.frames)
      (cases_Bool (nat_eq e.start start));
}

commits : (l : Log) (start : ℕ) (f : Frame) → IsKeptLog l → MayCommit l start f → Grows l (record l { entries = map (with_frame start f) l.entries })
commits l start f k m =
    let more : (s : Placed) → Among s (committed l.entries) → Among s (committed (map (with_frame start f) l.entries)) = Kept-map (with_frame start f) l.entries (λ e _ s a. frame_more start f e s a) in
    record {
      kept = record {
        sized = k.sized;
        start_unit = k.start_unit;
        tiles = Tiles-map (with_frame start f) (λ e. refl) (λ e. refl) (term_of l) l.start l.tail l.entries k.tiles;
        entries = all_map IsEntry (with_frame start f) l.entries (commit_entry l start f k m) k.entries;
        readers = each_weaker (Follows (committed l.entries) l.start) (Follows (committed (map (with_frame start f) l.entries)) l.start) (follows_more (committed l.entries) (committed (map (with_frame start f) l.entries)) more l.start) l.readers k.readers;
      };
      more = more;
      identity = refl;
      start = refl;
    }

-- ---- an abort

abort_more : (l : Log) (start : ℕ) → IsKeptLog l → MayAbort l start → (e : Entry) → Among e l.entries → (s : Placed) → Among s (place_all e.start e.frames) → Among s (place_all e.start (cond (nat_eq e.start start) (map Pad e.cuts) e.frames))
abort_more l start k m e among s a =
    ⊎_elim
    (λ (t : nat_eq e.start start ≡ true).
    let here : e.start ≡ start = eqb-true e.start start t in
    let same : e ≡ m.entry = one_entry (term_of l) l.start l.tail l.entries e m.entry k.tiles k.entries among m.among (here ∙ sym m.here) in
    let none : e.frames ≡ [] = ap (λ (x : Entry). x.frames) same ∙ m.untouched in
    let nowhere : Among s (place_all e.start []) = subst (λ fs. Among s (place_all e.start fs)) none a in
    absurd nowhere)
    (λ (n : nat_eq e.start start ≡ false). subst (λ b. Among s (place_all e.start (cond b (map Pad e.cuts) e.frames))) (sym n) a)
    (cases_Bool (nat_eq e.start start))

abort_entry : (l : Log) (start : ℕ) → IsKeptLog l → MayAbort l start → (e : Entry) → Among e l.entries → IsEntry e → IsEntry (aborted_at start e)
abort_entry l start k m e a is = record {
  owner = is.owner;
  cuts = is.cuts;
  long = is.long;
  frames = ⊎_elim
      (λ (t : nat_eq e.start start ≡ true).
      let here : e.start ≡ start = eqb-true e.start start t in
      let same : e ≡ m.entry = one_entry (term_of l) l.start l.tail l.entries e m.entry k.tiles k.entries a m.among (here ∙ sym m.here) in
      let single : e.cuts ≡ m.cut ∷ [] = ap (λ (x : Entry). x.cuts) same ∙ m.single in
      let padded : ArePadding (m.cut ∷ []) (Pad m.cut ∷ []) = refl in
      subst (λ b. HaveFrames (cond b true e.padding) e.cuts (cond b (map Pad e.cuts) e.frames)) (sym t) (subst (λ cuts. ArePadding cuts (map Pad cuts)) (sym single) padded))
      (λ (n : nat_eq e.start start ≡ false). subst (λ b. HaveFrames (cond b true e.padding) e.cuts (cond b (map Pad e.cuts) e.frames)) (sym n) is.frames)
      (cases_Bool (nat_eq e.start start));
}

aborts : (l : Log) (start : ℕ) → IsKeptLog l → MayAbort l start → Grows l (record l { entries = map (aborted_at start) l.entries })
aborts l start k m =
    let more : (s : Placed) → Among s (committed l.entries) → Among s (committed (map (aborted_at start) l.entries)) = Kept-map (aborted_at start) l.entries (abort_more l start k m) in
    record {
      kept = record {
        sized = k.sized;
        start_unit = k.start_unit;
        tiles = Tiles-map (aborted_at start) (λ e. refl) (λ e. refl) (term_of l) l.start l.tail l.entries k.tiles;
        entries = all_map IsEntry (aborted_at start) l.entries (abort_entry l start k m) k.entries;
        readers = each_weaker (Follows (committed l.entries) l.start) (Follows (committed (map (aborted_at start) l.entries)) l.start) (follows_more (committed l.entries) (committed (map (aborted_at start) l.entries)) more l.start) l.readers k.readers;
      };
      more = more;
      identity = refl;
      start = refl;
    }

-- ---- a retired publisher

retire_entry : (a b : ℕ) → a < 8 → (e : Entry) → IsEntry e → IsEntry (handed a b e)
retire_entry a b l e is = record {
  owner = ⊎_elim
      (λ (t : nat_eq e.owner b ≡ true). subst (λ c. cond c a e.owner < 8) (sym t) l)
      (λ (n : nat_eq e.owner b ≡ false). subst (λ c. cond c a e.owner < 8) (sym n) is.owner)
      (cases_Bool (nat_eq e.owner b));
  cuts = is.cuts;
  long = is.long;
  frames = is.frames;
}

retires : (l : Log) (a b : ℕ) (gone : List Bool) → IsKeptLog l → a < 8 → Grows l (record l { entries = retire a b l.entries; retired = gone })
retires l a b gone k le =
    let more : (s : Placed) → Among s (committed l.entries) → Among s (committed (map (handed a b) l.entries)) = Kept-map (handed a b) l.entries (λ e _ s h. h) in
    record {
      kept = record {
        sized = k.sized;
        start_unit = k.start_unit;
        tiles = Tiles-map (handed a b) (λ e. refl) (λ e. refl) (term_of l) l.start l.tail l.entries k.tiles;
        entries = all_map IsEntry (handed a b) l.entries (λ e _ is. retire_entry a b le e is) k.entries;
        readers = each_weaker (Follows (committed l.entries) l.start) (Follows (committed (map (handed a b) l.entries)) l.start) (follows_more (committed l.entries) (committed (map (handed a b) l.entries)) more l.start) l.readers k.readers;
      };
      more = more;
      identity = refl;
      start = refl;
    }

-- ---- an addition

pub positive_cuts : (g : Geometry) (m : ℕ) → 0 < max_payload g → AllByRecursion (λ cut. 0 < cut) (cuts_of g m)
positive_cuts g m p = all_weaker (λ cut. 32 ≤ cut) (λ cut. 0 < cut) (λ cut l. omega arith) (cuts_of g m) (cut_units g m (omega arith))

pub tail_unit : (term p tail : ℕ) (es : List Entry) → Tiles term p tail es → p % 32 ≡ 0 → tail % 32 ≡ 0
tail_unit term p tail [] t u = omega (arith, t)
tail_unit term p tail (e ∷ es) t u = let next : entry_end e % 32 ≡ 0 = omega (arith, span_unit e.cuts, t.0) in tail_unit term (entry_end e) tail es t.2 next

pub room_unit : (l : Log) → IsKeptLog l → aligned (room l) ≡ room l
room_unit l k =
    let tail : l.tail % 32 ≡ 0 = tail_unit (term_of l) l.start l.tail l.entries k.tiles k.start_unit in
    let offset : (l.tail % term_of l) % 32 ≡ 0 = mod_unit l.tail (term_of l) k.sized.term k.sized.term_unit tail in
    let term : 0 < term_of l = k.sized.term in
    let unit : term_of l % 32 ≡ 0 = k.sized.term_unit in
    omega arith

pub room_long : (l : Log) → IsKeptLog l → 0 < room l
room_long l k = let term : 0 < term_of l = k.sized.term in omega arith

adds_entry : (l : Log) (by bytes : ℕ) → IsKeptLog l → by < 8 → IsEntry (entry_for l by bytes)
adds_entry l by bytes k le =
    let cuts = cuts_of l.identity.geometry bytes in
    let fits = nat_le (span cuts) (room l) in
    record {
      owner = le;
      cuts = ⊎_elim
          (λ (t : fits ≡ true). subst (λ b. AllByRecursion (λ cut. 0 < cut) (cond b cuts (room l ∷ []))) (sym t) (positive_cuts l.identity.geometry bytes k.sized.payload))
          (λ (f : fits ≡ false). let whole : AllByRecursion (λ cut. 0 < cut) (room l ∷ []) = (room_long l k, tt) in subst (λ b. AllByRecursion (λ cut. 0 < cut) (cond b cuts (room l ∷ []))) (sym f) whole)
          (cases_Bool fits);
      long = ⊎_elim
          (λ (t : fits ≡ true). subst (λ b. 0 < span (cond b cuts (room l ∷ []))) (sym t) (long_cuts l.identity.geometry bytes k.sized.payload))
          (λ (f : fits ≡ false). let long : 0 < span (room l ∷ []) = omega (arith, room_unit l k, room_long l k) in subst (λ b. 0 < span (cond b cuts (room l ∷ []))) (sym f) long)
          (cases_Bool fits);
      frames = ⊎_elim
          (λ (t : fits ≡ true). subst (λ b. HaveFrames (not b) (cond b cuts (room l ∷ [])) []) (sym t) tt)
          (λ (f : fits ≡ false). subst (λ b. HaveFrames (not b) (cond b cuts (room l ∷ [])) []) (sym f) tt)
          (cases_Bool fits);
    }

adds_within : (l : Log) (by bytes : ℕ) → IsKeptLog l → InOneTerm (term_of l) l.tail (entry_end (entry_for l by bytes))
adds_within l by bytes k =
    let cuts = cuts_of l.identity.geometry bytes in
    let fits = nat_le (span cuts) (room l) in
    let term : 0 < term_of l = k.sized.term in
    ⊎_elim
    (λ (t : fits ≡ true). let within : span cuts ≤ room l = leb-true (span cuts) (room l) t in let end : l.tail + span cuts ≤ l.tail / term_of l * term_of l + term_of l = omega arith in subst (λ b. l.tail + span (cond b cuts (room l ∷ [])) ≤ l.tail / term_of l * term_of l + term_of l) (sym t) end)
    (λ (f : fits ≡ false). let end : l.tail + span (room l ∷ []) ≤ l.tail / term_of l * term_of l + term_of l = omega (arith, room_unit l k) in subst (λ b. l.tail + span (cond b cuts (room l ∷ [])) ≤ l.tail / term_of l * term_of l + term_of l) (sym f) end)
    (cases_Bool fits)

adds : (l : Log) (by bytes : ℕ) (left : List Bool) → IsKeptLog l → by < 8 → Grows l (record l { armed = left; entries = l.entries ++ entry_for l by bytes ∷ []; tail = entry_end (entry_for l by bytes) })
adds l by bytes left k le =
    let e = entry_for l by bytes in
    let more : (s : Placed) → Among s (committed l.entries) → Among s (committed (l.entries ++ e ∷ [])) = Kept-push l.entries e in
    record {
      kept = record {
        sized = k.sized;
        start_unit = k.start_unit;
        tiles = Tiles-push (term_of l) l.start l.tail l.entries e k.tiles refl (adds_within l by bytes k);
        entries = all_append IsEntry l.entries (e ∷ []) k.entries (adds_entry l by bytes k le, tt);
        readers = each_weaker (Follows (committed l.entries) l.start) (Follows (committed (l.entries ++ e ∷ [])) l.start) (follows_more (committed l.entries) (committed (l.entries ++ e ∷ [])) more l.start) l.readers k.readers;
      };
      more = more;
      identity = refl;
      start = refl;
    }

-- ---- a consumer moves

passes : (l : Log) (which : ℕ) (past : Placed) (r : Consumer) → IsKeptLog l → slice_get l.readers which ≡ Some (Some r) → MayMove (committed l.entries) past r → Grows l (record l { readers = slice_set l.readers which (Some (passed_by r past)) })
passes l which past r k reads m =
    record {
      kept = record {
        sized = k.sized;
        start_unit = k.start_unit;
        tiles = k.tiles;
        entries = k.entries;
        readers = each_set (Follows (committed l.entries) l.start) l.readers which (passed_by r past) (follows_passed (committed l.entries) l.start r past (each_get (Follows (committed l.entries) l.start) l.readers which r reads k.readers) m.among m.here) k.readers;
      };
      more = λ s a. a;
      identity = refl;
      start = refl;
    }

moves : (l : Log) (which : ℕ) (past : Placed) (r : Consumer) → IsKeptLog l → slice_get l.readers which ≡ Some (Some r) → MayMove (committed l.entries) past r → r.lost ≡ false → Grows l (record l { readers = slice_set l.readers which (Some (moved r past)) })
moves l which past r k reads m here =
    record {
      kept = record {
        sized = k.sized;
        start_unit = k.start_unit;
        tiles = k.tiles;
        entries = k.entries;
        readers = each_set (Follows (committed l.entries) l.start) l.readers which (moved r past) (follows_moved (committed l.entries) l.start r past (each_get (Follows (committed l.entries) l.start) l.readers which r reads k.readers) m.among m.here here) k.readers;
      };
      more = λ s a. a;
      identity = refl;
      start = refl;
    }

joins : (l : Log) (which at : ℕ) → IsKeptLog l → IsReached (committed l.entries) l.start at → Grows l (record l { readers = slice_set l.readers which (Some (consumer_at at)) })
joins l which at k p =
    record {
      kept = record {
        sized = k.sized;
        start_unit = k.start_unit;
        tiles = k.tiles;
        entries = k.entries;
        readers = each_set (Follows (committed l.entries) l.start) l.readers which (consumer_at at) (follows_joined (committed l.entries) l.start at p) k.readers;
      };
      more = λ s a. a;
      identity = refl;
      start = refl;
    }

leaves : (l : Log) (which : ℕ) → IsKeptLog l → Grows l (record l { readers = slice_set l.readers which None })
leaves l which k =
    record {
      kept = record { sized = k.sized; start_unit = k.start_unit; tiles = k.tiles; entries = k.entries; readers = each_leave (Follows (committed l.entries) l.start) l.readers which k.readers };
      more = λ s a. a;
      identity = refl;
      start = refl;
    }

same : (l : Log) → IsKeptLog l → Grows l l
same l k = record { kept = k; more = λ s a. a; identity = refl; start = refl }

beside : (l m : Log) → IsKeptLog m → l.entries ≡ m.entries → m.identity ≡ l.identity → m.start ≡ l.start → Grows l m
beside l m k e i s = record { kept = k; more = λ x a. subst (λ es. Among x (committed es)) e a; identity = i; start = s }

pub log_step : (sent_to : List ℕ) (old : Log) (e : LogEvent) (new : Log) → IsKeptLog old → LogStep sent_to old e new → Grows old new
log_step n old Look new k h = subst (λ x. Grows old x) (sym h) (same old k)
log_step n old (Arm by seen) new k h = subst (λ x. Grows old x) (sym h.3) (beside old (record old { armed = slice_set old.armed by true }) k refl refl refl)
log_step n old (Add by bytes) new k h = subst (λ x. Grows old x) (sym h.4) (adds old by bytes (slice_set old.armed by false) k h.0.0)
log_step n old (Miss by) new k h = subst (λ x. Grows old x) (sym h.1) (beside old (record old { armed = slice_set old.armed by false }) k refl refl refl)
log_step n old Store new k h = subst (λ x. Grows old x) (sym h) (same old k)
log_step n old (Commit start f) new k h = subst (λ x. Grows old x) (sym h.1) (commits old start f k h.0)
log_step n old (Abort start) new k h = subst (λ x. Grows old x) (sym h.1) (aborts old start k h.0)
log_step n old Rotate new k h = subst (λ x. Grows old x) (sym h) (same old k)
log_step n old (Clean least) new k h = subst (λ x. Grows old x) (sym h.2) (beside old (record old { cleaned = old.cleaned + 8 }) k refl refl refl)
log_step n old (Raise least) new k h = subst (λ x. Grows old x) (sym h.5) (beside old (record old { limit = max old.limit (least + term_of old / 2) }) k refl refl refl)
log_step n old (Connect on) new k h = subst (λ x. Grows old x) (sym h) (beside old (record old { connected = on }) k refl refl refl)
log_step n old Close new k h = subst (λ x. Grows old x) (sym h) (beside old (record old { closed = true }) k refl refl refl)
log_step n old (Join which at) new k h = subst (λ x. Grows old x) (sym h.4) (joins old which at k h.1)
log_step n old (Leave which) new k h = subst (λ x. Grows old x) (sym h.3) (leaves old which k)
log_step n old (Move which past) new k h = subst (λ x. Grows old x) (sym h.4) (moves old which past h.0 k h.1 h.2 h.3)
log_step n old (Pass which past) new k h = subst (λ x. Grows old x) (sym h.3) (passes old which past h.0 k h.1 h.2)
log_step n old (Retire a b) new k h = subst (λ x. Grows old x) (sym h.4) (retires old a b (slice_set old.retired b true) k h.0.0)
