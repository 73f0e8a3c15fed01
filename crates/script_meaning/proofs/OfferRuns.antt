-- An offer or a claim as events of the log: a publisher is armed and adds one entry, and a message's frames are committed one by one.
use Rattle.std.proofs.Common.{◌≡◌, ℕ, zero, suc, ◌+◌, ◌-◌, ◌*◌, ◌%◌, ◌^◌, ◌<◌, ◌≤◌, inl, List, [], ◌∷◌, ◌++◌, map, length, Bool, true, false, cond, Option, not, refl, sym, ap, ◌∙◌, subst, arith, append-nil, append_assoc}
use Rattle.std.specs.Prelude.{Some, nat_eq, nat_le, replicate, slice_get, slice_set}
use Rattle.std.specs.List.{AllByRecursion}
use Rattle.std.proofs.lemmas.Bool.{cond-true, cond-false, eq-eqb, leb-false, ne_eqb, not_from_true}
use Rattle.std.proofs.lemmas.List.{map-append, set-set}
use Rattle.std.proofs.Math.Nat.{mul-le-mul_right}
use Rattle.std.proofs.lemmas.Nat.{mod-mul-add}
use Rattle.theory.specs.Position.{Geometry, IsGeometry, aligned, cuts_of, framed_length, max_message, max_payload, max_position, span}
use Rattle.theory.specs.Placed.{Frame, Pad}
use Rattle.theory.specs.Consumer.{Consumer}
use Rattle.theory.specs.Entry.{Entry, IsEntry, entry_end, pieces_of}
use Rattle.model.specs.Headline.{IsPublished}
use Rattle.theory.specs.Tiling.{Tiles}
use Rattle.model.specs.Log as model
use Rattle.model.specs.Log.{Add, Arm, Commit}
use Rattle.model.specs.Log.{LogEvent, LogStep, MayCommit, entry_for, with_frame}
use Rattle.model.specs.World.{World}
use Rattle.model.specs.World.{AtLog}
use Rattle.theory.proofs.Claims.{covers_framed}
use Rattle.theory.proofs.Frames.{tiles_le}
use Rattle.theory.proofs.Lists.{among_right}
use Rattle.theory.proofs.Places.{term_ends}
use Rattle.theory.proofs.Tables.{get_put}
use Rattle.one_hand.specs.Legal.{IsStream}
use Rattle.one_hand.specs.Stream.{Fits, IsClosed, IsLimited, IsUsedUp, OfferCase, Stream, Trips, case_of, covered, room, term_of, turned}
use Rattle.script_meaning.specs.ScriptState.{ScriptState, model_log, world_of}
use Rattle.model.proofs.Commits.{AreBytes, HaveAll, have_pieces, pieces_are, pieces_bytes}
use Rattle.script_meaning.proofs.Runs.{Goes, goes_one, goes_on, stays}

-- ---- what an offer knows that takes an entry

abbrev taking : Bool → OfferCase
taking true = Fits
taking false = Trips

taken_only : (closed used full fits b : Bool) → cond closed IsClosed (cond used IsUsedUp (cond full IsLimited (cond fits Fits Trips))) ≡ taking b → (used ≡ false) × (full ≡ false) × (fits ≡ b)
taken_only true used full fits true e = absurd (cc)
taken_only true used full fits false e = absurd (cc)
taken_only false true full fits true e = absurd (cc)
taken_only false true full fits false e = absurd (cc)
taken_only false false true fits true e = absurd (cc)
taken_only false false true fits false e = absurd (cc)
taken_only false false false true true e = (refl, refl, refl)
taken_only false false false false true e = absurd (cc)
taken_only false false false true false e = absurd (cc)
taken_only false false false false false e = (refl, refl, refl)

-- the active term has room, and the tail is below the limit
pub record IsTaken (l : Stream) (size : ℕ) (fits : Bool) : Type 0 where
  pub some : 0 < room l
  pub below : l.tail < l.limit
  pub fitting : nat_le (covered l size) (room l) ≡ fits

some_room : (n : ℕ) → nat_eq n 0 ≡ false → 0 < n
some_room zero e = absurd (cc)
some_room (suc n) e = omega arith

taken : (l : Stream) (size : ℕ) (fits : Bool) → case_of l size ≡ taking fits → IsTaken l size fits
taken l size fits e =
    let parts = taken_only l.closed (nat_eq (room l) 0) (nat_le l.limit l.tail) (nat_le (covered l size) (room l)) fits e in
    record { some = some_room (room l) parts.0; below = leb-false l.limit l.tail parts.1; fitting = parts.2 }

-- ---- the entry

-- the room of the model's log is what the active term has left
room_is : (past : List Entry) (readers : List (Option Consumer)) (l : Stream) → IsStream l → 0 < room l → model.room (model_log past readers l) ≡ room l
room_is past readers l h some =
    let t = term_of l in
    let used = l.tail - l.active * t in
    let tail : l.tail ≡ l.active * t + used = omega (arith, h.from) in
    let rest : l.tail % t ≡ used = ap (λ n. n % t) tail ∙ mod-mul-add l.active t used (omega (arith, tail, some)) in
    ap (λ n. t - n) rest ∙ omega (arith, tail)

tail_below : (l : Stream) → IsStream l → 0 < room l → l.tail < max_position l.identity.geometry
tail_below l h some =
    let t = term_of l in
    let more : (l.active + 1) * t ≤ 2 ^ 31 * t = mul-le-mul_right t (omega (arith, h.last)) in
    omega (arith, more, some)

-- what holds of the log of a run, with the entries that it has forgotten
pub record LogHolds (past : List Entry) (l : Stream) : Type 0 where
  pub geometry : IsGeometry l.identity.geometry
  pub start : l.start < max_position l.identity.geometry
  pub tiles : Tiles l.identity.geometry.term_length l.start l.tail (past ++ l.entries)
  pub entries : AllByRecursion IsEntry (past ++ l.entries)
  pub published : AllByRecursion (IsPublished l.identity.geometry) (past ++ l.entries)

starts_below : (term start tail : ℕ) (es : List Entry) → Tiles term start tail es → AllByRecursion IsEntry es → AllByRecursion (λ e. e.start < tail) es
starts_below term start tail [] h all = tt
starts_below term start tail (e ∷ es) h all = (omega (arith, all.0.long, tiles_le term (entry_end e) tail es h.2), starts_below term (entry_end e) tail es h.2 all.1)

others_stay : (tail : ℕ) (f : Frame) (es : List Entry) → AllByRecursion (λ e. e.start < tail) es → map (with_frame tail f) es ≡ es
others_stay tail f [] h = refl
others_stay tail f (e ∷ es) h =
    let other : nat_eq e.start tail ≡ false = ne_eqb e.start tail (λ (same : e.start ≡ tail). omega (arith, same, h.0)) in
    ap (λ x. x ∷ map (with_frame tail f) es) (ap (λ fs. record e { frames = fs }) (cond-false (nat_eq e.start tail) (e.frames ++ f ∷ []) e.frames other))
    ∙ ap (λ xs. e ∷ xs) (others_stay tail f es h.1)

pub message_short : (g : Geometry) (n : ℕ) → IsGeometry g → n ≤ max_payload g → n ≤ max_message g
message_short g n legal short = omega (arith, short, legal.mtu.within, legal.mtu.greatest)

-- every entry ends within the stream
pub tail_in_stream : (g : Geometry) (p tail : ℕ) (es : List Entry) → 0 < g.term_length → p ≤ max_position g → Tiles g.term_length p tail es → AllByRecursion (IsPublished g) es → tail ≤ max_position g
tail_in_stream g p tail [] some low tiles all = omega (arith, low, tiles)
tail_in_stream g p tail (e ∷ es) some low tiles all =
    let start : p < g.term_length * 2 ^ 31 = omega (arith, all.0.below, tiles.0) in
    tail_in_stream g (entry_end e) tail es some (omega (arith, tiles.1, term_ends p g.term_length some start)) tiles.2 all.1

abbrev pub open_entry : ℕ → ℕ → Bool → List ℕ → List Frame → Entry
open_entry start by padding cuts frames = record { start = start; owner = by; padding = padding; cuts = cuts; frames = frames }

-- what an offer or a claim adds
pub record TakesOne (past : List Entry) (readers : List (Option Consumer)) (l : Stream) (by size : ℕ) (padding : Bool) (cuts : List ℕ) : Type 0 where
  pub publisher : by < 8
  pub short : size ≤ max_message l.identity.geometry
  pub within : l.tail < max_position l.identity.geometry
  pub below : l.tail < l.limit
  pub entry : entry_for (model_log past readers l) by size ≡ open_entry l.tail by padding cuts []

same_entry : (start by : ℕ) (a b : Bool) (xs ys : List ℕ) → a ≡ b → xs ≡ ys → open_entry start by a xs [] ≡ open_entry start by b ys []
same_entry start by a b xs ys e f = ap (λ p. open_entry start by p xs []) e ∙ ap (λ zs. open_entry start by b zs []) f

tested : (past : List Entry) (readers : List (Option Consumer)) (l : Stream) (size : ℕ) (fits : Bool) → IsStream l → IsTaken l size fits → nat_le (span (cuts_of l.identity.geometry size)) (model.room (model_log past readers l)) ≡ fits
tested past readers l size fits h k =
    ap (λ n. nat_le n (model.room (model_log past readers l))) (covers_framed l.identity.geometry size h.geometry) ∙ ap (λ n. nat_le (covered l size) n) (room_is past readers l h k.some) ∙ k.fitting

pub fits_one : (past : List Entry) (readers : List (Option Consumer)) (l : Stream) (by size : ℕ) → IsStream l → by < 8 → size ≤ max_message l.identity.geometry → case_of l size ≡ Fits → TakesOne past readers l by size false (cuts_of l.identity.geometry size)
fits_one past readers l by size h who short e =
    let k = taken l size true e in
    let t = tested past readers l size true h k in
    let cuts = cuts_of l.identity.geometry size in
    let left = model.room (model_log past readers l) in
    record {
      publisher = who;
      short = short;
      within = tail_below l h k.some;
      below = k.below;
      entry = same_entry l.tail by (not (nat_le (span cuts) left)) false (cond (nat_le (span cuts) left) cuts (left ∷ [])) cuts
          (not_from_true (nat_le (span cuts) left) t)
          (cond-true (nat_le (span cuts) left) cuts (left ∷ []) t);
    }

pub trips_one : (past : List Entry) (readers : List (Option Consumer)) (l : Stream) (by size : ℕ) → IsStream l → by < 8 → size ≤ max_message l.identity.geometry → case_of l size ≡ Trips → TakesOne past readers l by size true (room l ∷ [])
trips_one past readers l by size h who short e =
    let k = taken l size false e in
    let t = tested past readers l size false h k in
    let cuts = cuts_of l.identity.geometry size in
    let left = model.room (model_log past readers l) in
    record {
      publisher = who;
      short = short;
      within = tail_below l h k.some;
      below = k.below;
      entry = same_entry l.tail by (not (nat_le (span cuts) left)) true (cond (nat_le (span cuts) left) cuts (left ∷ [])) (room l ∷ [])
          (ap not t)
          (cond-false (nat_le (span cuts) left) cuts (left ∷ []) t ∙ ap (λ x. x ∷ []) (room_is past readers l h k.some));
    }

-- ---- the events

-- no publisher is armed between two lines
abbrev at_rest : List Bool
at_rest = replicate 8 false

abbrev armed_by : ℕ → List Bool
armed_by by = slice_set at_rest by true

still_rest : (by : ℕ) → by < 8 → slice_set at_rest by false ≡ at_rest
still_rest by low = set_same 8 by
  where
    set_same : (n k : ℕ) → slice_set (replicate n false) k false ≡ replicate n false
    set_same zero k = refl
    set_same (suc n) zero = refl
    set_same (suc n) (suc k) = ap (λ xs. false ∷ xs) (set_same n k)

disarms : (by : ℕ) → by < 8 → slice_set (armed_by by) by false ≡ at_rest
disarms by low = set-set at_rest by true false ∙ still_rest by low

abbrev armed_stream : List Entry → List (Option Consumer) → Stream → ℕ → model.Log
armed_stream past readers l by = record (model_log past readers l) { armed = armed_by by }

-- the log with one entry more
abbrev pub added_stream : List Entry → List (Option Consumer) → Stream → Entry → ℕ → model.Log
added_stream past readers l e to = record (model_log past readers l) { entries = past ++ (l.entries ++ e ∷ []); tail = to }

same_added : (l : model.Log) (a b : List Bool) (xs ys : List Entry) (p q : ℕ) → a ≡ b → xs ≡ ys → p ≡ q → record l { armed = a; entries = xs; tail = p } ≡ record l { armed = b; entries = ys; tail = q }
same_added l a b xs ys p q e f g =
    ap (λ z. record l { armed = z; entries = xs; tail = p }) e
    ∙ ap (λ z. record l { armed = b; entries = z; tail = p }) f
    ∙ ap (λ z. record l { armed = b; entries = ys; tail = z }) g

pub at_log : (w : World) (e : LogEvent) (l : model.Log) → LogStep (w.sender.at ∷ []) w.log e l → Goes w (record w { log = l })
at_log w e l step = goes_one w (record w { log = l }) (AtLog e) (l, step, refl)

-- no script retires a publisher
all_false : (n k : ℕ) → k < n → slice_get (replicate n false) k ≡ Some false
all_false zero k l = absurd (omega arith)
all_false (suc n) zero l = refl
all_false (suc n) (suc k) l = all_false n k (omega arith)

living : (by : ℕ) → by < 8 → (by < 8) × (slice_get (replicate 8 false) by ≡ Some false)
living by low = (low, all_false 8 by low)

arms : (past : List Entry) (readers : List (Option Consumer)) (l : Stream) (by size : ℕ) (padding : Bool) (cuts : List ℕ) → TakesOne past readers l by size padding cuts → (others : List ℕ) → LogStep others (model_log past readers l) (Arm by l.limit) (armed_stream past readers l by)
arms past readers l by size padding cuts h others = (living by h.publisher, omega arith, h.below, refl)

adds : (past : List Entry) (readers : List (Option Consumer)) (l : Stream) (by size : ℕ) (padding : Bool) (cuts : List ℕ) (to : ℕ) → TakesOne past readers l by size padding cuts → to ≡ l.tail + span cuts → (others : List ℕ) → LogStep others (armed_stream past readers l by) (Add by size) (added_stream past readers l (open_entry l.tail by padding cuts []) to)
adds past readers l by size padding cuts to h is others =
    let armed = armed_stream past readers l by in
    let claim = open_entry l.tail by padding cuts [] in
    let new = entry_for armed by size in
    let ends : to ≡ entry_end new = is ∙ sym (ap entry_end h.entry) in
    let all = past ++ l.entries in (
      living by h.publisher,
      get_put at_rest by true (omega (arith, h.publisher)),
      h.short,
      h.within,
      same_added (model_log past readers l) at_rest (slice_set (armed_by by) by false) (past ++ (l.entries ++ claim ∷ [])) (all ++ new ∷ []) to (entry_end new)
          (sym (disarms by h.publisher)) (sym (append_assoc past l.entries (claim ∷ [])) ∙ ap (λ e. all ++ e ∷ []) (sym h.entry)) ends,
    )

-- a claim that stays open
pub claims : (s : ScriptState) (by size : ℕ) (padding : Bool) (cuts : List ℕ) (to : ℕ) → TakesOne s.past s.readers s.log by size padding cuts → to ≡ s.log.tail + span cuts → Goes (world_of s) (record (world_of s) { log = added_stream s.past s.readers s.log (open_entry s.log.tail by padding cuts []) to })
claims s by size padding cuts to h is =
    let w = world_of s in
    let others = s.sender.at ∷ [] in
    let arm = armed_stream s.past s.readers s.log by in
    let done = added_stream s.past s.readers s.log (open_entry s.log.tail by padding cuts []) to in
    goes_on w (record w { log = arm }) (record w { log = done })
    (at_log w (Arm by s.log.limit) arm (arms s.past s.readers s.log by size padding cuts h others))
    (at_log (record w { log = arm }) (Add by size) done (adds s.past s.readers s.log by size padding cuts to h is others))

abbrev with_entries : World → List Entry → World
with_entries w es = record w { log = record w.log { entries = es } }

pub frame_put : (start by : ℕ) (padding : Bool) (cuts : List ℕ) (done : List Frame) (f : Frame) → with_frame start f (open_entry start by padding cuts done) ≡ open_entry start by padding cuts (done ++ f ∷ [])
frame_put start by padding cuts done f = ap (λ fs. open_entry start by padding cuts fs) (cond-true (nat_eq start start) (done ++ f ∷ []) done (eq-eqb start start refl))

-- the frames of the last entry, one by one
commits : (w : World) (all : List Entry) (start by : ℕ) (padding : Bool) (cuts : List ℕ) (done more : List Frame) → AllByRecursion (λ e. e.start < start) all → HaveAll padding cuts done more → Goes (with_entries w (all ++ open_entry start by padding cuts done ∷ [])) (with_entries w (all ++ open_entry start by padding cuts (done ++ more) ∷ []))
commits w all start by padding cuts done [] low h =
    stays (with_entries w (all ++ open_entry start by padding cuts done ∷ [])) (with_entries w (all ++ open_entry start by padding cuts (done ++ []) ∷ [])) (ap (λ fs. with_entries w (all ++ open_entry start by padding cuts fs ∷ [])) (append-nil done))
commits w all start by padding cuts done (f ∷ fs) low h =
    let before = open_entry start by padding cuts done in
    let after = open_entry start by padding cuts (done ++ f ∷ []) in
    let old = with_entries w (all ++ before ∷ []) in
    let mid = with_entries w (all ++ after ∷ []) in
    let mapped : map (with_frame start f) (all ++ before ∷ []) ≡ all ++ after ∷ [] =
    map-append (with_frame start f) all (before ∷ [])
    ∙ ap (λ xs. xs ++ with_frame start f before ∷ []) (others_stay start f all low)
    ∙ ap (λ e. all ++ e ∷ []) (frame_put start by padding cuts done f) in
    let step : LogStep (w.sender.at ∷ []) old.log (Commit start f) mid.log = (
      record {
        entry = before;
        among = among_right before all (before ∷ []) (inl refl);
        here = refl;
        frames = h.0.0;
        bytes = h.0.1;
      },
      ap (λ xs. record w.log { entries = xs }) (sym mapped),
    ) in
    goes_on old mid (with_entries w (all ++ open_entry start by padding cuts (done ++ f ∷ fs) ∷ []))
    (at_log old (Commit start f) mid.log step)
    (subst (λ xs. Goes mid (with_entries w (all ++ open_entry start by padding cuts xs ∷ []))) (append_assoc done (f ∷ []) fs) (commits w all start by padding cuts (done ++ f ∷ []) fs low h.1))

-- and of one that was just added
pub takes : (s : ScriptState) (by size : ℕ) (padding : Bool) (cuts : List ℕ) (frames : List Frame) (to : ℕ) → LogHolds s.past s.log → TakesOne s.past s.readers s.log by size padding cuts → HaveAll padding cuts [] frames → to ≡ s.log.tail + span cuts → Goes (world_of s) (record (world_of s) { log = added_stream s.past s.readers s.log (open_entry s.log.tail by padding cuts frames) to })
takes s by size padding cuts frames to h k fill is =
    let w = world_of s in
    let all = s.past ++ s.log.entries in
    let open_claim = open_entry s.log.tail by padding cuts [] in
    let full = open_entry s.log.tail by padding cuts frames in
    let claimed = record w { log = added_stream s.past s.readers s.log open_claim to } in
    let done = record w { log = added_stream s.past s.readers s.log full to } in
    let low = starts_below s.log.identity.geometry.term_length s.log.start s.log.tail all h.tiles h.entries in
    goes_on w claimed done (claims s by size padding cuts to k is)
    (subst (λ es. Goes (with_entries claimed es) (with_entries claimed (s.past ++ (s.log.entries ++ full ∷ [])))) (append_assoc s.past s.log.entries (open_claim ∷ []))
    (subst (λ es. Goes (with_entries claimed (all ++ open_claim ∷ [])) (with_entries claimed es)) (append_assoc s.past s.log.entries (full ∷ []))
    (commits claimed all s.log.tail by padding cuts [] frames low fill)))

-- a message that is committed whole
pub offers : (s : ScriptState) (by : ℕ) (m : List ℕ) (to : ℕ) → LogHolds s.past s.log → TakesOne s.past s.readers s.log by (length m) false (cuts_of s.log.identity.geometry (length m)) → AreBytes m → to ≡ s.log.tail + framed_length s.log.identity.geometry (length m) → Goes (world_of s) (record (world_of s) { log = added_stream s.past s.readers s.log (open_entry s.log.tail by false (cuts_of s.log.identity.geometry (length m)) (pieces_of true (cuts_of s.log.identity.geometry (length m)) m)) to })
offers s by m to h k bytes is =
    let g = s.log.identity.geometry in
    let cuts = cuts_of g (length m) in
    let frames = pieces_of true cuts m in
    takes s by (length m) false cuts frames to h k (have_pieces cuts [] frames (pieces_are g m h.geometry) (pieces_bytes true cuts m bytes)) (omega (arith, is, covers_framed g (length m) h.geometry))

-- a padding
pub trips : (s : ScriptState) (by size n to : ℕ) → LogHolds s.past s.log → TakesOne s.past s.readers s.log by size true (n ∷ []) → to ≡ s.log.tail + aligned n → Goes (world_of s) (record (world_of s) { log = added_stream s.past s.readers s.log (open_entry s.log.tail by true (n ∷ []) (Pad n ∷ [])) to })
trips s by size n to h k is = takes s by size true (n ∷ []) (Pad n ∷ []) to h k ((refl, tt), tt) (omega (arith, is))

-- ---- the next term's turn

-- it is nothing that the entries, the consumers or the shares show
pub turned_same : {X : Type 0} (f : Stream → X) → ((l : Stream) (active : ℕ) → f (record l { active = active }) ≡ f l) → (l : Stream) → f (turned l) ≡ f l
turned_same f blind l = by_case (nat_eq l.active (2 ^ 31 - 1))
  where
    by_case : (last : Bool) → f (cond last l (record l { active = l.active + 1 })) ≡ f l
    by_case true = refl
    by_case false = blind l (l.active + 1)
