-- Each committed frame is one of the grammar.
use Rattle.std.proofs.Common.{◌≡◌, ℕ, ◌+◌, ◌-◌, ◌*◌, ◌/◌, ◌%◌, ◌^◌, ◌<◌, ◌≤◌, inl, inr, ⊎_elim, List, [], ◌∷◌, ◌++◌, map, Bool, true, false, cond, not, refl, sym, ap, ◌∙◌, subst, arith}
use Rattle.std.specs.List.{AllByRecursion}
use Rattle.std.specs.Prelude.{nat_le, nat_eq, ⊤}
use Rattle.std.specs.Int.{w32, cast_unsigned}
use Rattle.std.proofs.lemmas.Bool.{cases_Bool}
use Rattle.std.proofs.lemmas.Nat.{same_from_place, div-add-mod'}
use mir.ValLaws.{to_z-Fits}
use Rattle.theory.specs.Position.{Geometry, IsGeometry, aligned, max_position, max_message, cuts_of, span, place_of}
use Rattle.theory.specs.Wire.{IsHeader, IsFrame, IsDataFlags}
use Rattle.theory.specs.Placed.{Frame, Data, Pad, frame_length, payload_of, Placed, covered, end_of, Among, place_all}
use Rattle.theory.specs.Entry.{Entry, IsEntry, HaveFrames, ArePieces, ArePadding, IsPiece, IsPadFrame, flags_of, entry_end, committed}
use Rattle.theory.specs.Tiling.{Tiles, handed}
use Rattle.theory.specs.Bytes.{Identity, IsIdentity, header_at, wire_at}
use Rattle.model.specs.Log.{Log, LogStep, LogEvent, Look, Arm, Add, Miss, Store, Commit, Abort, Rotate, Clean, Raise, Connect, Close, Join, Leave, Move, Pass, Retire, with_frame, aborted_at, entry_for, room}
use Rattle.model.specs.World.{IsOpened, World, Event, AtLog, AtSender, AtImage, Open, Step, Run}
use Rattle.model.specs.Headline.{Always, AreMessageCuts, IsPublished, ArePublished, AreSpelled}
use Rattle.theory.proofs.Lists.{all_at, all_weaker, all_append, all_map}
use Rattle.theory.proofs.Frames.{pieces_cut, padding_cut}
use Rattle.model.proofs.LogSteps.{IsKeptLog, room_unit, room_long}
use Rattle.theory.proofs.Places.{mod_unit, offset_is, term_ends}
use Rattle.theory.proofs.Cuts.{span_unit, cut_short, cut_units}
use Rattle.model.proofs.WorldSteps.{KeptWorld, step, opened}

abbrev IsPayload : Frame → Type 0
IsPayload f = AllByRecursion (λ b. b < 256) (payload_of f)

abbrev IsShort : Bool → ℕ → List ℕ → Type 0
IsShort true mtu cuts = ⊤
IsShort false mtu cuts = AllByRecursion (λ cut. cut ≤ mtu) cuts

pub record IsWired (g : Geometry) (e : Entry) : Type 0 where
  pub low : e.start < max_position g
  pub units : AllByRecursion (λ cut. 32 ≤ cut) e.cuts
  pub message : AreMessageCuts e.padding g e.cuts
  pub bytes : AllByRecursion IsPayload e.frames

-- ---- what each event keeps

short_of : (padding : Bool) (g : Geometry) (cuts : List ℕ) → 256 ≤ g.mtu → AreMessageCuts padding g cuts → IsShort padding g.mtu cuts
short_of true g cuts l m = tt
short_of false g cuts l m = subst (λ x. AllByRecursion (λ cut. cut ≤ g.mtu) x) (sym m.2) (cut_short g m.0 l)

wired_for : (l : Log) (by bytes : ℕ) → IsGeometry l.identity.geometry → IsKeptLog l → l.tail < max_position l.identity.geometry → bytes ≤ max_message l.identity.geometry → IsWired l.identity.geometry (entry_for l by bytes)
wired_for l by bytes g k low le =
    let cuts = cuts_of l.identity.geometry bytes in
    let fits = nat_le (span cuts) (room l) in
    let large : 32 ≤ room l = omega (arith, room_unit l k, room_long l k) in
    record {
      low = low;
      units = ⊎_elim
          (λ (t : fits ≡ true). subst (λ b. AllByRecursion (λ cut. 32 ≤ cut) (cond b cuts (room l ∷ []))) (sym t) (cut_units l.identity.geometry bytes (omega (arith, g.mtu.least))))
          (λ (f : fits ≡ false). subst (λ b. AllByRecursion (λ cut. 32 ≤ cut) (cond b cuts (room l ∷ []))) (sym f) (large, tt))
          (cases_Bool fits);
      message = ⊎_elim
          (λ (t : fits ≡ true). let whole : AreMessageCuts false l.identity.geometry cuts = (bytes, le, refl) in subst (λ b. AreMessageCuts (not b) l.identity.geometry (cond b cuts (room l ∷ []))) (sym t) whole)
          (λ (f : fits ≡ false). subst (λ b. AreMessageCuts (not b) l.identity.geometry (cond b cuts (room l ∷ []))) (sym f) tt)
          (cases_Bool fits);
      bytes = tt;
    }

pads_payload : (cuts : List ℕ) → AllByRecursion IsPayload (map Pad cuts)
pads_payload [] = tt
pads_payload (cut ∷ cuts) = (tt, pads_payload cuts)

wired_commit : (g : Geometry) (start : ℕ) (f : Frame) (e : Entry) → IsPayload f → IsWired g e → IsWired g (with_frame start f e)
wired_commit g start f e p w = record {
  low = w.low;
  units = w.units;
  message = w.message;
  bytes = ⊎_elim
      (λ (t : nat_eq e.start start ≡ true). subst (λ b. AllByRecursion IsPayload (cond b (e.frames ++ f ∷ []) e.frames)) (sym t) (all_append IsPayload e.frames (f ∷ []) w.bytes (p, tt)))
      (λ (n : nat_eq e.start start ≡ false). subst (λ b. AllByRecursion IsPayload (cond b (e.frames ++ f ∷ []) e.frames)) (sym n) w.bytes)
      (cases_Bool (nat_eq e.start start));
}

wired_abort : (g : Geometry) (start : ℕ) (e : Entry) → IsWired g e → IsWired g (aborted_at start e)
wired_abort g start e w = record {
  low = w.low;
  units = w.units;
  message = ⊎_elim
      (λ (t : nat_eq e.start start ≡ true). subst (λ b. AreMessageCuts (cond b true e.padding) g e.cuts) (sym t) tt)
      (λ (n : nat_eq e.start start ≡ false). subst (λ b. AreMessageCuts (cond b true e.padding) g e.cuts) (sym n) w.message)
      (cases_Bool (nat_eq e.start start));
  bytes = ⊎_elim
      (λ (t : nat_eq e.start start ≡ true). subst (λ b. AllByRecursion IsPayload (cond b (map Pad e.cuts) e.frames)) (sym t) (pads_payload e.cuts))
      (λ (n : nat_eq e.start start ≡ false). subst (λ b. AllByRecursion IsPayload (cond b (map Pad e.cuts) e.frames)) (sym n) w.bytes)
      (cases_Bool (nat_eq e.start start));
}

pub record KeptWire (i : Identity) (es : List Entry) : Type 0 where
  pub geometry : IsGeometry i.geometry
  pub identity : IsIdentity i
  pub wired : AllByRecursion (IsWired i.geometry) es

abbrev IsKeptWire : Log → Type 0
IsKeptWire l = KeptWire l.identity l.entries

wire_step : (n : List ℕ) (old : Log) (e : LogEvent) (new : Log) → IsKeptLog old → IsKeptWire old → LogStep n old e new → IsKeptWire new
wire_step n old Look new k w h = subst IsKeptWire (sym h) w
wire_step n old (Arm by seen) new k w h = subst IsKeptWire (sym h.3) w
wire_step n old (Add by bytes) new k w h = subst IsKeptWire (sym h.4) (record { geometry = w.geometry; identity = w.identity; wired = all_append (IsWired old.identity.geometry) old.entries (entry_for old by bytes ∷ []) w.wired (wired_for old by bytes w.geometry k h.3 h.2, tt) })
wire_step n old (Miss by) new k w h = subst IsKeptWire (sym h.1) w
wire_step n old Store new k w h = subst IsKeptWire (sym h) w
wire_step n old (Commit start f) new k w h = subst IsKeptWire (sym h.1) (record { geometry = w.geometry; identity = w.identity; wired = all_map (IsWired old.identity.geometry) (with_frame start f) old.entries (λ e _ x. wired_commit old.identity.geometry start f e h.0.bytes x) w.wired })
wire_step n old (Abort start) new k w h = subst IsKeptWire (sym h.1) (record { geometry = w.geometry; identity = w.identity; wired = all_map (IsWired old.identity.geometry) (aborted_at start) old.entries (λ e _ x. wired_abort old.identity.geometry start e x) w.wired })
wire_step n old Rotate new k w h = subst IsKeptWire (sym h) w
wire_step n old (Clean least) new k w h = subst IsKeptWire (sym h.2) w
wire_step n old (Raise least) new k w h = subst IsKeptWire (sym h.5) w
wire_step n old (Connect on) new k w h = subst IsKeptWire (sym h) w
wire_step n old Close new k w h = subst IsKeptWire (sym h) w
wire_step n old (Join which at) new k w h = subst IsKeptWire (sym h.4) w
wire_step n old (Leave which) new k w h = subst IsKeptWire (sym h.3) w
wire_step n old (Move which past) new k w h = subst IsKeptWire (sym h.4) w
wire_step n old (Pass which past) new k w h = subst IsKeptWire (sym h.3) w
wire_step n old (Retire a b) new k w h = subst IsKeptWire (sym h.4) (record { geometry = w.geometry; identity = w.identity; wired = all_map (IsWired old.identity.geometry) (handed a b) old.entries (λ e _ x. record { low = x.low; units = x.units; message = x.message; bytes = x.bytes }) w.wired })

-- ---- a frame in its place

-- what lies in one term keeps its offset below the term's end
in_term : (t low p n : ℕ) → 0 < t → low ≤ p → p < low / t * t + t → p + n ≤ low / t * t + t → p % t + n ≤ t
in_term t low p n long l u end =
    let parts : p / t * t + p % t ≡ p = div-add-mod' p t in
    let base : low / t * t + low % t ≡ low = div-add-mod' low t in
    let split : p ≡ low / t * t + (p - low / t * t) = omega arith in
    let same = same_from_place (p / t) (p % t) (low / t) (p - low / t * t) t (omega arith) (omega arith) (parts ∙ split) in
    omega (arith, same.1)

spells : (i : Identity) (s : Placed) → (i.geometry.term_length ≤ 16777216) → IsIdentity i → (place_of i.geometry s.at).offset % 32 ≡ 0 → (place_of i.geometry s.at).offset + covered s ≤ 16777216 → IsHeader (header_at i s.at)
spells i s t is unit end = record {
  unit = unit;
  low = omega arith;
  session = is.session;
  stream = is.stream;
  term_id = to_z-Fits w32 ((cast_unsigned w32 i.geometry.initial_term_id + (place_of i.geometry s.at).count) % 2 ^ 32) (record { fits = omega arith });
  reserved = record { sfits = omega arith };
}

flags_are : (first : Bool) (cuts : List ℕ) → IsDataFlags (flags_of first cuts)
flags_are true [] = inr (inr (inr refl))
flags_are false [] = inr (inl refl)
flags_are true (cut ∷ cuts) = inr (inr (inl refl))
flags_are false (cut ∷ cuts) = inl refl

-- the frame is of the grammar, where its header is
piece_framed : (i : Identity) (p : ℕ) (f : Frame) (flags cut : ℕ) → IsPiece cut flags f → IsDataFlags flags → cut ≤ 65504 → IsPayload f → IsHeader (header_at i p) → (place_of i.geometry p).offset + aligned (frame_length f) ≤ 16777216 → IsFrame (wire_at i p f)
piece_framed i p (Data g payload) flags cut h d l b header end = (header, subst IsDataFlags (sym h.0) d, omega (arith, h.1), end, b)
piece_framed i p (Pad n) flags cut h d l b header end = absurd h

pad_framed : (i : Identity) (p : ℕ) (f : Frame) (cut : ℕ) → IsPadFrame cut f → 32 ≤ cut → IsHeader (header_at i p) → (place_of i.geometry p).offset + aligned (frame_length f) ≤ 16777216 → IsFrame (wire_at i p f)
pad_framed i p (Data g payload) cut h l header end = absurd h
pad_framed i p (Pad n) cut h l header end = (header, omega (arith, h), end)

-- what a frame in one term has
record IsPlaced (i : Identity) (s : Placed) : Type 0 where
  header : IsHeader (header_at i s.at)
  end : (place_of i.geometry s.at).offset + covered s ≤ 16777216

placed_frame : (i : Identity) (low : ℕ) (s : Placed) → IsGeometry i.geometry → i.geometry.term_length % 32 ≡ 0 → IsIdentity i → low < max_position i.geometry → low ≤ s.at → s.at % 32 ≡ 0 → 0 < covered s → end_of s ≤ low / i.geometry.term_length * i.geometry.term_length + i.geometry.term_length → IsPlaced i s
placed_frame i low s g tu is l from unit long end =
    let t = i.geometry.term_length in
    let positive : 0 < t = omega (arith, g.term.least) in
    let most : t ≤ 16777216 = g.term.greatest in
    let last : low / t * t + t ≤ max_position i.geometry = term_ends low t positive l in
    let offset : (place_of i.geometry s.at).offset ≡ s.at % t = offset_is i.geometry s.at (omega arith) in
    let within : s.at % t + covered s ≤ t = in_term t low s.at (covered s) positive from (omega arith) end in
    let units : (s.at % t) % 32 ≡ 0 = mod_unit s.at t positive tu unit in
    let ends : (place_of i.geometry s.at).offset + covered s ≤ 16777216 = omega arith in
    record { header = spells i s most is (ap (λ x. x % 32) offset ∙ units) ends; end = ends }

module _ (i : Identity) (low : ℕ) (g : IsGeometry i.geometry) (tu : i.geometry.term_length % 32 ≡ 0) (is : IsIdentity i) (l : low < max_position i.geometry) where
  pieces_framed : (first : Bool) (x : ℕ) (cuts : List ℕ) (fs : List Frame) → ArePieces first cuts fs → AllByRecursion (λ cut. 32 ≤ cut) cuts → AllByRecursion (λ cut. cut ≤ i.geometry.mtu) cuts → AllByRecursion IsPayload fs → low ≤ x → x % 32 ≡ 0 → x + span cuts ≤ low / i.geometry.term_length * i.geometry.term_length + i.geometry.term_length → AllByRecursion (λ s. IsFrame (wire_at i s.at s.frame)) (place_all x fs)
  pieces_framed first x cuts [] h u m b from unit end = tt
  pieces_framed first x [] (f ∷ fs) h u m b from unit end = absurd h
  pieces_framed first x (cut ∷ cuts) (f ∷ fs) h u m b from unit end =
      let lengths : aligned (frame_length f) ≡ aligned cut = ap aligned (pieces_cut first (cut ∷ cuts) (f ∷ fs) h).0 in
      let large : 32 ≤ cut = u.0 in
      let placed : IsPlaced i (record { at = x; frame = f }) = placed_frame i low (record { at = x; frame = f }) g tu is l from unit (omega arith) (omega arith) in (
        piece_framed i x f (flags_of first cuts) cut h.0 (flags_are first cuts) (omega (arith, m.0, g.mtu.greatest)) b.0 placed.header placed.end,
        pieces_framed false (x + aligned (frame_length f)) cuts fs h.1 u.1 m.1 b.1 (omega arith) (omega arith) (omega arith),
      )

  padding_framed : (x : ℕ) (cuts : List ℕ) (fs : List Frame) → ArePadding cuts fs → AllByRecursion (λ cut. 32 ≤ cut) cuts → low ≤ x → x % 32 ≡ 0 → x + span cuts ≤ low / i.geometry.term_length * i.geometry.term_length + i.geometry.term_length → AllByRecursion (λ s. IsFrame (wire_at i s.at s.frame)) (place_all x fs)
  padding_framed x cuts [] h u from unit end = tt
  padding_framed x [] (f ∷ fs) h u from unit end = absurd h
  padding_framed x (cut ∷ (more ∷ cuts)) (f ∷ fs) h u from unit end = absurd h
  padding_framed x (cut ∷ []) (f ∷ (k ∷ fs)) h u from unit end = absurd h
  padding_framed x (cut ∷ []) (f ∷ []) h u from unit end =
      let lengths : aligned (frame_length f) ≡ aligned cut = ap aligned (padding_cut (cut ∷ []) (f ∷ []) h).0 in
      let large : 32 ≤ cut = u.0 in
      let placed : IsPlaced i (record { at = x; frame = f }) = placed_frame i low (record { at = x; frame = f }) g tu is l from unit (omega arith) (omega arith) in
      (pad_framed i x f cut h u.0 placed.header placed.end, tt)

  have_framed : (padding : Bool) (x : ℕ) (cuts : List ℕ) (fs : List Frame) → HaveFrames padding cuts fs → AllByRecursion (λ cut. 32 ≤ cut) cuts → IsShort padding i.geometry.mtu cuts → AllByRecursion IsPayload fs → low ≤ x → x % 32 ≡ 0 → x + span cuts ≤ low / i.geometry.term_length * i.geometry.term_length + i.geometry.term_length → AllByRecursion (λ s. IsFrame (wire_at i s.at s.frame)) (place_all x fs)
  have_framed true x cuts fs h u m b from unit end = padding_framed x cuts fs h u from unit end
  have_framed false x cuts fs h u m b from unit end = pieces_framed true x cuts fs h u m b from unit end

pub committed_framed : (i : Identity) → IsGeometry i.geometry → i.geometry.term_length % 32 ≡ 0 → IsIdentity i → (p tail : ℕ) (es : List Entry) → p % 32 ≡ 0 → Tiles i.geometry.term_length p tail es → AllByRecursion IsEntry es → AllByRecursion (IsWired i.geometry) es → AllByRecursion (λ s. IsFrame (wire_at i s.at s.frame)) (committed es)
committed_framed i g tu is p tail [] unit t k w = tt
committed_framed i g tu is p tail (e ∷ es) unit t k w =
    let start : e.start ≡ p = t.0 in
    let within : entry_end e ≤ e.start / i.geometry.term_length * i.geometry.term_length + i.geometry.term_length = subst (λ x. entry_end e ≤ x / i.geometry.term_length * i.geometry.term_length + i.geometry.term_length) (sym start) t.1 in
    all_append (λ s. IsFrame (wire_at i s.at s.frame)) (place_all e.start e.frames) (committed es)
    (have_framed i e.start g tu is w.0.low e.padding e.start e.cuts e.frames k.0.frames w.0.units (short_of e.padding i.geometry e.cuts g.mtu.least w.0.message) w.0.bytes (omega arith) (omega arith) within)
    (committed_framed i g tu is (entry_end e) tail es (omega (arith, span_unit e.cuts)) t.2 k.1 w.1)

wire_after : (old : World) (e : Event) (new : World) → KeptWorld old → IsKeptWire old.log → Step old e new → IsKeptWire new.log
wire_after old (AtLog e) new k r h = subst (λ (w : World). IsKeptWire w.log) (sym h.2) (wire_step (old.sender.at ∷ []) old.log e h.0 k.log r h.1)
wire_after old (AtSender e) new k r h = subst (λ (w : World). IsKeptWire w.log) (sym h.2) r
wire_after old (AtImage which e) new k r h = subst (λ (w : World). IsKeptWire w.log) (sym h.4) r
wire_after old (Open which join window consumers) new k r h = subst (λ (w : World). IsKeptWire w.log) (sym h.5) r

-- both are kept by every run
pub every_wire : (events : List Event) (old new : World) → KeptWorld old → IsKeptWire old.log → Run old events new → KeptWorld new × IsKeptWire new.log
every_wire [] old new k r h = (subst KeptWorld (sym h) k, subst (λ (w : World). IsKeptWire w.log) (sym h) r)
every_wire (e ∷ es) old new k r h = every_wire es h.0 new (step old e h.0 k h.1) (wire_after old e h.0 k r h.1) h.2

pub opened_wire : (w : World) → IsOpened w → IsKeptWire w.log
opened_wire w o = record { geometry = o.geometry; identity = o.identity; wired = subst (AllByRecursion (IsWired w.log.identity.geometry)) (sym o.entries) tt }

-- each entry is a message or a padding
pub published : Always ArePublished
published = λ w v events o run.
    let both = every_wire events w v (opened w o) (opened_wire w o) run in
    entries v.log.identity.geometry v.log.entries both.0.log.entries both.1.wired
  where
    entries : (g : Geometry) (es : List Entry) → AllByRecursion IsEntry es → AllByRecursion (IsWired g) es → AllByRecursion (IsPublished g) es
    entries g [] k w = tt
    entries g (e ∷ es) k w = (record { entry = k.0; below = w.0.low; large = w.0.units; message = w.0.message }, entries g es k.1 w.1)

pub sent_spelled : Always AreSpelled
sent_spelled = λ w v events o run.
    let both = every_wire events w v (opened w o) (opened_wire w o) run in
    let framed = committed_framed v.log.identity both.1.geometry both.0.log.sized.term_unit both.1.identity v.log.start v.log.tail v.log.entries both.0.log.start_unit both.0.log.tiles both.0.log.entries both.1.wired in
    all_weaker (λ s. Among s (committed v.log.entries)) (λ s. IsFrame (wire_at v.log.identity s.at s.frame)) (λ s a. all_at (λ x. IsFrame (wire_at v.log.identity x.at x.frame)) s (committed v.log.entries) framed a) v.sender.sent both.0.sender.sent
