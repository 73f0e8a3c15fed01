-- What becomes of a receiver's core, told of the receivers that it shows.
use Rattle.std.proofs.Common.{◌≡◌, ℕ, inl, inr, List, [], ◌∷◌, ◌++◌, length, map, arith, ◌%◌, Option, Some, None, refl, sym, ap, ap₂, ◌∙◌, subst, FitsSigned, to_z, of_z, w32}
use Rattle.std.proofs.lemmas.Int.{to_z-of_z}
use Rattle.std.specs.Prelude.{◌↔◌, IsTrue, ℤ, Bool, true, false, max, option_map}
use Rattle.std.specs.Option.{ForSome, option_to_list}
use Rattle.std.proofs.lemmas.List.{length-replicate}
use Rattle.std.proofs.lemmas.Bool.{both_ways, cond-true, cond-false}
use Rattle.theory.specs.Bytes.{Identity}
use Rattle.theory.specs.Position.{Geometry}
use Rattle.theory.specs.Placed.{Frame}
use Rattle.theory.specs.Consumer.{least_of}
use Rattle.theory.specs.Control.{asking_at, named_by, status_at}
use Rattle.theory.specs.Timing.{LastStatus, is_status_due}
use Rattle.frames.specs.Frames.{nak_of, status_of}
use Rattle.theory.specs.Image.{image_at}
use Rattle.theory.specs.Setup.{HasSetupFault, OpensAt}
use Rattle.theory.specs.Wire.{Header, IsHeader, NAK, SM, Setup, Wire}
use Rattle.position.specs.declared.head.FrameHead.{FrameHead}
use Rattle.image.specs.Seen.{IsCount, least}
use Rattle.image.specs.declared.answer.Insert.{Insert}
use Rattle.receiver.specs.declared.receiver_core.Outcome.{Outcome}
use Rattle.receiver.specs.declared.receiver_core.Outcome.TheVariants as outcomes
use Rattle.frames.specs.Datagrams.{IsDatagramFault}
use Rattle.frames.specs.declared.fault.FrameError.{FrameError}
use Rattle.frames.specs.FaultCounts.{counted_at, place_of}
use Rattle.receiver.specs.SetupFaults.{fault_of}
use Rattle.receiver.specs.declared.setup.fault.SetupError.{SetupError}
use Rattle.image.specs.Rebuilding.{Inserting, geometry_of}
use Rattle.receiver.specs.Receiving.{IfOurs, IsOurs, PassesBy, RefusesDatagram, WouldOpen, Meets, MeetsFrame, MeetsHeartbeat, MeetsSetup, Opened, Receiver, asking, at_moment, given_at, is_due, missing, replied, replies, scanned_at, telling, ticked, told_after}
use Rattle.receiver.specs.declared.receiver_core.Replies.{Replies}
use Rattle.receiver.specs.Representing.{Becomes, BecomesSeen, Core, HasNoFrame, HearsBeat, HearsDatagram, ImageLooks, ImageSeesOn, Inserts, IsAtEnd, IsCore, IsForImage, LooksOnce, MeetsEach, PassesFrame, ReadsPast, Represents, RepresentsImage, RepresentsOpened, SeesOn, beaten_at, core_seen_as, image_seen_as, with_reader}
use Rattle.receiver.proofs.Shown.{fresh, least_shown, opened_open, opened_shown}

-- ---- whether there is an image

pub shown_none : (i : Option Inserting) (o : Option Opened) → i ≡ None → RepresentsOpened i o → o ≡ None
shown_none None None e h = refl
shown_none None (Some o) e h = absurd h
shown_none (Some i) o e h = absurd (cc)

-- the image that it shows
pub record HasShown (i : Inserting) (o : Option Opened) : Type 0 where
  pub opened : Opened
  pub is : o ≡ Some opened
  pub shown : RepresentsImage i opened

some_shown : (i j : Inserting) (o : Option Opened) → j ≡ i → RepresentsOpened (Some j) o → HasShown i o
some_shown i j None e h = absurd h
some_shown i j (Some o) e h = record { opened = o; is = refl; shown = subst (λ x. RepresentsImage x o) e h }

pub shown_some : (i : Inserting) (v : Option Inserting) (o : Option Opened) → v ≡ Some i → RepresentsOpened v o → HasShown i o
shown_some i None o e h = absurd (cc)
shown_some i (Some j) o e h = some_shown i j o (cc) h

-- ---- consumers that stand where they were seen

pub sees_same : (o : Option Inserting) → ImageSeesOn o o
sees_same None = tt
sees_same (Some i) = record { of = refl; key = refl; window = refl; undealt = refl; floor = omega arith; all = refl; forward = λ n. omega arith }

seen_same : (o : Option Inserting) → image_seen_as o o ≡ o
seen_same None = refl
seen_same (Some i) = refl

-- an image that stays
pub as_it_was : (v w : Core) → w.image ≡ v.image → core_seen_as v w ≡ v
as_it_was v w same = ap (λ (x : Option Inserting). record v { image = image_seen_as v.image x }) same ∙ ap (λ (x : Option Inserting). record v { image = x }) (seen_same v.image)

-- or that isn't there yet
pub as_none : (v w : Core) → v.image ≡ None → core_seen_as v w ≡ v
as_none v w none = ap (λ (x : Option Inserting). record v { image = image_seen_as x w.image }) none ∙ ap (λ (x : Option Inserting). record v { image = x }) (sym none)

pub stays_seen : (v w : Core) (Step : Receiver → Receiver → Type 0) → w.image ≡ v.image → Becomes v w Step → BecomesSeen v w Step
stays_seen v w Step same f = (subst (ImageSeesOn v.image) (sym same) (sees_same v.image), λ r s. f r (subst (λ (x : Core). Represents x r) (as_it_was v w same) s))

-- nothing changes
pub nothing_seen : (v : Core) (Step : Receiver → Receiver → Type 0) → ((r : Receiver) → Represents v r → Step r r) → BecomesSeen v v Step
nothing_seen v Step f = stays_seen v v Step refl (λ r s. (r, f r s, s))

pub passes_by : (v : Core) → BecomesSeen v v (λ r s. PassesBy r outcomes.Other s)
passes_by v = nothing_seen v (λ r s. PassesBy r outcomes.Other s) (λ r s. (refl, refl))

pub ours : (v : Core) (x y : ℤ) → (x ≡ v.session) × (y ≡ v.stream) → (r : Receiver) → Represents v r → IsOurs r x y
ours v x y same r s = (same.0 ∙ sym (ap (λ (z : Receiver). z.session) s.numbers), same.1 ∙ sym (ap (λ (z : Receiver). z.stream) s.numbers))

pub not_mine : (v : Core) (x y : ℤ) (b : Bool) (Then : Receiver → Receiver → Type 0) → (IsTrue b ↔ ((x ≡ v.session) × (y ≡ v.stream))) → b ≡ false → BecomesSeen v v (λ r s. IfOurs r x y (Then r s) outcomes.Other s)
not_mine v x y b Then said fails =
    let not : (x ≡ v.session) × (y ≡ v.stream) → ⊥ = λ is. both_ways b fails (said.1 is) in
    nothing_seen v (λ r s. IfOurs r x y (Then r s) outcomes.Other s) (λ r s. inr ((λ is. not (is.0 ∙ ap (λ (z : Receiver). z.session) s.numbers, is.1 ∙ ap (λ (z : Receiver). z.stream) s.numbers)), (refl, refl)))

pub of_ours : (v w : Core) (x y : ℤ) (Then : Receiver → Receiver → Type 0) (out : Outcome) → (x ≡ v.session) × (y ≡ v.stream) → BecomesSeen v w Then → BecomesSeen v w (λ r s. IfOurs r x y (Then r s) out s)
of_ours v w x y Then out same f = (f.0, λ r s. (let a = f.1 r s in (a.0, inl (ours (core_seen_as v w) x y same r s, a.1), a.2)))

-- ids as the code has them
pub as_ids : (v : Core) (b : Bool) (s t : ℤ) → FitsSigned w32 s → FitsSigned w32 t → (IsTrue b ↔ ((to_z w32 (of_z w32 s) ≡ v.session) × (to_z w32 (of_z w32 t) ≡ v.stream))) → IsTrue b ↔ ((s ≡ v.session) × (t ≡ v.stream))
as_ids v b s t session stream said = subst (λ (z : ℤ × ℤ). IsTrue b ↔ ((z.0 ≡ v.session) × (z.1 ≡ v.stream))) (λ j. (to_z-of_z w32 s session j, to_z-of_z w32 t stream j)) said

-- the image that it shows, with its consumers as seen
seen_shown : (v w : Core) (i j : Inserting) (r : Receiver) → v.image ≡ Some i → w.image ≡ Some j → Represents (core_seen_as v w) r → HasShown (record i { seen = j.seen }) r.image
seen_shown v w i j r some then s = shown_some (record i { seen = j.seen }) (image_seen_as v.image w.image) r.image (λ k. image_seen_as (some k) (then k)) s.image

-- ---- a frame, a heartbeat, a SETUP

abbrev pub missed : Core → Header → Core
missed v h = record v { unmet = Some h }

abbrev pub imaged : Core → Inserting → Core
imaged v i = record v { image = Some i }

missed_shown : (v : Core) (h : Header) (r : Receiver) → Represents v r → Represents (missed v h) (record r { unmet = Some h })
missed_shown v h r s = record { numbers = ap (λ (x : Receiver). record x { unmet = Some h }) s.numbers; image = s.image }

imaged_shown : (v : Core) (x : Option Inserting) (i : Inserting) (o : Opened) (r : Receiver) → Represents (record v { image = x }) r → RepresentsImage i o → Represents (imaged v i) (record r { image = Some o })
imaged_shown v x i o r s shown = record { numbers = ap (λ (y : Receiver). record y { image = Some o }) s.numbers; image = shown }

pub frame_missed : (v : Core) (h : Header) (f : Frame) → v.image ≡ None → BecomesSeen v (missed v h) (λ r s. MeetsFrame r.image r h f outcomes.Asked s)
frame_missed v h f none = stays_seen v (missed v h) (λ r s. MeetsFrame r.image r h f outcomes.Asked s) refl (λ r s.
    (record r { unmet = Some h }, subst (λ x. MeetsFrame x r h f outcomes.Asked (record r { unmet = Some h })) (sym (shown_none v.image r.image none s.image)) (refl, refl), missed_shown v h r s))

pub frame_met : (v : Core) (i j : Inserting) (h : Header) (f : Frame) (a : Insert) → v.image ≡ Some i → SeesOn i j → Inserts i h f a j → BecomesSeen v (imaged v j) (λ r s. MeetsFrame r.image r h f (outcomes.Inserted a) s)
frame_met v i j h f a some sees inserts = (
  subst (λ x. ImageSeesOn x (Some j)) (sym some) sees,
  λ r s.
      let w = seen_shown v (imaged v j) i j r some refl s in
      let given = given_at w.opened (named_by w.opened.geometry h) f in
      let is = inserts w.opened w.shown in
      (record r { image = Some given }, subst (λ x. MeetsFrame x r h f (outcomes.Inserted a) (record r { image = Some given })) (sym w.is) (a, refl, is.0, refl), imaged_shown v (image_seen_as v.image (Some j)) j given r s is.1),
)

pub beat_missed : (v : Core) (h : Header) → v.image ≡ None → BecomesSeen v (missed v h) (λ r s. MeetsHeartbeat r.image r h outcomes.Asked s)
beat_missed v h none = stays_seen v (missed v h) (λ r s. MeetsHeartbeat r.image r h outcomes.Asked s) refl (λ r s.
    (record r { unmet = Some h }, subst (λ x. MeetsHeartbeat x r h outcomes.Asked (record r { unmet = Some h })) (sym (shown_none v.image r.image none s.image)) (refl, refl), missed_shown v h r s))

pub beat_met : (v : Core) (i j : Inserting) (h : Header) → v.image ≡ Some i → SeesOn i j → HearsBeat i h j → BecomesSeen v (imaged v j) (λ r s. MeetsHeartbeat r.image r h outcomes.Heartbeat s)
beat_met v i j h some sees hears = (
  subst (λ x. ImageSeesOn x (Some j)) (sym some) sees,
  λ r s.
      let w = seen_shown v (imaged v j) i j r some refl s in
      let beaten = beaten_at w.opened h in
      (record r { image = Some beaten }, subst (λ x. MeetsHeartbeat x r h outcomes.Heartbeat (record r { image = Some beaten })) (sym w.is) (refl, refl), imaged_shown v (image_seen_as v.image (Some j)) j beaten r s (hears w.opened w.shown)),
)

pub setup_kept : (v : Core) (f : Setup) (i : Inserting) → v.image ≡ Some i → BecomesSeen v v (λ r s. MeetsSetup r.image r f outcomes.Kept s)
setup_kept v f i some = nothing_seen v (λ r s. MeetsSetup r.image r f outcomes.Kept s) (λ r s. (let w = shown_some i v.image r.image some s.image in subst (λ x. MeetsSetup x r f outcomes.Kept r) (sym w.is) (refl, refl)))

pub setup_refused : (v : Core) (f : Setup) (e : SetupError) → v.image ≡ None → HasSetupFault f v.window (fault_of e) → BecomesSeen v v (λ r s. MeetsSetup r.image r f (outcomes.SetupRefused e) s)
setup_refused v f e none fault = nothing_seen v (λ r s. MeetsSetup r.image r f (outcomes.SetupRefused e) s) (λ r s.
    let width : v.window ≡ r.window = sym (ap (λ (x : Receiver). x.window) s.numbers) in
    subst (λ x. MeetsSetup x r f (outcomes.SetupRefused e) r) (sym (shown_none v.image r.image none s.image)) (inr (e, subst (λ w. HasSetupFault f w (fault_of e)) width fault, refl, refl)))

pub setup_met : (v : Core) (f : Setup) (d : Identity) (p : ℕ) (i : Inserting) → v.image ≡ None → OpensAt f v.window d.geometry p → p % 32 ≡ 0 → i ≡ fresh i d p v.window v.consumers
    → BecomesSeen v (record v { image = Some i; unmet = None }) (λ r s. MeetsSetup r.image r f (outcomes.Opened p) s)
setup_met v f d p i none opens unit is = (
  subst (λ x. ImageSeesOn x (Some i)) (sym none) (subst (λ x. ImageSeesOn None (Some x)) (sym is) (opened_open i d p v.window v.consumers)),
  λ r t.
      let s = subst (λ (x : Core). Represents x r) (as_none v (record v { image = Some i; unmet = None }) none) t in
      let g = d.geometry in
      let width : v.window ≡ r.window = sym (ap (λ (x : Receiver). x.window) s.numbers) in
      let seats : v.consumers ≡ r.consumers = sym (ap (λ (x : Receiver). x.consumers) s.numbers) in
      let o : Opened = record { geometry = g; image = image_at p r.window r.consumers } in
      let shown : RepresentsImage i o = subst (λ x. RepresentsImage x o) (sym (is ∙ ap (λ w. fresh i d p w v.consumers) width ∙ ap (λ n. fresh i d p r.window n) seats)) (opened_shown i d p r.window r.consumers unit) in (
        record r { image = Some o; unmet = None },
        subst (λ x. MeetsSetup x r f (outcomes.Opened p) (record r { image = Some o; unmet = None })) (sym (shown_none v.image r.image none s.image)) (inl (g, p, subst (λ w. OpensAt f w g p) width opens, refl, refl)),
        record { numbers = ap (λ (x : Receiver). record x { image = Some o; unmet = None }) s.numbers; image = shown },
      ),
)

-- ---- reading past a frame

pub none_read : (v : Core) (k : ℕ) → v.image ≡ None → (r : Receiver) → Represents v r → HasNoFrame r.image k
none_read v k none r s = subst (λ x. HasNoFrame x k) (sym (shown_none v.image r.image none s.image)) tt

pub end_read : (v : Core) (i : Inserting) (k : ℕ) → v.image ≡ Some i → ((o : Opened) → RepresentsImage i o → IsAtEnd o k) → (r : Receiver) → Represents v r → HasNoFrame r.image k
end_read v i k some end r s =
    let w = shown_some i v.image r.image some s.image in
    subst (λ x. HasNoFrame x k) (sym w.is) (end w.opened w.shown)

pub frame_read : (v : Core) (i j : Inserting) (k : ℕ) (head : FrameHead) (payload : List ℕ) → v.image ≡ Some i → ((o : Opened) → RepresentsImage i o → ReadsPast o k head payload (RepresentsImage j))
    → (r : Receiver) → Represents v r → PassesFrame r.image r k head payload (imaged v j)
frame_read v i j k head payload some reads r s =
    let w = shown_some i v.image r.image some s.image in
    let h = reads w.opened w.shown in
    subst (λ x. PassesFrame x r k head payload (imaged v j)) (sym w.is) (record { consumer = h.consumer; which = h.which; frame = h.frame; among = h.among; here = h.here; head_is = h.head_is; payload_is = h.payload_is; shown = λ d e. imaged_shown v v.image j (with_reader w.opened k d) r s (h.shown d e) })

-- ---- frames one after the other

pub meets_none : (v : Core) → MeetsEach v [] [] v
meets_none v = (refl, refl)

pub meets_more : (u v w : Core) (ws : List Wire) (outs : List Outcome) (x : Wire) (out : Outcome) → MeetsEach u ws outs v → BecomesSeen v w (λ r s. Meets r x out s) → (IsForImage v x → ImageLooks v.image w.image) → MeetsEach u (ws ++ x ∷ []) (outs ++ out ∷ []) w
meets_more u v w [] outs x out (none, here) m looks = (
  out,
  w,
  [],
  subst (λ (y : Core). BecomesSeen y w (λ r s. Meets r x out s)) here m,
  subst (λ (y : Core). IsForImage y x → ImageLooks y.image w.image) here looks,
  ap (λ (xs : List Outcome). xs ++ out ∷ []) none,
  (refl, refl),
)
meets_more u v w (y ∷ ws) outs x out (o, mid, rest, first, looked, is, all) m looks = (o, mid, rest ++ out ∷ [], first, looked, ap (λ (xs : List Outcome). xs ++ out ∷ []) is, meets_more mid v w ws rest x out all m looks)

-- ---- a moment

pub seen_at : (v : Core) (r : Receiver) (now : ℕ) → Represents v r → Represents (record v { clock = max v.clock now }) (at_moment r now)
seen_at v r now s = record { numbers = ap (λ (x : Receiver). at_moment x now) s.numbers; image = s.image }

due_is : (v : Core) (i : Inserting) (o : Opened) (r : Receiver) → Represents v r → RepresentsImage i o → is_due r o ≡ is_status_due (option_to_list v.told) v.window (least i.seen) v.clock
due_is v i o r s h = ap (λ (x : Receiver). is_due x o) s.numbers ∙ ap (λ p. is_status_due (option_to_list v.told) v.window p v.clock) (sym (least_shown i o h))

pub status_same : {g h : Geometry} {a b c d : ℤ} {p q m n : ℕ} {e f : ℤ} → g ≡ h → a ≡ b → c ≡ d → p ≡ q → m ≡ n → e ≡ f
    → status_at (record { geometry = g; session = a; stream = c }) p m e ≡ status_at (record { geometry = h; session = b; stream = d }) q n f
status_same {g} {h} {a} {b} {c} {d} {p} {q} {m} {n} {e} {f} x y z u v w =
    ap (λ k. status_at (record { geometry = k; session = a; stream = c }) p m e) x ∙ ap (λ k. status_at (record { geometry = h; session = k; stream = c }) p m e) y ∙ ap (λ k. status_at (record { geometry = h; session = b; stream = k }) p m e) z
    ∙ ap (λ k. status_at (record { geometry = h; session = b; stream = d }) k m e) u ∙ ap (λ k. status_at (record { geometry = h; session = b; stream = d }) q k e) v ∙ ap (λ k. status_at (record { geometry = h; session = b; stream = d }) q n k) w

-- there is no image to tell of
pub none_told : (v : Core) → v.image ≡ None → (r : Receiver) → Represents (core_seen_as v v) r → [] ≡ telling r.image r
none_told v none r t =
    let s = subst (λ (x : Core). Represents x r) (as_it_was v v refl) t in
    subst (λ x. [] ≡ telling x r) (sym (shown_none v.image r.image none s.image)) refl

pub none_noted : (v : Core) → v.image ≡ None → (r : Receiver) → Represents (core_seen_as v v) r → Represents v (record r { told = told_after r.image r })
none_noted v none r t =
    let s = subst (λ (x : Core). Represents x r) (as_it_was v v refl) t in
    subst (λ x. Represents v (record r { told = told_after x r })) (sym (shown_none v.image r.image none s.image)) s

-- a status message that isn't due
pub not_told : (v : Core) (i : Inserting) (b : Bool) → v.image ≡ Some i → b ≡ is_status_due (option_to_list v.told) v.window (least i.seen) v.clock → b ≡ false
    → (r : Receiver) → Represents v r → ([] ≡ telling r.image r) × Represents v (record r { told = told_after r.image r })
not_told v i b some is early r s =
    let w = shown_some i v.image r.image some s.image in
    let o = w.opened in
    let due : is_due r o ≡ false = due_is v i o r s w.shown ∙ sym is ∙ early in
    let said : List Wire = status_at (record { geometry = o.geometry; session = r.session; stream = r.stream }) (least_of o.image.consumers) r.window r.id ∷ [] in (
      subst (λ x. [] ≡ telling x r) (sym w.is) (sym (cond-false (is_due r o) said [] due)),
      subst (λ x. Represents v (record r { told = told_after x r })) (sym w.is) (subst (λ x. Represents v (record r { told = x })) (sym (cond-false (is_due r o) (Some (record { now = r.clock; position = least_of o.image.consumers })) r.told due)) s),
    )

-- it said where it stands
abbrev pub told_at : Core → ℕ → Core
told_at v p = record v { told = Some (record { now = v.clock; position = p }) }

-- one that is
pub told_now : (v : Core) (i : Inserting) (b : Bool) (m : Wire) → v.image ≡ Some i → i.window ≡ v.window → b ≡ is_status_due (option_to_list v.told) v.window (least i.seen) v.clock → b ≡ true
    → m ≡ status_at (record { geometry = geometry_of i; session = v.session; stream = v.stream }) (least i.seen) i.window v.id
    → (r : Receiver) → Represents v r → (m ∷ [] ≡ telling r.image r) × Represents (record v { told = Some (record { now = v.clock; position = least i.seen }) }) (record r { told = told_after r.image r })
told_now v i b m some width is now message r s =
    let w = shown_some i v.image r.image some s.image in
    let o = w.opened in
    let due : is_due r o ≡ true = due_is v i o r s w.shown ∙ sym is ∙ now in
    let p = least_of o.image.consumers in
    let same : least i.seen ≡ p = least_shown i o w.shown in
    let said : List Wire = status_at (record { geometry = o.geometry; session = r.session; stream = r.stream }) p r.window r.id ∷ [] in
    let from : m ≡ status_at (record { geometry = o.geometry; session = v.session; stream = v.stream }) p v.window v.id = message ∙ ap (λ g. status_at (record { geometry = g; session = v.session; stream = v.stream }) (least i.seen) i.window v.id) w.shown.geometry ∙ ap (λ q. status_at (record { geometry = o.geometry; session = v.session; stream = v.stream }) q i.window v.id) same ∙ ap (λ n. status_at (record { geometry = o.geometry; session = v.session; stream = v.stream }) p n v.id) width in
    let to : m ≡ status_at (record { geometry = o.geometry; session = r.session; stream = r.stream }) p r.window r.id = from ∙ sym (ap (λ (x : Receiver). status_at (record { geometry = o.geometry; session = x.session; stream = x.stream }) p x.window x.id) s.numbers) in
    let noted_then : Option LastStatus = Some (record { now = r.clock; position = p }) in
    let noted : Some (record { now = v.clock; position = least i.seen }) ≡ noted_then = ap (λ q. Some (record { now = v.clock; position = q })) same ∙ ap (λ (x : Receiver). Some (record { now = x.clock; position = p })) (sym s.numbers) in (
      subst (λ x. m ∷ [] ≡ telling x r) (sym w.is) (ap (λ x. x ∷ []) to ∙ sym (cond-true (is_due r o) said [] due)),
      subst (λ x. Represents (record v { told = Some (record { now = v.clock; position = least i.seen }) }) (record r { told = told_after x r })) (sym w.is)
          (subst (λ x. Represents (record v { told = Some (record { now = v.clock; position = least i.seen }) }) (record r { told = x })) (sym (cond-true (is_due r o) noted_then r.told due))
          (subst (λ x. Represents (record v { told = Some (record { now = v.clock; position = least i.seen }) }) (record r { told = x })) noted
          (record { numbers = ap (λ (x : Receiver). record x { told = Some (record { now = v.clock; position = least i.seen }) }) s.numbers; image = s.image }))),
    )

map_option : {X Y : Type 0} (f : X → Y) (o : Option X) → map f (option_to_list o) ≡ option_to_list (option_map f o)
map_option f None = refl
map_option f (Some x) = refl

-- what a tick gives, and what it leaves
abbrev pub at_tick : Core → ℕ → Core
at_tick v now = record v { clock = max v.clock now; unmet = None }

ticks_from : (v : Core) (r : Receiver) (now : ℕ) → Represents v r → Represents (at_tick v now) (record (at_moment r now) { unmet = None })
ticks_from v r now s = record { numbers = ap (λ (x : Receiver). record (at_moment x now) { unmet = None }) s.numbers; image = s.image }

telling_unmet : (o : Option Opened) (r : Receiver) → telling o (record r { unmet = None }) ≡ telling o r
telling_unmet None r = refl
telling_unmet (Some o) r = refl

missing_kept : (o : Option Opened) (r : Receiver) (t : Option LastStatus) → missing o (record r { unmet = None; told = t }) ≡ missing o r
missing_kept None r t = refl
missing_kept (Some o) r t = refl

-- a receiver that has asked, and one that has told too
abbrev asked_at : Receiver → ℕ → Receiver
asked_at r now = record (at_moment r now) { unmet = None }

abbrev told_then : Receiver → ℕ → Receiver
told_then r now = record (asked_at r now) { told = told_after r.image (asked_at r now) }

ticked_then : (w : Core) (o : Option Opened) (r : Receiver) → Represents w (record r { unmet = None; told = told_after o (record r { unmet = None }); watch = (scanned_at o (record r { unmet = None; told = told_after o (record r { unmet = None }) })).watch })
    → Represents w (record r { unmet = None; told = told_after o r; watch = (scanned_at o r).watch })
ticked_then w None r h = h
ticked_then w (Some o) r h = h

-- one core after the other in a tick: it has asked, told, and scanned
pub record TicksBy (v u w : Core) (now : ℕ) (status : List Wire) (nak : List Wire) : Type 0 where
  pub told : (r : Receiver) → Represents (core_seen_as (at_tick v now) u) r → status ≡ telling r.image r
  pub noted : (r : Receiver) → Represents (core_seen_as (at_tick v now) u) r → Represents u (record r { told = told_after r.image r })
  pub missed : (r : Receiver) → Represents u r → nak ≡ missing r.image r
  pub scanned : (r : Receiver) → Represents u r → Represents w (record r { watch = (scanned_at r.image r).watch })
  pub image : w.image ≡ u.image

ticks_seen : (v u w : Core) (now : ℕ) (r : Receiver) → w.image ≡ u.image → Represents (core_seen_as v w) r → Represents (core_seen_as (at_tick v now) u) (asked_at r now)
ticks_seen v u w now r same s = ticks_from (core_seen_as v u) r now (subst (λ (x : Option Inserting). Represents (record v { image = image_seen_as v.image x }) r) same s)

pub tick_replies : (v u w : Core) (now : ℕ) (out : Replies) → option_map (λ f. SM 128 (status_of f)) out.asking ≡ option_map (λ h. asking_at h v.id) v.unmet
    → TicksBy v u w now (map (λ f. SM 0 (status_of f)) (option_to_list out.status)) (map (λ f. NAK (nak_of f)) (option_to_list out.nak))
    → (r : Receiver) → Represents (core_seen_as v w) r → replied out ≡ replies r now
tick_replies v u w now out asked by r s =
    let asks : map (λ f. SM 128 (status_of f)) (option_to_list out.asking) ≡ asking (at_moment r now) = map_option (λ f. SM 128 (status_of f)) out.asking ∙ ap option_to_list asked ∙ sym (map_option (λ h. asking_at h v.id) v.unmet) ∙ ap (λ (x : Receiver). asking (at_moment x now)) (sym s.numbers) in
    let from = ticks_seen v u w now r by.image s in
    let tells : map (λ f. SM 0 (status_of f)) (option_to_list out.status) ≡ telling r.image (at_moment r now) = by.told (asked_at r now) from ∙ telling_unmet r.image (at_moment r now) in
    let misses : map (λ f. NAK (nak_of f)) (option_to_list out.nak) ≡ missing r.image (at_moment r now) = by.missed (told_then r now) (by.noted (asked_at r now) from) ∙ missing_kept r.image (at_moment r now) (told_after r.image (asked_at r now)) in
    ap₂ (λ (xs ys : List Wire). xs ++ ys) (ap₂ (λ (xs ys : List Wire). xs ++ ys) asks misses) tells

pub tick_state : (v u w : Core) (now : ℕ) (status nak : List Wire) → TicksBy v u w now status nak → (r : Receiver) → Represents (core_seen_as v w) r → Represents w (ticked r now)
tick_state v u w now status nak by r s = ticked_then w r.image (at_moment r now) (by.scanned (told_then r now) (by.noted (asked_at r now) (ticks_seen v u w now r by.image s)))

-- what a look at the consumers leaves
pub looked_at : (v : Core) (i j : Inserting) → v.image ≡ Some i → ((o : Opened) → RepresentsImage (record i { seen = j.seen }) o → RepresentsImage j o) → (r : Receiver) → Represents (record v { image = image_seen_as v.image (Some j) }) r → Represents (imaged v j) r
looked_at v i j some shown r s =
    let h = seen_shown v (imaged v j) i j r some refl s in
    record { numbers = s.numbers; image = subst (RepresentsOpened (Some j)) (sym h.is) (shown h.opened h.shown) }

pub sees_image : (v w : Core) (i j : Inserting) → v.image ≡ Some i → w.image ≡ Some j → SeesOn i j → ImageSeesOn v.image w.image
sees_image v w i j some then sees = subst (λ (x : Option Inserting × Option Inserting). ImageSeesOn x.0 x.1) (λ k. (sym some k, sym then k)) sees

pub looks_image : (v w : Core) (i j : Inserting) → v.image ≡ Some i → w.image ≡ Some j → LooksOnce i j → ImageLooks v.image w.image
looks_image v w i j some then looks = subst (λ (x : Option Inserting × Option Inserting). ImageLooks x.0 x.1) (λ k. (sym some k, sym then k)) looks

pub looks_nowhere : (v w : Core) → v.image ≡ None → ImageLooks v.image w.image
looks_nowhere v w none = subst (λ (x : Option Inserting). ImageLooks x w.image) (sym none) tt

pub not_for_image : (v w : Core) (s t : ℤ) (b : Bool) → FitsSigned w32 s → FitsSigned w32 t → (IsTrue b ↔ ((to_z w32 (of_z w32 s) ≡ v.session) × (to_z w32 (of_z w32 t) ≡ v.stream))) → b ≡ false → (s ≡ v.session) × (t ≡ v.stream) → ImageLooks v.image w.image
not_for_image v w s t b session stream said fails is = absurd (both_ways b fails ((as_ids v b s t session stream said).1 is))

-- ---- what always holds of a core

record HasShape (v w : Core) (j : Inserting) : Type 0 where
  image : w.image ≡ Some j
  width : j.window ≡ v.window
  seats : (j.key.consumers ≡ v.consumers) × (length j.seen ≡ v.consumers)

core_of : (v w : Core) (j : Inserting) → IsCore v → HasShape v w j → w.window ≡ v.window → w.consumers ≡ v.consumers → ForSome w.unmet IsHeader → w.faults ≡ v.faults → IsCore w
core_of v w j is h window consumers unmet faults = record {
  count = subst IsCount (sym consumers) is.count;
  width = λ k e. (let same_some : Some k ≡ Some j = sym e ∙ h.image in let same : k ≡ j = cc in ap (λ (x : Inserting). x.window) same ∙ h.width ∙ sym window);
  seats = λ k e. (let same_some : Some k ≡ Some j = sym e ∙ h.image in let same : k ≡ j = cc in (ap (λ (x : Inserting). x.key.consumers) same ∙ h.seats.0 ∙ sym consumers, ap (λ (x : Inserting). length x.seen) same ∙ h.seats.1 ∙ sym consumers));
  unmet = unmet;
  faults = ap length faults ∙ is.faults;
}

-- with a later state of the image
pub core_on : (v w : Core) (i j : Inserting) → IsCore v → v.image ≡ Some i → SeesOn i j → w.image ≡ Some j → w.window ≡ v.window → w.consumers ≡ v.consumers → w.unmet ≡ v.unmet → w.faults ≡ v.faults → IsCore w
core_on v w i j is some sees then window consumers unmet faults =
    let s = is.seats i some in
    core_of v w j is
    (record { image = then; width = sees.window ∙ is.width i some; seats = ((λ n. (sees.key n).consumers) ∙ s.0, sees.all ∙ s.1) })
    window consumers (subst (λ (x : Option Header). ForSome x IsHeader) (sym unmet) is.unmet) faults

-- whose readers were given away
pub core_left : (v w : Core) (i j : Inserting) → IsCore v → v.image ≡ Some i → j ≡ record i { undealt = j.undealt } → w.image ≡ Some j → w.window ≡ v.window → w.consumers ≡ v.consumers → w.unmet ≡ v.unmet → w.faults ≡ v.faults → IsCore w
core_left v w i j is some left then window consumers unmet faults =
    let s = is.seats i some in
    core_of v w j is
    (record { image = then; width = ap (λ (x : Inserting). x.window) left ∙ is.width i some; seats = (ap (λ (x : Inserting). x.key.consumers) left ∙ s.0, ap (λ (x : Inserting). length x.seen) left ∙ s.1) })
    window consumers (subst (λ (x : Option Header). ForSome x IsHeader) (sym unmet) is.unmet) faults

-- whose one reader has read on
pub core_read : (v w : Core) (i j : Inserting) → IsCore v → v.image ≡ Some i → v.consumers ≡ 1 → j ≡ record i { seen = j.seen } → length j.seen ≡ 1 → w.image ≡ Some j → w.window ≡ v.window → w.consumers ≡ v.consumers → w.unmet ≡ v.unmet → w.faults ≡ v.faults → IsCore w
core_read v w i j is some one shape met then window consumers unmet faults =
    core_of v w j is
    (record { image = then; width = ap (λ (x : Inserting). x.window) shape ∙ is.width i some; seats = (ap (λ (x : Inserting). x.key.consumers) shape ∙ (is.seats i some).0, met ∙ sym one) })
    window consumers (subst (λ (x : Option Header). ForSome x IsHeader) (sym unmet) is.unmet) faults

-- with one that was just opened
pub core_opened : (v w : Core) (d : Identity) (p : ℕ) (j : Inserting) → IsCore v → j ≡ fresh j d p v.window v.consumers → w.image ≡ Some j → w.unmet ≡ None → w.window ≡ v.window → w.consumers ≡ v.consumers → w.faults ≡ v.faults → IsCore w
core_opened v w d p j is e then unmet window consumers faults =
    core_of v w j is
    (record { image = then; width = ap (λ (x : Inserting). x.window) e; seats = (ap (λ (x : Inserting). x.key.consumers) e, ap (λ (x : Inserting). length x.seen) e ∙ length-replicate v.consumers p) })
    window consumers (λ h f. (let no_header : None ≡ Some h = sym unmet ∙ f in absurd (cc))) faults

pub same_sees : (i j : Inserting) → j ≡ i → SeesOn i j
same_sees i j e = subst (SeesOn i) (sym e) (record { of = refl; key = refl; window = refl; undealt = refl; floor = omega arith; all = refl; forward = λ n. omega arith })

-- ---- a datagram

counted_shown : (v : Core) (p : ℕ) (r : Receiver) → Represents v r → Represents (record v { faults = counted_at p v.faults }) (record r { faults = counted_at p r.faults })
counted_shown v p r s = record { numbers = ap (λ (x : Receiver). record x { faults = counted_at p x.faults }) s.numbers; image = s.image }

pub refused_all : (outs : List Outcome) (v u : Core) (now : ℕ) (bytes : List ℕ) (fault : FrameError) → u ≡ record v { clock = max v.clock now; faults = counted_at (place_of fault) v.faults } → IsDatagramFault bytes fault → outs ≡ outcomes.Refused fault ∷ [] → HearsDatagram v now bytes outs u
refused_all outs v u now bytes fault at why is = inr (stays_seen v u (λ r s. RefusesDatagram (at_moment r now) bytes outs s) (ap (λ (x : Core). x.image) at) (λ r s.
    let t = record (at_moment r now) { faults = counted_at (place_of fault) r.faults } in
    (t, (fault, why, is, refl), subst (λ x. Represents x t) (sym at) (counted_shown (record v { clock = max v.clock now }) (place_of fault) (at_moment r now) (seen_at v r now s)))))

-- ---- what needs memory

pub setup_wanted : (v : Core) (f : Setup) (g : Geometry) (p : ℕ) → v.image ≡ None → OpensAt f v.window g p → (r : Receiver) → Represents v r → WouldOpen r.image r f
setup_wanted v f g p none opens r s =
    let width : v.window ≡ r.window = sym (ap (λ (x : Receiver). x.window) s.numbers) in
    subst (λ x. WouldOpen x r f) (sym (shown_none v.image r.image none s.image)) (g, p, subst (λ w. OpensAt f w g p) width opens)
