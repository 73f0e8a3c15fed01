-- What a tied device passes over, and a publisher's.
use Rattle.std.proofs.Common.{◌≡◌, ◌≤◌, ◌++◌, ℕ, ℤ, pos, negsuc, Bool, false, nat_eq, zero, suc, List, length, take, drop, min, Option, None, Result, Ok, Err, inl, inr, refl, sym, ap, ◌∙◌, subst, arith}
use Rattle.std.specs.Prelude.{IsErrAnd, IsTrue}
use Rattle.std.proofs.lemmas.List.{take-append-drop, take-take}
use Rattle.endpoint.specs.Devices.{Device}
use Rattle.endpoint.specs.declared.datagrams.DeviceFailed.{DeviceFailed}
use Rattle.peer.specs.Ties.{BringsPeers, Came, HandsCame, HandsPeers, IsPassedOver, Listening, PassesMany, PassesOne, PassingIsBounded, SettlesCame, TellsStart, Tied, is_at, is_start}
use Rattle.peer.specs.declared.tied.Awaited.{Awaited}
use Rattle.theory.specs.Wire.{SM, Spells, Status}
use Rattle.peer.specs.Watching.{Finds, PassesMany as PassesFrames, PassesOne as PassesFrame, Screened, Watching, with_none}

-- nothing but its count of what was passed over, and its socket, is another
abbrev pub IsRest : Tied → Tied → Type 0
IsRest old new = new ≡ record old { passed = new.passed; socket = new.socket }

rest_same : (old new : Tied) → new.device ≡ old.device → new.peer ≡ old.peer → new.to ≡ old.to → new.awaited ≡ old.awaited → IsRest old new
rest_same old new d p t a =
    subst (λ x. new ≡ record new { device = old.device; peer = old.peer; to = old.to; awaited = x }) a
    (subst (λ x. new ≡ record new { device = old.device; peer = old.peer; to = x }) t
    (subst (λ x. new ≡ record new { device = old.device; peer = x }) p
    (subst (λ x. new ≡ record new { device = x }) d refl)))

passed_one : (n : ℕ) (old middle new : Tied) → IsPassedOver n old middle → PassesOne middle new → IsPassedOver (suc n) old new
passed_one n old middle new i p = record {
  counted = let counts = ap (λ (t : Tied). t.passed) p.is in let before = i.counted in omega (arith, counts, before);
  few = λ _. let counts = ap (λ (t : Tied). t.passed) p.is in let room = p.room in omega (arith, counts, room);
  same = rest_same old new
      (ap (λ (t : Tied). t.device) p.is ∙ ap (λ (t : Tied). t.device) i.same)
      (ap (λ (t : Tied). t.peer) p.is ∙ ap (λ (t : Tied). t.peer) i.same)
      (ap (λ (t : Tied). t.to) p.is ∙ ap (λ (t : Tied). t.to) i.same)
      (ap (λ (t : Tied). t.awaited) p.is ∙ ap (λ (t : Tied). t.awaited) i.same);
}

pub passed_over : PassingIsBounded
passed_over zero old new m = subst (λ (t : Tied). IsPassedOver zero old t) (sym m) (record { counted = omega arith; few = λ a. absurd (omega (arith, a)); same = refl })
passed_over (suc n) old new m = passed_one n old m.0 new (passed_over n old m.0 m.1) m.2

pub passed_more : (old middle new : Tied) → ((n : ℕ) × PassesMany n old middle) → PassesOne middle new → (n : ℕ) × PassesMany n old new
passed_more old middle new m p = (suc m.0, (middle, m.1, p))

-- what was found and settled is handed over
pub handed : (t s u : Tied) (n : ℕ) (buffer : List ℕ) → BringsPeers t s → SettlesCame s s.socket.came u → u.socket ≡ s.socket → HandsCame u.socket.came n buffer → HandsPeers t n buffer u
handed t s u n buffer b settles socket hands = record {
  from = b.from;
  bytes = b.bytes;
  heard = b.heard;
  settles = subst (λ (x : Tied). SettlesCame x x.socket.came u) b.is settles;
  hands = subst (λ (o : Option Came). HandsCame o n buffer) (ap (λ (l : Listening). l.came) socket ∙ ap (λ (x : Tied). x.socket.came) b.is) hands;
}

-- ---- the start that is waited for

pub stands_at : (position : ℤ) (p start : ℕ) → position ≡ pos p → nat_eq p start ≡ is_at position start
stands_at position p start is = subst (λ x. nat_eq p start ≡ is_at x start) (sym is) refl

pub stands_below : (position : ℤ) (start : ℕ) → ((p : ℕ) → position ≡ pos p → ⊥) → false ≡ is_at position start
stands_below (pos p) start not = absurd (not p refl)
stands_below (negsuc n) start not = refl

pub start_told : (w : Awaited) (bytes : List ℕ) (a : ℕ) (m : Status) (r : Bool) → r ≡ is_start w a m → Spells (SM a m) bytes
    → ((flags : ℕ) (n : Status) → Spells (SM flags n) bytes → (a ≡ flags) × (m ≡ n)) → (IsTrue r → TellsStart w bytes) × (TellsStart w bytes → IsTrue r)
start_told w bytes a m r is spells only = (λ t. record { flags = a; message = m; spelled = spells; start = sym is ∙ t }, λ s. let same = only s.flags s.message s.spelled in is ∙ ap (λ x. is_start w x m) same.0 ∙ ap (λ x. is_start w s.flags x) same.1 ∙ s.start)

-- ---- a publisher's device

pub err_is : {X : Type 0} (r : Result X DeviceFailed) (fault : DeviceFailed) → IsErrAnd r (λ e. e ≡ fault) → r ≡ Err fault
err_is (Ok x) fault h = absurd h
err_is (Err e) fault h = ap Err h

-- a buffer whose first bytes were put back is as it was
pub put_back_same : (size : ℕ) (before after front new : List ℕ) → size ≤ length before → size ≤ 40
    → take (min 40 (length before)) front ≡ take (min 40 (length before)) before
    → drop size after ≡ drop size before → take size new ≡ take size front → drop size new ≡ drop size after → new ≡ before
put_back_same size before after front new within short fronts rest taken dropped =
    let low : size ≤ min 40 (length before) = omega (arith, within, short) in
    let first : take size front ≡ take size before = sym (take-take size (min 40 (length before)) front low) ∙ ap (take size) fronts ∙ take-take size (min 40 (length before)) before low in
    sym (take-append-drop size new)
    ∙ ap (λ x. x ++ drop size new) (taken ∙ first)
    ∙ ap (λ x. take size before ++ x) (dropped ∙ rest)
    ∙ take-append-drop size before

module _ {D : Type 0} (device : D → Device) (tells : D → Type 0) where
  pub found_then : (old middle new : Watching D) (before buffer after : List ℕ) (result : Result (Option ℕ) DeviceFailed)
      → ((n : ℕ) × PassesFrames device tells n before old middle) → buffer ≡ before → Screened device tells middle buffer result after new → Finds device tells old before result after new
  found_then old middle new before buffer after result m b s = record {
    count = m.0;
    middle = middle;
    passes = m.1;
    ends = inl (subst (λ x. Screened device tells middle x result after new) b s);
  }

  pub found_enough : (old middle new : Watching D) (before after : List ℕ)
      → ((n : ℕ) × PassesFrames device tells n before old middle) → 256 ≤ middle.watch.passed → new ≡ record middle { watch = with_none middle.watch } → Finds device tells old before (Ok None) after new
  found_enough old middle new before after m many is = record {
    count = m.0;
    middle = middle;
    passes = m.1;
    ends = inr (record { many = many; none = refl; is = is });
  }

  pub passed_on : (old middle new : Watching D) (before buffer : List ℕ)
      → ((n : ℕ) × PassesFrames device tells n before old middle) → buffer ≡ before → PassesFrame device tells buffer middle new → (n : ℕ) × PassesFrames device tells n before old new
  passed_on old middle new before buffer m b p = (suc m.0, (middle, m.1, subst (λ x. PassesFrame device tells x middle new) b p))
