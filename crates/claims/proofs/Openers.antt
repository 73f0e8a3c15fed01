-- The passes of a log that was just opened are its own.
use Rattle.std.proofs.Common.{◌≡◌, ℕ, zero, suc, ◌+◌, ◌<◌, ◌≤◌, List, [], ◌∷◌, All, length, sym, ap, subst, arith}
use Rattle.std.specs.declared.option.Option.{Option}
use Rattle.std.specs.declared.option.Option.TheVariants.{None, Some}
use Rattle.shared_log.specs.Steps.Handles.{IsOf, LogValue, PublisherValue}
use Rattle.shared_log.specs.Handles.{AreNew}
use Rattle.shared_log.specs.Keepers.{KeeperValue}
use Rattle.shared_log.specs.Parts.{AreReaders, IsNewKeeper}
use Rattle.shared_log.specs.Readers.{ReaderValue, known_at, known_of}
use Rattle.shared_log.specs.Joining.{Joins}
use Rattle.claims.specs.Passes.Reading.{IsUnread}

below : (k n : ℕ) → suc k < suc n → k < n
below k n lt = omega arith

none_below : {X : Type 0} (k : ℕ) → k < 0 → X
none_below k lt = absurd (let e : ⊥ = omega arith in e)

pub publishers_fit : (l : LogValue) (n : ℕ) (ps : List PublisherValue) → AreNew l n ps → All (IsOf l) ps
publishers_fit l n [] new k d lt = none_below k lt
publishers_fit l n (p ∷ ps) new zero d lt = new.0.of
publishers_fit l n (p ∷ ps) new (suc k) d lt = publishers_fit l (suc n) ps new.1 k d (below k (length ps) lt)

pub readers_fit : (l : LogValue) (n : ℕ) (rs : List ReaderValue) → AreReaders l n rs → n + length rs ≤ 8 → All (IsUnread l) rs
readers_fit l n [] new few k d lt = none_below k lt
readers_fit l n (r ∷ rs) new few zero d lt = record {
  of = record { of = new.0.held.of; number = subst (λ (m : ℕ). m < 8) (sym new.0.number_is) (omega (arith, few)) };
  nothing = λ j. known_at (new.0.held.pass_is j).reading (new.0.place j);
}
readers_fit l n (r ∷ rs) new few (suc k) d lt = readers_fit l (suc n) rs new.1 (omega (arith, few)) k d (below k (length rs) lt)

abbrev held_in : Option KeeperValue → KeeperValue → KeeperValue
held_in None k = k
held_in (Some x) k = x

pub keeper_fits : (l : LogValue) (x : KeeperValue) → IsNewKeeper l x → (k : KeeperValue) → Some x ≡ Some k → IsOf l k.held
keeper_fits l x new k e = subst (λ (y : KeeperValue). IsOf l y.held) (ap (λ (o : Option KeeperValue). held_in o x) e) new.held.of

pub joined_unread : (l : LogValue) (k : KeeperValue) (r : ReaderValue) (q : KeeperValue) → Joins l k r q → known_of r ≡ []
joined_unread l k r q h = λ j. known_at (h.reader.held.pass_is j).reading (h.reader.place j)
