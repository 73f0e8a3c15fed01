-- What the rights own and show names no thread.
use Rattle.std.proofs.Common.{ℕ, zero, suc, ◌+◌, List, [], ◌∷◌, drop}
use mathlib.Core.Bool.{Bool, true, false}
use base.Fraction.{full_share}
use base.Share
use base.Fml.{Lft, GName, Share}
use base.Shift.{Keyless}
use denote.Builtin.{u8}
use denote.RawPtr.Bytes.{bytes}
use denote.Param.Send.{IsSend, IsSync, part_keyless, array_sync, sendable, struct_send, struct_sync, owning_send}
use denote.Struct.Declared as declared
use denote.Struct.Owning.{shape, to}
use Rattle.std.proofs.Crossing.{Vec-send}
use Rattle.bytes.specs.Ownership.{cell, lent, closed, opened}
use Rattle.region.specs.Identity.{Identity, Round}
use Rattle.region.specs.contracts.region.Emptied as Emptied
use Rattle.region.specs.contracts.region.Emptied.TheInside as Inside
use Rattle.region.specs.contracts.region.Region as Region
use Rattle.region.specs.Pooled.{pooled}
use Rattle.region.specs.Owned.{deed, deed_of, kept, read_owns, read_shares, shown}

pub byte_send : IsSend u8
byte_send = search sendable

byte_sync : IsSync u8
byte_sync = search sendable

cell_keyless : (b o : ℕ) (γ : GName) → Keyless (cell b o γ)
cell_keyless b o γ = λ x. (part_keyless u8 byte_send full_share x b o, tt)

-- ---- for each byte
pub bytes_keyless : (xs : List ℕ) (b o : ℕ) → Keyless (bytes full_share xs b o)
bytes_keyless [] b o = tt
bytes_keyless (x ∷ xs) b o = (part_keyless u8 byte_send full_share x b o, bytes_keyless xs b (o + 1))

pub lent_keyless : (l : ℕ) (gs : List GName) (b o : ℕ) → Keyless (lent l gs b o)
lent_keyless l [] b o = tt
lent_keyless l (γ ∷ gs) b o = (cell_keyless b o γ, lent_keyless l gs b (o + 1))

pub closed_keyless : (l : ℕ) (gs : List GName) (xs : List ℕ) (b o : ℕ) → Keyless (closed l gs xs b o)
closed_keyless l [] [] b o = tt
closed_keyless l (γ ∷ gs) [] b o = tt
closed_keyless l [] (x ∷ xs) b o = tt
closed_keyless l (γ ∷ gs) (x ∷ xs) b o = ((cell_keyless b o γ, tt), closed_keyless l gs xs b (o + 1))

pub pooled_keyless : (l b : ℕ) (gs : List GName) (fs : List Bool) (o : ℕ) → Keyless (pooled l b gs fs o)
pooled_keyless l b gs [] o = tt
pooled_keyless l b gs (false ∷ fs) o = pooled_keyless l b (drop 1 gs) fs (o + 1)
pooled_keyless l b gs (true ∷ fs) o = ((λ x. closed_keyless l gs (x ∷ []) b o), pooled_keyless l b (drop 1 gs) fs (o + 1))

pub opened_keyless : (l : ℕ) (q : Share) (gs : List GName) (n b o : ℕ) → Keyless (opened l q gs n b o)
opened_keyless l q [] zero b o = tt
opened_keyless l q (γ ∷ gs) zero b o = tt
opened_keyless l q [] (suc n) b o = tt
opened_keyless l q (γ ∷ gs) (suc n) b o = ((cell_keyless b o γ, λ x. (tt, tt)), opened_keyless l (Share.right q) gs n b (o + 1))

deed_keyless : (a l : ℕ) (gs : List GName) (xs : List ℕ) (b o : ℕ) → Keyless (deed a l gs xs b o)
deed_keyless a l [] [] b o = tt
deed_keyless a l (γ ∷ gs) [] b o = tt
deed_keyless a l [] (x ∷ xs) b o = tt
deed_keyless a l (γ ∷ gs) (x ∷ xs) b o = ((cell_keyless b o γ, tt), deed_keyless a l gs xs b (o + 1))

-- ---- parts of a round
module _ (r : Round) (i : Identity) (at : ℕ) (xs : List ℕ) where
  shown_keyless : (κ : Lft) → Keyless (shown r i at xs κ)
  shown_keyless κ = ((array_sync u8 0 byte_sync).shared xs i.block (i.first + at) κ).1

  kept_keyless : (c : Bool) → Keyless (kept r.book (deed_of r i at xs) c)
  kept_keyless true = deed_keyless r.life i.life _ xs i.block (i.first + at)
  kept_keyless false = tt

  pub read_keyless : (k : ℕ) → Keyless (read_owns r i at xs k)
  read_keyless zero = tt
  read_keyless (suc k) = (((λ e c. tt), shown_keyless _), ((λ e c. tt), kept_keyless))

  pub shares_keyless : (k : ℕ) (κ : Lft) → Keyless (read_shares r i at xs k κ)
  shares_keyless zero κ = tt
  shares_keyless (suc k) κ = ((λ q. tt), shown_keyless _)

-- ---- a region
pub emptied_send : IsSend Emptied.the_row
emptied_send = record {
  owned = λ i vs. ((λ _. tt), λ xs. ((tt, bytes_keyless xs i.block i.first), λ x. (tt, (struct_send (declared.shape Inside.the_type) (Vec-send u8 byte_send, tt)).owned (x.vec, tt) vs)));
  leaving = λ k x w. tt;
}

pub emptied_sync : IsSync Emptied.the_row
emptied_sync = record { shared = λ i b o κ. tt }

pub region_send : IsSend Region.the_row
region_send = owning_send Region.the_type (emptied_send, tt) (λ r. (tt, lent_keyless r.identity.life r.identity.names r.identity.block r.identity.first)) (λ k x w. (tt, tt))

pub region_sync : IsSync Region.the_row
region_sync = record { shared = λ r b o κ. ((struct_sync (shape Region.the_type) (emptied_sync, tt)).shared (to Region.the_type r) b o κ, λ q. tt) }
