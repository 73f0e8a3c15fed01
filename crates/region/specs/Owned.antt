-- What a region and the rights to its bytes own. Each byte is borrowed for the region's lifetime, under a name of its own.
--     write_owns     the borrows of a run of bytes, and their values
--     read_owns      some parts of a round: of its token, and of the right to end it
-- A round r is a lifetime within the region's, for which the bytes are shared. The right to have their borrows back
-- once r has ended lies in an invariant, and who holds all parts of the round's book may take it out.
use Rattle.std.specs.Prelude.{◌≡◌, ℕ, zero, suc, ◌+◌, List, [], ◌∷◌, length, drop}
use mathlib.Core.Bool.{Bool, true, false}
use base.Fraction.{full_share}
use base.FractionLaws.{Counts}
use base.Algebras.{shares}
use base.Fml.{Lft, GName, Share, Fml, ftrue, ffalse, fsep, fex, fall, feq, fwand, flft, fobs, fbor, fobor, flent, finv, fown}
use denote.Builtin.{u8}
use denote.RawPtr.Bytes.{bytes}
use denote.Sharing.{nothing, beside, one, held}
use denote.Slice.{elements_shared}
use Rattle.bytes.specs.Ownership.{cell, closed, opened, lent}
use Rattle.left_right.specs.Parted.{tokens}
use Rattle.region.specs.Identity.{Identity, Round, Stretch}

-- the names of the bytes from the place `at` on
abbrev pub names_from : Identity → ℕ → List GName
names_from i at = drop at i.names

-- Whatever bytes come back, as many as were there, an owner v of them comes with them.
abbrev pub way_back : ℕ → ℕ → ℕ → (V : Type 0) → (V → List ℕ) → (V → Fml) → Fml
way_back n b o V items_of own = fall (List ℕ) (λ xs. fwand (fsep (feq ℕ (length xs) n) (bytes full_share xs b o)) (fex V (λ v. fsep (feq (List ℕ) (items_of v) xs) (own v))))

-- the token of its lifetime, and its bytes once that has ended
abbrev pub region_owns : Identity → Fml
region_owns i = fsep (flft (i.life ∷ []) full_share) (lent i.life i.names i.block i.first)

-- the right to write the bytes xs, from the place `at` on
abbrev pub write_owns : Identity → ℕ → List ℕ → Fml
write_owns i at xs = closed i.life (names_from i at) xs i.block (i.first + at)

-- a round of lifetime r in a region of lifetime l
abbrev pub both : ℕ → ℕ → Lft
both r l = r ∷ l ∷ []

-- the right to have the borrow of each byte back once r has ended
abbrev pub deed : ℕ → ℕ → List GName → List ℕ → ℕ → ℕ → Fml
deed r l gs [] b o = ftrue
deed r l [] (x ∷ xs) b o = ffalse
deed r l (γ ∷ gs) (x ∷ xs) b o = fsep (fsep (flent (both r l) (fbor (l ∷ []) (cell b o γ))) (fobs γ (u8.coded.code x))) (deed r l gs xs b (o + 1))

-- it lies there, or it was taken out by who held the whole of the name
abbrev pub kept : GName → Fml → Bool → Fml
kept y D true = D
kept y D false = fown shares y full_share

abbrev pub safe : GName → Fml → Fml
safe y D = finv (fex Bool (kept y D))

-- k parts in 2 ^ 63 of the name
abbrev pub stake : GName → ℕ → Fml
stake y k = fex Share (λ e. fex (Counts 63 e k) (λ _. fown shares y e))

module _ (r : Round) (i : Identity) (at : ℕ) (xs : List ℕ) where
  -- the bytes, shared for a lifetime
  abbrev pub shown : Lft → Fml
  shown = elements_shared u8 xs i.block (i.first + at)

  abbrev pub deed_of : Fml
  deed_of = deed r.life i.life (names_from i at) xs i.block (i.first + at)

  -- k parts of the round
  abbrev pub parts : ℕ → Fml
  parts k = fsep (fsep (tokens r.life k) (shown (both r.life i.life))) (fsep (stake r.book k) (safe r.book deed_of))

  -- no part is nothing
  abbrev pub read_owns : ℕ → Fml
  read_owns zero = ftrue
  read_owns (suc k) = parts (suc k)

  -- a `&` to some part shows that the round lasts, and the bytes
  abbrev pub read_shares : ℕ → Lft → Fml
  read_shares zero = nothing
  read_shares (suc k) = beside (one (λ q. flft (r.life ∷ []) q)) (held (both r.life i.life) shown)

module _ (s : Stretch) (X : Type 0) (identity_of : X → Identity) (own : X → Fml) where
  -- t is the owner's lifetime and its share of that token, which keeps out a share of the region's, which keeps out the bytes
  abbrev pub held_out : X → ℕ × Share × Share → Fml
  held_out x t =
      fsep (fwand (flft (t.0 ∷ []) t.1) (own x))
      (fsep (fobor (t.0 ∷ []) t.1 (flft (s.identity.life ∷ []) t.2)) (opened s.identity.life t.2 (names_from s.identity s.at) s.len s.identity.block (s.identity.first + s.at)))

  -- what an owner x of the region has while a stretch of it is out as a `Vec`
  abbrev pub loan_owns : Fml
  loan_owns = fex X (λ x. fex (identity_of x ≡ s.identity) (λ _. fex (ℕ × Share × Share) (held_out x)))
