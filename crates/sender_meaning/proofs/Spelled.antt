-- A SETUP and a heartbeat of a stream can be spelled.
use Rattle.std.proofs.Common.{◌≡◌, ◌∙◌, ℕ, ◌+◌, ◌/◌, ◌%◌, ◌^◌, ◌<◌, ◌≤◌, true, false, ⊎_elim, ap, arith}
use Rattle.std.specs.Prelude.{nat_le, pos, FitsSigned}
use Rattle.std.specs.Int.{w32, cast_unsigned}
use Rattle.std.proofs.lemmas.Bool.{cases_Bool, cond-true, cond-false}
use mir.ValLaws.{to_z-Fits}
use Rattle.std.proofs.Math.Nat.{mod-lt}
use Rattle.theory.specs.Position.{Geometry, IsGeometry, Place, max_position, place_of}
use Rattle.theory.specs.Bytes.{Identity, IsIdentity, header_at}
use Rattle.theory.specs.Control.{setup_at}
use Rattle.theory.specs.Wire.{IsFrame, IsHeader}
use Rattle.theory.proofs.Places.{mod_unit, power_unit}

place_below : (g : Geometry) (p : ℕ) → IsGeometry g → (place_of g p).offset ≤ g.term_length
place_below g p legal =
    let some : 0 < g.term_length = omega (arith, legal.term.least) in
    let last : Place = record { count = 2147483647; offset = g.term_length } in
    let here : Place = record { count = p / g.term_length; offset = p % g.term_length } in
    ⊎_elim
    (λ (t : nat_le (max_position g) p ≡ true). let same : (place_of g p).offset ≡ g.term_length = ap (λ (x : Place). x.offset) (cond-true (nat_le (max_position g) p) last here t) in omega (arith, same))
    (λ (f : nat_le (max_position g) p ≡ false). let same : (place_of g p).offset ≡ p % g.term_length = ap (λ (x : Place). x.offset) (cond-false (nat_le (max_position g) p) last here f) in omega (arith, same, mod-lt p some))
    (cases_Bool (nat_le (max_position g) p))

place_low : (g : Geometry) (p : ℕ) → IsGeometry g → p % 32 ≡ 0 → ((place_of g p).offset ≤ g.term_length) × ((place_of g p).offset % 32 ≡ 0)
place_low g p legal unit =
    let some : 0 < g.term_length = omega (arith, legal.term.least) in
    let term : g.term_length % 32 ≡ 0 = power_unit g.term_length legal.term.power legal.term.least in
    let last : Place = record { count = 2147483647; offset = g.term_length } in
    let here : Place = record { count = p / g.term_length; offset = p % g.term_length } in
    ⊎_elim
    (λ (t : nat_le (max_position g) p ≡ true). let same : (place_of g p).offset ≡ g.term_length = ap (λ (x : Place). x.offset) (cond-true (nat_le (max_position g) p) last here t) in (omega (arith, same), omega (arith, same, term)))
    (λ (f : nat_le (max_position g) p ≡ false). let same : (place_of g p).offset ≡ p % g.term_length = ap (λ (x : Place). x.offset) (cond-false (nat_le (max_position g) p) last here f) in (omega (arith, same, mod-lt p some), ap (λ x. x % 32) same ∙ mod_unit p g.term_length some term unit))
    (cases_Bool (nat_le (max_position g) p))

small : (n : ℕ) → n < 2147483648 → FitsSigned w32 (pos n)
small n h = record { sfits = omega (arith, h) }

pub setup_framed : (i : Identity) (p : ℕ) → IsGeometry i.geometry → IsIdentity i → IsFrame (setup_at i p)
setup_framed i p legal is =
    let g = i.geometry in
    let offset = place_below g p legal in (
      small (place_of g p).offset (omega (arith, offset, legal.term.greatest)),
      is.session,
      is.stream,
      legal.initial,
      to_z-Fits w32 ((cast_unsigned w32 g.initial_term_id + (place_of g p).count) % 2 ^ 32) (record { fits = omega arith }),
      small g.term_length (omega (arith, legal.term.greatest)),
      small g.mtu (omega (arith, legal.mtu.greatest)),
      small 0 (omega arith),
    )

pub header_framed : (i : Identity) (p : ℕ) → IsGeometry i.geometry → IsIdentity i → p % 32 ≡ 0 → IsHeader (header_at i p)
header_framed i p legal is unit =
    let place = place_low i.geometry p legal unit in
    record {
      unit = place.1;
      low = omega (arith, place.0, legal.term.greatest);
      session = is.session;
      stream = is.stream;
      term_id = to_z-Fits w32 ((cast_unsigned w32 i.geometry.initial_term_id + (place_of i.geometry p).count) % 2 ^ 32) (record { fits = omega arith });
      reserved = record { sfits = omega arith };
    }
