-- A plain log that was just opened.
use Rattle.std.proofs.Common.{◌≡◌, ℕ, zero, suc, ◌+◌, ◌*◌, ◌/◌, ◌%◌, ◌^◌, ◌<◌, List, [], replicate, None, Some, refl, sym, subst, arith}
use Rattle.std.specs.Prelude.{slice_get}
use Rattle.std.proofs.Math.Nat.{div-lt_iff_lt-mul, div-mul-le_self, lt-div-mul-add, mul_comm}
use Rattle.theory.specs.Bytes.{Identity, IsIdentity}
use Rattle.theory.specs.Position.{IsGeometry, max_position}
use Rattle.log_tests.specs.declared.plain_log.addition.Addition.{Addition}
use Rattle.log_tests.specs.declared.plain_log.addition.PlacedClaim.{PlacedClaim}
use Rattle.log_tests.specs.Plain.{IsPlain, Plain}
use Rattle.one_hand.specs.Stream.{OpenClaim}

none_there : {X : Type 0} (n k : ℕ) (x : X) → slice_get (replicate n None) k ≡ Some (Some x) → ⊥
none_there zero k x e = absurd (cc)
none_there (suc n) zero x e = absurd (cc)
none_there (suc n) (suc k) x e = none_there n k x e

abbrev fresh : Identity → ℕ → ℕ → List Addition → List ℕ → Plain
fresh i start active xs bytes = record { identity = i; start = start; tail = start; active = active; shares = replicate 8 0; additions = xs; bytes = bytes; held = replicate 8 None }

fresh_plain : (i : Identity) (start : ℕ) → IsGeometry i.geometry → IsIdentity i → start % 32 ≡ 0 → start < max_position i.geometry → IsPlain (fresh i start (start / i.geometry.term_length) [] [])
fresh_plain i start g legal unit below =
    let t : ℕ = i.geometry.term_length in let least = g.term.least in let positive : 0 < t = omega (arith, least) in
    let low : start / t < 2 ^ 31 = (div-lt_iff_lt-mul positive).1 (omega (arith, mul_comm t (2 ^ 31), below)) in
    let next : start < start / t * t + t = lt-div-mul-add positive in
    record {
      whole = record {
        legal = record {
          geometry = g;
          identity = legal;
          unit = unit;
          below = below;
          from = div-mul-le_self start t;
          to = (let n : (start / t + 1) * t ≡ start / t * t + t = omega arith in omega (arith, n, next));
          last = low;
          first = start;
          tiles = refl;
          entries = tt;
          eight = refl;
          shares = (let n : start + 0 ≡ start = omega arith in n);
          numbers = refl;
          claims = λ by c e. absurd (none_there {X = OpenClaim} 8 by c e);
          word = omega (arith, unit);
          consumer_units = tt;
          readable = tt;
        };
        begins = refl;
      };
      bound = omega arith;
      within = tt;
      all = refl;
      holds = λ by h e. absurd (none_there {X = PlacedClaim} 8 by h e);
    }

pub opens : (i : Identity) (start active : ℕ) (xs : List Addition) (bytes : List ℕ) → IsGeometry i.geometry → IsIdentity i → start % 32 ≡ 0 → start < max_position i.geometry → active ≡ start / i.geometry.term_length → xs ≡ [] → bytes ≡ [] → IsPlain (fresh i start active xs bytes)
opens i start active xs bytes g legal unit below a b c = subst IsPlain (λ j. fresh i start (sym a j) (sym b j) (sym c j)) (fresh_plain i start g legal unit below)
