-- Both logs begin alike.
use Rattle.std.proofs.Common.{◌≡◌, ◌∙◌, ℕ, ◌+◌, ◌-◌, ◌/◌, [], max, min, true, sym, ap, arith}
use Rattle.theory.specs.Bytes.{Identity}
use Rattle.one_hand.specs.Stream.{Stream, cleaned_and_limited, opened, ready}
use Rattle.log_tests.specs.Agreements.{IsSameBut}

pub begin_alike : (i : Identity) (start : ℕ) (plain shared : Stream) → plain ≡ ready i start 0 → shared ≡ cleaned_and_limited (record (opened i start 1) { connected = true }) → IsSameBut plain shared
begin_alike i start plain shared a b =
    ap (λ (s : Stream). record s { consumers = [] }) a
    ∙ (λ j. record (ready i start 0) { consumers = []; limit = sym (raised_is start i.geometry.term_length) j; cleaned = sym (kept_is start i.geometry.term_length) j })
    ∙ sym (ap (λ (s : Stream). record s { consumers = [] }) b)
  where
    raised_is : (s t : ℕ) → max s (min s s + t / 2) ≡ s + t / 2
    raised_is s t = omega arith

    kept_is : (s t : ℕ) → max s (min s s - t) ≡ s
    kept_is s t = omega arith
