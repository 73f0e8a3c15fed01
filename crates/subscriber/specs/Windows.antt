-- How great a window a subscriber's image has: no more than what a socket's receive buffer is sure to hold.
-- The buffer has the system's 212,992 bytes, of which a quarter may be read already and not be free yet. A datagram takes
-- more of it than its bytes: memory in powers of two, with up to 512 bytes round what was sent, and a record of 256. An eighth
-- of what is left stays for datagrams that aren't full and for what is sent again.
use Rattle.std.specs.Prelude.{◌≡◌, ℕ, ◌+◌, ◌*◌, ◌/◌, max, min, nat_le, if◌then◌else◌}
use Rattle.theory.specs.Position.{IsMtu, IsTermLength}

-- what a datagram of at most so many bytes takes of it
abbrev pub room_of : ℕ → ℕ
room_of mtu =
    if nat_le mtu 512 then 1280
    else if nat_le mtu 1536 then 2304
    else if nat_le mtu 3584 then 4352
    else if nat_le mtu 7680 then 8448
    else if nat_le mtu 15872 then 16640
    else 2 * mtu + 1280

-- how many datagrams of at most so many bytes find room
abbrev pub datagrams_of : ℕ → ℕ
datagrams_of mtu = 139776 / room_of mtu

-- half a term or as much as finds room
abbrev pub whole_window : ℕ → ℕ → ℕ
whole_window term_length mtu = min (term_length / 2) (datagrams_of mtu * mtu)

-- what one of so many images gets of that, in whole units of 32 bytes, but a datagram at the least
abbrev pub window_of : ℕ → ℕ → ℕ → ℕ
window_of share term_length mtu = max mtu (whole_window term_length mtu / max 1 share / 32 * 32)

-- one alone gets all of it
abbrev pub AloneGetsAll : Type 0
AloneGetsAll = (term_length mtu : ℕ) → IsTermLength term_length → IsMtu term_length mtu → window_of 1 term_length mtu ≡ max mtu (whole_window term_length mtu)
