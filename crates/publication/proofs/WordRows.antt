-- Computed rows: how many frames are stored, what tails say, and a whole claim.
use Rattle.std.proofs.Common.{◌≡◌, ℕ, [], ◌∷◌, refl, lit<, lit≤, arith}
use Rattle.std.specs.Prelude.{false, pos, Err}
use Rattle.theory.specs.Bytes.{Identity}
use Rattle.theory.specs.Position.{Geometry}
use Rattle.publication.specs.declared.pass.ClaimRange.{ClaimRange}
use Rattle.publication.specs.declared.pass.Pass.{Pass}
use Rattle.publication.specs.declared.refusal.Refusal.TheVariants.{BackPressured}
use Rattle.publication.specs.declared.step.WordStep.TheVariants as steps
use Rattle.publication.specs.Steps.{Adds, Arms, Counts, Sees, addition, count_in, message_at, noted, opened, start_in, tail_step, with_armed, with_count, with_limit}
use Rattle.publication.specs.Claims.{Claimed, message_stores, offer_stores}
use Rattle.publication.specs.Orders.{AreInOrder}

abbrev shape : Geometry
shape = record { term_length = 65536; mtu = 1408; initial_term_id = pos 7 }

abbrev stream : Identity
stream = record { geometry = shape; session = pos 1; stream = pos 1001 }

-- tails: at the start, behind 57,184 bytes, in the next term, and in the one before the first
at_start : start_in shape 0x0000000700000000 ≡ 0
at_start = refl

further : start_in shape 0x000000070000df60 ≡ 57184
further = refl

next_term : start_in shape 0x0000000800000020 ≡ 65568
next_term = refl

wrapped : start_in (record { term_length = 65536; mtu = 1408; initial_term_id = pos 2147483647 }) 0x8000000000000000 ≡ 65536
wrapped = refl

unused : count_in shape 0x0000000500000000 ≡ 4294967294
unused = refl

-- ---- a claim of three bytes on a log that was just opened and connected, its limit at half a term

abbrev fresh : Pass
fresh = record {
  identity = stream;
  start = 0;
  number = 0;
  call = [];
  right = record { parts = 1; limit = 0; armed = 0; claims = []; numbers = [] };
  work = record { frames = []; drafts = [] };
  seen = record { count = 0; term = 0; full = 0; begun = 0; shown = 0 };
  reading = [];
  keeping = record { right = 0; limit = 0; cleaned = 0; there = []; positions = []; reads = [] };
}

abbrev seen_limit : Pass
seen_limit = noted (steps.Limit 32769) (with_limit fresh 32769)

abbrev seen_count : Pass
seen_count = noted (steps.Count 0) (with_count seen_limit 0)

abbrev armed : Pass
armed = noted (tail_step seen_count 0x0000000700000000) (with_armed seen_count)

abbrev claimed : Pass
claimed = noted (addition armed 3 0x0000000700000000) (opened armed (message_at armed 0x0000000700000000 3))

-- one store for three bytes, two for what is longer than one frame, and none for what isn't accepted
one_store : message_stores 3 fresh fresh ≡ 1
one_store = refl

two_stores : message_stores 2000 fresh fresh ≡ 2
two_stores = refl

none_refused : offer_stores 2000 (Err BackPressured) fresh fresh ≡ 0
none_refused = refl

sees : Sees fresh 32769 seen_limit
sees = refl

counts : Counts seen_limit 0 seen_count
counts = record { term = record { begun = lit≤ tt; small = lit< tt }; after = refl }

arms : Arms seen_count 0x0000000700000000 armed
arms = record {
  below = λ id room below. refl;
  limited = λ id room reached. absurd (omega (arith, reached));
  used_up = λ id over. absurd (omega (arith, over));
  other = λ other. absurd (other refl);
}

adds : Adds armed 3 0x0000000700000000 claimed
adds = record {
  term = record { begun = lit≤ tt; small = lit< tt };
  unit = refl;
  narrow = lit< tt;
  fits = λ inside. refl;
  trips = λ below over. absurd (omega (arith, over));
  over = λ over. absurd (omega (arith, over));
  behind = λ below. tt;
}

is_claimed : Claimed fresh 3 0 claimed
is_claimed = record {
  limit = 32769;
  count = 0;
  tail = 0x0000000700000000;
  word = 0x0000000700000000;
  call = refl;
  unclosed = refl;
  id = refl;
  room = lit< tt;
  below = lit< tt;
  term = record { begun = lit≤ tt; small = lit< tt };
  inside = lit≤ tt;
  from = refl;
  in_stream = lit≤ tt;
  behind = tt;
  after = refl;
  idle = refl;
}

-- ---- the order of claims: of 0 to 64, of 64 to 96, of 32 to 96, and of 160 to 192

abbrev at : ℕ → ℕ → ClaimRange
at start cut = record { start = start; owner = 0; cuts = cut ∷ []; padding = false }

in_order : AreInOrder (at 0 35 ∷ at 64 32 ∷ at 160 32 ∷ [])
in_order = ((lit≤ tt, (lit≤ tt, tt)), ((lit≤ tt, tt), (tt, tt)))

turned_round : AreInOrder (at 64 32 ∷ at 0 35 ∷ []) → ⊥
turned_round order = let ends = order.0.0 in omega (arith, ends)

begins_inside : AreInOrder (at 0 35 ∷ at 32 35 ∷ []) → ⊥
begins_inside order = let ends = order.0.0 in omega (arith, ends)

below_the_first : AreInOrder (at 64 32 ∷ at 160 32 ∷ at 0 35 ∷ []) → ⊥
below_the_first order = let ends = order.0.1.0 in omega (arith, ends)

-- no addition finds a word that stands below the end of what its pass has claimed
abbrev with_claim : Pass
with_claim = record armed { right = record armed.right { claims = at 0 35 ∷ [] } }

never_below : (w : Pass) → Adds with_claim 3 0x0000000700000020 w → ⊥
never_below w adds = let ends = (adds.behind (lit< tt)).0 in omega (arith, ends)
