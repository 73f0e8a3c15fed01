-- How often each fault came, from `F1` to `F8`.
use Rattle.std.specs.Prelude.{ℕ, ◌+◌, ◌-◌, ◌^◌, ◌++◌, min, List, [], ◌∷◌, flat_map, codes, decimal, slice_index, slice_set}
use Rattle.frames.specs.declared.fault.FrameError.{FrameError}
use Rattle.frames.specs.declared.fault.FrameError.TheVariants.{Short, Version, Kind, Length, Flags, Alignment, Range, Datagram}
use Rattle.frames.specs.declared.fault_counts.FaultCounts.{FaultCounts}

-- nothing was refused
abbrev pub none_refused : List ℕ
none_refused = 0 ∷ 0 ∷ 0 ∷ 0 ∷ 0 ∷ 0 ∷ 0 ∷ 0 ∷ []

-- the place of a fault among the eight
abbrev pub place_of : FrameError → ℕ
place_of Short = 0
place_of Version = 1
place_of Kind = 2
place_of Length = 3
place_of Flags = 4
place_of Alignment = 5
place_of Range = 6
place_of Datagram = 7

-- one more at a place; at the greatest of 64 bits it stays
abbrev pub counted_at : ℕ → List ℕ → List ℕ
counted_at place counts = slice_set counts place (min (slice_index counts place + 1) (2 ^ 64 - 1))

abbrev pub uncounted : FaultCounts
uncounted = record { counts = none_refused }

-- one more of this fault
abbrev pub counting : FaultCounts → FrameError → FaultCounts
counting c fault = record { counts = counted_at (place_of fault) c.counts }

-- the counts as a user reads them, each behind its fault's name
abbrev pub counts_text : List ℕ → List ℕ
counts_text counts = flat_map (λ part. part) (
    codes " short " ∷ decimal (slice_index counts 0) ∷ codes " version " ∷ decimal (slice_index counts 1)
    ∷ codes " type " ∷ decimal (slice_index counts 2) ∷ codes " length " ∷ decimal (slice_index counts 3)
    ∷ codes " flags " ∷ decimal (slice_index counts 4) ∷ codes " alignment " ∷ decimal (slice_index counts 5)
    ∷ codes " range " ∷ decimal (slice_index counts 6) ∷ codes " datagram " ∷ decimal (slice_index counts 7) ∷ [])
