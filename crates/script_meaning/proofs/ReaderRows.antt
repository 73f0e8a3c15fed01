-- Since when a reader is there, and which frames it showed since, at a worked example: reader 2 joins at 256, shows one frame, leaves, joins at 512, and shows another.
use Rattle.std.specs.Prelude.{◌≡◌, ◌+◌, List, [], ◌∷◌, Some, None, pos}
use Rattle.std.proofs.Common.{arith, inl, inr, refl}
use Rattle.theory.specs.Position.{Geometry}
use Rattle.theory.specs.Placed.{Pad}
use Rattle.script.specs.Meaning as commands
use Rattle.script_meaning.specs.LineContents.{Bad, FrameData, FramePad, Joined, Left, Position}
use Rattle.script_meaning.specs.Published.{IsThere, Played, ReadTo, covered_by, read, turned_by, turns}

abbrev since_last : List Played
since_last = record { command = commands.Read 2; lines = FramePad 512 64 ∷ [] } ∷ record { command = commands.Join 2; lines = Bad ∷ [] } ∷ record { command = commands.Leave 3; lines = Left ∷ [] } ∷ []

abbrev before_last : List Played
before_last = record { command = commands.Join 2; lines = Joined 256 ∷ [] } ∷ record { command = commands.Read 2; lines = FramePad 256 32 ∷ [] } ∷ record { command = commands.Leave 2; lines = Left ∷ [] } ∷ []

abbrev last_join : Played
last_join = record { command = commands.Join 2; lines = Joined 512 ∷ [] }

abbrev played : List Played
played =
    record { command = commands.Join 2; lines = Joined 256 ∷ [] } ∷ record { command = commands.Read 2; lines = FramePad 256 32 ∷ [] } ∷ record { command = commands.Leave 2; lines = Left ∷ [] }
    ∷ record { command = commands.Join 2; lines = Joined 512 ∷ [] }
    ∷ record { command = commands.Read 2; lines = FramePad 512 64 ∷ [] } ∷ record { command = commands.Join 2; lines = Bad ∷ [] } ∷ record { command = commands.Leave 3; lines = Left ∷ [] } ∷ []

-- it is there since it joined again, and showed one frame since
joined_again : IsThere 0 1 2 512 since_last played
joined_again = record { begun = inr (before_last, last_join, refl, refl); stays = refl }

one_frame : read 2 since_last ≡ Pad 64 ∷ []
one_frame = refl

its_end : 512 + covered_by (read 2 since_last) ≡ 576
its_end = refl

-- all lines of it
its_turns : turns 2 played ≡ Some 256 ∷ None ∷ Some 512 ∷ []
its_turns = refl

-- not since it joined first, which it left
not_since_first : (since : List Played) → since ≡ record { command = commands.Read 2; lines = FramePad 256 32 ∷ [] } ∷ record { command = commands.Leave 2; lines = Left ∷ [] } ∷ last_join ∷ since_last → turns 2 since ≡ [] → ⊥
not_since_first since is e = absurd (cc)

-- what another reader's line says isn't its own
of_another : turned_by 2 (commands.Join 3) (Joined 256 ∷ []) ≡ []
of_another = refl

-- a reader of the log is there from the start, and one that the log doesn't have isn't
of_the_log : IsThere 64 1 1 64 [] []
of_the_log = record { begun = inl (omega arith, omega arith, refl, refl); stays = refl }

-- ---- what it read, of a log with frames of 256 bytes: abc, then two bytes; it joins behind abc

abbrev g : Geometry
g = record { term_length = 65536; mtu = 256; initial_term_id = pos 7 }

abbrev its_lines : List Played
its_lines = record { command = commands.Read 1; lines = FrameData 64 192 (100 ∷ 101 ∷ []) ∷ [] } ∷ []

abbrev whole : List Played
whole =
    record { command = commands.Offer 0 (97 ∷ 98 ∷ 99 ∷ []); lines = Position 64 ∷ [] } ∷ record { command = commands.Join 1; lines = Joined 64 ∷ [] }
    ∷ record { command = commands.Offer 0 (100 ∷ 101 ∷ []); lines = Position 128 ∷ [] } ∷ its_lines

what_it_read : ReadTo g 64 1 its_lines whole
what_it_read = refl

-- from there on, and not from the start, nor beyond what it read
not_from_the_start : ReadTo g 0 1 its_lines whole → ⊥
not_from_the_start e = absurd (cc)

not_beyond : ReadTo g 64 1 [] whole
not_beyond = refl
