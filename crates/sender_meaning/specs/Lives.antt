-- What a log's sender meets, what it reads, and the stream that it sends.
use Rattle.std.specs.Prelude.{◌≡◌, ◌≤◌, ◌%◌, suc, ℕ, ℤ, List, FitsSigned}
use Rattle.std.specs.Int.{w32}
use Rattle.std.specs.List.{AllByRecursion}
use Rattle.theory.specs.Bytes.{IsIdentity, wire_at}
use Rattle.theory.specs.Entry.{committed}
use Rattle.theory.specs.Position.{max_position}
use Rattle.theory.specs.Control.{setup_fields}
use Rattle.theory.specs.Wire.{IsFrame, SETUP, spelling}
use Rattle.frame_source.specs.Sources.{Source}
use Rattle.shared_log.specs.Readers.{misses_of}
use Rattle.shared_log.specs.Sourced.{StaysOn, source_of}
use Rattle.shared_log.specs.declared.reader.source.LogFrames.{LogFrames}
use Rattle.sender.specs.Sending.{HasLooked, Sending}
use Rattle.receiver.specs.Lives.{IsHonest, IsStream, Stream}

-- ---- what it reads, and what it meets

abbrev pub source_in : LogFrames → Source
source_in r = source_of r.log.now r.reader

-- what a call leaves of its reads: the same log and reader
abbrev pub stays_in : LogFrames → LogFrames → Type 0
stays_in r q = StaysOn r.log.now r.reader q.log.now q.reader × (tt {0} ≡ tt {0})

-- between two states of its reads one of its calls looked where it stood, loaded the word there once and found zero, and no frame
-- is known there
abbrev pub looked_in : LogFrames → LogFrames → Type 0
looked_in r q = HasLooked (λ s l t m. StaysOn s.log.now s.reader t.log.now t.reader × (m ≡ l)) (λ s t. misses_of t.reader ≡ suc (misses_of s.reader)) r (tt {0}) q (tt {0})

-- it hears a datagram at a moment, or is told one, and gives these datagrams out
pub data Act : Type 0 where
  Hears : (now : ℕ) (bytes : List ℕ) (given : List (List ℕ)) → Act
  Ticks : (now : ℕ) (given : List (List ℕ)) → Act

-- ---- its stream

-- it sends this stream, from a position of it
pub record SendsStream {F : Type 0} (x : Stream) (s : Sending LogFrames F) : Type 0 where
  pub identity : s.identity ≡ x.identity
  pub unit : s.handler.at % 32 ≡ 0
  pub low : s.handler.at ≤ max_position x.identity.geometry

-- its ids and its committed frames can be spelled
pub record IsSpelled (x : Stream) : Type 0 where
  pub ids : IsIdentity x.identity
  pub frames : AllByRecursion (λ s. IsFrame (wire_at x.identity s.at s.frame)) (committed x.entries)

-- a SETUP that names a position of the stream is honest for it, whatever time to live it tells
abbrev pub SetupsAreHonest : Type 0
SetupsAreHonest = (x : Stream) → IsStream x → IsSpelled x → (p : ℕ) → p ≤ max_position x.identity.geometry → (ttl : ℤ) → FitsSigned w32 ttl → IsHonest x (spelling (SETUP (record (setup_fields x.identity p) { ttl = ttl })))
