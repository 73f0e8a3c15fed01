-- What contracts see of an image that threads share, of its inserter and of its readers.
use Rattle.std.specs.Prelude.{◌≡◌, ℕ, ◌*◌, ◌<◌, List, length, map}
use Rattle.atomic_table.specs.Seated.{TableId}
use Rattle.region.specs.declared.access.RegionKey.{RegionKey}
use Rattle.theory.specs.Placed.{Placed}
use Rattle.image_rule.specs.declared.view.Key.{Key}
use Rattle.image_rule.specs.declared.view.View.{View}
use Rattle.image_rule.specs.Frames.{placed_all}
use Rattle.image_rule.specs.Bits.{IsExact}
use Rattle.image_rule.specs.Rule.{IsKey}

-- which image it is: its table, the region where its frames lie, and how many units its ring has
pub record ImageId : Type 0 where
  pub table : TableId
  pub region : RegionKey
  pub units : ℕ

-- which image it is, and what its table was told: the stream, the unit at which the image joins, and how many consumers it has
pub record ImageWords : Type 0 where
  pub of : ImageId
  pub key : Key

-- of which image it is, what its table was told, and what the inserter knows: all frames that were stored, the floor, the words,
-- and where it saw the consumers
pub record InserterSeat : Type 0 where
  pub of : ImageId
  pub key : Key
  pub view : View

-- of which image it is, what the reader knows: its number, the unit where it stands and the frames that it knows; and the
-- unit where the frame ends that it read there
pub record ReaderSeat : Type 0 where
  pub of : ImageId
  pub view : View
  pub read_to : ℕ

pub record IsStoreOf (image : ImageWords) (n : InserterSeat) : Type 0 where
  pub of : n.of ≡ image.of
  pub key : n.key ≡ image.key

pub record IsReaderOf (image : ImageWords) (r : ReaderSeat) : Type 0 where
  pub of : r.of ≡ image.of

-- what an inserter knows at rest: each bit from the floor on is that of what was stored, and no slot is out
pub record IsInserting (key : Key) (v : View) : Type 0 where
  pub is_key : IsKey key
  pub some : 0 < key.consumers
  pub inserts : v.inserting ≡ 1
  pub seen : length v.seen ≡ key.consumers
  pub looks : length v.looks ≡ key.consumers
  pub exact : IsExact key v.held
  pub idle : v.held.out ≡ 0

-- ---- by positions of the stream

-- the frames that were stored, newest first
abbrev pub stored_by : InserterSeat → List Placed
stored_by n = placed_all n.view.held.got

-- the position below which nothing is held any more
abbrev pub floor_of : InserterSeat → ℕ
floor_of n = 32 * n.view.held.floor

-- where it saw the consumers
abbrev pub seen_by : InserterSeat → List ℕ
seen_by n = map (λ u. 32 * u) n.view.seen

-- the frames that a reader knows, and where it stands
abbrev pub known_by : ReaderSeat → List Placed
known_by r = placed_all r.view.reading.known

abbrev pub position_of : ReaderSeat → ℕ
position_of r = 32 * r.view.reading.unit

-- how often it has looked where it stood and found no frame
abbrev pub misses_of : ReaderSeat → ℕ
misses_of r = r.view.reading.misses
