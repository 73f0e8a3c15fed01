-- The stream of a log that was closed with all its passes, by what its publishers have claimed.
use Rattle.std.specs.Prelude.{◌≡◌, ◌≤◌, ◌<◌, ℕ, ⊤, Bool, not, ◌&&◌, List, [], ◌∷◌, ◌++◌, length, map, slice_index}
use Rattle.std.specs.List.{AllByRecursion, filter, flat_map}
use Rattle.theory.specs.Bytes.{Identity}
use Rattle.theory.specs.Entry.{Entry, IsEntry, committed, entry_end}
use Rattle.theory.specs.Messages.{is_whole, message_of, messages}
use Rattle.theory.specs.Placed.{AllAmong, Data, Frame, Pad}
use Rattle.theory.specs.Position.{IsGeometry, max_position}
use Rattle.theory.specs.Tiling.{Tiles, share_of}
use Rattle.publication.specs.declared.pass.FrameWords.{FrameWords}
use Rattle.publication.specs.Frames.{frames_at}
use Rattle.shared_log.specs.Steps.Handles.{LogValue, PublisherValue}
use Rattle.log_rule.specs.Claims.Rule.{entries_of}
use Rattle.shared_log.specs.declared.book.Book.{Book}
use Rattle.shared_log.specs.Books.{IsCommittedBy, ShowsBook, committed_of}
use Rattle.shared_log.specs.Readers.{known_of}
use Rattle.shared_log.specs.Sourced.{placed}
use Rattle.log_messages.specs.Reading.{HasRead, Reading, given_of}

-- ---- lists that are merged

-- the elements of these lists and no others, those of each list in its order
abbrev pub Merges : {X : Type 0} → List (List X) → List X → Type 0
Merges {X} lists [] = AllByRecursion (λ xs. xs ≡ []) lists
Merges {X} lists (y ∷ ys) = (front : List (List X)) × (rest : List X) × (behind : List (List X)) × (lists ≡ front ++ ((y ∷ rest) ∷ behind)) × Merges (front ++ (rest ∷ behind)) ys

abbrev pub joined : {X : Type 0} → List (List X) → List X
joined lists = flat_map (λ xs. xs) lists

-- ---- what publishers have claimed

-- each ends where any behind it in the list begins, or below that
abbrev pub AreInOrder : List Entry → Type 0
AreInOrder [] = ⊤
AreInOrder (e ∷ es) = AllByRecursion (λ f. entry_end e ≤ f.start) es × AreInOrder es

-- the claim of an entry, of which no frame is told
abbrev pub bare : Entry → Entry
bare e = record e { frames = [] }

-- a publisher has claimed these entries, in lists that are each in order: its own, and one of each that retired to it; and each
-- frame that it has committed is one of theirs
pub record HasClaimed (p : PublisherValue) (lists : List (List Entry)) : Type 0 where
  pub claims : entries_of p.pass ≡ map bare (joined lists)
  pub ordered : AllByRecursion AreInOrder lists
  pub entries : AllByRecursion IsEntry (joined lists)
  pub frames : AllAmong (committed (joined lists)) (map placed p.pass.work.frames)

-- a frame that its words tell: flags and payload are bytes, and its length is one of 32 bits
abbrev pub IsTold : Frame → Type 0
IsTold (Data flags payload) = (flags < 256) × (length payload < 2147483648) × AllByRecursion (λ b. b < 256) payload
IsTold (Pad n) = (0 < n) × (n < 2147483648)

-- as the clauses of a publisher's calls say it: it has claimed these entries, and committed the frames of all of them, as they are
-- spelled
abbrev pub words_in : Identity → Entry → List FrameWords
words_in i e = frames_at i e.start e.frames

pub record HasCommitted (i : Identity) (p : PublisherValue) (lists : List (List Entry)) : Type 0 where
  pub claims : entries_of p.pass ≡ map bare (joined lists)
  pub ordered : AllByRecursion AreInOrder lists
  pub entries : AllByRecursion IsEntry (joined lists)
  pub told : AllByRecursion (λ e. AllByRecursion IsTold e.frames) (joined lists)
  pub frames : p.pass.work.frames ≡ flat_map (words_in i) (joined lists)

abbrev pub HaveClaimed : List PublisherValue → List (List (List Entry)) → Type 0
HaveClaimed [] [] = ⊤
HaveClaimed [] (lists ∷ more) = ⊥
HaveClaimed (p ∷ ps) [] = ⊥
HaveClaimed (p ∷ ps) (lists ∷ more) = HasClaimed p lists × HaveClaimed ps more

-- ---- the stream

-- the entries of a closed log, in the order of the stream: they tile it from its start to its tail, each publisher has the share of
-- those that it owns, and those of each list are in its order
pub record IsClosed (l : LogValue) (book : Book) (lists : List (List Entry)) (es : List Entry) : Type 0 where
  pub geometry : IsGeometry l.identity.geometry
  pub tiles : Tiles l.identity.geometry.term_length l.start book.tail es
  pub entries : AllByRecursion IsEntry es
  pub low : book.tail ≤ max_position l.identity.geometry
  pub owned : (n : ℕ) → n < 8 → slice_index book.shares n ≡ share_of n es
  pub merges : Merges lists es

-- what a reader polled is the messages of the stream from where it began to where it stands, which are those of each list in its order
abbrev pub is_message : Entry → Bool
is_message e = not e.padding && is_whole e

abbrev pub messages_in : List Entry → List (List ℕ)
messages_in es = map message_of (filter is_message es)

pub record PollsMerged (l : LogValue) (book : Book) (lists : List (List Entry)) (es : List Entry) (m : Reading) : Type 0 where
  pub given : given_of m ≡ messages m.begun_at m.reader.position es
  pub merges : Merges (map (messages m.begun_at m.reader.position) lists) (given_of m)
  -- all of them, where it began at the start and stands at the tail
  pub all : m.begun_at ≡ l.start → m.reader.position ≡ book.tail → Merges (map messages_in lists) (given_of m)

-- ---- the law

-- where a log was closed with all its passes, of which each publisher has claimed such entries, they are its stream; each frame that
-- they have committed is one of the stream's; and each of its readers, which knows frames that publishers have committed
-- (`close_read`), polled that stream's messages
pub record ClosesAsStream (l : LogValue) (publishers : List PublisherValue) (book : Book) (lists : List (List Entry)) : Type 0 where
  pub entries : List Entry
  pub closed : IsClosed l book lists entries
  pub committed_are : AllAmong (committed entries) (map placed (flat_map committed_of publishers))
  pub polled : (m : Reading) → HasRead m.begun_at m.reader m.assembler m.has_refused → AllByRecursion (IsCommittedBy publishers) (known_of m.reader) → PollsMerged l book lists entries m

abbrev pub ClosedIsStream : Type 0
ClosedIsStream = (l : LogValue) (publishers : List PublisherValue) (book : Book) (claimed : List (List (List Entry))) → ShowsBook l publishers book → HaveClaimed publishers claimed → ClosesAsStream l publishers book (joined claimed)

-- what a publisher's calls say is enough
abbrev pub CommitsItsClaims : Type 0
CommitsItsClaims = (i : Identity) (p : PublisherValue) (lists : List (List Entry)) → HasCommitted i p lists → HasClaimed p lists
