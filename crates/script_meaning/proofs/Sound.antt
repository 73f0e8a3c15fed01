-- What holds of the state after each line of a script.
use Rattle.std.proofs.Common.{◌≡◌, ℕ, zero, suc, ◌+◌, ◌-◌, ◌<◌, ◌≤◌, false, List, [], ◌∷◌, ◌++◌, map, length, Option, None, Some, refl, sym, ap, ◌∙◌, subst, arith, append-nil}
use Rattle.std.specs.Prelude.{⊤, replicate, slice_get, slice_index_or}
use Rattle.std.specs.List.{AllByRecursion}
use Rattle.std.proofs.lemmas.Grind.{flat_map-append}
use Rattle.theory.specs.Position.{Geometry, IsGeometry, max_position}
use Rattle.theory.specs.Entry.{IsEntry, committed}
use Rattle.std.specs.Option.{option_map}
use Rattle.script_meaning.specs.LineContents.{LineContent}
use Rattle.theory.specs.Bytes.{Identity}
use Rattle.model.specs.Headline.{Always, IsTiled, IsBounded, IsPrefixPolled, IsReadable, ArePublished, AreSpelled, IsPublished}
use Rattle.model.specs.StepLaws.{AreReached, HavePassed}
use Rattle.model.specs.StreamLaws.{AreShort}
use Rattle.theory.specs.Laws.{HasOneReading}
use Rattle.theory.specs.Placed.{Among, end_of}
use Rattle.theory.specs.Assembly.{after_all, nothing_heard}
use Rattle.theory.specs.Consumer.{Consumer, consumer_at}
use Rattle.theory.specs.Numbered.{Each}
use Rattle.model.specs.World.{IsOpened, World}
use Rattle.theory.proofs.Lists.{all_at, all_weaker}
use Rattle.theory.proofs.Frames.{committed_below}
use Rattle.script.specs.Meaning.{CommandContent}
use Rattle.script_meaning.specs.Published.{AllWhole, IsWhole, Played, Range, covered_by, joined_by, joins, polled, polled_by, published, ranges_after, ranges_behind, read_by, turned_by}
use Rattle.receiver.specs.Receiving.{Opened, Receiver}
use Rattle.script_meaning.specs.ScriptState.{ScriptState, entries_of, image_of, lone, opened_state, seat_of, world_of}
use Rattle.script_meaning.specs.Standing.{Begins}
use Rattle.script_meaning.specs.Answers.{reader_at}
use Rattle.script_meaning.proofs.Honest.{AreHonest}
use Rattle.script_meaning.proofs.Seen.{Seen, and_line, seen, seen_quiet}
use Rattle.script_meaning.proofs.Lone.{lone_there}
use Rattle.script_meaning.proofs.OfferRuns.{LogHolds, tail_in_stream}
use Rattle.script_meaning.proofs.Ranges.{Matches}
use Rattle.script_meaning.proofs.ReceiverRuns.{At, Follows, FollowsImage, IsSending, Places, numbers_of}
use Rattle.script_meaning.proofs.Runs.{Goes}
use Rattle.theory.proofs.Tables.{map_get}

-- the laws that the crates below hand over
pub record Laws : Type 0 where
  pub tiles : Always IsTiled
  pub bounds : Always IsBounded
  pub prefixes : Always IsPrefixPolled
  pub entries : Always ArePublished
  pub spelled : Always AreSpelled
  pub readable : Always IsReadable
  pub passed : Always HavePassed
  pub reached : Always AreReached
  pub short : Always AreShort
  pub places : Places
  pub reading : HasOneReading

-- the receiver of this number, with what its lines told
abbrev pub HasFollowed : Identity → List Played → ScriptState → ℕ → Type 0
HasFollowed i played s k = (r : Receiver) × (slice_get s.receivers k ≡ Some r) × Follows i r (joins k played) (polled k played) (AllWhole k played)

-- a reader that has heard each frame from its join on, which its lines showed
pub record ReadSo (c : Consumer) (w : Seen) : Type 0 where
  pub join : c.join ≡ w.join
  pub whole : c.lost ≡ false
  pub heard : c.assembly ≡ after_all nothing_heard w.frames
  pub at : c.at ≡ w.join + covered_by w.frames

-- who is there is who its lines say is there
abbrev pub HasRead : Option Consumer → Option Seen → Type 0
HasRead None None = ⊤
HasRead (Some c) (Some w) = ReadSo c w
HasRead None (Some w) = ⊥
HasRead (Some c) None = ⊥

-- what holds behind these lines, where the images are looked at through that of one receiver alone
pub record IsSound (i : Identity) (group : Option ℕ) (start readers only : ℕ) (played : List Played) (s : ScriptState) : Type 0 where
  pub runs : Goes (world_of (opened_state i group start readers)) (world_of (lone only s))
  pub identity : s.log.identity ≡ i
  pub start_is : s.log.start ≡ start
  pub consumers : s.log.consumers ≡ Some s.sender.at ∷ map seat_of s.readers
  pub named : AllByRecursion (λ p. p ≤ max_position i.geometry) s.sender.setups
  pub forgotten : AllByRecursion (λ e. e.start < s.log.cleaned) s.past
  pub honest : AreHonest i s.sender s.packets
  pub matches : Matches (entries_of s) (published i.geometry played)
  pub eight : length s.receivers ≡ 8
  pub followed : only < 8 → HasFollowed i played s only
  pub reading : (r : ℕ) → HasRead (reader_at s r) (seen start readers r played)

none_there : (P : Consumer → Type 0) (n : ℕ) → Each P (replicate n None)
none_there P zero = tt
none_there P (suc n) = (tt, none_there P n)

all_there : (start n m : ℕ) → Each (λ r. r ≡ consumer_at start) (replicate n (Some (consumer_at start)) ++ replicate m None)
all_there start zero m = none_there (λ r. r ≡ consumer_at start) m
all_there start (suc n) m = (refl, all_there start n m)

pub opened : (i : Identity) (group : Option ℕ) (start readers : ℕ) → Begins i start → IsOpened (world_of (opened_state i group start readers))
opened i group start readers b = record {
  geometry = b.geometry;
  identity = b.identity;
  unit = b.unit;
  below = b.below;
  tail = refl;
  entries = refl;
  armed = refl;
  retired = refl;
  limit = refl;
  connected = refl;
  closed = refl;
  cleaned = refl;
  readers = all_there start readers (7 - readers);
  sender = refl;
  images = refl;
}

-- ---- what the laws say of a sound state

-- what holds of every world holds of this one
pub law_of : {Holds : World → Type 0} → Always Holds → (i : Identity) (group : Option ℕ) (start readers only : ℕ) (s : ScriptState) → Begins i start → Goes (world_of (opened_state i group start readers)) (world_of (lone only s)) → Holds (world_of (lone only s))
law_of law i group start readers only s b runs = law (world_of (opened_state i group start readers)) (world_of (lone only s)) runs.0 (opened i group start readers b) runs.1

pub legal : (i : Identity) (group : Option ℕ) (start readers only : ℕ) (played : List Played) (s : ScriptState) → Begins i start → IsSound i group start readers only played s → IsGeometry s.log.identity.geometry
legal i group start readers only played s b h = subst (λ k. IsGeometry k.geometry) (sym h.identity) b.geometry

pub holds : Laws → (i : Identity) (group : Option ℕ) (start readers only : ℕ) (played : List Played) (s : ScriptState) → Begins i start → IsSound i group start readers only played s → LogHolds s.past s.log
holds laws i group start readers only played s b h =
    let entries = law_of laws.entries i group start readers only s b h.runs in
    record {
      geometry = legal i group start readers only played s b h;
      start = subst (λ x. s.log.start < max_position x.geometry) (sym h.identity) (subst (λ p. p < max_position i.geometry) (sym h.start_is) b.below);
      tiles = (law_of laws.tiles i group start readers only s b h.runs).0;
      entries = all_weaker (IsPublished s.log.identity.geometry) IsEntry (λ e x. x.entry) (entries_of s) entries;
      published = entries;
    }

-- wherever the world goes to
pub sender_below : Laws → (i : Identity) (group : Option ℕ) (start readers only : ℕ) (s : ScriptState) → Begins i start → Goes (world_of (opened_state i group start readers)) (world_of (lone only s)) → s.sender.at ≤ s.log.tail
sender_below laws i group start readers only s b runs = let bounded = law_of laws.bounds i group start readers only s b runs in omega (arith, bounded.0.2, bounded.0.3.0)

pub tail_low : Laws → (i : Identity) (group : Option ℕ) (start readers only : ℕ) (played : List Played) (s : ScriptState) → Begins i start → IsSound i group start readers only played s → s.log.tail ≤ max_position i.geometry
tail_low laws i group start readers only played s b h =
    let k = holds laws i group start readers only played s b h in
    let low : s.log.tail ≤ max_position s.log.identity.geometry = tail_in_stream s.log.identity.geometry s.log.start s.log.tail (entries_of s) (omega (arith, k.geometry.term.least)) (omega (arith, k.start)) k.tiles k.published in
    let same : max_position s.log.identity.geometry ≡ max_position i.geometry = ap (λ (x : Identity). max_position x.geometry) h.identity in
    omega (arith, low, same)

-- each frame that was sent, and each SETUP, stands in the stream
pub sending : Laws → (i : Identity) (group : Option ℕ) (start readers only : ℕ) (played : List Played) (s : ScriptState) → Begins i start → IsSound i group start readers only played s → IsSending (lone only s)
sending laws i group start readers only played s b h =
    let k = holds laws i group start readers only played s b h in
    let most = max_position s.log.identity.geometry in
    let same : max_position i.geometry ≡ most = ap (λ (x : Identity). max_position x.geometry) (sym h.identity) in
    let below = committed_below s.log.identity.geometry.term_length s.log.start s.log.tail (entries_of s) k.tiles k.entries in
    let tail : s.log.tail ≤ most = omega (arith, tail_low laws i group start readers only played s b h, same) in
    record {
      legal = k.geometry;
      sent = all_weaker (λ t. Among t (committed (entries_of s))) (λ t. t.at ≤ most) (λ t a. omega (arith, tail, all_at (λ t. end_of t ≤ s.log.tail) t (committed (entries_of s)) below a)) s.sender.sent (law_of laws.passed i group start readers only s b h.runs).sent;
      setups = subst (λ p. AllByRecursion (λ q. q ≤ p) s.sender.setups) same h.named;
    }

-- ---- one line more

behind_more : (g : Geometry) (ranges : List Range) (played : List Played) (command : CommandContent) (lines : List LineContent) → ranges_behind g ranges (and_line played command lines) ≡ ranges_after g (ranges_behind g ranges played) command lines
behind_more g ranges [] command lines = refl
behind_more g ranges (p ∷ ps) command lines = behind_more g (ranges_after g ranges p.command p.lines) ps command lines

pub published_more : (g : Geometry) (played : List Played) (command : CommandContent) (lines : List LineContent) → published g (and_line played command lines) ≡ ranges_after g (published g played) command lines
published_more g played command lines = behind_more g [] played command lines

-- the line takes no range, and fills none
abbrev pub SaysNoRange : CommandContent → List LineContent → Type 0
SaysNoRange command lines = (g : Geometry) (ranges : List Range) → ranges_after g ranges command lines ≡ ranges

pub joins_more : (k : ℕ) (played : List Played) (command : CommandContent) (lines : List LineContent) → joins k (and_line played command lines) ≡ joins k played ++ joined_by k command lines
joins_more k played command lines = flat_map-append (λ p. joined_by k p.command p.lines) played (record { command = command; lines = lines } ∷ []) ∙ ap (λ xs. joins k played ++ xs) (append-nil (joined_by k command lines))

pub polled_more : (k : ℕ) (played : List Played) (command : CommandContent) (lines : List LineContent) → polled k (and_line played command lines) ≡ polled k played ++ polled_by k command lines
polled_more k played command lines = flat_map-append (λ p. polled_by k p.command p.lines) played (record { command = command; lines = lines } ∷ []) ∙ ap (λ xs. polled k played ++ xs) (append-nil (polled_by k command lines))

pub whole_parts : (k : ℕ) (played : List Played) (command : CommandContent) (lines : List LineContent) → AllWhole k (and_line played command lines) → AllWhole k played × IsWhole k command lines
whole_parts k [] command lines h = (tt, h.0)
whole_parts k (p ∷ ps) command lines h = let rest = whole_parts k ps command lines h.1 in ((h.0, rest.0), rest.1)

pub follows_as : (i : Identity) (r : Receiver) (joins more : List ℕ) (given gives : List (List ℕ)) (Whole Still : Type 0) → joins ≡ more → given ≡ gives → (Still → Whole) → Follows i r joins given Whole → Follows i r more gives Still
follows_as i r joins more given gives Whole Still j g weaker h = record {
  numbers = h.numbers;
  image = weaken r.image (subst (λ xs. FollowsImage r.image i more xs Whole) g (subst (λ xs. FollowsImage r.image i xs given Whole) j h.image));
}
  where
    weaken : (o : Option Opened) → FollowsImage o i more gives Whole → FollowsImage o i more gives Still
    weaken None k = k
    weaken (Some o) k = record { consumer = k.consumer; one = k.one; geometry = k.geometry; join = k.join; joined = k.joined; heard = λ x. k.heard (weaker x) }

-- the line says nothing of the receiver
pub follows_quiet : (i : Identity) (k : ℕ) (r : Receiver) (played : List Played) (command : CommandContent) (lines : List LineContent) → joined_by k command lines ≡ [] → polled_by k command lines ≡ [] → Follows i r (joins k played) (polled k played) (AllWhole k played) → Follows i r (joins k (and_line played command lines)) (polled k (and_line played command lines)) (AllWhole k (and_line played command lines))
follows_quiet i k r played command lines j g h =
    follows_as i r (joins k played) (joins k (and_line played command lines)) (polled k played) (polled k (and_line played command lines)) (AllWhole k played) (AllWhole k (and_line played command lines))
    (sym (joins_more k played command lines ∙ ap (λ xs. joins k played ++ xs) j ∙ append-nil (joins k played)))
    (sym (polled_more k played command lines ∙ ap (λ xs. polled k played ++ xs) g ∙ append-nil (polled k played)))
    (λ x. (whole_parts k played command lines x).0)
    h

-- the line says nothing of any reader
abbrev pub SaysNoRead : CommandContent → List LineContent → Type 0
SaysNoRead command lines = (r : ℕ) → (read_by r command lines ≡ []) × (turned_by r command lines ≡ [])

-- the line says nothing of any receiver or reader, and they stay
pub record IsQuiet (command : CommandContent) (lines : List LineContent) : Type 0 where
  pub reads : SaysNoRead command lines
  pub joins : (k : ℕ) → joined_by k command lines ≡ []
  pub polls : (k : ℕ) → polled_by k command lines ≡ []

-- the line says nothing of the receiver that is followed, and it stays
pub followed_stays : (i : Identity) (played : List Played) (command : CommandContent) (lines : List LineContent) (s t : ScriptState) (only : ℕ) → (joined_by only command lines ≡ []) × (polled_by only command lines ≡ []) → slice_get t.receivers only ≡ slice_get s.receivers only → (only < 8 → HasFollowed i played s only) → only < 8 → HasFollowed i (and_line played command lines) t only
followed_stays i played command lines s t only quiet same h low =
    let r = h low in
    (r.0, same ∙ r.1, follows_quiet i only r.0 played command lines quiet.0 quiet.1 r.2)

pub readers_stay : (start readers : ℕ) (played : List Played) (command : CommandContent) (lines : List LineContent) (s t : ScriptState) → SaysNoRead command lines → t.readers ≡ s.readers
    → ((r : ℕ) → HasRead (reader_at s r) (seen start readers r played)) → (r : ℕ) → HasRead (reader_at t r) (seen start readers r (and_line played command lines))
readers_stay start readers played command lines s t quiet same h r =
    subst (λ (x : Option Consumer × Option Seen). HasRead x.0 x.1) (λ j. (sym (reader_same s t r same) j, sym (seen_quiet start readers r played command lines (quiet r).0 (quiet r).1) j)) (h r)
  where
    reader_same : (s t : ScriptState) (r : ℕ) → t.readers ≡ s.readers → reader_at t r ≡ reader_at s r
    reader_same s t zero e = refl
    reader_same s t (suc k) e = ap (λ xs. slice_index_or xs k None) e

-- the receiver of a sound state, as the lemmas on its frames want it
pub at_number : (i : Identity) (group : Option ℕ) (start readers only : ℕ) (played : List Played) (s : ScriptState) (r q : Receiver) → IsSound i group start readers only played s → only < 8 → slice_get s.receivers only ≡ Some r → q.image ≡ r.image → numbers_of q ≡ numbers_of r → At (lone only s) only q (joins only played) (polled only played) (AllWhole only played)
at_number i group start readers only played s r q h low there image numbers =
    let known = h.followed low in
    let found : Some r ≡ Some known.0 = sym there ∙ known.1 in
    let same : known.0 ≡ r = cc in
    let follows : Follows i r (joins only played) (polled only played) (AllWhole only played) = subst (λ x. Follows i x (joins only played) (polled only played) (AllWhole only played)) same known.2 in
    record {
      there = map_get image_of (lone only s).receivers only r (lone_there only s ∙ there) ∙ ap Some (ap (option_map (λ o. o.image)) (sym image));
      follows = subst (λ x. Follows x q (joins only played) (polled only played) (AllWhole only played)) (sym h.identity) (record {
        numbers = numbers ∙ follows.numbers;
        image = subst (λ o. FollowsImage o i (joins only played) (polled only played) (AllWhole only played)) (sym image) follows.image;
      });
    }
