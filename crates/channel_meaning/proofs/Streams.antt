-- The messages of a stream that one pass has published.
use Rattle.std.proofs.Common.{◌≡◌, ◌∙◌, ℕ, ◌≤◌, ◌&&◌, not, nat_eq, nat_le, true, false, List, [], ◌∷◌, length, map, refl, ap, subst, arith}
use Rattle.std.specs.List.{filter, flat_map}
use Rattle.std.proofs.lemmas.Bool.{cond-false, cond-true, eq-eqb, le-leb}
use Rattle.theory.specs.Bytes.{Identity}
use Rattle.theory.specs.Entry.{Entry, entry_end}
use Rattle.theory.specs.Messages.{is_between, message_of, messages}
use Rattle.theory.specs.Position.{IsGeometry, cuts_of}
use Rattle.theory.specs.Tiling.{Tiles}
use Rattle.theory.proofs.Frames.{tiles_le}
use Rattle.theory.proofs.Pieces.{pieces_join}
use Rattle.model.proofs.Commits.{payload_cuts, pieces_length}
use Rattle.publisher.specs.Offers.{Taken, messages_in}
use Rattle.publisher.specs.Offers.Taken.{Message, Padding}
use Rattle.channel_meaning.specs.Streams.{PublishesItsStream, entry_of}

pub messages_skip : (c q : ℕ) (e : Entry) (es : List Entry) → is_between c q e ≡ false → messages c q (e ∷ es) ≡ messages c q es
messages_skip c q e es f = ap (map message_of) (cond-false (is_between c q e) (e ∷ filter (is_between c q) es) (filter (is_between c q) es) f)

pub messages_take : (c q : ℕ) (e : Entry) (es : List Entry) → is_between c q e ≡ true → messages c q (e ∷ es) ≡ message_of e ∷ messages c q es
messages_take c q e es t = ap (map message_of) (cond-true (is_between c q e) (e ∷ filter (is_between c q) es) (filter (is_between c q) es) t)

-- an entry that is whole, and stands between two positions
between : (i : Identity) (number j q start : ℕ) (m : List ℕ) → j ≤ start → entry_end (entry_of i number (Message start m)) ≤ q → is_between j q (entry_of i number (Message start m)) ≡ true
between i number j q start m from to =
    let e = entry_of i number (Message start m) in
    let whole : nat_eq (length e.frames) (length e.cuts) ≡ true = eq-eqb (length e.frames) (length e.cuts) (pieces_length true e.cuts m) in
    let low : nat_le j start ≡ true = le-leb j start from in
    let high : nat_le (entry_end e) q ≡ true = le-leb (entry_end e) q to in
    λ k. not false && whole k && low k && high k

-- the message of its pieces
joined : (i : Identity) (number start : ℕ) (m : List ℕ) → IsGeometry i.geometry → message_of (entry_of i number (Message start m)) ≡ m
joined i number start m legal = let held = payload_cuts i.geometry (length m) legal in pieces_join true (cuts_of i.geometry (length m)) m (omega (arith, held))

-- behind a position that none of them begins below, up to where they end
pub all_messages : (i : Identity) (number j at tail : ℕ) (ts : List Taken) → IsGeometry i.geometry → Tiles i.geometry.term_length at tail (map (entry_of i number) ts) → j ≤ at → messages j tail (map (entry_of i number) ts) ≡ flat_map messages_in ts
all_messages i number j at tail [] legal tiles low = refl
all_messages i number j at tail (Message start m ∷ ts) legal tiles low =
    let e = entry_of i number (Message start m) in
    let es = map (entry_of i number) ts in
    let here : start ≡ at = tiles.0 in
    let end = tiles_le i.geometry.term_length (entry_end e) tail es tiles.2 in
    let from : j ≤ start = omega (arith, here, low) in
    let behind : j ≤ entry_end e = omega (arith, from) in
    messages_take j tail e es (between i number j tail start m from end)
    ∙ (λ k. joined i number start m legal k ∷ all_messages i number j (entry_end e) tail ts legal tiles.2 behind k)
all_messages i number j at tail (Padding start bytes ∷ ts) legal tiles low =
    let e = entry_of i number (Padding start bytes) in
    let es = map (entry_of i number) ts in
    let here : start ≡ at = tiles.0 in
    let behind : j ≤ entry_end e = omega (arith, here, low) in
    messages_skip j tail e es refl ∙ all_messages i number j (entry_end e) tail ts legal tiles.2 behind

pub publishes_its_stream : PublishesItsStream
publishes_its_stream p q tail to read h x is its =
    let i = p.identity in
    let legal : IsGeometry i.geometry = subst (λ (j : Identity). IsGeometry j.geometry) its.identity is.geometry in
    let tiles : Tiles i.geometry.term_length x.start x.tail (map (entry_of i p.number) h.taken) =
    subst (λ (es : List Entry). Tiles i.geometry.term_length x.start x.tail es) its.entries (subst (λ (j : Identity). Tiles j.geometry.term_length x.start x.tail x.entries) its.identity is.tiles) in
    ap (λ (es : List Entry). messages x.start x.tail es) its.entries ∙ all_messages i p.number x.start x.start x.tail h.taken legal tiles (omega arith) ∙ h.are
