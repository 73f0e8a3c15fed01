-- A log that was closed is the stream of what its publishers have claimed.
use Rattle.std.proofs.Common.{◌≡◌, ◌⊎◌, inl, inr, ℕ, ◌+◌, ◌≤◌, List, [], ◌∷◌, ◌++◌, map, append_assoc, Bool, true, false, cond, ◌==◌, refl, sym, ap, ◌∙◌, subst, ⊎_elim, arith}
use Rattle.std.specs.Prelude.{◌&&◌}
use Rattle.std.specs.List.{AllByRecursion, filter, flat_map}
use Rattle.std.proofs.lemmas.Bool.{le-leb}
use Rattle.model.specs.StreamLaws.{GivesMessages}
use Rattle.theory.specs.Entry.{Entry, IsEntry, committed, entry_end, length_of}
use Rattle.theory.specs.Messages.{is_between, message_of, messages}
use Rattle.theory.specs.Placed.{AllAmong, Among, Placed, place_all}
use Rattle.theory.specs.Tiling.{Tiles, share_of}
use Rattle.theory.proofs.Lists.{all_append, all_at, all_from, among_cases, among_left, among_right}
use Rattle.theory.proofs.Tiling.{share-cons}
use Rattle.publication.specs.declared.pass.FrameWords.{FrameWords}
use Rattle.shared_log.specs.Steps.Handles.{LogValue, PublisherValue}
use Rattle.log_rule.specs.Claims.Sums.{total}
use Rattle.log_rule.proofs.Claimed.Totals.{total_append, total_map}
use Rattle.shared_log.specs.Books.{IsCommittedBy, ShowsBook, committed_of, weight_in}
use Rattle.shared_log.specs.Readers.{known_of}
use Rattle.shared_log.specs.Sourced.{placed}
use Rattle.shared_log.specs.declared.book.Book.{Book}
use Rattle.log_messages.specs.Closed.{AreInOrder, ClosedIsStream, HaveClaimed, IsClosed, Merges, PollsMerged, bare, is_message, joined, messages_in}
use Rattle.log_messages.specs.Reading.{HasRead, Reading, given_of}
use Rattle.log_messages.proofs.Gathered.{Gathered, by_claim, gather}
use Rattle.log_messages.proofs.Merging.{merged_of, merged_picked, merged_to}

-- ---- what all publishers have claimed

joined_append : {X : Type 0} (xs ys : List (List X)) → joined (xs ++ ys) ≡ joined xs ++ joined ys
joined_append [] ys = refl
joined_append (x ∷ xs) ys = ap (λ (zs : List _). x ++ zs) (joined_append xs ys) ∙ sym (append_assoc x (joined xs) (joined ys))

weighs_all : (h : Entry → ℕ) (ps : List PublisherValue) (claimed : List (List (List Entry))) → HaveClaimed ps claimed → total (weight_in (by_claim h)) ps ≡ total (by_claim h) (joined (joined claimed))
weighs_all h [] [] all = refl
weighs_all h [] (lists ∷ more) all = absurd all
weighs_all h (p ∷ ps) [] all = absurd all
weighs_all h (p ∷ ps) (lists ∷ more) all =
    (λ j. (ap (total (by_claim h)) all.0.claims ∙ total_map (by_claim h) bare (joined lists)) j + weighs_all h ps more all.1 j)
    ∙ sym (total_append (by_claim h) (joined lists) (joined (joined more)))
    ∙ ap (total (by_claim h)) (sym (joined_append lists (joined more)))

all_ordered : (ps : List PublisherValue) (claimed : List (List (List Entry))) → HaveClaimed ps claimed → AllByRecursion AreInOrder (joined claimed)
all_ordered [] [] all = tt
all_ordered [] (lists ∷ more) all = absurd all
all_ordered (p ∷ ps) [] all = absurd all
all_ordered (p ∷ ps) (lists ∷ more) all = all_append AreInOrder lists (joined more) all.0.ordered (all_ordered ps more all.1)

all_entries : (ps : List PublisherValue) (claimed : List (List (List Entry))) → HaveClaimed ps claimed → AllByRecursion IsEntry (joined (joined claimed))
all_entries [] [] all = tt
all_entries [] (lists ∷ more) all = absurd all
all_entries (p ∷ ps) [] all = absurd all
all_entries (p ∷ ps) (lists ∷ more) all = subst (AllByRecursion IsEntry) (sym (joined_append lists (joined more))) (all_append IsEntry (joined lists) (joined (joined more)) all.0.entries (all_entries ps more all.1))

-- ---- frames

record StandsIn (s : Placed) (es : List Entry) : Type 0 where
  entry : Entry
  among : Among entry es
  inside : Among s (place_all entry.start entry.frames)

stands_in : (s : Placed) (es : List Entry) → Among s (committed es) → StandsIn s es
stands_in s [] a = absurd a
stands_in s (e ∷ es) a = go (λ h. stands_in s es h) (among_cases s (place_all e.start e.frames) (committed es) a)
  where
    go : (Among s (committed es) → StandsIn s es) → Among s (place_all e.start e.frames) ⊎ Among s (committed es) → StandsIn s (e ∷ es)
    go later (inl h) = record { entry = e; among = inl refl; inside = h }
    go later (inr h) = let f = later h in record { entry = f.entry; among = inr f.among; inside = f.inside }

in_committed : (s : Placed) (e : Entry) (es : List Entry) → Among e es → Among s (place_all e.start e.frames) → Among s (committed es)
in_committed s e [] a h = absurd a
in_committed s e (x ∷ xs) (inl same) h = among_left s (place_all x.start x.frames) (committed xs) (subst (λ (y : Entry). Among s (place_all y.start y.frames)) same h)
in_committed s e (x ∷ xs) (inr a) h = among_right s (place_all x.start x.frames) (committed xs) (in_committed s e xs a h)

wider : (s : Placed) (xs ys : List Entry) → ((e : Entry) → Among e xs → Among e ys) → Among s (committed xs) → Among s (committed ys)
wider s xs ys more a = let f = stands_in s xs a in in_committed s f.entry ys (more f.entry f.among) f.inside

among_map : {A B : Type 0} (g : A → B) (x : A) (xs : List A) → Among x xs → Among (g x) (map g xs)
among_map g x [] h = absurd h
among_map g x (y ∷ ys) (inl e) = inl (ap g e)
among_map g x (y ∷ ys) (inr h) = inr (among_map g x ys h)

its_frame : (ps : List PublisherValue) (claimed : List (List (List Entry))) (f : FrameWords) → HaveClaimed ps claimed → IsCommittedBy ps f → Among (placed f) (committed (joined (joined claimed)))
its_frame [] [] f all a = absurd a
its_frame [] (lists ∷ more) f all a = absurd all
its_frame (p ∷ ps) [] f all a = absurd all
its_frame (p ∷ ps) (lists ∷ more) f all a =
    subst (λ (es : List Entry). Among (placed f) (committed es)) (sym (joined_append lists (joined more)))
    (⊎_elim
    (λ (h : Among f p.pass.work.frames).
    wider (placed f) (joined lists) (joined lists ++ joined (joined more)) (λ e b. among_left e (joined lists) (joined (joined more)) b)
    (all_at (λ (s : Placed). Among s (committed (joined lists))) (placed f) (map placed p.pass.work.frames) all.0.frames (among_map placed f p.pass.work.frames h)))
    (λ (h : IsCommittedBy ps f).
    wider (placed f) (joined (joined more)) (joined lists ++ joined (joined more)) (λ e b. among_right e (joined lists) (joined (joined more)) b) (its_frame ps more f all.1 h))
    (among_cases f p.pass.work.frames (flat_map committed_of ps) a))

-- ---- entries by their claims

tiles_bare : (term p q : ℕ) (es : List Entry) → Tiles term p q (map bare es) → Tiles term p q es
tiles_bare term p q [] t = t
tiles_bare term p q (e ∷ es) t = (t.0, t.1, tiles_bare term (entry_end e) q es t.2)

bare_tiles : (term p q : ℕ) (es : List Entry) → Tiles term p q es → Tiles term p q (map bare es)
bare_tiles term p q [] t = t
bare_tiles term p q (e ∷ es) t = (t.0, t.1, bare_tiles term (entry_end e) q es t.2)

share_bare : (n : ℕ) (es : List Entry) → share_of n (map bare es) ≡ share_of n es
share_bare n [] = refl
share_bare n (e ∷ es) = share-cons n (bare e) (map bare es) ∙ ap (λ (k : ℕ). cond (e.owner == n) (length_of e) 0 + k) (share_bare n es) ∙ sym (share-cons n e es)

-- ---- all of them

tiles_end : (term p q : ℕ) (es : List Entry) → Tiles term p q es → p ≤ q
tiles_end term p q [] t = (let same : q ≡ p = t in omega (arith, same))
tiles_end term p q (e ∷ es) t = let here : e.start ≡ p = t.0 in let more = tiles_end term (entry_end e) q es t.2 in omega (arith, here, more)

inside : (term p q : ℕ) (es : List Entry) (e : Entry) → Tiles term p q es → Among e es → (p ≤ e.start) × (entry_end e ≤ q)
inside term p q [] e t a = absurd a
inside term p q (x ∷ xs) e t (inl same) =
    let here : x.start ≡ p = t.0 in
    let more = tiles_end term (entry_end x) q xs t.2 in
    subst (λ (y : Entry). (p ≤ y.start) × (entry_end y ≤ q)) (sym same) (omega (arith, here), more)
inside term p q (x ∷ xs) e t (inr a) =
    let here : x.start ≡ p = t.0 in
    let h = inside term (entry_end x) q xs e t.2 a in
    (let low = h.0 in omega (arith, here, low), h.1)

filter_same : (t u : Entry → Bool) (xs : List Entry) → ((e : Entry) → Among e xs → t e ≡ u e) → filter t xs ≡ filter u xs
filter_same t u [] same = refl
filter_same t u (x ∷ xs) same = (λ j. cond (same x (inl refl) j) (x ∷ filter_same t u xs (λ e a. same e (inr a)) j) (filter_same t u xs (λ e a. same e (inr a)) j))

and_both : (b : Bool) → (b && true) && true ≡ b
and_both true = refl
and_both false = refl

between_all : (j q : ℕ) (e : Entry) → j ≤ e.start → entry_end e ≤ q → is_between j q e ≡ is_message e
between_all j q e low high = (λ i. (is_message e && le-leb j e.start low i) && le-leb (entry_end e) q high i) ∙ and_both (is_message e)

all_messages : (j q : ℕ) (lists : List (List Entry)) → ((e : Entry) → Among e (joined lists) → (j ≤ e.start) × (entry_end e ≤ q)) → map (messages j q) lists ≡ map messages_in lists
all_messages j q [] within = refl
all_messages j q (es ∷ lists) within =
    (λ i. map message_of (filter_same (is_between j q) is_message es (λ e a. let b = within e (among_left e es (joined lists) a) in between_all j q e b.0 b.1) i)
    ∷ all_messages j q lists (λ e a. within e (among_right e es (joined lists) a)) i)

-- ---- the law

module _ (law : GivesMessages) (l : LogValue) (publishers : List PublisherValue) (book : Book) (claimed : List (List (List Entry))) (shows : ShowsBook l publishers book) (have : HaveClaimed publishers claimed) where
  abbrev term : ℕ
  term = l.identity.geometry.term_length

  gathered : Gathered shows.tiled.log (joined claimed)
  gathered =
      gather term l.start book.tail shows.tiled.log (joined claimed) shows.tiled.tiles (all_ordered publishers claimed have)
      (λ e a. (all_at IsEntry e (joined (joined claimed)) (all_entries publishers claimed have) a).long)
      (λ h. sym (weighs_all h publishers claimed have) ∙ shows.tiled.fair (by_claim h))

  tiles : Tiles term l.start book.tail gathered.entries
  tiles = tiles_bare term l.start book.tail gathered.entries (subst (Tiles term l.start book.tail) (sym gathered.are) (bare_tiles term l.start book.tail shows.tiled.log shows.tiled.tiles))

  entries : AllByRecursion IsEntry gathered.entries
  entries = all_from IsEntry gathered.entries (λ e a. all_at IsEntry e (joined (joined claimed)) (all_entries publishers claimed have) (merged_of e (joined claimed) gathered.entries gathered.merges a))

  closed : IsClosed l book (joined claimed) gathered.entries
  closed = record {
    geometry = shows.geometry;
    tiles = tiles;
    entries = entries;
    low = shows.low;
    owned = λ n low. shows.owned n low ∙ sym (share_bare n shows.tiled.log) ∙ ap (share_of n) (sym gathered.are) ∙ share_bare n gathered.entries;
    merges = gathered.merges;
  }

  frame_there : (f : FrameWords) → IsCommittedBy publishers f → Among (placed f) (committed gathered.entries)
  frame_there f a = wider (placed f) (joined (joined claimed)) gathered.entries (λ e b. merged_to e (joined claimed) gathered.entries gathered.merges b) (its_frame publishers claimed f have a)

  frames_there : (fs : List FrameWords) → AllByRecursion (IsCommittedBy publishers) fs → AllAmong (committed gathered.entries) (map placed fs)
  frames_there [] all = tt
  frames_there (f ∷ fs) all = (frame_there f all.0, frames_there fs all.1)

  polled : (m : Reading) → HasRead m.begun_at m.reader m.assembler m.has_refused → AllByRecursion (IsCommittedBy publishers) (known_of m.reader) → PollsMerged l book (joined claimed) gathered.entries m
  polled m read known =
      let j = m.begun_at in
      let q = m.reader.position in
      let given : given_of m ≡ messages j q gathered.entries = law term l.start book.tail j q gathered.entries (map placed (known_of m.reader)) tiles entries read.chain (frames_there (known_of m.reader) known) in
      let merges : Merges (map (messages j q) (joined claimed)) (given_of m) = subst (Merges (map (messages j q) (joined claimed))) (sym given) (merged_picked (is_between j q) message_of (joined claimed) gathered.entries gathered.merges) in
      record {
        given = given;
        merges = merges;
        all = λ start tail. subst (λ (ls : List (List (List ℕ))). Merges ls (given_of m))
            (all_messages j q (joined claimed) (λ e a. let b = inside term l.start book.tail gathered.entries e tiles (merged_to e (joined claimed) gathered.entries gathered.merges a) in
            (subst (λ (p : ℕ). p ≤ e.start) (sym start) b.0, subst (λ (p : ℕ). entry_end e ≤ p) (sym tail) b.1))) merges;
      }

pub closed_is_stream : GivesMessages → ClosedIsStream
closed_is_stream law l publishers book claimed shows have = record {
  entries = (gathered law l publishers book claimed shows have).entries;
  closed = closed law l publishers book claimed shows have;
  committed_are = frames_there law l publishers book claimed shows have (flat_map committed_of publishers) (all_from (IsCommittedBy publishers) (flat_map committed_of publishers) (λ f a. a));
  polled = polled law l publishers book claimed shows have;
}
