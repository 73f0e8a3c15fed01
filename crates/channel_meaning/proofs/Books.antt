-- Claims that weigh what a tiling weighs, and stand in order, are a tiling; so what a publisher has claimed is a stream.
use Rattle.std.proofs.Common.{◌≡◌, ◌∙◌, ℕ, ◌+◌, ◌-◌, ◌*◌, ◌/◌, ◌%◌, ◌≤◌, List, [], ◌∷◌, ◌++◌, length, map, Option, refl, sym, ap, subst, arith}
use Rattle.std.specs.Prelude.{⊤}
use Rattle.std.specs.List.{AllByRecursion, flat_map}
use Rattle.theory.specs.Bytes.{Identity}
use Rattle.theory.specs.Entry.{Entry, IsEntry, committed, entry_end}
use Rattle.theory.specs.Messages.{messages}
use Rattle.theory.specs.Placed.{AllAmong}
use Rattle.theory.specs.Position.{IsGeometry, span}
use Rattle.theory.specs.Tiling.{InOneTerm, Tiles}
use Rattle.theory.proofs.Lists.{all_behind}
use Rattle.model.proofs.Commits.{pieces_are}
use Rattle.position.specs.Openings.{IsStart}
use Rattle.publication.specs.declared.pass.ClaimRange.{ClaimRange}
use Rattle.publication.specs.declared.pass.FrameWords.{FrameWords}
use Rattle.publication.specs.declared.pass.Pass.{Pass}
use Rattle.publication.specs.Orders.{AreInOrder, claim_end}
use Rattle.shared_log.specs.Steps.Handles.{LogValue, PublisherValue}
use Rattle.log_rule.specs.Claims.Rule.{IsClaimEntry, weight}
use Rattle.log_rule.specs.Claims.Rule as rules
use Rattle.log_rule.specs.Claims.Sums.{total}
use Rattle.log_rule.proofs.Claimed.Totals.{extent_of, none_behind, tiles_up}
use Rattle.shared_log.specs.Books.{HasEntries, IsCommittedBy, ShowsBook, weight_in}
use Rattle.shared_log.specs.Handles.{IsNew}
use Rattle.shared_log.specs.Readers.{known_of}
use Rattle.shared_log.specs.Sourced.{placed}
use Rattle.shared_log.specs.declared.book.Book.{Book}
use Rattle.shared_log.specs.declared.reader.source.LogFrames.{LogFrames}
use Rattle.sender.specs.Sending.{Sending, begun}
use Rattle.receiver.specs.Lives.{IsStream, Stream}
use Rattle.sender_meaning.specs.Lives.{IsSpelled, SendsStream, source_in}
use Rattle.sender_meaning.specs.StreamLives.{StreamGivesHonest}
use Rattle.endpoint.specs.declared.udp.Route.{Route}
use Rattle.options.specs.declared.ends.plans.PublishPlan.{PublishPlan}
use Rattle.publisher.specs.Offers.{Publishes, Taken, claim_of, frames_in}
use Rattle.publisher.specs.Offers.Taken.{Message, Padding}
use Rattle.publisher.specs.Ended.{PublishesAll}
use Rattle.publisher.specs.Openings.{HasNone}
use Rattle.channel_meaning.specs.Books.{GivesAllHonest, PublishesAllOfIt, WritesAllOfIt, entries_in, stream_in}
use Rattle.channel_meaning.specs.Streams.{IsItsStream, WritesWhatIsRead, entry_of}
use Rattle.channel_meaning.proofs.Committed.{all_known}
use Rattle.channel_meaning.proofs.Streams.{all_messages}

-- ---- what is weighed: by where an entry begins and how it is cut

abbrev by_shape : (ℕ → List ℕ → ℕ) → Entry → ℕ
by_shape f e = f e.start e.cuts

-- what lies behind a position, and in another term than its first byte
abbrev behind : ℕ → ℕ → List ℕ → ℕ
behind q start cuts = start + span cuts - q

abbrev beyond : ℕ → ℕ → List ℕ → ℕ
beyond term start cuts = start + span cuts - (start / term * term + term)

abbrev bytes : ℕ → List ℕ → ℕ
bytes start cuts = span cuts

-- how far below a position it begins
abbrev below : ℕ → ℕ → List ℕ → ℕ
below r start cuts = r - start

none_over : (a b : ℕ) → a ≤ b → a - b ≡ 0
none_over a b le = omega arith

within : (a b : ℕ) → a - b ≡ 0 → a ≤ b
within a b none = omega arith

no_parts : (a b : ℕ) → a + b ≡ 0 → (a ≡ 0) × (b ≡ 0)
no_parts a b none = (omega arith, omega arith)

sum_none : (a b : ℕ) → a ≡ 0 → b ≡ 0 → a + b ≡ 0
sum_none a b x y = omega arith

-- ---- a tiling

-- none begins below
none_below : (term r p q : ℕ) (es : List Entry) → Tiles term p q es → r ≤ p → total (by_shape (below r)) es ≡ 0
none_below term r p q [] t low = refl
none_below term r p q (e ∷ es) t low = let here : e.start ≡ p = t.0 in sum_none (r - e.start) (total (by_shape (below r)) es) (omega (arith, here, low)) (none_below term r (entry_end e) q es t.2 (omega (arith, here, low)))

none_beyond : (term p q : ℕ) (es : List Entry) → Tiles term p q es → total (by_shape (beyond term)) es ≡ 0
none_beyond term p q [] t = refl
none_beyond term p q (e ∷ es) t =
    sum_none (entry_end e - (e.start / term * term + term)) (total (by_shape (beyond term)) es)
    (none_over (entry_end e) (e.start / term * term + term) (subst (λ (n : ℕ). InOneTerm term n (entry_end e)) (sym t.0) t.1)) (none_beyond term (entry_end e) q es t.2)

-- ---- entries in order

-- each begins where the one before it ends, or behind that
abbrev Follow : ℕ → List Entry → Type 0
Follow p [] = ⊤
Follow p (e ∷ es) = (p ≤ e.start) × Follow (entry_end e) es

-- as claims in order do that begin at a position, or behind it
follows : (i : Identity) (number p : ℕ) (ts : List Taken) → AreInOrder (map (claim_of i number) ts) → AllByRecursion (λ c. p ≤ c.start) (map (claim_of i number) ts) → Follow p (map (entry_of i number) ts)
follows i number p [] order from = tt
follows i number p (Message start message ∷ ts) order from = (from.0, follows i number (claim_end (claim_of i number (Message start message))) ts order.1 order.0)
follows i number p (Padding start bytes ∷ ts) order from = (from.0, follows i number (claim_end (claim_of i number (Padding start bytes))) ts order.1 order.0)

begin_from : (p : ℕ) (cs : List ClaimRange) → total (by_shape (below p)) (map rules.entry_of cs) ≡ 0 → AllByRecursion (λ c. p ≤ c.start) cs
begin_from p [] none = tt
begin_from p (c ∷ cs) none = let parts = no_parts (p - c.start) (total (by_shape (below p)) (map rules.entry_of cs)) none in (within p c.start parts.0, begin_from p cs parts.1)

ends_at_most : (q : ℕ) (es : List Entry) → total (by_shape (behind q)) es ≡ 0 → AllByRecursion (λ e. entry_end e ≤ q) es
ends_at_most q [] none = tt
ends_at_most q (e ∷ es) none = let parts = no_parts (entry_end e - q) (total (by_shape (behind q)) es) none in (within (entry_end e) q parts.0, ends_at_most q es parts.1)

in_terms : (term : ℕ) (es : List Entry) → total (by_shape (beyond term)) es ≡ 0 → AllByRecursion (λ e. InOneTerm term e.start (entry_end e)) es
in_terms term [] none = tt
in_terms term (e ∷ es) none =
    let parts = no_parts (entry_end e - (e.start / term * term + term)) (total (by_shape (beyond term)) es) none in (within (entry_end e) (e.start / term * term + term) parts.0, in_terms term es parts.1)

fits : (p q : ℕ) (es : List Entry) → Follow p es → AllByRecursion (λ e. entry_end e ≤ q) es → p ≤ q → p + total (by_shape bytes) es ≤ q
fits p q [] order ends low = omega (arith, low)
fits p q (e ∷ es) order ends low = let rest = fits (entry_end e) q es order.1 ends.1 ends.0 in let from = order.0 in omega (arith, rest, from)

-- entries in order with no byte left over leave no gap
no_gap : (term p q : ℕ) (es : List Entry) → Follow p es → AllByRecursion (λ e. entry_end e ≤ q) es → AllByRecursion (λ e. InOneTerm term e.start (entry_end e)) es → p ≤ q → p + total (by_shape bytes) es ≡ q → Tiles term p q es
no_gap term p q [] order ends terms low all = omega (arith, all)
no_gap term p q (e ∷ es) order ends terms low all =
    let rest = fits (entry_end e) q es order.1 ends.1 ends.0 in
    let from = order.0 in
    let here : e.start ≡ p = omega (arith, rest, from, all) in
    (here, subst (λ (n : ℕ). InOneTerm term n (entry_end e)) here terms.0, no_gap term (entry_end e) q es order.1 ends.1 terms.1 ends.0 (omega (arith, here, all)))

tiles_so : (term p q : ℕ) (es xs : List Entry) → Follow p es → Tiles term p q xs → ((f : ℕ → List ℕ → ℕ) → total (by_shape f) es ≡ total (by_shape f) xs) → Tiles term p q es
tiles_so term p q es xs order t same =
    no_gap term p q es order
    (ends_at_most q es (same (behind q) ∙ none_behind term p q xs t))
    (in_terms term es (same (beyond term) ∙ none_beyond term p q xs t))
    (tiles_up term p q xs t)
    (ap (λ (n : ℕ). p + n) (same bytes) ∙ extent_of term p q xs t)

-- ---- what one publisher of a log has claimed

same_shape : (f : ℕ → List ℕ → ℕ) (i : Identity) (number : ℕ) (ts : List Taken) → total (by_shape f) (map (entry_of i number) ts) ≡ total (by_shape f) (map rules.entry_of (map (claim_of i number) ts))
same_shape f i number [] = refl
same_shape f i number (Message start message ∷ ts) = ap (λ (n : ℕ). by_shape f (entry_of i number (Message start message)) + n) (same_shape f i number ts)
same_shape f i number (Padding start bytes ∷ ts) = ap (λ (n : ℕ). by_shape f (entry_of i number (Padding start bytes)) + n) (same_shape f i number ts)

alone : (h : Entry → ℕ) (others : List PublisherValue) (p : PublisherValue) → AllByRecursion HasNone others → total (weight_in h) (others ++ p ∷ []) ≡ weight h p.pass
alone h [] p none = omega arith
alone h (o ∷ os) p none =
    let nothing : weight h o.pass ≡ 0 = ap (λ (cs : List ClaimRange). total h (map rules.entry_of cs)) none.0.0 in
    let rest = alone h os p none.1 in
    omega (arith, nothing, rest)

-- claims that are entries are so with all their frames
entries_are : (i : Identity) (number : ℕ) (ts : List Taken) → IsGeometry i.geometry → AllByRecursion IsClaimEntry (map rules.entry_of (map (claim_of i number) ts)) → AllByRecursion IsEntry (map (entry_of i number) ts)
entries_are i number [] legal all = tt
entries_are i number (Message start message ∷ ts) legal all =
    (record { owner = all.0.entry.owner; cuts = all.0.entry.cuts; long = all.0.entry.long; frames = pieces_are i.geometry message legal }, entries_are i number ts legal all.1)
entries_are i number (Padding start bytes ∷ ts) legal all = (record { owner = all.0.entry.owner; cuts = all.0.entry.cuts; long = all.0.entry.long; frames = refl }, entries_are i number ts legal all.1)

-- a log that was closed, of which its first publisher alone, just opened then, has claimed anything
module _ (l : LogValue) (first last : PublisherValue) (tail : ℕ) (read : List (List ℕ)) (others : List PublisherValue) (book : Book) (opened : IsNew l 0 first) (published : Publishes first.pass l.start read last.pass tail) (unclaimed : AllByRecursion HasNone others) (shows : ShowsBook l (others ++ last ∷ []) book) where
  abbrev all_entries : List Entry
  all_entries = map (entry_of l.identity 0) published.taken

  abbrev pub whole_stream : Stream
  whole_stream = record { identity = l.identity; start = l.start; tail = book.tail; entries = all_entries }

  legal : IsGeometry l.identity.geometry
  legal = shows.geometry

  none_first : first.pass.right.claims ≡ []
  none_first = ap (λ (v : Pass). v.right.claims) opened.pass

  number_first : first.pass.number ≡ 0
  number_first = ap (λ (v : Pass). v.number) opened.pass

  claims : last.pass.right.claims ≡ map (claim_of l.identity 0) published.taken
  claims = published.claims ∙ (λ j. none_first j ++ map (claim_of (opened.of.identity j) (number_first j)) published.taken)

  -- by its shape, what was claimed weighs what the stream does
  claimed : (f : ℕ → List ℕ → ℕ) → total (by_shape f) (map rules.entry_of (map (claim_of l.identity 0) published.taken)) ≡ total (by_shape f) shows.tiled.log
  claimed f =
      sym (ap (λ (cs : List ClaimRange). total (by_shape f) (map rules.entry_of cs)) claims)
      ∙ sym (alone (by_shape f) others last unclaimed)
      ∙ shows.tiled.fair (by_shape f)

  in_order : AreInOrder (map (claim_of l.identity 0) published.taken)
  in_order = subst AreInOrder claims (published.ordered (subst AreInOrder (sym none_first) tt))

  tiles : Tiles l.identity.geometry.term_length l.start book.tail all_entries
  tiles =
      let from = begin_from l.start (map (claim_of l.identity 0) published.taken) (claimed (below l.start) ∙ none_below l.identity.geometry.term_length l.start l.start book.tail shows.tiled.log shows.tiled.tiles (omega arith)) in
      tiles_so l.identity.geometry.term_length l.start book.tail all_entries shows.tiled.log (follows l.identity 0 l.start published.taken in_order from) shows.tiled.tiles
      (λ f. same_shape f l.identity 0 published.taken ∙ claimed f)

  entries : AllByRecursion IsClaimEntry (map rules.entry_of (map (claim_of l.identity 0) published.taken))
  entries = subst (λ (cs : List ClaimRange). AllByRecursion IsClaimEntry (map rules.entry_of cs)) claims (all_behind HasEntries others (last ∷ []) shows.entries).0

  pub is_stream : IsStream whole_stream
  is_stream = record {
    geometry = legal;
    tiles = tiles;
    entries = entries_are l.identity 0 published.taken legal entries;
    tail_low = shows.low;
  }

  pub is_its : IsItsStream first.pass published.taken whole_stream
  is_its = record {
    identity = sym opened.of.identity;
    entries = λ j. map (entry_of (sym opened.of.identity j) (sym number_first j)) published.taken;
  }

  pub are_read : messages l.start book.tail all_entries ≡ read
  are_read = all_messages l.identity 0 l.start l.start book.tail published.taken legal tiles (omega arith) ∙ published.are

  -- frames that were committed to it are the stream's
  pub known_in : (known : List FrameWords) → IsSpelled whole_stream → AllByRecursion (IsCommittedBy (others ++ last ∷ [])) known → AllAmong (committed all_entries) (map placed known)
  known_in known spelled all =
      let frames : last.pass.work.frames ≡ flat_map (frames_in l.identity) published.taken = published.frames ∙ (λ j. (opened.pass j).work.frames ++ flat_map (frames_in (opened.of.identity j)) published.taken) in
      all_known l.identity 0 published.taken others last known spelled.frames unclaimed frames all

-- a sender that begins at its log's start sends the log's stream
pub sends_from_start : {F : Type 0} (flow : F) (l : LogValue) (s : Sending LogFrames F) (tail : ℕ) (es : List Entry) → IsStart l.identity.geometry l.start → s ≡ begun l.identity l.start s.reads flow → SendsStream (record { identity = l.identity; start = l.start; tail = tail; entries = es }) s
sends_from_start {F} flow l s tail es start made =
    let at : s.handler.at ≡ l.start = ap (λ (x : Sending LogFrames F). x.handler.at) made in record {
      identity = ap (λ (x : Sending LogFrames F). x.identity) made;
      unit = subst (λ (n : ℕ). n % 32 ≡ 0) (sym at) start.0;
      low = (let below = start.1 in omega (arith, at, below));
    }

pub publishes_all_of_it : PublishesAllOfIt
publishes_all_of_it p routes given all =
    let published = all.ends.publishes.publishes in record {
      stream = is_stream all.log all.first all.last _ _ all.others all.book all.opened published all.others_are.unclaimed all.shows;
      its = is_its all.log all.first all.last _ _ all.others all.book all.opened published all.others_are.unclaimed all.shows;
      are = are_read all.log all.first all.last _ _ all.others all.book all.opened published all.others_are.unclaimed all.shows;
    }

-- its sender sends that stream
sends_it : (p : PublishPlan) (routes : List Route) (given : Option (List ℕ)) (all : PublishesAll p routes given) → SendsStream (stream_in all) all.sends.first
sends_it p routes given all = sends_from_start _ all.log all.sends.first all.book.tail (entries_in all) all.sends.start all.sends.begun.made

-- and knew no other frames
known_of_it : (p : PublishPlan) (routes : List Route) (given : Option (List ℕ)) (all : PublishesAll p routes given) → IsSpelled (stream_in all) → AllAmong (committed (entries_in all)) (source_in all.sends.last.reads).frames
known_of_it p routes given all spelled =
    known_in all.log all.first all.last _ _ all.others all.book all.opened all.ends.publishes.publishes all.others_are.unclaimed all.shows (known_of all.sends.last.reads.reader) spelled all.sends.known

pub gives_all_honest : PublishesAllOfIt → StreamGivesHonest → GivesAllHonest
gives_all_honest law honest p routes given all spelled =
    (honest (stream_in all) (law p routes given all).stream spelled (length routes) all.sends.first all.sends.last all.sends.lived.acts (sends_it p routes given all) all.sends.lived.lives (known_of_it p routes given all spelled)).0

pub writes_all_of_it : PublishesAllOfIt → WritesWhatIsRead → WritesAllOfIt
writes_all_of_it law writes p routes given all spelled plan place before after count w from =
    let is = law p routes given all in
    writes (stream_in all) is.stream spelled all.first.pass all.last.pass all.log.start all.reading.offered.tail all.ends.publishes.messages all.ends.publishes.publishes is.its
    (length routes) all.sends.first all.sends.last all.sends.lived.acts (sends_it p routes given all) all.sends.lived.lives (known_of_it p routes given all spelled) plan place before after count w from
