-- Each line of a script leaves a sound state.
use Rattle.std.proofs.Common.{◌≡◌, ◌⊎◌, ℕ, zero, suc, ◌+◌, ◌*◌, ◌/◌, ◌%◌, ◌<◌, ◌≤◌, List, [], ◌∷◌, ◌++◌, map, length, Bool, true, false, Option, None, Some, inl, inr, refl, sym, ap, ◌∙◌, subst, arith, append-nil, append_assoc}
use Rattle.std.specs.List.{AllByRecursion, flat_map, fold}
use Rattle.std.proofs.lemmas.Bool.{cond-true, le-leb}
use Rattle.std.proofs.lemmas.List.{length-replicate, map-append}
use Rattle.std.specs.Prelude.{nat_le, replicate, slice_get, slice_index_or}
use Rattle.theory.specs.Position.{Geometry, aligned, cuts_of, max_message, max_payload, rest_length}
use Rattle.theory.specs.Placed.{Among, Data, Frame}
use Rattle.theory.specs.Entry.{Entry, IsEntry, entry_end}
use Rattle.theory.specs.Tiling.{Tiles}
use Rattle.theory.proofs.Claims.{covers_framed}
use Rattle.theory.specs.Bytes.{Identity}
use Rattle.model.specs.Log as model
use Rattle.model.specs.Log.{Abort, Commit}
use Rattle.model.specs.Log.{aborted_at, with_frame}
use Rattle.theory.proofs.Cuts.{short_cuts}
use Rattle.theory.proofs.Lists.{all_replicate, among_right}
use Rattle.one_hand.specs.Entries.{claim_of, padded, published}
use Rattle.one_hand.specs.Legal.{IsOpenClaim, IsStream}
use Rattle.one_hand.specs.Stream.{Fits, IsClosed, IsLimited, IsUsedUp, OfferCase, OpenClaim, Stream, Trips, after, after_claim, after_offer, answer, case_of, clean_end, cleaned_and_limited, covered, forgotten_below, room, turned, with_abort, with_claim, with_commit, with_message, with_padding}
use Rattle.script.specs.Meaning as commands
use Rattle.script.specs.Meaning.{CommandContent}
use Rattle.script_meaning.specs.Answers.{AbortsClaim, Claims, ClaimsRange, CommitsClaim, HasClaim, HasNoClaim, IsMissing, Limits, MayClaimRange, MayNotTake, MayOffer, Offered, OffersMessage, with_log}
use Rattle.script_meaning.specs.LineContents as content
use Rattle.script_meaning.specs.LineContents.{LineContent, Bad, Position}
use Rattle.script_meaning.specs.Published as visible
use Rattle.script_meaning.specs.Published.{Played, Range, claims_in, filled_at, filled_by, offered_at, offers_in, ranges_after}
use Rattle.script_meaning.specs.ScriptState.{ScriptState, entries_of, lone, model_log, opened_state, world_of}
use Rattle.model.proofs.Commits.{IsOnlyAt}
use Rattle.model.proofs.LogSteps.{entry_from}
use Rattle.script_meaning.specs.Standing.{Begins}
use Rattle.script_meaning.proofs.OfferRuns.{LogHolds, at_log, claims, fits_one, message_short, offers, open_entry, trips, trips_one, turned_same}
use Rattle.script_meaning.proofs.Ranges.{Matches, SameRange, abort_only, claimed_at, frame_only, matches_abort, matches_commit, matches_more, matches_padding, one_cut, same_claimed, same_offered}
use Rattle.script_meaning.proofs.Runs.{Goes, goes_on, stays}
use Rattle.script_meaning.proofs.SenderRuns.{closes, connects, limit_entries, limit_forgotten, limits}
use Rattle.script_meaning.proofs.Seen.{and_line}
use Rattle.script_meaning.proofs.Sound.{IsQuiet, IsSound, Laws, SaysNoRange, followed_stays, holds, published_more, readers_stay}

-- ---- lines after which only the log or the sender is another

-- no range is taken or filled by the line
pub matches_stay : (g : Geometry) (played : List Played) (command : CommandContent) (lines : List LineContent) (xs : List Entry) → SaysNoRange command lines → Matches xs (visible.published g played) → Matches xs (visible.published g (and_line played command lines))
matches_stay g played command lines xs none h = subst (Matches xs) (sym (published_more g played command lines ∙ none g (visible.published g played))) h

-- nothing has changed
pub same_state : (i : Identity) (group : Option ℕ) (start readers only : ℕ) (played : List Played) (command : CommandContent) (lines : List LineContent) (s t : ScriptState) → IsQuiet command lines → SaysNoRange command lines → t ≡ s → IsSound i group start readers only played s → IsSound i group start readers only (and_line played command lines) t
same_state i group start readers only played command lines s t quiet none same h =
    subst (λ x. IsSound i group start readers only (and_line played command lines) x) (sym same) (record {
      runs = h.runs;
      identity = h.identity;
      start_is = h.start_is;
      consumers = h.consumers;
      named = h.named;
      forgotten = h.forgotten;
      honest = h.honest;
      matches = matches_stay i.geometry played command lines (entries_of s) none h.matches;
      eight = h.eight;
      followed = followed_stays i played command lines s s only (quiet.joins only, quiet.polls only) refl h.followed;
      reading = readers_stay start readers played command lines s s quiet.reads refl h.reading;
    })

-- the log is another one, which may have forgotten more
abbrev with_stream : ScriptState → List Entry → Stream → ScriptState
with_stream s past l = record s { log = l; past = past }

record IsLogNext (only : ℕ) (s : ScriptState) (past : List Entry) (l : Stream) : Type 0 where
  goes : Goes (world_of (lone only s)) (world_of (lone only (with_stream s past l)))
  identity : l.identity ≡ s.log.identity
  start : l.start ≡ s.log.start
  consumers : l.consumers ≡ s.log.consumers
  forgotten : AllByRecursion (λ e. e.start < l.cleaned) past

log_line : (i : Identity) (group : Option ℕ) (start readers only : ℕ) (played : List Played) (command : CommandContent) (lines : List LineContent) (s : ScriptState) (past : List Entry) (l : Stream) → IsQuiet command lines → IsLogNext only s past l → Matches (past ++ l.entries) (visible.published i.geometry (and_line played command lines)) → IsSound i group start readers only played s → IsSound i group start readers only (and_line played command lines) (with_stream s past l)
log_line i group start readers only played command lines s past l quiet n all h =
    let t = with_stream s past l in
    record {
      runs = goes_on (world_of (opened_state i group start readers)) (world_of (lone only s)) (world_of (lone only t)) h.runs n.goes;
      identity = n.identity ∙ h.identity;
      start_is = n.start ∙ h.start_is;
      consumers = n.consumers ∙ h.consumers;
      named = h.named;
      forgotten = n.forgotten;
      honest = h.honest;
      matches = all;
      eight = h.eight;
      followed = followed_stays i played command lines s t only (quiet.joins only, quiet.polls only) refl h.followed;
      reading = readers_stay start readers played command lines s t quiet.reads refl h.reading;
    }

pub connect_line : (i : Identity) (group : Option ℕ) (start readers only : ℕ) (played : List Played) (command : CommandContent) (lines : List LineContent) (s : ScriptState) (on : Bool) → IsQuiet command lines → SaysNoRange command lines → IsSound i group start readers only played s → IsSound i group start readers only (and_line played command lines) (with_log s (record s.log { connected = on }))
connect_line i group start readers only played command lines s on quiet none h =
    log_line i group start readers only played command lines s s.past (record s.log { connected = on }) quiet (record { goes = connects (lone only s) on; identity = refl; start = refl; consumers = refl; forgotten = h.forgotten }) (matches_stay i.geometry played command lines (entries_of s) none h.matches) h

pub close_line : (i : Identity) (group : Option ℕ) (start readers only : ℕ) (played : List Played) (lines : List LineContent) (s : ScriptState) → IsSound i group start readers only played s → IsSound i group start readers only (and_line played commands.Close lines) (with_log s (record s.log { closed = true }))
close_line i group start readers only played lines s h =
    log_line i group start readers only played commands.Close lines s s.past (record s.log { closed = true }) (record { joins = λ k. refl; polls = λ k. refl; reads = λ k. (refl, refl) }) (record { goes = closes (lone only s); identity = refl; start = refl; consumers = refl; forgotten = h.forgotten }) (matches_stay i.geometry played commands.Close lines (entries_of s) (λ g ranges. refl) h.matches) h

pub limit_line : (i : Identity) (group : Option ℕ) (start readers only : ℕ) (played : List Played) (lines : List LineContent) (s t : ScriptState) → IsSound i group start readers only played s → Limits s lines t → IsSound i group start readers only (and_line played commands.Limit lines) t
limit_line i group start readers only played lines s t h m =
    let past = s.past ++ forgotten_below (clean_end s.log) s.log.entries in
    let l = cleaned_and_limited s.log in
    let entries : past ++ l.entries ≡ entries_of s = limit_entries s.past s.log m.legal in
    subst (λ x. IsSound i group start readers only (and_line played commands.Limit lines) x) (sym m.new_is)
    (log_line i group start readers only played commands.Limit lines s past l (record { joins = λ k. refl; polls = λ k. refl; reads = λ k. (refl, refl) }) (record { goes = limits (lone only s) m.legal h.consumers; identity = refl; start = refl; consumers = refl; forgotten = limit_forgotten s m.legal h.consumers h.forgotten })
    (matches_stay i.geometry played commands.Limit lines (past ++ l.entries) (λ g ranges. refl) (subst (λ es. Matches es (visible.published i.geometry played)) (sym entries) h.matches)) h)

-- ---- an offer or a claim

-- the log turns to its next term, or not
turned_next : (only : ℕ) (s : ScriptState) (l : Stream) → IsLogNext only s s.past l → IsLogNext only s s.past (turned l)
turned_next only s l n = record {
  goes = subst (λ x. Goes (world_of (lone only s)) (record (world_of (lone only s)) { log = x })) (sym (turned_same (model_log s.past s.readers) (λ k x. refl) l)) n.goes;
  identity = turned_same (λ k. k.identity) (λ k x. refl) l ∙ n.identity;
  start = turned_same (λ k. k.start) (λ k x. refl) l ∙ n.start;
  consumers = turned_same (λ k. k.consumers) (λ k x. refl) l ∙ n.consumers;
  forgotten = subst (λ c. AllByRecursion (λ e. e.start < c) s.past) (sym (turned_same (λ k. k.cleaned) (λ k x. refl) l)) n.forgotten;
}

turned_entries : (l : Stream) → (turned l).entries ≡ l.entries
turned_entries l = turned_same (λ k. k.entries) (λ k x. refl) l

-- what the line says of a course, where the log becomes this one if it fits
record FitsSo (i : Identity) (only : ℕ) (played : List Played) (s : ScriptState) (fitting : Stream) (command : CommandContent) (lines : List LineContent) : Type 0 where
  next : IsLogNext only s s.past fitting
  matches : Matches (s.past ++ fitting.entries) (visible.published i.geometry (and_line played command lines))

abbrev Said : Identity → ℕ → List Played → ScriptState → Stream → CommandContent → List LineContent → OfferCase → Type 0
Said i only played s fitting command lines Fits = FitsSo i only played s fitting command lines
Said i only played s fitting command lines other = SaysNoRange command lines

-- who adds, and how much
record MayAdd (l : Stream) (by size : ℕ) : Type 0 where
  legal : IsStream l
  publisher : by < 8
  short : size ≤ max_message l.identity.geometry

taken_line : Laws → (i : Identity) (group : Option ℕ) (start readers only : ℕ) (played : List Played) (s : ScriptState) (by size : ℕ) (fitting : Stream) (command : CommandContent) (lines : List LineContent) (c : OfferCase) → Begins i start → IsQuiet command lines → IsSound i group start readers only played s → MayAdd s.log by size → case_of s.log size ≡ c → Said i only played s fitting command lines c → IsSound i group start readers only (and_line played command lines) (with_log s (after s.log by c fitting))
taken_line laws i group start readers only played s by size fitting command lines IsClosed b quiet h may e none = same_state i group start readers only played command lines s s quiet none refl h
taken_line laws i group start readers only played s by size fitting command lines IsLimited b quiet h may e none = same_state i group start readers only played command lines s s quiet none refl h
taken_line laws i group start readers only played s by size fitting command lines IsUsedUp b quiet h may e none =
    let l = turned s.log in
    let same : entries_of (with_log s l) ≡ entries_of s = ap (λ es. s.past ++ es) (turned_entries s.log) in
    log_line i group start readers only played command lines s s.past l quiet (turned_next only s s.log (record { goes = stays (world_of (lone only s)) (world_of (lone only s)) refl; identity = refl; start = refl; consumers = refl; forgotten = h.forgotten }))
    (matches_stay i.geometry played command lines (entries_of (with_log s l)) none (subst (λ es. Matches es (visible.published i.geometry played)) (sym same) h.matches)) h
taken_line laws i group start readers only played s by size fitting command lines Fits b quiet h may e says = log_line i group start readers only played command lines s s.past fitting quiet says.next says.matches h
taken_line laws i group start readers only played s by size fitting command lines Trips b quiet h may e none =
    let n = room s.log in
    let l = with_padding s.log by n in
    let one = trips_one s.past s.readers s.log by size may.legal may.publisher may.short e in
    let next : IsLogNext only s s.past l = record {
      goes = trips (lone only s) by size n l.tail (holds laws i group start readers only played s b h) one refl;
      identity = refl;
      start = refl;
      consumers = refl;
      forgotten = h.forgotten;
    } in
    let entries : s.past ++ (turned l).entries ≡ entries_of s ++ padded s.log.tail by n ∷ [] = ap (λ es. s.past ++ es) (turned_entries l) ∙ sym (append_assoc s.past s.log.entries (padded s.log.tail by n ∷ [])) in
    log_line i group start readers only played command lines s s.past (turned l) quiet (turned_next only s l next)
    (matches_stay i.geometry played command lines (s.past ++ (turned l).entries) none (subst (λ es. Matches es (visible.published i.geometry played)) (sym entries) (matches_padding (entries_of s) (visible.published i.geometry played) (padded s.log.tail by n) refl h.matches))) h

-- one entry and its range more
added_matches : (i : Identity) (group : Option ℕ) (start readers only : ℕ) (played : List Played) (s : ScriptState) (command : CommandContent) (lines : List LineContent) (e : Entry) (r : Range) → ((ranges : List Range) → ranges_after i.geometry ranges command lines ≡ ranges ++ r ∷ []) → SameRange e r → IsSound i group start readers only played s → Matches (s.past ++ (s.log.entries ++ e ∷ [])) (visible.published i.geometry (and_line played command lines))
added_matches i group start readers only played s command lines e r line same h =
    let ranges = visible.published i.geometry played in
    subst (λ es. Matches es (visible.published i.geometry (and_line played command lines))) (append_assoc s.past s.log.entries (e ∷ []))
    (subst (Matches (entries_of s ++ e ∷ [])) (sym (published_more i.geometry played command lines ∙ line ranges)) (matches_more (entries_of s) ranges e r same h.matches))

-- ---- an offer

-- an order that offers this message
abbrev pub OffersIt : CommandContent → List ℕ → Type 0
OffersIt command m = (g : Geometry) (ranges : List Range) (lines : List LineContent) → ranges_after g ranges command lines ≡ ranges ++ flat_map (offers_in g m) lines

offers_none : (command : CommandContent) (m : List ℕ) (line : LineContent) (lines : List LineContent) → OffersIt command m → ((g : Geometry) → offers_in g m line ≡ []) → lines ≡ line ∷ [] → SaysNoRange command lines
offers_none command m line lines is none e g ranges =
    is g ranges lines ∙ ap (λ ls. ranges ++ flat_map (offers_in g m) ls) e ∙ ap (λ xs. ranges ++ (xs ++ [])) (none g) ∙ append-nil ranges

abbrev offered_log : Stream → ℕ → List ℕ → Stream
offered_log l by m = with_message l by m

offer_fits : Laws → (i : Identity) (group : Option ℕ) (start readers only : ℕ) (played : List Played) (s : ScriptState) (by : ℕ) (m : List ℕ) (command : CommandContent) (lines : List LineContent) → Begins i start → OffersIt command m → IsSound i group start readers only played s → MayOffer s.log by m → case_of s.log (length m) ≡ Fits → lines ≡ Position (s.log.tail + covered s.log (length m)) ∷ [] → FitsSo i only played s (offered_log s.log by m) command lines
offer_fits laws i group start readers only played s by m command lines b is h may e line =
    let g = s.log.identity.geometry in
    let end = s.log.tail + covered s.log (length m) in
    let same : g ≡ i.geometry = ap (λ (x : Identity). x.geometry) h.identity in
    let one = fits_one s.past s.readers s.log by (length m) may.legal may.publisher may.short e in
    record {
      next = record {
        goes = offers (lone only s) by m end (holds laws i group start readers only played s b h) one may.bytes refl;
        identity = refl;
        start = refl;
        consumers = refl;
        forgotten = h.forgotten;
      };
      matches = added_matches i group start readers only played s command lines (published g s.log.tail by m) (offered_at g m end)
          (λ ranges. is i.geometry ranges lines ∙ ap (λ ls. ranges ++ flat_map (offers_in i.geometry m) ls) line ∙ ap (λ x. ranges ++ offered_at x m end ∷ []) (sym same))
          (same_offered g s.log.tail by m end may.legal.geometry refl) h;
    }

record OfferSays (i : Identity) (only : ℕ) (played : List Played) (s : ScriptState) (by : ℕ) (m : List ℕ) (command : CommandContent) (lines : List LineContent) (c : OfferCase) (t : ScriptState) : Type 0 where
  said : Said i only played s (offered_log s.log by m) command lines c
  after : t ≡ with_log s (after_offer s.log by m)

offer_says : Laws → (i : Identity) (group : Option ℕ) (start readers only : ℕ) (played : List Played) (s t : ScriptState) (by : ℕ) (m : List ℕ) (command : CommandContent) (lines : List LineContent) (c : OfferCase) → Begins i start → OffersIt command m → IsSound i group start readers only played s → MayOffer s.log by m → case_of s.log (length m) ≡ c → Offered s by m (answer s.log (length m) c) lines t → OfferSays i only played s by m command lines c t
offer_says laws i group start readers only played s t by m command lines IsClosed b is h may e o = record { said = offers_none command m _ lines is (λ g. refl) o.0; after = o.1 }
offer_says laws i group start readers only played s t by m command lines IsUsedUp b is h may e o = record { said = offers_none command m _ lines is (λ g. refl) o.0; after = o.1 }
offer_says laws i group start readers only played s t by m command lines IsLimited b is h may e o = record { said = offers_none command m _ lines is (λ g. refl) o.0; after = o.1 }
offer_says laws i group start readers only played s t by m command lines Fits b is h may e o = record { said = offer_fits laws i group start readers only played s by m command lines b is h may e o.0; after = o.1 }
offer_says laws i group start readers only played s t by m command lines Trips b is h may e o = record { said = offers_none command m _ lines is (λ g. refl) o.0; after = o.1 }

pub offer_line : Laws → (i : Identity) (group : Option ℕ) (start readers only : ℕ) (played : List Played) (s t : ScriptState) (by most size : ℕ) (m : List ℕ) (command : CommandContent) (lines : List LineContent) → Begins i start → IsQuiet command lines → OffersIt command m → IsSound i group start readers only played s → MayNotTake s by most size lines t ⊎ OffersMessage s by m lines t → IsSound i group start readers only (and_line played command lines) t
offer_line laws i group start readers only played s t by most size m command lines b quiet is h (inl bad) =
    same_state i group start readers only played command lines s t quiet (offers_none command m Bad lines is (λ g. refl) bad.1.0) bad.1.1 h
offer_line laws i group start readers only played s t by most size m command lines b quiet is h (inr o) =
    let c = case_of s.log (length m) in
    let says = offer_says laws i group start readers only played s t by m command lines c b is h o.0 refl o.2 in
    subst (λ x. IsSound i group start readers only (and_line played command lines) x) (sym says.after)
    (taken_line laws i group start readers only played s by (length m) (offered_log s.log by m) command lines c b quiet h (record { legal = o.0.legal; publisher = o.0.publisher; short = o.0.short }) refl says.said)

-- ---- a claim

claims_none : (by size : ℕ) (line : LineContent) (lines : List LineContent) → claims_in size line ≡ [] → lines ≡ line ∷ [] → SaysNoRange (commands.Claim by size) lines
claims_none by size line lines none e g ranges = ap (λ ls. ranges ++ flat_map (claims_in size) ls) e ∙ ap (λ xs. ranges ++ (xs ++ [])) none ∙ append-nil ranges

abbrev claimed_log : Stream → ℕ → ℕ → Stream
claimed_log l by size = with_claim l by size

claim_fits : (i : Identity) (group : Option ℕ) (start readers only : ℕ) (played : List Played) (s : ScriptState) (by size : ℕ) (lines : List LineContent) → IsSound i group start readers only played s → MayClaimRange s.log by size → case_of s.log size ≡ Fits → lines ≡ content.Claimed s.log.tail (s.log.tail + covered s.log size) ∷ [] → FitsSo i only played s (claimed_log s.log by size) (commands.Claim by size) lines
claim_fits i group start readers only played s by size lines h may e line =
    let g = s.log.identity.geometry in
    let end = s.log.tail + covered s.log size in
    let short : size ≤ max_message g = message_short g size may.legal.geometry may.short in
    let one = fits_one s.past s.readers s.log by size may.legal may.publisher short e in
    let cuts : cuts_of g size ≡ (size + 32) ∷ [] = short_cuts g size may.short in
    let covers : covered s.log size ≡ aligned (size + 32) = cond-true (nat_le size (max_payload g)) (aligned (size + 32)) (size / max_payload g * g.mtu + rest_length (size % max_payload g)) (le-leb size (max_payload g) may.short) in
    record {
      next = record {
        goes = claims (lone only s) by size false (cuts_of g size) end one (ap (λ n. s.log.tail + n) (sym (covers_framed g size may.legal.geometry)));
        identity = refl;
        start = refl;
        consumers = refl;
        forgotten = h.forgotten;
      };
      matches = added_matches i group start readers only played s (commands.Claim by size) lines (claim_of g s.log.tail by false size) (claimed_at s.log.tail end size)
          (λ ranges. ap (λ ls. ranges ++ flat_map (claims_in size) ls) line)
          (subst (λ xs. SameRange (open_entry s.log.tail by false xs []) (claimed_at s.log.tail end size)) (sym cuts) (same_claimed s.log.tail by size end (ap (λ n. s.log.tail + n) covers))) h;
    }

record ClaimSays (i : Identity) (only : ℕ) (played : List Played) (s : ScriptState) (by size : ℕ) (lines : List LineContent) (c : OfferCase) (t : ScriptState) : Type 0 where
  said : Said i only played s (claimed_log s.log by size) (commands.Claim by size) lines c
  after : t ≡ with_log s (after_claim s.log by size)

claim_says : (i : Identity) (group : Option ℕ) (start readers only : ℕ) (played : List Played) (s t : ScriptState) (by size : ℕ) (lines : List LineContent) (c : OfferCase) → IsSound i group start readers only played s → MayClaimRange s.log by size → case_of s.log size ≡ c → Claims s by size (answer s.log size c) lines t → ClaimSays i only played s by size lines c t
claim_says i group start readers only played s t by size lines IsClosed h may e o = record { said = claims_none by size _ lines refl o.0; after = o.1 }
claim_says i group start readers only played s t by size lines IsUsedUp h may e o = record { said = claims_none by size _ lines refl o.0; after = o.1 }
claim_says i group start readers only played s t by size lines IsLimited h may e o = record { said = claims_none by size _ lines refl o.0; after = o.1 }
claim_says i group start readers only played s t by size lines Fits h may e o = record { said = claim_fits i group start readers only played s by size lines h may e o.0; after = o.1 }
claim_says i group start readers only played s t by size lines Trips h may e o = record { said = claims_none by size _ lines refl o.0; after = o.1 }

pub claim_line : Laws → (i : Identity) (group : Option ℕ) (start readers only : ℕ) (played : List Played) (s t : ScriptState) (by most size : ℕ) (lines : List LineContent) → Begins i start → IsSound i group start readers only played s → MayNotTake s by most size lines t ⊎ ClaimsRange s by size lines t → IsSound i group start readers only (and_line played (commands.Claim by size) lines) t
claim_line laws i group start readers only played s t by most size lines b h (inl bad) =
    same_state i group start readers only played (commands.Claim by size) lines s t (record { joins = λ k. refl; polls = λ k. refl; reads = λ k. (refl, refl) }) (claims_none by size Bad lines refl bad.1.0) bad.1.1 h
claim_line laws i group start readers only played s t by most size lines b h (inr o) =
    let c = case_of s.log size in
    let command = commands.Claim by size in
    let says = claim_says i group start readers only played s t by size lines c h o.0 refl o.2 in
    let short : size ≤ max_message s.log.identity.geometry = message_short s.log.identity.geometry size o.0.legal.geometry o.0.short in
    subst (λ x. IsSound i group start readers only (and_line played command lines) x) (sym says.after)
    (taken_line laws i group start readers only played s by size (claimed_log s.log by size) command lines c b (record { joins = λ k. refl; polls = λ k. refl; reads = λ k. (refl, refl) }) h (record { legal = o.0.legal; publisher = o.0.publisher; short = short }) refl says.said)

-- ---- a claim's commit or abort

open_at : (cs : List (Option OpenClaim)) (k : ℕ) (c : OpenClaim) → slice_index_or cs k None ≡ Some c → slice_get cs k ≡ Some (Some c)
open_at [] k c e = absurd (cc)
open_at (x ∷ xs) zero c e = ap Some e
open_at (x ∷ xs) (suc k) c e = open_at xs k c e

-- its entry is there, and nothing of it is committed
record IsKept (s : ScriptState) (by : ℕ) (c : OpenClaim) : Type 0 where
  kept : Among (one_cut c.start by c.size []) s.log.entries
  among : Among (one_cut c.start by c.size []) (entries_of s)

pub kept_claim : (s : ScriptState) (by : ℕ) (c : OpenClaim) → HasClaim s by c → Among (one_cut c.start by c.size []) s.log.entries
kept_claim s by c h =
    let k : IsOpenClaim s.log by c = h.legal.claims by c (open_at s.log.claims by c h.open_claim) in
    subst (λ cuts. Among (open_entry c.start by false cuts []) s.log.entries) (short_cuts s.log.identity.geometry c.size k.short) k.entry

is_kept : (s : ScriptState) (by : ℕ) (c : OpenClaim) → HasClaim s by c → IsKept s by c
is_kept s by c h = let kept = kept_claim s by c h in record { kept = kept; among = among_right (one_cut c.start by c.size []) s.past s.log.entries kept }

abbrev filling : OpenClaim → Frame
filling c = Data 192 (replicate c.size 97)

-- what starts before an entry stays where only that is changed
past_stays : (g : Entry → Entry) (term p tail : ℕ) (past es : List Entry) (e : Entry) → IsOnlyAt e.start g → Tiles term p tail (past ++ es) → AllByRecursion IsEntry (past ++ es) → Among e es → map g past ≡ past
past_stays g term p tail [] es e only t all h = refl
past_stays g term p tail (x ∷ xs) es e only t all h =
    let later : entry_end x ≤ e.start = entry_from term (entry_end x) tail (xs ++ es) e t.2 (among_right e xs es h) in
    ap (λ y. y ∷ map g xs) (only x (λ same. absurd (omega (arith, same, all.0.long, later))))
    ∙ ap (λ ys. x ∷ ys) (past_stays g term (entry_end x) tail xs es e only t.2 all.1 h)

changed_entries : (g : Entry → Entry) (s : ScriptState) (by : ℕ) (c : OpenClaim) → IsOnlyAt c.start g → LogHolds s.past s.log → IsKept s by c → s.past ++ map g s.log.entries ≡ map g (entries_of s)
changed_entries g s by c only holds k =
    ap (λ xs. xs ++ map g s.log.entries) (sym (past_stays g s.log.identity.geometry.term_length s.log.start s.log.tail s.past s.log.entries (one_cut c.start by c.size []) only holds.tiles holds.entries k.kept))
    ∙ sym (map-append g s.past s.log.entries)

committed_entries : (s : ScriptState) (by : ℕ) (c : OpenClaim) → LogHolds s.past s.log → IsKept s by c → s.past ++ (with_commit s.log by c (replicate c.size 97)).entries ≡ map (with_frame c.start (filling c)) (entries_of s)
committed_entries s by c holds k = changed_entries (with_frame c.start (filling c)) s by c (frame_only c.start (filling c)) holds k

aborted_entries : (s : ScriptState) (by : ℕ) (c : OpenClaim) → LogHolds s.past s.log → IsKept s by c → s.past ++ (with_abort s.log by c).entries ≡ map (aborted_at c.start) (entries_of s)
aborted_entries s by c holds k = changed_entries (aborted_at c.start) s by c (abort_only c.start) holds k

abbrev with_entries : ScriptState → List Entry → model.Log
with_entries s es = record (model_log s.past s.readers s.log) { entries = es }

commits_claim : (s : ScriptState) (by : ℕ) (c : OpenClaim) → LogHolds s.past s.log → IsKept s by c → Goes (world_of s) (world_of (with_log s (with_commit s.log by c (replicate c.size 97))))
commits_claim s by c holds k =
    let w = world_of s in
    let f = filling c in
    let l = with_entries s (map (with_frame c.start f) (entries_of s)) in
    subst (λ es. Goes w (record w { log = with_entries s es })) (sym (committed_entries s by c holds k))
    (at_log w (Commit c.start f) l (
      record {
        entry = one_cut c.start by c.size [];
        among = k.among;
        here = refl;
        frames = ((refl, omega (arith, length-replicate {A = ℕ} c.size 97)), tt);
        bytes = all_replicate (λ b. b < 256) c.size 97 (omega arith);
      },
      refl,
    ))

aborts_claim : (s : ScriptState) (by : ℕ) (c : OpenClaim) → LogHolds s.past s.log → IsKept s by c → Goes (world_of s) (world_of (with_log s (with_abort s.log by c)))
aborts_claim s by c holds k =
    let w = world_of s in
    let l = with_entries s (map (aborted_at c.start) (entries_of s)) in
    subst (λ es. Goes w (record w { log = with_entries s es })) (sym (aborted_entries s by c holds k))
    (at_log w (Abort c.start) l (
      record {
        entry = one_cut c.start by c.size [];
        among = k.among;
        here = refl;
        open_message = refl;
        untouched = refl;
        cut = c.size + 32;
        single = refl;
      },
      refl,
    ))

bad_commit : (by : ℕ) (lines : List LineContent) → lines ≡ Bad ∷ [] → SaysNoRange (commands.Commit by) lines
bad_commit by lines e g ranges = ap (λ ls. fold filled_by ranges ls) e

pub commit_line : Laws → (i : Identity) (group : Option ℕ) (start readers only : ℕ) (played : List Played) (s t : ScriptState) (by : ℕ) (lines : List LineContent) → Begins i start → IsSound i group start readers only played s → HasNoClaim s by lines t ⊎ CommitsClaim s by lines t → IsSound i group start readers only (and_line played (commands.Commit by) lines) t
commit_line laws i group start readers only played s t by lines b h (inl bad) =
    same_state i group start readers only played (commands.Commit by) lines s t (record { joins = λ k. refl; polls = λ k. refl; reads = λ k. (refl, refl) }) (bad_commit by lines bad.1.0) bad.1.1 h
commit_line laws i group start readers only played s t by lines b h (inr m) =
    let c = m.0 in
    let command = commands.Commit by in
    let l = with_commit s.log by c (replicate c.size 97) in
    let all = holds laws i group start readers only played s b h in
    let k = is_kept s by c m.1 in
    let ranges = visible.published i.geometry played in
    let line : visible.published i.geometry (and_line played command lines) ≡ map (filled_at (c.start + aligned (c.size + 32))) ranges = published_more i.geometry played command lines ∙ ap (λ ls. fold filled_by ranges ls) m.2 in
    let matches : Matches (s.past ++ l.entries) (visible.published i.geometry (and_line played command lines)) =
    subst (λ es. Matches es (visible.published i.geometry (and_line played command lines))) (sym (committed_entries s by c all k))
    (subst (Matches (map (with_frame c.start (filling c)) (entries_of s))) (sym line)
    (matches_commit s.log.identity.geometry.term_length s.log.start s.log.tail (entries_of s) ranges c.start by c.size all.tiles all.entries k.among h.matches)) in
    subst (λ x. IsSound i group start readers only (and_line played command lines) x) (sym m.3)
    (log_line i group start readers only played command lines s s.past l (record { joins = λ k. refl; polls = λ k. refl; reads = λ k. (refl, refl) }) (record { goes = commits_claim (lone only s) by c all (record { kept = k.kept; among = k.among }); identity = refl; start = refl; consumers = refl; forgotten = h.forgotten }) matches h)

pub abort_line : Laws → (i : Identity) (group : Option ℕ) (start readers only : ℕ) (played : List Played) (s t : ScriptState) (by : ℕ) (lines : List LineContent) → Begins i start → IsSound i group start readers only played s → HasNoClaim s by lines t ⊎ AbortsClaim s by lines t → IsSound i group start readers only (and_line played (commands.Abort by) lines) t
abort_line laws i group start readers only played s t by lines b h (inl bad) =
    same_state i group start readers only played (commands.Abort by) lines s t (record { joins = λ k. refl; polls = λ k. refl; reads = λ k. (refl, refl) }) (λ g ranges. refl) bad.1.1 h
abort_line laws i group start readers only played s t by lines b h (inr m) =
    let c = m.0 in
    let command = commands.Abort by in
    let l = with_abort s.log by c in
    let all = holds laws i group start readers only played s b h in
    let k = is_kept s by c m.1 in
    let ranges = visible.published i.geometry played in
    let matches : Matches (s.past ++ l.entries) ranges =
    subst (λ es. Matches es ranges) (sym (aborted_entries s by c all k))
    (matches_abort s.log.identity.geometry.term_length s.log.start s.log.tail (entries_of s) ranges c.start by c.size all.tiles all.entries k.among h.matches) in
    subst (λ x. IsSound i group start readers only (and_line played command lines) x) (sym m.3)
    (log_line i group start readers only played command lines s s.past l (record { joins = λ k. refl; polls = λ k. refl; reads = λ k. (refl, refl) }) (record { goes = aborts_claim (lone only s) by c all (record { kept = k.kept; among = k.among }); identity = refl; start = refl; consumers = refl; forgotten = h.forgotten }) (matches_stay i.geometry played command lines (s.past ++ l.entries) (λ g rs. refl) matches) h)

pub missing_line : (i : Identity) (group : Option ℕ) (start readers only : ℕ) (played : List Played) (command : CommandContent) (k : ℕ) (lines : List LineContent) (s t : ScriptState) → IsQuiet command lines → SaysNoRange command lines → IsSound i group start readers only played s → IsMissing s k lines t → IsSound i group start readers only (and_line played command lines) t
missing_line i group start readers only played command k lines s t quiet none h m = same_state i group start readers only played command lines s t quiet none m.2 h
