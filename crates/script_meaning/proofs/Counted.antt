-- After each line of a script, the shares of the log are those of all its entries.
use Rattle.std.proofs.Common.{◌≡◌, ◌⊎◌, ℕ, ◌+◌, ◌<◌, List, [], ◌∷◌, ◌++◌, map, length, true, false, cond, inl, inr, ⊎_elim, refl, sym, ap, ◌∙◌, subst, arith, append_assoc}
use Rattle.std.specs.Prelude.{◌==◌, replicate, slice_index}
use Rattle.std.proofs.lemmas.Bool.{cases_Bool, eqb-true, eqb-false}
use Rattle.std.proofs.lemmas.List.{ext_get_or, get_or-replicate, get_or-set_other, get_or-set_same}
use Rattle.theory.specs.Position.{max_message, max_payload}
use Rattle.theory.specs.Placed.{Data}
use Rattle.theory.specs.Entry.{Entry, length_of}
use Rattle.theory.specs.Tiling.{share_of}
use Rattle.theory.proofs.Claims.{covers_framed}
use Rattle.model.proofs.Shares.{share-push}
use Rattle.theory.proofs.Tiling.{share-cons}
use Rattle.one_hand.specs.Entries.{claim_of, padded, published, with_share}
use Rattle.one_hand.specs.Stream.{Fits, IsClosed, IsLimited, IsUsedUp, OfferCase, Stream, Trips, aborted_at, after, after_claim, after_offer, answer, case_of, room, turned, with_claim, with_frame, with_message, with_padding}
use Rattle.script.specs.Meaning as commands
use Rattle.script.specs.Meaning.{CommandContent}
use Rattle.script_meaning.specs.Answers.{AbortsClaim, Answers, Claims, ClaimsRange, CommitsClaim, HasNoClaim, Limits, MayNotTake, OffersMessage, Offered, SenderHears, with_log}
use Rattle.sender.specs.Cycling.{AsksSetup, Misses, NewsContent, Says, TellsNothing, Unreadable}
use Rattle.script_meaning.specs.Output.{AlwaysCounted, AnswersAll, HasOneBook, PrintsBook, identity_of}
use Rattle.script_meaning.specs.LineContents.{LineContent, Shares}
use Rattle.script_meaning.specs.Published.{Played}
use Rattle.script_meaning.specs.ScriptState.{ScriptState, entries_of, opened_state}
use Rattle.script_meaning.proofs.OfferRuns.{turned_same}
use Rattle.script_meaning.proofs.SenderRuns.{limit_entries}

-- ---- one entry more

share_set : (xs : List ℕ) (by k n : ℕ) → by < length xs → slice_index (with_share xs by n) k ≡ slice_index xs k + cond (by == k) n 0
share_set xs by k n low =
    ⊎_elim
    (λ (t : (by == k) ≡ true).
    let same : by ≡ k = eqb-true by k t in
    subst (λ j. slice_index (with_share xs by n) j ≡ slice_index xs j + n) same (get_or-set_same xs by (slice_index xs by + n) 0 low) ∙ ap (λ b. slice_index xs k + cond b n 0) (sym t))
    (λ (f : (by == k) ≡ false). get_or-set_other xs by k (slice_index xs by + n) 0 (λ e. eqb-false by k f (sym e)) ∙ omega arith ∙ ap (λ b. slice_index xs k + cond b n 0) (sym f))
    (cases_Bool (by == k))

-- ---- what is counted

-- the shares are those of all entries
abbrev Counts : List ℕ → List Entry → Type 0
Counts shares es = (k : ℕ) → k < 8 → slice_index shares k ≡ share_of k es

abbrev IsCounted : ScriptState → Type 0
IsCounted s = Counts s.log.shares (entries_of s)

counts_more : (shares : List ℕ) (past es : List Entry) (e : Entry) → length shares ≡ 8 → e.owner < 8 → Counts shares (past ++ es) → Counts (with_share shares e.owner (length_of e)) (past ++ (es ++ e ∷ []))
counts_more shares past es e eight who h k low =
    share_set shares e.owner k (length_of e) (omega (arith, who, eight))
    ∙ ap (λ n. n + cond (e.owner == k) (length_of e) 0) (h k low)
    ∙ sym (share-push k (past ++ es) e)
    ∙ ap (share_of k) (append_assoc past es (e ∷ []))

-- ---- an offer or a claim

turned_counts : (past : List Entry) (l : Stream) → Counts l.shares (past ++ l.entries) → Counts (turned l).shares (past ++ (turned l).entries)
turned_counts past l h =
    subst (λ xs. Counts xs (past ++ (turned l).entries)) (sym (turned_same (λ k. k.shares) (λ k x. refl) l))
    (subst (λ es. Counts l.shares (past ++ es)) (sym (turned_same (λ k. k.entries) (λ k x. refl) l)) h)

-- where it fits, the log is this one
case_counts : (past : List Entry) (l : Stream) (by : ℕ) (c : OfferCase) (fitting : Stream) → length l.shares ≡ 8 → by < 8 → Counts l.shares (past ++ l.entries) → Counts fitting.shares (past ++ fitting.entries) → Counts (after l by c fitting).shares (past ++ (after l by c fitting).entries)
case_counts past l by IsClosed fitting eight who h fits = h
case_counts past l by IsLimited fitting eight who h fits = h
case_counts past l by IsUsedUp fitting eight who h fits = turned_counts past l h
case_counts past l by Fits fitting eight who h fits = fits
case_counts past l by Trips fitting eight who h fits =
    let n = room l in
    let e = padded l.tail by n in
    turned_counts past (with_padding l by n)
    (subst (λ n. Counts (with_share l.shares by n) (past ++ (l.entries ++ e ∷ []))) (omega arith) (counts_more l.shares past l.entries e eight who h))

offered_state : (s t : ScriptState) (by : ℕ) (m : List ℕ) (lines : List LineContent) (c : OfferCase) → Offered s by m (answer s.log (length m) c) lines t → t ≡ with_log s (after_offer s.log by m)
offered_state s t by m lines IsClosed o = o.1
offered_state s t by m lines IsUsedUp o = o.1
offered_state s t by m lines IsLimited o = o.1
offered_state s t by m lines Fits o = o.1
offered_state s t by m lines Trips o = o.1

offer_line : (s t : ScriptState) (by most size : ℕ) (m : List ℕ) (lines : List LineContent) → MayNotTake s by most size lines t ⊎ OffersMessage s by m lines t → IsCounted s → IsCounted t
offer_line s t by most size m lines (inl bad) h = subst IsCounted (sym bad.1.1) h
offer_line s t by most size m lines (inr o) h =
    let l = s.log in
    let n = length m in
    let e = published l.identity.geometry l.tail by m in
    let fitting = with_message l by m in
    let fits : Counts fitting.shares (s.past ++ fitting.entries) =
    subst (λ x. Counts (with_share l.shares by x) (s.past ++ (l.entries ++ e ∷ []))) (covers_framed l.identity.geometry n o.0.legal.geometry) (counts_more l.shares s.past l.entries e o.0.legal.eight o.0.publisher h) in
    subst IsCounted (sym (offered_state s t by m lines (case_of l n) o.2)) (case_counts s.past l by (case_of l n) fitting o.0.legal.eight o.0.publisher h fits)

claimed_state : (s t : ScriptState) (by size : ℕ) (lines : List LineContent) (c : OfferCase) → Claims s by size (answer s.log size c) lines t → t ≡ with_log s (after_claim s.log by size)
claimed_state s t by size lines IsClosed o = o.1
claimed_state s t by size lines IsUsedUp o = o.1
claimed_state s t by size lines IsLimited o = o.1
claimed_state s t by size lines Fits o = o.1
claimed_state s t by size lines Trips o = o.1

claim_line : (s t : ScriptState) (by most size : ℕ) (lines : List LineContent) → MayNotTake s by most size lines t ⊎ ClaimsRange s by size lines t → IsCounted s → IsCounted t
claim_line s t by most size lines (inl bad) h = subst IsCounted (sym bad.1.1) h
claim_line s t by most size lines (inr o) h =
    let l = s.log in
    let e = claim_of l.identity.geometry l.tail by false size in
    let fitting = with_claim l by size in
    let fits : Counts fitting.shares (s.past ++ fitting.entries) =
    subst (λ x. Counts (with_share l.shares by x) (s.past ++ (l.entries ++ e ∷ []))) (covers_framed l.identity.geometry size o.0.legal.geometry) (counts_more l.shares s.past l.entries e o.0.legal.eight o.0.publisher h) in
    subst IsCounted (sym (claimed_state s t by size lines (case_of l size) o.2))
    (case_counts s.past l by (case_of l size) fitting o.0.legal.eight o.0.publisher h fits)

-- ---- a claim's commit or abort

-- entries that keep owner and length
share_map : (k : ℕ) (g : Entry → Entry) (es : List Entry) → ((e : Entry) → (g e).owner ≡ e.owner) → ((e : Entry) → length_of (g e) ≡ length_of e) → share_of k (map g es) ≡ share_of k es
share_map k g [] owner long = refl
share_map k g (e ∷ es) owner long =
    share-cons k (g e) (map g es)
    ∙ ap (λ n. cond ((g e).owner == k) (length_of (g e)) 0 + n) (share_map k g es owner long)
    ∙ ap (λ o. cond (o == k) (length_of (g e)) 0 + share_of k es) (owner e)
    ∙ ap (λ n. cond (e.owner == k) n 0 + share_of k es) (long e)
    ∙ sym (share-cons k e es)

share_behind : (k : ℕ) (past es others : List Entry) → share_of k others ≡ share_of k es → share_of k (past ++ others) ≡ share_of k (past ++ es)
share_behind k [] es others same = same
share_behind k (e ∷ past) es others same = omega (arith, share-cons k e (past ++ others), share_behind k past es others same, share-cons k e (past ++ es))

map_counts : (s : ScriptState) (g : Entry → Entry) → ((e : Entry) → (g e).owner ≡ e.owner) → ((e : Entry) → length_of (g e) ≡ length_of e) → IsCounted s → Counts s.log.shares (s.past ++ map g s.log.entries)
map_counts s g owner long h k low = h k low ∙ sym (share_behind k s.past s.log.entries (map g s.log.entries) (share_map k g s.log.entries owner long))

commit_line : (s t : ScriptState) (by : ℕ) (lines : List LineContent) → HasNoClaim s by lines t ⊎ CommitsClaim s by lines t → IsCounted s → IsCounted t
commit_line s t by lines (inl bad) h = subst IsCounted (sym bad.1.1) h
commit_line s t by lines (inr m) h = subst IsCounted (sym m.3) (map_counts s (with_frame m.0.start (Data 192 (replicate m.0.size 97))) (λ e. refl) (λ e. refl) h)

abort_line : (s t : ScriptState) (by : ℕ) (lines : List LineContent) → HasNoClaim s by lines t ⊎ AbortsClaim s by lines t → IsCounted s → IsCounted t
abort_line s t by lines (inl bad) h = subst IsCounted (sym bad.1.1) h
abort_line s t by lines (inr m) h = subst IsCounted (sym m.3) (map_counts s (aborted_at m.0.start) (λ e. refl) (λ e. refl) h)

-- ---- the other lines

limit_line : (s t : ScriptState) (lines : List LineContent) → Limits s lines t → IsCounted s → IsCounted t
limit_line s t lines m h = subst IsCounted (sym m.new_is) (subst (Counts s.log.shares) (sym (limit_entries s.past s.log m.legal)) h)

hears_line : (s t : ScriptState) (now : ℕ) (news : NewsContent) (lines : List LineContent) → SenderHears s now news lines t → IsCounted s → IsCounted t
hears_line s t now (Says f) lines m h = subst IsCounted (sym m.1) h
hears_line s t now AsksSetup lines m h = subst IsCounted (sym m.1) h
hears_line s t now (Misses f) lines m h = subst IsCounted (sym m.3) h
hears_line s t now TellsNothing lines m h = subst IsCounted (sym m.1) h
hears_line s t now (Unreadable fault) lines m h = subst IsCounted (sym m.1) h

line_counts : (s t : ScriptState) (command : CommandContent) (lines : List LineContent) → Answers s command lines t → IsCounted s → IsCounted t
line_counts s t (commands.Group size) lines m h = subst IsCounted (sym m.1) h
line_counts s t commands.Connect lines m h = subst IsCounted (sym m.1) h
line_counts s t commands.Disconnect lines m h = subst IsCounted (sym m.1) h
line_counts s t commands.Close lines m h = subst IsCounted (sym m.1) h
line_counts s t commands.Limit lines m h = limit_line s t lines m h
line_counts s t (commands.Offer by message) lines m h = offer_line s t by (max_message s.log.identity.geometry) (length message) message lines m h
line_counts s t (commands.OfferSize by size) lines m h = offer_line s t by (max_message s.log.identity.geometry) size (replicate size 97) lines m h
line_counts s t (commands.Claim by size) lines m h = claim_line s t by (max_payload s.log.identity.geometry) size lines m h
line_counts s t (commands.Commit by) lines m h = commit_line s t by lines m h
line_counts s t (commands.Abort by) lines m h = abort_line s t by lines m h
line_counts s t (commands.Read r) lines (inl m) h = subst IsCounted (sym m.1.1) h
line_counts s t (commands.Read r) lines (inr (inl m)) h = subst IsCounted (sym m.4) h
line_counts s t (commands.Read r) lines (inr (inr m)) h = subst IsCounted (sym m.6) h
line_counts s t (commands.Join r) lines (inl m) h = subst IsCounted (sym m.1.1) h
line_counts s t (commands.Join r) lines (inr m) h = subst IsCounted (sym m.new_is) h
line_counts s t (commands.Leave r) lines (inl m) h = subst IsCounted (sym m.1.1) h
line_counts s t (commands.Leave r) lines (inr m) h = subst IsCounted (sym m.3) h
line_counts s t (commands.Send now) lines m h = subst IsCounted (sym m.3) h
line_counts s t (commands.Deliver k i now) lines (inl m) h = subst IsCounted (sym m.2) h
line_counts s t (commands.Deliver k i now) lines (inr m) h = subst IsCounted (sym m.2.6) h
line_counts s t (commands.Raw i now bytes) lines m h = subst IsCounted (sym m.6) h
line_counts s t (commands.Tick i now) lines m h = subst IsCounted (sym m.4) h
line_counts s t (commands.Reply k now) lines (inl m) h = subst IsCounted (sym m.2) h
line_counts s t (commands.Reply k now) lines (inr m) h = hears_line s t now m.2.0 lines m.2.2 h
line_counts s t (commands.RawBack now bytes) lines m h = hears_line s t now m.0 lines m.2 h
line_counts s t (commands.Poll i) lines m h = subst IsCounted (sym m.6) h
line_counts s t (commands.Image i) lines m h = subst IsCounted (sym m.5) h

all_count : (s last : ScriptState) (played : List Played) → AnswersAll s played last → IsCounted s → IsCounted last
all_count s last [] m h = subst IsCounted (sym m) h
all_count s last (p ∷ ps) m h = all_count m.0 last ps m.2 (line_counts s m.0 p.command p.lines m.1 h)

-- where it begins, nothing is claimed
none_yet : Counts (replicate 8 0) []
none_yet k h = get_or-replicate 8 k 0 0 h

pub always_counted : AlwaysCounted
always_counted o group played last m = all_count (opened_state (identity_of o) group o.start o.readers) last played m none_yet

-- ---- the book

shares_agree : (s : ScriptState) (one other : LineContent) (p : PrintsBook s one) (q : PrintsBook s other) → p.shares ≡ q.shares
shares_agree s one other p q = ext_get_or 0 p.shares q.shares (p.eight ∙ sym q.eight) (λ i low. p.each i (subst (λ n. i < n) p.eight low) ∙ sym (q.each i (subst (λ n. i < n) p.eight low)))

pub one_book : HasOneBook
one_book s one other p q = p.shown ∙ ap (Shares s.log.start s.log.tail) (shares_agree s one other p q) ∙ sym q.shown
