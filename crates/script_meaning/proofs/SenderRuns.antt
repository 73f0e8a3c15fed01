-- A sender's cycle, what it is told, and its keeper's calls, as events.
use Rattle.std.proofs.Common.{◌≡◌, ℕ, zero, suc, ◌+◌, ◌-◌, ◌*◌, ◌/◌, ◌%◌, ◌<◌, ◌≤◌, ⊎_elim, List, [], ◌∷◌, ◌++◌, map, Bool, true, false, cond, Option, None, Some, refl, sym, ap, ◌∙◌, subst, arith, append_assoc}
use Rattle.std.specs.Prelude.{max, min, nat_le, not, ◌&&◌}
use Rattle.std.specs.List.{AllByRecursion, fold}
use Rattle.std.proofs.lemmas.Bool.{and_parts, cases_lt, cond-false, cond-true, le-leb, lt-leb, not-true}
use Rattle.std.proofs.lemmas.Grind.{flat_map-append}
use Rattle.theory.specs.Placed.{AllAmong, Among, Chain, Placed, end_of, place_all}
use Rattle.theory.specs.Consumer.{Consumer}
use Rattle.theory.specs.Entry.{Entry, committed, entry_end}
use Rattle.theory.specs.Tiling.{Tiles}
use Rattle.theory.specs.Datagrams.{MayBeSent, frames_of}
use Rattle.theory.specs.Position.{Geometry, position_of}
use Rattle.theory.specs.Resend.{Action, answered, first_due, resent}
use Rattle.theory.specs.Numbered.{Each}
use Rattle.theory.specs.Wire.{Nak, Status}
use Rattle.model.specs.CycleLaws.{MaySend}
use Rattle.model.specs.Log as model
use Rattle.model.specs.Log.{Clean, Close, Connect, Raise}
use Rattle.model.specs.Log.{IsLowest}
use Rattle.model.specs.Sender.{Sender, SenderEvent, SenderStep, in_cycle, sender_limit}
use Rattle.model.specs.Sender.{HearNak, HearStatus, Resend, See, Send, SendSetup}
use Rattle.model.specs.World.{World}
use Rattle.model.specs.World.{AtLog, AtSender}
use Rattle.theory.proofs.Leasts.{fold_each, fold_keeps}
use Rattle.theory.proofs.Lists.{all_append, all_weaker, among_right}
use Rattle.model.proofs.Datagrams.{cycle_sends}
use Rattle.sender.specs.Resending.Handler.{answered_first}
use Rattle.theory.proofs.Places.{power_unit}
use Rattle.one_hand.specs.Legal.{IsStream}
use Rattle.one_hand.specs.Stream.{Stream, clean_end, cleaned_and_limited, forgotten_below, kept_from, least, lowest, raised, standing}
use Rattle.script_meaning.specs.Answers.{IsCycle, after_cycle, again_for, behind_new, clock_at, cycle_limit, end_from, heard, missed, named, place_in, resent_on, sent_on, with_log, woken}
use Rattle.sender.specs.Cycling.{Cycle, GivesNew}
use Rattle.script_meaning.specs.ScriptState.{ScriptState, model_log, seat_of, world_of}
use Rattle.script_meaning.proofs.Runs.{Goes, goes_one, goes_on, stays}

-- the world with another sender
abbrev pub with_sender : World → Sender → World
with_sender w x = record w { sender = x }

-- in a cycle at this moment
abbrev limit_in : World → ℕ → ℕ
limit_in w now = sender_limit w.log.start (in_cycle w.sender (max w.sender.clock now))

pub named_at : (x : Sender) (due : Bool) → (named x due).at ≡ x.at
named_at x true = refl
named_at x false = refl

pub named_clock : (x : Sender) (due : Bool) → (named x due).clock ≡ x.clock
named_clock x true = refl
named_clock x false = refl

-- a SETUP doesn't change how far it may send
named_limit : (start now : ℕ) (x : Sender) (due : Bool) → sender_limit start (in_cycle x now) ≡ sender_limit start (in_cycle (named x due) now)
named_limit start now x true = refl
named_limit start now x false = refl

at_sender : (w : World) (e : SenderEvent) (x : Sender) → SenderStep w.log.identity.geometry w.log.start (committed w.log.entries) w.sender e x → Goes w (with_sender w x)
at_sender w e x step = goes_one w (with_sender w x) (AtSender e) (x, step, refl)

pub sees : (w : World) (now : ℕ) → Goes w (with_sender w (record w.sender { clock = max w.sender.clock now }))
sees w now = at_sender w (See now) (record w.sender { clock = max w.sender.clock now }) refl

pub names : (w : World) (due : Bool) → Goes w (with_sender w (named w.sender due))
names w true = at_sender w SendSetup (named w.sender true) refl
names w false = stays w w refl

pub among_kept : (past es : List Entry) (s : Placed) → Among s (committed es) → Among s (committed (past ++ es))
among_kept past es s h = subst (λ xs. Among s xs) (sym (flat_map-append (λ e. place_all e.start e.frames) past es)) (among_right s (committed past) (committed es) h)

-- frames that follow each other end there
pub chain_end : (at to : ℕ) (frames : List Placed) → Chain at to frames → to ≡ end_from at frames
chain_end at to [] h = h
chain_end at to (s ∷ ss) h = chain_end (end_of s) to ss h.1

pub all_kept : (past es : List Entry) (ss : List Placed) → AllAmong (committed es) ss → AllAmong (committed (past ++ es)) ss
all_kept past es ss h = all_weaker (λ s. Among s (committed es)) (λ s. Among s (committed (past ++ es))) (λ s a. among_kept past es s a) ss h

-- what a cycle sends of the entries that are kept may be sent
pub may_send : (g : Geometry) (frames : List Placed) (at limit : ℕ) (sent : List (List Placed)) → GivesNew g frames at limit sent → MaySend frames at limit (frames_of sent)
may_send g frames at limit sent h = subst (λ ds. MaySend frames at limit (frames_of ds)) (sym h.sent_is) (cycle_sends g frames at h.to limit h.reads h.read.chain h.read.among)

pub sends : (w : World) (past es : List Entry) (limit now clock : ℕ) (frames : List Placed) → w.log.entries ≡ past ++ es → limit ≡ limit_in w now → clock ≡ max w.sender.clock now → MaySend (committed es) w.sender.at limit frames → Goes w (with_sender w (sent_on (in_cycle w.sender clock) frames))
sends w past es limit now clock frames parts l seen may =
    let chain : Chain w.sender.at (end_from w.sender.at frames) frames = subst (λ to. Chain w.sender.at to frames) (chain_end w.sender.at may.to frames may.chain) may.chain in
    at_sender w (Send now frames (end_from w.sender.at frames)) (sent_on (in_cycle w.sender clock) frames) (
      chain,
      subst (λ xs. AllAmong (committed xs) frames) (sym parts) (all_kept past es frames may.among),
      subst (λ x. AllByRecursion (MayBeSent x) frames) l may.allowed,
      ap (λ c. sent_on (in_cycle w.sender c) frames) seen,
    )

-- frames go out again
pub resends : (w : World) (o : Option Action) → first_due w.sender.actions ≡ o → Goes w (with_sender w (resent_on w.sender (frames_of (again_for w.log.identity.geometry w.sender o))))
resends w None due = stays w (with_sender w (resent_on w.sender [])) (ap (λ o. with_sender w (record w.sender { actions = answered_first w.sender.clock w.sender.actions o })) due)
resends w (Some a) due =
    let x = w.sender in
    let frames = resent w.log.identity.geometry x.at x.passed a in
    let clock : x.clock ≡ max x.clock x.clock = omega arith in
    at_sender w (Resend x.clock a frames) (resent_on x frames) (
      due,
      refl,
      ap (λ o. record x { sent = frames ++ x.sent; actions = answered_first x.clock x.actions o }) due ∙ ap (λ c. record x { sent = frames ++ x.sent; clock = c; actions = answered c a x.actions }) clock,
    )

-- a cycle
pub cycles : (s : ScriptState) (now : ℕ) (y : Cycle) → IsCycle s now y → Goes (world_of s) (world_of (after_cycle s now y))
cycles s now y h =
    let w = world_of s in
    let g = s.log.identity.geometry in
    let b = with_sender w (named s.sender y.setup) in
    let x = behind_new s now y in
    let c = with_sender w x in
    let last = world_of (after_cycle s now y) in
    let limit = cycle_limit s now in
    let clock : clock_at s now ≡ max (named s.sender y.setup).clock now = ap (λ k. max k now) (sym (named_clock s.sender y.setup)) in
    let may : MaySend (committed s.log.entries) b.sender.at limit (frames_of y.fresh) = subst (λ p. MaySend (committed s.log.entries) p limit (frames_of y.fresh)) (sym (named_at s.sender y.setup)) (may_send g (committed s.log.entries) s.sender.at limit y.fresh h.new) in
    let allowed : limit ≡ limit_in b now = named_limit s.log.start (clock_at s now) s.sender y.setup ∙ ap (λ k. sender_limit s.log.start (in_cycle (named s.sender y.setup) k)) clock in
    let new : Goes b c = sends b s.past s.log.entries limit now (clock_at s now) (frames_of y.fresh) refl allowed clock may in
    let again : Goes c last = subst (λ ds. Goes c (with_sender w (resent_on x (frames_of ds)))) (sym h.again) (resends c (first_due x.actions) refl) in
    goes_on w b last (names w y.setup) (goes_on b c last new again)

-- a negative acknowledgement
pub misses : (s : ScriptState) (now : ℕ) (f : Nak) → Goes (world_of s) (world_of (record s { sender = missed s now f }))
misses s now f = at_sender (world_of s) (HearNak now (place_in s f) f.length) (missed s now f) refl

-- a status message
pub hears : (s : ScriptState) (now : ℕ) (f : Status) → Goes (world_of s) (with_sender (world_of s) (heard s now f))
hears s now f =
    at_sender (world_of s) (HearStatus now f.receiver (record { position = position_of s.log.identity.geometry f.term_id f.term_offset; window = f.window })) (heard s now f) refl

pub asked : (s : ScriptState) (now : ℕ) → Goes (world_of s) (with_sender (world_of s) (named (woken s now) true))
asked s now =
    let w = world_of s in
    let a = with_sender w (woken s now) in
    goes_on w a (with_sender w (named (woken s now) true)) (sees w now) (names a true)

-- ---- the keeper

pub connects : (s : ScriptState) (on : Bool) → Goes (world_of s) (world_of (with_log s (record s.log { connected = on })))
connects s on =
    let w = world_of s in
    let l = record w.log { connected = on } in
    goes_one w (record w { log = l }) (AtLog (Connect on)) (l, refl, refl)

pub closes : (s : ScriptState) → Goes (world_of s) (world_of (with_log s (record s.log { closed = true })))
closes s =
    let w = world_of s in
    let l = record w.log { closed = true } in
    goes_one w (record w { log = l }) (AtLog Close) (l, refl, refl)

-- ---- cleaning

-- the world's log is cleaned up to here
abbrev cleaned_to : World → ℕ → World
cleaned_to w to = record w { log = record w.log { cleaned = to } }

abbrev Lowest : World → ℕ → Type 0
Lowest w m = IsLowest (w.sender.at ∷ []) w.log m

-- what holds where each that is there stands, of the readers and of their positions
pub each_standing : (P : ℕ → Type 0) (rs : List (Option Consumer)) → AllByRecursion P (standing (map seat_of rs)) → Each (λ r. P r.at) rs
each_standing P [] h = tt
each_standing P (None ∷ rs) h = (tt, each_standing P rs h)
each_standing P (Some r ∷ rs) h = (h.0, each_standing P rs h.1)

pub standing_each : (P : ℕ → Type 0) (rs : List (Option Consumer)) → Each (λ r. P r.at) rs → AllByRecursion P (standing (map seat_of rs))
standing_each P [] h = tt
standing_each P (None ∷ rs) h = standing_each P rs h.1
standing_each P (Some r ∷ rs) h = (h.0, standing_each P rs h.1)

-- the sender and the readers are the log's consumers
abbrev pub AreConsumers : ScriptState → Type 0
AreConsumers s = s.log.consumers ≡ Some s.sender.at ∷ map seat_of s.readers

all_stand : (s : ScriptState) → AreConsumers s → standing s.log.consumers ≡ s.sender.at ∷ standing (map seat_of s.readers)
all_stand s are = ap standing are

-- no consumer is below the least position
pub all_above : (s : ScriptState) → AreConsumers s → Lowest (world_of s) (lowest s.log)
all_above s are =
    let ps = s.sender.at ∷ standing (map seat_of s.readers) in
    let low = fold_each s.sender.at ps in
    let same : lowest s.log ≡ fold min s.sender.at ps = ap least (all_stand s are) in
    let all : AllByRecursion (λ p. lowest s.log ≤ p) ps = subst (λ m. AllByRecursion (λ p. m ≤ p) ps) (sym same) low in
    record { others_above = (all.0, tt); readers_above = each_standing (λ p. lowest s.log ≤ p) s.readers all.1 }

-- word by word
cleans_on : (n : ℕ) (w : World) (m to : ℕ) → Lowest w m → to ≡ w.log.cleaned + 8 * n → to ≤ max w.log.start (m - w.log.identity.geometry.term_length) → Goes w (cleaned_to w to)
cleans_on zero w m to lowest is low = stays w (cleaned_to w to) (ap (cleaned_to w) (omega (arith, is)))
cleans_on (suc n) w m to lowest is low =
    let next = cleaned_to w (w.log.cleaned + 8) in
    let step : Goes w next = goes_one w next (AtLog (Clean m)) (next.log, (lowest, omega (arith, is, low), refl), refl) in
    goes_on w next (cleaned_to w to) step (cleans_on n next m to (record { others_above = lowest.others_above; readers_above = lowest.readers_above }) (omega (arith, is)) low)

abbrev limited_to : World → ℕ → World
limited_to w limit = record w { log = record w.log { limit = limit } }

abbrev raised_in : World → ℕ → Bool → ℕ
raised_in w m may = cond may (max w.log.limit (m + w.log.identity.geometry.term_length / 2)) w.log.limit

raises_on : (w : World) (m : ℕ) (may : Bool) → Lowest w m → m % 32 ≡ 0 → max w.log.start (m - w.log.identity.geometry.term_length) ≤ w.log.cleaned → (w.log.connected && not w.log.closed) ≡ may → Goes w (limited_to w (raised_in w m may))
raises_on w m false lowest unit low e = stays w w refl
raises_on w m true lowest unit low e =
    let flags = and_parts w.log.connected (not w.log.closed) e in
    let l = record w.log { limit = raised_in w m true } in
    goes_one w (record w { log = l }) (AtLog (Raise m)) (l, (unit, lowest, low, flags.0, not-true w.log.closed flags.1, refl), refl)

-- whole words are cleaned
words : (from to : ℕ) → from ≤ to → from % 8 ≡ 0 → to % 8 ≡ 0 → to ≡ from + 8 * ((to - from) / 8)
words from to low a b = omega (arith, low, a, b)

end_words : (start at term : ℕ) → start % 32 ≡ 0 → at % 32 ≡ 0 → term % 32 ≡ 0 → max start (at - term) % 8 ≡ 0
end_words start at term a b c = omega (arith, a, b, c)

same_limited : (l : model.Log) (a b p q : ℕ) (xs ys : List Entry) → a ≡ b → p ≡ q → xs ≡ ys → record l { cleaned = a; limit = p; entries = xs } ≡ record l { cleaned = b; limit = q; entries = ys }
same_limited l a b p q xs ys e f g =
    ap (λ z. record l { cleaned = z; limit = p; entries = xs }) e
    ∙ ap (λ z. record l { cleaned = b; limit = z; entries = xs }) f
    ∙ ap (λ z. record l { cleaned = b; limit = q; entries = z }) g

all_above_start : (term p to tail : ℕ) (es : List Entry) → to ≤ p → Tiles term p tail es → (forgotten_below to es ≡ []) × (kept_from to es ≡ es)
all_above_start term p to tail [] low t = (refl, refl)
all_above_start term p to tail (e ∷ es) low t =
    let here : nat_le to e.start ≡ true = le-leb to e.start (omega (arith, low, t.0)) in
    let rest = all_above_start term (entry_end e) to tail es (omega (arith, low, t.0)) t.2 in (
      cond-false (not (nat_le to e.start)) (e ∷ forgotten_below to es) (forgotten_below to es) (ap not here) ∙ rest.0,
      cond-true (nat_le to e.start) (e ∷ kept_from to es) (kept_from to es) here ∙ ap (λ xs. e ∷ xs) rest.1,
    )

-- what a cleaning forgets lies before what it keeps
parted : (term p to tail : ℕ) (es : List Entry) → Tiles term p tail es → forgotten_below to es ++ kept_from to es ≡ es
parted term p to tail [] t = refl
parted term p to tail (e ∷ es) t =
    ⊎_elim
    (λ (less : e.start < to).
    let no : nat_le to e.start ≡ false = lt-leb to e.start less in
    ap (λ xs. xs ++ kept_from to (e ∷ es)) (cond-true (not (nat_le to e.start)) (e ∷ forgotten_below to es) (forgotten_below to es) (ap not no))
    ∙ ap (λ xs. e ∷ (forgotten_below to es ++ xs)) (cond-false (nat_le to e.start) (e ∷ kept_from to es) (kept_from to es) no)
    ∙ ap (λ xs. e ∷ xs) (parted term (entry_end e) to tail es t.2))
    (λ (at_least : to ≤ e.start).
    let all = all_above_start term p to tail (e ∷ es) (omega (arith, at_least, t.0)) t in
    ap (λ xs. xs ++ kept_from to (e ∷ es)) all.0 ∙ all.1)
    (cases_lt e.start to)

-- the entries that it forgets are remembered
pub limit_entries : (past : List Entry) (l : Stream) → IsStream l → (past ++ forgotten_below (clean_end l) l.entries) ++ (cleaned_and_limited l).entries ≡ past ++ l.entries
limit_entries past l h =
    append_assoc past (forgotten_below (clean_end l) l.entries) (kept_from (clean_end l) l.entries)
    ∙ ap (λ (es : List Entry). past ++ es) (parted l.identity.geometry.term_length h.first (clean_end l) l.tail l.entries h.tiles)

-- what holds of each consumer holds of the least
pub least_holds : (P : ℕ → Type 0) (s : ScriptState) → AreConsumers s → AllByRecursion P (standing s.log.consumers) → P (lowest s.log)
least_holds P s are all =
    let ps = s.sender.at ∷ standing (map seat_of s.readers) in
    let each : AllByRecursion P ps = subst (AllByRecursion P) (all_stand s are) all in
    subst (λ xs. P (least xs)) (sym (all_stand s are)) (fold_keeps P s.sender.at ps each.0 each)

-- it cleans no less than before
pub clean_grows : (s : ScriptState) → IsStream s.log → AreConsumers s → s.log.cleaned ≤ clean_end s.log
clean_grows s legal are = least_holds (λ p. s.log.cleaned ≤ max s.log.start (p - s.log.identity.geometry.term_length)) s are legal.readable

all_below : (to : ℕ) (es : List Entry) → AllByRecursion (λ e. e.start < to) (forgotten_below to es)
all_below to [] = tt
all_below to (e ∷ es) =
    ⊎_elim
    (λ (less : e.start < to). subst (AllByRecursion (λ e. e.start < to)) (sym (cond-true (not (nat_le to e.start)) (e ∷ forgotten_below to es) (forgotten_below to es) (ap not (lt-leb to e.start less)))) (less, all_below to es))
    (λ (high : to ≤ e.start). subst (AllByRecursion (λ e. e.start < to)) (sym (cond-false (not (nat_le to e.start)) (e ∷ forgotten_below to es) (forgotten_below to es) (ap not (le-leb to e.start high)))) (all_below to es))
    (cases_lt e.start to)

-- what is forgotten begins below what is cleaned
pub limit_forgotten : (s : ScriptState) → IsStream s.log → AreConsumers s → AllByRecursion (λ e. e.start < s.log.cleaned) s.past → AllByRecursion (λ e. e.start < clean_end s.log) (s.past ++ forgotten_below (clean_end s.log) s.log.entries)
limit_forgotten s legal are before =
    let to = clean_end s.log in
    let grows : s.log.cleaned ≤ to = clean_grows s legal are in
    all_append (λ e. e.start < to) s.past (forgotten_below to s.log.entries) (all_weaker (λ e. e.start < s.log.cleaned) (λ e. e.start < to) (λ e low. omega (arith, low, grows)) s.past before) (all_below to s.log.entries)

-- a log of which the sender and the readers are the consumers, after its keeper's call
pub limits : (s : ScriptState) → IsStream s.log → AreConsumers s → Goes (world_of s) (record (world_of s) { log = model_log (s.past ++ forgotten_below (clean_end s.log) s.log.entries) s.readers (cleaned_and_limited s.log) })
limits s legal are =
    let w = world_of s in
    let t = s.log.identity.geometry.term_length in
    let m = lowest s.log in
    let to = clean_end s.log in
    let past = s.past ++ forgotten_below to s.log.entries in
    let unit : m % 32 ≡ 0 = least_holds (λ p. p % 32 ≡ 0) s are legal.consumer_units in
    let readable : s.log.cleaned ≤ to = clean_grows s legal are in
    let lowest : Lowest w m = all_above s are in
    let term : t % 32 ≡ 0 = power_unit t legal.geometry.term.power legal.geometry.term.least in
    let is : to ≡ s.log.cleaned + 8 * ((to - s.log.cleaned) / 8) = words s.log.cleaned to readable legal.word (end_words s.log.start m t legal.unit unit term) in
    let cleaned = cleaned_to w to in
    let may = s.log.connected && not s.log.closed in
    let log : model_log past s.readers (cleaned_and_limited s.log) ≡ record w.log { cleaned = to; limit = raised_in cleaned m may } =
    same_limited w.log to to (raised s.log) (raised_in cleaned m may) (past ++ kept_from to s.log.entries) (s.past ++ s.log.entries) refl refl (limit_entries s.past s.log legal) in
    subst (λ l. Goes w (record w { log = l })) (sym log)
    (goes_on w cleaned (limited_to cleaned (raised_in cleaned m may)) (cleans_on ((to - s.log.cleaned) / 8) w m to lowest is (omega arith)) (raises_on cleaned m may (record { others_above = lowest.others_above; readers_above = lowest.readers_above }) unit (omega arith) refl))
