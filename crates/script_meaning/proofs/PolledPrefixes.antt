-- After each line of a script, what was polled is what was published.
use Rattle.std.proofs.Common.{◌≡◌, ◌⊎◌, ℕ, zero, suc, ◌+◌, ◌-◌, ◌<◌, List, [], ◌∷◌, ◌++◌, map, length, Bool, true, false, cond, Option, None, Some, inl, inr, refl, sym, ap, ◌∙◌, subst, arith, append-nil, append_assoc}
use Rattle.std.specs.Prelude.{nat_lt, replicate, slice_get, slice_index_or}
use Rattle.std.specs.List.{AllByRecursion}
use Rattle.std.specs.Option.{option_map}
use Rattle.std.proofs.lemmas.Bool.{le-ltb, lt-ltb, ltb-false, ltb-true}
use Rattle.theory.specs.Position.{max_message, max_payload}
use Rattle.theory.specs.Bytes.{Identity}
use Rattle.theory.specs.Consumer.{Consumer, consumer_at, least_of}
use Rattle.model.specs.Headline.{HasPolled}
use Rattle.theory.specs.Messages.{messages}
use Rattle.theory.specs.Numbered.{Each}
use Rattle.theory.proofs.Lists.{all_front, each_get}
use Rattle.script.specs.Meaning as commands
use Rattle.script.specs.Meaning.{CommandContent}
use Rattle.script_meaning.specs.Answers.{Answers, reader_at}
use Rattle.script_meaning.specs.Output.{AlwaysPolled, AlwaysRuns, AnswersAll, identity_of}
use Rattle.one_hand.specs.Stream.{first_consumers}
use Rattle.receiver.specs.Polling.{TellsOf}
use Rattle.script_meaning.specs.LineContents.{LineContent, Positions, positions_line}
use Rattle.receiver.specs.declared.positions.Positions as places
use Rattle.script_meaning.specs.Published.{AllHonest, AllShort, AllWhole, IsHonestLine, IsThere, IsWhole, LastTold, Played, PolledNothing, PolledPrefix, PolledTo, ReadTo, covered_by, joins, polled, printed, published, read}
use Rattle.receiver.specs.Receiving.{Opened, Receiver}
use Rattle.script_meaning.specs.ScriptState.{ScriptState, entries_of, first_readers, image_of, listening_at, lone, numbers, opened_state, seat_of, world_of}
use Rattle.script_meaning.proofs.Numbers.{number_at}
use Rattle.script_meaning.proofs.Ranges.{matched}
use Rattle.script_meaning.proofs.Prints.{prints_more}
use Rattle.script_meaning.proofs.ReaderRuns.{join_line, leave_line, read_line}
use Rattle.script_meaning.proofs.ReceiverRuns.{FollowsImage, IsFollowed}
use Rattle.script_meaning.proofs.Runs.{stays}
use Rattle.theory.proofs.Tables.{map_get, seat_at}
use Rattle.script_meaning.specs.Standing.{Begins}
use Rattle.script_meaning.proofs.Lone.{lone_closed, lone_there}
use Rattle.script_meaning.proofs.Seen.{Seen, and_line, seen, seen_since}
use Rattle.script_meaning.proofs.Sound.{HasRead, IsSound, Laws, ReadSo, law_of}
use Rattle.script_meaning.proofs.SoundLines.{abort_line, claim_line, close_line, commit_line, connect_line, limit_line, offer_line, same_state}
use Rattle.script_meaning.proofs.SoundReceivers.{deliver_line, image_line, line_short, poll_line, raw_line, tick_line}
use Rattle.script_meaning.proofs.SoundSenders.{back_line, reply_line, send_line}

line : Laws → (i : Identity) (group : Option ℕ) (start readers only : ℕ) (played : List Played) (command : CommandContent) (lines : List LineContent) (s t : ScriptState) → Begins i start → (only < 8 → IsHonestLine only s.packets command lines) → IsSound i group start readers only played s → Answers s command lines t → IsSound i group start readers only (and_line played command lines) t
line laws i group start readers only played (commands.Group size) lines s t b honest h m = same_state i group start readers only played (commands.Group size) lines s t (record { joins = λ k. refl; polls = λ k. refl; reads = λ k. (refl, refl) }) (λ g ranges. refl) m.1 h
line laws i group start readers only played commands.Connect lines s t b honest h m = subst (λ x. IsSound i group start readers only (and_line played commands.Connect lines) x) (sym m.1) (connect_line i group start readers only played commands.Connect lines s true (record { joins = λ k. refl; polls = λ k. refl; reads = λ k. (refl, refl) }) (λ g ranges. refl) h)
line laws i group start readers only played commands.Disconnect lines s t b honest h m = subst (λ x. IsSound i group start readers only (and_line played commands.Disconnect lines) x) (sym m.1) (connect_line i group start readers only played commands.Disconnect lines s false (record { joins = λ k. refl; polls = λ k. refl; reads = λ k. (refl, refl) }) (λ g ranges. refl) h)
line laws i group start readers only played commands.Close lines s t b honest h m = subst (λ x. IsSound i group start readers only (and_line played commands.Close lines) x) (sym m.1) (close_line i group start readers only played lines s h)
line laws i group start readers only played commands.Limit lines s t b honest h m = limit_line i group start readers only played lines s t h m
line laws i group start readers only played (commands.Offer by message) lines s t b honest h m = offer_line laws i group start readers only played s t by (max_message s.log.identity.geometry) (length message) message (commands.Offer by message) lines b (record { joins = λ k. refl; polls = λ k. refl; reads = λ k. (refl, refl) }) (λ g ranges ls. refl) h m
line laws i group start readers only played (commands.OfferSize by size) lines s t b honest h m = offer_line laws i group start readers only played s t by (max_message s.log.identity.geometry) size (replicate size 97) (commands.OfferSize by size) lines b (record { joins = λ k. refl; polls = λ k. refl; reads = λ k. (refl, refl) }) (λ g ranges ls. refl) h m
line laws i group start readers only played (commands.Claim by size) lines s t b honest h m = claim_line laws i group start readers only played s t by (max_payload s.log.identity.geometry) size lines b h m
line laws i group start readers only played (commands.Commit by) lines s t b honest h m = commit_line laws i group start readers only played s t by lines b h m
line laws i group start readers only played (commands.Abort by) lines s t b honest h m = abort_line laws i group start readers only played s t by lines b h m
line laws i group start readers only played (commands.Read r) lines s t b honest h m = read_line i group start readers only played s t r lines h m
line laws i group start readers only played (commands.Join r) lines s t b honest h m = join_line laws i group start readers only played s t r lines b h m
line laws i group start readers only played (commands.Leave r) lines s t b honest h m = leave_line i group start readers only played s t r lines h m
line laws i group start readers only played (commands.Send now) lines s t b honest h m = send_line laws i group start readers only played s t now lines b h m
line laws i group start readers only played (commands.Deliver k n now) lines s t b honest h m = deliver_line laws i group start readers only played k n now lines s t b h m
line laws i group start readers only played (commands.Raw n now bytes) lines s t b honest h m = raw_line laws i group start readers only played n now bytes lines s t b honest h m
line laws i group start readers only played (commands.Tick n now) lines s t b honest h m = tick_line i group start readers only played n now lines s t h m
line laws i group start readers only played (commands.Reply k now) lines s t b honest h m = reply_line laws i group start readers only played k now lines s t b h m
line laws i group start readers only played (commands.RawBack now bytes) lines s t b honest h m = back_line laws i group start readers only played now bytes lines s t b h m
line laws i group start readers only played (commands.Poll n) lines s t b honest h m = poll_line laws i group start readers only played n lines s t b h m
line laws i group start readers only played (commands.Image n) lines s t b honest h m = image_line i group start readers only played n lines s t h m

goes_on : Laws → (i : Identity) (group : Option ℕ) (start readers only : ℕ) (done rest : List Played) (s last : ScriptState) → Begins i start → (only < 8 → AllHonest only (done ++ rest)) → s.packets ≡ printed done → IsSound i group start readers only done s → AnswersAll s rest last → IsSound i group start readers only (done ++ rest) last
goes_on laws i group start readers only done [] s last b honest shown h m = subst (λ x. IsSound i group start readers only (done ++ []) x) (sym m) (subst (λ ps. IsSound i group start readers only ps s) (sym (append-nil done)) h)
goes_on laws i group start readers only done (p ∷ ps) s last b honest shown h m =
    let again : (done ++ p ∷ []) ++ ps ≡ done ++ p ∷ ps = append_assoc done (p ∷ []) ps in
    subst (λ qs. IsSound i group start readers only qs last) again
    (goes_on laws i group start readers only (done ++ p ∷ []) ps m.0 last b
    (λ low. subst (AllHonest only) (sym again) (honest low))
    (prints_more s m.0 done p shown m.1)
    (line laws i group start readers only done p.command p.lines s m.0 b (λ low. subst (λ xs. IsHonestLine only xs p.command p.lines) (sym shown) (honest low done ps p refl)) h m.1) m.2)

-- ---- where it begins

listens : (i : Identity) (k : ℕ) → k < 8 → slice_get (map (listening_at i) numbers) k ≡ Some (listening_at i k)
listens i k h = map_get (listening_at i) numbers k k (seat_at numbers k k 0 (sym (number_at k h)) h)

none_seated : (n : ℕ) → map seat_of (replicate {A = Option Consumer} n None) ≡ replicate {A = Option ℕ} n None
none_seated zero = refl
none_seated (suc n) = ap (λ cs. None ∷ cs) (none_seated n)

seated_first : (start n m : ℕ) → map seat_of (replicate n (Some (consumer_at start)) ++ replicate m None) ≡ replicate n (Some start) ++ replicate m None
seated_first start zero m = none_seated m
seated_first start (suc n) m = ap (λ cs. Some start ∷ cs) (seated_first start n m)

-- the sender and these readers are the consumers of a log that was just opened
pub first_seats : (start readers : ℕ) → first_consumers (suc readers) start ≡ Some start ∷ map seat_of (first_readers readers start)
first_seats start readers =
    ap (λ (m : ℕ). replicate (suc readers) (Some start) ++ replicate m None) (let e : 8 - suc readers ≡ 7 - readers = omega arith in e)
    ∙ ap (λ cs. Some start ∷ cs) (sym (seated_first start readers (7 - readers)))

none_read : (m k : ℕ) → slice_index_or (replicate {A = Option Consumer} m None) k None ≡ None
none_read zero k = refl
none_read (suc m) zero = refl
none_read (suc m) (suc k) = none_read m k

-- one of them is there if its place is below their number
first_read : (start n m k : ℕ) (b : Bool) → nat_lt k n ≡ b → HasRead (slice_index_or (replicate n (Some (consumer_at start)) ++ replicate m None) k None) (cond b (Some (record { join = start; frames = [] })) None)
first_read start zero m k true e = let low = ltb-true k 0 e in absurd (omega (arith, low))
first_read start zero m k false e = subst (λ o. HasRead o None) (sym (none_read m k)) tt
first_read start (suc n) m zero true e = record { join = refl; whole = refl; heard = refl; at = omega arith }
first_read start (suc n) m zero false e = let low = ltb-false 0 (suc n) e in absurd (omega (arith, low))
first_read start (suc n) m (suc k) true e = first_read start n m k true (let low = ltb-true (suc k) (suc n) e in lt-ltb k n (omega (arith, low)))
first_read start (suc n) m (suc k) false e = first_read start n m k false (let low = ltb-false (suc k) (suc n) e in le-ltb k n (omega (arith, low)))

reads_first : (i : Identity) (group : Option ℕ) (start readers r : ℕ) → HasRead (reader_at (opened_state i group start readers) r) (seen start readers r [])
reads_first i group start readers zero = tt
reads_first i group start readers (suc k) = first_read start readers (7 - readers) k (nat_lt k readers) refl

begins : (i : Identity) (group : Option ℕ) (start readers only : ℕ) → Begins i start → IsSound i group start readers only [] (opened_state i group start readers)
begins i group start readers only b =
    let s = opened_state i group start readers in
    record {
      runs = stays (world_of s) (world_of (lone only s)) (lone_closed only s (refl, (refl, (refl, (refl, (refl, (refl, (refl, (refl, tt)))))))));
      identity = refl;
      start_is = refl;
      consumers = first_seats start readers;
      named = tt;
      forgotten = tt;
      honest = tt;
      matches = refl;
      eight = refl;
      followed = λ low. (listening_at i only, listens i only low, record { numbers = refl; image = (refl, refl) });
      reading = reads_first i group start readers;
    }

-- ---- what was polled

has_polled : Laws → (i : Identity) (group : Option ℕ) (start readers k : ℕ) (played : List Played) (s : ScriptState) (r : Receiver) (o : Opened) (c : Consumer) → Begins i start → IsSound i group start readers k played s → slice_get s.receivers k ≡ Some r → r.image ≡ Some o → o.image.consumers ≡ c ∷ [] → HasPolled (entries_of s) c
has_polled laws i group start readers k played s r o c b h there was one =
    let w = world_of (lone k s) in
    let law = law_of laws.prefixes i group start readers k s b h.runs in
    let found : slice_get w.images k ≡ Some (Some o.image) = map_get image_of (lone k s).receivers k r (lone_there k s ∙ there) ∙ ap Some (ap (option_map (λ x. x.image)) was) in
    let all = each_get (λ x. AllByRecursion (λ c. HasPolled (entries_of s) c × (c.join ≡ x.join)) x.consumers) w.images k o.image found law.1 in
    (subst (λ cs. AllByRecursion (λ c. HasPolled (entries_of s) c × (c.join ≡ o.image.join)) cs) one all).0.0

answers_split : (a b : ScriptState) (xs ys : List Played) → AnswersAll a (xs ++ ys) b → (m : ScriptState) × AnswersAll a xs m × AnswersAll m ys b
answers_split a b [] ys h = (a, refl, h)
answers_split a b (x ∷ xs) ys h =
    let rest = answers_split h.0 b xs ys h.2 in
    (rest.0, (h.0, h.1, rest.1), rest.2)

told_least : (o : Opened) (c : Consumer) (least rebuilt high : ℕ) (told : Option places.Positions) → o.image.consumers ≡ c ∷ [] → TellsOf (Some o) told → Positions least rebuilt high ≡ positions_line told → c.at ≡ least
told_least o c least rebuilt high told one tells e =
    let same : Positions least rebuilt high ≡ Positions (least_of o.image.consumers) tells.0 o.image.high = e ∙ ap positions_line tells.2 in
    let at : least ≡ least_of o.image.consumers = cc in
    sym (at ∙ ap least_of one)

last_told : (i : Identity) (group : Option ℕ) (start readers : ℕ) (played : List Played) (last : ScriptState) (k : ℕ) (r : Receiver) (o : Opened) (c : Consumer) (least : ℕ) → AnswersAll (opened_state i group start readers) played last → slice_get last.receivers k ≡ Some r → r.image ≡ Some o → o.image.consumers ≡ c ∷ [] → LastTold k least played → c.at ≡ least
last_told i group start readers played last k r o c least all there was one told =
    let rebuilt = told.1 in
    let high = told.2 in
    let lines = Positions least rebuilt high ∷ [] in
    let parts = answers_split (opened_state i group start readers) last told.0 (record { command = commands.Image k; lines = lines } ∷ []) (subst (λ ps. AnswersAll (opened_state i group start readers) ps last) told.3 all) in
    let m = parts.2.1 in
    let same_state : last ≡ parts.0 = parts.2.2 ∙ m.5 in
    let found : Some m.1 ≡ Some r = sym m.2 ∙ ap (λ x. slice_get x.receivers k) (sym same_state) ∙ there in
    let same : m.1 ≡ r = cc in
    let heads : Positions least rebuilt high ∷ [] ≡ positions_line m.0 ∷ [] = m.4 in
    let head : Positions least rebuilt high ≡ positions_line m.0 = cc in
    told_least o c least rebuilt high m.0 one (subst (λ x. TellsOf x m.0) (ap (λ x. x.image) same ∙ was) m.3) head

polled_to : Laws → (i : Identity) (group : Option ℕ) (start readers k : ℕ) (played : List Played) (last : ScriptState) (r : Receiver) (o : Opened) → Begins i start → IsSound i group start readers k played last → AnswersAll (opened_state i group start readers) played last → slice_get last.receivers k ≡ Some r → r.image ≡ Some o → IsFollowed i o (joins k played) (polled k played) (AllWhole k played) → AllWhole k played → PolledTo i.geometry k played
polled_to laws i group start readers k played last r o b h all there was f whole =
    let c = f.consumer in
    let law = has_polled laws i group start readers k played last r o c b h there was f.one in
    let heard = f.heard whole in
    let to : c.heard_to ≡ c.at = law.whole heard.0 in (
      c.join,
      c.at,
      f.joined,
      sym heard.1 ∙ law.given ∙ ap (λ q. messages c.join q (entries_of last)) to ∙ matched c.join c.at (entries_of last) (published i.geometry played) h.matches,
      λ least told. last_told i group start readers played last k r o c least all there was f.one told,
    )

of_image : Laws → (i : Identity) (group : Option ℕ) (start readers k : ℕ) (played : List Played) (last : ScriptState) (r : Receiver) (image : Option Opened) → Begins i start → IsSound i group start readers k played last → AnswersAll (opened_state i group start readers) played last → slice_get last.receivers k ≡ Some r → r.image ≡ image → FollowsImage image i (joins k played) (polled k played) (AllWhole k played) → AllWhole k played → PolledNothing k played ⊎ PolledTo i.geometry k played
of_image laws i group start readers k played last r None b h all there was f whole = inl f
of_image laws i group start readers k played last r (Some o) b h all there was f whole = inr (polled_to laws i group start readers k played last r o b h all there was f whole)

-- ---- what was read

there_as : (o : Option Consumer) (w : Seen) → HasRead o (Some w) → (c : Consumer) × (o ≡ Some c) × ReadSo c w
there_as None w h = absurd h
there_as (Some c) w h = (c, refl, h)

-- what holds of each reader holds of one that is there
each_reader : (P : Consumer → Type 0) (s : ScriptState) (r : ℕ) (c : Consumer) → Each P s.readers → reader_at s r ≡ Some c → P c
each_reader P s zero c h e = absurd (cc)
each_reader P s (suc k) c h e = each_there P s.readers k c h e
  where
    each_there : (P : Consumer → Type 0) (rs : List (Option Consumer)) (k : ℕ) (c : Consumer) → Each P rs → slice_index_or rs k None ≡ Some c → P c
    each_there P [] k c h e = absurd (cc)
    each_there P (None ∷ rs) zero c h e = absurd (cc)
    each_there P (Some x ∷ rs) zero c h e = let i : Some x ≡ Some c = e in let j : x ≡ c = cc in subst P j h.0
    each_there P (None ∷ rs) (suc k) c h e = each_there P rs k c h.1 e
    each_there P (Some x ∷ rs) (suc k) c h e = each_there P rs k c h.1 e

read_to : Laws → (i : Identity) (group : Option ℕ) (start readers only : ℕ) (played : List Played) (last : ScriptState) (r j : ℕ) (since : List Played) → Begins i start → IsSound i group start readers only played last → IsThere start readers r j since played → ReadTo i.geometry j r since played
read_to laws i group start readers only played last r j since b h there =
    let shown = read r since in
    let w : Seen = record { join = j; frames = shown } in
    let found = there_as (reader_at last r) w (subst (HasRead (reader_at last r)) (seen_since start readers r j since played there) (h.reading r)) in
    let c = found.0 in
    let was = found.2 in
    let end = j + covered_by shown in
    let ranges = published i.geometry played in
    let law = law_of laws.prefixes i group start readers only last b h.runs in
    let has : HasPolled (entries_of last) c = each_reader (HasPolled (entries_of last)) last r c law.0 found.1 in
    let to : c.heard_to ≡ end = has.whole was.whole ∙ was.at in
    sym (ap (λ a. a.given) was.heard) ∙ has.given ∙ ap (λ p. messages p c.heard_to (entries_of last)) was.join ∙ ap (λ q. messages j q (entries_of last)) to ∙ matched j end (entries_of last) ranges h.matches

-- ---- after each line

pub sound : Laws → (i : Identity) (group : Option ℕ) (start readers only : ℕ) (played : List Played) (last : ScriptState) → Begins i start → (only < 8 → AllHonest only played) → AnswersAll (opened_state i group start readers) played last → IsSound i group start readers only played last
sound laws i group start readers only played last b honest all = goes_on laws i group start readers only [] played (opened_state i group start readers) last b honest refl (begins i group start readers only b) all

-- looked at through no receiver's image
pub sound_log : Laws → (i : Identity) (group : Option ℕ) (start readers : ℕ) (played : List Played) (last : ScriptState) → Begins i start → AnswersAll (opened_state i group start readers) played last → IsSound i group start readers 8 played last
sound_log laws i group start readers played last b all = sound laws i group start readers 8 played last b (λ low. absurd (omega (arith, low))) all

-- no line says that a message was too long
each_short : Laws → (i : Identity) (group : Option ℕ) (start readers only : ℕ) (done rest : List Played) (s last : ScriptState) → Begins i start → AllHonest only (done ++ rest) → AllWhole only (done ++ rest) → s.packets ≡ printed done → IsSound i group start readers only done s → AnswersAll s rest last → AllShort only rest
each_short laws i group start readers only done [] s last b honest whole shown h m = tt
each_short laws i group start readers only done (p ∷ ps) s last b honest whole shown h m =
    let again : (done ++ p ∷ []) ++ ps ≡ done ++ p ∷ ps = append_assoc done (p ∷ []) ps in
    let next = line laws i group start readers only done p.command p.lines s m.0 b (λ low. subst (λ xs. IsHonestLine only xs p.command p.lines) (sym shown) (honest done ps p refl)) h m.1 in (
      line_short laws i group start readers only done p.command p.lines s m.0 b (all_front (λ x. IsWhole only x.command x.lines) done (p ∷ ps) whole) h m.1,
      each_short laws i group start readers only (done ++ p ∷ []) ps m.0 last b (subst (AllHonest only) (sym again) honest) (subst (AllWhole only) (sym again) whole) (prints_more s m.0 done p shown m.1) next m.2,
    )

prefix : Laws → (i : Identity) (group : Option ℕ) (start readers : ℕ) (played : List Played) (last : ScriptState) → Begins i start → AnswersAll (opened_state i group start readers) played last → PolledPrefix i.geometry played
prefix laws i group start readers played last b all k low whole honest =
    let h = sound laws i group start readers k played last b (λ l. honest) all in
    let r = h.followed low in (
      of_image laws i group start readers k played last r.0 r.0.image b h all r.1 refl r.2.image whole,
      each_short laws i group start readers k [] played (opened_state i group start readers) last b honest whole refl (begins i group start readers k b) all,
    )

pub always_polled : Laws → AlwaysPolled
always_polled laws o group played last legal identity starts all done later parts =
    let i = identity_of o in
    let split = answers_split (opened_state i group o.start o.readers) last done later (subst (λ ps. AnswersAll (opened_state i group o.start o.readers) ps last) parts all) in
    let b : Begins i o.start = record { geometry = legal; identity = identity; unit = starts.0; below = starts.1 } in
    (prefix laws i group o.start o.readers done split.0 b split.1, λ r j since there. read_to laws i group o.start o.readers 8 done split.0 r j since b (sound_log laws i group o.start o.readers done split.0 b split.1) there)

pub always_runs : Laws → AlwaysRuns
always_runs laws o group played last legal identity starts all k honest = (sound laws (identity_of o) group o.start o.readers k played last (record { geometry = legal; identity = identity; unit = starts.0; below = starts.1 }) honest all).runs
