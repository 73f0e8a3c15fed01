-- Frames that a poll reads, one after the other.
use Rattle.std.proofs.Common.{◌≡◌, ◌↔◌, ◌≤◌, ◌<◌, ◌-◌, ◌^◌, ℕ, arith, inl, inr, ⊎_elim, List, [], ◌∷◌, ◌++◌, true, false, Option, Some, None, Result, Ok, Err, length, refl, sym, ap, ap₂, ◌∙◌, subst}
use Rattle.std.specs.Prelude.{is_some, map, option_map, slice_index}
use Rattle.std.specs.Option.{option_to_list}
use Rattle.std.specs.List.{AllByRecursion}
use Rattle.std.proofs.lemmas.Bool.{cases_Bool, both_ways}
use Rattle.theory.specs.Position.{Geometry, IsGeometry, max_position}
use Rattle.theory.specs.Placed.{Among, Chain, Data, Frame, Pad, Placed, end_of, is_padding}
use Rattle.theory.specs.Units.{IsContiguous}
use Rattle.theory.specs.Assembly.{Assembly, after, after_all}
use Rattle.theory.specs.Consumer.{Consumer, moved, passed_by}
use Rattle.theory.specs.Image.{Image}
use Rattle.theory.proofs.Lists.{all_append}
use Rattle.theory.proofs.Follow.{Chain-push}
use Rattle.assembler.specs.Assembling.{Assembling}
use Rattle.assembler.specs.Hearing.{AsksMemory, IsTooLong, heard_of}
use Rattle.assembler.proofs.Hearing.{after_begun, after_given, heard_on}
use Rattle.receiver.specs.Polling.{Answer, PollsOf, PollsWhole, ReadsFrames, StaysShort, StopsAt, TellsOf, TellsPositions, gives, moved_all, passed_all, with_only_consumer}
use Rattle.receiver.specs.declared.poll_error.PollError.TheVariants.{NoImage, Unassembled}
use Rattle.position.specs.declared.head.FrameHead.{FrameHead}
use Rattle.assembler.specs.declared.assembler.Message.{Message}
use Rattle.assembler.specs.declared.fault.AssemblyError.{AssemblyError}
use Rattle.assembler.specs.declared.fault.AssemblyError.TheVariants.{Memory, TooLong}
use Rattle.receiver.specs.Receiving.{Opened, Receiver}
use Rattle.receiver.specs.Joining.{Joins, Shows}
use Rattle.receiver.specs.Representing.{Core, HasNoFrame, IsAtEnd, IsCore, PassesFrame, ReadsPast, Represents, RepresentsImage, RepresentsOpened, place_in, words_of}
use Rattle.receiver.proofs.Meeting.{core_read, end_read, frame_read, imaged, none_read, shown_none, shown_some}
use Rattle.receiver.proofs.PollFrames.{moved_at, passed_lost}
use Rattle.receiver.proofs.ReadOn.{AreFit, alone_to, at_end, forward, moved_only, reads_past}
use Rattle.receiver.proofs.Shown.{least_shown}
use Rattle.image.specs.Seen.{least}
use Rattle.image.specs.Handles.{ImageWords, ReaderSeat, position_of}
use Rattle.image.specs.Meeting as hand
use Rattle.image.specs.Meeting.{AreAlone}
use Rattle.image.specs.Rebuilding.{Inserting, geometry_of, join_of}
use Rattle.receiver.specs.Seating.{AreSeated}
use Rattle.std.proofs.lemmas.Option.{same_Some}
use Rattle.receiver.specs.Subscribing.{AssemblesFor, HasReadOn, HearsFrame, IsPolling, PassesOn, RefusesFrame, RepresentsSubscriber, Subscribing}

-- ---- a frame more

moved_more : (c : Consumer) (frames : List Placed) (s : Placed) → moved_all c (frames ++ s ∷ []) ≡ moved (moved_all c frames) s
moved_more c [] s = refl
moved_more c (t ∷ ts) s = moved_more (moved c t) ts s

passed_more : (c : Consumer) (frames : List Placed) (s : Placed) → passed_all c (frames ++ s ∷ []) ≡ passed_by (passed_all c frames) s
passed_more c [] s = refl
passed_more c (t ∷ ts) s = passed_more (passed_by c t) ts s

passed_at : (c : Consumer) (frames : List Placed) (q : ℕ) → Chain c.at q frames → (passed_all c frames).at ≡ q
passed_at c [] q e = sym e
passed_at c (s ∷ ss) q (at, more) = passed_at (passed_by c s) ss q more

-- what is begun doesn't depend on what was given
same_begun : (a b : Assembly) (f : Frame) → a.begun ≡ b.begun → (after a f).begun ≡ (after b f).begun
same_begun a b f e = after_begun a f ∙ ap (λ x. (heard_of x f).begun) e ∙ sym (after_begun b f)

begun_along : (a : Assembly) (c : Consumer) (frames : List Placed) → a.begun ≡ c.assembly.begun → (after_all a (map (λ (x : Placed). x.frame) frames)).begun ≡ (moved_all c frames).assembly.begun
begun_along a c [] e = e
begun_along a c (s ∷ ss) e = begun_along (after a s.frame) (moved c s) ss (same_begun a c.assembly s.frame e)

moved_begun : (c : Consumer) (frames : List Placed) (s : Placed) → (moved_all c (frames ++ s ∷ [])).assembly.begun ≡ (heard_of (moved_all c frames).assembly.begun s.frame).begun
moved_begun c frames s = ap (λ (x : Consumer). x.assembly.begun) (moved_more c frames s) ∙ after_begun (moved_all c frames).assembly s.frame

gives_more : (c : Consumer) (frames : List Placed) (s : Placed) → gives c (frames ++ s ∷ []) ≡ gives c frames ++ option_to_list (heard_of (moved_all c frames).assembly.begun s.frame).message
gives_more c frames s =
    let a : Assembly = record { begun = c.assembly.begun; given = [] } in
    ap (λ (x : Assembly). x.given) (heard_on a frames (s ∷ [])) ∙ after_given (after_all a (map (λ (x : Placed). x.frame) frames)) s.frame ∙ ap (λ b. gives c frames ++ option_to_list (heard_of b s.frame).message) (begun_along a c frames refl)

reads_more : (i : Image) (c : Consumer) (frames : List Placed) (at : ℕ) (s : Placed) → ReadsFrames i c frames at → Among s i.stored → s.at ≡ at → ReadsFrames i c (frames ++ s ∷ []) (end_of s)
reads_more i c frames at s h a e = record { chain = Chain-push c.at at frames s h.chain e; among = all_append (λ x. Among x i.stored) frames (s ∷ []) h.among (a, tt) }

short_more : (g : ℕ) (c : Consumer) (frames : List Placed) (s : Placed) → StaysShort g c frames → (IsTooLong g (moved_all c frames).assembly.begun s.frame → ⊥) → StaysShort g c (frames ++ s ∷ [])
short_more g c [] s h k = (k, tt)
short_more g c (t ∷ ts) s h k = (h.0, short_more g (moved c t) ts s h.1 k)

-- of an assembler that shows what is begun
short_with : (g : ℕ) (c : Consumer) (frames : List Placed) (s : Placed) (a : Assembling) → a.greatest ≡ g → a.begun ≡ (moved_all c frames).assembly.begun → StaysShort g c frames → (IsTooLong a.greatest a.begun s.frame → ⊥) → StaysShort g c (frames ++ s ∷ [])
short_with g c frames s a most begun h k = short_more g c frames s h (λ t. k (subst (λ n. IsTooLong n a.begun s.frame) (sym most) (subst (λ b. IsTooLong g b s.frame) (sym begun) t)))

-- ---- the start of a poll

-- another consumer at the same place is shown as well
seat_shown : (v : Inserting) (o : Opened) (c d : Consumer) → o.image.consumers ≡ c ∷ [] → d.at ≡ c.at → RepresentsImage v o → RepresentsImage v (with_only_consumer o d)
seat_shown v o c d one at h = record {
  geometry = h.geometry;
  join = h.join;
  window = h.window;
  high = h.high;
  consumers = h.consumers ∙ ap (λ rs. map (λ (x : Consumer). x.at) rs) one ∙ ap (λ p. p ∷ []) (sym at);
  stored = h.stored;
}

opened_shown : (i : Option Inserting) (o : Opened) (c d : Consumer) → o.image.consumers ≡ c ∷ [] → d.at ≡ c.at → RepresentsOpened i (Some o) → RepresentsOpened i (Some (with_only_consumer o d))
opened_shown None o c d one at h = h
opened_shown (Some v) o c d one at h = seat_shown v o c d one at h

poll_starts : (v : Subscribing) (o : Option Opened) (r : Receiver) → r.image ≡ o → (o ≡ None → ⊥) → RepresentsSubscriber v r → IsPolling o r v
poll_starts v None r is some h = some refl
poll_starts v (Some o) r is some h = reading (subst (AssemblesFor v.assembler.begun) is h.begun)
  where
    reading : AssemblesFor v.assembler.begun (Some o) → HasReadOn o r v
    reading (c, one, begun) = record {
      consumer = c;
      one = one;
      frames = [];
      at = c.at;
      reads = record { chain = refl; among = tt };
      shown = λ d e. record { numbers = ap (λ (x : Receiver). record x { image = Some (with_only_consumer o d) }) h.core.numbers; image = opened_shown v.core.image o c d one e (subst (RepresentsOpened v.core.image) is h.core.image) };
      nothing = λ l. refl;
      short = λ l. tt;
      begun = begun;
      greatest = h.greatest;
    }

some_shows : (i : Option Inserting) (o : Option Opened) → is_some i ≡ true → RepresentsOpened i o → o ≡ None → ⊥
some_shows None o e h n = absurd (cc)
some_shows (Some v) None e h n = h
some_shows (Some v) (Some o) e h n = absurd (cc)

-- ---- one frame more is heard

-- the consumer stands where it has read to
abbrev pub stood : Consumer → ℕ → Consumer
stood c at = record c { at = at }

abbrev pub now_at : Opened → Receiver → Consumer → ℕ → Receiver
now_at o r c at = record r { image = Some (with_only_consumer o (stood c at)) }

passed_here : (o : Opened) (r : Receiver) (c : Consumer) (at : ℕ) (s : Placed) (w : Core) → PassesOn (with_only_consumer o (stood c at)) (now_at o r c at) s w → s.at ≡ at
passed_here o r c at s w h =
    let same : stood c at ≡ h.consumer = same_Some (stood c at) h.consumer h.which in
    h.here ∙ ap (λ (x : Consumer). x.at) (sym same)

pub hears_on : (o : Opened) (r : Receiver) (v w : Subscribing) (h : HasReadOn o r v) → HearsFrame (Some (with_only_consumer o (stood h.consumer h.at))) (now_at o r h.consumer h.at) v.assembler None w → HasReadOn o r w
hears_on o r v w h (s, passes, state, message, fits) =
    let c = h.consumer in
    let begun : w.assembler.begun ≡ (heard_of v.assembler.begun s.frame).begun = ap (λ (x : Assembling). x.begun) state in
    record {
      consumer = c;
      one = h.one;
      frames = h.frames ++ s ∷ [];
      at = end_of s;
      reads = reads_more o.image c h.frames h.at s h.reads passes.among (passed_here o r c h.at s w.core passes);
      shown = passes.shown;
      nothing = λ l. gives_more c h.frames s ∙ ap₂ (λ (xs ys : List (List ℕ)). xs ++ ys) (h.nothing l) (ap (λ b. option_to_list (heard_of b s.frame).message) (sym (h.begun l)) ∙ ap option_to_list (sym message));
      short = λ l. short_with r.greatest c h.frames s v.assembler h.greatest (h.begun l) (h.short l) fits;
      begun = λ l. begun ∙ ap (λ b. (heard_of b s.frame).begun) (h.begun l) ∙ sym (moved_begun c h.frames s);
      greatest = ap (λ (x : Assembling). x.greatest) state ∙ h.greatest;
    }

-- ---- the end of a poll

abbrev pub Polled : Option Opened → Receiver → Answer → Subscribing → Type 0
Polled o r answer w = (x : Receiver) × PollsOf o r answer x × RepresentsSubscriber w x

-- where the consumer stands then, if it has lost nothing
record Whole (greatest : ℕ) (o : Opened) (c : Consumer) (answer : Answer) (at : ℕ) (w : Subscribing) : Type 0 where
  after : Consumer
  polls : PollsWhole greatest o.image c answer after
  here : after.at ≡ at
  begun : after.lost ≡ false → w.assembler.begun ≡ after.assembly.begun

finish : (o : Opened) (r : Receiver) (w : Subscribing) (answer : Answer) (c : Consumer) (frames : List Placed) (at : ℕ) → r.consumers ≡ 1 → o.image.consumers ≡ c ∷ [] → ReadsFrames o.image c frames at
    → ((d : Consumer) → d.at ≡ at → Represents w.core (record r { image = Some (with_only_consumer o d) })) → w.assembler.greatest ≡ r.greatest → StopsAt o.image frames answer at → (c.lost ≡ false → Whole r.greatest o c answer at w) → Polled (Some o) r answer w
finish o r w answer c frames at seats one reads shown most stops whole =
    ⊎_elim
    (λ (lost : c.lost ≡ true).
    let d = passed_all c frames in
    let here : d.at ≡ at = passed_at c frames at reads.chain in (
      record r { image = Some (with_only_consumer o d) },
      (c, d, one, inr (lost, record { frames = frames; reads = subst (ReadsFrames o.image c frames) (sym here) reads; stops = subst (StopsAt o.image frames answer) (sym here) stops; after = refl }), refl),
      record { core = shown d here; one = seats; begun = (d, refl, λ l. absurd (both_ways d.lost l (passed_lost c frames lost))); greatest = most },
    ))
    (λ (kept : c.lost ≡ false).
    let h = whole kept in (
      record r { image = Some (with_only_consumer o h.after) },
      (c, h.after, one, inl (kept, h.polls), refl),
      record { core = shown h.after h.here; one = seats; begun = (h.after, refl, h.begun); greatest = most },
    ))
    (cases_Bool c.lost)

pub polls_none : (o : Opened) (r : Receiver) (v : Subscribing) (h : HasReadOn o r v) → r.consumers ≡ 1 → HasNoFrame (Some (with_only_consumer o (stood h.consumer h.at))) 0 → Polled (Some o) r (Ok None) v
polls_none o r v h seats end =
    let c = h.consumer in
    let d = moved_all c h.frames in
    let here : d.at ≡ h.at = moved_at c h.frames h.at h.reads.chain in
    let same : stood c h.at ≡ end.consumer = same_Some (stood c h.at) end.consumer end.which in
    let stops : IsContiguous o.image.stored o.image.join h.at = subst (λ (x : Consumer). IsContiguous o.image.stored o.image.join x.at) (sym same) end.end in
    finish o r v (Ok None) c h.frames h.at seats h.one h.reads h.shown h.greatest stops
    (λ kept. record {
      after = d;
      polls = record { frames = h.frames; reads = subst (ReadsFrames o.image c h.frames) (sym here) h.reads; nothing = h.nothing kept; short = h.short kept; no_more = subst (λ p. IsContiguous o.image.stored o.image.join p) (sym here) stops; after = refl };
      here = here;
      begun = λ l. h.begun kept;
    })

-- a padding completes no message
gives_data : (begun : Option (List ℕ)) (f : Frame) (bytes : List ℕ) → (heard_of begun f).message ≡ Some bytes → is_padding f ≡ false
gives_data begun (Data flags payload) bytes e = refl
gives_data begun (Pad n) bytes e = absurd (cc)

pub polls_message : (o : Opened) (r : Receiver) (v w : Subscribing) (bytes : List ℕ) (h : HasReadOn o r v) → r.consumers ≡ 1 → HearsFrame (Some (with_only_consumer o (stood h.consumer h.at))) (now_at o r h.consumer h.at) v.assembler (Some bytes) w → Polled (Some o) r (Ok (Some bytes)) w
polls_message o r v w bytes h seats (s, passes, state, message, fits) =
    let c = h.consumer in
    let frames = h.frames ++ s ∷ [] in
    let d = moved_all c frames in
    let reads : ReadsFrames o.image c frames (end_of s) = reads_more o.image c h.frames h.at s h.reads passes.among (passed_here o r c h.at s w.core passes) in
    let here : d.at ≡ end_of s = moved_at c frames (end_of s) reads.chain in
    let begun : w.assembler.begun ≡ (heard_of v.assembler.begun s.frame).begun = ap (λ (x : Assembling). x.begun) state in
    finish o r w (Ok (Some bytes)) c frames (end_of s) seats h.one reads passes.shown (ap (λ (x : Assembling). x.greatest) state ∙ h.greatest) (h.frames, s, refl, gives_data v.assembler.begun s.frame bytes (sym message))
    (λ kept. record {
      after = d;
      polls = record {
        earlier = h.frames;
        last = s;
        reads = subst (ReadsFrames o.image c frames) (sym here) reads;
        nothing = h.nothing kept;
        message_given = gives_more c h.frames s ∙ ap₂ (λ (xs ys : List (List ℕ)). xs ++ ys) (h.nothing kept) (ap (λ b. option_to_list (heard_of b s.frame).message) (sym (h.begun kept)) ∙ ap option_to_list (sym message));
        short = short_with r.greatest c h.frames s v.assembler h.greatest (h.begun kept) (h.short kept) fits;
        after = refl;
      };
      here = here;
      begun = λ l. begun ∙ ap (λ b. (heard_of b s.frame).begun) (h.begun kept) ∙ sym (moved_begun c h.frames s);
    })

named_with : (g : ℕ) (c : Consumer) (frames : List Placed) (s : Placed) (a : Assembling) (fault : AssemblyError) → a.greatest ≡ g → a.begun ≡ (moved_all c frames).assembly.begun → ((fault ≡ TooLong) ↔ IsTooLong a.greatest a.begun s.frame) → (fault ≡ TooLong) ↔ IsTooLong g (moved_all c frames).assembly.begun s.frame
named_with g c frames s a fault most begun h = subst (λ n. (fault ≡ TooLong) ↔ IsTooLong n (moved_all c frames).assembly.begun s.frame) most (subst (λ b. (fault ≡ TooLong) ↔ IsTooLong a.greatest b s.frame) begun h)

asked_with : (c : Consumer) (frames : List Placed) (s : Placed) (a : Assembling) (fault : AssemblyError) → a.begun ≡ (moved_all c frames).assembly.begun → (fault ≡ Memory → AsksMemory a.begun s.frame) → fault ≡ Memory → AsksMemory (moved_all c frames).assembly.begun s.frame
asked_with c frames s a fault begun h = subst (λ b. fault ≡ Memory → AsksMemory b s.frame) begun h

pub polls_fault : (o : Opened) (r : Receiver) (v w : Subscribing) (fault : AssemblyError) (h : HasReadOn o r v) → r.consumers ≡ 1 → RefusesFrame (Some (with_only_consumer o (stood h.consumer h.at))) (now_at o r h.consumer h.at) v.assembler fault w → Polled (Some o) r (Err (Unassembled fault)) w
polls_fault o r v w fault h seats (s, passes, state, of_data, named, asked) =
    let c = h.consumer in
    let frames = h.frames ++ s ∷ [] in
    let reads : ReadsFrames o.image c frames (end_of s) = reads_more o.image c h.frames h.at s h.reads passes.among (passed_here o r c h.at s w.core passes) in
    finish o r w (Err (Unassembled fault)) c frames (end_of s) seats h.one reads passes.shown (ap (λ (x : Assembling). x.greatest) state ∙ h.greatest) (h.frames, s, refl, of_data)
    (λ kept. record {
      after = passed_by (moved_all c h.frames) s;
      polls = record { earlier = h.frames; last = s; reads = reads; nothing = h.nothing kept; not_padding = of_data; short = h.short kept; named = named_with r.greatest c h.frames s v.assembler fault h.greatest (h.begun kept) named; asked = asked_with c h.frames s v.assembler fault (h.begun kept) asked; after = refl };
      here = refl;
      begun = λ l. absurd (both_ways true l refl);
    })

-- ---- the same, with the image that the receiver has

pub polls_bad : (v : Subscribing) (r : Receiver) → v.core.image ≡ None → RepresentsSubscriber v r → Polled r.image r (Err NoImage) v
polls_bad v r none h = (r, subst (λ x. PollsOf x r (Err NoImage) r) (sym (shown_none v.core.image r.image none h.core.image)) (refl, refl), h)

-- the receiver as it stands in the course of a poll
abbrev pub standing : (o : Option Opened) (r : Receiver) (v : Subscribing) → IsPolling o r v → Receiver
standing None r v h = r
standing (Some o) r v h = now_at o r h.consumer h.at

pub standing_shown : (o : Option Opened) (r : Receiver) (v : Subscribing) (h : IsPolling o r v) → Represents v.core (standing o r v h)
standing_shown None r v h = absurd h
standing_shown (Some o) r v h = h.shown (stood h.consumer h.at) refl

pub goes_on : (o : Option Opened) (r : Receiver) (v w : Subscribing) (h : IsPolling o r v) → HearsFrame (standing o r v h).image (standing o r v h) v.assembler None w → IsPolling o r w
goes_on None r v w h heard = absurd h
goes_on (Some o) r v w h heard = hears_on o r v w h heard

pub ends_none : (o : Option Opened) (r : Receiver) (v : Subscribing) (h : IsPolling o r v) → r.consumers ≡ 1 → HasNoFrame (standing o r v h).image 0 → Polled o r (Ok None) v
ends_none None r v h seats end = absurd h
ends_none (Some o) r v h seats end = polls_none o r v h seats end

pub ends_message : (o : Option Opened) (r : Receiver) (v w : Subscribing) (bytes : List ℕ) (h : IsPolling o r v) → r.consumers ≡ 1 → HearsFrame (standing o r v h).image (standing o r v h) v.assembler (Some bytes) w → Polled o r (Ok (Some bytes)) w
ends_message None r v w bytes h seats heard = absurd h
ends_message (Some o) r v w bytes h seats heard = polls_message o r v w bytes h seats heard

pub ends_fault : (o : Option Opened) (r : Receiver) (v w : Subscribing) (fault : AssemblyError) (h : IsPolling o r v) → r.consumers ≡ 1 → RefusesFrame (standing o r v h).image (standing o r v h) v.assembler fault w → Polled o r (Err (Unassembled fault)) w
ends_fault None r v w fault h seats refused = absurd h
ends_fault (Some o) r v w fault h seats refused = polls_fault o r v w fault h seats refused

-- ---- a frame that was read and joined

pub hears : {A : Type 0} (o : Option Opened) (r : Receiver) (core : Core) (a b : Assembling) (head : FrameHead) (payload : List ℕ) (m : Option (Message A)) → PassesFrame o r 0 head payload core → Joins a head payload (Ok m) b → HearsFrame o r a (option_map (λ x. x.bytes.items) m) (record { core = core; assembler = b })
hears None r core a b head payload m h j = absurd h
hears (Some o) r core a b head payload m h j =
    let shows : Shows head payload h.frame = (h.head_is, h.payload_is) in
    (h.frame, record { consumer = h.consumer; which = h.which; among = h.among; here = h.here; shown = h.shown }, j.state h.frame shows, j.message h.frame shows, j.short h.frame shows)

pub refuses : {A : Type 0} (o : Option Opened) (r : Receiver) (core : Core) (a b : Assembling) (head : FrameHead) (payload : List ℕ) (fault : AssemblyError) → PassesFrame o r 0 head payload core → Joins {A = A} a head payload (Err fault) b → RefusesFrame o r a fault (record { core = core; assembler = b })
refuses None r core a b head payload fault h j = absurd h
refuses (Some o) r core a b head payload fault h j =
    let shows : Shows head payload h.frame = (h.head_is, h.payload_is) in
    (h.frame, record { consumer = h.consumer; which = h.which; among = h.among; here = h.here; shown = h.shown }, j.dropped, j.refused h.frame shows, j.named h.frame shows, j.asked h.frame shows)

-- what holds between two frames of a poll that began with this subscriber
pub record PollsOnwards (start : Subscribing) (core : Core) (reader : Option ReaderSeat) (a : Assembling) : Type 0 where
  pub polling : (r : Receiver) → RepresentsSubscriber start r → IsPolling r.image r (record { core = core; assembler = a })
  pub greatest : a.greatest ≡ start.assembler.greatest
  pub is : IsCore core
  pub one : core.consumers ≡ 1
  pub seated : AreSeated core.image reader

-- without a reader there is no image
pub unseated : (o : Option Inserting) (r : Option ReaderSeat) → AreSeated o r → r ≡ None → o ≡ None
unseated None r seated none = refl
unseated (Some i) None seated none = absurd seated
unseated (Some i) (Some r) seated none = absurd (cc)

pub begins : (start : Subscribing) (core : Core) (reader : Option ReaderSeat) (a : Assembling) → record { core = core; assembler = a } ≡ start → is_some core.image ≡ true → IsCore core → core.consumers ≡ 1 → AreSeated core.image reader → PollsOnwards start core reader a
begins start core reader a same some is one seated = record {
  polling = λ r h.
      let v : Subscribing = record { core = core; assembler = a } in
      let g : RepresentsSubscriber v r = subst (λ (x : Subscribing). RepresentsSubscriber x r) (sym same) h in
      poll_starts v r.image r refl (some_shows core.image r.image some g.core.image) g;
  greatest = ap (λ (x : Subscribing). x.assembler.greatest) same;
  is = is;
  one = one;
  seated = seated;
}

onwards_none : (start : Subscribing) (core : Core) (reader : Option ReaderSeat) (a : Assembling) → PollsOnwards start core reader a → ((r : Receiver) → Represents core r → HasNoFrame r.image 0) → (r : Receiver) → RepresentsSubscriber start r → Polled r.image r (Ok None) (record { core = core; assembler = a })
onwards_none start core reader a o none r h =
    let v : Subscribing = record { core = core; assembler = a } in
    let p = o.polling r h in
    ends_none r.image r v p h.one (none (standing r.image r v p) (standing_shown r.image r v p))

-- it ends without a reader
pub ends_unseated : (start : Subscribing) (core : Core) (reader : Option ReaderSeat) (a : Assembling) → PollsOnwards start core reader a → reader ≡ None → (r : Receiver) → RepresentsSubscriber start r → Polled r.image r (Ok None) (record { core = core; assembler = a })
ends_unseated start core reader a o none = onwards_none start core reader a o (none_read core 0 (unseated core.image reader o.seated none))

-- at the contiguous end
pub ends_there : (start : Subscribing) (core : Core) (reader : Option ReaderSeat) (a b : Assembling) (i j : Inserting) → PollsOnwards start core reader a → core.image ≡ Some i → j ≡ i → b ≡ a → ((o : Opened) → RepresentsImage i o → IsAtEnd o 0)
    → (r : Receiver) → RepresentsSubscriber start r → Polled r.image r (Ok None) (record { core = imaged core j; assembler = b })
ends_there start core reader a b i j o some image assembler end r h =
    let stays : core.image ≡ Some j = some ∙ ap (λ (x : Inserting). Some x) (sym image) in
    subst (Polled r.image r (Ok None)) (λ k. record { core = record core { image = stays k }; assembler = sym assembler k }) (onwards_none start core reader a o (end_read core i 0 some end) r h)

-- what the call that reads a frame says of it, and the step that the joiner kept
pub record HasRead {A : Type 0} (i j : Inserting) (q : ReaderSeat) (a : Assembling) (step : Result (Option (Message A)) AssemblyError) (b : Assembling) : Type 0 where
  pub head : FrameHead
  pub payload : List ℕ
  pub reads : (o : Opened) → RepresentsImage i o → ReadsPast o 0 head payload (RepresentsImage j)
  pub joins : Joins a head payload step b
  pub alone : AreAlone (words_of j) j q
  pub shape : j ≡ record i { seen = j.seen }

-- the reader stands where the inserter has seen it
pub met_there : (i v : Inserting) (q : ReaderSeat) (o : Option Inserting) (r : Option ReaderSeat) → AreSeated o r → o ≡ Some v → r ≡ Some q → i ≡ v → i.seen ≡ position_of q ∷ []
met_there i v q o r seated some there same =
    let a : AreSeated (Some v) (Some q) = subst (λ (x : Option Inserting × Option ReaderSeat). AreSeated x.0 x.1) (λ j. (some j, there j)) seated in
    ap (λ (x : Inserting). x.seen) same ∙ a.met

-- no frame is there
pub stands_there : (i v : Inserting) (r : ReaderSeat) → i ≡ v → i.seen ≡ position_of r ∷ [] → IsContiguous i.stored (join_of i) (position_of r) → (o : Opened) → RepresentsImage v o → IsAtEnd o 0
stands_there i v r same met ends = subst (λ (x : Inserting). (o : Opened) → RepresentsImage x o → IsAtEnd o 0) same (at_end i (position_of r) met ends)

-- or one is, and was joined
pub has_read : {A : Type 0} (image : ImageWords) (i v j : Inserting) (r q : ReaderSeat) (a b : Assembling) (step : Result (Option (Message A)) AssemblyError) (head : FrameHead) → i ≡ v → i.seen ≡ position_of r ∷ [] → ((payload : List ℕ) × hand.PassesFrame i r head payload j q × Joins a head payload step b) → AreAlone image j q → HasRead v j q a step b
has_read image i v j r q a b step head same met e alone = record {
  head = head;
  payload = e.0;
  reads = subst (λ (x : Inserting). (o : Opened) → RepresentsImage x o → ReadsPast o 0 head e.0 (RepresentsImage j)) same (reads_past i j r q head e.0 met e.1);
  joins = e.2;
  alone = alone_to image j q alone;
  shape = moved_only i j (position_of q) e.1.inserter ∙ ap (λ (x : Inserting). record x { seen = j.seen }) same;
}

-- no position is above 2^55, and it goes on by a unit at the least
pub goes_further : (i v j : Inserting) (r q : ReaderSeat) (o : Option Inserting) (high : ℕ) (g : Geometry) (head : FrameHead) (payload : List ℕ) → o ≡ Some v → i ≡ v → i.seen ≡ position_of r ∷ [] → hand.PassesFrame i r head payload j q → AreFit i → high ≡ i.high → high ≤ max_position (geometry_of i) → g ≡ geometry_of v → IsGeometry g → 2 ^ 56 - place_in (Some j) 0 < 2 ^ 56 - place_in o 0
goes_further i v j r q o high g head payload some same met f fit mark low shape legal =
    let there : o ≡ Some i = some ∙ ap (λ (x : Inserting). Some x) (sym same) in
    let below : i.high ≤ max_position (geometry_of i) = subst (λ x. x ≤ max_position (geometry_of i)) mark low in
    let is : IsGeometry (geometry_of i) = subst IsGeometry (shape ∙ ap geometry_of (sym same)) legal in
    let on = forward i j (position_of r) (position_of q) met (ap (λ (x : Inserting). x.seen) f.inserter) (f.frame, f.among, f.here, f.ends) fit below is in
    let from : place_in o 0 ≡ slice_index i.seen 0 = ap (λ (x : Option Inserting). place_in x 0) there in
    let further = on.0 in
    let least = on.1 in
    omega (arith, further, least, from)

-- or goes on
pub reads_onwards : {A : Type 0} (start : Subscribing) (core : Core) (reader : Option ReaderSeat) (a b c : Assembling) (i j : Inserting) (q : ReaderSeat) (step : Result (Option (Message A)) AssemblyError) → PollsOnwards start core reader a → core.image ≡ Some i → HasRead i j q a step b → step ≡ Ok None → c ≡ b
    → PollsOnwards start (imaged core j) (Some q) c
reads_onwards start core reader a b c i j q step o some read told same =
    let v : Subscribing = record { core = core; assembler = a } in
    let w : Subscribing = record { core = imaged core j; assembler = c } in
    let joins = subst (λ (x : Result _ AssemblyError × Assembling). Joins a read.head read.payload x.0 x.1) (λ k. (told k, sym same k)) read.joins in
    record {
      polling = λ r h.
          let p = o.polling r h in
          goes_on r.image r v w p (hears (standing r.image r v p).image (standing r.image r v p) (imaged core j) a c read.head read.payload None (frame_read core i j 0 read.head read.payload some read.reads (standing r.image r v p) (standing_shown r.image r v p)) joins);
      greatest = joins.greatest ∙ o.greatest;
      is = core_read core (imaged core j) i j o.is some o.one read.shape (ap (λ (xs : List ℕ). length xs) read.alone.met) refl refl refl refl refl;
      one = o.one;
      seated = read.alone;
    }

pub ends_with : {A : Type 0} (start : Subscribing) (core : Core) (reader : Option ReaderSeat) (a b c : Assembling) (i j : Inserting) (q : ReaderSeat) (step : Result (Option (Message A)) AssemblyError) (message : Message A) → PollsOnwards start core reader a → core.image ≡ Some i → HasRead i j q a step b → step ≡ Ok (Some message) → c ≡ b
    → (r : Receiver) → RepresentsSubscriber start r → Polled r.image r (Ok (Some message.bytes.items)) (record { core = imaged core j; assembler = c })
ends_with start core reader a b c i j q step message o some read told same r h =
    let v : Subscribing = record { core = core; assembler = a } in
    let w : Subscribing = record { core = imaged core j; assembler = c } in
    let joins = subst (λ (x : Result _ AssemblyError × Assembling). Joins a read.head read.payload x.0 x.1) (λ k. (told k, sym same k)) read.joins in
    let p = o.polling r h in
    ends_message r.image r v w message.bytes.items p h.one (hears (standing r.image r v p).image (standing r.image r v p) (imaged core j) a c read.head read.payload (Some message) (frame_read core i j 0 read.head read.payload some read.reads (standing r.image r v p) (standing_shown r.image r v p)) joins)

pub ends_refused : {A : Type 0} (start : Subscribing) (core : Core) (reader : Option ReaderSeat) (a b c : Assembling) (i j : Inserting) (q : ReaderSeat) (step : Result (Option (Message A)) AssemblyError) (fault : AssemblyError) → PollsOnwards start core reader a → core.image ≡ Some i → HasRead i j q a step b → step ≡ Err fault → c ≡ b
    → (r : Receiver) → RepresentsSubscriber start r → Polled r.image r (Err (Unassembled fault)) (record { core = imaged core j; assembler = c })
ends_refused start core reader a b c i j q step fault o some read told same r h =
    let v : Subscribing = record { core = core; assembler = a } in
    let w : Subscribing = record { core = imaged core j; assembler = c } in
    let joins = subst (λ (x : Result _ AssemblyError × Assembling). Joins a read.head read.payload x.0 x.1) (λ k. (told k, sym same k)) read.joins in
    let p = o.polling r h in
    ends_fault r.image r v w fault p h.one (refuses (standing r.image r v p).image (standing r.image r v p) (imaged core j) a c read.head read.payload fault (frame_read core i j 0 read.head read.payload some read.reads (standing r.image r v p) (standing_shown r.image r v p)) joins)

-- ---- what the image tells

pub tells : (v : Subscribing) (i : Inserting) (at q high : ℕ) (r : Receiver) → v.core.image ≡ Some i → i.seen ≡ at ∷ [] → IsContiguous i.stored (join_of i) q → high ≡ i.high → RepresentsSubscriber v r → TellsPositions r (Some (record { least = at; rebuilt = q; high_water = high }))
tells v i at q high r some is end mark h =
    let w = shown_some i v.core.image r.image some h.core.image in
    let lowest = ap least (sym is) ∙ least_shown i w.opened w.shown in
    subst (λ x. TellsOf x (Some (record { least = at; rebuilt = q; high_water = high }))) (sym w.is)
    (q, subst (λ (x : List Placed × ℕ). IsContiguous x.0 x.1 q) (λ j. (w.shown.stored j, w.shown.join j)) end, (λ j. Some (record { least = lowest j; rebuilt = q; high_water = (mark ∙ w.shown.high) j })))

-- where the reader stands that the inserter has seen, nothing is missing below
pub stands_below : (o : Option Inserting) (r : Option ReaderSeat) (i : Inserting) (q : ReaderSeat) (rebuilt : ℕ) → AreSeated o r → o ≡ Some i → r ≡ Some q → AllByRecursion (λ p. (join_of i ≤ p) × (p ≤ rebuilt)) i.seen → (i.seen ≡ position_of q ∷ []) × (position_of q ≤ rebuilt)
stands_below o r i q rebuilt seated some there behind =
    let a : AreSeated (Some i) (Some q) = subst (λ (x : Option Inserting × Option ReaderSeat). AreSeated x.0 x.1) (λ j. (some j, there j)) seated in
    (a.met, (subst (AllByRecursion (λ p. (join_of i ≤ p) × (p ≤ rebuilt))) a.met behind).0.1)

-- a core without an image
pub subscribes : (v : Subscribing) (r : Receiver) → v.core.image ≡ None → v.core.consumers ≡ 1 → v.assembler.begun ≡ None → v.assembler.greatest ≡ r.greatest → Represents v.core r → RepresentsSubscriber v r
subscribes v r none one begun most h = record { core = h; one = ap (λ (x : Receiver). x.consumers) h.numbers ∙ one; begun = subst (AssemblesFor v.assembler.begun) (sym (shown_none v.core.image r.image none h.image)) begun; greatest = most }
