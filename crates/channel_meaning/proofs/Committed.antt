-- What a publisher's sender knew of its log are committed frames of the stream.
use Rattle.std.proofs.Common.{◌≡◌, ◌∙◌, ℕ, ◌+◌, List, [], ◌∷◌, ◌++◌, map, inl, inr, refl, sym, ap, subst, append-nil, arith}
use Rattle.std.specs.List.{AllByRecursion, flat_map}
use Rattle.theory.specs.Bytes.{Identity, wire_at}
use Rattle.theory.specs.Entry.{committed}
use Rattle.theory.specs.Placed.{AllAmong, Among, Data, Frame, Pad, Placed, frame_length, place_all}
use Rattle.theory.specs.Position.{aligned}
use Rattle.theory.specs.Wire.{IsFrame}
use Rattle.theory.proofs.Lists.{all_behind, all_front}
use Rattle.position.specs.Contents.{frame_of}
use Rattle.position.specs.Words.{frame_words}
use Rattle.position.proofs.Contents.{bytes_small, data_said, flags_low, pad_said}
use Rattle.publication.specs.declared.pass.FrameWords.{FrameWords}
use Rattle.publication.specs.Frames.{frames_at}
use Rattle.shared_log.specs.Steps.Handles.{PublisherValue}
use Rattle.log_rule.proofs.Claimed.Memories.{maps_append}
use Rattle.shared_log.specs.Books.{IsCommittedBy, committed_of}
use Rattle.shared_log.specs.Sourced.{placed}
use Rattle.publisher.specs.Offers.{Taken, frames_in}
use Rattle.publisher.specs.Offers.Taken.{Message, Padding}
use Rattle.publisher.specs.Openings.{HasNone}
use Rattle.channel_meaning.specs.Streams.{entry_of}

-- ---- the words of a frame say it

said : (i : Identity) (p : ℕ) (f : Frame) → IsFrame (wire_at i p f) → frame_of (frame_words i p f) ≡ f
said i p (Data flags payload) is = data_said i p flags payload (flags_low flags is.1) (bytes_small payload is.4) (let short = is.2 in omega (arith, short))
said i p (Pad n) is = let some = is.1 in let short = is.2 in pad_said i p n (omega (arith, some)) (omega (arith, short))

frames_placed : (i : Identity) (p : ℕ) (fs : List Frame) → AllByRecursion (λ s. IsFrame (wire_at i s.at s.frame)) (place_all p fs) → map placed (frames_at i p fs) ≡ place_all p fs
frames_placed i p [] is = refl
frames_placed i p (f ∷ fs) is = λ j. record { at = p; frame = said i p f is.0 j } ∷ frames_placed i (p + aligned (frame_length f)) fs is.1 j

taken_placed : (i : Identity) (number : ℕ) (t : Taken) → AllByRecursion (λ s. IsFrame (wire_at i s.at s.frame)) (committed (entry_of i number t ∷ [])) → map placed (frames_in i t) ≡ place_all (entry_of i number t).start (entry_of i number t).frames
taken_placed i number (Message start message) is = frames_placed i start (entry_of i number (Message start message)).frames (all_front (λ s. IsFrame (wire_at i s.at s.frame)) (place_all start (entry_of i number (Message start message)).frames) [] is)
taken_placed i number (Padding start bytes) is = frames_placed i start (Pad bytes ∷ []) is

-- those of what was claimed are the stream's
all_placed : (i : Identity) (number : ℕ) (ts : List Taken) → AllByRecursion (λ s. IsFrame (wire_at i s.at s.frame)) (committed (map (entry_of i number) ts)) → map placed (flat_map (frames_in i) ts) ≡ committed (map (entry_of i number) ts)
all_placed i number [] is = refl
all_placed i number (t ∷ ts) is =
    let e = entry_of i number t in
    let here = all_front (λ s. IsFrame (wire_at i s.at s.frame)) (place_all e.start e.frames) (committed (map (entry_of i number) ts)) is in
    let rest = all_behind (λ s. IsFrame (wire_at i s.at s.frame)) (place_all e.start e.frames) (committed (map (entry_of i number) ts)) is in
    maps_append placed (frames_in i t) (flat_map (frames_in i) ts)
    ∙ (λ j. taken_placed i number t (subst (AllByRecursion (λ s. IsFrame (wire_at i s.at s.frame))) (sym (append-nil (place_all e.start e.frames))) here) j ++ all_placed i number ts rest j)

-- ---- what others committed is nothing

of_last : (others : List PublisherValue) (p : PublisherValue) → AllByRecursion HasNone others → flat_map committed_of (others ++ p ∷ []) ≡ p.pass.work.frames
of_last [] p none = append-nil p.pass.work.frames
of_last (o ∷ os) p none = ap (λ (fs : List FrameWords). fs ++ flat_map committed_of (os ++ p ∷ [])) none.0.1 ∙ of_last os p none.1

among_map : {A B : Type 0} (g : A → B) (x : A) (xs : List A) → Among x xs → Among (g x) (map g xs)
among_map g x [] h = absurd h
among_map g x (y ∷ ys) (inl e) = inl (ap g e)
among_map g x (y ∷ ys) (inr h) = inr (among_map g x ys h)

placed_among : (fs known : List FrameWords) → AllByRecursion (λ f. Among f fs) known → AllAmong (map placed fs) (map placed known)
placed_among fs [] all = tt
placed_among fs (f ∷ known) all = (among_map placed f fs all.0, placed_among fs known all.1)

-- so frames that these publishers committed, of which one alone has claimed anything, are the stream's
pub all_known : (i : Identity) (number : ℕ) (ts : List Taken) (others : List PublisherValue) (last : PublisherValue) (known : List FrameWords)
    → AllByRecursion (λ s. IsFrame (wire_at i s.at s.frame)) (committed (map (entry_of i number) ts)) → AllByRecursion HasNone others → last.pass.work.frames ≡ flat_map (frames_in i) ts
    → AllByRecursion (IsCommittedBy (others ++ last ∷ [])) known → AllAmong (committed (map (entry_of i number) ts)) (map placed known)
all_known i number ts others last known spelled none frames all =
    subst (λ (ss : List Placed). AllAmong ss (map placed known)) (all_placed i number ts spelled)
    (placed_among (flat_map (frames_in i) ts) known (subst (λ (fs : List FrameWords). AllByRecursion (λ f. Among f fs) known) (of_last others last none ∙ frames) all))
