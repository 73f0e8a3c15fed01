-- What a publisher's calls say of its claims.
use Rattle.std.proofs.Common.{◌≡◌, ℕ, ◌+◌, List, [], ◌∷◌, ◌++◌, map, refl, sym, ap, ◌∙◌, subst}
use Rattle.std.specs.List.{AllByRecursion, flat_map}
use Rattle.std.proofs.lemmas.List.{map-append}
use Rattle.theory.specs.Bytes.{Identity}
use Rattle.theory.specs.Entry.{Entry, committed}
use Rattle.theory.specs.Placed.{AllAmong, Among, Data, Frame, Pad, Placed, frame_length, place_all}
use Rattle.theory.specs.Position.{aligned}
use Rattle.theory.proofs.Lists.{all_from}
use Rattle.position.specs.Contents.{frame_of}
use Rattle.position.specs.Words.{frame_words}
use Rattle.position.proofs.Contents.{bytes_small, data_said, pad_said}
use Rattle.publication.specs.Frames.{frames_at}
use Rattle.shared_log.specs.Sourced.{placed}
use Rattle.log_messages.specs.Closed.{CommitsItsClaims, IsTold, joined, words_in}

said : (i : Identity) (p : ℕ) (f : Frame) → IsTold f → frame_of (frame_words i p f) ≡ f
said i p (Data flags payload) told = data_said i p flags payload told.0 (bytes_small payload told.2) told.1
said i p (Pad n) told = pad_said i p n told.0 told.1

frames_said : (i : Identity) (p : ℕ) (fs : List Frame) → AllByRecursion IsTold fs → map placed (frames_at i p fs) ≡ place_all p fs
frames_said i p [] all = refl
frames_said i p (f ∷ fs) all = λ j. record { at = p; frame = said i p f all.0 j } ∷ frames_said i (p + aligned (frame_length f)) fs all.1 j

entries_said : (i : Identity) (es : List Entry) → AllByRecursion (λ e. AllByRecursion IsTold e.frames) es → map placed (flat_map (words_in i) es) ≡ committed es
entries_said i [] all = refl
entries_said i (e ∷ es) all =
    map-append placed (words_in i e) (flat_map (words_in i) es)
    ∙ (λ j. frames_said i e.start e.frames all.0 j ++ entries_said i es all.1 j)

pub commits_its_claims : CommitsItsClaims
commits_its_claims i p lists has =
    let said : map placed p.pass.work.frames ≡ committed (joined lists) = ap (map placed) has.frames ∙ entries_said i (joined lists) has.told in
    record {
      claims = has.claims;
      ordered = has.ordered;
      entries = has.entries;
      frames = subst (AllAmong (committed (joined lists))) (sym said) (all_from (λ (s : Placed). Among s (committed (joined lists))) (committed (joined lists)) (λ s a. a));
    }
