-- Where a sender stands behind a cycle.
use Rattle.std.proofs.Common.{◌≡◌, ◌∙◌, ℕ, ◌%◌, ◌≤◌, List, [], ◌∷◌, ◌++◌, ⊎_elim, refl, sym, subst, arith}
use Rattle.std.specs.List.{AllByRecursion}
use Rattle.theory.specs.Datagrams.{frames_of}
use Rattle.theory.specs.Entry.{committed}
use Rattle.theory.specs.Placed.{AllAmong, Among, Chain, Placed, end_of}
use Rattle.theory.specs.Position.{max_position}
use Rattle.theory.proofs.Follow.{chain_span}
use Rattle.theory.proofs.Frames.{committed_below}
use Rattle.theory.proofs.Lists.{all_at, all_from}
use Rattle.sender.specs.Resending.Handler.{Handler, after_note}
use Rattle.sender.specs.Cycling.{GivesNew, TakesAll}
use Rattle.sender.specs.Sending.{all_noted}
use Rattle.receiver.specs.Lives.{IsStream, Stream}
use Rattle.sender_meaning.proofs.Honest.{sent_among}

chain_front : (j q : ℕ) (xs : List Placed) (s : Placed) → Chain j q (xs ++ s ∷ []) → Chain j s.at xs
chain_front j q [] s c = c.0
chain_front j q (x ∷ xs) s c = (c.0, chain_front (end_of x) q xs s c.1)

noted_at : (h : Handler) (j q : ℕ) (ss : List Placed) → h.at ≡ j → Chain j q ss → (all_noted h ss).at ≡ q
noted_at h j q [] here c = here ∙ sym c
noted_at h j q (s ∷ ss) here c = noted_at (after_note h s.at (end_of s)) (end_of s) q ss refl c.1

chain_low : (j q most : ℕ) (ss : List Placed) → Chain j q ss → j ≤ most → AllByRecursion (λ s. end_of s ≤ most) ss → q ≤ most
chain_low j q most [] c low all = omega (arith, c, low)
chain_low j q most (s ∷ ss) c low all = chain_low (end_of s) q most ss c.1 all.0 all.1

-- the new frames lead from where it stood to where it stands then
pub leads : {Ended : Type 0} (at to : ℕ) (sent : List (List Placed)) (reads : List Placed) → Chain at to reads → TakesAll sent reads Ended → (end : ℕ) × Chain at end (frames_of sent)
leads {Ended} at to sent reads chain takes =
    ⊎_elim
    (λ (e : (reads ≡ frames_of sent) × Ended). (to, subst (Chain at to) e.0 chain))
    (λ (e : (s : Placed) × (reads ≡ frames_of sent ++ s ∷ [])). (e.0.at, chain_front at to (frames_of sent) e.0 (subst (Chain at to) e.1 chain)))
    takes

-- a position of the stream
pub stands_on : (x : Stream) → IsStream x → (h : Handler) (frames : List Placed) (limit : ℕ) (ds : List (List Placed)) → AllAmong (committed x.entries) frames → GivesNew x.identity.geometry frames h.at limit ds → h.at % 32 ≡ 0 → h.at ≤ max_position x.identity.geometry
    → ((all_noted h (frames_of ds)).at % 32 ≡ 0) × ((all_noted h (frames_of ds)).at ≤ max_position x.identity.geometry)
stands_on x is h frames limit ds known new unit low =
    let end = leads h.at new.to ds new.reads new.read.chain new.ends in
    let at : (all_noted h (frames_of ds)).at ≡ end.0 = noted_at h h.at end.0 (frames_of ds) refl end.1 in
    let span = chain_span h.at end.0 (frames_of ds) end.1 in
    let among = sent_among x frames new.reads h.at new.to ds _ known new.read new.ends in
    let below = committed_below x.identity.geometry.term_length x.start x.tail x.entries is.tiles is.entries in
    let most : AllByRecursion (λ s. end_of s ≤ max_position x.identity.geometry) (frames_of ds) =
    all_from (λ s. end_of s ≤ max_position x.identity.geometry) (frames_of ds) (λ s a. let b : end_of s ≤ x.tail = all_at (λ t. end_of t ≤ x.tail) s (committed x.entries) below (all_at (λ t. Among t (committed x.entries)) s (frames_of ds) among a) in let t = is.tail_low in omega (arith, b, t)) in
    let least = chain_low h.at end.0 (max_position x.identity.geometry) (frames_of ds) end.1 low most in
    ((let e = span.1 in omega (arith, at, e, unit)), omega (arith, at, least))
