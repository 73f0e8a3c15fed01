-- A poll as events of its image.
use Rattle.std.proofs.Common.{◌≡◌, ℕ, List, [], ◌∷◌, false, Some, refl, sym, ap, ◌∙◌, subst}
use Rattle.std.specs.Prelude.{slice_get, slice_set}
use Rattle.theory.specs.Placed.{AllAmong, Chain, Placed}
use Rattle.theory.specs.Consumer.{Consumer, MayMove, moved, passed_by}
use Rattle.theory.specs.Image.{Image, Poll, Lose}
use Rattle.model.specs.World.{World, Step}
use Rattle.model.specs.World.{AtImage}
use Rattle.receiver.specs.Polling.{moved_all, passed_all}
use Rattle.script_meaning.proofs.Runs.{Goes, stays, goes_one, goes_on, with_image, image_kept, image_there, image_again}

abbrev pub with_one : Image → Consumer → Image
with_one i c = record i { consumers = c ∷ [] }

-- what holds of the one consumer of an image of the world
pub record Stands (w : World) (k : ℕ) (i : Image) (c : Consumer) : Type 0 where
  pub image : slice_get w.images k ≡ Some (Some i)
  pub one : i.consumers ≡ c ∷ []

stands_one : (w : World) (k : ℕ) (i : Image) (c : Consumer) → Stands w k i c → with_one i c ≡ i
stands_one w k i c h = ap (λ xs. record i { consumers = xs }) (sym h.one)

pub stands_after : (w : World) (k : ℕ) (i : Image) (c d : Consumer) → Stands w k i c → Stands (with_image w k (with_one i d)) k (with_one i d) d
stands_after w k i c d h = record { image = image_there w k i (with_one i d) h.image; one = refl }

pub polls_one : (w : World) (k : ℕ) (i : Image) (c : Consumer) (s : Placed) → Stands w k i c → MayMove i.stored s c → c.lost ≡ false → Step w (AtImage k (Poll 0 s)) (with_image w k (with_one i (moved c s)))
polls_one w k i c s h may heard =
    let first : slice_get i.consumers 0 ≡ Some c = subst (λ xs. slice_get xs 0 ≡ Some c) (sym h.one) refl in
    let set : with_one i (moved c s) ≡ record i { consumers = slice_set i.consumers 0 (moved c s) } = ap (λ xs. record i { consumers = slice_set xs 0 (moved c s) }) (sym h.one) in
    (i, with_one i (moved c s), h.image, (c, first, may, heard, set), refl)

pub loses_one : (w : World) (k : ℕ) (i : Image) (c : Consumer) (s : Placed) → Stands w k i c → MayMove i.stored s c → Step w (AtImage k (Lose 0 s)) (with_image w k (with_one i (passed_by c s)))
loses_one w k i c s h may =
    let first : slice_get i.consumers 0 ≡ Some c = subst (λ xs. slice_get xs 0 ≡ Some c) (sym h.one) refl in
    let set : with_one i (passed_by c s) ≡ record i { consumers = slice_set i.consumers 0 (passed_by c s) } = ap (λ xs. record i { consumers = slice_set xs 0 (passed_by c s) }) (sym h.one) in
    (i, with_one i (passed_by c s), h.image, (c, first, may, set), refl)

stays_one : (w : World) (k : ℕ) (i : Image) (c : Consumer) → Stands w k i c → Goes w (with_image w k (with_one i c))
stays_one w k i c h = stays w (with_image w k (with_one i c)) (ap (λ x. with_image w k x) (stands_one w k i c h) ∙ image_kept w k i h.image)

-- frames that the assembler heard
pub moves : (w : World) (k : ℕ) (i : Image) (c : Consumer) (q : ℕ) (frames : List Placed) → Stands w k i c → c.lost ≡ false → Chain c.at q frames → AllAmong i.stored frames → Goes w (with_image w k (with_one i (moved_all c frames)))
moves w k i c q [] h heard chain among = stays_one w k i c h
moves w k i c q (s ∷ ss) h heard chain among =
    let mid = with_image w k (with_one i (moved c s)) in
    let step : Goes w mid = goes_one w mid (AtImage k (Poll 0 s)) (polls_one w k i c s h (record { among = among.0; here = chain.0 }) heard) in
    let rest = moves mid k (with_one i (moved c s)) (moved c s) q ss (stands_after w k i c (moved c s) h) heard chain.1 among.1 in
    let last = with_one i (moved_all (moved c s) ss) in
    subst (λ v. Goes w v) (image_again w k (with_one i (moved c s)) last) (goes_on w mid (with_image mid k last) step rest)

-- frames that it didn't
pub passes : (w : World) (k : ℕ) (i : Image) (c : Consumer) (q : ℕ) (frames : List Placed) → Stands w k i c → Chain c.at q frames → AllAmong i.stored frames → Goes w (with_image w k (with_one i (passed_all c frames)))
passes w k i c q [] h chain among = stays_one w k i c h
passes w k i c q (s ∷ ss) h chain among =
    let mid = with_image w k (with_one i (passed_by c s)) in
    let step : Goes w mid = goes_one w mid (AtImage k (Lose 0 s)) (loses_one w k i c s h (record { among = among.0; here = chain.0 })) in
    let rest = passes mid k (with_one i (passed_by c s)) (passed_by c s) q ss (stands_after w k i c (passed_by c s) h) chain.1 among.1 in
    let last = with_one i (passed_all (passed_by c s) ss) in
    subst (λ v. Goes w v) (image_again w k (with_one i (passed_by c s)) last) (goes_on w mid (with_image mid k last) step rest)

-- who passes frames unheard joined where it did
pub passed_join : (c : Consumer) (frames : List Placed) → (passed_all c frames).join ≡ c.join
passed_join c [] = refl
passed_join c (s ∷ ss) = passed_join (passed_by c s) ss
