-- What an image keeps of its consumers and its join, whatever it is given; and an assembler's last frame.
use Rattle.std.proofs.Common.{◌≡◌, ℕ, List, [], ◌∷◌, ◌++◌, true, false, ⊎_elim, refl, ap}
use Rattle.std.specs.Prelude.{ℤ, pos, negsuc}
use Rattle.std.proofs.lemmas.Bool.{cases_Bool, cond-true, cond-false}
use Rattle.theory.specs.Assembly.{Assembly, after, after_all}
use Rattle.theory.specs.Position.{Geometry}
use Rattle.theory.specs.Placed.{Frame, Placed}
use Rattle.theory.specs.Image.{Image, after_heartbeat, after_insert, is_accepted}
use Rattle.theory.specs.Insert as meaning
use Rattle.theory.specs.Insert.{Insert}

pub insert_stays : (i : Image) (s : Placed) (a : Insert) → ((after_insert i s a).consumers ≡ i.consumers) × ((after_insert i s a).join ≡ i.join)
insert_stays i s meaning.CrossesTerm = (refl, refl)
insert_stays i s meaning.Below = (refl, refl)
insert_stays i s meaning.OverWindow = (refl, refl)
insert_stays i s meaning.Duplicate = (refl, refl)
insert_stays i s meaning.Overlap = (refl, refl)
insert_stays i s meaning.Stored = (refl, refl)

pub beat_stays : (g : Geometry) (i : Image) (least : ℕ) (p : ℤ) → ((after_heartbeat g i least p).consumers ≡ i.consumers) × ((after_heartbeat g i least p).join ≡ i.join)
beat_stays g i least (negsuc n) = (refl, refl)
beat_stays g i least (pos p) =
    ⊎_elim
    (λ (t : is_accepted g i.high least p ≡ true). (ap (λ x. x.consumers) (cond-true (is_accepted g i.high least p) (record i { high = p }) i t), ap (λ x. x.join) (cond-true (is_accepted g i.high least p) (record i { high = p }) i t)))
    (λ (f : is_accepted g i.high least p ≡ false). (ap (λ x. x.consumers) (cond-false (is_accepted g i.high least p) (record i { high = p }) i f), ap (λ x. x.join) (cond-false (is_accepted g i.high least p) (record i { high = p }) i f)))
    (cases_Bool (is_accepted g i.high least p))

pub after_last : (a : Assembly) (fs : List Frame) (f : Frame) → after_all a (fs ++ f ∷ []) ≡ after (after_all a fs) f
after_last a [] f = refl
after_last a (g ∷ fs) f = after_last (after a g) fs f
