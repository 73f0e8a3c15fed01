-- What an assembler gives of frames that a consumer moved past.
use Rattle.std.proofs.Common.{◌≡◌, List, [], ◌∷◌, ◌++◌, map, refl, sym, ap, ◌∙◌, append-nil}
use Rattle.theory.specs.Placed.{Placed}
use Rattle.theory.specs.Assembly.{after_all}
use Rattle.theory.specs.Consumer.{Consumer, moved}
use Rattle.assembler.proofs.Hearing.{given_more}
use Rattle.receiver.specs.Polling.{moved_all, gives}

-- a consumer that moved past these frames has been given their messages, and stands behind them
pub record MovedPast (c : Consumer) (frames : List Placed) (d : Consumer) : Type 0 where
  pub given : d.assembly.given ≡ c.assembly.given ++ gives c frames
  pub assembly : d.assembly ≡ after_all c.assembly (map (λ s. s.frame) frames)
  pub join : d.join ≡ c.join
  pub lost : d.lost ≡ c.lost

assembled : (c : Consumer) (frames : List Placed) → (moved_all c frames).assembly ≡ after_all c.assembly (map (λ s. s.frame) frames)
assembled c [] = refl
assembled c (s ∷ ss) = assembled (moved c s) ss

joined_still : (c : Consumer) (frames : List Placed) → (moved_all c frames).join ≡ c.join
joined_still c [] = refl
joined_still c (s ∷ ss) = joined_still (moved c s) ss

lost_still : (c : Consumer) (frames : List Placed) → (moved_all c frames).lost ≡ c.lost
lost_still c [] = refl
lost_still c (s ∷ ss) = lost_still (moved c s) ss

pub moved_past : (c : Consumer) (frames : List Placed) → MovedPast c frames (moved_all c frames)
moved_past c frames =
    let fs = map (λ (s : Placed). s.frame) frames in
    let alone : c.assembly ≡ record { begun = c.assembly.begun; given = c.assembly.given ++ [] } = ap (λ zs. record c.assembly { given = zs }) (sym (append-nil c.assembly.given)) in
    record {
      given = ap (λ a. a.given) (assembled c frames) ∙ ap (λ a. (after_all a fs).given) alone ∙ given_more c.assembly.begun c.assembly.given [] fs;
      assembly = assembled c frames;
      join = joined_still c frames;
      lost = lost_still c frames;
    }
