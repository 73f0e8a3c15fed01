use Rattle.std.proofs.Common.{◌∙◌, ℕ, List, subst, ◌++◌, ◌∷◌, [], ap, sym, append_assoc}
use Rattle.channel.specs.Channels.{parts_left}
use Rattle.channel.specs.Settings.{Sets, nothing}
use Rattle.channel.proofs.Endings.{sets_more}
use Rattle.channel.proofs.channel.settings.Goals as goal

pub loop-part-preserved : goal.loop-part-preserved
loop-part-preserved c =
    let i = c.loop-part.invariant in
    let more = sets_more nothing _ i.0 _ _ i.2 c.in_ok-setting.ensures.set.0 c.in_ok-setting.ensures.set.1 in (
      i.0 ++ c.in-Some.part.now ∷ [],
      i.1 ∙ ap (λ (ps : List (List ℕ)). i.0 ++ ps) c.in-Some.ensures.steps ∙ sym (append_assoc i.0 (c.in-Some.part.now ∷ []) (parts_left c.next.new.self)),
      subst (Sets nothing (i.0 ++ c.in-Some.part.now ∷ [])) (sym c.with-settings.ensures) more,
    )
