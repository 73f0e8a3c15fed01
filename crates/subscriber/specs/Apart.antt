-- The sessions at a subscriber's places, no two of which are the same.
use Rattle.std.specs.Prelude.{◌≡◌, ⊤, List, [], ◌∷◌}
use Rattle.std.specs.List.{AllByRecursion}
use Rattle.subscriber.specs.declared.images.session.Session.{Session}

-- each follows another session
abbrev pub AreApart : List Session → Type 0
AreApart [] = ⊤
AreApart (j ∷ others) = AllByRecursion (λ (k : Session). ¬ (k.follower.opening.session ≡ j.follower.opening.session)) others × AreApart others
