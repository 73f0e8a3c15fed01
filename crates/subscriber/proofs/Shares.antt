-- Of how many images a session's next one is one.
use Rattle.std.proofs.Common.{◌≡◌, ◌∙◌, ℕ, List, [], ◌∷◌, ◌++◌, length, get_or, refl, ap}
use Rattle.subscriber.specs.Sessions.{IsShareAt, share_of}
use Rattle.subscriber.specs.declared.images.session.Session.{Session}

pub behind_front : {X : Type 0} (front back : List X) (j d : X) → get_or (front ++ j ∷ back) (length front) d ≡ j
behind_front [] back j d = refl
behind_front (x ∷ front) back j d = behind_front front back j d

pub share_is : (sessions : List Session) (place share : ℕ) (d : Session) → share ≡ share_of sessions (get_or sessions place d) → IsShareAt sessions place share
share_is sessions place share d so = λ front back j parts at.
    so ∙ ap (share_of sessions) (ap (λ (xs : List Session). get_or xs place d) parts ∙ ap (λ (n : ℕ). get_or (front ++ j ∷ back) n d) at ∙ behind_front front back j d)
