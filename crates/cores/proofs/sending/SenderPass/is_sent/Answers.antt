use Rattle.std.proofs.Common.{◌≡◌, List, [], ◌∷◌, false, refl, sym, ap, ◌∙◌}
use Rattle.std.specs.Prelude.{IsTrue}
use Rattle.std.specs.Option.{option_copied}
use Rattle.cores.specs.Senders.{SenderValue}
use Rattle.cores.proofs.Left.{none_at, some_at}
use Rattle.cores.proofs.sending.SenderPass.is_sent.Goals as goal

pub returns-in-None : goal.returns-in-None
returns-in-None c = (λ t. ap (λ (v : SenderValue). v.left) (sym c.self.view_is) ∙ none_at c.self.inside.outbox.datagrams c.self.inside.sent (sym c.datagram.ensures ∙ ap option_copied c.in-None.is), λ e. refl)

not_empty : {X P : Type 0} (x : X) (xs ys : List X) → ys ≡ x ∷ xs → ys ≡ [] → P
not_empty x xs ys e f = absurd (cc)

not_true : {P : Type 0} → IsTrue false → P
not_true t = absurd (cc)

pub returns-in-Some : goal.returns-in-Some
returns-in-Some c = (not_true, λ e. not_empty _ _ _ (ap (λ (v : SenderValue). v.left) (sym c.self.view_is) ∙ some_at c.self.inside.outbox.datagrams c.self.inside.sent c.in-Some.field-0.now (sym c.datagram.ensures ∙ ap option_copied c.in-Some.is)) e)
