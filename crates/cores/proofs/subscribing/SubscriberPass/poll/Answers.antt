use Rattle.std.proofs.Common.{◌≡◌, ◌≤◌, ℕ, List, ◌++◌, drop, length, Result, Ok, Err, sym, ap, ◌∙◌, subst, arith}
use Rattle.std.specs.Prelude.{IfOk, IfSome, Option, None, Some}
use Rattle.receiver.specs.Polling.{Polls}
use Rattle.receiver.specs.Subscribing.{SubscriberBecomes}
use Rattle.cores.specs.Subscribers.{SubscriberValue}
use Rattle.cores.specs.Subscribing.{GivesMessage}
use Rattle.cores.specs.declared.fault.Fault.{Fault}
use Rattle.cores.proofs.subscribing.SubscriberPass.poll.Goals as goal
use Rattle.cores.proofs.subscribing.SubscriberPass.poll.Goals.{in-Ok-Some, in-Ok-None, in-Err}

-- bytes at a room's front, by their count
fronts : {xs ys : List ℕ} → xs ≡ ys → (room : List ℕ) (n : ℕ) → n ≡ length ys → xs ++ drop (length xs) room ≡ ys ++ drop n room
fronts {xs} {ys} e room n long = (λ j. e j ++ drop (length (e j)) room) ∙ ap (λ (k : ℕ). ys ++ drop k room) (sym long)

given : (p q : SubscriberValue) (before after : List ℕ) (n : ℕ) (r : Result (Option ℕ) Fault) → r ≡ Ok (Some n) → GivesMessage p before n after q → IfOk r (λ got. IfSome got (λ n. GivesMessage p before n after q))
given p q before after n r e h = subst (λ (x : Result (Option ℕ) Fault). IfOk x (λ got. IfSome got (λ n. GivesMessage p before n after q))) (sym e) h

none : (P : ℕ → Type 0) (r : Result (Option ℕ) Fault) → r ≡ Ok None → IfOk r (λ got. IfSome got P)
none P r e = subst (λ (x : Result (Option ℕ) Fault). IfOk x (λ got. IfSome got P)) (sym e) tt

failed : (P : ℕ → Type 0) (r : Result (Option ℕ) Fault) (fault : Fault) → r ≡ Err fault → IfOk r (λ got. IfSome got P)
failed P r fault e = subst (λ (x : Result (Option ℕ) Fault). IfOk x (λ got. IfSome got P)) (sym e) tt

pub returns-clause-given : goal.returns-clause-given
returns-clause-given c =
    elim c.match-poll.branch [
      | in-Ok-Some w ↦ (
          let items : List ℕ = w.in-Ok-Some.message.bytes.items in
          let polled = rw w.in-Ok-Some.field-0-is at w.in-Ok-Some.ensures.polled in
          let small : length items ≤ c.self.inside.subscriber.assembler.greatest = rw w.in-Ok-Some.field-0-is at w.in-Ok-Some.ensures.small in
          let bound = c.self.invariant.0 in
          let room = c.if-room-self.false in
          let long : w.len.result ≡ length items = w.len.ensures ∙ (sym w.deref.ensures.len ∙ ap length w.deref.ensures.value) in
          given _ _ _ _ _ _ w.result-is record {
            message = items;
            reads = record {
              polls = subst (λ (v : SubscriberValue). SubscriberBecomes v.subscriber c.poll.new.self (λ r s. Polls r (Ok (Some items)) s)) c.self.view_is polled;
              rest = record { left = ap (λ (v : SubscriberValue). v.left) c.self.view_is; greatest = c.poll.ensures.greatest ∙ ap (λ (v : SubscriberValue). v.subscriber.assembler.greatest) c.self.view_is };
            };
            long = long;
            fits = omega (arith, long, small, bound, room);
            written = w.room-is ∙ (w.put_front.ensures ∙ fronts w.deref.ensures.value c.args.room.now w.len.result long);
          })
      | in-Ok-None w ↦ none _ _ w.result-is
      | in-Err w ↦ failed _ _ _ w.result-is
    ]
