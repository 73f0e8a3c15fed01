use Rattle.std.proofs.Common.{ℕ, ◌+◌, suc, drop, refl, sym, ap, ◌∙◌, arith, ◌∷◌, ◌≡◌}
use Rattle.std.proofs.lemmas.Option.{slice_get_within}
use Rattle.std.specs.Option.{option_copied}
use Rattle.cores.specs.Senders.{SenderValue}
use Rattle.cores.proofs.Left.{none_at, some_at}
use Rattle.cores.proofs.sending.SenderPass.next_datagram.Goals as goal

pub returns-in_default-clause-none : goal.returns-in_default-clause-none
returns-in_default-clause-none c = record {
  none = ap (λ (v : SenderValue). v.left) (sym c.self.view_is) ∙ none_at c.self.inside.outbox.datagrams c.self.inside.sent (sym c.datagram.ensures ∙ ap option_copied c.in_default.is);
  same = refl;
  untouched = refl;
}

pub returns-then-size-room-clause-longer : goal.returns-then-size-room-clause-longer
returns-then-size-room-clause-longer c = record {
  datagram = c.in-Some.datagram.now;
  others = drop (suc c.self.inside.sent) c.self.inside.outbox.datagrams;
  first = ap (λ (v : SenderValue). v.left) (sym c.self.view_is) ∙ some_at c.self.inside.outbox.datagrams c.self.inside.sent c.in-Some.datagram.now (sym c.datagram.ensures ∙ ap option_copied c.in-Some.is);
  longer = (let lt = c.if-size-room.true in omega (arith, lt));
  fault_is = refl;
  same = refl;
  untouched = refl;
}

pub overflow_add-self : goal.overflow_add-self
overflow_add-self c =
    let few = c.len-few.ensures.few in let is = c.len-few.ensures.value in let below = slice_get_within c.self.inside.outbox.datagrams c.self.inside.sent c.in-Some.datagram.now (sym c.datagram.ensures ∙ ap option_copied c.in-Some.is) in
    omega (arith, few, is, below)

pub returns-clause-given : goal.returns-clause-given
returns-clause-given c = record {
  datagram = c.in-Some.datagram.now;
  first = ap (λ (v : SenderValue). v.left) (sym c.self.view_is) ∙ (some_at c.self.inside.outbox.datagrams c.self.inside.sent c.in-Some.datagram.now (sym c.datagram.ensures ∙ ap option_copied c.in-Some.is) ∙ ap (λ (n : ℕ). c.in-Some.datagram.now ∷ drop n c.self.inside.outbox.datagrams) (let e : suc c.self.inside.sent ≡ c.self.inside.sent + 1 = omega arith in e));
  long = refl;
  written = c.put_front.ensures;
}
