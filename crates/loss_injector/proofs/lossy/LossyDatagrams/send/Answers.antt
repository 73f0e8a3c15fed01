use Rattle.std.proofs.Common.{[], ◌++◌, ap, inl, refl}
use Rattle.std.specs.Option.{option_map, option_to_list}
use Rattle.loss_injector.specs.Ways.{repeated}
use Rattle.loss_injector.proofs.LossyLemmas.{kept_or_lost, none_sent}
use Rattle.loss_injector.proofs.lossy.LossyDatagrams.send.Goals as goal

pub returns-in-Nowhere-clause-through : goal.returns-in-Nowhere-clause-through
returns-in-Nowhere-clause-through g c = rw (← c.self.view_is) (record {
  out = [];
  injects = inl (rw (← ap (λ p. p.0) c.next_word-word.ensures) (c.in-Nowhere.ensures.gives c.args.datagram.now));
  drew = ap (λ p. p.1) c.next_word-word.ensures;
  sends = none_sent _ _;
})

pub returns-in-Kept-clause-through : goal.returns-in-Kept-clause-through
returns-in-Kept-clause-through g c = rw (← c.self.view_is) (record {
  out = [];
  injects = rw (← ap (λ p. p.0) c.next_word-word.ensures) (kept_or_lost _ c.way.new.self c.keep.new.self _ c.args.datagram.now c.keep.result (c.in-Kept.ensures.gives c.args.datagram.now) (c.in-Kept.ensures.keeps refl) c.keep.ensures.kept c.keep.ensures.refused);
  drew = ap (λ p. p.1) c.next_word-word.ensures;
  sends = none_sent _ _;
})

pub returns-in-true-None-clause-through : goal.returns-in-true-None-clause-through
returns-in-true-None-clause-through g c = rw (← c.self.view_is) (record {
  out = repeated c.in-Goes.twice c.args.datagram.now ++ option_to_list (option_map (λ d. d.items) c.in-Goes.behind);
  injects = inl (rw (← ap (λ p. p.0) c.next_word-word.ensures) (c.in-Goes.ensures.gives c.args.datagram.now));
  drew = ap (λ p. p.1) c.next_word-word.ensures;
  sends = rw c.in-true-None.is-0 (rw c.in-true-None.is-1 c.send_all.ensures.sends);
})

pub returns-in-false-None-clause-through : goal.returns-in-false-None-clause-through
returns-in-false-None-clause-through g c = rw (← c.self.view_is) (record {
  out = repeated c.in-Goes.twice c.args.datagram.now ++ option_to_list (option_map (λ d. d.items) c.in-Goes.behind);
  injects = inl (rw (← ap (λ p. p.0) c.next_word-word.ensures) (c.in-Goes.ensures.gives c.args.datagram.now));
  drew = ap (λ p. p.1) c.next_word-word.ensures;
  sends = rw c.in-false-None.is-0 (rw c.in-false-None.is-1 c.send_all-in-false-None.ensures.sends);
})

pub returns-in-false-Some-clause-through : goal.returns-in-false-Some-clause-through
returns-in-false-Some-clause-through g c = rw (← c.self.view_is) (record {
  out = repeated c.in-Goes.twice c.args.datagram.now ++ option_to_list (option_map (λ d. d.items) c.in-Goes.behind);
  injects = inl (rw (← ap (λ p. p.0) c.next_word-word.ensures) (c.in-Goes.ensures.gives c.args.datagram.now));
  drew = ap (λ p. p.1) c.next_word-word.ensures;
  sends = rw c.in-false-Some.is-0 (rw c.in-false-Some.is-1 (rw c.as_slice-in-false-Some.ensures.value at c.send_all-in-false-Some.ensures.sends));
})

pub returns-clause-through : goal.returns-clause-through
returns-clause-through g c = rw (← c.self.view_is) (record {
  out = repeated c.in-Goes.twice c.args.datagram.now ++ option_to_list (option_map (λ d. d.items) c.in-Goes.behind);
  injects = inl (rw (← ap (λ p. p.0) c.next_word-word.ensures) (c.in-Goes.ensures.gives c.args.datagram.now));
  drew = ap (λ p. p.1) c.next_word-word.ensures;
  sends = rw c.in-true-Some.is-0 (rw c.in-true-Some.is-1 (rw c.as_slice.ensures.value at c.send_all-in-true-Some.ensures.sends));
})
