use Rattle.std.proofs.Common.{◌≡◌, ℕ, ◌+◌, ◌≤◌, length, rules, ap, is_ok, true≢false, arith}
use Rattle.shared_log.proofs.Dealt.{readers_alone, readers_of}
use Rattle.shared_log.proofs.parts.open.Goals as goal

few : (n m k : ℕ) → n ≡ m → m ≡ k → k ≤ 8 → 0 + n ≤ 8
few n m k e f l = omega arith

pub returns-clause-parts : goal.returns-clause-parts
returns-clause-parts c =
    let readers = c.deal_readers-readers.ensures in
    let all : length c.deal_readers-readers.result.items ≡ c.in_ok-log.log.consumers = search rules in record {
      publishers_are = search rules;
      readers_are = search rules;
      of_log = readers_of c.in_ok-log.log 0 c.deal_readers-readers.result.items readers.readers (few (length c.deal_readers-readers.result.items) c.in_ok-log.log.consumers c.args.consumers all c.in_ok-log.ensures.log.consumers_is c.in_ok-log.ensures.in_range.1.1);
      alone = readers_alone c.in_ok-log.log 0 c.deal_readers-readers.result.items readers.readers;
      all = all;
      keeper_is = search rules;
    }

pub returns-clause-start : goal.returns-clause-start
returns-clause-start c = (λ e _. true≢false (ap is_ok e), λ no. absurd (no c.in_ok-log.ensures.in_range.0))

pub returns-clause-consumers : goal.returns-clause-consumers
returns-clause-consumers c = (λ e. absurd (true≢false (ap is_ok e)), λ h. absurd (h.1 c.in_ok-log.ensures.in_range.1))
