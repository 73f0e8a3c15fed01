-- What a sender keeps of NAKs, and where consumers stand.
use Rattle.std.proofs.Common.{◌≡◌, ◌≤◌, ℕ, List, ◌∷◌, Option, None, Some, refl, sym, ap, ◌∙◌, subst, arith}
use Rattle.std.specs.List.{AllByRecursion}
use Rattle.std.specs.Prelude.{max}
use Rattle.theory.specs.Placed.{IsReached, Placed}
use Rattle.theory.specs.Entry.{committed}
use Rattle.theory.specs.Consumer.{Consumer}
use Rattle.theory.specs.Image.{Image}
use Rattle.theory.specs.Resend.{Action, NakAnswer, OutOfRange, NotAFrameStart, Lingering, Full, Taken, added, kept, nak_answer, nat_of}
use Rattle.model.specs.Headline.{Always}
use Rattle.theory.specs.GroupLimit.{GroupEvent, StatusCame, Ticked}
use Rattle.model.specs.Sender.{Sender, Send, Resend, SendSetup, HearStatus, See, HearNak, limit_by, sender_limit}
use Rattle.theory.proofs.Groups.{group_within}
use Rattle.model.specs.StepLaws.{AreReached, FlowLimitNeverFalls, HavePassed, KeepsNaks}
use Rattle.theory.proofs.Lists.{all_weaker, each_weaker}
use Rattle.theory.proofs.Naks.{takes_exactly}
use Rattle.model.proofs.Consumers.{Follows}
use Rattle.model.proofs.WorldSteps.{KeptImage, every, opened}

-- nothing is added but what is taken
not_added : (a : NakAnswer) (p n : ℕ) (actions : List Action) → (a ≡ Taken → ⊥) → added a p n actions ≡ actions
not_added OutOfRange p n actions h = refl
not_added NotAFrameStart p n actions h = refl
not_added Lingering p n actions h = refl
not_added Full p n actions h = refl
not_added Taken p n actions h = absurd (h refl)

pub keeps_naks : KeepsNaks
keeps_naks g start read old new now p n h =
    let left = kept (max old.clock now) old.actions in
    let answer = nak_answer g start old.at old.passed left p n in
    let exact = takes_exactly g start old.at old.passed left p n in
    let is : new.actions ≡ added answer (nat_of p) (nat_of n) left = ap (λ (s : Sender). s.actions) h in
    record {
      taken = λ t. is ∙ ap (λ a. added a (nat_of p) (nat_of n) left) (exact.1 t);
      refused = λ f. is ∙ not_added answer (nat_of p) (nat_of n) left (λ e. f (exact.0 e));
    }

-- whoever it sends to
limit_grows : (group : Option ℕ) (start : ℕ) (t : GroupEvent) (ts : List GroupEvent) → limit_by group start ts ≤ limit_by group start (t ∷ ts)
limit_grows None start (StatusCame r p w now) ts = omega arith
limit_grows None start (Ticked now) ts = omega arith
limit_grows (Some size) start t ts = (group_within size start t ts).0

pub flow_limit_never_falls : FlowLimitNeverFalls
flow_limit_never_falls g start read old new (Send now frames to) h = subst (λ (s : Sender). sender_limit start old ≤ sender_limit start s) (sym h.3) (limit_grows old.group start (Ticked (max old.clock now)) old.heard)
flow_limit_never_falls g start read old new (Resend now a frames) h = subst (λ (s : Sender). sender_limit start old ≤ sender_limit start s) (sym h.2) (omega arith)
flow_limit_never_falls g start read old new SendSetup h = subst (λ (s : Sender). sender_limit start old ≤ sender_limit start s) (sym h) (omega arith)
flow_limit_never_falls g start read old new (HearStatus now receiver said) h = subst (λ (s : Sender). sender_limit start old ≤ sender_limit start s) (sym h) (limit_grows old.group start (StatusCame receiver said.position said.window (max old.clock now)) old.heard)
flow_limit_never_falls g start read old new (See now) h = subst (λ (s : Sender). sender_limit start old ≤ sender_limit start s) (sym h) (omega arith)
flow_limit_never_falls g start read old new (HearNak now p n) h = subst (λ (s : Sender). sender_limit start old ≤ sender_limit start s) (sym h) (omega arith)

follows_reach : (frames : List Placed) (start : ℕ) (r : Consumer) → Follows frames start r → IsReached frames start r.at
follows_reach frames start r f = record { read = f.read; chain = f.chain; among = f.among }

pub are_reached : Always AreReached
are_reached w v events o run =
    let k = every events w v (opened w o) run in
    record {
      sender = record { read = v.sender.passed; chain = k.sender.passed; among = k.sender.read };
      readers = each_weaker (Follows (committed v.log.entries) v.log.start) (λ r. IsReached (committed v.log.entries) v.log.start r.at) (follows_reach (committed v.log.entries) v.log.start) v.log.readers k.log.readers;
      images = each_weaker (KeptImage v.sender.sent) (λ (i : Image). AllByRecursion (λ (r : Consumer). IsReached i.stored i.join r.at) i.consumers) (λ i x. all_weaker (Follows i.stored i.join) (λ (r : Consumer). IsReached i.stored i.join r.at) (follows_reach i.stored i.join) i.consumers x.consumers) v.images k.images;
    }

pub have_passed : Always HavePassed
have_passed w v events o run =
    let k = every events w v (opened w o) run in
    record { chain = k.sender.passed; among = k.sender.read; sent = k.sender.sent }
