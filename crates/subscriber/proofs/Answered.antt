-- That a subscriber answers the end of its stream.
use Rattle.std.proofs.Common.{◌≡◌, ◌∙◌, ◌⊎◌, ◌+◌, ◌%◌, ◌^◌, ℕ, List, [], ◌++◌, map, Bool, if◌then◌else◌, IsTrue, Option, None, Some, inl, inr, refl, sym, ap, subst}
use Rattle.std.specs.declared.net.SocketAddr.{SocketAddr}
use Rattle.agents.specs.Cycles.{Cycle}
use Rattle.agents.specs.Parties.{ReceiverHears, ReceiverTicks}
use Rattle.endpoint.specs.Devices.{Device}
use Rattle.frames.specs.declared.frame.Setup.{Setup}
use Rattle.messages.specs.declared.form.Form.{Form}
use Rattle.options.specs.declared.ends.plans.SubscribePlan.{SubscribePlan}
use Rattle.receiver.specs.Lives.{Act, ActsSo, Hears, Lives, Ticks}
use Rattle.receiver.specs.Subscribing.{Subscribing}
use Rattle.subscriber.specs.Offers.{peer_of, setup_taken}
use Rattle.subscriber.specs.Losing.{with_device, JudgesTurn}
use Rattle.subscriber.specs.Watches.{AttendsEach, IsWithinTurn, JudgesEach, Seen, Timing, looking}
use Rattle.subscriber.specs.declared.images.session.Session.{Session}
use Rattle.subscriber.specs.declared.listening.setup_offer.SetupOffer.{SetupOffer}
use Rattle.subscriber.proofs.Leaving.{heard_unpolled}
use Rattle.subscriber.proofs.Lived.{all_heard, lives_on}
use Rattle.subscriber.specs.Answering.{AnswersEnd, HasAnswered, IsTicked, TellsPlace, ahead_of}
use Rattle.subscriber.specs.Leavings.{LivesUnpolled}
use Rattle.subscriber.specs.Living.{WritesActs}
use Rattle.subscriber.specs.Turning.{AttendsOwn, Considers, ConsidersOwn, Passes, Renews, Replaces, Resumes, Turns}
use Rattle.subscriber.specs.declared.images.session.Stand.{Stand}

pub place_told : (moment now : ℕ) (tells : Type 0) (s : Subscribing) (d : Device) (busy : Bool) (t : Subscribing) (e : Device) → now ≡ ahead_of moment → Cycle ReceiverHears ReceiverTicks now tells s d busy t e → TellsPlace moment s t
place_told moment now tells s d busy t e is c = record {
  acts = map (Hears now) c.heard;
  unpolled = heard_unpolled now c.heard;
  middle = c.middle;
  lived = all_heard now s c.middle c.heard c.answers c.all_heard;
  told = subst (λ (n : ℕ). ActsSo c.middle (Ticks n) t) is c.ticked.becomes;
}

pub ticked_at : (t : Subscribing) (m n : ℕ) → m ≡ n → IsTicked n t → IsTicked m t
ticked_at t m n is h = subst (λ (at : ℕ). IsTicked at t) (sym is) h

-- an answer that was given stays given
pub answered_on : (s t : Subscribing) (acts : List Act) → HasAnswered s → Lives s acts t → HasAnswered t
answered_on s t acts h lives = record {
  at = h.at;
  noted = h.noted;
  ticked = h.ticked;
  stand = h.stand;
  stands = h.stands;
  all = h.all;
  teller = h.teller;
  told = h.told;
  since = h.since ++ acts;
  lived = lives_on h.teller s t h.since acts h.lived lives;
}

-- ---- a cycle, and then a look at the end

pub ends_answered : (form : Form) (count more at : ℕ) (before after : Option (List ℕ)) (j k l : Session) (x : Stand) → k.ended ≡ j.ended → WritesActs form count j.follower.subscriber before more k.follower.subscriber after → IsTicked at k.follower.subscriber → LivesUnpolled k.follower.subscriber l.follower.subscriber → AnswersEnd at k l x
    → (IsTrue j.ended → HasAnswered j.follower.subscriber) → IsTrue l.ended → HasAnswered l.follower.subscriber
ends_answered form count more at before after j k l x same w ticked on a answered so = by_case (a.told so)
  where
    by_case : IsTrue k.ended ⊎ TellsPlace at k.follower.subscriber l.follower.subscriber → HasAnswered l.follower.subscriber
    by_case (inl was) =
        answered_on k.follower.subscriber l.follower.subscriber on.acts
        (answered_on j.follower.subscriber k.follower.subscriber w.acts (answered (subst (λ (b : Bool). IsTrue b) same was)) w.lived)
        on.lived
    by_case (inr told) = record {
      at = at;
      noted = k.follower.subscriber;
      ticked = ticked;
      stand = a.before;
      stands = record { place = a.stood.place; rebuilt = a.stood.rebuilt; told = refl };
      all = a.noted.0 so;
      teller = l.follower.subscriber;
      told = told;
      since = [];
      lived = refl;
    }

-- ---- a SETUP

-- the image and its end are the same
pub same_answered : (j k : Session) → k.ended ≡ j.ended → k.follower.subscriber ≡ j.follower.subscriber → (IsTrue j.ended → HasAnswered j.follower.subscriber) → IsTrue k.ended → HasAnswered k.follower.subscriber
same_answered j k ended same answered so = subst HasAnswered (sym same) (answered (subst (λ (b : Bool). IsTrue b) ended so))

by_turn : (plan : SubscribePlan) (share : ℕ) (m : SetupOffer) (rebuilt : ℕ) (j k : Session) → Passes m rebuilt j k ⊎ Resumes m rebuilt j k ⊎ Renews plan share m rebuilt j k → (IsTrue j.ended → HasAnswered j.follower.subscriber) → IsTrue k.ended → HasAnswered k.follower.subscriber
by_turn plan share m rebuilt j k (inl p) h = same_answered j k (ap (λ x. x.ended) p.warns.kept) (ap (λ x. x.follower.subscriber) p.warns.kept) h
by_turn plan share m rebuilt j k (inr (inl p)) h = same_answered j k (ap (λ x. x.ended) p.tied) (ap (λ x. x.follower.subscriber) p.tied) h
by_turn plan share m rebuilt j k (inr (inr p)) h = λ so. let not = p.replaced.renewed.ended in cc

pub turned_answered : (plan : SubscribePlan) (share : ℕ) (m : SetupOffer) (j k : Session) → Turns plan share m j k → (IsTrue j.ended → HasAnswered j.follower.subscriber) → IsTrue k.ended → HasAnswered k.follower.subscriber
turned_answered plan share m j k p h = by_turn plan share m p.0 j k p.2 h

considered : (plan : SubscribePlan) (share : ℕ) (from : SocketAddr) (f : Setup) (j k : Session) → Considers plan share from f j k → (IsTrue j.ended → HasAnswered j.follower.subscriber) → IsTrue k.ended → HasAnswered k.follower.subscriber
considered plan share from f j k (inl p) h = same_answered j k (ap (λ x. x.ended) p.1) (ap (λ x. x.follower.subscriber) p.1) h
considered plan share from f j k (inr p) h = turned_answered plan share p.0 j k p.2 h

own : (plan : SubscribePlan) (share : ℕ) (setup : Option Setup) (j k : Session) → ConsidersOwn plan share setup j k → (IsTrue j.ended → HasAnswered j.follower.subscriber) → IsTrue k.ended → HasAnswered k.follower.subscriber
own plan share None j k p h = same_answered j k (ap (λ x. x.ended) p) (ap (λ x. x.follower.subscriber) p) h
own plan share (Some f) j k (inl p) h = considered plan share (peer_of j.duty.device) f j k p.1 h
own plan share (Some f) j k (inr p) h = same_answered j k (ap (λ x. x.ended) p.1) (ap (λ x. x.follower.subscriber) p.1) h

pub attended_answered : (plan : SubscribePlan) (share : ℕ) (j k : Session) → AttendsOwn plan share j k → (IsTrue j.ended → HasAnswered j.follower.subscriber) → IsTrue k.ended → HasAnswered k.follower.subscriber
attended_answered plan share j k p h =
    same_answered p.0 k (ap (λ (x : Session). x.ended) p.2) (ap (λ (x : Session). x.follower.subscriber) p.2)
    (own plan share j.duty.device.notes.setup (with_device j (setup_taken j.duty.device)) p.0 p.1 h)

-- ---- turns

pub same_within : (s t : Seen) → t ≡ s → IsWithinTurn s t
same_within s t same = record { turns = ap (λ x. x.turns) same; attended = ap (λ x. x.attended) same; judged = ap (λ x. x.judged) same }

pub replaced_within : (plan : SubscribePlan) (share : ℕ) (m : SetupOffer) (j k : Session) → Replaces plan share m j k → IsWithinTurn j.watch k.watch
replaced_within plan share m j k p =
    let w = p.renewed.watch in
    record { turns = ap (λ x. x.turns) w; attended = ap (λ x. x.attended) w; judged = ap (λ x. x.judged) w }

within_by_turn : (plan : SubscribePlan) (share : ℕ) (m : SetupOffer) (rebuilt : ℕ) (j k : Session) → Passes m rebuilt j k ⊎ Resumes m rebuilt j k ⊎ Renews plan share m rebuilt j k → IsWithinTurn j.watch k.watch
within_by_turn plan share m rebuilt j k (inl p) = same_within j.watch k.watch (ap (λ (x : Session). x.watch) p.warns.kept)
within_by_turn plan share m rebuilt j k (inr (inl p)) = same_within j.watch k.watch (ap (λ (x : Session). x.watch) p.tied)
within_by_turn plan share m rebuilt j k (inr (inr p)) = replaced_within plan share m j k p.replaced

pub turned_within : (plan : SubscribePlan) (share : ℕ) (m : SetupOffer) (j k : Session) → Turns plan share m j k → IsWithinTurn j.watch k.watch
turned_within plan share m j k p = within_by_turn plan share m p.0 j k p.2

considered_within : (plan : SubscribePlan) (share : ℕ) (from : SocketAddr) (f : Setup) (j k : Session) → Considers plan share from f j k → IsWithinTurn j.watch k.watch
considered_within plan share from f j k (inl p) = same_within j.watch k.watch (ap (λ (x : Session). x.watch) p.1)
considered_within plan share from f j k (inr p) = turned_within plan share p.0 j k p.2

own_within : (plan : SubscribePlan) (share : ℕ) (setup : Option Setup) (j k : Session) → ConsidersOwn plan share setup j k → IsWithinTurn j.watch k.watch
own_within plan share None j k p = same_within j.watch k.watch (ap (λ (x : Session). x.watch) p)
own_within plan share (Some f) j k (inl p) = considered_within plan share (peer_of j.duty.device) f j k p.1
own_within plan share (Some f) j k (inr p) = same_within j.watch k.watch (ap (λ (x : Session). x.watch) p.1)

-- in a turn it was judged once whether the image is lost, and nothing was attended yet
pub record HasJudged (s t : Seen) : Type 0 where
  pub turns : t.turns ≡ s.turns
  pub attended : t.attended ≡ s.attended
  pub judged : t.judged ≡ (s.judged + 1) % 2 ^ 64

pub has_judged : (s t : Timing) (j k : Session) → JudgesTurn s j k t → HasJudged j.watch k.watch
has_judged s t j k h =
    let w = ap (λ (x : Session). x.watch) h.kept_else in
    record {
      turns = ap (λ x. x.turns) w ∙ h.within.turns;
      attended = ap (λ x. x.attended) w ∙ h.within.attended;
      judged = ap (λ x. x.judged) w ∙ ap (λ (b : Bool). if b then (h.answered.watch.judged + 1) % 2 ^ 64 else h.answered.watch.judged) h.still ∙ ap (λ (n : ℕ). (n + 1) % 2 ^ 64) h.within.judged;
    }

-- before that it is one turn ahead
pub turn_ahead : (r s a : Seen) (now : ℕ) → r.turns ≡ r.attended → s ≡ looking r now → HasJudged s a → AttendsEach a
turn_ahead r s a now before looks once =
    once.turns ∙ ap (λ x. x.turns) looks ∙ ap (λ (n : ℕ). (n + 1) % 2 ^ 64) (before ∙ sym (ap (λ x. x.attended) looks) ∙ sym once.attended)

-- and it is judged in it
pub turn_judged : (r s a : Seen) (now : ℕ) → JudgesEach r → s ≡ looking r now → HasJudged s a → JudgesEach a
turn_judged r s a now before looks once =
    once.turns ∙ ap (λ x. x.turns) looks ∙ ap (λ (n : ℕ). (n + 1) % 2 ^ 64) (before ∙ sym (ap (λ x. x.judged) looks)) ∙ sym once.judged

-- what came of SETUPs in it is attended once, and that is no judgement
pub attended_once : (plan : SubscribePlan) (share : ℕ) (j k : Session) → AttendsOwn plan share j k → (k.watch.turns ≡ j.watch.turns) × (k.watch.attended ≡ (j.watch.attended + 1) % 2 ^ 64) × (k.watch.judged ≡ j.watch.judged)
attended_once plan share j k p =
    let so = own_within plan share j.duty.device.notes.setup (with_device j (setup_taken j.duty.device)) p.0 p.1 in
    let w = ap (λ (x : Session). x.watch) p.2 in (
      ap (λ x. x.turns) w ∙ so.turns,
      ap (λ x. x.attended) w ∙ ap (λ (n : ℕ). (n + 1) % 2 ^ 64) so.attended,
      ap (λ x. x.judged) w ∙ so.judged,
    )

pub within_on : (s t u : Seen) → IsWithinTurn s t → IsWithinTurn t u → IsWithinTurn s u
within_on s t u a b = record { turns = b.turns ∙ a.turns; attended = b.attended ∙ a.attended; judged = b.judged ∙ a.judged }

-- one that has the same watch has judged it too
pub same_judged : (s : Seen) (j k : Session) → k.watch ≡ j.watch → HasJudged s j.watch → HasJudged s k.watch
same_judged s j k same h = subst (HasJudged s) (sym same) h
