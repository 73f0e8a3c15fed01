-- What a subscriber lives through where it polls nothing more.
use Rattle.std.proofs.Common.{◌≡◌, ◌⊎◌, ◌∙◌, ℕ, ℤ, pos, negsuc, Bool, None, Some, List, [], ◌∷◌, ◌++◌, map, Option, inl, inr, refl, sym, ap, append-nil, subst, true, false, if◌then◌else◌}
use Rattle.theory.specs.Image.{Image, after_heartbeat, after_insert, is_accepted}
use Rattle.theory.specs.Insert as meaning
use Rattle.theory.specs.Placed as placed
use Rattle.theory.specs.Consumer.{least_of}
use Rattle.theory.specs.Control.{named_by}
use Rattle.theory.specs.Position.{Geometry}
use Rattle.theory.specs.Wire.{DATA, HEARTBEAT, Header, NAK, PAD, SETUP, SM, Setup, Wire}
use Rattle.agents.specs.Cycles.{Cycle, Fault, TicksBehind}
use Rattle.agents.specs.Parties.{ReceiverHears, ReceiverTicks}
use Rattle.endpoint.specs.Devices.{Device}
use Rattle.endpoint.specs.declared.device_error.DeviceError.{DeviceError}
use Rattle.options.specs.declared.ends.plans.SubscribePlan.{SubscribePlan}
use Rattle.receiver.specs.Lives.{Act, Gives, GivesNone, Hears, Lives, Ticks, given_in, heard_in}
use Rattle.receiver.specs.Receiving.{Meets, MeetsAll, MeetsFrame, MeetsHeartbeat, MeetsSetup, Opened, Receiver, TakesDatagram, answer_at, at_moment, given_at, ticked}
use Rattle.receiver.specs.Subscribing.{RepresentsSubscriber, Subscribing}
use Rattle.receiver.specs.declared.receiver_core.Outcome.{Outcome}
use Rattle.subscriber.proofs.Lived.{all_heard, all_in, follows_on, heard_on, lives_on}
use Rattle.subscriber.proofs.Parties.{notes_none, subscribers_cycle}
use Rattle.subscriber.specs.Followers.{FollowerHears, FollowerTicks, HasNoted}
use Rattle.subscriber.specs.declared.images.follower.Follower.{Follower}
use Rattle.subscriber.specs.declared.images.Images.{Images}
use Rattle.subscriber.specs.Leavings.{AreUnpolled, KeepsConsumers, ListensOn, LivesUnpolled, StandsStill}
use Rattle.subscriber.specs.Living.{FollowsAt}

-- ---- consumers that nobody moves

same_keeps : (i : Option Opened) → KeepsConsumers i i
same_keeps None = tt
same_keeps (Some o) = refl

keeps_on : (a b c : Option Opened) → KeepsConsumers a b → KeepsConsumers b c → KeepsConsumers a c
keeps_on None b c x y = tt
keeps_on (Some o) None c x y = absurd x
keeps_on (Some o) (Some p) None x y = absurd y
keeps_on (Some o) (Some p) (Some q) x y = y ∙ x

after_keeps : (i : Image) (s : placed.Placed) (a : meaning.Insert) → (after_insert i s a).consumers ≡ i.consumers
after_keeps i s meaning.Stored = refl
after_keeps i s meaning.CrossesTerm = refl
after_keeps i s meaning.Below = refl
after_keeps i s meaning.OverWindow = refl
after_keeps i s meaning.Duplicate = refl
after_keeps i s meaning.Overlap = refl

given_keeps : (o : Opened) (p : ℤ) (f : placed.Frame) → (given_at o p f).image.consumers ≡ o.image.consumers
given_keeps o (pos p) f = after_keeps o.image (record { at = p; frame = f }) (answer_at o (pos p) f)
given_keeps o (negsuc n) f = refl

heartbeat_keeps : (g : Geometry) (i : Image) (least : ℕ) (p : ℤ) → (after_heartbeat g i least p).consumers ≡ i.consumers
heartbeat_keeps g i least (pos p) = by_case (is_accepted g i.high least p)
  where
    by_case : (b : Bool) → (if b then record i { high = p } else i).consumers ≡ i.consumers
    by_case true = refl
    by_case false = refl
heartbeat_keeps g i least (negsuc n) = refl

same_image : (r s : Receiver) → s ≡ r → KeepsConsumers r.image s.image
same_image r s is = subst (λ (x : Receiver). KeepsConsumers r.image x.image) (sym is) (same_keeps r.image)

frame_keeps : (i : Option Opened) (r s : Receiver) (h : Header) (f : placed.Frame) (out : Outcome) → MeetsFrame i r h f out s → KeepsConsumers i s.image
frame_keeps None r s h f out m = tt
frame_keeps (Some o) r s h f out (a, is, means, after) = subst (λ (x : Receiver). KeepsConsumers (Some o) x.image) (sym after) (given_keeps o (named_by o.geometry h) f)

beat_keeps : (i : Option Opened) (r s : Receiver) (h : Header) (out : Outcome) → MeetsHeartbeat i r h out s → KeepsConsumers i s.image
beat_keeps None r s h out m = tt
beat_keeps (Some o) r s h out (is, after) = subst (λ (x : Receiver). KeepsConsumers (Some o) x.image) (sym after) (heartbeat_keeps o.geometry o.image (least_of o.image.consumers) (named_by o.geometry h))

setup_keeps : (i : Option Opened) (r s : Receiver) (f : Setup) (out : Outcome) → i ≡ r.image → MeetsSetup i r f out s → KeepsConsumers i s.image
setup_keeps None r s f out same m = tt
setup_keeps (Some o) r s f out same (is, after) = subst (λ x. KeepsConsumers x s.image) (sym same) (same_image r s after)

meets_keeps : (r s : Receiver) (w : Wire) (out : Outcome) → Meets r w out s → KeepsConsumers r.image s.image
meets_keeps r s (DATA h flags payload) out (inl m) = frame_keeps r.image r s h (placed.Data flags payload) out m.1
meets_keeps r s (DATA h flags payload) out (inr m) = same_image r s m.1.1
meets_keeps r s (PAD h n) out (inl m) = frame_keeps r.image r s h (placed.Pad n) out m.1
meets_keeps r s (PAD h n) out (inr m) = same_image r s m.1.1
meets_keeps r s (HEARTBEAT h) out (inl m) = beat_keeps r.image r s h out m.1
meets_keeps r s (HEARTBEAT h) out (inr m) = same_image r s m.1.1
meets_keeps r s (NAK f) out m = same_image r s m.1
meets_keeps r s (SM asks f) out m = same_image r s m.1
meets_keeps r s (SETUP f) out (inl m) = setup_keeps r.image r s f out refl m.1
meets_keeps r s (SETUP f) out (inr m) = same_image r s m.1.1

all_keep : (r s : Receiver) (frames : List Wire) (outs : List Outcome) → MeetsAll r frames outs s → KeepsConsumers r.image s.image
all_keep r s [] outs m = same_image r s m.1
all_keep r s (w ∷ ws) outs (out, mid, rest, meets, is, more) = keeps_on r.image mid.image s.image (meets_keeps r mid w out meets) (all_keep mid s ws rest more)

takes_keeps : (r s : Receiver) (now : ℕ) (bytes : List ℕ) (outs : List Outcome) → TakesDatagram r now bytes outs s → KeepsConsumers r.image s.image
takes_keeps r s now bytes outs (inl (frames, spelled, m)) = all_keep (at_moment r now) s frames outs m
takes_keeps r s now bytes outs (inr (fault, is, told, after)) = subst (λ (x : Receiver). KeepsConsumers r.image x.image) (sym after) (same_keeps r.image)

pub still_lived : (s t : Subscribing) (acts : List Act) → AreUnpolled acts → Lives s acts t → StandsStill s t
still_lived s t [] none lives = λ r h. (r, subst (λ x. RepresentsSubscriber x r) (sym lives) h, same_keeps r.image)
still_lived s t (Hears now bytes ∷ acts) none (u, (outs, becomes), more) = λ r h.
    let x = becomes r h in
    let y = still_lived u t acts none more x.0 x.2 in
    (y.0, y.1, keeps_on r.image x.0.image y.0.image (takes_keeps r x.0 now bytes outs x.1) y.2)
still_lived s t (Ticks now ∷ acts) none (u, becomes, more) = λ r h.
    let y = still_lived u t acts none more (ticked r now) (becomes r h) in
    (y.0, y.1, y.2)
still_lived s t (Gives message ∷ acts) wrong lives = absurd wrong
still_lived s t (GivesNone ∷ acts) wrong lives = absurd wrong

pub stands_still : (s t : Subscribing) → LivesUnpolled s t → StandsStill s t
stands_still s t h = still_lived s t h.acts h.unpolled h.lived

-- ---- a life without polls

unpolled_with : (xs ys : List Act) → AreUnpolled xs → AreUnpolled ys → AreUnpolled (xs ++ ys)
unpolled_with [] ys x y = y
unpolled_with (Hears now bytes ∷ xs) ys x y = unpolled_with xs ys x y
unpolled_with (Ticks now ∷ xs) ys x y = unpolled_with xs ys x y
unpolled_with (Gives message ∷ xs) ys x y = absurd x
unpolled_with (GivesNone ∷ xs) ys x y = absurd x

pub heard_unpolled : (now : ℕ) (datagrams : List (List ℕ)) → AreUnpolled (map (Hears now) datagrams)
heard_unpolled now [] = tt
heard_unpolled now (d ∷ ds) = heard_unpolled now ds

pub none_given : (acts : List Act) → AreUnpolled acts → given_in acts ≡ []
none_given [] x = refl
none_given (Hears now bytes ∷ acts) x = none_given acts x
none_given (Ticks now ∷ acts) x = none_given acts x
none_given (Gives message ∷ acts) x = absurd x
none_given (GivesNone ∷ acts) x = absurd x

pub none_lived_through : (s : Subscribing) → LivesUnpolled s s
none_lived_through s = record { acts = []; unpolled = tt; lived = refl }

pub listens_none : (f : Follower) → ListensOn f f
unfolding none_lived_through
listens_none f = record { lives = none_lived_through f.subscriber; notes = notes_none f }

pub unpolled_on : (s m t : Subscribing) → LivesUnpolled s m → LivesUnpolled m t → LivesUnpolled s t
unpolled_on s m t a b = record { acts = a.acts ++ b.acts; unpolled = unpolled_with a.acts b.acts a.unpolled b.unpolled; lived = lives_on s m t a.acts b.acts a.lived b.lived }

heard_and_told : (now : ℕ) (s m t : Subscribing) (heard answers given : List (List ℕ)) → Lives s (map (Hears now) heard) m → ReceiverTicks m now t given → LivesUnpolled s t
heard_and_told now s m t heard answers given lives ticked = record {
  acts = map (Hears now) heard ++ Ticks now ∷ [];
  unpolled = unpolled_with (map (Hears now) heard) (Ticks now ∷ []) (heard_unpolled now heard) tt;
  lived = lives_on s m t (map (Hears now) heard) (Ticks now ∷ []) lives (t, ticked.becomes, refl);
}

pub cycle_unpolled : (now : ℕ) (tells : Type 0) (s : Subscribing) (d : Device) (busy : Bool) (t : Subscribing) (e : Device) → Cycle ReceiverHears ReceiverTicks now tells s d busy t e → LivesUnpolled s t
cycle_unpolled now tells s d busy t e c = heard_and_told now s c.middle t c.heard c.answers c.given (all_heard now s c.middle c.heard c.answers c.all_heard) c.ticked

cycle_in : (now : ℕ) (tells : Type 0) (s : Subscribing) (d : Device) (busy : Bool) (t : Subscribing) (e : Device) → (c : Cycle ReceiverHears ReceiverTicks now tells s d busy t e) → heard_in (cycle_unpolled now tells s d busy t e c).acts ≡ c.heard
unfolding cycle_unpolled heard_and_told
cycle_in now tells s d busy t e c = heard_on (map (Hears now) c.heard) (Ticks now ∷ []) ∙ append-nil (heard_in (map (Hears now) c.heard)) ∙ all_in now c.heard

pub cycle_listens : (now : ℕ) (tells : Type 0) (f : Follower) (d : Device) (busy : Bool) (g : Follower) (e : Device) → Cycle FollowerHears FollowerTicks now tells f d busy g e → ListensOn f g
cycle_listens now tells f d busy g e c =
    let parts = subscribers_cycle now tells f d busy g e c in
    record {
      lives = cycle_unpolled now tells f.subscriber d busy g.subscriber e parts.0;
      notes = subst (λ (heard : List (List ℕ)). HasNoted f heard g) (sym (cycle_in now tells f.subscriber d busy g.subscriber e parts.0)) parts.1;
    }

pub fault_unpolled : (now : ℕ) (tells : Type 0) (fault : DeviceError) (s : Subscribing) (d : Device) (t : Subscribing) (e : Device) → Fault ReceiverHears ReceiverTicks now tells fault s d t e → LivesUnpolled s t
fault_unpolled now tells fault s d t e f = by_tick f.ticked
  where
    hears : Lives s (map (Hears now) f.heard) f.middle
    hears = all_heard now s f.middle f.heard f.answers f.all_heard

    by_tick : ((t ≡ f.middle) × (f.given ≡ [])) ⊎ TicksBehind ReceiverTicks now f.heard f.lost f.answers f.given f.sent f.middle d t e → LivesUnpolled s t
    by_tick (inl none) = record { acts = map (Hears now) f.heard; unpolled = heard_unpolled now f.heard; lived = subst (Lives s (map (Hears now) f.heard)) (sym none.0) hears }
    by_tick (inr behind) = heard_and_told now s f.middle t f.heard f.answers f.given hears behind.ticked

-- what it was given stays all that its polls gave
pub listened : (plan : SubscribePlan) (places place : ℕ) (images : Images) (f g : Follower) (given : List (List ℕ)) → FollowsAt plan places place images f given → ListensOn f g → FollowsAt plan places place images g given
listened plan places place images f g given h l =
    subst (FollowsAt plan places place images g) (ap (λ ms. given ++ ms) (none_given l.lives.acts l.lives.unpolled) ∙ append-nil given)
    (follows_on plan places place images f g l.lives.acts given h l.lives.lived l.notes)
