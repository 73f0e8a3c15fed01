-- What a subscriber that a fault ended lived through and wrote in a cycle.
use Rattle.std.proofs.Common.{◌≡◌, ◌∙◌, ℕ, false, List, [], ◌∷◌, ◌++◌, map, Option, inl, inr, refl, sym, ap, subst, append-nil}
use Rattle.std.specs.Io.KnownBytes.{Appends}
use Rattle.endpoint.specs.Devices.{Device}
use Rattle.messages.specs.Forms.{spelling}
use Rattle.messages.specs.declared.form.Form.{Form}
use Rattle.receiver.specs.Lives.{Act, Gives, Lives, given_in}
use Rattle.receiver.specs.Subscribing.{Subscribing}
use Rattle.subscriber.proofs.Leaving.{fault_unpolled, none_given}
use Rattle.subscriber.proofs.Lived.{all_polled, delivered_lives, given_on, lives_on, polled_given}
use Rattle.subscriber.proofs.Told.{none_told, none_told_behind, told_first}
use Rattle.subscriber.specs.Breaking.{BreaksActs, StopsAt, WritesTold, is_ticked, told_in}
use Rattle.subscriber.specs.Deliveries.{BreaksOff, Ends, FailsBehind, Stops}
use Rattle.subscriber.specs.declared.images.delivery.DeliveryFault.{DeliveryFault}
use Rattle.subscriber.specs.declared.images.delivery.DeliveryFault.TheVariants as faults

-- ---- a cycle

-- all that was given is written
all_kept : (form : Form) (acts : List Act) (a b : Option (List ℕ)) → Appends a b (spelling form (given_in acts)) → WritesTold form (given_in acts) (told_in acts) a b
all_kept form acts a b h = record {
  written = given_in acts;
  untold = (told_first acts).0;
  lost = [];
  between = b;
  given_are = sym (append-nil (given_in acts));
  told_are = (told_first acts).1;
  whole = h;
  part = refl;
}

pub acts_kept : (form : Form) (s t u : Subscribing) (a b : Option (List ℕ)) (acts : List Act) (messages : List (List ℕ)) → Lives s acts t → StopsAt t u → given_in acts ≡ messages → Appends a b (spelling form messages) → BreaksActs form s a u b
acts_kept form s t u a b acts messages lives stops given h = record {
  acts = acts;
  last = t;
  lived = lives;
  stops = stops;
  writes = all_kept form acts a b (subst (λ ms. Appends a b (spelling form ms)) (sym given) h);
}

polls_unticked : (messages : List (List ℕ)) → is_ticked (map Gives messages) ≡ false
polls_unticked [] = refl
polls_unticked (m ∷ ms) = polls_unticked ms

broken_off : (form : Form) (most : ℕ) (s t : Subscribing) (a b : Option (List ℕ)) → BreaksOff form most s a t b → BreaksActs form s a t b
broken_off form most s t a b h =
    let polls = map Gives h.messages in
    record {
      acts = polls ++ Gives h.last ∷ [];
      last = t;
      lived = lives_on s h.middle t polls (Gives h.last ∷ []) (all_polled s h.middle h.messages h.polled) (t, h.one, refl);
      stops = inl refl;
      writes = record {
        written = h.messages;
        untold = h.messages;
        lost = h.last ∷ [];
        between = h.between;
        given_are = given_on polls (Gives h.last ∷ []) ∙ ap (λ ms. ms ++ h.last ∷ []) (polled_given h.messages);
        told_are = sym (ap (λ ms. ms ++ h.messages) (none_told_behind polls (Gives h.last ∷ []) refl ∙ none_told polls (polls_unticked h.messages)));
        whole = h.written;
        part = h.part;
      };
    }

stopped : (form : Form) (most : ℕ) (fault : DeliveryFault) (s t : Subscribing) (a b : Option (List ℕ)) → Stops form most fault s a t b → BreaksActs form s a t b
stopped form most (faults.Output code) s t a b (inl h) = broken_off form most s t a b h
stopped form most (faults.Output code) s t a b (inr (number, h)) =
    let polls = delivered_lives form most s t a b number h in
    acts_kept form s t t a b polls.0 h.messages polls.1 (inl refl) polls.2 h.written
stopped form most (faults.Message error) s t a b (messages, middle, few, polled, refused, written) =
    acts_kept form s middle t a b (map Gives messages) messages (all_polled s middle messages polled) (inr (error, refused)) (polled_given messages) written
stopped form most (faults.Failed error) s t a b wrong = absurd wrong

failed_behind : (form : Form) (most now : ℕ) (tells : Type 0) (fault : DeliveryFault) (s : Subscribing) (a : Option (List ℕ)) (d : Device) (t : Subscribing) (b : Option (List ℕ)) (e : Device) → FailsBehind form most now tells fault s a d t b e → BreaksActs form s a t b
failed_behind form most now tells fault s a d t b e h =
    let polls = delivered_lives form _ s h.middle a b h.number h.delivers in
    let rest = fault_unpolled now tells h.why h.middle d t e h.fails in
    acts_kept form s t t a b (polls.0 ++ rest.acts) h.delivers.messages (lives_on s h.middle t polls.0 rest.acts polls.1 rest.lived) (inl refl)
    (given_on polls.0 rest.acts ∙ ap (λ ms. given_in polls.0 ++ ms) (none_given rest.acts rest.unpolled) ∙ append-nil (given_in polls.0) ∙ polls.2) h.delivers.written

pub cycle_broken : (form : Form) (most now : ℕ) (tells still : Type 0) (fault : DeliveryFault) (s : Subscribing) (a : Option (List ℕ)) (d : Device) (t : Subscribing) (b : Option (List ℕ)) (e : Device) → Ends form most now tells still fault s a d t b e → BreaksActs form s a t b
cycle_broken form most now tells still fault s a d t b e (inl h) = stopped form _ fault s t a b h.0
cycle_broken form most now tells still fault s a d t b e (inr h) = failed_behind form most now tells fault s a d t b e h
