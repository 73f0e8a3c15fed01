-- Messages that are written one after the other.
use Rattle.std.proofs.Common.{◌≡◌, ◌∙◌, ℕ, Bool, true, false, ◌+◌, ◌<◌, ◌≤◌, List, [], ◌∷◌, ◌++◌, length, Option, refl, sym, ap, subst, arith, append-nil, length-append, inl, inr}
use Rattle.std.specs.Io.KnownBytes.{Appends, Keeps}
use Rattle.std.proofs.KnownBytes.{Appends-kept, Appends-nil, Appends-trans}
use Rattle.std.proofs.lemmas.Grind.{flat_map-append}
use Rattle.messages.specs.Forms.{spelled, spelling}
use Rattle.messages.specs.declared.form.Form.{Form}
use Rattle.receiver.specs.Subscribing.{Subscribing}
use Rattle.subscriber.specs.declared.images.delivery.DeliveryFault.{DeliveryFault}
use Rattle.subscriber.specs.declared.images.delivery.DeliveryFault.TheVariants as faults
use Rattle.subscriber.specs.Deliveries.{Delivers, Stops, StopsAtOne, PollsOne, PollsAll, Steps}

-- so many messages were polled and written
pub record Written (form : Form) (s : Subscribing) (before : Option (List ℕ)) (number : ℕ) (t : Subscribing) (after : Option (List ℕ)) : Type 0 where
  pub messages : List (List ℕ)
  pub polled : PollsAll s messages t
  pub counted : number ≡ length messages
  pub written : Appends before after (spelling form messages)

pub written_none : (form : Form) (s : Subscribing) (before : Option (List ℕ)) → Written form s before 0 s before
written_none form s before = record { messages = []; polled = refl; counted = refl; written = Appends-nil before }

polled_more : (s t u : Subscribing) (messages : List (List ℕ)) (message : List ℕ) → PollsAll s messages t → PollsOne t message u → PollsAll s (messages ++ message ∷ []) u
polled_more s t u [] message all one = (u, subst (λ x. PollsOne x message u) all one, refl)
polled_more s t u (m ∷ messages) message (v, first, all) one = (v, first, polled_more v t u messages message all one)

spelled_more : (form : Form) (messages : List (List ℕ)) (message : List ℕ) → spelling form messages ++ spelled form message ≡ spelling form (messages ++ message ∷ [])
spelled_more form messages message =
    sym (flat_map-append (spelled form) messages (message ∷ []) ∙ ap (λ (x : List ℕ). spelling form messages ++ x) (append-nil (spelled form message)))

pub written_more : (form : Form) (s t u : Subscribing) (a b c : Option (List ℕ)) (number : ℕ) (message : List ℕ) → Written form s a number t b → PollsOne t message u → Appends b c (spelled form message) → Written form s a (number + 1) u c
written_more form s t u a b c number message w one more = record {
  messages = w.messages ++ message ∷ [];
  polled = polled_more s t u w.messages message w.polled one;
  counted = omega (arith, w.counted, length-append w.messages (message ∷ []));
  written = subst (Appends a c) (spelled_more form w.messages message) (Appends-trans _ _ _ _ _ w.written more);
}

-- a step that gave one
pub step_more : (form : Form) (s t u : Subscribing) (a b c : Option (List ℕ)) (number : ℕ) (any : Bool) → any ≡ true → Written form s a number t b → Steps form t b any u c → Written form s a (number + 1) u c
step_more form s t u a b c number true e w (message, one, more) = written_more form s t u a b c number message w one more
step_more form s t u a b c number false e w none = absurd (cc)

-- a step that failed
pub step_failed : (form : Form) (most : ℕ) (s t u : Subscribing) (a b c : Option (List ℕ)) (number : ℕ) (fault : DeliveryFault) → number < most → Written form s a number t b → StopsAtOne form fault t b u c → Stops form most fault s a u c
step_failed form most s t u a b c number (faults.Output code) low w (message, one, part) =
    inl (record { messages = w.messages; middle = t; last = message; between = b; polled = w.polled; one = one; few = omega (arith, w.counted, low); written = w.written; part = part })
step_failed form most s t u a b c number (faults.Message error) low w (refused, same) =
    (w.messages, t, omega (arith, w.counted, low), w.polled, refused, subst (λ x. Appends a x (spelling form w.messages)) (sym same) w.written)
step_failed form most s t u a b c number (faults.Failed error) low w wrong = wrong

-- all was written, and then the output kept that
pub delivered_kept : (form : Form) (most : ℕ) (s t : Subscribing) (a b c : Option (List ℕ)) (number : ℕ) → Delivers form most s a number t b → Keeps b c → Delivers form most s a number t c
delivered_kept form most s t a b c number h kept = record {
  messages = h.messages;
  middle = h.middle;
  polled = h.polled;
  counted = h.counted;
  few = h.few;
  ended = h.ended;
  written = Appends-kept a b c _ h.written kept;
}

-- as many as there may be were written, or then there was none
pub delivered_all : (form : Form) (most : ℕ) (s t : Subscribing) (a b : Option (List ℕ)) (number : ℕ) → number ≡ most → Written form s a number t b → Delivers form most s a most t b
delivered_all form most s t a b number all w = record {
  messages = w.messages;
  middle = t;
  polled = w.polled;
  counted = omega (arith, w.counted, all);
  few = omega (arith, w.counted, all);
  ended = inl (omega (arith, w.counted, all), refl);
  written = w.written;
}

pub delivered_until : (form : Form) (most : ℕ) (s t u : Subscribing) (a b c : Option (List ℕ)) (number : ℕ) (any : Bool) → any ≡ false → number ≤ most → Written form s a number t b → Steps form t b any u c → Delivers form most s a number u c
delivered_until form most s t u a b c number true e few w step = absurd (cc)
delivered_until form most s t u a b c number false e few w (none, same) = record {
  messages = w.messages;
  middle = t;
  polled = w.polled;
  counted = w.counted;
  few = omega (arith, w.counted, few);
  ended = inr none;
  written = subst (λ x. Appends a x (spelling form w.messages)) (sym same) w.written;
}
