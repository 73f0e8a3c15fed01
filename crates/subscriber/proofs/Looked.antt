-- What a subscriber lived through in a turn up to where its image's loss is judged.
use Rattle.std.proofs.Common.{◌≡◌, ◌≢◌, ◌⊎◌, ◌↔◌, ◌∙◌, ◌+◌, ⊎_elim, inr, IsTrue, ℕ, ℤ, List, ◌++◌, length, Option, inl, refl, sym, ap, subst, append-nil}
use Rattle.std.proofs.lemmas.Bool.Decides.{eqb_tells}
use Rattle.std.specs.Io.KnownBytes.{Appends}
use Rattle.messages.specs.Forms.{spelling}
use Rattle.messages.specs.declared.form.Form.{Form}
use Rattle.receiver.specs.Lives.{Act, given_in, heard_in}
use Rattle.receiver.specs.Subscribing.{Subscribing}
use Rattle.subscriber.proofs.Ends.{ends_on, hears_more}
use Rattle.subscriber.specs.Followers.{HasNoted, IsHeard, NotesEnds}
use Rattle.subscriber.specs.declared.listening.setup_offer.ImageParams.{ImageParams}
use Rattle.subscriber.specs.declared.images.follower.Follower.{Follower}
use Rattle.subscriber.specs.declared.images.session.Session.{Session}
use Rattle.subscriber.specs.Watches.{Seen}
use Rattle.subscriber.proofs.Breaking.{acts_kept}
use Rattle.subscriber.proofs.Leaving.{none_given}
use Rattle.subscriber.proofs.Lived.{given_on, heard_on, lives_on}
use Rattle.subscriber.specs.Breaking.{BreaksActs}
use Rattle.subscriber.specs.Leavings.{AreUnpolled, ListensOn, LivesUnpolled, NotesHeard}
use Rattle.subscriber.specs.Living.{LivesOn, WritesActs}

-- what was given, and then nothing more
same_given : (xs ys : List Act) → AreUnpolled ys → given_in (xs ++ ys) ≡ given_in xs
same_given xs ys none = given_on xs ys ∙ ap (λ ms. given_in xs ++ ms) (none_given ys none) ∙ append-nil (given_in xs)

-- what was noted of these datagrams, and then of those
noted_on : (f g h : Follower) (xs ys : List Act) → HasNoted f (heard_in xs) g → HasNoted g (heard_in ys) h → HasNoted f (heard_in (xs ++ ys)) h
noted_on f g h xs ys first then = record {
  notes = subst (λ (heard : List (List ℕ)). NotesEnds f.opening.session f.stream heard f.end h.end) (sym (heard_on xs ys))
      (ends_on f.opening.session f.stream (heard_in xs) (heard_in ys) f.end g.end h.end first.notes
      (subst (λ (o : ImageParams). NotesEnds o.session f.stream (heard_in ys) g.end h.end) first.opening
      (subst (λ (n : ℤ). NotesEnds g.opening.session n (heard_in ys) g.end h.end) first.stream then.notes)));
  hears = subst (λ (heard : List (List ℕ)). IsTrue h.heard ↔ (IsTrue f.heard ⊎ IsHeard f.opening f.stream heard)) (sym (heard_on xs ys))
      (hears_more f.opening f.stream (heard_in xs) (heard_in ys) (IsTrue f.heard) (IsTrue g.heard) (IsTrue h.heard) first.hears
      (subst (λ (o : ImageParams). IsTrue h.heard ↔ (IsTrue g.heard ⊎ IsHeard o f.stream (heard_in ys))) first.opening
      (subst (λ (n : ℤ). IsTrue h.heard ↔ (IsTrue g.heard ⊎ IsHeard g.opening n (heard_in ys))) first.stream then.hears)));
  opening = then.opening ∙ first.opening;
  stream = then.stream ∙ first.stream;
}

-- it polled nothing more
unpolled_acts : (form : Form) (count more : ℕ) (a b : Option (List ℕ)) (s m t : Subscribing) → WritesActs form count s a more m b → (l : LivesUnpolled m t) → WritesActs form count s a more t b
unpolled_acts form count more a b s m t w l =
    let same = same_given w.acts l.acts l.unpolled in
    record {
      acts = w.acts ++ l.acts;
      lived = lives_on s m t w.acts l.acts w.lived l.lived;
      counted = w.counted ∙ ap (λ (xs : List (List ℕ)). count + length xs) (sym same);
      written = subst (λ (xs : List (List ℕ)). Appends a b (spelling form xs)) (sym same) w.written;
    }

pub listened_on : (form : Form) (count more : ℕ) (a b : Option (List ℕ)) (f g h : Follower) → LivesOn form count f a more g b → ListensOn g h → LivesOn form count f a more h b
unfolding unpolled_acts
listened_on form count more a b f g h w l = record {
  acts = unpolled_acts form count more a b f.subscriber g.subscriber h.subscriber w.acts l.lives;
  notes = noted_on f g h w.acts.acts l.lives.acts w.notes l.notes;
}

-- a fault behind a cycle that had none
pub acts_broken : (form : Form) (count more : ℕ) (a b : Option (List ℕ)) (s t : Subscribing) → WritesActs form count s a more t b → BreaksActs form s a t b
acts_broken form count more a b s t w = acts_kept form s t t a b w.acts (given_in w.acts) w.lived (inl refl) refl w.written

pub unpolled_broken : (form : Form) (count more : ℕ) (a b : Option (List ℕ)) (s m t : Subscribing) → WritesActs form count s a more m b → LivesUnpolled m t → BreaksActs form s a t b
unpolled_broken form count more a b s m t w l = acts_broken form count more a b s t (unpolled_acts form count more a b s m t w l)

-- that a silence was told changes nothing else
pub same_else : (c a s : Session) → a ≡ record c { follower = a.follower; duty = a.duty; ended = a.ended; watch = a.watch } → s ≡ record a { silent = s.silent } → s ≡ record c { follower = s.follower; duty = s.duty; ended = s.ended; silent = s.silent; watch = s.watch }
same_else c a s same told =
    subst (λ (j : Session). j ≡ record c { follower = j.follower; duty = j.duty; ended = j.ended; silent = j.silent; watch = j.watch }) (sym told)
    (ap (λ (j : Session). record j { silent = s.silent }) same)

-- that it was noted what it lacks neither
pub noted_same : (a b c : Session) → b ≡ record a { follower = b.follower; duty = b.duty; watch = b.watch } → c ≡ record b { watch = c.watch } → c ≡ record a { follower = c.follower; duty = c.duty; watch = c.watch }
noted_same a b c once noted =
    subst (λ (j : Session). j ≡ record a { follower = j.follower; duty = j.duty; watch = j.watch }) (sym noted)
    (ap (λ (j : Session). record j { watch = c.watch }) once)

pub same_or_not : (a b : ℕ) → (a ≡ b) ⊎ (a ≢ b)
same_or_not a b = ⊎_elim (λ p. inl p.1) (λ p. inr p.1) (eqb_tells a b)

-- that its session was heard changes nothing of what was noted
pub heard_noted : (before after : ℕ) (s t : Seen) → NotesHeard before after s t → IsTrue s.noted → IsTrue t.noted
heard_noted before after s t h so = by_case (same_or_not after before)
  where
    by_case : (after ≡ before) ⊎ (after ≢ before) → IsTrue t.noted
    by_case (inl same) = subst IsTrue (sym (ap (λ x. x.noted) (h.still same))) so
    by_case (inr other) = subst IsTrue (sym (ap (λ x. x.noted) (h.heard other))) so
