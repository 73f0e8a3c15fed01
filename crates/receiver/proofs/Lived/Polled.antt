-- Polls keep what is known of a receiver, and give the messages of frames that they read.
use Rattle.std.proofs.Common.{◌≡◌, ℕ, List, [], ◌∷◌, ◌++◌, map, false, replicate, Option, None, Some, Ok, Err, inl, inr, refl, sym, ap, ◌∙◌, subst, append-nil}
use Rattle.std.proofs.lemmas.Bool.{both_ways}
use Rattle.theory.specs.Placed.{AllAmong, Among, Chain, Placed}
use Rattle.theory.specs.Assembly.{after_all, nothing_heard}
use Rattle.theory.specs.Consumer.{Consumer, consumer_at}
use Rattle.theory.specs.Entry.{committed}
use Rattle.theory.proofs.Follow.{Chain-append}
use Rattle.theory.proofs.Lists.{all_append, all_at, all_weaker}
use Rattle.receiver.specs.Polling.{Answer, Polls, PollsImage, PollsOf, ReadsFrames, gives, moved_all, with_only_consumer}
use Rattle.receiver.specs.Receiving.{Opened, Receiver}
use Rattle.receiver.specs.declared.poll_error.PollError.{PollError}
use Rattle.receiver.specs.declared.poll_error.PollError.TheVariants.{NoImage}
use Rattle.receiver.specs.Lives.{Stream}
use Rattle.receiver.proofs.Lived.Following.{Follows, FollowsImage, IsFollowed, follows_with}
use Rattle.assembler.proofs.Hearing.{heard_on}
use Rattle.receiver.proofs.Lived.Moved.{moved_past}

-- its one consumer heard each frame of the stream that it passed, in order, and was given these messages of them
pub record HasHeard (x : Stream) (given : List (List ℕ)) (consumers : List Consumer) (join : ℕ) : Type 0 where
  pub consumer : Consumer
  pub one : consumers ≡ consumer ∷ []
  pub from : consumer.join ≡ join
  pub whole : consumer.lost ≡ false
  pub read : List Placed
  pub chain : Chain consumer.join consumer.at read
  pub among : AllAmong (committed x.entries) read
  pub heard : consumer.assembly ≡ after_all nothing_heard (map (λ s. s.frame) read)
  pub given_is : consumer.assembly.given ≡ given

abbrev pub FollowsOne : Stream → List (List ℕ) → Receiver → Type 0
FollowsOne x given r = Follows x (HasHeard x given) (given ≡ []) 1 r

-- it has heard nothing where it begins
pub begins_heard : (x : Stream) (given : List (List ℕ)) → given ≡ [] → (j : ℕ) → HasHeard x given (replicate 1 (consumer_at j)) j
begins_heard x given nothing j = record { consumer = consumer_at j; one = refl; from = refl; whole = refl; read = []; chain = refl; among = tt; heard = refl; given_is = sym nothing }

-- the messages of an answer
abbrev pub given_by : Answer → List (List ℕ)
given_by (Ok (Some message)) = message ∷ []
given_by (Ok None) = []
given_by (Err fault) = []

-- the consumer moved past these frames of its image
reads : (x : Stream) (o : Opened) (given more : List (List ℕ)) (c d : Consumer) (frames : List Placed) → IsFollowed x (HasHeard x given) o → o.image.consumers ≡ c ∷ [] → ReadsFrames o.image c frames d.at → d ≡ moved_all c frames → gives c frames ≡ more → IsFollowed x (HasHeard x (given ++ more)) (with_only_consumer o d)
reads x o given more c d frames f one r after all =
    let F = committed x.entries in
    let h = f.reading in
    let same_list : h.consumer ∷ [] ≡ c ∷ [] = sym h.one ∙ one in
    let same : c ≡ h.consumer = cc in
    let past = moved_past c frames in
    let join : d.join ≡ h.consumer.join = ap (λ z. z.join) after ∙ past.join ∙ ap (λ z. z.join) same in
    let more_chain : Chain h.consumer.at d.at frames = subst (λ z. Chain z.at d.at frames) same r.chain in
    let more_among : AllAmong F frames = all_weaker (λ s. Among s o.image.stored) (λ s. Among s F) (λ s a. all_at (λ t. Among t F) s o.image.stored f.stored a) frames r.among in
    record {
      geometry = f.geometry;
      stored = f.stored;
      reading = record {
        consumer = d;
        one = refl;
        from = join ∙ h.from;
        whole = ap (λ z. z.lost) after ∙ past.lost ∙ ap (λ z. z.lost) same ∙ h.whole;
        read = h.read ++ frames;
        chain = subst (λ j. Chain j d.at (h.read ++ frames)) (sym join) (Chain-append h.consumer.join h.consumer.at d.at h.read frames h.chain more_chain);
        among = all_append (λ s. Among s F) h.read frames h.among more_among;
        heard =
            ap (λ z. z.assembly) after ∙ past.assembly ∙ ap (λ z. after_all z.assembly (map (λ s. s.frame) frames)) same
            ∙ ap (λ a. after_all a (map (λ s. s.frame) frames)) h.heard ∙ sym (heard_on nothing_heard h.read frames);
        given_is = ap (λ z. z.assembly.given) after ∙ past.given ∙ ap (λ xs. xs ++ gives c frames) (ap (λ z. z.assembly.given) same ∙ h.given_is) ∙ ap (λ xs. given ++ xs) all;
      };
    }

image_polled : (x : Stream) (o : Opened) (given : List (List ℕ)) (greatest : ℕ) (c d : Consumer) (answer : Answer) → IsFollowed x (HasHeard x given) o → o.image.consumers ≡ c ∷ [] → ((e : PollError) → answer ≡ Err e → ⊥) → PollsImage greatest o.image c answer d → IsFollowed x (HasHeard x (given ++ given_by answer)) (with_only_consumer o d)
image_polled x o given greatest c d answer f one fine (inr p) =
    let h = f.reading in
    let same_list : h.consumer ∷ [] ≡ c ∷ [] = sym h.one ∙ one in
    let same : c ≡ h.consumer = cc in
    absurd (both_ways c.lost (ap (λ z. z.lost) same ∙ h.whole) p.0)
image_polled x o given greatest c d (Ok (Some message)) h one fine (inl p) = reads x o given (message ∷ []) c d (p.1.earlier ++ p.1.last ∷ []) h one p.1.reads p.1.after p.1.message_given
image_polled x o given greatest c d (Ok None) h one fine (inl p) = reads x o given [] c d p.1.frames h one p.1.reads p.1.after p.1.nothing
image_polled x o given greatest c d (Err e) h one fine (inl p) = absurd (fine e refl)

polls_of : (x : Stream) (r q : Receiver) (image : Option Opened) (given : List (List ℕ)) (answer : Answer) → FollowsOne x given r → r.image ≡ image → ((e : PollError) → answer ≡ Err e → ⊥) → PollsOf image r answer q → FollowsOne x (given ++ given_by answer) q
polls_of x r q None given answer k was fine m = absurd (fine NoImage m.0)
polls_of x r q (Some o) given answer k was fine m =
    let before : IsFollowed x (HasHeard x given) o = subst (λ z. FollowsImage z x (HasHeard x given) (given ≡ [])) was k.image in
    let after = image_polled x o given r.greatest m.0 m.1 answer before m.2 fine m.3 in
    follows_with x (HasHeard x given) (HasHeard x (given ++ given_by answer)) (given ≡ []) (given ++ given_by answer ≡ []) 1 r q k (ap (λ y. y.session) m.4) (ap (λ y. y.stream) m.4) (ap (λ y. y.consumers) m.4) (subst (λ y. FollowsImage y x (HasHeard x (given ++ given_by answer)) (given ++ given_by answer ≡ [])) (sym (ap (λ y. y.image) m.4)) after)

-- a poll that is answered with a message, or with none
pub polled_one : (x : Stream) (r q : Receiver) (given : List (List ℕ)) (message : List ℕ) → FollowsOne x given r → Polls r (Ok (Some message)) q → FollowsOne x (given ++ message ∷ []) q
polled_one x r q given message k m = polls_of x r q r.image given (Ok (Some message)) k refl (λ e (is : Ok (Some message) ≡ Err e). cc) m

pub polled_none : (x : Stream) (r q : Receiver) (given : List (List ℕ)) → FollowsOne x given r → Polls r (Ok None) q → FollowsOne x given q
polled_none x r q given k m = subst (λ (g : List (List ℕ)). FollowsOne x g q) (append-nil given) (polls_of x r q r.image given (Ok None) k refl (λ e (is : Ok None ≡ Err e). cc) m)

-- no image: nothing changes
pub polled_nowhere : (x : Stream) (r q : Receiver) (image : Option Opened) (given : List (List ℕ)) → FollowsOne x given r → r.image ≡ image → PollsOf image r (Err NoImage) q → FollowsOne x given q
polled_nowhere x r q None given k was m = subst (FollowsOne x given) (sym m.1) k
polled_nowhere x r q (Some o) given k was m = absurd (never m.3)
  where
    before : IsFollowed x (HasHeard x given) o
    before = subst (λ z. FollowsImage z x (HasHeard x given) (given ≡ [])) was k.image

    never : PollsImage r.greatest o.image m.0 (Err NoImage) m.1 → ⊥
    never (inl p) = p.1
    never (inr p) = p.1.stops
