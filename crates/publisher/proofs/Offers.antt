-- What a publisher's pass has published behind an offer, and what was read behind a message.
use Rattle.std.proofs.Common.{◌≡◌, ◌∙◌, inl, inr, ℕ, suc, ◌+◌, ◌-◌, ◌^◌, ◌<◌, ◌≤◌, ⊎_elim, true, List, [], ◌∷◌, ◌++◌, Option, None, Some, Result, Ok, Err, append-nil, append_assoc, length, length-append, map, refl, ap, sym, subst, arith}
use Rattle.std.specs.Prelude.{IfErr, IsErrAnd}
use Rattle.std.specs.Io.KnownBytes.{Consumes, IsAtEnd}
use Rattle.std.specs.List.{flat_map}
use Rattle.std.proofs.lemmas.Bool.{cases_lt}
use Rattle.std.proofs.lemmas.Grind.{flat_map-append}
use Rattle.std.proofs.lemmas.List.{map-append}
use Rattle.theory.specs.Position.{Geometry, framed_length}
use Rattle.theory.specs.Words.{offset_in}
use Rattle.publication.specs.declared.pass.ClaimRange.{ClaimRange}
use Rattle.publication.specs.declared.pass.FrameWords.{FrameWords}
use Rattle.publication.specs.declared.pass.Pass.{Pass}
use Rattle.publication.specs.declared.refusal.Refusal.{Refusal}
use Rattle.publication.specs.declared.refusal.Refusal.TheVariants.{NotConnected, BackPressured, AdminAction, Closed, MaxPositionExceeded}
use Rattle.publication.specs.declared.step.WordStep.{WordStep}
use Rattle.publication.specs.declared.step.WordStep.TheVariants as steps
use Rattle.publication.specs.Steps.{Keeps, geometry_of, start_in, term_of}
use Rattle.publication.specs.Claims.{Justified, Leaves, LeavesPadding}
use Rattle.publication.specs.Frames.{message_frames}
use Rattle.publication.specs.Offers.{Offered as OfferedIn}
use Rattle.publication.specs.Orders.{AreInOrder}
use Rattle.publication.proofs.Ordered as ordered
use Rattle.messages.specs.declared.form.Form.{Form}
use Rattle.messages.specs.declared.fault.InputFault.{InputFault}
use Rattle.messages.specs.Inputs.{Explains, Gives}
use Rattle.publisher.specs.declared.offering.reading.ReadingFault.{ReadingFault}
use Rattle.publisher.specs.declared.offering.reading.ReadingFault.TheVariants.{Full, Input}
use Rattle.publisher.specs.declared.offering.reading.Offered.{Offered}
use Rattle.publisher.specs.declared.offering.reading.ReadingEnd.TheVariants.{All, Stopped}
use Rattle.publisher.specs.Offers.{GivesUp, OffersOne, Publishes, PublishesInput, PublishesNone, PublishesOne, Reads, claim_of, end_behind, frames_in, messages_in}
use Rattle.publisher.specs.Offers.{Taken}
use Rattle.publisher.specs.Offers.Taken.{Message, Padding}
use Rattle.publisher.specs.Refusals.{IsRefusedForGood}

-- ---- of one pass and a later one

pub nothing : (p q : Pass) → Keeps p q → PublishesNone p q
nothing p q k tail = record {
  taken = [];
  identity = ap (λ (v : Pass). v.identity) k;
  number = ap (λ (v : Pass). v.number) k;
  parts = ap (λ (v : Pass). v.right.parts) k;
  claims = ap (λ (v : Pass). v.right.claims) k ∙ sym (append-nil p.right.claims);
  frames = ap (λ (v : Pass). v.work.frames) k ∙ sym (append-nil p.work.frames);
  drafts = ap (λ (v : Pass). v.work.drafts) k;
  ordered = subst AreInOrder (sym (ap (λ (v : Pass). v.right.claims) k));
  are = refl;
  ends = refl;
}

pub nothing_yet : (p : Pass) → PublishesNone p p
nothing_yet p = nothing p p refl

-- messages end where the last of them does
end_behind-append : (g : Geometry) (tail : ℕ) (ts us : List Taken) → end_behind g tail (ts ++ us) ≡ end_behind g (end_behind g tail ts) us
end_behind-append g tail [] us = refl
end_behind-append g tail (Message start message ∷ ts) us = end_behind-append g (start + framed_length g (length message)) ts us
end_behind-append g tail (Padding start bytes ∷ ts) us = end_behind-append g tail ts us

-- what it has published then, and what after that
pub together : (p v q : Pass) (tail middle to : ℕ) (ms ns : List (List ℕ)) → Publishes p tail ms v middle → Publishes v middle ns q to → Publishes p tail (ms ++ ns) q to
together p v q tail middle to ms ns a b =
    let claim = claim_of p.identity p.number in let frames = frames_in p.identity in record {
      taken = a.taken ++ b.taken;
      identity = b.identity ∙ a.identity;
      number = b.number ∙ a.number;
      parts = b.parts ∙ a.parts;
      claims =
          b.claims
          ∙ (λ j. a.claims j ++ map (claim_of (a.identity j) (a.number j)) b.taken)
          ∙ append_assoc p.right.claims (map claim a.taken) (map claim b.taken)
          ∙ ap (λ (cs : List ClaimRange). p.right.claims ++ cs) (sym (map-append claim a.taken b.taken));
      frames =
          b.frames
          ∙ (λ j. a.frames j ++ flat_map (frames_in (a.identity j)) b.taken)
          ∙ append_assoc p.work.frames (flat_map frames a.taken) (flat_map frames b.taken)
          ∙ ap (λ (fs : List FrameWords). p.work.frames ++ fs) (sym (flat_map-append frames a.taken b.taken));
      drafts = b.drafts ∙ a.drafts;
      ordered = λ order. b.ordered (a.ordered order);
      are = flat_map-append messages_in a.taken b.taken ∙ (λ j. a.are j ++ b.are j);
      ends = b.ends ∙ (λ j. end_behind (a.identity j).geometry (a.ends j) b.taken) ∙ sym (end_behind-append p.identity.geometry tail a.taken b.taken);
    }

pub after_none : (p v q : Pass) (message : List ℕ) (end : Option ℕ) → PublishesNone p v → OffersOne v message end q → OffersOne p message end q
after_none p v q message None a b = λ (tail : ℕ). together p v q tail tail tail [] [] (a tail) (b tail)
after_none p v q message (Some end) a b = λ (tail : ℕ). together p v q tail tail end [] (message ∷ []) (a tail) (b tail)

pub both_none : (p v q : Pass) → PublishesNone p v → PublishesNone v q → PublishesNone p q
both_none p v q a b tail = together p v q tail tail tail [] [] (a tail) (b tail)

-- ---- of an offer

pub accepted : (p q : Pass) (message : List ℕ) (end : ℕ) → OfferedIn p message end q → PublishesOne p message q end
accepted p q message end h tail = record {
  taken = Message h.start message ∷ [];
  identity = ap (λ (v : Pass). v.identity) h.after ∙ ap (λ (v : Pass). v.identity) h.claimed.after;
  number = ap (λ (v : Pass). v.number) h.after ∙ ap (λ (v : Pass). v.number) h.claimed.after;
  parts = ap (λ (v : Pass). v.right.parts) h.after ∙ ap (λ (v : Pass). v.right.parts) h.claimed.after;
  claims =
      ap (λ (v : Pass). v.right.claims) h.after
      ∙ ap (λ (v : Pass). v.right.claims) h.claimed.after
      ∙ ap (λ (s : ℕ). p.right.claims ++ claim_of p.identity p.number (Message s message) ∷ []) (sym h.claimed.from);
  frames = ap (λ (v : Pass). v.work.frames) h.after ∙ ap (λ (fs : List FrameWords). p.work.frames ++ fs) (sym (append-nil (message_frames p.identity true h.start message)));
  drafts = ap (λ (v : Pass). v.work.drafts) h.after;
  ordered = ordered.offered p q message end h;
  are = refl;
  ends = h.end_is;
}

padded : (p : Pass) (word : ℕ) (q : Pass) → LeavesPadding p word q → PublishesNone p q
padded p word q h tail =
    ⊎_elim
    (λ (low : offset_in word < term_of p). let e = h.below low in record {
      taken = Padding (start_in (geometry_of p) word) (term_of p - offset_in word) ∷ [];
      identity = ap (λ (v : Pass). v.identity) e;
      number = ap (λ (v : Pass). v.number) e;
      parts = ap (λ (v : Pass). v.right.parts) e;
      claims = ap (λ (v : Pass). v.right.claims) e;
      frames = ap (λ (v : Pass). v.work.frames) e;
      drafts = ap (λ (v : Pass). v.work.drafts) e;
      ordered = λ order. ordered.padded p q order word h;
      are = refl;
      ends = refl;
    })
    (λ (high : term_of p ≤ offset_in word). nothing p q (h.over high) tail)
    (cases_lt (offset_in word) (term_of p))

left : (p : Pass) (rest : List WordStep) (q : Pass) → Leaves p rest q → PublishesNone p q
left p [] q h = nothing p q h
left p (steps.Limit word ∷ more) q h = nothing p q h
left p (steps.Count count ∷ more) q h = nothing p q h
left p (steps.Tail partition word ∷ more) q h = nothing p q h
left p (steps.Addition partition taken word ∷ more) q h = padded p word q h
left p (steps.NextTail partition word ∷ more) q h = nothing p q h
left p (steps.TailExchange partition from to word ∷ more) q h = nothing p q h
left p (steps.CountExchange from count ∷ more) q h = nothing p q h

pub refused : (p : Pass) (size : ℕ) (why : Refusal) (q : Pass) → Justified p size why q → PublishesNone p q
refused p size NotConnected q h = left p h.rest q h.leaves
refused p size BackPressured q h = left p h.rest q h.leaves
refused p size AdminAction q h = left p h.rest q h.leaves
refused p size Closed q h = nothing p q h.after
refused p size MaxPositionExceeded q h = left p h.rest q h.leaves

-- with the offers before
pub gives_up : (p v q : Pass) (size : ℕ) → PublishesNone p v → IsRefusedForGood v size q → GivesUp p size q
gives_up p v q size none is = record { last = v; none = none; refused = is }

-- ---- of an input

pub read_more : (form : Form) (greatest : ℕ) (old between new : Option (List ℕ)) (messages : List (List ℕ)) (message : List ℕ)
    → Reads form greatest old messages between → Gives form greatest between new true message → Reads form greatest old (messages ++ message ∷ []) new
read_more form greatest old between new [] message r g = (new, subst (λ (o : Option (List ℕ)). Gives form greatest o new true message) r g, refl)
read_more form greatest old between new (m ∷ messages) message r g = (r.0, r.1, read_more form greatest r.0 between new messages message r.2 g)

-- so far all messages that were read are published, and the next one has this number
pub record PublishesSome (form : Form) (greatest tail : ℕ) (old now : Option (List ℕ)) (p q : Pass) (offered : Offered) (number : ℕ) : Type 0 where
  pub messages : List (List ℕ)
  pub count : number ≡ suc (length messages)
  pub counted : offered.messages ≡ length messages
  pub reads : Reads form greatest old messages now
  pub publishes : Publishes p tail messages q offered.tail

pub none_yet : (form : Form) (greatest : ℕ) (old : Option (List ℕ)) (p : Pass) (offered : Offered) → offered.messages ≡ 0 → PublishesSome form greatest offered.tail old old p p offered 1
none_yet form greatest old p offered none = record { messages = []; count = refl; counted = none; reads = refl; publishes = nothing_yet p offered.tail }

pub one_more : (form : Form) (greatest tail : ℕ) (old now new : Option (List ℕ)) (p v q : Pass) (offered after : Offered) (number : ℕ) (message : List ℕ)
    → PublishesSome form greatest tail old now p v offered number → Gives form greatest now new true message → PublishesOne v message q after.tail → after.messages ≡ number
    → PublishesSome form greatest tail old new p q after (number + 1)
one_more form greatest tail old now new p v q offered after number message is gives offer count = record {
  messages = is.messages ++ message ∷ [];
  count = (let e = length-append is.messages (message ∷ []) in let n = is.count in omega (arith, e, n));
  counted = (let e = length-append is.messages (message ∷ []) in let n = is.count in omega (arith, e, n, count));
  reads = read_more form greatest old now new is.messages message is.reads gives;
  publishes = together p v q tail offered.tail after.tail is.messages (message ∷ []) is.publishes (offer offered.tail);
}

-- then the input is at its end
pub ended : (form : Form) (greatest tail : ℕ) (old now new : Option (List ℕ)) (p q : Pass) (offered : Offered) (number : ℕ) → PublishesSome form greatest tail old now p q offered number → Consumes now new [] → IsAtEnd new
    → PublishesInput form greatest tail old new p q offered (Ok All)
ended form greatest tail old now new p q offered number is none end = record {
  messages = is.messages;
  between = now;
  reads = is.reads;
  publishes = is.publishes;
  counted = is.counted;
  behind = q;
  published = is.publishes;
  stops = (none, end);
}

-- or so many were read as can be counted
pub counted_out : (form : Form) (greatest tail : ℕ) (old now : Option (List ℕ)) (p q : Pass) (offered : Offered) (number : ℕ) → PublishesSome form greatest tail old now p q offered number → number ≡ 2 ^ 64 - 1
    → PublishesInput form greatest tail old now p q offered (Ok Stopped)
counted_out form greatest tail old now p q offered number is all = record {
  messages = is.messages;
  between = now;
  reads = is.reads;
  publishes = is.publishes;
  counted = is.counted;
  behind = q;
  published = is.publishes;
  stops = inr ((let n = is.count in omega (arith, n, all)), refl);
}

-- or a message couldn't be read
pub unreadable : (form : Form) (greatest tail : ℕ) (old now new : Option (List ℕ)) (p q : Pass) (offered : Offered) (number : ℕ) (held : List ℕ) (fault : InputFault)
    → PublishesSome form greatest tail old now p q offered number → Explains form number greatest now new held fault → PublishesInput form greatest tail old new p q offered (Err (Input fault))
unreadable form greatest tail old now new p q offered number held fault is why = record {
  messages = is.messages;
  between = now;
  reads = is.reads;
  publishes = is.publishes;
  counted = is.counted;
  behind = q;
  published = is.publishes;
  stops = (held, subst (λ (n : ℕ). Explains form n greatest now new held fault) is.count why);
}

-- behind all of them nothing more is published
still : (form : Form) (greatest tail : ℕ) (old now : Option (List ℕ)) (p v q : Pass) (offered : Offered) (number : ℕ) (is : PublishesSome form greatest tail old now p v offered number) → PublishesNone v q
    → Publishes p tail is.messages q offered.tail
still form greatest tail old now p v q offered number is none = subst (λ (ms : List (List ℕ)). Publishes p tail ms q offered.tail) (append-nil is.messages) (together p v q tail offered.tail offered.tail is.messages [] is.publishes (none offered.tail))

-- or one was read, and isn't published
pub unpublished : (form : Form) (greatest tail : ℕ) (old now new : Option (List ℕ)) (p v q : Pass) (offered : Offered) (number : ℕ) (message : List ℕ)
    → PublishesSome form greatest tail old now p v offered number → Gives form greatest now new true message → PublishesNone v q → PublishesInput form greatest tail old new p q offered (Ok Stopped)
unpublished form greatest tail old now new p v q offered number message is gives offer = record {
  messages = is.messages;
  between = now;
  reads = is.reads;
  publishes = still form greatest tail old now p v q offered number is offer;
  counted = is.counted;
  behind = v;
  published = is.publishes;
  stops = inl (message, gives);
}

pub unplaced : (form : Form) (greatest tail : ℕ) (old now new : Option (List ℕ)) (p v q : Pass) (offered : Offered) (number : ℕ) (message : List ℕ)
    → PublishesSome form greatest tail old now p v offered number → Gives form greatest now new true message → PublishesNone v q → GivesUp v (length message) q
    → PublishesInput form greatest tail old new p q offered (Err Full)
unplaced form greatest tail old now new p v q offered number message is gives offer given_up = record {
  messages = is.messages;
  between = now;
  reads = is.reads;
  publishes = still form greatest tail old now p v q offered number is offer;
  counted = is.counted;
  behind = v;
  published = is.publishes;
  stops = (message, gives, given_up);
}

-- ---- a fault that is handed on

pub at_fault : {A : Type 0} (r : Result A ReadingFault) (fault : ReadingFault) (P : ReadingFault → Type 0) → IsErrAnd r (λ e. e ≡ fault) → P fault → IfErr r P
at_fault (Ok any) fault P h p = tt
at_fault (Err e) fault P h p = subst P (sym h) p

pub at_full : {A : Type 0} (r : Result A ReadingFault) (fault : ReadingFault) (P : ReadingFault → Type 0) → IsErrAnd r (λ e. e ≡ fault) → fault ≡ Full → P Full → IfErr r P
at_full r fault P h full p = at_fault r fault P h (subst P (sym full) p)
