-- Frames that a reader hears by itself.
use Rattle.std.proofs.Common.{◌≡◌, ◌↔◌, ℕ, ◌≤◌, ◌⊎◌, inl, inr, List, [], ◌∷◌, ◌++◌, map, false, true, Bool, Option, None, Some, Ok, Err, refl, sym, ap, ◌∙◌, subst, arith}
use Rattle.std.specs.Prelude.{◌+◌, ◌-◌, ◌<◌, ◌^◌, IfErr, IfOk, Result, option_map}
use Rattle.assembler.specs.declared.assembler.Message.{Message}
use Rattle.std.specs.Option.{option_to_list}
use Rattle.theory.specs.Placed.{Among, Chain, Placed}
use Rattle.theory.specs.Assembly.{Assembly, after_all}
use Rattle.theory.proofs.Follow.{Chain-append, Chain-push}
use Rattle.theory.proofs.Lists.{all_append, all_pushed, all_weaker}
use Rattle.assembler.specs.Assembling.{Assembling}
use Rattle.assembler.specs.Hearing.{AsksMemory, IsTooLong, assembled}
use Rattle.assembler.proofs.Hearing.{given_behind, heard_more, heard_on}
use Rattle.assembler.specs.declared.fault.AssemblyError.{AssemblyError}
use Rattle.assembler.specs.declared.fault.AssemblyError.TheVariants.{TooLong}
use Rattle.position.specs.declared.head.FrameHead.{FrameHead}
use Rattle.image.specs.Finding as finding
use Rattle.image.specs.Finding.{FindsNothing, PassesOn, read_end}
use Rattle.image.specs.Handles.{ImageWords, ReaderSeat, known_by, misses_of, position_of}
use Rattle.receiver.specs.Joining.{Joins, Shows}
use Rattle.receiver.specs.Reading.{FindsFrame, FindsNone, GivesMessage, GivesNothing, Hears, HearsFurther, HearsOne, Passes, PassesRead, Reading, ReadsFurther, ReadsOn, RefusesFrame, RefusesOne, WaitsSo, heard_to_of}

-- ---- one frame more

pushed : (m k n : Reading) (frames : List Placed) (s : Placed) → ReadsOn m frames k → FindsFrame k s n → n.assembler.greatest ≡ k.assembler.greatest → ReadsOn m (frames ++ s ∷ []) n
pushed m k n frames s r f greatest = record {
  image = f.image ∙ r.image;
  chain = subst (λ q. Chain m.heard_to q (frames ++ s ∷ [])) (sym f.ends) (Chain-push m.heard_to k.heard_to frames s r.chain f.here);
  known = all_pushed (λ t. Among t (known_by n.seat)) frames s (all_weaker (λ t. Among t (known_by k.seat)) (λ t. Among t (known_by n.seat)) f.keeps frames r.known) f.known;
  keeps = λ t a. f.keeps t (r.keeps t a);
  greatest = greatest ∙ r.greatest;
}

-- ---- in the course of a poll

-- some frames were heard that gave no message, and its reader stands behind them; each of its looks found a frame
pub record HasHeardOn (m k : Reading) : Type 0 where
  pub frames : List Placed
  pub hears : Hears m frames [] k
  pub stands : position_of k.seat ≡ k.heard_to
  pub misses : misses_of k.seat ≡ misses_of m.seat

pub starts : (m k : Reading) → Passes m k → HasHeardOn m k
starts m k p =
    let assembler : k.assembler ≡ m.assembler = ap (λ (x : Reading). x.assembler) p.same in
    let to : k.heard_to ≡ m.heard_to = ap (λ (x : Reading). x.heard_to) p.same in
    record {
      frames = [];
      hears = record {
        reads = record { image = ap (λ (x : Reading). x.image) p.same; chain = to; known = tt; keeps = p.keeps; greatest = ap (λ (a : Assembling). a.greatest) assembler };
        heard = ap (λ (a : Assembling). record { begun = a.begun; given = [] }) (sym assembler);
      };
      stands = p.stands ∙ sym to;
      misses = p.misses;
    }

-- a reading whose reader has passed what was heard
passed_reads : (m n q : Reading) (frames : List Placed) → ReadsOn m frames n → Passes n q → ReadsOn m frames q
passed_reads m n q frames r p = record {
  image = ap (λ (x : Reading). x.image) p.same ∙ r.image;
  chain = subst (λ t. Chain m.heard_to t frames) (ap (λ (x : Reading). x.heard_to) (sym p.same)) r.chain;
  known = all_weaker (λ t. Among t (known_by n.seat)) (λ t. Among t (known_by q.seat)) p.keeps frames r.known;
  keeps = λ t a. p.keeps t (r.keeps t a);
  greatest = ap (λ (x : Reading). x.assembler.greatest) p.same ∙ r.greatest;
}

hears_one : (m k n : Reading) (frames : List Placed) (message : Option (List ℕ)) (h : Hears m frames [] k) (o : HearsOne k message n) → Hears m (frames ++ o.frame ∷ []) (option_to_list message) n
hears_one m k n frames message h o = record {
  reads = pushed m k n frames o.frame h.reads o.finds (ap (λ (a : Assembling). a.greatest) o.takes.begun);
  heard =
      heard_more m.assembler.begun k.assembler.begun frames o.frame h.heard
      ∙ (λ j. record { begun = ap (λ (a : Assembling). a.begun) (sym o.takes.begun) j; given = ap option_to_list (sym o.takes.message_is) j });
}

-- a frame that completes no message, and is passed
pub goes_on : (m k n q : Reading) → HasHeardOn m k → HearsOne k None n → Passes n q → HasHeardOn m q
goes_on m k n q h o p =
    let frames = h.frames ++ o.frame ∷ [] in
    let one : Hears m frames [] n = hears_one m k n h.frames None h.hears o in
    record {
      frames = frames;
      hears = record { reads = passed_reads m n q frames one.reads p; heard = one.heard ∙ ap (λ (x : Reading). record { begun = x.assembler.begun; given = [] }) (sym p.same) };
      stands = p.stands ∙ ap (λ (x : Reading). x.heard_to) (sym p.same);
      misses = p.misses ∙ o.finds.misses ∙ h.misses;
    }

pub gives : (m k n : Reading) (message : List ℕ) → HasHeardOn m k → HearsOne k (Some message) n → GivesMessage m message n
gives m k n message h o = record {
  earlier = h.frames;
  last = o.frame;
  nothing = ap (λ (a : Assembly). a.given) h.hears.heard;
  hears = hears_one m k n h.frames (Some message) h.hears o;
  stands = o.finds.stands;
  misses = o.finds.misses ∙ h.misses;
}

pub gives_none : (m k n : Reading) → HasHeardOn m k → FindsNone k n → GivesNothing m n
gives_none m k n h f =
    let assembler : n.assembler ≡ k.assembler = ap (λ (x : Reading). x.assembler) f.same in
    let to : n.heard_to ≡ k.heard_to = ap (λ (x : Reading). x.heard_to) f.same in
    record {
      frames = h.frames;
      hears = record {
        reads = record {
          image = ap (λ (x : Reading). x.image) f.same ∙ h.hears.reads.image;
          chain = subst (λ t. Chain m.heard_to t h.frames) (sym to) h.hears.reads.chain;
          known = all_weaker (λ t. Among t (known_by k.seat)) (λ t. Among t (known_by n.seat)) f.keeps h.frames h.hears.reads.known;
          keeps = λ t a. f.keeps t (h.hears.reads.keeps t a);
          greatest = ap (λ (a : Assembling). a.greatest) assembler ∙ h.hears.reads.greatest;
        };
        heard = h.hears.heard ∙ ap (λ (a : Assembling). record { begun = a.begun; given = [] }) (sym assembler);
      };
      none = λ s a at. f.none s a (at ∙ to);
      stands = f.stands ∙ sym to;
      misses = f.misses ∙ ap (λ (k : ℕ). k + 1) h.misses;
    }

pub refuses : (m k n q : Reading) (fault : AssemblyError) → HasHeardOn m k → RefusesOne k fault n → Passes n q → RefusesFrame m fault q
refuses m k n q fault h o p =
    let begun : (assembled m.assembler.begun h.frames).begun ≡ k.assembler.begun = ap (λ (a : Assembly). a.begun) h.hears.heard in
    let greatest : k.assembler.greatest ≡ m.assembler.greatest = h.hears.reads.greatest in
    record {
      earlier = h.frames;
      last = o.frame;
      reads = passed_reads m n q (h.frames ++ o.frame ∷ []) (pushed m k n h.frames o.frame h.hears.reads o.finds (ap (λ (a : Assembling). a.greatest) o.refuses.dropped)) p;
      nothing = ap (λ (a : Assembly). a.given) h.hears.heard;
      not_padding = o.refuses.not_padding;
      named = subst (λ (g : ℕ). (fault ≡ TooLong) ↔ IsTooLong g (assembled m.assembler.begun h.frames).begun o.frame.frame) greatest (subst (λ (b : Option (List ℕ)). (fault ≡ TooLong) ↔ IsTooLong k.assembler.greatest b o.frame.frame) (sym begun) o.refuses.named);
      asked = λ e. subst (λ (b : Option (List ℕ)). AsksMemory b o.frame.frame) (sym begun) (o.refuses.asked e);
      dropped = ap (λ (x : Reading). x.assembler.begun) p.same ∙ ap (λ (a : Assembling). a.begun) o.refuses.dropped;
      stands = p.stands ∙ ap (λ (x : Reading). x.heard_to) (sym p.same);
      misses = p.misses ∙ o.finds.misses ∙ h.misses;
    }

-- its reader goes on with each frame, and no position is above 2^61
pub further : (m k n q : Reading) (message : Option (List ℕ)) → HasHeardOn m k → HearsOne k message n → Passes n q → (q.seat ≡ n.seat) ⊎ (position_of q.seat ≤ 2 ^ 61) → 2 ^ 62 - position_of q.seat < 2 ^ 62 - position_of k.seat
further m k n q message h o p (inl same) =
    let stays : position_of q.seat ≡ position_of n.seat = ap position_of same in
    let a = h.stands in let b = o.finds.here in let c = o.finds.ends in let d = o.finds.stands in let e = p.stands in let l = o.finds.long in
    absurd (omega (arith, stays))
further m k n q message h o p (inr low) =
    let a = h.stands in let b = o.finds.here in let c = o.finds.ends in let d = o.finds.stands in let e = p.stands in let l = o.finds.long in
    omega arith

-- ---- one frame

-- what is shown of a reading whose reader has found a frame
abbrev pub found_by : ImageWords → ReaderSeat → Assembling → Reading
found_by image r a = record { image = image; seat = r; assembler = a; heard_to = read_end r }

found : (m : Reading) (r : ReaderSeat) (a : Assembling) (payload : List ℕ) (head : FrameHead) → position_of m.seat ≡ m.heard_to → (f : finding.FindsFrame m.seat head payload r) → FindsFrame m f.frame (found_by m.image r a)
found m r a payload head at f = record {
  image = refl;
  here = f.here ∙ at;
  known = f.known;
  keeps = f.stays.keeps;
  long = f.long;
  ends = f.ends;
  stands = f.stays.stands ∙ sym f.here;
  misses = f.misses;
}

-- ---- a frame is passed

pub passed : (image : ImageWords) (r q : ReaderSeat) (a : Assembling) → PassesOn r q → Passes (found_by image r a) (record { image = image; seat = q; assembler = a; heard_to = position_of q })
passed image r q a p = record {
  same = ap (λ (x : ℕ). record { image = image; seat = q; assembler = a; heard_to = x }) p.stands;
  stands = p.stands;
  keeps = p.keeps;
  misses = p.misses;
}

-- ---- whatever the assembler answers

pub taken_joins : {A : Type 0} (a b c : Assembling) (head : FrameHead) (payload : List ℕ) (step taken : Result (Option (Message A)) AssemblyError) → Joins a head payload step b → taken ≡ step → c ≡ b → Joins a head payload taken c
taken_joins {A} a b c head payload step taken joins e g = subst (λ (x : Result (Option (Message A)) AssemblyError × Assembling). Joins a head payload x.0 x.1) (λ j. (sym e j, sym g j)) joins

pub hears_if : {A : Type 0} (m : Reading) (r : ReaderSeat) (a : Assembling) (payload : List ℕ) (head : FrameHead) (step : Result (Option (Message A)) AssemblyError) → position_of m.seat ≡ m.heard_to → finding.FindsFrame m.seat head payload r → Joins m.assembler head payload step a
    → IfOk step (λ x. HearsOne m (option_map (λ y. y.bytes.items) x) (found_by m.image r a))
hears_if m r a payload head (Ok x) at f joins = let shows : Shows head payload f.frame = (f.head_is, f.payload_is) in record { frame = f.frame; finds = found m r a payload head at f; takes = record { begun = joins.state f.frame shows; message_is = joins.message f.frame shows } }
hears_if m r a payload head (Err e) at f joins = joins.state

pub refuses_if : {A : Type 0} (m : Reading) (r : ReaderSeat) (a : Assembling) (payload : List ℕ) (head : FrameHead) (step : Result (Option (Message A)) AssemblyError) → position_of m.seat ≡ m.heard_to → finding.FindsFrame m.seat head payload r → Joins m.assembler head payload step a
    → IfErr step (λ x. RefusesOne m x (found_by m.image r a))
refuses_if m r a payload head (Ok x) at f joins = joins.dropped
refuses_if m r a payload head (Err x) at f joins =
    let shows : Shows head payload f.frame = (f.head_is, f.payload_is) in
    record { frame = f.frame; finds = found m r a payload head at f; refuses = record { not_padding = joins.refused f.frame shows; named = joins.named f.frame shows; asked = joins.asked f.frame shows; dropped = joins.dropped } }

-- a reader that stands where its assembler has heard to, and finds none
pub missed : (image : ImageWords) (waits : Bool) (r q : ReaderSeat) (a : Assembling) → position_of r ≡ heard_to_of waits r → WaitsSo waits r → FindsNothing r [] q [] → FindsNone (record { image = image; seat = r; assembler = a; heard_to = heard_to_of waits r }) (record { image = image; seat = q; assembler = a; heard_to = heard_to_of waits q })
missed image true r q a at waits f = absurd (let l = waits refl in omega (arith, at, l))
missed image false r q a at waits f = record {
  none = f.none;
  keeps = f.stays.keeps;
  same = ap (λ (x : ℕ). record { image = image; seat = q; assembler = a; heard_to = x }) f.stays.stands;
  stands = f.stays.stands;
  misses = f.misses;
}

-- ---- one after the other

pub reads_further : ReadsFurther
reads_further m n o frames more a b = record {
  image = b.image ∙ a.image;
  chain = Chain-append m.heard_to n.heard_to o.heard_to frames more a.chain b.chain;
  known = all_append (λ t. Among t (known_by o.seat)) frames more (all_weaker (λ t. Among t (known_by n.seat)) (λ t. Among t (known_by o.seat)) b.keeps frames a.known) b.known;
  keeps = λ t x. b.keeps t (a.keeps t x);
  greatest = b.greatest ∙ a.greatest;
}

pub hears_further : HearsFurther
hears_further m n o frames more given others a b = record {
  reads = reads_further m n o frames more a.reads b.reads;
  heard =
      heard_on (record { begun = m.assembler.begun; given = [] }) frames more
      ∙ ap (λ (z : Assembly). after_all z (map (λ (x : Placed). x.frame) more)) a.heard
      ∙ given_behind n.assembler.begun given more
      ∙ ap (λ (z : Assembly). record { begun = z.begun; given = given ++ z.given }) b.heard;
}

pub passes_read : PassesRead
passes_read m n o frames given h p = record { reads = passed_reads m n o frames h.reads p; heard = h.heard ∙ ap (λ (x : Reading). record { begun = x.assembler.begun; given = given }) (sym p.same) }
