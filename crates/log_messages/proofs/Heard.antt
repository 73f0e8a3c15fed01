-- Frames that are heard in the course of a call.
use Rattle.std.proofs.Common.{◌≡◌, ℕ, ◌-◌, ◌^◌, ◌<◌, suc, List, [], ◌∷◌, ◌++◌, Option, None, Some, refl, sym, ap, ◌∙◌, subst, arith, append-nil, append_assoc}
use Rattle.std.specs.Option.{option_to_list}
use Rattle.theory.specs.Assembly.{Assembly}
use Rattle.theory.specs.Placed.{Placed}
use Rattle.theory.proofs.Follow.{Chain-append}
use Rattle.assembler.specs.Assembling.{Assembling}
use Rattle.assembler.specs.Hearing.{RefusesFrame, assembled}
use Rattle.assembler.specs.declared.fault.AssemblyError.{AssemblyError}
use Rattle.shared_log.specs.Readers.{misses_of}
use Rattle.log_messages.specs.Reading.{FindsNone, GivesMessage, GivesMore, GivesNothing, Hears, HearsOne, Reading, ReadsOn, Refuses, RefusesOne, given_of, read_by}
use Rattle.assembler.proofs.Hearing.{heard_more}

reads_further : (m k n : Reading) (frames more : List Placed) → ReadsOn m frames k → ReadsOn k more n → ReadsOn m (frames ++ more) n
reads_further m k n frames more a b = record {
  read = b.read ∙ ap (λ (fs : List Placed). fs ++ more) a.read ∙ append_assoc (read_by m.reader) frames more;
  chain = Chain-append m.reader.position k.reader.position n.reader.position frames more a.chain b.chain;
  number = b.number ∙ a.number;
  begun_at = b.begun_at ∙ a.begun_at;
  greatest = b.greatest ∙ a.greatest;
}

more_further : (m k n : Reading) (given : List (List ℕ)) → k.has_refused ≡ m.has_refused → GivesMore m [] k → GivesMore k given n → GivesMore m given n
more_further m k n given same a b none = b (same ∙ none) ∙ ap (λ (xs : List (List ℕ)). xs ++ given) (a none ∙ append-nil (given_of m))

-- some frames were heard that gave no message, and each look found a frame
pub record HasHeardOn (m k : Reading) : Type 0 where
  pub frames : List Placed
  pub hears : Hears m frames [] k
  pub more : GivesMore m [] k
  pub looked : misses_of k.reader ≡ misses_of m.reader

pub starts : (m : Reading) → HasHeardOn m m
starts m = record {
  frames = [];
  hears = record { reads = record { read = sym (append-nil (read_by m.reader)); chain = refl; number = refl; begun_at = refl; greatest = refl }; heard = refl; refused = refl };
  more = λ none. sym (append-nil (given_of m));
  looked = refl;
}

hears_one : (m k n : Reading) (message : Option (List ℕ)) (h : HasHeardOn m k) (o : HearsOne k message n) → Hears m (h.frames ++ o.frame ∷ []) (option_to_list message) n
hears_one m k n message h o = record {
  reads = reads_further m k n h.frames (o.frame ∷ []) h.hears.reads o.one.reads;
  heard =
      heard_more m.assembler.begun k.assembler.begun h.frames o.frame h.hears.heard
      ∙ (λ j. record { begun = ap (λ (a : Assembling). a.begun) (sym o.takes.begun) j; given = ap option_to_list (sym o.takes.message_is) j });
  refused = o.refused ∙ h.hears.refused;
}

pub goes_on : (m k n : Reading) → HasHeardOn m k → HearsOne k None n → HasHeardOn m n
goes_on m k n h o = record {
  frames = h.frames ++ o.frame ∷ [];
  hears = hears_one m k n None h o;
  more = more_further m k n [] h.hears.refused h.more o.more;
  looked = o.one.looked ∙ h.looked;
}

pub further : (m k n : Reading) → HearsOne k None n → 2 ^ 64 - n.reader.position < 2 ^ 64 - k.reader.position
further m k n o = let forward = o.one.forward in let low = o.one.low in omega arith

pub gives : (m k n : Reading) (message : List ℕ) → HasHeardOn m k → HearsOne k (Some message) n → GivesMessage m message n
gives m k n message h o = record {
  earlier = h.frames;
  last = o.frame;
  nothing = ap (λ (a : Assembly). a.given) h.hears.heard;
  hears = hears_one m k n (Some message) h o;
  more = more_further m k n (message ∷ []) h.hears.refused h.more o.more;
  looked = o.one.looked ∙ h.looked;
}

pub gives_none : (m k n : Reading) → HasHeardOn m k → FindsNone k n → GivesNothing m n
gives_none m k n h f =
    let assembler : n.assembler ≡ k.assembler = ap (λ (x : Reading). x.assembler) f.same in
    let refused : n.has_refused ≡ k.has_refused = ap (λ (x : Reading). x.has_refused) f.same in
    let read : read_by n.reader ≡ read_by k.reader = f.reads.read ∙ append-nil (read_by k.reader) in
    record {
      frames = h.frames;
      hears = record {
        reads = subst (λ (fs : List Placed). ReadsOn m fs n) (append-nil h.frames) (reads_further m k n h.frames [] h.hears.reads f.reads);
        heard = h.hears.heard ∙ ap (λ (a : Assembling). record { begun = a.begun; given = [] }) (sym assembler);
        refused = refused ∙ h.hears.refused;
      };
      more = λ none. ap (λ (fs : List Placed). (assembled None fs).given) read ∙ h.more none;
      none = f.none;
      looked = f.looked ∙ ap suc h.looked;
    }

pub refuses : (m k n : Reading) (fault : AssemblyError) → HasHeardOn m k → RefusesOne k fault n → Refuses m fault n
refuses m k n fault h o =
    let begun : (assembled m.assembler.begun h.frames).begun ≡ k.assembler.begun = ap (λ (a : Assembly). a.begun) h.hears.heard in
    let same : k.assembler ≡ record m.assembler { begun = (assembled m.assembler.begun h.frames).begun } = (λ j. record { greatest = h.hears.reads.greatest j; begun = sym begun j }) in
    record {
      earlier = h.frames;
      last = o.frame;
      nothing = ap (λ (a : Assembly). a.given) h.hears.heard;
      reads = reads_further m k n h.frames (o.frame ∷ []) h.hears.reads o.one.reads;
      refuses = subst (λ (a : Assembling). RefusesFrame a o.frame.frame fault n.assembler) same o.refuses;
      looked = o.one.looked ∙ h.looked;
    }
