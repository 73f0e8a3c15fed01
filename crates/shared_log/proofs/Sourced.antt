-- A reader meets what is asked of a source of frames.
use Rattle.std.proofs.Common.{◌≡◌, ℕ, ◌+◌, ◌*◌, ◌<◌, ◌≤◌, List, [], ◌∷◌, map, length, suc, inl, inr, sym, refl, ap, ◌∙◌, subst, ⊎_elim, arith}
use Rattle.std.specs.Prelude.{IfNone, IfSome, None, Option, Some}
use Rattle.std.proofs.lemmas.List.{map-append}
use Rattle.theory.specs.Position.{IsGeometry, aligned}
use Rattle.theory.specs.Bytes.{Identity}
use Rattle.theory.specs.Placed.{Among, Placed, frame_length}
use Rattle.theory.specs.Placed as frames
use Rattle.theory.proofs.Lists.{among_cases, among_left, among_right}
use Rattle.position.specs.declared.head.FrameHead.{FrameHead}
use Rattle.frame_source.specs.Sources as sources
use Rattle.frame_source.specs.Sources.{FindsNone, Passes, ReadsAt, ReadsNext}
use Rattle.publication.specs.declared.pass.FrameWords.{FrameWords}
use Rattle.publication.specs.Contents.{frame_in}
use Rattle.log_rule.specs.Readings.{IsFrameAt, end_of}
use Rattle.log_rule.proofs.InTerm.{done_long, words_cover}
use Rattle.shared_log.specs.Steps.Handles.{LogValue}
use Rattle.shared_log.specs.Readers.{Advances, IsReaderOf, MayReread, ReaderValue, ReadsFrame, ReadsNone, Rereads, known_of, misses_at, misses_of}
use Rattle.shared_log.specs.Sourced.{Grows, source_of, placed}
use Rattle.shared_log.proofs.Finding.{content_is}
use Rattle.shared_log.proofs.Looking.{known_missing, known_on}

-- ---- lists

pub record Mapped {X Y : Type 0} (h : X → Y) (xs : List X) (y : Y) : Type 0 where
  pub one : X
  pub among : Among one xs
  pub is : y ≡ h one

mapped : {X Y : Type 0} (h : X → Y) (xs : List X) (y : Y) → Among y (map h xs) → Mapped h xs y
mapped h [] y a = absurd a
mapped h (x ∷ xs) y (inl e) = record { one = x; among = inl refl; is = e }
mapped h (x ∷ xs) y (inr a) = let r = mapped h xs y a in record { one = r.one; among = inr r.among; is = r.is }

among_mapped : {X Y : Type 0} (h : X → Y) (xs : List X) (x : X) → Among x xs → Among (h x) (map h xs)
among_mapped h [] x a = absurd a
among_mapped h (y ∷ ys) x (inl e) = inl (ap h e)
among_mapped h (y ∷ ys) x (inr a) = inr (among_mapped h ys x a)

at_of : (p : ℕ) (f : FrameWords) → f.start ≡ p → placed f ≡ record { at = p; frame = frame_in f }
at_of p f at = ap (λ (n : ℕ). record { at = n; frame = frame_in f }) at

-- ---- the reads

pub found : (l : LogValue) (r q : ReaderValue) (head : FrameHead) (before after : List ℕ) → ReadsFrame l r head before q after → ReadsNext Grows (source_of l r) head before (source_of l q) after
found l r q head before after h =
    let f = h.finds in let x : FrameWords = f.frame in let at : x.start ≡ r.position = f.here.at in record {
      read = record {
        legal = f.legal;
        frame = frame_in x;
        among = subst (λ (y : Placed). Among y (map placed (known_of q))) (at_of r.position x at) (among_mapped placed (known_of q) x (subst (Among x) (sym f.known) (among_right x (known_of r) (x ∷ []) (inl refl))));
        only = λ y among at_y. (let m = mapped placed (known_of q) y among in let start : m.one.start ≡ r.position = sym (ap (λ (z : Placed). z.at) m.is) ∙ at_y in
            m.is ∙ ap placed (⊎_elim (λ (a : Among m.one (known_of r)). f.only m.one (inl a) start) (λ (a : Among m.one (x ∷ [])). one_of m.one x a) (among_cases m.one (known_of r) (x ∷ []) (subst (Among m.one) f.known m.among))) ∙ at_of r.position x at);
        shown = f.shown;
        copied = h.copied;
      };
      grows = λ y among. subst (λ (fs : List FrameWords). Among y (map placed fs)) (sym f.known) (subst (Among y) (sym (map-append placed (known_of r) (x ∷ []))) (among_left y (map placed (known_of r)) (placed x ∷ []) among));
      stays = ap (λ (p : ℕ). record (source_of l q) { position = p }) (ap (λ (z : ReaderValue). z.position) f.stays.same);
    }
  where
    one_of : (y x : FrameWords) → Among y (x ∷ []) → y ≡ x
    one_of y x (inl e) = e
    one_of y x (inr a) = absurd a

pub has_read : (l : LogValue) (r q : ReaderValue) (head : FrameHead) (before after : List ℕ) → ReadsFrame l r head before q after → q.position < q.read_to
has_read l r q head before after h =
    let f = h.finds in let long = done_long l.identity f.frame f.here.done in let here = ap (λ (z : ReaderValue). z.position) f.stays.same in behind q.position r.position f.frame.start (length f.frame.words) q.read_to here f.here.at f.read long
  where
    behind : (q p s n e : ℕ) → q ≡ p → s ≡ p → e ≡ s + 8 * n → 0 < n → q < e
    behind q p s n e a c d pos = omega arith

pub none : (l : LogValue) (r q : ReaderValue) (before after : List ℕ) → ReadsNone r before q after → FindsNone (source_of l r) before (source_of l q) after
none l r q before after h =
    let rests = h.finds.rests in record {
      none = λ y among at. (let m = mapped placed (known_of r) y among in h.finds.none m.one (inl m.among) (sym (ap (λ (z : Placed). z.at) m.is) ∙ at));
      same = (λ j. record { identity = l.identity; position = ap (λ (z : ReaderValue). z.position) rests.same j; frames = map placed (known_missing r q rests j) });
      untouched = h.untouched;
    }

-- where a frame of the stream ends
ends_at : (i : Identity) (p : ℕ) (f : FrameWords) → IsGeometry i.geometry → IsFrameAt i p f → end_of f ≡ frames.end_of (placed f)
ends_at i p f g is = ap (λ (n : ℕ). f.start + n) (words_cover i f is.done ∙ ap (λ (x : frames.Frame). aligned (frame_length x)) (sym (content_is i f g is.done)))

pub passes : (l : LogValue) (r q : ReaderValue) (end : ℕ) → IsGeometry l.identity.geometry → IsReaderOf l r → Advances r q → end ≡ q.position → Passes (source_of l r) end (source_of l q)
passes l r q end g of h e =
    let moved : q.position ≡ r.read_to = ap (λ (z : ReaderValue). z.position) h.same in record {
      behind = λ y among at. (let m = mapped placed (known_of r) y among in let start : m.one.start ≡ r.position = sym (ap (λ (z : Placed). z.at) m.is) ∙ at in
          e ∙ moved ∙ h.ends m.one (inl m.among) start ∙ ends_at l.identity r.position m.one g (subst (λ (i : Identity). IsFrameAt i r.position m.one) of.of.identity (h.here m.one (inl m.among) start)) ∙ ap frames.end_of (sym m.is));
      moved = (λ j. record { identity = l.identity; position = sym e j; frames = map placed (h.known j) });
    }

pub may_reread : (l : LogValue) (r : ReaderValue) (position : ℕ) → sources.MayReread (source_of l r) position → MayReread l r position
may_reread l r position h =
    let m = mapped placed (known_of r) (record { at = position; frame = h.frame }) h.among in let le = h.passed in record {
      frame = m.one;
      has = inl m.among;
      here = sym (ap (λ (z : Placed). z.at) m.is);
      below = low position (aligned (frame_length h.frame)) r.position le;
      near = h.near;
    }
  where
    low : (p n q : ℕ) → p + n ≤ q → p ≤ q
    low p n q le = omega arith

pub again : (l : LogValue) (r q : ReaderValue) (position : ℕ) (head : FrameHead) (before after : List ℕ) → sources.MayReread (source_of l r) position → Rereads l r position head before q after → sources.Rereads (source_of l r) position head before (source_of l q) after
again l r q position head before after may h =
    let given = mapped placed (known_of r) (record { at = position; frame = may.frame }) may.among in let x : FrameWords = h.frame in
    let same : given.one ≡ x = h.only given.one (inl given.among) (sym (ap (λ (z : Placed). z.at) given.is)) in record {
      read = record {
        legal = h.legal;
        frame = frame_in x;
        among = subst (λ (y : Placed). Among y (map placed (known_of r))) (ap placed same ∙ at_of position x h.at) (among_mapped placed (known_of r) given.one given.among);
        only = λ y among at. (let m = mapped placed (known_of r) y among in m.is ∙ ap placed (h.only m.one (inl m.among) (sym (ap (λ (z : Placed). z.at) m.is) ∙ at)) ∙ at_of position x h.at);
        shown = h.shown;
        copied = h.copied;
      };
      same = (λ j. record { identity = l.identity; position = ap (λ (z : ReaderValue). z.position) h.rests.same j; frames = map placed (known_on r q h.rests j) });
    }

-- ---- the looks that found no frame

found_looked : (l : LogValue) (r q : ReaderValue) (head : FrameHead) (before after : List ℕ) → ReadsFrame l r head before q after → misses_of r ≤ misses_of q
found_looked l r q head before after h = let e = h.finds.looked in same (misses_of r) (misses_of q) e
  where
    same : (a c : ℕ) → c ≡ a → a ≤ c
    same a c e = omega arith

none_looked : (r q : ReaderValue) (before after : List ℕ) → ReadsNone r before q after → misses_of r ≤ misses_of q
none_looked r q before after h = let e = h.finds.looked in more (misses_of r) (misses_of q) e
  where
    more : (a c : ℕ) → c ≡ suc a → a ≤ c
    more a c e = omega arith

pub next_looked : (l : LogValue) (r q : ReaderValue) (before after : List ℕ) (o : Option FrameHead) → IfSome o (λ head. ReadsFrame l r head before q after) → IfNone o (ReadsNone r before q after) → misses_of r ≤ misses_of q
next_looked l r q before after None some none = none_looked r q before after none
next_looked l r q before after (Some head) some none = found_looked l r q head before after some

pub advance_looked : (r q : ReaderValue) → Advances r q → misses_of r ≤ misses_of q
advance_looked r q h = let e = h.looked in same (misses_of r) (misses_of q) e
  where
    same : (a c : ℕ) → c ≡ a → a ≤ c
    same a c e = omega arith

pub reread_looked : (l : LogValue) (r q : ReaderValue) (position : ℕ) (head : FrameHead) (before after : List ℕ) → Rereads l r position head before q after → misses_of r ≤ misses_of q
reread_looked l r q position head before after h = same (misses_of r) (misses_of q) (λ j. misses_at (h.rests.pass j).reading ((ap (λ (x : ReaderValue). x.place) h.rests.same) j))
  where
    same : (a c : ℕ) → c ≡ a → a ≤ c
    same a c e = omega arith
