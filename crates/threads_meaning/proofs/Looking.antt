-- Looks: what a pass loads makes it no other publisher, consumer or keeper.
use Rattle.std.proofs.Common.{◌≡◌, ◌≢◌, ◌⊎◌, inl, inr, ⊎_elim, ℕ, zero, suc, ◌+◌, ◌*◌, ◌%◌, ◌<◌, List, [], ◌∷◌, map, set, sym, refl, ap, ◌∙◌, subst, lt_of_not-le, get_or-set_other, get_or-set_same, arith}
use mathlib.Core.Option.{some, some-injective, some-ne-none}
use mathlib.Core.Logic.{dite}
use native.Mathlib.Decide.{dec_le, ℕ_discrete}
use lib.IntN.{ℤ_discrete}
use lib.ListN.{get_elem?}
use Rattle.std.specs.Prelude.{slice_index, Option}
use Rattle.std.proofs.lemmas.List.{set-get_or}
use Rattle.atomic_table.specs.Table.{State}
use Rattle.theory.specs.Consumer.{Consumer}
use Rattle.theory.specs.Entry.{committed}
use Rattle.theory.specs.Placed.{Among, IsReached, Placed}
use Rattle.theory.specs.Position.{id_of}
use Rattle.theory.specs.Refusal.{limit_in}
use Rattle.theory.specs.Words.{id_in, offset_in}
use Rattle.publication.specs.declared.pass.Pass.{Pass}
use Rattle.publication.specs.declared.pass.Reading.{Reading}
use Rattle.publication.specs.declared.step.WordStep.TheVariants as steps
use Rattle.publication.specs.Steps.{Arms, Counts, ExchangesCount, Nexts, Rotates, Sees, geometry_of, noted, tail_exchange, tail_step, term_of, with_begun, with_count, with_full, with_limit}
use Rattle.log_rule.specs.declared.claims.view.View.{View}
use Rattle.log_rule.specs.declared.rule.Key.{Key}
use Rattle.log_rule.specs.Claims.Packs.{consumer_place, limit_place}
use Rattle.log_rule.specs.Claims.Plays.{pass_in}
use Rattle.log_rule.specs.Keepings.{SeesConsumer}
use Rattle.log_rule.specs.Kept.{IsThere}
use Rattle.log_rule.specs.Meetings.{was_shown}
use Rattle.log_rule.specs.Readings.{IsConsumer, Looks, knows_more, missed, with_consumer}
use Rattle.log_rule.specs.Table.{LogRuled}
use Rattle.model.specs.Log.{Log}
use Rattle.threads_meaning.specs.Modelled.{AreReaders, IsModelOf, KeepsReaders}
use Rattle.threads_meaning.specs.Steps.{IsOpen, LooksAt, Turns, load_consumer, load_count, load_here, load_limit, load_next, load_own, load_shown, load_tail, load_word}
use Rattle.threads_meaning.proofs.Resting.{Quiet, SameWords, quiet}

-- ---- lists

pub among_set : {A : Type 0} (xs : List A) (i : ℕ) (x y : A) → Among y (set xs i x) → (y ≡ x) ⊎ Among y xs
among_set [] i x y a = absurd a
among_set {A} (z ∷ xs) zero x y a = ⊎_elim (λ (e : y ≡ x). inl e) (λ (b : Among y xs). inr (inr b)) a
among_set {A} (z ∷ xs) (suc i) x y a = ⊎_elim (λ (e : y ≡ z). inr (inl e)) (λ (b : Among y (set xs i x)). ⊎_elim (λ (e : y ≡ x). inl e) (λ (c : Among y xs). inr (inr c)) (among_set xs i x y b)) a

pub among_here : {A : Type 0} (xs : List A) (i : ℕ) (x : A) → get_elem? xs i ≡ some x → Among x xs
among_here [] i x e = absurd (some-ne-none x (sym e))
among_here (y ∷ ys) zero x e = inl (sym (some-injective y x e))
among_here (y ∷ ys) (suc i) x e = inr (among_here ys i x e)

-- ---- words that are as they were

-- the control words are those of a list
abbrev pub Controls : List ℕ → List ℕ → Type 0
Controls after words = (j : ℕ) → j < 208 → slice_index after j ≡ slice_index words j

pub load_same : (words after : List ℕ) (i : ℕ) → Controls after (set words i (slice_index words i)) → SameWords words after
load_same words after i e = let same = set-get_or words i 0 in record { limit = e limit_place (omega arith) ∙ ap (λ (l : List ℕ). slice_index l limit_place) same; consumers = λ j lt. e (consumer_place j) (omega arith) ∙ ap (λ (l : List ℕ). slice_index l (consumer_place j)) same }

pub put_same : (words after : List ℕ) (i x : ℕ) → Controls after (set words i x) → i ≢ 0 → ((j : ℕ) → j < 8 → i ≢ j * 16 + 80) → SameWords words after
put_same words after i x e ne far = record {
  limit = e limit_place (omega arith) ∙ get_or-set_other words i 0 x 0 (λ y. ne (sym y));
  consumers = λ j lt. e (consumer_place j) (omega arith) ∙ get_or-set_other words i (j * 16 + 80) x 0 (λ y. far j lt (sym y));
}

-- ---- one pass

module _ (start cleaned : ℕ) (frames : List Placed) (readers : List (Option Consumer)) where
  abbrev Rests : Pass → Pass → Type 0
  Rests v w = Quiet start cleaned frames readers v w

  pub rests_as : (v w x : Pass) → w ≡ x → x.right.claims ≡ v.right.claims → x.work.frames ≡ v.work.frames → x.right.armed ≡ v.right.armed → x.number ≡ v.number → x.reading ≡ v.reading → x.keeping ≡ v.keeping → Rests v w
  rests_as v w x e claims frames_same armed number reading keeping = record {
    claims = ap (λ (y : Pass). y.right.claims) e ∙ claims;
    frames_same = ap (λ (y : Pass). y.work.frames) e ∙ frames_same;
    armed = ap (λ (y : Pass). y.right.armed) e ∙ armed;
    number = ap (λ (y : Pass). y.number) e ∙ number;
    reads = λ r a. (r, subst (λ (rs : List Reading). Among r rs) (ap (λ (y : Pass). y.reading) e ∙ reading) a, refl);
    keeps = λ one. (let same = ap (λ (y : Pass). y.keeping) e ∙ keeping in (ap (λ k. k.right) (sym same) ∙ one, λ k. subst (KeepsReaders start cleaned frames readers) (sym same) k));
  }

  pub sees_rests : (v : Pass) (n : ℕ) (w : Pass) → Sees v n w → Rests v w
  sees_rests v n w e = rests_as v w (noted (steps.Limit n) (with_limit v n)) e refl refl refl refl refl refl

  pub counts_rests : (v : Pass) (n : ℕ) (w : Pass) → Counts v n w → Rests v w
  counts_rests v n w e = rests_as v w (noted (steps.Count n) (with_count v n)) e.after refl refl refl refl refl refl

  pub arms_rests : (v : Pass) (n : ℕ) (w : Pass) → Arms v n w → (IsOpen v n → ⊥) → Rests v w
  arms_rests v n w a not = dite (ℤ_discrete (id_in n) (id_of (geometry_of v) v.seen.count))
      (λ named. dite (dec_le (term_of v) (offset_in n))
      (λ full. rests_as v w (noted (tail_step v n) (with_full v v.seen.count)) (a.used_up named full) refl refl refl refl refl refl)
      (λ short. dite (dec_le (limit_in v.right.limit) (v.seen.count * term_of v + offset_in n))
      (λ past. rests_as v w (noted (tail_step v n) v) (a.limited named (lt_of_not-le short) past) refl refl refl refl refl refl)
      (λ below. absurd (not record { named = named; short = lt_of_not-le short; below = lt_of_not-le below }))))
      (λ other. rests_as v w (noted (tail_step v n) v) (a.other other) refl refl refl refl refl refl)

  pub nexts_rests : (v : Pass) (k n : ℕ) (w : Pass) → Nexts v k n w → Rests v w
  nexts_rests v k n w a = dite (ℤ_discrete (id_in n) (id_of (geometry_of v) (k + 1)))
      (λ named. rests_as v w (noted (steps.NextTail ((k + 1) % 3) n) (with_begun v (k + 1))) (a.begun named) refl refl refl refl refl refl)
      (λ other. rests_as v w (noted (steps.NextTail ((k + 1) % 3) n) v) (a.other other) refl refl refl refl refl refl)

  pub rotates_rests : (v : Pass) (k from n : ℕ) (w : Pass) → Rotates v k from n w → Rests v w
  rotates_rests v k from n w a = dite (ℤ_discrete (id_in n) (id_of (geometry_of v) (k + 1)))
      (λ named. rests_as v w (noted (tail_exchange v k from n) (with_begun v (k + 1))) (a.begun (inr named)) refl refl refl refl refl refl)
      (λ other. dite (ℕ_discrete n from)
      (λ same. rests_as v w (noted (tail_exchange v k from n) (with_begun v (k + 1))) (a.begun (inl same)) refl refl refl refl refl refl)
      (λ differs. rests_as v w (noted (tail_exchange v k from n) v) (a.other differs other) refl refl refl refl refl refl))

  pub advances_rests : (v : Pass) (k n : ℕ) (w : Pass) → ExchangesCount v k n w → Rests v w
  advances_rests v k n w a = rests_as v w (noted (steps.CountExchange k n) v) a.after refl refl refl refl refl refl

  -- one of its consumers knows more, or stands elsewhere
  pub consumer_reads : (v : Pass) (place : ℕ) (r x : Reading) (w : Pass) → IsConsumer v place r → x.number ≡ r.number → w ≡ with_consumer v place x → (y : Reading) → Among y w.reading → (z : Reading) × Among z v.reading × (z.number ≡ y.number)
  consumer_reads v place r x w is number e y among = ⊎_elim
      (λ (s : y ≡ x). (r, among_here v.reading place r is, sym number ∙ ap (λ (z : Reading). z.number) (sym s)))
      (λ (a : Among y v.reading). (y, a, refl))
      (among_set v.reading place x y (subst (λ (rs : List Reading). Among y rs) (ap (λ (z : Pass). z.reading) e) among))

  pub consumer_rests : (v : Pass) (place : ℕ) (r x : Reading) (w : Pass) → IsConsumer v place r → x.number ≡ r.number → w ≡ with_consumer v place x → Rests v w
  consumer_rests v place r x w is number e = record {
    claims = ap (λ (y : Pass). y.right.claims) e;
    frames_same = ap (λ (y : Pass). y.work.frames) e;
    armed = ap (λ (y : Pass). y.right.armed) e;
    number = ap (λ (y : Pass). y.number) e;
    reads = consumer_reads v place r x w is number e;
    keeps = λ one. (let same = ap (λ (y : Pass). y.keeping) e in (ap (λ k. k.right) (sym same) ∙ one, λ k. subst (KeepsReaders start cleaned frames readers) (sym same) k));
  }

  pub looks_rests : (v : Pass) (place n : ℕ) (r : Reading) (w : Pass) → IsConsumer v place r → Looks v place n w → Rests v w
  looks_rests v place n r w is told = dite (dec_le 1 n)
      (λ pos. let f = (told r is).found pos in consumer_rests v place r (knows_more r f.frame) w is refl f.after)
      (λ no. consumer_rests v place r (missed r) w is refl ((told r is).none (zero_is n (lt_of_not-le no))).0)
    where
      zero_is : (n : ℕ) → n < 1 → n ≡ 0
      zero_is n lt = omega arith

-- the keeper sees a consumer where it stands
pub sweep_rests : (words : List ℕ) (ps : List Pass) (start cleaned : ℕ) (frames : List Placed) (readers : List (Option Consumer)) → AreReaders words ps start cleaned frames readers → (v : Pass) (j : ℕ) (w : Pass) → IsThere v.keeping.there j → v.keeping.right ≡ 1 → SeesConsumer v j (slice_index words (consumer_place j)) w
    → Quiet start cleaned frames readers v w
sweep_rests words ps start cleaned frames readers a v j w there right told =
    let n : ℕ = slice_index words (consumer_place j) in let e = told.after in let same = ap (λ (y : Pass). y.keeping) e in
    record {
      claims = ap (λ (y : Pass). y.right.claims) e;
      frames_same = ap (λ (y : Pass). y.work.frames) e;
      armed = ap (λ (y : Pass). y.right.armed) e;
      number = ap (λ (y : Pass). y.number) e;
      reads = λ r among. (r, subst (λ (rs : List Reading). Among r rs) (ap (λ (y : Pass). y.reading) e) among, refl);
      keeps = λ one. (
        right,
        λ k. subst (KeepsReaders start cleaned frames readers) (sym same) record {
          cleaned_to = k.cleaned_to;
          taken = k.taken;
          free = k.free;
          seen = λ number low is. dite (ℕ_discrete number j)
              (λ here. let c = k.taken j told.inside there in let st = a.standing j c.0 c.1 in
              subst (IsReached frames start) (st.at ∙ sym (get_or-set_same v.keeping.positions j n 0 (subst (λ (x : ℕ). j < x) (sym told.all) told.inside)) ∙ ap (λ (x : ℕ). slice_index (set v.keeping.positions j n) x) (sym here)) st.reached)
              (λ other. subst (IsReached frames start) (sym (get_or-set_other v.keeping.positions j number n 0 other)) (k.seen number low is));
        },
      );
    }

-- ---- the step

module _ (key : Key) (gone : List ℕ) (s t : State (Unit {0}) View) (l : Log) (q : LogRuled key t) (k : IsModelOf key gone s l) where
  -- a load, by which its pass is quiet
  loads : (id : ℕ) (v : Pass) (i : ℕ) (tells : ℕ → Pass → Type 0) (y : Turns s id v i (λ n. n) tells t) → Quiet l.start l.cleaned (committed l.entries) l.readers v y.after → IsModelOf key gone t l
  loads id v i tells y rests = quiet key gone s t l q k (load_same s.words t.words i y.words) id v y.after y.at y.passes rests

  pub looks : LooksAt s t → IsModelOf key gone t l
  looks (load_limit id v y) = loads id v _ _ y (sees_rests l.start l.cleaned (committed l.entries) l.readers v _ y.after y.told)
  looks (load_count id v y) = loads id v _ _ y (counts_rests l.start l.cleaned (committed l.entries) l.readers v _ y.after y.told)
  looks (load_tail id v y) = loads id v _ _ y (arms_rests l.start l.cleaned (committed l.entries) l.readers v _ y.after y.told.0 y.told.1)
  looks (load_next id v n y) = loads id v _ _ y (nexts_rests l.start l.cleaned (committed l.entries) l.readers v n _ y.after y.told)
  looks (load_here id v place r i is y) = loads id v _ _ y (looks_rests l.start l.cleaned (committed l.entries) l.readers v place y.told.0 r y.after is y.told.1)
  looks (load_word id v place p n i y) = loads id v _ _ y (rests_as l.start l.cleaned (committed l.entries) l.readers v y.after v y.told.1.after refl refl refl refl refl refl)
  looks (load_consumer id v number there right y) = loads id v _ _ y (sweep_rests s.words (map pass_in s.views) l.start l.cleaned (committed l.entries) l.readers k.readers v number y.after there right y.told)
  looks (load_own id v i y) = loads id v _ _ y (rests_as l.start l.cleaned (committed l.entries) l.readers v y.after v y.told refl refl refl refl refl refl)
  looks (load_shown id v i y) = loads id v _ _ y (rests_as l.start l.cleaned (committed l.entries) l.readers v y.after (was_shown y.told.0 v) y.told.1 refl refl refl refl refl refl)
