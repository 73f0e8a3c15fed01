-- Consumers: one goes past a frame, one joins, one leaves.
use Rattle.std.proofs.Common.{◌≡◌, ◌≢◌, ◌⊎◌, inl, inr, ⊎_elim, ℕ, zero, suc, ◌-◌, ◌<◌, ◌≤◌, Bool, cond, List, [], ◌∷◌, ◌++◌, drop, eq-eqb, length, length-set, map, max, set, sym, refl, ap, ◌∙◌, subst, take, get_or-set_other, get_or-set_same, arith}
use mathlib.Core.Option.{some}
use mathlib.Core.Logic.{dite}
use native.Mathlib.Decide.{ℕ_discrete}
use lib.ListN.{get_elem?}
use Rattle.std.specs.Prelude.{slice_index, slice_get, slice_set, Option, None, Some}
use Rattle.std.proofs.lemmas.Option.{none-some, slice_get_within}
use Rattle.atomic_table.specs.Table.{State}
use Rattle.atomic_table.proofs.Lists.{at_set}
use Rattle.theory.specs.Bytes.{Identity}
use Rattle.theory.specs.Consumer.{Consumer, consumer_at, moved}
use Rattle.theory.specs.Entry.{committed}
use Rattle.theory.specs.Placed.{Among, IsReached, Placed, end_of}
use Rattle.theory.specs.Refusal.{is_closed, is_connected, limit_in}
use Rattle.theory.proofs.Follow.{passed_along}
use Rattle.theory.proofs.Lists.{all_at, among_cases}
use Rattle.position.specs.Words.{IsLegal}
use Rattle.publication.specs.declared.pass.FrameWords.{FrameWords}
use Rattle.publication.specs.declared.pass.Keeping.{Keeping}
use Rattle.publication.specs.declared.pass.Pass.{Pass}
use Rattle.publication.specs.declared.pass.Reading.{Reading}
use Rattle.publication.specs.Steps.{term_of}
use Rattle.log_rule.specs.declared.claims.view.View.{View}
use Rattle.log_rule.specs.declared.rule.Key.{Key}
use Rattle.log_rule.specs.Claims.Events.{committed_weight}
use Rattle.log_rule.specs.Claims.Packs.{consumer_place, limit_place}
use Rattle.log_rule.specs.Claims.Plays.{pass_in}
use Rattle.log_rule.specs.Claims.Rule.{entry_of, weight}
use Rattle.log_rule.specs.Claims.Sums.{total}
use Rattle.log_rule.specs.Edges.{IsAmong}
use Rattle.log_rule.specs.Keepings.{joined, left, newly}
use Rattle.log_rule.specs.Kept.{IsReader, IsThere, reads_as, readers_of}
use Rattle.log_rule.specs.Readings.{end_of as ends_at, moved_to, with_consumer}
use Rattle.log_rule.specs.Table.{LogRuled}
use Rattle.log_rule.proofs.Claimed.Totals.{total_at}
use Rattle.log_rule.proofs.Claimed.Whole.{set_at}
use Rattle.log_rule.proofs.Growing.{there_low}
use Rattle.log_rule.proofs.Known.{among_total}
use Rattle.model.specs.Log.{IsLowest, Join, Leave, Log, LogStep, Move, term_of as term_in}
use Rattle.threads_meaning.specs.Modelled.{AreEntries, ArePublishers, AreReaders, HasReader, IsModelOf, KeepsReaders, Stands, armed_as, spelled}
use Rattle.threads_meaning.specs.Steps.{StepJoins, StepLeaves, StepMoves}
use Rattle.threads_meaning.proofs.Found.{all_legal, counted, ends_there, one_spelled}
use Rattle.threads_meaning.proofs.Looking.{Controls, among_here, consumer_reads}
use Rattle.threads_meaning.proofs.Lowest.{alone_keeper, knows_there, lowest}
use Rattle.threads_meaning.proofs.Parts.{get_else, get_put}
use Rattle.threads_meaning.proofs.Resting.{armed_same, entries_rest, modelled, one_keeps, one_reads, publishers_rest}
use Rattle.threads_meaning.proofs.Totals.{total_kept}

-- ---- the row of readers

put_cases : (readers : List (Option Consumer)) (number n : ℕ) (x y : Option Consumer) (d : Consumer) → slice_get readers number ≡ Some x → slice_get (slice_set readers number y) n ≡ Some (Some d) → ((n ≡ number) × (y ≡ Some d)) ⊎ ((n ≢ number) × (slice_get readers n ≡ Some (Some d)))
put_cases readers number n x y d was is = dite (ℕ_discrete n number)
    (λ here. inl (here, same_of (sym (get_put readers number y x was) ∙ ap (slice_get (slice_set readers number y)) (sym here) ∙ is)))
    (λ ne. inr (ne, sym (get_else readers number n y ne) ∙ is))
  where
    same_of : {X : Type 0} {a c : X} → Some a ≡ Some c → a ≡ c
    same_of e = cc

has_put : (readers : List (Option Consumer)) (number : ℕ) (x : Option Consumer) (c : Consumer) (n : ℕ) → slice_get readers number ≡ Some x → HasReader readers n → HasReader (slice_set readers number (Some c)) n
has_put readers number x c n was has = dite (ℕ_discrete n number)
    (λ here. (c, ap (slice_get (slice_set readers number (Some c))) here ∙ get_put readers number (Some c) x was))
    (λ ne. (has.0, get_else readers number n (Some c) ne ∙ has.1))

has_else : (readers : List (Option Consumer)) (number : ℕ) (y : Option Consumer) (n : ℕ) → n ≢ number → HasReader readers n → HasReader (slice_set readers number y) n
has_else readers number y n ne has = (has.0, get_else readers number n y ne ∙ has.1)

among_take : {A : Type 0} (n : ℕ) (xs : List A) (x : A) → Among x (take n xs) → Among x xs
among_take zero xs x a = absurd a
among_take (suc n) [] x a = absurd a
among_take (suc n) (y ∷ ys) x a = ⊎_elim (λ (e : x ≡ y). inl e) (λ (b : Among x (take n ys)). inr (among_take n ys x b)) a

among_drop : {A : Type 0} (n : ℕ) (xs : List A) (x : A) → Among x (drop n xs) → Among x xs
among_drop zero xs x a = a
among_drop (suc n) [] x a = absurd a
among_drop (suc n) (y ∷ ys) x a = inr (among_drop n ys x a)

low_seat : (readers : List (Option Consumer)) → length readers ≡ 8 → (j : ℕ) (c : Consumer) → slice_get readers j ≡ Some (Some c) → j < 8
low_seat readers eight j c there = subst (λ (n : ℕ). j < n) eight (slice_get_within readers j (Some c) there)

-- ---- the words

module _ (words after : List ℕ) (number x : ℕ) (long : 208 ≤ length words) (low : number < 8) (e : Controls after (set words (consumer_place number) x)) where
  word_here : slice_index after (consumer_place number) ≡ x
  word_here = e (consumer_place number) (omega arith) ∙ get_or-set_same words (consumer_place number) x 0 (omega arith)

  word_else : (j : ℕ) → j < 8 → j ≢ number → slice_index after (consumer_place j) ≡ slice_index words (consumer_place j)
  word_else j less ne = e (consumer_place j) (omega arith) ∙ get_or-set_other words (consumer_place number) (consumer_place j) x 0 (λ z. ne (omega arith))

  word_limit : slice_index after limit_place ≡ slice_index words limit_place
  word_limit = e limit_place (omega arith) ∙ get_or-set_other words (consumer_place number) limit_place x 0 (λ z. omega arith)

module _ (key : Key) (gone : List ℕ) (s t : State (Unit {0}) View) (l : Log) (q : LogRuled key s) (q' : LogRuled key t) (k : IsModelOf key gone s l) where
  long_words : 208 ≤ length s.words
  long_words = let z = q.ruled.claims.wide in omega arith

  -- a pass that reads and keeps otherwise, with these readers then
  reseated : (id : ℕ) (v w : Pass) (rs : List Reading) (x : Keeping) (readers : List (Option Consumer)) → get_elem? (map pass_in s.views) id ≡ some v → map pass_in t.views ≡ set (map pass_in s.views) id w → w ≡ record v { reading = rs; keeping = x } → slice_index t.words limit_place ≡ slice_index s.words limit_place
      → AreReaders t.words (set (map pass_in s.views) id w) l.start l.cleaned (committed l.entries) readers → IsModelOf key gone t (record l { readers = readers })
  reseated id v w rs x readers at passes e same are =
      let ps : List Pass = map pass_in s.views in
      modelled key gone t (record l { readers = readers }) q' k.identity k.start (k.limit ∙ ap limit_in (sym same)) (k.connected ∙ ap is_connected (sym same)) (k.closed ∙ ap is_closed (sym same))
      (subst (λ (qs : List Pass). AreEntries key qs l.start l.tail l.entries) (sym passes) (entries_rest key ps (set ps id w) l.start l.tail l.entries k.entries (λ h. total_kept (weight h) ps id v w at (ap (λ cs. total h (map entry_of cs)) (ap (λ (y : Pass). y.right.claims) e))) (λ h. total_kept (committed_weight h) ps id v w at (ap (total h) (ap (λ (y : Pass). y.work.frames) e)))))
      (subst (λ (qs : List Pass). ArePublishers gone qs l.armed l.retired) (sym passes) (publishers_rest gone ps (set ps id w) l.armed l.retired k.publishers (λ n lt. total_kept (armed_as n) ps id v w at (armed_same v w (ap (λ (y : Pass). y.right.armed) e) (ap (λ (y : Pass). y.number) e) n))))
      (subst (λ (qs : List Pass). AreReaders t.words qs l.start l.cleaned (committed l.entries) readers) (sym passes) are)

  -- ---- past a frame

  -- a frame that a consumer knows is the model's
  known_frame : (id : ℕ) (v : Pass) (place : ℕ) (r : Reading) (f : FrameWords) (past : Placed) → get_elem? (map pass_in s.views) id ≡ some v → get_elem? v.reading place ≡ some r → Among f r.known → spelled key.identity past ≡ f → IsLegal key.identity.geometry past.frame → Among past (committed l.entries)
  known_frame id v place r f past at is known says legal =
      let ps : List Pass = map pass_in s.views in let reader = all_at (IsReader s.words ps) r v.reading (q.kept.each id v at).readings (among_here v.reading place r is) in
      let among : IsAmong ps f = all_at (IsAmong ps) f r.known reader.known known in
      let c = counted key.identity (committed l.entries) f (λ h. subst (λ (n : ℕ). h f ≤ n) (k.entries.frames h) (among h)) in
      let same : c.0 ≡ past = one_spelled key.identity c.0 past q.ruled.claims.sound.geometry (all_at (λ (z : Placed). IsLegal key.identity.geometry z.frame) c.0 (committed l.entries) (all_legal (IsLegal key.identity.geometry) l.entries k.entries.legal) c.1) legal (c.2 ∙ sym says) in
      subst (λ (z : Placed). Among z (committed l.entries)) same c.1

  pub moves : (number : ℕ) (past : Placed) → StepMoves key s number past t → (m : Log) × LogStep [] l (Move number past) m × IsModelOf key gone t m
  moves number past y =
      let ps : List Pass = map pass_in s.views in let v : Pass = y.v in let r : Reading = y.r in let w : Pass = y.turn.after in let n : ℕ = r.number in let end : ℕ = ends_at y.frame in
      let e : w ≡ with_consumer v y.place (moved_to r end) = (y.turn.told r y.is).after in let frames : List Placed = committed l.entries in
      let here = k.readers.mine y.id v r y.turn.at (among_here v.reading y.place r y.is) y.low in let c : Consumer = here.0 in let was : slice_get l.readers n ≡ Some (Some c) = here.1 in
      let st = k.readers.standing n c was in
      let among : Among past frames = known_frame y.id v y.place r y.frame past y.turn.at y.is y.known y.says y.legal in
      let begins : past.at ≡ c.at = ap (λ (f : FrameWords). f.start) y.says ∙ y.here ∙ sym ((all_at (IsReader s.words ps) r v.reading (q.kept.each y.id v y.turn.at).readings (among_here v.reading y.place r y.is)).position y.low) ∙ sym st.at in
      let ends : end ≡ end_of past = ap ends_at (sym y.says) ∙ ends_there key.identity past in
      let d : Consumer = moved c past in let readers : List (Option Consumer) = slice_set l.readers n (Some d) in
      let reach : IsReached frames l.start (end_of past) = passed_along frames l.start c.at (end_of past) (past ∷ []) st.reached (begins, refl) (among, tt) in
      let reads = consumer_reads l.start l.cleaned frames l.readers v y.place r (moved_to r end) w y.is refl e in
      let keeps : (w.keeping.right ≡ 1 → (v.keeping.right ≡ 1) × (KeepsReaders l.start l.cleaned frames l.readers v.keeping → KeepsReaders l.start l.cleaned frames l.readers w.keeping)) = λ one. (let same = ap (λ (z : Pass). z.keeping) e in (ap (λ z. z.right) (sym same) ∙ one, λ z. subst (KeepsReaders l.start l.cleaned frames l.readers) (sym same) z)) in
      subst (λ (x : ℕ). (m : Log) × LogStep [] l (Move x past) m × IsModelOf key gone t m) (sym y.number_is) (
        record l { readers = readers },
        (c, was, record { among = among; here = begins }, st.heard, refl),
        reseated y.id v w (set v.reading y.place (moved_to r end)) v.keeping readers y.turn.at y.turn.passes e (word_limit s.words t.words n end long_words y.low y.turn.words) record {
          eight = length-set l.readers n (Some d) ∙ k.readers.eight;
          standing = λ j x there. ⊎_elim
              (λ (z : (j ≡ n) × (Some d ≡ Some x)). subst (λ (a : Consumer). Stands t.words l.start frames j a) (same_of z.1) record { at = sym ends ∙ sym (word_here s.words t.words n end long_words y.low y.turn.words) ∙ ap (λ (a : ℕ). slice_index t.words (consumer_place a)) (sym z.0); heard = st.heard; reached = reach })
              (λ (z : (j ≢ n) × (slice_get l.readers j ≡ Some (Some x))). let old = k.readers.standing j x z.1 in record { at = old.at ∙ sym (word_else s.words t.words n end long_words y.low y.turn.words j (low_seat l.readers k.readers.eight j _ z.1) z.0); heard = old.heard; reached = old.reached })
              (put_cases l.readers n j (Some c) (Some d) x was there);
          mine = λ i u a at among' low. has_put l.readers n (Some c) d a.number was (one_reads ps l.start l.cleaned frames l.readers s.words k.readers y.id v w y.turn.at reads i u a at among' low);
          keeper = λ i u at one. (let kp = one_keeps ps l.start l.cleaned frames l.readers s.words k.readers y.id v w y.turn.at keeps i u at one in record {
            cleaned_to = kp.cleaned_to;
            taken = λ j low there. has_put l.readers n (Some c) d j was (kp.taken j low there);
            free = λ j low none. dite (ℕ_discrete j n)
                (λ same. absurd (none-some c (same_of (sym (kp.free j low none) ∙ ap (slice_get l.readers) same ∙ was))))
                (λ ne. get_else l.readers n j (Some d) ne ∙ kp.free j low none);
            seen = kp.seen;
          });
        },
      )
    where
      same_of : {X : Type 0} {a c : X} → Some a ≡ Some c → a ≡ c
      same_of e = cc

  -- ---- one joins

  pub joins : (number at : ℕ) → StepJoins s number at t → (m : Log) × LogStep [] l (Join number at) m × IsModelOf key gone t m
  joins number p y =
      let ps : List Pass = map pass_in s.views in let v : Pass = y.v in let w : Pass = y.turn.after in let may = y.may in let right = may.keeper in let low : number < 8 = may.inside in
      let e : w ≡ joined v number y.place p = y.turn.told in let frames : List Placed = committed l.entries in let knows = (q.kept.each y.id v y.turn.at).keeping in
      let mine = k.readers.keeper y.id v y.turn.at right in let was : slice_get l.readers number ≡ Some None = mine.free number low may.free in
      let c : Consumer = consumer_at p in let readers : List (Option Consumer) = slice_set l.readers number (Some c) in
      let seen_low : may.seen < 8 = there_low q.there may.seen q.kept.eight (subst (λ (x : List ℕ). IsThere x may.seen) (knows_there key gone s l q k y.id v y.turn.at right) may.there) in
      let reach : IsReached frames l.start p = subst (IsReached frames l.start) (sym may.here) (mine.seen may.seen seen_low may.there) in
      let x : Keeping = record v.keeping { there = set v.keeping.there number 1; positions = set v.keeping.positions number p } in
      let wide : number < length v.keeping.there = subst (λ (z : List ℕ). number < length z) (sym (knows_there key gone s l q k y.id v y.turn.at right)) (subst (λ (z : ℕ). number < z) (sym q.kept.eight) low) in
      let broad : number < length v.keeping.positions = subst (λ (z : ℕ). number < z) (sym (knows.all right)) low in
      let term : term_in l ≡ term_of v = ap (λ (i : Identity). i.geometry.term_length) (k.identity ∙ sym (q.ruled.claims.each y.id v y.turn.at).identity) in let start : l.start ≡ v.start = k.start ∙ sym (q.ruled.claims.each y.id v y.turn.at).start in
      let readable : l.cleaned ≤ max l.start (p - term_in l) = subst (λ (z : ℕ). z ≤ max l.start (p - term_in l)) mine.cleaned_to (subst (λ (z : ℕ × ℕ). v.keeping.cleaned ≤ max z.0 (p - z.1)) (λ i. (sym start i, sym term i)) may.readable) in (
        record l { readers = readers },
        (was, reach, subst (λ (z : ℕ). IsLowest [] l z) (sym y.least) (lowest key gone s l q k y.id v y.turn.at right), readable, refl),
        reseated y.id v w (take y.place v.reading ++ newly number p ∷ drop y.place v.reading) x readers y.turn.at y.turn.passes e (word_limit s.words t.words number p long_words low y.turn.words) record {
          eight = length-set l.readers number (Some c) ∙ k.readers.eight;
          standing = λ j d there. ⊎_elim
              (λ (z : (j ≡ number) × (Some c ≡ Some d)). subst (λ (a : Consumer). Stands t.words l.start frames j a) (same_of z.1) record { at = sym (word_here s.words t.words number p long_words low y.turn.words) ∙ ap (λ (a : ℕ). slice_index t.words (consumer_place a)) (sym z.0); heard = refl; reached = reach })
              (λ (z : (j ≢ number) × (slice_get l.readers j ≡ Some (Some d))). let old = k.readers.standing j d z.1 in record { at = old.at ∙ sym (word_else s.words t.words number p long_words low y.turn.words j (low_seat l.readers k.readers.eight j _ z.1) z.0); heard = old.heard; reached = old.reached })
              (put_cases l.readers number j None (Some c) d was there);
          mine = λ i u r at among less. ⊎_elim
              (λ (z : (i ≡ y.id) × (w ≡ u)). ⊎_elim
              (λ (a : Among r (take y.place v.reading)). has_put l.readers number None c r.number was (k.readers.mine y.id v r y.turn.at (among_take y.place v.reading r a) less))
              (λ (a : (r ≡ newly number p) ⊎ Among r (drop y.place v.reading)). ⊎_elim
              (λ (b : r ≡ newly number p). subst (HasReader readers) (sym (ap (λ (z' : Reading). z'.number) b)) (c, get_put l.readers number (Some c) None was))
              (λ (b : Among r (drop y.place v.reading)). has_put l.readers number None c r.number was (k.readers.mine y.id v r y.turn.at (among_drop y.place v.reading r b) less))
              a)
              (among_cases r (take y.place v.reading) (newly number p ∷ drop y.place v.reading) (subst (λ (rs : List Reading). Among r rs) (ap (λ (u' : Pass). u'.reading) (sym z.1 ∙ e)) among)))
              (λ (z : (i ≢ y.id) × (get_elem? ps i ≡ some u)). has_put l.readers number None c r.number was (k.readers.mine i u r z.1 among less))
              (at_set ps y.id i w u at);
          keeper = λ i u at one. ⊎_elim
              (λ (z : (i ≡ y.id) × (w ≡ u)). subst (KeepsReaders l.start l.cleaned frames readers) (ap (λ (u' : Pass). u'.keeping) (sym e ∙ z.1)) record {
                cleaned_to = mine.cleaned_to;
                taken = λ j less there. dite (ℕ_discrete j number)
                    (λ same. subst (HasReader readers) (sym same) (c, get_put l.readers number (Some c) None was))
                    (λ ne. has_else l.readers number (Some c) j ne (mine.taken j less (sym (get_or-set_other v.keeping.there number j 1 0 ne) ∙ there)));
                free = λ j less none. dite (ℕ_discrete j number)
                    (λ same. absurd (one_none 0 (sym (get_or-set_same v.keeping.there number 1 0 wide) ∙ ap (slice_index (set v.keeping.there number 1)) (sym same) ∙ none)))
                    (λ ne. get_else l.readers number j (Some c) ne ∙ mine.free j less (sym (get_or-set_other v.keeping.there number j 1 0 ne) ∙ none));
                seen = λ j less there. dite (ℕ_discrete j number)
                    (λ same. subst (IsReached frames l.start) (sym (get_or-set_same v.keeping.positions number p 0 broad) ∙ ap (slice_index (set v.keeping.positions number p)) (sym same)) reach)
                    (λ ne. subst (IsReached frames l.start) (sym (get_or-set_other v.keeping.positions number j p 0 ne)) (mine.seen j less (sym (get_or-set_other v.keeping.there number j 1 0 ne) ∙ there)));
              })
              (λ (z : (i ≢ y.id) × (get_elem? ps i ≡ some u)). absurd (alone_keeper key gone s l q k y.id v y.turn.at right i u z.0 z.1 one))
              (at_set ps y.id i w u at);
        },
      )
    where
      same_of : {X : Type 0} {a c : X} → Some a ≡ Some c → a ≡ c
      same_of e = cc

      one_none : (c : ℕ) → suc c ≡ c → ⊥
      one_none c e = omega (arith, e)

  -- ---- one leaves

  pub leaves : (number : ℕ) → StepLeaves s number t → (m : Log) × LogStep [] l (Leave number) m × IsModelOf key gone t m
  leaves number y =
      let ps : List Pass = map pass_in s.views in let v : Pass = y.v in let w : Pass = y.turn.after in let may = y.may in let right = may.keeper in let low : number < 8 = may.inside in
      let e : w ≡ left v y.place number = y.turn.told in let frames : List Placed = committed l.entries in
      let mine = k.readers.keeper y.id v y.turn.at right in let r : Reading = may.consumer in
      let has = subst (HasReader l.readers) may.number_is (k.readers.mine y.id v r y.turn.at (among_here v.reading y.place r may.is) (subst (λ (x : ℕ). x < 8) (sym may.number_is) low)) in
      let was : slice_get l.readers number ≡ Some (Some has.0) = has.1 in let readers : List (Option Consumer) = slice_set l.readers number None in
      let other_low : may.other < 8 = there_low q.there may.other q.kept.eight (subst (λ (x : List ℕ). IsThere x may.other) (knows_there key gone s l q k y.id v y.turn.at right) may.there) in
      let other = mine.taken may.other other_low may.there in
      let x : Keeping = record v.keeping { there = set v.keeping.there number 0 } in
      let wide : number < length v.keeping.there = subst (λ (z : List ℕ). number < length z) (sym (knows_there key gone s l q k y.id v y.turn.at right)) (subst (λ (z : ℕ). number < z) (sym q.kept.eight) low) in
      let here : get_elem? (map pass_in t.views) y.id ≡ some w = subst (λ (us : List Pass). get_elem? us y.id ≡ some w) (sym y.turn.passes) (set_at ps y.id v w y.turn.at) in
      let keeping : w.keeping ≡ x = ap (λ (u : Pass). u.keeping) e in
      let none_there : slice_index q'.there number ≡ 0 = ap (λ (z : List ℕ). slice_index z number) (sym ((q'.kept.each y.id w here).keeping.there (ap (λ z. z.right) keeping ∙ right))) ∙ ap (λ (z : Keeping). slice_index z.there number) keeping ∙ get_or-set_same v.keeping.there number 0 0 wide in
      let nobody : (i : ℕ) (u : Pass) (d : Reading) → get_elem? (set ps y.id w) i ≡ some u → Among d u.reading → d.number ≢ number = λ i u d at among same.
      (let single = q'.kept.single number low in empty (reads_as number d) (total (reads_as number) u.reading) (total (readers_of number) (map pass_in t.views)) (slice_index q'.there number) (ap (λ (b : Bool). cond b 1 0) (eq-eqb d.number number same)) (among_total (reads_as number) u.reading d among) (total_at (readers_of number) (map pass_in t.views) i u (subst (λ (us : List Pass). get_elem? us i ≡ some u) (sym y.turn.passes) at)) single none_there) in (
        record l { readers = readers },
        (has.0, was, inr (may.other, other.0, may.another, other.1), refl),
        reseated y.id v w (take y.place v.reading ++ drop (suc y.place) v.reading) x readers y.turn.at y.turn.passes e (word_limit s.words t.words number 0 long_words low y.turn.words) record {
          eight = length-set l.readers number None ∙ k.readers.eight;
          standing = λ j d there. ⊎_elim
              (λ (z : (j ≡ number) × (None ≡ Some d)). absurd (none-some d z.1))
              (λ (z : (j ≢ number) × (slice_get l.readers j ≡ Some (Some d))). let old = k.readers.standing j d z.1 in record { at = old.at ∙ sym (word_else s.words t.words number 0 long_words low y.turn.words j (low_seat l.readers k.readers.eight j _ z.1) z.0); heard = old.heard; reached = old.reached })
              (put_cases l.readers number j (Some has.0) None d was there);
          mine = λ i u d at among less. has_else l.readers number None d.number (nobody i u d at among) (⊎_elim
              (λ (z : (i ≡ y.id) × (w ≡ u)). ⊎_elim
              (λ (a : Among d (take y.place v.reading)). k.readers.mine y.id v d y.turn.at (among_take y.place v.reading d a) less)
              (λ (a : Among d (drop (suc y.place) v.reading)). k.readers.mine y.id v d y.turn.at (among_drop (suc y.place) v.reading d a) less)
              (among_cases d (take y.place v.reading) (drop (suc y.place) v.reading) (subst (λ (rs : List Reading). Among d rs) (ap (λ (u' : Pass). u'.reading) (sym z.1 ∙ e)) among)))
              (λ (z : (i ≢ y.id) × (get_elem? ps i ≡ some u)). k.readers.mine i u d z.1 among less)
              (at_set ps y.id i w u at));
          keeper = λ i u at one. ⊎_elim
              (λ (z : (i ≡ y.id) × (w ≡ u)). subst (KeepsReaders l.start l.cleaned frames readers) (ap (λ (u' : Pass). u'.keeping) (sym e ∙ z.1)) record {
                cleaned_to = mine.cleaned_to;
                taken = λ j less there. dite (ℕ_discrete j number)
                    (λ same. absurd (none_one 0 (sym (get_or-set_same v.keeping.there number 0 0 wide) ∙ ap (slice_index (set v.keeping.there number 0)) (sym same) ∙ there)))
                    (λ ne. has_else l.readers number None j ne (mine.taken j less (sym (get_or-set_other v.keeping.there number j 0 0 ne) ∙ there)));
                free = λ j less none. dite (ℕ_discrete j number)
                    (λ same. ap (slice_get readers) same ∙ get_put l.readers number None (Some has.0) was)
                    (λ ne. get_else l.readers number j None ne ∙ mine.free j less (sym (get_or-set_other v.keeping.there number j 0 0 ne) ∙ none));
                seen = λ j less there. dite (ℕ_discrete j number)
                    (λ same. absurd (none_one 0 (sym (get_or-set_same v.keeping.there number 0 0 wide) ∙ ap (slice_index (set v.keeping.there number 0)) (sym same) ∙ there)))
                    (λ ne. mine.seen j less (sym (get_or-set_other v.keeping.there number j 0 0 ne) ∙ there));
              })
              (λ (z : (i ≢ y.id) × (get_elem? ps i ≡ some u)). absurd (alone_keeper key gone s l q k y.id v y.turn.at right i u z.0 z.1 one))
              (at_set ps y.id i w u at);
        },
      )
    where
      none_one : (c : ℕ) → c ≡ suc c → ⊥
      none_one c e = omega (arith, e)

      empty : (x y z f : ℕ) → x ≡ 1 → x ≤ y → y ≤ z → z ≤ f → f ≡ 0 → ⊥
      empty x y z f e a b c d = omega arith
