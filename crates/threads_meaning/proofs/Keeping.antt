-- The keeper stores the limit's word, and cleans.
use Rattle.std.proofs.Common.{◌≡◌, ◌≢◌, ⊎_elim, ℕ, ◌+◌, ◌-◌, ◌/◌, ◌%◌, ◌<◌, ◌≤◌, Bool, true, false, List, [], length, map, max, set, sym, refl, ap, ◌∙◌, subst, get_or-set_other, arith}
use mathlib.Core.Option.{some}
use lib.ListN.{get_elem?}
use Rattle.std.specs.Prelude.{slice_index, Some}
use Rattle.std.proofs.lemmas.Option.{slice_get_within}
use Rattle.atomic_table.specs.Table.{State}
use Rattle.atomic_table.proofs.Lists.{at_set}
use Rattle.theory.specs.Bytes.{Identity}
use Rattle.theory.specs.Entry.{committed}
use Rattle.theory.specs.Placed.{Among}
use Rattle.theory.specs.Refusal.{is_closed, is_connected, limit_in}
use Rattle.publication.specs.declared.pass.Keeping.{Keeping}
use Rattle.publication.specs.declared.pass.Pass.{Pass}
use Rattle.publication.specs.declared.pass.Reading.{Reading}
use Rattle.publication.specs.Steps.{geometry_of, term_of}
use Rattle.log_rule.specs.declared.claims.view.View.{View}
use Rattle.log_rule.specs.declared.rule.Key.{Key}
use Rattle.log_rule.specs.Claims.Events.{committed_weight}
use Rattle.log_rule.specs.Claims.Packs.{consumer_place, limit_place, slot}
use Rattle.log_rule.specs.Claims.Plays.{pass_in}
use Rattle.log_rule.specs.Claims.Rule.{entry_of, weight}
use Rattle.log_rule.specs.Claims.Sums.{total}
use Rattle.log_rule.specs.Keepings.{least_there, with_keeping}
use Rattle.log_rule.specs.Table.{LogRuled}
use Rattle.log_rule.proofs.Claimed.Whole.{first_set}
use Rattle.model.specs.Log.{Clean, Close, Connect, IsLowest, Log, LogStep, Raise, term_of as term_in}
use Rattle.threads_meaning.specs.Modelled.{AreEntries, ArePublishers, AreReaders, IsModelOf, KeepsReaders, armed_as}
use Rattle.threads_meaning.specs.Steps.{ClosesBy, ConnectsBy, RaisesTo, StepCleans, StepLimits}
use Rattle.threads_meaning.proofs.Looking.{put_same}
use Rattle.threads_meaning.proofs.Lowest.{alone_keeper, knows_limit, lowest, whole_least}
use Rattle.threads_meaning.proofs.Resting.{armed_same, entries_rest, modelled, one_readers, publishers_rest}
use Rattle.threads_meaning.proofs.Totals.{total_kept}

module _ (key : Key) (gone : List ℕ) (s t : State (Unit {0}) View) (l : Log) (q : LogRuled key s) (q' : LogRuled key t) (k : IsModelOf key gone s l) where
  -- of a pass that knows other things as the keeper, and is the same else
  pub keeps_entries : (id : ℕ) (v w : Pass) (x : Keeping) → get_elem? (map pass_in s.views) id ≡ some v → map pass_in t.views ≡ set (map pass_in s.views) id w → w ≡ with_keeping v x → AreEntries key (map pass_in t.views) l.start l.tail l.entries
  keeps_entries id v w x at passes e = let ps : List Pass = map pass_in s.views in subst (λ (qs : List Pass). AreEntries key qs l.start l.tail l.entries) (sym passes)
      (entries_rest key ps (set ps id w) l.start l.tail l.entries k.entries (λ h. total_kept (weight h) ps id v w at (ap (λ cs. total h (map entry_of cs)) (ap (λ (y : Pass). y.right.claims) e))) (λ h. total_kept (committed_weight h) ps id v w at (ap (total h) (ap (λ (y : Pass). y.work.frames) e))))

  pub keeps_publishers : (id : ℕ) (v w : Pass) (x : Keeping) → get_elem? (map pass_in s.views) id ≡ some v → map pass_in t.views ≡ set (map pass_in s.views) id w → w ≡ with_keeping v x → ArePublishers gone (map pass_in t.views) l.armed l.retired
  keeps_publishers id v w x at passes e = let ps : List Pass = map pass_in s.views in subst (λ (qs : List Pass). ArePublishers gone qs l.armed l.retired) (sym passes)
      (publishers_rest gone ps (set ps id w) l.armed l.retired k.publishers (λ n lt. total_kept (armed_as n) ps id v w at (armed_same v w (ap (λ (y : Pass). y.right.armed) e) (ap (λ (y : Pass). y.number) e) n)))

  -- ---- the limit's word

  limited : (stores : Pass → ℕ → Type 0) (y : StepLimits s stores t) (limit : ℕ) (on shut : Bool) → limit ≡ limit_in y.word → on ≡ is_connected y.word → shut ≡ is_closed y.word → IsModelOf key gone t (record l { limit = limit; connected = on; closed = shut })
  limited stores y limit on shut limit_is on_is shut_is =
      let ps : List Pass = map pass_in s.views in let v : Pass = y.v in let w : Pass = y.turn.after in let x : Keeping = record v.keeping { limit = y.word } in let e : w ≡ with_keeping v x = y.turn.told in
      let long : 0 < length s.words = (let z = q.ruled.claims.wide in omega arith) in
      let word : slice_index t.words limit_place ≡ y.word = y.turn.words limit_place (omega arith) ∙ first_set s.words y.word long in
      modelled key gone t (record l { limit = limit; connected = on; closed = shut }) q' k.identity k.start (limit_is ∙ ap limit_in (sym word)) (on_is ∙ ap is_connected (sym word)) (shut_is ∙ ap is_closed (sym word))
      (keeps_entries y.id v w x y.turn.at y.turn.passes e) (keeps_publishers y.id v w x y.turn.at y.turn.passes e)
      (subst (λ (qs : List Pass). AreReaders t.words qs l.start l.cleaned (committed l.entries) l.readers) (sym y.turn.passes) (one_readers s.words t.words ps l.start l.cleaned (committed l.entries) l.readers k.readers y.id v w y.turn.at
      (λ j lt. y.turn.words (consumer_place j) (omega arith) ∙ get_or-set_other s.words limit_place (consumer_place j) y.word 0 (λ z. omega arith))
      (λ r a. (r, subst (λ (rs : List Reading). Among r rs) (ap (λ (z : Pass). z.reading) e) a, refl))
      (λ one. (y.may.keeper, λ z. subst (KeepsReaders l.start l.cleaned (committed l.entries) l.readers) (sym (ap (λ (z : Pass). z.keeping) e)) record { cleaned_to = z.cleaned_to; taken = z.taken; free = z.free; seen = z.seen }))))

  old_limit : (stores : Pass → ℕ → Type 0) (y : StepLimits s stores t) → y.v.keeping.limit ≡ slice_index s.words limit_place
  old_limit stores y = knows_limit key gone s l q k y.id y.v y.turn.at y.may.keeper

  pub connects : (on : Bool) → StepLimits s (ConnectsBy on) t → (m : Log) × LogStep [] l (Connect on) m × IsModelOf key gone t m
  connects on y = let old = old_limit (ConnectsBy on) y in (record l { connected = on }, refl, limited (ConnectsBy on) y l.limit on l.closed (k.limit ∙ ap limit_in (sym old) ∙ sym y.is.limit) (sym y.is.connected) (k.closed ∙ ap is_closed (sym old) ∙ sym y.is.closed))

  pub closes : StepLimits s ClosesBy t → (m : Log) × LogStep [] l Close m × IsModelOf key gone t m
  closes y = let old = old_limit ClosesBy y in (record l { closed = true }, refl, limited ClosesBy y l.limit l.connected true (k.limit ∙ ap limit_in (sym old) ∙ sym y.is.limit) (k.connected ∙ ap is_connected (sym old) ∙ sym y.is.connected) (sym y.is.closed))

  -- of the keeper's pass, by the model's names
  term_same : (id : ℕ) (v : Pass) → get_elem? (map pass_in s.views) id ≡ some v → term_in l ≡ term_of v
  term_same id v at = ap (λ (i : Identity). i.geometry.term_length) (k.identity ∙ sym (q.ruled.claims.each id v at).identity)

  start_same : (id : ℕ) (v : Pass) → get_elem? (map pass_in s.views) id ≡ some v → l.start ≡ v.start
  start_same id v at = k.start ∙ sym (q.ruled.claims.each id v at).start

  pub raises : (least : ℕ) → StepLimits s (RaisesTo least) t → (m : Log) × LogStep [] l (Raise least) m × IsModelOf key gone t m
  raises least y =
      let v : Pass = y.v in let old = old_limit (RaisesTo least) y in let right = y.may.keeper in let low = least_there v.keeping.there v.keeping.positions in
      let term = term_same y.id v y.turn.at in let start = start_same y.id v y.turn.at in let to = (k.readers.keeper y.id v y.turn.at right).cleaned_to in
      let was : l.limit ≡ limit_in v.keeping.limit = k.limit ∙ ap limit_in (sym old) in
      let on : l.connected ≡ true = k.connected ∙ ap is_connected (sym old) ∙ y.is.free.0 in let shut : l.closed ≡ false = k.closed ∙ ap is_closed (sym old) ∙ y.is.free.1 in
      let raised : max l.limit (least + term_in l / 2) ≡ limit_in y.word = (λ i. max (was i) (least + term i / 2)) ∙ sym y.is.limit in (
        record l { limit = max l.limit (least + term_in l / 2) },
        (
          subst (λ (x : ℕ). x % 32 ≡ 0) (sym y.is.least_is) (whole_least key gone s l q k y.id v y.turn.at right),
          subst (λ (x : ℕ). IsLowest [] l x) (sym y.is.least_is) (lowest key gone s l q k y.id v y.turn.at right),
          subst (λ (x : ℕ). max l.start (least - term_in l) ≤ x) to (subst (λ (x : ℕ × ℕ). max x.0 (least - x.1) ≤ v.keeping.cleaned) (λ i. (sym start i, sym term i)) y.is.cleaned),
          on,
          shut,
          refl,
        ),
        limited (RaisesTo least) y (max l.limit (least + term_in l / 2)) l.connected l.closed raised (on ∙ sym y.is.same.0) (shut ∙ sym y.is.same.1),
      )

  -- ---- a word is cleaned

  pub cleans : (least : ℕ) → StepCleans s least t → (m : Log) × LogStep [] l (Clean least) m × IsModelOf key gone t m
  cleans least y =
      let ps : List Pass = map pass_in s.views in let v : Pass = y.v in let w : Pass = y.turn.after in let x : Keeping = record v.keeping { cleaned = v.keeping.cleaned + 8 } in let e : w ≡ with_keeping v x = y.turn.told in let right = y.may.keeper in
      let mine = k.readers.keeper y.id v y.turn.at right in let to = mine.cleaned_to in let term = term_same y.id v y.turn.at in let start = start_same y.id v y.turn.at in
      let same = put_same s.words t.words (slot (geometry_of v) v.keeping.cleaned) 0 y.turn.words (λ z. omega arith) (λ j lt z. omega arith) in
      let m : Log = record l { cleaned = l.cleaned + 8 } in
      let below : v.keeping.cleaned + 8 ≤ max v.start (least - term_of v) = subst (λ (z : ℕ). v.keeping.cleaned + 8 ≤ max v.start (z - term_of v)) (sym y.least_is) y.may.below in (
        m,
        (subst (λ (z : ℕ). IsLowest [] l z) (sym y.least_is) (lowest key gone s l q k y.id v y.turn.at right), subst (λ (z : ℕ). z + 8 ≤ max l.start (least - term_in l)) to (subst (λ (z : ℕ × ℕ). v.keeping.cleaned + 8 ≤ max z.0 (least - z.1)) (λ i. (sym start i, sym term i)) below), refl),
        modelled key gone t m q' k.identity k.start (k.limit ∙ ap limit_in (sym same.limit)) (k.connected ∙ ap is_connected (sym same.limit)) (k.closed ∙ ap is_closed (sym same.limit))
            (keeps_entries y.id v w x y.turn.at y.turn.passes e) (keeps_publishers y.id v w x y.turn.at y.turn.passes e)
            (subst (λ (qs : List Pass). AreReaders t.words qs m.start m.cleaned (committed m.entries) m.readers) (sym y.turn.passes) record {
              eight = k.readers.eight;
              standing = λ number c there. (let low : number < 8 = subst (λ (z : ℕ). number < z) k.readers.eight (slice_get_within l.readers number (Some c) there) in let st = k.readers.standing number c there in record { at = st.at ∙ sym (same.consumers number low); heard = st.heard; reached = st.reached });
              mine = λ i u r there among low. ⊎_elim
                  (λ (z : (i ≡ y.id) × (w ≡ u)). k.readers.mine y.id v r y.turn.at (subst (λ (rs : List Reading). Among r rs) (ap (λ (p : Pass). p.reading) (sym z.1 ∙ e)) among) low)
                  (λ (z : (i ≢ y.id) × (get_elem? ps i ≡ some u)). k.readers.mine i u r z.1 among low)
                  (at_set ps y.id i w u there);
              keeper = λ i u there one. ⊎_elim
                  (λ (z : (i ≡ y.id) × (w ≡ u)). subst (KeepsReaders m.start m.cleaned (committed m.entries) m.readers) (ap (λ (p : Pass). p.keeping) (sym e ∙ z.1)) record { cleaned_to = ap (λ (n : ℕ). n + 8) to; taken = mine.taken; free = mine.free; seen = mine.seen })
                  (λ (z : (i ≢ y.id) × (get_elem? ps i ≡ some u)). absurd (alone_keeper key gone s l q k y.id v y.turn.at right i u z.0 z.1 one))
                  (at_set ps y.id i w u there);
            }),
      )
