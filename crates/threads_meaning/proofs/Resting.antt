-- What changes neither claims nor committed frames, nor who is armed and where consumers stand, leaves the model's log.
use Rattle.std.proofs.Common.{◌≡◌, ◌≢◌, ⊎_elim, ℕ, ◌<◌, Bool, cond, eqb, List, map, set, sym, ap, ◌∙◌, subst}
use mathlib.Core.Option.{some}
use lib.ListN.{get_elem?}
use Rattle.std.specs.Prelude.{slice_index, nat_lt, Option, Some}
use Rattle.std.proofs.lemmas.Option.{slice_get_within}
use Rattle.atomic_table.specs.Table.{State}
use Rattle.atomic_table.proofs.Lists.{at_set}
use Rattle.theory.specs.Consumer.{Consumer}
use Rattle.theory.specs.Entry.{Entry, committed}
use Rattle.theory.specs.Placed.{Among, Placed}
use Rattle.theory.specs.Refusal.{is_closed, is_connected, limit_in}
use Rattle.publication.specs.declared.pass.Pass.{Pass}
use Rattle.publication.specs.declared.pass.Reading.{Reading}
use Rattle.log_rule.specs.declared.claims.view.View.{View}
use Rattle.log_rule.specs.declared.rule.Key.{Key}
use Rattle.log_rule.specs.Claims.Events.{SameClaimed, SameCommitted, committed_weight}
use Rattle.log_rule.specs.Claims.Packs.{consumer_place, limit_place}
use Rattle.log_rule.specs.Claims.Plays.{pass_in}
use Rattle.log_rule.specs.Claims.Rule.{entry_of, weight}
use Rattle.log_rule.specs.Claims.Sums.{total}
use Rattle.log_rule.specs.Table.{LogRuled}
use Rattle.model.specs.Log.{Log}
use Rattle.threads_meaning.specs.Modelled.{AreEntries, ArePublishers, AreReaders, HasReader, IsModel, IsModelOf, KeepsReaders, armed_as}
use Rattle.threads_meaning.proofs.Alike.{tail_ruled}
use Rattle.threads_meaning.proofs.Totals.{total_kept}

-- ---- each part

pub entries_rest : (key : Key) (ps qs : List Pass) (start tail : ℕ) (es : List Entry) → AreEntries key ps start tail es → SameClaimed ps qs → SameCommitted ps qs → AreEntries key qs start tail es
entries_rest key ps qs start tail es a claimed frames = record {
  log = a.log;
  claimed = λ h. claimed h ∙ a.claimed h;
  alike = a.alike;
  frames = λ h. frames h ∙ a.frames h;
  tiles = a.tiles;
  are = a.are;
  legal = a.legal;
}

pub publishers_rest : (gone : List ℕ) (ps qs : List Pass) (armed retired : List Bool) → ArePublishers gone ps armed retired → ((n : ℕ) → n < 8 → total (armed_as n) qs ≡ total (armed_as n) ps) → ArePublishers gone qs armed retired
publishers_rest gone ps qs armed retired a same = record {
  are_armed = λ n lt. a.are_armed n lt ∙ ap (λ (x : ℕ). Some (nat_lt 0 x)) (sym (same n lt));
  are_retired = a.are_retired;
  living = λ n lt pos. a.living n lt (subst (λ (x : ℕ). 0 < x) (same n lt) pos);
}

-- each consumer and each keeper was one before
pub record SameReaders (words after : List ℕ) (ps qs : List Pass) (start cleaned : ℕ) (frames : List Placed) (readers : List (Option Consumer)) : Type 0 where
  pub words_same : (j : ℕ) → j < 8 → slice_index after (consumer_place j) ≡ slice_index words (consumer_place j)
  pub mine : (i : ℕ) (v : Pass) (r : Reading) → get_elem? qs i ≡ some v → Among r v.reading → r.number < 8 → HasReader readers r.number
  pub keeper : (i : ℕ) (v : Pass) → get_elem? qs i ≡ some v → v.keeping.right ≡ 1 → KeepsReaders start cleaned frames readers v.keeping

pub readers_rest : (words after : List ℕ) (ps qs : List Pass) (start cleaned : ℕ) (frames : List Placed) (readers : List (Option Consumer)) → AreReaders words ps start cleaned frames readers → SameReaders words after ps qs start cleaned frames readers → AreReaders after qs start cleaned frames readers
readers_rest words after ps qs start cleaned frames readers a s = record {
  eight = a.eight;
  standing = λ number c there. (let t = a.standing number c there in let low : number < 8 = subst (λ (x : ℕ). number < x) a.eight (slice_get_within readers number (Some c) there) in record { at = t.at ∙ sym (s.words_same number low); heard = t.heard; reached = t.reached });
  mine = s.mine;
  keeper = s.keeper;
}

-- ---- one pass

-- a pass that claims, commits, may add and is the same consumers, with what the keeper knows of them
pub record Quiet (start cleaned : ℕ) (frames : List Placed) (readers : List (Option Consumer)) (v w : Pass) : Type 0 where
  pub claims : w.right.claims ≡ v.right.claims
  pub frames_same : w.work.frames ≡ v.work.frames
  pub armed : w.right.armed ≡ v.right.armed
  pub number : w.number ≡ v.number
  pub reads : (r : Reading) → Among r w.reading → (x : Reading) × Among x v.reading × (x.number ≡ r.number)
  pub keeps : w.keeping.right ≡ 1 → (v.keeping.right ≡ 1) × (KeepsReaders start cleaned frames readers v.keeping → KeepsReaders start cleaned frames readers w.keeping)

pub armed_same : (v w : Pass) → w.right.armed ≡ v.right.armed → w.number ≡ v.number → (n : ℕ) → armed_as n w ≡ armed_as n v
armed_same v w armed number n = λ i. cond (eqb (number i) n) (armed i) 0

pub one_reads : (ps : List Pass) (start cleaned : ℕ) (frames : List Placed) (readers : List (Option Consumer)) (words : List ℕ) → AreReaders words ps start cleaned frames readers → (id : ℕ) (v w : Pass) → get_elem? ps id ≡ some v
    → ((r : Reading) → Among r w.reading → (x : Reading) × Among x v.reading × (x.number ≡ r.number)) → (i : ℕ) (u : Pass) (r : Reading) → get_elem? (set ps id w) i ≡ some u → Among r u.reading → r.number < 8 → HasReader readers r.number
one_reads ps start cleaned frames readers words a id v w at reads i u r e among low = ⊎_elim
    (λ (y : (i ≡ id) × (w ≡ u)). let x = reads r (subst (λ (z : Pass). Among r z.reading) (sym y.1) among) in subst (HasReader readers) x.2 (a.mine id v x.0 at x.1 (subst (λ (n : ℕ). n < 8) (sym x.2) low)))
    (λ (y : (i ≢ id) × (get_elem? ps i ≡ some u)). a.mine i u r y.1 among low)
    (at_set ps id i w u e)

pub one_keeps : (ps : List Pass) (start cleaned : ℕ) (frames : List Placed) (readers : List (Option Consumer)) (words : List ℕ) → AreReaders words ps start cleaned frames readers → (id : ℕ) (v w : Pass) → get_elem? ps id ≡ some v
    → (w.keeping.right ≡ 1 → (v.keeping.right ≡ 1) × (KeepsReaders start cleaned frames readers v.keeping → KeepsReaders start cleaned frames readers w.keeping)) → (i : ℕ) (u : Pass) → get_elem? (set ps id w) i ≡ some u → u.keeping.right ≡ 1 → KeepsReaders start cleaned frames readers u.keeping
one_keeps ps start cleaned frames readers words a id v w at keeps i u e one = ⊎_elim
    (λ (y : (i ≡ id) × (w ≡ u)). let k = keeps (ap (λ (z : Pass). z.keeping.right) y.1 ∙ one) in subst (λ (z : Pass). KeepsReaders start cleaned frames readers z.keeping) y.1 (k.1 (a.keeper id v at k.0)))
    (λ (y : (i ≢ id) × (get_elem? ps i ≡ some u)). a.keeper i u y.1 one)
    (at_set ps id i w u e)

pub one_readers : (words after : List ℕ) (ps : List Pass) (start cleaned : ℕ) (frames : List Placed) (readers : List (Option Consumer)) → AreReaders words ps start cleaned frames readers → (id : ℕ) (v w : Pass) → get_elem? ps id ≡ some v
    → ((j : ℕ) → j < 8 → slice_index after (consumer_place j) ≡ slice_index words (consumer_place j)) → ((r : Reading) → Among r w.reading → (x : Reading) × Among x v.reading × (x.number ≡ r.number))
    → (w.keeping.right ≡ 1 → (v.keeping.right ≡ 1) × (KeepsReaders start cleaned frames readers v.keeping → KeepsReaders start cleaned frames readers w.keeping)) → AreReaders after (set ps id w) start cleaned frames readers
one_readers words after ps start cleaned frames readers a id v w at same reads keeps = readers_rest words after ps (set ps id w) start cleaned frames readers a record {
  words_same = same;
  mine = one_reads ps start cleaned frames readers words a id v w at reads;
  keeper = one_keeps ps start cleaned frames readers words a id v w at keeps;
}

-- ---- the whole log

-- the words that the log's limit and its consumers are told by
pub record SameWords (words after : List ℕ) : Type 0 where
  pub limit : slice_index after limit_place ≡ slice_index words limit_place
  pub consumers : (j : ℕ) → j < 8 → slice_index after (consumer_place j) ≡ slice_index words (consumer_place j)

-- a state that the rule holds of, with parts that are the log's
pub modelled : (key : Key) (gone : List ℕ) (t : State (Unit {0}) View) (l : Log) → LogRuled key t → l.identity ≡ key.identity → l.start ≡ key.start → l.limit ≡ limit_in (slice_index t.words limit_place) → l.connected ≡ is_connected (slice_index t.words limit_place) → l.closed ≡ is_closed (slice_index t.words limit_place)
    → AreEntries key (map pass_in t.views) l.start l.tail l.entries → ArePublishers gone (map pass_in t.views) l.armed l.retired → AreReaders t.words (map pass_in t.views) l.start l.cleaned (committed l.entries) l.readers → IsModel key gone t.words (map pass_in t.views) l
modelled key gone t l q identity begins limit connected closed es ps rs = record {
  identity = identity;
  start = begins;
  tail = tail_ruled key t q es.log l.entries l.start l.tail begins es.claimed es.alike es.tiles;
  limit = limit;
  connected = connected;
  closed = closed;
  entries = es;
  publishers = ps;
  readers = rs;
}

-- a step of a quiet pass, which leaves these words
pub quiet : (key : Key) (gone : List ℕ) (s t : State (Unit {0}) View) (l : Log) → LogRuled key t → IsModelOf key gone s l → SameWords s.words t.words → (id : ℕ) (v w : Pass) → get_elem? (map pass_in s.views) id ≡ some v → map pass_in t.views ≡ set (map pass_in s.views) id w
    → Quiet l.start l.cleaned (committed l.entries) l.readers v w → IsModelOf key gone t l
quiet key gone s t l q k same id v w at passes y =
    let ps : List Pass = map pass_in s.views in
    modelled key gone t l q k.identity k.start (k.limit ∙ ap limit_in (sym same.limit)) (k.connected ∙ ap is_connected (sym same.limit)) (k.closed ∙ ap is_closed (sym same.limit))
    (subst (λ (qs : List Pass). AreEntries key qs l.start l.tail l.entries) (sym passes) (entries_rest key ps (set ps id w) l.start l.tail l.entries k.entries (λ h. total_kept (weight h) ps id v w at (ap (λ cs. total h (map entry_of cs)) y.claims)) (λ h. total_kept (committed_weight h) ps id v w at (ap (total h) y.frames_same))))
    (subst (λ (qs : List Pass). ArePublishers gone qs l.armed l.retired) (sym passes) (publishers_rest gone ps (set ps id w) l.armed l.retired k.publishers (λ n lt. total_kept (armed_as n) ps id v w at (armed_same v w y.armed y.number n))))
    (subst (λ (qs : List Pass). AreReaders t.words qs l.start l.cleaned (committed l.entries) l.readers) (sym passes) (one_readers s.words t.words ps l.start l.cleaned (committed l.entries) l.readers k.readers id v w at same.consumers y.reads y.keeps))
