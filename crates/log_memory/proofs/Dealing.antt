-- Seats that are dealt and joined keep the rule, where none of them has a part of a frame.
use Rattle.std.proofs.Common.{◌≡◌, ℕ, ◌+◌, ◌<◌, ◌⊎◌, inr, ⊎_elim, List, [], ◌∷◌, ◌++◌, map, set, sym, refl, ap, ◌∙◌, subst, arith}
use mathlib.Core.Option.{some, some-injective}
use lib.ListN.{get_elem?}
use Rattle.std.specs.Prelude.{slice_index}
use Rattle.std.proofs.lemmas.List.{map-append, map-set}
use Rattle.atomic_table.specs.Table.{Joins, Splits}
use Rattle.atomic_table.proofs.Lists.{at_longer, at_map, at_set, at_snoc, set_else}
use Rattle.theory.specs.Entry.{Entry, length_of}
use Rattle.theory.specs.Placed.{Among}
use Rattle.publication.specs.declared.pass.FrameWords.{FrameWords}
use Rattle.publication.specs.declared.pass.Pass.{Pass}
use Rattle.publication.specs.declared.pass.Reading.{Reading}
use Rattle.publication.specs.Steps.{Extent}
use Rattle.log_rule.specs.declared.claims.view.View.{View}
use Rattle.log_rule.specs.Claims.Events.{committed_weight}
use Rattle.log_rule.specs.Claims.Plays.{pass_in}
use Rattle.log_rule.specs.Claims.Rule.{weight}
use Rattle.log_rule.specs.Claims.Sums.{total}
use Rattle.log_rule.specs.Edges.{in_entry}
use Rattle.log_rule.specs.Kept.{IsThere}
use Rattle.log_rule.specs.Table.{LogRuled}
use Rattle.log_rule.proofs.Claimed.Begun.{split_total}
use Rattle.log_rule.proofs.Claimed.Totals.{total_set}
use Rattle.log_memory.specs.declared.view.LogView.{LogView}
use Rattle.log_memory.specs.declared.view.Site.{Site}
use Rattle.log_memory.specs.Rule.{Board, IsBeyond, IsHeld, IsParked, IsWithReader, KnowsRoom, LogMemoryRuled, passes_of, stream_state, view_in}
use Rattle.log_memory.specs.Seats.{dealt_with, joining, spent_with, viewing}
use Rattle.log_memory.specs.Steps.{IsIdle, SawBehind, StandsBehind}
use Rattle.log_memory.proofs.Facts.{pass_at}
use Rattle.log_memory.proofs.Lifting.{beyond_more, passes_set}
use Rattle.log_memory.proofs.Resting.{IsStill, none_parked, parked_set, rests}

-- a seat's consumers, and what it knows as the keeper, come from a seat before
pub record ComesFrom (v w : View) : Type 0 where
  pub readings : (r : Reading) → Among r w.pass.reading → r.number < 8 → StandsBehind v r.position
  pub keeper : w.pass.keeping.right ≡ 1 → v.pass.keeping.right ≡ 1
  pub cleaned : w.pass.keeping.right ≡ 1 → w.pass.keeping.cleaned ≡ v.pass.keeping.cleaned
  pub seen : w.pass.keeping.right ≡ 1 → (j : ℕ) → IsThere w.pass.keeping.there j → SawBehind v (slice_index w.pass.keeping.positions j)

module _ (t : Site) (s : Board) (r : LogMemoryRuled t s) (id : ℕ) (v : LogView) (at : get_elem? s.views id ≡ some v) (w : LogView) (room : w.room ≡ v.room) (from : ComesFrom v.view w.view) where
  saw : (p : ℕ) → SawBehind v.view p → IsBeyond t (passes_of s.views) (r.freed + r.out) p
  saw p a = beyond_more t (passes_of s.views) (r.freed + r.out) (slice_index v.view.pass.keeping.positions a.1.0) p a.1.2 ((r.memory.keeper id v at a.0).seen a.1.0 a.1.1)

  pub comes_beyond : (x : Reading) → Among x w.view.pass.reading → x.number < 8 → IsBeyond t (passes_of s.views) (r.freed + r.out) x.position
  comes_beyond x among low = ⊎_elim
      (λ a. beyond_more t (passes_of s.views) (r.freed + r.out) a.0.position x.position a.3 (r.memory.readers id v a.0 at a.1 a.2))
      (λ a. saw x.position a)
      (from.readings x among low)

  pub comes_room : w.view.pass.keeping.right ≡ 1 → KnowsRoom t (passes_of s.views) r.freed r.out w
  comes_room one = let k = r.memory.keeper id v at (from.keeper one) in record {
    freed_is = ap (λ x. x.freed) room ∙ k.freed_is;
    out_is = ap (λ x. x.out) room ∙ k.out_is;
    cleaned = (let e = from.cleaned one in let c = k.cleaned in omega arith);
    seen = λ j there. saw (slice_index w.view.pass.keeping.positions j) (from.seen one j there);
  }

-- the words are as they were
module _ (t : Site) (s : Board) (r : LogMemoryRuled t s) (views : List LogView) where
  pub as_they_were : LogRuled t.key (stream_state r.stream views) → IsStill (passes_of s.views) (passes_of views) → ((p j : ℕ) → IsWithReader s p j → IsWithReader (record { words = s.words; homes = s.homes; views = views }) p j)
      → ((i : ℕ) (x : LogView) → get_elem? views i ≡ some x → x.part.has ≡ 1 → IsHeld t (passes_of s.views) r.rounds x)
      → ((i : ℕ) (x : LogView) (y : Reading) → get_elem? views i ≡ some x → Among y x.view.pass.reading → y.number < 8 → IsBeyond t (passes_of s.views) (r.freed + r.out) y.position)
      → ((i : ℕ) (x : LogView) → get_elem? views i ≡ some x → x.view.pass.keeping.right ≡ 1 → KnowsRoom t (passes_of s.views) r.freed r.out x)
      → ((i : ℕ) (x : LogView) (f : FrameWords) → get_elem? views i ≡ some x → Among f x.parked → IsParked t s x f)
      → LogMemoryRuled t (record { words = s.words; homes = s.homes; views = views })
  as_they_were q still with_reader held readers keeper parked = rests t s r s.words r.stream views record {
    ruled = q;
    look = still;
    long = refl;
    small = r.words.small;
    controls = r.words.controls;
    heads = λ i far. refl;
    ahead = r.memory.ahead;
    with_reader = with_reader;
    held = held;
    readers = readers;
    keeper = keeper;
    parked = parked;
  }

none_has : (v : LogView) (n : ℕ) → v.part.has ≡ n → v.part.has ≡ 0 → n ≡ 1 → ⊥
none_has v n e idle one = omega arith

-- ---- a seat is cut in two

module _ (t : Site) (id : ℕ) (v : LogView) (left right : View → View) (idle : IsIdle v) (fl : ComesFrom v.view (left v.view)) (fr : ComesFrom v.view (right v.view))
    (claims : (h : Entry → ℕ) → weight h (left v.view).pass + weight h (right v.view).pass ≡ weight h v.view.pass) (frames : (h : FrameWords → ℕ) → committed_weight h (left v.view).pass + committed_weight h (right v.view).pass ≡ committed_weight h v.view.pass) where
  abbrev l : LogView
  l = viewing left v

  abbrev q : LogView
  q = dealt_with right v

  passes_cut : (views : List LogView) → passes_of (set views id l ++ q ∷ []) ≡ set (passes_of views) id (left v.view).pass ++ (right v.view).pass ∷ []
  passes_cut views = ap (map pass_in) (map-append view_in (set views id l) (q ∷ [])) ∙ map-append pass_in (map view_in (set views id l)) (map view_in (q ∷ [])) ∙ ap (λ (x : List Pass). x ++ (right v.view).pass ∷ []) (passes_set views id l)

  pub splits : Splits (LogRuled t.key) id v.view (left v.view) (right v.view) → Splits (LogMemoryRuled t) id v (viewing left v) (dealt_with right v)
  splits go s r at =
      let there = at_map view_in s.views id v at in let g = go (stream_state r.stream s.views) r.ruled there in
      let same : set (map view_in s.views) id (left v.view) ++ right v.view ∷ [] ≡ map view_in (set s.views id l ++ q ∷ []) = sym (map-append view_in (set s.views id l) (q ∷ []) ∙ ap (λ (x : List View). x ++ right v.view ∷ []) (map-set view_in s.views id l)) in
      let here = pass_at s.views id v at in
      as_they_were t s r (set s.views id l ++ q ∷ []) (subst (λ (x : List View). LogRuled t.key (record { words = r.stream; homes = []; views = x })) same g)
      record {
        length = ap (total (weight length_of)) (passes_cut s.views) ∙ split_total (weight length_of) (passes_of s.views) id v.view.pass (left v.view).pass (right v.view).pass here (claims length_of);
        claimed = λ h. ap (total (weight (in_entry h))) (passes_cut s.views) ∙ split_total (weight (in_entry h)) (passes_of s.views) id v.view.pass (left v.view).pass (right v.view).pass here (claims (in_entry h));
        committed = λ h. ap (total (committed_weight h)) (passes_cut s.views) ∙ split_total (committed_weight h) (passes_of s.views) id v.view.pass (left v.view).pass (right v.view).pass here (frames h);
      }
      (λ p j b. record {
        seat = b.seat;
        view = b.view;
        there = at_longer (set s.views id l) (q ∷ []) b.seat b.view (set_else s.views id b.seat l (λ e. none_has v b.view.part.has (ap (λ (x : LogView). x.part.has) (some-injective v b.view (sym at ∙ ap (get_elem? s.views) (sym e) ∙ b.there))) idle.0 b.part.has) ∙ b.there);
        part = b.part;
      })
      (λ i x e has. ⊎_elim
      (λ a. ⊎_elim
      (λ z. absurd (none_has v x.part.has (ap (λ (y : LogView). y.part.has) z.1) idle.0 has))
      (λ z. r.memory.held i x z.1 has)
      (at_set s.views id i l x a))
      (λ z. absurd (zero_one x.part.has (ap (λ (y : LogView). y.part.has) z) has))
      (at_snoc (set s.views id l) q x i e))
      (λ i x y e among low. ⊎_elim
      (λ a. ⊎_elim
      (λ z. comes_beyond t s r id v at l refl fl y (subst (λ (w : LogView). Among y w.view.pass.reading) (sym z.1) among) low)
      (λ z. r.memory.readers i x y z.1 among low)
      (at_set s.views id i l x a))
      (λ z. comes_beyond t s r id v at q refl fr y (subst (λ (w : LogView). Among y w.view.pass.reading) (sym z) among) low)
      (at_snoc (set s.views id l) q x i e))
      (λ i x e one. ⊎_elim
      (λ a. ⊎_elim
      (λ z. subst (KnowsRoom t (passes_of s.views) r.freed r.out) z.1 (comes_room t s r id v at l refl fl (subst (λ (w : LogView). w.view.pass.keeping.right ≡ 1) (sym z.1) one)))
      (λ z. r.memory.keeper i x z.1 one)
      (at_set s.views id i l x a))
      (λ z. subst (KnowsRoom t (passes_of s.views) r.freed r.out) z (comes_room t s r id v at q refl fr (subst (λ (w : LogView). w.view.pass.keeping.right ≡ 1) (sym z) one)))
      (at_snoc (set s.views id l) q x i e))
      (λ i x f e among. ⊎_elim
      (λ a. parked_set t s s id l (none_parked t s l idle.1) (λ j y g ne there' among'. r.memory.parked j y g there' among') i x f a among)
      (λ z. absurd (subst (λ (w : LogView). Among f w.parked) (sym z) among))
      (at_snoc (set s.views id l) q x i e))
    where
      zero_one : (n : ℕ) → 0 ≡ n → n ≡ 1 → ⊥
      zero_one n e one = omega arith

-- ---- one takes in what the other has

-- its consumers come from either
pub record ComesFromBoth (v x w : View) : Type 0 where
  pub readings : (r : Reading) → Among r w.pass.reading → r.number < 8 → StandsBehind v r.position ⊎ StandsBehind x r.position
  pub keeper : w.pass.keeping.right ≡ 1 → v.pass.keeping.right ≡ 1
  pub cleaned : w.pass.keeping.cleaned ≡ v.pass.keeping.cleaned
  pub seen : w.pass.keeping.right ≡ 1 → (j : ℕ) → IsThere w.pass.keeping.there j → SawBehind v (slice_index w.pass.keeping.positions j)

module _ (t : Site) (id other : ℕ) (v x : LogView) (both : View → View → View) (spent : View) (idle : IsIdle v) (idle' : x.part.has ≡ 0) (opens : (f : FrameWords) → Among f x.view.pass.work.drafts → Among f (both v.view x.view).pass.work.drafts) (from : ComesFromBoth v.view x.view (both v.view x.view)) (no_reading : (r : Reading) → Among r spent.pass.reading → r.number < 8 → ⊥) (no_keeper : spent.pass.keeping.right ≡ 1 → ⊥)
    (lengths : weight length_of (both v.view x.view).pass + weight length_of spent.pass ≡ weight length_of v.view.pass + weight length_of x.view.pass)
    (claims : (h : Extent → ℕ) → weight (in_entry h) (both v.view x.view).pass + weight (in_entry h) spent.pass ≡ weight (in_entry h) v.view.pass + weight (in_entry h) x.view.pass)
    (frames : (h : FrameWords → ℕ) → committed_weight h (both v.view x.view).pass + committed_weight h spent.pass ≡ committed_weight h v.view.pass + committed_weight h x.view.pass) where
  abbrev b : LogView
  b = joining both v x

  abbrev e0 : LogView
  e0 = spent_with spent

  passes_joined : (views : List LogView) → passes_of (set (set views id b) other e0) ≡ set (set (passes_of views) id (both v.view x.view).pass) other spent.pass
  passes_joined views = passes_set (set views id b) other e0 ∙ ap (λ (l : List Pass). set l other spent.pass) (passes_set views id b)

  join_total : (f : Pass → ℕ) (ps : List Pass) → get_elem? ps id ≡ some v.view.pass → get_elem? (set ps id (both v.view x.view).pass) other ≡ some x.view.pass → f (both v.view x.view).pass + f spent.pass ≡ f v.view.pass + f x.view.pass → total f (set (set ps id (both v.view x.view).pass) other spent.pass) ≡ total f ps
  join_total f ps at at' e = let a = total_set f ps id v.view.pass (both v.view x.view).pass at in let c = total_set f (set ps id (both v.view x.view).pass) other x.view.pass spent.pass at' in
      sum (total f (set (set ps id (both v.view x.view).pass) other spent.pass)) (f x.view.pass) (total f (set ps id (both v.view x.view).pass)) (f spent.pass) (f v.view.pass) (total f ps) (f (both v.view x.view).pass) c a e
    where
      sum : (y w m q v p b : ℕ) → y + w ≡ m + q → m + v ≡ p + b → b + q ≡ v + w → y ≡ p
      sum y w m q v p b c a e = omega arith

  pub joins : Joins (LogRuled t.key) id v.view other x.view (both v.view x.view) spent → Joins (LogMemoryRuled t) id v other x (joining both v x) (spent_with spent)
  joins go s r at ne at' =
      let there = at_map view_in s.views id v at in
      let there' : get_elem? (set (map view_in s.views) id (both v.view x.view)) other ≡ some x.view = subst (λ (l : List View). get_elem? l other ≡ some x.view) (map-set view_in s.views id b) (at_map view_in (set s.views id b) other x at') in
      let g = go (stream_state r.stream s.views) r.ruled there ne there' in
      let same : set (set (map view_in s.views) id (both v.view x.view)) other spent ≡ map view_in (set (set s.views id b) other e0) = sym (map-set view_in (set s.views id b) other e0 ∙ ap (λ (l : List View). set l other spent) (map-set view_in s.views id b)) in
      let was : get_elem? s.views other ≡ some x = sym (set_else s.views id other b ne) ∙ at' in
      let here = pass_at s.views id v at in let here' : get_elem? (set (passes_of s.views) id (both v.view x.view).pass) other ≡ some x.view.pass = set_else (passes_of s.views) id other (both v.view x.view).pass ne ∙ pass_at s.views other x was in
      as_they_were t s r (set (set s.views id b) other e0) (subst (λ (l : List View). LogRuled t.key (record { words = r.stream; homes = []; views = l })) same g)
      record {
        length = ap (total (weight length_of)) (passes_joined s.views) ∙ join_total (weight length_of) (passes_of s.views) here here' lengths;
        claimed = λ h. ap (total (weight (in_entry h))) (passes_joined s.views) ∙ join_total (weight (in_entry h)) (passes_of s.views) here here' (claims h);
        committed = λ h. ap (total (committed_weight h)) (passes_joined s.views) ∙ join_total (committed_weight h) (passes_of s.views) here here' (frames h);
      }
      (λ p j k. record {
        seat = k.seat;
        view = k.view;
        there = set_else (set s.views id b) other k.seat e0 (λ e. none_has x k.view.part.has (ap (λ (y : LogView). y.part.has) (some-injective x k.view (sym was ∙ ap (get_elem? s.views) (sym e) ∙ k.there))) idle' k.part.has)
            ∙ set_else s.views id k.seat b (λ e. none_has v k.view.part.has (ap (λ (y : LogView). y.part.has) (some-injective v k.view (sym at ∙ ap (get_elem? s.views) (sym e) ∙ k.there))) idle.0 k.part.has) ∙ k.there;
        part = k.part;
      })
      (λ i y e has. ⊎_elim
      (λ z. absurd (zero_one y.part.has (ap (λ (w : LogView). w.part.has) z.1) has))
      (λ z. ⊎_elim
      (λ a. absurd (none_has v y.part.has (ap (λ (w : LogView). w.part.has) a.1) idle.0 has))
      (λ a. r.memory.held i y a.1 has)
      (at_set s.views id i b y z.1))
      (at_set (set s.views id b) other i e0 y e))
      (λ i y k e among low. ⊎_elim
      (λ z. absurd (no_reading k (subst (λ (w : LogView). Among k w.view.pass.reading) (sym z.1) among) low))
      (λ z. ⊎_elim
      (λ a. ⊎_elim
      (λ c. stands s r id v at k.position c)
      (λ c. stands s r other x was k.position c)
      (from.readings k (subst (λ (w : LogView). Among k w.view.pass.reading) (sym a.1) among) low))
      (λ a. r.memory.readers i y k a.1 among low)
      (at_set s.views id i b y z.1))
      (at_set (set s.views id b) other i e0 y e))
      (λ i y e one. ⊎_elim
      (λ z. absurd (no_keeper (subst (λ (w : LogView). w.view.pass.keeping.right ≡ 1) (sym z.1) one)))
      (λ z. ⊎_elim
      (λ a. subst (KnowsRoom t (passes_of s.views) r.freed r.out) a.1 (own s r at (subst (λ (w : LogView). w.view.pass.keeping.right ≡ 1) (sym a.1) one)))
      (λ a. r.memory.keeper i y a.1 one)
      (at_set s.views id i b y z.1))
      (at_set (set s.views id b) other i e0 y e))
      (λ i y f e among. ⊎_elim
      (λ z. absurd (subst (λ (w : LogView). Among f w.parked) (sym z.1) among))
      (λ z. parked_set t s s id b (λ g among'. let a = r.memory.parked other x g was among' in record { draft = opens g a.draft; room = a.room }) (λ j w g ne there' among'. r.memory.parked j w g there' among') i y f z.1 among)
      (at_set (set s.views id b) other i e0 y e))
    where
      zero_one : (n : ℕ) → 0 ≡ n → n ≡ 1 → ⊥
      zero_one n e one = omega arith

      stands : (s : Board) (r : LogMemoryRuled t s) (i : ℕ) (w : LogView) → get_elem? s.views i ≡ some w → (p : ℕ) → StandsBehind w.view p → IsBeyond t (passes_of s.views) (r.freed + r.out) p
      stands s r i w at p = ⊎_elim
          (λ a. beyond_more t (passes_of s.views) (r.freed + r.out) a.0.position p a.3 (r.memory.readers i w a.0 at a.1 a.2))
          (λ a. beyond_more t (passes_of s.views) (r.freed + r.out) (slice_index w.view.pass.keeping.positions a.1.0) p a.1.2 ((r.memory.keeper i w at a.0).seen a.1.0 a.1.1))

      own : (s : Board) (r : LogMemoryRuled t s) → get_elem? s.views id ≡ some v → (both v.view x.view).pass.keeping.right ≡ 1 → KnowsRoom t (passes_of s.views) r.freed r.out (joining both v x)
      own s r at one = let k = r.memory.keeper id v at (from.keeper one) in record {
        freed_is = k.freed_is;
        out_is = k.out_is;
        cleaned = (let e = from.cleaned in let c = k.cleaned in omega arith);
        seen = λ j is. stands s r id v at (slice_index (both v.view x.view).pass.keeping.positions j) (inr (from.seen one j is));
      }
