-- A publisher is handed over to another: the model's number is retired.
use Rattle.std.proofs.Common.{◌≡◌, ◌≢◌, inl, inr, ⊎_elim, ℕ, zero, suc, ◌+◌, ◌<◌, ◌≤◌, Bool, true, false, cond, eqb, List, [], ◌∷◌, ◌++◌, map, set, sym, refl, ap, ◌∙◌, subst, eq-eqb, ne_eqb, lt_of_not-le, arith}
use mathlib.Core.Option.{some, some-injective, some-ne-none}
use mathlib.Core.Logic.{dite}
use native.Mathlib.Decide.{dec_le, ℕ_discrete}
use lib.ListN.{get_elem?}
use Rattle.std.specs.List.{AllByRecursion}
use Rattle.std.specs.Prelude.{slice_get, slice_set, nat_lt, ◌||◌, Some}
use Rattle.atomic_table.specs.Table.{State}
use Rattle.atomic_table.proofs.Lists.{at_map}
use Rattle.theory.specs.Bytes.{Identity}
use Rattle.theory.specs.Entry.{Entry, committed}
use Rattle.theory.specs.Placed.{Among, Placed, place_all}
use Rattle.theory.specs.Refusal.{is_closed, is_connected, limit_in}
use Rattle.theory.specs.Tiling.{Tiles, handed}
use Rattle.theory.proofs.Lists.{all_map}
use Rattle.position.specs.Words.{IsLegal}
use Rattle.publication.specs.declared.pass.ClaimRange.{ClaimRange}
use Rattle.publication.specs.declared.pass.FrameWords.{FrameWords}
use Rattle.publication.specs.declared.pass.Pass.{Pass}
use Rattle.log_rule.specs.declared.claims.view.View.{View}
use Rattle.log_rule.specs.declared.rule.Key.{Key}
use Rattle.log_rule.specs.Claims.Closing.{handing_seats, owned_by, spent_seat}
use Rattle.log_rule.specs.Claims.Events.{committed_weight}
use Rattle.log_rule.specs.Claims.Packs.{limit_place}
use Rattle.log_rule.specs.Claims.Plays.{pass_in}
use Rattle.log_rule.specs.Claims.Rule.{entries_of, entry_of, parts_of, weight}
use Rattle.log_rule.specs.Claims.Sums.{total}
use Rattle.log_rule.specs.Numbers.{is_number, numbers_as}
use Rattle.log_rule.specs.Table.{LogRuled}
use Rattle.log_rule.proofs.Claimed.Memories.{maps_append}
use Rattle.log_rule.proofs.Claimed.Totals.{both_at, total_append, total_map, total_set}
use Rattle.log_rule.proofs.Known.{among_total}
use Rattle.model.specs.Log.{Log, LogStep, Retire}
use Rattle.model.proofs.LogSteps.{log_step}
use Rattle.threads_meaning.specs.Modelled.{AreEntries, ArePublishers, AreReaders, IsAborted, IsAs, IsModelOf, armed_as, is_handed, spelled}
use Rattle.threads_meaning.specs.Seats.{HandsOver}
use Rattle.threads_meaning.proofs.Alike.{alike_both}
use Rattle.threads_meaning.proofs.Parts.{armed_none, armed_other, get_else, get_put, kept_entries}
use Rattle.threads_meaning.proofs.Resting.{modelled}
use Rattle.threads_meaning.proofs.Seats.{has_nothing, has_of, itself, join_passes, join_readers}
use Rattle.threads_meaning.proofs.Totals.{at_other, total_join, total_none}

-- ---- sums

total_differ : {A : Type 0} (f g : A → ℕ) (xs : List A) (i : ℕ) (w : A) → get_elem? xs i ≡ some w → ((j : ℕ) (u : A) → j ≢ i → get_elem? xs j ≡ some u → f u ≡ g u) → total f xs + g w ≡ total g xs + f w
total_differ f g [] i w at same = absurd (some-ne-none w (sym at))
total_differ f g (x ∷ xs) zero w at same = let e : x ≡ w = some-injective x w at in let a : f x ≡ f w = ap f e in let c : g x ≡ g w = ap g e in let r : total f xs ≡ total g xs = rest xs (λ j u. same (suc j) u (λ z. omega arith)) in sums (f x) (g x) (f w) (g w) (total f xs) (total g xs) a c r
  where
    rest : {A : Type 0} {f g : A → ℕ} (xs : List A) → ((j : ℕ) (u : A) → get_elem? xs j ≡ some u → f u ≡ g u) → total f xs ≡ total g xs
    rest [] same = refl
    rest (x ∷ xs) same = let a = same 0 x refl in let r = rest xs (λ j. same (suc j)) in omega arith

    sums : (fx gx fw gw fs gs : ℕ) → fx ≡ fw → gx ≡ gw → fs ≡ gs → fx + fs + gw ≡ gx + gs + fw
    sums fx gx fw gw fs gs a b c = omega arith
total_differ f g (x ∷ xs) (suc i) w at same = let a = same 0 x (λ z. omega arith) refl in let r = total_differ f g xs i w at (λ j u ne. same (suc j) u (λ z. ne (omega arith))) in sums (f x) (g x) (f w) (g w) (total f xs) (total g xs) a r
  where
    sums : (fx gx fw gw fs gs : ℕ) → fx ≡ gx → fs + gw ≡ gs + fw → fx + fs + gw ≡ gx + gs + fw
    sums fx gx fw gw fs gs a r = omega arith

-- ---- claims of another

-- none of them is under this number
weight_else : (a b : ℕ) (h : Entry → ℕ) (cs : List ClaimRange) → AllByRecursion (λ c. c.owner ≢ b) cs → total (λ e. h (handed a b e)) (map entry_of cs) ≡ total h (map entry_of cs)
weight_else a b h [] all = refl
weight_else a b h (c ∷ cs) all =
    let one : handed a b (entry_of c) ≡ entry_of c = ap (λ (t : Bool). record (entry_of c) { owner = cond t a c.owner }) (ne_eqb c.owner b all.0) in
    (λ i. h (one i) + weight_else a b h cs all.1 i)

weight_here : (a b : ℕ) (h : Entry → ℕ) (cs : List ClaimRange) → AllByRecursion (λ c. c.owner ≡ b) cs → total (λ e. h (handed a b e)) (map entry_of cs) ≡ total h (map entry_of (map (owned_by a) cs))
weight_here a b h [] all = refl
weight_here a b h (c ∷ cs) all =
    let one : handed a b (entry_of c) ≡ entry_of (owned_by a c) = ap (λ (t : Bool). record (entry_of c) { owner = cond t a c.owner }) (eq-eqb c.owner b all.0) in
    (λ i. h (one i) + weight_here a b h cs all.1 i)

all_else : (b : ℕ) (ns : List ℕ) (cs : List ClaimRange) → (Among b ns → ⊥) → AllByRecursion (λ c. Among c.owner ns) cs → AllByRecursion (λ c. c.owner ≢ b) cs
all_else b ns [] not all = tt
all_else b ns (c ∷ cs) not all = ((λ e. not (subst (λ (x : ℕ). Among x ns) e all.0)), all_else b ns cs not all.1)

committed_handed : (a b : ℕ) (es : List Entry) → committed (map (handed a b) es) ≡ committed es
committed_handed a b [] = refl
committed_handed a b (e ∷ es) = ap (λ (ss : List Placed). place_all e.start e.frames ++ ss) (committed_handed a b es)

handed_as : (a b : ℕ) (c e : Entry) → IsAs c e → IsAs (handed a b c) (handed a b e)
handed_as a b c e is = record {
  start = is.start;
  owner = ap (λ (n : ℕ). cond (eqb n b) a n) is.owner;
  cuts = is.cuts;
  padding = ⊎_elim (λ (p : e.padding ≡ c.padding). inl p) (λ (p : IsAborted c e). inr record { message = p.message; padding = p.padding; frames = p.frames }) is.padding;
}

has_number : (v : Pass) (n : ℕ) → Among n v.right.numbers → 1 ≤ numbers_as n v
has_number v n among = let a = among_total (is_number n) v.right.numbers n among in let one : is_number n n ≡ 1 = ap (λ (b : Bool). cond b 1 0) (eq-eqb n n refl) in omega arith

module _ (key : Key) (gone : List ℕ) (s t : State (Unit {0}) View) (l : Log) (q : LogRuled key s) (q' : LogRuled key t) (k : IsModelOf key gone s l) (kept number : ℕ) (y : HandsOver key gone s kept number t) where
  there : get_elem? (map pass_in s.views) y.takes.other ≡ some y.w.pass
  there = at_map pass_in s.views y.takes.other y.w y.takes.there

  at : get_elem? (map pass_in s.views) y.takes.id ≡ some y.v.pass
  at = at_map pass_in s.views y.takes.id y.v y.takes.at

  -- no other pass has its number
  others_not : (j : ℕ) (u : Pass) → j ≢ y.takes.other → get_elem? (map pass_in s.views) j ≡ some u → Among y.w.pass.number u.right.numbers → ⊥
  others_not j u ne e among =
      let n : ℕ = y.w.pass.number in let two = both_at (numbers_as n) (map pass_in s.views) y.takes.other j y.w.pass u ne there e in let one = q.numbered.single n in
      clash (numbers_as n y.w.pass) (numbers_as n u) (total (numbers_as n) (map pass_in s.views)) (has_number y.w.pass n y.numbers.1) (has_number u n among) two one
    where
      clash : (a b t : ℕ) → 1 ≤ a → 1 ≤ b → a + b ≤ t → t ≤ 1 → ⊥
      clash a b t p q le one = omega arith

  -- nor all parts
  few_parts : (j : ℕ) (u : Pass) → j ≢ y.takes.other → get_elem? (map pass_in s.views) j ≡ some u → u.right.parts < 1024
  few_parts j u ne e = let two = both_at parts_of (map pass_in s.views) y.takes.other j y.w.pass u ne there e in let all = q.ruled.claims.parted in let some' = y.parts.1 in
      less y.w.pass.right.parts u.right.parts (total parts_of (map pass_in s.views)) two all some'
    where
      less : (w u t : ℕ) → w + u ≤ t → t ≡ 1024 → 0 < w → u < 1024
      less w u t le e pos = omega arith

  unarmed : (j : ℕ) (u : Pass) → get_elem? (map pass_in s.views) j ≡ some u → armed_as y.w.pass.number u ≡ 0
  unarmed j u e = dite (ℕ_discrete j y.takes.other)
      (λ here. let same : y.w.pass ≡ u = some-injective y.w.pass u (sym there ∙ ap (get_elem? (map pass_in s.views)) (sym here) ∙ e) in armed_none y.w.pass.number u (ap (λ (p : Pass). p.right.armed) (sym same) ∙ y.idle.1))
      (λ ne. dite (ℕ_discrete u.number y.w.pass.number)
      (λ named. dite (dec_le 1 u.right.armed)
      (λ pos. let once = (q.ruled.claims.each j u e).right.once in absurd (others_not j u ne e (subst (λ (x : ℕ). Among x u.right.numbers) named ((q.numbered.each j u e).armed (few_parts j u ne e) (most u.right.armed pos once)))))
      (λ none. armed_none y.w.pass.number u (least u.right.armed (lt_of_not-le none))))
      (λ differs. armed_other y.w.pass.number u differs))
    where
      most : (n : ℕ) → 1 ≤ n → n ≤ 1 → n ≡ 1
      most n le ge = omega arith

      least : (n : ℕ) → n < 1 → n ≡ 0
      least n lt = omega arith

  -- what is claimed then
  claimed_then : (h : Entry → ℕ) → total (weight h) (set (set (map pass_in s.views) y.takes.id (handing_seats y.v y.w).pass) y.takes.other (spent_seat key.identity key.start).pass) ≡ total h (map (handed y.v.pass.number y.w.pass.number) k.entries.log)
  claimed_then h =
      let ps : List Pass = map pass_in s.views in let v : Pass = y.v.pass in let w : Pass = y.w.pass in let a : ℕ = v.number in let b : ℕ = w.number in let both : Pass = (handing_seats y.v y.w).pass in let spent : Pass = (spent_seat key.identity key.start).pass in
      let f : Pass → ℕ = weight (λ e. h (handed a b e)) in
      let one = total_set (weight h) ps y.takes.id v both at in let two = total_set (weight h) (set ps y.takes.id both) y.takes.other w spent (at_other ps y.takes.id y.takes.other both w y.takes.apart there) in
      let sum : weight h both ≡ weight h v + total h (map entry_of (map (owned_by a) w.right.claims)) = ap (total h) (maps_append entry_of v.right.claims (map (owned_by a) w.right.claims)) ∙ total_append h (entries_of v) (map entry_of (map (owned_by a) w.right.claims)) in
      let mine : f w ≡ total h (map entry_of (map (owned_by a) w.right.claims)) = weight_here a b h w.right.claims y.owned in
      let rest = total_differ f (weight h) ps y.takes.other w there (λ j u ne e. weight_else a b h u.right.claims (all_else b u.right.numbers u.right.claims (others_not j u ne e) ((q.numbered.each j u e).claims (few_parts j u ne e)))) in
      sums (total (weight h) (set (set ps y.takes.id both) y.takes.other spent)) (total (weight h) (set ps y.takes.id both)) (total (weight h) ps) (total f ps) (weight h v) (weight h w) (weight h both) (f w) (total h (map entry_of (map (owned_by a) w.right.claims))) one two sum mine rest
      ∙ k.entries.claimed (λ e. h (handed a b e)) ∙ sym (total_map h (handed a b) k.entries.log)
    where
      sums : (all most t f v w c fw r : ℕ) → most + v ≡ t + c → all + w ≡ most + 0 → c ≡ v + r → fw ≡ r → f + w ≡ t + fw → all ≡ f
      sums all most t f v w c fw r a b d e g = omega arith

  pub hands_over : (m : Log) × LogStep [] l (Retire kept number) m × IsModelOf key (number ∷ gone) t m
  hands_over =
      let ps : List Pass = map pass_in s.views in let v : Pass = y.v.pass in let w : Pass = y.w.pass in let a : ℕ = v.number in let b : ℕ = w.number in let both : View = handing_seats y.v y.w in let spent : View = spent_seat key.identity key.start in
      let d = y.takes in let qs : List Pass = set (set ps d.id both.pass) d.other spent.pass in let g : Entry → Entry = handed a b in
      let low_a : a < 8 = (q.ruled.claims.each d.id v at).number in let low_b : b < 8 = (q.ruled.claims.each d.other w there).number in
      let live_a : slice_get l.retired a ≡ Some false = k.publishers.are_retired a low_a ∙ ap Some (ap (is_handed gone) (sym y.kept_is) ∙ y.living.0) in
      let live_b : slice_get l.retired b ≡ Some false = k.publishers.are_retired b low_b ∙ ap Some (ap (is_handed gone) (sym y.number_is) ∙ y.living.1) in
      let none : total (armed_as b) ps ≡ 0 = total_none (armed_as b) ps unarmed in
      let off : slice_get l.armed b ≡ Some false = k.publishers.are_armed b low_b ∙ ap (λ (n : ℕ). Some (nat_lt 0 n)) none in
      let apart : a ≡ b → ⊥ = λ e. others_not d.id v (λ z. d.apart (sym z)) at (subst (λ (n : ℕ). Among n v.right.numbers) e y.numbers.0) in
      let m : Log = record l { entries = map g l.entries; retired = slice_set l.retired b true } in
      let step : LogStep [] l (Retire a b) m = ((low_a, live_a), (low_b, live_b), apart, off, refl) in
      let grown = log_step [] (record l { readers = [] }) (Retire a b) (record m { readers = [] }) (kept_entries key s q gone l k) ((low_a, live_a), (low_b, live_b), apart, off, refl) in
      let passes = join_passes key gone s t l q' k y.v y.w both spent d in
      let same : committed m.entries ≡ committed l.entries = committed_handed a b l.entries in
      let armed : (n : ℕ) → total (armed_as n) qs ≡ total (armed_as n) ps = λ n. total_join (armed_as n) ps d.id d.other v w both.pass spent.pass at d.apart there (nones (armed_as n both.pass) (armed_as n spent.pass) (armed_as n v) (armed_as n w) (armed_none n both.pass y.idle.0) (armed_none n spent.pass refl) (armed_none n v y.idle.0) (armed_none n w y.idle.1)) in
      let word = sym (d.words limit_place (omega arith)) in
      subst (λ (x : ℕ × ℕ). (m : Log) × LogStep [] l (Retire x.0 x.1) m × IsModelOf key (x.1 ∷ gone) t m) (λ i. (sym y.kept_is i, sym y.number_is i)) (
        m,
        step,
        modelled key (b ∷ gone) t m q' k.identity k.start (k.limit ∙ ap limit_in word) (k.connected ∙ ap is_connected word) (k.closed ∙ ap is_closed word)
            (subst (λ (us : List Pass). AreEntries key us m.start m.tail m.entries) (sym passes) record {
              log = map g k.entries.log;
              claimed = claimed_then;
              alike = alike_both g g k.entries.log l.entries k.entries.alike (handed_as a b);
              frames = λ h. total_join (committed_weight h) ps d.id d.other v w both.pass spent.pass at d.apart there (frames_sum h v.work.frames w.work.frames) ∙ k.entries.frames h ∙ ap (λ (ss : List Placed). total h (map (spelled key.identity) ss)) (sym same);
              tiles = subst (λ (i : Identity). Tiles i.geometry.term_length m.start m.tail m.entries) k.identity grown.kept.tiles;
              are = grown.kept.entries;
              legal = all_map (λ (e : Entry). AllByRecursion (IsLegal key.identity.geometry) e.frames) g l.entries (λ e _ is. is) k.entries.legal;
            })
            (subst (λ (us : List Pass). ArePublishers (b ∷ gone) us m.armed m.retired) (sym passes) record {
              are_armed = λ n lt. k.publishers.are_armed n lt ∙ ap (λ (x : ℕ). Some (nat_lt 0 x)) (sym (armed n));
              are_retired = λ n lt. dite (ℕ_discrete n b)
                  (λ here. ap (slice_get m.retired) here ∙ get_put l.retired b true _ live_b ∙ ap (λ (z : Bool). Some (z || is_handed gone n)) (sym (eq-eqb n b here)))
                  (λ ne. get_else l.retired b n true ne ∙ k.publishers.are_retired n lt ∙ ap (λ (z : Bool). Some (z || is_handed gone n)) (sym (ne_eqb n b ne)));
              living = λ n lt pos. dite (ℕ_discrete n b)
                  (λ here. absurd (empty (total (armed_as n) qs) pos (armed n ∙ ap (λ (x : ℕ). total (armed_as x) ps) here ∙ none)))
                  (λ ne. ap (λ (z : Bool). z || is_handed gone n) (ne_eqb n b ne) ∙ k.publishers.living n lt (subst (λ (x : ℕ). 0 < x) (armed n) pos));
            })
            (subst (λ (ss : List Placed). AreReaders t.words (map pass_in t.views) l.start l.cleaned ss l.readers) (sym same) (join_readers key gone s t l q' k y.v y.w both spent d (has_of v both.pass (itself v.reading) (inl refl) w) (has_nothing v w spent.pass refl refl))),
      )
    where
      nones : (a b c d : ℕ) → a ≡ 0 → b ≡ 0 → c ≡ 0 → d ≡ 0 → a + b ≡ c + d
      nones a b c d p q r s = omega arith

      empty : (t : ℕ) → 0 < t → t ≡ 0 → ⊥
      empty t pos e = omega arith

      frames_sum : (h : FrameWords → ℕ) (fs gs : List FrameWords) → total h (fs ++ gs) + 0 ≡ total h fs + total h gs
      frames_sum h fs gs = let e = total_append h fs gs in omega arith
