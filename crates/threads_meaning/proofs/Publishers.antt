-- Publishers: who is armed, adds, misses, stores a word and turns the term.
use Rattle.std.proofs.Common.{◌≡◌, inl, ℕ, suc, ◌+◌, ◌-◌, ◌*◌, ◌%◌, ◌^◌, ◌<◌, ◌≤◌, Bool, true, false, not, cond, List, [], ◌∷◌, ◌++◌, map, set, sym, refl, ap, ◌∙◌, subst, lt_of_not-le, arith}
use mathlib.Core.Option.{some}
use mathlib.Core.Logic.{dite}
use native.Mathlib.Decide.{dec_le}
use lib.ListN.{get_elem?}
use Rattle.std.specs.List.{AllByRecursion}
use Rattle.std.specs.Prelude.{slice_index, slice_get, slice_set, nat_le, Some}
use Rattle.std.proofs.lemmas.Bool.{le-leb, lt-leb}
use Rattle.std.proofs.lemmas.Nat.{mod-mul-add}
use Rattle.atomic_table.specs.Table.{State}
use Rattle.theory.specs.Bytes.{Identity}
use Rattle.theory.specs.Entry.{Entry, committed, entry_end}
use Rattle.theory.specs.Placed.{Among, Placed, place_all}
use Rattle.theory.specs.Position.{Geometry, IsGeometry, cuts_of, framed_length, id_of, max_message, max_position, span}
use Rattle.theory.specs.Refusal.{is_closed, is_connected, limit_in}
use Rattle.theory.specs.Words.{id_in, offset_in}
use Rattle.theory.specs.Tiling.{Tiles}
use Rattle.theory.proofs.Claims.{span_is}
use Rattle.theory.proofs.Cuts.{long_cuts}
use Rattle.std.proofs.Math.Nat.{mul-le-mul_left}
use Rattle.theory.proofs.Lists.{all_append}
use Rattle.publication.specs.declared.pass.ClaimRange.{ClaimRange}
use Rattle.publication.specs.declared.pass.Pass.{Pass}
use Rattle.publication.specs.declared.pass.Reading.{Reading}
use Rattle.publication.specs.Steps.{addition, count_in, disarmed, geometry_of, message_at, noted, opened, padding_at, start_in, tail_step, term_of, with_armed, with_full, with_work, written}
use Rattle.position.specs.Words.{IsLegal}
use Rattle.log_rule.specs.declared.claims.view.View.{View}
use Rattle.log_rule.specs.declared.rule.Key.{Key}
use Rattle.log_rule.specs.Claims.Events.{committed_weight}
use Rattle.log_rule.specs.Claims.Packs.{count_place, limit_place, slot, tail_place}
use Rattle.log_rule.specs.Claims.Plays.{pass_in}
use Rattle.log_rule.specs.Claims.Rule.{entries_of, entry_of, weight}
use Rattle.log_rule.specs.Claims.Sums.{total}
use Rattle.log_rule.specs.Table.{LogRuled}
use Rattle.log_rule.proofs.Claimed.Memories.{maps_append}
use Rattle.log_rule.proofs.Claimed.Totals.{total_append}
use Rattle.log_rule.proofs.Claimed.Shown.{count_is}
use Rattle.model.specs.Log.{Add, Arm, Log, LogStep, Miss, entry_for, room}
use Rattle.model.proofs.LogSteps.{log_step}
use Rattle.threads_meaning.specs.Modelled.{AreEntries, ArePublishers, AreReaders, IsAs, IsModelOf, KeepsReaders, is_handed, spelled}
use Rattle.threads_meaning.specs.Steps.{IsBelow, IsOver, StepAdds, StepArms, StepStores, StepTurns, exchange_count, exchange_next}
use Rattle.threads_meaning.proofs.Alike.{alike_push}
use Rattle.threads_meaning.proofs.Looking.{advances_rests, load_same, put_same, rests_as, rotates_rests}
use Rattle.threads_meaning.proofs.Parts.{armed_off, armed_on, at_tail, is_armed, is_living, kept_entries, others_idle}
use Rattle.threads_meaning.proofs.Resting.{SameWords, entries_rest, modelled, one_readers, quiet}
use Rattle.threads_meaning.proofs.Totals.{total_kept, total_more}

-- ---- what changes nothing

module _ (key : Key) (gone : List ℕ) (s t : State (Unit {0}) View) (l : Log) (q : LogRuled key t) (k : IsModelOf key gone s l) where
  pub turns : StepTurns s t → IsModelOf key gone t l
  turns (exchange_next id v n from y) = quiet key gone s t l q k (put_same s.words t.words (tail_place (n + 1)) _ y.words (λ e. omega arith) (λ j lt e. omega arith)) id v y.after y.at y.passes (rotates_rests l.start l.cleaned (committed l.entries) l.readers v n from _ y.after y.told)
  turns (exchange_count id v n y) = quiet key gone s t l q k (put_same s.words t.words count_place _ y.words (λ e. omega arith) (λ j lt e. omega arith)) id v y.after y.at y.passes (advances_rests l.start l.cleaned (committed l.entries) l.readers v n _ y.after y.told)

  pub stores : StepStores s t → IsModelOf key gone t l
  stores y = let w = y.turn.told y.has.front y.has.draft y.has.behind y.has.place y.has.parts y.has.above y.has.inside y.has.position in
      quiet key gone s t l q k (put_same s.words t.words (slot (geometry_of y.v) y.p) y.x y.turn.words (λ e. omega arith) (λ j lt e. omega arith)) y.id y.v y.turn.after y.turn.at y.turn.passes
      (rests_as l.start l.cleaned (committed l.entries) l.readers y.v y.turn.after (with_work y.v.work.frames (y.has.front ++ written y.has.draft y.has.place y.x ∷ y.has.behind) y.v) w refl refl refl refl refl refl)

-- ---- who is armed

module _ (key : Key) (gone : List ℕ) (s t : State (Unit {0}) View) (l : Log) (q : LogRuled key s) (q' : LogRuled key t) (k : IsModelOf key gone s l) where
  -- of a pass that claims and commits the same, and is the same consumers and keeper: who may add is another then
  arming : (id : ℕ) (v w x : Pass) (armed : List Bool) → get_elem? (map pass_in s.views) id ≡ some v → map pass_in t.views ≡ set (map pass_in s.views) id w → SameWords s.words t.words → w ≡ x → x.right.claims ≡ v.right.claims → x.work.frames ≡ v.work.frames → x.reading ≡ v.reading → x.keeping ≡ v.keeping
      → ArePublishers gone (set (map pass_in s.views) id w) armed l.retired → IsModelOf key gone t (record l { armed = armed })
  arming id v w x armed at passes same e claims frames reading keeping ps =
      let all : List Pass = map pass_in s.views in let m : Log = record l { armed = armed } in let keeps = ap (λ (y : Pass). y.keeping) e ∙ keeping in
      modelled key gone t m q' k.identity k.start (k.limit ∙ ap limit_in (sym same.limit)) (k.connected ∙ ap is_connected (sym same.limit)) (k.closed ∙ ap is_closed (sym same.limit))
      (subst (λ (qs : List Pass). AreEntries key qs l.start l.tail l.entries) (sym passes) (entries_rest key all (set all id w) l.start l.tail l.entries k.entries (λ h. total_kept (weight h) all id v w at (ap (λ cs. total h (map entry_of cs)) (ap (λ (y : Pass). y.right.claims) e ∙ claims))) (λ h. total_kept (committed_weight h) all id v w at (ap (total h) (ap (λ (y : Pass). y.work.frames) e ∙ frames)))))
      (subst (λ (qs : List Pass). ArePublishers gone qs armed l.retired) (sym passes) ps)
      (subst (λ (qs : List Pass). AreReaders t.words qs l.start l.cleaned (committed l.entries) l.readers) (sym passes) (one_readers s.words t.words all l.start l.cleaned (committed l.entries) l.readers k.readers id v w at same.consumers
      (λ r a. (r, subst (λ (rs : List Reading). Among r rs) (ap (λ (y : Pass). y.reading) e ∙ reading) a, refl))
      (λ one. (ap (λ z. z.right) (sym keeps) ∙ one, λ z. subst (KeepsReaders l.start l.cleaned (committed l.entries) l.readers) (sym keeps) z))))

  pub arms : (by seen : ℕ) → StepArms gone s by seen t → (m : Log) × LogStep [] l (Arm by seen) m × IsModelOf key gone t m
  arms by seen y =
      let v : Pass = y.v in let p : ℕ = v.seen.count in let n : ℕ = slice_index s.words (tail_place p) in let g : Geometry = key.identity.geometry in let c = q.ruled.claims in
      let kn = c.each y.id v y.turn.at in let o = y.turn.told.1 in let w : Pass = y.turn.after in let last = c.tailed.turns.to in let high = kn.seen.count.1 in
      let e : w ≡ noted (tail_step v n) (with_armed v) = y.turn.told.0.below o.named o.short o.below in
      let at = at_tail key s q p kn.seen.count.0 kn.seen.count.1 (subst (λ (i : Identity). offset_in n < i.geometry.term_length) kn.identity o.short) in
      let count : count_in g n ≡ p = count_is g n p c.sound.geometry (omega arith) (subst (λ (i : Identity). id_in n ≡ id_of i.geometry p) kn.identity o.named) in
      let tail : l.tail ≡ p * g.term_length + offset_in n = k.tail ∙ at.tail ∙ ap (λ (x : ℕ). x * g.term_length + offset_in n) count in
      let below : p * g.term_length + offset_in n < limit_in v.right.limit = subst (λ (i : Identity). p * i.geometry.term_length + offset_in n < limit_in v.right.limit) kn.identity o.below in
      let living : is_handed gone v.number ≡ false = subst (λ (x : ℕ). is_handed gone x ≡ false) y.number y.living in
      let capped : limit_in v.right.limit ≤ limit_in (slice_index s.words limit_place) = kn.right.capped in let limit : l.limit ≡ limit_in (slice_index s.words limit_place) = k.limit in (
        record l { armed = slice_set l.armed by true },
        (
          (subst (λ (x : ℕ). x < 8) (sym y.number) kn.number, subst (λ (x : ℕ). slice_get l.retired x ≡ Some false) (sym y.number) (k.publishers.are_retired v.number kn.number ∙ ap Some living)),
          within seen (limit_in v.right.limit) l.limit (limit_in (slice_index s.words limit_place)) y.limit capped limit,
          above l.tail (p * g.term_length + offset_in n) seen (limit_in v.right.limit) tail below y.limit,
          refl,
        ),
        subst (λ (x : ℕ). IsModelOf key gone t (record l { armed = slice_set l.armed x true })) (sym y.number)
            (arming y.id v w (noted (tail_step v n) (with_armed v)) (slice_set l.armed v.number true) y.turn.at y.turn.passes (load_same s.words t.words (tail_place p) y.turn.words) e refl refl refl refl
            (armed_on gone (map pass_in s.views) l.armed l.retired k.publishers y.id v w y.turn.at (ap (λ (z : Pass). z.number) e) kn.number (ap (λ (z : Pass). z.right.armed) e) living)),
      )
    where
      within : (seen a l c : ℕ) → seen ≡ a → a ≤ c → l ≡ c → seen ≤ l
      within seen a l c e le f = omega arith

      above : (t x seen a : ℕ) → t ≡ x → x < a → seen ≡ a → t < seen
      above t x seen a e lt f = omega arith

  pub misses : (by bytes : ℕ) → StepAdds s by bytes IsOver t → (m : Log) × LogStep [] l (Miss by) m × IsModelOf key gone t m
  misses by bytes y =
      let v : Pass = y.v in let n : ℕ = slice_index s.words (tail_place v.seen.term) in let c = q.ruled.claims in let kn = c.each y.id v y.turn.at in let w : Pass = y.turn.after in let x : Pass = noted (addition v bytes n) (with_full (disarmed v) (count_in (geometry_of v) n)) in
      let e : w ≡ x = y.turn.told.0.over y.turn.told.1 in (
        record l { armed = slice_set l.armed by false },
        (subst (λ (x : ℕ). slice_get l.armed x ≡ Some true) (sym y.number) (is_armed gone (map pass_in s.views) l.armed l.retired k.publishers y.id v y.turn.at kn.number y.armed), refl),
        subst (λ (x : ℕ). IsModelOf key gone t (record l { armed = slice_set l.armed x false })) (sym y.number)
            (arming y.id v w x (slice_set l.armed v.number false) y.turn.at y.turn.passes (put_same s.words t.words (tail_place v.seen.term) _ y.turn.words (λ e. omega arith) (λ j lt e. omega arith)) e refl refl refl refl
            (armed_off gone (map pass_in s.views) l.armed l.retired k.publishers y.id v w y.turn.at (ap (λ (z : Pass). z.number) e) kn.number (ap (λ (z : Pass). z.right.armed) e) (others_idle key s q y.id v y.turn.at y.armed))),
      )

-- ---- an addition

committed_push : (es : List Entry) (e : Entry) → e.frames ≡ [] → committed (es ++ e ∷ []) ≡ committed es
committed_push [] e none = ap (λ fs. place_all e.start fs ++ []) none
committed_push (d ∷ es) e none = ap (λ (ss : List Placed). place_all d.start d.frames ++ ss) (committed_push es e none)

-- what is claimed at the tail is the entry that the model adds there
message_is : (l : Log) (v : Pass) (n bytes : ℕ) → l.identity ≡ v.identity → l.tail ≡ start_in (geometry_of v) n → offset_in n + framed_length (geometry_of v) bytes ≤ term_of v → 0 < framed_length (geometry_of v) bytes → span (cuts_of (geometry_of v) bytes) ≡ framed_length (geometry_of v) bytes → IsAs (entry_of (message_at v n bytes)) (entry_for l v.number bytes)
message_is l v n bytes same tail fits some' is =
    let g : Geometry = geometry_of v in let size : ℕ = term_of v in let short : offset_in n < size = omega arith in
    let rest : l.tail % size ≡ offset_in n = ap (λ (x : ℕ). x % size) tail ∙ mod-mul-add (count_in g n) size (offset_in n) short in
    let free : room l ≡ size - offset_in n = (λ i. (same i).geometry.term_length - l.tail % (same i).geometry.term_length) ∙ ap (λ (x : ℕ). size - x) rest in
    let within : nat_le (span (cuts_of l.identity.geometry bytes)) (room l) ≡ true = ap (λ (i : Identity). nat_le (span (cuts_of i.geometry bytes)) (room l)) same ∙ le-leb (span (cuts_of g bytes)) (room l) (omega arith) in
    record {
      start = tail;
      owner = refl;
      cuts = ap (λ (b : Bool). cond b (cuts_of l.identity.geometry bytes) (room l ∷ [])) within ∙ ap (λ (i : Identity). cuts_of i.geometry bytes) same;
      padding = inl (ap not within);
    }

padding_is : (l : Log) (v : Pass) (n bytes : ℕ) → l.identity ≡ v.identity → l.tail ≡ start_in (geometry_of v) n → offset_in n < term_of v → term_of v < offset_in n + framed_length (geometry_of v) bytes → span (cuts_of (geometry_of v) bytes) ≡ framed_length (geometry_of v) bytes → IsAs (entry_of (padding_at v n)) (entry_for l v.number bytes)
padding_is l v n bytes same tail short trips is =
    let g : Geometry = geometry_of v in let size : ℕ = term_of v in
    let rest : l.tail % size ≡ offset_in n = ap (λ (x : ℕ). x % size) tail ∙ mod-mul-add (count_in g n) size (offset_in n) short in
    let free : room l ≡ size - offset_in n = (λ i. (same i).geometry.term_length - l.tail % (same i).geometry.term_length) ∙ ap (λ (x : ℕ). size - x) rest in
    let beyond : nat_le (span (cuts_of l.identity.geometry bytes)) (room l) ≡ false = ap (λ (i : Identity). nat_le (span (cuts_of i.geometry bytes)) (room l)) same ∙ lt-leb (span (cuts_of g bytes)) (room l) (omega arith) in
    record {
      start = tail;
      owner = refl;
      cuts = ap (λ (b : Bool). cond b (cuts_of l.identity.geometry bytes) (room l ∷ [])) beyond ∙ ap (λ (x : ℕ). x ∷ []) free;
      padding = inl (ap not beyond);
    }

module _ (key : Key) (gone : List ℕ) (s t : State (Unit {0}) View) (l : Log) (q : LogRuled key s) (q' : LogRuled key t) (k : IsModelOf key gone s l) where
  -- a claim more of a pass that was armed
  adding : (id : ℕ) (v w x : Pass) (c : ClaimRange) (bytes : ℕ) → get_elem? (map pass_in s.views) id ≡ some v → map pass_in t.views ≡ set (map pass_in s.views) id w → SameWords s.words t.words → v.right.armed ≡ 1 → bytes ≤ max_message l.identity.geometry → l.tail < max_position l.identity.geometry
      → w ≡ x → x.right.claims ≡ v.right.claims ++ c ∷ [] → x.work.frames ≡ v.work.frames → x.right.armed ≡ 0 → x.number ≡ v.number → x.reading ≡ v.reading → x.keeping ≡ v.keeping → IsAs (entry_of c) (entry_for l v.number bytes) → (m : Log) × LogStep [] l (Add v.number bytes) m × IsModelOf key gone t m
  adding id v w x c bytes at passes same one size low e claims frames none number reading keeping is =
      let all : List Pass = map pass_in s.views in let by : ℕ = v.number in let d : Entry = entry_for l by bytes in let kn = q.ruled.claims.each id v at in
      let m : Log = record l { armed = slice_set l.armed by false; entries = l.entries ++ d ∷ []; tail = entry_end d } in
      let bare : Log = record l { readers = [] } in
      let grown = log_step [] bare (Add by bytes) (record m { readers = [] }) (kept_entries key s q gone l k) ((kn.number, is_living gone all l.armed l.retired k.publishers id v at kn.number one), is_armed gone all l.armed l.retired k.publishers id v at kn.number one, size, low, refl) in
      let more : committed m.entries ≡ committed l.entries = committed_push l.entries d refl in let es = k.entries in
      let a : (w.right.claims ≡ v.right.claims ++ c ∷ []) = ap (λ (y : Pass). y.right.claims) e ∙ claims in let keeps = ap (λ (y : Pass). y.keeping) e ∙ keeping in
      let entries : AreEntries key (set all id w) m.start m.tail m.entries = record {
        log = es.log ++ entry_of c ∷ [];
        claimed = λ h. total_more (weight h) all id v w (h (entry_of c)) at (ap (λ cs. total h (map entry_of cs)) a ∙ ap (total h) (maps_append entry_of v.right.claims (c ∷ [])) ∙ total_append h (entries_of v) (entry_of c ∷ []) ∙ none_more (weight h v) (h (entry_of c))) ∙ ap (λ (z : ℕ). z + h (entry_of c)) (es.claimed h) ∙ sym (total_append h es.log (entry_of c ∷ []) ∙ none_more (total h es.log) (h (entry_of c)));
        alike = alike_push es.log l.entries (entry_of c) d es.alike is;
        frames = λ h. total_kept (committed_weight h) all id v w at (ap (total h) (ap (λ (y : Pass). y.work.frames) e ∙ frames)) ∙ es.frames h ∙ ap (λ (ss : List Placed). total h (map (spelled key.identity) ss)) (sym more);
        tiles = subst (λ (i : Identity). Tiles i.geometry.term_length m.start m.tail m.entries) k.identity grown.kept.tiles;
        are = grown.kept.entries;
        legal = all_append (λ (z : Entry). AllByRecursion (IsLegal key.identity.geometry) z.frames) l.entries (d ∷ []) es.legal (tt, tt);
      } in (
        m,
        ((kn.number, is_living gone all l.armed l.retired k.publishers id v at kn.number one), is_armed gone all l.armed l.retired k.publishers id v at kn.number one, size, low, refl),
        modelled key gone t m q' k.identity k.start (k.limit ∙ ap limit_in (sym same.limit)) (k.connected ∙ ap is_connected (sym same.limit)) (k.closed ∙ ap is_closed (sym same.limit))
            (subst (λ (qs : List Pass). AreEntries key qs m.start m.tail m.entries) (sym passes) entries)
            (subst (λ (qs : List Pass). ArePublishers gone qs m.armed m.retired) (sym passes) (armed_off gone all l.armed l.retired k.publishers id v w at (ap (λ (y : Pass). y.number) e ∙ number) kn.number (ap (λ (y : Pass). y.right.armed) e ∙ none) (others_idle key s q id v at one)))
            (subst (λ (qs : List Pass). AreReaders t.words qs m.start m.cleaned (committed m.entries) m.readers) (sym passes) (subst (λ (ss : List Placed). AreReaders t.words (set all id w) l.start l.cleaned ss l.readers) (sym more) (one_readers s.words t.words all l.start l.cleaned (committed l.entries) l.readers k.readers id v w at same.consumers
            (λ r among. (r, subst (λ (rs : List Reading). Among r rs) (ap (λ (y : Pass). y.reading) e ∙ reading) among, refl))
            (λ right. (ap (λ z. z.right) (sym keeps) ∙ right, λ z. subst (KeepsReaders l.start l.cleaned (committed l.entries) l.readers) (sym keeps) z))))),
      )
    where
      none_more : (x y : ℕ) → x + (y + 0) ≡ x + y
      none_more x y = omega arith

  pub adds : (by bytes : ℕ) → StepAdds s by bytes IsBelow t → (m : Log) × LogStep [] l (Add by bytes) m × IsModelOf key gone t m
  adds by bytes y =
      let v : Pass = y.v in let n : ℕ = slice_index s.words (tail_place v.seen.term) in let c = q.ruled.claims in let kn = c.each y.id v y.turn.at in let w : Pass = y.turn.after in let g : Geometry = geometry_of v in
      let told = y.turn.told.0 in let short : offset_in n < term_of v = y.turn.told.1 in
      let same : l.identity ≡ v.identity = k.identity ∙ sym kn.identity in
      let legal = subst (λ (i : Identity). IsGeometry i.geometry) (sym kn.identity) c.sound.geometry in
      let is : span (cuts_of g bytes) ≡ framed_length g bytes = span_is g legal.mtu.unit legal.mtu.least bytes in
      let some' : 0 < framed_length g bytes = subst (λ (x : ℕ). 0 < x) is (long_cuts g bytes (let least = legal.mtu.least in omega arith)) in
      let at = at_tail key s q v.seen.term kn.seen.term.0 kn.seen.term.1 (subst (λ (i : Identity). offset_in n < i.geometry.term_length) kn.identity short) in
      let tail : l.tail ≡ start_in g n = k.tail ∙ at.tail ∙ ap (λ (i : Identity). count_in i.geometry n * i.geometry.term_length + offset_in n) (sym kn.identity) in
      let words = put_same s.words t.words (tail_place v.seen.term) _ y.turn.words (λ e. omega arith) (λ j lt e. omega arith) in
      let size : bytes ≤ max_message l.identity.geometry = subst (λ (i : Identity). bytes ≤ max_message i.geometry) (sym same) y.size in
      let small : count_in g n < 2 ^ 31 = subst (λ (i : Identity). count_in i.geometry n < 2 ^ 31) (sym kn.identity) at.small in
      let low : l.tail < max_position l.identity.geometry = subst (λ (i : Identity). l.tail < max_position i.geometry) (sym same) (within l.tail (count_in g n) (term_of v) (offset_in n) tail short small) in
      subst (λ (x : ℕ). (m : Log) × LogStep [] l (Add x bytes) m × IsModelOf key gone t m) (sym y.number)
      (dite (dec_le (offset_in n + framed_length g bytes) (term_of v))
      (λ fits. adding y.id v w (noted (addition v bytes n) (opened v (message_at v n bytes))) (message_at v n bytes) bytes y.turn.at y.turn.passes words y.armed size low (told.fits fits) refl refl refl refl refl refl (message_is l v n bytes same tail fits some' is))
      (λ over. let trips = lt_of_not-le over in adding y.id v w (noted (addition v bytes n) (with_full (opened v (padding_at v n)) (count_in g n))) (padding_at v n) bytes y.turn.at y.turn.passes words y.armed size low (told.trips short trips) refl refl refl refl refl refl (padding_is l v n bytes same tail short trips is)))
    where
      within : (tail c t o : ℕ) → tail ≡ c * t + o → o < t → c < 2 ^ 31 → tail < t * 2 ^ 31
      within tail c t o e lt small = let m : t * suc c ≤ t * 2 ^ 31 = mul-le-mul_left t small in omega arith
