-- Each kind of step on the words of a log that runs is an event of the model.
use Rattle.std.proofs.Common.{◌≡◌, inl, inr, ℕ, suc, ◌+◌, ◌*◌, ◌/◌, ◌%◌, ◌^◌, ◌<◌, ◌≤◌, ◌==◌, Bool, false, List, [], ◌∷◌, ◌++◌, length, replicate, sym, refl, ap, ◌∙◌, subst, lt_of_not-le, arith}
use mathlib.Core.Option.{some-injective}
use mathlib.Core.Logic.{dite}
use native.Mathlib.Decide.{dec_le}
use lib.IntN.{ℤ_discrete}
use prog.Atomic.{either}
use Rattle.std.specs.Prelude.{slice_index}
use Rattle.std.proofs.lemmas.List.{length-replicate}
use Rattle.theory.specs.Bytes.{Identity}
use Rattle.theory.specs.Placed.{Among, Frame, Pad, Placed}
use Rattle.theory.specs.Position.{aligned, framed_length, id_of, max_message}
use Rattle.theory.specs.Refusal.{limit_in}
use Rattle.theory.specs.Words.{id_before, id_in, offset_in, tail_word}
use Rattle.publication.specs.declared.pass.FrameWords.{FrameWords}
use Rattle.publication.specs.declared.pass.Pass.{Pass}
use Rattle.publication.specs.declared.pass.Reading.{Reading}
use Rattle.publication.specs.Steps.{Arms, Counts, ExchangesCount, Nexts, Rotates, Sees, blank, frame, geometry_of, term_of, with_work}
use Rattle.publication.specs.Steps as publication
use Rattle.log_rule.specs.declared.claims.view.View.{View}
use Rattle.log_rule.specs.Claims.Memory.{IsCommittedFrame}
use Rattle.log_rule.specs.Claims.Packs.{consumer_place, count_place, limit_place, tail_place}
use Rattle.log_rule.specs.Claims.Sure.{LearnsControls}
use Rattle.log_rule.specs.Keepings.{Joins, LearnsLimit, Leaves, MayJoin, MayLeave, MayRaise, Raises, SeesConsumer, keeping, least_there}
use Rattle.log_rule.specs.Kept.{IsThere}
use Rattle.log_rule.specs.Readings.{Consumes, IsConsumer, IsFrameAt, MayPass, end_of, reading}
use Rattle.log_rule.specs.Readings as readings
use Rattle.log_memory.specs.declared.view.LogView.{LogView}
use Rattle.log_memory.specs.declared.view.Site.{Site}
use Rattle.log_memory.specs.Kinds.{AdvancesCount, ExchangesNext, LoadsCount, LoadsLimit, LoadsNext, LoadsPosition, LoadsTail}
use Rattle.log_memory.specs.Law.{StepsKeep}
use Rattle.log_memory.specs.Open.{HoldsOpen}
use Rattle.log_memory.specs.Parking.{Fetches, Parks}
use Rattle.log_memory.specs.Places.{head_place}
use Rattle.log_memory.specs.Rule.{Board, ring}
use Rattle.log_memory.specs.Steps.{Adds, AreApart, Commits, Gives, GivesRoom, IsIdle, Looks, MayCommit, MayGive, MayGiveRoom, MayReread, MayTakeBack, Mine, Rereads, Rests, TakesBack}
use Rattle.log_memory.proofs.Facts.{pass_at}
use Rattle.model.specs.Log.{Abort, Add, Arm, Close, Commit, Connect, Join, Leave, LogEvent, Look, Miss, Move, Raise, Rotate}
use Rattle.threads_meaning.specs.Modelled.{is_handed, spelled}
use Rattle.threads_meaning.specs.Running.{AddsOrMisses, ArmsOrLooks, Happen, IsOne, IsSingle, Makes, Means, MovesPast, Spells, stream_of}
use Rattle.threads_meaning.specs.Steps.{ClosesBy, CommitsAt, CommitsFrame, ConnectsBy, IsNextFrame, IsOpen, RaisesTo, StepLimits, Turns, exchange_count as turn_count, exchange_next as turn_next, load_consumer, load_count as look_count, load_here, load_limit as look_limit, load_next as look_next, load_tail as look_tail}
use Rattle.threads_meaning.proofs.Boards.{far_same, happens, is_far, load_same, looked, made, means, own, put_far, rested, turned}

tail_low : (k : ℕ) → tail_place k < 208
tail_low k = let x : ℕ = k % 3 in omega arith

-- ---- a publisher

module _ (k : StepsKeep) (t : Site) (gone : List ℕ) (id : ℕ) (m : Mine) (idle : IsIdle m.0) where
  abbrev v : Pass
  v = m.0.view.pass

  pub load_limit : Means t gone id m limit_place (λ n. n) (LoadsLimit m) (IsOne Look)
  load_limit = means t gone id m limit_place (λ n. n) (LoadsLimit m) (k.load_limit t id m idle) Look (λ s s' y. (refl, inl (look_limit id v (turned t gone id m limit_place (λ n. n) (LoadsLimit m) s s' y (omega arith) (λ n w. Sees v n w) y.told.told.4))))

  pub load_count : Means t gone id m count_place (λ n. n) (LoadsCount m) (IsOne Look)
  load_count = means t gone id m count_place (λ n. n) (LoadsCount m) (k.load_count t id m idle) Look (λ s s' y. (refl, inl (look_count id v (turned t gone id m count_place (λ n. n) (LoadsCount m) s s' y (omega arith) (λ n w. Counts v n w) y.told.told.4))))

  pub load_next : (n : ℕ) → v.seen.full ≡ suc n → n + 1 < 2 ^ 31 → Means t gone id m (tail_place (n + 1)) (λ x. x) (LoadsNext n m) (IsOne Look)
  load_next n full low = means t gone id m (tail_place (n + 1)) (λ x. x) (LoadsNext n m) (k.load_next t id m idle n full low) Look (λ s s' y. (refl, inl (look_next id v n (turned t gone id m (tail_place (n + 1)) (λ x. x) (LoadsNext n m) s s' y (tail_low (n + 1)) (λ x w. Nexts v n x w) y.told.told.4))))

  pub exchange_next : (n from : ℕ) → 0 < v.right.parts → v.seen.full ≡ suc n → n + 1 < 2 ^ 31 → id_in from ≡ id_before (geometry_of v) n 2 → Means t gone id m (tail_place (n + 1)) (λ x. either (x == from) (tail_word (id_of (geometry_of v) (n + 1)) 0) x) (ExchangesNext n from m) (IsOne Rotate)
  exchange_next n from parts full low before = means t gone id m (tail_place (n + 1)) (λ x. either (x == from) (tail_word (id_of (geometry_of v) (n + 1)) 0) x) (ExchangesNext n from m) (k.exchange_next t id m idle n from parts full low before) Rotate
      (λ s s' y. (refl, turn_next id v n from (turned t gone id m (tail_place (n + 1)) (λ x. either (x == from) (tail_word (id_of (geometry_of v) (n + 1)) 0) x) (ExchangesNext n from m) s s' y (tail_low (n + 1)) (λ x w. Rotates v n from x w) y.told.told.4)))

  pub exchange_count : (n : ℕ) → 0 < v.right.parts → v.seen.begun ≡ n + 1 → Means t gone id m count_place (λ x. either (x == n) (n + 1) x) (AdvancesCount n m) (IsOne Rotate)
  exchange_count n parts begun = means t gone id m count_place (λ x. either (x == n) (n + 1) x) (AdvancesCount n m) (k.exchange_count t id m idle n parts begun) Rotate
      (λ s s' y. (refl, turn_count id v n (turned t gone id m count_place (λ x. either (x == n) (n + 1) x) (AdvancesCount n m) s s' y (omega arith) (λ x w. ExchangesCount v n x w) y.told.told.4)))

  abbrev tail : ℕ
  tail = tail_place v.seen.count

  tail_looks : (s s' : Board) (y : Makes t s id m tail (λ n. n) (LoadsTail m) s') → (IsOpen v (slice_index s.words tail) → ⊥) → (es : List LogEvent) × ArmsOrLooks v (slice_index s.words tail) es × Happen t gone s es s' gone
  tail_looks s s' y not = (
    Look ∷ [],
    inr (not, refl),
    happens t gone id m tail (λ n. n) (LoadsTail m) s s' y Look (refl, inl (look_tail id v (turned t gone id m tail (λ n. n) (LoadsTail m) s s' y (tail_low v.seen.count) (λ n w. Arms v n w × (IsOpen v n → ⊥)) (y.told.told.4, not)))),
  )

  tail_arms : is_handed gone v.number ≡ false → (s s' : Board) (y : Makes t s id m tail (λ n. n) (LoadsTail m) s') → IsOpen v (slice_index s.words tail) → (es : List LogEvent) × ArmsOrLooks v (slice_index s.words tail) es × Happen t gone s es s' gone
  tail_arms living s s' y is = (
    Arm v.number (limit_in v.right.limit) ∷ [],
    inl (is, refl),
    happens t gone id m tail (λ n. n) (LoadsTail m) s s' y (Arm v.number (limit_in v.right.limit)) (
      refl,
      record {
        id = id;
        v = v;
        turn = turned t gone id m tail (λ n. n) (LoadsTail m) s s' y (tail_low v.seen.count) (λ n w. Arms v n w × IsOpen v n) (y.told.told.4, is);
        number = refl;
        limit = refl;
        living = living;
      },
    ),
  )

  pub load_tail : 120 ≤ v.right.parts → (v.right.parts < 1024 → Among v.number v.right.numbers) → is_handed gone v.number ≡ false → Means t gone id m tail (λ n. n) (LoadsTail m) (ArmsOrLooks v)
  load_tail parts numbers living = record {
    leads = made t gone id m tail (λ n. n) (LoadsTail m) (k.load_tail t id m idle parts numbers);
    are = λ s s' y. (let n : ℕ = slice_index s.words tail in
        dite (ℤ_discrete (id_in n) (id_of (geometry_of v) v.seen.count))
        (λ named. dite (dec_le (term_of v) (offset_in n))
        (λ full. tail_looks s s' y (λ o. let a = o.short in omega arith))
        (λ short. dite (dec_le (limit_in v.right.limit) (v.seen.count * term_of v + offset_in n))
        (λ past. tail_looks s s' y (λ o. let a = o.below in omega arith))
        (λ below. tail_arms living s s' y record { named = named; short = lt_of_not-le short; below = lt_of_not-le below })))
        (λ other. tail_looks s s' y (λ o. other o.named)));
  }

  pub add : (size : ℕ) → 120 ≤ v.right.parts → v.right.armed ≡ 1 → size ≤ max_message (geometry_of v) → Means t gone id m (tail_place v.seen.term) (λ n. (n + framed_length (geometry_of v) size) % 2 ^ 64) (Adds t size m) (AddsOrMisses v size)
  add size parts armed le = record {
    leads = made t gone id m (tail_place v.seen.term) (λ n. (n + framed_length (geometry_of v) size) % 2 ^ 64) (Adds t size m) (k.add t id size m idle parts armed le);
    are = λ s s' y. (let n : ℕ = slice_index s.words (tail_place v.seen.term) in let f : ℕ → ℕ = λ n. (n + framed_length (geometry_of v) size) % 2 ^ 64 in
        dite (dec_le (term_of v) (offset_in n))
        (λ over. (
          Miss v.number ∷ [],
          inr (over, refl),
          happens t gone id m (tail_place v.seen.term) f (Adds t size m) s s' y (Miss v.number) (
            refl,
            (
              size,
              record {
                id = id;
                v = v;
                turn = turned t gone id m (tail_place v.seen.term) f (Adds t size m) s s' y (tail_low v.seen.term) (λ n w. publication.Adds v size n w × (term_of v ≤ offset_in n)) (y.told.told.4, over);
                armed = armed;
                number = refl;
                size = le;
              },
            ),
          ),
        ))
        (λ short. (
          Add v.number size ∷ [],
          inl (lt_of_not-le short, refl),
          happens t gone id m (tail_place v.seen.term) f (Adds t size m) s s' y (Add v.number size) (
            refl,
            record {
              id = id;
              v = v;
              turn = turned t gone id m (tail_place v.seen.term) f (Adds t size m) s s' y (tail_low v.seen.term) (λ n w. publication.Adds v size n w × (offset_in n < term_of v)) (y.told.told.4, lt_of_not-le short);
              armed = armed;
              number = refl;
              size = le;
            },
          ),
        )));
  }

-- ---- a frame is committed

module _ (t : Site) (p : ℕ) (ws : List ℕ) (m : Mine) (may : MayCommit t p ws m) where
  pub spells : (f : Frame) × Spells t.key p may.cut ws f
  spells = (may.done.content, record { legal = may.done.legal; is = (λ i. record { start = p; cut = sym may.done.whole i; words = sym may.done.spelt i }) })

  inside : 0 < length (blank p may.cut).words
  inside = let a = may.some in let e = may.long in omega arith

  some_cut : 0 < may.cut
  some_cut = let none : ℕ = 0 in let e : length (replicate (aligned may.cut / 8) none) ≡ aligned may.cut / 8 = length-replicate (aligned may.cut / 8) none in long (length (replicate (aligned may.cut / 8) none)) may.cut e inside
    where
      long : (n c : ℕ) → n ≡ aligned c / 8 → 0 < n → 0 < c
      long n c e pos = omega arith

  commits_frame : (f : Frame) → Spells t.key p may.cut ws f → (w : Mine) → Commits t p ws m w → CommitsFrame t.key p f m.0.view.pass w.0.view.pass
  commits_frame f words w told = record {
    front = may.front;
    draft = blank p may.cut;
    behind = may.behind;
    parts = may.drafts;
    inside = inside;
    position = refl;
    legal = words.legal;
    after = told.fills may.front may.cut may.behind some_cut may.drafts ∙ ap (λ (g : FrameWords). with_work (m.0.view.pass.work.frames ++ g ∷ []) (may.front ++ may.behind) m.0.view.pass) (sym words.is);
  }

module _ (k : StepsKeep) (t : Site) (gone : List ℕ) (id p : ℕ) (ws : List ℕ) (m : Mine) (idle : IsIdle m.0) (may : MayCommit t p ws m) where
  abbrev head : ℕ
  head = head_place (ring t) p

  abbrev puts : ℕ → ℕ
  puts n = slice_index ws 0

  abbrev tells : ℕ → Mine → Type 0
  tells n w = Commits t p ws m w

  commits_at : (f : Frame) → Spells t.key p may.cut ws f → (s s' : Board) (y : Makes t s id m head puts tells s') → CommitsAt t.key (stream_of t s y.before) id m.0.view.pass p f (stream_of t s' y.after)
  commits_at f words s s' y = record {
    i = head;
    x = slice_index ws 0;
    far = is_far (ring t) p;
    turn = put_far t gone id m head puts tells s s' y (is_far (ring t) p) (slice_index ws 0) (λ w. CommitsFrame t.key p f m.0.view.pass w) (commits_frame t p ws m may f words y.mine y.told);
  }

  pub commit : (start : ℕ) (f : Frame) → Spells t.key p may.cut ws f → IsNextFrame m.0.view.pass start p f → Means t gone id m head puts tells (IsOne (Commit start f))
  commit start f words next = means t gone id m head puts tells (k.commit t id p ws m idle may) (Commit start f) (λ s s' y. (refl, record { id = id; v = m.0.view.pass; p = p; step = commits_at f words s s' y; next = next }))

  pub abort : (cut : ℕ) → Spells t.key p may.cut ws (Pad cut) → IsSingle m.0.view.pass p cut → Means t gone id m head puts tells (IsOne (Abort p))
  abort cut words one = means t gone id m head puts tells (k.commit t id p ws m idle may) (Abort p) (λ s s' y. (
    refl,
    record {
      id = id;
      v = m.0.view.pass;
      claim = one.claim;
      among = one.among;
      here = one.here;
      message = one.message;
      cut = cut;
      single = one.cuts;
      step = commits_at (Pad cut) words s s' y;
    },
  ))

-- ---- a consumer

module _ (k : StepsKeep) (t : Site) (gone : List ℕ) (id : ℕ) (m : Mine) where
  abbrev me : Pass
  me = m.0.view.pass

  pub look : (place : ℕ) (r : Reading) (is : IsConsumer me place r) → r.number < 8 → IsIdle m.0 → Means t gone id m (head_place (ring t) r.position) (λ n. n) (λ n w. Looks t place r m is n w) (IsOne Look)
  look place r is low idle = means t gone id m (head_place (ring t) r.position) (λ n. n) (λ n w. Looks t place r m is n w) (k.look t id place r m is low idle) Look
      (λ s s' y. (let i : ℕ = head_place (ring t) r.position in (refl, inl (load_here id me place r 0 is (rested t gone id m i (λ n. n) (λ n w. Looks t place r m is n w) s s' y (load_same t gone id m i (λ n w. Looks t place r m is n w) s s' y) 0 (λ w. (n : ℕ) × readings.Looks me place n w) (slice_index s.words i, y.told.told.3))))))

  pub reread : (place : ℕ) (r : Reading) (f : FrameWords) → MayReread place r f me → IsIdle m.0 → Means t gone id m (head_place (ring t) f.start) (λ n. n) (λ n w. Rereads t r f m n w) (IsOne Look)
  reread place r f may idle = own t gone id m (head_place (ring t) f.start) (λ n w. Rereads t r f m n w) (k.reread t id place r f m may idle) (λ n w told. told.rests.3)

  pub give : (i : ℕ) (r : Reading) (f : FrameWords) → MayGive t r f m → Means t gone id m i (λ n. n) (λ _ w. Gives m w) (IsOne Look)
  give i r f may = own t gone id m i (λ _ w. Gives m w) (k.give t id i r f m may) (λ n w told. ap (λ (x : View). x.pass) told.rests)

  pub take_back : MayTakeBack m.0 → Means t gone id m (head_place (ring t) m.0.room.freed) (λ n. n) (λ n w. TakesBack t m n w) (IsOne Look)
  take_back may = own t gone id m (head_place (ring t) m.0.room.freed) (λ n w. TakesBack t m n w) (k.take_back t id m may) (λ n w told. ap (λ (x : View). x.pass) told.rests)

  pub park : (i : ℕ) → IsIdle m.0 → HoldsOpen t m → Means t gone id m i (λ n. n) (λ _ w. Parks m w) (IsOne Look)
  park i idle holds = own t gone id m i (λ _ w. Parks m w) (k.park t id i m idle holds) (λ n w told. ap (λ (x : LogView). x.view.pass) told.view)

  pub fetch : (i : ℕ) → m.0.part.has ≡ 0 → AreApart m.0.parked → Means t gone id m i (λ n. n) (λ _ w. Fetches t m w) (IsOne Look)
  fetch i none apart = own t gone id m i (λ _ w. Fetches t m w) (k.fetch t id i m none apart) (λ n w told. ap (λ (x : LogView). x.view.pass) told.view)

  pub give_room : MayGiveRoom t m → Means t gone id m (head_place (ring t) m.0.room.freed) (λ _. 0) (λ _ w. GivesRoom m w) (IsOne Look)
  give_room may = let i : ℕ = head_place (ring t) m.0.room.freed in means t gone id m i (λ _. 0) (λ _ w. GivesRoom m w) (k.give_room t id m may) Look
      (λ s s' y. looked t gone id m i (λ _. 0) (λ _ w. GivesRoom m w) s s' y (far_same t gone id m i (λ _. 0) (λ _ w. GivesRoom m w) s s' y (is_far (ring t) m.0.room.freed)) (ap (λ (x : View). x.pass) y.told.rests))

  -- ---- the frame that a consumer passes

  module _ (place : ℕ) (r : Reading) (end : ℕ) (is : IsConsumer me place r) (may : MayPass me place end) (low : r.number < 8) (idle : IsIdle m.0) where
    abbrev moving : ℕ → Mine → Type 0
    moving n w = Rests (λ a _ c. reading (λ v k w. Consumes v place end w) a 0 c) m n w

    same : may.consumer ≡ r
    same = some-injective may.consumer r (sym may.is ∙ is)

    known : Among may.frame r.known
    known = subst (λ (x : Reading). Among may.frame x.known) same may.known

    here : may.frame.start ≡ r.position
    here = may.here ∙ ap (λ (x : Reading). x.position) same

    pub move : Means t gone id m (consumer_place r.number) (λ _. end) moving (MovesPast t.key r.number may.frame)
    move = record {
      leads = made t gone id m (consumer_place r.number) (λ _. end) moving (k.move t id place r end m is may low idle);
      are = λ s s' y. (
          let told = y.told.told.3 in
          let at = (told r is).here may.frame (inl known) here in
          let identity : me.identity ≡ t.key.identity = (y.before.ruled.ruled.claims.each id me (pass_at s.views id m.0 y.at)).identity in
          let done : IsCommittedFrame t.key.identity may.frame = subst (λ (i : Identity). IsCommittedFrame i may.frame) identity at.done in
          let past : Placed = record { at = may.frame.start; frame = done.content } in
          let says : spelled t.key.identity past ≡ may.frame = (λ i. record { start = may.frame.start; cut = sym done.whole i; words = sym done.spelt i }) in (
            Move r.number past ∷ [],
            (past, says, refl),
            happens t gone id m (consumer_place r.number) (λ _. end) moving s s' y (Move r.number past) (
              refl,
              record {
                id = id;
                v = me;
                place = place;
                r = r;
                is = is;
                low = low;
                number_is = refl;
                frame = may.frame;
                known = known;
                here = here;
                says = says;
                legal = done.legal;
                turn = subst (λ (x : ℕ). Turns (stream_of t s y.before) id me (consumer_place r.number) (λ _. x) (λ _ w. Consumes me place x w) (stream_of t s' y.after)) may.ends (turned t gone id m (consumer_place r.number) (λ _. end) moving s s' y (omega arith) (λ _ w. Consumes me place end w) told);
              },
            ),
          ));
    }

-- ---- the keeper

module _ (k : StepsKeep) (t : Site) (gone : List ℕ) (id : ℕ) (m : Mine) (idle : IsIdle m.0) where
  abbrev keeper : Pass
  keeper = m.0.view.pass

  pub sweep : (j : ℕ) → keeper.keeping.right ≡ 1 → IsThere keeper.keeping.there j → j < 8 → Means t gone id m (consumer_place j) (λ n. n) (LoadsPosition j m) (IsOne Look)
  sweep j right there low = means t gone id m (consumer_place j) (λ n. n) (LoadsPosition j m) (k.sweep t id j m right there low idle) Look
      (λ s s' y. (refl, inl (load_consumer id keeper j there right (turned t gone id m (consumer_place j) (λ n. n) (LoadsPosition j m) s s' y (omega arith) (λ n w. SeesConsumer keeper j n w) y.told.told.0.3))))

  pub join : (number place n : ℕ) → MayJoin keeper number n → n ≡ least_there keeper.keeping.there keeper.keeping.positions
      → Means t gone id m (consumer_place number) (λ _. n) (λ x w. Rests (λ a _ c. keeping (λ v w. LearnsControls [] v w) (λ v w. Joins v number place n w) a c) m x w) (IsOne (Join number n))
  join number place n may least = means t gone id m (consumer_place number) (λ _. n) (λ x w. Rests (λ a _ c. keeping (λ v w. LearnsControls [] v w) (λ v w. Joins v number place n w) a c) m x w) (k.join t id number place n m may idle) (Join number n)
      (λ s s' y. (
        refl,
        record {
          id = id;
          v = keeper;
          place = place;
          may = may;
          least = least;
          turn = turned t gone id m (consumer_place number) (λ _. n) (λ x w. Rests (λ a _ c. keeping (λ v w. LearnsControls [] v w) (λ v w. Joins v number place n w) a c) m x w) s s' y (low_place number may.inside) (λ _ w. Joins keeper number place n w) y.told.told.3;
        },
      ))
    where
      low_place : (j : ℕ) → j < 8 → consumer_place j < 208
      low_place j lt = omega arith

  pub leave : (place number : ℕ) → MayLeave keeper place number
      → Means t gone id m (consumer_place number) (λ _. 0) (λ x w. Rests (λ a _ c. keeping (λ v w. LearnsControls [] v w) (λ v w. Leaves v place number w) a c) m x w) (IsOne (Leave number))
  leave place number may = means t gone id m (consumer_place number) (λ _. 0) (λ x w. Rests (λ a _ c. keeping (λ v w. LearnsControls [] v w) (λ v w. Leaves v place number w) a c) m x w) (k.leave t id place number m may idle) (Leave number)
      (λ s s' y. (
        refl,
        record {
          id = id;
          v = keeper;
          place = place;
          may = may;
          turn = turned t gone id m (consumer_place number) (λ _. 0) (λ x w. Rests (λ a _ c. keeping (λ v w. LearnsControls [] v w) (λ v w. Leaves v place number w) a c) m x w) s s' y (low_place number may.inside) (λ _ w. Leaves keeper place number w) y.told.told.3;
        },
      ))
    where
      low_place : (j : ℕ) → j < 8 → consumer_place j < 208
      low_place j lt = omega arith

  module _ (word : ℕ) (may : MayRaise keeper word) (parts : 0 < keeper.right.parts) where
    abbrev storing : ℕ → Mine → Type 0
    storing x w = Rests (λ a _ c. keeping (LearnsLimit word) (λ v w. Raises v word w) a c) m x w

    limits : (stores : Pass → ℕ → Type 0) → stores keeper word → (s s' : Board) (y : Makes t s id m limit_place (λ _. word) storing s') → StepLimits (stream_of t s y.before) stores (stream_of t s' y.after)
    limits stores is s s' y = record { id = id; v = keeper; word = word; may = may; is = is; turn = turned t gone id m limit_place (λ _. word) storing s s' y (omega arith) (λ _ w. Raises keeper word w) y.told.told.3 }

    pub raise : (least : ℕ) → RaisesTo least keeper word → Means t gone id m limit_place (λ _. word) storing (IsOne (Raise least))
    raise least is = means t gone id m limit_place (λ _. word) storing (k.raise t id word m may parts idle) (Raise least) (λ s s' y. (refl, limits (RaisesTo least) is s s' y))

    pub connect : (on : Bool) → ConnectsBy on keeper word → Means t gone id m limit_place (λ _. word) storing (IsOne (Connect on))
    connect on is = means t gone id m limit_place (λ _. word) storing (k.raise t id word m may parts idle) (Connect on) (λ s s' y. (refl, limits (ConnectsBy on) is s s' y))

    pub close : ClosesBy keeper word → Means t gone id m limit_place (λ _. word) storing (IsOne Close)
    close is = means t gone id m limit_place (λ _. word) storing (k.raise t id word m may parts idle) Close (λ s s' y. (refl, limits ClosesBy is s s' y))
