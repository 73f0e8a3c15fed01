-- Seats of a log that runs are dealt and joined as those of its stream.
use Rattle.std.proofs.Common.{◌≡◌, inl, inr, ℕ, ◌%◌, List, [], ◌∷◌, ◌++◌, map, set, sym, refl, ap, ◌∙◌}
use Rattle.std.specs.Prelude.{slice_index}
use Rattle.std.proofs.lemmas.List.{map-set}
use Rattle.atomic_table.specs.Table.{Joins, Splits, State}
use Rattle.atomic_table.proofs.Lists.{at_map, set_else}
use Rattle.publication.specs.Steps.{geometry_of, shown_position}
use Rattle.log_rule.specs.declared.claims.view.View.{View}
use Rattle.log_rule.specs.Claims.Closing.{both_seats, handing_seats, numbered_seat, spent_seat}
use Rattle.log_rule.specs.Claims.Packs.{tail_place}
use Rattle.log_rule.specs.Claims.Plays.{dealing_seat, dealt_seat}
use Rattle.log_rule.specs.Meetings.{back_left, back_right, meeting_seats, was_shown}
use Rattle.log_rule.specs.Table.{keeper_left, keeper_right, knowledge_right, news_left, news_right, reader_left, reader_right, returned_seat, told_seat}
use Rattle.log_rule.proofs.Claimed.Memories.{maps_append}
use Rattle.log_memory.specs.declared.view.LogView.{LogView}
use Rattle.log_memory.specs.declared.view.Site.{Site}
use Rattle.log_memory.specs.Kinds.{IsSteadied, IsWeighed, ShowsPartition}
use Rattle.log_memory.specs.Law.{SeatsKeep}
use Rattle.log_memory.specs.Lifted.{lifted_left, lifted_right, lowered}
use Rattle.log_memory.specs.Rule.{Board, LogMemoryRuled, view_in}
use Rattle.log_memory.specs.Seats.{dealt_with, joining, spent_with, viewing}
use Rattle.model.specs.Log.{LogEvent, Look, Retire}
use Rattle.threads_meaning.specs.Law.{StepOf}
use Rattle.threads_meaning.specs.Running.{stream_of}
use Rattle.threads_meaning.specs.RunningSeats.{Cuts, CutsAsLook, RunningSeats, Unites, UnitesAs}
use Rattle.threads_meaning.specs.Seats.{Deals, SeatsMove, Takes, deal_keeper, deal_publisher, deal_reader, gather, lift, lower, meet, part_again, renumber, return, tell, tell_known, tell_news}
use Rattle.threads_meaning.specs.Steps.{load_shown}
use Rattle.threads_meaning.proofs.Boards.{load_same, means, own, rested}

module _ (t : Site) (gone : List ℕ) (id : ℕ) (v left right : LogView) where
  deals : (s s' : Board) (y : Cuts t s id v left right s') → Deals (stream_of t s y.before) v.view left.view right.view (stream_of t s' y.after)
  deals s s' y = record {
    id = id;
    at = at_map view_in s.views id v y.at;
    words = λ j lt. sym (y.after.words.controls j lt) ∙ ap (λ (l : List ℕ). slice_index l j) y.words ∙ y.before.words.controls j lt;
    views = ap (map view_in) y.views ∙ maps_append view_in (set s.views id left) (right ∷ []) ∙ ap (λ (l : List View). l ++ right.view ∷ []) (map-set view_in s.views id left);
  }

  cuts : Splits (LogMemoryRuled t) id v left right → ((s s' : State (Unit {0}) View) → Deals s v.view left.view right.view s' → SeatsMove t.key s s') → CutsAsLook t gone id v left right
  cuts splits moves = record {
    leads = λ s r at. (record { words = s.words; homes = s.homes; views = set s.views id left ++ right ∷ [] }, record { before = r; after = splits s r at; at = at; words = refl; views = refl });
    are = λ s s' y. record { before = y.before; after = y.after; steps = (stream_of t s' y.after, gone, y.after.ruled, (refl, inr (moves (stream_of t s y.before) (stream_of t s' y.after) (deals s s' y))), (refl, refl)) };
  }

module _ (t : Site) (gone : List ℕ) (id other : ℕ) (v x both : LogView) where
  abbrev spent : LogView
  spent = spent_with (spent_seat t.key.identity t.key.start)

  takes : (s s' : Board) (y : Unites t s id other v x both spent s') → Takes (stream_of t s y.before) v.view x.view both.view (spent_seat t.key.identity t.key.start) (stream_of t s' y.after)
  takes s s' y = record {
    id = id;
    other = other;
    at = at_map view_in s.views id v y.at;
    apart = y.apart;
    there = at_map view_in s.views other x y.there;
    words = λ j lt. sym (y.after.words.controls j lt) ∙ ap (λ (l : List ℕ). slice_index l j) y.words ∙ y.before.words.controls j lt;
    views = ap (map view_in) y.views ∙ map-set view_in (set s.views id both) other spent ∙ ap (λ (l : List View). set l other spent.view) (map-set view_in s.views id both);
  }

  unites : Joins (LogMemoryRuled t) id v other x both spent → (e : LogEvent) (after : List ℕ) → ((s s' : State (Unit {0}) View) → Takes s v.view x.view both.view (spent_seat t.key.identity t.key.start) s' → StepOf t.key gone s e s' after) → UnitesAs t gone id other v x both e after
  unites joins e after is = record {
    leads = λ s r at apart there. (record { words = s.words; homes = s.homes; views = set (set s.views id both) other spent }, record { before = r; after = joins s r at apart (set_else s.views id other both apart ∙ there); at = at; apart = apart; there = there; words = refl; views = refl });
    are = λ s s' y. record { before = y.before; after = y.after; steps = (stream_of t s' y.after, after, y.after.ruled, is (stream_of t s y.before) (stream_of t s' y.after) (takes s s' y), (refl, refl)) };
  }

  looks : Joins (LogMemoryRuled t) id v other x both spent → ((s s' : State (Unit {0}) View) → Takes s v.view x.view both.view (spent_seat t.key.identity t.key.start) s' → SeatsMove t.key s s') → UnitesAs t gone id other v x both Look gone
  looks joins moves = unites joins Look gone (λ s s' y. (refl, inr (moves s s' y)))

pub running_seats : SeatsKeep → RunningSeats
running_seats k = record {
  deal_publisher = λ t gone id v idle off fresh many. cuts t gone id v (viewing dealing_seat v) (dealt_with dealt_seat v) (k.deal_publisher t id v idle off fresh many) (λ s s' y. deal_publisher v.view off fresh y);
  deal_reader = λ t gone id v idle. cuts t gone id v (viewing reader_left v) (dealt_with reader_right v) (k.deal_reader t id v idle) (λ s s' y. deal_reader v.view y);
  deal_keeper = λ t gone id v idle off fresh many. cuts t gone id v (viewing keeper_left v) (dealt_with keeper_right v) (k.deal_keeper t id v idle off fresh many) (λ s s' y. deal_keeper v.view y);
  renumber = λ t gone id v idle n low all off. cuts t gone id v (viewing (numbered_seat n) v) (dealt_with (λ w. spent_seat w.pass.identity w.pass.start) v) (k.renumber t id v idle n low all) (λ s s' y. renumber v.view n off y);
  news = λ t gone id v idle. cuts t gone id v (viewing news_left v) (dealt_with news_right v) (k.news t id v idle) (λ s s' y. tell_news v.view y);
  knowledge = λ t gone id v idle. cuts t gone id v (viewing news_left v) (dealt_with knowledge_right v) (k.knowledge t id v idle) (λ s s' y. tell_known v.view y);
  part_again = λ t gone id v idle n p q is steady_p steady_q off_p off_q parts_p parts_q identity start none. cuts t gone id v (viewing (back_left p) v) (dealt_with (back_right q) v) (k.part_again t id v idle n p q is steady_p steady_q off_p off_q parts_p parts_q identity start none) (λ s s' y. part_again v.view n p q is off_p off_q none y);
  tell = λ t gone id other v x idle_v idle_x is. looks t gone id other v x (joining told_seat v x) (k.tell t id other v x idle_v idle_x is) (λ s s' y. tell v.view x.view is y);
  return = λ t gone id other v x idle_v idle_x c is. looks t gone id other v x (joining returned_seat v x) (k.return t id other v x idle_v idle_x c is) (λ s s' y. return v.view x.view c is y);
  gather = λ t gone id other v x idle_v idle_x off_v off_x parts. looks t gone id other v x (joining both_seats v x) (k.gather t id other v x idle_v idle_x off_v off_x parts) (λ s s' y. gather v.view x.view off_v off_x y);
  meet = λ t gone id other v x idle_v idle_x off_v off_x parts. looks t gone id other v x (joining meeting_seats v x) (k.meet t id other v x idle_v idle_x off_v off_x parts) (λ s s' y. meet v.view x.view off_v off_x y);
  hand_over = λ t gone id other v x idle none low off_v off_x parts may. unites t gone id other v x (joining handing_seats v x) (k.hand_over t id other v x idle none low (λ few. may.numbers.0) off_v off_x parts) (Retire v.view.pass.number x.view.pass.number) (x.view.pass.number ∷ gone) (λ s s' y. (
    refl,
    record {
      v = v.view;
      w = x.view;
      takes = y;
      kept_is = refl;
      number_is = refl;
      idle = (off_v, off_x);
      parts = (parts, may.parts);
      numbers = may.numbers;
      owned = may.owned;
      living = may.living;
    },
  ));
  lift = λ t gone id v idle. cuts t gone id v (viewing lifted_left v) (dealt_with lifted_right v) (k.lift t id v idle) (λ s s' y. lift v.view y);
  lower = λ t gone id other v x idle_v idle_x is none. looks t gone id other v x (joining lowered v x) (k.lower t id other v x idle_v idle_x is none) (λ s s' y. lower v.view x.view is none y);
  settle = λ t gone id m idle i low. own t gone id m i (IsSteadied m) (k.settle t id m idle i low) (λ n w told. told.told.3.same);
  weigh = λ t gone id m idle i low. own t gone id m i (IsWeighed m) (k.weigh t id m idle i low) (λ n w told. told.told.3.same);
  show = λ t gone id m idle p. means t gone id m (tail_place p) (λ n. n) (ShowsPartition (p % 3) m) (k.show t id m idle p) Look (λ s s' y. (
    refl,
    inl (load_shown id m.0.view.pass 0
        (rested t gone id m (tail_place p) (λ n. n) (ShowsPartition (p % 3) m) s s' y (load_same t gone id m (tail_place p) (ShowsPartition (p % 3) m) s s' y) 0 (λ w. (n : ℕ) × (w ≡ was_shown n m.0.view.pass)) (shown_position (geometry_of m.0.view.pass) (slice_index s.words (tail_place p)), y.told.told.0.3.after))),
  ));
}
