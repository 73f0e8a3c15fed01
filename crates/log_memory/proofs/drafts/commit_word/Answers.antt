use Rattle.std.proofs.Common.{◌≡◌, ℕ, ◌*◌, ◌/◌, drop, length, replicate, sym, ap, ◌∙◌, subst, arith}
use Rattle.std.proofs.lemmas.List.{length-replicate}
use Rattle.theory.specs.Position.{aligned}
use Rattle.publication.specs.declared.pass.FrameWords.{FrameWords}
use Rattle.log_memory.specs.declared.drafts.Draft.{Draft}
use Rattle.log_memory.specs.declared.view.Site.{Site}
use Rattle.atomic_table.specs.Table.{Allows}
use Rattle.log_memory.specs.Drafts.{IsDraft, IsParted, MayStore, behind_of, words_of}
use Rattle.log_memory.specs.Places.{slot_of}
use Rattle.log_memory.specs.Rule.{LogMemoryRuled, ring}
use Rattle.log_memory.specs.Steps.{Carries, Commits, IsPartAt, MayCommit, Mine}
use Rattle.log_memory.proofs.Drafted.{draft_fits, words_long}
use Rattle.log_memory.proofs.Kept.{steps_keep}
use Rattle.log_memory.proofs.drafts.commit_word.Goals as goal

-- the frame's word may be stored
may_commit : (t : Site) (d : Draft) (m : Mine) → IsDraft d → MayStore t d m → IsParted t d (behind_of d m.1) m.1 → MayCommit t d.start (words_of d) m
may_commit t d m is may row = let long : 8 * length (words_of d) ≡ d.bytes = words_long d is in record {
  front = may.front;
  cut = may.cut;
  behind = may.others;
  drafts = may.drafts;
  long = count (length (words_of d)) d.bytes (aligned may.cut) (length (replicate {A = ℕ} (aligned may.cut / 8) 0)) long may.long (length-replicate {A = ℕ} (aligned may.cut / 8) 0);
  some = omega arith;
  done = may.done;
  small = draft_fits d is;
  round = row.round;
  book = row.book;
  before = behind_of d m.1;
  carries = subst (λ (n : ℕ). Carries (IsPartAt t (slot_of (ring t) d.start 0) (words_of d) row.round row.book) (slot_of (ring t) d.start 0) (n / 4) (behind_of d m.1) m.1) (sym long) row.row;
}
  where
    count : (l b a r : ℕ) → 8 * l ≡ b → b ≡ a → r ≡ a / 8 → l ≡ r
    count l b a r e f h = omega arith

pub store-requires : goal.store-requires
store-requires g c =
    let t : Site = c.args.memory.now.table.shared.key in let id = c.args.seat.now.id in let d : Draft = c.args.draft.now in let m : Mine = c.args.seat.now.me in let slots = c.args.memory.now.table.shared.table_id.slots in (
      c.requires.seat.of,
      c.head-place.ensures.inside,
      subst (λ (x : ℕ × Site × FrameWords). Allows (LogMemoryRuled t) slots id m x.0 (λ _. d.first) (λ _ w. Commits x.1 x.2.start x.2.words m w)) (λ j. (sym c.head-place.ensures.is j, sym c.requires.chosen.0 j, sym c.requires.chosen.1 j)) (steps_keep.commit t id d.start (words_of d) m c.requires.may.idle (may_commit t d m c.requires.draft c.requires.may c.requires.row) slots),
    )

pub returns-clause-stores : goal.returns-clause-stores
returns-clause-stores g c =
    let t : Site = c.args.memory.now.table.shared.key in let d : Draft = c.args.draft.now in let m : Mine = c.args.seat.now.me in
    let told : Commits t d.start (words_of d) m c.store.new.seat.me = subst (λ (x : Site × FrameWords). Commits x.0 x.1.start x.1.words m c.store.new.seat.me) (λ j. (c.requires.chosen.0 j, c.requires.chosen.1 j)) c.store.ensures.2 in record {
      carried = told.carried ∙ ap (λ (n : ℕ). drop (n / 4) m.1) (words_long d c.requires.draft);
      part = told.part;
      room = told.room;
      parked = told.parked;
      steps = told.steps;
      learns = told.learns;
      fills = told.fills;
    }
