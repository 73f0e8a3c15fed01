use Rattle.std.proofs.Common.{◌≡◌, ℕ, suc, ◌-◌, ◌*◌, ◌/◌, ◌%◌, ◌^◌, ◌<◌, ◌++◌, drop, length, sym, ap, ◌∙◌, subst, arith}
use Rattle.position.specs.Contents.{bytes_in}
use Rattle.region.specs.declared.access.ReadAccess.{ReadAccess}
use Rattle.region.specs.declared.access.WriteAccess.{WriteAccess}
use Rattle.region.specs.declared.region.Region.{Region}
use Rattle.log_memory.specs.declared.drafts.Draft.{Draft}
use Rattle.log_memory.specs.declared.view.Site.{Site}
use Rattle.log_memory.specs.Drafts.{words_of}
use Rattle.log_memory.specs.Rights.{IsEighthAt}
use Rattle.log_memory.specs.Steps.{Carries, IsPartAt}
use Rattle.position.proofs.Wordings.{words_length}
use Rattle.log_memory.proofs.Drafted.{carries_as, eighths_are_parts, written_items}
use Rattle.log_memory.proofs.Frees.{bytes_long}
use Rattle.log_memory.proofs.drafts.store_frame.Goals as goal

pub begin_reading-whole-requires : goal.begin_reading-whole-requires
begin_reading-whole-requires g c =
    let d : Draft = c.args.draft.now in let w = c.write_parts-home.ensures.written in let run = c.gather-run.ensures.run in
    let items : c.write_parts-home.result.1.items ≡ bytes_in (words_of d) = ap (λ (x : WriteAccess). x.items) w ∙ (λ j. c.header_bytes-header.ensures j ++ (d.payload.now ++ drop (length d.payload.now) (drop 32 (run.zeros j)))) ∙ written_items d c.requires.draft in (
      ap (λ (x : WriteAccess). x.identity) w ∙ run.identity ∙ sym c.requires.home ∙ sym c.write_parts-home.ensures.region ∙ ap (λ (r : Region). r.identity) (sym c.deref.ensures),
      subst (λ (n : ℕ). n < 2 ^ 63) (sym (ap length items ∙ bytes_long (words_of d) ∙ ap (λ (n : ℕ). 8 * suc (suc (suc (suc n)))) (words_length (d.bytes / 8 - 4) d.payload.now))) (let low = c.requires.draft.low in let b : ℕ = d.bytes in omega arith),
    )

pub returns-clause-row : goal.returns-clause-row
returns-clause-row g c =
    let t : Site = c.args.memory.now.table.shared.key in let d : Draft = c.args.draft.now in let w = c.write_parts-home.ensures.written in let run = c.gather-run.ensures.run in let b = c.begin_reading-whole.ensures.same in let whole : ReadAccess = c.begin_reading-whole.result in
    let items : whole.items ≡ bytes_in (words_of d) = b.2 ∙ ap (λ (x : WriteAccess). x.items) w ∙ (λ j. c.header_bytes-header.ensures j ++ (d.payload.now ++ drop (length d.payload.now) (drop 32 (run.zeros j)))) ∙ written_items d c.requires.draft in
    let identity : whole.identity ≡ t.region.identity = b.0 ∙ ap (λ (x : WriteAccess). x.identity) w ∙ run.identity in let at : whole.at ≡ 4 * c.slot-first.result = b.1 ∙ ap (λ (x : WriteAccess). x.at) w ∙ run.at in record {
      round = whole.round.life;
      book = whole.round.book;
      row = subst (λ (x : ℕ × ℕ). Carries (IsPartAt t x.0 (words_of d) whole.round.life whole.round.book) x.0 x.1 g.N.Rowed.behind c.deal_parts.new.seat.me.1) (λ j. (c.slot-first.ensures.is j, (count d.bytes c.requires.draft.whole) j))
          (carries_as (IsEighthAt c.slot-first.result whole) (IsPartAt t c.slot-first.result (words_of d) whole.round.life whole.round.book) c.slot-first.result (8 * (d.bytes / 32)) g.N.Rowed.behind c.deal_parts.new.seat.me.1 (eighths_are_parts t c.slot-first.result (words_of d) whole identity at items) c.deal_parts.ensures.row);
    }
  where
    count : (b : ℕ) → b % 32 ≡ 0 → 8 * (b / 32) ≡ b / 4
    count b w = omega arith
