use Rattle.std.proofs.Common.{◌≡◌, ℕ, ◌*◌, ◌/◌, ◌^◌, [], length, sym, ap, ◌∙◌, subst, arith}
use Rattle.region.specs.declared.access.WriteAccess.{WriteAccess}
use Rattle.log_memory.specs.declared.view.LogView.{LogView}
use Rattle.log_memory.specs.declared.view.Site.{Site}
use Rattle.log_memory.specs.Places.{slot_of}
use Rattle.log_memory.specs.Rights.{IsAnything, IsWholeOf}
use Rattle.log_memory.specs.Rule.{ring}
use Rattle.log_memory.specs.Steps.{Carries, TakesBack}
use Rattle.log_memory.proofs.Frees.{bytes_long, covers_words, short, taken_parts, taken_row}
use Rattle.log_memory.proofs.frames.take_frame.Goals as goal

pub align32-bytes-requires : goal.align32-bytes-requires
align32-bytes-requires c =
    let t : Site = c.args.memory.now.table.shared.key in let told : TakesBack t c.args.seat.now.me c.take_back-word.result c.take_back-word.new.seat.me = c.take_back-word.ensures.told in
    short t c.requires.geometry told.frame told.done c.take_back-word.result told.word c.args.freed (c.requires.freed ∙ sym told.here) c.head_in.result c.head_in.ensures

pub collect_parts-whole-requires-clause-place : goal.collect_parts-whole-requires-clause-place
collect_parts-whole-requires-clause-place c =
    let t : Site = c.args.memory.now.table.shared.key in let told : TakesBack t c.args.seat.now.me c.take_back-word.result c.take_back-word.new.seat.me = c.take_back-word.ensures.told in
    let s = covers_words t c.requires.geometry told.frame told.done c.take_back-word.result told.word c.args.freed (c.requires.freed ∙ sym told.here) c.head_in.result c.head_in.ensures c.align32-bytes.result c.align32-bytes.ensures in
    let some = s.2 in let most = s.3 in let low = c.slot.ensures.low in (omega arith, omega arith)

pub collect_parts-whole-requires-clause-row : goal.collect_parts-whole-requires-clause-row
collect_parts-whole-requires-clause-row c =
    let t : Site = c.args.memory.now.table.shared.key in let told : TakesBack t c.args.seat.now.me c.take_back-word.result c.take_back-word.new.seat.me = c.take_back-word.ensures.told in
    let s = covers_words t c.requires.geometry told.frame told.done c.take_back-word.result told.word c.args.freed (c.requires.freed ∙ sym told.here) c.head_in.result c.head_in.ensures c.align32-bytes.result c.align32-bytes.ensures in
    taken_parts t c.args.seat.now.me c.take_back-word.new.seat.me c.take_back-word.result told c.requires.empty c.slot.result c.align32-bytes.result (c.slot.ensures.is ∙ ap (λ (p : ℕ). slot_of (ring t) p 0) c.requires.freed) s.0 s.1

pub end_reading-requires : goal.end_reading-requires
end_reading-requires c =
    let t : Site = c.args.memory.now.table.shared.key in let told : TakesBack t c.args.seat.now.me c.take_back-word.result c.take_back-word.new.seat.me = c.take_back-word.ensures.told in
    let s = covers_words t c.requires.geometry told.frame told.done c.take_back-word.result told.word c.args.freed (c.requires.freed ∙ sym told.here) c.head_in.result c.head_in.ensures c.align32-bytes.result c.align32-bytes.ensures in
    let first : c.slot.result ≡ slot_of (ring t) c.args.seat.now.me.0.room.freed 0 = c.slot.ensures.is ∙ ap (λ (p : ℕ). slot_of (ring t) p 0) c.requires.freed in
    let w : IsWholeOf t c.slot.result told.frame.words (2 ^ 63) told.round told.book c.collect_parts-whole.result = c.collect_parts-whole.ensures.whole told.frame.words told.round told.book (taken_row t c.args.seat.now.me c.take_back-word.new.seat.me c.take_back-word.result told c.requires.empty c.slot.result c.align32-bytes.result first s.0 s.1) in
    w.count

pub returns-clause-takes : goal.returns-clause-takes
returns-clause-takes c =
    let t : Site = c.args.memory.now.table.shared.key in let told : TakesBack t c.args.seat.now.me c.take_back-word.result c.take_back-word.new.seat.me = c.take_back-word.ensures.told in
    let s = covers_words t c.requires.geometry told.frame told.done c.take_back-word.result told.word c.args.freed (c.requires.freed ∙ sym told.here) c.head_in.result c.head_in.ensures c.align32-bytes.result c.align32-bytes.ensures in
    let first : c.slot.result ≡ slot_of (ring t) c.args.seat.now.me.0.room.freed 0 = c.slot.ensures.is ∙ ap (λ (p : ℕ). slot_of (ring t) p 0) c.requires.freed in
    let w : IsWholeOf t c.slot.result told.frame.words (2 ^ 63) told.round told.book c.collect_parts-whole.result = c.collect_parts-whole.ensures.whole told.frame.words told.round told.book (taken_row t c.args.seat.now.me c.take_back-word.new.seat.me c.take_back-word.result told c.requires.empty c.slot.result c.align32-bytes.result first s.0 s.1) in
    let e = c.end_reading.ensures in let same : c.collect_parts-whole.new.seat.me.0 ≡ c.take_back-word.new.seat.me.0 = c.collect_parts-whole.ensures.seat.2 in record {
      frame = told.frame;
      here = told.here;
      done = told.done;
      long = s.0;
      whole = s.1;
      some = s.2;
      low = s.3;
      identity = ap (λ (x : WriteAccess). x.identity) e ∙ w.identity;
      at = ap (λ (x : WriteAccess). x.at) e ∙ w.at ∙ ap (λ (k : ℕ). 4 * k) first;
      items = ap (λ (x : WriteAccess). length x.items) e ∙ ap length w.items ∙ bytes_long told.frame.words ∙ sym s.0;
      row = subst (λ (k : ℕ). Carries IsAnything k (8 * (c.align32-bytes.result / 32)) [] c.collect_parts-whole.new.seat.me.1) first c.collect_parts-whole.ensures.row;
      part = ap (λ (v : LogView). v.part) same ∙ told.part;
      room = ap (λ (v : LogView). v.room) same ∙ told.room ∙ ap (λ (n : ℕ). record { freed = c.args.seat.now.me.0.room.freed; out = n }) (sym s.0);
      parked = ap (λ (v : LogView). v.parked) same ∙ told.parked;
      rests = ap (λ (v : LogView). v.view) same ∙ told.rests;
    }
