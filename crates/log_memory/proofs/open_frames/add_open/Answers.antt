use Rattle.std.proofs.Common.{◌≡◌, ℕ, ◌+◌, ◌-◌, ◌%◌, ◌^◌, ◌≤◌, min, ap, sym, ◌∙◌, subst, arith}
use Rattle.atomic_table.specs.Table.{Allows}
use Rattle.theory.specs.Position.{Geometry, framed_length, max_message}
use Rattle.theory.specs.Words.{offset_in}
use Rattle.log_rule.specs.Claims.Packs.{tail_place}
use Rattle.log_memory.specs.declared.view.Site.{Site}
use Rattle.log_memory.specs.Open.{AddsOpen, HoldsOpen}
use Rattle.log_memory.specs.Steps.{Adds, Mine}
use Rattle.log_memory.specs.Rule.{LogMemoryRuled}
use Rattle.log_memory.proofs.ClaimRooms.{adds_hold}
use Rattle.log_memory.proofs.Kept.{steps_keep}
use Rattle.log_memory.proofs.open_frames.add_open.Goals as goal

pub fetch_add-word-requires : goal.fetch_add-word-requires
fetch_add-word-requires g c =
    let t : Site = c.args.memory.now.table.shared.key in let id = c.args.seat.now.id in let m : Mine = c.args.seat.now.me in let slots = c.args.memory.now.table.shared.table_id.slots in let size : ℕ = c.args.size in let q = c.requires.chosen in
    let short : size ≤ max_message m.0.view.pass.identity.geometry = subst (λ (x : Geometry). size ≤ max_message x) (sym c.requires.geometry.0) c.requires.short in
    let covered : c.framed_length-covered.result ≡ framed_length m.0.view.pass.identity.geometry size = c.framed_length-covered.ensures ∙ ap (λ (x : Geometry). framed_length x size) (sym c.requires.geometry.0) in (
      c.requires.seat.of,
      (let w = c.requires.seat.words in let low = c.place_of.ensures.low in omega arith),
      subst (λ (x : ℕ × ℕ × (Site × ℕ)). Allows (LogMemoryRuled t) slots id m x.0 (λ n. (n + x.1) % 2 ^ 64) (Adds x.2.0 x.2.1 m)) (λ j. ((ap tail_place c.requires.count ∙ sym c.place_of.ensures.is) j, sym (c.from.ensures ∙ covered) j, (sym q.0 j, sym q.1 j)))
          (steps_keep.add t id size m c.requires.idle c.requires.parts c.requires.armed short slots),
    )

pub returns-clause-told : goal.returns-clause-told
returns-clause-told g c =
    let q = c.requires.chosen in let m : Mine = c.args.seat.now.me in
    let told : Adds c.args.memory.now.table.shared.key c.args.size m c.fetch_add-word.result c.fetch_add-word.new.seat.me = subst (λ (x : Site × ℕ). Adds x.0 x.1 m c.fetch_add-word.result c.fetch_add-word.new.seat.me) (λ j. (q.0 j, q.1 j)) c.fetch_add-word.ensures.2 in
    subst (AddsOpen c.args.size m c.fetch_add-word.result) (sym c.pass_slots.ensures.turned) record { part = told.part; room = told.room; parked = told.parked; told = told.told; low = told.low; apart = told.apart }

pub returns-clause-holds : goal.returns-clause-holds
returns-clause-holds g c =
    let t : Site = c.args.memory.now.table.shared.key in let m : Mine = c.args.seat.now.me in let m' : Mine = c.fetch_add-word.new.seat.me in let q = c.requires.chosen in
    let told : Adds t c.args.size m c.fetch_add-word.result m' = subst (λ (x : Site × ℕ). Adds x.0 x.1 m c.fetch_add-word.result m') (λ j. (q.0 j, q.1 j)) c.fetch_add-word.ensures.2 in
    let bytes : c.taken-bytes.result ≡ min (framed_length c.args.geometry.now c.args.size) (c.args.geometry.now.term_length - offset_in c.fetch_add-word.result) = c.taken-bytes.ensures ∙ ap (λ (n : ℕ). min n (c.args.geometry.now.term_length - offset_in c.fetch_add-word.result)) c.framed_length-covered.ensures in
    subst (HoldsOpen t) (sym c.pass_slots.ensures.turned)
    (adds_hold t c.args.size c.fetch_add-word.result c.taken-bytes.result m m' c.args.geometry.now c.requires.legal c.requires.geometry.0 c.requires.geometry.1 c.requires.seat.some bytes told.told.4 told.takes c.requires.holds)
