use Rattle.std.proofs.Common.{◌≡◌, ◌∙◌, ℕ, ap, sym, subst, arith}
use Rattle.std.specs.Prelude.{slice_index, slice_range}
use Rattle.theory.specs.Wire.{DATA, Wire}
use Rattle.frames.specs.Fields.{u32_at}
use Rattle.frames.specs.Frames.{wire}
use Rattle.frames.specs.Fronts.{FrontSpells}
use Rattle.frames.specs.Reading.{header_at}
use Rattle.frames.proofs.Known.{HasDataLength, spelled_data}
use Rattle.frames.proofs.front.known_frame.Goals as goal

-- the frame is DATA
given : (c : goal.Then-u32_at-gt0) → HasDataLength c.args.bytes.now (u32_at c.args.bytes.now 0) (c.requires.0, c.requires.1)
given c = spelled_data c.args.bytes.now c.requires.0 c.requires.1 c.u16_at.result c.u32_at.result c.requires.2 c.u16_at.ensures c.if-u16_at-eq1.true c.u32_at.ensures c.if-u32_at-gt0.true

pub data_at-requires-clause-least : goal.data_at-requires-clause-least
data_at-requires-clause-least c = (given c).least

pub data_at-requires-clause-greatest : goal.data_at-requires-clause-greatest
data_at-requires-clause-greatest c = (given c).greatest

pub data_at-requires-clause-room : goal.data_at-requires-clause-room
data_at-requires-clause-room c = omega (arith, (given c).inner.room)

same : (c : goal.After-data_at) (w : Wire) (n : ℕ) → FrontSpells c.args.bytes.now w n → ◌≡◌ {A = Wire × ℕ} (wire c.data_at.result.0, c.data_at.result.1) (w, n)
same c w n is =
    let bytes = c.args.bytes.now in
    let known = spelled_data bytes w n c.u16_at.result c.u32_at.result is c.u16_at.ensures c.if-u16_at-eq1.true c.u32_at.ensures c.if-u32_at-gt0.true in
    ap (λ (x : Wire). (x, c.data_at.result.1)) c.data_at.ensures.frame ∙ ap (λ (k : ℕ). (DATA (header_at bytes) (slice_index bytes 5) (slice_range bytes 32 (u32_at bytes 0)), k)) c.data_at.ensures.size ∙ known.inner.same

pub returns-then-u32_at-gt0-clause-found : goal.returns-then-u32_at-gt0-clause-found
returns-then-u32_at-gt0-clause-found c =
    subst (λ (x : Wire × ℕ). FrontSpells c.args.bytes.now x.0 x.1) (sym (same c c.requires.0 c.requires.1 c.requires.2)) c.requires.2

pub returns-then-u32_at-gt0-clause-only : goal.returns-then-u32_at-gt0-clause-only
returns-then-u32_at-gt0-clause-only c = λ w n is. (ap (λ (x : Wire × ℕ). x.0) (same c w n is), ap (λ (x : Wire × ℕ). x.1) (same c w n is))
