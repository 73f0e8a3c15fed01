use Rattle.std.proofs.Common.{◌≡◌, ℕ, ◌+◌, ◌-◌, length, take, replicate, ap, ◌∙◌, arith}
use Rattle.std.proofs.lemmas.List.{take-replicate}
use Rattle.theory.specs.Position.{aligned}
use Rattle.frames.specs.Frames.{header_of}
use Rattle.frames.proofs.Written.{data_written}
use Rattle.frames.proofs.writing.write_data.Goals as goal

pub returns-clause-written : goal.returns-clause-written
returns-clause-written c =
    let n : ℕ = 32 + length c.args.payload.now in
    let k : c.next_multiple_of-size.result - n ≡ aligned n - n = omega arith in
    data_written (header_of c.args.header.now) c.args.flags c.args.payload.now c.args.buffer.now c.put.new.buffer c.put-2.new.buffer c.put-3.new.buffer c.header_bytes.result (take (c.next_multiple_of-size.result - n) (replicate 32 0))
    c.header_bytes.ensures c.put.ensures c.put-2.ensures (take-replicate (c.next_multiple_of-size.result - n) 32 0 (omega arith) ∙ ap (λ (m : ℕ). replicate m 0) k) c.put-3.ensures
