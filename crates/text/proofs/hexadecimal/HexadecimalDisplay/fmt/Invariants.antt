use Rattle.std.proofs.Common.{take}
use Rattle.std.specs.Fmt.{HasWritten, IsPlainFormatter}
use Rattle.text.specs.Digits.{hexadecimal}
use Rattle.text.proofs.hexadecimal.HexadecimalDisplay.fmt.Given as goal

-- the digits of the bytes so far
abbrev pub invariant-loop-byte : goal.invariant-loop-byte
invariant-loop-byte g l =
    IsPlainFormatter l.fn.f → HasWritten g.W.Write.write_str_gives l.fn.f (hexadecimal (take l.byte-index l.self.0.now)) l.f
