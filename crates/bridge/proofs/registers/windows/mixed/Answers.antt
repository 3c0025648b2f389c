use Rattle.std.proofs.Common.{◌-◌, refl, arith}
use lib.Bits.{bit_and}
use Rattle.std.proofs.lemmas.Nat.{or_lt, and_le_r}
use Rattle.bridge.proofs.registers.windows.mixed.Goals as goal

pub returns : goal.returns
returns c =
    let k = and_le_r c.args.a c.args.mask in
    let l = and_le_r c.args.b (0xfff - c.args.mask) in
    record { value = refl; bound = omega (arith, or_lt 12 (bit_and c.args.a c.args.mask) (bit_and c.args.b (0xfff - c.args.mask)) (omega arith) (omega arith)) }
