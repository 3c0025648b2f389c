use Rattle.std.proofs.Common.{arith}
use Rattle.bridge.proofs.BitFields.{shifted}
use Rattle.bridge.proofs.registers.bits_from.Goals as goal

pub returns : goal.returns
returns c = shifted c.args.value c.args.low 31 32 (omega (arith, c.requires)) (omega arith) c.ranges.value.fits
