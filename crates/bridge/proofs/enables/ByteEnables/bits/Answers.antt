use Rattle.std.proofs.Common.{◌≡◌, ◌-◌, drop, ap, ◌∙◌, arith}
use Rattle.bridge.specs.Longwords.{enable_bits}
use Rattle.bridge.proofs.LineBytes.{bits_before, bits_from_fit, mask_below}
use Rattle.bridge.proofs.enables.ByteEnables.bits.Goals as goal

pub overflow_mul-bits : goal.overflow_mul-bits
overflow_mul-bits c =
    let es = c.args.self.now.numbers.now in
    omega (arith, c.loop-left.invariant.1, bits_before es c.loop-left.left (omega arith) c.loop-left.invariant.0, bits_from_fit es (c.loop-left.left - 1) c.requires c.args.self.now.narrow)

pub overflow_add-bits : goal.overflow_add-bits
overflow_add-bits c =
    let es = c.args.self.now.numbers.now in
    omega (arith, c.from.ensures, c.loop-left.invariant.1, bits_before es c.loop-left.left (omega arith) c.loop-left.invariant.0, bits_from_fit es (c.loop-left.left - 1) c.requires c.args.self.now.narrow)

pub returns-clause-bound : goal.returns-clause-bound
returns-clause-bound c =
    let es = c.args.self.now.numbers.now in
    let none : c.loop-left.left ≡ 0 = omega arith in
    let all : c.loop-left.bits ≡ enable_bits es = c.loop-left.invariant.1 ∙ ap (λ j. enable_bits (drop j es)) none in
    omega (arith, all, mask_below es c.args.self.now.narrow)
