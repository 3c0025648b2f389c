use Rattle.std.proofs.Common.{◌≡◌, ◌+◌, ◌-◌, ◌*◌, ◌/◌, ◌%◌, ◌^◌, ◌<◌, ◌≤◌, sym, ap, ap₂, ◌∙◌, arith, pow_mono, rules}
use Rattle.std.proofs.Math.Nat.{mod-eq_of_lt, mul-le-mul}
use Rattle.bridge.specs.Bits.{bits, bits_kept}
use Rattle.bridge.specs.Windows.{mixed, target_base}
use Rattle.bridge.proofs.BitFields.{shifted}
use Rattle.bridge.proofs.registers.Window.address.Goals as goal

pub returns : goal.returns
returns c =
    let w = c.args.self.now in
    let low = c.args.low in
    let base : c.from-base.result * 2 ≡ target_base w = ap (λ k. k * 2) c.from-base.ensures in
    let narrow : target_base w < 2 ^ 33 = search rules in
    let high : c.from-base.result * 2 / 2 ^ (low + 12) * 2 ^ (low + 12) % 2 ^ 64 ≡ bits_kept 32 (low + 12) (target_base w) =
    rw base (shifted (target_base w) (low + 12) 32 64 (omega (arith, c.requires)) (omega arith) narrow) in
    let twelve : low + 11 + 1 - low ≡ 12 = omega arith in
    let middle : c.from.result ≡ mixed (bits 31 20 w.mask) (bits 31 20 c.args.pci) (bits (low + 11) low (target_base w)) =
    c.from.ensures ∙ (rw (c.top.ensures.value, c.top-2.ensures.value, base) at c.mixed-middle.ensures.value)
    ∙ ap (λ k. mixed (bits 31 20 w.mask) (bits 31 20 c.args.pci) (target_base w / 2 ^ low % 2 ^ k)) (sym twelve) in
    let power : 2 ^ low ≤ 2 ^ 20 = pow_mono c.requires in
    let bound : c.from.result ≤ 0xfff = rw c.from.ensures c.mixed-middle.ensures.bound in
    let fits : c.from.result * 2 ^ low < 2 ^ 64 = omega (arith, mul-le-mul bound power) in
    ap₂ (λ a b. a + b) (ap₂ (λ a b. a + b) high (mod-eq_of_lt fits ∙ ap (λ k. k * 2 ^ low) middle)) c.from-2.ensures
