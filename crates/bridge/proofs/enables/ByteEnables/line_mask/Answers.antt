use Rattle.std.proofs.Common.{◌*◌, length, rules}
use Rattle.std.proofs.lemmas.Nat.{shl_whole}
use Rattle.bridge.proofs.enables.ByteEnables.line_mask.Goals as goal

-- the bits are moved to their place without loss
pub returns : goal.returns
returns c =
    let moved = shl_whole c.bits.result (4 * length c.args.self.now.numbers.now) c.args.offset 32 c.bits.ensures.bound c.requires.1 in
    search rules
