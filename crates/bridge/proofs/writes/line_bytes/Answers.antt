use Rattle.std.proofs.Common.{◌≡◌, ◌+◌, ◌*◌, length, subst, arith}
use Rattle.bridge.proofs.LineBytes.{Filled, all_filled, none_filled, word_filled}
use Rattle.bridge.proofs.writes.line_bytes.Goals as goal

pub loop-k-init : goal.loop-k-init
loop-k-init c = none_filled c.args.offset c.args.words.now

pub loop-k-preserved : goal.loop-k-preserved
loop-k-preserved c =
    rw (c.copy_from_slice.ensures.after, c.to_le_bytes.ensures)
    (word_filled c.args.offset c.loop-k.k _ c.args.words.now c.loop-k.bytes (omega arith) (omega arith) c.loop-k.invariant)

pub returns : goal.returns
returns c =
    let all : c.loop-k.k ≡ length c.args.words.now = omega arith in
    all_filled c.args.offset c.args.words.now c.loop-k.bytes (subst (λ n. Filled c.args.offset c.args.words.now c.loop-k.bytes (c.args.offset + 4 * n)) all c.loop-k.invariant)
