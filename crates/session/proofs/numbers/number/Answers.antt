use Rattle.std.proofs.Common.{◌<◌, length, arith}
use Rattle.std.proofs.lemmas.Int.Digits.{digits_value_more, digits_more}
use Rattle.session.proofs.HexWords.{digits_at, room}
use Rattle.session.proofs.numbers.number.Goals as goal

pub returns-in_err-digit : goal.returns-in_err-digit
returns-in_err-digit c =
    rw c.from_residual.ensures (λ h. c.in_err-digit.ensures.value (rw c.from.ensures (digits_at c.args.word.now c.loop-b.b-index h.0.1 (omega arith))))

pub overflow_mul-n : goal.overflow_mul-n
overflow_mul-n c = let r = room c.args.word.now c.loop-b.b-index (omega arith) c.loop-b.invariant.2 c.loop-b.invariant.1 in omega arith

pub overflow_add-n : goal.overflow_add-n
overflow_add-n c =
    let r = room c.args.word.now c.loop-b.b-index (omega arith) c.loop-b.invariant.2 c.loop-b.invariant.1 in
    let d = rw c.from.ensures at c.in_ok-digit.ensures.value in
    omega arith

pub loop-b-preserved : goal.loop-b-preserved
loop-b-preserved c =
    let w = c.args.word.now in
    let i = c.loop-b.b-index in
    let d = rw c.from.ensures at c.in_ok-digit.ensures.value in
    let lt : i < length w = omega arith in
    let v = digits_value_more 16 w i lt in
    let e = d.1 in
    let n = c.loop-b.invariant.0 in
    (omega arith, digits_more 16 w i lt c.loop-b.invariant.1 d.0, c.loop-b.invariant.2)
