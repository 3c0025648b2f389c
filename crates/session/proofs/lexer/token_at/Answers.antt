use Rattle.std.proofs.Common.{◌≡◌, ◌+◌, ◌-◌, length, take, drop, arith, length-drop}
use Rattle.std.proofs.lemmas.List.{length-take-le}
use Rattle.session.proofs.Lexing.{word_step}
use Rattle.session.proofs.lexer.token_at.Goals as goal

pub returns : goal.returns
returns c =
    let line = c.args.line.now in
    let s = c.in_ok-start.start in
    let n = c.word_len-n.result in
    let b = c.in_ok-start.ensures in
    let w = c.word_len-n.ensures in
    let e : s + n - s ≡ n = omega arith in
    let long : length (take n (drop s line)) ≡ n = length-take-le n (drop s line) (simp length-drop (omega (arith, w.within))) in
    rw e (word_step c.args.first _ line s n b.1 (omega arith) w.within w.all w.stops, b.0, omega arith, w.within)
