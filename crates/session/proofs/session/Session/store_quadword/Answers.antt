use Rattle.std.proofs.Common.{◌≡◌, ◌%◌, ap, ◌∙◌, arith}
use Rattle.bridge.specs.Calls.{Outcome, performed, processor, store}
use Rattle.session.specs.Quadwords.{line_start}
use Rattle.session.specs.Sessions.{session_state}
use Rattle.session.proofs.QuadwordStores.{line_stored}
use Rattle.session.proofs.session.Session.store_quadword.Goals as goal

pub returns-clause-answer : goal.returns-clause-answer
returns-clause-answer c =
    let s = session_state c.args.self.now in
    let t = session_state c.load_line.new.self in
    let address = c.args.address in
    let value = c.args.value in
    let aligned : address % 8 ≡ 0 = omega arith in
    let kept = c.load_line.ensures.after in
    let loaded = c.in_ok-line.ensures.answer in
    let put = ap (λ bytes. performed t (processor (store (line_start address) bytes))) c.put_quadword.ensures in
    c.store_line.ensures.answer ∙ ap (λ (o : Outcome). o.answer) (put ∙ line_stored s t address value c.in_ok-line.line aligned loaded kept)
