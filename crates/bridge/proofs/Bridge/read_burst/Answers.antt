use Rattle.std.proofs.Common.{◌≡◌, ◌+◌, ◌*◌, sym, ap, arith, rules}
use Rattle.std.proofs.lemmas.Result.{err_from_is_err_and}
use Rattle.bridge.specs.declared.bursts.ReadEnd.TheVariants.{Fault}
use Rattle.bridge.proofs.ReadBursts.{begin, complete, no_window_next}
use Rattle.bridge.proofs.PageReads.{AnswerOf, page_ends, page_goes_on, without_count}
use Rattle.bridge.proofs.Bridge.read_burst.Goals as goal

pub loop-moved-init : goal.loop-moved-init
loop-moved-init g c = begin _ _ _ _

pub returns-in_default : goal.returns-in_default
returns-in_default g c = no_window_next _ _ _ _ _ _ _ c.loop-moved.invariant (omega arith) c.loop-moved-test.true (sym c.in_default.ensures) _ c.no_window.ensures

pub returns-in_err-moved : goal.returns-in_err-moved
returns-in_err-moved g c =
    let same : c.map.result ≡ without_count c.read_page-read.result = search rules in
    let made : AnswerOf (Fault c.loop-moved.moved (c.args.pci + 4 * c.loop-moved.moved)) c.read_page-read.result c.map_err.result = search rules in
    let p = err_from_is_err_and c.from_residual.result c.from_residual.ensures.1 in
    rw (p.1, p.2)
    (page_ends _ _ _ _ _ _ _ c.loop-moved.invariant (omega arith) c.requires.aligned c.loop-moved-test.true c.in-Some.number c.in-Some.mapped (sym c.in-Some.ensures) _ (ap (λ k. c.loop-moved.moved + k) c.before_end.ensures) _
    _ c.read_page-read.ensures.after _ _ _ same c.note_served.ensures c.read_page-read.ensures.read c.map_err.result made _ c.in_err-moved.was)

pub loop-moved-smaller : goal.loop-moved-smaller
loop-moved-smaller g c =
    let same : c.map.result ≡ without_count c.read_page-read.result = search rules in
    let made : AnswerOf (Fault c.loop-moved.moved (c.args.pci + 4 * c.loop-moved.moved)) c.read_page-read.result c.map_err.result = search rules in
    let on = page_goes_on _ _ _ _ _ _ _ c.loop-moved.invariant (omega arith) c.requires.aligned c.loop-moved-test.true c.in-Some.number c.in-Some.mapped (sym c.in-Some.ensures) _ (ap (λ k. c.loop-moved.moved + k) c.before_end.ensures) _
    _ c.read_page-read.ensures.after c.note_served.new.self _ _ same c.note_served.ensures c.read_page-read.ensures.read c.read_page-read.auto.words c.map_err.result made _ c.in_ok-moved.was c.read_page-read.ensures.again c.read_page-read.ensures.low in
    omega (arith, on.1, c.loop-moved-test.true)

pub loop-moved-preserved : goal.loop-moved-preserved
loop-moved-preserved g c =
    let same : c.map.result ≡ without_count c.read_page-read.result = search rules in
    let made : AnswerOf (Fault c.loop-moved.moved (c.args.pci + 4 * c.loop-moved.moved)) c.read_page-read.result c.map_err.result = search rules in
    (page_goes_on _ _ _ _ _ _ _ c.loop-moved.invariant (omega arith) c.requires.aligned c.loop-moved-test.true c.in-Some.number c.in-Some.mapped (sym c.in-Some.ensures) _ (ap (λ k. c.loop-moved.moved + k) c.before_end.ensures) _
    _ c.read_page-read.ensures.after _ _ _ same c.note_served.ensures c.read_page-read.ensures.read c.read_page-read.auto.words c.map_err.result made _ c.in_ok-moved.was c.read_page-read.ensures.again c.read_page-read.ensures.low).0

pub returns : goal.returns
returns g c = complete _ _ _ _ _ _ _ c.loop-moved.invariant (omega arith) c.requires.some c.loop-moved-test.false
