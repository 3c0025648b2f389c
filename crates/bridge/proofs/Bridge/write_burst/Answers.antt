use Rattle.std.proofs.Common.{◌≡◌, sym, ap, ◌∙◌, arith, rules}
use Rattle.std.proofs.lemmas.Bool.{ltb-false, ltb-true}
use Rattle.bridge.specs.declared.bursts.WriteCounts.{WriteCounts}
use Rattle.bridge.specs.BurstAnswers.{tallied}
use Rattle.bridge.proofs.WriteBursts.{begin, complete, go_on, no_window_next, wide_part}
use Rattle.bridge.proofs.Bridge.write_burst.Goals as goal

pub loop-first-init : goal.loop-first-init
loop-first-init g c =
    let none : ◌≡◌ {A = WriteCounts} c.default-counts.result (record { taken = 0; stored = 0; dismissed = 0 }) = search rules in
    rw none (begin _ _ _ _ _)

pub returns-in_default : goal.returns-in_default
returns-in_default g c = no_window_next _ _ _ _ _ _ _ c.loop-first.invariant (ltb-true _ _ (sym c.takes_more.ensures ∙ c.loop-first-test.true)) (sym c.in_default.ensures) _ c.no_window.ensures

pub invariant_of-enables : goal.invariant_of-enables
invariant_of-enables g c = record { narrow = wide_part c.args.enables.now c.args.count c.loop-first.counts.taken c.before_end-n.result (omega arith) c.requires.narrow }

pub loop-first-preserved : goal.loop-first-preserved
loop-first-preserved g c =
    go_on _ _ _ _ _ _ _ c.loop-first.invariant c.before_end-n.result (ltb-true _ _ (sym c.takes_more.ensures ∙ c.loop-first-test.true)) c.requires.room c.before_end-n.ensures c.in-Some.number c.in-Some.mapped (sym c.in-Some.ensures) _ _ c.loop-first.self.log c.write_piece-served.result
    c.write_piece-served.ensures.outcome c.write_piece-served.ensures.after _ (c.add.ensures ∙ ap (tallied c.loop-first.counts c.before_end-n.result) c.is_ok.ensures.value)

pub returns : goal.returns
returns g c = complete _ _ _ _ _ _ _ c.loop-first.invariant c.requires.some (ltb-false _ _ (sym c.takes_more.ensures ∙ c.loop-first-test.false))
