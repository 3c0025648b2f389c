use Rattle.bridge.specs.State.{state_of}
use Rattle.bridge.proofs.StepRuns.{go_on}
use Rattle.bridge.proofs.Bridge.run.Goals as goal

pub loop-step-preserved : goal.loop-step-preserved
loop-step-preserved g c = go_on _ _ (state_of g.M.Memory.content c.perform_step.new.self) _ _ _ c.step-item.result c.perform_step.new.step c.loop-step.invariant c.loop-step-test.true c.loop-step.auto.steps c.perform_step.ensures.answer c.perform_step.ensures.kind c.perform_step.ensures.call c.perform_step.ensures.after
