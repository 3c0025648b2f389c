use Rattle.bridge.specs.State.{state_of}
use Rattle.bridge.proofs.StepRuns.{Ran}
use Rattle.bridge.proofs.Bridge.run.Given as goal

abbrev pub invariant-loop-step : goal.invariant-loop-step
invariant-loop-step g l = Ran (state_of g.M.Memory.content l.initial.self) l.initial.steps (state_of g.M.Memory.content l.self) l.steps l.step-index
