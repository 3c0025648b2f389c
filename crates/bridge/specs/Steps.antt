-- Runs of calls in code: each step has a call, and its answer once it was performed.
use Rattle.std.specs.Prelude.{◌≡◌, ℕ, ◌<◌, List, map, length, Some, None, IfSome, Option, slice_index_or}
use Rattle.memory.specs.Answers.{Answer}
use Rattle.bridge.specs.declared.calls.Call.TheVariants.{Processor}
use Rattle.bridge.specs.declared.calls.CallAnswer.{CallAnswer}
use Rattle.bridge.specs.declared.calls.Request.TheVariants.{LogRead}
use Rattle.bridge.specs.declared.calls.Step.{Step}
use Rattle.bridge.specs.Calls.{Call}
use Rattle.bridge.specs.Isolation.{nth_call, outcome}
use Rattle.bridge.specs.Performed.{Answers, answer_of, call_of, with_buffer}
use Rattle.bridge.specs.State.{State}

abbrev pub calls_of : List Step → List Call
calls_of steps = map (λ (step : Step). call_of step.call) steps

-- what stands past the end of the steps
abbrev pub no_step : Step
no_step = record { call = Processor LogRead; answer = None }

abbrev pub nth_step : List Step → ℕ → Step
nth_step steps n = slice_index_or steps n no_step

abbrev pub answer_kept : Option CallAnswer → Option Answer
answer_kept None = None
answer_kept (Some answer) = Some (answer_of answer)

-- a step that was asked, after its call was performed, which came to this: the answer is kept, of the kind of its call, and a
-- card read has its buffer
pub record StepPerformed (s : State) (calls : List Call) (n : ℕ) (asked step : Step) : Type 0 where
  pub answer : answer_kept step.answer ≡ Some (outcome s calls n).answer
  pub kind : IfSome step.answer (Answers asked.call)
  pub call : call_of step.call ≡ with_buffer (outcome s calls n).buffer (nth_call calls n)

-- every step, each call in the state that those before it left
pub record StepsPerformed (s : State) (before after : List Step) : Type 0 where
  pub as_many : length after ≡ length before
  pub each : (n : ℕ) → n < length before → StepPerformed s (calls_of before) n (nth_step before n) (nth_step after n)
