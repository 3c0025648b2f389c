use Rattle.std.proofs.Common.{◌≡◌, [], ◌+◌, ◌-◌, ◌*◌, ◌/◌, ◌%◌, length, take, drop, sym, ap, ◌∙◌, arith}
use Rattle.std.proofs.lemmas.List.{length-drop, length-take}
use Rattle.std.specs.Result.{is_ok}
use Rattle.memory.specs.Longwords.{longwords_on}
use Rattle.memory.proofs.TakenLongwords.{answer_taken, count_taken, take_first, take_run, words_taken}
use Rattle.memory.proofs.LongwordRuns.{lies_read, none_read}
use Rattle.memory.proofs.Memory.read_longwords.Given
use Rattle.memory.proofs.Memory.read_longwords.Goals as goal

pub loop-moved-init : goal.loop-moved-init
loop-moved-init g c = (
  take_first _ _ _ (c.args.first / 8) c.read.new.place 0 1
      (lies_read (g.Self.Memory.content c.args.self.now) (c.args.first / 8) _ c.read.new.place c.read.result c.read.array_long c.read.ensures.answer c.read.ensures.place (ap is_ok c.in_ok-read.was))
      (c.args.first % 8) (4 * (c.args.first % 8)) _ (omega arith) (omega arith) (omega arith) (omega (arith, c.copy_longwords-moved.ensures.count)) _ c.copy_longwords-moved.ensures.place,
  (λ h. omega (arith, c.copy_longwords-moved.ensures.count, c.copy_longwords-moved.auto.place)),
  omega arith,
)

pub loop-moved-preserved : goal.loop-moved-preserved
loop-moved-preserved g c =
    let i = c.loop-moved.invariant in
    let at = i.1 (omega (arith, c.loop-moved-test.true)) in
    let long : length (take (length c.loop-moved.place - c.loop-moved.moved) (drop c.loop-moved.moved c.loop-moved.place)) ≡ length c.loop-moved.place - c.loop-moved.moved = simp (length-take, length-drop) (omega arith) in
    let taken = take_run _ _ _ _ _ i.0 c.loop-moved.line c.read-in-loop-moved.new.place 0 1
    (lies_read (g.Self.Memory.content c.args.self.now) c.loop-moved.line _ c.read-in-loop-moved.new.place c.read-in-loop-moved.result c.if-is_ok.array_long c.read-in-loop-moved.ensures.answer c.read-in-loop-moved.ensures.place
    (sym c.is_ok.ensures.value ∙ c.if-is_ok.true))
    0 0 _ (omega arith) (omega (arith, at)) (omega arith) (omega (arith, long, c.copy_longwords-moved-in-loop-moved.ensures.count)) _ c.copy_longwords-moved-in-loop-moved.ensures.place in (
      taken,
      (λ h. omega (arith, at, long, i.0.same_length, taken.same_length, c.copy_longwords-moved-in-loop-moved.ensures.count)),
      omega (arith, at, long, c.loop-moved-test.true, c.copy_longwords-moved-in-loop-moved.ensures.count),
    )

-- the next line is refused
refused : (g : Given.Over) (c : goal.Else-is_ok g) → longwords_on (length c.args.place.now - c.loop-moved.moved) (c.args.first + c.loop-moved.moved) (g.Self.Memory.content c.args.self.now) ≡ []
refused g c =
    let at = c.loop-moved.invariant.1 (omega (arith, c.loop-moved-test.true)) in
    none_read _ (length c.args.place.now - c.loop-moved.moved) (c.args.first + c.loop-moved.moved) c.loop-moved.line c.read-in-loop-moved.result (omega (arith, at)) c.read-in-loop-moved.ensures.answer (sym c.is_ok.ensures.value ∙ c.if-is_ok.false)

pub returns-else-is_ok-clause-answer : goal.returns-else-is_ok-clause-answer
returns-else-is_ok-clause-answer g c =
    answer_taken (g.Self.Memory.content c.args.self.now) c.args.first c.loop-moved.moved (length c.args.place.now) c.read.new.place 0 1
    (lies_read (g.Self.Memory.content c.args.self.now) (c.args.first / 8) _ c.read.new.place c.read.result c.read.array_long c.read.ensures.answer c.read.ensures.place (ap is_ok c.in_ok-read.was)) (omega arith) (count_taken _ _ _ _ _ c.loop-moved.invariant.0 (refused g c))

pub returns-else-is_ok-clause-place : goal.returns-else-is_ok-clause-place
returns-else-is_ok-clause-place g c = words_taken _ _ _ _ _ c.loop-moved.invariant.0 (refused g c)
