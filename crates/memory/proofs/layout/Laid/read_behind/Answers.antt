use Rattle.std.proofs.Common.{◌≡◌, [], ◌+◌, ◌-◌, ◌*◌, ◌/◌, length, take, drop, refl, arith}
use Rattle.std.proofs.lemmas.List.{length-drop, length-take}
use Rattle.memory.specs.Layers.{lines_laid}
use Rattle.memory.specs.Longwords.{longwords_on}
use Rattle.memory.proofs.TakenLongwords.{count_taken, none_taken, take_run, words_taken}
use Rattle.memory.proofs.LaidRuns.{lies_laid, none_laid, whole_run}
use Rattle.memory.proofs.layout.Laid.read_behind.Given
use Rattle.memory.proofs.layout.Laid.read_behind.Goals as goal

pub loop-moved-init : goal.loop-moved-init
loop-moved-init g c = (none_taken _ _ _, λ h. omega arith)

pub loop-moved-preserved : goal.loop-moved-preserved
loop-moved-preserved g c =
    let i = c.loop-moved.invariant in
    let at = i.1 (omega (arith, c.loop-moved-test.true)) in
    let run = c.in-Some.run' in
    let place = g.L.Layout.place c.args.self.now.layout in
    let whole = whole_run place _ _ _ c.loop-moved.line run _ c.deref.ensures.value c.in-Some.ensures.run refl in
    let long : length (take (length c.loop-moved.place - c.loop-moved.moved) (drop c.loop-moved.moved c.loop-moved.place)) ≡ length c.loop-moved.place - c.loop-moved.moved = simp (length-take, length-drop) (omega arith) in
    let taken = take_run _ _ _ _ _ i.0 c.loop-moved.line c.deref.result.now run.at ((run.end - run.at) / 32)
    (lies_laid place _ _ _ c.loop-moved.line run _ c.deref.ensures.value c.in-Some.ensures.run refl)
    0 run.at _ (omega arith) (omega (arith, at)) (omega arith) (omega (arith, long, whole, c.copy_longwords-moved.ensures.count)) _ c.copy_longwords-moved.ensures.place in
    (taken, (λ h. omega (arith, at, long, whole, i.0.same_length, taken.same_length, c.copy_longwords-moved.ensures.count)))

-- the next line lies nowhere
nowhere : (g : Given.Over) (c : goal.In_default g) → longwords_on (length c.args.place.now - c.loop-moved.moved) (8 * c.args.first + c.loop-moved.moved) (lines_laid g.L.Layout.place c.args.self.now) ≡ []
nowhere g c =
    let at = c.loop-moved.invariant.1 (omega (arith, c.loop-moved-test.true)) in
    none_laid (g.L.Layout.place c.args.self.now.layout) _ c.args.self.now.bytes.items (length c.args.place.now - c.loop-moved.moved) (8 * c.args.first + c.loop-moved.moved) c.loop-moved.line (omega (arith, at)) c.in_default.ensures.run

pub returns-in_default-clause-count : goal.returns-in_default-clause-count
returns-in_default-clause-count g c = count_taken _ _ _ _ _ c.loop-moved.invariant.0 (nowhere g c)

pub returns-in_default-clause-place : goal.returns-in_default-clause-place
returns-in_default-clause-place g c = words_taken _ _ _ _ _ c.loop-moved.invariant.0 (nowhere g c)
