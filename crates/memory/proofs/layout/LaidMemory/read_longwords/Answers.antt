use Rattle.std.proofs.Common.{◌≡◌, ◌+◌, ◌-◌, ◌*◌, ◌/◌, ◌<◌, [], length, ◌∙◌, arith}
use Rattle.memory.specs.Layers.{lines_laid}
use Rattle.memory.specs.Longwords.{longwords_on}
use Rattle.memory.proofs.TakenLongwords.{Taken, all_counted, all_filled, count_taken, full, words_taken}
use Rattle.memory.proofs.LaidRuns.{answer_run, behind_run, first_run}
use Rattle.memory.proofs.layout.LaidMemory.read_longwords.Given
use Rattle.memory.proofs.layout.LaidMemory.read_longwords.Goals as goal

-- the place is full
first_taken : (g : Given.Over) (c : goal.Then-moved-place g) → Taken (lines_laid g.L.Layout.place c.args.self.now) c.args.first c.args.place.now c.copy_longwords-moved.new.place c.copy_longwords-moved.result
first_taken g c =
    first_run (g.L.Layout.place c.args.self.now.layout) _ _ _ c.args.first c.in_ok-run.run' c.run_within.result c.deref.ensures.value c.run_within.ensures.run c.in_ok-run.ensures.ok_part c.args.place.now _ c.copy_longwords-moved.ensures.count _ c.copy_longwords-moved.ensures.place

none_left : (g : Given.Over) (c : goal.Then-moved-place g) → longwords_on (length c.args.place.now - c.copy_longwords-moved.result) (c.args.first + c.copy_longwords-moved.result) (lines_laid g.L.Layout.place c.args.self.now) ≡ []
none_left g c = full _ _ _ _ (c.if-moved-place.true ∙ (first_taken g c).same_length)

pub returns-then-moved-place-clause-answer : goal.returns-then-moved-place-clause-answer
returns-then-moved-place-clause-answer g c =
    answer_run (g.L.Layout.place c.args.self.now.layout) _ _ _ c.args.first c.in_ok-run.run' c.run_within.result c.deref.ensures.value c.run_within.ensures.run c.in_ok-run.ensures.ok_part c.copy_longwords-moved.result (length c.args.place.now)
    (count_taken _ _ _ _ _ (first_taken g c) (none_left g c))

pub returns-then-moved-place-clause-place : goal.returns-then-moved-place-clause-place
returns-then-moved-place-clause-place g c = words_taken _ _ _ _ _ (first_taken g c) (none_left g c)

-- the run ends before the place is full
run_taken : (g : Given.Over) (c : goal.After-slice_known-3-1 g) → Taken (lines_laid g.L.Layout.place c.args.self.now) c.args.first c.args.place.now c.copy_longwords-moved.new.place c.copy_longwords-moved.result
run_taken g c =
    first_run (g.L.Layout.place c.args.self.now.layout) _ _ _ c.args.first c.in_ok-run.run' c.run_within.result c.deref.ensures.value c.run_within.ensures.run c.in_ok-run.ensures.ok_part c.args.place.now _ c.copy_longwords-moved.ensures.count _ c.copy_longwords-moved.ensures.place

goes_on : (g : Given.Over) (c : goal.After-slice_known-3-1 g) → c.copy_longwords-moved.result < length c.copy_longwords-moved.new.place → c.args.first + c.copy_longwords-moved.result ≡ 8 * (c.args.first / 8 + (c.in_ok-run.run'.end - c.in_ok-run.run'.at) / 32)
goes_on g c h =
    behind_run (g.L.Layout.place c.args.self.now.layout) _ _ _ c.args.first c.in_ok-run.run' c.run_within.result c.deref.ensures.value c.run_within.ensures.run c.in_ok-run.ensures.ok_part (length c.args.place.now) _ c.copy_longwords-moved.ensures.count
    (omega (arith, (run_taken g c).same_length))

pub returns-clause-answer : goal.returns-clause-answer
returns-clause-answer g c =
    answer_run (g.L.Layout.place c.args.self.now.layout) _ _ _ c.args.first c.in_ok-run.run' c.run_within.result c.deref.ensures.value c.run_within.ensures.run c.in_ok-run.ensures.ok_part (c.copy_longwords-moved.result + c.read_behind.result) (length c.args.place.now)
    (all_counted _ _ _ _ _ (run_taken g c) _ (goes_on g c) c.read_behind.new.place c.read_behind.ensures.place c.read_behind.result c.read_behind.ensures.count)

pub returns-clause-place : goal.returns-clause-place
returns-clause-place g c = all_filled _ _ _ _ _ (run_taken g c) _ (goes_on g c) c.read_behind.new.place c.read_behind.ensures.place
