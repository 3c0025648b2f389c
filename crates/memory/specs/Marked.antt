-- Marks: a layer that spoils up to 32 lines of the memory below.
use Rattle.std.specs.Prelude.{◌≡◌, ℕ, Bool, true, false, cond, not, ◌&&◌, AllPairs, List, [], ◌∷◌, ◌++◌, length, ◌/◌, ◌%◌, ◌==◌, ◌≢◌, get_or, nat_le, replicate, slice_set}
use Rattle.std.specs.List.{count_by, list_any, range_with_len}
use Rattle.memory.specs.declared.marks.Mark.{Mark}
use Rattle.memory.specs.declared.marks.MarkRefusal.{MarkRefusal}
use Rattle.memory.specs.declared.marks.MarkRefusal.TheVariants.{Absent, Full}
use Rattle.memory.specs.Answers.{Answer, Cause, bare, success, refusal}
use Rattle.memory.specs.Content.{Content, Lines, absent, spoiled, good, is_present, is_spoiled, all_ones}

abbrev pub marked : List Mark → ℕ → Bool
marked marks line = list_any (λ m. m.line == line) marks

-- no line is marked twice
abbrev pub Distinct : List Mark → Type 0
Distinct marks = AllPairs (λ a b. a.line ≢ b.line) marks

abbrev pub spoil : Content → Content
spoil absent = absent
spoil spoiled = spoiled
spoil (good bytes) = spoiled

-- a marked line is spoiled besides those that are spoiled below
abbrev pub under_marks : List Mark → Lines → Lines
under_marks marks below line = cond (marked marks line) (spoil (below line)) (below line)

-- no absent line is marked
abbrev pub AllPresent : List Mark → Lines → Type 0
AllPresent marks lines = (line : ℕ) → marked marks line ≡ true → is_present (lines line) ≡ true

-- the table that is asked before the marks are searched: no marked line is missed
abbrev pub AllHinted : List Mark → List Bool → Type 0
AllHinted marks hints = (line : ℕ) → marked marks line ≡ true → get_or hints (line / 8 % 4096) false ≡ true

-- 14 for an absent line, then 17 for a 33rd mark; a marked line again adds nothing
abbrev pub mark_cause : MarkRefusal → Cause
mark_cause Absent = bare 14
mark_cause Full = bare 17

abbrev pub mark_checked : Bool → Bool → ℕ → Answer
mark_checked there again count = cond (not there) (refusal 14 []) (cond (not again && nat_le 32 count) (refusal 17 []) (success []))

abbrev pub mark_answer : List Mark → Lines → ℕ → Answer
mark_answer marks below line = mark_checked (is_present (below line)) (marked marks line) (length marks)

-- where nothing below is spoiled, the marked lines are the spoiled ones, and what the lines hold tells the answer
abbrev pub NeverSpoiled : Lines → Type 0
NeverSpoiled lines = (line : ℕ) → is_spoiled (lines line) ≡ false

unfoldable pub spoiled_lines : Lines → ℕ
spoiled_lines lines = count_by (λ line. is_spoiled (lines line)) (range_with_len 0 0xC000000)

abbrev pub mark_answer_of_lines : Lines → ℕ → Answer
mark_answer_of_lines lines line = mark_checked (is_present (lines line)) (is_spoiled (lines line)) (spoiled_lines lines)

abbrev pub succeeds : Answer → Bool
succeeds (success values) = true
succeeds (refusal number values) = false

-- the marks after a line was marked or turned down
abbrev pub with_mark : Answer → List Mark → ℕ → List Mark
with_mark answer marks line = cond (succeeds answer && not (marked marks line)) (marks ++ record { line = line } ∷ []) marks

-- the table asked before the marks are searched, after that: the place of the marked line's eight is set
abbrev pub with_hint : Answer → ℕ → List Bool → List Bool
with_hint answer line hints = cond (succeeds answer) (slice_set hints (line / 8 % 4096) true) hints

abbrev pub no_hints : List Bool
no_hints = replicate 4096 false

-- every line after that: the marked one is spoiled
abbrev pub lines_marked : Answer → ℕ → Lines → Lines
lines_marked answer line lines k = cond (succeeds answer && k == line) spoiled (lines k)

abbrev pub without : List Mark → ℕ → List Mark
without [] line = []
without (m ∷ marks) line = cond (m.line == line) marks (m ∷ without marks line)

-- the marks after a write: a full one of a line that is there removes its mark
abbrev pub marks_written : List Mark → Lines → ℕ → ℕ → List Mark
marks_written marks below line mask = cond (is_present (below line) && mask == all_ones) (without marks line) marks
