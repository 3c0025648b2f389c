-- The kinds of memory as their code holds them, by what they mean.
use Rattle.std.specs.Prelude.{List, take, vec_items, vec_len}
use Rattle.memory.specs.declared.bank_list.BankList.{BankList}
use Rattle.memory.specs.declared.banks.Bank.{Bank}
use Rattle.memory.specs.declared.layout.Laid.{Laid}
use Rattle.memory.specs.declared.Memory.{Ghosts}
use Rattle.memory.specs.declared.marks.Mark.{Mark}
use Rattle.memory.specs.declared.marks.Marks.{Marks}
use Rattle.memory.specs.Content.{Lines}
use Rattle.memory.specs.Layouts.{Places, laid_out}
use Rattle.memory.specs.Marked.{under_marks}

abbrev pub banks_of : BankList → List Bank
banks_of list = take list.count list.banks

-- bytes under a layout, given where a layout places the lines
abbrev pub lines_laid : {L : Type 0} → (L → Places) → Laid L → Lines
lines_laid place m = laid_out (place m.layout) (vec_len m.bytes) (vec_items m.bytes)

abbrev pub marks_of : {M : Type 0} {g : Ghosts M} → Marks M g → List Mark
marks_of m = vec_items m.marks

-- a layer of marks, given what a memory below holds
abbrev pub lines_under : {M : Type 0} {g : Ghosts M} → (M → Lines) → Marks M g → Lines
lines_under content m = under_marks (marks_of m) (content m.below)
