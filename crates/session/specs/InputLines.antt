-- The lines of an input. The byte 0Ah ends a line and is no part of it; a last line may lack it.
use Rattle.std.specs.Prelude.{◌≡◌, ℕ, ◌<◌, cond, List, [], ◌∷◌, ◌++◌, map, length, Some, None, Ok, Err, vec_items, Option, Result, Vec, ◌==◌, nat_le, nat_lt}
use Rattle.std.specs.List.{AllByRecursion}
use Rattle.std.specs.declared.alloc.Global.{Global}
use Rattle.session.specs.declared.input.TooLong.{TooLong}
use Rattle.session.specs.declared.input.LineCutter.{LineCutter}

-- a byte of a line
abbrev pub Inside : ℕ → Type 0
Inside b = b ≡ 10 → ⊥

-- an input and the bytes of its lines, as a relation: the lines, each with the byte that ends it, are the input
pub data LinesOf : List ℕ → List (List ℕ) → Type 0 where
  no_line : LinesOf [] []
  line_without_end : (line : List ℕ) → AllByRecursion Inside line → 0 < length line → LinesOf line (line ∷ [])
  line_with_end : (line rest : List ℕ) (lines : List (List ℕ)) → AllByRecursion Inside line → LinesOf rest lines → LinesOf (line ++ 10 ∷ rest) (line ∷ lines)

-- what is kept of a line: at most 256 bytes, or that it is too long
pub data Cut : Type 0 where
  kept : List ℕ → Cut
  too_long : Cut

abbrev pub cut_of : List ℕ → Cut
cut_of line = cond (nat_le (length line) 256) (kept line) too_long

-- one byte more
abbrev pub taken : Cut → ℕ → Cut
taken (kept bytes) b = cond (nat_lt (length bytes) 256) (kept (bytes ++ b ∷ [])) too_long
taken too_long b = too_long

-- what a byte leaves of the line that has begun, and the line that it ends
pub record Step : Type 0 where
  pub held : Cut
  pub ended : Option Cut

abbrev pub fed : Cut → ℕ → Step
fed c b = cond (b == 10) (record { held = kept []; ended = Some c }) (record { held = taken c b; ended = None })

abbrev pub last_line : Cut → List Cut
last_line (kept []) = []
last_line (kept (b ∷ bytes)) = kept (b ∷ bytes) ∷ []
last_line too_long = too_long ∷ []

abbrev pub ended_lines : Option Cut → List Cut
ended_lines None = []
ended_lines (Some c) = c ∷ []

-- all that is given for an input, from a line that has begun on
abbrev pub lines_from : Cut → List ℕ → List Cut
lines_from c [] = last_line c
lines_from c (b ∷ input) = ended_lines (fed c b).ended ++ lines_from (fed c b).held input

-- every input has its lines, and what is given for it is what is kept of each
abbrev pub CutAtEnds : Type 0
CutAtEnds = (input : List ℕ) → (lines : List (List ℕ)) × LinesOf input lines × (lines_from (kept []) input ≡ map cut_of lines)

-- the code's values by these
abbrev InputLine : Type 0
InputLine = Result (Vec ℕ Global) TooLong

abbrev pub line_given : InputLine → Cut
line_given (Ok bytes) = kept (vec_items bytes)
line_given (Err e) = too_long

abbrev pub held : LineCutter → Cut
held c = line_given c.line

abbrev pub option_given : Option InputLine → Option Cut
option_given None = None
option_given (Some line) = Some (line_given line)

abbrev pub lines_given : Option InputLine → List Cut
lines_given line = ended_lines (option_given line)

abbrev pub given : Cut → Option InputLine → Step
given c line = record { held = c; ended = option_given line }
