-- Memories whose lines lie in one run of bytes, each at its own place.
use Rattle.std.specs.Prelude.{◌≡◌, ℕ, ◌+◌, ◌*◌, ◌%◌, ◌<◌, ◌≤◌, cond, ◌⊎◌, List, take, drop, Some, None, Option, ◌≢◌, nat_le, nat_lt}
use Rattle.memory.specs.declared.layout.Run.{Run}
use Rattle.memory.specs.Content.{Content, Lines, absent, good}

-- where each line begins, if it lies anywhere
abbrev pub Places : Type 0
Places = ℕ → Option ℕ

-- no two lines share a byte
abbrev pub Apart : Places → Type 0
Apart place = (j k a b : ℕ) → place j ≡ Some a → place k ≡ Some b → (j ≢ k) → (a + 32 ≤ b) ⊎ (b + 32 ≤ a)

-- no line from C000000h up has a place
abbrev pub PlacedBelow : Places → Type 0
PlacedBelow place = (line : ℕ) → 0xC000000 ≤ line → place line ≡ None

-- What a layout tells of a line: that it lies nowhere; or a run of whole lines, one behind another from this one on, each at a
-- multiple of 32. Where the run ends is open: it has this line at least.
abbrev pub LiesInRun : Places → ℕ → Option Run → Type 0
LiesInRun place line None = place line ≡ None
LiesInRun place line (Some run) =
    (run.at % 32 ≡ 0) × (run.end % 32 ≡ 0) × (run.at < run.end) × ((k : ℕ) → run.at + 32 * k < run.end → place (line + k) ≡ Some (run.at + 32 * k))

-- a line counts only if all of its 32 bytes lie within n bytes
abbrev pub inside : ℕ → Option ℕ → Option ℕ
inside n None = None
inside n (Some at) = cond (nat_le (at + 32) n) (Some at) None

-- what a line holds: the 32 bytes from its place on
abbrev pub at_place : List ℕ → Option ℕ → Content
at_place bytes None = absent
at_place bytes (Some at) = good (take 32 (drop at bytes))

-- what n bytes hold, laid out by some places
abbrev pub laid_out : Places → ℕ → List ℕ → Lines
laid_out place n bytes line = at_place bytes (inside n (place line))

-- from address 0: line k begins at byte 32 k, for the lines that a memory can have
abbrev pub from_zero : Places
from_zero line = cond (nat_lt line 0xC000000) (Some (32 * line)) None

-- a flat memory of n bytes
abbrev pub flat : ℕ → List ℕ → Lines
flat n bytes = laid_out from_zero n bytes
