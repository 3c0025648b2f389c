-- A memory whose lines begin at a line of its own.
use Rattle.std.specs.Prelude.{ℕ, ◌-◌, cond, ◌&&◌, Some, None, Option, nat_le, nat_lt}
use Rattle.memory.specs.Content.{Content, Lines, absent}
use Rattle.memory.specs.declared.MemoryFault.{MemoryFault}
use Rattle.memory.specs.declared.MemoryFault.TheVariants.{Absent, Spoiled}
use Rattle.shifted_memory.specs.declared.Shifted.{Shifted}

-- the line below that a line stands for: none for one before `first`, nor for one that no memory has
abbrev pub line_below : ℕ → ℕ → Option ℕ
line_below first line = cond (nat_le first line && nat_lt line 0xC000000) (Some (line - first)) None

-- what a line holds: what the line below holds, if it stands for one
abbrev pub content_below : Lines → Option ℕ → Content
content_below below None = absent
content_below below (Some k) = below k

-- line k is line k - first of the lines below
abbrev pub shifted : ℕ → Lines → Lines
shifted first below line = content_below below (line_below first line)

-- a fault of the memory below, with the number that the line has above
abbrev pub fault_above : ℕ → MemoryFault → MemoryFault
fault_above line (Absent k) = Absent line
fault_above line (Spoiled k) = Spoiled line

-- the layer as its code holds it, given what a memory below holds
abbrev pub lines_shifted : {M : Type 0} → (M → Lines) → Shifted M → Lines
lines_shifted content m = shifted m.first (content m.below)
