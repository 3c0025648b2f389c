-- Where a PCI address leads, as a relation.
use Rattle.std.specs.Prelude.{◌≡◌, ℕ, ◌/◌, true, false, List, Some, None, Option}
use Rattle.memory.specs.Content.{absent, bit, good, spoiled}
use Rattle.memory.specs.Rows.{Finds}
use Rattle.memory.specs.declared.MemoryFault.TheVariants.{Absent, Spoiled}
use Rattle.bridge.specs.declared.faults.WalkFault.TheVariants.{Memory, NotValid}
use Rattle.bridge.specs.declared.registers.Registers.{Registers}
use Rattle.bridge.specs.Bits.{bits}
use Rattle.bridge.specs.LookAside.{answers_in, filled, page_in, row}
use Rattle.bridge.specs.Registers.{window}
use Rattle.bridge.specs.State.{State}
use Rattle.bridge.specs.Translation.{Located, entry_number, located, page_address, pci_page, table_fault, target, unclaimed}
use Rattle.bridge.specs.Windows.{entry_address, holds, mapped, plain_address}

-- the first window that holds an address, by its number
pub data FirstHolder (r : Registers) (pci : ℕ) : ℕ → Type 0 where
  window_1 : holds r.first pci ≡ true → FirstHolder r pci 1
  window_2 : holds r.first pci ≡ false → holds r.second pci ≡ true → FirstHolder r pci 2

-- a mapped window is the first that holds the address, and the search among the rows finds this
pub record Searched (s : State) (pci number : ℕ) (found : Option ℕ) : Type 0 where
  pub holder : FirstHolder s.control.registers pci number
  pub is_mapped : mapped (window s.control.registers number) ≡ true
  pub finds : Finds (λ r. answers_in r (pci_page pci)) s.control.look_aside.rows found

-- the address of the table's entry for a PCI address, under the window of a number
abbrev pub entry_at : State → ℕ → ℕ → ℕ
entry_at s number pci = entry_address (window s.control.registers number) pci

-- an address that no window holds leads nowhere; a plain window leads by its mask and base; under a mapped one the first row
-- that answers is used, whatever the table has; where none does, a valid entry is used and fills the row under the pointer,
-- and one that is not valid or cannot be read stops the address and fills no row
pub data Translated (s : State) (pci : ℕ) : Located → Type 0 where
  by_none : holds s.control.registers.first pci ≡ false → holds s.control.registers.second pci ≡ false
      → Translated s pci (record { look_aside = s.control.look_aside; place = unclaimed })
  by_plain_window : (number : ℕ) → FirstHolder s.control.registers pci number → mapped (window s.control.registers number) ≡ false
      → Translated s pci (record { look_aside = s.control.look_aside; place = target (plain_address (window s.control.registers number) pci) })
  by_row : (number i page : ℕ) → Searched s pci number (Some i) → page_in (row s.control.look_aside i) ≡ Some page
      → Translated s pci (record { look_aside = s.control.look_aside; place = target (page_address page pci) })
  by_entry : (number page : ℕ) (bytes : List ℕ) → Searched s pci number None → s.lines (entry_at s number pci / 32) ≡ good bytes
      → bit (entry_number bytes (entry_at s number pci)) 0 ≡ true → bits 20 1 (entry_number bytes (entry_at s number pci)) ≡ page
      → Translated s pci (record { look_aside = filled s.control.look_aside (pci_page pci) page; place = target (page_address page pci) })
  not_valid : (number : ℕ) (bytes : List ℕ) → Searched s pci number None → s.lines (entry_at s number pci / 32) ≡ good bytes
      → bit (entry_number bytes (entry_at s number pci)) 0 ≡ false
      → Translated s pci (record { look_aside = s.control.look_aside; place = table_fault (NotValid (entry_at s number pci / 32)) })
  table_absent : (number : ℕ) → Searched s pci number None → s.lines (entry_at s number pci / 32) ≡ absent
      → Translated s pci (record { look_aside = s.control.look_aside; place = table_fault (Memory (Absent (entry_at s number pci / 32))) })
  table_spoiled : (number : ℕ) → Searched s pci number None → s.lines (entry_at s number pci / 32) ≡ spoiled
      → Translated s pci (record { look_aside = s.control.look_aside; place = table_fault (Memory (Spoiled (entry_at s number pci / 32))) })

abbrev pub Translates : Type 0
Translates = (s : State) (pci : ℕ) → Translated s pci (located s.control.registers s.control.look_aside s.lines pci)
