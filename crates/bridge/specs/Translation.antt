-- From a PCI address to a physical one: by a plain window, a look-aside row, or an entry of a table.
use Rattle.std.specs.Prelude.{ℕ, ◌+◌, ◌*◌, ◌/◌, ◌%◌, ◌^◌, Bool, true, false, cond, List, Some, None, Ok, Err, Option, Result}
use Rattle.memory.specs.Content.{Content, Lines, absent, spoiled, good, bit}
use Rattle.memory.specs.declared.MemoryFault.TheVariants.{Absent, Spoiled}
use Rattle.bridge.specs.declared.faults.WalkFault.{WalkFault}
use Rattle.bridge.specs.declared.faults.WalkFault.TheVariants.{Memory, NotValid}
use Rattle.bridge.specs.declared.look_aside.LookAside.{LookAside}
use Rattle.bridge.specs.declared.registers.Window.{Window}
use Rattle.bridge.specs.declared.registers.Registers.{Registers}
use Rattle.bridge.specs.Bits.{bits}
use Rattle.bridge.specs.Longwords.{quadword_at}
use Rattle.bridge.specs.LookAside.{cached_page, filled}
use Rattle.bridge.specs.Registers.{window}
use Rattle.bridge.specs.State.{State}
use Rattle.bridge.specs.Windows.{claim, entry_address, plain_address}

-- the PCI page of an address: its bits 31:13
abbrev pub pci_page : ℕ → ℕ
pci_page pci = bits 31 13 pci

-- an address in a page: the page number supplies bits 32:13, the PCI address bits 12:0
abbrev pub page_address : ℕ → ℕ → ℕ
page_address page pci = page * 2 ^ 13 + bits 12 0 pci

-- the quadword at an address, from the bytes of its line
abbrev pub entry_number : List ℕ → ℕ → ℕ
entry_number bytes address = quadword_at bytes (address % 32)

-- The page that a table's entry names, or what stops the walk. Bit 0 says that the entry is valid, bits 20:1 are the page
-- number, higher bits are ignored.
abbrev pub entry_named : ℕ → ℕ → Result ℕ WalkFault
entry_named n line = cond (bit n 0) (Ok (bits 20 1 n)) (Err (NotValid line))

abbrev pub entry_of : Content → ℕ → Result ℕ WalkFault
entry_of absent address = Err (Memory (Absent (address / 32)))
entry_of spoiled address = Err (Memory (Spoiled (address / 32)))
entry_of (good bytes) address = entry_named (entry_number bytes address) (address / 32)

-- where a PCI address leads: no window holds it, the table stops it, or it goes to a physical address
pub data Place : Type 0 where
  unclaimed : Place
  table_fault : WalkFault → Place
  target : ℕ → Place

-- with the look-aside rows as the translation leaves them
pub record Located : Type 0 where
  pub look_aside : LookAside
  pub place : Place

-- a physical address, with the rows as they were
abbrev pub reached : LookAside → ℕ → Located
reached t address = record { look_aside = t; place = target address }

-- a valid entry fills a row; an entry at fault leaves the rows
abbrev pub located_by_entry : LookAside → ℕ → Result ℕ WalkFault → Located
located_by_entry t pci (Ok page) = record { look_aside = filled t (pci_page pci) page; place = target (page_address page pci) }
located_by_entry t pci (Err fault) = record { look_aside = t; place = table_fault fault }

-- a row that answers is used as it is; else the table is read
abbrev pub located_by_row : LookAside → Lines → ℕ → ℕ → Option ℕ → Located
located_by_row t lines pci address (Some page) = record { look_aside = t; place = target (page_address page pci) }
located_by_row t lines pci address None = located_by_entry t pci (entry_of (lines (address / 32)) address)

abbrev pub located_by_window : LookAside → Lines → ℕ → Window → Bool → Located
located_by_window t lines pci w true = located_by_row t lines pci (entry_address w pci) (cached_page t (pci_page pci))
located_by_window t lines pci w false = record { look_aside = t; place = target (plain_address w pci) }

-- the same in a state, under the window of a number
abbrev pub located_claimed : State → ℕ → ℕ → Bool → Located
located_claimed s pci number mapped = located_by_window s.control.look_aside s.lines pci (window s.control.registers number) mapped

abbrev pub located_by_claim : Registers → LookAside → Lines → ℕ → Option (ℕ × Bool) → Located
located_by_claim r t lines pci None = record { look_aside = t; place = unclaimed }
located_by_claim r t lines pci (Some claimed) = located_by_window t lines pci (window r claimed.0) claimed.1

abbrev pub located : Registers → LookAside → Lines → ℕ → Located
located r t lines pci = located_by_claim r t lines pci (claim r pci)

-- where a PCI address leads in a state
abbrev pub place_of : State → ℕ → Place
place_of s pci = (located s.control.registers s.control.look_aside s.lines pci).place

-- where the code's translation says that an address leads
abbrev pub place_by : Result ℕ WalkFault → Place
place_by (Ok address) = target address
place_by (Err fault) = table_fault fault
