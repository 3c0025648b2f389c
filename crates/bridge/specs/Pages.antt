-- Which pages are open to the cards.
use Rattle.std.specs.Prelude.{◌≡◌, ℕ, ◌/◌, ◌^◌, ◌<◌, true, false, Some, Ok, ◌⊎◌, length}
use Rattle.memory.specs.Content.{Lines}
use Rattle.bridge.specs.declared.look_aside.LookAside.{LookAside}
use Rattle.bridge.specs.declared.registers.Registers.{Registers}
use Rattle.bridge.specs.LookAside.{page_in, row}
use Rattle.bridge.specs.Registers.{window}
use Rattle.bridge.specs.State.{State}
use Rattle.bridge.specs.Translation.{entry_of}
use Rattle.bridge.specs.Windows.{entry_address, holds, mapped, plain_address}

-- the page of a physical address, and of a line
abbrev pub page_of : ℕ → ℕ
page_of address = address / 2 ^ 13

abbrev pub line_page : ℕ → ℕ
line_page line = line / 2 ^ 8

-- an enabled window, by its number and taken alone, holds a PCI address
pub record Held (r : Registers) (number pci : ℕ) : Type 0 where
  pub address : pci < 2 ^ 32
  pub held : holds (window r number) pci ≡ true

-- an enabled plain window holds a PCI address that translates into the page
pub record PlainlyReached (r : Registers) (page : ℕ) : Type 0 where
  pub number : ℕ
  pub pci : ℕ
  pub held : Held r number pci
  pub plain : mapped (window r number) ≡ false
  pub reached : page_of (plain_address (window r number) pci) ≡ page

-- the address of a quadword of a table in use: one that is read for a PCI address that an enabled mapped window holds
pub record InUse (r : Registers) (address : ℕ) : Type 0 where
  pub number : ℕ
  pub pci : ℕ
  pub held : Held r number pci
  pub is_mapped : mapped (window r number) ≡ true
  pub read : entry_address (window r number) pci ≡ address

-- a table in use has a valid, readable entry that names the page
pub record NamedByEntry (r : Registers) (lines : Lines) (page : ℕ) : Type 0 where
  pub address : ℕ
  pub in_use : InUse r address
  pub named : entry_of (lines (address / 32)) address ≡ Ok page

-- a valid row names the page
pub record NamedByRow (t : LookAside) (page : ℕ) : Type 0 where
  pub index : ℕ
  pub within : index < length t.rows
  pub named : page_in (row t index) ≡ Some page

abbrev pub Open : State → ℕ → Type 0
Open s page = PlainlyReached s.control.registers page ⊎ (NamedByEntry s.control.registers s.lines page ⊎ NamedByRow s.control.look_aside page)

abbrev pub Closed : State → ℕ → Type 0
Closed s page = Open s page → ⊥
