-- Addresses bit by bit.
use Rattle.std.specs.Prelude.{◌≡◌, ℕ, ◌+◌, ◌-◌, ◌<◌, ◌≤◌, true, false, cond, ◌||◌, Decides, ◌==◌}
use Rattle.memory.specs.Content.{bit}
use Rattle.bridge.specs.declared.registers.Registers.{Registers}
use Rattle.bridge.specs.declared.registers.Window.{Window}
use Rattle.bridge.specs.Bits.{bits}
use Rattle.bridge.specs.Processor.{configuration_0_address, configuration_1_address, first_lane, lane_count, sparse_io_address, sparse_lanes, sparse_memory_address}
use Rattle.bridge.specs.Translation.{page_address}
use Rattle.bridge.specs.Windows.{enabled, entry_address, holds, plain_address, target_base}

-- each bit of a number from low to high is a bit of another number, some places up
abbrev pub BitsFrom : ℕ → ℕ → ℕ → ℕ → ℕ → Type 0
BitsFrom number low high other up = (i : ℕ) → low ≤ i → i ≤ high → bit number i ≡ bit other (i + up)

abbrev pub ZeroBits : ℕ → ℕ → ℕ → Type 0
ZeroBits number low high = (i : ℕ) → low ≤ i → i ≤ high → bit number i ≡ false

abbrev pub ZeroFrom : ℕ → ℕ → Type 0
ZeroFrom number low = (i : ℕ) → low ≤ i → bit number i ≡ false

-- a window holds an address exactly if it is enabled, and every bit 31:20 whose mask bit is 0 equals the base's
pub record Agrees (w : Window) (pci : ℕ) : Type 0 where
  pub on : enabled w ≡ true
  pub base : (i : ℕ) → 20 ≤ i → i ≤ 31 → bit w.mask i ≡ false → bit pci i ≡ bit w.base i

abbrev pub HoldsByBits : Type 0
HoldsByBits = (w : Window) (pci : ℕ) → Decides (holds w pci) (Agrees w pci)

-- bit j + 1 of the translated base T is bit j of its register
abbrev pub TargetBaseBits : Type 0
TargetBaseBits = (w : Window) (j : ℕ) → bit (target_base w) (j + 1) ≡ bit w.translated j

-- a plain window keeps bits 19:0; each bit 31:20 comes from the PCI address if its mask bit is 1, else from T; bit 32 comes
-- from T
pub record PlainBits (w : Window) (pci : ℕ) : Type 0 where
  pub kept : BitsFrom (plain_address w pci) 0 19 pci 0
  pub mixed : (i : ℕ) → 20 ≤ i → i ≤ 31 → bit (plain_address w pci) i ≡ cond (bit w.mask i) (bit pci i) (bit (target_base w) i)
  pub top : bit (plain_address w pci) 32 ≡ bit (target_base w) 32
  pub beyond : ZeroFrom (plain_address w pci) 33

-- an entry's address: zeros in 2:0, PCI bits 19:13 in 9:3, T in 32:22; bit j from 10 to 21 is PCI bit j + 10 if that mask
-- bit is 1, else T's bit j
pub record EntryBits (w : Window) (pci : ℕ) : Type 0 where
  pub zeros : ZeroBits (entry_address w pci) 0 2
  pub index : BitsFrom (entry_address w pci) 3 9 pci 10
  pub mixed : (j : ℕ) → 10 ≤ j → j ≤ 21 → bit (entry_address w pci) j ≡ cond (bit w.mask (j + 10)) (bit pci (j + 10)) (bit (target_base w) j)
  pub top : BitsFrom (entry_address w pci) 22 32 (target_base w) 0
  pub beyond : ZeroFrom (entry_address w pci) 33

-- an address in a page: the page number supplies bits 13 and up, the PCI address 12:0
pub record PageBits (page pci : ℕ) : Type 0 where
  pub low : BitsFrom (page_address page pci) 0 12 pci 0
  pub high : (i : ℕ) → 13 ≤ i → bit (page_address page pci) i ≡ bit page (i - 13)

-- sparse memory: PCI 26:2 is CPU 31:7, 1:0 is 0, and 31:27 is 0 if CPU 31:29 is 0, else HAXR1's
pub record SparseMemoryBits (r : Registers) (cpu : ℕ) : Type 0 where
  pub zeros : ZeroBits (sparse_memory_address r cpu) 0 1
  pub middle : BitsFrom (sparse_memory_address r cpu) 2 26 cpu 5
  pub high : (i : ℕ) → 27 ≤ i → i ≤ 31 → bit (sparse_memory_address r cpu) i ≡ cond (bit cpu 29 || (bit cpu 30 || bit cpu 31)) (bit r.haxr1 i) false
  pub beyond : ZeroFrom (sparse_memory_address r cpu) 32

-- dense memory: PCI 31:0 is CPU 31:0
pub record DenseMemoryBits (cpu : ℕ) : Type 0 where
  pub all : BitsFrom (bits 31 0 cpu) 0 31 cpu 0
  pub beyond : ZeroFrom (bits 31 0 cpu) 32

-- sparse I/O: PCI 23:0 is CPU 28:5, the rest 0
pub record SparseIoBits (cpu : ℕ) : Type 0 where
  pub low : BitsFrom (sparse_io_address cpu) 0 23 cpu 5
  pub beyond : ZeroFrom (sparse_io_address cpu) 24

-- configuration of type 0: PCI 10:2 is CPU 15:7, 1:0 is 0, and of 31:11 just bit 11 + d is set, d being CPU 20:16; none
-- where d is over 20
pub record Configuration0Bits (cpu : ℕ) : Type 0 where
  pub zeros : ZeroBits (configuration_0_address cpu) 0 1
  pub low : BitsFrom (configuration_0_address cpu) 2 10 cpu 5
  pub device : (i : ℕ) → 11 ≤ i → i ≤ 31 → bit (configuration_0_address cpu) i ≡ (i == 11 + bits 20 16 cpu)
  pub beyond : ZeroFrom (configuration_0_address cpu) 32

-- configuration of type 1: PCI 23:2 is CPU 28:7, 1:0 is 1, the rest 0
pub record Configuration1Bits (cpu : ℕ) : Type 0 where
  pub one : bit (configuration_1_address cpu) 0 ≡ true
  pub zero : bit (configuration_1_address cpu) 1 ≡ false
  pub middle : BitsFrom (configuration_1_address cpu) 2 23 cpu 5
  pub beyond : ZeroFrom (configuration_1_address cpu) 24

-- outside dense memory the enabled lanes are as many as the length, from the first lane on
abbrev pub LaneBits : Type 0
LaneBits = (cpu j : ℕ) → Decides (bit (sparse_lanes cpu) j) ((first_lane cpu ≤ j) × (j < first_lane cpu + lane_count cpu))

pub record AddressBits : Type 0 where
  pub held : HoldsByBits
  pub target_base : TargetBaseBits
  pub plain : (w : Window) (pci : ℕ) → PlainBits w pci
  pub entry : (w : Window) (pci : ℕ) → EntryBits w pci
  pub page : (page pci : ℕ) → PageBits page pci
  pub sparse_memory : (r : Registers) (cpu : ℕ) → SparseMemoryBits r cpu
  pub dense_memory : (cpu : ℕ) → DenseMemoryBits cpu
  pub sparse_io : (cpu : ℕ) → SparseIoBits cpu
  pub configuration_0 : (cpu : ℕ) → Configuration0Bits cpu
  pub configuration_1 : (cpu : ℕ) → Configuration1Bits cpu
  pub lanes : LaneBits
