-- Windows: which PCI addresses one holds, and where they lead.
use Rattle.std.specs.Prelude.{ℕ, ◌+◌, ◌-◌, ◌*◌, ◌^◌, Bool, cond, ◌&&◌, Some, None, Option, ◌==◌, bit_and, bit_or, bit_xor}
use Rattle.memory.specs.Content.{bit}
use Rattle.bridge.specs.declared.registers.Window.{Window}
use Rattle.bridge.specs.declared.registers.Registers.{Registers}
use Rattle.bridge.specs.Bits.{bits, bits_kept}

abbrev pub enabled : Window → Bool
enabled w = bit w.base 19

abbrev pub mapped : Window → Bool
mapped w = bit w.base 18

-- an enabled window holds a PCI address that agrees with its base in every bit 31:20 whose mask bit is 0
abbrev pub holds : Window → ℕ → Bool
holds w pci = enabled w && bit_and (bit_xor (bits 31 20 pci) (bits 31 20 w.base)) (0xfff - bits 31 20 w.mask) == 0

-- the number of the window that answers for a PCI address, and whether it is mapped; window 1 is tried before window 2
abbrev pub claim : Registers → ℕ → Option (ℕ × Bool)
claim r pci = cond (holds r.first pci) (Some (1, mapped r.first)) (cond (holds r.second pci) (Some (2, mapped r.second)) None)

-- the translated base T: bits 31:9 of its register are T's bits 32:10
abbrev pub target_base : Window → ℕ
target_base w = w.translated * 2

-- of twelve bits, those of a where the mask has a 1, else those of b
abbrev pub mixed : ℕ → ℕ → ℕ → ℕ
mixed mask a b = bit_or (bit_and a mask) (bit_and b (0xfff - mask))

-- the base of a window with twelve of its bits, from `low` up, taken from the PCI address's bits 31:20 where their mask bit is 1,
-- and other bits below `low`
abbrev pub window_address : Window → ℕ → ℕ → ℕ → ℕ
window_address w low pci below =
    bits_kept 32 (low + 12) (target_base w)
    + mixed (bits 31 20 w.mask) (bits 31 20 pci) (bits (low + 11) low (target_base w)) * 2 ^ low
    + below

-- a plain window keeps bits 19:0; each bit 31:20 comes from the PCI address where its mask bit is 1, else from T; bit 32
-- comes from T
abbrev pub plain_address : Window → ℕ → ℕ
plain_address w pci = window_address w 20 pci (bits 19 0 pci)

-- where the table of a mapped window has the entry of a PCI address: T in bits 32:22; bit j from 10 to 21 is PCI bit j + 10
-- where that mask bit is 1, else T's bit j; PCI bits 19:13 in bits 9:3; zeros in bits 2:0
abbrev pub entry_address : Window → ℕ → ℕ
entry_address w pci = window_address w 10 pci (bits 19 13 pci * 2 ^ 3)
