-- The processor's calls: load, store, and the decoding of addresses that lead to the PCI bus.
use Rattle.std.specs.Prelude.{◌≡◌, ℕ, ◌+◌, ◌-◌, ◌*◌, ◌/◌, ◌^◌, Bool, cond, not, ◌&&◌, ◌||◌, List, [], ◌∷◌, ◌==◌, nat_le}
use Rattle.memory.specs.declared.MemoryFault.TheVariants.{Absent, Spoiled}
use Rattle.memory.specs.Answers.{Answer, Cause, bare, success, refusal}
use Rattle.memory.specs.Content.{Content, Lines, absent, spoiled, good, all_ones, written}
use Rattle.bridge.specs.declared.decode.Space.{Space}
use Rattle.bridge.specs.declared.decode.Space.TheVariants.{Configuration, DenseMemory, SparseIo, SparseMemory}
use Rattle.bridge.specs.declared.decode.Cycle.{Cycle}
use Rattle.bridge.specs.declared.decode.DecodeRefusal.{DecodeRefusal}
use Rattle.bridge.specs.declared.decode.DecodeRefusal.TheVariants as D
use Rattle.bridge.specs.declared.processor.AccessRefusal.{AccessRefusal}
use Rattle.bridge.specs.declared.processor.AccessRefusal.TheVariants as R
use Rattle.bridge.specs.declared.registers.Registers.{Registers}
use Rattle.bridge.specs.Bits.{bits, bits_kept, in_range}

-- Load and store carry one line: 11 where the address is no multiple of 32, or 1_8000_0000h or above.
abbrev pub no_line : ℕ → Bool
no_line address = not (bits 4 0 address == 0) || nat_le 0x1_8000_0000 address

-- 14 where the line is absent, 15 where a load finds it spoiled
abbrev pub access_cause : AccessRefusal → Cause
access_cause R.Address = bare 11
access_cause (R.Memory (Absent line)) = bare 14
access_cause (R.Memory (Spoiled line)) = bare 15

-- a fault of the memory that is held in a refusal is that of the line
abbrev pub OfLine : ℕ → AccessRefusal → Type 0
OfLine line R.Address = Unit {0}
OfLine line (R.Memory (Absent k)) = k ≡ line
OfLine line (R.Memory (Spoiled k)) = k ≡ line

abbrev pub load_content : Content → Answer
load_content absent = refusal 14 []
load_content spoiled = refusal 15 []
load_content (good bytes) = success bytes

abbrev pub load_answer : Lines → ℕ → Answer
load_answer lines address = cond (no_line address) (refusal 11 []) (load_content (lines (address / 32)))

abbrev pub store_content : Content → Answer
store_content absent = refusal 14 []
store_content spoiled = success []
store_content (good old) = success []

abbrev pub store_answer : Lines → ℕ → Answer
store_answer lines address = cond (no_line address) (refusal 11 []) (store_content (lines (address / 32)))

-- a store's mask is all ones
abbrev pub lines_stored : Lines → ℕ → List ℕ → Lines
lines_stored lines address bytes = cond (no_line address) lines (written (address / 32) bytes all_ones lines)

-- Decoding. The four spaces, by number in an answer:
abbrev pub space_number : Space → ℕ
space_number SparseMemory = 0
space_number DenseMemory = 1
space_number SparseIo = 2
space_number Configuration = 3

-- a decoded cycle answers its space, its PCI address and its enabled lanes
abbrev pub cycle_values : Cycle → List ℕ
cycle_values c = space_number c.space ∷ c.pci ∷ c.lanes ∷ []

-- each refusal by its number
abbrev pub decode_cause : DecodeRefusal → Cause
decode_cause D.Region = bare 11
decode_cause D.Lanes = bare 12
decode_cause D.ConfigurationType = bare 13

-- the enabled lanes as a mask, bit j for lane j
abbrev pub decoded : Space → ℕ → ℕ → Answer
decoded space pci lanes = success (space_number space ∷ pci ∷ lanes ∷ [])

-- outside dense memory CPU bits 4:3 are the length less one, 6:5 the first lane
abbrev pub lane_count : ℕ → ℕ
lane_count cpu = bits 4 3 cpu + 1

abbrev pub first_lane : ℕ → ℕ
first_lane cpu = bits 6 5 cpu

abbrev pub sparse_lanes : ℕ → ℕ
sparse_lanes cpu = (2 ^ lane_count cpu - 1) * 2 ^ first_lane cpu

-- and bits 2:0 must be 0, length and first lane together at most 4; else 12
abbrev pub lanes_allowed : ℕ → Bool
lanes_allowed cpu = bits 2 0 cpu == 0 && nat_le (lane_count cpu + first_lane cpu) 4

-- sparse memory: PCI 26:2 is CPU 31:7, and 1:0 is 0; PCI 31:27 is 0 where CPU 31:29 is 0, else HAXR1's
abbrev pub sparse_memory_address : Registers → ℕ → ℕ
sparse_memory_address r cpu = cond (bits 31 29 cpu == 0) 0 (bits_kept 31 27 r.haxr1) + bits 31 7 cpu * 2 ^ 2

-- sparse I/O: PCI 23:0 is CPU 28:5, PCI 31:24 is 0
abbrev pub sparse_io_address : ℕ → ℕ
sparse_io_address cpu = bits 28 5 cpu

-- configuration of type 0: PCI 10:2 is CPU 15:7, 1:0 is 0, and bit 11 + d is set for d = CPU 20:16 up to 20; the rest is 0
abbrev pub device_bit : ℕ → ℕ
device_bit d = cond (nat_le d 20) (2 ^ (11 + d)) 0

abbrev pub configuration_0_address : ℕ → ℕ
configuration_0_address cpu = device_bit (bits 20 16 cpu) + bits 15 7 cpu * 2 ^ 2

-- configuration of type 1: PCI 23:2 is CPU 28:7, 1:0 is 1, the rest is 0
abbrev pub configuration_1_address : ℕ → ℕ
configuration_1_address cpu = bits 28 7 cpu * 2 ^ 2 + 1

-- the type is HAXR2's bits 1:0; 13 where they are 2 or 3
abbrev pub decoded_configuration : ℕ → ℕ → Answer
decoded_configuration cpu type =
    cond (type == 0) (decoded Configuration (configuration_0_address cpu) (sparse_lanes cpu))
    (cond (type == 1) (decoded Configuration (configuration_1_address cpu) (sparse_lanes cpu))
    (refusal 13 []))

abbrev pub unless_lanes : ℕ → Answer → Answer
unless_lanes cpu answer = cond (lanes_allowed cpu) answer (refusal 12 [])

-- dense memory: PCI 31:0 is CPU 31:0, all lanes; CPU 1:0 must be 0
abbrev pub decoded_dense : ℕ → Answer
decoded_dense cpu = cond (bits 1 0 cpu == 0) (decoded DenseMemory (bits 31 0 cpu) 15) (refusal 12 [])

-- the four regions; 11 outside them
abbrev pub decode_answer : Registers → ℕ → Answer
decode_answer r cpu =
    cond (in_range 0x2_0000_0000 0x2_FFFF_FFFF cpu) (unless_lanes cpu (decoded SparseMemory (sparse_memory_address r cpu) (sparse_lanes cpu)))
    (cond (in_range 0x3_0000_0000 0x3_FFFF_FFFF cpu) (decoded_dense cpu)
    (cond (in_range 0x1_C000_0000 0x1_DFFF_FFFF cpu) (unless_lanes cpu (decoded SparseIo (sparse_io_address cpu) (sparse_lanes cpu)))
    (cond (in_range 0x1_E000_0000 0x1_FFFF_FFFF cpu) (unless_lanes cpu (decoded_configuration cpu (bits 1 0 r.haxr2)))
    (refusal 11 []))))
