-- Worked addresses: two windows set by register writes, and what the definitions make of some addresses.
use Rattle.std.specs.Prelude.{◌≡◌, ℕ, ◌/◌, ◌<◌, List, [], ◌∷◌, length}
use Rattle.memory.specs.Answers.{refusal}
use Rattle.memory.specs.Content.{Bounded, Lines, good}
use Rattle.bridge.specs.Bursts.{card_read}
use Rattle.bridge.specs.Calls.{Call, card, decode, performed, processor, register_write}
use Rattle.bridge.specs.Isolation.{after}
use Rattle.bridge.specs.declared.decode.Space.TheVariants.{SparseIo, SparseMemory}
use Rattle.bridge.specs.Processor.{decoded}
use Rattle.bridge.specs.State.{new_state}
use Rattle.bridge.specs.Translation.{entry_number, place_of, target, unclaimed}
use Rattle.bridge.specs.Windows.{entry_address}

-- window 1 is plain: PCI base 4008_0000h, mask 3FF0_0000h, translated base 0
abbrev pub set_plain_window : List Call
set_plain_window = processor (register_write 8 0x4008_0000) ∷ processor (register_write 10 0x3FF0_0000) ∷ []

-- window 2 is mapped: PCI base 008C_0000h, mask 0070_0000h, register 7 is 8000h
abbrev pub set_mapped_window : List Call
set_mapped_window = processor (register_write 9 0x008C_0000) ∷ processor (register_write 11 0x0070_0000) ∷ processor (register_write 7 0x8000) ∷ []

-- the memory holds a number at a quadword's address
pub record Quadword (lines : Lines) (address n : ℕ) : Type 0 where
  pub bytes : List ℕ
  pub held : lines (address / 32) ≡ good bytes
  pub is : entry_number bytes address ≡ n

pub record WorkedAddresses : Type 0 where
  -- the plain window: 4123_4560h goes to 0123_4560h, which lies in line 91A2Bh; 7FFF_FFFCh goes to 3FFF_FFFCh
  pub plain : (lines : Lines) → place_of (after (new_state lines) set_plain_window) 0x4123_4560 ≡ target 0x0123_4560
  pub plain_line : 0x0123_4560 / 32 ≡ 0x91A2B
  pub plain_end : (lines : Lines) → place_of (after (new_state lines) set_plain_window) 0x7FFF_FFFC ≡ target 0x3FFF_FFFC
  -- just below and above it no window holds an address
  pub below : (lines : Lines) → place_of (after (new_state lines) set_plain_window) 0x3FFF_FFFC ≡ unclaimed
  pub above : (lines : Lines) → place_of (after (new_state lines) set_plain_window) 0x8000_0000 ≡ unclaimed
  -- the mapped window: 0080_2004h reads the entry at 1_0008h, and entry 7 sends it to 6004h
  pub entry_read : (lines : Lines) → entry_address (after (new_state lines) set_mapped_window).control.registers.second 0x0080_2004 ≡ 0x1_0008
  pub entry_7 : (lines : Lines) → Quadword lines 0x1_0008 7 → place_of (after (new_state lines) set_mapped_window) 0x0080_2004 ≡ target 0x6004
  -- entry 17FFFFh names the page at 1_7FFF_E000h
  pub entry_17FFFF : (lines : Lines) → Quadword lines 0x1_0008 0x17FFFF → place_of (after (new_state lines) set_mapped_window) 0x0080_2000 ≡ target 0x1_7FFF_E000
  -- entry 1FFFFFh leads a card read to 8, with every memory
  pub entry_1FFFFF : (lines : Lines) (buffer : List ℕ) → Bounded lines → Quadword lines 0x1_0008 0x1FFFFF → 0 < length buffer
      → (performed (after (new_state lines) set_mapped_window) (card (card_read 0x0080_2004 1 buffer))).answer ≡ refusal 8 (0 ∷ 0x0080_2004 ∷ 0xFFF_FF00 ∷ [])
  -- decoding: lane 1 alone is the mask 2, all lanes are 15
  pub sparse_low : (lines : Lines) → (performed (new_state lines) (processor (decode 0x2_0140_0020))).answer ≡ decoded SparseMemory 0x000A_0000 2
  pub sparse_high : (lines : Lines) → (performed (after (new_state lines) (processor (register_write 13 0x8000_0000) ∷ [])) (processor (decode 0x2_2000_0118))).answer ≡ decoded SparseMemory 0x8100_0008 15
  pub io : (lines : Lines) → (performed (new_state lines) (processor (decode 0x1_C000_7FA0))).answer ≡ decoded SparseIo 0x3FD 2
