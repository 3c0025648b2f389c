-- The decoding of a processor address, as a relation.
use Rattle.std.specs.Prelude.{◌≡◌, ℕ, ◌+◌, ◌≤◌, [], ◌≢◌}
use Rattle.memory.specs.Answers.{Answer, refusal}
use Rattle.bridge.specs.declared.registers.Registers.{Registers}
use Rattle.bridge.specs.Bits.{bits}
use Rattle.bridge.specs.Calls.{decode, performed, processor}
use Rattle.bridge.specs.declared.decode.Space.{Space}
use Rattle.bridge.specs.declared.decode.Space.TheVariants.{Configuration, DenseMemory, SparseIo, SparseMemory}
use Rattle.bridge.specs.Processor.{configuration_0_address, configuration_1_address, decode_answer, decoded, sparse_io_address, sparse_lanes, sparse_memory_address}
use Rattle.bridge.specs.State.{State}

-- the four regions
pub data InRegion (cpu : ℕ) : Space → Type 0 where
  in_sparse_memory : 0x2_0000_0000 ≤ cpu → cpu ≤ 0x2_FFFF_FFFF → InRegion cpu SparseMemory
  in_dense_memory : 0x3_0000_0000 ≤ cpu → cpu ≤ 0x3_FFFF_FFFF → InRegion cpu DenseMemory
  in_sparse_io : 0x1_C000_0000 ≤ cpu → cpu ≤ 0x1_DFFF_FFFF → InRegion cpu SparseIo
  in_configuration : 0x1_E000_0000 ≤ cpu → cpu ≤ 0x1_FFFF_FFFF → InRegion cpu Configuration

-- outside dense memory: bits 2:0 are 0, and the length, bits 4:3 and one more, together with the first lane, bits 6:5, is at
-- most 4
pub record Allowed (cpu : ℕ) : Type 0 where
  pub low : bits 2 0 cpu ≡ 0
  pub lanes : (bits 4 3 cpu + 1) + bits 6 5 cpu ≤ 4

-- the answers, each with when it is given; the type of a configuration access is HAXR2's bits 1:0
pub data DecodedBy (r : Registers) (cpu : ℕ) : Answer → Type 0 where
  to_sparse_memory : InRegion cpu SparseMemory → Allowed cpu → DecodedBy r cpu (decoded SparseMemory (sparse_memory_address r cpu) (sparse_lanes cpu))
  to_dense_memory : InRegion cpu DenseMemory → bits 1 0 cpu ≡ 0 → DecodedBy r cpu (decoded DenseMemory (bits 31 0 cpu) 15)
  to_sparse_io : InRegion cpu SparseIo → Allowed cpu → DecodedBy r cpu (decoded SparseIo (sparse_io_address cpu) (sparse_lanes cpu))
  to_configuration_0 : InRegion cpu Configuration → Allowed cpu → bits 1 0 r.haxr2 ≡ 0 → DecodedBy r cpu (decoded Configuration (configuration_0_address cpu) (sparse_lanes cpu))
  to_configuration_1 : InRegion cpu Configuration → Allowed cpu → bits 1 0 r.haxr2 ≡ 1 → DecodedBy r cpu (decoded Configuration (configuration_1_address cpu) (sparse_lanes cpu))
  outside : ((space : Space) → InRegion cpu space → ⊥) → DecodedBy r cpu (refusal 11 [])
  dense_low_bits : InRegion cpu DenseMemory → (bits 1 0 cpu ≢ 0) → DecodedBy r cpu (refusal 12 [])
  not_allowed : (space : Space) → InRegion cpu space → (space ≢ DenseMemory) → (Allowed cpu → ⊥) → DecodedBy r cpu (refusal 12 [])
  no_type : InRegion cpu Configuration → Allowed cpu → 2 ≤ bits 1 0 r.haxr2 → DecodedBy r cpu (refusal 13 [])

abbrev pub Decodes : Type 0
Decodes = (r : Registers) (cpu : ℕ) → DecodedBy r cpu (decode_answer r cpu)

-- no other answer is allowed, and a decode changes nothing
pub record Decoding : Type 0 where
  pub answered : Decodes
  pub one : (r : Registers) (cpu : ℕ) (a b : Answer) → DecodedBy r cpu a → DecodedBy r cpu b → a ≡ b
  pub called : (s : State) (cpu : ℕ) → performed s (processor (decode cpu)) ≡ record { state = s; answer = decode_answer s.control.registers cpu; buffer = [] }
