-- A memory and two lists of calls that meet the premise of the isolation theorem.
use Rattle.std.specs.Prelude.{◌≡◌, ℕ, true, false, cond, List, [], ◌∷◌, replicate, ◌==◌, nat_lt}
use Rattle.memory.specs.Answers.{refusal, success}
use Rattle.memory.specs.Content.{Lawful, Lines, absent, good}
use Rattle.std.specs.List.{AllByRecursion}
use Rattle.bridge.specs.Bursts.{card_read, card_write}
use Rattle.bridge.specs.Calls.{Call, card, processor, register_write, store}
use Rattle.bridge.specs.Isolation.{AllAlike, CarriesALine, Hidden, Isolated, ProtectedThroughout, after, before, nth_call, outcome}
use Rattle.bridge.specs.State.{State, new_state}
use Rattle.bridge.specs.Translation.{place_of, target}
use Rattle.bridge.specs.Windows.{enabled, holds, mapped}

-- lines below 10000h (2 MB) are good with zero bytes, all others are absent
abbrev pub zero_lines : Lines
zero_lines line = cond (nat_lt line 0x10000) (good (replicate 32 0)) absent

-- page 2 alone is hidden: addresses 4000h to 5FFFh
abbrev pub page_2 : Hidden
page_2 page = page == 2

-- the calls, for every byte that fills the line at 4000h
abbrev pub calls_storing : ℕ → List Call
calls_storing byte =
    -- window 1 has T = 2000h, window 2 T = 10_0000h
    processor (register_write 6 0x1000)
    ∷ processor (register_write 7 0x8_0000)
    -- entry 0 of the table at 2000h is valid and names page 3
    ∷ processor (store 0x2000 (0x07 ∷ replicate 31 0x00))
    -- window 1 is enabled and mapped at 4000_0000h, window 2 enabled and plain at 8000_0000h
    ∷ processor (register_write 8 0x400C_0000)
    ∷ processor (register_write 9 0x8008_0000)
    -- into the hidden page
    ∷ processor (store 0x4000 (replicate 32 byte))
    -- through entry 0, through entry 1, and through the plain window
    ∷ card (card_read 0x4000_0000 2 (0xFFFF_FFFF ∷ 0xFFFF_FFFF ∷ []))
    ∷ card (card_read 0x4000_2000 1 (0xFFFF_FFFF ∷ []))
    ∷ card (card_write 0x8000_0000 1 (0xA1B2_C3D4 ∷ []) (15 ∷ []))
    ∷ []

abbrev pub left_calls : List Call
left_calls = calls_storing 0x5A

abbrev pub right_calls : List Call
right_calls = calls_storing 0xA5

-- both bridges are new, over the same memory
abbrev pub start : State
start = new_state zero_lines

pub record PremiseMet : Type 0 where
  -- the memory keeps the laws
  pub lawful : Lawful zero_lines
  -- the lists are equal but for the bytes of a store into the hidden page, and each store carries 32 bytes
  pub alike : AllAlike page_2 left_calls right_calls
  pub left_carries : AllByRecursion CarriesALine left_calls
  pub right_carries : AllByRecursion CarriesALine right_calls
  -- that store differs
  pub differ : nth_call left_calls 5 ≡ nth_call right_calls 5 → ⊥
  -- the premise: after each call of the processor the hidden page is protected
  pub protected : ProtectedThroughout page_2 start left_calls
  -- at the end window 1 is enabled and mapped and holds 4000_0000h
  pub first_enabled : enabled (after start left_calls).control.registers.first ≡ true
  pub first_mapped : mapped (after start left_calls).control.registers.first ≡ true
  pub first_holds : holds (after start left_calls).control.registers.first 0x4000_0000 ≡ true
  -- and window 2 is enabled and plain and holds 8000_0000h
  pub second_enabled : enabled (after start left_calls).control.registers.second ≡ true
  pub second_plain : mapped (after start left_calls).control.registers.second ≡ false
  pub second_holds : holds (after start left_calls).control.registers.second 0x8000_0000 ≡ true
  -- the first read goes to 6000h by entry 0, and fills its buffer
  pub read_place : place_of (before start left_calls 6) 0x4000_0000 ≡ target 0x6000
  pub read_answer : (outcome start left_calls 6).answer ≡ success []
  pub read_buffer : (outcome start left_calls 6).buffer ≡ 0 ∷ 0 ∷ []
  -- the second is refused, since entry 1, in line 100h, is not valid
  pub refused_answer : (outcome start left_calls 7).answer ≡ refusal 5 (0 ∷ 0x4000_2000 ∷ 0x100 ∷ [])
  -- the write takes one longword and stores one line, which then has its bytes first
  pub write_answer : (outcome start left_calls 8).answer ≡ success (1 ∷ 1 ∷ 0 ∷ [])
  pub line_written : (after start left_calls).lines 0x8000 ≡ good (0xD4 ∷ 0xC3 ∷ 0xB2 ∷ 0xA1 ∷ replicate 28 0x00)
  -- the first line of the hidden page has the bytes that each list stored
  pub left_hidden : (after start left_calls).lines 0x200 ≡ good (replicate 32 0x5A)
  pub right_hidden : (after start right_calls).lines 0x200 ≡ good (replicate 32 0xA5)
  -- so, by the theorem, the cards learn, alter and open nothing
  pub isolated : Isolated page_2 start start left_calls right_calls
