-- When a burst is refused with 1, 2, 3 or 4.
use Rattle.std.specs.Prelude.{◌≡◌, ℕ, ◌+◌, ◌*◌, ◌%◌, ◌^◌, ◌<◌, true, false, ◌⊎◌, List, [], length, None, Decides, slice_index}
use Rattle.memory.specs.Answers.{refusal}
use Rattle.bridge.specs.Bursts.{Burst, burst_start, card_read, card_write, misaligned, out_of_bounds}
use Rattle.bridge.specs.Calls.{card, performed}
use Rattle.bridge.specs.Runs.{lent_buffer}
use Rattle.bridge.specs.State.{State}
use Rattle.bridge.specs.Windows.{claim}

-- a burst is refused with a number that returns nothing further, and leaves state and buffer, exactly if this holds
pub record RefusedExactly (s : State) (b : Burst) (number : ℕ) (P : Type 0) : Type 0 where
  pub refused : P → performed s (card b) ≡ record { state = s; answer = refusal number []; buffer = lent_buffer b }
  pub only : (performed s (card b)).answer ≡ refusal number [] → P

-- 1, 2 and 3 come in this order
pub record ChecksLaw (s : State) (b : Burst) : Type 0 where
  pub one : RefusedExactly s b 1 (out_of_bounds b ≡ true)
  pub two : RefusedExactly s b 2 ((out_of_bounds b ≡ false) × (misaligned b ≡ true))
  pub three : RefusedExactly s b 3 ((out_of_bounds b ≡ false) × (misaligned b ≡ false) × (claim s.control.registers (burst_start b) ≡ None))

-- with 4, the first value returned is how many longwords were moved or taken: one at least
abbrev pub SomeBefore4 : State → Burst → Type 0
SomeBefore4 s b = (values : List ℕ) → (performed s (card b)).answer ≡ refusal 4 values → 0 < slice_index values 0

-- the first check in words: the count is 0, over 64 or over a buffer, the end lies past 2^32, or an enable that is used is
-- over 15
abbrev pub WrongCount : ℕ → ℕ → List ℕ → Type 0
WrongCount pci count buffer = (count ≡ 0) ⊎ ((64 < count) ⊎ ((length buffer < count) ⊎ (2 ^ 32 < pci + 4 * count)))

abbrev pub OutOfBounds : Burst → Type 0
OutOfBounds (card_read pci count buffer) = WrongCount pci count buffer
OutOfBounds (card_write pci count words enables) = WrongCount pci count words ⊎ ((length enables < count) ⊎ ((k : ℕ) × (k < count) × (15 < slice_index enables k)))

-- and the second
abbrev pub NoLongwordAddress : Burst → Type 0
NoLongwordAddress b = burst_start b % 4 ≡ 0 → ⊥

pub record Refusals : Type 0 where
  pub bounds : (b : Burst) → Decides (out_of_bounds b) (OutOfBounds b)
  pub alignment : (b : Burst) → Decides (misaligned b) (NoLongwordAddress b)
  pub checks : (s : State) (b : Burst) → ChecksLaw s b
  pub some_before_4 : (s : State) (b : Burst) → SomeBefore4 s b
