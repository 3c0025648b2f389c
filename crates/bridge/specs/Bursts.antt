-- Card bursts: how one is checked, and how it is cut into the longwords of one line each.
use Rattle.std.specs.Prelude.{ℕ, zero, suc, ◌+◌, ◌-◌, ◌*◌, ◌/◌, ◌%◌, ◌^◌, min, Bool, true, false, cond, not, ◌||◌, List, [], ◌∷◌, length, take, drop, Some, None, Option, ◌==◌, nat_lt}
use Rattle.std.specs.List.{list_any}
use Rattle.bridge.specs.declared.log.Direction.{Direction}
use Rattle.bridge.specs.declared.log.Direction.TheVariants.{Read, Write}
use Rattle.bridge.specs.declared.registers.Registers.{Registers}
use Rattle.bridge.specs.Bits.{bits}
use Rattle.bridge.specs.Windows.{claim}

-- what a card asks, from a PCI address on: to read so many longwords into a buffer, or to write so many of some longwords,
-- each under its byte enables
pub data Burst : Type 0 where
  card_read : ℕ → ℕ → List ℕ → Burst
  card_write : ℕ → ℕ → List ℕ → List ℕ → Burst

abbrev pub burst_start : Burst → ℕ
burst_start (card_read pci count buffer) = pci
burst_start (card_write pci count words enables) = pci

-- The checks. 1: the count is 0, over 64 or over a buffer, an enable that is used is over 15, or the end lies past 2^32.
abbrev pub wrong_count : ℕ → ℕ → List ℕ → Bool
wrong_count pci count buffer = count == 0 || (nat_lt 64 count || (nat_lt (length buffer) count || nat_lt (2 ^ 32) (pci + 4 * count)))

abbrev pub wide_enable : List ℕ → Bool
wide_enable enables = list_any (λ e. nat_lt 15 e) enables

abbrev pub out_of_bounds : Burst → Bool
out_of_bounds (card_read pci count buffer) = wrong_count pci count buffer
out_of_bounds (card_write pci count words enables) = wrong_count pci count words || (nat_lt (length enables) count || wide_enable (take count enables))

-- 2: bits 1:0 of the address are not 0
abbrev pub misaligned : Burst → Bool
misaligned b = not (bits 1 0 (burst_start b) == 0)

-- 3: no window holds the first longword
abbrev pub is_unclaimed : Option (ℕ × Bool) → Bool
is_unclaimed None = true
is_unclaimed (Some claimed) = false

abbrev pub third_check : Registers → ℕ → Option ℕ
third_check r pci = cond (is_unclaimed (claim r pci)) (Some 3) None

-- the first check that fails, by its number
abbrev pub failed_check : Registers → Burst → Option ℕ
failed_check r b = cond (out_of_bounds b) (Some 1) (cond (misaligned b) (Some 2) (third_check r (burst_start b)))

-- The cut. A job is what is asked of some longwords: to be read, or written with these values under these byte enables.
pub data Job : Type 0 where
  reading : Job
  writing : List ℕ → List ℕ → Job

abbrev pub direction : Job → Direction
direction reading = Read
direction (writing words enables) = Write

-- what a job asks of its first n longwords, and of the rest
abbrev pub job_front : ℕ → Job → Job
job_front n reading = reading
job_front n (writing words enables) = writing (take n words) (take n enables)

abbrev pub job_rest : ℕ → Job → Job
job_rest n reading = reading
job_rest n (writing words enables) = writing (drop n words) (drop n enables)

-- a piece: the longwords of a burst that lie in one line, from a PCI address on
pub record Piece : Type 0 where
  pub pci : ℕ
  pub count : ℕ
  pub job : Job

-- a piece by the longwords that it writes with their byte enables
abbrev pub piece_to_write : ℕ → List ℕ → List ℕ → Piece
piece_to_write pci words enables = record { pci = pci; count = length words; job = writing words enables }

-- how many of `left` longwords from a PCI address on lie before the next multiple of `unit` longwords
abbrev pub before_end : ℕ → ℕ → ℕ → ℕ
before_end unit pci left = min left (unit - pci / 4 % unit)

-- before its line ends, which has 8, and before its page ends, which has 2048
abbrev pub in_line : ℕ → ℕ → ℕ
in_line pci left = before_end 8 pci left

abbrev pub in_page : ℕ → ℕ → ℕ
in_page pci left = before_end 2048 pci left

-- `left` longwords cut at the PCI multiples of 32; each piece has one at least, so as many turns as longwords suffice
abbrev pub cut : ℕ → ℕ → ℕ → Job → List Piece
cut zero pci left job = []
cut (suc turns) pci left job =
    cond (left == 0) []
    (record { pci = pci; count = in_line pci left; job = job_front (in_line pci left) job }
    ∷ cut turns (pci + 4 * in_line pci left) (left - in_line pci left) (job_rest (in_line pci left) job))

abbrev pub pieces : Burst → List Piece
pieces (card_read pci count buffer) = cut count pci count reading
pieces (card_write pci count words enables) = cut count pci count (writing words enables)
