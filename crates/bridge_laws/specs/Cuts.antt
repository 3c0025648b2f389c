-- The cut of a burst, as a relation to its longwords.
use Rattle.std.specs.Prelude.{◌≡◌, ℕ, ◌+◌, ◌-◌, ◌*◌, ◌/◌, ◌%◌, ◌<◌, false, List, [], map, length, take}
use Rattle.std.specs.List.{range_with_len, AllWithin, flat_map, AllByRecursion}
use Rattle.bridge.specs.Bursts.{Burst, Job, Piece, card_read, card_write, misaligned, out_of_bounds, pieces, reading, writing}

-- the PCI addresses of so many longwords from an address on
abbrev pub addresses : ℕ → ℕ → List ℕ
addresses pci count = map (λ k. pci + 4 * k) (range_with_len 0 count)

abbrev pub piece_addresses : Piece → List ℕ
piece_addresses p = addresses p.pci p.count

abbrev pub job_words : Job → List ℕ
job_words reading = []
job_words (writing words enables) = words

abbrev pub job_enables : Job → List ℕ
job_enables reading = []
job_enables (writing words enables) = enables

-- what a burst asks for: the addresses of its longwords, and of a write the values and enables that are used
abbrev pub burst_addresses : Burst → List ℕ
burst_addresses (card_read pci count buffer) = addresses pci count
burst_addresses (card_write pci count words enables) = addresses pci count

abbrev pub burst_words : Burst → List ℕ
burst_words (card_read pci count buffer) = []
burst_words (card_write pci count words enables) = take count words

abbrev pub burst_enables : Burst → List ℕ
burst_enables (card_read pci count buffer) = []
burst_enables (card_write pci count words enables) = take count enables

-- a piece has a longword, and its first and its last byte lie in one line
pub record InOneLine (p : Piece) : Type 0 where
  pub some : 0 < p.count
  pub line : (p.pci + 4 * p.count - 1) / 32 ≡ p.pci / 32

-- the pieces of a burst that passes the first two checks, one behind the other, have just its longwords, each once and in
-- order; each lies in one line; and all but the first begin at a multiple of 32
pub record Cut (b : Burst) : Type 0 where
  pub in_order : flat_map piece_addresses (pieces b) ≡ burst_addresses b
  pub words : flat_map (λ (p : Piece). job_words p.job) (pieces b) ≡ burst_words b
  pub enables : flat_map (λ (p : Piece). job_enables p.job) (pieces b) ≡ burst_enables b
  pub in_line : AllByRecursion InOneLine (pieces b)
  pub at_multiples : AllWithin (λ (p : Piece). p.pci % 32 ≡ 0) (pieces b) 1 (length (pieces b))

abbrev pub CutAtLines : Type 0
CutAtLines = (b : Burst) → out_of_bounds b ≡ false → misaligned b ≡ false → Cut b
