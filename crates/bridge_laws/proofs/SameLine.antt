-- The longwords of one line lead to one line.
use Rattle.std.proofs.Common.{◌≡◌, ℕ, ◌+◌, ◌*◌, ◌/◌, ◌%◌, ◌^◌, ◌<◌, Bool, true, false, Some, None, Option, refl, ap, ◌∙◌, subst, ap₂, arith, Ok, Err, Result}
use Rattle.memory.specs.Content.{Lines}
use Rattle.bridge.specs.declared.faults.WalkFault.{WalkFault}
use Rattle.bridge.specs.declared.look_aside.LookAside.{LookAside}
use Rattle.bridge.specs.declared.registers.Registers.{Registers}
use Rattle.bridge.specs.declared.registers.Window.{Window}
use Rattle.bridge.specs.Bits.{bits, bits_kept}
use Rattle.bridge.specs.LookAside.{cached_page}
use Rattle.bridge.specs.Registers.{window}
use Rattle.bridge.specs.State.{State}
use Rattle.bridge.specs.Translation.{Place, entry_of, located_by_claim, located_by_entry, located_by_row, located_by_window, page_address, pci_page, place_of, table_fault, target, unclaimed}
use Rattle.bridge.proofs.SamePage.{page_on, plain_on, same_claim, same_page, same_top}
use Rattle.bridge.specs.Windows.{claim, entry_address, mixed, target_base}

-- a place some longwords on
abbrev moved_on : ℕ → Place → Place
moved_on k unclaimed = unclaimed
moved_on k (table_fault fault) = table_fault fault
moved_on k (target address) = target (address + 4 * k)

-- k longwords on from an aligned address, in the same line
module _ (pci k : ℕ) (aligned : pci % 4 ≡ 0) (near : bits 4 2 pci + k < 8) where
  near_in_page : pci % 2 ^ 13 + 4 * k < 2 ^ 13
  near_in_page = omega arith

  same_index : bits 19 13 (pci + 4 * k) ≡ bits 19 13 pci
  same_index = omega arith

  same_entry : (w : Window) → entry_address w (pci + 4 * k) ≡ entry_address w pci
  same_entry w =
      ap₂ (λ x y. bits_kept 32 22 (target_base w) + mixed (bits 31 20 w.mask) x (bits 21 10 (target_base w)) * 2 ^ 10 + y * 2 ^ 3) (same_top pci (4 * k) near_in_page) same_index

  module _ (r : Registers) (t : LookAside) (lines : Lines) where
    entry_place : (e : Result ℕ WalkFault) → (located_by_entry t (pci + 4 * k) e).place ≡ moved_on k (located_by_entry t pci e).place
    entry_place (Ok page) = ap target (page_on pci (4 * k) near_in_page page)
    entry_place (Err fault) = refl

    row_place : (address : ℕ) (o : Option ℕ) → (located_by_row t lines (pci + 4 * k) address o).place ≡ moved_on k (located_by_row t lines pci address o).place
    row_place address (Some page) = ap target (page_on pci (4 * k) near_in_page page)
    row_place address None = entry_place (entry_of (lines (address / 32)) address)

    window_place : (w : Window) (b : Bool) → (located_by_window t lines (pci + 4 * k) w b).place ≡ moved_on k (located_by_window t lines pci w b).place
    window_place w true =
        ap₂ (λ a n. (located_by_row t lines (pci + 4 * k) a (cached_page t n)).place) (same_entry w) (same_page pci (4 * k) near_in_page) ∙ row_place (entry_address w pci) (cached_page t (pci_page pci))
    window_place w false = ap target (plain_on pci (4 * k) near_in_page w)

    claim_place : (o : Option (ℕ × Bool)) → (located_by_claim r t lines (pci + 4 * k) o).place ≡ moved_on k (located_by_claim r t lines pci o).place
    claim_place None = refl
    claim_place (Some c) = window_place (window r c.0) c.1

  pub place_on : (s : State) → place_of s (pci + 4 * k) ≡ moved_on k (place_of s pci)
  place_on s =
      ap (λ c. (located_by_claim s.control.registers s.control.look_aside s.lines (pci + 4 * k) c).place) (same_claim pci (4 * k) near_in_page s.control.registers)
      ∙ claim_place s.control.registers s.control.look_aside s.lines (claim s.control.registers pci)

  pub target_on : (s : State) (address : ℕ) → place_of s pci ≡ target address → place_of s (pci + 4 * k) ≡ target (address + 4 * k)
  target_on s address e = place_on s ∙ ap (moved_on k) e

-- a target keeps the PCI address's place in its line
abbrev KeptLow : ℕ → Place → Type 0
KeptLow pci unclaimed = Unit {0}
KeptLow pci (table_fault fault) = Unit {0}
KeptLow pci (target address) = address % 32 ≡ pci % 32

module _ (pci : ℕ) (r : Registers) (t : LookAside) (lines : Lines) where
  page_low : (page : ℕ) → page_address page pci % 32 ≡ pci % 32
  page_low page = omega arith

  entry_low : (e : Result ℕ WalkFault) → KeptLow pci (located_by_entry t pci e).place
  entry_low (Ok page) = page_low page
  entry_low (Err fault) = tt

  row_low : (address : ℕ) (o : Option ℕ) → KeptLow pci (located_by_row t lines pci address o).place
  row_low address (Some page) = page_low page
  row_low address None = entry_low _

  window_low : (w : Window) (b : Bool) → KeptLow pci (located_by_window t lines pci w b).place
  window_low w true = row_low _ _
  window_low w false = plain_low _ _ (bits 19 0 pci) (omega arith)
    where
      plain_low : (x m l : ℕ) → l % 32 ≡ pci % 32 → (x * 2 ^ 32 + m * 2 ^ 20 + l) % 32 ≡ pci % 32
      plain_low x m l h = omega arith

  claim_low : (o : Option (ℕ × Bool)) → KeptLow pci (located_by_claim r t lines pci o).place
  claim_low None = tt
  claim_low (Some c) = window_low (window r c.0) c.1

pub target_low : (s : State) (pci address : ℕ) → place_of s pci ≡ target address → address % 32 ≡ pci % 32
target_low s pci address e = subst (KeptLow pci) e (claim_low pci s.control.registers s.control.look_aside s.lines (claim s.control.registers pci))
