-- Addresses of one PCI page: the window that claims one claims all, and they lead on from where that one leads.
use Rattle.std.proofs.Common.{◌≡◌, ℕ, ◌+◌, ◌-◌, ◌*◌, ◌/◌, ◌%◌, ◌^◌, ◌<◌, Bool, true, false, cond, ◌&&◌, eqb, Some, None, Ok, Err, Option, Result, ap, ap₂, ◌∙◌, arith}
use lib.Bits.{bit_and, bit_xor}
use Rattle.memory.specs.Content.{Lines}
use Rattle.bridge.specs.declared.faults.WalkFault.{WalkFault}
use Rattle.bridge.specs.declared.look_aside.LookAside.{LookAside}
use Rattle.bridge.specs.declared.registers.Registers.{Registers}
use Rattle.bridge.specs.declared.registers.Window.{Window}
use Rattle.bridge.specs.Bits.{bits, bits_kept}
use Rattle.bridge.specs.LookAside.{cached_page}
use Rattle.bridge.specs.Translation.{Place, entry_of, located_by_entry, located_by_row, located_by_window, page_address, pci_page, reached, table_fault, target}
use Rattle.bridge.specs.Windows.{claim, enabled, entry_address, holds, mapped, mixed, plain_address, target_base}

-- d bytes on from an address, in the same page
module _ (pci d : ℕ) (near : pci % 2 ^ 13 + d < 2 ^ 13) where
  pub same_top : bits 31 20 (pci + d) ≡ bits 31 20 pci
  same_top = omega arith

  pub same_page : bits 31 13 (pci + d) ≡ bits 31 13 pci
  same_page = omega arith

  same_holds : (w : Window) → holds w (pci + d) ≡ holds w pci
  same_holds w = ap (λ x. enabled w && eqb (bit_and (bit_xor x (bits 31 20 w.base)) (0xfff - bits 31 20 w.mask)) 0) same_top

  pub same_claim : (r : Registers) → claim r (pci + d) ≡ claim r pci
  same_claim r = ap₂ (λ x y. cond x (Some (1, mapped r.first)) (cond y (Some (2, mapped r.second)) None)) (same_holds r.first) (same_holds r.second)

  pub plain_on : (w : Window) → plain_address w (pci + d) ≡ plain_address w pci + d
  plain_on w =
      ap (λ x. bits_kept 32 32 (target_base w) + mixed (bits 31 20 w.mask) x (bits 31 20 (target_base w)) * 2 ^ 20 + bits 19 0 (pci + d)) same_top
      ∙ omega arith

  pub page_on : (page : ℕ) → page_address page (pci + d) ≡ page_address page pci + d
  page_on page = omega arith

  -- a translation that leaves the rows leads on
  module _ (t : LookAside) (lines : Lines) (address : ℕ) where
    entry_on : (e : Result ℕ WalkFault) → located_by_entry t pci e ≡ reached t address → ⊥
    entry_on (Ok page) h = let same : (t.pointer + 1) % 8 ≡ t.pointer = ap (λ l. l.look_aside.pointer) h in omega (arith, t.below)
    entry_on (Err fault) h = let other : table_fault fault ≡ target address = ap (λ l. l.place) h in cc

    led_on : (a b : ℕ) → b ≡ a + d → ◌≡◌ {A = Place} (target a) (target address) → reached t b ≡ reached t (address + d)
    led_on a b e h = let same : a ≡ address = cc in ap (reached t) (e ∙ ap (λ n. n + d) same)

    row_on : (a b : ℕ) (o : Option ℕ) → located_by_row t lines pci a o ≡ reached t address → located_by_row t lines (pci + d) b o ≡ reached t (address + d)
    row_on a b (Some page) h = led_on _ _ (page_on page) (ap (λ l. l.place) h)
    row_on a b None h = absurd (entry_on (entry_of (lines (a / 32)) a) h)

    pub window_on : (w : Window) (m : Bool) → located_by_window t lines pci w m ≡ reached t address → located_by_window t lines (pci + d) w m ≡ reached t (address + d)
    window_on w true h =
        ap (λ n. located_by_row t lines (pci + d) (entry_address w (pci + d)) (cached_page t n)) same_page
        ∙ row_on (entry_address w pci) (entry_address w (pci + d)) (cached_page t (pci_page pci)) h
    window_on w false h = led_on _ _ (plain_on w) (ap (λ l. l.place) h)
