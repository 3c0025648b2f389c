-- Where a PCI address leads: into a page that is open to the cards, and to the same place for every memory with the same
-- tables in use.
use Rattle.std.proofs.Common.{◌≡◌, ℕ, zero, suc, ◌/◌, ◌^◌, ◌<◌, Bool, true, false, ◌⊎◌, List, [], ◌∷◌, get_or, set, Some, None, Option, sym, refl, ap, ◌∙◌, subst, inl, inr, ⊎_elim, arith, Ok, Err, Result}
use Rattle.std.proofs.lemmas.Nat.{mod_below, shr_high, shr-shr}
use Rattle.std.proofs.lemmas.List.{length-set}
use Rattle.std.proofs.lemmas.Bool.{cond_both}
use Rattle.std.proofs.lemmas.Option.{none-some}
use Rattle.memory.specs.Content.{Lines}
use Rattle.memory.specs.Rows.{Finds, first_index}
use Rattle.memory.specs.Searches.{first_finds}
use Rattle.bridge.specs.declared.faults.WalkFault.{WalkFault}
use Rattle.bridge.specs.declared.look_aside.LookAside.{LookAside}
use Rattle.bridge.specs.declared.look_aside.LookAsideRow.{LookAsideRow}
use Rattle.bridge.specs.Bits.{bits}
use Rattle.bridge.specs.LookAside.{cached_page, filled, page_in, page_of_row, answers_in}
use Rattle.bridge.specs.Pages.{InUse, NamedByRow, Open, line_page, page_of}
use Rattle.bridge.specs.Registers.{window}
use Rattle.bridge.specs.State.{State}
use Rattle.bridge.specs.Translation.{Located, Place, entry_of, located, located_by_claim, located_by_entry, located_by_row, located_by_window, page_address, pci_page, table_fault, target, unclaimed}
use Rattle.bridge.specs.Windows.{entry_address, holds, mapped}

-- the page of an address is that of its line
pub page_of_line : (address : ℕ) → line_page (address / 32) ≡ page_of address
page_of_line address = shr-shr address 5 8

page_of_page_address : (page pci : ℕ) → page_of (page_address page pci) ≡ page
page_of_page_address page pci = shr_high page 13 (bits 12 0 pci) (mod_below _ (2 ^ 13) (omega arith))

-- a row that the search finds is in the table, and answers
named_by_row : (t : LookAside) (n page : ℕ) → cached_page t n ≡ Some page → NamedByRow t page
named_by_row t n page e = go (first_index (λ r. answers_in r n) t.rows) (first_finds (λ r. answers_in r n) t.rows) e
  where
    go : (o : Option ℕ) → Finds (λ r. answers_in r n) t.rows o → page_of_row t o ≡ Some page → NamedByRow t page
    go None f g = absurd (none-some page g)
    go (Some i) f g = record { index = i; within = f.0; named = g }

-- after a row is filled, a valid row names the new page, or one that a valid row named before
pub set_cases : (l : List (Option LookAsideRow)) (i k : ℕ) (r d : Option LookAsideRow) → (get_or (set l i r) k d ≡ r) ⊎ (get_or (set l i r) k d ≡ get_or l k d)
set_cases [] i k r d = inr refl
set_cases (x ∷ l) zero zero r d = inl refl
set_cases (x ∷ l) zero (suc k) r d = inr refl
set_cases (x ∷ l) (suc i) zero r d = inr refl
set_cases (x ∷ l) (suc i) (suc k) r d = set_cases l i k r d

filled_names : (t : LookAside) (n new page : ℕ) → NamedByRow (filled t n new) page → (new ≡ page) ⊎ NamedByRow t page
filled_names t n new page c =
    ⊎_elim (λ e. inl (some_page (ap page_in (sym e) ∙ c.named)))
    (λ e. inr (record {
      index = c.index;
      within = subst (λ k. c.index < k) (length-set t.rows t.pointer _) c.within;
      named = ap page_in (sym e) ∙ c.named;
    }))
    (set_cases t.rows t.pointer c.index _ None)
  where
    some_page : Some new ≡ Some page → new ≡ page
    some_page e = cc

-- a physical address lies in an open page
abbrev pub InOpen : State → Place → Type 0
InOpen s unclaimed = Unit {0}
InOpen s (table_fault fault) = Unit {0}
InOpen s (target address) = Open s (page_of address)

-- an address in an open page, and rows that name open pages alone
pub record Led (s : State) (l : Located) : Type 0 where
  pub rows : (page : ℕ) → NamedByRow l.look_aside page → Open s page
  pub place : InOpen s l.place

-- other lines, with the tables in use of s
abbrev pub SameTables : State → Lines → Type 0
SameTables s other = (address : ℕ) → InUse s.control.registers address → other (address / 32) ≡ s.lines (address / 32)

-- f says where an address leads, for any lines in place of those of s: into the open, and by the tables in use alone
pub record Leads (s : State) (f : Lines → Located) : Type 0 where
  pub led : Led s (f s.lines)
  pub stable : (other : Lines) → SameTables s other → f other ≡ f s.lines

module _ (s : State) (pci : ℕ) (below : pci < 2 ^ 32) where
  -- rows that stay, and a place that no line decides
  stays : (place : Place) → InOpen s place → Leads s (λ other. record { look_aside = s.control.look_aside; place = place })
  stays place into = record { led = record { rows = λ page c. inr (inr c); place = into }; stable = λ other same. refl }

  entry_led : (address : ℕ) → InUse s.control.registers address → (e : Result ℕ WalkFault) → entry_of (s.lines (address / 32)) address ≡ e → Led s (located_by_entry s.control.look_aside pci e)
  entry_led address used (Err fault) h = record { rows = λ page c. inr (inr c); place = tt }
  entry_led address used (Ok page) h = record {
    rows = λ k c. ⊎_elim (λ e. subst (Open s) e named) (λ old. inr (inr old)) (filled_names _ _ _ k c);
    place = subst (Open s) (sym (page_of_page_address page pci)) named;
  }
    where
      named : Open s page
      named = inr (inl (record { address = address; in_use = used; named = h }))

  module _ (number : ℕ) (held : holds (window s.control.registers number) pci ≡ true) where
    row_leads : (o : Option ℕ) → cached_page s.control.look_aside (pci_page pci) ≡ o → mapped (window s.control.registers number) ≡ true
        → Leads s (λ other. located_by_row s.control.look_aside other pci (entry_address (window s.control.registers number) pci) o)
    row_leads (Some page) h m = stays (target (page_address page pci)) (subst (Open s) (sym (page_of_page_address page pci)) (inr (inr (named_by_row _ _ page h))))
    row_leads None h m = record {
      led = entry_led _ used _ refl;
      stable = λ other same. let a = entry_address (window s.control.registers number) pci in ap (λ c. located_by_entry s.control.look_aside pci (entry_of c a)) (same a used);
    }
      where
        used : InUse s.control.registers (entry_address (window s.control.registers number) pci)
        used = record { number = number; pci = pci; held = record { address = below; held = held }; is_mapped = m; read = refl }

    window_leads : (b : Bool) → mapped (window s.control.registers number) ≡ b → Leads s (λ other. located_by_window s.control.look_aside other pci (window s.control.registers number) b)
    window_leads true m = row_leads _ refl m
    window_leads false m = stays _ (inl (record { number = number; pci = pci; held = record { address = below; held = held }; plain = m; reached = refl }))

  pub leads : Leads s (λ other. located s.control.registers s.control.look_aside other pci)
  leads =
      cond_both (holds s.control.registers.first pci) _ _ (λ c. Leads s (λ other. located_by_claim s.control.registers s.control.look_aside other pci c)) (λ h. window_leads 1 h _ refl)
      (λ _. cond_both (holds s.control.registers.second pci) _ _ (λ c. Leads s (λ other. located_by_claim s.control.registers s.control.look_aside other pci c)) (λ h. window_leads 2 h _ refl)
      (λ _. stays unclaimed tt))
