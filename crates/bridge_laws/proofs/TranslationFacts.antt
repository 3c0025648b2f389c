-- The definition of translation meets the relation.
use Rattle.std.proofs.Common.{◌≡◌, ℕ, ◌/◌, Bool, true, false, Some, None, Option, sym, refl, ap, subst, ⊎_elim}
use Rattle.std.proofs.lemmas.Bool.{both_ways, cases_Bool, cond-false, cond-true}
use Rattle.memory.specs.Content.{Content, absent, bit, good, spoiled}
use Rattle.memory.specs.Searches.{first_finds}
use Rattle.bridge.specs.declared.look_aside.LookAsideRow.{LookAsideRow}
use Rattle.bridge.specs.LookAside.{answers_in, page_in, page_of_row, row}
use Rattle.bridge.specs.Registers.{window}
use Rattle.bridge.specs.State.{State}
use Rattle.bridge_laws.specs.Translated.{FirstHolder, Searched, Translated, Translates, by_entry, by_none, by_plain_window, by_row, entry_at, not_valid, table_absent, table_spoiled, window_1, window_2}
use Rattle.bridge.specs.Translation.{entry_number, entry_of, located_by_claim, located_by_entry, located_by_row, located_by_window, pci_page}
use Rattle.bridge.specs.Windows.{holds, mapped}

module _ (s : State) (pci number : ℕ) (holder : FirstHolder s.control.registers pci number) where
  by_content : Searched s pci number None → (c : Content) → s.lines (entry_at s number pci / 32) ≡ c → Translated s pci (located_by_entry s.control.look_aside pci (entry_of c (entry_at s number pci)))
  by_content f absent h = table_absent number f h
  by_content f spoiled h = table_spoiled number f h
  by_content f (good bytes) h =
      let n = entry_number bytes (entry_at s number pci) in
      ⊎_elim
      (λ v. subst (λ e. Translated s pci (located_by_entry s.control.look_aside pci e)) (sym (cond-true (bit n 0) _ _ v)) (by_entry number _ bytes f h v refl))
      (λ v. subst (λ e. Translated s pci (located_by_entry s.control.look_aside pci e)) (sym (cond-false (bit n 0) _ _ v)) (not_valid number bytes f h v))
      (cases_Bool (bit n 0))

  by_found : (o : Option ℕ) → Searched s pci number o → Translated s pci (located_by_row s.control.look_aside s.lines pci (entry_at s number pci) (page_of_row s.control.look_aside o))
  by_found None f = by_content f _ refl
  by_found (Some i) f = by_held (row s.control.look_aside i) refl
    where
      by_held : (r : Option LookAsideRow) → row s.control.look_aside i ≡ r → Translated s pci (located_by_row s.control.look_aside s.lines pci (entry_at s number pci) (page_in r))
      by_held None e = absurd (both_ways _ (ap (λ r. answers_in r (pci_page pci)) e) (f.finds.1 None))
      by_held (Some r) e = by_row number i r.page f (ap page_in e)

  by_window : (b : Bool) → mapped (window s.control.registers number) ≡ b → Translated s pci (located_by_window s.control.look_aside s.lines pci (window s.control.registers number) b)
  by_window true m = by_found _ (record { holder = holder; is_mapped = m; finds = first_finds (λ r. answers_in r (pci_page pci)) s.control.look_aside.rows })
  by_window false m = by_plain_window number holder m

pub translates : Translates
translates s pci =
    let r = s.control.registers in
    let P : Option (ℕ × Bool) → Type 0 = λ c. Translated s pci (located_by_claim r s.control.look_aside s.lines pci c) in
    ⊎_elim
    (λ h. subst P (sym (cond-true (holds r.first pci) _ _ h)) (by_window s pci 1 (window_1 h) _ refl))
    (λ n. subst P (sym (cond-false (holds r.first pci) _ _ n))
    (⊎_elim
    (λ h. subst P (sym (cond-true (holds r.second pci) _ _ h)) (by_window s pci 2 (window_2 n h) _ refl))
    (λ m. subst P (sym (cond-false (holds r.second pci) _ _ m)) (by_none n m))
    (cases_Bool (holds r.second pci))))
    (cases_Bool (holds r.first pci))
