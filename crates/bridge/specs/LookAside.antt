-- The look-aside rows: which row answers for a PCI page, and how a row is filled.
use Rattle.std.specs.Prelude.{ℕ, ◌+◌, ◌%◌, Bool, replicate, Some, None, Option, ◌==◌, slice_index_or, slice_set}
use Rattle.std.proofs.Common.{lit<}
use Rattle.memory.specs.Rows.{first_index, held_answers}
use Rattle.std.proofs.lemmas.Nat.{mod_below}
use Rattle.bridge.specs.declared.look_aside.LookAsideRow.{LookAsideRow}
use Rattle.bridge.specs.declared.look_aside.LookAside.{LookAside}

-- no row is valid, and the pointer is 0
abbrev pub zero_rows : LookAside
zero_rows = record { rows = replicate 8 None; pointer = 0; below = lit< tt }

-- the row of an index, where it is valid
abbrev pub row : LookAside → ℕ → Option LookAsideRow
row t i = slice_index_or t.rows i None

-- a valid row answers for its own PCI page
abbrev pub row_answers : LookAsideRow → ℕ → Bool
row_answers r pci_page = r.pci_page == pci_page

abbrev pub answers_in : Option LookAsideRow → ℕ → Bool
answers_in r pci_page = held_answers row_answers r pci_page

-- the page that a valid row names
abbrev pub page_in : Option LookAsideRow → Option ℕ
page_in None = None
page_in (Some r) = Some r.page

abbrev pub page_of_row : LookAside → Option ℕ → Option ℕ
page_of_row t None = None
page_of_row t (Some i) = page_in (row t i)

-- the page that the first answering row names
abbrev pub cached_page : LookAside → ℕ → Option ℕ
cached_page t pci_page = page_of_row t (first_index (λ r. answers_in r pci_page) t.rows)

-- the row under the pointer is filled, the others stay, and the pointer goes on by one, from 7 to 0
abbrev pub filled : LookAside → ℕ → ℕ → LookAside
filled t pci_page page = record {
  rows = slice_set t.rows t.pointer (Some (record { pci_page = pci_page; page = page }));
  pointer = (t.pointer + 1) % 8;
  below = mod_below (t.pointer + 1) 8 (lit< tt);
}
