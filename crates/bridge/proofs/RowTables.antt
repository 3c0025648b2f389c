-- Tables of look-aside rows.
use Rattle.std.proofs.Common.{◌≡◌, ℕ, zero, suc, ◌<◌, true, false, length, get_or, replicate, Some, None, Option, sym, refl, ap, ◌∙◌, arith}
use Rattle.std.proofs.lemmas.Bool.{eq-eqb, false≢true}
use Rattle.std.proofs.lemmas.Option.{none-some}
use Rattle.std.proofs.lemmas.List.{get_or-set_same, length-set}
use Rattle.std.proofs.lemmas.List.Elements.{AllWithin-kept}
use Rattle.std.specs.List.{AllWithin}
use mathlib.Core.HLevel.{is_prop→PathP}
use native.Mathlib.Bridge.{le_prop}
use Rattle.memory.specs.Rows.{Finds, first_index}
use Rattle.memory.specs.Searches.{finds_first, first_finds}
use Rattle.bridge.specs.declared.look_aside.LookAside.{LookAside}
use Rattle.bridge.specs.declared.look_aside.LookAsideRow.{LookAsideRow}
use Rattle.bridge.specs.LookAside.{answers_in, cached_page, filled, page_in, page_of_row}

-- two tables are equal where their rows and pointers are: that the pointer is below 8 has one proof at most
pub equal_rows : (t u : LookAside) → t.rows ≡ u.rows → t.pointer ≡ u.pointer → t ≡ u
equal_rows t u e f = λ j. record { rows = e j; pointer = f j; below = is_prop→PathP (λ k. f k < 8) (λ k. le_prop) t.below u.below j }

-- the row that the search finds names the page
pub cached_by : (t : LookAside) (n : ℕ) (o : Option ℕ) → Finds (λ r. answers_in r n) t.rows o → page_of_row t o ≡ cached_page t n
cached_by t n o f = ap (page_of_row t) (finds_first (λ r. answers_in r n) t.rows o f)

-- where none names one, none answers
none_answers : (t : LookAside) (n : ℕ) → cached_page t n ≡ None → AllWithin (λ r. answers_in r n ≡ false) t.rows 0 (length t.rows)
none_answers t n e = go (first_index (λ r. answers_in r n) t.rows) (first_finds (λ r. answers_in r n) t.rows) e
  where
    names : (r : Option LookAsideRow) → answers_in r n ≡ true → page_in r ≡ None → ⊥
    names None a f = false≢true a
    names (Some r) a f = none-some r.page (sym f)

    go : (o : Option ℕ) → Finds (λ r. answers_in r n) t.rows o → page_of_row t o ≡ None → AllWithin (λ r. answers_in r n ≡ false) t.rows 0 (length t.rows)
    go None f g = f
    go (Some i) f g = absurd (names _ (f.1 None) g)

-- a row that was filled answers, where none did before
pub found_again : (t : LookAside) (n page : ℕ) → length t.rows ≡ 8 → cached_page t n ≡ None → cached_page (filled t n page) n ≡ Some page
found_again t n page long e =
    let within : t.pointer < length t.rows = omega (arith, t.below) in
    let old = none_answers t n e in
    let here : (d : Option LookAsideRow) → get_or (filled t n page).rows t.pointer d ≡ Some (record { pci_page = n; page = page }) = λ d. get_or-set_same t.rows t.pointer _ d within in
    let finds : Finds (λ r. answers_in r n) (filled t n page).rows (Some t.pointer) = (
      omega (arith, length-set t.rows t.pointer (Some (record { pci_page = n; page = page }))),
      (λ d. ap (λ r. answers_in r n) (here d) ∙ eq-eqb n n refl),
      AllWithin-kept t.rows t.pointer _ within (λ r. answers_in r n ≡ false) (λ k d l h. old k d l (omega arith)),
    ) in
    sym (cached_by (filled t n page) n (Some t.pointer) finds) ∙ ap page_in (here None)

-- in a table of rows that are not valid none is
pub not_valid_at : (n i : ℕ) → get_or {A = Option LookAsideRow} (replicate n None) i None ≡ None
not_valid_at zero i = refl
not_valid_at (suc n) zero = refl
not_valid_at (suc n) (suc i) = not_valid_at n i
