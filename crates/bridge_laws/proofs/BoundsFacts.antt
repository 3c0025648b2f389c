-- The first two checks of a burst, in words.
use Rattle.std.proofs.Common.{◌≡◌, ℕ, ◌+◌, ◌*◌, ◌%◌, ◌^◌, ◌<◌, ◌≤◌, ltb, List, length, get_or, take, Decides, sym, refl, ◌∙◌, subst, ⊎_elim, arith}
use Rattle.std.proofs.lemmas.List.{get_or_default, get_or_past, get_or-take, length-take}
use Rattle.std.proofs.lemmas.Bool.{cases_lt}
use Rattle.std.proofs.lemmas.Bool.Decides.{Decides-by_or, Decides-eqb, Decides-like, Decides-ltb, Decides-not, Decides-or}
use Rattle.bridge.specs.Bits.{bits}
use Rattle.bridge.specs.Bursts.{Burst, burst_start, card_read, card_write, misaligned, out_of_bounds, wide_enable, wrong_count}
use Rattle.bridge_laws.specs.Refusals.{NoLongwordAddress, OutOfBounds, WrongCount}

decides_count : (pci count : ℕ) (buffer : List ℕ) → Decides (wrong_count pci count buffer) (WrongCount pci count buffer)
decides_count pci count buffer =
    Decides-or _ _ (Decides-eqb count 0) (Decides-or _ _ (Decides-ltb 64 count) (Decides-or _ _ (Decides-ltb (length buffer) count) (Decides-ltb (2 ^ 32) (pci + 4 * count))))

-- an enable that is used
used_wide : (count : ℕ) (enables : List ℕ) → (k : ℕ) × (k < count) × (15 < get_or enables k 0) → (k : ℕ) × (k < length (take count enables)) × ((d : ℕ) → 15 < get_or (take count enables) k d)
used_wide count enables (k, low, wide) = (k, within, λ d. subst (λ e. 15 < e) (sym (get_or-take count enables k d low ∙ same d)) wide)
  where
    long : k < length enables
    long = ⊎_elim (λ (l : k < length enables). l) (λ (l : length enables ≤ k). absurd (omega (arith, get_or_past enables k 0 l))) (cases_lt k (length enables))

    within : k < length (take count enables)
    within = simp length-take (omega (arith, long))

    same : (d : ℕ) → get_or enables k d ≡ get_or enables k 0
    same d = get_or_default enables k d 0 long

wide_used : (count : ℕ) (enables : List ℕ) → (k : ℕ) × (k < length (take count enables)) × ((d : ℕ) → 15 < get_or (take count enables) k d) → (k : ℕ) × (k < count) × (15 < get_or enables k 0)
wide_used count enables (k, within, wide) =
    let low : k < count = omega (arith, simp length-take at within) in
    (k, low, subst (λ e. 15 < e) (get_or-take count enables k 0 low) (wide 0))

decides_wide : (count : ℕ) (enables : List ℕ) → Decides (wide_enable (take count enables)) ((k : ℕ) × (k < count) × (15 < get_or enables k 0))
decides_wide count enables =
    Decides-like _ (wide_used count enables) (used_wide count enables) (Decides-by_or (λ e. ltb 15 e) (λ e. 15 < e) wide_enable (λ e. Decides-ltb 15 e) refl (λ _ _. refl) (take count enables))

pub bounds : (b : Burst) → Decides (out_of_bounds b) (OutOfBounds b)
bounds (card_read pci count buffer) = decides_count pci count buffer
bounds (card_write pci count words enables) = Decides-or _ _ (decides_count pci count words) (Decides-or _ _ (Decides-ltb (length enables) count) (decides_wide count enables))

low_bits : (n : ℕ) → bits 1 0 n ≡ n % 4
low_bits n = omega arith

pub alignment : (b : Burst) → Decides (misaligned b) (NoLongwordAddress b)
alignment b =
    let e = low_bits (burst_start b) in
    Decides-like _ (λ odd z. odd (e ∙ z)) (λ odd z. odd (sym e ∙ z)) (Decides-not _ (Decides-eqb (bits 1 0 (burst_start b)) 0))
