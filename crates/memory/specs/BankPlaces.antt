-- Where the lines of admitted banks lie.
use Rattle.std.specs.Prelude.{◌≡◌, ℕ, zero, suc, ◌+◌, ◌-◌, ◌*◌, ◌/◌, ◌%◌, ◌^◌, ◌<◌, ◌≤◌, true, ◌⊎◌, List, length, take, Some, None, Option, ◌≢◌, nat_le, nat_lt, slice_index_or, refl}
use Rattle.std.proofs.Common.{sym, ap, subst, ◌∙◌, inl, inr, ⊎_elim, mul_assoc, arith}
use Rattle.std.proofs.lemmas.Nat.{div-add-mod', pow-add}
use Rattle.std.proofs.lemmas.List.{get_or_default, get_or-take, length-take, take-take}
use Rattle.std.proofs.lemmas.List.Sums.{sum_by_more, sum_by-take-le}
use Rattle.std.proofs.lemmas.Bool.{and_cases, and_from, and_left, and_right, cases_Bool, cases_order, cond-true, cond-false, false≢true, le-leb, le-ltb, leb-false, lt-leb, lt-ltb, ltb-false}
use Rattle.std.proofs.lemmas.Bool.Decides.{nat_tests}
use Rattle.std.proofs.lemmas.Option.{none-some, same_Some}
use Rattle.memory.specs.declared.banks.Bank.{Bank}
use Rattle.memory.specs.Content.{is_present}
use Rattle.memory.specs.Layouts.{Apart, LiesInRun, at_place}
use Rattle.memory.specs.Rows.{Finds, first_index}
use Rattle.memory.specs.Banks.{ExactBanks, InABank, PowerSize, Sound, SoundUntil, bank_offset, bank_places, banked, holds, nth, total}
use Rattle.memory.specs.LinesAt.{inside_all}
use Rattle.memory.specs.Searches.{finds_first, first_finds}

-- bank i ends where the bytes of the banks after it begin
total_next : (banks : List Bank) (i : ℕ) → i < length banks → total (take i banks) + (nth banks i).size ≡ total (take (i + 1) banks)
total_next banks i h = sym (sum_by_more (λ b. b.size) banks i (record { base = 0; size = 0 }) h)

total_later : (banks : List Bank) (i j : ℕ) → i ≤ j → total (take i banks) ≤ total (take j banks)
total_later banks i j h = subst (λ xs. total xs ≤ total (take j banks)) (take-take i j banks h) (sum_by-take-le (λ b. b.size) (take j banks) i)

-- base and size of a sound bank are multiples of 32
power_lines : (size : ℕ) → PowerSize size → (q : ℕ) × (size ≡ q * 32)
power_lines size p =
    let k = p.exponent in
    let l = p.least in
    let e : k - 5 + 5 ≡ k = omega arith in
    (2 ^ (k - 5), p.is ∙ ap (λ j. 2 ^ j) (sym e) ∙ pow-add 2 (k - 5) 5)

sound_lines : {before : List Bank} {b : Bank} → Sound before b → ((m : ℕ) × (b.base ≡ m * 32)) × ((q : ℕ) × (b.size ≡ q * 32))
sound_lines {b = b} s =
    let lines = power_lines b.size s.size in
    let whole : b.base / b.size * b.size ≡ b.base = (let d = div-add-mod' b.base b.size in let z = s.base in omega arith) in
    ((b.base / b.size * lines.0, sym whole ∙ ap (λ n. b.base / b.size * n) lines.1 ∙ sym (mul_assoc (b.base / b.size) lines.0 32)), lines)

-- a line whose first address a sound bank holds lies in it whole
line_fits : {before : List Bank} {b : Bank} → Sound before b → (line : ℕ) → holds b (32 * line) ≡ true → (b.base ≤ 32 * line) × (32 * line - b.base + 32 ≤ b.size)
line_fits {b = b} s line h =
    let l = sound_lines s in
    let base = l.0.1 in
    let size = l.1.1 in
    let from : b.base ≤ 32 * line = grind (arith, nat_tests) in
    let to : 32 * line < b.base + b.size = grind (arith, nat_tests) in
    (from, omega arith)

-- a sound bank holds an address exactly if it holds the first one of its line
holds_line : {before : List Bank} {b : Bank} → Sound before b → (address : ℕ) → holds b (32 * (address / 32)) ≡ holds b address
holds_line {b = b} s address =
    let l = sound_lines s in
    let base = l.0.1 in
    let size = l.1.1 in
    ⊎_elim
    (λ t. let from : b.base ≤ address = grind (arith, nat_tests) in
    let to : address < b.base + b.size = grind (arith, nat_tests) in
    and_from _ _ (le-leb b.base (32 * (address / 32)) (omega arith)) (lt-ltb (32 * (address / 32)) (b.base + b.size) (omega arith)) ∙ sym t)
    (λ t. ⊎_elim
    (λ f. and_left _ _ (lt-leb b.base (32 * (address / 32)) (omega (arith, leb-false b.base address f))))
    (λ f. and_right _ _ (le-ltb (32 * (address / 32)) (b.base + b.size) (omega (arith, ltb-false address (b.base + b.size) f))))
    (and_cases (nat_le b.base address) (nat_lt address (b.base + b.size)) t) ∙ sym t)
    (cases_Bool (holds b address))

-- the place of a line, by what the search for its bank found
pub places_by : (banks : List Bank) (line : ℕ) (o : Option ℕ) → line < 0xC000000 → Finds (λ b. holds b (line * 32)) banks o → bank_places banks line ≡ bank_offset banks (line * 32) o
places_by banks line o low f =
    let e : 32 * line ≡ line * 32 = omega arith in
    cond-true _ _ _ (lt-ltb _ _ low) ∙ ap (λ a. bank_offset banks a (first_index (λ b. holds b a) banks)) e ∙ ap (bank_offset banks (line * 32)) (sym (finds_first _ banks o f))

-- a line lies in a bank that holds its address, behind the banks before that one
record Lies (banks : List Bank) (line at : ℕ) : Type 0 where
  bank : ℕ
  within : bank < length banks
  held : holds (nth banks bank) (32 * line) ≡ true
  is : at ≡ total (take bank banks) + (32 * line - (nth banks bank).base)

lies_in : (banks : List Bank) (line at : ℕ) (o : Option ℕ) → Finds (λ b. holds b (32 * line)) banks o → bank_offset banks (32 * line) o ≡ Some at → Lies banks line at
lies_in banks line at None f e = absurd (none-some at e)
lies_in banks line at (Some i) f e = record { bank = i; within = f.0; held = f.1 _; is = sym (same_Some _ _ e) }

lies : (banks : List Bank) (line at : ℕ) → bank_places banks line ≡ Some at → Lies banks line at
lies banks line at e =
    ⊎_elim
    (λ t. lies_in banks line at _ (first_finds (λ b. holds b (32 * line)) banks) (sym (cond-true _ _ _ t) ∙ e))
    (λ t. absurd (none-some at (sym (cond-false _ _ _ t) ∙ e)))
    (cases_Bool (nat_lt line 0xC000000))

module _ (banks : List Bank) (sound : SoundUntil banks (length banks)) where
  ends_in_bank : (line at : ℕ) (l : Lies banks line at) → at + 32 ≤ total (take (l.bank + 1) banks)
  ends_in_bank line at l =
      let fits = line_fits (sound l.bank l.within) line l.held in
      let next = total_next banks l.bank l.within in
      let e = l.is in
      omega arith

  pub places_within : (line at : ℕ) → bank_places banks line ≡ Some at → at + 32 ≤ total banks
  places_within line at e =
      let l = lies banks line at e in
      let h = ends_in_bank line at l in
      omega (arith, sum_by-take-le (λ b. b.size) banks (l.bank + 1))

  -- a line of an earlier bank ends before one of a later bank begins
  earlier : (j k a b : ℕ) (l : Lies banks j a) (m : Lies banks k b) → l.bank < m.bank → a + 32 ≤ b
  earlier j k a b l m h =
      let ends = ends_in_bank j a l in
      let e = m.is in
      omega (arith, total_later banks (l.bank + 1) m.bank (omega arith))

  same_bank : (j k a b : ℕ) (l : Lies banks j a) (m : Lies banks k b) → l.bank ≡ m.bank → (j ≢ k) → (a + 32 ≤ b) ⊎ (b + 32 ≤ a)
  same_bank j k a b l m s ne =
      let i = l.bank in
      let here = line_fits (sound i l.within) j l.held in
      let there = line_fits (sound i l.within) k (subst (λ n. holds (nth banks n) (32 * k) ≡ true) (sym s) m.held) in
      let p = l.is in
      let q : b ≡ total (take i banks) + (32 * k - (nth banks i).base) = subst (λ n. b ≡ total (take n banks) + (32 * k - (nth banks n).base)) (sym s) m.is in
      ⊎_elim (λ e. absurd (ne e)) (λ o. ⊎_elim (λ (lt : j < k). inl (omega arith)) (λ (gt : k < j). inr (omega arith)) o) (cases_order j k)

  pub places_apart : Apart (bank_places banks)
  places_apart j k a b e f ne =
      let l = lies banks j a e in
      let m = lies banks k b f in
      ⊎_elim
      (λ s. same_bank j k a b l m s ne)
      (λ o. ⊎_elim (λ lt. inl (earlier j k a b l m lt)) (λ gt. inr (earlier k j b a m l gt)) o)
      (cases_order l.bank m.bank)

  -- n bytes hold every line of the banks
  all_inside : (n : ℕ) (bytes : List ℕ) → total banks ≤ n → (line : ℕ) → banked banks n bytes line ≡ at_place bytes (bank_places banks line)
  all_inside n bytes room line = ap (at_place bytes) (inside_all n (bank_places banks line) (λ a e. let h = places_within line a e in omega arith))

  single_of : (j k address : ℕ) → j < k → k < length banks → holds (nth banks j) address ≡ true → holds (nth banks k) address ≢ true
  single_of j k address lt h t u =
      let long : j < length (take k banks) = simp length-take (omega arith) in
      let same : nth (take k banks) j ≡ nth banks j = get_or-take k banks j _ lt in
      (sound k h).alone j address long (ap (λ b. holds b address) same ∙ t) u

  single : (j k address : ℕ) → j < length banks → k < length banks → holds (nth banks j) address ≡ true → holds (nth banks k) address ≡ true → j ≡ k
  single j k address p q t u =
      ⊎_elim (λ e. e) (λ o. ⊎_elim (λ lt. absurd (single_of j k address lt q t u)) (λ gt. absurd (single_of k j address gt p u t)) o) (cases_order j k)

  -- the bytes of the banks before one are whole lines
  whole_before : (i : ℕ) → i ≤ length banks → total (take i banks) % 32 ≡ 0
  whole_before zero h = refl
  whole_before (suc i) h =
      let next = total_next banks i (omega arith) in
      let size = (sound_lines (sound i (omega arith))).1.1 in
      let whole = whole_before i (omega arith) in
      ap (λ k. total (take k banks) % 32) (let e : suc i ≡ i + 1 = omega arith in e) ∙ omega (arith, next, size, whole)

  -- a line whose address a bank holds lies in it
  in_bank : (line i : ℕ) → i < length banks → holds (nth banks i) (32 * line) ≡ true → bank_places banks line ≡ Some (total (take i banks) + (32 * line - (nth banks i).base))
  in_bank line i within held =
      let fits = line_fits (sound i within) line held in
      let below = (sound i within).below in
      let low : line < 0xC000000 = omega arith in
      cond-true _ _ _ (lt-ltb _ _ low) ∙ found _ (first_finds (λ b. holds b (32 * line)) banks)
    where
      found : (o : Option ℕ) → Finds (λ b. holds b (32 * line)) banks o → bank_offset banks (32 * line) o ≡ Some (total (take i banks) + (32 * line - (nth banks i).base))
      found None f = absurd (false≢true (sym (f i _ (omega arith) within) ∙ held))
      found (Some j) f = ap (λ k. Some (total (take k banks) + (32 * line - (nth banks k).base))) (single j i (32 * line) f.0 within (f.1 _) held)

  -- the lines from one on up to the end of its bank lie one behind another
  pub run_by : (line i : ℕ) → Finds (λ b. holds b (line * 32)) banks (Some i)
      → LiesInRun (bank_places banks) line (Some (record { at = total (take i banks) + (line * 32 - (nth banks i).base); end = total (take i banks) + (nth banks i).size }))
  run_by line i f =
      let held : holds (nth banks i) (32 * line) ≡ true = ap (holds (nth banks i)) (let e : 32 * line ≡ line * 32 = omega arith in e) ∙ f.1 _ in
      let fits = line_fits (sound i f.0) line held in
      let lines = sound_lines (sound i f.0) in
      let whole = whole_before i (omega (arith, f.0)) in (
        omega (arith, lines.0.1, whole),
        omega (arith, lines.1.1, whole),
        omega (arith, fits),
        λ k h.
            let next : holds (nth banks i) (32 * (line + k)) ≡ true =
            and_from _ _ (le-leb (nth banks i).base (32 * (line + k)) (omega arith)) (lt-ltb (32 * (line + k)) ((nth banks i).base + (nth banks i).size) (omega (arith, lines.0.1, lines.1.1, whole, fits))) in
            in_bank (line + k) i f.0 next ∙ ap Some (let e : total (take i banks) + (32 * (line + k) - (nth banks i).base) ≡ total (take i banks) + (line * 32 - (nth banks i).base) + 32 * k = omega arith in e),
      )

  -- a bank that holds an address is the one that a search finds
  pub held_by : (k address : ℕ) → k < length banks → holds (nth banks k) address ≡ true → Finds (λ b. holds b address) banks (Some k)
  held_by k address within held = (
    within,
    (λ d. ap (λ b. holds b address) (get_or_default banks k d _ within) ∙ held),
    λ j d from near. ⊎_elim
        (λ t. absurd (single_of j k address near within (ap (λ b. holds b address) (get_or_default banks j _ d (omega arith)) ∙ t) held))
        (λ f. f)
        (cases_Bool (holds (slice_index_or banks j d) address)),
  )

  present_from : (bytes : List ℕ) (address : ℕ) (o : Option ℕ) → bank_places banks (address / 32) ≡ o → is_present (at_place bytes o) ≡ true → InABank banks address
  present_from bytes address None e t = absurd (false≢true t)
  present_from bytes address (Some at) e t =
      let l = lies banks (address / 32) at e in
      record { index = l.bank; within = l.within; held = sym (holds_line (sound l.bank l.within) address) ∙ l.held }

  in_place : (bytes : List ℕ) (line : ℕ) (k : ℕ) → k < length banks → holds (nth banks k) (32 * line) ≡ true → (o : Option ℕ) → Finds (λ b. holds b (32 * line)) banks o → is_present (at_place bytes (bank_offset banks (32 * line) o)) ≡ true
  in_place bytes line k h t None f = absurd (false≢true (sym (f k _ (omega arith) h) ∙ t))
  in_place bytes line k h t (Some i) f = refl

  in_a_bank : (bytes : List ℕ) (address : ℕ) → InABank banks address → is_present (at_place bytes (bank_places banks (address / 32))) ≡ true
  in_a_bank bytes address b =
      let s = sound b.index b.within in
      let t = holds_line s address ∙ b.held in
      let to : 32 * (address / 32) < (nth banks b.index).base + (nth banks b.index).size = grind (arith, nat_tests) in
      let low : address / 32 < 0xC000000 = (let e = s.below in omega arith) in
      ap (λ o. is_present (at_place bytes o)) (cond-true _ _ _ (lt-ltb _ _ low)) ∙ in_place bytes (address / 32) b.index b.within t _ (first_finds (λ c. holds c (32 * (address / 32))) banks)

  pub exact : (n : ℕ) (bytes : List ℕ) → total banks ≤ n → ExactBanks banks (banked banks n bytes)
  exact n bytes room = record {
    present = λ address.
        let same = ap is_present (all_inside n bytes room (address / 32)) in
        (λ t. present_from bytes address _ refl (sym same ∙ t), λ b. same ∙ in_a_bank bytes address b);
    single = single;
  }
