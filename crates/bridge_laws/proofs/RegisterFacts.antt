-- The register map.
use Rattle.std.proofs.Common.{◌≡◌, ℕ, zero, suc, ◌+◌, ◌-◌, ◌*◌, ◌^◌, ◌<◌, ◌≤◌, Bool, true, false, cond, not, ◌&&◌, ◌||◌, eqb, List, [], ◌∷◌, Some, None, Option, sym, refl, ap, ◌∙◌, subst, ap₂, inl, inr, ⊎_elim, add-zero, arith}
use Rattle.std.proofs.lemmas.Nat.{pow_pos}
use Rattle.std.proofs.lemmas.Bool.{and_left, both_ways, cases_Bool, cases_eq, cases_lt, cond-false, cond-true, eq-eqb, ne_eqb, not-true}
use Rattle.std.proofs.lemmas.Bool.Decides.{nat_tests}
use Rattle.memory.specs.Answers.{Answer, success, refusal}
use Rattle.memory.specs.Content.{bit}
use Rattle.bridge.specs.declared.look_aside.LookAside.{LookAside}
use Rattle.bridge.specs.declared.look_aside.LookAsideRow.{LookAsideRow}
use Rattle.bridge.specs.declared.registers.Registers.{Registers}
use Rattle.bridge.specs.Bits.{bits, bits_kept, in_range}
use Rattle.bridge.specs.Calls.{Outcome, control_written, processor, register_read, register_write}
use Rattle.bridge.specs.LookAside.{row, zero_rows}
use Rattle.bridge_laws.specs.RegisterMap.{FromTo, Leaves, Listed, Parts, ReadsBack, RefusedWith10, RegisterMap, RowRegister, Writable, after_write, data_bit, kept_bit, read_of, tag_bit}
use Rattle.bridge.specs.declared.registers.Register.{Register}
use Rattle.bridge.specs.declared.registers.Register.TheVariants.{InvalidateAll, RowData, RowTag}
use Rattle.bridge.specs.Registers.{data_value, read_only, register_named, register_read_answer, register_value, register_write_answer, tag_value}
use Rattle.bridge.specs.State.{Control, State}
use Rattle.bridge.proofs.RowTables.{not_valid_at}
use Rattle.bridge_laws.proofs.AddressFacts.{bit_of_power}
use Rattle.bridge_laws.proofs.BitFacts.{bit_beyond, bit_field, bit_high, bit_low, bit_of_zero, field_below}
use Rattle.bridge_laws.proofs.DecodeFacts.{in_no, in_yes}
use Rattle.bridge_laws.proofs.LogFacts.{written_log}
use Rattle.bridge_laws.proofs.RowFacts.{invalidates_by_32, left_unless}

-- the bits of a field, from k up to top
bit_moved : (high low k top v i j : ℕ) → low ≤ high → top ≡ k + (high - low) → (k ≤ i → low + (i - k) ≡ j) → bit (bits high low v * 2 ^ k) i ≡ (in_range k top i && bit v j)
bit_moved high low k top v i j h t place =
    let x = bits high low v in
    ap (λ n. bit n i) (sym (add-zero (x * 2 ^ k)))
    ∙ ⊎_elim
    (λ l. bit_low i k x 0 l ∙ bit_of_zero i ∙ ap (λ b. b && bit v j) (sym (in_no k top i (inl l))))
    (λ g. bit_high i k x 0 (pow_pos k) g
    ∙ ⊎_elim
    (λ l. bit_field high low v (i - k) l ∙ ap (bit v) (place g) ∙ ap (λ b. b && bit v j) (sym (in_yes k top i g (omega arith))))
    (λ m. bit_beyond (i - k) (high + 1 - low) x (field_below high low v) m ∙ ap (λ b. b && bit v j) (sym (in_no k top i (inr (omega arith)))))
    (cases_lt (i - k) (high + 1 - low)))
    (cases_lt i k)

-- the bits of a field at its own place
bit_kept : (high low v i : ℕ) → low ≤ high → bit (bits_kept high low v) i ≡ (in_range low high i && bit v i)
bit_kept high low v i h = bit_moved high low low high v i i h (omega arith) (λ g. omega arith)

-- HAXR2 keeps two fields
haxr2_bit : (v i : ℕ) → bit (bits_kept 31 24 v + bits_kept 1 0 v) i ≡ ((in_range 24 31 i || in_range 0 1 i) && bit v i)
haxr2_bit v i =
    let low : bits_kept 1 0 v < 2 ^ 24 = let l = field_below 1 0 v in omega arith in
    ⊎_elim
    (λ l. bit_low i 24 (bits 31 24 v) (bits_kept 1 0 v) l ∙ bit_kept 1 0 v i (omega arith) ∙ ap (λ b. b && bit v i) (below i l))
    (λ g. bit_high i 24 (bits 31 24 v) (bits_kept 1 0 v) low g ∙ sym (bit_high i 24 (bits 31 24 v) 0 (omega arith) g) ∙ ap (λ n. bit n i) (add-zero (bits 31 24 v * 2 ^ 24))
    ∙ bit_kept 31 24 v i (omega arith) ∙ ap (λ b. b && bit v i) (above i g))
    (cases_lt i 24)
  where
    below : (i : ℕ) → i < 24 → in_range 0 1 i ≡ (in_range 24 31 i || in_range 0 1 i)
    below i l = grind (arith, nat_tests)

    above : (i : ℕ) → 24 ≤ i → in_range 24 31 i ≡ (in_range 24 31 i || in_range 0 1 i)
    above i g = grind (arith, nat_tests)

-- the numbers 6 to 14, one by one
below_nine : (P : ℕ → Type 0) → P 0 → P 1 → P 2 → P 3 → P 4 → P 5 → P 6 → P 7 → P 8 → (x : ℕ) → x < 9 → P x
below_nine P a b c d e f g h i zero l = a
below_nine P a b c d e f g h i (suc zero) l = b
below_nine P a b c d e f g h i (suc (suc zero)) l = c
below_nine P a b c d e f g h i (suc (suc (suc zero))) l = d
below_nine P a b c d e f g h i (suc (suc (suc (suc zero)))) l = e
below_nine P a b c d e f g h i (suc (suc (suc (suc (suc zero))))) l = f
below_nine P a b c d e f g h i (suc (suc (suc (suc (suc (suc zero)))))) l = g
below_nine P a b c d e f g h i (suc (suc (suc (suc (suc (suc (suc zero))))))) l = h
below_nine P a b c d e f g h i (suc (suc (suc (suc (suc (suc (suc (suc zero)))))))) l = i
below_nine P a b c d e f g h i (suc (suc (suc (suc (suc (suc (suc (suc (suc x))))))))) l = absurd (omega arith)

six_to_fourteen : (P : ℕ → Type 0) → P 6 → P 7 → P 8 → P 9 → P 10 → P 11 → P 12 → P 13 → P 14 → (n : ℕ) → FromTo 6 14 n → P n
six_to_fourteen P a b c d e f g h i n (l, k) =
    let x : 6 + (n - 6) ≡ n = omega arith in
    subst P x (below_nine (λ x. P (6 + x)) a b c d e f g h i (n - 6) (omega arith))

-- what each of them holds after a write of v
abbrev kept_value : ℕ → ℕ → ℕ
kept_value n v =
    cond (in_range 6 7 n) (bits_kept 31 9 v)
    (cond (in_range 8 9 n) (bits_kept 31 18 v)
    (cond (in_range 10 11 n) (bits_kept 31 20 v)
    (cond (eqb n 13) (bits_kept 31 27 v)
    (cond (eqb n 14) (bits_kept 31 24 v + bits_kept 1 0 v)
    0))))

module _ (v : ℕ) where
  kept_value_bits : (n : ℕ) → FromTo 6 14 n → (i : ℕ) → bit (kept_value n v) i ≡ (kept_bit n i && bit v i)
  kept_value_bits = six_to_fourteen (λ n. (i : ℕ) → bit (kept_value n v) i ≡ (kept_bit n i && bit v i))
      (λ i. bit_kept 31 9 v i (omega arith)) (λ i. bit_kept 31 9 v i (omega arith))
      (λ i. bit_kept 31 18 v i (omega arith)) (λ i. bit_kept 31 18 v i (omega arith))
      (λ i. bit_kept 31 20 v i (omega arith)) (λ i. bit_kept 31 20 v i (omega arith))
      bit_of_zero (λ i. bit_kept 31 27 v i (omega arith)) (haxr2_bit v)

  -- a read of one of them after a write of one of them
  module _ (s : State) where
    abbrev Reads : ℕ → ℕ → Type 0
    Reads n m = read_of (after_write s n v) m ≡ cond (eqb m n) (success (kept_value n v ∷ [])) (read_of s m)

    reads : (n : ℕ) → FromTo 6 14 n → (m : ℕ) → FromTo 6 14 m → Reads n m
    reads = six_to_fourteen (λ n. (m : ℕ) → FromTo 6 14 m → Reads n m)
        (six_to_fourteen (Reads 6) refl refl refl refl refl refl refl refl refl)
        (six_to_fourteen (Reads 7) refl refl refl refl refl refl refl refl refl)
        (six_to_fourteen (Reads 8) refl refl refl refl refl refl refl refl refl)
        (six_to_fourteen (Reads 9) refl refl refl refl refl refl refl refl refl)
        (six_to_fourteen (Reads 10) refl refl refl refl refl refl refl refl refl)
        (six_to_fourteen (Reads 11) refl refl refl refl refl refl refl refl refl)
        (six_to_fourteen (Reads 12) refl refl refl refl refl refl refl refl refl)
        (six_to_fourteen (Reads 13) refl refl refl refl refl refl refl refl refl)
        (six_to_fourteen (Reads 14) refl refl refl refl refl refl refl refl refl)

-- the registers that the rows alone decide, with the numbers that name none
abbrev by_rows : Option Register → Bool
by_rows None = true
by_rows (Some InvalidateAll) = true
by_rows (Some r) = read_only r

rows_decide : (r q : Registers) (t : LookAside) (o : Option Register) → by_rows o ≡ true → register_read_answer r t o ≡ register_read_answer q t o
rows_decide r q t None h = refl
rows_decide r q t (Some (RowTag i)) h = refl
rows_decide r q t (Some (RowData i)) h = refl
rows_decide r q t (Some InvalidateAll) h = refl
rows_decide r q t (Some register) h = absurd (both_ways false refl h)

not_by_rows : (n : ℕ) → by_rows (register_named n) ≡ false → FromTo 6 14 n
not_by_rows n h = (grind (arith, nat_tests), grind (arith, nat_tests))

-- the registers that can be written
abbrev can_write : Option Register → Bool
can_write None = false
can_write (Some r) = not (read_only r)

can_write_named : (n : ℕ) → can_write (register_named n) ≡ (in_range 6 14 n || eqb n 32)
can_write_named n = grind (arith, nat_tests)

named_none : (n : ℕ) → (Listed n → ⊥) → register_named n ≡ None
named_none n h = grind (arith, nat_tests)

-- a write of a register that cannot be written leaves the bridge
module _ (k : Control) (v : ℕ) where
  unwritten : (o : Option Register) → can_write o ≡ false → (control_written k o v ≡ k) × (register_write_answer o ≡ refusal 10 [])
  unwritten None h = (refl, refl)
  unwritten (Some (RowTag i)) h = (refl, refl)
  unwritten (Some (RowData i)) h = (refl, refl)
  unwritten (Some r) h = absurd (both_ways true h refl)

answers_write : (o : Option Register) → can_write o ≡ true → register_write_answer o ≡ success []
answers_write None h = absurd (both_ways false refl h)
answers_write (Some r) h = cond-false (read_only r) _ _ (not-true (read_only r) h)

never_both : (a : Answer) (values : List ℕ) → a ≡ success values → a ≡ refusal 10 [] → ⊥
never_both a values e f = cc

writable_named : (n : ℕ) → can_write (register_named n) ≡ true → Writable n
writable_named n h = let t = sym (can_write_named n) ∙ h in (listed t, λ r. other t r.0 r.1)
  where
    listed : (in_range 6 14 n || eqb n 32) ≡ true → Listed n
    listed t = grind (arith, nat_tests)

    other : (in_range 6 14 n || eqb n 32) ≡ true → 16 ≤ n → n ≤ 31 → ⊥
    other t g l = grind (arith, nat_tests)

named_writable : (n : ℕ) → Writable n → can_write (register_named n) ≡ true
named_writable n w = can_write_named n ∙ ⊎_elim (λ p. low p.0 p.1) (λ p. high p.0 p.1 (λ g l. w.1 (g, l))) w.0
  where
    low : 6 ≤ n → n ≤ 14 → (in_range 6 14 n || eqb n 32) ≡ true
    low g l = grind (arith, nat_tests)

    high : 16 ≤ n → n ≤ 32 → (16 ≤ n → n ≤ 31 → ⊥) → (in_range 6 14 n || eqb n 32) ≡ true
    high g l r = grind (arith, nat_tests)

read_refused : (s : State) (n : ℕ) → RefusedWith10 s (processor (register_read n)) (Listed n → ⊥)
read_refused s n = record {
  refused = λ h.
      let answers : Option Register → Outcome = λ o. record { state = s; answer = register_read_answer s.control.registers s.control.look_aside o; buffer = [] } in
      ap answers (named_none n h);
  only = λ e l. named_some (register_named n) refl e l;
}
  where
    none_named : Listed n → register_named n ≡ None → ⊥
    none_named l e = grind (arith, nat_tests)

    named_some : (o : Option Register) → register_named n ≡ o → register_read_answer s.control.registers s.control.look_aside o ≡ refusal 10 [] → Listed n → ⊥
    named_some None e f l = none_named l e
    named_some (Some r) e f l = never_both _ _ refl f

write_refused : (s : State) (n v : ℕ) → RefusedWith10 s (processor (register_write n v)) (Writable n → ⊥)
write_refused s n v = record {
  refused = λ h.
      let u = unwritten s.control v (register_named n) (cannot h) in
      let leaving : Control → Answer → Outcome = λ k a. record { state = record { control = k; lines = s.lines }; answer = a; buffer = [] } in
      ap₂ leaving u.0 u.1;
  only = λ e w. never_both _ _ (answers_write (register_named n) (named_writable n w)) e;
}
  where
    cannot : (Writable n → ⊥) → can_write (register_named n) ≡ false
    cannot h = ⊎_elim (λ t. absurd (h (writable_named n t))) (λ f. f) (cases_Bool (can_write (register_named n)))

-- the zero rows read 0
abbrev is_row : Option Register → Bool
is_row None = false
is_row (Some r) = read_only r

row_named : (m : ℕ) → RowRegister m → is_row (register_named m) ≡ true
row_named m (g, l) = grind (arith, nat_tests)

reads_zero : (r : Registers) (o : Option Register) → is_row o ≡ true → register_read_answer r zero_rows o ≡ success (0 ∷ [])
reads_zero r (Some (RowTag i)) h = ap (λ (x : Option LookAsideRow). success (tag_value x ∷ [])) (not_valid_at 8 i)
reads_zero r (Some (RowData i)) h = ap (λ (x : Option LookAsideRow). success (data_value x ∷ [])) (not_valid_at 8 i)
reads_zero r o h = absurd (both_ways false refl h)

-- what a read that the rows do not decide answers
not_rows_decide : (r : Registers) (t u : LookAside) (o : Option Register) → is_row o ≡ false → register_read_answer r t o ≡ register_read_answer r u o
not_rows_decide r t u (Some (RowTag i)) h = absurd (both_ways true h refl)
not_rows_decide r t u (Some (RowData i)) h = absurd (both_ways true h refl)
not_rows_decide r t u o h = refl

named_row : (m : ℕ) → is_row (register_named m) ≡ true → RowRegister m
named_row m h = (grind (arith, nat_tests), grind (arith, nat_tests))

-- 6 to 14, or 32
writable_cases : (n : ℕ) → can_write (register_named n) ≡ true → (n ≡ 32 → ⊥) → FromTo 6 14 n
writable_cases n h ne = let t = sym (can_write_named n) ∙ h in (grind (arith, nat_tests), grind (arith, nat_tests))

module _ (s : State) (n v : ℕ) where
  others : (m : ℕ) → (m ≡ n → ⊥) → (n ≡ 32 → ⊥) → read_of (after_write s n v) m ≡ read_of s m
  others m ne n32 =
      ⊎_elim
      (λ t. let w = writable_cases n t n32 in
      ⊎_elim
      (λ b. ap (λ (u : LookAside). register_read_answer (after_write s n v).control.registers u (register_named m)) (left_unless s.control v (register_named n) (λ e. n32 (invalidates_by_32 n e)))
      ∙ rows_decide (after_write s n v).control.registers s.control.registers s.control.look_aside (register_named m) b)
      (λ b. reads v s n w m (not_by_rows m b) ∙ cond-false _ _ _ (ne_eqb m n ne))
      (cases_Bool (by_rows (register_named m))))
      (λ f. ap (λ (k : Control). register_read_answer k.registers k.look_aside (register_named m)) (unwritten s.control v (register_named n) f).0)
      (cases_Bool (can_write (register_named n)))

others_of_32 : (s : State) (v m : ℕ) → (RowRegister m → ⊥) → read_of (after_write s 32 v) m ≡ read_of s m
others_of_32 s v m h =
    ⊎_elim (λ t. absurd (h (named_row m t))) (λ f. not_rows_decide s.control.registers zero_rows s.control.look_aside (register_named m) f) (cases_Bool (is_row (register_named m)))

leaves : (s : State) (n v : ℕ) → Leaves s n v
leaves s n v = record {
  others = λ m ne h.
      ⊎_elim
      (λ (e : n ≡ 32). let P : ℕ → Type 0 = λ x. read_of (after_write s x v) m ≡ read_of s m in subst P (sym e) (others_of_32 s v m (h e)))
      (λ n32. others s n v m ne n32)
      (cases_eq n 32);
  zeroed = λ e m r. let P : ℕ → Type 0 = λ x. read_of (after_write s x v) m ≡ success (0 ∷ []) in subst P (sym e) (reads_zero s.control.registers (register_named m) (row_named m r));
  rows_zero = λ e. let P : ℕ → Type 0 = λ x. (after_write s x v).control.look_aside ≡ zero_rows in subst P (sym e) refl;
  rows = λ n32. left_unless s.control v (register_named n) (λ e. n32 (invalidates_by_32 n e));
  log = written_log s.control (register_named n) v;
  lines = refl;
}

reads_back_low : (s : State) (n v : ℕ) → FromTo 6 14 n → read_of (after_write s n v) n ≡ success (kept_value n v ∷ [])
reads_back_low s n v w = reads v s n w n w ∙ cond-true _ _ _ (eq-eqb n n refl)

reads_back : (s : State) (n v : ℕ) → Writable n → ReadsBack s n v
reads_back s n v w =
    ⊎_elim
    (λ (e : n ≡ 32). subst (λ x. ReadsBack s x v) (sym e) (record { succeeds = refl; value = 0; read = refl; bits = bit_of_zero }))
    (λ n32. let l = writable_cases n (named_writable n w) n32 in
    record { succeeds = answers_write (register_named n) (named_writable n w); value = kept_value n v; read = reads_back_low s n v l; bits = kept_value_bits v n l })
    (cases_eq n 32)

-- a tag: the valid bit below the page
below_12 : (x r q : Bool) → r ≡ false → x ≡ cond x true (r && q)
below_12 true r q h = refl
below_12 false r q h = sym (and_left r q h)

tag_bits : (r : Option LookAsideRow) (i : ℕ) → bit (tag_value r) i ≡ tag_bit r i
tag_bits None i = bit_of_zero i
tag_bits (Some r) i =
    let x = bits 18 0 r.pci_page in
    ⊎_elim
    (λ l. bit_low i 13 x (2 ^ 12) l ∙ bit_of_power 12 i ∙ below_12 (eqb i 12) (in_range 13 31 i) (bit r.pci_page (i - 13)) (under i l))
    (λ g. bit_high i 13 x (2 ^ 12) (omega arith) g ∙ sym (bit_high i 13 x 0 (omega arith) g) ∙ ap (λ n. bit n i) (add-zero (x * 2 ^ 13)) ∙ bit_moved 18 0 13 31 r.pci_page i (i - 13) (omega arith) refl (λ _. omega arith)
    ∙ sym (cond-false (eqb i 12) _ _ (ne_eqb i 12 (λ e. omega arith))))
    (cases_lt i 13)
  where
    under : (i : ℕ) → i < 13 → in_range 13 31 i ≡ false
    under i l = grind (arith, nat_tests)

data_bits : (r : Option LookAsideRow) (i : ℕ) → bit (data_value r) i ≡ data_bit r i
data_bits None i = bit_of_zero i
data_bits (Some r) i = bit_moved 19 0 1 20 r.page i (i - 1) (omega arith) refl (λ _. omega arith)

tag_named : (k : ℕ) → k < 8 → register_named (16 + k) ≡ Some (RowTag k)
tag_named k h = grind (arith, nat_tests)

data_named : (k : ℕ) → k < 8 → register_named (24 + k) ≡ Some (RowData k)
data_named k h = grind (arith, nat_tests)

parts : (s : State) → Parts s
parts s = record {
  translated_1 = refl;
  translated_2 = refl;
  base_1 = refl;
  base_2 = refl;
  mask_1 = refl;
  mask_2 = refl;
  haxr1 = refl;
  haxr2 = refl;
  tag = λ k h. record { value = tag_value (row s.control.look_aside k); read = answered (16 + k) (tag_named k h); bits = tag_bits (row s.control.look_aside k) };
  page_number = λ k h. record { value = data_value (row s.control.look_aside k); read = answered (24 + k) (data_named k h); bits = data_bits (row s.control.look_aside k) };
}
  where
    answered : (n : ℕ) {r : Register} → register_named n ≡ Some r → read_of s n ≡ success (register_value s.control.registers s.control.look_aside r ∷ [])
    answered n e = ap (register_read_answer s.control.registers s.control.look_aside) e

pub register_map : RegisterMap
register_map = record { reads_back = reads_back; leaves = leaves; parts = parts; read_refused = read_refused; write_refused = write_refused }
