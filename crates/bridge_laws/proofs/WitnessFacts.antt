-- The concrete lists meet the premise: until a window is enabled nothing is open; after that the tables in use lie in page 1,
-- and no page is open but page 3 and pages from 80h on.
use Rattle.std.proofs.Common.{◌≡◌, ℕ, zero, suc, ◌+◌, ◌*◌, ◌/◌, ◌^◌, ◌<◌, ◌≤◌, Bool, true, false, ◌&&◌, eqb, ltb, sym, refl, ap, ◌∙◌, subst, inl, inr, arith, Ok, Err, Result}
use lib.Bits.{and_zero_r, bit_or}
use Rattle.std.proofs.lemmas.Nat.{mod_below}
use Rattle.std.proofs.lemmas.Bool.{and_parts, both_ways, cond_both, cond-false, eqb-true, false≢true, le-ltb, ne_eqb, true≢false}
use Rattle.std.proofs.lemmas.Bool.Decides.{Decides-below_and}
use Rattle.std.specs.List.{AllByRecursion}
use Rattle.memory.specs.Content.{Has32Bytes, Lawful, Lines, merged}
use Rattle.bridge.specs.declared.faults.WalkFault.{WalkFault}
use Rattle.bridge.specs.declared.registers.Registers.{Registers}
use Rattle.bridge.specs.declared.registers.Window.{Window}
use Rattle.bridge.specs.Bits.{bits}
use Rattle.bridge.specs.Isolation.{AllAlike, CarriesALine, Protected, ProtectedThroughout, before, hidden_stores, more_calls, no_calls, same_call}
use Rattle.bridge.specs.Log.{empty_log}
use Rattle.bridge.specs.Longwords.{line_bytes}
use Rattle.bridge.specs.LookAside.{zero_rows}
use Rattle.bridge.specs.Pages.{InUse, NamedByEntry, Open, PlainlyReached, page_of}
use Rattle.bridge.specs.Registers.{window}
use Rattle.bridge.specs.State.{State}
use Rattle.bridge.specs.Translation.{entry_of}
use Rattle.bridge.specs.Windows.{enabled, entry_address, holds, mapped, plain_address}
use Rattle.bridge_laws.specs.Witness.{PremiseMet, calls_storing, left_calls, page_2, right_calls, start, zero_lines}
use Rattle.bridge.proofs.TwinCalls.{isolation, none_valid}

-- the table at 2000h has 128 quadwords, all in page 1
abbrev quadword : ℕ → ℕ
quadword j = 0x2000 + 8 * j

record InTable (address : ℕ) : Type 0 where
  index : ℕ
  within : index < 128
  is : address ≡ quadword index

-- a window that, if mapped, reads this table alone and, if plain, leads to no page below 80h
record LeadsApart (w : Window) : Type 0 where
  reads : (pci : ℕ) → holds w pci ≡ true → mapped w ≡ true → InTable (entry_address w pci)
  reaches : (pci : ℕ) → holds w pci ≡ true → mapped w ≡ false → 0x80 ≤ page_of (plain_address w pci)

disabled : (w : Window) → enabled w ≡ false → LeadsApart w
disabled w off = record { reads = λ pci h. absurd (both_ways _ off (and_parts _ _ h).0); reaches = λ pci h. absurd (both_ways _ off (and_parts _ _ h).0) }

-- the two windows of the lists, once enabled
abbrev mapped_window : Window
mapped_window = record { base = 0x400C_0000; mask = 0; translated = 0x1000 }

abbrev plain_window : Window
plain_window = record { base = 0x8008_0000; mask = 0; translated = 0x8_0000 }

mapped_apart : LeadsApart mapped_window
mapped_apart = record {
  reads = λ pci _ _.
      let e : entry_address mapped_window pci ≡ 0x2000 + bits 19 13 pci * 2 ^ 3 = ap (λ x. 0 + bit_or x 8 * 2 ^ 10 + bits 19 13 pci * 2 ^ 3) (and_zero_r (bits 31 20 pci)) in
      record { index = bits 19 13 pci; within = mod_below _ (2 ^ 7) (omega arith); is = omega (arith, e) };
  reaches = λ pci _ plain. absurd (true≢false plain);
}

plain_apart : LeadsApart plain_window
plain_apart = record {
  reads = λ pci _ is_mapped. absurd (false≢true is_mapped);
  reaches = λ pci _ _.
      let e : plain_address plain_window pci ≡ 0x10_0000 + bits 19 0 pci = ap (λ x. 0 + bit_or x 1 * 2 ^ 20 + bits 19 0 pci) (and_zero_r (bits 31 20 pci)) in
      omega (arith, e);
}

-- an entry that names page 3, or no page
names_3 : Result ℕ WalkFault → Bool
names_3 (Ok page) = eqb page 3
names_3 (Err fault) = true

abbrev entry_test : Lines → ℕ → Bool
entry_test lines j = names_3 (entry_of (lines (quadword j / 32)) (quadword j))

all_below : (ℕ → Bool) → ℕ → Bool
all_below p zero = true
all_below p (suc n) = p n && all_below p n

-- all 128 entries, by one test
table_test : Lines → Bool
table_test lines = all_below (entry_test lines) 128

each_entry : (lines : Lines) → table_test lines ≡ true → (j : ℕ) → j < 128 → entry_test lines j ≡ true
unfolding table_test all_below
each_entry lines = (Decides-below_and (entry_test lines) (λ j. entry_test lines j ≡ true) (all_below (entry_test lines)) (λ j. (λ e. e, λ e. e)) refl (λ _. refl) 128).0

page_named : (e : Result ℕ WalkFault) (page : ℕ) → e ≡ Ok page → names_3 e ≡ true → page ≡ 3
unfolding names_3
page_named e page named h = eqb-true page 3 (ap names_3 (sym named) ∙ h)

-- no row is valid, and the log is empty
abbrev state_with : Registers → Lines → State
state_with r lines = record { control = record { registers = r; look_aside = zero_rows; log = empty_log }; lines = lines }

-- with two such windows and such a table
module _ (r : Registers) (lines : Lines) (first : LeadsApart r.first) (second : LeadsApart r.second) (entries : table_test lines ≡ true) where
  by_number : (number : ℕ) → LeadsApart (window r number)
  by_number number = cond_both (eqb number 1) _ _ LeadsApart (λ _. first) (λ _. second)

  in_table : (address : ℕ) → InUse r address → InTable address
  in_table address u = subst InTable u.read ((by_number u.number).reads u.pci u.held.held u.is_mapped)

  named : (page : ℕ) → NamedByEntry r lines page → page ≡ 3
  named page n =
      let t = in_table n.address n.in_use in
      page_named _ page (ap (λ a. entry_of (lines (a / 32)) a) (sym t.is) ∙ n.named) (each_entry lines entries t.index t.within)

  reached : (page : ℕ) → PlainlyReached r page → 0x80 ≤ page
  reached page p = subst (λ k. 0x80 ≤ k) p.reached ((by_number p.number).reaches p.pci p.held.held p.plain)

  low_closed : (page : ℕ) → page < 3 → Open (state_with r lines) page → ⊥
  low_closed page low (inl p) = omega (arith, reached page p)
  low_closed page low (inr (inl n)) = omega (arith, named page n)
  low_closed page low (inr (inr c)) = none_valid 8 c.index page c.named

  protected_with : Protected page_2 (state_with r lines)
  protected_with = record {
    no_table_hidden = λ address u. let t = in_table address u in ne_eqb (page_of address) 2 (λ e. omega arith);
    hidden_closed = λ page h. low_closed page (omega (arith, eqb-true page 2 h));
    tables_closed = λ address u. let t = in_table address u in low_closed (page_of address) (omega arith);
  }

-- the table in a memory of zeros, after entry 0 is stored, and after the store into the hidden page
zero_test : table_test zero_lines ≡ true
unfolding table_test all_below names_3
zero_test = refl

stored_test : table_test (before start left_calls 3).lines ≡ true
unfolding table_test all_below names_3 merged
stored_test = refl

hidden_test : table_test (before start left_calls 6).lines ≡ true
unfolding table_test all_below names_3 merged
hidden_test = refl

-- calls 0 to 5 are the processor's
protected : ProtectedThroughout page_2 start left_calls
protected zero h b = protected_with _ _ (disabled _ refl) (disabled _ refl) zero_test
protected (suc zero) h b = protected_with _ _ (disabled _ refl) (disabled _ refl) zero_test
protected (suc (suc zero)) h b = protected_with _ _ (disabled _ refl) (disabled _ refl) stored_test
protected (suc (suc (suc zero))) h b = protected_with _ _ mapped_apart (disabled _ refl) stored_test
protected (suc (suc (suc (suc zero)))) h b = protected_with _ _ mapped_apart plain_apart stored_test
protected (suc (suc (suc (suc (suc zero))))) h b = protected_with _ _ mapped_apart plain_apart hidden_test
protected (suc (suc (suc (suc (suc (suc zero)))))) h b = absurd (true≢false b)
protected (suc (suc (suc (suc (suc (suc (suc zero))))))) h b = absurd (true≢false b)
protected (suc (suc (suc (suc (suc (suc (suc (suc zero)))))))) h b = absurd (true≢false b)
protected (suc (suc (suc (suc (suc (suc (suc (suc (suc n))))))))) h b = absurd (omega arith)

lawful : Lawful zero_lines
lawful = record {
  beyond = λ line far. cond-false _ _ _ (le-ltb line 0x10000 (omega arith));
  whole = λ line. cond_both (ltb line 0x10000) _ _ Has32Bytes (λ _. refl) (λ _. tt);
}

alike : AllAlike page_2 left_calls right_calls
alike =
    more_calls (same_call _)
    (more_calls (same_call _)
    (more_calls (same_call _)
    (more_calls (same_call _)
    (more_calls (same_call _)
    (more_calls (hidden_stores _ _ _ refl)
    (more_calls (same_call _)
    (more_calls (same_call _)
    (more_calls (same_call _) no_calls))))))))

carries : (byte : ℕ) → AllByRecursion CarriesALine (calls_storing byte)
carries byte = (tt, (tt, (refl, (tt, (tt, (refl, (tt, (tt, (tt, tt)))))))))

pub premise_met : PremiseMet
unfolding merged line_bytes
premise_met = record {
  lawful = lawful;
  alike = alike;
  left_carries = carries 0x5A;
  right_carries = carries 0xA5;
  differ = λ e. let z : ◌≡◌ {A = ℕ} 0x5A 0xA5 = cc in omega arith;
  protected = protected;
  first_enabled = refl;
  first_mapped = refl;
  first_holds = refl;
  second_enabled = refl;
  second_plain = refl;
  second_holds = refl;
  read_place = refl;
  read_answer = refl;
  read_buffer = refl;
  refused_answer = refl;
  write_answer = refl;
  line_written = refl;
  left_hidden = refl;
  right_hidden = refl;
  isolated = isolation zero_lines zero_lines lawful lawful page_2 left_calls right_calls (λ line shown. refl) alike (carries 0x5A) (carries 0xA5) protected;
}
