-- The checks of a bank list are its rules.
use Rattle.std.specs.Prelude.{◌≡◌, ℕ, zero, suc, ◌+◌, ◌<◌, ◌≤◌, true, List, [], length, take, drop, Some, None, Option, ◌≢◌, nat_le, refl}
use Rattle.std.proofs.Common.{sym, subst, ◌∙◌, ⊎_elim, arith, below_more}
use Rattle.std.proofs.lemmas.Nat.{pow_pos}
use Rattle.std.proofs.lemmas.List.{at_drop_all, at_drop_more, get_or-take, length-take, take_more}
use Rattle.std.proofs.lemmas.Bool.{cases_Bool, cases_lt, cond-true, cond-false, eq-eqb, le-leb, leb-true, leb-false}
use Rattle.std.proofs.lemmas.Bool.Decides.{nat_tests}
use Rattle.std.proofs.lemmas.List.Recursion.{and_from_places}
use Rattle.std.proofs.lemmas.List.Sums.{AllPass-from_list_all}
use Rattle.std.proofs.lemmas.Option.{none-some}
use Rattle.memory.specs.declared.banks.Bank.{Bank}
use Rattle.memory.specs.declared.banks.BankFault.{BankFault}
use Rattle.memory.specs.declared.banks.BankListRefusal.{BankListRefusal}
use Rattle.memory.specs.declared.banks.BankListRefusal.TheVariants as R
use Rattle.memory.specs.Banks.{Admitted, blamed, Counted, Judged, PowerSize, Sound, SoundUntil, answer_by, apart, bank_fault, by_bank, by_count, by_total, clear, count_fits, fault_from, holds, list_answer, list_fault, nth, size_fits, total, unless_total}
use Rattle.memory.specs.Powers.{power_fits, size_power}

-- two banks with room share no address exactly if one ends where the other begins
apart_alone : (a b : Bank) → apart a b ≡ true → (address : ℕ) → holds a address ≡ true → holds b address ≢ true
apart_alone a b t address h k = grind (arith, nat_tests)

alone_apart : (a b : Bank) → 0 < a.size → 0 < b.size → ((address : ℕ) → holds a address ≡ true → holds b address ≢ true) → apart a b ≡ true
alone_apart a b p q alone =
    ⊎_elim
    (λ t. t)
    (λ f. absurd (⊎_elim
    (λ (l : a.base < b.base). alone b.base (grind (arith, nat_tests)) (grind (arith, nat_tests)))
    (λ (l : b.base ≤ a.base). alone a.base (grind (arith, nat_tests)) (grind (arith, nat_tests)))
    (cases_lt a.base b.base)))
    (cases_Bool (apart a b))

power_room : (size : ℕ) → PowerSize size → 0 < size
power_room size p = let e = p.is in omega (arith, pow_pos p.exponent)

none_sound : (before : List Bank) (b : Bank) → bank_fault before b ≡ None → Sound before b
none_sound before b e =
    let fits : size_fits b.size ≡ true = grind (arith, nat_tests) in
    let free : clear before b ≡ true = grind (arith, nat_tests) in
    record {
      size = size_power b.size fits;
      base = grind (arith, nat_tests);
      below = grind (arith, nat_tests);
      alone = λ k address h. apart_alone (nth before k) b (AllPass-from_list_all _ before free k _ h) address;
    }

sound_none : (before : List Bank) (b : Bank) → ((k : ℕ) → k < length before → 0 < (nth before k).size) → Sound before b → bank_fault before b ≡ None
sound_none before b room s =
    cond-true _ _ _ (power_fits b.size s.size)
    ∙ cond-true _ _ _ (eq-eqb _ _ s.base)
    ∙ cond-true _ _ _ (le-leb _ _ s.below)
    ∙ cond-true _ _ _ (and_from_places (λ xs. clear xs b) (λ a. apart a b) refl (λ _ _. refl) before _ free)
  where
    free : (k : ℕ) → k < length before → apart (nth before k) b ≡ true
    free k h = alone_apart (nth before k) b (room k h) (power_room b.size s.size) (λ address. s.alone k address h)

-- the banks before one have room
rooms : (banks : List Bank) (i : ℕ) → SoundUntil banks i → (k : ℕ) → k < length (take i banks) → 0 < (nth (take i banks) k).size
rooms banks i sound k h =
    let l : k < i = omega (arith, simp length-take at h) in
    rw get_or-take (power_room _ (sound k l).size)

-- one bank more of those that are judged
judge_more : (banks : List Bank) (i : ℕ) (o : Option BankFault) → i < length banks → bank_fault (take i banks) (nth banks i) ≡ o → fault_from i (take i banks) (drop i banks) ≡ blamed i o (fault_from (i + 1) (take (i + 1) banks) (drop (i + 1) banks))
judge_more banks i o h e =
    at_drop_more (fault_from i (take i banks)) banks i (record { base = 0; size = 0 }) h
    ∙ rw (e, take_more banks i (record { base = 0; size = 0 }) h) refl

judge_all : (banks : List Bank) (i : ℕ) → length banks ≤ i → fault_from i (take i banks) (drop i banks) ≡ None
judge_all banks i h = at_drop_all (fault_from i (take i banks)) banks i h

-- what the banks from index i on come to
abbrev Outcome : List Bank → Option BankListRefusal → Type 0
Outcome banks None = SoundUntil banks (length banks)
Outcome banks (Some R.Count) = ⊥
Outcome banks (Some (R.Bank i fault)) = (i < length banks) × SoundUntil banks i × (Sound (take i banks) (nth banks i) → ⊥)
Outcome banks (Some R.Total) = ⊥

judged_at : (banks : List Bank) (i : ℕ) → i < length banks → SoundUntil banks i → (SoundUntil banks (i + 1) → Outcome banks (fault_from (i + 1) (take (i + 1) banks) (drop (i + 1) banks))) → (o : Option BankFault) → bank_fault (take i banks) (nth banks i) ≡ o → Outcome banks (fault_from i (take i banks) (drop i banks))
judged_at banks i here sound later None f =
    subst (Outcome banks) (sym (judge_more banks i _ here f)) (later (below_more _ _ sound (none_sound _ _ f)))
judged_at banks i here sound later (Some fault) f =
    subst (Outcome banks) (sym (judge_more banks i _ here f))
    (here, sound, λ s. none-some fault (sym (sound_none _ _ (rooms banks i sound) s) ∙ f))

judged_from : (turns : ℕ) (banks : List Bank) (i : ℕ) → length banks ≡ i + turns → SoundUntil banks i → Outcome banks (fault_from i (take i banks) (drop i banks))
judged_from zero banks i e sound = subst (Outcome banks) (sym (judge_all banks i (omega arith))) (λ k h. sound k (omega arith))
judged_from (suc turns) banks i e sound = judged_at banks i (omega arith) sound (judged_from turns banks (i + 1) (omega arith)) _ refl

judged_banks : (banks : List Bank) → Outcome banks (fault_from 0 [] banks)
judged_banks banks = judged_from (length banks) banks 0 (omega arith) (λ k h. absurd (omega arith))

judged_total : (banks : List Bank) (n : ℕ) (o : Option BankListRefusal) → Counted banks → Outcome banks o → Judged banks n (answer_by (unless_total banks n o))
judged_total banks n None counted sound =
    ⊎_elim
    (λ t. subst (λ f. Judged banks n (answer_by f)) (sym (cond-true _ _ _ t)) (record { counted = counted; sound = sound; room = leb-true _ _ t }, refl))
    (λ t. subst (λ f. Judged banks n (answer_by f)) (sym (cond-false _ _ _ t)) (refl, (8, refl, by_total counted sound (leb-false _ _ t))))
    (cases_Bool (nat_le (total banks) n))
judged_total banks n (Some R.Count) counted none = absurd none
judged_total banks n (Some (R.Bank i fault)) counted at = (refl, (i, refl, by_bank counted at.0 at.1 at.2))
judged_total banks n (Some R.Total) counted none = absurd none

pub judged : (banks : List Bank) (n : ℕ) → Judged banks n (list_answer banks n)
judged banks n =
    ⊎_elim
    (λ t. subst (λ f. Judged banks n (answer_by f)) (sym (cond-true _ _ _ t)) (judged_total banks n (fault_from 0 [] banks) (grind (arith, nat_tests), grind (arith, nat_tests)) (judged_banks banks)))
    (λ t. subst (λ f. Judged banks n (answer_by f)) (sym (cond-false _ _ _ t)) (refl, (8, refl, by_count (λ counted. grind (arith, nat_tests)))))
    (cases_Bool (count_fits (length banks)))

-- a list without a fault is admitted
pub admitted : (banks : List Bank) (n : ℕ) → list_fault banks n ≡ None → Admitted banks n
admitted banks n e = (subst (λ f. Judged banks n (answer_by f)) e (judged banks n)).0
