-- Longwords read under marks.
use Rattle.std.proofs.Common.{◌≡◌, ℕ, zero, suc, ◌+◌, ◌-◌, ◌/◌, ◌%◌, ◌<◌, ◌≤◌, true, false, List, [], length, sym, refl, ap, ◌∙◌, arith}
use Rattle.std.proofs.lemmas.Bool.{cond-false, cond-true}
use Rattle.memory.specs.declared.marks.Mark.{Mark}
use Rattle.memory.specs.Content.{Content, Lines, absent, good, read_answer, spoiled}
use Rattle.memory.specs.Longwords.{longword_then, longwords_answer, longwords_answered, longwords_on}
use Rattle.memory.specs.Marked.{marked, spoil, under_marks}

-- a marked line ends a read
none_after : (c : Content) (index : ℕ) (later : List ℕ) → longword_then (spoil c) index later ≡ []
none_after absent index later = refl
none_after spoiled index later = refl
none_after (good bytes) index later = refl

-- the longwords in front of the first marked line are those below
pub unmarked_words : (marks : List Mark) (below : Lines) (n m first : ℕ) → ((j : ℕ) → j < n → marked marks ((first + j) / 8) ≡ false) → (0 < m → marked marks ((first + n) / 8) ≡ true)
    → longwords_on (n + m) first (under_marks marks below) ≡ longwords_on n first below
unmarked_words marks below zero zero first free next = refl
unmarked_words marks below zero (suc m) first free next =
    let here : marked marks (first / 8) ≡ true = ap (λ k. marked marks (k / 8)) (let e : first ≡ first + 0 = omega arith in e) ∙ next (omega arith) in
    ap (λ k. longwords_on k first (under_marks marks below)) (let e : 0 + suc m ≡ suc m = omega arith in e)
    ∙ ap (λ c. longword_then c (first % 8) (longwords_on m (first + 1) (under_marks marks below))) (cond-true _ _ _ here)
    ∙ none_after (below (first / 8)) (first % 8) _
unmarked_words marks below (suc n) m first free next =
    let here : marked marks (first / 8) ≡ false = ap (λ k. marked marks (k / 8)) (let e : first ≡ first + 0 = omega arith in e) ∙ free 0 (omega arith) in
    let later = unmarked_words marks below n m (first + 1)
    (λ j h. ap (λ k. marked marks (k / 8)) (let e : first + 1 + j ≡ first + suc j = omega arith in e) ∙ free (suc j) (omega arith))
    (λ h. ap (λ k. marked marks (k / 8)) (let e : first + 1 + n ≡ first + suc n = omega arith in e) ∙ next h) in
    ap (λ k. longwords_on k first (under_marks marks below)) (let e : suc n + m ≡ suc (n + m) = omega arith in e)
    ∙ ap (λ c. longword_then c (first % 8) (longwords_on (n + m) (first + 1) (under_marks marks below))) (cond-false _ _ _ here)
    ∙ ap (longword_then (below (first / 8)) (first % 8)) later

module _ (marks : List Mark) (below : Lines) (left n first : ℕ) (most : n ≤ left) (free : (j : ℕ) → j < n → marked marks ((first + j) / 8) ≡ false) (next : n < left → marked marks ((first + n) / 8) ≡ true) where
  pub unmarked_read : longwords_on n first below ≡ longwords_on left first (under_marks marks below)
  unmarked_read =
      sym (ap (λ k. longwords_on k first (under_marks marks below)) (let e : left ≡ n + (left - n) = omega arith in e)
      ∙ unmarked_words marks below n (left - n) first free (λ h. next (omega arith)))

  pub unmarked_answer : marked marks (first / 8) ≡ false → longwords_answer n first below ≡ longwords_answer left first (under_marks marks below)
  unmarked_answer here =
      ap (λ words. longwords_answered (length words) (read_answer (first / 8) (below (first / 8)))) unmarked_read
      ∙ ap (λ c. longwords_answered (length (longwords_on left first (under_marks marks below))) (read_answer (first / 8) c)) (sym (cond-false _ _ _ here))
