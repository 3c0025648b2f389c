-- The longwords that the definition reads are those that the rule asks for.
use Rattle.std.proofs.Common.{◌≡◌, ℕ, zero, suc, ◌+◌, ◌*◌, ◌/◌, ◌%◌, ◌<◌, true, List, [], ◌∷◌, length, is_err, slice_index, sym, refl, ap, ◌∙◌, subst, arith}
use Rattle.memory.specs.Content.{Content, Lines, absent, good, read_answer, spoiled}
use Rattle.memory.specs.Longwords.{IsLongwordOf, LongwordsByTheRule, ReadByTheRule, longword_at, longword_then}

-- none is read of a line that is not good
none : (count first : ℕ) (lines : Lines) → is_err (read_answer (first / 8) (lines (first / 8))) ≡ true → ReadByTheRule (suc count) first lines []
none count first lines refused = record {
  most = omega arith;
  each = λ k h. absurd (omega arith);
  ends = λ h. ap (λ line. is_err (read_answer line (lines line))) (let e : (first + 0) / 8 ≡ first / 8 = omega arith in e) ∙ refused;
}

-- one of a good line, and those after it
more : (count first : ℕ) (lines : Lines) (bytes later : List ℕ) → lines (first / 8) ≡ good bytes → ReadByTheRule count (first + 1) lines later
    → ReadByTheRule (suc count) first lines (longword_at bytes (4 * (first % 8)) ∷ later)
more count first lines bytes later whole l = record {
  most = (let m = l.most in omega arith);
  each = each;
  ends = λ h. ap (λ n. is_err (read_answer (n / 8) (lines (n / 8)))) (let e : first + suc (length later) ≡ first + 1 + length later = omega arith in e) ∙ l.ends (omega arith);
}
  where
    each : (k : ℕ) → k < suc (length later) → IsLongwordOf (lines ((first + k) / 8)) ((first + k) % 8) (slice_index (longword_at bytes (4 * (first % 8)) ∷ later) k)
    each zero h =
        subst (λ n. IsLongwordOf (lines (n / 8)) (n % 8) (longword_at bytes (4 * (first % 8)))) (let e : first ≡ first + 0 = omega arith in e)
        (subst (λ c. IsLongwordOf c (first % 8) (longword_at bytes (4 * (first % 8)))) (sym whole) refl)
    each (suc k) h = subst (λ n. IsLongwordOf (lines (n / 8)) (n % 8) (slice_index later k)) (let e : first + 1 + k ≡ first + suc k = omega arith in e) (l.each k (omega arith))

next : (count first : ℕ) (lines : Lines) (later : List ℕ) → ReadByTheRule count (first + 1) lines later → (c : Content) → lines (first / 8) ≡ c → ReadByTheRule (suc count) first lines (longword_then c (first % 8) later)
next count first lines later l absent e = none count first lines (ap (λ c. is_err (read_answer (first / 8) c)) e)
next count first lines later l spoiled e = none count first lines (ap (λ c. is_err (read_answer (first / 8) c)) e)
next count first lines later l (good bytes) e = more count first lines bytes later e l

pub by_the_rule : LongwordsByTheRule
by_the_rule zero first lines = record { most = omega arith; each = λ k h. absurd (omega arith); ends = λ h. absurd (omega arith) }
by_the_rule (suc count) first lines = next count first lines _ (by_the_rule count (first + 1) lines) (lines (first / 8)) refl
