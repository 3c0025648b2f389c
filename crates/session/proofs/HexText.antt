-- The hexadecimal digits of a number, as they are printed and as they are read.
use Rattle.std.proofs.Common.{◌≡◌, ℕ, zero, suc, Bool, true, false, ◌*◌, ltb, ltb-false, ◌/◌, ◌%◌, ◌^◌, ◌<◌, ◌≤◌, cond, if◌then◌else◌, List, [], ◌∷◌, ◌++◌, map, length, get_or, Some, Option, sym, refl, ap, ◌∙◌, append_assoc, append-nil, subst, arith, lit<, lit≤, eq-eqb, ne_eqb}
use borrow.Author.Tests.{ltb-true}
use Rattle.std.proofs.Math.Nat.{pow-succ'}
use Rattle.std.specs.Fmt.{digits, digits_onto}
use Rattle.std.specs.Str.Parse.{AllDigits, digits_value}
use Rattle.std.specs.Char.{digit_value as digitValue}
use Rattle.std.specs.Int.Digits.{digits_of, AllBelowBase, number_from_digits}
use Rattle.std.proofs.lemmas.Int.Digits.{digits_of_step, first_digits_of, length-digits_of-le, number_digits_of, all_below_base_digits_of, digits_value_is}
use Rattle.std.proofs.lemmas.List.{length-map, map-append}
use Rattle.std.proofs.lemmas.Bool.Decides.{nat_tests}
use Rattle.session.specs.Hex.{Reads}
use Rattle.session.specs.Replies.{NoLeadingZero, ReadsBack, digit, hex}

hex_some : (n : ℕ) → 0 < n → hex n ≡ map digit (digits_of 16 n)
unfolding hex
hex_some n some = ap (λ b. cond b (48 ∷ []) (map digit (digits_of 16 n))) (ne_eqb n 0 (λ e. omega arith))

hex_digits : (n : ℕ) → 0 < n → hex n ≡ map digit (digits_of 16 (n / 16)) ++ digit (n % 16) ∷ []
hex_digits n some = hex_some n some ∙ ap (map digit) (digits_of_step 16 n (lit≤ tt) some) ∙ map-append digit (digits_of 16 (n / 16)) (n % 16 ∷ [])

pub hex_step : (n : ℕ) → 16 ≤ n → hex n ≡ hex (n / 16) ++ digit (n % 16) ∷ []
hex_step n ge =
    let high : 0 < n / 16 = omega arith in
    hex_digits n (omega arith) ∙ ap (λ l. l ++ digit (n % 16) ∷ []) (sym (hex_some (n / 16) high))

pub hex_small : (n : ℕ) → n < 16 → hex n ≡ digit (n % 16) ∷ []
unfolding hex
hex_small zero lt = refl
hex_small (suc m) lt =
    let none : suc m / 16 ≡ 0 = omega arith in
    hex_digits (suc m) (omega arith) ∙ ap (λ q. map digit (digits_of 16 q) ++ digit (suc m % 16) ∷ []) none

digit_value : (d : ℕ) → d < 16 → digitValue (digit d) ≡ d
digit_value d lt = grind (arith, nat_tests)

digits_read : (ds : List ℕ) → AllBelowBase 16 ds → AllDigits 16 (map digit ds)
digits_read [] under = tt
digits_read (d ∷ ds) under = (subst (λ v. v < 16) (sym (digit_value d under.0)) under.0, digits_read ds under.1)

values_back : (ds : List ℕ) → AllBelowBase 16 ds → map digitValue (map digit ds) ≡ ds
values_back [] under = refl
values_back (d ∷ ds) under = λ i. digit_value d under.0 i ∷ values_back ds under.1 i

value_back : (n : ℕ) → digits_value 16 (map digit (digits_of 16 n)) ≡ n
value_back n =
    digits_value_is 16 (map digit (digits_of 16 n)) ∙ ap (number_from_digits 16) (values_back (digits_of 16 n) (all_below_base_digits_of 16 n (lit≤ tt))) ∙ number_digits_of 16 n (lit≤ tt)

-- only 0 has no digits
some_digits : (n : ℕ) → 0 < n → 0 < length (digits_of 16 n)
some_digits n some = more (digits_of 16 n) (first_digits_of 16 n (lit≤ tt) some)
  where
    more : (ds : List ℕ) → 0 < get_or ds 0 0 → 0 < length ds
    more [] h = h
    more (d ∷ ds) h = omega arith

some_back : (n : ℕ) → 0 < n → n < 2 ^ 64 → Reads 64 (map digit (digits_of 16 n)) n
some_back n some lt =
    let long = length-map (digits_of 16 n) digit in
    let few = length-digits_of-le 16 16 n (lit≤ tt) (let l : n < 16 ^ 16 = omega arith in l) in
    let any = some_digits n some in
    let back = value_back n in
    (((omega arith, digits_read (digits_of 16 n) (all_below_base_digits_of 16 n (lit≤ tt))), omega arith), subst (λ v. v < 2 ^ 64) (sym back) lt, sym back)

zero_back : Reads 64 (hex 0) 0
unfolding hex
zero_back = (((lit< tt, (lit< tt, tt)), lit≤ tt), lit< tt, refl)

pub reads_back : ReadsBack
reads_back zero lt = zero_back
reads_back (suc m) lt =
    let some : 0 < suc m = omega arith in
    subst (λ w. Reads 64 w (suc m)) (sym (hex_some (suc m) some)) (some_back (suc m) some lt)

digit_zero : (d : ℕ) → 0 < d → digit d ≡ 48 → ⊥
digit_zero d some e = grind (arith, nat_tests)

first_digit : (ds : List ℕ) → 0 < get_or ds 0 0 → get_or (map digit ds) 0 0 ≡ 48 → ⊥
first_digit [] h e = omega arith
first_digit (d ∷ ds) h e = digit_zero d h e

pub no_leading_zero : NoLeadingZero
no_leading_zero n some e = first_digit (digits_of 16 n) (first_digits_of 16 n (lit≤ tt) some) (ap (λ l. get_or l 0 0) (sym (hex_some n some)) ∙ e)

-- what `{:x}` writes of a number of 64 bits
last_digit : (k n q : ℕ) (acc : List ℕ) → n / 16 ≡ q → q ≡ 0 → digits_onto (suc k) 16 false n acc ≡ digit (n % 16) ∷ acc
last_digit k n q acc e none = ap (λ b. if b then digit (n % 16) ∷ acc else digits_onto k 16 false (n / 16) (digit (n % 16) ∷ acc)) (eq-eqb (n / 16) 0 (e ∙ none))

next_digit : (k n : ℕ) (acc : List ℕ) → 16 ≤ n → digits_onto (suc k) 16 false n acc ≡ digits_onto k 16 false (n / 16) (digit (n % 16) ∷ acc)
next_digit k n acc large = ap (λ b. if b then digit (n % 16) ∷ acc else digits_onto k 16 false (n / 16) (digit (n % 16) ∷ acc)) (ne_eqb (n / 16) 0 (λ e. omega arith))

onto_small : (k n : ℕ) (acc : List ℕ) → n < 16 → digits_onto (suc k) 16 false n acc ≡ hex n ++ acc
onto_small k n acc lt = last_digit k n (n / 16) acc refl (omega arith) ∙ ap (λ l. l ++ acc) (sym (hex_small n lt))

onto_large : (k n : ℕ) (acc : List ℕ) → 16 ≤ n → digits_onto k 16 false (n / 16) (digit (n % 16) ∷ acc) ≡ hex (n / 16) ++ (digit (n % 16) ∷ acc) → digits_onto (suc k) 16 false n acc ≡ hex n ++ acc
onto_large k n acc large front =
    next_digit k n acc large ∙ front ∙ sym (append_assoc (hex (n / 16)) (digit (n % 16) ∷ []) acc) ∙ ap (λ l. l ++ acc) (sym (hex_step n large))

fewer : (k n : ℕ) → n < 16 ^ suc k → n / 16 < 16 ^ k
fewer k n lt = let p : 16 ^ suc k ≡ 16 * 16 ^ k = pow-succ' 16 k in omega arith

onto_hex : (k n : ℕ) (acc : List ℕ) → n < 16 ^ suc k → digits_onto (suc k) 16 false n acc ≡ hex n ++ acc
onto_hex zero n acc lt = onto_small zero n acc lt
onto_hex (suc k) n acc lt = by_size (ltb n 16) refl (λ large. onto_large (suc k) n acc large (onto_hex k (n / 16) (digit (n % 16) ∷ acc) (fewer (suc k) n lt)))
  where
    by_size : (b : Bool) → ltb n 16 ≡ b → (16 ≤ n → digits_onto (suc (suc k)) 16 false n acc ≡ hex n ++ acc) → digits_onto (suc (suc k)) 16 false n acc ≡ hex n ++ acc
    by_size true e front = onto_small (suc k) n acc (ltb-true n 16 e)
    by_size false e front = front (ltb-false n 16 e)

pub hex_printed : (n : ℕ) → n < 2 ^ 64 → digits 16 false n ≡ hex n
unfolding digits
hex_printed n lt = onto_hex 63 n [] (let l : n < 16 ^ 64 = omega arith in l) ∙ append-nil (hex n)

-- a place of a format that is written so
pub hex_place : {text : Option (List ℕ)} (n : ℕ) → text ≡ Some (digits 16 false n) → n < 2 ^ 64 → text ≡ Some (hex n)
hex_place n e lt = e ∙ ap Some (hex_printed n lt)
