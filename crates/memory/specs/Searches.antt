-- The first row that answers: the relation and the definition are the same.
use Rattle.std.specs.Prelude.{◌≡◌, ℕ, Bool, List, [], ◌∷◌, length, Some, None, Option, nat_lt, refl}
use Rattle.std.specs.List.{position_or_len}
use Rattle.std.proofs.Common.{sym, ap, subst, ◌∙◌, ⊎_elim, arith}
use Rattle.std.proofs.lemmas.Bool.{cases_Bool, cond-true, cond-false, le-ltb, lt-ltb, ltb-false, ltb-true}
use Rattle.std.proofs.lemmas.List.Sums.{fails_before_first, passes_at_first, position_or_len_is}
use Rattle.memory.specs.Rows.{Finds, first_index}

-- what the relation finds is what the definition says
pub finds_first : {X : Type 0} (p : X → Bool) (xs : List X) (o : Option ℕ) → Finds p xs o → o ≡ first_index p xs
finds_first p [] None f = refl
finds_first p [] (Some i) f = absurd (omega (arith, f.0))
finds_first p (x ∷ xs) None f =
    let e : position_or_len p (x ∷ xs) ≡ length (x ∷ xs) =
    position_or_len_is p (x ∷ xs) _ x (omega arith) (λ k h. f k x (omega arith) h) (λ h. absurd (omega arith)) in
    sym (cond-false _ _ _ (le-ltb (position_or_len p (x ∷ xs)) (length (x ∷ xs)) (omega arith)))
finds_first p (x ∷ xs) (Some i) f =
    let e : position_or_len p (x ∷ xs) ≡ i =
    position_or_len_is p (x ∷ xs) i x (omega (arith, f.0)) (λ k h. f.2 k x (omega arith) h) (λ h. f.1 x) in
    ap Some (sym e) ∙ sym (cond-true _ _ _ (lt-ltb (position_or_len p (x ∷ xs)) (length (x ∷ xs)) (omega (arith, f.0))))

-- the definition meets the relation
pub first_finds : {X : Type 0} (p : X → Bool) (xs : List X) → Finds p xs (first_index p xs)
first_finds p xs =
    ⊎_elim
    (λ t. let h = ltb-true _ _ t in
    subst (Finds p xs) (sym (cond-true _ _ _ t)) (h, (λ d. passes_at_first p xs d h), λ k d l g. fails_before_first p xs k d g))
    (λ t. let h = ltb-false _ _ t in
    subst (Finds p xs) (sym (cond-false _ _ _ t)) (λ k d l g. fails_before_first p xs k d (omega arith)))
    (cases_Bool (nat_lt (position_or_len p xs) (length xs)))
