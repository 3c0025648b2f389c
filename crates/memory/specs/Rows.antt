-- The search for the first row that answers.
use Rattle.std.specs.Prelude.{◌≡◌, ℕ, ◌<◌, Bool, true, false, List, length, Some, None, Option, position}
use Rattle.std.specs.List.{HoldsAt, AllWithin}

-- the index of the first row that answers
abbrev pub first_index : {X : Type 0} → (X → Bool) → List X → Option ℕ
first_index answers rows = position answers rows

-- the rule as a relation: none exactly if no row answers; else that row does, and none before it
abbrev pub Finds : {X : Type 0} → (X → Bool) → List X → Option ℕ → Type 0
Finds answers rows None = AllWithin (λ row. answers row ≡ false) rows 0 (length rows)
Finds answers rows (Some i) = (i < length rows) × HoldsAt (λ row. answers row ≡ true) rows i × AllWithin (λ row. answers row ≡ false) rows 0 i

-- the relation holds of the index that is computed, and of no other answer
pub record FoundOnce {X : Type 0} (answers : X → Bool) (rows : List X) : Type 0 where
  pub some : Finds answers rows (first_index answers rows)
  pub only : (o : Option ℕ) → Finds answers rows o → o ≡ first_index answers rows

-- a place for a row answers as the row that it holds; an empty one answers for nothing
abbrev pub held_answers : {R : Type 0} → (R → ℕ → Bool) → Option R → ℕ → Bool
held_answers answers None n = false
held_answers answers (Some row) n = answers row n
