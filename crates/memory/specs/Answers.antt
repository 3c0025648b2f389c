-- What a call answers: success with its values, or a refusal by the number of its cause, with the values that it returns.
use Rattle.std.specs.Prelude.{ℕ, List, [], Ok, Err, Result}

pub data Answer : Type 0 where
  success : List ℕ → Answer
  refusal : ℕ → List ℕ → Answer

-- the cause of a refusal: its number, and the values that it returns
pub record Cause : Type 0 where
  pub number : ℕ
  pub values : List ℕ

-- a cause that returns nothing further
abbrev pub bare : ℕ → Cause
bare number = record { number = number; values = [] }

-- a result as an answer, given the values of an Ok and the cause that an Err stands for
abbrev pub answered : {T E : Type 0} → (T → List ℕ) → (E → Cause) → Result T E → Answer
answered values cause (Ok x) = success (values x)
answered values cause (Err e) = refusal (cause e).number (cause e).values

abbrev pub no_values : {T : Type 0} → T → List ℕ
no_values x = []
