-- What one step of the cutting answers, and the whole of it.
use Rattle.std.specs.Prelude.{◌≡◌, ℕ, ◌+◌, ◌≤◌, Bool, true, false, List, [], ◌∷◌, ◌++◌, length, drop, Some, None, Ok, Err, vec_items, Option, Result, Vec, ◌≢◌}
use Rattle.std.specs.declared.alloc.Global.{Global}
use Rattle.session.specs.declared.lexer.Token.{Token}
use Rattle.session.specs.declared.lexer.LineError.{LineError}
use Rattle.session.specs.declared.lexer.LineError.TheVariants.{Malformed, NoMemory}
use Rattle.session.specs.Tokens.{Lexeme, opening, closing, word_of, word_byte, Valid, space, gap, spelling, lexeme, lexemes, offset, Lexes, Placed}

-- a word ends here: no byte of a word comes first
abbrev pub WordEnds : List ℕ → Type 0
WordEnds [] = Unit {0}
WordEnds (b ∷ bs) = word_byte b ≡ false

-- a word is taken with all its bytes
abbrev pub Whole : Lexeme → List ℕ → Type 0
Whole opening rest = Unit {0}
Whole closing rest = Unit {0}
Whole (word_of w) rest = WordEnds rest

-- the token t comes first in bs, and rest is left
pub record Step (first : Bool) (bs : List ℕ) (t : Lexeme) (rest : List ℕ) : Type 0 where
  pub split : bs ≡ gap first t ++ (spelling t ++ rest)
  pub valid : Valid t
  pub whole : Whole t rest

-- where the token behind the space begins
abbrev pub Starts : List ℕ → ℕ → Bool → Option ℕ → Type 0
Starts line at first None = (rest : List ℕ) → drop at line ≢ space first ++ rest
Starts line at first (Some start) = (start ≡ at + length (space first)) × (drop at line ≡ space first ++ drop start line) × (start ≤ length line)

-- the token that comes at an offset, with where it ends
abbrev pub Taken : List ℕ → ℕ → Bool → Option (Token × ℕ) → Type 0
Taken line at first None = (t : Lexeme) (rest : List ℕ) → Step first (drop at line) t rest → ⊥
Taken line at first (Some (t, end)) = Step first (drop at line) (lexeme t) (drop end line) × (offset t ≡ at + length (gap first (lexeme t))) × (end ≡ offset t + length (spelling (lexeme t))) × (end ≤ length line)

-- the tokens of a line, each where it stands; a line is malformed where it has none
abbrev pub Cuts : List ℕ → Result (Vec Token Global) LineError → Type 0
Cuts line (Ok v) = Lexes true line (lexemes (vec_items v)) × Placed 0 true (vec_items v)
Cuts line (Err Malformed) = (ts : List Lexeme) → Lexes true line ts → ⊥
Cuts line (Err NoMemory) = Unit {0}
