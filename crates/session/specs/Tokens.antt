-- The tokens of a line: how they are written, and where they stand.
use Rattle.std.specs.Prelude.{◌≡◌, ℕ, ◌+◌, ◌<◌, Bool, true, false, cond, not, ◌&&◌, List, [], ◌∷◌, ◌++◌, map, length, ◌==◌}
use Rattle.std.specs.List.{AllByRecursion}
use Rattle.session.specs.declared.lexer.Token.{Token}
use Rattle.session.specs.declared.lexer.Token.TheVariants.{Open, Close, Word}

-- a token without its offset
pub data Lexeme : Type 0 where
  opening : Lexeme
  closing : Lexeme
  word_of : List ℕ → Lexeme

abbrev pub lexeme : Token → Lexeme
lexeme (Open at) = opening
lexeme (Close at) = closing
lexeme (Word w at) = word_of w.now

abbrev pub lexemes : List Token → List Lexeme
lexemes ts = map lexeme ts

-- the offset of a token in its line
abbrev pub offset : Token → ℕ
offset (Open at) = at
offset (Close at) = at
offset (Word w at) = at

-- a byte of a word: neither a space nor a parenthesis
abbrev pub word_byte : ℕ → Bool
word_byte b = not (b == 32) && (not (b == 40) && not (b == 41))

abbrev pub WordBytes : List ℕ → Type 0
WordBytes w = AllByRecursion (λ b. word_byte b ≡ true) w

-- a word has one byte or more, each a byte of a word
abbrev pub Valid : Lexeme → Type 0
Valid opening = Unit {0}
Valid closing = Unit {0}
Valid (word_of w) = (0 < length w) × WordBytes w

-- what follows an opening parenthesis is the first in it, as what begins a line is
abbrev pub is_opening : Lexeme → Bool
is_opening opening = true
is_opening closing = false
is_opening (word_of w) = false

-- one space stands before what is not the first
abbrev pub space : Bool → List ℕ
space first = cond first [] (32 ∷ [])

-- what stands before a token: a closing parenthesis never has a space before it
abbrev pub gap : Bool → Lexeme → List ℕ
gap first opening = space first
gap first closing = []
gap first (word_of w) = space first

-- the bytes of a token
abbrev pub spelling : Lexeme → List ℕ
spelling opening = 40 ∷ []
spelling closing = 41 ∷ []
spelling (word_of w) = w

-- the bytes of tokens, with the spaces between them
abbrev pub render : Bool → List Lexeme → List ℕ
render first [] = []
render first (t ∷ ts) = gap first t ++ (spelling t ++ render (is_opening t) ts)

-- the bytes are those of these tokens, and no others
pub record Lexes (first : Bool) (bs : List ℕ) (ts : List Lexeme) : Type 0 where
  pub bytes : bs ≡ render first ts
  pub valid : AllByRecursion Valid ts

-- each token's offset is where it stands, in bytes that begin at offset `at`
abbrev pub Placed : ℕ → Bool → List Token → Type 0
Placed at first [] = Unit {0}
Placed at first (t ∷ ts) = (offset t ≡ at + length (gap first (lexeme t))) × Placed (at + length (gap first (lexeme t)) + length (spelling (lexeme t))) (is_opening (lexeme t)) ts
