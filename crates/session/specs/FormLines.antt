-- A line for each form: its name and its numbers in lower-case digits, one space apart.
use Rattle.std.specs.Prelude.{ℕ, ◌^◌, ◌<◌, ◌≤◌, true, List, [], ◌∷◌, length}
use Rattle.std.specs.List.{AllByRecursion}
use Rattle.session.specs.declared.forms.Name.{Name}
use Rattle.session.specs.declared.forms.Name.TheVariants as N
use Rattle.session.specs.Tokens.{Lexeme, opening, closing, word_of, render}
use Rattle.session.specs.Forms.{Asked, Payload, Spells, name_bytes}
use Rattle.session.specs.Replies.{hex}

abbrev pub number_token : ℕ → Lexeme
number_token n = word_of (hex n)

-- the tokens of pairs, and the end of the form
abbrev pub pair_tokens : List (ℕ × ℕ) → List Lexeme
pair_tokens [] = closing ∷ []
pair_tokens (p ∷ pairs) = opening ∷ number_token p.0 ∷ number_token p.1 ∷ closing ∷ pair_tokens pairs

abbrev pub one_token : ℕ → List Lexeme
one_token n = number_token n ∷ closing ∷ []

abbrev pub two_tokens : ℕ × ℕ → List Lexeme
two_tokens p = number_token p.0 ∷ number_token p.1 ∷ closing ∷ []

-- what stands behind each name
abbrev pub payload_tokens : (v : Name) → Payload v → List Lexeme
payload_tokens N.CpuStore x = two_tokens x
payload_tokens N.CpuLoad x = one_token x
payload_tokens N.Mark x = one_token x
payload_tokens N.RegRead x = one_token x
payload_tokens N.RegWrite x = two_tokens x
payload_tokens N.Pci x = one_token x
payload_tokens N.Log x = closing ∷ []
payload_tokens N.LogClear x = closing ∷ []
payload_tokens N.CardRead x = two_tokens x
payload_tokens N.CardWrite x = number_token x.0 ∷ pair_tokens x.1

abbrev pub form_line : Asked → List ℕ
form_line y = render true (opening ∷ word_of (name_bytes y.0) ∷ payload_tokens y.0 y.1)

-- two numbers of so many bits
abbrev pub BothBelow : ℕ → ℕ → ℕ × ℕ → Type 0
BothBelow j k p = (p.0 < 2 ^ j) × (p.1 < 2 ^ k)

-- the numbers that a form can carry: 32 bits for a register's value, a card's PCI address and its longwords, 64 for others
abbrev pub NumbersFit : (v : Name) → Payload v → Type 0
NumbersFit N.CpuStore x = BothBelow 64 64 x
NumbersFit N.CpuLoad x = x < 2 ^ 64
NumbersFit N.Mark x = x < 2 ^ 64
NumbersFit N.RegRead x = x < 2 ^ 64
NumbersFit N.RegWrite x = BothBelow 64 32 x
NumbersFit N.Pci x = x < 2 ^ 64
NumbersFit N.Log x = Unit {0}
NumbersFit N.LogClear x = Unit {0}
NumbersFit N.CardRead x = BothBelow 32 64 x
NumbersFit N.CardWrite x = (x.0 < 2 ^ 32) × AllByRecursion (BothBelow 32 64) x.1

-- every form whose numbers fit, and whose line has at most 256 bytes, is spelled by that line
abbrev pub EachSpelled : Type 0
EachSpelled = (y : Asked) → NumbersFit y.0 y.1 → length (form_line y) ≤ 256 → Spells (form_line y) y
