-- Which lines are forms, and what each form asks for.
use Rattle.std.specs.Prelude.{◌≡◌, ℕ, ◌≤◌, true, List, [], ◌∷◌, map, length, Ok, Err, vec_items, codes, Result, ◌≢◌}
use Rattle.session.specs.declared.lexer.LineError.{LineError}
use Rattle.session.specs.declared.lexer.LineError.TheVariants.{Malformed, NoMemory}
use Rattle.session.specs.declared.forms.Name.{Name}
use Rattle.session.specs.declared.forms.Name.TheVariants as N
use Rattle.session.specs.declared.forms.Pair.{Pair}
use Rattle.session.specs.declared.forms.Form.{Form}
use Rattle.session.specs.declared.forms.Form.TheVariants as F
use Rattle.session.specs.Tokens.{Lexeme, opening, closing, word_of, Lexes}
use Rattle.session.specs.Hex.{Reads}

-- how a name is written
abbrev pub name_bytes : Name → List ℕ
name_bytes N.CpuStore = codes "cpu-store"
name_bytes N.CpuLoad = codes "cpu-load"
name_bytes N.Mark = codes "mark"
name_bytes N.RegRead = codes "reg-read"
name_bytes N.RegWrite = codes "reg-write"
name_bytes N.Pci = codes "pci"
name_bytes N.Log = codes "log"
name_bytes N.LogClear = codes "log-clear"
name_bytes N.CardRead = codes "card-read"
name_bytes N.CardWrite = codes "card-write"

-- what is answered where a word is read as a name
abbrev pub Named : List ℕ → Result Name LineError → Type 0
Named w (Ok v) = w ≡ name_bytes v
Named w (Err e) = (e ≡ Malformed) × ((v : Name) → w ≢ name_bytes v)

-- what a form of each name carries; a card write's pairs are longwords, each with the number that enables its bytes
abbrev pub Payload : Name → Type 0
Payload N.CpuStore = ℕ × ℕ
Payload N.CpuLoad = ℕ
Payload N.Mark = ℕ
Payload N.RegRead = ℕ
Payload N.RegWrite = ℕ × ℕ
Payload N.Pci = ℕ
Payload N.Log = Unit {0}
Payload N.LogClear = Unit {0}
Payload N.CardRead = ℕ × ℕ
Payload N.CardWrite = ℕ × List (ℕ × ℕ)

-- what a form asks for: a name, and what a form of that name carries
abbrev pub Asked : Type 0
Asked = (v : Name) × Payload v

abbrev pub pair_of : Pair → ℕ × ℕ
pair_of p = (p.longword, p.enables)

abbrev pub asked : Form → Asked
asked (F.CpuStore address value) = (N.CpuStore, (address, value))
asked (F.CpuLoad address) = (N.CpuLoad, address)
asked (F.Mark line) = (N.Mark, line)
asked (F.RegRead register) = (N.RegRead, register)
asked (F.RegWrite register value) = (N.RegWrite, (register, value))
asked (F.Pci address) = (N.Pci, address)
asked F.Log = (N.Log, tt)
asked F.LogClear = (N.LogClear, tt)
asked (F.CardRead pci count) = (N.CardRead, (pci, count))
asked (F.CardWrite pci pairs) = (N.CardWrite, (pci, map pair_of (vec_items pairs)))

-- the tokens of a form behind its name: none but the closing parenthesis
abbrev pub Ends : List Lexeme → Type 0
Ends ts = ts ≡ closing ∷ []

-- one number
abbrev pub One : ℕ → List Lexeme → ℕ → Type 0
One j ts n = (a : List ℕ) × (ts ≡ word_of a ∷ closing ∷ []) × Reads j a n

-- two numbers
abbrev pub Two : ℕ → ℕ → List Lexeme → ℕ × ℕ → Type 0
Two j k ts p = (a : List ℕ) × (b : List ℕ) × (ts ≡ word_of a ∷ word_of b ∷ closing ∷ []) × Reads j a p.0 × Reads k b p.1

-- a pair `(longword enables)` comes first, and us is left; a longword has 32 bits
abbrev pub PairFirst : List Lexeme → ℕ × ℕ → List Lexeme → Type 0
PairFirst ts p us = (a : List ℕ) × (b : List ℕ) × (ts ≡ opening ∷ word_of a ∷ word_of b ∷ closing ∷ us) × Reads 32 a p.0 × Reads 64 b p.1

-- pairs, none or more, up to the end of the form
abbrev pub Pairs : List Lexeme → List (ℕ × ℕ) → Type 0
Pairs ts [] = Ends ts
Pairs ts (p ∷ ps) = (us : List Lexeme) × PairFirst ts p us × Pairs us ps

-- a number of 32 bits, and pairs
abbrev pub NumberAndPairs : List Lexeme → ℕ × List (ℕ × ℕ) → Type 0
NumberAndPairs ts x = (a : List ℕ) × (us : List Lexeme) × (ts ≡ word_of a ∷ us) × Reads 32 a x.0 × Pairs us x.1

-- the tokens behind each name; the value of a register and a card's PCI address have 32 bits
abbrev pub Args : (v : Name) → List Lexeme → Payload v → Type 0
Args N.CpuStore ts x = Two 64 64 ts x
Args N.CpuLoad ts x = One 64 ts x
Args N.Mark ts x = One 64 ts x
Args N.RegRead ts x = One 64 ts x
Args N.RegWrite ts x = Two 64 32 ts x
Args N.Pci ts x = One 64 ts x
Args N.Log ts x = Ends ts
Args N.LogClear ts x = Ends ts
Args N.CardRead ts x = Two 32 64 ts x
Args N.CardWrite ts x = NumberAndPairs ts x

-- the tokens are those of a form, and this is what it asks for
abbrev pub Means : List Lexeme → Asked → Type 0
Means ts y = (us : List Lexeme) × (ts ≡ opening ∷ word_of (name_bytes y.0) ∷ us) × Args y.0 us y.1

-- the line is a form, and this is what it asks for
abbrev pub Spells : List ℕ → Asked → Type 0
Spells line y = (length line ≤ 256) × (ts : List Lexeme) × Lexes true line ts × Means ts y

-- a line spells one form at most
abbrev pub Once : Type 0
Once = (line : List ℕ) (y z : Asked) → Spells line y → Spells line z → y ≡ z

-- P holds of what an Ok answers; where the answer is Malformed, P holds of nothing
abbrev pub Parsed : {A B : Type 0} → (A → B) → Result A LineError → (B → Type 0) → Type 0
Parsed view (Ok x) P = P (view x)
Parsed {B = B} view (Err Malformed) P = (y : B) → P y → ⊥
Parsed view (Err NoMemory) P = Unit {0}

-- the same of the tokens behind the name v
abbrev pub ArgsParsed : (v : Name) → List Lexeme → Result Form LineError → Type 0
ArgsParsed v ts (Ok f) = (x : Payload v) × (asked f ≡ (v, x)) × Args v ts x
ArgsParsed v ts (Err Malformed) = (x : Payload v) → Args v ts x → ⊥
ArgsParsed v ts (Err NoMemory) = Unit {0}
