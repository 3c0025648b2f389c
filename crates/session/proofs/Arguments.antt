-- The tokens that a pattern finds, and the numbers behind the name of a form.
use Rattle.std.proofs.Common.{◌≡◌, ℕ, ◌-◌, ◌≤◌, Bor, List, [], ◌∷◌, length, get_or, take, drop, IsOkAnd, IsErrAnd, Ok, Err, MatchResult, Result, sym, ap, ◌∙◌, subst, arith}
use Rattle.std.proofs.lemmas.Result.{err_from_is_err_and}
use Rattle.std.proofs.lemmas.List.{take_rest}
use Rattle.session.specs.declared.lexer.LineError.{LineError}
use Rattle.session.specs.declared.lexer.LineError.TheVariants.{Malformed, NoMemory}
use Rattle.session.specs.declared.lexer.Token.{Token}
use Rattle.session.specs.declared.lexer.Token.TheVariants.{Open, Close, Word}
use Rattle.session.specs.declared.forms.Name.{Name}
use Rattle.session.specs.declared.forms.Form.{Form}
use Rattle.session.specs.Tokens.{Lexeme, opening, closing, word_of, lexeme, lexemes}
use Rattle.session.specs.Forms.{Parsed, Payload, Args, ArgsParsed, Asked, asked}

-- a word comes first
pub word_ahead : (ts : List Token) (d : Token) (w : Bor (List ℕ)) (o : ℕ) → 1 ≤ length ts → get_or ts 0 d ≡ Word w o → lexemes ts ≡ word_of w.now ∷ lexemes (take (length ts - 1) (drop 1 ts))
word_ahead [] d w o le e = absurd (omega arith)
word_ahead (t ∷ ts) d w o le e = λ i. lexeme (e i) ∷ lexemes (sym (take_rest (t ∷ ts) 1) i)

-- an opening parenthesis and a word
pub name_ahead : (ts : List Token) (d : Token) (w : Bor (List ℕ)) (o p : ℕ) → 2 ≤ length ts → get_or ts 0 d ≡ Open o → get_or ts 1 d ≡ Word w p → lexemes ts ≡ opening ∷ word_of w.now ∷ lexemes (take (length ts - 2) (drop 2 ts))
name_ahead [] d w o p le e f = absurd (omega arith)
name_ahead (t ∷ []) d w o p le e f = absurd (omega arith)
name_ahead (t ∷ u ∷ ts) d w o p le e f = λ i. lexeme (e i) ∷ lexeme (f i) ∷ lexemes (sym (take_rest (t ∷ u ∷ ts) 2) i)

-- a pair
pub pair_ahead : (ts : List Token) (d : Token) (v w : Bor (List ℕ)) (o p q r : ℕ) → 4 ≤ length ts → get_or ts 0 d ≡ Open o → get_or ts 1 d ≡ Word v p → get_or ts 2 d ≡ Word w q → get_or ts 3 d ≡ Close r → lexemes ts ≡ opening ∷ word_of v.now ∷ word_of w.now ∷ closing ∷ lexemes (take (length ts - 4) (drop 4 ts))
pair_ahead [] d v w o p q r le e f g h = absurd (omega arith)
pair_ahead (t ∷ []) d v w o p q r le e f g h = absurd (omega arith)
pair_ahead (t ∷ u ∷ []) d v w o p q r le e f g h = absurd (omega arith)
pair_ahead (t ∷ u ∷ x ∷ []) d v w o p q r le e f g h = absurd (omega arith)
pair_ahead (t ∷ u ∷ x ∷ y ∷ ts) d v w o p q r le e f g h = λ i. lexeme (e i) ∷ lexeme (f i) ∷ lexeme (g i) ∷ lexeme (h i) ∷ lexemes (sym (take_rest (t ∷ u ∷ x ∷ y ∷ ts) 4) i)

-- the error of a callee is passed on by `?`
pub parsed_break : {A B C D : Type 0} (f : A → B) (g : C → D) (P : B → Type 0) (Q : D → Type 0) (r : Result C LineError) (e : LineError) → IsErrAnd r (λ x. x ≡ e) → Parsed f (Err e) P → ((y : D) → Q y → (x : B) × P x) → Parsed g r Q
parsed_break f g P Q r Malformed by h back = let p = err_from_is_err_and r by in subst (λ x. Parsed g x Q) (sym (p.1 ∙ ap Err p.2)) (λ y q. h (back y q).0 (back y q).1)
parsed_break f g P Q r NoMemory by h back = let p = err_from_is_err_and r by in subst (λ x. Parsed g x Q) (sym (p.1 ∙ ap Err p.2)) tt

args_ok : (n v : Name) (ts : List Lexeme) (y : Asked) (x : Payload v) → n ≡ v → y ≡ (v, x) → Args v ts x → (z : Payload n) × (y ≡ (n, z)) × Args n ts z
args_ok n v ts y x is c a = subst (λ m. (z : Payload m) × (y ≡ (m, z)) × Args m ts z) (sym is) (x, c, a)

-- in the arm of the name v: what is read is what a form of that name carries
pub arm : (n v : Name) (ts : List Lexeme) (Makes : Payload v → Form → Type 0) (read : Result (Payload v) LineError) (r : Result Form LineError) → n ≡ v → MatchResult read (λ x. IsOkAnd r (Makes x)) (λ e. r ≡ Err e) → Parsed (λ x. x) read (Args v ts) → ((x : Payload v) (f : Form) → Makes x f → asked f ≡ (v, x)) → ArgsParsed n ts r
arm n v ts Makes (Ok x) (Ok f) is m h makes = args_ok n v ts (asked f) x is (makes x f m) h
arm n v ts Makes (Ok x) (Err e) is m h makes = absurd m
arm n v ts Makes (Err Malformed) r is m h makes = subst (ArgsParsed n ts) (sym m) (subst (λ u. ArgsParsed u ts (Err Malformed)) (sym is) h)
arm n v ts Makes (Err NoMemory) r is m h makes = subst (ArgsParsed n ts) (sym m) tt
