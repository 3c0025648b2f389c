-- From the tokens behind a name to the form, and from the tokens of a line to the line.
use Rattle.std.proofs.Common.{◌≡◌, ℕ, ◌≤◌, true, cond, List, ◌∷◌, length, Ok, Err, codes, Result, sym, refl, ap, ◌∙◌, subst}
use Rattle.std.specs.Str.{bytes_eq}
use Rattle.session.specs.declared.lexer.LineError.{LineError}
use Rattle.session.specs.declared.lexer.LineError.TheVariants.{Malformed, NoMemory}
use Rattle.session.specs.declared.forms.Name.{Name}
use Rattle.session.specs.declared.forms.Name.TheVariants as N
use Rattle.session.specs.declared.forms.Form.{Form}
use Rattle.session.specs.Tokens.{Lexeme, opening, word_of, Lexes}
use Rattle.session.specs.Forms.{name_bytes, Payload, Args, ArgsParsed, Asked, asked, Means, Spells, Parsed}
use Rattle.session.proofs.Lexing.{lexes_once}

-- a name is known by its bytes
abbrev named : List ℕ → Name
named w =
    cond (bytes_eq w (codes "cpu-store")) N.CpuStore
    (cond (bytes_eq w (codes "cpu-load")) N.CpuLoad
    (cond (bytes_eq w (codes "mark")) N.Mark
    (cond (bytes_eq w (codes "reg-read")) N.RegRead
    (cond (bytes_eq w (codes "reg-write")) N.RegWrite
    (cond (bytes_eq w (codes "pci")) N.Pci
    (cond (bytes_eq w (codes "log")) N.Log
    (cond (bytes_eq w (codes "log-clear")) N.LogClear
    (cond (bytes_eq w (codes "card-read")) N.CardRead N.CardWrite))))))))

named_back : (v : Name) → named (name_bytes v) ≡ v
named_back N.CpuStore = refl
named_back N.CpuLoad = refl
named_back N.Mark = refl
named_back N.RegRead = refl
named_back N.RegWrite = refl
named_back N.Pci = refl
named_back N.Log = refl
named_back N.LogClear = refl
named_back N.CardRead = refl
named_back N.CardWrite = refl

same_name : (v w : Name) → name_bytes v ≡ name_bytes w → v ≡ w
same_name v w e = sym (named_back v) ∙ ap named e ∙ named_back w

-- with the name v known, only forms of that name are left
pub only : (ts us : List Lexeme) (v : Name) → ts ≡ opening ∷ word_of (name_bytes v) ∷ us → (y : Asked) → Means ts y → (x : Payload v) × (y ≡ (v, x)) × Args v us x
only ts us v e (w, x) (vs, is, a) =
    let z = sym is ∙ e in
    let n : name_bytes w ≡ name_bytes v = cc in
    let r : vs ≡ us = cc in
    subst (λ u. (q : Payload u) × (◌≡◌ {A = Asked} (w, x) (u, q)) × Args u us q) (same_name w v n) (x, refl, subst (λ l. Args w l x) r a)

pub form_parsed : (ts us : List Lexeme) (v : Name) (r : Result Form LineError) → ts ≡ opening ∷ word_of (name_bytes v) ∷ us → ArgsParsed v us r → Parsed asked r (Means ts)
form_parsed ts us v (Ok f) e h = subst (Means ts) (sym h.1) (us, e, h.2)
form_parsed ts us v (Err Malformed) e h = λ y m. let o = only ts us v e y m in h o.0 o.2
form_parsed ts us v (Err NoMemory) e h = tt

pub line_parsed : (line : List ℕ) (ts : List Lexeme) (r : Result Form LineError) → length line ≤ 256 → Lexes true line ts → Parsed asked r (Means ts) → Parsed asked r (Spells line)
line_parsed line ts (Ok f) n l h = (n, ts, l, h)
line_parsed line ts (Err Malformed) n l h = λ y s. h y (subst (λ us. Means us y) (lexes_once s.1 ts true line s.2 l) s.3)
line_parsed line ts (Err NoMemory) n l h = tt
