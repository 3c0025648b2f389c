-- A line spells one form at most.
use Rattle.std.proofs.Common.{◌≡◌, ℕ, true, List, [], ◌∷◌, sym, refl, ap, ◌∙◌, subst, arith}
use Rattle.session.specs.declared.forms.Name.{Name}
use Rattle.session.specs.declared.forms.Name.TheVariants as N
use Rattle.session.specs.Tokens.{Lexeme}
use Rattle.session.specs.Forms.{NumberAndPairs, One, Pairs, Two, Payload, Args, Means, Once}
use Rattle.session.proofs.Lexing.{lexes_once}
use Rattle.session.proofs.Lines.{only}
use Rattle.session.proofs.PairLists.{pair_once, same_number}

one_once : (j : ℕ) (ts : List Lexeme) (x y : ℕ) → One j ts x → One j ts y → x ≡ y
one_once j ts x y h k = let z = sym h.1 ∙ k.1 in let a : h.0 ≡ k.0 = cc in same_number j h.0 k.0 x y a h.2 k.2

two_once : (j l : ℕ) (ts : List Lexeme) (x y : ℕ × ℕ) → Two j l ts x → Two j l ts y → x ≡ y
two_once j l ts x y h k =
    let z = sym h.2 ∙ k.2 in
    let a : h.0 ≡ k.0 = cc in
    let b : h.1 ≡ k.1 = cc in
    λ i. (same_number j h.0 k.0 x.0 y.0 a h.3 k.3 i, same_number l h.1 k.1 x.1 y.1 b h.4 k.4 i)

pairs_once : (ps qs : List (ℕ × ℕ)) (ts : List Lexeme) → Pairs ts ps → Pairs ts qs → ps ≡ qs
pairs_once [] [] ts h k = refl
pairs_once [] (q ∷ qs) ts h k = absurd (let e = sym h ∙ k.1.2 in let z : ◌≡◌ {A = ℕ} 0 1 = cc in omega arith)
pairs_once (p ∷ ps) [] ts h k = absurd (let e = sym k ∙ h.1.2 in let z : ◌≡◌ {A = ℕ} 0 1 = cc in omega arith)
pairs_once (p ∷ ps) (q ∷ qs) ts h k =
    let one = pair_once ts p q h.0 k.0 h.1 k.1 in
    λ i. one.0 i ∷ pairs_once ps qs h.0 h.2 (subst (λ us. Pairs us qs) (sym one.1) k.2) i

number_and_pairs_once : (ts : List Lexeme) (x y : ℕ × List (ℕ × ℕ)) → NumberAndPairs ts x → NumberAndPairs ts y → x ≡ y
number_and_pairs_once ts x y h k =
    let z = sym h.2 ∙ k.2 in
    let a : h.0 ≡ k.0 = cc in
    let r : h.1 ≡ k.1 = cc in
    λ i. (same_number 32 h.0 k.0 x.0 y.0 a h.3 k.3 i, pairs_once x.1 y.1 k.1 (subst (λ us. Pairs us x.1) r h.4) k.4 i)

args_once : (v : Name) (ts : List Lexeme) (x y : Payload v) → Args v ts x → Args v ts y → x ≡ y
args_once N.CpuStore ts x y h k = two_once 64 64 ts x y h k
args_once N.CpuLoad ts x y h k = one_once 64 ts x y h k
args_once N.Mark ts x y h k = one_once 64 ts x y h k
args_once N.RegRead ts x y h k = one_once 64 ts x y h k
args_once N.RegWrite ts x y h k = two_once 64 32 ts x y h k
args_once N.Pci ts x y h k = one_once 64 ts x y h k
args_once N.Log ts x y h k = refl
args_once N.LogClear ts x y h k = refl
args_once N.CardRead ts x y h k = two_once 32 64 ts x y h k
args_once N.CardWrite ts x y h k = number_and_pairs_once ts x y h k

pub once : Once
once line y z sy sz =
    let same = lexes_once sy.1 sz.1 true line sy.2 sz.2 in
    let m = subst (λ ts. Means ts y) same sy.3 in
    let o = only sz.1 sz.3.0 z.0 sz.3.1 y m in
    o.1 ∙ ap (λ q. (z.0, q)) (args_once z.0 sz.3.0 o.0 z.1 o.2 sz.3.2)
