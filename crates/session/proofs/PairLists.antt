-- The pairs of a card write, read one after the other.
use Rattle.std.proofs.Common.{◌≡◌, ℕ, List, [], ◌∷◌, ◌++◌, map, sym, ap, ◌∙◌, subst, append_assoc, append-nil, arith}
use Rattle.std.specs.Str.Parse.{digits_value}
use Rattle.std.proofs.lemmas.List.{map_push}
use Rattle.session.specs.declared.forms.Pair.{Pair}
use Rattle.session.specs.Tokens.{Lexeme, opening, closing, word_of}
use Rattle.session.specs.Hex.{Reads}
use Rattle.session.specs.Forms.{Ends, PairFirst, Pairs, pair_of}

pub same_number : (k : ℕ) (w v : List ℕ) (m n : ℕ) → w ≡ v → Reads k w m → Reads k v n → m ≡ n
same_number k w v m n e a b = a.2 ∙ ap (λ x. digits_value 16 x) e ∙ sym b.2

pub pair_once : (ts : List Lexeme) (p q : ℕ × ℕ) (us vs : List Lexeme) → PairFirst ts p us → PairFirst ts q vs → (p ≡ q) × (us ≡ vs)
pair_once ts p q us vs h k =
    let e = sym h.2 ∙ k.2 in
    let a : h.0 ≡ k.0 = cc in
    let b : h.1 ≡ k.1 = cc in
    let r : us ≡ vs = cc in
    ((λ i. (same_number 32 h.0 k.0 p.0 q.0 a h.3 k.3 i, same_number 64 h.1 k.1 p.1 q.1 b h.4 k.4 i)), r)

-- the pairs read so far, followed by those to come, are those of the whole
pub record PairsSoFar (whole rest : List Lexeme) (out : List Pair) : Type 0 where
  pub goes : (ps : List (ℕ × ℕ)) → Pairs rest ps → Pairs whole (map pair_of out ++ ps)
  pub back : (ps : List (ℕ × ℕ)) → Pairs whole ps → (qs : List (ℕ × ℕ)) × (ps ≡ map pair_of out ++ qs) × Pairs rest qs

grown : (out out' : List Pair) (p : Pair) → out' ≡ out ++ p ∷ [] → (qs : List (ℕ × ℕ)) → map pair_of out' ++ qs ≡ map pair_of out ++ pair_of p ∷ qs
grown out out' p e qs = ap (λ l. map pair_of l ++ qs) e ∙ ap (λ l. l ++ qs) (map_push pair_of out p) ∙ append_assoc (map pair_of out) (pair_of p ∷ []) qs

pub pairs_more : (whole rest next : List Lexeme) (out out' : List Pair) (p : Pair) → PairsSoFar whole rest out → PairFirst rest (pair_of p) next → out' ≡ out ++ p ∷ [] → PairsSoFar whole next out'
pairs_more whole rest next out out' p h k e = record {
  goes = λ ps l. subst (Pairs whole) (sym (grown out out' p e ps)) (h.goes (pair_of p ∷ ps) (next, k, l));
  back = λ ps l. let one = h.back ps l in step one.0 ps one.1 one.2;
}
  where
    step : (qs ps : List (ℕ × ℕ)) → ps ≡ map pair_of out ++ qs → Pairs rest qs → (rs : List (ℕ × ℕ)) × (ps ≡ map pair_of out' ++ rs) × Pairs next rs
    step [] ps eq l = absurd (let z = sym l ∙ k.2 in let o : ◌≡◌ {A = ℕ} 0 1 = cc in omega arith)
    step (q ∷ qs) ps eq l =
        let once = pair_once rest (pair_of p) q next l.0 k l.1 in
        (qs, eq ∙ ap (λ x. map pair_of out ++ x ∷ qs) (sym once.0) ∙ sym (grown out out' p e qs), subst (λ us. Pairs us qs) (sym once.1) l.2)

pub pairs_all : (whole rest : List Lexeme) (out : List Pair) → PairsSoFar whole rest out → Ends rest → Pairs whole (map pair_of out)
pairs_all whole rest out h e = subst (Pairs whole) (append-nil (map pair_of out)) (h.goes [] e)

-- neither the end of the form nor a pair comes next
pub pairs_fail : (whole rest : List Lexeme) (out : List Pair) → PairsSoFar whole rest out → (Ends rest → ⊥) → ((p : ℕ × ℕ) (us : List Lexeme) → PairFirst rest p us → ⊥) → (ps : List (ℕ × ℕ)) → Pairs whole ps → ⊥
pairs_fail whole rest out h end none ps l = stop (h.back ps l).0 (h.back ps l).2
  where
    stop : (qs : List (ℕ × ℕ)) → Pairs rest qs → ⊥
    stop [] k = end k
    stop (q ∷ qs) k = none q k.0 k.1

-- a pair comes next, so its words are numbers wherever the whole is pairs
pub pairs_numbers : (whole rest : List Lexeme) (out : List Pair) (a b : List ℕ) (us : List Lexeme) → PairsSoFar whole rest out → rest ≡ opening ∷ word_of a ∷ word_of b ∷ closing ∷ us → (ps : List (ℕ × ℕ)) → Pairs whole ps → (p : ℕ × ℕ) × (Reads 32 a p.0 × Reads 64 b p.1)
pairs_numbers whole rest out a b us h is ps l = next (h.back ps l).0 (h.back ps l).2
  where
    next : (qs : List (ℕ × ℕ)) → Pairs rest qs → (p : ℕ × ℕ) × (Reads 32 a p.0 × Reads 64 b p.1)
    next [] k = absurd (let z = sym k ∙ is in let o : ◌≡◌ {A = ℕ} 0 1 = cc in omega arith)
    next (q ∷ qs) (vs, k, l) =
        let e = sym k.2 ∙ is in
        let ea : k.0 ≡ a = cc in
        let eb : k.1 ≡ b = cc in
        (q, (subst (λ w. Reads 32 w q.0) ea k.3, subst (λ w. Reads 64 w q.1) eb k.4))
