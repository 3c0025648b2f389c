-- The steps by which a line is cut into tokens.
use Rattle.std.proofs.Common.{◌≡◌, ℕ, ◌+◌, ◌<◌, ◌≤◌, Bool, true, false, List, [], ◌∷◌, ◌++◌, length, get_or, take, drop, sym, refl, ap, ◌∙◌, subst, append-nil, arith, length-append, length-drop}
use Rattle.std.proofs.lemmas.Bool.{both_ways}
use Rattle.std.proofs.lemmas.List.{append_cancel_left, drop-drop, take-append-drop, length-take-le}
use Rattle.session.specs.declared.lexer.Token.{Token}
use Rattle.session.specs.Tokens.{Lexeme, opening, closing, word_of, word_byte, WordBytes, Valid, space, gap, spelling, is_opening, lexeme, lexemes, offset, render, Lexes, Placed}
use Rattle.session.specs.Steps.{WordEnds, Whole, Step}

head_is : {x y : ℕ} {xs ys : List ℕ} → x ∷ xs ≡ y ∷ ys → x ≡ y
head_is e = ap (λ l. get_or l 0 0) e

tail_is : {x y : ℕ} {xs ys : List ℕ} → x ∷ xs ≡ y ∷ ys → xs ≡ ys
tail_is e = ap (λ l. drop 1 l) e

-- no byte of a word comes where a word ends
stops_at : (r : List ℕ) (c : ℕ) (v : List ℕ) → WordEnds r → r ≡ c ∷ v → word_byte c ≡ true → ⊥
stops_at [] c v s e p = let z : ◌≡◌ {A = ℕ} 0 1 = cc in omega arith
stops_at (x ∷ r) c v s e p = both_ways (word_byte c) (subst (λ y. word_byte y ≡ false) (head_is e) s) p

-- two words that come first, each with all its bytes, are the same
span_unique : (w v r s : List ℕ) → WordBytes w → WordBytes v → WordEnds r → WordEnds s → w ++ r ≡ v ++ s → (w ≡ v) × (r ≡ s)
span_unique [] [] r s pw pv sr ss e = (refl, e)
span_unique [] (c ∷ v) r s pw pv sr ss e = absurd (stops_at r c (v ++ s) sr e pv.0)
span_unique (c ∷ w) [] r s pw pv sr ss e = absurd (stops_at s c (w ++ r) ss (sym e) pw.0)
span_unique (c ∷ w) (d ∷ v) r s pw pv sr ss e =
    let h = head_is e in
    let t = span_unique w v r s pw.1 pv.1 sr ss (tail_is e) in
    let t0 = t.0 in
    ((cc), t.1)

-- a word is no parenthesis
not_word : (w : List ℕ) (b : ℕ) (r s : List ℕ) → word_byte b ≡ false → 0 < length w → WordBytes w → w ++ r ≡ b ∷ s → ⊥
not_word [] b r s n l p e = omega arith
not_word (c ∷ w) b r s n l p e = both_ways (word_byte c) (subst (λ y. word_byte y ≡ false) (sym (head_is e)) n) p.0

spaced : (first : Bool) (r s : List ℕ) (b : ℕ) → (b ≡ 41 → ⊥) → space first ++ b ∷ r ≡ 41 ∷ s → ⊥
spaced true r s b n e = n (head_is e)
spaced false r s b n e = let z = head_is e in omega arith

spaced_word : (first : Bool) (w r s : List ℕ) → 0 < length w → WordBytes w → space first ++ (w ++ r) ≡ 41 ∷ s → ⊥
spaced_word true w r s l p e = not_word w 41 r s refl l p e
spaced_word false w r s l p e = let z = head_is e in omega arith

pub unique : (first : Bool) (bs : List ℕ) (t u : Lexeme) (r s : List ℕ) → Step first bs t r → Step first bs u s → (t ≡ u) × (r ≡ s)
unique first bs opening opening r s a b =
    (refl, tail_is (append_cancel_left (space first) (40 ∷ r) (40 ∷ s) (sym a.split ∙ b.split)))
unique first bs opening closing r s a b = absurd (spaced first r s 40 (λ z. omega arith) (sym a.split ∙ b.split))
unique first bs opening (word_of w) r s a b =
    absurd (not_word w 40 s r refl b.valid.0 b.valid.1 (sym (append_cancel_left (space first) (40 ∷ r) (w ++ s) (sym a.split ∙ b.split))))
unique first bs closing opening r s a b = absurd (spaced first s r 40 (λ z. omega arith) (sym b.split ∙ a.split))
unique first bs closing closing r s a b = (refl, tail_is (sym a.split ∙ b.split))
unique first bs closing (word_of w) r s a b = absurd (spaced_word first w s r b.valid.0 b.valid.1 (sym b.split ∙ a.split))
unique first bs (word_of w) opening r s a b =
    absurd (not_word w 40 r s refl a.valid.0 a.valid.1 (append_cancel_left (space first) (w ++ r) (40 ∷ s) (sym a.split ∙ b.split)))
unique first bs (word_of w) closing r s a b = absurd (spaced_word first w r s a.valid.0 a.valid.1 (sym a.split ∙ b.split))
unique first bs (word_of w) (word_of v) r s a b =
    let h = span_unique w v r s a.valid.1 b.valid.1 a.whole b.whole (append_cancel_left (space first) (w ++ r) (v ++ s) (sym a.split ∙ b.split)) in
    (ap word_of h.0, h.1)

-- a word ends where the next token comes
behind : (ts : List Lexeme) → WordEnds (render false ts)
behind [] = tt
behind (opening ∷ ts) = refl
behind (closing ∷ ts) = refl
behind (word_of w ∷ ts) = refl

ends_behind : (t : Lexeme) (ts : List Lexeme) → Whole t (render (is_opening t) ts)
ends_behind opening ts = tt
ends_behind closing ts = tt
ends_behind (word_of w) ts = behind ts

first_step : (first : Bool) (bs : List ℕ) (t : Lexeme) (ts : List Lexeme) → Lexes first bs (t ∷ ts) → Step first bs t (render (is_opening t) ts)
first_step first bs t ts l = record { split = l.bytes; valid = l.valid.0; whole = ends_behind t ts }

some_bytes : (first : Bool) (t : Lexeme) (rest : List ℕ) → Valid t → gap first t ++ (spelling t ++ rest) ≡ [] → ⊥
some_bytes first opening rest s e = omega (arith, simp length-append at (ap length e))
some_bytes first closing rest s e = omega (arith, simp length-append at (ap length e))
some_bytes first (word_of w) rest s e = let l : 0 < length w = s.0 in omega (arith, simp length-append at (ap length e))

pub step_on : (first : Bool) (bs : List ℕ) (t : Lexeme) (rest : List ℕ) (us : List Lexeme) → Step first bs t rest → Lexes (is_opening t) rest us → Lexes first bs (t ∷ us)
step_on first bs t rest us s l = record { bytes = s.split ∙ ap (λ r. gap first t ++ (spelling t ++ r)) l.bytes; valid = (s.valid, l.valid) }

pub step_back : (first : Bool) (bs : List ℕ) (t : Lexeme) (rest : List ℕ) (us : List Lexeme) → Step first bs t rest → Lexes first bs us → (vs : List Lexeme) × (us ≡ t ∷ vs) × Lexes (is_opening t) rest vs
step_back first bs t rest [] s l = absurd (some_bytes first t rest s.valid (sym s.split ∙ l.bytes))
step_back first bs t rest (u ∷ us) s l =
    let one = unique first bs t u rest (render (is_opening u) us) s (first_step first bs u us l) in
    let same = one.0 in
    (us, (cc), subst (λ x. Lexes (is_opening x) rest us) (sym same) (record { bytes = one.1; valid = l.valid.1 }))

-- whether what comes after the tokens is first, and where it stands
abbrev pub next_first : Bool → List Token → Bool
next_first first [] = first
next_first first (t ∷ ts) = next_first (is_opening (lexeme t)) ts

abbrev pub next_at : ℕ → Bool → List Token → ℕ
next_at at first [] = at
next_at at first (t ∷ ts) = next_at (at + length (gap first (lexeme t)) + length (spelling (lexeme t))) (is_opening (lexeme t)) ts

pub record SoFar (line : List ℕ) (ts : List Token) (at : ℕ) (first : Bool) : Type 0 where
  pub placed : Placed 0 true ts
  pub here : at ≡ next_at 0 true ts
  pub first_here : first ≡ next_first true ts
  pub goes : (us : List Lexeme) → Lexes first (drop at line) us → Lexes true line (lexemes ts ++ us)
  pub back : (us : List Lexeme) → Lexes true line us → (vs : List Lexeme) × (us ≡ lexemes ts ++ vs) × Lexes first (drop at line) vs

placed_push : (ts : List Token) (at : ℕ) (first : Bool) (t : Token) → Placed at first ts → offset t ≡ next_at at first ts + length (gap (next_first first ts) (lexeme t)) → Placed at first (ts ++ t ∷ [])
placed_push [] at first t p e = (e, tt)
placed_push (x ∷ ts) at first t p e = (p.0, placed_push ts _ _ t p.1 e)

next_at_push : (ts : List Token) (at : ℕ) (first : Bool) (t : Token) → next_at at first (ts ++ t ∷ []) ≡ next_at at first ts + length (gap (next_first first ts) (lexeme t)) + length (spelling (lexeme t))
next_at_push [] at first t = refl
next_at_push (x ∷ ts) at first t = next_at_push ts _ _ t

next_first_push : (ts : List Token) (first : Bool) (t : Token) → next_first first (ts ++ t ∷ []) ≡ is_opening (lexeme t)
next_first_push [] first t = refl
next_first_push (x ∷ ts) first t = next_first_push ts _ t

lexemes_push : (ts : List Token) (t : Token) (us : List Lexeme) → lexemes (ts ++ t ∷ []) ++ us ≡ lexemes ts ++ lexeme t ∷ us
lexemes_push [] t us = refl
lexemes_push (x ∷ ts) t us = ap (λ l. lexeme x ∷ l) (lexemes_push ts t us)

pub one_more : (line : List ℕ) (ts : List Token) (at : ℕ) (first : Bool) (t : Token) (next : ℕ) → SoFar line ts at first → Step first (drop at line) (lexeme t) (drop next line) → offset t ≡ at + length (gap first (lexeme t)) → next ≡ offset t + length (spelling (lexeme t)) → SoFar line (ts ++ t ∷ []) next (is_opening (lexeme t))
one_more line ts at first t next h s o n =
    let place : offset t ≡ next_at 0 true ts + length (gap (next_first true ts) (lexeme t)) = o ∙ (λ i. h.here i + length (gap (h.first_here i) (lexeme t))) in
    record {
      placed = placed_push ts 0 true t h.placed place;
      here = n ∙ ap (λ m. m + length (spelling (lexeme t))) place ∙ sym (next_at_push ts 0 true t);
      first_here = sym (next_first_push ts true t);
      goes = λ us l. subst (Lexes true line) (sym (lexemes_push ts t us)) (h.goes (lexeme t ∷ us) (step_on first (drop at line) (lexeme t) (drop next line) us s l));
      back = λ us l.
          let one = h.back us l in
          let two = step_back first (drop at line) (lexeme t) (drop next line) one.0 s one.2 in
          (two.0, one.1 ∙ ap (λ x. lexemes ts ++ x) two.1 ∙ sym (lexemes_push ts t two.0), two.2);
    }

-- the same with names for what the loop holds after the turn
pub goes_on : (line : List ℕ) (ts ts' : List Token) (at : ℕ) (first first' : Bool) (t : Token) (next : ℕ) → SoFar line ts at first → Step first (drop at line) (lexeme t) (drop next line) → offset t ≡ at + length (gap first (lexeme t)) → next ≡ offset t + length (spelling (lexeme t)) → ts' ≡ ts ++ t ∷ [] → first' ≡ is_opening (lexeme t) → SoFar line ts' next first'
goes_on line ts ts' at first first' t next h s o n e g =
    subst (λ x. SoFar line ts' next x) (sym g) (subst (λ l. SoFar line l next (is_opening (lexeme t))) (sym e) (one_more line ts at first t next h s o n))

pub done : (line : List ℕ) (ts : List Token) (at : ℕ) (first : Bool) → SoFar line ts at first → drop at line ≡ [] → Lexes true line (lexemes ts)
done line ts at first h e = subst (Lexes true line) (append-nil (lexemes ts)) (h.goes [] (record { bytes = e; valid = tt }))

-- nothing comes next, though bytes are left
pub fails : (line : List ℕ) (ts : List Token) (at : ℕ) (first : Bool) → SoFar line ts at first → 0 < length (drop at line) → ((t : Lexeme) (rest : List ℕ) → Step first (drop at line) t rest → ⊥) → (us : List Lexeme) → Lexes true line us → ⊥
fails line ts at first h some none us l = stops (h.back us l).0 (h.back us l).2
  where
    stops : (vs : List Lexeme) → Lexes first (drop at line) vs → ⊥
    stops [] k = omega (arith, ap length k.bytes)
    stops (v ∷ vs) k = none v _ (first_step first (drop at line) v vs k)

pub word_step : (first : Bool) (bs line : List ℕ) (s n : ℕ) → bs ≡ space first ++ drop s line → 0 < n → s + n ≤ length line → WordBytes (take n (drop s line)) → WordEnds (drop (s + n) line) → Step first bs (word_of (take n (drop s line))) (drop (s + n) line)
word_step first bs line s n e some fits all st =
    let long : length (take n (drop s line)) ≡ n = length-take-le n (drop s line) (simp length-drop (omega arith)) in
    record {
      split = e ∙ ap (λ l. space first ++ l) (sym (take-append-drop n (drop s line)) ∙ ap (λ l. take n (drop s line) ++ l) (drop-drop n s line));
      valid = (omega arith, all);
      whole = st;
    }

-- a line has one list of tokens
pub lexes_once : (ts us : List Lexeme) (first : Bool) (bs : List ℕ) → Lexes first bs ts → Lexes first bs us → ts ≡ us
lexes_once [] [] first bs l k = refl
lexes_once [] (u ∷ us) first bs l k = absurd (some_bytes first u (render (is_opening u) us) k.valid.0 (sym k.bytes ∙ l.bytes))
lexes_once (t ∷ ts) us first bs l k =
    let one = step_back first bs t (render (is_opening t) ts) us (first_step first bs t ts l) k in
    ap (λ x. t ∷ x) (lexes_once ts one.0 (is_opening t) (render (is_opening t) ts) (record { bytes = refl; valid = l.valid.1 }) one.2) ∙ sym one.1
