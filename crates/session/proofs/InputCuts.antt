-- What the cutter gives for an input is what is kept of its lines.
use Rattle.std.proofs.Common.{◌≡◌, ℕ, Bool, true, false, cond, eqb, leb, List, [], ◌∷◌, ◌++◌, map, length, sym, refl, ap, ◌∙◌, subst, ⊎_elim, arith}
use Rattle.std.proofs.ByRecursion.{All-push}
use Rattle.std.proofs.lemmas.List.{append_assoc, append-nil, length-append}
use Rattle.std.proofs.lemmas.Bool.{cases_eq, cases_lt, cond-false, cond-true, eq-eqb, le-leb, le-ltb, lt-leb, lt-ltb, ne_eqb}
use Rattle.std.specs.List.{AllByRecursion}
use Rattle.session.specs.InputLines.{CutAtEnds, Inside, LinesOf, Step, cut_of, ended_lines, kept, last_line, line_with_end, line_without_end, lines_from, no_line, taken, too_long}

-- one byte more of a line
taken_is : (line : List ℕ) (b : ℕ) → taken (cut_of line) b ≡ cut_of (line ++ b ∷ [])
taken_is line b =
    let long = length-append line (b ∷ []) in
    ⊎_elim
    (λ l. ap (λ c. taken c b) (cond-true _ _ _ (le-leb (length line) 256 (omega arith))) ∙ cond-true _ _ _ (lt-ltb (length line) 256 l)
    ∙ sym (cond-true _ _ _ (le-leb (length (line ++ b ∷ [])) 256 (omega arith))))
    (λ g. ⊎_elim
    (λ e. ap (λ c. taken c b) (cond-true _ _ _ (le-leb (length line) 256 (omega arith))) ∙ cond-false _ _ _ (le-ltb (length line) 256 g)
    ∙ sym (cond-false _ _ _ (lt-leb (length (line ++ b ∷ [])) 256 (omega arith))))
    (λ ne. ap (λ c. taken c b) (cond-false _ _ _ (lt-leb (length line) 256 (omega arith)))
    ∙ sym (cond-false _ _ _ (lt-leb (length (line ++ b ∷ [])) 256 (omega arith))))
    (cases_eq (length line) 256))
    (cases_lt (length line) 256)

last_is : (b : ℕ) (line : List ℕ) → last_line (cut_of (b ∷ line)) ≡ cut_of (b ∷ line) ∷ []
last_is b line = go (leb (length (b ∷ line)) 256)
  where
    go : (t : Bool) → last_line (cond t (kept (b ∷ line)) too_long) ≡ cond t (kept (b ∷ line)) too_long ∷ []
    go true = refl
    go false = refl

abbrev CutsOf : List ℕ → List ℕ → Type 0
CutsOf line input = (lines : List (List ℕ)) × LinesOf (line ++ input) lines × (lines_from (cut_of line) input ≡ map cut_of lines)

cuts : (input line : List ℕ) → AllByRecursion Inside line → CutsOf line input
cuts [] [] h = ([], no_line, refl)
cuts [] (b ∷ line) h = ((b ∷ line) ∷ [], subst (λ l. LinesOf l ((b ∷ line) ∷ [])) (sym (append-nil (b ∷ line))) (line_without_end (b ∷ line) h (omega arith)), last_is b line)
cuts (b ∷ input) line h =
    ⊎_elim
    (λ e. let rest = cuts input [] tt in
    let step = cond-true (eqb b 10) _ _ (eq-eqb b 10 e) in (
      line ∷ rest.0,
      subst (λ x. LinesOf (line ++ x ∷ input) (line ∷ rest.0)) (sym e) (line_with_end line input rest.0 h rest.1),
      ap (λ (s : Step). ended_lines s.ended ++ lines_from s.held input) step ∙ ap (λ l. cut_of line ∷ l) rest.2,
    ))
    (λ ne. let rest = cuts input (line ++ b ∷ []) (All-push Inside line b h ne) in
    let step = cond-false (eqb b 10) _ _ (ne_eqb b 10 ne) in (
      rest.0,
      subst (λ l. LinesOf l rest.0) (append_assoc line (b ∷ []) input) rest.1,
      ap (λ (s : Step). ended_lines s.ended ++ lines_from s.held input) step ∙ ap (λ c. lines_from c input) (taken_is line b) ∙ rest.2,
    ))
    (cases_eq b 10)

pub cut_at_ends : CutAtEnds
cut_at_ends input = cuts input [] tt
