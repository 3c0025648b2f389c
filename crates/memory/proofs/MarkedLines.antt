-- What the lines hold under marks after a mark and after a full write.
use Rattle.std.proofs.Common.{◌≡◌, ℕ, Bool, true, false, cond, not, ◌&&◌, eqb, List, [], ◌∷◌, ◌++◌, length, sym, refl, ap, ◌∙◌, ⊎_elim}
use mathlib.Core.Path.{fun_ext}
use Rattle.std.proofs.Math.Bool.{and-true}
use Rattle.std.proofs.lemmas.Bool.{and_right, cases_eq, cond-false, cond-true, eq-eqb, false≢true, ne_eqb, or_left}
use Rattle.memory.specs.declared.marks.Mark.{Mark}
use Rattle.memory.specs.Answers.{success}
use Rattle.memory.specs.Content.{Content, Lines, absent, all_ones, good, is_present, overwritten, spoiled, written}
use Rattle.memory.specs.Marked.{lines_marked, marked, spoil, under_marks}
use Rattle.memory.specs.LinesAt.{merged_full}
use Rattle.memory.proofs.MarkLists.{marked_push}

-- a full write does not see what the line held
full_over : (bytes : List ℕ) (mask : ℕ) → length bytes ≡ 32 → mask ≡ all_ones → (b : Bool) (c : Content) → overwritten bytes mask c ≡ overwritten bytes mask (cond b (spoil c) c)
full_over bytes mask l full true absent = refl
full_over bytes mask l full true spoiled = refl
full_over bytes mask l full true (good old) = rw full (ap good (sym (merged_full old bytes l)))
full_over bytes mask l full false c = refl

spoil_present : (c : Content) → is_present c ≡ true → spoil c ≡ spoiled
spoil_present absent h = absurd (false≢true h)
spoil_present spoiled h = refl
spoil_present (good bytes) h = refl

pub full_write : (marks after : List Mark) (below wrote : Lines) (line mask : ℕ) (bytes : List ℕ) → length bytes ≡ 32 → mask ≡ all_ones → wrote ≡ written line bytes mask below → ((k : ℕ) → marked after k ≡ (marked marks k && not (eqb k line))) → under_marks after wrote ≡ written line bytes mask (under_marks marks below)
full_write marks after below wrote line mask bytes l full w goes = fun_ext (λ k.
    let here = ap (λ lines. lines k) w in
    ⊎_elim
    (λ e. let t = eq-eqb k line e in
    cond-false _ _ _ (goes k ∙ and_right _ _ (ap not t)) ∙ here ∙ cond-true _ _ _ t ∙ full_over bytes mask l full (marked marks k) (below k) ∙ sym (cond-true _ _ _ t))
    (λ ne. rw (goes k, here, ne_eqb k line ne, and-true))
    (cases_eq k line))

pub mark_after : (marks after : List Mark) (m : Mark) (below : Lines) → after ≡ marks ++ m ∷ [] → is_present (below m.line) ≡ true → under_marks after below ≡ lines_marked (success []) m.line (under_marks marks below)
mark_after marks after m below e p = fun_ext (λ k.
    let more = ap (λ xs. marked xs k) e ∙ marked_push marks m k in
    ⊎_elim
    (λ s. cond-true _ _ _ (more ∙ or_left _ _ (eq-eqb m.line k (sym s))) ∙ spoil_present (below k) (ap (λ i. is_present (below i)) s ∙ p) ∙ sym (cond-true _ _ _ (eq-eqb k m.line s)))
    (λ ne. rw (more, ne_eqb m.line k (λ s. ne (sym s)), ne_eqb k m.line ne))
    (cases_eq k m.line))
