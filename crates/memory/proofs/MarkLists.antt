-- Lists of marks: what the search for one finds, one more, one less.
use Rattle.std.proofs.Common.{◌≡◌, ◌≢◌, ℕ, zero, suc, ◌<◌, ◌/◌, ◌%◌, Bool, set, true, false, not, ◌&&◌, ◌||◌, eqb, get_or, List, [], ◌∷◌, ◌++◌, length, is_some, Some, None, Option, sym, refl, ap, ◌∙◌, ⊎_elim, arith}
use Rattle.std.specs.List.{remove}
use Rattle.std.proofs.lemmas.List.{get_or-set_other, get_or-set_same}
use Rattle.std.proofs.lemmas.Bool.{and_parts, cases_eq, cond-true, cond-false, cases_Bool, false≢true, eq-eqb, eqb-true, ne_eqb}
use Rattle.std.proofs.lemmas.Bool.Decides.{nat_tests}
use Rattle.std.proofs.lemmas.List.Folds.{list_any-append, list_any_at}
use Rattle.std.proofs.lemmas.List.Quantifiers.{all_pairs_push}
use Rattle.std.proofs.lemmas.List.Recursion.{or_from_places}
use Rattle.memory.specs.declared.marks.Mark.{Mark}
use Rattle.memory.specs.Marked.{AllHinted, Distinct, marked, without}
use Rattle.memory.specs.Rows.{Finds}

abbrev At : ℕ → Mark → Bool
At line m = eqb m.line line

unmarked_from : (marks : List Mark) (line : ℕ) → ((k : ℕ) → k < length marks → eqb (get_or marks k (record { line = 0 })).line line ≡ false) → marked marks line ≡ false
unmarked_from marks line h = or_from_places (λ xs. marked xs line) (At line) refl (λ _ _. refl) marks (record { line = 0 }) h

-- what the search for a mark tells
pub marked_is : (marks : List Mark) (line : ℕ) (o : Option ℕ) → Finds (At line) marks o → is_some o ≡ marked marks line
marked_is marks line None f = sym (unmarked_from marks line (λ k h. f k _ (omega arith) h))
marked_is marks line (Some i) f = sym (list_any_at (At line) marks i (record { line = 0 }) f.0 (f.1 _))

pub marked_push : (marks : List Mark) (m : Mark) (line : ℕ) → marked (marks ++ m ∷ []) line ≡ (eqb m.line line || marked marks line)
marked_push marks m line = list_any-append (At line) marks (m ∷ []) ∙ grind (arith, nat_tests)

pub distinct_push : (marks : List Mark) (m : Mark) → Distinct marks → marked marks m.line ≡ false → Distinct (marks ++ m ∷ [])
distinct_push marks m d none =
    all_pairs_push (λ a b. a.line ≢ b.line) marks m d
    (λ k e h same. false≢true (sym none ∙ list_any_at (At m.line) marks k e h (eq-eqb _ _ same)))

-- what the search found is what is left out
pub removed_is : (marks : List Mark) (i line : ℕ) → Finds (At line) marks (Some i) → remove marks i ≡ without marks line
removed_is [] i line f = absurd (omega (arith, f.0))
removed_is (x ∷ marks) zero line f = sym (cond-true _ _ _ (f.1 x))
removed_is (x ∷ marks) (suc i) line f =
    ap (λ xs. x ∷ xs) (removed_is marks i line (omega (arith, f.0), f.1, λ j e l s. f.2 (suc j) e (omega arith) (omega arith)))
    ∙ sym (cond-false _ _ _ (f.2 0 x (omega arith) (omega arith)))

pub without_none : (marks : List Mark) (line : ℕ) → Finds (At line) marks None → marks ≡ without marks line
without_none [] line f = refl
without_none (x ∷ marks) line f =
    ap (λ xs. x ∷ xs) (without_none marks line (λ k d l h. f (suc k) d (omega arith) (omega arith)))
    ∙ sym (cond-false _ _ _ (f 0 x (omega arith) (omega arith)))

-- the mark of the line goes, and each other one stays
head_goes : (a k line : ℕ) (m : Bool) → eqb a line ≡ true → (k ≡ line → m ≡ false) → m ≡ ((eqb a k || m) && not (eqb k line))
head_goes a k line true h z = grind (arith, nat_tests)
head_goes a k line false h z = grind (arith, nat_tests)

head_stays : (a k line : ℕ) (m : Bool) → eqb a line ≡ false → (eqb a k || (m && not (eqb k line))) ≡ ((eqb a k || m) && not (eqb k line))
head_stays a k line true h = grind (arith, nat_tests)
head_stays a k line false h = grind (arith, nat_tests)

pub alone : (m : Mark) (marks : List Mark) → Distinct (m ∷ marks) → marked marks m.line ≡ false
alone m marks d = unmarked_from marks m.line (λ i h. ne_eqb _ _ (λ e. d 0 (suc i) _ (omega arith) (omega arith) (sym e)))

pub unmarked : (marks : List Mark) (line : ℕ) → Distinct marks → (k : ℕ) → marked (without marks line) k ≡ (marked marks k && not (eqb k line))
unmarked [] line d k = refl
unmarked (x ∷ marks) line d k =
    ⊎_elim
    (λ t. ap (λ xs. marked xs k) (cond-true (eqb x.line line) marks (x ∷ without marks line) t)
    ∙ head_goes x.line k line (marked marks k) t (λ e. ap (marked marks) (e ∙ sym (eqb-true _ _ t)) ∙ alone x marks d))
    (λ t. ap (λ xs. marked xs k) (cond-false (eqb x.line line) marks (x ∷ without marks line) t)
    ∙ ap (λ b. eqb x.line k || b) (unmarked marks line (λ i j e g h. d (suc i) (suc j) e (omega arith) (omega arith)) k)
    ∙ head_stays x.line k line (marked marks k) t)
    (cases_Bool (eqb x.line line))

-- what holds of each marked line also holds after one more of which it holds, and after one less
pub each_push : (marks : List Mark) (m : Mark) (p : ℕ → Bool) → ((k : ℕ) → marked marks k ≡ true → p k ≡ true) → p m.line ≡ true → (k : ℕ) → marked (marks ++ m ∷ []) k ≡ true → p k ≡ true
each_push marks m p h here k t =
    ⊎_elim
    (λ s. ap p (sym s) ∙ here)
    (λ ne. h k (sym (ap (λ b. b || marked marks k) (ne_eqb m.line k ne)) ∙ sym (marked_push marks m k) ∙ t))
    (cases_eq m.line k)

pub each_without : (marks : List Mark) (line : ℕ) (p : ℕ → Bool) → Distinct marks → ((k : ℕ) → marked marks k ≡ true → p k ≡ true) → (k : ℕ) → marked (without marks line) k ≡ true → p k ≡ true
each_without marks line p d h k t = h k (and_parts (marked marks k) _ (sym (unmarked marks line d k) ∙ t)).0

-- hints that were given stay
still_hinted : (hints : List Bool) (i j : ℕ) → i < length hints → get_or hints j false ≡ true → get_or (set hints i true) j false ≡ true
still_hinted hints i j l t =
    ⊎_elim
    (λ s. ap (λ k. get_or (set hints i true) k false) s ∙ get_or-set_same hints i true false l)
    (λ ne. get_or-set_other hints i j true false ne ∙ t)
    (cases_eq j i)

pub hinted_push : (marks : List Mark) (m : Mark) (hints : List Bool) → m.line / 8 % 4096 < length hints → AllHinted marks hints → AllHinted (marks ++ m ∷ []) (set hints (m.line / 8 % 4096) true)
hinted_push marks m hints l h =
    each_push marks m (λ k. get_or (set hints (m.line / 8 % 4096) true) (k / 8 % 4096) false)
    (λ k t. still_hinted hints (m.line / 8 % 4096) (k / 8 % 4096) l (h k t))
    (get_or-set_same hints (m.line / 8 % 4096) true false l)
