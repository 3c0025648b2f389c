-- A run of steps: those behind are performed, those ahead are as they were.
use Rattle.std.proofs.Common.{◌≡◌, ℕ, zero, suc, ◌+◌, ◌<◌, ◌≤◌, List, [], ◌∷◌, ◌++◌, length, get_or, take, set, Some, IfSome, sym, refl, ap, ◌∙◌, subst, arith, get_or-set_other, get_or-set_same, below_more}
use Rattle.std.proofs.lemmas.List.{get_or_default, length-map, take_all, take_more}
use Rattle.bridge.specs.declared.calls.Step.{Step}
use Rattle.bridge.specs.Calls.{Call, performed}
use Rattle.bridge.specs.Isolation.{after, before, no_call, nth_call, outcome}
use Rattle.bridge.specs.Performed.{Answers, call_of, with_buffer}
use Rattle.bridge.specs.State.{State}
use Rattle.bridge.specs.Steps.{StepPerformed, StepsPerformed, answer_kept, calls_of, no_step, nth_step}

after_more : (s : State) (cs : List Call) (c : Call) → after s (cs ++ c ∷ []) ≡ (performed (after s cs) c).state
after_more s [] c = refl
after_more s (d ∷ cs) c = after_more (performed s d).state cs c

nth_of : (steps : List Step) (n : ℕ) → nth_call (calls_of steps) n ≡ call_of (nth_step steps n).call
nth_of [] zero = refl
nth_of [] (suc n) = refl
nth_of (x ∷ steps) zero = refl
nth_of (x ∷ steps) (suc n) = nth_of steps n

pub record Ran (s₀ : State) (first : List Step) (s : State) (steps : List Step) (i : ℕ) : Type 0 where
  pub state : s ≡ before s₀ (calls_of first) i
  pub behind : (n : ℕ) → n < i → StepPerformed s₀ (calls_of first) n (nth_step first n) (nth_step steps n)
  pub ahead : (n : ℕ) → i ≤ n → nth_step steps n ≡ nth_step first n

pub begin : (s : State) (steps : List Step) → Ran s steps s steps 0
begin s steps = record { state = refl; behind = λ n h. absurd (omega arith); ahead = λ n h. refl }

pub go_on : (s₀ s t : State) (first steps : List Step) (i : ℕ) (d new : Step) → Ran s₀ first s steps i → i < length first → length steps ≡ length first
    → answer_kept new.answer ≡ Some (performed s (call_of (get_or steps i d).call)).answer
    → IfSome new.answer (Answers (get_or steps i d).call)
    → call_of new.call ≡ with_buffer (performed s (call_of (get_or steps i d).call)).buffer (call_of (get_or steps i d).call)
    → t ≡ (performed s (call_of (get_or steps i d).call)).state
    → Ran s₀ first t (set steps i new) (i + 1)
go_on s₀ s t first steps i d new r h as_many a k b e =
    let calls = calls_of first in
    let stands : get_or steps i d ≡ nth_step first i = get_or_default steps i d no_step (omega arith) ∙ r.ahead i (omega arith) in
    let is : call_of (get_or steps i d).call ≡ nth_call calls i = ap (λ (x : Step). call_of x.call) stands ∙ sym (nth_of first i) in
    let came : performed s (call_of (get_or steps i d).call) ≡ outcome s₀ calls i = ap (performed s) is ∙ ap (λ x. performed x (nth_call calls i)) r.state in
    let here : i < length calls = subst (λ k. i < k) (sym (length-map first _)) h in
    record {
      state = e ∙ ap (λ o. o.state) came ∙ sym (ap (after s₀) (take_more calls i no_call here) ∙ after_more s₀ (take i calls) (nth_call calls i));
      behind = below_more _ i
          (λ n l. let ne : n ≡ i → ⊥ = λ q. omega arith in subst (StepPerformed s₀ calls n (nth_step first n)) (sym (get_or-set_other steps i n _ no_step ne)) (r.behind n l))
          (subst (StepPerformed s₀ calls i (nth_step first i)) (sym (get_or-set_same steps i _ no_step (omega arith)))
          (record { answer = a ∙ ap (λ o. Some o.answer) came; kind = subst (λ (x : Step). IfSome new.answer (Answers x.call)) stands k; call = b ∙ ap (λ o. with_buffer o.buffer (call_of (get_or steps i d).call)) came ∙ ap (with_buffer (outcome s₀ calls i).buffer) is }));
      ahead = λ n l. let ne : n ≡ i → ⊥ = λ q. omega arith in get_or-set_other steps i n _ no_step ne ∙ r.ahead n (omega arith);
    }

pub finish : (s₀ s : State) (first steps : List Step) (i : ℕ) → Ran s₀ first s steps i → length first ≤ i → length steps ≡ length first
    → (StepsPerformed s₀ first steps) × (s ≡ after s₀ (calls_of first))
finish s₀ s first steps i r h as_many = (
  record { as_many = as_many; each = λ n l. r.behind n (omega arith) },
  r.state ∙ ap (after s₀) (take_all i (calls_of first) (subst (λ k. k ≤ i) (sym (length-map first _)) h)),
)
