-- Longwords of lines under a layout, read a run at a time.
use Rattle.std.proofs.Common.{◌≡◌, ℕ, ◌+◌, ◌-◌, ◌*◌, ◌/◌, ◌%◌, ◌<◌, min, List, [], length, take, drop, Some, None, Ok, Err, Option, sym, refl, ap, ◌∙◌, subst, arith}
use Rattle.memory.specs.declared.MemoryFault.TheVariants.{Absent}
use Rattle.memory.specs.Content.{good, read_answer}
use Rattle.memory.specs.declared.layout.Run.{Run}
use Rattle.memory.specs.Layouts.{LiesInRun, Places, at_place, inside, laid_out}
use Rattle.memory.proofs.LongwordRuns.{LieAt, none_read}
use Rattle.memory.proofs.TakenLongwords.{Taken, answer_taken, take_first}
use Rattle.memory.specs.Longwords.{buffer_filled, longwords, longwords_answer, longwords_on}

-- a run of whole lines that a layout tells of: they lie in its bytes, and are one at least
module _ (place : Places) (n : ℕ) (bytes laid : List ℕ) (line : ℕ) (run : Run) (o : Option Run) (same : bytes ≡ laid) (lie : LiesInRun (λ k. inside n (place k)) line o) (is : o ≡ Some run) where
  some_run : LiesInRun (λ k. inside n (place k)) line (Some run)
  some_run = subst (LiesInRun (λ k. inside n (place k)) line) is lie

  pub lies_laid : LieAt (laid_out place n laid) line bytes run.at ((run.end - run.at) / 32)
  lies_laid k h = ap (at_place laid) (some_run.3 k (omega arith)) ∙ ap (λ l. good (take 32 (drop (run.at + 32 * k) l))) (sym same)

  pub whole_run : (run.at % 32 ≡ 0) × (run.end % 32 ≡ 0) × (run.at < run.end)
  whole_run = (some_run.0, some_run.1, some_run.2)

-- where the line of the first longword lies nowhere, none is read
pub none_laid : (place : Places) (n : ℕ) (bytes : List ℕ) (left first line : ℕ) → first / 8 ≡ line → inside n (place line) ≡ None → longwords_on left first (laid_out place n bytes) ≡ []
none_laid place n bytes left first line at e = none_read (laid_out place n bytes) left first line (Err (Absent line)) at (sym (ap (λ o. read_answer line (at_place bytes o)) e)) refl

-- the run of the first longword's line
module _ (place : Places) (n : ℕ) (bytes laid : List ℕ) (first : ℕ) (run : Run) (o : Option Run) (same : bytes ≡ laid) (lie : LiesInRun (λ k. inside n (place k)) (first / 8) o) (is : o ≡ Some run) where
  pub first_run : (old : List ℕ) (moved : ℕ) → moved ≡ min ((run.end - (run.at + 4 * (first % 8))) / 4) (length old) → (words : List ℕ) → words ≡ buffer_filled (longwords moved (run.at + 4 * (first % 8)) bytes) old
      → Taken (laid_out place n laid) first old words moved
  first_run old moved least words e =
      let whole = whole_run place n bytes laid (first / 8) run o same lie is in
      take_first (laid_out place n laid) first old (first / 8) bytes run.at ((run.end - run.at) / 32) (lies_laid place n bytes laid (first / 8) run o same lie is) (first % 8) (run.at + 4 * (first % 8)) moved
      (omega arith) (omega arith) (omega arith) (omega (arith, whole, least)) words e

  -- where it ends before the place is full, the next line comes behind it
  pub behind_run : (left moved : ℕ) → moved ≡ min ((run.end - (run.at + 4 * (first % 8))) / 4) left → moved < left → first + moved ≡ 8 * (first / 8 + (run.end - run.at) / 32)
  behind_run left moved least h = let whole = whole_run place n bytes laid (first / 8) run o same lie is in omega (arith, whole, least)

  pub answer_run : (moved left : ℕ) → moved ≡ length (longwords_on left first (laid_out place n laid)) → Ok moved ≡ longwords_answer left first (laid_out place n laid)
  answer_run moved left e =
      let whole = whole_run place n bytes laid (first / 8) run o same lie is in
      answer_taken (laid_out place n laid) first moved left bytes run.at ((run.end - run.at) / 32) (lies_laid place n bytes laid (first / 8) run o same lie is) (omega (arith, whole)) e
