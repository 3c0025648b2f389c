-- Masked writes, and lines that lie in a run of bytes.
use Rattle.std.specs.Prelude.{◌≡◌, ℕ, ◌+◌, ◌-◌, ◌<◌, ◌≤◌, true, cond, ◌⊎◌, List, length, take, drop, Some, None, Option, ◌≢◌, nat_le, slice_index, refl}
use Rattle.std.proofs.Common.{sym, ap, ◌∙◌, inl, inr, ⊎_elim, arith}
use Rattle.std.proofs.Math.Path.{fun_ext}
use borrow.Rule.Slice.PartMut.{put_mid}
use Rattle.std.proofs.lemmas.List.{drop-take, length-take, length-drop}
use Rattle.std.proofs.lemmas.Slice.{between-put_mid, drop-put_mid, take-put_mid_below}
use Rattle.std.proofs.lemmas.Bool.Decides.{nat_tests}
use Rattle.std.proofs.lemmas.Bool.{cond-true, cond-false, eq-eqb, ne_eqb, cases_Bool, cases_eq, le-leb}
use Rattle.std.proofs.lemmas.Nat.Bits.{bit_at_ones}
use Rattle.std.proofs.lemmas.List.FromFn.{fill_by_all, length-map-range_with_len}
use Rattle.memory.specs.Content.{Has32Bytes, all_ones, bit, good, merged, overwritten, written}
use Rattle.memory.specs.Layouts.{Apart, Places, at_place, inside, laid_out}

pub ones_set : (k : ℕ) → k < 32 → bit all_ones k ≡ true
ones_set k h = eq-eqb _ _ (bit_at_ones 32 k h)

-- 32 bytes that are the merged ones place by place
pub merged_places : (mask : ℕ) (old new now : List ℕ) → length now ≡ 32 → ((k : ℕ) → k < 32 → slice_index now k ≡ cond (bit mask k) (slice_index new k) (slice_index old k)) → now ≡ merged mask old new
unfolding merged
merged_places mask old new now l h = fill_by_all _ now 32 0 l h

pub merged_full : (old new : List ℕ) → length new ≡ 32 → new ≡ merged all_ones old new
merged_full old new l = merged_places all_ones old new new l (λ k h. sym (cond-true _ _ _ (ones_set k h)))

pub length_merged : (mask : ℕ) (old new : List ℕ) → length (merged mask old new) ≡ 32
unfolding merged
length_merged mask old new = simp length-map-range_with_len

-- a line of w bytes that is put at a place, read there and at a place apart
put_same : (w : ℕ) (bytes line : List ℕ) (at : ℕ) → at + w ≤ length bytes → length line ≡ w → take w (drop at (put_mid at w bytes line)) ≡ line
put_same w bytes line at h l =
    let e : at + w - at ≡ w = omega arith in
    ap (λ k. take k (drop at (put_mid at w bytes line))) (sym e) ∙ between-put_mid at w bytes line (at + w) (omega arith) (omega arith)

put_apart : (w : ℕ) (bytes line : List ℕ) (at b : ℕ) → at + w ≤ length bytes → length line ≡ w → (b + w ≤ at) ⊎ (at + w ≤ b) → take w (drop b (put_mid at w bytes line)) ≡ take w (drop b bytes)
put_apart w bytes line at b h l (inl a) =
    sym (drop-take b w (put_mid at w bytes line)) ∙ ap (drop b) (take-put_mid_below at w bytes line (b + w) a (omega arith)) ∙ drop-take b w bytes
put_apart w bytes line at b h l (inr a) = ap (take w) (drop-put_mid at w bytes line b a (omega arith) l)

-- a place that counts is the layout's, and lies inside
pub inside_is : (n : ℕ) (o : Option ℕ) (a : ℕ) → inside n o ≡ Some a → (o ≡ Some a) × (a + 32 ≤ n)
inside_is n None a e = absurd (let z : ◌≡◌ {A = ℕ} 0 1 = cc in omega arith)
inside_is n (Some b) a e =
    ⊎_elim
    (λ t. (sym (cond-true _ _ _ t) ∙ e, grind (arith, nat_tests)))
    (λ t. absurd (let f : None ≡ Some a = sym (cond-false _ _ _ t) ∙ e in let z : ◌≡◌ {A = ℕ} 0 1 = cc in omega arith))
    (cases_Bool (nat_le (b + 32) n))

pub inside_all : (n : ℕ) (o : Option ℕ) → ((a : ℕ) → o ≡ Some a → a + 32 ≤ n) → inside n o ≡ o
inside_all n None h = refl
inside_all n (Some a) h = cond-true _ _ _ (le-leb (a + 32) n (h a refl))

-- a masked write at the place of one line is the write that the memory's meaning asks for
module _ (place : Places) (n : ℕ) (bytes new after : List ℕ) (line at mask : ℕ) (apart : Apart place) (long : length bytes ≡ n) (here : inside n (place line) ≡ Some at) (put : after ≡ put_mid at 32 bytes (merged mask (take 32 (drop at bytes)) new)) where
  fits : at + 32 ≤ length bytes
  fits = omega (arith, inside_is n (place line) at here)

  same_line : (o : Option ℕ) → o ≡ Some at → at_place after o ≡ overwritten new mask (at_place bytes o)
  same_line o e = rw (e, put) (ap good (put_same 32 bytes _ at fits (length_merged mask _ new)))

  other_line : (k : ℕ) (o : Option ℕ) → inside n (place k) ≡ o → (k ≢ line) → at_place after o ≡ at_place bytes o
  other_line k None e ne = refl
  other_line k (Some b) e ne =
      rw put (ap good (put_apart 32 bytes _ at b fits (length_merged mask _ new) (apart k line b at (inside_is n (place k) b e).0 (inside_is n (place line) at here).0 ne)))

  each_line : (k : ℕ) → laid_out place n after k ≡ written line new mask (laid_out place n bytes) k
  each_line k =
      ⊎_elim
      (λ e. same_line (inside n (place k)) (ap (λ j. inside n (place j)) e ∙ here) ∙ sym (cond-true _ _ _ (eq-eqb k line e)))
      (λ ne. other_line k (inside n (place k)) refl ne ∙ sym (cond-false _ _ _ (ne_eqb k line ne)))
      (cases_eq k line)

  pub written_laid_out : laid_out place n after ≡ written line new mask (laid_out place n bytes)
  written_laid_out = fun_ext each_line

-- a good line has 32 bytes
whole_at : (bytes : List ℕ) (n : ℕ) (o p : Option ℕ) → n ≤ length bytes → inside n o ≡ p → Has32Bytes (at_place bytes p)
whole_at bytes n o None h e = tt
whole_at bytes n o (Some a) h e = let i = inside_is n o a e in simp (length-take, length-drop) (omega arith)

pub laid_out_whole : (place : Places) (n : ℕ) (bytes : List ℕ) → n ≤ length bytes → (line : ℕ) → Has32Bytes (laid_out place n bytes line)
laid_out_whole place n bytes h line = whole_at bytes n (place line) _ h refl

-- no line from C000000h up
pub laid_out_beyond : (o : Option ℕ) (n : ℕ) (bytes : List ℕ) → o ≡ None → at_place bytes (inside n o) ≡ at_place bytes None
laid_out_beyond o n bytes e = ap (λ p. at_place bytes (inside n p)) e
