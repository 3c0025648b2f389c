-- A part of a list that is written: the places below it, inside it and behind it.
use Rattle.std.proofs.Common.{◌≡◌, ℕ, ◌+◌, ◌-◌, ◌<◌, ◌≤◌, ltb, ◌⊎◌, List, length, get_or, inl, inr, ⊎_elim, rules}
use borrow.Rule.Slice.PartMut.{put_mid}
use Rattle.std.proofs.lemmas.Bool.{cases_Bool, ltb-false, ltb-true}
use Rattle.std.proofs.lemmas.List.{places}

pub below_or_not : (j n : ℕ) → (j < n) ⊎ (n ≤ j)
below_or_not j n = ⊎_elim (λ t. inl (ltb-true _ _ t)) (λ t. inr (ltb-false _ _ t)) (cases_Bool (ltb j n))

module _ (at w : ℕ) (bytes ys : List ℕ) (long : length ys ≡ w) (fits : at + w ≤ length bytes) where
  pub put_below : (j : ℕ) → j < at → get_or (put_mid at w bytes ys) j 0 ≡ get_or bytes j 0
  put_below j h = search (rules, places)

  pub put_here : (j : ℕ) → at ≤ j → j < at + w → get_or (put_mid at w bytes ys) j 0 ≡ get_or ys (j - at) 0
  put_here j h k = search (rules, places)

  pub put_above : (j : ℕ) → at + w ≤ j → get_or (put_mid at w bytes ys) j 0 ≡ get_or bytes j 0
  put_above j h = search (rules, places)

  pub put_long : length (put_mid at w bytes ys) ≡ length bytes
  put_long = search (rules, places)
