-- Each form that fits a line has a line that spells it.
use Rattle.std.proofs.Common.{◌≡◌, ℕ, ◌^◌, ◌<◌, true, List, [], ◌∷◌, refl, subst, arith, lit<}
use Rattle.std.proofs.lemmas.Bool.Decides.{nat_tests}
use Rattle.std.specs.Str.Parse.{AllDigits}
use Rattle.std.specs.Char.{digit_value}
use Rattle.std.specs.List.{AllByRecursion}
use Rattle.session.specs.declared.forms.Name.{Name}
use Rattle.session.specs.declared.forms.Name.TheVariants as N
use Rattle.session.specs.FormLines.{BothBelow, EachSpelled, NumbersFit, number_token, one_token, pair_tokens, payload_tokens, two_tokens}
use Rattle.session.specs.Forms.{Args, Pairs, Payload, name_bytes}
use Rattle.session.specs.Hex.{Reads}
use Rattle.session.specs.Replies.{hex}
use Rattle.session.specs.Tokens.{Valid, WordBytes, opening, word_byte, word_of}
use Rattle.session.proofs.HexText.{reads_back}

-- a number that fits a longword reads back as one
reads_32 : (n : ℕ) → n < 2 ^ 32 → Reads 32 (hex n) n
reads_32 n lt = let r = reads_back n (omega arith) in (r.0, subst (λ v. v < 2 ^ 32) r.2 lt, r.2)

-- a digit is a byte of a word
digit_byte : (c : ℕ) → digit_value c < 16 → word_byte c ≡ true
digit_byte c lt = grind (arith, nat_tests)

digits_bytes : (w : List ℕ) → AllDigits 16 w → WordBytes w
digits_bytes [] d = tt
digits_bytes (c ∷ w) d = (digit_byte c d.0, digits_bytes w d.1)

number_valid : (n : ℕ) → n < 2 ^ 64 → Valid (number_token n)
number_valid n lt = let r = reads_back n lt in (r.0.0.0, digits_bytes (hex n) r.0.0.1)

wide : (n : ℕ) → n < 2 ^ 32 → n < 2 ^ 64
wide n lt = omega arith

name_valid : (v : Name) → Valid (word_of (name_bytes v))
name_valid N.CpuStore = (lit< tt, (refl, (refl, (refl, (refl, (refl, (refl, (refl, (refl, (refl, tt))))))))))
name_valid N.CpuLoad = (lit< tt, (refl, (refl, (refl, (refl, (refl, (refl, (refl, (refl, tt)))))))))
name_valid N.Mark = (lit< tt, (refl, (refl, (refl, (refl, tt)))))
name_valid N.RegRead = (lit< tt, (refl, (refl, (refl, (refl, (refl, (refl, (refl, (refl, tt)))))))))
name_valid N.RegWrite = (lit< tt, (refl, (refl, (refl, (refl, (refl, (refl, (refl, (refl, (refl, tt))))))))))
name_valid N.Pci = (lit< tt, (refl, (refl, (refl, tt))))
name_valid N.Log = (lit< tt, (refl, (refl, (refl, tt))))
name_valid N.LogClear = (lit< tt, (refl, (refl, (refl, (refl, (refl, (refl, (refl, (refl, (refl, tt))))))))))
name_valid N.CardRead = (lit< tt, (refl, (refl, (refl, (refl, (refl, (refl, (refl, (refl, (refl, tt))))))))))
name_valid N.CardWrite = (lit< tt, (refl, (refl, (refl, (refl, (refl, (refl, (refl, (refl, (refl, (refl, tt)))))))))))

one_valid : (n : ℕ) → n < 2 ^ 64 → AllByRecursion Valid (one_token n)
one_valid n lt = (number_valid n lt, (tt, tt))

two_valid : (p : ℕ × ℕ) → BothBelow 64 64 p → AllByRecursion Valid (two_tokens p)
two_valid p lt = (number_valid p.0 lt.0, (number_valid p.1 lt.1, (tt, tt)))

pairs_valid : (pairs : List (ℕ × ℕ)) → AllByRecursion (BothBelow 32 64) pairs → AllByRecursion Valid (pair_tokens pairs)
pairs_valid [] h = (tt, tt)
pairs_valid (p ∷ pairs) h = (tt, (number_valid p.0 (wide p.0 h.0.0), (number_valid p.1 h.0.1, (tt, pairs_valid pairs h.1))))

tokens_valid : (v : Name) (x : Payload v) → NumbersFit v x → AllByRecursion Valid (payload_tokens v x)
tokens_valid N.CpuStore x h = two_valid x h
tokens_valid N.CpuLoad x h = one_valid x h
tokens_valid N.Mark x h = one_valid x h
tokens_valid N.RegRead x h = one_valid x h
tokens_valid N.RegWrite x h = two_valid x (h.0, wide x.1 h.1)
tokens_valid N.Pci x h = one_valid x h
tokens_valid N.Log x h = (tt, tt)
tokens_valid N.LogClear x h = (tt, tt)
tokens_valid N.CardRead x h = two_valid x (wide x.0 h.0, h.1)
tokens_valid N.CardWrite x h = (number_valid x.0 (wide x.0 h.0), pairs_valid x.1 h.1)

pairs_meant : (pairs : List (ℕ × ℕ)) → AllByRecursion (BothBelow 32 64) pairs → Pairs (pair_tokens pairs) pairs
pairs_meant [] h = refl
pairs_meant (p ∷ pairs) h = (pair_tokens pairs, (hex p.0, hex p.1, refl, reads_32 p.0 h.0.0, reads_back p.1 h.0.1), pairs_meant pairs h.1)

args_meant : (v : Name) (x : Payload v) → NumbersFit v x → Args v (payload_tokens v x) x
args_meant N.CpuStore x h = (hex x.0, hex x.1, refl, reads_back x.0 h.0, reads_back x.1 h.1)
args_meant N.CpuLoad x h = (hex x, refl, reads_back x h)
args_meant N.Mark x h = (hex x, refl, reads_back x h)
args_meant N.RegRead x h = (hex x, refl, reads_back x h)
args_meant N.RegWrite x h = (hex x.0, hex x.1, refl, reads_back x.0 h.0, reads_32 x.1 h.1)
args_meant N.Pci x h = (hex x, refl, reads_back x h)
args_meant N.Log x h = refl
args_meant N.LogClear x h = refl
args_meant N.CardRead x h = (hex x.0, hex x.1, refl, reads_32 x.0 h.0, reads_back x.1 h.1)
args_meant N.CardWrite x h = (hex x.0, pair_tokens x.1, refl, reads_32 x.0 h.0, pairs_meant x.1 h.1)

pub each_spelled : EachSpelled
each_spelled y fit short =
    let us = payload_tokens y.0 y.1 in
    (short, opening ∷ word_of (name_bytes y.0) ∷ us, record { bytes = refl; valid = (tt, (name_valid y.0, tokens_valid y.0 y.1 fit)) }, (us, refl, args_meant y.0 y.1 fit))
