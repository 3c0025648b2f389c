-- Texts of replies, as they are written piece by piece.
use Rattle.std.proofs.Common.{◌≡◌, ℕ, ◌+◌, ◌<◌, Bool, true, false, List, [], ◌∷◌, ◌++◌, map, length, get_or, take, codes, Some, Option, Result, sym, refl, subst, ap, ◌∙◌}
pub use Rattle.std.proofs.Common.{append_assoc, append-nil}
use Rattle.std.proofs.lemmas.List.{map_more}
use Rattle.std.specs.Fmt.{DisplaysOnOk, WritesOnOk, ◌++?◌}
use Rattle.std.specs.declared.fmt.Error.{Error}
use Rattle.std.specs.declared.fmt.Formatter.{Formatter}
use mir.Val.{bool_byte}
use Rattle.bridge.specs.declared.log.Direction.{Direction}
use Rattle.bridge.specs.declared.log.Direction.TheVariants.{Read, Write}
use Rattle.bridge.specs.Bits.{flag}
use Rattle.bridge.specs.Log.{direction_number}
use Rattle.bridge.specs.Words.{direction_text}
pub use Rattle.session.proofs.HexText.{hex_printed}
use Rattle.session.specs.Replies.{direction_numbered, hex, ok_text, parts_text, spaced, spaced_numbers}

-- what a format shows is what is written
pub displayed : {W : Type 0} (took : W → List ℕ → W → Type 0) (f g : Formatter W) (r : Result (Unit {0}) Error) (shown : Option (List ℕ)) (text : List ℕ) → shown ≡ Some text → DisplaysOnOk took f r shown g → WritesOnOk took f r text g
displayed took f g r shown text e h = subst (λ o. DisplaysOnOk took f r o g) e h

pub append_somes : (a b : List ℕ) → (Some a ++? Some b) ≡ Some (a ++ b)
append_somes a b = refl

pub flag_byte : (b : Bool) → bool_byte b ≡ flag b
flag_byte true = refl
flag_byte false = refl

pub direction_back : (d : Direction) → direction_text (direction_numbered (direction_number d)) ≡ direction_text d
direction_back Read = refl
direction_back Write = refl

-- parts, each behind a space
spaced_push : (parts : List (List ℕ)) (part : List ℕ) → spaced (parts ++ part ∷ []) ≡ spaced parts ++ (32 ∷ part)
spaced_push [] part = ap (λ l. 32 ∷ l) (append-nil part)
spaced_push (p ∷ parts) part = ap (λ l. 32 ∷ p ++ l) (spaced_push parts part) ∙ ap (λ l. 32 ∷ l) (sym (append_assoc p (spaced parts) (32 ∷ part)))

pub spaced_more : (ns : List ℕ) (i : ℕ) → i < length ns → spaced_numbers (take (i + 1) ns) ≡ spaced_numbers (take i ns) ++ (32 ∷ hex (get_or ns i 0))
spaced_more ns i lt = ap spaced (map_more hex ns i 0 lt) ∙ spaced_push (map hex (take i ns)) (hex (get_or ns i 0))

pub spaced_parts : (parts : List (List ℕ)) → spaced parts ++ (41 ∷ []) ≡ parts_text parts
spaced_parts [] = refl
spaced_parts (part ∷ parts) = ap (λ l. 32 ∷ l) (append_assoc part (spaced parts) (41 ∷ []) ∙ ap (λ l. part ++ l) (spaced_parts parts))

pub longwords_text : (ns : List ℕ) → codes "(ok" ++ (spaced_numbers ns ++ codes ")") ≡ ok_text ns
longwords_text ns = ap (λ l. codes "(ok" ++ l) (spaced_parts (map hex ns))

-- what the text that a format writes needs
pub ruleset printed = (displayed, append_somes, hex_printed, append_assoc, flag_byte, direction_back)
