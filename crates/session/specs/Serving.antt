-- An input answered line by line.
use Rattle.std.specs.Prelude.{◌≡◌, ℕ, List, [], ◌∷◌, ◌++◌, Some, None, Option}
use Rattle.std.specs.Io.KnownBytes.{Appends}
use Rattle.session.specs.declared.replies.Reply.{Reply}
use Rattle.session.specs.declared.session.Session.{Session}
use Rattle.session.specs.InputLines.{Cut, kept, lines_from}
use Rattle.session.specs.Replies.{reply_text}
use Rattle.session.specs.Sessions.{InputAnswered}

-- what is printed of a reply: its text, and the byte that ends a line
abbrev pub printed : Reply → List ℕ
printed reply = reply_text reply ++ 10 ∷ []

-- lines answered one after another, each by the session that those before it left: all that is printed, and the session then
abbrev pub Replied : Session → List Cut → List ℕ → Session → Type 0
Replied s [] text u = (text ≡ []) × (u ≡ s)
Replied s (line ∷ lines) text u = (reply : Reply) × (t : Session) × (rest : List ℕ) × InputAnswered s line reply t × (text ≡ printed reply ++ rest) × Replied t lines rest u

-- the bytes that a writer holds, where they are known, grow by what these lines are answered
pub record Prints (before : Session) (lines : List Cut) (old new : Option (List ℕ)) (after : Session) : Type 0 where
  pub text : List ℕ
  pub replied : Replied before lines text after
  pub appended : Appends old new text

abbrev pub LineServed : Session → Cut → Option (List ℕ) → Option (List ℕ) → Session → Type 0
LineServed before line old new after = Prints before (line ∷ []) old new after

-- an input, where its bytes are known: its lines are answered
abbrev pub InputServed : Session → Option (List ℕ) → Option (List ℕ) → Option (List ℕ) → Session → Type 0
InputServed before None old new after = Unit {0}
InputServed before (Some input) old new after = Prints before (lines_from (kept []) input) old new after
