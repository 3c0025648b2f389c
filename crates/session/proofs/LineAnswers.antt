-- A line is answered as the form that it spells, or as one that spells none.
use Rattle.std.proofs.Common.{◌≡◌, ℕ, List, Ok, Err, IsErrAnd, Result, sym, refl, subst}
use Rattle.session.specs.declared.forms.Form.{Form}
use Rattle.session.specs.declared.replies.Reply.{Reply}
use Rattle.session.specs.declared.replies.Reply.TheVariants.{Refused}
use Rattle.session.specs.declared.session.Session.{Session}
use Rattle.session.specs.declared.lexer.LineError.{LineError}
use Rattle.session.specs.declared.lexer.LineError.TheVariants.{Malformed, NoMemory}
use Rattle.session.specs.declared.session.FormError.{FormError}
use Rattle.session.specs.declared.session.FormError.TheVariants as E
use Rattle.session.specs.Forms.{Parsed, Spells, asked}
use Rattle.session.specs.Sessions.{Answered, Comes, Does, unread}
use Rattle.session.proofs.SpelledOnce.{once}

answered_by_form : (s : Session) (line : List ℕ) (form : Form) (reply : Reply) (after : Session) → Spells line (asked form) → Does s (asked form) reply after → Answered s line reply after
answered_by_form s line form reply after spelled does = record {
  by_form = λ other spells. subst (λ y. Does s y reply after) (once line (asked form) other spelled spells) does;
  malformed = λ none. absurd (none (asked form) spelled);
}

pub comes_by_form : (s : Session) (line : List ℕ) (form : Form) (r : Result Reply FormError) (after : Session) → Spells line (asked form) → Comes (Does s (asked form)) s r after → Comes (Answered s line) s r after
comes_by_form s line form (Ok reply) after spelled does = answered_by_form s line form reply after spelled does
comes_by_form s line form (Err (E.Refused e)) after spelled does = answered_by_form s line form (Refused e) after spelled does
comes_by_form s line form (Err E.NoMemory) after spelled same = same

pub unread_answered : (s : Session) (line : List ℕ) (r : Result Reply FormError) (e : LineError) → IsErrAnd r (λ x. x ≡ unread e) → Parsed asked (Err e) (Spells line) → Comes (Answered s line) s r s
unread_answered s line (Ok reply) e is none = absurd is
unread_answered s line (Err x) Malformed is none =
    subst (λ y. Comes (Answered s line) s (Err y) s) (sym is) (record { by_form = λ other spells. absurd (none other spells); malformed = λ _. (refl, refl) })
unread_answered s line (Err x) NoMemory is none = subst (λ y. Comes (Answered s line) s (Err y) s) (sym is) refl
