-- What a form does, in the arm of its case, and where its refusal is passed on.
use Rattle.std.proofs.Common.{◌≡◌, Ok, Err, IsErrAnd, Result, sym, subst}
use Rattle.session.specs.declared.forms.Form.{Form}
use Rattle.session.specs.declared.replies.FormRefusal.{FormRefusal}
use Rattle.session.specs.declared.replies.Reply.{Reply}
use Rattle.session.specs.declared.replies.Reply.TheVariants.{Refused}
use Rattle.session.specs.declared.session.FormError.{FormError}
use Rattle.session.specs.declared.session.FormError.TheVariants as E
use Rattle.session.specs.declared.session.Session.{Session}
use Rattle.session.specs.Forms.{Asked, asked}
use Rattle.session.specs.Sessions.{Comes, Does}

pub made_in : (s t : Session) (f : Form) (y : Asked) (reply : Reply) → asked f ≡ y → Does s y reply t → Does s (asked f) reply t
made_in s t f y reply is does = subst (λ x. Does s x reply t) (sym is) does

pub refused_in : (P : Reply → Session → Type 0) (s t : Session) (r : Result Reply FormError) (e : FormRefusal) → IsErrAnd r (λ x. x ≡ E.Refused e) → P (Refused e) t → Comes P s r t
refused_in P s t (Ok reply) e is p = absurd is
refused_in P s t (Err x) e is p = subst (λ y. Comes P s (Err y) t) (sym is) p
