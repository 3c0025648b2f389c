-- An input answered line by line: what was read so far was answered, and what is left is answered behind it.
use Rattle.std.proofs.Common.{◌≡◌, ℕ, List, [], ◌∷◌, ◌++◌, Some, None, Ok, Err, OnOk, Option, Result, sym, refl, ap, ◌∙◌, subst}
use Rattle.std.specs.Io.KnownBytes.{Appends, Consumes, IsAtEnd}
use Rattle.session.specs.declared.replies.Reply.{Reply}
use Rattle.session.specs.declared.session.Session.{Session}
use Rattle.session.specs.InputLines.{Cut, Step, ended_lines, fed, kept, last_line, lines_from}
use Rattle.session.specs.Replies.{reply_text}
use Rattle.session.specs.Serving.{InputServed, LineServed, Replied, printed}
use Rattle.session.specs.Sessions.{InputAnswered}

append_end : (xs : List ℕ) → xs ++ [] ≡ xs
append_end [] = refl
append_end (x ∷ xs) = ap (λ ys. x ∷ ys) (append_end xs)

append_twice : (xs ys zs : List ℕ) → (xs ++ ys) ++ zs ≡ xs ++ (ys ++ zs)
append_twice [] ys zs = refl
append_twice (x ∷ xs) ys zs = ap (λ us. x ∷ us) (append_twice xs ys zs)

appends_both : (old mid new : Option (List ℕ)) (xs ys : List ℕ) → Appends old mid xs → Appends mid new ys → Appends old new (xs ++ ys)
appends_both None mid new xs ys a b = tt
appends_both (Some o) None new xs ys a b = absurd a
appends_both (Some o) (Some m) None xs ys a b = absurd b
appends_both (Some o) (Some m) (Some n) xs ys a b = b ∙ ap (λ zs. zs ++ ys) a ∙ append_twice o xs ys

appends_none : (old : Option (List ℕ)) → Appends old old []
appends_none None = tt
appends_none (Some xs) = sym (append_end xs)

pub line_printed : {E : Type 0} (r : Result Unit E) (s t : Session) (line : Cut) (reply : Reply) (old new : Option (List ℕ)) → InputAnswered s line reply t → OnOk r (Appends old new (printed reply)) → OnOk r (LineServed s line old new t)
line_printed (Ok done) s t line reply old new a h = record {
  text = printed reply ++ [];
  replied = (reply, t, [], a, refl, (refl, refl));
  appended = subst (Appends old new) (sym (append_end (printed reply))) h;
}
line_printed (Err e) s t line reply old new a h = tt

-- the reply to one line, and behind it those to others
behind_line : (s t u : Session) (line : Cut) (lines : List Cut) (text more : List ℕ) → Replied s (line ∷ []) text t → Replied t lines more u → Replied s (line ∷ lines) (text ++ more) u
behind_line s t u line lines text more (reply, v, rest, answered, is, (none, same)) r =
    (reply, v, more, answered, ap (λ xs. xs ++ more) (is ∙ ap (λ ys. printed reply ++ ys) none ∙ append_end (printed reply)), subst (λ x. Replied x lines more u) same r)

pub record Onward (first : Session) (input : List ℕ) (old : Option (List ℕ)) (s : Session) (c : Cut) (rest new : Option (List ℕ)) : Type 0 where
  pub left : List ℕ
  pub is_left : rest ≡ Some left
  pub text : List ℕ
  pub appended : Appends old new text
  pub onward : (more : List ℕ) (t : Session) → Replied s (lines_from c left) more t → Replied first (lines_from (kept []) input) (text ++ more) t

abbrev pub Serving : Session → Option (List ℕ) → Option (List ℕ) → Session → Cut → Option (List ℕ) → Option (List ℕ) → Type 0
Serving first None old s c rest new = Unit {0}
Serving first (Some input) old s c rest new = Onward first input old s c rest new

pub begin : (s : Session) (input old : Option (List ℕ)) (c : Cut) (rest : Option (List ℕ)) → rest ≡ input → c ≡ kept [] → Serving s input old s c rest old
begin s None old c rest e h = tt
begin s (Some input) old c rest e h = record {
  left = input;
  is_left = e;
  text = [];
  appended = appends_none old;
  onward = λ more t r. subst (λ x. Replied s (lines_from x input) more t) h r;
}

-- the bytes that are left, less the first
less_some : (after : Option (List ℕ)) (b : ℕ) (left : List ℕ) → Consumes (Some left) after (b ∷ []) → (more : List ℕ) × (after ≡ Some more) × (left ≡ b ∷ more)
less_some None b left h = absurd h
less_some (Some more) b left h = (more, refl, h)

less : (rest after : Option (List ℕ)) (b : ℕ) (left : List ℕ) → rest ≡ Some left → Consumes rest after (b ∷ []) → (more : List ℕ) × (after ≡ Some more) × (left ≡ b ∷ more)
less rest after b left e h = less_some after b left (subst (λ x. Consumes x after (b ∷ [])) e h)

-- a byte that ends no line
pub inside : (first s : Session) (input old : Option (List ℕ)) (c d : Cut) (rest after new : Option (List ℕ)) (b : ℕ) → Serving first input old s c rest new → Consumes rest after (b ∷ []) → record { held = d; ended = None } ≡ fed c b → Serving first input old s d after new
inside first s None old c d rest after new b h k e = tt
inside first s (Some input) old c d rest after new b h k e =
    let l = less rest after b h.left h.is_left k in
    record {
      left = l.0;
      is_left = l.1;
      text = h.text;
      appended = h.appended;
      onward = λ more t r. h.onward more t (subst (λ xs. Replied s (lines_from c xs) more t) (sym l.2) (subst (λ (x : Step). Replied s (ended_lines x.ended ++ lines_from x.held l.0) more t) e r));
    }

-- a byte that ends a line, which is answered
pub ending : (first s u : Session) (input old : Option (List ℕ)) (c d line : Cut) (rest after mid new : Option (List ℕ)) (b : ℕ) → Serving first input old s c rest mid → Consumes rest after (b ∷ []) → record { held = d; ended = Some line } ≡ fed c b → LineServed s line mid new u → Serving first input old u d after new
ending first s u None old c d line rest after mid new b h k e served = tt
ending first s u (Some input) old c d line rest after mid new b h k e served =
    let l = less rest after b h.left h.is_left k in
    record {
      left = l.0;
      is_left = l.1;
      text = h.text ++ served.text;
      appended = appends_both old mid new h.text served.text h.appended served.appended;
      onward = λ more t r.
          subst (λ xs. Replied first (lines_from (kept []) input) xs t) (sym (append_twice h.text served.text more))
          (h.onward (served.text ++ more) t
          (subst (λ xs. Replied s (lines_from c xs) (served.text ++ more) t) (sym l.2)
          (subst (λ (x : Step). Replied s (ended_lines x.ended ++ lines_from x.held l.0) (served.text ++ more) t) e
          (behind_line s u t line (lines_from d l.0) served.text more served.replied r))));
    }

-- the end of the input, where no line has begun, and where the last one is answered
module _ (first : Session) (old : Option (List ℕ)) (s : Session) (c : Cut) (rest : Option (List ℕ)) where
  at_end : (left : List ℕ) → rest ≡ Some left → IsAtEnd rest → left ≡ []
  at_end left e h = subst IsAtEnd e h

  pub all_served : (input new : Option (List ℕ)) → Serving first input old s c rest new → IsAtEnd rest → [] ≡ last_line c → InputServed first input old new s
  all_served None new h end e = tt
  all_served (Some input) new h end e = record {
    text = h.text ++ [];
    replied = h.onward [] s (subst (λ xs. Replied s (lines_from c xs) [] s) (sym (at_end h.left h.is_left end)) (subst (λ xs. Replied s xs [] s) e (refl, refl)));
    appended = subst (Appends old new) (sym (append_end h.text)) h.appended;
  }

  pub last_served : (input mid new : Option (List ℕ)) (line : Cut) (u : Session) → Serving first input old s c rest mid → IsAtEnd rest → line ∷ [] ≡ last_line c → LineServed s line mid new u → InputServed first input old new u
  last_served None mid new line u h end e served = tt
  last_served (Some input) mid new line u h end e served = record {
    text = h.text ++ served.text;
    replied = h.onward served.text u (subst (λ xs. Replied s (lines_from c xs) served.text u) (sym (at_end h.left h.is_left end)) (subst (λ xs. Replied s xs served.text u) e served.replied));
    appended = appends_both old mid new h.text served.text h.appended served.appended;
  }
