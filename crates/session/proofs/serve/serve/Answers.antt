use Rattle.std.proofs.Common.{rules, ◌≡◌, [], ◌∷◌, Some, subst}
use Rattle.std.specs.Io.Iter.{bytes_remaining}
use Rattle.std.specs.Io.KnownBytes.{Consumes, IsAtEnd}
use Rattle.session.specs.InputLines.{fed, given, held, last_line, line_given}
use Rattle.session.proofs.Serving.{all_served, ending, last_served}
use Rattle.session.proofs.serve.serve.Goals as goal

pub loop-byte-preserved-in_ok-serve_line : goal.loop-byte-preserved-in_ok-serve_line
loop-byte-preserved-in_ok-serve_line g c =
    let k : Consumes (bytes_remaining g.R.Read.remaining c.loop-byte.byte-iterator) (bytes_remaining g.R.Read.remaining c.next.new.self) (c.in_ok-byte.field-0 ∷ []) = search rules in
    let e : given (held c.feed.new.self) (Some c.in-Some-2.line) ≡ fed (held c.loop-byte.cutter) c.in_ok-byte.field-0 = subst (λ line. given (held c.feed.new.self) line ≡ fed (held c.loop-byte.cutter) c.in_ok-byte.field-0) c.in-Some-2.is c.in_ok-line.ensures.fed in
    ending _ _ _ _ _ _ _ _ _ _ _ _ _ c.loop-byte.invariant k e c.in_ok-serve_line.ensures

pub returns-in_ok-serve_line-2 : goal.returns-in_ok-serve_line-2
returns-in_ok-serve_line-2 g c =
    let k : IsAtEnd (bytes_remaining g.R.Read.remaining c.loop-byte.byte-iterator) = search rules in
    let e : line_given c.in-Some-finish.line ∷ [] ≡ last_line (held c.loop-byte.cutter) = search rules in
    last_served _ _ _ _ _ _ _ _ _ _ c.loop-byte.invariant k e c.in_ok-serve_line-2.ensures

pub returns-in_default-finish : goal.returns-in_default-finish
returns-in_default-finish g c =
    let k : IsAtEnd (bytes_remaining g.R.Read.remaining c.loop-byte.byte-iterator) = search rules in
    let e : [] ≡ last_line (held c.loop-byte.cutter) = search rules in
    all_served _ _ _ _ _ _ _ c.loop-byte.invariant k e
