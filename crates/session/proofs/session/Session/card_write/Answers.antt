use Rattle.std.proofs.Common.{refl}
use Rattle.session.specs.declared.replies.Reply.TheVariants.{Counts, Refused}
use Rattle.session.specs.declared.replies.FormRefusal.TheVariants as F
use Rattle.session.proofs.Performing.{refused_in}
use Rattle.session.proofs.WriteEnables.{refused_text, write_does}
use Rattle.session.proofs.session.Session.card_write.Goals as goal

pub returns-in_err-result : goal.returns-in_err-result
returns-in_err-result c =
    let split = c.in_ok-words.ensures in
    let performed = c.in-CardWrite.ensures in
    let e = c.in_err-result.field-0.0 in
    refused_in _ _ _ _ (F.Write e) c.from_residual-in_err-result.ensures.1 (write_does c.args.self.now (record { bridge = c.perform.new.self }) c.args.pci c.args.pairs.now _ _ c.in-CardWrite.result _ (Refused (F.Write e)) split.words split.enables performed.answer performed.after c.in_err-result.was refl refl (refused_text e) tt)

pub returns : goal.returns
returns c =
    let split = c.in_ok-words.ensures in
    let performed = c.in-CardWrite.ensures in
    write_does c.args.self.now (record { bridge = c.perform.new.self }) c.args.pci c.args.pairs.now _ _ c.in-CardWrite.result _ (Counts c.in_ok-result.field-0) split.words split.enables performed.answer performed.after c.in_ok-result.was refl refl refl tt
