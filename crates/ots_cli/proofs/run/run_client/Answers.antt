use Rattle.std.proofs.Common.{[], None, refl, sym, ◌≡◌}
use Rattle.std.specs.Prelude.{Some}
use Rattle.ots_cli.specs.Answer.{Answers}
use Rattle.ots_cli.proofs.Ran.{drawn, of_command, of_nothing, of_usage, ran}
use Rattle.ots_client_endings.specs.Ending.{refused}
use Rattle.ots_client_endings.specs.Outside.{Happens}
use Rattle.ots_client_endings.proofs.Running.{only_finished, text_finishes, unread_short}
use Rattle.ots_client_text.specs.declared.status.Status.TheVariants.{OutOfMemory, Usage}
use Rattle.ots_client_words.specs.Words.{asked, read_as}
use Rattle.ots_cli.proofs.run.run_client.Goals as goal

pub returns-in-Ok-clause-ran : goal.returns-in-Ok-clause-ran
returns-in-Ok-clause-ran g c =
    ran _ _ (asked c.args.words.now) _ _ _ (of_command _ (Some (read_as c.in-Ok.command)) (asked c.args.words.now) _ _ _ (sym c.in-Ok.ensures) c.run_command.ensures.runs)
    (rw c.in-Ok.ensures c.run_command.ensures.bounded) (drawn g.D.Dialer.told g.D.Dialer.faults g.N.Nonces.left g.N.Nonces.faults _ _ _ _)

pub returns-in-Err-Usage-clause-ran : goal.returns-in-Err-Usage-clause-ran
returns-in-Err-Usage-clause-ran g c =
    let none = c.in-Err-Usage.ensures c.in-Err-Usage.field-0-is in
    let happens = Happens g.D.Dialer.told g.D.Dialer.faults g.N.Nonces.left g.N.Nonces.faults c.args.dialer.now c.args.dialer.now c.args.nonces.now c.args.nonces.now in
    ran happens _ (asked c.args.words.now) _ _ _ (of_command happens None (asked c.args.words.now) _ _ _ (sym none)
    (only_finished (Answers happens None) (λ e. e ≡ refused [] Usage) (λ e is. is)
    (text_finishes (λ e. e ≡ refused [] Usage) Usage _ (g.S.Shelf.told c.args.shelf.now) (g.S.Shelf.faults c.args.shelf.now) refl c.refuse.ensures.sink.later c.refuse.ensures.printed)))
    (of_usage (asked c.args.words.now) (g.S.Shelf.told c.args.shelf.now) (g.S.Shelf.told c.args.shelf.now) c.refuse.result none) (drawn g.D.Dialer.told g.D.Dialer.faults g.N.Nonces.left g.N.Nonces.faults _ _ _ _)

pub returns-in-Err-OutOfMemory-clause-ran : goal.returns-in-Err-OutOfMemory-clause-ran
returns-in-Err-OutOfMemory-clause-ran g c =
    ran _ _ (asked c.args.words.now) _ _ _ (unread_short (g.S.Shelf.told c.args.shelf.now) (g.S.Shelf.faults c.args.shelf.now) refl)
    (of_nothing (asked c.args.words.now) (g.S.Shelf.told c.args.shelf.now) OutOfMemory) (drawn g.D.Dialer.told g.D.Dialer.faults g.N.Nonces.left g.N.Nonces.faults _ _ _ _)
