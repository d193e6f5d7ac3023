use Rattle.std.proofs.Common.{[], arith, refl}
use Rattle.ots_base.specs.Cause.{Rose}
use Rattle.ots_gateway_words.specs.Words.{read_as}
use Rattle.ots_gateway_words.specs.declared.status.GateStatus.TheVariants.{OutOfMemory, Usage}
use Rattle.ots_gateway_run.specs.Rounds.{Moment, Outside}
use Rattle.ots_gateway_run.specs.Run.{asks, ended, no_words_memory, usage}
use Rattle.ots_gateway_run.proofs.Running.{asked_as, printed_whole}
use Rattle.ots_gateway_run.proofs.run.run_gateway.Goals as goal

pub returns-in-Ok-clause-ends : goal.returns-in-Ok-clause-ends
returns-in-Ok-clause-ends g c =
    let o : Outside g.row.A.Denot g.row.A-Link.Denot g.row.T.Denot = record { coming = g.A.Accepter.coming; returned = g.A.Accepter.returned; accepted = g.A.Accepter.accepted; accept_faults = g.A.Accepter.faults; link_told = g.A.Link.Link.told; link_faults = g.A.Link.Link.faults; told = g.T.Dialer.told; dial_faults = g.T.Dialer.faults } in
    let old : Moment g.row.A.Denot g.row.T.Denot = record { accepter = c.args.accepter.now; dialer = c.args.dialer.now; nonces = record { left = g.N.Nonces.left c.args.nonces.now; faults = g.N.Nonces.faults c.args.nonces.now } } in
    let new : Moment g.row.A.Denot g.row.T.Denot = record { accepter = c.gather-status.new.accepter; dialer = c.gather-status.new.dialer; nonces = record { left = g.N.Nonces.left c.gather-status.new.nonces; faults = g.N.Nonces.faults c.gather-status.new.nonces } } in
    let made = c.gather-status.ensures.comes in
    record {
      ending = made.0;
      comes = asks (read_as c.in-Ok.asked) c.in-Ok.ensures
          (asked_as o (read_as c.in-Ok.asked) (Rose (g.K.Sink.faults c.args.out.now) (g.K.Sink.faults c.gather-status.new.out)) (Rose (g.K.Sink.faults c.args.out.now) (g.K.Sink.faults c.print_refusal.new.out))
          (λ rose. let later = c.print_refusal.ensures.sink.later in omega (arith, rose, later)) old new made.0 made.2);
      printed = printed_whole (Rose (g.K.Sink.faults c.args.out.now) (g.K.Sink.faults c.gather-status.new.out)) (Rose (g.K.Sink.faults c.gather-status.new.out) (g.K.Sink.faults c.print_refusal.new.out))
          (Rose (g.K.Sink.faults c.args.out.now) (g.K.Sink.faults c.print_refusal.new.out))
          (λ rose. let later = c.print_refusal.ensures.sink.later in omega (arith, rose, later)) (λ rose. let later = c.gather-status.ensures.sink.later in omega (arith, rose, later))
          (g.K.Sink.taken c.args.out.now) (g.K.Sink.taken c.gather-status.new.out) (g.K.Sink.taken c.print_refusal.new.out) made.0 c.gather-status.result c.print_refusal.result made.1 made.3
          c.print_refusal.ensures.printed;
    }

pub returns-in-Err-Usage-clause-ends : goal.returns-in-Err-Usage-clause-ends
returns-in-Err-Usage-clause-ends g c = record { ending = ended Usage []; comes = usage (c.in-Err-Usage.ensures c.in-Err-Usage.field-0-is) refl refl; printed = c.print_refusal-in-Err-Usage.ensures.printed }

pub returns-in-Err-OutOfMemory-clause-ends : goal.returns-in-Err-OutOfMemory-clause-ends
returns-in-Err-OutOfMemory-clause-ends g c = record { ending = ended OutOfMemory []; comes = no_words_memory refl refl; printed = c.print_refusal-in-Err-OutOfMemory.ensures.printed }
