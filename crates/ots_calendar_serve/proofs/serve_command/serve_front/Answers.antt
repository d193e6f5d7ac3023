use Rattle.std.proofs.Common.{sym, subst, ◌∙◌}
use Rattle.ots_calendar_serve.proofs.Serving.{acknowledges, done_ended, ends_so, printed_done, store_keeps}
use Rattle.ots_calendar_serve.proofs.serve_command.serve_front.Goals as goal

pub returns-clause-tells : goal.returns-clause-tells
returns-clause-tells g c = record {
  status = c.status_of.result;
  ends = ends_so _ _ _ _ c.serve_links-ended.result.ending c.status_of.ensures c.serve_links-ended.ensures.done c.serve_links-ended.ensures.answered c.serve_links-ended.ensures.fault;
  printed = rw (sym c.serve_links-ended.ensures.count) c.print-status.ensures.printed;
}

pub returns-clause-keeps : goal.returns-clause-keeps
returns-clause-keeps g c = λ b image.
    store_keeps g.D.Disk.bytes g.D.Disk.images c.args.book.store c.serve_links-ended.result.book.store c.stands.ensures.store c.stands-2.ensures.store c.serve_links-ended.ensures.records
    b (subst (λ d. g.D.Disk.images d b) c.into_disk.ensures image)

pub returns-clause-acknowledged : goal.returns-clause-acknowledged
returns-clause-acknowledged g c = λ done.
    let was = done_ended c.serve_links-ended.result.ending (sym c.status_of.ensures ∙ printed_done _ _ _ _ _ _ c.print-status.ensures.printed done) in
    acknowledges g.D.Disk.bytes g.D.Disk.images c.serve_links-ended.result.book.store c.stands-2.ensures.store _ c.into_disk.ensures g.A.Link.Link.told g.A.Link.Link.faults _
    (c.serve_links-ended.ensures.within c.requires was)
