use Rattle.ots_mirror.proofs.Ending.{rose_later}
use Rattle.ots_mirror.proofs.Running.{rose_then, store_ends}
use Rattle.ots_mirror.proofs.run.mirror_store.Goals as goal

pub returns-clause-ends : goal.returns-clause-ends
returns-clause-ends g c = rw c.into_disk.ensures
    (store_ends g.T.Dialer.told g.T.Dialer.faults c.args.address.now _ _ _ _ (rose_then _ _ _ c.print_end-status.ensures.sink.later) (rose_later _ _ _ c.make_rounds-status.ensures.sink.later) _ _ _ _ _ _ _ _ _ _ _ _ _ _
    c.make_rounds-status.ensures.made c.requires.limit c.make_rounds-status.ensures.known c.entries.ensures.count c.print_end-status.ensures.printed)

pub returns-clause-keeps : goal.returns-clause-keeps
returns-clause-keeps g c = rw c.into_disk.ensures c.make_rounds-status.ensures.keeps

pub returns-clause-moments : goal.returns-clause-moments
returns-clause-moments g c all owner = rw c.into_disk.ensures (c.make_rounds-status.ensures.moments all owner)
