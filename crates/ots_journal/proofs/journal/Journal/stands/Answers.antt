use Rattle.ots_disk.specs.Moments.{if_told}
use Rattle.ots_journal.proofs.Standing.{keeps_either, keeps_sure}
use Rattle.ots_journal.proofs.journal.Journal.stands.Goals as goal

pub returns : goal.returns
returns g c =
    let d = g.D.Disk in
    let j = c.self.inside in
    rw (← c.self.view_is) (record {
      either = keeps_either (d.images j.disk) _ _ _ _ c.self.invariant.0;
      sure = keeps_sure (d.images j.disk) _ _ _ _ c.self.invariant.0;
      read = λ is. if_told (d.bytes j.disk) _ (λ b told. keeps_sure (d.images j.disk) _ _ _ _ c.self.invariant.0 is b (g.met.D.Disk.read_is_image j.disk b told));
      within = c.self.invariant.4;
    })
