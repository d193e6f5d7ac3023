use Rattle.std.proofs.Common.{◌∙◌, sym, [], subst, map, arith}
use Rattle.ots_archive_steps.proofs.Items.{got, got_of}
use Rattle.ots_archive_draft.specs.Writing.{MakesDraft}
use Rattle.ots_archive_steps.specs.Ends.{IfRoom}
use Rattle.ots_calendar_url.specs.CalendarUrl.{text_of}
use Rattle.ots_detached.specs.File.{file_of}
use Rattle.ots_draft.specs.Draft.{IsDraftOf}
use Rattle.ots_archive_draft.proofs.writing.write_draft.Goals as goal

pub returns : goal.returns
returns g c = IfRoom.done (
  _,
  c.in-Ok.proof,
  record {
    named = got_of (λ s. s.now) c.args.batch.names.now c.args.index (record { ref_ptr = (0, 0); now = [] }) c.requires.place;
    target = c.index-batch-index.result;
    at = got c.args.batch.targets.now c.args.index c.index-batch-index.result (let place = c.requires.place in let each = c.requires.each in omega (arith, place, each)) c.index-batch-index.is;
    draft = subst (λ ls. IsDraftOf ls c.args.index c.index-batch-index.result (map text_of c.args.batch.urls.now) c.in-Ok.proof) c.requires.ways
        (subst (λ t. IsDraftOf c.args.ways.now c.args.index t (map text_of c.args.batch.urls.now) c.in-Ok.proof) (sym c.index-batch-index.is) c.in-Ok.ensures);
  },
  subst (λ n. MakesDraft n (file_of c.in-Ok.proof) (g.W.World.told c.args.world.now) (g.W.World.told c.make_draft.new.world) c.make_draft.result) (c.as_str.ensures.value ∙ c.in-Ok-draft_name.ensures) c.make_draft.ensures,
)
