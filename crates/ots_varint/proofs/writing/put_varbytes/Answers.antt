use Rattle.ots_varint.proofs.Written.{after_written}
use Rattle.ots_varint.proofs.writing.put_varbytes.Goals as goal

pub returns-clause-spelled : goal.returns-clause-spelled
returns-clause-spelled c =
    let call = c.put_number-start in
    rw c.copy_from_slice.ensures.after (after_written call.result c.args.bytes.now call.new.out c.args.out.now call.ensures.length call.ensures.spelled)
