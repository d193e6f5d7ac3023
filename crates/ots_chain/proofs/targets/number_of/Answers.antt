use Rattle.std.proofs.Common.{◌-◌, length, arith}
use Rattle.ots_chain.proofs.Numbers.{put_in_zeros}
use Rattle.ots_chain.proofs.targets.number_of.Goals as goal

pub returns : goal.returns
returns c =
    rw c.copy_from_slice.ensures.after (put_in_zeros (32 - c.args.zeros - length c.args.bytes.now)
    (32 - c.args.zeros - (32 - c.args.zeros - length c.args.bytes.now)) c.args.zeros c.args.bytes.now (omega (arith, c.requires)))
