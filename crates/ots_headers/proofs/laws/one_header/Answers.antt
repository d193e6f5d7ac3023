use Rattle.ots_headers.proofs.HeaderBytes.{same_header}
use Rattle.ots_headers.proofs.laws.one_header.Goals as goal

pub returns : goal.returns
returns c =
    same_header c.args.header.now c.args.other.now c.to_bytes.result c.to_bytes-2.result
    c.to_bytes.ensures.bytes c.to_bytes.ensures.back c.to_bytes-2.ensures.bytes c.to_bytes-2.ensures.back
