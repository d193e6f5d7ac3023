use Rattle.ots_detached.proofs.Headers.{magic_first, version_second, hash_third, digest_last, is_header}
use Rattle.ots_detached.proofs.header.read_header.Goals as goal

pub returns-in-Some-clause-err : goal.returns-in-Some-clause-err
returns-in-Some-clause-err c = magic_first c.args.bytes.now c.in-Some.fault c.in-Some.ensures

pub returns-in-Some-version_fault-clause-err : goal.returns-in-Some-version_fault-clause-err
returns-in-Some-version_fault-clause-err c = version_second c.args.bytes.now c.in-Some-version_fault.fault c.in_default.ensures c.in-Some-version_fault.ensures

pub returns-in-Some-read_digest-clause-ok : goal.returns-in-Some-read_digest-clause-ok
returns-in-Some-read_digest-clause-ok c =
    is_header c.args.bytes.now c.in-Ok.hash c.in-Some-read_digest.digest c.in_default.ensures c.in_default-version_fault.ensures c.in-Ok.ensures.ok
    c.in-Some-read_digest.ensures.some.0 c.in-Some-read_digest.ensures.some.1

pub returns-in-None-clause-err : goal.returns-in-None-clause-err
returns-in-None-clause-err c =
    rw c.at.ensures (digest_last c.args.bytes.now c.in-Ok.hash c.in_default.ensures c.in_default-version_fault.ensures c.in-Ok.ensures.ok c.in-None.ensures.none)

pub returns-in-Err-clause-err : goal.returns-in-Err-clause-err
returns-in-Err-clause-err c = hash_third c.args.bytes.now c.in-Err.fault c.in_default.ensures c.in_default-version_fault.ensures c.in-Err.ensures.fault
