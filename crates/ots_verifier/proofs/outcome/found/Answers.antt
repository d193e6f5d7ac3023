use Rattle.ots_verifier.proofs.Outcomes.{some_there, header_bad, within}
use Rattle.ots_verifier.proofs.outcome.found.Goals as goal

pub fault_of_header-fault-requires : goal.fault_of_header-fault-requires
fault_of_header-fault-requires c = let h = c.requires.3 in some_there c.requires.2 c.args.progress.now (rw c.in-Header.is at h.is_in)

pub returns-in-Header : goal.returns-in-Header
returns-in-Header c = λ bitcoin litecoin bytes h. header_bad bytes c.args.progress.now _ (rw c.in-Header.is at h.is_in) h.room c.fault_of_header-fault.ensures

pub found_after-requires : goal.found_after-requires
found_after-requires c = let r = c.requires in (r.0, r.1, r.2, within r.0 r.1 r.2 c.args.progress.now _ c.in-After.is r.3)

pub returns-in-After : goal.returns-in-After
returns-in-After c = λ bitcoin litecoin bytes h. c.found_after.ensures bitcoin litecoin bytes (within bitcoin litecoin bytes c.args.progress.now _ c.in-After.is h)
