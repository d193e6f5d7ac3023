use Rattle.ots_verifier.proofs.Outcomes.{end_fits, tree_bad, whole_good}
use Rattle.ots_verifier.proofs.outcome.found_after.Goals as goal

pub fault_of_end-requires : goal.fault_of_end-requires
fault_of_end-requires c = let r = c.requires.3 in end_fits _ _ _ c.in-Tree.header c.args.following.now (rw c.in-Tree.is at r.within) r.size

pub returns-in-Tree : goal.returns-in-Tree
returns-in-Tree c = λ bitcoin litecoin bytes h.
    (h.size, rw c.fault_of_end.ensures (tree_bad bitcoin litecoin bytes c.in-Tree.header c.args.following.now (rw c.in-Tree.is at h.within)))

pub returns-in-Whole : goal.returns-in-Whole
returns-in-Whole c = λ bitcoin litecoin bytes h.
    rw c.confirmation.ensures (whole_good bitcoin litecoin bytes c.in-Whole.header c.args.following.now.best (rw c.in-Whole.is at h.within) h.size)

pub returns-in-Refused : goal.returns-in-Refused
returns-in-Refused c = λ bitcoin litecoin bytes h. let r = rw c.in-Refused.is at h.within in (h.size, r.fault)
