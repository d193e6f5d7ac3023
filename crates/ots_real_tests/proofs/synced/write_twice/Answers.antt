use Rattle.ots_real_tests.proofs.synced.write_twice.Goals as goal

-- The first write leaves the slot in use.
pub write-second-requires : goal.write-second-requires
write-second-requires c = rw (c.write-first.ensures.others.slots _) (c.in_ok-slot.ensures.ok.is_open)
