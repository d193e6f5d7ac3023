use Rattle.ots_request_set.proofs.Places.{of_list}
use Rattle.ots_request_set_tests.proofs.sets.set_of.Goals as goal

pub new-requires : goal.new-requires
new-requires c = of_list c.args.list.now c.in_ok-urls.urls.items c.in_ok-urls.ensures.ok
