use Rattle.std.proofs.Common.{arith}
use Rattle.ots_request_set.proofs.Kept.{place_in, place_small}
use Rattle.ots_request_set.proofs.set.RequestSet.count.Goals as goal

pub offset_bounds-counts-url : goal.offset_bounds-counts-url
offset_bounds-counts-url c =
    let small = place_small c.self.inside.urls.items _ _ _ c.args.url c.self.invariant (place_in _ _ c.args.url c.self.view_is c.requires) in omega (arith, small)

pub bounds-counts-url : goal.bounds-counts-url
bounds-counts-url c = place_small c.self.inside.urls.items _ _ _ c.args.url c.self.invariant (place_in _ _ c.args.url c.self.view_is c.requires)
