use Rattle.std.proofs.Common.{◌≡◌, ℕ, Global, Vec, ap, map, rules}
use Rattle.std.specs.Map.Iter.{deref}
use Rattle.std.proofs.lemmas.Map.Iter.{iter_end, iter_turn}
use Rattle.ots_sheet.specs.Request.{request_parts}
use Rattle.ots_request_set.proofs.Kept.{all_requests, key_at, more_requests, order_in, valid_in}
use Rattle.ots_request_set.proofs.set.RequestSet.requests.Goals as goal

pub returns-in_err-requests-clause-valid : goal.returns-in_err-requests-clause-valid
returns-in_err-requests-clause-valid c = valid_in _ c.args.self.now c.self.inside.urls.items c.self.inside.keys.keys _ _ c.self.view_is c.self.invariant

pub returns-in_err-requests-clause-order : goal.returns-in_err-requests-clause-order
returns-in_err-requests-clause-order c = order_in _ c.args.self.now c.self.inside.urls.items c.self.inside.keys.keys _ _ c.self.view_is c.self.invariant c.len.ensures.ordered

pub returns-in_err-push-clause-valid : goal.returns-in_err-push-clause-valid
returns-in_err-push-clause-valid c = valid_in _ c.args.self.now c.self.inside.urls.items c.self.inside.keys.keys _ _ c.self.view_is c.self.invariant

pub returns-in_err-push-clause-order : goal.returns-in_err-push-clause-order
returns-in_err-push-clause-order c = order_in _ c.args.self.now c.self.inside.urls.items c.self.inside.keys.keys _ _ c.self.view_is c.self.invariant c.len.ensures.ordered

pub returns-clause-valid : goal.returns-clause-valid
returns-clause-valid c = valid_in _ c.args.self.now c.self.inside.urls.items c.self.inside.keys.keys _ _ c.self.view_is c.self.invariant

pub returns-clause-order : goal.returns-clause-order
returns-clause-order c = order_in _ c.args.self.now c.self.inside.urls.items c.self.inside.keys.keys _ _ c.self.view_is c.self.invariant c.len.ensures.ordered

pub loop-key-init : goal.loop-key-init
loop-key-init c = ap (map request_parts) c.in_ok-requests.ensures.items

pub request_of-requires : goal.request_of-requires
request_of-requires c =
    let turn = iter_turn deref c.self.inside.keys.keys c.loop-key.yielded c.into_iter-key-iterator.result c.loop-key.key-iterator c.next.new.self c.next.result (search rules)
    c.loop-key.yielded_by c.in-Some.key c.in-Some.is c.next.ensures.steps in
    key_at (λ (k : Vec ℕ Global). k.items) c.self.inside.urls.items _ c.self.inside.keys.keys _ _ _ c.in-Some.key.now _ c.self.invariant turn.1 (search rules) (search rules)

pub loop-key-preserved : goal.loop-key-preserved
loop-key-preserved c =
    more_requests (λ (k : Vec ℕ Global). k.items) c.self.inside.urls.items c.deref.result.now c.loop-key.requests.items c.push.new.self.items c.request_of.result c.loop-key.yielded
    c.in-Some.key c.deref-in-loop-key.result.now c.in_ok-push.ensures.items c.request_of.ensures c.loop-key.invariant (search rules) (search rules)

pub returns-clause-all : goal.returns-clause-all
returns-clause-all c =
    let all : map deref c.loop-key.yielded ≡ c.self.inside.keys.keys = search (rules, iter_end) in
    all_requests (λ (k : Vec ℕ Global). k.items) c.args.self.now c.self.inside.urls.items c.self.inside.keys.keys c.loop-key.requests.items c.loop-key.yielded c.self.view_is all c.loop-key.invariant
