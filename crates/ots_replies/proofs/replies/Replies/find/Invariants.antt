use Rattle.std.proofs.Common.{◌≡◌, ◌<◌, ◌≤◌, ◌-◌, ℕ, length, get_or}
use Rattle.std.specs.declared.cmp.Ordering.TheVariants.{Greater, Less}
use Rattle.ots_sheet.specs.Order.{request_order}
use Rattle.ots_sheet.specs.Request.{request_parts}
use Rattle.ots_sheet.specs.Reply.{Answer}
use Rattle.ots_replies.proofs.replies.Replies.find.Given as goal

-- What is below `low` comes before the request, and what is from `high` on comes after it.
abbrev pub invariant-loop-low : goal.invariant-loop-low
invariant-loop-low l = record {
  order : l.low ≤ l.high;
  within : l.high ≤ length l.self-inside.store;
  before : (d : Answer) (k : ℕ) → k < l.low → request_order (get_or l.self-inside.store k d).request (request_parts l.request) ≡ Less;
  after : (d : Answer) (k : ℕ) → l.high ≤ k → k < length l.self-inside.store
      → request_order (get_or l.self-inside.store k d).request (request_parts l.request) ≡ Greater;
}

abbrev pub decreases-loop-low : goal.decreases-loop-low
decreases-loop-low l = l.high - l.low
