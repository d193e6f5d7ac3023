use Rattle.std.proofs.Common.{◌≡◌, ◌-◌, ◌≤◌, take, drop, max}
use Rattle.ots_base.specs.Told.{BothTold}
use Rattle.ots_outside.specs.Link.{LinkGives}
use Rattle.ots_http.proofs.reading.read_on.Given as goal

-- What came stands in the buffer after what stood there.
abbrev pub invariant-loop-at : goal.invariant-loop-at
invariant-loop-at g l =
    let link = g.L.Link in
    record {
      least : l.fn.filled ≤ l.at;
      most : l.at ≤ max l.fn.filled l.end;
      prefix : take l.fn.filled l.buffer ≡ take l.fn.filled l.fn.buffer;
      gives : BothTold (LinkGives (drop l.fn.filled (take l.at l.buffer))) (link.told l.fn.link) (link.told l.link);
      later : link.faults l.fn.link ≤ link.faults l.link;
      same : link.same l.fn.link l.link;
    }

-- Each turn reads a byte.
abbrev pub decreases-loop-at : goal.decreases-loop-at
decreases-loop-at g l = l.end - l.at
