use Rattle.std.proofs.Common.{◌≡◌, ◌-◌, ◌<◌, ◌≤◌, length, take, false}
use Rattle.ots_base.specs.Told.{BothTold}
use Rattle.ots_outside.specs.Link.{LinkGives}
use Rattle.ots_http.specs.HeadRead.{IsUndecided}
use Rattle.ots_http.specs.LineEnds.{IsBlank}
use Rattle.ots_http.specs.declared.limits.TheConstants.{MAX_HEAD}
use Rattle.ots_http.proofs.heads.read_head.Given as goal

-- What came stands at the start of the buffer, it begins with no head yet, and until one begins it is blank.
abbrev pub invariant-loop-filled : goal.invariant-loop-filled
invariant-loop-filled g l =
    let link = g.L.Link in
    let head = g.H.Head in
    record {
      room : length l.buffer ≡ length l.fn.buffer;
      fits : l.filled ≤ MAX_HEAD;
      gives : BothTold (LinkGives (take l.filled l.buffer)) (link.told l.fn.link) (link.told l.link);
      undecided : 0 < l.filled → IsUndecided head.none head.outside (take l.filled l.buffer);
      blank : l.begun ≡ false → IsBlank (take l.filled l.buffer);
      later : link.faults l.fn.link ≤ link.faults l.link;
      same : link.same l.fn.link l.link;
    }

-- Each turn reads a byte.
abbrev pub decreases-loop-filled : goal.decreases-loop-filled
decreases-loop-filled g l = MAX_HEAD - l.filled
