use Rattle.std.proofs.Common.{◌+◌, arith, refl, rules}
use Rattle.std.proofs.lemmas.List.{length-take}
use Rattle.ots_http.specs.declared.limits.TheConstants.{MAX_HEAD}
use Rattle.ots_http.proofs.BufferLemmas.{gives_more, came_in_all, blank_more}
use Rattle.ots_http.proofs.HeadLemmas.{at_end_is, none_in_full, none_ever}
use Rattle.ots_http.proofs.heads.read_head.Goals as goal

pub loop-filled-init : goal.loop-filled-init
loop-filled-init g c = record {
  room = search rules;
  fits = search rules;
  gives = search rules;
  undecided = λ some. absurd (omega (arith, some));
  blank = search rules;
  later = search rules;
  same = search rules;
}

pub parse-requires-clause-blank : goal.parse-requires-clause-blank
parse-requires-clause-blank g c =
    blank_more c.loop-filled.begun c.has_begun-begun.result c.loop-filled.buffer c.read_after.new.buffer c.loop-filled.filled c.in_ok-count.count c.in_ok-count.ensures.more.prefix
    c.loop-filled.invariant.blank c.has_begun-begun.ensures

pub loop-filled-preserved : goal.loop-filled-preserved
loop-filled-preserved g c =
    record {
      room = search rules;
      fits = c.in_ok-count.ensures.more.within;
      gives = gives_more _ _ _ _ _ _ _ _ c.loop-filled.invariant.gives c.in_ok-count.ensures.more;
      undecided = λ some. rw c.in-Ok-Partial.field-0-is at c.in-Ok-Partial.ensures.undecided;
      blank = blank_more c.loop-filled.begun c.has_begun-begun.result c.loop-filled.buffer c.read_after.new.buffer c.loop-filled.filled c.in_ok-count.count c.in_ok-count.ensures.more.prefix
          c.loop-filled.invariant.blank c.has_begun-begun.ensures;
      later = search rules;
      same = search rules;
    }

pub returns-then-count-eq0-clause-came : goal.returns-then-count-eq0-clause-came
returns-then-count-eq0-clause-came g c =
    came_in_all _ _ _ _ MAX_HEAD (gives_more _ _ _ _ _ _ _ _ c.loop-filled.invariant.gives c.in_ok-count.ensures.more) c.in_ok-count.ensures.more.within

pub returns-in-Ok-Complete-clause-came : goal.returns-in-Ok-Complete-clause-came
returns-in-Ok-Complete-clause-came g c =
    came_in_all _ _ _ _ MAX_HEAD (gives_more _ _ _ _ _ _ _ _ c.loop-filled.invariant.gives c.in_ok-count.ensures.more) c.in_ok-count.ensures.more.within

pub returns-in-Ok-Complete-clause-head : goal.returns-in-Ok-Complete-clause-head
returns-in-Ok-Complete-clause-head g c =
    record {
      fits = c.in_ok-count.ensures.more.within;
      parts = rw c.in-Ok-Complete.field-0-is at c.in-Ok-Complete.ensures.covers;
      gives = gives_more _ _ _ _ _ _ _ _ c.loop-filled.invariant.gives c.in_ok-count.ensures.more;
    }

pub returns-in-Err-clause-came : goal.returns-in-Err-clause-came
returns-in-Err-clause-came g c =
    came_in_all _ _ _ _ MAX_HEAD (gives_more _ _ _ _ _ _ _ _ c.loop-filled.invariant.gives c.in_ok-count.ensures.more) c.in_ok-count.ensures.more.within

pub returns-in-Err-clause-head : goal.returns-in-Err-clause-head
returns-in-Err-clause-head g c =
    none_ever g.H.Head.outside _ _ _ (gives_more _ _ _ _ _ _ _ _ c.loop-filled.invariant.gives c.in_ok-count.ensures.more)
    (omega (arith, length-take (c.loop-filled.filled + c.in_ok-count.count) c.read_after.new.buffer, c.in_ok-count.ensures.more.within))
    c.in-Err.ensures.never

pub returns-clause-head : goal.returns-clause-head
returns-clause-head g c =
    none_in_full g.H.Head.none g.H.Head.outside _ _ _ c.loop-filled.invariant.gives (omega (arith, length-take c.loop-filled.filled c.loop-filled.buffer))
    (c.loop-filled.invariant.undecided (omega arith))

pub returns-then-count-eq0-clause-head : goal.returns-then-count-eq0-clause-head
returns-then-count-eq0-clause-head g c =
    at_end_is g.H.Head.covers g.H.Head.none g.H.Head.outside _ _ c.loop-filled.buffer _ _ _ c.loop-filled.filled c.at_end.result c.at_end.ensures
    (gives_more _ _ _ _ _ _ _ _ c.loop-filled.invariant.gives c.in_ok-count.ensures.more)
    (c.in_ok-count.ensures.more.ended c.if-count-eq0.true) c.if-count-eq0.true c.in_ok-count.ensures.more.prefix refl
    (omega (arith, c.loop-filled.invariant.room, c.loop-filled.invariant.fits, c.requires.room)) _ _ c.loop-filled.invariant.undecided
