use Rattle.std.proofs.Common.{◌≡◌, ℕ, [], refl, ap, arith}
use Rattle.std.specs.Prelude.{Option, None, Some, Ok}
use Rattle.ots_base.specs.Told.{IfTold}
use Rattle.ots_connection.specs.Stamping.{late}
use Rattle.ots_connection.proofs.Held.{no_hold}
use Rattle.ots_connection.proofs.stamping.stamp_digest.Goals as goal

-- the clock's second, which was not read
second_of : (o : Option ℕ) → (second : ℕ) × IfTold o (λ told. second ≡ told)
second_of None = (0, tt)
second_of (Some second) = (second, refl)

pub returns-in-Err-clause-handles : goal.returns-in-Err-clause-handles
returns-in-Err-clause-handles g c =
    let unread = second_of (g.C.Clock.coming c.args.clock.now) in
    record {
      rows = [];
      holds = no_hold c.args.pass.now c.requires.free;
      does = record {
        nonce = None;
        draws = (c.in-Err.ensures.failed, refl, c.in-Err.ensures.cause.failed);
        second = unread.0;
        told = unread.1;
        comes = (refl, ap Ok c.in_words.ensures.due);
      };
    }

pub returns-then-second-from-clause-handles : goal.returns-then-second-from-clause-handles
returns-then-second-from-clause-handles g c =
    record {
      rows = [];
      holds = no_hold c.args.pass.now c.requires.free;
      does = record {
        nonce = Some c.fill16.new.out;
        draws = (c.fill16.array_long, c.in-Ok.ensures.drawn);
        second = c.second-second.result;
        told = c.second-second.ensures.second;
        comes = late (omega (arith, c.from.ensures)) refl (ap Ok c.in_words-then-second-from.ensures.due);
      };
    }

pub returns-else-second-from-clause-handles : goal.returns-else-second-from-clause-handles
returns-else-second-from-clause-handles g c =
    let k = c.stamp_at.ensures.comes in
    record {
      rows = k.0;
      holds = k.1;
      does = record {
        nonce = Some c.fill16.new.out;
        draws = (c.fill16.array_long, c.in-Ok.ensures.drawn);
        second = c.second-second.result;
        told = c.second-second.ensures.second;
        comes = k.2;
      };
    }
