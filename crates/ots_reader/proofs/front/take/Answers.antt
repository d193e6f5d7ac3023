use Rattle.std.proofs.Common.{refl}
use Rattle.ots_reader.proofs.Steps.{node_message, has_room, stands_after}
use Rattle.ots_reader.proofs.front.take.Goals as goal

pub take_turn-requires-clause-least : goal.take_turn-requires-clause-least
take_turn-requires-clause-least c = (node_message c.args.front.now c.requires.stands c.requires.open).least

pub take_turn-requires-clause-greatest : goal.take_turn-requires-clause-greatest
take_turn-requires-clause-greatest c = (node_message c.args.front.now c.requires.stands c.requires.open).greatest

pub take_turn-requires-clause-room : goal.take_turn-requires-clause-room
take_turn-requires-clause-room c = has_room c.args.front.now c.requires.stands c.requires.open

pub returns-clause-stands : goal.returns-clause-stands
returns-clause-stands c =
    stands_after c.args.front.now _ _ c.args.spelling.now c.in-Ok.open c.requires.stands c.requires.open c.requires.spelled (record {
      below = refl;
      tokens = c.and.ensures _ c.requires.spelled;
      place = refl;
      whole = refl;
      room = c.in-Ok.ensures.room;
      moves = c.in-Ok.ensures.moves;
    })
