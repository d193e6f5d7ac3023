use Rattle.ots_tree.proofs.Closing.{front_room}
use Rattle.ots_tree.proofs.laws.room_of_fronts.Goals as goal

pub returns : goal.returns
returns c = front_room
