-- The list counts its rows in a word.
use Rattle.std.proofs.Common.{arith}
use Rattle.link_server.proofs.table.make_room.Goals as goal

pub overflow_add-all : goal.overflow_add-all
overflow_add-all c = omega (arith, c.len-all.ensures, c.requires.few)
