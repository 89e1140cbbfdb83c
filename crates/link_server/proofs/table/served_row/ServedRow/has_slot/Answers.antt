-- A slot is free where the slots are more than the packets that hold one.
use Rattle.std.proofs.Common.{refl}
use Rattle.link_server.proofs.table.served_row.ServedRow.has_slot.Goals as goal

pub returns : goal.returns
returns c = rw (c.slots.ensures.value) refl
