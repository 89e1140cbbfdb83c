use Rattle.std.proofs.Common.{◌≡◌, take, length}
use Rattle.std.specs.Vec.{vec_capacity}
use Rattle.link_server.specs.KeyedList.{AreStamps}
use Rattle.link_server.proofs.keyed_list.renew_stamps.Given as goal

-- the keys seen so far have the stamps from 0 on
abbrev pub invariant-loop-key : goal.invariant-loop-key
invariant-loop-key l = record {
  are : AreStamps (take l.key-index l.keys) l.stamps.items l.under.items l.stamp;
  counted : l.stamp ≡ l.key-index;
  capacity : vec_capacity l.stamps ≡ vec_capacity l.initial.stamps;
  long : length l.under.items ≡ length l.initial.under.items;
}
