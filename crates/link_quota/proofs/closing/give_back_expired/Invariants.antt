use Rattle.std.proofs.Common.{take}
use Rattle.link_server.specs.Held.{reservations_held}
use Rattle.link_quota.specs.Closing.{AreLowered}
use Rattle.link_quota.proofs.closing.give_back_expired.Given as goal

-- what the rows seen so far held is taken off, where they are gone
abbrev pub invariant-loop-place : goal.invariant-loop-place
invariant-loop-place l = AreLowered (record { shape = l.link.shape; split = l.split }) (reservations_held l.link) (take l.place l.rows) l.initial.shares l.shares
