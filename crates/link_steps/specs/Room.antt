-- What a link has for a new contract. On a link that isn't split the best level is that of the admission test, and free is
-- what all held reservations leave of the buffer. On a split link a contract goes by the quota of its channel's group: the
-- best level is the least such that, at it and at each later level, the load of the group's reservations, with the new
-- one, is within the group's quota. Free is what they leave of the group's buffer.
use Rattle.std.specs.Prelude.{ℕ, zero, suc, ◌+◌, ◌-◌, Bool, true, nat_le, ◌&&◌, if◌then◌else◌, Option, List, length, map}
use Rattle.net_units.specs.LevelBounds.{bound_at, last_bound}
use Rattle.net_units.specs.declared.numbers.ChanNo.{ChanNo}
use Rattle.traffic_contract.specs.Admission.{total, work_up_to, first_level, best_level, refused_sum}
use Rattle.traffic_contract.specs.Contract.{Traffic}
use Rattle.link_steps.specs.Buffer.{held_units, free_units}
use Rattle.link_steps.specs.Reservation.{Reservation, admitted}
use Rattle.link_steps.specs.Shape.{server_of}
use Rattle.link_steps.specs.Split.{Link, is_split, group_of, is_in, level_part, buffer_part, quota_part}

-- its best level, if there is one, what the last level comes to with the new contract there, the bound or quota that this
-- is compared with, and the free units
pub record Room : Type 0 where
  pub best : Option ℕ
  pub sum : ℕ
  pub bound : ℕ
  pub free : ℕ

-- ---- of the whole link

unfoldable pub whole_room : Link → List Reservation → Traffic → Room
whole_room link held contract = record {
  best = best_level (server_of link.shape) (map admitted held) contract;
  sum = refused_sum (server_of link.shape) (map admitted held) contract;
  bound = last_bound link.shape.bounds;
  free = free_units link.shape held;
}

-- ---- of a group

-- what a reservation adds to the load of a group at the levels up to m
unfoldable pub group_work : Link → ℕ → ℕ → Reservation → ℕ
group_work link group m terms = if is_in link.split group terms.chan then work_up_to link.shape.rate m (bound_at link.shape.bounds m) (admitted terms) else 0

-- and to the units that it keeps
unfoldable pub group_units : Link → ℕ → Reservation → ℕ
group_units link group terms = if is_in link.split group terms.chan then held_units link.shape.bounds terms else 0

-- the group's load at the levels up to m, with a new contract at a level
abbrev pub group_sum : Link → List Reservation → ℕ → Traffic → ℕ → ℕ → ℕ
group_sum link held group contract level m =
    total (group_work link group m) held + work_up_to link.shape.rate m (bound_at link.shape.bounds m) (record { contract = contract; level = level })

-- the quota of the group at level m, and of the buffer
abbrev pub level_quota : Link → ℕ → ℕ → ℕ
level_quota link group m = quota_part (level_part m) link.split.quotas group

abbrev pub buffer_quota : Link → ℕ → ℕ
buffer_quota link group = quota_part buffer_part link.split.quotas group

-- whether level m is within the group's quota, with a new contract at a level
abbrev pub within_quota : Link → List Reservation → ℕ → Traffic → ℕ → ℕ → Bool
within_quota link held group contract level m = nat_le (group_sum link held group contract level m) (level_quota link group m)

-- whether `count` numbers from m on pass a test
unfoldable pub all_from : (ℕ → Bool) → ℕ → ℕ → Bool
all_from test m zero = true
all_from test m (suc count) = test m && all_from test (suc m) count

-- whether each level from m on is, with the contract at m
unfoldable pub group_admits : Link → List Reservation → ℕ → Traffic → ℕ → Bool
group_admits link held group contract m = all_from (within_quota link held group contract m) m (suc (length link.shape.bounds) - m)

unfoldable pub group_room : Link → List Reservation → ℕ → Traffic → Room
group_room link held group contract = record {
  best = first_level (group_admits link held group contract) 1 (length link.shape.bounds);
  sum = group_sum link held group contract (length link.shape.bounds) (length link.shape.bounds);
  bound = level_quota link group (length link.shape.bounds);
  free = buffer_quota link group - total (group_units link group) held;
}

-- ---- of the link

-- what a link that holds these reservations has for a new contract of a channel
unfoldable pub room_of : Link → List Reservation → ChanNo → Traffic → Room
room_of link held chan contract =
    if is_split link.split then group_room link held (group_of link.split chan) contract else whole_room link held contract
