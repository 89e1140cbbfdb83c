-- A split link lists its closing rows, each as a caller saw it when it was released. A closing row stays as it is until it
-- expires, and no other row expires, so a tick in which rows do looks at these alone. What is summed over the list is what is
-- summed over the closing rows that are held. A reserve makes room in it for every row held, so a release wants no memory.
use Rattle.std.specs.Prelude.{◌≡◌, ℕ, ◌+◌, ◌≤◌, ◌<◌, Bool, true, false, if◌then◌else◌, Option, Some, None, is_some, List, length, slice_index}
use Rattle.std.specs.Coded.{le_prop}
use native.Mathlib.Nat.{ℕ_set}
use Rattle.traffic_contract.specs.Admission.{total}
use Rattle.link_steps.specs.declared.replies.Phase.TheVariants.{Closing}
use Rattle.link_steps.specs.Reservation.{Reservation, is_phase}
use Rattle.link_steps.specs.Split.{Link, Split, is_split}
use Rattle.link_server.specs.Held.{seen, seen_of}
use Rattle.link_server.specs.declared.held_row.HeldRow.{HeldRow}
use Rattle.link_quota.specs.declared.share.Share.{Share}
use Rattle.link_quota.specs.Places.{EachShare, EachChange, work_for, units_for_row}

-- whether a row is closing, and a number of it if it is
abbrev pub is_closing : Option HeldRow → Bool
is_closing None = false
is_closing (Some row) = is_phase row.phase Closing

abbrev pub if_closing : (HeldRow → ℕ) → HeldRow → ℕ
if_closing f row = if is_phase row.phase Closing then f row else 0

-- the number of a reservation, as a caller sees it, if that is closing
abbrev pub closing_part : List ℕ → (HeldRow → ℕ) → Reservation → ℕ
closing_part bounds f terms = if_closing f (seen bounds terms)

-- the list has each closing row that a split link holds, and no other
abbrev pub AreClosing : Link → List Reservation → List HeldRow → Type 0
AreClosing link held rows = is_split link.split ≡ true → (f : HeldRow → ℕ) → total f rows ≡ total (closing_part link.shape.bounds f) held

-- there is at most one proof of it
pub AreClosing-prop : (link : Link) (held : List Reservation) (rows : List HeldRow) → IsProp (AreClosing link held rows)
AreClosing-prop link held rows = Prim.hlevel ℕ_set

-- the list has room for every row that a split link holds, so that each may be released
abbrev pub HasRoomToClose : Split → List Reservation → ℕ → Type 0
HasRoomToClose split held capacity = is_split split ≡ true → length held ≤ capacity

pub HasRoomToClose-prop : (split : Split) (held : List Reservation) (capacity : ℕ) → IsProp (HasRoomToClose split held capacity)
HasRoomToClose-prop split held capacity = Prim.hlevel le_prop

-- ---- the rows that have expired

-- whether a row's channel still has one, and a number of the row if it has one, or none
abbrev pub is_held : List ℕ → List Reservation → HeldRow → Bool
is_held bounds held row = is_some (seen_of bounds held row.chan)

abbrev pub if_held : List ℕ → List Reservation → (HeldRow → ℕ) → HeldRow → ℕ
if_held bounds held f row = if is_held bounds held row then f row else 0

abbrev pub if_gone : List ℕ → List Reservation → (HeldRow → ℕ) → HeldRow → ℕ
if_gone bounds held f row = if is_held bounds held row then 0 else f row

-- a share has the parts of the rows that are gone
pub record HasGone (link : Link) (group : ℕ) (held : List Reservation) (rows : List HeldRow) (share : Share) : Type 0 where
  pub loads : (i : ℕ) → i < length link.shape.bounds → total (if_gone link.shape.bounds held (work_for link group (i + 1))) rows ≤ slice_index share.loads i
  pub units : total (if_gone link.shape.bounds held (units_for_row link group)) rows ≤ share.units

abbrev pub HaveGone : Link → List Reservation → List HeldRow → List Share → Type 0
HaveGone link held rows shares = EachShare link shares (λ quota share. HasGone link quota.group held rows share)

-- they are taken off it, and no other
pub record IsLowered (link : Link) (group : ℕ) (held : List Reservation) (rows : List HeldRow) (before after : Share) : Type 0 where
  pub loads : (i : ℕ) → i < length link.shape.bounds
      → slice_index after.loads i + total (if_gone link.shape.bounds held (work_for link group (i + 1))) rows ≡ slice_index before.loads i
  pub units : after.units + total (if_gone link.shape.bounds held (units_for_row link group)) rows ≡ before.units

-- and so for all shares
pub record AreLowered (link : Link) (held : List Reservation) (rows : List HeldRow) (before after : List Share) : Type 0 where
  pub long : length after ≡ length before
  pub each : EachChange link before after (λ quota share share'. IsLowered link quota.group held rows share share')
