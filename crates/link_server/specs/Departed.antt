-- A row itself says how many of its packets are here: it counts those that it has taken, and how many of these have departed.
-- A packet that departs is of the row with its lead, if that row is still held, and the row is found by the packet's channel.
use Rattle.std.specs.Prelude.{◌≡◌, ℕ, suc, ◌+◌, ◌&&◌, nat_eq, nat_lt, if◌then◌else◌, Option, Some, None, List, [], ◌∷◌}
use Rattle.std.specs.Coded.{×_prop, Unit-prop}
use native.Mathlib.Nat.{ℕ_set}
use Rattle.net_units.specs.Numbers.{channel_number}
use Rattle.link_steps.specs.Buffer.{held_packets}
use Rattle.link_steps.specs.Account.{AccountRow, is_account_of, leaves_by}
use Rattle.link_steps.specs.Lists.{Each}
use Rattle.link_steps.specs.Service.{Arrival, Start}
use Rattle.link_server.specs.Packets.{gone_of}
use Rattle.link_server.specs.SoundProp.{Each-prop}
use Rattle.link_server.specs.declared.queue.held_packet.Gone.{Gone}
use Rattle.link_server.specs.declared.table.served_row.ServedRow.{ServedRow}

-- how many packets of a row have departed
abbrev pub departed_in : ServedRow → ℕ
departed_in row = row.departed

-- a packet with the row's lead is of the row's channel
abbrev pub IsOwn : AccountRow → Arrival → Type 0
IsOwn row p = p.lead ≡ row.lead → channel_number p.chan ≡ channel_number row.terms.chan

-- of the packets that the row has taken, all but those that have departed are among these, and they are of its channel
pub record IsCounted (here : List Arrival) (row : AccountRow) (departed : ℕ) : Type 0 where
  pub taken : departed + held_packets row.lead here ≡ row.taken
  pub own : Each (IsOwn row) here

-- and so for each row and the number of its packets that have departed
abbrev pub AreCounted : List Arrival → List AccountRow → List ℕ → Type 0
AreCounted here [] [] = Unit {0}
AreCounted here (row ∷ rows) (n ∷ departed) = IsCounted here row n × AreCounted here rows departed
AreCounted here [] (n ∷ departed) = ⊥
AreCounted here (row ∷ rows) [] = ⊥

-- the packet that leaves the link at the end of tick t, where this one occupies it
abbrev pub leaver : ℕ → ℕ → Option Start → Option Gone
leaver rate t None = None
leaver rate t (Some start) = if leaves_by rate t start then Some (gone_of start.packet) else None

-- how many packets of each row have departed, once this one has: one more of its channel's row, if that has its lead
-- and a packet here
abbrev pub departed_after : Option Gone → List AccountRow → List ℕ → List ℕ
departed_after None rows departed = departed
departed_after (Some gone) [] departed = departed
departed_after (Some gone) (row ∷ rows) [] = []
departed_after (Some gone) (row ∷ rows) (n ∷ departed) = (if is_account_of gone.chan row && (nat_eq row.lead gone.lead && nat_lt n row.taken) then suc n else n) ∷ departed_after (Some gone) rows departed

-- ---- there is at most one proof that the rows are counted

pub AreCounted-prop : (here : List Arrival) (rows : List AccountRow) (departed : List ℕ) → IsProp (AreCounted here rows departed)
AreCounted-prop here [] [] = Unit-prop
AreCounted-prop here (row ∷ rows) (n ∷ departed) = ×_prop (Prim.hlevel (ℕ_set, Each-prop)) (AreCounted-prop here rows departed)
AreCounted-prop here [] (n ∷ departed) = λ x y. absurd x
AreCounted-prop here (row ∷ rows) [] = λ x y. absurd x
