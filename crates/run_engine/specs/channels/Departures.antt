-- The departures of a channel's packets from a link. The packets of a channel leave each link of its route in the order of their
-- numbers, from 1; so of the rows of a run those over one link are counted.
use Rattle.std.specs.Prelude.{◌≡◌, ℕ, suc, Bool, nat_eq, ◌&&◌, List, [], ◌∷◌}
use Rattle.net_units.specs.Numbers.{channel_number, link_number}
use Rattle.run_record.specs.declared.rows.HopRow.{HopRow}

-- whether the row is of the channel of this number, over the link of this number
abbrev pub is_over : ℕ → ℕ → HopRow → Bool
is_over c n row = nat_eq (channel_number row.chan) c && nat_eq (link_number row.link) n

-- rows numbered from the next number on, in the order of time
abbrev pub AreCounted : ℕ → List HopRow → Type 0
AreCounted n [] = Unit {0}
AreCounted n (row ∷ rows) = (row.number ≡ suc n) × AreCounted (suc n) rows
