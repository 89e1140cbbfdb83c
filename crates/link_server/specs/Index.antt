-- A link finds the row of a channel by an index, which keeps the key of the channel's row under the channel's number. What it has for
-- a channel without a row means nothing, so a look-up compares the channel of the row under the key.
use Rattle.std.specs.Prelude.{◌≡◌, ℕ, ◌<◌, List, length, map, slice_index_or}
use Rattle.net_units.specs.Numbers.{channel_number}
use Rattle.link_server.specs.KeyedList.{AreApart}
use Rattle.link_server.specs.declared.table.served_row.ServedRow.{ServedRow}

-- the number of a row's channel
abbrev pub channel_in : ServedRow → ℕ
channel_in row = channel_number row.chan

-- the numbers of the rows' channels
abbrev pub channels_in : List ServedRow → List ℕ
channels_in rows = map channel_in rows

-- the index leads from the channel of this number to this key
pub record LeadsTo (index : List ℕ) (channel key : ℕ) : Type 0 where
  pub inside : channel < length index
  pub there : slice_index_or index channel 0 ≡ key

-- it leads from each of these channels to its key, which is no other's
pub record IsIndex (index keys channels : List ℕ) : Type 0 where
  pub long : length keys ≡ length channels
  pub apart : AreApart keys
  pub leads : (k d : ℕ) → k < length channels → LeadsTo index (slice_index_or channels k d) (slice_index_or keys k 0)
