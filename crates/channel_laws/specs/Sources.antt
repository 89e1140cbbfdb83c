-- A channel whose source keeps its contract, and how the link then serves it.
use Rattle.std.specs.Prelude.{◌≡◌, ◌⊎◌, ℕ, []}
use Rattle.link_steps.specs.Lists.{Each, Among}
use Rattle.link_steps.specs.Rows.{Row}
use Rattle.link_steps.specs.Scan.{Scan}
use Rattle.link_steps.specs.SourceGuarantee.{SourceKeeps}
use Rattle.channel_laws.specs.Channels.{channel_packets, channel_of}

-- the channel's row, held or gone, whose source keeps its contract
pub record SourceIsKept (c : ℕ) (clock : ℕ) (scan : Scan) : Type 0 where
  pub row : Row
  pub there : Among row scan.rows ⊎ Among row scan.gone
  pub chan : channel_of row ≡ c
  pub keeps : SourceKeeps clock row

-- no packet of the row was dropped, and each of the channel was eligible as it arrived
pub record SourceIsServed (c : ℕ) (scan : Scan) (row : Row) : Type 0 where
  pub none_dropped : row.dropped ≡ []
  pub at_once : Each (λ p. p.eligible ≡ p.at) (channel_packets c scan.packets)
