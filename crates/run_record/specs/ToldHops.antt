-- A row that was kept while a run goes on gets its hop from the offers of the run at its end.
use Rattle.std.specs.Prelude.{List}
use Rattle.net_units.specs.Numbers.{channel_number, link_number}
use Rattle.run_record.specs.Rows.{hop_among, links_of}
use Rattle.run_record.specs.declared.done.Done.{Done}
use Rattle.run_record.specs.declared.rows.HopRow.{HopRow}

-- a row with the hop that the offers of a run tell
abbrev pub with_hop : List Done → HopRow → HopRow
with_hop run row = record row { hop = hop_among (link_number row.link) (links_of (channel_number row.chan) run) }
