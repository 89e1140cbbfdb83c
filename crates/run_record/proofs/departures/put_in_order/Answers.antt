use Rattle.std.proofs.Common.{ℕ, rules}
use Rattle.std.proofs.lemmas.List.Sorted.{answers_always}
use Rattle.net_units.specs.Numbers.{channel_number}
use Rattle.run_record.proofs.OneSortedList.{order-sorted}
use Rattle.run_record.specs.declared.rows.HopRow.{HopRow}
use Rattle.run_record.proofs.departures.put_in_order.Goals as goal

-- what the rows are sorted by
abbrev key_of : HopRow → ℕ × ℕ × ℕ
key_of row = (channel_number row.chan, row.number, row.hop)

pub returns : goal.returns
returns c =
    order-sorted c.args.rows.now.items c.sort_by_key.new.self.items (c.in_ok-sort_by_key.ensures.sorted key_of (answers_always _ _ _ (λ f a r g h. search rules)))
    (c.sort_by_key.ensures.stable key_of (answers_always _ _ _ (λ f a r g h. search rules)))
