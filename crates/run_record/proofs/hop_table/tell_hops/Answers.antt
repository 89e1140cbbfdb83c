-- The next row gets its hop.
use Rattle.std.proofs.Common.{◌<◌, length, ◌∙◌, length-set, arith}
use Rattle.run_record.specs.ToldHops.{with_hop}
use Rattle.run_record.proofs.KeptRows.{mapped-next}
use Rattle.run_record.proofs.hop_table.tell_hops.Goals as goal

pub loop-place-preserved : goal.loop-place-preserved
loop-place-preserved c =
    let inside : c.loop-place.place < length c.args.rows.now.items = omega (arith, c.loop-place-test.true, c.len-place-end.ensures, c.args.rows.now.ok.0) in
    record {
      long = length-set c.loop-place.rows.items c.loop-place.place c.tell_hop.new.row ∙ c.loop-place.invariant.long;
      told = λ run are. mapped-next (with_hop run) c.args.rows.now.items c.loop-place.rows.items c.loop-place.place c.index_mut.result.now c.tell_hop.new.row inside (c.loop-place.invariant.told run are) c.index_mut.ensures.value (c.tell_hop.ensures run are);
    }
