-- One row more is judged, and then none is left.
use Rattle.std.proofs.Common.{◌+◌, refl, reverse, take, ap, sym, subst}
use Rattle.packet_audit.specs.Trails.{TrailsStand}
use Rattle.packet_audit.proofs.TableRows.{found-none, found-more, found-all, above-at}
use Rattle.packet_audit.proofs.auditing.audit.Goals as goal

pub loop-row-init : goal.loop-row-init
loop-row-init c = record { number = refl; found = found-none c.args.promises.now c.args.rows.now c.new-found.result.items c.new-found.ensures.items; trails = c.in_ok-trails.ensures }

pub judge-requires : goal.judge-requires
judge-requires c = (reverse (take c.loop-row.row-index c.args.rows.now), c.loop-row.invariant.trails)

pub loop-row-preserved : goal.loop-row-preserved
loop-row-preserved c =
    let above = reverse (take c.loop-row.row-index c.args.rows.now) in
    record {
      number = ap (λ n. n + 1) c.loop-row.invariant.number;
      found = found-more c.args.promises.now c.args.rows.now c.loop-row.row-index (c.loop-row.number + 1) _ c.loop-row.found.items c.judge.new.found.items c.loop-row-test.true
          (ap (λ n. n + 1) c.loop-row.invariant.number) c.loop-row.invariant.found (c.in_ok-judge.ensures.found above c.loop-row.invariant.trails);
      trails = subst (TrailsStand c.args.promises.now c.judge.new.trails.items) (sym (above-at c.args.rows.now c.loop-row.row-index _ c.loop-row-test.true)) (c.in_ok-judge.ensures.trails above c.loop-row.invariant.trails);
    }

pub returns : goal.returns
returns c = found-all c.args.promises.now c.args.rows.now c.loop-row.row-index c.loop-row.found.items c.loop-row-test.false c.loop-row.invariant.found
