use Rattle.std.proofs.Common.{[], ◌∷◌, length, ap, sym, subst, arith}
use Rattle.std.proofs.lemmas.List.{length-append}
use Rattle.packet_audit.proofs.TableRows.{AreFresh, fresh-none, fresh-more, fresh-stand}
use Rattle.packet_audit.proofs.auditing.new_trails.Goals as goal

pub loop-number-init : goal.loop-number-init
loop-number-init c = record { count = ap length c.in_ok-trails.ensures.items; fresh = subst AreFresh (sym c.in_ok-trails.ensures.items) fresh-none }

pub loop-number-preserved : goal.loop-number-preserved
loop-number-preserved c = record {
  count = omega (arith, ap length c.in_ok-push.ensures.items, length-append c.loop-number.trails.items (c.new.result ∷ []), c.loop-number.invariant.count);
  fresh = subst AreFresh (sym c.in_ok-push.ensures.items) (fresh-more c.loop-number.trails.items c.new.result c.loop-number.invariant.fresh c.new.ensures);
}

pub returns : goal.returns
returns c = fresh-stand c.args.promises.now c.loop-number.trails.items (omega (arith, c.loop-number.invariant.count, c.loop-number-test.false, c.loop-number.auto._number-end)) c.loop-number.invariant.fresh
