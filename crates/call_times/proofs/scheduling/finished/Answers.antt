-- Its run has each step in time, and nobody has one left.
use Rattle.std.proofs.Common.{refl, sym, subst}
use Rattle.run_engine.specs.schedules.Standing.{EngineStands}
use Rattle.call_times.proofs.RunsInTime.{has-ended, schedule-made}
use Rattle.call_times.proofs.scheduling.finished.Goals as goal

pub check_over-requires : goal.check_over-requires
check_over-requires c = (
    let has = c.in_ok-play_to.ensures.made c.requires.0 c.requires.1 in
    (has.run, subst (λ e. EngineStands c.args.plan.now e has.run) (sym c.in_ok-end_item.ensures.engine) has.made.stands))

pub returns : goal.returns
returns c = λ times between.
    let parts = c.args.plan.now in
    let has = c.in_ok-play_to.ensures.made times between in
    let ended = c.in_ok-end_item.ensures in
    let all = has-ended parts times c.play_to.new.self c.end_item.new.self has ended.engine ended.turns (ended.actors parts has.made.actors) in
    schedule-made parts times c.end_item.new.self _ all ended.none refl (sym c.new.ensures) c.in_ok-check_over.ensures
