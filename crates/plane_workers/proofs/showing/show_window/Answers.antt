-- The rounds are shown, the plane goes on, and the watcher catches up with all steps.
use Rattle.std.proofs.Common.{◌-◌, suc, length, sym, ap, ◌∙◌, subst, arith}
use Rattle.net_units.proofs.ListPlaces.{length-passed}
use Rattle.call_script.specs.Tasks.{network_of}
use Rattle.run_engine.specs.schedules.Quiet.{the_plane}
use Rattle.tick_plane.specs.Coming.{is_from}
use Rattle.tick_plane.specs.Planes.{Plane}
use Rattle.plane_workers.specs.Seen.{GoesTo, SeenBetween}
use Rattle.plane_workers.specs.Showing.{Shows}
use Rattle.plane_workers.specs.Tracks.{track_rules, track_stands}
use Rattle.plane_workers.proofs.WindowShown.{between-shown, lags-end, steps-small}
use Rattle.plane_workers.proofs.showing.show_window.Goals as goal

pub overflow_sub-arrived : goal.overflow_sub-arrived
overflow_sub-arrived g c =
    let fewer = length-passed (is_from c.args.until) c.show_rounds.new.plane.at.flights in
    let fly = c.flights.ensures ∙ ap (λ (p : Plane). length p.flights) c.skip_to.ensures.at in
    let flew = c.flights-sent.ensures in
    omega (arith, fewer, fly, flew)

pub overflow_mul-ticks : goal.overflow_mul-ticks
overflow_mul-ticks g c =
    let small = steps-small g.W.Watch.saw g.W.Watch.lags c.args.plan.now c.args.until c.show_rounds.new.tracks c.show_rounds.new.plane c.skip_to.new.self c.show_rounds.new.watch c.show_rounds.new.watch c.requires.shows.0 (c.in_ok-busy.ensures.shows c.requires.shows.0 (subst (λ from. Shows g.W.Watch.lags c.args.plan.now c.args.until from 0 c.args.tracks.now c.args.plane.now c.args.watch.now c.requires.shows.0) (sym c.round-from.ensures) c.requires.shows.1))
    c.round-from.result c.flights-sent.result c.flights.result (c.round-from.ensures ∙ sym c.in_ok-busy.ensures.round) c.flights-sent.ensures (c.flights.ensures ∙ ap (λ (p : Plane). length p.flights) c.skip_to.ensures.at) in
    omega (arith, small)

pub overflow_add-ticks : goal.overflow_add-ticks
overflow_add-ticks g c =
    let small = steps-small g.W.Watch.saw g.W.Watch.lags c.args.plan.now c.args.until c.show_rounds.new.tracks c.show_rounds.new.plane c.skip_to.new.self c.show_rounds.new.watch c.show_rounds.new.watch c.requires.shows.0 (c.in_ok-busy.ensures.shows c.requires.shows.0 (subst (λ from. Shows g.W.Watch.lags c.args.plan.now c.args.until from 0 c.args.tracks.now c.args.plane.now c.args.watch.now c.requires.shows.0) (sym c.round-from.ensures) c.requires.shows.1))
    c.round-from.result c.flights-sent.result c.flights.result (c.round-from.ensures ∙ sym c.in_ok-busy.ensures.round) c.flights-sent.ensures (c.flights.ensures ∙ ap (λ (p : Plane). length p.flights) c.skip_to.ensures.at) in
    omega (arith, small)

pub catch_up-requires : goal.catch_up-requires
catch_up-requires g c =
    let shown = c.in_ok-busy.ensures.shows c.requires.shows.0 (subst (λ from. Shows g.W.Watch.lags c.args.plan.now c.args.until from 0 c.args.tracks.now c.args.plane.now c.args.watch.now c.requires.shows.0) (sym c.round-from.ensures) c.requires.shows.1) in (
      c.requires.shows.0,
      (
        shown.run,
        lags-end g.W.Watch.saw g.W.Watch.lags c.args.plan.now c.args.until c.show_rounds.new.tracks c.show_rounds.new.plane c.skip_to.new.self c.show_rounds.new.watch c.show_rounds.new.watch c.requires.shows.0 shown
            c.round-from.result c.flights-sent.result c.flights.result (c.round-from.ensures ∙ sym c.in_ok-busy.ensures.round) c.flights-sent.ensures (c.flights.ensures ∙ ap (λ (p : Plane). length p.flights) c.skip_to.ensures.at),
      ),
    )

pub returns-clause-goes : goal.returns-clause-goes
returns-clause-goes g c = λ past is.
    let shown = c.in_ok-busy.ensures.shows past (subst (λ from. Shows g.W.Watch.lags c.args.plan.now c.args.until from 0 c.args.tracks.now c.args.plane.now c.args.watch.now past) (sym c.round-from.ensures) is) in
    let lags = lags-end g.W.Watch.saw g.W.Watch.lags c.args.plan.now c.args.until c.show_rounds.new.tracks c.show_rounds.new.plane c.skip_to.new.self c.show_rounds.new.watch c.catch_up.new.self past shown
    c.round-from.result c.flights-sent.result c.flights.result (c.round-from.ensures ∙ sym c.in_ok-busy.ensures.round) c.flights-sent.ensures (c.flights.ensures ∙ ap (λ (p : Plane). length p.flights) c.skip_to.ensures.at) in
    subst (λ from. GoesTo (network_of c.args.plan.now) (the_plane (network_of c.args.plan.now)) past (SeenBetween track_rules track_stands g.W.Watch.saw c.args.plan.now (c.args.until - suc from) c.show_rounds.new.tracks c.skip_to.new.self c.catch_up.new.self)) c.in_ok-busy.ensures.round
    (between-shown g.W.Watch.saw g.W.Watch.lags c.args.plan.now c.args.until c.show_rounds.new.tracks c.show_rounds.new.plane c.skip_to.new.self c.show_rounds.new.watch c.catch_up.new.self past shown
    c.skip_to.ensures.at c.skip_to.ensures.links c.skip_to.ensures.rounds (c.catch_up.ensures.seen past shown.run lags))
