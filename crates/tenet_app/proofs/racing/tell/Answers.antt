use Rattle.std.proofs.Common.{inr, refl, reverse, subst}
use Rattle.std.specs.Io.KnownBytes.{Appends}
use Rattle.byte_ends.specs.Gathering.{WritesPart}
use Rattle.text_writer.specs.Telling.{IsWhy}
use Rattle.race_run.specs.Whole.{weave_of}
use Rattle.tenet_app.specs.Racing.{race_text}
use Rattle.tenet_app.proofs.RaceWritten.{front-of-race}
use Rattle.tenet_app.proofs.racing.tell.Goals as goal

pub write_race-requires-clause-tallied : goal.write_race-requires-clause-tallied
write_race-requires-clause-tallied g c = (weave_of c.args.closed.journals, c.in-Ok.ensures.tallied)

pub returns-in-Ok-write_race-clause-answers : goal.returns-in-Ok-write_race-clause-answers
returns-in-Ok-write_race-clause-answers g c =
    let told = c.in-Ok.ensures in
    let weave = weave_of c.args.closed.journals in
    let written = (c.in-Ok-write_race.ensures weave told.tallied).0 in
    record {
      closed = c.args.closed;
      handed = refl;
      schedule = c.in-Ok.told.schedule;
      entries = reverse weave;
      race = told.race;
      appends = subst (λ packets. Appends (g.K.Sink.written c.args.sink.now) (g.K.Sink.written c.write_race.new.sink) (race_text c.args.plan.now c.in-Ok.told.schedule.items (reverse weave) packets)) told.table written;
    }

pub returns-in-Err-Memory-clause-answers : goal.returns-in-Err-Memory-clause-answers
returns-in-Err-Memory-clause-answers g c =
    let told = c.in-Ok.ensures in
    let weave = weave_of c.args.closed.journals in
    let written = (c.in-Err-Memory.ensures weave told.tallied).0 in
    inr (front-of-race c.args.packets c.args.plan.now c.args.closed c.in-Ok.told.schedule (reverse weave) _ _ told.race
    (subst (λ packets. WritesPart (g.K.Sink.written c.args.sink.now) (g.K.Sink.written c.write_race.new.sink) (race_text c.args.plan.now c.in-Ok.told.schedule.items (reverse weave) packets)) told.table written))

pub returns-clause-answers : goal.returns-clause-answers
returns-clause-answers g c =
    let told = c.in-Ok.ensures in
    let weave = weave_of c.args.closed.journals in
    let written = c.in-Err-WriteFault.ensures weave told.tallied in (
      subst (λ why. IsWhy why (g.K.Sink.faults c.args.sink.now) (g.K.Sink.faults c.write_race.new.sink)) c.in-Err-WriteFault.field-0-is written.1,
      front-of-race c.args.packets c.args.plan.now c.args.closed c.in-Ok.told.schedule (reverse weave) _ _ told.race
          (subst (λ packets. WritesPart (g.K.Sink.written c.args.sink.now) (g.K.Sink.written c.write_race.new.sink) (race_text c.args.plan.now c.in-Ok.told.schedule.items (reverse weave) packets)) told.table written.0),
    )
