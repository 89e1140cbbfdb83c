-- The schedule of a race is read again as one with the same turns, which is played to the same run.
use Rattle.std.proofs.Common.{◌≡◌, suc, Bool, true, List, [], ◌∷◌, ◌++◌, length, drop, get_or, map, reverse, refl, sym, ap, ◌∙◌, subst, arith}
use Rattle.std.proofs.lemmas.Bool.{false≢true}
use Rattle.std.proofs.lemmas.List.{reverse-reverse}
use Rattle.link_steps.specs.Lists.{Each}
use Rattle.call_script.specs.Parts.{PlanParts}
use Rattle.call_script.specs.Tasks.{Network, network_of}
use Rattle.call_script.specs.declared.entries.CallerEntry.{CallerEntry}
use Rattle.call_script.specs.declared.schedule.Do.{Do}
use Rattle.call_script.specs.declared.schedule.Schedule.{Schedule}
use Rattle.channel_report.specs.Report.{report_of}
use Rattle.run_engine.specs.schedules.Schedules.{turns_of, repeated, FollowsTurns, PlayedBy, IsPlayed}
use Rattle.race_run.specs.Turns.{IsWritable}
use Rattle.race_run.proofs.PieceSteps.OneMoreTurn.{turns-first}
use Rattle.run_record.specs.declared.done.Done.{Done}
use Rattle.scenario_reader.specs.BothWays.{SameSchedule, ReadsAs, unnumbered}
use Rattle.scenario_reader.specs.Kept.{IsDo, IsScheduleOf}
use Rattle.scenario_reader.specs.PlanText.{plan_text}
use Rattle.scenario_reader.specs.Reading.{PlanRead, reading}
use Rattle.scenario_reader.specs.declared.reader.TheConstants.{MOST_BYTES}
use Rattle.scenario_reader.proofs.Passing.ReadNames.{what-is-readable}
use Rattle.scenario_reader.proofs.Back.TextBack.{text-is-read}
use Rattle.tenet_app.specs.Again.{EveryRaceIsPlayedAgain, RacesArePlayedAgain}
use Rattle.tenet_app.specs.Playing.{IsDueFor, Reports}
use Rattle.tenet_app.specs.declared.status.Status.TheVariants as status
use Rattle.tenet_app.proofs.PlayDue.{at-bytes}

-- ---- the turns of a schedule don't depend on the numbers of its lines

same-turns : (items others : List Do) → map unnumbered items ≡ map unnumbered others → turns_of items ≡ turns_of others
same-turns [] [] same = refl
same-turns [] (other ∷ others) same = absurd (let none : 0 ≡ suc (length (map unnumbered others)) = ap length same in omega (arith, none))
same-turns (item ∷ items) [] same = absurd (let none : suc (length (map unnumbered items)) ≡ 0 = ap length same in omega (arith, none))
same-turns (item ∷ items) (other ∷ others) same =
    let first : unnumbered item ≡ unnumbered other = ap (λ ones. get_or ones 0 (unnumbered item)) same in
    let actor : item.actor ≡ other.actor = ap (λ (one : Do). one.actor) first in
    let count : item.count ≡ other.count = ap (λ (one : Do). one.count) first in
    let rest : turns_of items ≡ turns_of others = same-turns items others (ap (drop 1) same) in
    turns-first item items
    ∙ ap (λ n. repeated n item.actor ++ turns_of items) count
    ∙ ap (λ a. repeated other.count a ++ turns_of items) actor
    ∙ ap (λ turns. repeated other.count other.actor ++ turns) rest
    ∙ sym (turns-first other others)

still-played : (network : Network) (again schedule : Schedule) (run : List Done) → SameSchedule again schedule → schedule.written ≡ true → IsPlayed network schedule run → IsPlayed network again run
still-played network again schedule run same written played =
    let by_turns : FollowsTurns network [] (turns_of schedule.items) run = subst (λ w. PlayedBy network w schedule.items run) written played in
    let by_its : FollowsTurns network [] (turns_of again.items) run = subst (λ turns. FollowsTurns network [] turns run) (sym (same-turns again.items schedule.items same.items)) by_turns in
    subst (λ w. PlayedBy network w again.items run) (sym (same.written ∙ written)) by_its

-- ---- a race's schedule is one that a scenario can have

are-dos : (callers : List CallerEntry) (items : List Do) → Each (IsWritable (length callers)) items → Each (IsDo callers) items
are-dos callers [] each = tt
are-dos callers (item ∷ items) each = (record { actor = each.0.actor; least = each.0.least; most = each.0.most }, are-dos callers items each.1)

can-stand : (callers : List CallerEntry) (schedule : Schedule) → Each (IsWritable (length callers)) schedule.items → schedule.written ≡ true → IsScheduleOf callers schedule
can-stand callers schedule language written = record {
  items = are-dos callers schedule.items language;
  unwritten = λ unwritten. absurd (false≢true (sym unwritten ∙ written));
}

-- ---- the race

-- the report of the run is due for the text, which is read so
report-due : (parts : PlanParts) (schedule again : Schedule) (entries : List Done) → reading MOST_BYTES (plan_text parts schedule) ≡ PlanRead parts again → IsPlayed (network_of parts) again (reverse entries)
    → (packets : Bool) → IsDueFor packets status.Done (report_of parts entries packets) (reading MOST_BYTES (plan_text parts schedule))
report-due parts schedule again entries read played packets =
    subst (IsDueFor packets status.Done (report_of parts entries packets)) (sym read) (Reports (reverse entries) played refl (ap (λ es. report_of parts es packets) (sym (reverse-reverse entries))))

pub races-are-played-again : RacesArePlayedAgain
races-are-played-again parts closed schedule entries plan named routes race few =
    let back : ReadsAs (reading MOST_BYTES (plan_text parts schedule)) parts schedule = text-is-read parts schedule plan named routes (can-stand parts.callers schedule race.language race.written) few in
    let played : IsPlayed (network_of parts) back.again (reverse entries) = still-played (network_of parts) back.again schedule (reverse entries) back.same race.written race.played in
    record { again = back.again; read = back.is; played = played; due = report-due parts schedule back.again entries back.is played }

-- the plan of a race that was made has been read, so it has names and routes that were found
pub every-race-is-played-again : EveryRaceIsPlayedAgain
every-race-is-played-again packets raced before after bytes told done few =
    let is = what-is-readable MOST_BYTES bytes done.parts done.unused (at-bytes before.left bytes (λ r. r ≡ PlanRead done.parts done.unused) told done.read) in
    races-are-played-again done.parts done.closed done.schedule done.entries is.plan is.named is.found done.race few
