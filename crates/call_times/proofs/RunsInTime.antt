-- A run that is made in time goes on in time: by a step of a caller whose operation is due, by a step of the plane, and by quiet rounds.
use Rattle.std.proofs.Common.{◌≡◌, ◌≢◌, ℕ, zero, suc, ◌+◌, ◌*◌, ◌<◌, ◌≤◌, true, false, Some, None, IfSome, List, [], ◌∷◌, ◌++◌, length, refl, sym, ap, ◌∙◌, subst, inl, inr, arith}
use Rattle.std.proofs.Math.Nat.{min-eq_right}
use Rattle.std.proofs.lemmas.Bool.{cases_eq, cases_lt, eq-eqb, ne_eqb}
use Rattle.std.proofs.lemmas.List.{append_assoc, append-nil}
use Rattle.std.proofs.lemmas.Option.{same_Some, slice_get_within}
use Rattle.std.specs.Option.{is_some}
use Rattle.std.specs.Prelude.{Option}
use Rattle.net_units.specs.Numbers.{actor_at, actor_number}
use Rattle.net_units.specs.declared.numbers.ActorNo.{ActorNo}
use Rattle.net_units.specs.declared.numbers.LinkNo.{LinkNo}
use Rattle.link_steps.specs.declared.asks.Ask.{Ask}
use Rattle.link_steps.specs.declared.replies.Reply.{Reply}
use Rattle.call_script.specs.Parts.{PlanParts}
use Rattle.call_script.specs.Tasks.{Network, network_of}
use Rattle.call_script.specs.declared.operations.Op.{Op}
use Rattle.call_script.specs.declared.schedule.Do.{Do}
use Rattle.call_script.specs.declared.schedule.Schedule.{Schedule}
use Rattle.call_script.proofs.PlansFit.{links-are}
use Rattle.link_steps.specs.Lists.{Each}
use Rattle.tick_plane.specs.Planes.{Plane, next_due, plane_with, plane_of}
use Rattle.tick_plane.specs.declared.flight.Flight.{Flight}
use Rattle.run_record.specs.Runs.{replies_to}
use Rattle.run_record.specs.declared.done.Done.{Done}
use Rattle.run_engine.specs.runs.Runs.{plane_no, plane_at, next_for, IsNext}
use Rattle.run_engine.specs.schedules.Quiet.{quiet_round, quiet_rounds, rested, the_plane}
use Rattle.run_engine.specs.schedules.Resting.{MakesStride}
use Rattle.run_engine.specs.schedules.Schedules.{FollowsTurns, IsActorOf, lined_turns, repeated, turns_of}
use Rattle.run_engine.specs.schedules.Standing.{EngineStands, MakesStep, StepsTo}
use Rattle.run_engine.proofs.Keeping.KeptActors.{plane-number}
use Rattle.run_engine.proofs.Keeping.NextStep.{callers-few}
use Rattle.run_engine.proofs.Runs.RunLegal.{plane-off, plane-by}
use Rattle.run_engine.proofs.Runs.RunOf.{step-is}
use Rattle.run_engine.proofs.Schedules.PlayedTurns.{step-follows, follows-start, follows-again, played-written}
use Rattle.run_engine.proofs.Schedules.ScheduleOutcome.{follows-none, follows-more, turns-append, turns-one}
use Rattle.run_engine.proofs.Watched.QuietRounds.{plane-is}
use Rattle.run_engine.proofs.Watched.WatchedStrides.{repeated-sum}
use Rattle.call_times.specs.Parts.{is_part}
use Rattle.call_times.specs.OnTime.{AreInTime, IsDueAt, IsInTime, IsScheduleAt}
use Rattle.call_times.specs.Makings.{HaveActors, HasRun, IsBetween, IsDue, IsInRound, IsOperationAt, IsTimeFor, turns_made}
use Rattle.call_times.specs.declared.making.Making.{Making}
use Rattle.call_times.specs.declared.scheduling.Due.{Due}
use Rattle.call_times.specs.declared.times.Times.{Times}

-- ---- turns

-- one turn of the actor that made the step
pub one-turn : (network : Network) (past : List Done) (done : Done) (actor : ActorNo) → IsNext network past done → done.actor ≡ actor → FollowsTurns network past (repeated 1 actor) (done ∷ past)
one-turn network past done actor next by =
    let steps : StepsTo network done.actor past done.reply (done ∷ past) = record { done = done; next = next; by = refl; gets = refl; is = refl; goes = sym (step-is network past done next) } in
    let one : FollowsTurns network past (actor ∷ []) (done ∷ past) = subst (λ a. FollowsTurns network past (a ∷ []) (done ∷ past)) by (step-follows network done.actor past done.reply (done ∷ past) steps) in
    follows-again network past past (done ∷ past) actor 0 (follows-start network past actor) one

-- the turns go on by some
pub more-turns : (network : Network) (past run : List Done) (turns more all : List ActorNo) → all ≡ turns ++ more → FollowsTurns network [] turns past → FollowsTurns network past more run → FollowsTurns network [] all run
more-turns network past run turns more all same before after = subst (λ actors. FollowsTurns network [] actors run) (sym same) (follows-more network [] past run turns more before after)

-- ---- before any step

pub none-made : (parts : PlanParts) (making : Making) → EngineStands parts making.engine [] → making.items.items ≡ [] → making.count ≡ 0 → making.actor ≡ the_plane (network_of parts) → (times : List Times) → IsBetween parts times making
unfolding turns_made lined_turns repeated AreInTime plane_of replies_to
none-made parts making stands none zeros plane times =
    let number = plane-number parts in
    let few = callers-few parts stands.plan in
    let own : actor_number making.actor ≡ plane_no (network_of parts) = ap (λ (a : ActorNo). actor_number a) plane ∙ plane-is (network_of parts) (omega (arith, number, few)) in
    record {
      run = [];
      made = record {
        stands = stands;
        turns = rw (none, zeros) (follows-none (network_of parts) []);
        actors = record { items = rw none tt; own = omega (arith, own, number) };
        in_time = tt;
      };
      starts = refl;
    }

-- ---- a caller's step

abbrev IsSamePair : LinkNo × Ask → LinkNo × Ask → Type 0
IsSamePair one other = one ≡ other

-- the step that was made is the one that was asked for
same-ask : (network : Network) (past : List Done) (done : Done) (actor : ActorNo) (to : LinkNo) (ask : Ask) → IsNext network past done → done.actor ≡ actor → next_for network (actor_number actor) past ≡ Some (to, ask) → IsSamePair (to, ask) (done.link, done.ask)
same-ask network past done actor to ask next by asks =
    let one : LinkNo × Ask = (to, ask) in
    let other : LinkNo × Ask = (done.link, done.ask) in
    same_Some one other (sym asks ∙ ap (λ (a : ActorNo). next_for network (actor_number a) past) (sym by) ∙ next.asked)

pub caller-step : (parts : PlanParts) (times : List Times) (old new : Making) (actor : ActorNo) (op : Op) (done : Done) (to : LinkNo) (ask : Ask)
    → (time : IsTimeFor parts times old actor op) → MakesStep parts new.engine time.run actor done → next_for (network_of parts) (actor_number actor) time.run ≡ Some (to, ask) → is_part op to ask ≡ true
    → turns_made new ≡ turns_made old ++ repeated 1 actor → HaveActors parts new → IsTimeFor parts times new actor op
unfolding AreInTime
caller-step parts times old new actor op done to ask time makes asks part turns actors =
    let network = network_of parts in
    let number = plane-number parts in
    let caller = time.caller in
    let own : actor_number done.actor ≡ actor_number actor = ap (λ (a : ActorNo). actor_number a) makes.by in
    let other : actor_number done.actor ≢ plane_no network = λ same. absurd (omega (arith, same, number, caller, own)) in
    let stays = plane-off network done time.run other in
    let same = same-ask network time.run done actor to ask makes.next makes.by asks in
    let own_part : is_part op done.link done.ask ≡ true = subst (λ (both : LinkNo × Ask). is_part op both.0 both.1 ≡ true) same part in
    let due : IsDueAt parts times (actor_number done.actor) (plane_at network time.run).round op = subst (λ n. IsDueAt parts times n (plane_at network time.run).round op) (sym own) time.due in
    let in_time : IsInTime parts times time.run done = record { op = op; due = due; part = own_part; before = time.starts } in
    record {
      run = done ∷ time.run;
      made = record {
        stands = makes.stands;
        turns = more-turns network time.run (done ∷ time.run) (turns_made old) (repeated 1 actor) (turns_made new) turns time.made.turns (one-turn network time.run done actor makes.next makes.by);
        actors = actors;
        in_time = (time.made.in_time, λ _. in_time);
      };
      starts = ap (λ (p : Plane). p.ticked) stays ∙ time.starts;
      caller = time.caller;
      due = subst (λ (p : Plane). IsDueAt parts times (actor_number actor) p.round op) (sym stays) time.due;
    }

-- ---- a step of the plane

-- where a step ends a round, no step of the next one is made
round-starts : (links : ℕ) (plane : Plane) (due : Option Flight) (reply : Reply) → (plane_with links plane due reply).round ≢ plane.round → (plane_with links plane due reply).ticked ≡ 0
round-starts links plane (Some flight) reply other = absurd (other refl)
round-starts links plane None reply other =
    elim (cases_eq (suc plane.ticked) links) [
      | inl last ↦ rw (eq-eqb (suc plane.ticked) links last) refl
      | inr more ↦ absurd (other (rw (ne_eqb (suc plane.ticked) links more) refl))
    ]

pub plane-step : (parts : PlanParts) (times : List Times) (old new : Making) (round : ℕ) (done : Done)
    → (at : IsInRound parts times old round) → (plane_at (network_of parts) at.run).round ≡ round → MakesStep parts new.engine at.run (the_plane (network_of parts)) done
    → turns_made new ≡ turns_made old ++ repeated 1 (the_plane (network_of parts)) → HaveActors parts new → IsInRound parts times new round
unfolding AreInTime
plane-step parts times old new round done at now makes turns actors =
    let network = network_of parts in
    let number = plane-number parts in
    let few = callers-few parts at.made.stands.plan in
    let own : actor_number done.actor ≡ plane_no network = ap (λ (a : ActorNo). actor_number a) makes.by ∙ plane-is network (omega (arith, number, few)) in
    let goes = plane-by network done at.run own in
    record {
      run = done ∷ at.run;
      made = record {
        stands = makes.stands;
        turns = more-turns network at.run (done ∷ at.run) (turns_made old) (repeated 1 (the_plane network)) (turns_made new) turns at.made.turns (one-turn network at.run done (the_plane network) makes.next makes.by);
        actors = actors;
        in_time = (at.made.in_time, λ other. absurd (other own));
      };
      starts = λ other.
          ap (λ (p : Plane). p.ticked) goes
          ∙ round-starts (length network.links) (plane_at network at.run) (next_due (plane_at network at.run)) done.reply (λ same. other (ap (λ (p : Plane). p.round) goes ∙ same ∙ now));
    }

-- ---- quiet rounds

module _ (parts : PlanParts) (times : List Times) (plane : ActorNo) (is : actor_number plane ≡ plane_no (network_of parts)) where
  round-in-time : (t links : ℕ) (run : List Done) → AreInTime parts times run → AreInTime parts times (quiet_round plane t links run)
  unfolding quiet_round AreInTime
  round-in-time t zero run before = before
  round-in-time t (suc links) run before = (round-in-time t links run before, λ other. absurd (other is))

  pub rounds-in-time : (links t n : ℕ) (run : List Done) → AreInTime parts times run → AreInTime parts times (quiet_rounds plane links t n run)
  unfolding quiet_rounds
  rounds-in-time links t zero run before = before
  rounds-in-time links t (suc n) run before = round-in-time (t + n) links (quiet_rounds plane links t n run) (rounds-in-time links t n run before)

pub rest-in-time : (parts : PlanParts) (times : List Times) (old new : Making) (rounds steps : ℕ)
    → (between : IsBetween parts times old) → MakesStride parts new.engine between.run rounds → steps ≡ rounds * length parts.links
    → turns_made new ≡ turns_made old ++ repeated steps (the_plane (network_of parts)) → HaveActors parts new → IsBetween parts times new
rest-in-time parts times old new rounds steps between stride all turns actors =
    let network = network_of parts in
    let number = plane-number parts in
    let few = callers-few parts between.made.stands.plan in
    let own = plane-is network (omega (arith, number, few)) in
    let after = rested network rounds between.run in
    let goes : FollowsTurns network between.run (repeated steps (the_plane network)) after =
    subst (λ n. FollowsTurns network between.run (repeated n (the_plane network)) after) (ap (λ links. rounds * links) (links-are parts) ∙ sym all) stride.goes.follows in
    record {
      run = after;
      made = record {
        stands = stride.stands;
        turns = more-turns network between.run after (turns_made old) (repeated steps (the_plane network)) (turns_made new) turns between.made.turns goes;
        actors = actors;
        in_time = rounds-in-time parts times (the_plane network) own (length network.links) (plane_at network between.run).round rounds between.run between.made.in_time;
      };
      starts = ap (λ (p : Plane). p.ticked) stride.goes.plane ∙ between.starts;
    }

-- ---- items

-- the item under way is complete
pub item-ended : (items : List Do) (item : Do) (actor : ActorNo) → turns_of (items ++ item ∷ []) ++ repeated 0 actor ≡ turns_of items ++ repeated item.count item.actor
unfolding repeated
item-ended items item actor = append-nil (turns_of (items ++ item ∷ [])) ∙ turns-append items (item ∷ []) ∙ ap (λ more. turns_of items ++ more) (turns-one item)

pub item-longer : (items : List Do) (count steps : ℕ) (actor : ActorNo) → turns_of items ++ repeated (count + steps) actor ≡ (turns_of items ++ repeated count actor) ++ repeated steps actor
item-longer items count steps actor = ap (λ more. turns_of items ++ more) (repeated-sum count steps actor) ∙ sym (append_assoc (turns_of items) (repeated count actor) (repeated steps actor))

-- a new one begins
pub item-begun : (items : List Do) (steps : ℕ) (actor other : ActorNo) → turns_of items ++ repeated steps actor ≡ (turns_of items ++ repeated 0 other) ++ repeated steps actor
unfolding repeated
item-begun items steps actor other = ap (λ turns. turns ++ repeated steps actor) (sym (append-nil (turns_of items)))

-- ---- the end

pub schedule-made : (parts : PlanParts) (times : List Times) (making : Making) (schedule : Schedule) → HasRun parts times making → making.count ≡ 0 → schedule.written ≡ true → making.items.items ≡ schedule.items
    → ((run : List Done) → EngineStands parts making.engine run → (actor : ℕ) → actor ≤ length parts.callers → next_for (network_of parts) actor run ≡ None) → IsScheduleAt parts times schedule
unfolding turns_made repeated
schedule-made parts times making schedule has none written same over =
    let number = plane-number parts in
    let turns : FollowsTurns (network_of parts) [] (turns_of making.items.items) has.run =
    subst (λ actors. FollowsTurns (network_of parts) [] actors has.run) (ap (λ n. turns_of making.items.items ++ repeated n making.actor) none ∙ append-nil (turns_of making.items.items)) has.made.turns in
    record {
      run = has.run;
      written = written;
      actors = subst (Each (IsActorOf parts)) same has.made.actors.items;
      played = played-written parts schedule making.items.items has.run has.run written same turns refl;
      in_time = has.made.in_time;
      over = λ actor within. over has.run has.made.stands actor (omega (arith, within, number));
    }

-- the same run, whose items are complete
pub has-ended : (parts : PlanParts) (times : List Times) (old new : Making) → HasRun parts times old → new.engine ≡ old.engine → turns_made new ≡ turns_made old → HaveActors parts new → HasRun parts times new
has-ended parts times old new has engine turns actors = record {
  run = has.run;
  made = record {
    stands = subst (λ e. EngineStands parts e has.run) (sym engine) has.made.stands;
    turns = subst (λ all. FollowsTurns (network_of parts) [] all has.run) (sym turns) has.made.turns;
    actors = actors;
    in_time = has.made.in_time;
  };
}

-- ---- an operation's time

pub caller-within : (parts : PlanParts) (caller place : ℕ) (op : Op) → IsOperationAt parts caller place op → caller < length parts.callers
caller-within parts caller place op at = slice_get_within parts.callers caller at.entry at.found

pub time-for : (parts : PlanParts) (times : List Times) (making : Making) (due : Due) (actor : ActorNo) (op : Op) → IsBetween parts times making → IsDue times due → IsOperationAt parts due.caller due.place op → actor ≡ actor_at due.caller → making.engine.actors.plane.at.round ≡ due.tick → IsTimeFor parts times making actor op
time-for parts times making due actor op between is at own round =
    let within = caller-within parts due.caller due.place op at in
    let few = callers-few parts between.made.stands.plan in
    let number : actor_number actor ≡ due.caller = ap (λ (a : ActorNo). actor_number a) own ∙ min-eq_right (omega (arith, within, few)) in
    let now : (plane_at (network_of parts) between.run).round ≡ due.tick = ap (λ (p : Plane). p.round) (sym between.made.stands.actors.plane.at) ∙ round in
    let it : IsDueAt parts times due.caller due.tick op = record { place = due.place; entry = at.entry; found = at.found; is = at.is; own = is.own; given = is.given; at = is.at } in
    record {
      run = between.run;
      made = between.made;
      starts = between.starts;
      caller = omega (arith, number, within);
      due = subst (λ n. IsDueAt parts times n (plane_at (network_of parts) between.run).round op) (sym number) (subst (λ t. IsDueAt parts times due.caller t op) (sym now) it);
    }

-- ---- nobody is left

none-left : {X : Type 0} (next : Option X) → is_some next ≡ false → next ≡ None
none-left None none = refl
none-left (Some x) none = cc

-- one actor more has no step left
pub none-more : (parts : PlanParts) (run : List Done) (number actor : ℕ) (own : ActorNo) (next : Option (LinkNo × Ask)) → number ≤ 64 → own ≡ actor_at number → next ≡ next_for (network_of parts) (actor_number own) run → is_some next ≡ false
    → ((n : ℕ) → n < number → next_for (network_of parts) n run ≡ None) → actor < number + 1 → next_for (network_of parts) actor run ≡ None
none-more parts run number actor own next few is asks none before less =
    elim (cases_lt actor number) [
      | inl early ↦ before actor early
      | inr last ↦
          (let at : actor_number own ≡ number = ap (λ (a : ActorNo). actor_number a) is ∙ min-eq_right few in
          let same : actor_number own ≡ actor = omega (arith, at, last, less) in
          subst (λ n. next_for (network_of parts) n run ≡ None) same (sym asks ∙ none-left next none))
    ]

-- what holds of a value that is there
pub when-some : {X : Type 0} (P : X → Type 0) (next : Option X) (x : X) → next ≡ Some x → IfSome next P → P x
when-some P next x is holds = subst (λ o. IfSome o P) is holds
