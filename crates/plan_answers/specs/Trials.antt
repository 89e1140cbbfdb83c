-- A trial of a plan is its run without a schedule, in which the callers, one after the other, make all their steps. What a request has come
-- to in it is the verdict over the replies to its setup in that run, and what its hops have offered stands in those replies. A plan has one
-- such run (`schedules_come_to_one_end` of `interleave_core`).
use Rattle.std.specs.Prelude.{Bool, false, Option, Some, None, List, [], option_map, reverse, ℕ}
use Rattle.net_units.specs.Numbers.{channel_number}
use Rattle.link_steps.specs.declared.replies.Reply.{Reply}
use Rattle.setup_protocol.specs.Laws.{is_accepted}
use Rattle.setup_protocol.specs.Setup.{Outcome, offers_in, verdict_of}
use Rattle.setup_protocol.specs.State.{outcome_of}
use Rattle.setup_protocol.specs.declared.request.Request.{Request}
use Rattle.setup_protocol.specs.declared.verdict.Verdict.{Verdict}
use Rattle.call_script.specs.Parts.{PlanParts}
use Rattle.call_script.specs.Tasks.{network_of}
use Rattle.run_engine.specs.replies.Verdicts.{setup_replies}
use Rattle.run_engine.specs.runs.Runs.{IsRun}
use Rattle.run_engine.specs.schedules.Schedules.{PlayedBy}
use Rattle.run_engine.specs.schedules.Standing.{CallersStand}
use Rattle.run_record.specs.declared.done.Done.{Done}
use Rattle.plan_answers.specs.declared.trial.Trial.{Trial}

-- the run of a plan without a schedule
abbrev pub IsRunOf : PlanParts → List Done → Type 0
IsRunOf parts run = PlayedBy (network_of parts) false [] run

-- the replies to a request's setup in a run
abbrev pub replies_in : List Done → Request → List Reply
replies_in run request = setup_replies (channel_number request.chan) run

-- what a request has come to in a run
abbrev pub outcome_in : List Done → Request → Option Outcome
outcome_in run request = verdict_of request (replies_in run request)

-- the levels that a request's hops have offered in a run, from the first hop on
abbrev pub levels_offered : List Done → Request → List ℕ
levels_offered run request = offers_in (replies_in run request)

-- whether it has come to an acceptance
abbrev pub is_acceptance : Option Outcome → Bool
is_acceptance None = false
is_acceptance (Some outcome) = is_accepted outcome

abbrev pub is_acceptance_of : Option Verdict → Bool
is_acceptance_of verdict = is_acceptance (option_map outcome_of verdict)

-- ---- a trial

-- the run that it has recorded, newest first
abbrev pub run_in : Trial → List Done
run_in trial = reverse trial.record.entries

-- it is its plan's
pub record IsTrial (trial : Trial) : Type 0 where
  pub played : IsRunOf trial.plan (run_in trial)
  pub run : IsRun (network_of trial.plan) (run_in trial)
  pub stand : CallersStand trial.plan trial.callers (run_in trial)
