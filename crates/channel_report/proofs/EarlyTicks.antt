-- Each tick of a run is told early: its clock is at most the number of the entries before it.
use Rattle.std.proofs.Common.{◌≡◌, ◌^◌, ◌<◌, List, length, sym, ◌∙◌, subst, arith}
use Rattle.net_units.specs.Numbers.{link_number}
use Rattle.link_steps.specs.Replies.{reply_to}
use Rattle.link_steps.specs.Scan.{clock_of}
use Rattle.link_steps.specs.Split.{Link}
use Rattle.link_steps.specs.declared.asks.Ask.{Ask}
use Rattle.link_steps.specs.declared.asks.Ask.TheVariants.{Reserve, Relax, Deny, Release, Arrive, Tick}
use Rattle.link_steps.specs.declared.replies.Entry.{Entry}
use Rattle.link_steps.specs.declared.replies.Reply.{Reply}
use Rattle.link_steps.specs.declared.replies.Reply.TheVariants as Is
use Rattle.channel_laws.specs.Reservations.{IsSendReply, IsReleased, IsArriveReply}
use Rattle.call_script.proofs.PlansFit.{plan-fits}
use Rattle.call_script.proofs.OneOwner.{all-owned}
use Rattle.call_script.specs.Parts.{PlanParts}
use Rattle.call_script.specs.Plans.{IsPlan}
use Rattle.call_script.specs.Tasks.{network_of}
use Rattle.run_engine.specs.replies.Answers.{IsReplyOf, IsReserveReply, IsRelaxed}
use Rattle.run_engine.specs.runs.Runs.{IsNext, IsRun}
use Rattle.run_engine.proofs.Replies.Replying.{asks-answered}
use Rattle.channel_laws.proofs.SentInTime.{tick-answer}
use Rattle.run_record.specs.Rows.{IsEarly}
use Rattle.run_record.specs.Runs.{part_of}
use Rattle.run_record.specs.declared.done.Done.{Done}
use Rattle.channel_report.proofs.LinkTallies.{part-short}
use Rattle.link_steps.proofs.ClockAdvances.{clock_of-most}

reserve-early : (reply : Reply) → IsReserveReply reply → IsEarly reply
reserve-early (Is.Ticked clock full sent best_sent best_lost) is = absurd is
reserve-early _ is = tt

relax-early : (reply : Reply) → IsRelaxed reply → IsEarly reply
relax-early (Is.Ticked clock full sent best_sent best_lost) is = absurd is
relax-early _ is = tt

send-early : (reply : Reply) → IsSendReply reply → IsEarly reply
send-early (Is.Ticked clock full sent best_sent best_lost) is = absurd is
send-early _ is = tt

release-early : (reply : Reply) → IsReleased reply → IsEarly reply
release-early (Is.Ticked clock full sent best_sent best_lost) is = absurd is
release-early _ is = tt

arrive-early : (reply : Reply) → IsArriveReply reply → IsEarly reply
arrive-early (Is.Ticked clock full sent best_sent best_lost) is = absurd is
arrive-early _ is = tt

answer-early : (link : Link) (h : List Entry) (ask : Ask) (reply : Reply) → IsReplyOf ask reply → reply ≡ reply_to link h ask → clock_of h < 2 ^ 63 → IsEarly reply
answer-early link h (Reserve chan contract kind delay up_reach first next) reply answered is small = reserve-early reply answered
answer-early link h (Relax chan level up_bound) reply answered is small = relax-early reply answered
answer-early link h (Deny chan) reply answered is small = subst IsEarly (sym answered) tt
answer-early link h (Release chan upstream) reply answered is small = release-early reply answered
answer-early link h (Arrive packet) reply answered is small = arrive-early reply answered
answer-early link h Tick reply answered is small = subst IsEarly (sym (is ∙ tick-answer link h)) small
answer-early link h _ reply answered is small = send-early reply answered

-- the next step of a run tells its tick early
pub next-early : (parts : PlanParts) (past : List Done) (done : Done) → IsPlan parts → IsRun (network_of parts) past → IsNext (network_of parts) past done → length past < 2 ^ 60 → IsEarly done.reply
next-early parts past done plan is next short =
    let h = part_of (link_number done.link) past in
    answer-early next.link h done.ask done.reply (asks-answered (network_of parts) past done (plan-fits parts plan) (all-owned parts plan) is next) next.answered (omega (arith, clock_of-most h, part-short (link_number done.link) past, short))
