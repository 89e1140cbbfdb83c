-- The caller with one more reply.
use Rattle.std.proofs.Common.{◌∙◌, ap, subst, option_map, IsSome}
use Rattle.call_script.specs.Scripts.{Standing, ask_at, standing}
use Rattle.call_script.specs.Standing.{requests_of}
use Rattle.call_script.specs.Tasks.{script_of}
use Rattle.call_script.proofs.CallerStanding.{stands-in}
use Rattle.call_script.proofs.CallerTakesReply.{learnt-within, turned-on, turned-over, turned-settled}
use Rattle.call_script.proofs.WorkByReplies.{under-way}
use Rattle.call_script.proofs.actor.Actor.take.Goals as goal

-- a task is under way
pub take-requires-clause-left : goal.take-requires-clause-left
take-requires-clause-left c =
    let due = c.requires.1 in
    let at : Standing = standing (script_of (requests_of c.args.plan.now) due.stands.caller) c.requires.0 in
    under-way c.args.self.now.work at.tasks at.replies due.stands.at.under_way (subst (λ (s : Standing). IsSome (ask_at s)) (stands-in c.args.plan.now c.args.self.now c.requires.0 due.stands) due.left)

pub returns-in-Err-clause-expected : goal.returns-in-Err-clause-expected
returns-in-Err-clause-expected c = λ replies stands.
    let at : Standing = standing (script_of (requests_of c.args.plan.now) stands.caller) replies in
    rw (stands-in c.args.plan.now c.args.self.now replies stands) (c.in-Err.ensures.expected at.tasks at.replies stands.at.under_way)

pub returns-in-Err-clause-unexpected : goal.returns-in-Err-clause-unexpected
returns-in-Err-clause-unexpected c = (
  c.in-Err.ensures.unexpected.0,
  λ replies stands.
      let at : Standing = standing (script_of (requests_of c.args.plan.now) stands.caller) replies in
      ap (λ (s : Standing). option_map (λ to. to.1) (ask_at s)) (stands-in c.args.plan.now c.args.self.now replies stands) ∙ c.in-Err.ensures.unexpected.1 at.tasks at.replies stands.at.under_way,
)

pub returns-in-On-clause-expected : goal.returns-in-On-clause-expected
returns-in-On-clause-expected c = λ replies stands.
    let at : Standing = standing (script_of (requests_of c.args.plan.now) stands.caller) replies in
    rw (stands-in c.args.plan.now c.args.self.now replies stands) (c.in-Ok.ensures.expected at.tasks at.replies stands.at.under_way)

pub returns-in-On-clause-taken : goal.returns-in-On-clause-taken
returns-in-On-clause-taken c = λ replies stands.
    turned-on c.args.plan.now c.args.self.now c.take.new.self c.in-Ok.turn replies c.args.reply stands c.in-On.is c.in-Ok.ensures.taken

pub returns-in-Over-clause-expected : goal.returns-in-Over-clause-expected
returns-in-Over-clause-expected c = λ replies stands.
    let at : Standing = standing (script_of (requests_of c.args.plan.now) stands.caller) replies in
    rw (stands-in c.args.plan.now c.args.self.now replies stands) (c.in-Ok.ensures.expected at.tasks at.replies stands.at.under_way)

pub returns-in-Over-clause-taken : goal.returns-in-Over-clause-taken
returns-in-Over-clause-taken c = λ replies stands.
    turned-over c.args.plan.now c.args.self.now c.begin.new.self c.take.new.self c.in-Ok.turn c.ops_of-ops.result.now c.requests-requests.result.now replies c.args.reply stands c.in-Over.is c.in-Ok.ensures.taken
    c.ops_of-ops.ensures c.requests-requests.ensures.value c.begin.ensures.caller c.begin.ensures.stands

-- what it has learnt is of a channel that is kept
pub note-requires : goal.note-requires
note-requires c =
    learnt-within c.args.plan.now c.args.self.now c.take.new.self c.in-Ok.turn c.in-Settled.known c.requires.0 c.args.reply c.requests-requests.ensures.valid.planned c.requires.1.stands c.in-Settled.is c.in-Ok.ensures.taken

pub returns-in-Settled-clause-expected : goal.returns-in-Settled-clause-expected
returns-in-Settled-clause-expected c = λ replies stands.
    let at : Standing = standing (script_of (requests_of c.args.plan.now) stands.caller) replies in
    rw (stands-in c.args.plan.now c.args.self.now replies stands) (c.in-Ok.ensures.expected at.tasks at.replies stands.at.under_way)

pub returns-in-Settled-clause-taken : goal.returns-in-Settled-clause-taken
returns-in-Settled-clause-taken c = λ replies stands.
    turned-settled c.args.plan.now c.args.self.now c.begin-in-Settled.new.self c.take.new.self c.in-Ok.turn c.in-Settled.known c.note.new.self.by_number.items c.ops_of-ops.result.now c.requests-requests.result.now replies c.args.reply
    stands c.in-Settled.is c.in-Ok.ensures.taken c.ops_of-ops.ensures c.requests-requests.ensures.value c.begin-in-Settled.ensures.caller c.note.ensures.count c.note.ensures.noted c.begin-in-Settled.ensures.stands
