-- A draft stays one with each line that passes, and is a plan once it is complete.
use Rattle.std.proofs.Common.{◌≡◌, ℕ, ◌+◌, ◌*◌, ◌≤◌, true, List, [], ◌∷◌, ◌++◌, length, Option, Some, None, IfSome, refl, sym, ◌∙◌, subst, arith}
use Rattle.std.proofs.lemmas.Bool.{true≢false}
use Rattle.std.specs.Prelude.{is_some, unwrap_or}
use Rattle.link_steps.specs.Lists.{Each}
use Rattle.link_steps.proofs.SearchAndFilter.{Each-append}
use Rattle.net_units.specs.Numbers.{link_number}
use Rattle.net_units.specs.declared.numbers.LinkNo.{LinkNo}
use Rattle.link_steps.specs.declared.quota.Quota.{Quota}
use Rattle.call_script.specs.Growing.{KeepSoFar, new_caller, with_op, add_quota, add_op}
use Rattle.call_script.specs.Plans.{IsPlan}
use Rattle.call_script.specs.declared.entries.CallerEntry.{CallerEntry}
use Rattle.call_script.specs.declared.entries.LinkEntry.{LinkEntry}
use Rattle.call_script.specs.declared.entries.RequestEntry.{RequestEntry}
use Rattle.call_script.specs.declared.operations.Op.{Op}
use Rattle.call_script.specs.declared.operations.Op.TheVariants as op
use Rattle.call_script.specs.declared.schedule.Do.{Do}
use Rattle.call_script.specs.declared.version.Version.{Version}
use Rattle.call_script.specs.declared.version.Version.TheVariants.{One}
use Rattle.call_script.proofs.Growing.{nothing-keeps, link-keeps, caller-keeps, open-keeps, send-keeps, close-keeps, pour-keeps, move-keeps, rounds-keep, tail-keeps, grown-is-plan}
use Rattle.call_script.proofs.QuotaGrowth.{group-keeps, quota-keeps}
use Rattle.scenario_reader.specs.Drafts.{Said, nothing_said, with_item, is_complete, rounds_of, parts_said, schedule_said}
use Rattle.scenario_reader.specs.line.Before.{HasALink}
use Rattle.scenario_reader.specs.Kept.{IsDo, IsScheduleOf, IsDraft}
use Rattle.scenario_reader.specs.line.Operation.{MayDo, MayPutOp}
use Rattle.scenario_reader.specs.line.Link.{MayPutLink}
use Rattle.scenario_reader.specs.line.Group.{MayPutGroup}
use Rattle.scenario_reader.specs.line.Quota.{MayPutQuota}
use Rattle.scenario_reader.specs.line.Caller.{MayPutCaller}
use Rattle.scenario_reader.specs.line.Request.{MayPutOpen}
use Rattle.scenario_reader.specs.line.Rounds.{MayPutRounds, MayPutTail}
use Rattle.scenario_reader.specs.line.Schedule.{MayPutSchedule, MayPutDo}
use Rattle.scenario_reader.specs.line.Table.{MayAdd}
use Rattle.scenario_reader.specs.declared.item.Item.{Item}
use Rattle.scenario_reader.specs.declared.item.Item.TheVariants as item

-- a draft of one version in which nothing else was read
headed-draft : (version : Option Version) → KeepSoFar (parts_said (record nothing_said { version = version })) → (version ≡ None → record nothing_said { version = version } ≡ nothing_said)
    → IsDraft (record nothing_said { version = version })
headed-draft version keeps unheaded = record {
  keeps = keeps;
  unheaded = unheaded;
  unlinked_callers = λ e. refl;
  unlinked_rounds = λ e. refl;
  unrounded = λ e. refl;
  untailed = λ e. refl;
  ticks = tt;
  schedule = record { items = tt; unwritten = λ e. refl };
}

-- before the first line
pub draft-begins : IsDraft nothing_said
draft-begins = headed-draft None (nothing-keeps One) (λ e. refl)

-- the header leaves a draft
draft-header : (said : Said) (version : Version) → IsDraft said → said.version ≡ None → IsDraft (with_item (item.Header version) said)
draft-header said version d v =
    subst (λ (s : Said). IsDraft (record s { version = Some version })) (sym (d.unheaded v)) (headed-draft (Some version) (nothing-keeps version) (λ e. cc))

-- what wasn't said has nothing to hold
none-holds : (P : ℕ → Type 0) (o : Option ℕ) → o ≡ None → IfSome o P
none-holds P None e = tt
none-holds P (Some x) e = cc

-- a list with one element more isn't empty
not-empty : {X : Type 0} (xs : List X) (x : X) → xs ++ x ∷ [] ≡ [] → ⊥
not-empty [] x e = cc
not-empty (y ∷ xs) x e = cc

-- before the rounds nothing of a schedule was read, whatever the callers
empty-schedule : (said : Said) (callers : List CallerEntry) → IsDraft said → said.rounds ≡ None → IsScheduleOf callers (schedule_said said)
empty-schedule said callers d none =
    let nothing = d.schedule.unwritten (d.untailed (d.unrounded none)) in
    record { items = subst (Each (IsDo callers)) (sym nothing) tt; unwritten = λ e. nothing }

draft-link : (said : Said) (entry : LinkEntry) → IsDraft said → MayPutLink said entry → IsDraft (with_item (item.Link entry) said)
draft-link said entry d may = record {
  keeps = link-keeps (parts_said said) entry d.keeps may.link;
  unheaded = λ e. absurd (may.before.headed e);
  unlinked_callers = λ e. may.link.first;
  unlinked_rounds = λ e. may.before.unrounded;
  unrounded = d.unrounded;
  untailed = d.untailed;
  ticks = none-holds (λ tail. (rounds_of said + tail) * length (said.links ++ entry ∷ []) ≤ 524288) said.tail (d.unrounded may.before.unrounded);
  schedule = d.schedule;
}

draft-group : (said : Said) (name : List ℕ) → IsDraft said → MayPutGroup said name → IsDraft (with_item (item.Group name) said)
draft-group said name d may = record {
  keeps = group-keeps (parts_said said) name d.keeps may.group;
  unheaded = λ e. absurd (may.before.before.headed e);
  unlinked_callers = d.unlinked_callers;
  unlinked_rounds = d.unlinked_rounds;
  unrounded = d.unrounded;
  untailed = d.untailed;
  ticks = d.ticks;
  schedule = d.schedule;
}

draft-quota : (said : Said) (link : LinkNo) (quota : Quota) → IsDraft said → MayPutQuota said link quota → IsDraft (with_item (item.Quota link quota) said)
draft-quota said link quota d may = record {
  keeps = quota-keeps (parts_said said) (link_number link) quota d.keeps may.share;
  unheaded = λ e. absurd (may.before.before.headed e);
  unlinked_callers = λ e. may.share.first;
  unlinked_rounds = λ e. may.before.before.unrounded;
  unrounded = d.unrounded;
  untailed = d.untailed;
  ticks = none-holds (λ tail. (rounds_of said + tail) * length (add_quota (link_number link) quota said.links) ≤ 524288) said.tail (d.unrounded may.before.before.unrounded);
  schedule = d.schedule;
}

-- callers more, or with more, and their requests
draft-calls : (said : Said) (requests : List RequestEntry) (callers : List CallerEntry) → IsDraft said → HasALink said → KeepSoFar (parts_said (record said { requests = requests; callers = callers }))
    → IsDraft (record said { requests = requests; callers = callers })
draft-calls said requests callers d before keeps = record {
  keeps = keeps;
  unheaded = λ e. absurd (before.before.headed e);
  unlinked_callers = λ e. absurd (before.linked e);
  unlinked_rounds = d.unlinked_rounds;
  unrounded = d.unrounded;
  untailed = d.untailed;
  ticks = d.ticks;
  schedule = empty-schedule said callers d before.before.unrounded;
}

draft-caller : (said : Said) (name : List ℕ) (group : ℕ) → IsDraft said → MayPutCaller said name group → IsDraft (with_item (item.Caller name group) said)
draft-caller said name group d may =
    draft-calls said said.requests (said.callers ++ new_caller name group ∷ []) d may.before (caller-keeps (parts_said said) name group d.keeps may.caller)

draft-open : (said : Said) (entry : RequestEntry) → IsDraft said → MayPutOpen said entry → IsDraft (with_item (item.Open entry) said)
draft-open said entry d may =
    draft-calls said (said.requests ++ entry ∷ []) (add_op (op.Open entry.request.chan) said.callers) d may.before (open-keeps (parts_said said) entry d.keeps may.request)

op-keeps : (said : Said) (what : Op) → IsDraft said → MayDo (parts_said said) what → KeepSoFar (with_op what (parts_said said))
op-keeps said (op.Open chan) d may = absurd may
op-keeps said (op.Send chan count gap size) d may = send-keeps (parts_said said) chan count gap size d.keeps may
op-keeps said (op.Close chan) d may = close-keeps (parts_said said) chan d.keeps may
op-keeps said (op.Pour link count gap size) d may = pour-keeps (parts_said said) link count gap size d.keeps may
op-keeps said (op.Move old new) d may = move-keeps (parts_said said) old new d.keeps may

draft-op : (said : Said) (what : Op) → IsDraft said → MayPutOp said what → IsDraft (with_item (item.Op what) said)
draft-op said what d may =
    draft-calls said said.requests (add_op what said.callers) d may.before (op-keeps said what d may.op)

draft-rounds : (said : Said) (count : ℕ) → IsDraft said → MayPutRounds said count → IsDraft (with_item (item.Rounds count) said)
draft-rounds said count d may = record {
  keeps = rounds-keep (parts_said said) count d.keeps may.most;
  unheaded = λ e. absurd (may.before.before.headed e);
  unlinked_callers = d.unlinked_callers;
  unlinked_rounds = λ e. absurd (may.before.linked e);
  unrounded = λ e. cc;
  untailed = d.untailed;
  ticks = none-holds (λ tail. (count + tail) * length said.links ≤ 524288) said.tail (d.unrounded may.before.before.unrounded);
  schedule = d.schedule;
}

draft-tail : (said : Said) (count : ℕ) → IsDraft said → MayPutTail said count → IsDraft (with_item (item.Tail count) said)
draft-tail said count d may = record {
  keeps = tail-keeps (parts_said said) count d.keeps may.most;
  unheaded = λ e. absurd (may.headed e);
  unlinked_callers = d.unlinked_callers;
  unlinked_rounds = d.unlinked_rounds;
  unrounded = λ e. absurd (may.rounded e);
  untailed = λ e. cc;
  ticks = may.ticks;
  schedule = d.schedule;
}

draft-schedule : (said : Said) → IsDraft said → MayPutSchedule said → IsDraft (with_item item.Schedule said)
draft-schedule said d may = record {
  keeps = d.keeps;
  unheaded = λ e. absurd (may.headed e);
  unlinked_callers = d.unlinked_callers;
  unlinked_rounds = d.unlinked_rounds;
  unrounded = d.unrounded;
  untailed = λ e. absurd (may.tailed e);
  ticks = d.ticks;
  schedule = record { items = d.schedule.items; unwritten = λ e. absurd (true≢false e) };
}

draft-do : (said : Said) (what : Do) → IsDraft said → MayPutDo said what → IsDraft (with_item (item.Do what) said)
draft-do said what d may = record {
  keeps = d.keeps;
  unheaded = λ e. absurd (may.headed e);
  unlinked_callers = d.unlinked_callers;
  unlinked_rounds = d.unlinked_rounds;
  unrounded = d.unrounded;
  untailed = d.untailed;
  ticks = d.ticks;
  schedule = record {
    items = Each-append (IsDo said.callers) said.items (what ∷ []) d.schedule.items (may.is, tt);
    unwritten = λ e. absurd (true≢false (sym may.written ∙ e));
  };
}

-- what may be added leaves a draft
pub draft-more : (said : Said) (what : Item) → IsDraft said → MayAdd said what → IsDraft (with_item what said)
draft-more said item.Nothing d may = d
draft-more said (item.Header version) d may = draft-header said version d may
draft-more said (item.Link entry) d may = draft-link said entry d may
draft-more said (item.Group name) d may = draft-group said name d may
draft-more said (item.Quota link quota) d may = draft-quota said link quota d may
draft-more said (item.Caller name group) d may = draft-caller said name group d may
draft-more said (item.Open entry) d may = draft-open said entry d may
draft-more said (item.Op what) d may = draft-op said what d may
draft-more said (item.Rounds count) d may = draft-rounds said count d may
draft-more said (item.Tail count) d may = draft-tail said count d may
draft-more said item.Schedule d may = draft-schedule said d may
draft-more said (item.Do what) d may = draft-do said what d may

-- ---- a complete draft is a plan

-- after the tail stands a link
linked-tail : (said : Said) → IsDraft said → is_complete said ≡ true → said.links ≡ [] → ⊥
linked-tail said d complete none = by said.tail complete (d.unrounded (d.unlinked_rounds none)) where
  by : (tail : Option ℕ) → is_some tail ≡ true → tail ≡ None → ⊥
  by None e n = true≢false (sym e)
  by (Some count) e n = cc

least-one : {X : Type 0} (xs : List X) → (xs ≡ [] → ⊥) → 1 ≤ length xs
least-one [] some = absurd (some refl)
least-one (x ∷ xs) some = omega arith

ticks-of : (tail : Option ℕ) (rounds links : ℕ) → is_some tail ≡ true → IfSome tail (λ count. (rounds + count) * links ≤ 524288) → (rounds + unwrap_or tail 0) * links ≤ 524288
ticks-of None rounds links e ticks = cc
ticks-of (Some count) rounds links e ticks = ticks

pub complete-draft : (said : Said) → IsDraft said → is_complete said ≡ true → IsPlan (parts_said said)
complete-draft said d e = grown-is-plan (parts_said said) d.keeps (record {
  links = least-one said.links (linked-tail said d e);
  ticks = ticks-of said.tail (rounds_of said) (length said.links) e d.ticks;
})
