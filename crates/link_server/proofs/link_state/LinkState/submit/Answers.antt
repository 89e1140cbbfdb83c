-- The row of the channel at its first hop is found, judged by its phase, its plan and its contract, and planned for.
use Rattle.std.proofs.Common.{◌≡◌, ◌≤◌, Some, true, length, sym, ap, ◌∙◌, subst}
use Rattle.link_server.proofs.Words.{account_planned, find, Submit, Planned, is_account_at_hop, account_after, account_reply, with_account_rows, whole, account, TableAccount, row_in, account_in}
use Rattle.link_server.specs.Sound.{IsSound}
use Rattle.link_server.proofs.RowsOfTable.Placed.{hop-found}
use Rattle.link_server.proofs.Departed.Rows.{counted-changed}
use Rattle.link_server.proofs.LinkRests.{due-now}
use Rattle.link_server.proofs.Sound.Stood.{still-stood}
use Rattle.link_server.proofs.RowsOfTable.Parts.{still-of}
use Rattle.link_server.proofs.Replies.Setup.{submit-absent, submit-phase, submit-busy, submit-big, submit-planned, submit-same, submit-kept}
use Rattle.link_server.proofs.Calendars.Planning.{none-left}
use Rattle.link_server.proofs.Sound.Setup.{sound-submit}
use Rattle.link_server.proofs.link_state.LinkState.submit.Goals as goal
use Rattle.link_server.proofs.link_state.LinkState.submit.Goals.{In-Some, After-plan}

pub returns-in_default-clause-reply : goal.returns-in_default-clause-reply
returns-in_default-clause-reply c = submit-absent c.args.self.now.shape (account_in c.args.self.now) c.args.chan c.args.count c.args.gap c.args.size c.in_default.ensures.none

pub returns-in_default-clause-kept : goal.returns-in_default-clause-kept
returns-in_default-clause-kept c = submit-same c.args.self.now.shape _ c.args.chan c.args.count c.args.gap c.args.size _

-- the row is the channel's
found : (c : In-Some) → find (is_account_at_hop c.args.chan true) c.args.self.now.table.rows ≡ Some (row_in c.in-Some.row.now)
found c = hop-found c.args.chan true c.args.self.now.table.rows (row_in c.in-Some.row.now) c.in-Some.ensures.some

pub returns-in-Some-not_committed-clause-reply : goal.returns-in-Some-not_committed-clause-reply
returns-in-Some-not_committed-clause-reply c =
    submit-phase c.args.self.now.shape (account_in c.args.self.now) c.args.chan c.args.count c.args.gap c.args.size (row_in c.in-Some.row.now) _ (found (goal.at.returns-in-Some-not_committed-clause-reply c).In-Some) c.in-Some-not_committed.ensures

pub returns-in-Some-not_committed-clause-kept : goal.returns-in-Some-not_committed-clause-kept
returns-in-Some-not_committed-clause-kept c = submit-same c.args.self.now.shape _ c.args.chan c.args.count c.args.gap c.args.size _

pub returns-in-Some-busy-clause-reply : goal.returns-in-Some-busy-clause-reply
returns-in-Some-busy-clause-reply c =
    submit-busy c.args.self.now.shape (account_in c.args.self.now) c.args.chan c.args.count c.args.gap c.args.size (row_in c.in-Some.row.now) _ (found (goal.at.returns-in-Some-busy-clause-reply c).In-Some) c.in_default-not_committed.ensures c.in-Some-busy.ensures

pub returns-in-Some-busy-clause-kept : goal.returns-in-Some-busy-clause-kept
returns-in-Some-busy-clause-kept c = submit-same c.args.self.now.shape _ c.args.chan c.args.count c.args.gap c.args.size _

pub returns-in-Some-too_big-clause-reply : goal.returns-in-Some-too_big-clause-reply
returns-in-Some-too_big-clause-reply c =
    submit-big c.args.self.now.shape (account_in c.args.self.now) c.args.chan c.args.count c.args.gap c.args.size (row_in c.in-Some.row.now) _ (found (goal.at.returns-in-Some-too_big-clause-reply c).In-Some) c.in_default-not_committed.ensures c.in_default-busy.ensures c.in-Some-too_big.ensures

pub returns-in-Some-too_big-clause-kept : goal.returns-in-Some-too_big-clause-kept
returns-in-Some-too_big-clause-kept c = submit-same c.args.self.now.shape _ c.args.chan c.args.count c.args.gap c.args.size _

-- it may plan
pub plan-requires-clause-may : goal.plan-requires-clause-may
plan-requires-clause-may c =
    let row = row_in c.in-Some.row.now in
    record { row = row; found = c.in-Some.ensures.some.found; holds = record { phase = c.in_default-not_committed.ensures; none_left = none-left (length row.left) c.in_default-busy.ensures } }

-- the reply is the account's, and so is what is kept
replied : (c : After-plan) → Planned c.args.self.now.clock ≡ account_reply (whole c.args.self.now.shape) (account_in c.args.self.now) (Submit c.args.chan c.args.count c.args.gap c.args.size)
replied c =
    submit-planned c.args.self.now.shape (account_in c.args.self.now) c.args.chan c.args.count c.args.gap c.args.size (row_in c.in-Some.row.now)
    (hop-found c.args.chan true c.args.self.now.table.rows (row_in c.in-Some.row.now) c.in-Some.ensures.some)
    c.in_default-not_committed.ensures c.in_default-busy.ensures c.in_default-too_big.ensures

kept : (c : After-plan) → account c.args.self.now.clock c.args.self.now.queue c.plan.new.self.rows ≡ account_after c.args.self.now.shape (account_in c.args.self.now) (Submit c.args.chan c.args.count c.args.gap c.args.size) (Planned c.args.self.now.clock)
kept c =
    ap (λ (table : TableAccount). with_account_rows (account_in c.args.self.now) table.rows) c.plan.ensures
    ∙ submit-kept c.args.self.now.shape (account_in c.args.self.now) c.args.chan c.args.count c.args.gap c.args.size c.args.self.now.clock (row_in c.in-Some.row.now) c.in-Some.ensures.some

pub invariant_of-self : goal.invariant_of-self
invariant_of-self c =
    let link = c.args.self.now in
    let at = goal.at.invariant_of-self c in
    let after = at.After-plan in
    record {
      of_shape = still-of link c.plan.new.self (ap (λ (table : TableAccount). table.server) c.plan.ensures) (ap (λ (table : TableAccount). table.buffer) c.plan.ensures);
      looked = (subst (λ t. t ≤ link.clock) (sym (ap (λ (table : TableAccount). table.looked) c.plan.ensures)) link.looked.0, link.looked.1);
      few = link.few;
      same_bounds = link.same_bounds;
      same_rate = link.same_rate;
      sound = subst (IsSound link.shape link.queue.room) (sym (kept after)) (sound-submit link.shape link.queue.room (account_in link) c.args.chan c.args.count c.args.gap c.args.size (Planned link.clock) c.requires.fits link.sound (replied after));
      stood = still-stood link (Submit c.args.chan c.args.count c.args.gap c.args.size) (Planned link.clock) _ c.requires.fits (replied after) (kept after);
      counted = counted-changed link c.plan.new.self _ c.args.chan (account_planned c.args.self.now.clock c.args.count c.args.gap c.args.size) (λ row n is. record { taken = is.taken; own = is.own }) c.plan.ensures;
      rests = due-now _ _;
    }

pub returns-clause-reply : goal.returns-clause-reply
returns-clause-reply c = replied (goal.at.returns-clause-reply c).After-plan

pub returns-clause-kept : goal.returns-clause-kept
returns-clause-kept c = kept (goal.at.returns-clause-kept c).After-plan
