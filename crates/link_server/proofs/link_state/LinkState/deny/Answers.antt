-- The row of the channel is found, judged by its phase, and taken out of the table.
use Rattle.std.proofs.Common.{◌≡◌, ◌≤◌, ap, ◌∙◌, sym, subst}
use Rattle.link_server.proofs.Words.{Deny, account_after, account_reply, with_account_rows, whole, account, TableAccount, row_in, account_in}
use Rattle.link_steps.specs.declared.replies.Reply.TheVariants.{Denied}
use Rattle.link_server.specs.Sound.{IsSound}
use Rattle.link_server.proofs.Replies.Setup.{deny-absent, deny-refused, deny-denied, deny-same, deny-kept}
use Rattle.link_server.proofs.RowsOfTable.Parts.{still-of}
use Rattle.link_server.proofs.LinkRests.{due-now}
use Rattle.link_server.proofs.Sound.Setup.{sound-deny}
use Rattle.link_server.proofs.Sound.Stood.{still-stood}
use Rattle.link_server.proofs.link_state.LinkState.deny.Goals as goal
use Rattle.link_server.proofs.link_state.LinkState.deny.Goals.{After-remove}

pub returns-in_default-clause-reply : goal.returns-in_default-clause-reply
returns-in_default-clause-reply c = deny-absent c.args.self.now.shape (account_in c.args.self.now) c.args.chan c.in_default.ensures.none

pub returns-in_default-clause-kept : goal.returns-in_default-clause-kept
returns-in_default-clause-kept c = deny-same c.args.self.now.shape _ c.args.chan _

pub returns-in-Some-not_tentative-clause-reply : goal.returns-in-Some-not_tentative-clause-reply
returns-in-Some-not_tentative-clause-reply c =
    deny-refused c.args.self.now.shape (account_in c.args.self.now) c.args.chan (row_in c.in-Some.row.now) _ c.in-Some.ensures.some c.in-Some-not_tentative.ensures

pub returns-in-Some-not_tentative-clause-kept : goal.returns-in-Some-not_tentative-clause-kept
returns-in-Some-not_tentative-clause-kept c = deny-same c.args.self.now.shape _ c.args.chan _

pub remove-requires : goal.remove-requires
remove-requires c = record { held = record { row = row_in c.in-Some.row.now; found = c.in-Some.ensures.some; holds = tt } }

-- the reply is the account's, and so is what is kept
replied : (c : After-remove) → Denied ≡ account_reply (whole c.args.self.now.shape) (account_in c.args.self.now) (Deny c.args.chan)
replied c =
    deny-denied c.args.self.now.shape (account_in c.args.self.now) c.args.chan (row_in c.in-Some.row.now)
    c.in-Some.ensures.some c.in_default-not_tentative.ensures

kept : (c : After-remove) → account c.args.self.now.clock c.args.self.now.queue c.remove.new.self.rows ≡ account_after c.args.self.now.shape (account_in c.args.self.now) (Deny c.args.chan) Denied
kept c =
    ap (λ (table : TableAccount). with_account_rows (account_in c.args.self.now) table.rows) c.remove.ensures.rows
    ∙ deny-kept c.args.self.now.shape (account_in c.args.self.now) c.args.chan

pub invariant_of-self : goal.invariant_of-self
invariant_of-self c =
    let link = c.args.self.now in
    let after = (goal.at.invariant_of-self c).After-remove in
    record {
      of_shape = still-of link c.remove.new.self (ap (λ (table : TableAccount). table.server) c.remove.ensures.rows) (ap (λ (table : TableAccount). table.buffer) c.remove.ensures.rows);
      looked = (subst (λ t. t ≤ link.clock) (sym (ap (λ (table : TableAccount). table.looked) c.remove.ensures.rows)) link.looked.0, link.looked.1);
      few = link.few;
      same_bounds = link.same_bounds;
      same_rate = link.same_rate;
      sound = subst (IsSound link.shape link.queue.room) (sym (kept after)) (sound-deny link.shape link.queue.room (account_in link) c.args.chan Denied link.sound);
      stood = still-stood link (Deny c.args.chan) Denied _ tt (replied after) (kept after);
      counted = c.remove.ensures.counted link.queue.here link.counted;
      rests = due-now _ _;
    }

pub returns-clause-reply : goal.returns-clause-reply
returns-clause-reply c = replied (goal.at.returns-clause-reply c).After-remove

pub returns-clause-kept : goal.returns-clause-kept
returns-clause-kept c = kept (goal.at.returns-clause-kept c).After-remove
