-- The row of the channel is found, judged by its phase and its offer, and committed.
use Rattle.std.proofs.Common.{◌≡◌, ◌≤◌, ap, ◌∙◌, sym, subst}
use Rattle.link_server.proofs.Words.{account_relaxed, account_after, account_reply, with_account_rows, whole, account, TableAccount, row_in, account_in, Relax}
use Rattle.traffic_contract.specs.Admission.{Server}
use Rattle.link_server.specs.Changes.{HasRow, MayCommit}
use Rattle.link_server.specs.Sound.{IsSound}
use Rattle.link_server.proofs.Departed.Rows.{counted-changed}
use Rattle.link_server.proofs.LinkRests.{due-now}
use Rattle.link_server.proofs.Sound.Stood.{still-stood}
use Rattle.link_server.proofs.RowsOfTable.Parts.{still-of}
use Rattle.link_steps.specs.declared.replies.Reply.TheVariants.{Relaxed}
use Rattle.link_steps.proofs.RulesPassed.{unfit-none}
use Rattle.link_server.proofs.Replies.Setup.{relax-absent, relax-phase, relax-unfit, relax-relaxed, relax-same, relax-kept}
use Rattle.link_server.proofs.Sound.Setup.{sound-relax, relaxed-slots}
use Rattle.link_server.proofs.link_state.LinkState.relax.Goals as goal
use Rattle.link_server.proofs.link_state.LinkState.relax.Goals.{After-commit}

pub returns-in_default-clause-reply : goal.returns-in_default-clause-reply
returns-in_default-clause-reply c = relax-absent c.args.self.now.shape (account_in c.args.self.now) c.args.chan c.args.level c.args.up_bound c.in_default.ensures.none

pub returns-in_default-clause-kept : goal.returns-in_default-clause-kept
returns-in_default-clause-kept c = relax-same c.args.self.now.shape _ c.args.chan c.args.level c.args.up_bound _

pub returns-in-Some-not_tentative-clause-reply : goal.returns-in-Some-not_tentative-clause-reply
returns-in-Some-not_tentative-clause-reply c =
    relax-phase c.args.self.now.shape (account_in c.args.self.now) c.args.chan c.args.level c.args.up_bound (row_in c.in-Some.row.now) _ c.in-Some.ensures.some c.in-Some-not_tentative.ensures

pub returns-in-Some-not_tentative-clause-kept : goal.returns-in-Some-not_tentative-clause-kept
returns-in-Some-not_tentative-clause-kept c = relax-same c.args.self.now.shape _ c.args.chan c.args.level c.args.up_bound _

pub returns-in-Some-unfit-clause-reply : goal.returns-in-Some-unfit-clause-reply
returns-in-Some-unfit-clause-reply c =
    relax-unfit c.args.self.now.shape (account_in c.args.self.now) c.args.chan c.args.level c.args.up_bound (row_in c.in-Some.row.now) _ c.in-Some.ensures.some c.in_default-not_tentative.ensures
    c.in-Some-unfit.ensures

pub returns-in-Some-unfit-clause-kept : goal.returns-in-Some-unfit-clause-kept
returns-in-Some-unfit-clause-kept c = relax-same c.args.self.now.shape _ c.args.chan c.args.level c.args.up_bound _

-- the reply is the account's, and so is what is kept
replied : (c : After-commit) → Relaxed c.args.self.now.clock ≡ account_reply (whole c.args.self.now.shape) (account_in c.args.self.now) (Relax c.args.chan c.args.level c.args.up_bound)
replied c =
    relax-relaxed c.args.self.now.shape (account_in c.args.self.now) c.args.chan c.args.level c.args.up_bound (row_in c.in-Some.row.now)
    c.in-Some.ensures.some c.in_default-not_tentative.ensures
    c.in_default-unfit.ensures

-- it has no more slots than before
pub commit-requires-clause-may : goal.commit-requires-clause-may
commit-requires-clause-may c =
    let link = c.args.self.now in
    let row = row_in c.in-Some.row.now in
    let found = c.in-Some.ensures.some in
    let reply = relax-relaxed link.shape (account_in link) c.args.chan c.args.level c.args.up_bound row found c.in_default-not_tentative.ensures c.in_default-unfit.ensures in
    let fits = c.in_default-unfit.ensures in
    subst (λ (server : Server). HasRow (MayCommit server.bounds c.args.level c.args.up_bound) c.args.chan link.table.rows) (sym (ap (λ (table : TableAccount). table.server) link.of_shape))
    (record {
      row = row;
      found = found;
      holds = record {
        tentative = c.in_default-not_tentative.ensures;
        upto = (unfit-none row.terms c.args.level c.args.up_bound (sym fits)).0;
        fewer = relaxed-slots link.shape link.queue.room (account_in link) c.args.chan c.args.level c.args.up_bound link.clock row link.sound found reply;
      };
    })

kept : (c : After-commit) → account c.args.self.now.clock c.args.self.now.queue c.commit.new.self.rows ≡ account_after c.args.self.now.shape (account_in c.args.self.now) (Relax c.args.chan c.args.level c.args.up_bound) (Relaxed c.args.self.now.clock)
kept c =
    ap (λ (table : TableAccount). with_account_rows (account_in c.args.self.now) table.rows) c.commit.ensures
    ∙ relax-kept c.args.self.now.shape (account_in c.args.self.now) c.args.chan c.args.level c.args.up_bound c.args.self.now.clock

pub invariant_of-self : goal.invariant_of-self
invariant_of-self c =
    let link = c.args.self.now in
    let after = (goal.at.invariant_of-self c).After-commit in
    record {
      of_shape = still-of link c.commit.new.self (ap (λ (table : TableAccount). table.server) c.commit.ensures) (ap (λ (table : TableAccount). table.buffer) c.commit.ensures);
      looked = (subst (λ t. t ≤ link.clock) (sym (ap (λ (table : TableAccount). table.looked) c.commit.ensures)) link.looked.0, link.looked.1);
      few = link.few;
      same_bounds = link.same_bounds;
      same_rate = link.same_rate;
      sound = subst (IsSound link.shape link.queue.room) (sym (kept after)) (sound-relax link.shape link.queue.room (account_in link) c.args.chan c.args.level c.args.up_bound (Relaxed link.clock) c.requires.fits link.sound (replied after));
      stood = still-stood link (Relax c.args.chan c.args.level c.args.up_bound) (Relaxed link.clock) _ c.requires.fits (replied after) (kept after);
      counted = counted-changed link c.commit.new.self _ c.args.chan (account_relaxed c.args.level c.args.up_bound) (λ row n is. record { taken = is.taken; own = is.own }) c.commit.ensures;
      rests = due-now _ _;
    }

pub returns-clause-reply : goal.returns-clause-reply
returns-clause-reply c = replied (goal.at.returns-clause-reply c).After-commit

pub returns-clause-kept : goal.returns-clause-kept
returns-clause-kept c = kept (goal.at.returns-clause-kept c).After-commit
