-- The row of the channel is found at the hop that is named, judged by its phase, and closed.
use Rattle.std.proofs.Common.{◌≡◌, ◌≤◌, Some, None, sym, ap, ◌∙◌, subst, arith}
use Rattle.link_server.proofs.Words.{account_closed, find, Release, is_account_at_hop, is_account_of, account_after, account_reply, with_account_rows, names_first_hop, whole, account, TableAccount, row_in, account_in}
use Rattle.link_steps.specs.declared.replies.Reply.TheVariants.{Closing}
use Rattle.link_server.specs.Changes.{IsRowAtHop}
use Rattle.link_steps.proofs.SearchAndFilter.{Each-find}
use Rattle.link_server.specs.Sources.{IsReady}
use Rattle.link_server.specs.Sound.{IsSound}
use Rattle.link_server.proofs.RowsOfTable.Placed.{hop-found}
use Rattle.link_server.proofs.Departed.Rows.{counted-changed}
use Rattle.link_server.proofs.LinkRests.{due-now}
use Rattle.link_server.proofs.Sound.Stood.{all-ready, still-stood}
use Rattle.link_server.proofs.RowsOfTable.Parts.{still-of}
use Rattle.link_server.proofs.Replies.Close.{names-is, release-absent, release-phase, release-closes, release-same, release-kept}
use Rattle.link_server.proofs.Sound.Setup.{sound-release}
use Rattle.link_server.proofs.link_state.LinkState.release.Goals as goal
use Rattle.link_server.proofs.link_state.LinkState.release.Goals.{In-Some, After-close}

pub returns-in_default-clause-reply : goal.returns-in_default-clause-reply
returns-in_default-clause-reply c =
    release-absent c.args.self.now.shape (account_in c.args.self.now) c.args.chan c.args.upstream
    (subst (λ first. find (is_account_at_hop c.args.chan first) c.args.self.now.table.rows ≡ None) (names-is c.args.upstream c.is_none.result c.is_none.ensures) c.in_default.ensures.none)

pub returns-in_default-clause-kept : goal.returns-in_default-clause-kept
returns-in_default-clause-kept c = release-same c.args.self.now.shape _ c.args.chan c.args.upstream _

-- the row is the channel's
at-hop : (c : In-Some) → IsRowAtHop c.args.chan (names_first_hop c.args.upstream) c.args.self.now.table.rows (row_in c.in-Some.row.now)
at-hop c = subst (λ first. IsRowAtHop c.args.chan first c.args.self.now.table.rows (row_in c.in-Some.row.now)) (names-is c.args.upstream c.is_none.result c.is_none.ensures) c.in-Some.ensures.some

found : (c : In-Some) → find (is_account_at_hop c.args.chan (names_first_hop c.args.upstream)) c.args.self.now.table.rows ≡ Some (row_in c.in-Some.row.now)
found c = hop-found c.args.chan (names_first_hop c.args.upstream) c.args.self.now.table.rows (row_in c.in-Some.row.now) (at-hop c)

pub returns-in-Some-not_committed-clause-reply : goal.returns-in-Some-not_committed-clause-reply
returns-in-Some-not_committed-clause-reply c =
    let at = goal.at.returns-in-Some-not_committed-clause-reply c in
    release-phase c.args.self.now.shape (account_in c.args.self.now) c.args.chan c.args.upstream (row_in c.in-Some.row.now) _ (found at.In-Some) c.in-Some-not_committed.ensures

pub returns-in-Some-not_committed-clause-kept : goal.returns-in-Some-not_committed-clause-kept
returns-in-Some-not_committed-clause-kept c = release-same c.args.self.now.shape _ c.args.chan c.args.upstream _

-- it may be closed
pub close-requires-clause-may : goal.close-requires-clause-may
close-requires-clause-may c =
    let link = c.args.self.now in
    let row = row_in c.in-Some.row.now in
    let found = c.in-Some.ensures.some.found in
    let ready = Each-find (IsReady link.clock) (is_account_of c.args.chan) link.table.rows row (all-ready link c.requires.early) found in
    record { row = row; found = found; holds = record { phase = c.in_default-not_committed.ensures; soon = ready.last } }

-- the reply is the account's, and so is what is kept
answered : (c : After-close) → find (is_account_at_hop c.args.chan (names_first_hop c.args.upstream)) c.args.self.now.table.rows ≡ Some (row_in c.in-Some.row.now) → (Closing c.count_at_release-count.result c.cancelled_at_release-cancelled.result) ≡ account_reply (whole c.args.self.now.shape) (account_in c.args.self.now) (Release c.args.chan c.args.upstream)
answered c found =
    release-closes c.args.self.now.shape (account_in c.args.self.now) c.args.chan c.args.upstream (row_in c.in-Some.row.now) c.count_at_release-count.result c.cancelled_at_release-cancelled.result found
    c.in_default-not_committed.ensures c.count_at_release-count.ensures c.cancelled_at_release-cancelled.ensures

closed : (c : After-close) → IsRowAtHop c.args.chan (names_first_hop c.args.upstream) c.args.self.now.table.rows (row_in c.in-Some.row.now) → account c.args.self.now.clock c.args.self.now.queue c.close.new.self.rows ≡ account_after c.args.self.now.shape (account_in c.args.self.now) (Release c.args.chan c.args.upstream) (Closing c.count_at_release-count.result c.cancelled_at_release-cancelled.result)
closed c is =
    ap (λ (table : TableAccount). with_account_rows (account_in c.args.self.now) table.rows) c.close.ensures
    ∙ release-kept c.args.self.now.shape (account_in c.args.self.now) c.args.chan c.args.upstream c.count_at_release-count.result c.cancelled_at_release-cancelled.result (row_in c.in-Some.row.now) is

pub invariant_of-self : goal.invariant_of-self
invariant_of-self c =
    let link = c.args.self.now in
    let at = goal.at.invariant_of-self c in
    let after = at.After-close in
    let is = at-hop at.In-Some in
    record {
      of_shape = still-of link c.close.new.self (ap (λ (table : TableAccount). table.server) c.close.ensures) (ap (λ (table : TableAccount). table.buffer) c.close.ensures);
      looked = (subst (λ t. t ≤ link.clock) (sym (ap (λ (table : TableAccount). table.looked) c.close.ensures)) (omega arith), link.looked.1);
      few = link.few;
      same_bounds = link.same_bounds;
      same_rate = link.same_rate;
      sound = subst (IsSound link.shape link.queue.room) (sym (closed after is)) (sound-release link.shape link.queue.room (account_in link) c.args.chan c.args.upstream (Closing c.count_at_release-count.result c.cancelled_at_release-cancelled.result) link.sound (answered after (found at.In-Some)));
      stood = still-stood link (Release c.args.chan c.args.upstream) ((Closing c.count_at_release-count.result c.cancelled_at_release-cancelled.result)) _ tt (answered after (found at.In-Some)) (closed after is);
      counted = counted-changed link c.close.new.self _ c.args.chan (account_closed c.count_at_release-count.result) (λ row n is. record { taken = is.taken; own = is.own }) c.close.ensures;
      rests = due-now _ _;
    }

pub returns-clause-reply : goal.returns-clause-reply
returns-clause-reply c = (let at = goal.at.returns-clause-reply c in answered at.After-close (found at.In-Some))

pub returns-clause-kept : goal.returns-clause-kept
returns-clause-kept c = (let at = goal.at.returns-clause-kept c in closed at.After-close (at-hop at.In-Some))
