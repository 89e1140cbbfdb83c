-- The account is as it was, but for its clock.
use Rattle.std.proofs.Common.{sym, ap, ◌∙◌, arith}
use Rattle.link_steps.specs.Account.{account_reply, account_after}
use Rattle.link_server.proofs.Words.{account_in}
use Rattle.link_steps.proofs.QuietTicks.{quiet-after, quiet-tick}
use Rattle.link_server.proofs.link_state.LinkState.rest_once.Goals as goal

pub rest-requires-clause-rests : goal.rest-requires-clause-rests
rest-requires-clause-rests c = let link = c.args.self.now in (link.due, (link.rests c.requires.rests, (let before = c.requires.rests in omega (arith, before))))

pub returns-clause-shape : goal.returns-clause-shape
returns-clause-shape c = ap (λ link. link.shape) c.rest.ensures.same

pub returns-clause-reply : goal.returns-clause-reply
unfolding account_reply
returns-clause-reply c = let link = c.args.self.now in sym (quiet-tick link.shape link.due (account_in link) (link.rests c.requires.rests) c.requires.rests)

pub returns-clause-kept : goal.returns-clause-kept
unfolding account_after
returns-clause-kept c =
    let link = c.args.self.now in
    c.rest.ensures.kept ∙ ap (λ clock. record (account_in link) { clock = clock }) (omega arith) ∙ sym (quiet-after link.shape link.due (account_in link) (link.rests c.requires.rests) c.requires.rests)
