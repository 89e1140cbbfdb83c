-- A refusal leaves the rows.
use Rattle.link_server.proofs.Replies.Setup.{reserve-same}
use Rattle.link_server.proofs.link_state.LinkState.reserve.Goals as goal

pub returns-in-Err-clause-kept : goal.returns-in-Err-clause-kept
returns-in-Err-clause-kept c = reserve-same c.args.self.now.shape _ c.args.wanted.now _
