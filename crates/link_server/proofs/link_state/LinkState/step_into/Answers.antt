-- Each answer is that of the account, and so the legal one of every history that the link stands for.
use Rattle.link_server.proofs.Words.{account_in}
use Rattle.link_server.proofs.EveryHistoryAgrees.{rows-have, step-legal, step-entered}
use Rattle.link_server.proofs.SureAsks.{is-tick}
use Rattle.link_server.proofs.link_state.LinkState.step_into.Goals as goal

pub returns-in-Arrive-clause-legal : goal.returns-in-Arrive-clause-legal
returns-in-Arrive-clause-legal c =
    step-legal c.args.self.now.shape (account_in c.args.self.now) c.args.ask.now _ c.arrive.new.reply (rows-have c.args.self.now) c.in-Arrive.is c.arrive.ensures.reply

pub returns-in-Arrive-clause-entered : goal.returns-in-Arrive-clause-entered
returns-in-Arrive-clause-entered c =
    step-entered c.args.self.now.shape c.arrive.new.self.shape (account_in c.args.self.now) (account_in c.arrive.new.self) c.args.ask.now _ c.arrive.new.reply
    (rows-have c.args.self.now) c.in-Arrive.is c.arrive.ensures.shape c.arrive.ensures.kept

pub returns-in_default-clause-legal : goal.returns-in_default-clause-legal
returns-in_default-clause-legal c =
    step-legal c.args.self.now.shape (account_in c.args.self.now) c.args.ask.now _ c.make_tick.new.reply (rows-have c.args.self.now)
    (is-tick c.args.ask.now c.requires.sure c.in_default.not-Arrive) c.make_tick.ensures.reply

pub returns-in_default-clause-entered : goal.returns-in_default-clause-entered
returns-in_default-clause-entered c =
    step-entered c.args.self.now.shape c.make_tick.new.self.shape (account_in c.args.self.now) (account_in c.make_tick.new.self) c.args.ask.now _ c.make_tick.new.reply
    (rows-have c.args.self.now) (is-tick c.args.ask.now c.requires.sure c.in_default.not-Arrive) c.make_tick.ensures.shape c.make_tick.ensures.kept
