-- Each answer is that of the account, and so the legal one of every history that the link stands for.
use Rattle.std.proofs.Common.{refl}
use Rattle.link_server.proofs.Words.{account_in}
use Rattle.link_server.proofs.EveryHistoryAgrees.{rows-have, reserve-legal, reserve-entered, reserve-instead, reserve-guaranteed}
use Rattle.link_server.proofs.link_state.LinkStateLinkStep.step.Goals as goal

-- ---- a tick

pub returns-in-Tick-clause-legal : goal.returns-in-Tick-clause-legal
returns-in-Tick-clause-legal c =
    reserve-legal c.args.self.now.shape (account_in c.args.self.now) c.args.ask.now _ c.tick.result (rows-have c.args.self.now) c.in-Tick.is c.tick.ensures.reply

pub returns-in-Tick-clause-entered : goal.returns-in-Tick-clause-entered
returns-in-Tick-clause-entered c =
    reserve-entered c.args.self.now.shape c.tick.new.self.shape (account_in c.args.self.now) (account_in c.tick.new.self) c.args.ask.now _ c.tick.result
    (rows-have c.args.self.now) c.in-Tick.is c.tick.ensures.shape c.tick.ensures.kept

pub returns-in-Tick-clause-guaranteed : goal.returns-in-Tick-clause-guaranteed
returns-in-Tick-clause-guaranteed c =
    reserve-guaranteed c.args.self.now.shape c.args.ask.now (account_in c.args.self.now) c.tick.result c.requires.fits
    (reserve-legal c.args.self.now.shape (account_in c.args.self.now) c.args.ask.now _ c.tick.result (rows-have c.args.self.now) c.in-Tick.is c.tick.ensures.reply)

-- ---- any other ask

pub returns-in_default-clause-legal : goal.returns-in_default-clause-legal
returns-in_default-clause-legal c =
    reserve-legal c.args.self.now.shape (account_in c.args.self.now) c.args.ask.now c.args.ask.now c.answer.result (rows-have c.args.self.now) refl c.answer.ensures.reply

pub returns-in_default-clause-entered : goal.returns-in_default-clause-entered
returns-in_default-clause-entered c =
    reserve-entered c.args.self.now.shape c.answer.new.self.shape (account_in c.args.self.now) (account_in c.answer.new.self) c.args.ask.now c.args.ask.now c.answer.result
    (rows-have c.args.self.now) refl c.answer.ensures.shape c.answer.ensures.kept

pub returns-in_default-clause-instead : goal.returns-in_default-clause-instead
returns-in_default-clause-instead c =
    reserve-instead c.args.self.now.shape (account_in c.args.self.now) c.args.ask.now c.args.ask.now c.answer.result (rows-have c.args.self.now) refl c.answer.ensures.instead

pub returns-in_default-clause-guaranteed : goal.returns-in_default-clause-guaranteed
returns-in_default-clause-guaranteed c =
    reserve-guaranteed c.args.self.now.shape c.args.ask.now (account_in c.args.self.now) c.answer.result c.requires.fits
    (reserve-legal c.args.self.now.shape (account_in c.args.self.now) c.args.ask.now c.args.ask.now c.answer.result (rows-have c.args.self.now) refl c.answer.ensures.reply)
