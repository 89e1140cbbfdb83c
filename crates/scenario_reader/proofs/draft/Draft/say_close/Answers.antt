use Rattle.std.proofs.Common.{refl, sym, ap, subst}
use Rattle.scenario_reader.specs.line.Close.{close_form, close_for}
use Rattle.scenario_reader.proofs.kind.Using.{own-says}
use Rattle.scenario_reader.specs.Causes.{AnswersWithRoom}
use Rattle.scenario_reader.proofs.draft.Draft.say_close.Goals as goal

pub own_said-entry-requires : goal.own_said-entry-requires
own_said-entry-requires c = own-says c.args.self.now close_form c.args.values.now 0 c.requires refl

pub returns : goal.returns
returns c = subst (AnswersWithRoom c.close_for.result) (ap (close_for c.args.self.now) (sym c.own_said-entry.ensures.at)) c.close_for.ensures
