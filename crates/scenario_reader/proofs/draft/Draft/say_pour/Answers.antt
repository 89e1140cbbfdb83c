use Rattle.std.proofs.Common.{Option, sym, ap, subst}
use Rattle.scenario_reader.proofs.kind.Pour.{pour_small}
use Rattle.call_script.specs.declared.entries.LinkEntry.{LinkEntry}
use Rattle.scenario_reader.specs.Causes.{AnswersWithRoom}
use Rattle.scenario_reader.specs.line.Pour.{pour_for}
use Rattle.scenario_reader.proofs.draft.Draft.say_pour.Goals as goal

pub link_said-entry-requires : goal.link_said-entry-requires
link_said-entry-requires c = (pour_small c.args.self.now c.args.values.now c.requires).link

pub pour_for-requires-clause-few : goal.pour_for-requires-clause-few
pour_for-requires-clause-few c = (pour_small c.args.self.now c.args.values.now c.requires).few

pub pour_for-requires-clause-small : goal.pour_for-requires-clause-small
pour_for-requires-clause-small c = (pour_small c.args.self.now c.args.values.now c.requires).small

pub returns : goal.returns
returns c = subst (AnswersWithRoom c.pour_for.result) (ap (λ (found : Option LinkEntry). pour_for c.args.self.now found c.args.values.now) (sym c.link_said-entry.ensures)) c.pour_for.ensures
