use Rattle.scenario_reader.proofs.kind.Link.{says-link}
use Rattle.scenario_reader.proofs.draft.Draft.say_link.Goals as goal

pub shape_said-requires-clause-figures : goal.shape_said-requires-clause-figures
shape_said-requires-clause-figures c = (says-link c.args.version c.args.self.now c.args.values.now c.requires).figures
