use Rattle.std.proofs.Common.{List, ◌∙◌, ap}
use Rattle.scenario_reader.specs.Drafts.{Said, own_request, uses_said}
use Rattle.scenario_reader.specs.Uses.{use_at}
use Rattle.scenario_reader.specs.declared.uses.Uses.{Uses}
use Rattle.scenario_reader.proofs.Passing.RequestUses.{own-use}
use Rattle.scenario_reader.proofs.draft.Draft.uses_of.Goals as goal

pub returns-clause-value : goal.returns-clause-value
returns-clause-value c =
    let name = c.requires.name in
    let own = c.requires.own in
    let chan = c.args.entry.now.request.chan in
    let is = own-use _ _ _ _ _ _ name c.args.entry.now c.self.invariant.0 c.self.invariant.1 (ap (λ (s : Said). own_request s name) c.self.view_is ∙ own) in
    c.use_at.ensures.value ∙ ap (λ (uses : List Uses). use_at uses chan) c.deref.ensures.value ∙ is ∙ ap (λ (s : Said). uses_said s chan) c.self.view_is
