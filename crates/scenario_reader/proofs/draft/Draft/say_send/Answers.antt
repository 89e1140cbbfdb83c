use Rattle.std.proofs.Common.{Option, refl, sym, ap, subst}
use Rattle.line_forms.proofs.FitsByPlace.{number-fits}
use Rattle.scenario_reader.specs.Known.{names_said}
use Rattle.scenario_reader.specs.line.Send.{send_form, send_for}
use Rattle.scenario_reader.proofs.kind.Using.{own-says}
use Rattle.call_script.specs.declared.entries.RequestEntry.{RequestEntry}
use Rattle.scenario_reader.specs.Causes.{AnswersWithRoom}
use Rattle.scenario_reader.proofs.draft.Draft.say_send.Goals as goal

pub own_said-entry-requires : goal.own_said-entry-requires
own_said-entry-requires c = own-says c.args.self.now send_form c.args.values.now 0 c.requires refl

pub send_for-requires-clause-few : goal.send_for-requires-clause-few
send_for-requires-clause-few c = (number-fits (names_said c.args.self.now) send_form c.args.values.now 1 1 262144 c.requires refl).most

pub send_for-requires-clause-small : goal.send_for-requires-clause-small
send_for-requires-clause-small c = (number-fits (names_said c.args.self.now) send_form c.args.values.now 3 1 65536 c.requires refl).most

pub returns : goal.returns
returns c = subst (AnswersWithRoom c.send_for.result) (ap (λ (found : Option RequestEntry). send_for c.args.self.now found c.args.values.now) (sym c.own_said-entry.ensures.at)) c.send_for.ensures
