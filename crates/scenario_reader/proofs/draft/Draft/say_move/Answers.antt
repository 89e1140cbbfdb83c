use Rattle.std.proofs.Common.{Option, Some, refl, sym, ◌∙◌, ap, subst}
use Rattle.scenario_reader.specs.line.Move.{move_form, move_for}
use Rattle.scenario_reader.proofs.kind.Using.{own-says}
use Rattle.std.specs.List.{slice_get}
use Rattle.call_script.specs.declared.entries.RequestEntry.{RequestEntry}
use Rattle.line_forms.specs.Values.{number_at}
use Rattle.scenario_reader.specs.Causes.{AnswersWithRoom}
use Rattle.scenario_reader.proofs.draft.Draft.say_move.Goals as goal

pub own_said-old-requires : goal.own_said-old-requires
own_said-old-requires c = own-says c.args.self.now move_form c.args.values.now 0 c.requires refl

pub own_said-new-requires : goal.own_said-new-requires
own_said-new-requires c = own-says c.args.self.now move_form c.args.values.now 1 c.requires refl

pub returns : goal.returns
returns c =
    let said = c.args.self.now in
    subst (AnswersWithRoom c.move_for.result)
    (ap (λ (found : Option RequestEntry). move_for said found (Some c.own_said-new.result.now)) (sym c.own_said-old.ensures.at) ∙ ap (move_for said (slice_get said.requests (number_at c.args.values.now.ones 0))) (sym c.own_said-new.ensures.at))
    c.move_for.ensures
