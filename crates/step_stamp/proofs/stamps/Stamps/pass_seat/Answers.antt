use Rattle.std.proofs.Common.{ap, ◌∙◌, subst, arith}
use Rattle.atomic_table.specs.Table.{Me}
use Rattle.net_units.specs.Numbers.{actor_number}
use Rattle.step_stamp.specs.Lists.{Has}
use Rattle.step_stamp.specs.Marks.{marks_of}
use Rattle.step_stamp.specs.Views.{known_of}
use Rattle.step_stamp.specs.declared.views.View.{View}
use Rattle.step_stamp.proofs.NewestShelf.{no-known}
use Rattle.step_stamp.proofs.OpeningSteps.{opens-pass}
use Rattle.step_stamp.proofs.stamps.Stamps.pass_seat.Goals as goal

pub split_seat-requires : goal.split_seat-requires
split_seat-requires g c = (c.requires.table, omega (arith, c.args.self.now.words), opens-pass _ _ g.C.Chosen.number _ (subst (λ n. Has n c.args.first.now.me.0.actors) c.requires.chosen c.requires.mine) c.requires.nothing c.requires.bare)

pub invariant_of-result-clause-fresh : goal.invariant_of-result-clause-fresh
invariant_of-result-clause-fresh g c = λ none l. ap (λ (m : Me _ View). marks_of (actor_number c.args.actor) (known_of l m.0)) c.split_seat.ensures.4 ∙ ap (marks_of (actor_number c.args.actor)) (no-known l)
