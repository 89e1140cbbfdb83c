use Rattle.std.proofs.Common.{ap, ◌∙◌, arith}
use Rattle.step_stamp.specs.Views.{first_view}
use Rattle.step_stamp.proofs.OpeningSteps.{begins, first-is}
use Rattle.step_stamp.proofs.stamps.Stamps.open.Goals as goal

pub of_words-requires : goal.of_words-requires
of_words-requires c = begins _ (omega (arith, c.from-2.ensures, c.requires.actors.0)) (omega (arith, c.from-2.ensures, c.requires.actors.1))

pub link_seats-requires-clause-first : goal.link_seats-requires-clause-first
link_seats-requires-clause-first c = (first-is c.args.links c.args.actors _ (ap (λ m. m.0) c.in_ok-table.ensures.4 ∙ (λ i. first_view (c.from.ensures i) (c.from-2.ensures i))), ap (λ m. m.1) c.in_ok-table.ensures.4)
