-- A copy, sorted by the rounds.
use Rattle.std.proofs.Common.{◌++◌, ◌∙◌, List, ap, subst, rules}
use Rattle.std.proofs.lemmas.List.Sorted.{answers_always}
use Rattle.std.specs.Ordering.{nat_cmp}
use Rattle.std.specs.List.Sorted.{IsStableByKey}
use Rattle.tick_plane.specs.declared.flight.Flight.{Flight}
use Rattle.tick_plane.proofs.ComingInOrder.{round_of, left-sorted}
use Rattle.tick_plane.proofs.window.sorted.Goals as goal

pub returns : goal.returns
returns c =
    left-sorted c.args.from c.args.flights.now c.sort_by_key.new.self.items c.requires
    (c.in_ok-sort_by_key.ensures.sorted round_of (answers_always _ _ _ (λ f a r g h. search rules)))
    (subst (λ (own : List Flight). IsStableByKey round_of nat_cmp own c.sort_by_key.new.self.items) (c.in_ok-extend_from_slice.ensures.items ∙ ap (λ (fs : List Flight). fs ++ c.args.flights.now) c.in_ok-sorted.ensures.items)
    (c.sort_by_key.ensures.stable round_of (answers_always _ _ _ (λ f a r g h. search rules))))
