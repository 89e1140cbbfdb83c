use Rattle.std.proofs.Common.{◌≡◌, length, map, ap, ◌∙◌, arith}
use Rattle.std.proofs.lemmas.List.{with_items_is}
use Rattle.variant_answers.proofs.EachVariant.{each-variant, in_seat}
use Rattle.variant_answers.proofs.rows.outcomes_of.Goals as goal

-- the places that are filled are those that are looked at afterwards
pub returns-clause-each : goal.returns-clause-each
returns-clause-each g c =
    let held : length c.fill_all.new.seats ≡ c.in_ok-seats.seats.len = (let long = c.fill_all.ensures.long in let own = c.in_ok-seats.seats.ok.0 in let value = ap length c.deref_mut.ensures.value in omega (arith, long, own, value)) in
    each-variant c.args.wanted c.args.variants.now c.in_ok-outcomes.outcomes.items c.deref_mut.result.now c.fill_all.new.seats
    (c.in_ok-outcomes.ensures ∙ ap (map in_seat) (with_items_is c.in_ok-seats.seats c.fill_all.new.seats held)) c.fill_all.ensures.long c.fill_all.ensures.each
