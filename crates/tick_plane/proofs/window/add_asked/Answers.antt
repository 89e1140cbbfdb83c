-- One flight more has come, and in the end all of them have.
use Rattle.std.proofs.Common.{◌≡◌, ◌+◌, ◌-◌, ◌++◌, ◌∷◌, List, drop, sym, ap, subst, ◌∙◌, arith}
use Rattle.std.proofs.lemmas.List.{drop_all, drop_more}
use Rattle.std.proofs.lemmas.Result.{on_ok_weaker}
use Rattle.link_steps.specs.Lists.{Each}
use Rattle.tick_plane.specs.AskedRuns.{asks_in}
use Rattle.tick_plane.specs.Coming.{IsDueBefore, IsDueFrom, Rise, rounds_in}
use Rattle.tick_plane.specs.declared.flight.Flight.{Flight}
use Rattle.tick_plane.proofs.AskedRuns.{none-left-to-come, one-more}
use Rattle.tick_plane.proofs.window.add_asked.Goals as goal

pub loop-flight-preserved : goal.loop-flight-preserved
loop-flight-preserved c =
    let coming : List Flight = c.args.coming.now in
    let place = c.loop-flight.flight-index in
    let made = c.loop-flight.made in
    let until = c.args.until in
    let f : Flight = c.flight-item.result in
    let rest : List Flight = drop (place + 1) coming in
    let at : drop place coming ≡ f ∷ rest = drop_more coming place f c.loop-flight-test.true ∙ ap (λ (g : Flight). g ∷ rest) (sym c.flight-item.is) in
    let rise : Rise (f ∷ rest) = subst Rise at c.loop-flight.invariant.rise in
    let ahead : Each (IsDueFrom made) (f ∷ rest) = subst (Each (IsDueFrom made)) at c.loop-flight.invariant.ahead in
    let due : Each (IsDueBefore until) (f ∷ rest) = subst (Each (IsDueBefore until)) at c.loop-flight.invariant.due in
    let early = due.0 in
    record {
      asked = one-more f rest made until c.loop-flight.asked.items c.count_ticks.new.asked.items c.push.new.self.items (asks_in c.args.asked.now.items ++ rounds_in c.args.from (until - c.args.from) coming) ahead.0 early rise
          (ap (λ (fs : List Flight). asks_in c.loop-flight.asked.items ++ rounds_in made (until - made) fs) (sym at) ∙ c.loop-flight.invariant.asked) c.in_ok-count_ticks.ensures c.in_ok-push.ensures.items;
      early = omega (arith, early);
      rise = rise.1;
      ahead = rise.0;
      due = due.1;
    }

pub returns : goal.returns
returns c =
    let coming : List Flight = c.args.coming.now in
    let place = c.loop-flight.flight-index in
    on_ok_weaker c.count_ticks-2.result (λ ticked.
    none-left-to-come (drop place coming) c.loop-flight.made c.args.until c.loop-flight.asked.items c.count_ticks-2.new.asked.items (asks_in c.args.asked.now.items ++ rounds_in c.args.from (c.args.until - c.args.from) coming)
    (drop_all place coming (let past = c.loop-flight-test.false in omega (arith, past))) c.loop-flight.invariant.asked ticked) c.count_ticks-2.ensures
