-- What waits is kept, and comes into the chains from the last place on.
use Rattle.std.proofs.Common.{◌≡◌, ◌-◌, suc, true, [], drop, refl, ap, sym, ◌∙◌, subst, arith, rules, tests}
use Rattle.std.proofs.lemmas.Fn.{filter_same}
use Rattle.std.proofs.lemmas.List.{drop_all}
use Rattle.std.specs.List.{filter, All}
use Rattle.tick_calendar.specs.Wheel.{entries_in, IsWheelFrom, AreAllFrom}
use Rattle.tick_calendar.proofs.Ahead.{ahead-at}
use Rattle.tick_calendar.proofs.TurnKeepsWaiting.{entries-kept, kept-wait, length-full, slots-cleared, turn-begins, turn-ends}
use Rattle.tick_calendar.proofs.wheel.Wheel.turn.Goals as goal

pub loop-index-init : goal.loop-index-init
loop-index-init g c =
    let kept : c.retain.new.self.items ≡ filter (λ place. place.waits) c.args.self.now.places.items =
    filter_same _ (λ place. place.waits) _ (λ x b f k. search (rules, tests)) c.args.self.now.places.items c.retain.new.self.items c.retain.ensures.filtered in
    let same : entries_in c.retain.new.self.items ≡ entries_in c.args.self.now.places.items = ap entries_in kept ∙ entries-kept c.args.self.now.places.items in
    let waits : All (λ place. place.waits ≡ true) c.retain.new.self.items = subst (All (λ place. place.waits ≡ true)) (sym kept) (kept-wait c.args.self.now.places.items) in
    let after : drop c.len-index.result c.retain.new.self.items ≡ [] = drop_all c.len-index.result c.retain.new.self.items (omega (arith, c.len-index.ensures, c.retain.new.self.ok)) in
    record {
      wheel = subst (λ l. IsWheelFrom c.len-index.result l c.clear_from.new.firsts.items c.args.self.now.lasts.items c.args.base) (sym after)
          (turn-begins c.len-index.result c.clear_from.new.firsts.items c.args.self.now.lasts.items c.args.base
          (slots-cleared c.args.self.now.places.items c.args.self.now.firsts.items c.clear_from.new.firsts.items c.args.self.now.lasts.items c.args.self.now.base c.args.self.now.slot c.requires.wheel c.requires.past c.clear_from.ensures.cleared c.clear_from.ensures.before)
          (c.clear_from.ensures.slots ∙ c.requires.wheel.slots) c.requires.wheel.ends);
      within = omega (arith, c.len-index.ensures, c.retain.new.self.ok);
      waits = waits;
      ahead = λ k d lt. ahead-at c.args.base c.retain.new.self.items (subst (AreAllFrom c.args.base) (sym same) c.requires.ahead) k d lt (waits k d lt);
      entries = same;
      capacity = c.retain.ensures.capacity;
      base = refl;
      slot = refl;
    }

pub clear_from-requires : goal.clear_from-requires
clear_from-requires g c = omega (arith, c.requires.slot, c.requires.wheel.slots)

pub link-requires-clause-wheel : goal.link-requires-clause-wheel
link-requires-clause-wheel g c =
    let step : c.loop-index.index ≡ suc (c.loop-index.index - 1) = omega arith in
    subst (λ i. IsWheelFrom i (drop i c.loop-index.self.places.items) c.loop-index.self.firsts.items c.loop-index.self.lasts.items c.loop-index.self.base) step c.loop-index.invariant.wheel

pub link-requires-clause-waits : goal.link-requires-clause-waits
link-requires-clause-waits g c = c.loop-index.invariant.waits

pub link-requires-clause-ahead : goal.link-requires-clause-ahead
link-requires-clause-ahead g c = c.loop-index.invariant.ahead

pub loop-index-preserved : goal.loop-index-preserved
loop-index-preserved g c = record {
  wheel = c.link.ensures.wheel;
  within = omega (arith, c.link.ensures.len);
  waits = c.link.ensures.waits;
  ahead = c.link.ensures.ahead;
  entries = c.link.ensures.entries ∙ c.loop-index.invariant.entries;
  capacity = c.link.ensures.capacity ∙ c.loop-index.invariant.capacity;
  base = c.link.ensures.base ∙ c.loop-index.invariant.base;
  slot = c.link.ensures.slot ∙ c.loop-index.invariant.slot;
}

pub returns-clause-wheel : goal.returns-clause-wheel
returns-clause-wheel g c =
    let done : c.loop-index.index ≡ 0 = omega arith in
    turn-ends c.loop-index.self.places.items c.loop-index.self.firsts.items c.loop-index.self.lasts.items c.loop-index.self.base
    (subst (λ i. IsWheelFrom i (drop i c.loop-index.self.places.items) c.loop-index.self.firsts.items c.loop-index.self.lasts.items c.loop-index.self.base) done c.loop-index.invariant.wheel)

pub returns-clause-full : goal.returns-clause-full
returns-clause-full g c = length-full c.loop-index.self.places.items c.loop-index.invariant.waits
