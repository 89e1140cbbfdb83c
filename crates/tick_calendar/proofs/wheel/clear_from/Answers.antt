-- One slot more is cleared.
use Rattle.std.proofs.Common.{◌<◌, None, length, refl, ◌∙◌, arith, inl, inr}
use Rattle.std.proofs.lemmas.Bool.{cases_eq, cases_lt}
use Rattle.std.proofs.lemmas.List.{length-set, get_or-set_same, get_or-set_other, get_or_past}
use Rattle.tick_calendar.proofs.wheel.clear_from.Goals as goal

pub loop-slot-init : goal.loop-slot-init
loop-slot-init c = record {
  begun = omega arith;
  slots = refl;
  cleared = λ s low high. absurd (omega (arith, low, high));
  before = λ s low. refl;
}

pub index_mut-requires : goal.index_mut-requires
index_mut-requires c = omega (arith, c.loop-slot.invariant.slots, c.len-slot-end.ensures, c.loop-slot.firsts.ok, c.args.firsts.now.ok)

pub loop-slot-preserved : goal.loop-slot-preserved
loop-slot-preserved c =
    let items = c.loop-slot.firsts.items in
    let slot = c.loop-slot.slot in
    let inside : slot < length items = omega (arith, c.loop-slot.invariant.slots, c.len-slot-end.ensures, c.args.firsts.now.ok) in
    let begun = c.loop-slot.invariant.begun in
    record {
      begun = omega (arith, begun);
      slots = length-set items slot None ∙ c.loop-slot.invariant.slots;
      cleared = λ s low high. elim (cases_eq s slot) [
        | inl same ↦ rw same (get_or-set_same items slot None None inside)
        | inr apart ↦ get_or-set_other items slot s None None apart ∙ c.loop-slot.invariant.cleared s low (omega (arith, high, apart))
      ];
      before = λ s low. get_or-set_other items slot s None None (λ same. absurd (omega (arith, low, same, begun))) ∙ c.loop-slot.invariant.before s low;
    }

pub returns-clause-cleared : goal.returns-clause-cleared
returns-clause-cleared c = λ s low. elim (cases_lt s (length c.loop-slot.firsts.items)) [
  | inl inside ↦ c.loop-slot.invariant.cleared s low (omega (arith, inside, c.loop-slot.invariant.slots, c.len-slot-end.ensures, c.args.firsts.now.ok, c.loop-slot.auto.slot-end))
  | inr past ↦ get_or_past c.loop-slot.firsts.items s None past
]
