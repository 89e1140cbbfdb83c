-- An empty wheel is an empty calendar.
use Rattle.std.proofs.Common.{◌≡◌, ◌+◌, [], ap, ◌∙◌, length, subst, sym, arith}
use Rattle.tick_calendar.specs.Wheel.{entries_in, AreAllFrom}
use Rattle.tick_calendar.proofs.Chains.{entries-nil}
use Rattle.tick_calendar.proofs.Calendar.new.Goals as goal

pub invariant_of-result : goal.invariant_of-result
invariant_of-result g c =
    let none : entries_in c.in_ok-new.field-0.places.items ≡ [] = ap entries_in c.in_ok-new.ensures.empty ∙ entries-nil in (
      record {
        wheel = c.in_ok-new.ensures.wheel;
        counted = ap length none;
        within = omega arith;
        roomy = omega arith;
        slot_most = omega (arith, c.in_ok-new.ensures.slot);
        begun = omega (arith, c.in_ok-new.ensures.slot, c.in_ok-new.ensures.base);
        ahead = subst (AreAllFrom (c.in_ok-new.field-0.base + c.in_ok-new.field-0.slot)) (sym none) tt;
        stands = λ _. subst (AreAllFrom 1) (sym none) tt;
      },
      subst (AreAllFrom 18446744073709551615) (sym none) tt,
    )

pub returns : goal.returns
returns g c =
    let none : entries_in c.in_ok-new.field-0.places.items ≡ [] = ap entries_in c.in_ok-new.ensures.empty ∙ entries-nil in
    cc (none)
