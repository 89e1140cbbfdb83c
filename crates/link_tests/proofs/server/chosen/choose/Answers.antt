-- On the link as it is opened, with no row held, the second level passes with the contract, and its need is free.
use Rattle.std.proofs.Common.{◌≡◌, ℕ, ◌-◌, ◌≤◌, true, List, [], ◌∷◌, length, map, refl, sym, ap, ◌∙◌, subst, arith, lit≤}
use Rattle.net_units.specs.Numbers.{level_number}
use Rattle.net_units.specs.Quotient.{ceil_quotient}
use Rattle.net_units.specs.declared.numbers.ChanNo.{ChanNo}
use Rattle.net_units.specs.declared.numbers.Level.{Level}
use Rattle.net_units.specs.declared.numbers.LinkNo.{LinkNo}
use Rattle.net_units.specs.LevelBounds.{reach_of}
use Rattle.traffic_contract.specs.Admission.{admits, passes, passes_up_to, load, work_up_to, work_in}
use Rattle.traffic_contract.specs.Contract.{Traffic, terms_of, most_in}
use Rattle.traffic_contract.specs.declared.admission.Test.TheVariants.{Whole}
use Rattle.link_steps.specs.declared.shape.LinkShape.{LinkShape}
use Rattle.link_steps.specs.Admissible.{MayOffer}
use Rattle.link_steps.specs.Buffer.{need_of, free_units}
use Rattle.link_steps.specs.Account.{Account, StandsFor, account_terms}
use Rattle.link_steps.specs.Levels.{level_of}
use Rattle.link_steps.specs.Scan.{scan_of}
use Rattle.link_steps.specs.Shape.{server_of, IsShapeOf}
use Rattle.link_server.specs.Held.{reservations_held}
use Rattle.link_server.specs.State.{account_in}
use Rattle.link_server.proofs.ChosenLevel.{terms-stand}
use Rattle.link_tests.proofs.server.chosen.choose.Goals as goal

abbrev voice : Traffic
voice = terms_of 5 10 20 2

abbrev bounds : List ℕ
bounds = 10 ∷ 20 ∷ 40 ∷ []

passes-alone : admits (record { bounds = bounds; rate = 1; blocking = 4; test = Whole }) [] voice 2 ≡ true
unfolding admits passes passes_up_to load work_up_to work_in most_in
passes-alone = refl

need-free : need_of bounds voice 0 (level_number (level_of (reach_of bounds 50 2))) ≤ 100
unfolding need_of most_in
need-free = lit≤ tt

may-first : (number : LinkNo) (shape : LinkShape) (chan : ChanNo) (level : Level) → IsShapeOf number 1 4 2 100 bounds Whole 1 shape → level_number level ≡ 2 → MayOffer shape [] chan voice 50 0 level (level_of (reach_of shape.bounds 50 (level_number level)))
unfolding free_units
may-first number shape chan level is second =
    let server : server_of shape ≡ record { bounds = bounds; rate = 1; blocking = 4; test = Whole } =
    (λ i. record { bounds = is.bounds_are i; rate = is.rate_is i; blocking = ceil_quotient (is.cap_is i) (is.rate_is i); test = is.test_is i }) in
    let cap = is.cap_is in
    let levels = ap length is.bounds_are in
    record {
      narrow = omega (arith, cap);
      new = refl;
      level_most = omega (arith, levels, second);
      passes = ap (λ s. admits s [] voice (level_number level)) server ∙ ap (admits (record { bounds = bounds; rate = 1; blocking = 4; test = Whole }) [] voice) second ∙ passes-alone;
      reach_is = refl;
      free =
          subst (λ n. need_of shape.bounds voice 0 (level_number (level_of (reach_of shape.bounds 50 n))) ≤ shape.buffer - 0) (sym second)
          (subst (λ bs. need_of bs voice 0 (level_number (level_of (reach_of bs 50 2))) ≤ shape.buffer - 0) (sym is.bounds_are)
          (subst (λ b. need_of bounds voice 0 (level_number (level_of (reach_of bounds 50 2))) ≤ b - 0) (sym is.buffer_is) need-free));
    }

-- nothing is held
none-held : (shape : LinkShape) (k : Account) → StandsFor shape k [] → map account_terms k.rows ≡ []
unfolding scan_of
none-held shape k stands = terms-stand shape k [] stands

pub need_at-need-requires-clause-within : goal.need_at-need-requires-clause-within
need_at-need-requires-clause-within g =
    let is : IsShapeOf g.in_ok-shape.shape.link 1 4 2 100 bounds Whole 1 g.in_ok-link.link.shape = subst (IsShapeOf g.in_ok-shape.shape.link 1 4 2 100 bounds Whole 1) (sym g.in_ok-link.ensures.shape) g.in_ok-shape.ensures in
    let levels = ap length is.bounds_are in
    omega (arith, levels, g.level-at.ensures)

pub reserve_at-requires-clause-may : goal.reserve_at-requires-clause-may
reserve_at-requires-clause-may g =
    let link = g.in_ok-link.link in
    let number = g.in_ok-shape.shape.link in
    let is : IsShapeOf number 1 4 2 100 bounds Whole 1 link.shape = subst (IsShapeOf number 1 4 2 100 bounds Whole 1) (sym g.in_ok-link.ensures.shape) g.in_ok-shape.ensures in
    let alone = may-first number link.shape g.chan.result g.level-at.result is g.level-at.ensures in
    let far : Level = level_of (reach_of link.shape.bounds 50 (level_number g.level-at.result)) in
    subst (λ terms. MayOffer link.shape (reservations_held link) g.chan.result terms 50 0 g.level-at.result far) (sym g.in_ok-contract.ensures.value)
    (subst (λ held. MayOffer link.shape held g.chan.result voice 50 0 g.level-at.result far) (sym (none-held link.shape (account_in link) g.in_ok-link.ensures.stands)) alone)
