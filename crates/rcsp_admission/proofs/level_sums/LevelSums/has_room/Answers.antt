-- Where the load in the whole bound fits, the level has room under every test. Else it has none where the whole bound
-- counts alone, and where every window counts, the search says whether one fits.
use Rattle.std.proofs.Common.{◌≡◌, ◌≤◌, IsTrue, refl, ap, sym, ◌∙◌, subst, arith}
use Rattle.std.proofs.lemmas.Bool.{true≢false, leb-true, le-leb}
use Rattle.std.specs.Prelude.{nat_le}
use Rattle.rcsp_admission.specs.Room.{FitsSome}
use Rattle.net_units.specs.LevelBounds.{bound_at}
use Rattle.net_units.specs.Numbers.{level_number}
use Rattle.traffic_contract.specs.declared.admission.Test.TheVariants.{Whole, Least}
use Rattle.rcsp_admission.specs.Sums.{AreAdmitted, admitted_rows}
use Rattle.rcsp_admission.proofs.LastFullLevel.{room-some, some-room, room-whole, whole-none, search-begins}
use Rattle.rcsp_admission.proofs.level_sums.LevelSums.has_room.Goals as goal

pub returns-then-whole_load_with-bound-clause-room : goal.returns-then-whole_load_with-bound-clause-room
returns-then-whole_load_with-bound-clause-room c =
    let bound : c.from-bound.result ≡ bound_at c.args.self.now.server.bounds (level_number c.args.level) = c.from-bound.ensures ∙ c.at.ensures.value ∙ ap (λ s. bound_at s.server.bounds (level_number c.args.level)) c.self.view_is in
    (λ _. room-whole c.args.self.now.server (admitted_rows c.args.self.now.rows) c.args.contract.now (level_number c.args.level) (omega (arith, bound, c.at.ensures.least, c.from-bound.ensures)) (omega (arith, bound, c.whole_load_with.ensures, c.if-whole_load_with-bound.true)), λ _. refl)

pub returns-in-Whole-clause-room : goal.returns-in-Whole-clause-room
returns-in-Whole-clause-room c =
    let bound : c.from-bound.result ≡ bound_at c.args.self.now.server.bounds (level_number c.args.level) = c.from-bound.ensures ∙ c.at.ensures.value ∙ ap (λ s. bound_at s.server.bounds (level_number c.args.level)) c.self.view_is in
    let whole : c.args.self.now.server.test ≡ Whole = sym (ap (λ s. s.server.test) c.self.view_is) ∙ c.in-Whole.is in
    (λ wrong. absurd (true≢false (sym wrong)), λ room. absurd (whole-none c.args.self.now.server (admitted_rows c.args.self.now.rows) c.args.contract.now (level_number c.args.level) whole (omega (arith, bound, c.whole_load_with.ensures, c.if-whole_load_with-bound.false)) room))

-- the window that is found fits
found : (c : goal.After-least_window) → IsTrue (nat_le c.least_window.result c.from-bound.result) → FitsSome c.args.self.now.server (admitted_rows c.args.self.now.rows) c.args.contract.now (level_number c.args.level) c.from-bound.result
found c true =
    let bound : c.from-bound.result ≡ bound_at c.args.self.now.server.bounds (level_number c.args.level) = c.from-bound.ensures ∙ c.at.ensures.value ∙ ap (λ s. bound_at s.server.bounds (level_number c.args.level)) c.self.view_is in
    let within : c.least_window.result ≤ c.from-bound.result = leb-true c.least_window.result c.from-bound.result true in
    let fits = c.least_window.ensures.fits (omega (arith, bound, within)) in
    let least = search-begins c.args.self.now.server (admitted_rows c.args.self.now.rows) c.args.contract.now (level_number c.args.level) c.least_window.result fits in
    let blocking : 1 ≤ c.args.self.now.server.blocking = (subst AreAdmitted c.self.view_is c.self.invariant.admitted).server.blocking in
    (c.least_window.result, omega (arith, least, blocking), within, fits)

pub returns-in-Least-clause-room : goal.returns-in-Least-clause-room
returns-in-Least-clause-room c =
    let least : c.args.self.now.server.test ≡ Least = sym (ap (λ s. s.server.test) c.self.view_is) ∙ c.in-Least.is in
    let bound : c.from-bound.result ≡ bound_at c.args.self.now.server.bounds (level_number c.args.level) = c.from-bound.ensures ∙ c.at.ensures.value ∙ ap (λ s. bound_at s.server.bounds (level_number c.args.level)) c.self.view_is in (
      λ true. room-some c.args.self.now.server (admitted_rows c.args.self.now.rows) c.args.contract.now (level_number c.args.level) c.from-bound.result least bound (found c true),
      λ room.
          let some = some-room c.args.self.now.server (admitted_rows c.args.self.now.rows) c.args.contract.now (level_number c.args.level) c.from-bound.result least bound room in
          let first = c.least_window.ensures.none some.0 some.3 in
          le-leb c.least_window.result c.from-bound.result (omega (arith, first, some.2)),
    )
