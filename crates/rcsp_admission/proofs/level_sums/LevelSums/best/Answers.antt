-- The level above the last without room is the best, and where that is the last of all there is none.
use Rattle.std.proofs.Common.{◌≡◌, ◌<◌, ◌≤◌, ⊎_elim, Some, length, ap, sym, ◌∙◌, subst, arith}
use Rattle.std.proofs.lemmas.Bool.{cases_lt}
use Rattle.net_units.specs.Numbers.{level_number}
use Rattle.net_units.proofs.BoundsInOrder.{bounds-parts, bound-least}
use Rattle.net_units.specs.LevelBounds.{bound_at}
use Rattle.traffic_contract.specs.Admission.{refused_sum, IsRefused}
use Rattle.traffic_contract.proofs.AdmissionTest.{Passes-larger, best_level-none}
use Rattle.rcsp_admission.specs.Room.{load_with}
use Rattle.rcsp_admission.specs.Sums.{AreAdmitted, admitted_rows}
use Rattle.rcsp_admission.proofs.LastFullLevel.{IsBest-above_full, best_level-above_full, IsRefused-last_full, refused_sum-over}
use Rattle.rcsp_admission.proofs.level_sums.LevelSums.best.Goals as goal

-- the last level has no room
refused : (c : goal.After-from) → IsRefused c.args.self.now.server (admitted_rows c.args.self.now.rows) c.args.contract.now
refused c =
    let admitted = subst AreAdmitted c.self.view_is c.self.invariant.admitted in
    let all : c.last_full-full.result ≡ length c.args.self.now.server.bounds = c.if-full-levels.true ∙ c.len-levels.ensures.value ∙ ap (λ s. length s.server.bounds) c.self.view_is in
    IsRefused-last_full c.args.self.now.server (admitted_rows c.args.self.now.rows) c.args.contract.now (bounds-parts _ admitted.server.bounds).least (rw all at c.last_full-full.ensures)

pub returns-then-full-levels-clause-level : goal.returns-then-full-levels-clause-level
returns-then-full-levels-clause-level c = best_level-none _ _ _ (refused c)

pub returns-then-full-levels-clause-none : goal.returns-then-full-levels-clause-none
returns-then-full-levels-clause-none c = refused c

-- what the last level comes to with the row
summed : (c : goal.After-from) → c.whole_load_with.result ≡ refused_sum c.args.self.now.server (admitted_rows c.args.self.now.rows) c.args.contract.now
summed c =
    let last : level_number c.level_at-last.result ≡ length c.args.self.now.server.bounds = c.level_at-last.ensures ∙ c.len-levels.ensures.value ∙ ap (λ s. length s.server.bounds) c.self.view_is in
    c.whole_load_with.ensures ∙ ap (λ m. load_with c.args.self.now.server (admitted_rows c.args.self.now.rows) c.args.contract.now m (bound_at c.args.self.now.server.bounds m)) last

pub returns-then-full-levels-clause-sum : goal.returns-then-full-levels-clause-sum
returns-then-full-levels-clause-sum c = summed c

pub returns-then-full-levels-clause-over : goal.returns-then-full-levels-clause-over
returns-then-full-levels-clause-over c =
    let admitted = subst AreAdmitted c.self.view_is c.self.invariant.admitted in
    let all : c.last_full-full.result ≡ length c.args.self.now.server.bounds = c.if-full-levels.true ∙ c.len-levels.ensures.value ∙ ap (λ s. length s.server.bounds) c.self.view_is in
    let some = (bounds-parts _ admitted.server.bounds).least in
    let over = refused_sum-over c.args.self.now.server (admitted_rows c.args.self.now.rows) c.args.contract.now some (bound-least c.args.self.now.server.bounds (length c.args.self.now.server.bounds) admitted.server.bounds some (omega arith)) (rw all at c.last_full-full.ensures) in
    let last : level_number c.level_at-last.result ≡ length c.args.self.now.server.bounds = c.level_at-last.ensures ∙ c.len-levels.ensures.value ∙ ap (λ s. length s.server.bounds) c.self.view_is in
    let whole : c.from.result ≡ bound_at c.args.self.now.server.bounds (length c.args.self.now.server.bounds) = c.from.ensures ∙ c.at.ensures.value ∙ ap (λ s. bound_at s.server.bounds (level_number c.level_at-last.result)) c.self.view_is ∙ ap (bound_at c.args.self.now.server.bounds) last in
    omega (arith, over, whole, summed c)

-- the last level without room isn't the last of all
below-last : (c : goal.After-level_at) → c.last_full-full.result < length c.args.self.now.server.bounds
below-last c =
    let levels : c.len-levels.result ≡ length c.args.self.now.server.bounds = c.len-levels.ensures.value ∙ ap (λ s. length s.server.bounds) c.self.view_is in
    ⊎_elim (λ (below : c.last_full-full.result < length c.args.self.now.server.bounds). below)
    (λ (all : length c.args.self.now.server.bounds ≤ c.last_full-full.result). absurd (c.if-full-levels.false (omega (arith, levels, c.last_full-full.ensures.upto))))
    (cases_lt c.last_full-full.result (length c.args.self.now.server.bounds))

pub returns-clause-level : goal.returns-clause-level
returns-clause-level c =
    let admitted = subst AreAdmitted c.self.view_is c.self.invariant.admitted in
    best_level-above_full c.args.self.now.server (admitted_rows c.args.self.now.rows) c.args.contract.now c.last_full-full.result admitted.passes c.last_full-full.ensures (below-last c) ∙ ap Some (sym c.level_at.ensures)

pub returns-clause-least : goal.returns-clause-least
returns-clause-least c =
    let admitted = subst AreAdmitted c.self.view_is c.self.invariant.admitted in
    rw c.level_at.ensures (IsBest-above_full c.args.self.now.server (admitted_rows c.args.self.now.rows) c.args.contract.now c.last_full-full.result admitted.passes c.last_full-full.ensures (below-last c))

pub returns-clause-larger : goal.returns-clause-larger
returns-clause-larger c =
    λ m above. Passes-larger c.args.self.now.server (admitted_rows c.args.self.now.rows) c.args.contract.now (level_number c.level_at.result) m above (returns-clause-least c).passes
