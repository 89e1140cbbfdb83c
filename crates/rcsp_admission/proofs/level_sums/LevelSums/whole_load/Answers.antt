-- The running load of the level is that of the rows, which pass and so are few.
use Rattle.std.proofs.Common.{◌≡◌, ◌+◌, ◌<◌, ◌≤◌, ◌^◌, ◌-◌, length, get_or, ap, ◌∙◌, subst, arith}
use Rattle.net_units.specs.Numbers.{level_number}
use Rattle.traffic_contract.specs.Admission.{total, load, level_sum}
use Rattle.rcsp_admission.specs.Fields.{sums_of}
use Rattle.rcsp_admission.specs.Kept.{kept_rows}
use Rattle.rcsp_admission.specs.Loads.{level_work}
use Rattle.rcsp_admission.specs.Sums.{AreAdmitted, admitted_rows}
use Rattle.rcsp_admission.proofs.RunningLoads.{load-at, load-small}
use Rattle.rcsp_admission.proofs.level_sums.LevelSums.whole_load.Goals as goal

-- the level is one of the link's
within : (c : goal.After-result-1) → level_number c.args.level ≤ length c.self.inside.bounds
within c = (let e = ap (λ s. s.server.bounds) c.self.view_is in rw e c.requires.within)

-- its running load is no large number
small : (c : goal.After-result-1) → get_or c.self.inside.loads (c.from-2.result - 1) 0 < 2 ^ 60
small c =
    load-small (sums_of c.self.inside) c.self.inside.loads (c.from-2.result - 1) c.self.invariant.admitted c.self.invariant.loads (omega (arith, within c, c.from-2.ensures, c.get.ensures.value, c.get.ensures.least))

pub overflow_add-result : goal.overflow_add-result
overflow_add-result c = (let few = small c in omega (arith, few, c.from.ensures))

pub returns-clause-value : goal.returns-clause-value
unfolding load
returns-clause-value c =
    let level = level_number c.args.level in
    let number : c.from-2.result ≡ level_number c.args.level = c.from-2.ensures ∙ c.get.ensures.value in
    let loaded = load-at c.self.inside.rate c.self.inside.bounds (kept_rows c.self.inside.rows.items) c.self.inside.loads (level_number c.args.level) c.self.invariant.loads (omega (arith, number, c.get.ensures.least)) (within c) in
    let same : get_or c.self.inside.loads (c.from-2.result - 1) 0 ≡ get_or c.self.inside.loads (level_number c.args.level - 1) 0 = ap (λ n. get_or c.self.inside.loads (n - 1) 0) number in
    let inside : c.from.result + get_or c.self.inside.loads (c.from-2.result - 1) 0 ≡ c.self.inside.blocking + total (level_work c.self.inside.rate c.self.inside.bounds (level_number c.args.level)) (kept_rows c.self.inside.rows.items) = omega (arith, loaded, same, c.from.ensures) in
    inside ∙ ap (λ s. level_sum s.server (admitted_rows s.rows) level) c.self.view_is

pub returns-clause-small : goal.returns-clause-small
returns-clause-small c = (let few = small c in omega (arith, few, c.from.ensures))

pub returns-clause-admitted : goal.returns-clause-admitted
returns-clause-admitted c = subst AreAdmitted c.self.view_is c.self.invariant.admitted
