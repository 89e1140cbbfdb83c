-- The level at hand fits, or it doesn't; and the buffer's units are those of the quotas and of the one more.
use Rattle.std.proofs.Common.{◌≡◌, ◌+◌, ◌∙◌, ◌∷◌, ◌++◌, [], ℕ, ap, sym, Bool, length, arith}
use Rattle.std.specs.Prelude.{◌&&◌, nat_le}
use Rattle.traffic_contract.specs.Admission.{total}
use Rattle.traffic_contract.proofs.AdmissionTest.{total-push}
use Rattle.link_steps.specs.Split.{buffer_part}
use Rattle.call_script.specs.Groups.{level_fits}
use Rattle.call_script.proofs.GroupRulesStay.{level-skip, level-stop, levels-over}
use Rattle.call_script.proofs.rules.quotas.fit_with.Goals as goal

pub returns-then-not-level_fits_with : goal.returns-then-not-level_fits_with
returns-then-not-level_fits_with c =
    let quotas = c.args.quotas.now ++ c.args.more.now ∷ [] in
    let test = level_fits c.args.shape.now quotas in
    let fails = sym (c.level_fits_with.ensures ∙ ap test c.level_at.ensures) ∙ c.if-not-level_fits_with.true in
    let none = c.loop-index.invariant ∙ level-stop test (length c.args.shape.now.bounds) c.loop-index.index (let upto = c.loop-index-test.true in omega (arith, upto, c.len-index-end.ensures.value)) fails in
    sym (ap (λ (levels : Bool). levels && nat_le (total buffer_part quotas) c.args.shape.now.buffer) none)

pub loop-index-preserved : goal.loop-index-preserved
loop-index-preserved c =
    let test = level_fits c.args.shape.now (c.args.quotas.now ++ c.args.more.now ∷ []) in
    let passes = sym (c.level_fits_with.ensures ∙ ap test c.level_at.ensures) ∙ c.if-not-level_fits_with.false in
    c.loop-index.invariant ∙ level-skip test (length c.args.shape.now.bounds) c.loop-index.index (let upto = c.loop-index-test.true in omega (arith, upto, c.len-index-end.ensures.value)) passes

pub returns : goal.returns
returns c =
    let quotas = c.args.quotas.now ++ c.args.more.now ∷ [] in
    let test = level_fits c.args.shape.now quotas in
    let all = c.loop-index.invariant ∙ levels-over test (length c.args.shape.now.bounds) c.loop-index.index (let past = c.loop-index-test.false in omega (arith, past, c.len-index-end.ensures.value)) in
    let push = total-push buffer_part c.args.quotas.now c.args.more.now in
    let units : c.from.result + total buffer_part c.args.quotas.now ≡ total buffer_part quotas = omega (arith, push, c.from.ensures) in
    c.buffer_fits.ensures ∙ ap (λ (n : ℕ). nat_le n c.args.shape.now.buffer) units ∙ sym (ap (λ (levels : Bool). levels && nat_le (total buffer_part quotas) c.args.shape.now.buffer) all)
