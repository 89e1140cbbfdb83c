use Rattle.std.proofs.Common.{◌≡◌, suc, ◌+◌, ◌-◌, ◌∙◌, ◌++◌, ◌∷◌, [], List, ℕ, Some, is_some, ap, arith, drop, get_or, length, map, refl, subst, sym, take}
use Rattle.std.proofs.lemmas.List.{length-append, length-drop}
use Rattle.std.specs.List.{slice_get}
use Rattle.net_units.specs.Allotted.{levels_of}
use Rattle.net_units.specs.Numbers.{level_number}
use Rattle.hop_reservation.specs.Offers.{AreLevels, IsLevelOf}
use Rattle.hop_reservation.proofs.OneMoreOffer.{AreLevels-push}
use Rattle.scenario_reader.specs.Fields.{field_at}
use Rattle.scenario_reader.specs.AuditLines.{are_level_fields}
use Rattle.scenario_reader.specs.Decimal.{value_of}
use Rattle.scenario_reader.proofs.Auditing.AuditKeeps.{level-is}
use Rattle.scenario_reader.proofs.Auditing.LevelFields.{after-words, level-there, level-passes, level-read, level-refused, level-stops, levels-over, levels-more, none-are}
use Rattle.scenario_reader.proofs.audit.accepting.levels_told.Goals as goal

pub loop-index-init : goal.loop-index-init
loop-index-init c = record { rest = refl; within = omega arith; told = c.new-levels.ensures; count = ap length c.new-levels.ensures; are = none-are c.args.route.now _ c.new-levels.ensures }

pub returns-in_err-told-clause-there : goal.returns-in_err-told-clause-there
returns-in_err-told-clause-there c =
    let fields = c.args.fields.now in
    let i = c.loop-index.index in
    let at : c.loop-index.index + 1 - 1 ≡ c.loop-index.index = omega arith in
    let found : slice_get c.args.route.now c.loop-index.index ≡ Some c.hop.result = ap (slice_get c.args.route.now) (sym at)
    ∙ c.hop.ensures.value in
    let wrong = level-refused c.hop.result c.args.fields.now c.loop-index.index c.from-in-loop-index.result c.at.result.now c.number.result
    (c.from-in-loop-index.ensures ∙ c.len-most.ensures.value) (c.at.ensures ∙ ap (λ n. field_at c.args.fields.now (5 + n)) c.from.ensures)
    c.number.ensures.judged (sym c.ok.ensures.value ∙ c.in_err-told.was) in
    ap is_some c.from_residual.ensures ∙ sym (c.loop-index.invariant.rest ∙ level-stops c.args.route.now (drop 5 fields) i c.hop.result found wrong)

pub loop-index-preserved : goal.loop-index-preserved
loop-index-preserved c =
    let fields = c.args.fields.now in
    let i = c.loop-index.index in
    let at : c.loop-index.index + 1 - 1 ≡ c.loop-index.index = omega arith in
    let found : slice_get c.args.route.now c.loop-index.index ≡ Some c.hop.result = ap (slice_get c.args.route.now) (sym at)
    ∙ c.hop.ensures.value in
    let read = level-read c.hop.result c.args.fields.now c.loop-index.index c.from-in-loop-index.result c.in_ok-told.told c.at.result.now c.number.result
    (c.from-in-loop-index.ensures ∙ c.len-most.ensures.value) (c.at.ensures ∙ ap (λ n. field_at c.args.fields.now (5 + n)) c.from.ensures)
    c.number.ensures.judged (sym c.ok.ensures.value ∙ c.in_ok-told.was) in
    let up : suc c.loop-index.index ≡ c.loop-index.index + 1 = omega arith in
    let within = level-there c.hop.result (drop 5 c.args.fields.now) c.loop-index.index read.0 in
    let level : level_number c.in_ok-new.field-0 ≡ value_of (field_at c.args.fields.now (5 + c.loop-index.index)) = c.in_ok-new.ensures.value
    ∙ read.1 in
    let is : IsLevelOf c.hop.result (level_number c.in_ok-new.field-0) =
    subst (IsLevelOf c.hop.result) (ap value_of (sym (after-words c.args.fields.now c.loop-index.index)) ∙ sym level) (level-is c.hop.result (get_or (drop 5 c.args.fields.now) c.loop-index.index []) read.0) in
    record {
      rest = c.loop-index.invariant.rest ∙ level-passes c.args.route.now (drop 5 fields) i c.hop.result found read.0
          ∙ ap (λ n. are_level_fields (drop n c.args.route.now) (drop n (drop 5 c.args.fields.now))) up;
      within = omega (arith, within);
      told = c.push.ensures ∙ ap (λ (levels : List ℕ). levels ++ level_number c.in_ok-new.field-0 ∷ []) c.loop-index.invariant.told
          ∙ ap (λ n. map value_of (take c.loop-index.index (drop 5 c.args.fields.now)) ++ n ∷ []) level
          ∙ sym (levels-more c.args.fields.now c.loop-index.index within);
      count = ap length c.push.ensures ∙ length-append (levels_of c.loop-index.levels) (level_number c.in_ok-new.field-0 ∷ [])
          ∙ omega (arith, c.loop-index.invariant.count);
      are = subst (AreLevels c.args.route.now) (sym c.push.ensures)
          (AreLevels-push c.args.route.now (levels_of c.loop-index.levels) c.hop.result (level_number c.in_ok-new.field-0)
          (ap (slice_get c.args.route.now) c.loop-index.invariant.count ∙ found) c.loop-index.invariant.are is);
    }

pub returns-else-count-from-clause-there : goal.returns-else-count-from-clause-there
returns-else-count-from-clause-there c = sym (c.loop-index.invariant.rest ∙ levels-over c.args.route.now (drop 5 c.args.fields.now) c.loop-index.index
    (omega (arith, c.loop-index-test.false, c.len-index-end.ensures.value, c.loop-index.auto.index-end))
    (omega (arith, c.loop-index-test.false, c.loop-index.auto.index-end, c.loop-index.invariant.within, c.if-count-from.false, c.count.ensures, c.from-2.ensures, c.len.ensures.value, c.len.ensures.valid.least, c.len-index-end.ensures.value, length-drop 5 c.args.fields.now)))
