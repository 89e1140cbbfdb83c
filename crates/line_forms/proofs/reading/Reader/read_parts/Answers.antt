use Rattle.std.proofs.Common.{◌∙◌, ◌+◌, ap, sym, subst, drop}
use Rattle.line_forms.specs.Reading.{read_parts}
use Rattle.line_forms.specs.declared.reading.Reader.{Reader}
use Rattle.line_forms.proofs.ReadOn.{goes_on, GoesTo, Stands, stands-first, nothing-before, next-part, part-on, part-next, line-told}
use Rattle.line_forms.proofs.reading.Reader.read_parts.Goals as goal

pub loop-part-init : goal.loop-part-init
loop-part-init g c =
    let names = g.K.Known.names c.args.known.now in
    record {
      rest = ap (λ (was : Reader). goes_on names c.args.form.now c.args.fields.now was) c.begin.ensures ∙ nothing-before names c.args.form.now c.args.fields.now;
      stands = subst (Stands c.args.form.now c.args.fields.now) (sym c.begin.ensures) (stands-first c.args.form.now c.args.fields.now c.requires.form c.requires.has);
    }

pub take-requires : goal.take-requires
take-requires g c =
    let i = c.loop-part.part-index in
    let form = c.args.form.now in
    part-next (drop i form) (drop (i + 1) form) _ c.args.fields.now c.loop-part.self (next-part form i _ c.loop-part-test.true) c.loop-part.invariant.stands

pub returns-in_err-take : goal.returns-in_err-take
returns-in_err-take g c =
    let names = g.K.Known.names c.args.known.now in
    let i = c.loop-part.part-index in
    let form = c.args.form.now in
    line-told c.from_residual.result _ (read_parts names 0 form c.args.fields.now) c.in_err-take.field-0.0 c.from_residual.ensures.1
    (sym c.loop-part.invariant.rest ∙ subst (GoesTo names (drop (i + 1) form) c.args.fields.now (goes_on names (drop i form) c.args.fields.now c.loop-part.self)) c.in_err-take.ensures
    (part-on names (drop i form) (drop (i + 1) form) _ c.args.fields.now c.loop-part.self (next-part form i _ c.loop-part-test.true) c.loop-part.invariant.stands))

pub loop-part-preserved : goal.loop-part-preserved
loop-part-preserved g c =
    let names = g.K.Known.names c.args.known.now in
    let i = c.loop-part.part-index in
    let form = c.args.form.now in
    let now = subst (GoesTo names (drop (i + 1) form) c.args.fields.now (goes_on names (drop i form) c.args.fields.now c.loop-part.self)) c.in_ok-take.ensures
    (part-on names (drop i form) (drop (i + 1) form) _ c.args.fields.now c.loop-part.self (next-part form i _ c.loop-part-test.true) c.loop-part.invariant.stands) in
    record { rest = sym now.0 ∙ c.loop-part.invariant.rest; stands = now.1 }
