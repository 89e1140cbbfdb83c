-- A row of no promise and one that arrived early change no trail; any other is taken by its channel's.
use Rattle.std.proofs.Common.{◌≡◌, ◌<◌, Some, None, ◌++◌, length, refl, ap, sym, ◌∙◌, arith}
use Rattle.std.proofs.lemmas.Bool.{ltb-true, ltb-false}
use Rattle.std.proofs.lemmas.Option.{slice_get_read, slice_get_past}
use Rattle.std.specs.List.{slice_get}
use Rattle.std.proofs.lemmas.Result.{on_ok_weaker}
use Rattle.packet_audit.specs.Promises.{rows_of}
use Rattle.packet_audit.proofs.TableRows.{early-found, early-left, ok-any, own-found, taken, unknown-left}
use Rattle.packet_audit.proofs.auditing.judge.Goals as goal

pub returns-in_default-clause-trails : goal.returns-in_default-clause-trails
returns-in_default-clause-trails c =
    let none : slice_get c.args.promises.now c.args.row.now.channel ≡ None = slice_get_past c.args.promises.now c.args.row.now.channel (ltb-false c.args.row.now.channel (length c.args.promises.now) (sym c.in_default.ensures.lookup.0)) in
    ok-any c.push_fault.result (λ above stand. unknown-left c.args.promises.now c.args.trails.now.items c.args.row.now above none stand)

pub returns-then-row-clause-found : goal.returns-then-row-clause-found
returns-then-row-clause-found c =
    let look = c.in-Some.ensures.lookup in
    let promised : slice_get c.args.promises.now c.args.row.now.channel ≡ Some c.in-Some.promise.now = slice_get_read c.args.promises.now (length c.args.promises.now) c.args.row.now.channel c.in-Some.promise.now refl (ltb-true c.args.row.now.channel (length c.args.promises.now) (sym look.0)) look.1 in
    on_ok_weaker c.push_fault-then-row.result (λ same above stand. same ∙ ap (λ xs. c.args.found.now.items ++ xs) (early-found c.args.promises.now c.args.number c.in-Some.promise.now above c.args.row.now promised c.if-row.true)) c.push_fault-then-row.ensures

pub returns-then-row-clause-trails : goal.returns-then-row-clause-trails
returns-then-row-clause-trails c = ok-any c.push_fault-then-row.result (λ above stand. early-left c.args.promises.now c.args.trails.now.items c.args.row.now above c.if-row.true stand)

pub returns-clause-found : goal.returns-clause-found
returns-clause-found c =
    let look = c.in-Some.ensures.lookup in
    let inside : c.args.row.now.channel < length c.args.promises.now = ltb-true c.args.row.now.channel (length c.args.promises.now) (sym look.0) in
    let promised : slice_get c.args.promises.now c.args.row.now.channel ≡ Some c.in-Some.promise.now = slice_get_read c.args.promises.now (length c.args.promises.now) c.args.row.now.channel c.in-Some.promise.now refl inside look.1 in
    on_ok_weaker c.judge_own.result (λ holds above stand.
    let there : slice_get c.args.trails.now.items c.args.row.now.channel ≡ Some c.index_mut.result.now = slice_get_read c.args.trails.now.items (length c.args.trails.now.items) c.args.row.now.channel c.index_mut.result.now refl (omega (arith, inside, stand.same)) c.index_mut.ensures.value in
    holds (rows_of c.args.row.now.channel above) (stand.each c.args.row.now.channel c.in-Some.promise.now c.index_mut.result.now promised there)
    ∙ ap (λ xs. c.args.found.now.items ++ xs) (own-found c.args.promises.now c.args.number c.in-Some.promise.now above c.args.row.now promised c.if-row.false))
    c.judge_own.ensures.found

pub returns-clause-trails : goal.returns-clause-trails
returns-clause-trails c =
    let look = c.in-Some.ensures.lookup in
    let inside : c.args.row.now.channel < length c.args.promises.now = ltb-true c.args.row.now.channel (length c.args.promises.now) (sym look.0) in
    let promised : slice_get c.args.promises.now c.args.row.now.channel ≡ Some c.in-Some.promise.now = slice_get_read c.args.promises.now (length c.args.promises.now) c.args.row.now.channel c.in-Some.promise.now refl inside look.1 in
    on_ok_weaker c.judge_own.result (λ takes above stand.
    let there : slice_get c.args.trails.now.items c.args.row.now.channel ≡ Some c.index_mut.result.now = slice_get_read c.args.trails.now.items (length c.args.trails.now.items) c.args.row.now.channel c.index_mut.result.now refl (omega (arith, inside, stand.same)) c.index_mut.ensures.value in
    taken c.args.promises.now c.args.trails.now.items _ c.index_mut.result.now c.judge_own.new.trail c.in-Some.promise.now c.args.row.now above promised there refl c.if-row.false (takes (rows_of c.args.row.now.channel above)) stand)
    c.judge_own.ensures.trail
