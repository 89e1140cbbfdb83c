use Rattle.std.proofs.Common.{◌≡◌, ap, ap₂, length, sym, ◌++◌, ◌∙◌}
use Rattle.net_units.specs.Numbers.{actor_number}
use Rattle.design_file.proofs.OpenedSoFar.{open-is}
use Rattle.design_file.proofs.callers.add_open.Goals as goal

-- what comes before it opens nothing, and the caller has the number of the request's
pub returns : goal.returns
returns c =
    let counted : c.len.result ≡ length c.args.draft.now.callers.items = c.len.ensures ∙ c.args.draft.now.callers.ok.0 in
    let equal : c.len.result ≡ c.from.result = c.if-len-from.false in
    let number : c.from.result ≡ actor_number c.args.entry.now.caller = c.from.ensures ∙ c.get.ensures.value in
    let same : length c.add_later.new.draft.callers.items ≡ actor_number c.args.entry.now.caller = ap length c.in_ok-add_later.ensures.callers ∙ sym counted ∙ equal ∙ number in
    c.in_ok-add_op.ensures.opened
    ∙ ap₂ (λ before more. before ++ more) c.in_ok-add_later.ensures.same (open-is (length c.add_later.new.draft.callers.items) c.args.entry.now same)
