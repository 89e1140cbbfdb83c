-- The entry is the one at the link's place.
use Rattle.std.proofs.Common.{◌≡◌, ◌<◌, Some, get_or, length, refl, sym, ap, ◌∙◌, subst, IfOk, arith}
use Rattle.std.proofs.lemmas.Option.{same_Some, slice_get_read}
use Rattle.std.specs.List.{slice_get}
use Rattle.std.proofs.lemmas.Result.{IfOk-weaker}
use Rattle.net_units.specs.Numbers.{link_number}
use Rattle.call_script.specs.Draft.{parts_in}
use Rattle.call_script.specs.Parts.{PlanParts}
use Rattle.call_script.specs.Splits.{groups_in, split_if}
use Rattle.call_script.specs.declared.entries.LinkEntry.{LinkEntry}
use Rattle.call_script.proofs.SplitFits.{entry-quotas}
use Rattle.call_script.proofs.plan.Plan.split.Goals as goal

pub split_of-requires : goal.split_of-requires
split_of-requires c =
    let items = c.self.inside.parts.links.items in
    let here : link_number c.args.link < length items = omega (arith, c.requires, ap (λ (p : PlanParts). length p.links) c.self.view_is) in
    let at : c.from.result ≡ link_number c.args.link = omega (arith, c.from.ensures, c.get.ensures.value) in
    let found = slice_get_read items (length items) (link_number c.args.link) c.index-entry.result.now refl here (subst (λ n. c.index-entry.result.now ≡ get_or items n c.index-entry.result.now) at c.index-entry.ensures) in
    entry-quotas (parts_in c.self.inside.parts) (link_number c.args.link) c.index-entry.result.now c.self.invariant found

pub returns-clause-split : goal.returns-clause-split
returns-clause-split c =
    let items = c.self.inside.parts.links.items in
    let parts = parts_in c.self.inside.parts in
    let here : link_number c.args.link < length items = omega (arith, c.requires, ap (λ (p : PlanParts). length p.links) c.self.view_is) in
    let at : c.from.result ≡ link_number c.args.link = omega (arith, c.from.ensures, c.get.ensures.value) in
    let found = slice_get_read items (length items) (link_number c.args.link) c.index-entry.result.now refl here (subst (λ n. c.index-entry.result.now ≡ get_or items n c.index-entry.result.now) at c.index-entry.ensures) in
    subst (λ (p : PlanParts). IfOk c.split_of.result (λ split. (entry : LinkEntry) → slice_get p.links (link_number c.args.link) ≡ Some entry → split ≡ split_if (groups_in p) entry.quotas)) c.self.view_is
    (IfOk-weaker c.split_of.result _ _ (λ split is entry at. is ∙ ap (λ (e : LinkEntry). split_if (groups_in parts) e.quotas) (same_Some c.index-entry.result.now entry (sym found ∙ at))) (rw (c.deref.ensures.value, c.deref-2.ensures.value) at c.split_of.ensures))
