use Rattle.std.proofs.Common.{◌≡◌, ◌<◌, IfSome, ap, subst, ◌∙◌}
use Rattle.net_units.specs.Numbers.{link_number}
use Rattle.design_file.proofs.links.add_link.Goals as goal

pub returns : goal.returns
returns c =
    let at : link_number c.in_ok-number.number ≡ c.len.result = subst (λ o. IfSome o (λ link. link_number link ≡ c.len.result)) c.in_ok-number.ensures.ok_part c.link_at.ensures.number in
    let below : c.len.result < 32 = subst (λ o. IfSome o (λ link. c.len.result < 32)) c.in_ok-number.ensures.ok_part c.link_at.ensures.few in
    record {
      entry = c.in_ok-entry.entry;
      added = c.in_ok-push.ensures.items;
      rounded = c.in_ok-entry.ensures.rounded;
      number = ap link_number c.in_ok-entry.ensures.number ∙ at ∙ c.len.ensures ∙ c.args.entries.now.ok.0;
      few = subst (λ n. n < 32) (c.len.ensures ∙ c.args.entries.now.ok.0) below;
    }
