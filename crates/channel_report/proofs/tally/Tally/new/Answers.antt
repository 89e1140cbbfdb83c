-- Nothing was counted, kept or noted yet.
use Rattle.std.proofs.Common.{◌≡◌, [], length, replicate, refl, sym, ap, subst, ◌∙◌}
use Rattle.std.proofs.lemmas.List.{get_or-replicate, length-replicate}
use Rattle.run_record.specs.Rows.{departures_in}
use Rattle.channel_report.specs.KeptRows.{AreKeptIf}
use Rattle.channel_report.proofs.RowsStayKept.{none-kept}
use Rattle.channel_report.proofs.LinkTallies.{nothing, none-counted}
use Rattle.channel_report.proofs.StepTallies.{no-steps}
use Rattle.channel_report.proofs.tally.Tally.new.Goals as goal

pub returns-clause-fresh : goal.returns-clause-fresh
unfolding departures_in
returns-clause-fresh c =
    let parts = c.args.plan.now in
    let items : c.in_ok-vec.field-0.items ≡ replicate (length c.links.result.now) nothing = c.in_ok-vec.ensures.items_if_clones_equal (λ y same. same) in
    record {
      links = none-counted (length parts.links) c.in_ok-vec.field-0.items (ap length items ∙ length-replicate (length c.links.result.now) nothing ∙ ap length c.links.ensures.value)
          (λ n d within. rw items (get_or-replicate (length c.links.result.now) n nothing d (rw c.links.ensures.value within)));
      channels = c.in_ok-new_tallies.ensures parts.requests (sym (ap length c.requests.ensures.value));
      flows = λ whole. c.in_ok-new_flows.ensures;
      hops = c.new.ensures;
      rows = subst (AreKeptIf c.args.packets []) (sym c.new-2.ensures.items) (none-kept c.args.packets);
      made = no-steps c.in_ok-vec-2.field-0.items (c.in_ok-vec-2.ensures.items_if_clones_equal (λ y same. same));
      steps = refl;
    }
