use Rattle.std.proofs.Common.{◌≡◌, IfSome, refl, subst, ◌∙◌}
use Rattle.net_units.specs.Numbers.{actor_number, channel_number}
use Rattle.design_file.proofs.requests.add_request.Goals as goal

pub returns : goal.returns
returns c =
    let at : channel_number c.in_ok-chan.chan ≡ c.len.result = subst (λ o. IfSome o (λ chan. channel_number chan ≡ c.len.result)) c.in_ok-chan.ensures.ok_part c.chan_at.ensures in
    record {
      entry = record {
        name = c.args.stream.now.name;
        caller = c.in_ok-caller.caller;
        request = record { chan = c.in_ok-chan.chan; route = c.in_ok-route.route; contract = c.in_ok-terms.terms.contract; control = c.in_ok-terms.terms.control; delay = c.in_ok-terms.terms.delay };
        found = c.found_between.result;
      };
      added = c.in_ok-push_request.ensures.ok;
      rounded = record {
        name = refl;
        contract = c.in_ok-terms.ensures.contract;
        delay = c.in_ok-terms.ensures.delay;
        control = c.in_ok-terms.ensures.control;
        way = c.in_ok-route.ensures;
        caller = subst (λ o. IfSome o (λ actor. actor_number actor ≡ c.args.stream.now.group)) c.in_ok-caller.ensures.ok_part c.new.ensures.value;
      };
      number = at ∙ c.len.ensures ∙ c.args.entries.now.ok.0;
    }
