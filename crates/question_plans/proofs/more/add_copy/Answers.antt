use Rattle.std.proofs.Common.{◌≡◌, IfSome, refl, subst, ◌∙◌}
use Rattle.net_units.specs.Numbers.{channel_number}
use Rattle.question_plans.proofs.more.add_copy.Goals as goal

pub returns-in-Ok : goal.returns-in-Ok
returns-in-Ok c =
    let at : channel_number c.in_ok-chan.chan ≡ c.len.result = subst (λ o. IfSome o (λ chan. channel_number chan ≡ c.len.result)) c.in_ok-chan.ensures.ok_part c.chan_at.ensures in
    record {
      copy = record {
        name = c.in_ok-name.name;
        caller = c.args.own.caller;
        request = record { chan = c.in_ok-chan.chan; route = c.args.like.now.request.route; contract = c.args.like.now.request.contract; control = c.args.like.now.request.control; delay = c.args.like.now.request.delay };
        found = c.args.like.now.found;
      };
      added = c.in-Ok.ensures.ok;
      is = record { route = refl; contract = refl; control = refl; delay = refl; caller_is = refl };
      number = at ∙ c.len.ensures ∙ c.args.requests.now.ok.0;
      chan_is = refl;
    }
