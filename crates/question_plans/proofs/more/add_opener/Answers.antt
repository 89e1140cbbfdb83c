use Rattle.std.proofs.Common.{◌≡◌, ◌<◌, Some, IfSome, List, length, sym, ap, subst, ◌∙◌}
use Rattle.std.proofs.lemmas.Option.{slice_get-get_or}
use Rattle.std.specs.List.{slice_get}
use Rattle.net_units.specs.Numbers.{actor_number}
use Rattle.call_script.specs.Splits.{group_behind}
use Rattle.call_script.specs.declared.entries.CallerEntry.{CallerEntry}
use Rattle.call_script.specs.declared.entries.RequestEntry.{RequestEntry}
use Rattle.question_plans.specs.More.{HasCopies}
use Rattle.question_plans.proofs.more.add_opener.Goals as goal

pub returns : goal.returns
returns c =
    let within : c.args.number < length c.requests.result.now = subst (λ (xs : List RequestEntry). c.args.number < length xs) (sym c.requests.ensures.value) c.requires.inside in
    let read : slice_get c.requests.result.now c.args.number ≡ Some c.index-requests-number.result =
    slice_get-get_or c.requests.result.now c.args.number c.index-requests-number.result within ∙ ap (λ (e : RequestEntry). Some e) (sym c.index-requests-number.is) in
    let at : actor_number c.in_ok-opener.opener ≡ c.len.result = subst (λ o. IfSome o (λ actor. actor_number actor ≡ c.len.result)) c.in_ok-opener.ensures.ok_part c.actor_at.ensures in
    let number : actor_number c.in_ok-opener.opener ≡ length c.args.plan.now.callers = at ∙ c.len.ensures ∙ c.args.callers.now.ok.0 ∙ c.requires.many in
    let caller : CallerEntry = record { name = c.in_ok-name.name; group = c.group_of-group.result; ops = c.in_ok-ops.ops } in
    record {
      like = c.index-requests-number.result;
      found = subst (λ (xs : List RequestEntry). slice_get xs c.args.number ≡ Some c.index-requests-number.result) c.requests.ensures.value read;
      caller = caller;
      group = c.group_of-group.ensures ∙ ap (λ (xs : List CallerEntry). group_behind xs c.index-requests-number.result) c.callers.ensures.value;
      copies = subst (λ n. HasCopies c.index-requests-number.result n c.args.plan.now.requests c.args.count c.add_copies.new.requests.items c.in_ok-ops.ops) number
          (subst (λ (xs : List RequestEntry). HasCopies c.index-requests-number.result (actor_number c.in_ok-opener.opener) xs c.args.count c.add_copies.new.requests.items c.in_ok-ops.ops) c.requires.own c.in_ok-ops.ensures);
      put = c.in_ok-add_caller.ensures;
    }
