use Rattle.std.proofs.Common.{◌≡◌, List, ◌++◌, length, take, drop, sym, ap, ◌∙◌, subst, arith}
use Rattle.shared_network.proofs.Words.{append-nil, drop_all, take_all, length_permutation, Each, up_to, pass_view, Journal}
use Rattle.shared_network.specs.Gathering.{IsBelow, IsSettled, AreSettled}
use Rattle.shared_network.proofs.closing.settle.Goals as goal
use Rattle.link_steps.proofs.ListParts.{Each-permuted}

pub put_in_order-requires-clause-below : goal.put_in_order-requires-clause-below
put_in_order-requires-clause-below g c =
    let told = c.take_journals-journals.ensures in
    let taken : List Journal = c.take_journals-journals.result.items in
    subst (λ (js : List Journal). Each (IsBelow (length js)) js) (sym c.deref_mut.ensures.value) (subst (λ n. Each (IsBelow n) taken) (sym (told.all ∙ c.requires.all)) told.below)

pub returns : goal.returns
returns g c =
    let told = c.take_journals-journals.ensures in
    let taken : List Journal = c.take_journals-journals.result.items in
    let before : List Journal = c.deref_mut.result.now in
    let after : List Journal = c.put_in_order.new.journals in
    let value : before ≡ taken = c.deref_mut.ensures.value in
    let long : length after ≡ length before = length_permutation before after c.put_in_order.ensures.same in
    let same : length before ≡ length taken = ap length value in
    let ok = c.take_journals-journals.result.ok in
    let whole : take c.take_journals-journals.result.len (after ++ drop (length after) taken) ≡ after =
    ap (λ ys. take c.take_journals-journals.result.len (after ++ ys)) (drop_all (length after) taken (omega (arith, long, same)))
    ∙ ap (take c.take_journals-journals.result.len) (append-nil after)
    ∙ take_all c.take_journals-journals.result.len after (omega (arith, long, same, ok)) in
    subst (AreSettled g.H.Home.links (pass_view c.args.seat)) (sym whole)
    (record {
      numbers = c.put_in_order.ensures.order ∙ ap up_to (same ∙ told.all ∙ c.requires.all);
      settled = Each-permuted (IsSettled g.H.Home.links (pass_view c.args.seat)) before after c.put_in_order.ensures.same (subst (Each (IsSettled g.H.Home.links (pass_view c.args.seat))) (sym value) told.settled);
    })
