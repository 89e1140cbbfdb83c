use Rattle.std.proofs.Common.{◌<◌, length, sym, ap, ◌∙◌, subst, rules}
use Rattle.shared_network.proofs.Words.{◌≡◌, List, IsNonDecreasingBy-from_sort_by_key, length_permutation, Each, up_to, Journal}
use Rattle.shared_network.specs.Closing.{number_of}
use Rattle.shared_network.specs.Gathering.{IsBelow}
use Rattle.shared_network.proofs.Numbering.NumberOrder.{ordered-numbers}
use Rattle.shared_network.proofs.Numbering.PermutedLists.{differ-permuted}
use Rattle.shared_network.proofs.closing.put_in_order.Goals as goal
use Rattle.link_steps.proofs.ListParts.{Each-permuted}

pub returns-clause-order : goal.returns-clause-order
returns-clause-order c =
    let before : List Journal = c.args.journals.now in
    let after : List Journal = c.sort_unstable_by_key.new.self in
    let moved = c.sort_unstable_by_key.ensures.permutation in
    let long : length after ≡ length before = length_permutation before after moved in
    let below : Each (λ (j : Journal). number_of j < length after) after = subst (λ n. Each (IsBelow n) after) (sym long) (Each-permuted (IsBelow (length before)) before after moved c.requires.below) in
    ordered-numbers number_of after (IsNonDecreasingBy-from_sort_by_key number_of after c.sort_unstable_by_key.ensures.sorted (λ a r q k. search rules)) (differ-permuted number_of before after moved c.requires.apart) below
    ∙ ap up_to long
