-- As many keys wait as the queues have together.
use Rattle.std.proofs.Common.{◌≡◌, ℕ, List, [], length, get_or, map, All, ap, sym, subst, ◌∙◌, arith}
use Rattle.std.proofs.lemmas.Bool.{eq-eqb, eqb-true}
use Rattle.std.proofs.lemmas.List.{nil_from_length}
use Rattle.std.proofs.lemmas.List.Sums.{sum_by-le, get_or-le-sum_by}
use Rattle.std.specs.Prelude.{sum_by}
use Rattle.static_priority.specs.Queues.{Queues}
use Rattle.static_priority.specs.Room.{keys_of}
use Rattle.static_priority.proofs.LevelQueues.is_empty.Goals as goal

none : (lists : List (List ℕ)) → sum_by length lists ≡ 0 → All (λ keys. keys ≡ []) lists
none lists sum = λ k d inside. (let among = get_or-le-sum_by length lists k d inside in nil_from_length (get_or lists k d) (omega (arith, among, sum)))

empty : (lists : List (List ℕ)) → All (λ keys. keys ≡ []) lists → sum_by length lists ≡ 0
empty lists all = let most = sum_by-le length 0 lists (λ k d inside. (let none = ap length (all k d inside) in omega (arith, none))) in omega (arith, most)

pub returns : goal.returns
returns c =
    let seen = ap (λ (s : Queues). s.queues) c.self.view_is in
    let counted = c.self.invariant.counted in
    let lists = map keys_of c.self.inside.queues.items in (
      λ yes. subst (All (λ keys. keys ≡ [])) seen (none lists (sym counted ∙ eqb-true c.self.inside.waiting 0 yes)),
      λ all. eq-eqb c.self.inside.waiting 0 (counted ∙ empty lists (subst (All (λ keys. keys ≡ [])) (sym seen) all)),
    )
