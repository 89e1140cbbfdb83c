-- None of the eight queues has a key, and neither has the ninth.
use Rattle.std.proofs.Common.{◌≡◌, deque_len, List, [], ◌∷◌, ◌++◌, All, ap, sym, ◌∙◌, suc, arith}
use Rattle.std.proofs.lemmas.Bool.{eqb-true}
use Rattle.std.proofs.lemmas.List.{nil_from_length}
use Rattle.link_server.specs.Queues.{joined}
use Rattle.link_server.proofs.queue.ready.Ready.is_empty.Goals as goal

module _ {X : Type 0} where
  none-joined : (queues : List (List X)) (last : List X) → All (λ queue. queue ≡ []) queues → last ≡ [] → joined (queues ++ last ∷ []) ≡ []
  none-joined [] last all none = ap (λ (queue : List X). queue ++ []) none
  none-joined (queue ∷ queues) last all none =
      ap (λ (first : List X). first ++ joined (queues ++ last ∷ [])) (all 0 queue (omega arith)) ∙ none-joined queues last (λ k d inside. all (suc k) d (omega (arith, inside))) none

pub returns-then-is_empty : goal.returns-then-is_empty
returns-then-is_empty c = λ none. none-joined c.args.self.now.levels.queues c.args.self.now.ninth.items (c.is_empty.ensures.0 c.if-is_empty.true)
    (let long = c.args.self.now.ninth.ok.0 in let empty = eqb-true (deque_len c.args.self.now.ninth) 0 (sym c.is_empty-then-is_empty.ensures ∙ none) in nil_from_length c.args.self.now.ninth.items (omega (arith, long, empty)))
