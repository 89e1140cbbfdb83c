-- The ticks that are left of a round, one after the other.
use Rattle.std.proofs.Common.{◌≡◌, ℕ, zero, suc, ◌+◌, ◌-◌, ◌≤◌, List, [], ◌∷◌, ◌++◌, sym, ap, ◌∙◌, arith}
use Rattle.std.proofs.lemmas.List.{append_assoc, append-nil}
use Rattle.net_units.specs.Numbers.{link_at}
use Rattle.net_units.specs.declared.numbers.LinkNo.{LinkNo}
use Rattle.link_steps.specs.declared.asks.Ask.{Ask}
use Rattle.link_steps.specs.declared.asks.Ask.TheVariants.{Tick}
use Rattle.tick_plane.specs.Rounds.{ticks_from}

pub ticks-none : (old : List (LinkNo × Ask)) (from : ℕ) → old ≡ old ++ ticks_from from (from - from)
unfolding ticks_from
ticks-none old from =
    let none : from - from ≡ 0 = omega arith in
    sym (ap (λ c. old ++ ticks_from from c) none ∙ append-nil old)

ticks-last : (from count : ℕ) → ticks_from from (suc count) ≡ ticks_from from count ++ (link_at (from + count), Tick) ∷ []
unfolding ticks_from
ticks-last from zero = ap (λ n. (link_at n, Tick) ∷ []) (let same : from ≡ from + 0 = omega arith in same)
ticks-last from (suc count) =
    let same : suc from + count ≡ from + suc count = omega arith in
    ap (λ asks. (link_at from, Tick) ∷ asks) (ticks-last (suc from) count)
    ∙ ap (λ n. (link_at from, Tick) ∷ (ticks_from (suc from) count ++ (link_at n, Tick) ∷ [])) same

module _ (old now new : List (LinkNo × Ask)) (from number : ℕ) (link : LinkNo) (past : from ≤ number) where
  pub ticks-more : now ≡ old ++ ticks_from from (number - from) → link ≡ link_at number → new ≡ now ++ (link, Tick) ∷ []
      → new ≡ old ++ ticks_from from (number + 1 - from)
  ticks-more was is pushed =
      let count : number + 1 - from ≡ suc (number - from) = omega (arith, past) in
      let at : from + (number - from) ≡ number = omega (arith, past) in
      let all : ticks_from from (number + 1 - from) ≡ ticks_from from (number - from) ++ (link_at number, Tick) ∷ [] =
      ap (ticks_from from) count ∙ ticks-last from (number - from)
      ∙ ap (λ n. ticks_from from (number - from) ++ (link_at n, Tick) ∷ []) at in
      pushed ∙ ap (λ asks. asks ++ (link, Tick) ∷ []) was ∙ ap (λ (l : LinkNo). (old ++ ticks_from from (number - from)) ++ (l, Tick) ∷ []) is
      ∙ append_assoc old (ticks_from from (number - from)) ((link_at number, Tick) ∷ []) ∙ ap (λ asks. old ++ asks) (sym all)
