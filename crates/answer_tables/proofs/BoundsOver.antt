-- The least bound over a number of ticks, hop by hop, and the hops of a request.
use Rattle.std.proofs.Common.{◌≡◌, ℕ, ◌+◌, ◌<◌, ◌≤◌, List, [], ◌∷◌, ◌++◌, length, get_or, take, sym, ap, ◌∙◌, subst, arith}
use Rattle.std.proofs.lemmas.List.{take_more}
use Rattle.std.proofs.lemmas.Option.{get_or_from_slice_get, slice_get-get_or, slice_get_within}
use Rattle.std.specs.List.{slice_get}
use Rattle.std.specs.Prelude.{Some}
use Rattle.net_units.specs.LevelBounds.{bound_at}
use Rattle.hop_reservation.specs.declared.route.Hop.{Hop}
use Rattle.link_steps.specs.Lists.{Each}
use Rattle.link_steps.proofs.ListParts.{Each-at}
use Rattle.link_steps.proofs.SearchAndFilter.{Each-append, Each-if}
use Rattle.call_script.specs.Parts.{PlanParts}
use Rattle.call_script.specs.declared.entries.RequestEntry.{RequestEntry}
use Rattle.answer_tables.specs.Ranges.{IsBoundIn, IsLeastOver, hops_asked, hops_of}

lowered : (ticks least lower : ℕ) → lower ≤ least → (hop : Hop) → IsLeastOver ticks least hop → IsLeastOver ticks lower hop
lowered ticks least lower less hop is level is_level over = (let before : least ≤ bound_at hop.bounds level = is level is_level over in omega arith)

-- with one more hop
pub hop-more : (hops : List Hop) (i ticks least lower : ℕ) (hop : Hop) → slice_get hops i ≡ Some hop → lower ≤ least → Each (IsLeastOver ticks least) (take i hops) → IsLeastOver ticks lower hop
    → Each (IsLeastOver ticks lower) (take (i + 1) hops)
hop-more hops i ticks least lower hop found less before here =
    let front : take (i + 1) hops ≡ take i hops ++ hop ∷ [] = take_more hops i hop (slice_get_within hops i hop found) ∙ ap (λ (h : Hop). take i hops ++ h ∷ []) (get_or_from_slice_get hops i hop hop found) in
    subst (Each (IsLeastOver ticks lower)) (sym front)
    (Each-append (IsLeastOver ticks lower) (take i hops) (hop ∷ []) (Each-if (IsLeastOver ticks least) (IsLeastOver ticks lower) (take i hops) (lowered ticks least lower less) before) (here, tt))

-- so it is the least of all hops
pub least-in : (hops : List Hop) (ticks least bound : ℕ) → Each (IsLeastOver ticks least) hops → IsBoundIn hops bound → ticks < bound → least ≤ bound
least-in hops ticks least bound each stands over =
    subst (λ b. least ≤ b) stands.is (Each-at (IsLeastOver ticks least) hops stands.place stands.hop each stands.found stands.level stands.is_level (subst (λ b. ticks < b) (sym stands.is) over))

-- ---- the hops of a request

hops-at : (parts : PlanParts) (requests : List RequestEntry) (number : ℕ) (entry : RequestEntry) → requests ≡ parts.requests → number < length parts.requests
    → hops_of parts number ≡ (get_or requests number entry).request.route
hops-at parts requests number entry same inside =
    ap hops_asked (slice_get-get_or parts.requests number entry inside ∙ ap (λ (xs : List RequestEntry). Some (get_or xs number entry)) (sym same))

-- what holds of the bounds of its hops
pub bounds-at : (parts : PlanParts) (requests : List RequestEntry) (number low at : ℕ) (entry : RequestEntry) → requests ≡ parts.requests → number < length parts.requests
    → ((bound : ℕ) → IsBoundIn (get_or requests number entry).request.route bound → low + 1 < bound → at + 1 ≤ bound) → (bound : ℕ) → IsBoundIn (hops_of parts number) bound → low + 1 < bound → at + 1 ≤ bound
bounds-at parts requests number low at entry same inside next bound stands over =
    next bound (subst (λ (hops : List Hop). IsBoundIn hops bound) (hops-at parts requests number entry same inside) stands) over
