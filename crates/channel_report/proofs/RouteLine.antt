-- The line of a route, a link at a time.
use Rattle.std.proofs.Common.{◌≡◌, ℕ, suc, ◌+◌, ◌-◌, ◌≤◌, Some, List, [], ◌∷◌, ◌++◌, length, take, drop, append_assoc, append-nil, ap, sym, subst, ◌∙◌, arith}
use Rattle.std.proofs.lemmas.Grind.{flat_map-append}
use Rattle.std.proofs.Math.Seq.{drop-cons, take-suc}
use Rattle.std.proofs.lemmas.List.{take_all, drop_all}
use Rattle.std.proofs.lemmas.Option.{slice_get_within, get_or_from_slice_get}
use Rattle.std.specs.List.{flat_map, slice_get}
use Rattle.hop_reservation.specs.declared.route.Hop.{Hop}
use Rattle.call_script.specs.declared.entries.LinkEntry.{LinkEntry}
use Rattle.channel_report.specs.Routes.{hop_word, prop_over}

-- one link more
pub hops-more : (links : List LinkEntry) (route : List Hop) (i : ℕ) (hop : Hop) (start before now : List ℕ) → slice_get route (i + 1 - 1) ≡ Some hop → before ≡ start ++ flat_map (hop_word links) (take i route) → now ≡ before ++ hop_word links hop
    → now ≡ start ++ flat_map (hop_word links) (take (i + 1) route)
hops-more links route i hop start before now found so_far is =
    let same : i + 1 - 1 ≡ i = omega arith in
    let at : slice_get route i ≡ Some hop = subst (λ n. slice_get route n ≡ Some hop) same found in
    let within = slice_get_within route i hop at in
    let last = get_or_from_slice_get route i hop hop at in
    let next : suc i ≡ i + 1 = omega arith in
    let one : flat_map (hop_word links) (hop ∷ []) ≡ hop_word links hop = append-nil (hop_word links hop) in
    is ∙ ap (λ text. text ++ hop_word links hop) so_far ∙ append_assoc start (flat_map (hop_word links) (take i route)) (hop_word links hop)
    ∙ ap (λ text. start ++ text) (ap (λ text. flat_map (hop_word links) (take i route) ++ text) (sym one) ∙ sym (flat_map-append (hop_word links) (take i route) (hop ∷ []))
    ∙ ap (λ h. flat_map (hop_word links) (take i route ++ h ∷ [])) (sym last) ∙ ap (flat_map (hop_word links)) (sym (take-suc route i hop within)) ∙ ap (λ n. flat_map (hop_word links) (take n route)) next)

pub hops-all : (links : List LinkEntry) (route : List Hop) (i : ℕ) (start now : List ℕ) → length route ≤ i → now ≡ start ++ flat_map (hop_word links) (take i route) → now ≡ start ++ flat_map (hop_word links) route
hops-all links route i start now past is = is ∙ ap (λ hops. start ++ flat_map (hop_word links) hops) (take_all i route past)

-- the propagation of one hop more
pub prop-more : (route : List Hop) (place : ℕ) (hop : Hop) → slice_get route (place - 1) ≡ Some hop → 1 ≤ place → prop_over (drop (place - 1) route) ≡ hop.prop + prop_over (drop place route)
prop-more route place hop found some =
    let within = slice_get_within route (place - 1) hop found in
    let last = get_or_from_slice_get route (place - 1) hop hop found in
    let next : suc (place - 1) ≡ place = omega arith in
    ap prop_over (drop-cons route (place - 1) hop within) ∙ ap (λ h. h.prop + prop_over (drop (suc (place - 1)) route)) last ∙ ap (λ n. hop.prop + prop_over (drop n route)) next

pub prop-none : (route : List Hop) (place : ℕ) → length route ≤ place → 0 ≡ prop_over (drop place route)
prop-none route place past = sym (ap prop_over (drop_all place route past))
