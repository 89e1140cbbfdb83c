-- Hops in cells: one more after those that stand there; the hops over the links of values, one more value; and what a line says of them.
use Rattle.std.proofs.Common.{◌≡◌, ℕ, zero, suc, ◌+◌, ◌<◌, ◌≤◌, List, [], ◌∷◌, ◌++◌, Some, None, length, take, set, refl, ◌∙◌, ap, arith, add-one, length-take-le, length-append, option_map, Option}
use Rattle.std.proofs.lemmas.Option.{same_Some}
use Rattle.std.specs.List.{slice_get}
use Rattle.std.proofs.lemmas.List.{take_more_set, take_all}
use Rattle.net_units.specs.Numbers.{link_number}
use Rattle.hop_reservation.specs.declared.route.Hop.{Hop}
use Rattle.call_script.specs.declared.entries.LinkEntry.{LinkEntry}
use Rattle.line_forms.specs.Values.{number_in, number_at}
use Rattle.line_forms.specs.declared.value.FieldValue.{FieldValue}
use Rattle.line_forms.specs.declared.value.FieldValue.TheVariants as value
use Rattle.scenario_reader.specs.Entries.{hop_of}
use Rattle.scenario_reader.specs.line.Request.{hop_before, hops_said, link_before, route_values}

pub hops_more : (cells : List Hop) (place : ℕ) (hop : Hop) → place < length cells → take (place + 1) (set cells place hop) ≡ take place cells ++ hop ∷ []
hops_more cells place hop h = take_more_set cells place hop h

-- cells that are full have as many hops as they have cells
pub hops_few : (cells : List Hop) (len : ℕ) → length cells ≡ 16 → len ≤ 16 → length (take len cells) < 16 → len < 16
hops_few cells len whole few less = omega (arith, length-take-le len cells (omega (arith, whole)))

-- the hop over a link that is there
one-hop : (found : Option LinkEntry) (hops : List Hop) (hop : Hop) → option_map hop_of found ≡ Some hop → hop_before found hops ≡ hop ∷ hops
one-hop None hops hop e = cc
one-hop (Some entry) hops hop e = ap (λ h. h ∷ hops) (same_Some (hop_of entry) hop e)

after-hop : (found : Option LinkEntry) (hops more : List Hop) → hop_before found (hops ++ more) ≡ hop_before found hops ++ more
after-hop None hops more = refl
after-hop (Some entry) hops more = refl

run-next : (links : List LinkEntry) (run : List FieldValue) (place : ℕ) (hop : Hop) → place < length run
    → option_map hop_of (slice_get links (number_at run place)) ≡ Some hop → hops_said links (take (suc place) run) ≡ hops_said links (take place run) ++ hop ∷ []
run-next links [] place hop h found = absurd (omega arith)
run-next links (v ∷ run) zero hop h found = one-hop (slice_get links (number_in v)) [] hop found
run-next links (v ∷ run) (suc place) hop h found =
    ap (hop_before (slice_get links (number_in v))) (run-next links run place hop (omega arith) found)
    ∙ after-hop (slice_get links (number_in v)) (hops_said links (take place run)) (hop ∷ [])

-- a hop more over the link of the next value
pub run-more : (links : List LinkEntry) (run : List FieldValue) (place : ℕ) (hop : Hop) → place < length run → option_map hop_of (slice_get links (number_at run place)) ≡ Some hop
    → hops_said links (take (place + 1) run) ≡ hops_said links (take place run) ++ hop ∷ []
run-more links run place hop h found = rw add-one (run-next links run place hop h found)

-- all of them
pub whole-run : (links : List LinkEntry) (run : List FieldValue) (place : ℕ) → length run ≤ place → hops_said links (take place run) ≡ hops_said links run
whole-run links run place h = ap (hops_said links) (take_all place run h)

-- ---- what a line says of a route

before-more : (number : ℕ) (found : Option LinkEntry) (values more : List FieldValue) → link_before number found (values ++ more) ≡ link_before number found values ++ more
before-more number None values more = refl
before-more number (Some entry) values more = refl

values-next : (links : List LinkEntry) (route : List Hop) (place : ℕ) (hop : Hop) → slice_get route place ≡ Some hop
    → route_values links (take (suc place) route) ≡ route_values links (take place route) ++ link_before (link_number hop.link) (slice_get links (link_number hop.link)) []
values-next links [] place hop e = cc
values-next links (h ∷ route) zero hop e = ap (λ (g : Hop). link_before (link_number g.link) (slice_get links (link_number g.link)) []) (same_Some h hop e)
values-next links (h ∷ route) (suc place) hop e =
    ap (link_before (link_number h.link) (slice_get links (link_number h.link))) (values-next links route place hop e)
    ∙ before-more (link_number h.link) (slice_get links (link_number h.link)) (route_values links (take place route)) (link_before (link_number hop.link) (slice_get links (link_number hop.link)) [])

-- with the link of the next hop
pub values-more : (links : List LinkEntry) (route : List Hop) (place : ℕ) (hop : Hop) (found : Option LinkEntry) → slice_get route place ≡ Some hop → slice_get links (link_number hop.link) ≡ found
    → route_values links (take (place + 1) route) ≡ route_values links (take place route) ++ link_before (link_number hop.link) found []
values-more links route place hop found e at =
    rw add-one (values-next links route place hop e) ∙ ap (λ (f : Option LinkEntry). route_values links (take place route) ++ link_before (link_number hop.link) f []) at

-- one value a hop at most
pub before-few : (number : ℕ) (found : Option LinkEntry) (values : List FieldValue) (n : ℕ) → length values ≤ n → length (values ++ link_before number found []) ≤ n + 1
before-few number None values n few = omega (arith, few, length-append values [])
before-few number (Some entry) values n few = omega (arith, few, length-append values (value.Known entry.name number ∷ []))
