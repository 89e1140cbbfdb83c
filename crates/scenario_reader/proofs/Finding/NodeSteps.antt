-- How a node's number is found, and the edges made, a link at a time.
use Rattle.std.proofs.Common.{◌≡◌, ℕ, suc, ◌+◌, ◌<◌, ◌≤◌, true, false, List, [], ◌∷◌, ◌++◌, length, get_or, take, drop, map, ap, sym, refl, ◌∙◌, arith}
use Rattle.std.proofs.Math.Seq.{drop-cons, take-suc}
use Rattle.std.proofs.lemmas.List.{drop_all, take_all, map-append}
use Rattle.call_script.specs.Rules.{is_named}
use Rattle.call_script.specs.declared.entries.LinkEntry.{LinkEntry}
use Rattle.scenario_reader.specs.Nodes.{node_from, edge_over, edges_of}

pub node-first : (n : ℕ) (links : List LinkEntry) (i : ℕ) (entry : LinkEntry) (name : List ℕ) → i < length links → get_or links i entry ≡ entry
    → is_named name entry.from ≡ true → node_from n (drop i links) name ≡ n
unfolding node_from
node-first n links i entry name within is first = rw (drop-cons links i entry within) (rw is (rw first refl))

pub node-second : (n : ℕ) (links : List LinkEntry) (i : ℕ) (entry : LinkEntry) (name : List ℕ) → i < length links → get_or links i entry ≡ entry
    → is_named name entry.from ≡ false → is_named name entry.to ≡ true → node_from n (drop i links) name ≡ n + 1
unfolding node_from
node-second n links i entry name within is miss second = rw (drop-cons links i entry within) (rw is (rw miss (rw second (omega arith))))

pub node-later : (n : ℕ) (links : List LinkEntry) (i : ℕ) (entry : LinkEntry) (name : List ℕ) → i < length links → get_or links i entry ≡ entry
    → is_named name entry.from ≡ false → is_named name entry.to ≡ false
    → node_from n (drop i links) name ≡ node_from (n + 2) (drop (i + 1) links) name
unfolding node_from
node-later n links i entry name within is miss other =
    let step : node_from n (drop i links) name ≡ node_from (2 + n) (drop (suc i) links) name = rw (drop-cons links i entry within) (rw is (rw miss (rw other refl))) in
    let next : suc i ≡ i + 1 = omega arith in
    let more : 2 + n ≡ n + 2 = omega arith in
    step ∙ ap (λ k. node_from (2 + n) (drop k links) name) next ∙ ap (λ k. node_from k (drop (i + 1) links) name) more

pub node-none : (n : ℕ) (links : List LinkEntry) (i : ℕ) (name : List ℕ) → length links ≤ i → node_from n (drop i links) name ≡ n
unfolding node_from
node-none n links i name past = rw (drop_all i links past) refl

pub edges-more : (links : List LinkEntry) (i : ℕ) (entry : LinkEntry) → i < length links → get_or links i entry ≡ entry
    → map (edge_over links) (take i links) ++ edge_over links entry ∷ [] ≡ map (edge_over links) (take (i + 1) links)
edges-more links i entry within is =
    let next : suc i ≡ i + 1 = omega arith in
    ap (λ e. map (edge_over links) (take i links) ++ edge_over links e ∷ []) (sym is)
    ∙ sym (map-append (edge_over links) (take i links) (get_or links i entry ∷ []))
    ∙ ap (map (edge_over links)) (sym (take-suc links i entry within))
    ∙ ap (λ k. map (edge_over links) (take k links)) next

pub edges-all : (links : List LinkEntry) (i : ℕ) → length links ≤ i → map (edge_over links) (take i links) ≡ edges_of links
unfolding edges_of
edges-all links i past = ap (map (edge_over links)) (take_all i links past)
