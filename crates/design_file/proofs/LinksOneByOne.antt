-- A plan's links are made one at a time, and hops over them follow them.
use Rattle.std.proofs.Common.{◌≡◌, ℕ, ◌+◌, ◌<◌, ◌≤◌, ◌⊎◌, Some, List, [], ◌∷◌, ◌++◌, length, get_or, take, sym, ap, ◌∙◌, subst, inl, inr, arith}
use Rattle.std.proofs.lemmas.List.{length-append, take_all}
use Rattle.std.proofs.lemmas.Option.{same_Some}
use Rattle.std.specs.List.{AllZip, slice_get}
use Rattle.net_units.specs.Numbers.{link_number}
use Rattle.hop_reservation.specs.declared.route.Hop.{Hop}
use Rattle.link_steps.specs.Lists.{Each}
use Rattle.call_script.proofs.OneMoreOperation.{get-more}
use Rattle.call_script.specs.Parts.{FollowsLink}
use Rattle.call_script.specs.declared.entries.LinkEntry.{LinkEntry}
use Rattle.design_text.specs.declared.design.DesignLink.{DesignLink}
use Rattle.design_file.specs.Rounded.{IsLinkOf}
use Rattle.design_file.specs.Planned.{AddsLink, AreLinksOf, IsHopOver}
use Rattle.scenario_reader.specs.Nodes.{LinksAreNumbered}
use Rattle.design_file.proofs.ListSteps.{zipped-more}

-- one more link has the number of its place
numbered-more : (entries : List LinkEntry) (entry : LinkEntry) → LinksAreNumbered entries → link_number entry.shape.link ≡ length entries → LinksAreNumbered (entries ++ entry ∷ [])
numbered-more entries entry numbered number = record { number = λ n e found. by n e (get-more entries entry n e found) } where
  by : (n : ℕ) (e : LinkEntry) → (slice_get entries n ≡ Some e) ⊎ ((n ≡ length entries) × (entry ≡ e)) → link_number e.shape.link ≡ n
  by n e (inl old) = numbered.number n e old
  by n e (inr new) = ap (λ (x : LinkEntry). link_number x.shape.link) (sym new.1) ∙ number ∙ sym new.0

pub none-numbered : LinksAreNumbered []
none-numbered = record { number = λ n entry found. cc }

pub links-more : (tick unit : ℕ) (links : List DesignLink) (i : ℕ) (link : DesignLink) (old new : List LinkEntry) → i < length links → link ≡ get_or links i link
    → AreLinksOf tick unit (take i links) old → AddsLink tick unit link old new → AreLinksOf tick unit (take (i + 1) links) new
links-more tick unit links i link old new within is so_far one =
    subst (AreLinksOf tick unit (take (i + 1) links)) (sym one.added) (record {
      each = zipped-more (IsLinkOf tick unit) links old i link one.entry within is so_far.each one.rounded;
      numbered = numbered-more old one.entry so_far.numbered one.number;
      few = few one.few;
    }) where
      few : length old < 32 → length (old ++ one.entry ∷ []) ≤ 32
      few below = omega (arith, length-append old (one.entry ∷ []))

-- at first there is none, and at the end there are all
pub no-links : (tick unit : ℕ) (links : List DesignLink) (entries : List LinkEntry) → entries ≡ [] → AreLinksOf tick unit (take 0 links) entries
no-links tick unit links entries none = subst (AreLinksOf tick unit (take 0 links)) (sym none) (record { each = nothing links; numbered = none-numbered; few = omega arith }) where
  nothing : (links : List DesignLink) → AllZip (IsLinkOf tick unit) (take 0 links) []
  nothing [] = tt
  nothing (link ∷ links) = tt

pub all-links : (tick unit : ℕ) (links : List DesignLink) (i : ℕ) (entries : List LinkEntry) → length links ≤ i → AreLinksOf tick unit (take i links) entries → AreLinksOf tick unit links entries
all-links tick unit links i entries past are = subst (λ l. AreLinksOf tick unit l entries) (take_all i links past) are

-- a link of these has the number of its place
pub number-at : (links : List LinkEntry) (n : ℕ) (entry : LinkEntry) → LinksAreNumbered links → slice_get links n ≡ Some entry → slice_get links (link_number entry.shape.link) ≡ Some entry
number-at links n entry numbered found = ap (slice_get links) (numbered.number n entry found) ∙ found

-- a hop over a link has its bounds and its propagation
hop-follows : (links : List LinkEntry) (name : List ℕ) (hop : Hop) → IsHopOver links name hop → FollowsLink links hop
hop-follows links name hop over = record {
  bounds = λ entry found. over.bounds ∙ ap (λ (e : LinkEntry). e.shape.bounds) (same_Some over.entry entry (sym over.found ∙ found));
  prop = λ entry found. over.prop ∙ ap (λ (e : LinkEntry). e.shape.prop) (same_Some over.entry entry (sym over.found ∙ found));
}

pub route-follows : (links : List LinkEntry) (names : List (List ℕ)) (route : List Hop) → AllZip (IsHopOver links) names route → Each (FollowsLink links) route
route-follows links [] [] over = tt
route-follows links [] (hop ∷ route) over = absurd over
route-follows links (name ∷ names) [] over = tt
route-follows links (name ∷ names) (hop ∷ route) over = (hop-follows links name hop over.0, route-follows links names route over.1)
