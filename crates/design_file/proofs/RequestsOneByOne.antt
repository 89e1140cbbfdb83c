-- A plan's requests are made one at a time.
use Rattle.std.proofs.Common.{◌≡◌, ℕ, ◌+◌, ◌<◌, ◌≤◌, ◌⊎◌, Some, List, [], ◌∷◌, ◌++◌, length, get_or, take, sym, ap, ◌∙◌, subst, inl, inr}
use Rattle.std.proofs.lemmas.List.{take_all}
use Rattle.std.specs.List.{AllZip, slice_get}
use Rattle.net_units.specs.Numbers.{channel_number}
use Rattle.link_steps.specs.Lists.{Each}
use Rattle.call_script.proofs.OneMoreOperation.{get-more}
use Rattle.call_script.specs.Parts.{FollowsLink}
use Rattle.call_script.specs.declared.entries.LinkEntry.{LinkEntry}
use Rattle.call_script.specs.declared.entries.RequestEntry.{RequestEntry}
use Rattle.design_text.specs.declared.design.DesignStream.{DesignStream}
use Rattle.design_file.specs.Planned.{AreInOrder, AreRequestsOf, AddsRequest, IsRequestOf}
use Rattle.design_file.proofs.ListSteps.{zipped-more}

order-more : (entries : List RequestEntry) (entry : RequestEntry) → AreInOrder entries → channel_number entry.request.chan ≡ length entries → AreInOrder (entries ++ entry ∷ [])
unfolding AreInOrder
order-more entries entry numbered number n e found = by (get-more entries entry n e found) where
  by : (slice_get entries n ≡ Some e) ⊎ ((n ≡ length entries) × (entry ≡ e)) → channel_number e.request.chan ≡ n
  by (inl old) = numbered n e old
  by (inr new) = ap (λ (x : RequestEntry). channel_number x.request.chan) (sym new.1) ∙ number ∙ sym new.0

pub requests-more : (tick unit : ℕ) (links : List LinkEntry) (streams : List DesignStream) (i : ℕ) (stream : DesignStream) (old new : List RequestEntry) → i < length streams → stream ≡ get_or streams i stream
    → AreRequestsOf tick unit links (take i streams) old → AddsRequest tick unit links stream old new → AreRequestsOf tick unit links (take (i + 1) streams) new
requests-more tick unit links streams i stream old new within is so_far one =
    subst (AreRequestsOf tick unit links (take (i + 1) streams)) (sym one.added) (record {
      each = zipped-more (IsRequestOf tick unit links) streams old i stream one.entry within is so_far.each one.rounded;
      numbered = order-more old one.entry so_far.numbered one.number;
    })

pub none-in-order : AreInOrder []
unfolding AreInOrder
none-in-order n entry found = cc

-- at first there is none, and at the end there are all
pub no-requests : (tick unit : ℕ) (links : List LinkEntry) (streams : List DesignStream) (entries : List RequestEntry) → entries ≡ [] → AreRequestsOf tick unit links (take 0 streams) entries
no-requests tick unit links streams entries none = subst (AreRequestsOf tick unit links (take 0 streams)) (sym none) (record { each = nothing streams; numbered = none-in-order }) where
  nothing : (streams : List DesignStream) → AllZip (IsRequestOf tick unit links) (take 0 streams) []
  nothing [] = tt
  nothing (stream ∷ streams) = tt

pub all-requests : (tick unit : ℕ) (links : List LinkEntry) (streams : List DesignStream) (i : ℕ) (entries : List RequestEntry) → length streams ≤ i → AreRequestsOf tick unit links (take i streams) entries → AreRequestsOf tick unit links streams entries
all-requests tick unit links streams i entries past are = subst (λ l. AreRequestsOf tick unit links l entries) (take_all i streams past) are

-- each hop follows its link
pub routes-follow : (tick unit : ℕ) (links : List LinkEntry) (streams : List DesignStream) (entries : List RequestEntry) → AllZip (IsRequestOf tick unit links) streams entries → Each (λ (entry : RequestEntry). Each (FollowsLink links) entry.request.route) entries
routes-follow tick unit links [] [] each = tt
routes-follow tick unit links [] (entry ∷ entries) each = absurd each
routes-follow tick unit links (stream ∷ streams) [] each = tt
routes-follow tick unit links (stream ∷ streams) (entry ∷ entries) each = (each.0.way.follows, routes-follow tick unit links streams entries each.1)
