-- A design that names no tick and no unit gets the coarsest pair of those that are tried that serves it: each rate, size, buffer, bound, gap, wanted
-- delay and wanted jitter of its links, shares of links and streams loses at most one part in so many, and the ticks of its run over all links are within a scenario's
-- limit. Where none does, the coarsest that serves without a run is proposed. (The rules are this project's own.)
use Rattle.std.specs.Prelude.{ℕ, ◌≡◌, nat_le, Bool, true, false, ◌&&◌, Option, Some, None, List, ◌∷◌, ◌++◌, length}
use Rattle.std.specs.List.{list_all, list_any}
use Rattle.net_units.specs.Quotient.{ceil_quotient}
use Rattle.net_units.specs.Limits.{most_propagation}
use Rattle.field_units.specs.Serving.{Pair, pair_of, tried_pairs, fits_run, keeps_rate, keeps_size, keeps_room, keeps_bound, keeps_gap, keeps_window, keeps_delay, keeps_jitter}
use Rattle.field_units.specs.declared.quantity.Time.{Time}
use Rattle.design_text.specs.declared.design.Design.{Design}
use Rattle.design_text.specs.declared.design.DesignLink.{DesignLink}
use Rattle.design_text.specs.declared.design.DesignStream.{DesignStream}
use Rattle.design_text.specs.declared.design.DesignPour.{DesignPour}
use Rattle.design_text.specs.declared.design.DesignQuota.{DesignQuota}
use Rattle.design_scale.specs.declared.choice.Choice.{Choice}
use Rattle.design_scale.specs.declared.choice.Choice.TheVariants.{Named, Serving, Verdicts, Nothing}

-- a level's bound
abbrev pub keeps_level : ℕ → ℕ → Time → Bool
keeps_level tick parts level = keeps_bound tick parts level.picoseconds

-- a latency has its propagation; what it gains isn't counted
abbrev pub has_propagation : ℕ → Time → Bool
has_propagation tick latency = nat_le (ceil_quotient latency.picoseconds tick) most_propagation

-- the numbers of a share of a link
unfoldable pub keeps_share : ℕ → Pair → DesignQuota → Bool
keeps_share parts pair quota = keeps_room pair.unit parts quota.buffer.bits && list_all (keeps_level pair.tick parts) quota.levels.items

-- the numbers of a link, and of its shares
unfoldable pub keeps_link : ℕ → Pair → DesignLink → Bool
keeps_link parts pair link =
    keeps_rate pair.tick pair.unit parts link.rate.bits_a_second && keeps_size pair.unit parts link.largest.bits && keeps_room pair.unit parts link.buffer.bits && has_propagation pair.tick link.latency && list_all (keeps_level pair.tick parts) link.levels.items && list_all (keeps_share parts pair) link.quotas.items

-- a jitter, where one is wanted
unfoldable pub keeps_wanted : ℕ → ℕ → Option Time → Bool
keeps_wanted tick parts None = true
keeps_wanted tick parts (Some wanted) = keeps_jitter tick parts wanted.picoseconds

-- the numbers of a stream
unfoldable pub keeps_stream : ℕ → Pair → DesignStream → Bool
keeps_stream parts pair stream =
    keeps_size pair.unit parts stream.source.size.bits && keeps_gap pair.tick parts stream.source && keeps_window pair.tick parts stream.source && keeps_delay pair.tick parts stream.within.picoseconds && keeps_wanted pair.tick parts stream.jitter

-- the packets of a best-effort stream, to which nothing is promised
unfoldable pub keeps_pour : ℕ → Pair → DesignPour → Bool
keeps_pour parts pair pour = keeps_size pair.unit parts pour.size.bits

-- a pair serves a design with a run of this time
unfoldable pub serves : ℕ → Time → Design → Pair → Bool
serves parts run design pair =
    fits_run pair.tick run.picoseconds (length design.links.items) && list_all (keeps_link parts pair) design.links.items && list_all (keeps_stream parts pair) design.streams.items && list_all (keeps_pour parts pair) design.pours.items

-- a pair is the coarsest of these that serves: those before it, which are coarser, don't
pub record IsCoarsest (serve : Pair → Bool) (tried : List Pair) (pair : Pair) : Type 0 where
  pub coarser : List Pair
  pub finer : List Pair
  pub order : tried ≡ coarser ++ pair ∷ finer
  pub serves : serve pair ≡ true
  pub none : list_any serve coarser ≡ false

-- an answer is the coarsest that serves, or none does
abbrev pub IsFirst : (Pair → Bool) → List Pair → Option Pair → Type 0
IsFirst serve tried None = list_any serve tried ≡ false
IsFirst serve tried (Some pair) = IsCoarsest serve tried pair

-- no time at all
abbrev pub no_time : Time
no_time = record { picoseconds = 0 }

-- a design's own pair, or the coarsest that serves, or the coarsest that serves verdicts alone, or nothing
abbrev pub IsChoice : ℕ → Design → Choice → Type 0
IsChoice parts design (Named scale) = design.scale ≡ Some scale
IsChoice parts design (Serving scale) = (design.scale ≡ None) × IsCoarsest (serves parts design.run design) tried_pairs (pair_of scale)
IsChoice parts design (Verdicts scale) =
    (design.scale ≡ None) × (list_any (serves parts design.run design) tried_pairs ≡ false) × IsCoarsest (serves parts no_time design) tried_pairs (pair_of scale)
IsChoice parts design Nothing = (design.scale ≡ None) × (list_any (serves parts design.run design) tried_pairs ≡ false) × (list_any (serves parts no_time design) tried_pairs ≡ false)
