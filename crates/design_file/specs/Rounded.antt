-- A design has the numbers of the field, and a plan has ticks and units. Each number of a link or a stream is rounded to the safe side at the
-- design's tick and unit: a link sends no more than it can, has no more buffer and no later bounds, and its packets and its propagation are no
-- less; a stream sends what it may, and its wanted delay and jitter are no more. (The rules of rounding are those of `field_units`.)
use Rattle.std.specs.Prelude.{ℕ, ◌≡◌, Option, Some, None, List, [], ◌∷◌, ◌++◌, map}
use Rattle.std.specs.List.{AllZip}
use Rattle.net_units.specs.Quotient.{ceil_quotient}
use Rattle.field_units.specs.Rounding.{units_a_tick, bound_in, room_in, jitter_in, delay_in, traffic_of}
use Rattle.field_units.specs.declared.quantity.Time.{Time}
use Rattle.setup_protocol.specs.declared.request.Control.{Control}
use Rattle.setup_protocol.specs.declared.request.Control.TheVariants.{Rate, Jitter}
use Rattle.call_script.specs.Parts.{LeavesUnused}
use Rattle.call_script.specs.declared.entries.LinkEntry.{LinkEntry}
use Rattle.link_steps.specs.declared.quota.Quota.{Quota}
use Rattle.link_steps.specs.declared.shape.LinkShape.{LinkShape}
use Rattle.scenario_reader.specs.line.Quota.{in_eight}
use Rattle.design_text.specs.declared.design.DesignLink.{DesignLink}
use Rattle.design_text.specs.declared.design.DesignQuota.{DesignQuota}
use Rattle.design_text.specs.declared.design.DesignStream.{DesignStream}
use Rattle.design_file.specs.declared.terms.Terms.{Terms}

-- the bound of a level, and those of all levels of a link or of a share
abbrev pub bound_of : ℕ → Time → ℕ
bound_of tick level = bound_in tick level.picoseconds

abbrev pub bounds_in : ℕ → List Time → List ℕ
bounds_in tick levels = map (bound_of tick) levels

-- the numbers of a plan's link are those of a design's, rounded
pub record IsShapeOf (tick unit : ℕ) (link : DesignLink) (shape : LinkShape) : Type 0 where
  pub rate : shape.rate ≡ units_a_tick tick unit link.rate.bits_a_second
  pub cap : shape.cap ≡ ceil_quotient link.largest.bits unit
  pub prop : shape.prop ≡ ceil_quotient link.latency.picoseconds tick
  pub buffer : shape.buffer ≡ room_in unit link.buffer.bits
  pub bounds : shape.bounds ≡ bounds_in tick link.levels.items
  pub best : shape.best ≡ link.best

-- a quota of a link with these bounds is a design's share, rounded down
pub record IsQuotaOf (tick unit : ℕ) (bounds : List ℕ) (share : DesignQuota) (quota : Quota) : Type 0 where
  pub group : quota.group ≡ share.group
  pub buffer : quota.buffer ≡ room_in unit share.buffer.bits
  pub levels : quota.levels ≡ in_eight (bounds_in tick share.levels.items)
  pub unused : LeavesUnused bounds quota

-- a list of quotas with one more
pub record AddsQuota (tick unit : ℕ) (bounds : List ℕ) (share : DesignQuota) (old new : List Quota) : Type 0 where
  pub quota : Quota
  pub added : new ≡ old ++ quota ∷ []
  pub rounded : IsQuotaOf tick unit bounds share quota

-- a plan's link is a design's, rounded, and split as it is
pub record IsLinkOf (tick unit : ℕ) (link : DesignLink) (entry : LinkEntry) : Type 0 where
  pub name : entry.name ≡ link.name
  pub from : entry.from ≡ link.from
  pub to : entry.to ≡ link.to
  pub shape : IsShapeOf tick unit link entry.shape
  pub split : AllZip (IsQuotaOf tick unit entry.shape.bounds) link.quotas.items entry.quotas

-- the control of a stream: a jitter that is wanted is a bound on it
abbrev pub control_in : ℕ → Option Time → Control
control_in tick None = Rate
control_in tick (Some wanted) = Jitter (jitter_in tick wanted.picoseconds)

-- what is asked for a stream, rounded
pub record IsTermsOf (tick unit : ℕ) (stream : DesignStream) (terms : Terms) : Type 0 where
  pub contract : terms.contract ≡ traffic_of tick unit stream.source
  pub delay : terms.delay ≡ delay_in tick stream.within.picoseconds
  pub control : terms.control ≡ control_in tick stream.jitter
