-- What a source has offered: the report reckons it from the submits and releases that its link has answered, and the link keeps it in
-- the plan of the channel's row. Both are the same, whether the row is held or gone.
use Rattle.std.specs.Prelude.{◌≡◌, ℕ, ◌≤◌, List}
use Rattle.link_steps.specs.declared.replies.Entry.{Entry}
use Rattle.link_steps.specs.declared.shape.LinkShape.{LinkShape}
use Rattle.link_steps.specs.Admissible.{IsAdmissible}
use Rattle.link_steps.specs.Lists.{Each}
use Rattle.link_steps.specs.Rows.{Row, offered_by}
use Rattle.link_steps.specs.Scan.{Scan, clock_of, scan_of}
use Rattle.channel_laws.specs.Channels.{HopTerms, AllOfferTerms, channel_of, offers_to}
use Rattle.channel_report.specs.Sources.{offered_in}

-- a row of the channel has offered its packets at these ticks
abbrev pub HasOffered : ℕ → ℕ → List ℕ → Row → Type 0
HasOffered c clock offered row = channel_of row ≡ c → offered_by clock row ≡ offered

-- and so has each row of the channel, held or gone
pub record HaveOffered (c clock : ℕ) (offered : List ℕ) (scan : Scan) : Type 0 where
  pub held : Each (HasOffered c clock offered) scan.rows
  pub gone : Each (HasOffered c clock offered) scan.gone

-- in each admissible history of a link that offers to the channel at most once
abbrev pub ReportsShowWhatSourcesOffer : Type 0
ReportsShowWhatSourcesOffer = (shape : LinkShape) (terms : HopTerms) (c : ℕ) (h : List Entry) → IsAdmissible shape h → AllOfferTerms terms c h → offers_to c h ≤ 1
    → HaveOffered c (clock_of h) (offered_in c h) (scan_of shape h)
