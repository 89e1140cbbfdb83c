-- What has to be read before a line: the header; and before most lines a link, too.
use Rattle.std.specs.Prelude.{◌≡◌, None, []}
use Rattle.scenario_reader.specs.Drafts.{Said}

-- the header was read, and no rounds were
pub record IsBefore (said : Said) : Type 0 where
  pub headed : said.version ≡ None → ⊥
  pub unrounded : said.rounds ≡ None

-- a link was read, too
pub record HasALink (said : Said) : Type 0 where
  pub before : IsBefore said
  pub linked : said.links ≡ [] → ⊥
