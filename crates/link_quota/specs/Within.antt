-- The groups of a split link stay within their quotas. After every entry of every legal history, the load of a group's rows at the
-- levels up to any one is within the group's quota of that level, and what they keep of the buffer within its quota of the
-- buffer. It doesn't matter what the other groups hold. A group without a quota holds nothing.
use Rattle.std.specs.Prelude.{◌≡◌, true, List, map}
use Rattle.link_steps.specs.declared.replies.Entry.{Entry}
use Rattle.link_steps.specs.HopGuarantee.{AfterEach}
use Rattle.link_steps.specs.Legal.{IsLegal}
use Rattle.link_steps.specs.Rows.{row_terms}
use Rattle.link_steps.specs.Scan.{scan_of}
use Rattle.link_steps.specs.Split.{Link, SplitFits, is_split}
use Rattle.link_quota.specs.Places.{AreFew}

-- what the groups hold after a history is within their quotas
abbrev pub GroupsAreWithin : Link → List Entry → Type 0
GroupsAreWithin link h = AreFew link (map row_terms (scan_of link.shape h).rows)

-- and so after each entry of every legal history of every split link
abbrev pub GroupsStayWithin : Type 0
GroupsStayWithin = (link : Link) (h : List Entry) → SplitFits link → is_split link.split ≡ true → IsLegal link h → AfterEach (GroupsAreWithin link) h
