-- The groups of a split link are within their quotas after each entry, since none is offered more than its group has left.
use Rattle.std.proofs.Common.{◌≡◌, true, List, [], ◌∷◌, map}
use Rattle.link_steps.specs.declared.replies.Entry.{Entry}
use Rattle.link_steps.specs.HopGuarantee.{AfterEach}
use Rattle.link_steps.specs.Legal.{IsLegal}
use Rattle.link_steps.specs.Rows.{row_terms}
use Rattle.link_steps.specs.Scan.{scan_of}
use Rattle.link_steps.specs.Split.{Link, SplitFits, is_split}
use Rattle.link_steps.proofs.LegalAdmissible.{legal-has}
use Rattle.link_quota.specs.Within.{GroupsAreWithin}
use Rattle.link_quota.proofs.SomeLegalHistory.{few-held}

now-within : (link : Link) (h : List Entry) → SplitFits link → is_split link.split ≡ true → IsLegal link h → GroupsAreWithin link h
now-within link h fits splits legal = few-held link (map row_terms (scan_of link.shape h).rows) ((legal-has link h fits legal).within splits)

pub stay-within : (link : Link) (h : List Entry) → SplitFits link → is_split link.split ≡ true → IsLegal link h → AfterEach (GroupsAreWithin link) h
unfolding IsLegal
stay-within link [] fits splits legal = now-within link [] fits splits legal
stay-within link (e ∷ past) fits splits legal = (stay-within link past fits splits legal.0, now-within link (e ∷ past) fits splits legal)
