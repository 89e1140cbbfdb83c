-- What a link at a desk is: its rules, the histories that it stands for, and the replies that it has given and that aren't handed
-- on yet.
use Rattle.std.specs.Prelude.{List, drop}
use Rattle.link_steps.specs.Split.{Link}
use Rattle.link_steps.specs.declared.replies.Entry.{Entry}
use Rattle.link_steps.specs.declared.replies.Reply.{Reply}
use Rattle.plane_workers.specs.declared.desk.Desk.{Desk}

abbrev pub rules_at : {L : Type 0} → (L → Link) → Desk L → Link
rules_at rules desk = rules desk.link

abbrev pub stands_at : {L : Type 0} → (L → List Entry → Type 0) → Desk L → List Entry → Type 0
stands_at stands desk = stands desk.link

abbrev pub left_at : {L : Type 0} → Desk L → List Reply
left_at desk = drop desk.told desk.replies.items
