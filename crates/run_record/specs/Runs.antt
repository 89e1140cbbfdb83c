-- A run lists what was done, newest first. Its part on a link is the history of that link. What an actor has got are the
-- replies to its own asks. Links and actors are named by their numbers.
use Rattle.std.specs.Prelude.{ℕ, Bool, nat_eq, if◌then◌else◌, List, [], ◌∷◌}
use Rattle.net_units.specs.Numbers.{link_number, actor_number}
use Rattle.link_steps.specs.declared.replies.Entry.{Entry}
use Rattle.link_steps.specs.declared.replies.Reply.{Reply}
use Rattle.run_record.specs.declared.done.Done.{Done}

-- whether the actor of this number made the step
abbrev pub is_by : ℕ → Done → Bool
is_by actor done = nat_eq (actor_number done.actor) actor

-- whether the link of this number was asked
abbrev pub is_on : ℕ → Done → Bool
is_on link done = nat_eq (link_number done.link) link

-- the entry of the link's history
abbrev pub entry_of : Done → Entry
entry_of done = record { ask = done.ask; reply = done.reply }

-- the replies that the actor of this number has got, newest first
unfoldable pub replies_to : ℕ → List Done → List Reply
replies_to actor [] = []
replies_to actor (done ∷ past) = if is_by actor done then done.reply ∷ replies_to actor past else replies_to actor past

-- the history of the link of this number, newest first
unfoldable pub part_of : ℕ → List Done → List Entry
part_of link [] = []
part_of link (done ∷ past) = if is_on link done then entry_of done ∷ part_of link past else part_of link past
