-- The queues of the packets that are ready: those of the levels from 1 to 8, and the ninth.
use Rattle.std.specs.Prelude.{ℕ, List, [], ◌∷◌, ◌++◌}
use Rattle.link_server.specs.declared.queue.ready.Ready.{Ready}

abbrev pub queues_of : Ready → List (List ℕ)
queues_of ready = ready.levels.queues ++ ready.ninth.items ∷ []
