-- The delays of every accepted channel, over every run.
use Rattle.std.proofs.Common.{◌≡◌, ℕ, List, Some, arith}
use Rattle.run_engine.proofs.Words.{length-map, slice_get, RequestFits, Accepts, Request, Done, tick_of_packet, NetworkFits, Task, Network, replies_to, IsRun, standing, outcome_in, OwnedFully, packets_at, PathKept}
use Rattle.interleave_core.proofs.Delays.PathLaw.{path-law}
use Rattle.interleave_core.proofs.Delays.PathDelays.{path-exact, passed}
use Rattle.run_engine.proofs.Replies.RunCloses.{fully-asked, owned-once}
use Rattle.run_engine.proofs.Replies.RunGoes.{accepted-levels}

pub accepted-path : (network : Network) (request : Request) (owner : ℕ) (run : List Done) (tasks : List Task) (levels : List ℕ) (delay : ℕ) → NetworkFits network → RequestFits network.links request → OwnedFully network request owner → IsRun network run → slice_get network.scripts owner ≡ Some tasks
    → outcome_in request.chan (standing tasks (replies_to owner run)).outcomes ≡ Some (Accepts levels delay) → PathKept network request levels run
accepted-path network request owner run tasks levels delay fits sound full is found accepted =
    let once = owned-once network request owner full in
    let asked = fully-asked network request owner fits sound full in
    let have = (accepted-levels network request owner run tasks levels delay fits sound once is found accepted).0 in
    record {
      in_time = λ first i at. path-law network request levels run fits sound asked is have first i at;
      exact = λ jitter first i at k within.
          (let all = length-map (packets_at network request i at run) tick_of_packet in
          path-exact network request levels run fits sound asked is have jitter first i at k (omega (arith, within, all)));
      passed_on = λ first i at start among by chan. passed network request levels run fits sound asked is have first i at start among by chan;
    }
