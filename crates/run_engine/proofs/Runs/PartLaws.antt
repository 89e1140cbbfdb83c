-- What holds of the part of a run on each link, after every entry: the held rows pass, and it has the hop guarantee.
use Rattle.std.proofs.Common.{◌≡◌, ℕ, List, [], ◌∷◌, Some}
use Rattle.run_engine.proofs.Words.{slice_get, Link, NetworkFits, Network, IsRun, part_of, Done}
use Rattle.link_steps.proofs.AdmissionHolds.{held_rows-pass, last-pass}
use Rattle.link_steps.proofs.HopHolds.{hop-guarantee}
use Rattle.run_engine.specs.runs.Laws.{HeldRowsPassOn, HeldRowsPassOnEveryLink, EveryHopIsGuaranteed, ClocksFollowThePlane}
use Rattle.run_engine.proofs.Runs.RunLegal.{part-admissible, run-stands}

rows-pass : (network : Network) (run : List Done) (n : ℕ) (link : Link) → NetworkFits network → IsRun network run → slice_get network.links n ≡ Some link → HeldRowsPassOn link n run
rows-pass network run n link fits is found = last-pass link.shape (part_of n run) (held_rows-pass link.shape (part_of n run) (part-admissible network run n link fits is found))

pub rows-pass-everywhere : HeldRowsPassOnEveryLink
unfolding IsRun
rows-pass-everywhere network [] n link fits is found = rows-pass network [] n link fits is found
rows-pass-everywhere network (done ∷ past) n link fits is found = (rows-pass-everywhere network past n link fits is.0 found, rows-pass network (done ∷ past) n link fits is found)

pub hops-guaranteed : EveryHopIsGuaranteed
hops-guaranteed network run n link fits is found = hop-guarantee link.shape (part_of n run) (part-admissible network run n link fits is found)

pub clocks-follow : ClocksFollowThePlane
clocks-follow network run n fits is inside = (run-stands network run fits is).clocks n inside
