use Rattle.std.proofs.Common.{◌≡◌, ◌≤◌, reverse, take}
use Rattle.setup_protocol.specs.declared.request.Request.{Request}
use Rattle.report_laws.specs.RowDelays.{first_in, row_delays_of}
use Rattle.packet_answers.specs.ChannelDelays.{IsEndOf, delays_as}
use Rattle.packet_answers.proofs.delays.delays_in.Given as goal

-- the delays are those of the rows so far, and so is the nearest row of a first hop
abbrev pub invariant-loop-row : goal.invariant-loop-row
invariant-loop-row l = record {
  few : l.delays.arrived ≤ l.row-index;
  first : l.first ≡ first_in (reverse (take l.row-index l.rows));
  delays : (request : Request) → IsEndOf request l.end → l.delays ≡ delays_as (row_delays_of request (reverse (take l.row-index l.rows)));
}
