-- A stream is refused at a scale where its packets are too many or none, where they are too large or empty, or where what the jitter
-- leaves of the gap between them is shorter than a tick. Else it has the contract that its rounding gives.
use Rattle.std.specs.Prelude.{ℕ, ◌≡◌, Result, Ok, Err}
use Rattle.net_units.specs.Limits.{most_burst, most_gap, most_size}
use Rattle.net_units.specs.Quotient.{ceil_quotient}
use Rattle.traffic_contract.specs.Contract.{Traffic}
use Rattle.field_units.specs.declared.stream.Stream.{Stream}
use Rattle.field_units.specs.declared.stream.BadStream.{BadStream}
use Rattle.field_units.specs.declared.stream.BadStream.TheVariants.{Packets, Size, Gap}
use Rattle.field_units.specs.Rounding.{gap_in, traffic_of}
use Rattle.field_units.specs.Scales.{IsFrom, Scales}

-- the numbers of a stream that decide whether it has a contract, in the order in which they are judged
abbrev pub HasPackets : Stream → Type 0
HasPackets stream = IsFrom 1 most_burst stream.packets

abbrev pub HasSize : ℕ → Stream → Type 0
HasSize unit stream = IsFrom 1 most_size (ceil_quotient stream.size.bits unit)

abbrev pub HasGap : ℕ → Stream → Type 0
HasGap tick stream = IsFrom 1 most_gap (gap_in tick stream)

-- an answer is the stream's contract where it has one, and else the first number that fails, with what would do
abbrev pub Contracts : Result Traffic BadStream → ℕ → ℕ → Stream → Type 0
Contracts (Ok contract) tick unit stream = HasPackets stream × HasSize unit stream × HasGap tick stream × (contract ≡ traffic_of tick unit stream)
Contracts (Err Packets) tick unit stream = ¬ HasPackets stream
Contracts (Err (Size misfit)) tick unit stream = HasPackets stream × Scales (Err misfit) (λ t u. ceil_quotient stream.size.bits u) 1 most_size tick unit
Contracts (Err (Gap misfit)) tick unit stream = HasPackets stream × HasSize unit stream × Scales (Err misfit) (λ t u. gap_in t stream) 1 most_gap tick unit
