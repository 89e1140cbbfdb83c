-- What a tick of the near hop's link does to the queue of a channel's flights to the far hop.
use Rattle.std.proofs.Common.{◌≡◌, ◌≢◌, ℕ, suc, ◌+◌, Bool, true, false, ◌&&◌, List, [], ◌∷◌, ◌++◌, Some, refl, sym, ap, ◌∙◌, subst, arith}
use Rattle.run_engine.proofs.Words.{eq-eqb, ne_eqb, and_from, nat_eq, link_number, channel_number, LinkNo, Entry, Reply, Sent, LinkShape, IsAdmissible, tick_reply, Row, clock_of, scan_of, Arrival, leaves_at, Among, HopTerms, is_of_channel, channel_packets, RowTells, Flight, flight_to, flight_in, ticked, IsSent, gone_of, TickSends, SendsOwn, SendsOther}
use Rattle.link_steps.proofs.SearchAndFilter.{Each-among}
use Rattle.tick_plane.proofs.PlaneFlights.{flight-in}
use Rattle.interleave_core.proofs.Flights.FlightQueue.{IsQueue, queue-waits, queue-others, queue-more}
use Rattle.link_steps.proofs.PacketRows.{Among-passes}
use Rattle.channel_laws.proofs.DepartedCount.{tick-sends, start-among, more-legal, level-channel}
use Rattle.channel_laws.proofs.NumberedPackets.{HasNumber, packets-have_numbers}

-- the flights of a channel to the link of a number
abbrev pub leg : ℕ → ℕ → Flight → Bool
leg c to f = nat_eq (channel_number f.packet.chan) c && nat_eq (link_number f.to) to

-- the flights of channel c to link `to`, n of whose packets were taken there, after history h of the near link
abbrev pub QueueOf : LinkShape → ℕ → ℕ → ℕ → List Entry → List Flight → Type 0
QueueOf shape c to n h flights = IsQueue (leg c to) n (gone_of shape c h) 0 (clock_of h + shape.prop) flights

-- the channel's packets are those of a row that sends to the link
pub record SendsTo (shape : LinkShape) (c to : ℕ) (h : List Entry) : Type 0 where
  pub terms : HopTerms
  pub row : Row
  pub tells : RowTells terms c row (channel_packets c (scan_of shape h).packets)
  pub link : LinkNo
  pub number : link_number link ≡ to
  pub next : terms.next ≡ Some link

other-leg : (c to : ℕ) (f : Flight) → channel_number f.packet.chan ≢ c → leg c to f ≡ false
other-leg c to f off = rw (ne_eqb (channel_number f.packet.chan) c off) refl

-- where a start of the tick is of the channel, its packet goes to the link
sent-next : (shape : LinkShape) (c to : ℕ) (h : List Entry) (sent : Sent) → IsAdmissible shape h → (is : IsSent shape h sent) → channel_number sent.packet.chan ≡ c → (sends : SendsTo shape c to (ticked shape h)) → sent.next ≡ Some sends.link
unfolding clock_of
sent-next shape c to h sent legal is chan sends =
    let there : Among is.start.packet (scan_of shape (ticked shape h)).packets = start-among shape.rate (scan_of shape (ticked shape h)).packets (suc (clock_of h)) is.start is.among in
    let same : channel_number sent.packet.chan ≡ channel_number is.start.packet.chan = ap (λ s. channel_number s.packet.chan) is.is in
    let numbers = Each-among (HasNumber shape.bounds) is.start.packet _ (packets-have_numbers shape (ticked shape h) (more-legal shape h legal)) there in
    let own = Among-passes (is_of_channel c) is.start.packet (scan_of shape (ticked shape h)).packets (level-channel shape c is.start.packet numbers is.level (sym same ∙ chan)) there in
    ap (λ s. s.next) is.is ∙ Each-among (λ p. p.next ≡ sends.terms.next) is.start.packet _ sends.tells.nexts own ∙ sends.next

-- a tick of the near link
pub queue-ticks : (shape : LinkShape) (c to n : ℕ) (h : List Entry) (reply : Reply) (flights : List Flight) → IsAdmissible shape h → reply ≡ tick_reply shape (clock_of h) (scan_of shape h)
    → ((p : Arrival) → Among p (scan_of shape (ticked shape h)).packets → is_of_channel c p ≡ true → SendsTo shape c to (ticked shape h))
    → QueueOf shape c to n h flights → QueueOf shape c to n (ticked shape h) (flights ++ flight_in reply)
unfolding clock_of
queue-ticks shape c to n h reply flights legal same known is = by-sends (tick-sends shape c h reply legal same (λ p among chan. (let sends = known p among chan in (sends.terms, sends.row, sends.tells)))) where
  by-sends : TickSends shape c h reply → QueueOf shape c to n (ticked shape h) (flights ++ flight_in reply)
  by-sends (SendsOther off kept) =
      subst (λ dep. IsQueue (leg c to) n dep 0 (suc (clock_of h) + shape.prop) (flights ++ flight_in reply)) (sym kept)
      (queue-others (leg c to) n (gone_of shape c h) 0 (suc (clock_of h) + shape.prop) flights (flight_in reply)
      (flight-in (λ f. leg c to f ≡ false) reply (λ clock full sent best_sent best_lost l told next. other-leg c to (record { to = l; round = sent.arrives; packet = sent.packet }) (off sent clock full best_sent best_lost (sym told))))
      (queue-waits (leg c to) n (gone_of shape c h) 0 (clock_of h + shape.prop) (suc (clock_of h) + shape.prop) flights (omega arith) is))
  by-sends (SendsOwn sent clock full best_sent best_lost told chan from number more) =
      let there : Among from.start.packet (scan_of shape (ticked shape h)).packets = start-among shape.rate (scan_of shape (ticked shape h)).packets (suc (clock_of h)) from.start from.among in
      let numbers = Each-among (HasNumber shape.bounds) from.start.packet _ (packets-have_numbers shape (ticked shape h) (more-legal shape h legal)) there in
      let sends = known from.start.packet there (level-channel shape c from.start.packet numbers from.level (sym (ap (λ s. channel_number s.packet.chan) from.is) ∙ chan)) in
      let next = sent-next shape c to h sent legal from chan sends in
      let flight : Flight = record { to = sends.link; round = sent.arrives; packet = sent.packet } in
      let new : flight_in reply ≡ record { to = sends.link; round = sent.arrives; packet = sent.packet } ∷ [] = ap flight_in told ∙ ap (flight_to sent) next in
      let arrives : sent.arrives ≡ leaves_at shape.rate from.start + shape.prop = ap (λ s. s.arrives) from.is in
      let leaves = from.leaves in
      let round : sent.arrives ≡ suc (clock_of h) + shape.prop = omega (arith, arrives, leaves) in
      let mine : leg c to (record { to = sends.link; round = sent.arrives; packet = sent.packet }) ≡ true = and_from (nat_eq (channel_number sent.packet.chan) c) (nat_eq (link_number sends.link) to) (eq-eqb (channel_number sent.packet.chan) c chan) (eq-eqb (link_number sends.link) to sends.number) in
      subst (λ fs. IsQueue (leg c to) n (gone_of shape c (ticked shape h)) 0 (suc (clock_of h) + shape.prop) (flights ++ fs)) (sym new)
      (subst (λ dep. IsQueue (leg c to) n dep 0 (suc (clock_of h) + shape.prop) (flights ++ record { to = sends.link; round = sent.arrives; packet = sent.packet } ∷ [])) (sym more)
      (subst (λ hi. IsQueue (leg c to) n (suc (gone_of shape c h)) 0 hi (flights ++ record { to = sends.link; round = sent.arrives; packet = sent.packet } ∷ [])) round
      (queue-more (leg c to) n (gone_of shape c h) 0 (clock_of h + shape.prop) flights (record { to = sends.link; round = sent.arrives; packet = sent.packet }) mine number (omega (arith, round)) is)))
