-- In every run the packets of a channel leave each link of its route in the order of their numbers, from 1: the rows over the link are
-- counted, and there are as many as packets that have left it.
use Rattle.std.proofs.Common.{◌≡◌, ◌≢◌, ℕ, suc, ◌+◌, ◌≤◌, Bool, List, [], ◌∷◌, ◌++◌, length, Option, Some, refl, sym, ap, ◌∙◌, subst, inl, inr, arith, append-nil}
use Rattle.std.proofs.lemmas.Bool.{and_right}
use Rattle.std.proofs.lemmas.List.Elements.{filter-append}
use Rattle.run_engine.proofs.Words.{cases_Bool, eqb-true, eqb-false, eq-eqb, ne_eqb, same_Some, slice_get, nat_eq, filter, reverse, reverse-append, length_push, link_number, channel_number, Ask, Deny, Tick, Reply, Sent, LinkShape, Link, IsAdmissible, reply_to, tick_reply, clock_of, scan_of, NetworkFits, Network, AllOwned, HopTerms, AllOfferTerms, offers_to, Done, entry_of, part_of, IsNext, IsRun, ticked, gone_of, SendsOwn, SendsOther}
use Rattle.link_steps.specs.declared.replies.Reply.TheVariants as Is
use Rattle.channel_laws.specs.Departing.{TickSends}
use Rattle.channel_laws.proofs.DepartedCount.{gone-quiet, offered-sends}
use Rattle.channel_laws.proofs.SentInTime.{tick-answer}
use Rattle.run_record.specs.Rows.{departures_in, links_of, row_of, rows_by}
use Rattle.run_record.specs.declared.rows.HopRow.{HopRow}
use Rattle.run_record.proofs.KeptRows.{departures-more as rows-more}
use Rattle.run_engine.specs.channels.Departures.{AreCounted, is_over}
use Rattle.run_engine.specs.replies.Answers.{IsReplyOf}
use Rattle.run_engine.proofs.Flights.FlightOrigins.{entry-tick, is-tick, quiet-clock}
use Rattle.run_engine.proofs.Replies.Replying.{asks-answered}
use Rattle.run_engine.proofs.Runs.RunLegal.{part-admissible, part-on, part-off}

pub asks-tick : (ask : Ask) (clock full : ℕ) (sent : Option Sent) (best_sent best_lost : Bool) → IsReplyOf ask (Is.Ticked clock full sent best_sent best_lost) → ask ≡ Tick
asks-tick (Deny chan) clock full sent best_sent best_lost answers = cc
asks-tick Tick clock full sent best_sent best_lost answers = refl
asks-tick _ clock full sent best_sent best_lost answers = absurd answers

-- an entry's row comes last in the order of time
pub departures-more : (whole past : List Done) (done : Done) → departures_in whole (reverse (done ∷ past)) ≡ departures_in whole (reverse past) ++ rows_by whole done.link done.reply
departures-more whole past done = ap (departures_in whole) (reverse-append (done ∷ []) past) ∙ rows-more whole (reverse past) done

-- the rows of a channel over a link, and how many of its packets have left it
pub record Leaving (shape : LinkShape) (c n : ℕ) (whole run : List Done) : Type 0 where
  pub counted : AreCounted 0 (filter (is_over c n) (departures_in whole (reverse run)))
  pub count : length (filter (is_over c n) (departures_in whole (reverse run))) ≡ gone_of shape c (part_of n run)

counted-more : (n : ℕ) (rows : List HopRow) (row : HopRow) → AreCounted n rows → row.number ≡ suc (length rows + n) → AreCounted n (rows ++ row ∷ [])
counted-more n [] row are number = (omega (arith, number), tt)
counted-more n (first ∷ rows) row are number = (are.0, counted-more (suc n) rows row are.1 (omega (arith, number)))

-- an entry that tells no row of the channel over the link
leaves-none : (shape : LinkShape) (c n : ℕ) (whole past : List Done) (done : Done) → filter (is_over c n) (rows_by whole done.link done.reply) ≡ [] → gone_of shape c (part_of n (done ∷ past)) ≡ gone_of shape c (part_of n past) → Leaving shape c n whole past → Leaving shape c n whole (done ∷ past)
leaves-none shape c n whole past done none same was =
    let rows : filter (is_over c n) (departures_in whole (reverse (done ∷ past))) ≡ filter (is_over c n) (departures_in whole (reverse past)) =
    ap (filter (is_over c n)) (departures-more whole past done) ∙ filter-append (is_over c n) (departures_in whole (reverse past)) (rows_by whole done.link done.reply) ∙ ap (λ rs. filter (is_over c n) (departures_in whole (reverse past)) ++ rs) none ∙ append-nil _ in
    record { counted = subst (AreCounted 0) (sym rows) was.counted; count = ap length rows ∙ was.count ∙ sym same }

-- and one that does
leaves-one : (shape : LinkShape) (c n : ℕ) (whole past : List Done) (done : Done) (row : HopRow) → filter (is_over c n) (rows_by whole done.link done.reply) ≡ row ∷ [] → row.number ≡ suc (gone_of shape c (part_of n past)) → gone_of shape c (part_of n (done ∷ past)) ≡ suc (gone_of shape c (part_of n past)) → Leaving shape c n whole past → Leaving shape c n whole (done ∷ past)
leaves-one shape c n whole past done row one number more was =
    let rows : filter (is_over c n) (departures_in whole (reverse (done ∷ past))) ≡ filter (is_over c n) (departures_in whole (reverse past)) ++ row ∷ [] =
    ap (filter (is_over c n)) (departures-more whole past done) ∙ filter-append (is_over c n) (departures_in whole (reverse past)) (rows_by whole done.link done.reply) ∙ ap (λ rs. filter (is_over c n) (departures_in whole (reverse past)) ++ rs) one in
    let count = was.count in
    let long = length_push (filter (is_over c n) (departures_in whole (reverse past))) row in
    record {
      counted = subst (AreCounted 0) (sym rows) (counted-more 0 (filter (is_over c n) (departures_in whole (reverse past))) row was.counted (omega (arith, number, count)));
      count = ap length rows ∙ omega (arith, long, count, more);
    }

-- a row over another link
pub off-link : (c n : ℕ) (whole : List Done) (done : Done) (reply : Reply) → link_number done.link ≢ n → filter (is_over c n) (rows_by whole done.link reply) ≡ []
off-link c n whole done (Is.Ticked clock full (Some sent) best_sent best_lost) other =
    let link = ne_eqb (link_number done.link) n other in
    let off = and_right (nat_eq (channel_number sent.packet.chan) c) (nat_eq (link_number done.link) n) link in
    rw off refl
off-link c n whole done _ other = refl

-- of another channel
off-channel : (c n : ℕ) (whole : List Done) (done : Done) (reply : Reply) → ((sent : Sent) (clock full : ℕ) (best_sent best_lost : Bool) → reply ≡ Is.Ticked clock full (Some sent) best_sent best_lost → channel_number sent.packet.chan ≢ c) → filter (is_over c n) (rows_by whole done.link reply) ≡ []
off-channel c n whole done (Is.Ticked clock full (Some sent) best_sent best_lost) other =
    let chan = ne_eqb (channel_number sent.packet.chan) c (other sent clock full best_sent best_lost refl) in
    rw chan refl
off-channel c n whole done _ other = refl

-- an ask that is no tick is answered by none
pub no-tick : (c n : ℕ) (whole : List Done) (done : Done) → done.ask ≢ Tick → IsReplyOf done.ask done.reply → filter (is_over c n) (rows_by whole done.link done.reply) ≡ []
no-tick c n whole done other answers = off-channel c n whole done done.reply (λ sent clock full best_sent best_lost is. absurd (other (asks-tick done.ask clock full (Some sent) best_sent best_lost (subst (IsReplyOf done.ask) is answers))))

leaves-tick : (shape : LinkShape) (c n : ℕ) (whole past : List Done) (done : Done) → link_number done.link ≡ n → part_of n (done ∷ past) ≡ ticked shape (part_of n past) → TickSends shape c (part_of n past) done.reply → Leaving shape c n whole past → Leaving shape c n whole (done ∷ past)
leaves-tick shape c n whole past done on part (SendsOther off kept) was = leaves-none shape c n whole past done (off-channel c n whole done done.reply off) (ap (gone_of shape c) part ∙ kept) was
leaves-tick shape c n whole past done on part (SendsOwn sent clock full best_sent best_lost told chan from number more) was =
    let row : HopRow = row_of (links_of (channel_number sent.packet.chan) whole) done.link clock sent in
    let a = eq-eqb (channel_number sent.packet.chan) c chan in
    let b = eq-eqb (link_number done.link) n on in
    let one : filter (is_over c n) (rows_by whole done.link (Is.Ticked clock full (Some sent) best_sent best_lost)) ≡ row_of (links_of (channel_number sent.packet.chan) whole) done.link clock sent ∷ [] = rw (a, b) refl in
    leaves-one shape c n whole past done (row_of (links_of (channel_number sent.packet.chan) whole) done.link clock sent) (ap (λ r. filter (is_over c n) (rows_by whole done.link r)) told ∙ one) number (ap (gone_of shape c) part ∙ more) was

-- in every run whose parts offer to the channel at most once, on these terms
pub run-leaves : (network : Network) (terms : HopTerms) (c n : ℕ) (link : Link) (whole run : List Done) → NetworkFits network → AllOwned network → slice_get network.links n ≡ Some link → ((past : List Done) → IsRun network past → AllOfferTerms terms c (part_of n past) × (offers_to c (part_of n past) ≤ 1)) → IsRun network run → Leaving link.shape c n whole run
unfolding IsRun departures_in part_of scan_of
run-leaves network terms c n link whole [] fits owned linked asked is = record { counted = tt; count = refl }
run-leaves network terms c n link whole (done ∷ past) fits owned linked asked is =
    let was = run-leaves network terms c n link whole past fits owned linked asked is.0 in
    elim (cases_Bool (nat_eq (link_number done.link) n)) [
      | inr off ↦
          (let other = eqb-false (link_number done.link) n off in
          leaves-none link.shape c n whole past done (off-link c n whole done done.reply other) (ap (gone_of link.shape c) (part-off n done past other)) was)
      | inl on ↦ at-link (eqb-true (link_number done.link) n on) was
    ] where
      at-link : link_number done.link ≡ n → Leaving link.shape c n whole past → Leaving link.shape c n whole (done ∷ past)
      at-link on was =
          let next : IsNext network past done = is.1 in
          let same : next.link ≡ link = same_Some next.link link (sym next.linked ∙ ap (slice_get network.links) on ∙ linked) in
          let legal = part-admissible network past n link fits is.0 linked in
          elim (is-tick done.ask) [
            | inl tick ↦
                (let answered : done.reply ≡ tick_reply link.shape (clock_of (part_of n past)) (scan_of link.shape (part_of n past)) = next.answered ∙ ap (λ l. reply_to l (part_of (link_number done.link) past) done.ask) same ∙ ap (reply_to link (part_of (link_number done.link) past)) tick ∙ ap (λ m. reply_to link (part_of m past) Tick) on ∙ tick-answer link (part_of n past) in
                let part : part_of n (done ∷ past) ≡ ticked link.shape (part_of n past) = part-on n done past on ∙ ap (λ e. e ∷ part_of n past) (entry-tick done _ (sym tick) answered) in
                leaves-tick link.shape c n whole past done on part (offered-sends link.shape terms c (part_of n past) done.reply legal (asked past is.0).0 (asked past is.0).1 answered) was)
            | inr other ↦
                (let part = part-on n done past on in
                let still = quiet-clock done.ask (clock_of (part_of n past)) other in
                let more = part-admissible network (done ∷ past) n link fits is linked in
                let gone = gone-quiet link.shape c (entry_of done) (part_of n past) (subst (IsAdmissible link.shape) part more) still in
                leaves-none link.shape c n whole past done (no-tick c n whole done other (asks-answered network past done fits owned is.0 next)) (ap (gone_of link.shape c) part ∙ gone) was)
          ]
