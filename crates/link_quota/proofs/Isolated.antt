-- In every legal history of a split link in which a group loses no packet, the group's rows and the replies to its asks are
-- those that its asks and the ticks alone make. So two histories with the same of these tell the group the same.
use Rattle.std.proofs.Common.{◌≡◌, ℕ, suc, ◌⊎◌, inl, inr, Bool, true, false, List, [], ◌∷◌, map, length, Option, Some, None, refl, sym, ap, ◌∙◌, subst}
use Rattle.std.proofs.lemmas.Bool.{cases_Bool}
use Rattle.std.specs.Prelude.{filter, find}
use Rattle.std.specs.Option.{option_map}
use Rattle.net_units.specs.declared.numbers.ChanNo.{ChanNo}
use Rattle.link_steps.specs.declared.asks.Ask.{Ask}
use Rattle.link_steps.specs.declared.asks.Ask.TheVariants.{Reserve, Relax, Deny, Submit, Release, Arrive, Tick}
use Rattle.link_steps.specs.declared.asks.Packet.{Packet}
use Rattle.link_steps.specs.declared.replies.Entry.{Entry}
use Rattle.link_steps.specs.declared.replies.Refusal.TheVariants.{Full}
use Rattle.link_steps.specs.declared.replies.Reply.{Reply}
use Rattle.link_steps.specs.declared.replies.Reply.TheVariants as Is
use Rattle.link_steps.specs.Hold.{stays}
use Rattle.link_steps.specs.Legal.{IsLegal, IsLegalAfter}
use Rattle.link_steps.specs.Lists.{change_first}
use Rattle.link_steps.specs.Replies.{relax_reply, deny_reply, submit_to, release_to, reply_at, reply_to}
use Rattle.link_steps.specs.Reservation.{tentative}
use Rattle.link_steps.specs.Rows.{Row, new_row}
use Rattle.link_steps.specs.Scan.{Scan, clock_of, clock_with, is_row_of, is_row_at_hop, names_first_hop, relax_row, plan_row, close_row, arrived_row, with_arrival, after, scan_of}
use Rattle.link_steps.specs.Split.{Link, is_split, is_in}
use Rattle.link_quota.specs.Isolation.{GroupsAreIsolated, is_of_group, concerns, asks_of, told_to, LosesNone, LosesNothing}
use Rattle.link_quota.proofs.Alone.{ticks_in, own_after, own_ticked, own_arriving, own_arrived, own_arrive, own_reply, alone_rows, and_told, alone_told}
use Rattle.link_quota.proofs.AloneSteps.{own-changed, others-changed, own-taken, others-taken, own-new, others-new, own-tick, own-terms, own-reserve, own-submit, own-release, own-arrives}
use Rattle.link_quota.proofs.OwnRows.{own_row, own_rows, row-in, hop-of, own-found}

-- ---- an ask of the group

own-arrival : (link : Link) (group t : ℕ) (packet : Packet) (scan : Scan) (found : Option Row) → is_in link.split group packet.chan ≡ true → own_rows link group (with_arrival t packet scan found).rows ≡ own_arriving t packet (own_rows link group scan.rows) (option_map own_row found)
unfolding with_arrival
own-arrival link group t packet scan None is = refl
own-arrival link group t packet scan (Some row) is =
    own-changed link group (is_row_of packet.chan) (arrived_row t (suc (length scan.packets)) packet) (own_arrived t packet) (λ row. refl) (row-in link group packet.chan true is) (λ row. refl) (λ row. refl) scan.rows

own-hop : (link : Link) (group : ℕ) (chan : ChanNo) (first : Bool) (change : Row → Row) → is_in link.split group chan ≡ true → ((row : Row) → (change row).terms.chan ≡ row.terms.chan) → ((row : Row) → change (own_row row) ≡ own_row (change row)) → (rows : List Row) → own_rows link group (change_first (is_row_at_hop chan first) change rows) ≡ change_first (is_row_at_hop chan first) change (own_rows link group rows)
own-hop link group chan first change is keeps alike rows =
    own-changed link group (is_row_at_hop chan first) change change (λ row. refl) (λ row at. row-in link group chan true is row (hop-of chan first row at)) keeps alike rows

-- the rows after it
own-rows : (link : Link) (group t : ℕ) (scan : Scan) (ask : Ask) (reply : Reply) → is_of_group link group ask ≡ true → own_rows link group (after link.shape t scan ask reply).rows ≡ own_after link.shape t (own_rows link group scan.rows) ask reply
unfolding after own_after
own-rows link group t scan (Reserve chan contract kind delay up_reach first next) (Is.Offer level reach) is = own-new link group scan.rows (new_row (tentative chan contract kind first next up_reach level reach)) is
own-rows link group t scan (Relax chan level up_bound) (Is.Relaxed clock) is =
    own-changed link group (is_row_of chan) (relax_row level up_bound) (relax_row level up_bound) (λ row. refl) (row-in link group chan true is) (λ row. refl) (λ row. refl) scan.rows
own-rows link group t scan (Deny chan) Is.Denied is = own-taken link group chan is scan.rows
own-rows link group t scan (Submit chan count gap size) (Is.Planned clock) is = own-hop link group chan true (plan_row t count gap size) is (λ row. refl) (λ row. refl) scan.rows
own-rows link group t scan (Release chan upstream) (Is.Closing count cancelled) is = own-hop link group chan (names_first_hop upstream) (close_row t count) is (λ row. refl) (λ row. refl) scan.rows
own-rows link group t scan (Arrive packet) (Is.Taken clock eligible) is =
    own-arrival link group t packet scan (find (is_row_of packet.chan) scan.rows) is
    ∙ ap (own_arriving t packet (own_rows link group scan.rows)) (sym (own-found link group (is_row_of packet.chan) (λ row. refl) (row-in link group packet.chan true is) scan.rows))
own-rows link group t scan Tick reply is = cc
own-rows link group t scan _ (Is.Planned clock) is = refl
own-rows link group t scan _ _ is = refl

-- its reply
found-hop : (link : Link) (group : ℕ) (chan : ChanNo) (first : Bool) → is_in link.split group chan ≡ true → (rows : List Row) → find (is_row_at_hop chan first) (own_rows link group rows) ≡ option_map own_row (find (is_row_at_hop chan first) rows)
found-hop link group chan first is rows = own-found link group (is_row_at_hop chan first) (λ row. refl) (λ row at. row-in link group chan true is row (hop-of chan first row at)) rows

own-reply : (link : Link) (group t : ℕ) (scan : Scan) (ask : Ask) (reply : Reply) → is_split link.split ≡ true → is_of_group link group ask ≡ true → ((held slots : ℕ) → reply ≡ Is.Refused (Full held slots) → ⊥) → reply ≡ reply_at link t scan ask → reply ≡ own_reply link t (own_rows link group scan.rows) ask
unfolding reply_at own_reply
own-reply link group t scan (Reserve chan contract kind delay up_reach first next) reply splits is other same = same ∙ own-reserve link group chan contract delay up_reach scan.rows splits is
own-reply link group t scan (Relax chan level up_bound) reply splits is other same = same ∙ ap (relax_reply t level up_bound) (own-terms link group chan is scan.rows)
own-reply link group t scan (Deny chan) reply splits is other same = same ∙ ap deny_reply (own-terms link group chan is scan.rows)
own-reply link group t scan (Submit chan count gap size) reply splits is other same =
    same ∙ sym (own-submit t size (find (is_row_at_hop chan true) scan.rows)) ∙ ap (submit_to t size) (sym (found-hop link group chan true is scan.rows))
own-reply link group t scan (Release chan upstream) reply splits is other same =
    same ∙ sym (own-release t upstream (find (is_row_at_hop chan (names_first_hop upstream)) scan.rows)) ∙ ap (release_to t upstream) (sym (found-hop link group chan (names_first_hop upstream) is scan.rows))
own-reply link group t scan (Arrive packet) reply splits is other same =
    own-arrives link.shape t scan.packets packet (find (is_row_of packet.chan) scan.rows) reply other same
    ∙ ap (own_arrive t packet) (sym (own-found link group (is_row_of packet.chan) (λ row. refl) (row-in link group packet.chan true is) scan.rows))
own-reply link group t scan _ reply splits is other same = cc

-- ---- an ask that doesn't concern the group

others-arrival : (link : Link) (group t : ℕ) (packet : Packet) (scan : Scan) (found : Option Row) → is_in link.split group packet.chan ≡ false → own_rows link group (with_arrival t packet scan found).rows ≡ own_rows link group scan.rows
unfolding with_arrival
others-arrival link group t packet scan None is = refl
others-arrival link group t packet scan (Some row) is =
    others-changed link group (is_row_of packet.chan) (arrived_row t (suc (length scan.packets)) packet) (row-in link group packet.chan false is) (λ row. refl) scan.rows

others-rows : (link : Link) (group t : ℕ) (scan : Scan) (ask : Ask) (reply : Reply) → concerns link group ask ≡ false → own_rows link group (after link.shape t scan ask reply).rows ≡ own_rows link group scan.rows
unfolding after
others-rows link group t scan (Reserve chan contract kind delay up_reach first next) (Is.Offer level reach) is = others-new link group scan.rows (new_row (tentative chan contract kind first next up_reach level reach)) is
others-rows link group t scan (Relax chan level up_bound) (Is.Relaxed clock) is = others-changed link group (is_row_of chan) (relax_row level up_bound) (row-in link group chan false is) (λ row. refl) scan.rows
others-rows link group t scan (Deny chan) Is.Denied is = others-taken link group chan is scan.rows
others-rows link group t scan (Submit chan count gap size) (Is.Planned clock) is =
    others-changed link group (is_row_at_hop chan true) (plan_row t count gap size) (λ row at. row-in link group chan false is row (hop-of chan true row at)) (λ row. refl) scan.rows
others-rows link group t scan (Release chan upstream) (Is.Closing count cancelled) is =
    others-changed link group (is_row_at_hop chan (names_first_hop upstream)) (close_row t count) (λ row at. row-in link group chan false is row (hop-of chan (names_first_hop upstream) row at)) (λ row. refl) scan.rows
others-rows link group t scan (Arrive packet) (Is.Taken clock eligible) is = others-arrival link group t packet scan (find (is_row_of packet.chan) scan.rows) is
others-rows link group t scan Tick reply is = cc
others-rows link group t scan _ (Is.Planned clock) is = refl
others-rows link group t scan _ _ is = refl

-- ---- a history

-- what is said of it, with these asks
record IsAlone (link : Link) (group : ℕ) (h : List Entry) (asks : List Ask) : Type 0 where
  clock : clock_of h ≡ ticks_in asks
  rows : own_rows link group (scan_of link.shape h).rows ≡ alone_rows link asks
  told : told_to link group h ≡ alone_told link asks

-- an ask of the group concerns it, is told and is no tick
record IsHeard (link : Link) (group : ℕ) (ask : Ask) (t : ℕ) (reply : Reply) (told : List Entry) : Type 0 where
  heard : concerns link group ask ≡ true
  no_tick : clock_with ask t ≡ t
  enters : and_told ask reply told ≡ record { ask = ask; reply = reply } ∷ told

heard : (link : Link) (group : ℕ) (ask : Ask) (t : ℕ) (reply : Reply) (told : List Entry) → is_of_group link group ask ≡ true → IsHeard link group ask t reply told
heard link group Tick t reply told is = cc
heard link group _ t reply told is = record { heard = is; no_tick = refl; enters = refl }

-- with an ask of the group
alone-own : (link : Link) (group : ℕ) (ask : Ask) (reply : Reply) (past : List Entry) (asks : List Ask) → is_split link.split ≡ true → is_of_group link group ask ≡ true → IsLegalAfter link past (record { ask = ask; reply = reply }) → LosesNone link group past (record { ask = ask; reply = reply }) → IsAlone link group past asks → IsAlone link group (record { ask = ask; reply = reply } ∷ past) (ask ∷ asks)
unfolding clock_of scan_of alone_rows alone_told reply_to
alone-own link group ask reply past asks splits is legal loses before =
    let hears = heard link group ask (clock_of past) reply (alone_told link asks) is in
    let replied = own-reply link group (clock_of past) (scan_of link.shape past) ask reply splits is (loses.taken is) legal.answered in
    let told : reply ≡ own_reply link (ticks_in asks) (alone_rows link asks) ask =
    replied ∙ ap (λ t. own_reply link t (own_rows link group (scan_of link.shape past).rows) ask) before.clock ∙ ap (λ rows. own_reply link (ticks_in asks) rows ask) before.rows in
    record {
      clock = ap (clock_with ask) before.clock;
      rows =
          own-rows link group (clock_of past) (scan_of link.shape past) ask reply is
          ∙ ap (λ t. own_after link.shape t (own_rows link group (scan_of link.shape past).rows) ask reply) before.clock
          ∙ ap (λ rows. own_after link.shape (ticks_in asks) rows ask reply) before.rows
          ∙ ap (own_after link.shape (ticks_in asks) (alone_rows link asks) ask) told;
      told = rw is (ap (λ all. record { ask = ask; reply = reply } ∷ all) before.told ∙ sym hears.enters ∙ ap (λ r. and_told ask r (alone_told link asks)) told);
    }

-- with a tick
alone-tick : (link : Link) (group : ℕ) (reply : Reply) (past : List Entry) (asks : List Ask) → LosesNone link group past (record { ask = Tick; reply = reply }) → IsAlone link group past asks → IsAlone link group (record { ask = Tick; reply = reply } ∷ past) (Tick ∷ asks)
unfolding clock_of scan_of alone_rows alone_told own_after after
alone-tick link group reply past asks loses before = record {
  clock = ap suc before.clock;
  rows =
      own-tick link group (clock_of past) (scan_of link.shape past) loses.kept
      ∙ ap (λ t. map (own_ticked t) (filter (stays link.shape.bounds t) (own_rows link group (scan_of link.shape past).rows))) before.clock
      ∙ ap (λ rows. map (own_ticked (ticks_in asks)) (filter (stays link.shape.bounds (ticks_in asks)) rows)) before.rows;
  told = before.told;
}

-- with any other
record IsUnheard (link : Link) (group : ℕ) (ask : Ask) (t : ℕ) : Type 0 where
  untold : is_of_group link group ask ≡ false
  no_tick : clock_with ask t ≡ t

unheard : (link : Link) (group : ℕ) (ask : Ask) (t : ℕ) → concerns link group ask ≡ false → IsUnheard link group ask t
unheard link group Tick t is = cc
unheard link group _ t is = record { untold = is; no_tick = refl }

alone-others : (link : Link) (group : ℕ) (ask : Ask) (reply : Reply) (past : List Entry) (asks : List Ask) → concerns link group ask ≡ false → IsAlone link group past asks → IsAlone link group (record { ask = ask; reply = reply } ∷ past) asks
unfolding clock_of scan_of
alone-others link group ask reply past asks is before =
    let not_heard = unheard link group ask (clock_of past) is in
    record {
      clock = not_heard.no_tick ∙ before.clock;
      rows = others-rows link group (clock_of past) (scan_of link.shape past) ask reply is ∙ before.rows;
      told = rw not_heard.untold before.told;
    }

-- what concerns the group is an ask of it, or a tick
either : (link : Link) (group : ℕ) (ask : Ask) → concerns link group ask ≡ true → (is_of_group link group ask ≡ true) ⊎ (ask ≡ Tick)
either link group Tick is = inr refl
either link group _ is = inl is

-- so it is of every legal history
alone : (link : Link) (group : ℕ) (h : List Entry) → is_split link.split ≡ true → IsLegal link h → LosesNothing link group h → IsAlone link group h (asks_of link group h)
unfolding IsLegal clock_of scan_of alone_rows alone_told own_rows
alone link group [] splits legal loses = record { clock = refl; rows = refl; told = refl }
alone link group (e ∷ past) splits legal loses =
    let before = alone link group past splits legal.0 loses.0 in
    elim (cases_Bool (concerns link group e.ask)) [
      | inl is ↦
          subst (IsAlone link group (e ∷ past)) (let same : e.ask ∷ asks_of link group past ≡ asks_of link group (e ∷ past) = rw is refl in same)
          (elim (either link group e.ask is) [
            | inl own ↦ alone-own link group e.ask e.reply past (asks_of link group past) splits own legal.1 loses.1 before
            | inr tick ↦ subst (λ ask. LosesNone link group past (record { ask = ask; reply = e.reply }) → IsAlone link group (record { ask = ask; reply = e.reply } ∷ past) (ask ∷ asks_of link group past)) (sym tick) (λ none. alone-tick link group e.reply past (asks_of link group past) none before) loses.1
          ])
      | inr other ↦
          subst (IsAlone link group (e ∷ past)) (let same : asks_of link group past ≡ asks_of link group (e ∷ past) = rw other refl in same)
          (alone-others link group e.ask e.reply past (asks_of link group past) other before)
    ]

pub isolated : GroupsAreIsolated
isolated link group h other splits legal legal_other loses loses_other same =
    (alone link group h splits legal loses).told
    ∙ ap (alone_told link) same
    ∙ sym (alone link group other splits legal_other loses_other).told
