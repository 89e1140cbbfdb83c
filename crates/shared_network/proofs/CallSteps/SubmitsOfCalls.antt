-- What calls leave of the submits on a channel: the entries of a setup, of a teardown and of the plane submit on none, those of a
-- move on the channel that is joined alone, and a send on its own. So these tell which packets were planned last.
use Rattle.std.proofs.Common.{◌≡◌, ◌≢◌, ℕ, cond, List, [], ◌∷◌, ◌++◌, map, Option, Some, None, refl, sym, ap, ◌∙◌, subst}
use Rattle.shared_network.proofs.Words.{ne_eqb, eq-eqb, slice_get, channel_number, ChanNo, LinkNo, Each, Ask, Submit, Release, Reply, next_ask, progress_of, first_count, next_release, Request, Plane, ask_due, next_due, plane_ask, IsUnsent, Move, next_of_move, OwnEntry}
use Rattle.link_steps.specs.declared.replies.Reply.TheVariants as Is
use Rattle.link_steps.proofs.SearchAndFilter.{Each-append}
use Rattle.setup_protocol.proofs.HopAsks.{of-hop, of-setup}
use Rattle.tick_plane.specs.declared.flight.Flight.{Flight}
use Rattle.tick_plane.proofs.PlaneFlights.{asks-due}
use Rattle.channel_move.proofs.AskByStage.{move-ask-is}
use Rattle.shared_network.specs.Added.{Asked, asked_in}
use Rattle.shared_network.specs.Calls.{Follows}
use Rattle.shared_network.specs.Shifts.{NoneSubmitted, Packets, planned_with, planned_after, last_planned, WerePlanned}
use Rattle.shared_network.proofs.CallSteps.SetupUnderWay.{each-follows}

-- ---- entries that submit nothing on a channel

pub unsent-stays : (chan : ChanNo) (own own' entries : List OwnEntry) → own' ≡ own ++ entries → NoneSubmitted chan entries → NoneSubmitted chan own → NoneSubmitted chan own'
unsent-stays chan own own' entries is none was = subst (NoneSubmitted chan) (sym is) (Each-append (λ (e : OwnEntry). IsUnsent (channel_number chan) e.ask) own entries was none)

-- one tells nothing of what was planned last
unsent-with : (c : ℕ) (last : Option Packets) (ask : Ask) (reply : Reply) → IsUnsent c ask → planned_with c last ask reply ≡ last
unsent-with c last (Submit chan count gap size) (Is.Planned clock) off = ap (λ b. cond b (Some (record { gap = gap; size = size })) last) (ne_eqb (channel_number chan) c off)
unsent-with c last (Submit chan count gap size) (Is.Offer level reach) off = refl
unsent-with c last (Submit chan count gap size) (Is.Relaxed clock) off = refl
unsent-with c last (Submit chan count gap size) Is.Denied off = refl
unsent-with c last (Submit chan count gap size) (Is.Closing count' cancelled) off = refl
unsent-with c last (Submit chan count gap size) (Is.Taken clock eligible) off = refl
unsent-with c last (Submit chan count gap size) (Is.Ticked clock full sent best_sent best_lost) off = refl
unsent-with c last (Submit chan count gap size) (Is.Refused refusal) off = refl
unsent-with c last _ reply off = refl

unsent-after : (c : ℕ) (last : Option Packets) (entries : List OwnEntry) → Each (λ (e : OwnEntry). IsUnsent c e.ask) entries → planned_after c last entries ≡ last
unfolding planned_after
unsent-after c last [] none = refl
unsent-after c last (e ∷ entries) none = ap (λ p. planned_after c p entries) (unsent-with c last e.ask e.reply none.0) ∙ unsent-after c last entries none.1

after-append : (c : ℕ) (last : Option Packets) (xs ys : List OwnEntry) → planned_after c last (xs ++ ys) ≡ planned_after c (planned_after c last xs) ys
unfolding planned_after
after-append c last [] ys = refl
after-append c last (x ∷ xs) ys = after-append c (planned_with c last x.ask x.reply) xs ys

pub planned-stays : (chan : ChanNo) (own own' entries : List OwnEntry) → own' ≡ own ++ entries → NoneSubmitted chan entries → last_planned chan own' ≡ last_planned chan own
planned-stays chan own own' entries is none =
    ap (planned_after (channel_number chan) None) is ∙ after-append (channel_number chan) None own entries ∙ unsent-after (channel_number chan) (last_planned chan own) entries none

pub none-planned : (chan : ChanNo) (own : List OwnEntry) → NoneSubmitted chan own → last_planned chan own ≡ None
none-planned chan own none = unsent-after (channel_number chan) None own none

-- ---- a submit

-- it tells what was planned last, where it is planned, and else nothing
pub planned-more : (chan : ChanNo) (own own' : List OwnEntry) (e : OwnEntry) → own' ≡ own ++ e ∷ [] → last_planned chan own' ≡ planned_with (channel_number chan) (last_planned chan own) e.ask e.reply
unfolding planned_after
planned-more chan own own' e is = ap (planned_after (channel_number chan) None) is ∙ after-append (channel_number chan) None own (e ∷ [])

-- so one on the channel, after which the packets are its own or those before
submit-with : (chan : ChanNo) (last : Option Packets) (count gap size : ℕ) (reply : Reply) → ((p : Packets) → last ≡ Some p → (gap ≡ p.gap) × (size ≡ p.size)) → (p : Packets) → planned_with (channel_number chan) last (Submit chan count gap size) reply ≡ Some p → (gap ≡ p.gap) × (size ≡ p.size)
submit-with chan last count gap size (Is.Planned clock) was p is = (let e : Some (record { gap = gap; size = size }) ≡ Some p = sym (ap (λ b. cond b (Some (record { gap = gap; size = size })) last) (eq-eqb (channel_number chan) (channel_number chan) refl)) ∙ is in (cc (e), cc (e)))
submit-with chan last count gap size _ was p is = was p is

pub were-planned : (chan : ChanNo) (count gap size : ℕ) (own own' : List OwnEntry) (e : OwnEntry) → own' ≡ own ++ e ∷ [] → e.ask ≡ Submit chan count gap size → WerePlanned chan gap size own → WerePlanned chan gap size own'
were-planned chan count gap size own own' e is asked was = λ p same.
    submit-with chan (last_planned chan own) count gap size e.reply was p (ap (λ a. planned_with (channel_number chan) (last_planned chan own) a e.reply) (sym asked) ∙ sym (planned-more chan own own' e is) ∙ same)

-- ---- calls

pub setup-unsent : (request : Request) (c : ℕ) (entries : List OwnEntry) → Follows (next_ask request) [] entries → Each (λ (e : OwnEntry). IsUnsent c e.ask) entries
setup-unsent request c entries follows =
    each-follows (IsUnsent c) (next_ask request) [] entries (λ rs to ask same. of-setup (IsUnsent c) request (progress_of request rs) to ask (λ offers reach. tt) tt (λ levels place. tt) same) follows

pub teardown-unsent : (request : Request) (c : ℕ) (entries : List OwnEntry) → Follows (next_release request.chan request.route) [] entries → Each (λ (e : OwnEntry). IsUnsent c e.ask) entries
teardown-unsent request c entries follows =
    each-follows (IsUnsent c) (next_release request.chan request.route) [] entries (λ rs to ask same. of-hop (IsUnsent c) (slice_get request.route _) (λ hop. Release request.chan (first_count rs)) to ask (λ hop. tt) same) follows

-- on each channel but the one that is joined
pub move-unsent : (move : Move) (c : ℕ) (entries : List OwnEntry) → channel_number move.joining ≢ c → Follows (next_of_move move) [] entries → Each (λ (e : OwnEntry). IsUnsent c e.ask) entries
move-unsent move c entries apart follows =
    each-follows (IsUnsent c) (next_of_move move) [] entries (λ rs to ask same. move-ask-is (IsUnsent c) move rs to ask (λ upstream. tt) (λ count. apart) same) follows

-- what the plane asks
due-unsent : (c ticked : ℕ) (found : Option Flight) (to : LinkNo) (ask : Ask) → ask_due ticked found ≡ (to, ask) → IsUnsent c ask
due-unsent c ticked None to ask is = subst (λ (pair : LinkNo × Ask). IsUnsent c pair.1) is tt
due-unsent c ticked (Some flight) to ask is = subst (λ (pair : LinkNo × Ask). IsUnsent c pair.1) is tt

pub plane-unsent : (c rounds : ℕ) (plane : Plane) (to : LinkNo) (ask : Ask) → plane_ask rounds plane ≡ Some (to, ask) → IsUnsent c ask
plane-unsent c rounds plane to ask asks = due-unsent c plane.ticked (next_due plane) to ask (asks-due rounds plane to ask asks).asks

-- a call that adds one entry
pub record AddsOne (asked : Asked) (entries : List OwnEntry) : Type 0 where
  pub entry : OwnEntry
  pub alone : entries ≡ entry ∷ []
  pub is : asked_in entry ≡ asked

pub adds-one : (entries : List OwnEntry) (asked : Asked) → map asked_in entries ≡ asked ∷ [] → AddsOne asked entries
adds-one [] asked is = absurd (cc is)
adds-one (e ∷ []) asked is = record { entry = e; alone = refl; is = cc is }
adds-one (e ∷ o ∷ entries) asked is = absurd (cc is)

pub one-unsent : (c : ℕ) (entries : List OwnEntry) (asked : Asked) → map asked_in entries ≡ asked ∷ [] → IsUnsent c asked.ask → Each (λ (e : OwnEntry). IsUnsent c e.ask) entries
one-unsent c entries asked is unsent = (let one = adds-one entries asked is in subst (Each (λ (e : OwnEntry). IsUnsent c e.ask)) (sym one.alone) (subst (λ (a : Asked). IsUnsent c a.ask) (sym one.is) unsent, tt))

-- and submits on the channel
pub one-planned : (chan : ChanNo) (count gap size : ℕ) (own own' entries : List OwnEntry) (asked : Asked) → own' ≡ own ++ entries → map asked_in entries ≡ asked ∷ [] → asked.ask ≡ Submit chan count gap size → WerePlanned chan gap size own → WerePlanned chan gap size own'
one-planned chan count gap size own own' entries asked is are submits was =
    let one = adds-one entries asked are in
    were-planned chan count gap size own own' one.entry (is ∙ ap (λ es. own ++ es) one.alone) (ap (λ (a : Asked). a.ask) one.is ∙ submits) was
