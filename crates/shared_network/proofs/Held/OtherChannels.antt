-- Entries that don't name a channel leave it as it was: one that was established still is, and one that no entry names has none. The
-- entries of a setup and of a teardown name their own channel alone, and those of a move two.
use Rattle.std.proofs.Common.{◌≡◌, ◌≢◌, ℕ, List, [], ◌∷◌, ◌++◌, length, Option, Some, None, sym, ◌∙◌, subst}
use Rattle.shared_network.proofs.Words.{slice_get, channel_number, link_number, ChanNo, LinkNo, Traffic, Each, Ask, Release, Reply, Link, next_ask, progress_of, first_count, next_release, Request, IsOff, Move, next_of_move, OwnEntry, Token, Steps}
use Rattle.link_steps.proofs.SearchAndFilter.{Each-append}
use Rattle.setup_protocol.proofs.HopAsks.{of-hop, of-setup}
use Rattle.channel_move.proofs.AskByStage.{MoveAsks, AsksFirst, AsksSubmit, AsksRest, move-asks, move-ask-is}
use Rattle.shared_network.specs.Calls.{HasNone, Follows, HoldsRoute, IsEstablished, OthersStay, hold_at}
use Rattle.shared_network.specs.Holds.{Free, Holds}
use Rattle.shared_network.specs.Sight.{IsSend}
use Rattle.shared_network.proofs.CallSteps.SetupUnderWay.{each-follows}
use Rattle.shared_network.proofs.Held.StillHolds.{IsStill, none-still, none-hold, send-still, route-stays}

-- ---- entries that don't name it

pub established-stays : (request : Request) (own own' entries : List OwnEntry) → own' ≡ own ++ entries → HasNone request.chan entries → IsEstablished request own → IsEstablished request own'
established-stays request own own' entries is none was = route-stays request.chan request.route request.contract own own' entries is (none-still request.chan entries none) was

pub unopened-stays : (chan : ChanNo) (own own' entries : List OwnEntry) → own' ≡ own ++ entries → HasNone chan entries → HasNone chan own → HasNone chan own'
unopened-stays chan own own' entries is none was = subst (HasNone chan) (sym is) (Each-append (λ (e : OwnEntry). IsOff (channel_number chan) e.ask) own entries was none)

-- a send leaves what each link holds
pub sent-established : (links : List Link) (link : LinkNo) (ask : Ask) (pass pass' : Token) (reply : Reply) → Steps links (link_number link) ask pass pass' reply → IsSend ask → (request : Request) → IsEstablished request pass.own → IsEstablished request pass'.own
sent-established links link ask pass pass' reply steps send request was =
    route-stays request.chan request.route request.contract pass.own pass'.own (steps.entry ∷ []) steps.own (send-still (channel_number request.chan) steps.entry.ask (subst IsSend (sym steps.acted.ask_is) send), tt) was

-- ---- entries that follow a protocol

others-stay : (chan : ChanNo) (own own' entries : List OwnEntry) → own' ≡ own ++ entries → ((c : ℕ) → channel_number chan ≢ c → Each (λ (e : OwnEntry). IsOff c e.ask) entries) → OthersStay chan own own'
others-stay chan own own' entries is off = record {
  established = λ other apart was. established-stays other own own' entries is (off (channel_number other.chan) (λ same. apart (sym same))) was;
  unopened = λ other apart was. unopened-stays other own own' entries is (off (channel_number other) (λ same. apart (sym same))) was;
}

pub setup-others : (request : Request) (own own' entries : List OwnEntry) → own' ≡ own ++ entries → Follows (next_ask request) [] entries → OthersStay request.chan own own'
setup-others request own own' entries is follows =
    others-stay request.chan own own' entries is (λ c apart. each-follows (IsOff c) (next_ask request) [] entries (λ rs to ask same. of-setup (IsOff c) request (progress_of request rs) to ask (λ offers reach. apart) apart (λ levels place. apart) same) follows)

pub teardown-others : (request : Request) (own own' entries : List OwnEntry) → own' ≡ own ++ entries → Follows (next_release request.chan request.route) [] entries → OthersStay request.chan own own'
teardown-others request own own' entries is follows =
    others-stay request.chan own own' entries is (λ c apart. each-follows (IsOff c) (next_release request.chan request.route) [] entries (λ rs to ask same. of-hop (IsOff c) (slice_get request.route (length rs)) (λ hop. Release request.chan (first_count rs)) to ask (λ hop. apart) same) follows)

-- ---- a move

-- the entries of a move leave each channel but the one that is left: they submit on the one that is joined, which holds its
-- route, alone
move-off : (move : Move) (own : List OwnEntry) (contract : Traffic) (c : ℕ) (replies : List Reply) (to : LinkNo) (ask : Ask) → HoldsRoute move.joining move.joining_route contract own → c ≢ channel_number move.leaving → Each (λ (e : OwnEntry). IsOff c e.ask) own → next_of_move move replies ≡ Some (to, ask) → IsOff c ask
move-off move own contract c replies to ask holds apart none same = by (move-asks move replies to ask same) where
  release : (upstream : Option ℕ) → ask ≡ Release move.leaving upstream → IsOff c ask
  release upstream is = subst (IsOff c) (sym is) (λ e. apart (sym e))

  by : MoveAsks move replies to ask → IsOff c ask
  by (AsksFirst first at is) = release None is
  by (AsksSubmit first one some at is) = subst (IsOff c) (sym is) (λ e.
      (let free : hold_at move.joining at.hop own ≡ Free = none-hold move.joining at.hop own (subst (λ n. Each (λ (x : OwnEntry). IsOff n x.ask) own) (sym e) none) in
      let clash : Free ≡ Holds (holds 0 at.hop at.stands).terms = sym free ∙ (holds 0 at.hop at.stands).is in
      cc))
  by (AsksRest told made stage at is) = release (Some told.kept) is

pub move-others : (move : Move) (own own' entries : List OwnEntry) (contract : Traffic) → own' ≡ own ++ entries → HoldsRoute move.joining move.joining_route contract own → Follows (next_of_move move) [] entries → OthersStay move.leaving own own'
move-others move own own' entries contract is holds follows = record {
  established = λ other apart was. route-stays other.chan other.route other.contract own own' entries is
      (each-follows (IsStill (channel_number other.chan)) (next_of_move move) [] entries (λ rs to ask same. move-ask-is (IsStill (channel_number other.chan)) move rs to ask (λ upstream e. apart (sym e)) (λ count. tt) same) follows) was;
  unopened = λ other apart none. unopened-stays other own own' entries is
      (each-follows (IsOff (channel_number other)) (next_of_move move) [] entries (λ rs to ask same. move-off move own contract (channel_number other) rs to ask holds apart none same) follows) none;
}
