-- What a send and a move tell of the packets that were planned last. A submit that is planned tells its own, and one that isn't
-- tells nothing. A move submits on the channel that is joined alone, packets of its gap and size, and only where some are shifted.
use Rattle.std.proofs.Common.{◌≡◌, ℕ, true, cond, List, [], ◌∷◌, ◌++◌, map, Option, Some, None, refl, sym, ap, ◌∙◌, subst, inl, inr}
use Rattle.shared_network.proofs.Words.{cases_Bool, eq-eqb, append_assoc, append-nil, same_Some, ◌==◌, nat_eq, channel_number, ChanNo, LinkNo, Each, Ask, Submit, Release, Reply, IsUnsent, Move, shifted_in, told_by, further, next_of_move, OwnEntry}
use Rattle.link_steps.specs.declared.replies.Reply.TheVariants as Is
use Rattle.channel_move.proofs.AskByStage.{hop-asked, move-ask-is}
use Rattle.shared_network.specs.Added.{Asked, asked_in}
use Rattle.shared_network.specs.Calls.{Follows}
use Rattle.shared_network.specs.Shifts.{NoneSubmitted, Packets, planned_with, last_planned, WerePlanned}
use Rattle.shared_network.proofs.CallSteps.SetupUnderWay.{each-follows}
use Rattle.shared_network.proofs.CallSteps.SubmitsOfCalls.{planned-more, none-planned, adds-one}

-- ---- a submit

-- the one entry of a send tells what its ask and its reply do
pub sent-with : (chan : ChanNo) (own own' entries : List OwnEntry) (asked : Asked) → own' ≡ own ++ entries → map asked_in entries ≡ asked ∷ [] → last_planned chan own' ≡ planned_with (channel_number chan) (last_planned chan own) asked.ask asked.reply
sent-with chan own own' entries asked is are =
    let one = adds-one entries asked are in
    planned-more chan own own' one.entry (is ∙ ap (λ es. own ++ es) one.alone) ∙ ap (λ (a : Asked). planned_with (channel_number chan) (last_planned chan own) a.ask a.reply) one.is

-- where it is planned, on its own channel
pub planned-own : (chan own : ChanNo) (last : Option Packets) (count gap size clock : ℕ) → channel_number own ≡ channel_number chan → planned_with (channel_number chan) last (Submit own count gap size) (Is.Planned clock) ≡ Some (record { gap = gap; size = size })
planned-own chan own last count gap size clock same = ap (λ b. cond b (Some (record { gap = gap; size = size })) last) (eq-eqb (channel_number own) (channel_number chan) same)

-- ---- a move

-- the ask submits packets of this gap and this size alone
abbrev SubmitsOnly : ℕ → ℕ → Ask → Type 0
SubmitsOnly gap size (Submit chan count own_gap own_size) = (gap ≡ own_gap) × (size ≡ own_size)
SubmitsOnly gap size _ = Unit {0}

-- so what was planned last is of these
abbrev AreThese : ℕ → ℕ → Option Packets → Type 0
AreThese gap size last = (p : Packets) → last ≡ Some p → (gap ≡ p.gap) × (size ≡ p.size)

with-only : (c gap size : ℕ) (last : Option Packets) (ask : Ask) (reply : Reply) → SubmitsOnly gap size ask → AreThese gap size last → AreThese gap size (planned_with c last ask reply)
with-only c gap size last (Submit chan count own_gap own_size) (Is.Planned clock) only were = λ p told.
    elim (cases_Bool (channel_number chan == c)) [
      | inl own ↦ (let same : record { gap = own_gap; size = own_size } ≡ p = same_Some _ p (rw own at told) in (only.0 ∙ ap (λ (q : Packets). q.gap) same, only.1 ∙ ap (λ (q : Packets). q.size) same))
      | inr other ↦ were p (rw other at told)
    ]
with-only c gap size last _ _ only were = were

only-planned : (chan : ChanNo) (gap size : ℕ) (own own' entries : List OwnEntry) → own' ≡ own ++ entries → Each (λ (e : OwnEntry). SubmitsOnly gap size e.ask) entries → AreThese gap size (last_planned chan own) → AreThese gap size (last_planned chan own')
only-planned chan gap size own own' [] is each were = subst (λ os. AreThese gap size (last_planned chan os)) (sym (is ∙ append-nil own)) were
only-planned chan gap size own own' (e ∷ entries) is each were =
    only-planned chan gap size (own ++ e ∷ []) own' entries (is ∙ sym (append_assoc own (e ∷ []) entries)) each.1
    (subst (AreThese gap size) (sym (planned-more chan own (own ++ e ∷ []) e refl)) (with-only (channel_number chan) gap size (last_planned chan own) e.ask e.reply each.0 were))

-- where nothing was submitted on a channel, a move tells its own packets there, or none
pub move-planned : (move : Move) (chan : ChanNo) (own own' entries : List OwnEntry) → own' ≡ own ++ entries → Follows (next_of_move move) [] entries → NoneSubmitted chan own → WerePlanned chan move.gap move.size own'
move-planned move chan own own' entries is follows none =
    only-planned chan move.gap move.size own own' entries is
    (each-follows (SubmitsOnly move.gap move.size) (next_of_move move) [] entries (λ rs to ask same. move-ask-is (SubmitsOnly move.gap move.size) move rs to ask (λ upstream. tt) (λ count. (refl, refl)) same) follows)
    (λ p some. absurd (let clash : None ≡ Some p = sym (none-planned chan own none) ∙ some in cc))

-- entries that follow after a reply
follows-after : (next : List Reply → Option (LinkNo × Ask)) (first : Reply) (replies : List Reply) (entries : List OwnEntry) → Follows next (first ∷ replies) entries → Follows (λ rs. next (first ∷ rs)) replies entries
unfolding Follows
follows-after next first replies [] follows = tt
follows-after next first replies (e ∷ entries) follows = (follows.0, follows-after next first (replies ++ e.reply ∷ []) entries follows.1)

further-unsent : (move : Move) (c kept made : ℕ) (to : LinkNo) (ask : Ask) → further move kept made ≡ Some (to, ask) → IsUnsent c ask
further-unsent move c kept made to ask same = subst (IsUnsent c) (sym (hop-asked move.leaving_route made (Release move.leaving (Some kept)) to ask same).1) tt

-- a move that shifts none submits nothing
pub unshifted-unsent : (move : Move) (c : ℕ) (e : OwnEntry) (entries : List OwnEntry) → nat_eq (shifted_in e.reply) 0 ≡ true → Follows (next_of_move move) [] (e ∷ entries) → Each (λ (x : OwnEntry). IsUnsent c x.ask) (e ∷ entries)
unfolding Follows
unshifted-unsent move c e entries none follows = (
  subst (IsUnsent c) (sym (hop-asked move.leaving_route 0 (Release move.leaving None) e.link e.ask follows.0).1) tt,
  each-follows (IsUnsent c) (λ rs. next_of_move move (e.reply ∷ rs)) [] entries (λ rs to ask same. further-unsent move c (told_by e.reply).kept _ to ask (rw none at same)) (follows-after (next_of_move move) e.reply [] entries follows.1),
)
