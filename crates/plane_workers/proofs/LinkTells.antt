-- What a link tells of the replies to asks in two parts: first what it tells of the one part, and then of the other. A part is one ask,
-- or a number of ticks in which the link rests, which tell nothing.
use Rattle.std.proofs.Common.{◌≡◌, true, false, ℕ, zero, suc, ◌+◌, ◌<◌, ◌≤◌, List, [], ◌∷◌, ◌++◌, length, take, drop, get_or, refl, sym, ap, ◌∙◌, subst, arith}
use Rattle.std.proofs.lemmas.List.{append_assoc, append-nil, take-append-drop, take_all}
use Rattle.std.proofs.lemmas.List.Elements.{filter-append}
use Rattle.std.specs.Prelude.{filter}
use Rattle.call_script.proofs.Walks.{before-at, left-at}
use Rattle.link_quota.specs.Any.{any_clock, any_rules, any-clock-is, AnyStands}
use Rattle.link_quota.specs.declared.any_link.AnyLink.{AnyLink}
use Rattle.link_steps.proofs.ListParts.{Each-parts}
use Rattle.link_steps.specs.Legal.{AskFits}
use Rattle.link_steps.specs.Lists.{Each}
use Rattle.link_steps.specs.Replies.{reply_to}
use Rattle.link_steps.specs.Scan.{clock_of}
use Rattle.link_steps.specs.Split.{Link}
use Rattle.link_steps.specs.declared.asks.Ask.{Ask}
use Rattle.link_steps.specs.declared.asks.Ask.TheVariants.{Arrive, Tick}
use Rattle.link_steps.specs.declared.asks.Packet.{Packet}
use Rattle.link_steps.specs.declared.replies.Entry.{Entry}
use Rattle.link_steps.specs.declared.replies.Reply.{Reply}
use Rattle.link_steps.specs.declared.shape.LinkShape.{LinkShape}
use Rattle.run_engine.specs.schedules.Lagging.{is_told}
use Rattle.run_engine.specs.schedules.Resting.{HasRested}
use Rattle.tick_plane.specs.AskedRuns.{asks_in, ticks}
use Rattle.tick_plane.specs.declared.asked.Asked.{Asked}
use Rattle.tick_plane.specs.declared.asked.Asked.TheVariants.{Arrives, Ticks}
use Rattle.plane_workers.specs.Answered.{answered, entry_after, replies_along, ticks_in, HasStepped}
use Rattle.plane_workers.specs.Said.{quiets}
use Rattle.plane_workers.specs.Tracks.{HasTold, TellsMore}
use Rattle.plane_workers.proofs.AsksInTurn.{clock-step, ticks-append}
use Rattle.plane_workers.proofs.LinkAnswers.{ticks-count}
use Rattle.plane_workers.proofs.QuietReplies.{answered-both, replies-both, ticks-answered, ticks-both, ticks-one, ticks-replied}
use Rattle.plane_workers.proofs.ToldInTurn.{arrival-untold, told-first, untold-first}

abbrev Tells : AnyLink → AnyLink → List Ask → List Reply → Type 0
Tells old new asks told = HasTold any_rules AnyStands old new asks told

-- ---- two parts

both-told : (old mid new : AnyLink) (xs ys : List Ask) (ones twos : List Reply) → Tells old mid xs ones → Tells mid new ys twos → Tells old new (xs ++ ys) (ones ++ twos)
both-told old mid new xs ys ones twos one two = record {
  same = two.same ∙ one.same;
  stands_on = λ h at.
      let before = one.stands_on h at in
      subst (AnyStands new) (ap (λ r. answered r (answered (any_rules old) h xs) ys) one.same ∙ sym (answered-both (any_rules old) h xs ys)) (two.stands_on (answered (any_rules old) h xs) before);
  told = λ h at.
      let before = one.stands_on h at in
      ap (λ rs. rs ++ twos) (one.told h at) ∙ ap (λ rs. filter is_told (replies_along (any_rules old) h xs) ++ rs) (two.told (answered (any_rules old) h xs) before ∙ ap (λ r. filter is_told (replies_along r (answered (any_rules old) h xs) ys)) one.same)
      ∙ sym (filter-append is_told (replies_along (any_rules old) h xs) (replies_along (any_rules old) (answered (any_rules old) h xs) ys))
      ∙ ap (filter is_told) (sym (replies-both (any_rules old) h xs ys));
}

-- ---- one part

none-told : (link : AnyLink) → Tells link link [] []
unfolding answered replies_along
none-told link = record { same = refl; stands_on = λ h at. at; told = λ h at. refl }

step-told : (old new : AnyLink) (ask : Ask) (reply : Reply) → HasStepped ask reply old new → Tells old new (ask ∷ []) (filter is_told (reply ∷ []))
unfolding answered replies_along
step-told old new ask reply is = record {
  same = is.same;
  stands_on = λ h at. subst (AnyStands new) (ap (λ r. record { ask = ask; reply = r } ∷ h) (is.legal h at)) (is.entered h at);
  told = λ h at. ap (λ r. filter is_told (r ∷ [])) (is.legal h at);
}

pub arrival-told : (old new : AnyLink) (packet : Packet) (reply : Reply) → HasStepped (Arrive packet) reply old new → Tells old new (Arrive packet ∷ []) []
unfolding answered replies_along
arrival-told old new packet reply is = record {
  same = is.same;
  stands_on = (step-told old new (Arrive packet) reply is).stands_on;
  told = λ h at. sym (untold-first (reply_to (any_rules old) h (Arrive packet)) [] (arrival-untold (any_rules old) h packet));
}

quiets-untold : (t n : ℕ) → filter is_told (quiets t n) ≡ []
unfolding quiets
quiets-untold t zero = refl
quiets-untold t (suc n) = quiets-untold (suc t) n

rest-told : (old new : AnyLink) (n : ℕ) → HasRested n old new → Tells old new (ticks n) []
rest-told old new n is = record {
  same = is.rules;
  stands_on = λ h at. subst (AnyStands new) (sym (ticks-answered (any_rules old) (any_clock old) n h (λ m less. is.legal m h less at))) (is.made h at);
  told = λ h at. sym (ap (filter is_told) (ticks-replied (any_rules old) (any_clock old) n h (λ m less. is.legal m h less at)) ∙ quiets-untold (any_clock old) n);
}

-- ---- behind what was told before

nothing-behind : (old new : AnyLink) (asks : List Ask) (before : List Reply) → Tells old new asks [] → TellsMore old new asks before before
nothing-behind old new asks before is = record { more = []; tells = is; behind = sym (append-nil before) }

both-behind : (old mid new : AnyLink) (xs ys : List Ask) (before between after : List Reply) → TellsMore old mid xs before between → TellsMore mid new ys between after → TellsMore old new (xs ++ ys) before after
both-behind old mid new xs ys before between after one two = record {
  more = one.more ++ two.more;
  tells = both-told old mid new xs ys one.more two.more one.tells two.tells;
  behind = two.behind ∙ ap (λ rs. rs ++ two.more) one.behind ∙ append_assoc before one.more two.more;
}

-- a tick
tick-told : (old new : AnyLink) (reply : Reply) → HasStepped Tick reply old new → Tells old new (ticks 1) (filter is_told (reply ∷ []))
tick-told old new reply is = subst (λ asks. Tells old new asks (filter is_told (reply ∷ []))) (sym ticks-one) (step-told old new Tick reply is)

pub tick-behind : (old new : AnyLink) (reply : Reply) (before after : List Reply) → HasStepped Tick reply old new → is_told reply ≡ true → after ≡ before ++ reply ∷ [] → TellsMore old new (ticks 1) before after
tick-behind old new reply before after is told kept = record { more = reply ∷ []; tells = subst (Tells old new (ticks 1)) (told-first reply [] told) (tick-told old new reply is); behind = kept }

pub tick-untold : (old new : AnyLink) (reply : Reply) (before : List Reply) → HasStepped Tick reply old new → is_told reply ≡ false → TellsMore old new (ticks 1) before before
tick-untold old new reply before is untold = nothing-behind old new (ticks 1) before (subst (Tells old new (ticks 1)) (untold-first reply [] untold) (tick-told old new reply is))

-- ticks at rest
pub rest-behind : (old new : AnyLink) (n : ℕ) (before : List Reply) → HasRested n old new → TellsMore old new (ticks n) before before
rest-behind old new n before is = nothing-behind old new (ticks n) before (rest-told old new n is)

-- ticks in two parts
pub ticks-behind : (old mid new : AnyLink) (m n : ℕ) (before between after : List Reply) → TellsMore old mid (ticks m) before between → TellsMore mid new (ticks n) between after → TellsMore old new (ticks (m + n)) before after
ticks-behind old mid new m n before between after one two = subst (λ asks. TellsMore old new asks before after) (sym (ticks-both m n)) (both-behind old mid new (ticks m) (ticks n) before between after one two)

pub no-ticks-behind : (link : AnyLink) (before : List Reply) → TellsMore link link (ticks 0) before before
unfolding ticks
no-ticks-behind link before = nothing-behind link link [] before (none-told link)

-- ---- the clock

clock-answered : (link : Link) (h : List Entry) (asks : List Ask) → clock_of (answered link h asks) ≡ clock_of h + ticks_in asks
unfolding answered clock_of ticks_in
clock-answered link h [] = omega arith
clock-answered link h (ask ∷ asks) =
    let rest = clock-answered link (entry_after link h ask ∷ h) asks in
    let step = clock-step ask (clock_of h) in
    omega (arith, rest, step)

clock-after : (old new : AnyLink) (asks : List Ask) (told : List Reply) → Tells old new asks told → (h : List Entry) × AnyStands old h → any_clock new ≡ any_clock old + ticks_in asks
clock-after old new asks told is at =
    let before = any-clock-is old at.0 at.1 in
    let after = any-clock-is new (answered (any_rules old) at.0 asks) (is.stands_on at.0 at.1) in
    let made = clock-answered (any_rules old) at.0 asks in
    omega (arith, before, after, made)

pub clock-ticked : (old new : AnyLink) (n : ℕ) (before after : List Reply) → TellsMore old new (ticks n) before after → (h : List Entry) × AnyStands old h → any_clock new ≡ any_clock old + n
clock-ticked old new n before after is at = (let clock = clock-after old new (ticks n) is.more is.tells at in let count = ticks-count n in omega (arith, clock, count))

-- ---- the asks of a window, after some of them

asks-both : (xs ys : List Asked) → asks_in (xs ++ ys) ≡ asks_in xs ++ asks_in ys
unfolding asks_in
asks-both [] ys = refl
asks-both (Arrives packet ∷ xs) ys = ap (λ asks. Arrive packet ∷ asks) (asks-both xs ys)
asks-both (Ticks count ∷ xs) ys = ap (λ asks. ticks count ++ asks) (asks-both xs ys) ∙ sym (append_assoc (ticks count) (asks_in xs) (asks_in ys))

one-arrives : (packet : Packet) → asks_in (Arrives packet ∷ []) ≡ Arrive packet ∷ []
unfolding asks_in
one-arrives packet = refl

ticks-once : (count : ℕ) → asks_in (Ticks count ∷ []) ≡ ticks count
unfolding asks_in
ticks-once count = append-nil (ticks count)

-- those of a whole window
pub whole-window : (old asked : List Asked) (window : List Ask) → old ≡ [] → asks_in asked ≡ asks_in old ++ window → asks_in asked ≡ window
unfolding asks_in
whole-window old asked window none are = are ∙ ap (λ list. asks_in list ++ window) none

asked-more : (asked : List Asked) (i : ℕ) (next : Asked) → i < length asked → next ≡ get_or asked i next → asks_in (take (i + 1) asked) ≡ asks_in (take i asked) ++ asks_in (next ∷ [])
asked-more asked i next within is = ap asks_in (before-at asked i next within is) ∙ asks-both (take i asked) (next ∷ [])

-- their ticks are no more than all
asked-few : (asked : List Asked) (i : ℕ) (next : Asked) → i < length asked → next ≡ get_or asked i next → ticks_in (asks_in (take i asked)) + ticks_in (asks_in (next ∷ [])) ≤ ticks_in (asks_in asked)
asked-few asked i next within is =
    let one = ap ticks_in (asked-more asked i next within is) ∙ ticks-append (asks_in (take i asked)) (asks_in (next ∷ [])) in
    let all = ap (λ list. ticks_in (asks_in list)) (sym (take-append-drop (i + 1) asked)) ∙ ap ticks_in (asks-both (take (i + 1) asked) (drop (i + 1) asked)) ∙ ticks-append (asks_in (take (i + 1) asked)) (asks_in (drop (i + 1) asked)) in
    omega (arith, one, all)

abbrev SoFar : AnyLink → AnyLink → List Asked → ℕ → List Reply → List Reply → Type 0
SoFar first link asked i before told = TellsMore first link (asks_in (take i asked)) before told

pub none-so_far : (link : AnyLink) (asked : List Asked) (told : List Reply) → SoFar link link asked 0 told told
unfolding asks_in
none-so_far link asked told = nothing-behind link link [] told (none-told link)

pub all-so_far : (first link : AnyLink) (asked : List Asked) (i : ℕ) (before told : List Reply) → length asked ≤ i → before ≡ [] → SoFar first link asked i before told → Tells first link (asks_in asked) told
all-so_far first link asked i before told all none is =
    subst (λ list. Tells first link (asks_in list) told) (take_all i asked all) (subst (Tells first link (asks_in (take i asked))) (sym (is.behind ∙ ap (λ rs. rs ++ is.more) none)) is.tells)

next-so_far : (first old new : AnyLink) (asked : List Asked) (i : ℕ) (next : Asked) (before between after : List Reply) → i < length asked → next ≡ get_or asked i next → SoFar first old asked i before between → TellsMore old new (asks_in (next ∷ [])) between after → SoFar first new asked (i + 1) before after
next-so_far first old new asked i next before between after within is was more =
    subst (λ asks. TellsMore first new asks before after) (sym (asked-more asked i next within is)) (both-behind first old new (asks_in (take i asked)) (asks_in (next ∷ [])) before between after was more)

pub arrival-so_far : (first old new : AnyLink) (asked : List Asked) (i : ℕ) (next : Asked) (packet : Packet) (before told : List Reply) → i < length asked → next ≡ get_or asked i next → next ≡ Arrives packet → SoFar first old asked i before told → Tells old new (Arrive packet ∷ []) [] → SoFar first new asked (i + 1) before told
arrival-so_far first old new asked i next packet before told within is arrives was tells =
    next-so_far first old new asked i next before told told within is was
    (subst (λ asks. TellsMore old new asks told told) (sym (ap (λ a. asks_in (a ∷ [])) arrives ∙ one-arrives packet)) (nothing-behind old new (Arrive packet ∷ []) told tells))

pub ticks-so_far : (first old new : AnyLink) (asked : List Asked) (i : ℕ) (next : Asked) (count : ℕ) (before between after : List Reply) → i < length asked → next ≡ get_or asked i next → next ≡ Ticks count → SoFar first old asked i before between → TellsMore old new (ticks count) between after
    → SoFar first new asked (i + 1) before after
ticks-so_far first old new asked i next count before between after within is made was more =
    next-so_far first old new asked i next before between after within is was (subst (λ asks. TellsMore old new asks between after) (sym (ap (λ a. asks_in (a ∷ [])) made ∙ ticks-once count)) more)

-- the clock is early enough for the next
clock-so_far : (first link : AnyLink) (asked : List Asked) (i : ℕ) (next : Asked) (before told : List Reply) → i < length asked → next ≡ get_or asked i next → SoFar first link asked i before told → (h : List Entry) × AnyStands first h → any_clock link + ticks_in (asks_in (next ∷ [])) ≤ any_clock first + ticks_in (asks_in asked)
clock-so_far first link asked i next before told within is was at =
    let clock = clock-after first link (asks_in (take i asked)) was.more was.tells at in
    let few = asked-few asked i next within is in
    omega (arith, clock, few)

pub arrival-early : (first link : AnyLink) (asked : List Asked) (i : ℕ) (next : Asked) (before told : List Reply) → i < length asked → next ≡ get_or asked i next → SoFar first link asked i before told → (h : List Entry) × AnyStands first h → any_clock link ≤ any_clock first + ticks_in (asks_in asked)
arrival-early first link asked i next before told within is was at = (let clock = clock-so_far first link asked i next before told within is was at in omega (arith, clock))

pub ticks-early : (first link : AnyLink) (asked : List Asked) (i : ℕ) (next : Asked) (count : ℕ) (before told : List Reply) → i < length asked → next ≡ get_or asked i next → next ≡ Ticks count → SoFar first link asked i before told → (h : List Entry) × AnyStands first h → any_clock link + count ≤ any_clock first + ticks_in (asks_in asked)
ticks-early first link asked i next count before told within is made was at =
    let clock = clock-so_far first link asked i next before told within is was at in
    let all : ticks_in (asks_in (next ∷ [])) ≡ count = ap (λ a. ticks_in (asks_in (a ∷ []))) made ∙ ap ticks_in (ticks-once count) ∙ ticks-count count in
    omega (arith, clock, all)

-- and a packet that arrives next fits
pub arrival-fits : (shape : LinkShape) (asked : List Asked) (i : ℕ) (next : Asked) (packet : Packet) → i < length asked → next ≡ get_or asked i next → next ≡ Arrives packet → Each (AskFits shape) (asks_in asked) → AskFits shape (Arrive packet)
arrival-fits shape asked i next packet within is arrives each =
    let cut : asks_in asked ≡ asks_in (take i asked) ++ (asks_in (Arrives packet ∷ []) ++ asks_in (drop (i + 1) asked)) =
    ap asks_in (sym (take-append-drop i asked)) ∙ asks-both (take i asked) (drop i asked) ∙ ap (λ list. asks_in (take i asked) ++ asks_in list) (left-at asked i next within is ∙ ap (λ a. a ∷ drop (i + 1) asked) arrives)
    ∙ ap (λ asks. asks_in (take i asked) ++ asks) (asks-both (Arrives packet ∷ []) (drop (i + 1) asked)) in
    let after = (Each-parts (AskFits shape) (asks_in (take i asked)) (asks_in (Arrives packet ∷ []) ++ asks_in (drop (i + 1) asked)) (subst (Each (AskFits shape)) cut each)).1 in
    (subst (Each (AskFits shape)) (one-arrives packet) (Each-parts (AskFits shape) (asks_in (Arrives packet ∷ [])) (asks_in (drop (i + 1) asked)) after).0).0
