-- A link answers asks in two parts: first those of the one part, and then those of the other. A part is one ask, or a number of ticks
-- in which the link rests.
use Rattle.std.proofs.Common.{◌≡◌, ℕ, ◌+◌, ◌-◌, ◌<◌, ◌≤◌, zero, suc, List, [], ◌∷◌, ◌++◌, length, take, drop, get_or, refl, sym, ap, ◌∙◌, subst, arith}
use Rattle.std.proofs.lemmas.List.{append_assoc, append-nil, length-append, take-append-drop, take_all}
use Rattle.call_script.proofs.Walks.{before-at}
use Rattle.link_quota.specs.Any.{any_clock, any_rules, AnyStands}
use Rattle.link_quota.specs.declared.any_link.AnyLink.{AnyLink}
use Rattle.link_steps.specs.Scan.{clock_with}
use Rattle.link_steps.specs.declared.asks.Ask.{Ask}
use Rattle.link_steps.specs.declared.asks.Ask.TheVariants.{Tick}
use Rattle.link_steps.specs.declared.replies.Reply.{Reply}
use Rattle.run_engine.specs.schedules.Resting.{HasRested}
use Rattle.plane_workers.specs.Answered.{answered, replies_along, ticks_in, HasStepped, IsAnswered}
use Rattle.plane_workers.specs.Said.{quiets}
use Rattle.tick_plane.specs.AskedRuns.{ticks}
use Rattle.plane_workers.proofs.AsksInTurn.{ticks-append}
use Rattle.plane_workers.proofs.QuietReplies.{answered-both, replies-both, ticks-answered, ticks-replied, quiets-long, ticks-long, ticks-last}

abbrev Answers : AnyLink → AnyLink → List Ask → List Reply → Type 0
Answers old new asks replies = IsAnswered any_rules AnyStands old new asks replies

pub both-answered : (old mid new : AnyLink) (xs ys : List Ask) (ones twos : List Reply) → Answers old mid xs ones → Answers mid new ys twos → Answers old new (xs ++ ys) (ones ++ twos)
both-answered old mid new xs ys ones twos one two = record {
  same = two.same ∙ one.same;
  long = (let cut = length-append ones twos in let asked = length-append xs ys in let a = one.long in let b = two.long in omega (arith, cut, asked, a, b));
  stands_on = λ h at.
      let before = one.stands_on h at in
      subst (AnyStands new) (ap (λ r. answered r (answered (any_rules old) h xs) ys) one.same ∙ sym (answered-both (any_rules old) h xs ys)) (two.stands_on (answered (any_rules old) h xs) before);
  replied = λ h at.
      let before = one.stands_on h at in
      ap (λ rs. rs ++ twos) (one.replied h at) ∙ ap (λ rs. replies_along (any_rules old) h xs ++ rs) (two.replied (answered (any_rules old) h xs) before ∙ ap (λ r. replies_along r (answered (any_rules old) h xs) ys) one.same)
      ∙ sym (replies-both (any_rules old) h xs ys);
}

-- one ask
pub step-answered : (old new : AnyLink) (ask : Ask) (reply : Reply) → HasStepped ask reply old new → Answers old new (ask ∷ []) (reply ∷ [])
unfolding answered replies_along
step-answered old new ask reply is = record {
  same = is.same;
  long = refl;
  stands_on = λ h at. subst (AnyStands new) (ap (λ r. record { ask = ask; reply = r } ∷ h) (is.legal h at)) (is.entered h at);
  replied = λ h at. ap (λ r. r ∷ []) (is.legal h at);
}

-- ticks in which it rests
pub rest-answered : (old new : AnyLink) (n : ℕ) → HasRested n old new → Answers old new (ticks n) (quiets (any_clock old) n)
rest-answered old new n is = record {
  same = is.rules;
  long = quiets-long (any_clock old) n ∙ sym (ticks-long n);
  stands_on = λ h at. subst (AnyStands new) (sym (ticks-answered (any_rules old) (any_clock old) n h (λ m less. is.legal m h less at))) (is.made h at);
  replied = λ h at. sym (ticks-replied (any_rules old) (any_clock old) n h (λ m less. is.legal m h less at));
}

none-asked : (link : AnyLink) → Answers link link [] []
unfolding answered replies_along
none-asked link = record { same = refl; long = refl; stands_on = λ h at. at; replied = λ h at. refl }

pub none-yet : (link : AnyLink) (asks : List Ask) (replies : List Reply) → replies ≡ [] → Answers link link (take 0 asks) replies
none-yet link asks replies none = subst (Answers link link []) (sym none) (none-asked link)

-- ---- after some of the asks

-- one more
pub step-more : (first old new : AnyLink) (asks : List Ask) (made : ℕ) (ask : Ask) (reply : Reply) (was now : List Reply) → made < length asks → ask ≡ get_or asks made ask → HasStepped ask reply old new → now ≡ was ++ reply ∷ [] → Answers first old (take made asks) was → Answers first new (take (made + 1) asks) now
step-more first old new asks made ask reply was now within is stepped are before =
    subst (λ (w : List Ask × List Reply). Answers first new w.0 w.1) (λ i. (sym (before-at asks made ask within is) i, sym are i))
    (both-answered first old new (take made asks) (ask ∷ []) was (reply ∷ []) before (step-answered old new ask reply stepped))

-- so many ticks more
pub rest-more : (first old new : AnyLink) (asks : List Ask) (made n : ℕ) (was now : List Reply) → take (made + n) asks ≡ take made asks ++ ticks n → HasRested n old new → now ≡ was ++ quiets (any_clock old) n → Answers first old (take made asks) was → Answers first new (take (made + n) asks) now
rest-more first old new asks made n was now ahead rested are before =
    subst (λ (w : List Ask × List Reply). Answers first new w.0 w.1) (λ i. (sym ahead i, sym are i))
    (both-answered first old new (take made asks) (ticks n) was (quiets (any_clock old) n) before (rest-answered old new n rested))

-- all of them
pub all-answered : (first new : AnyLink) (asks : List Ask) (made : ℕ) (replies : List Reply) → length asks ≤ made → Answers first new (take made asks) replies → Answers first new asks replies
all-answered first new asks made replies all is = subst (λ front. Answers first new front replies) (take_all made asks all) is

-- ---- ticks

pub ticks-count : (n : ℕ) → ticks_in (ticks n) ≡ n
unfolding ticks_in ticks
ticks-count zero = refl
ticks-count (suc n) = (let rest = ticks-count n in omega (arith, rest))

cut : (asks : List Ask) (i : ℕ) → ticks_in (take i asks) + ticks_in (drop i asks) ≡ ticks_in asks
cut asks i = sym (ticks-append (take i asks) (drop i asks)) ∙ ap ticks_in (take-append-drop i asks)

-- those that are left, after so many more
pub ticks-left : (asks : List Ask) (made n : ℕ) → take (made + n) asks ≡ take made asks ++ ticks n → ticks_in (drop made asks) ≡ n + ticks_in (drop (made + n) asks)
ticks-left asks made n ahead =
    let one = cut asks made in
    let two = cut asks (made + n) in
    let front = ap ticks_in ahead ∙ ticks-append (take made asks) (ticks n) in
    let count = ticks-count n in
    omega (arith, one, two, front, count)

pub ask-left : (asks : List Ask) (made : ℕ) (ask : Ask) → made < length asks → ask ≡ get_or asks made ask → ticks_in (drop made asks) ≡ clock_with ask 0 + ticks_in (drop (made + 1) asks)
unfolding ticks_in
ask-left asks made ask within is =
    let one = cut asks made in
    let two = cut asks (made + 1) in
    let front = ap ticks_in (before-at asks made ask within is) ∙ ticks-append (take made asks) (ask ∷ []) in
    omega (arith, one, two, front)

-- one tick more among those that come next
pub tick-more : (asks : List Ask) (made place : ℕ) (ask : Ask) → made ≤ place → place < length asks → ask ≡ get_or asks place ask → ask ≡ Tick → take place asks ≡ take made asks ++ ticks (place - made) → take (place + 1) asks ≡ take made asks ++ ticks (place + 1 - made)
tick-more asks made place ask from within is tick before =
    let count : suc (place - made) ≡ place + 1 - made = omega (arith, from) in
    before-at asks place ask within is ∙ ap (λ front. front ++ ask ∷ []) before ∙ append_assoc (take made asks) (ticks (place - made)) (ask ∷ [])
    ∙ ap (λ a. take made asks ++ (ticks (place - made) ++ a ∷ [])) tick ∙ ap (λ ts. take made asks ++ ts) (sym (ticks-last (place - made))) ∙ ap (λ n. take made asks ++ ticks n) count

pub none-ahead : (asks : List Ask) (made : ℕ) → take made asks ≡ take made asks ++ ticks (made - made)
unfolding ticks
none-ahead asks made = (let none : made - made ≡ 0 = omega arith in sym (append-nil (take made asks)) ∙ ap (λ n. take made asks ++ ticks n) (sym none))

pub none-more : (asks : List Ask) (made : ℕ) → take (made + 0) asks ≡ take made asks ++ ticks 0
unfolding ticks
none-more asks made = (let none : made + 0 ≡ made = omega arith in ap (λ k. take k asks) none ∙ sym (append-nil (take made asks)))
