-- Asks made one after the other: one more ask.
use Rattle.std.proofs.Common.{◌≡◌, ℕ, ◌+◌, ◌<◌, ◌≤◌, List, [], ◌∷◌, ◌++◌, length, take, drop, get_or, refl, sym, ap, ◌∙◌, subst, arith}
use Rattle.std.proofs.lemmas.List.{length-append, take-append-drop}
use Rattle.call_script.proofs.Walks.{before-at}
use Rattle.link_steps.specs.Replies.{reply_to}
use Rattle.link_steps.specs.Scan.{clock_with}
use Rattle.link_steps.specs.Split.{Link}
use Rattle.link_steps.specs.declared.asks.Ask.{Ask}
use Rattle.link_steps.specs.declared.asks.Ask.TheVariants.{Reserve}
use Rattle.link_steps.specs.declared.replies.Entry.{Entry}
use Rattle.link_steps.specs.declared.replies.Reply.{Reply}
use Rattle.plane_workers.specs.Answered.{ticks_in, entry_after, answered, replies_along, IsAnswered}

pub answered-more : (link : Link) (h : List Entry) (asks : List Ask) (ask : Ask) → answered link h (asks ++ ask ∷ []) ≡ entry_after link (answered link h asks) ask ∷ answered link h asks
unfolding answered
answered-more link h [] ask = refl
answered-more link h (first ∷ asks) ask = answered-more link (entry_after link h first ∷ h) asks ask

pub replies-more : (link : Link) (h : List Entry) (asks : List Ask) (ask : Ask) → replies_along link h (asks ++ ask ∷ []) ≡ replies_along link h asks ++ reply_to link (answered link h asks) ask ∷ []
unfolding answered replies_along
replies-more link h [] ask = refl
replies-more link h (first ∷ asks) ask = ap (λ rs. reply_to link h first ∷ rs) (replies-more link (entry_after link h first ∷ h) asks ask)

module _ {X : Type 0} (rules : X → Link) (stands : X → List Entry → Type 0) where
  pub none-answered : (link : X) → IsAnswered rules stands link link [] []
  unfolding answered replies_along
  none-answered link = record { same = refl; long = refl; stands_on = λ h at. at; replied = λ h at. refl }

  pub one-answered : (old mid new : X) (asks : List Ask) (replies more : List Reply) (ask : Ask) (reply : Reply) → IsAnswered rules stands old mid asks replies → rules new ≡ rules mid → ((h : List Entry) → stands mid h → reply ≡ reply_to (rules mid) h ask) → ((h : List Entry) → stands mid h → stands new (record { ask = ask; reply = reply } ∷ h)) → more ≡ replies ++ reply ∷ []
      → IsAnswered rules stands old new (asks ++ ask ∷ []) more
  one-answered old mid new asks replies more ask reply was same legal entered are = record {
    same = same ∙ was.same;
    long = (let cut = length-append replies (reply ∷ []) in let grown = length-append asks (ask ∷ []) in let before = was.long in let now = ap length are in omega (arith, cut, grown, before, now));
    stands_on = λ h at.
        let before = was.stands_on h at in
        let is : reply ≡ reply_to (rules old) (answered (rules old) h asks) ask = legal (answered (rules old) h asks) before ∙ ap (λ r. reply_to r (answered (rules old) h asks) ask) was.same in
        subst (stands new) (ap (λ r. record { ask = ask; reply = r } ∷ answered (rules old) h asks) is ∙ sym (answered-more (rules old) h asks ask)) (entered (answered (rules old) h asks) before);
    replied = λ h at.
        let before = was.stands_on h at in
        let is : reply ≡ reply_to (rules old) (answered (rules old) h asks) ask = legal (answered (rules old) h asks) before ∙ ap (λ r. reply_to r (answered (rules old) h asks) ask) was.same in
        are ∙ ap (λ rs. rs ++ reply ∷ []) (was.replied h at) ∙ ap (λ r. replies_along (rules old) h asks ++ r ∷ []) is ∙ sym (replies-more (rules old) h asks ask);
  }

  pub next-answered : (old mid new : X) (asks : List Ask) (i : ℕ) (replies more : List Reply) (ask : Ask) (reply : Reply) → i < length asks → ask ≡ get_or asks i ask → IsAnswered rules stands old mid (take i asks) replies → rules new ≡ rules mid → ((h : List Entry) → stands mid h → reply ≡ reply_to (rules mid) h ask) → ((h : List Entry) → stands mid h → stands new (record { ask = ask; reply = reply } ∷ h)) → more ≡ replies ++ reply ∷ []
      → IsAnswered rules stands old new (take (i + 1) asks) more
  next-answered old mid new asks i replies more ask reply within is was same legal entered are =
      subst (λ front. IsAnswered rules stands old new front more) (sym (before-at asks i ask within is)) (one-answered old mid new (take i asks) replies more ask reply was same legal entered are)

-- ---- the clock

pub clock-step : (ask : Ask) (before : ℕ) → clock_with ask before ≡ before + clock_with ask 0
clock-step (Reserve chan contract kind delay up_reach first next) before = omega arith
clock-step _ before = omega arith

pub ticks-append : (asks more : List Ask) → ticks_in (asks ++ more) ≡ ticks_in asks + ticks_in more
unfolding ticks_in
ticks-append [] more = omega arith
ticks-append (ask ∷ asks) more = (let rest = ticks-append asks more in omega (arith, rest))

-- the ticks of the asks so far, with those of the next
pub ticks-more : (asks : List Ask) (i : ℕ) (ask : Ask) → i < length asks → ask ≡ get_or asks i ask → ticks_in (take (i + 1) asks) ≡ ticks_in (take i asks) + clock_with ask 0
unfolding ticks_in
ticks-more asks i ask within is = (let both = ap ticks_in (before-at asks i ask within is) ∙ ticks-append (take i asks) (ask ∷ []) in omega (arith, both))

-- are no more than all
pub ticks-front : (asks : List Ask) (i : ℕ) → ticks_in (take i asks) ≤ ticks_in asks
ticks-front asks i = (let both = sym (ticks-append (take i asks) (drop i asks)) ∙ ap ticks_in (take-append-drop i asks) in omega (arith, both))

pub none-ticks : (clock : ℕ) → clock ≡ clock + ticks_in []
unfolding ticks_in
none-ticks clock = omega arith
