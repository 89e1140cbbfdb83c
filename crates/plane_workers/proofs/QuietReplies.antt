-- Quiet ticks counted, and written out.
use Rattle.std.proofs.Common.{◌≡◌, ℕ, zero, suc, ◌+◌, ◌<◌, List, [], ◌∷◌, ◌++◌, length, refl, sym, ap, ◌∙◌, arith}
use Rattle.std.proofs.lemmas.List.{append_assoc}
use Rattle.link_steps.specs.Quiet.{quiet_reply, quiet_ticks}
use Rattle.link_steps.specs.Replies.{reply_to}
use Rattle.link_steps.specs.Split.{Link}
use Rattle.link_steps.specs.declared.asks.Ask.{Ask}
use Rattle.link_steps.specs.declared.asks.Ask.TheVariants.{Tick}
use Rattle.link_steps.specs.declared.replies.Entry.{Entry}
use Rattle.link_steps.specs.declared.replies.Reply.{Reply}
use Rattle.link_steps.proofs.QuietTicks.{more-quiet}
use Rattle.plane_workers.specs.Answered.{answered, entry_after, replies_along}
use Rattle.plane_workers.specs.Said.{quiets, said_in}
use Rattle.tick_plane.specs.AskedRuns.{ticks}
use Rattle.plane_workers.specs.declared.lane.Said.{Said}
use Rattle.plane_workers.specs.declared.lane.Said.TheVariants.{Quiet, Replied}

-- ---- numbers of them

pub quiets-both : (t m n : ℕ) → quiets t (m + n) ≡ quiets t m ++ quiets (t + m) n
unfolding quiets
quiets-both t zero n = (let all : 0 + n ≡ n = omega arith in let same : t ≡ t + 0 = omega arith in ap (quiets t) all ∙ ap (λ k. quiets k n) same)
quiets-both t (suc m) n =
    let all : suc m + n ≡ suc (m + n) = omega arith in
    let same : suc t + m ≡ t + suc m = omega arith in
    ap (quiets t) all ∙ ap (λ rs. quiet_reply t ∷ rs) (quiets-both (suc t) m n) ∙ ap (λ k. quiet_reply t ∷ (quiets (suc t) m ++ quiets k n)) same

quiets-one : (t : ℕ) → quiets t 1 ≡ quiet_reply t ∷ []
unfolding quiets
quiets-one t = refl

pub one-quiet : (t : ℕ) → quiets t 1 ≡ quiet_reply t ∷ []
one-quiet t = quiets-one t

quiets-last : (t n : ℕ) → quiets t (suc n) ≡ quiets t n ++ quiet_reply (t + n) ∷ []
quiets-last t n = (let more : suc n ≡ n + 1 = omega arith in ap (quiets t) more ∙ quiets-both t n 1 ∙ ap (λ rs. quiets t n ++ rs) (quiets-one (t + n)))

pub ticks-both : (m n : ℕ) → ticks (m + n) ≡ ticks m ++ ticks n
unfolding ticks
ticks-both zero n = (let all : 0 + n ≡ n = omega arith in ap ticks all)
ticks-both (suc m) n = (let all : suc m + n ≡ suc (m + n) = omega arith in ap ticks all ∙ ap (λ asks. Tick ∷ asks) (ticks-both m n))

pub ticks-one : ticks 1 ≡ Tick ∷ []
unfolding ticks
ticks-one = refl

pub ticks-last : (n : ℕ) → ticks (suc n) ≡ ticks n ++ Tick ∷ []
ticks-last n = (let more : suc n ≡ n + 1 = omega arith in ap ticks more ∙ ticks-both n 1 ∙ ap (λ asks. ticks n ++ asks) ticks-one)

pub ticks-first : (n : ℕ) (asks : List Ask) → ticks (suc n) ++ asks ≡ Tick ∷ (ticks n ++ asks)
unfolding ticks
ticks-first n asks = refl

pub quiets-first : (t n : ℕ) (rest : List Reply) → quiets t (suc n) ++ rest ≡ quiet_reply t ∷ (quiets (suc t) n ++ rest)
unfolding quiets
quiets-first t n rest = refl

pub no-ticks : (asks : List Ask) → ticks 0 ++ asks ≡ asks
unfolding ticks
no-ticks asks = refl

pub no-quiets : (t : ℕ) (rest : List Reply) → quiets t 0 ++ rest ≡ rest
unfolding quiets
no-quiets t rest = refl

-- ---- what is kept

pub said-both : (xs ys : List Said) → said_in (xs ++ ys) ≡ said_in xs ++ said_in ys
unfolding said_in
said-both [] ys = refl
said-both (Quiet run ∷ xs) ys = ap (λ rs. quiets run.clock run.ticks ++ rs) (said-both xs ys) ∙ sym (append_assoc (quiets run.clock run.ticks) (said_in xs) (said_in ys))
said-both (Replied reply ∷ xs) ys = ap (λ rs. reply ∷ rs) (said-both xs ys)

-- ---- asks in two parts

pub answered-both : (link : Link) (h : List Entry) (xs ys : List Ask) → answered link h (xs ++ ys) ≡ answered link (answered link h xs) ys
unfolding answered
answered-both link h [] ys = refl
answered-both link h (x ∷ xs) ys = answered-both link (entry_after link h x ∷ h) xs ys

pub replies-both : (link : Link) (h : List Entry) (xs ys : List Ask) → replies_along link h (xs ++ ys) ≡ replies_along link h xs ++ replies_along link (answered link h xs) ys
unfolding answered replies_along
replies-both link h [] ys = refl
replies-both link h (x ∷ xs) ys = ap (λ rs. reply_to link h x ∷ rs) (replies-both link (entry_after link h x ∷ h) xs ys)

-- ---- the ticks of a link that rests

one-answered : (link : Link) (h : List Entry) (ask : Ask) → answered link h (ask ∷ []) ≡ entry_after link h ask ∷ h
unfolding answered
one-answered link h ask = refl

one-replied : (link : Link) (h : List Entry) (ask : Ask) → replies_along link h (ask ∷ []) ≡ reply_to link h ask ∷ []
unfolding replies_along
one-replied link h ask = refl

none-quiet : (link : Link) (t : ℕ) (h : List Entry) → answered link h (ticks 0) ≡ quiet_ticks 0 t h
unfolding answered ticks quiet_ticks
none-quiet link t h = refl

abbrev IsQuiet : Link → ℕ → ℕ → List Entry → Type 0
IsQuiet link t n h = (m : ℕ) → m < n → quiet_reply (t + m) ≡ reply_to link (quiet_ticks m t h) Tick

pub ticks-answered : (link : Link) (t n : ℕ) (h : List Entry) → IsQuiet link t n h → answered link h (ticks n) ≡ quiet_ticks n t h
ticks-answered link t zero h quiet = none-quiet link t h
ticks-answered link t (suc n) h quiet =
    let before = ticks-answered link t n h (λ m less. quiet m (omega (arith, less))) in
    ap (answered link h) (ticks-last n) ∙ answered-both link h (ticks n) (Tick ∷ []) ∙ one-answered link (answered link h (ticks n)) Tick
    ∙ ap (λ k. entry_after link k Tick ∷ k) before
    ∙ ap (λ r. record { ask = Tick; reply = r } ∷ quiet_ticks n t h) (sym (quiet n (omega arith)))
    ∙ more-quiet t n h

none-told : (link : Link) (t : ℕ) (h : List Entry) → replies_along link h (ticks 0) ≡ quiets t 0
unfolding replies_along ticks quiets
none-told link t h = refl

pub ticks-replied : (link : Link) (t n : ℕ) (h : List Entry) → IsQuiet link t n h → replies_along link h (ticks n) ≡ quiets t n
ticks-replied link t zero h quiet = none-told link t h
ticks-replied link t (suc n) h quiet =
    let before = ticks-replied link t n h (λ m less. quiet m (omega (arith, less))) in
    let at = ticks-answered link t n h (λ m less. quiet m (omega (arith, less))) in
    ap (replies_along link h) (ticks-last n) ∙ replies-both link h (ticks n) (Tick ∷ []) ∙ ap (λ rs. rs ++ replies_along link (answered link h (ticks n)) (Tick ∷ [])) before
    ∙ ap (λ rs. quiets t n ++ rs) (one-replied link (answered link h (ticks n)) Tick ∙ ap (λ k. reply_to link k Tick ∷ []) at ∙ ap (λ r. r ∷ []) (sym (quiet n (omega arith))))
    ∙ sym (quiets-last t n)

pub quiets-long : (t n : ℕ) → length (quiets t n) ≡ n
unfolding quiets
quiets-long t zero = refl
quiets-long t (suc n) = ap suc (quiets-long (suc t) n)

pub ticks-long : (n : ℕ) → length (ticks n) ≡ n
unfolding ticks
ticks-long zero = refl
ticks-long (suc n) = ap suc (ticks-long n)

-- the first of them, and then the others
pub quiet-front : (t m : ℕ) (h : List Entry) → quiet_ticks m (suc t) (record { ask = Tick; reply = quiet_reply t } ∷ h) ≡ quiet_ticks (suc m) t h
unfolding quiet_ticks
quiet-front t zero h = (let same : t ≡ t + 0 = omega arith in ap (λ k. record { ask = Tick; reply = quiet_reply k } ∷ h) same)
quiet-front t (suc m) h =
    let same : suc t + m ≡ t + suc m = omega arith in
    ap (λ k. record { ask = Tick; reply = quiet_reply k } ∷ quiet_ticks m (suc t) (record { ask = Tick; reply = quiet_reply t } ∷ h)) same
    ∙ ap (λ past. record { ask = Tick; reply = quiet_reply (t + suc m) } ∷ past) (quiet-front t m h)
