-- The counts of a link after one more entry, and how large they are.
use Rattle.std.proofs.Common.{◌≡◌, ℕ, ◌+◌, ◌^◌, ◌<◌, ◌≤◌, Bool, true, false, Option, Some, None, is_some, List, [], ◌∷◌, length, refl, sym, ap, subst, ◌∙◌, arith}
use Rattle.net_units.specs.declared.numbers.LinkNo.{LinkNo}
use Rattle.link_steps.specs.declared.asks.Ask.{Ask}
use Rattle.link_steps.specs.declared.asks.Ask.TheVariants.{Arrive}
use Rattle.link_steps.specs.declared.asks.Packet.{Packet}
use Rattle.link_steps.specs.declared.replies.Entry.{Entry}
use Rattle.link_steps.specs.declared.replies.Reply.{Reply}
use Rattle.link_steps.specs.declared.replies.Reply.TheVariants as Is
use Rattle.link_steps.specs.declared.replies.Refusal.{Refusal}
use Rattle.link_steps.specs.declared.replies.Sent.{Sent}
use Rattle.link_steps.specs.Scan.{clock_of, clock_with}
use Rattle.run_record.specs.Rows.{rows_by}
use Rattle.run_record.specs.declared.done.Done.{Done}
use Rattle.channel_report.specs.Links.{one_if, one_if_some, asks_best, sent_by, dropped_by, best_sent_by, best_lost_by, pours_refused_by, total_in}
use Rattle.channel_report.specs.Tallies.{IsTally}
use Rattle.channel_report.specs.TellsNothing.{TellsNothing}
use Rattle.channel_report.specs.declared.link_tally.LinkTally.{LinkTally}
use Rattle.link_steps.proofs.ClockAdvances.{clock_of-most}

total-most : (count : Entry → ℕ) → ((e : Entry) → count e ≤ 1) → (h : List Entry) → total_in count h ≤ length h
unfolding total_in
total-most count one [] = omega arith
total-most count one (e ∷ past) = omega (arith, one e, total-most count one past)

pub one-most : (b : Bool) → one_if b ≤ 1
one-most true = omega arith
one-most false = omega arith

some-most : (reply : Reply) → sent_by reply ≤ 1
some-most (Is.Ticked clock full (Some sent) best_sent best_lost) = omega arith
some-most _ = omega arith

best-sent-most : (reply : Reply) → best_sent_by reply ≤ 1
best-sent-most (Is.Ticked clock full sent best_sent best_lost) = one-most best_sent
best-sent-most _ = omega arith

best-lost-most : (reply : Reply) → best_lost_by reply ≤ 1
best-lost-most (Is.Ticked clock full sent best_sent best_lost) = one-most best_lost
best-lost-most _ = omega arith

refused-most : (ask : Ask) (reply : Reply) → pours_refused_by ask reply ≤ 1
refused-most ask (Is.Refused refusal) = one-most (asks_best ask)
refused-most ask _ = omega arith

abbrev tally : ℕ → ℕ → ℕ → ℕ → ℕ → ℕ → LinkTally
tally clock sent dropped best_sent best_lost pours = record { clock = clock; sent = sent; dropped = dropped; best_sent = best_sent; best_lost = best_lost; pours_refused = pours }

-- the counts of a short history are small
pub record AreSmall (tally : LinkTally) : Type 0 where
  pub clock : tally.clock < 2 ^ 60
  pub sent : tally.sent < 2 ^ 60
  pub best_sent : tally.best_sent < 2 ^ 60
  pub best_lost : tally.best_lost < 2 ^ 60
  pub pours_refused : tally.pours_refused < 2 ^ 60

pub are-small : (h : List Entry) (tally : LinkTally) → IsTally h tally → length h < 2 ^ 60 → AreSmall tally
are-small h tally is short = record {
  clock = omega (arith, ap (λ (t : LinkTally). t.clock) is.is, clock_of-most h, short);
  sent = omega (arith, ap (λ (t : LinkTally). t.sent) is.is, total-most (λ e. sent_by e.reply) (λ e. some-most e.reply) h, short);
  best_sent = omega (arith, ap (λ (t : LinkTally). t.best_sent) is.is, total-most (λ e. best_sent_by e.reply) (λ e. best-sent-most e.reply) h, short);
  best_lost = omega (arith, ap (λ (t : LinkTally). t.best_lost) is.is, total-most (λ e. best_lost_by e.reply) (λ e. best-lost-most e.reply) h, short);
  pours_refused = omega (arith, ap (λ (t : LinkTally). t.pours_refused) is.is, total-most (λ e. pours_refused_by e.ask e.reply) (λ e. refused-most e.ask e.reply) h, short);
}

one-tally : (a b c d e f a' b' c' d' e' f' : ℕ) → a ≡ a' → b ≡ b' → c ≡ c' → d ≡ d' → e ≡ e' → f ≡ f'
    → tally a b c d e f ≡ tally a' b' c' d' e' f'
one-tally a b c d e f a' b' c' d' e' f' p q r s t u = rw (p, q, r, s, t, u) refl

-- the counts with one entry more
pub tally-more : (h : List Entry) (ask : Ask) (reply : Reply) (old : LinkTally) (clock sent dropped best_sent best_lost pours : ℕ) → IsTally h old → clock ≡ clock_with ask old.clock → sent ≡ old.sent + sent_by reply → dropped ≡ old.dropped + dropped_by reply → dropped_by reply < 4294967296
    → best_sent ≡ old.best_sent + best_sent_by reply → best_lost ≡ old.best_lost + best_lost_by reply → pours ≡ old.pours_refused + pours_refused_by ask reply → IsTally (record { ask = ask; reply = reply } ∷ h) (tally clock sent dropped best_sent best_lost pours)
unfolding total_in clock_of
tally-more h ask reply old clock sent dropped best_sent best_lost pours is clocks sents drops few bests losts poured = record {
  is = one-tally clock sent dropped best_sent best_lost pours _ _ _ _ _ _
      (clocks ∙ ap (λ (t : LinkTally). clock_with ask t.clock) is.is)
      (omega (arith, sents, ap (λ (t : LinkTally). t.sent) is.is))
      (omega (arith, drops, ap (λ (t : LinkTally). t.dropped) is.is))
      (omega (arith, bests, ap (λ (t : LinkTally). t.best_sent) is.is))
      (omega (arith, losts, ap (λ (t : LinkTally). t.best_lost) is.is))
      (omega (arith, poured, ap (λ (t : LinkTally). t.pours_refused) is.is));
  few = omega (arith, drops, few, is.few);
}

-- ---- by what is replied

some-one : (sent : Option Sent) → one_if (is_some sent) ≡ one_if_some sent
some-one None = refl
some-one (Some sent) = refl

pub tally-ticked : (h : List Entry) (ask : Ask) (reply : Reply) (old : LinkTally) (t full : ℕ) (left : Option Sent) (best lost : Bool) (clock sent dropped best_sent best_lost : ℕ) → IsTally h old → reply ≡ Is.Ticked t full left best lost → clock ≡ clock_with ask old.clock → sent ≡ old.sent + one_if (is_some left) → dropped ≡ old.dropped + full
    → full < 4294967296 → best_sent ≡ old.best_sent + one_if best → best_lost ≡ old.best_lost + one_if lost → IsTally (record { ask = ask; reply = reply } ∷ h) (tally clock sent dropped best_sent best_lost old.pours_refused)
tally-ticked h ask reply old t full left best lost clock sent dropped best_sent best_lost is told clocks sents drops few bests losts =
    subst (λ (r : Reply). IsTally (record { ask = ask; reply = r } ∷ h) (tally clock sent dropped best_sent best_lost old.pours_refused)) (sym told)
    (tally-more h ask (Is.Ticked t full left best lost) old clock sent dropped best_sent best_lost old.pours_refused is clocks (sents ∙ ap (λ n. old.sent + n) (some-one left)) drops few bests losts (omega arith))

pub tally-refused : (h : List Entry) (ask : Ask) (reply : Reply) (old : LinkTally) (refusal : Refusal) (clock pours : ℕ) → IsTally h old → reply ≡ Is.Refused refusal → clock ≡ clock_with ask old.clock → pours ≡ old.pours_refused + one_if (asks_best ask)
    → IsTally (record { ask = ask; reply = reply } ∷ h) (tally clock old.sent old.dropped old.best_sent old.best_lost pours)
tally-refused h ask reply old refusal clock pours is told clocks poured =
    subst (λ (r : Reply). IsTally (record { ask = ask; reply = r } ∷ h) (tally clock old.sent old.dropped old.best_sent old.best_lost pours)) (sym told)
    (tally-more h ask (Is.Refused refusal) old clock old.sent old.dropped old.best_sent old.best_lost pours is clocks (omega arith) (omega arith) (omega arith) (omega arith) (omega arith) poured)

pub tally-else : (h : List Entry) (ask : Ask) (reply : Reply) (old : LinkTally) (clock : ℕ) → IsTally h old → ((t full : ℕ) (left : Option Sent) (best lost : Bool) → reply ≡ Is.Ticked t full left best lost → ⊥) → ((refusal : Refusal) → reply ≡ Is.Refused refusal → ⊥) → clock ≡ clock_with ask old.clock
    → IsTally (record { ask = ask; reply = reply } ∷ h) (tally clock old.sent old.dropped old.best_sent old.best_lost old.pours_refused)
tally-else h ask (Is.Ticked t full left best lost) old clock is no_tick no_refusal clocks = absurd (no_tick t full left best lost refl)
tally-else h ask (Is.Refused refusal) old clock is no_tick no_refusal clocks = absurd (no_refusal refusal refl)
tally-else h ask reply old clock is no_tick no_refusal clocks = tally-more h ask reply old clock old.sent old.dropped old.best_sent old.best_lost old.pours_refused is clocks (omega arith) (omega arith) (omega arith) (omega arith) (omega arith) (omega arith)

-- ---- a step that tells nothing

pub tally-same : (h : List Entry) (ask : Ask) (reply : Reply) (old : LinkTally) → TellsNothing ask reply → IsTally h old → IsTally (record { ask = ask; reply = reply } ∷ h) old
tally-same h ask reply old nothing is =
    tally-more h ask reply old old.clock old.sent old.dropped old.best_sent old.best_lost old.pours_refused is (sym (nothing.clock old.clock)) (omega (arith, nothing.sent)) (omega (arith, nothing.dropped)) (omega (arith, nothing.dropped))
    (omega (arith, nothing.best_sent)) (omega (arith, nothing.best_lost)) (omega (arith, nothing.pours))

-- no pour is refused
pub no-pours : (ask : Ask) (reply : Reply) → asks_best ask ≡ false → pours_refused_by ask reply ≡ 0
no-pours ask (Is.Refused refusal) none = ap one_if none
no-pours ask _ none = refl

-- an arrival is one, whose reply tells no tick
pub arrival-nothing : (packet : Packet) (reply : Reply) → sent_by reply ≡ 0 → dropped_by reply ≡ 0 → best_sent_by reply ≡ 0 → best_lost_by reply ≡ 0 → ((run : List Done) (link : LinkNo) → rows_by run link reply ≡ []) → TellsNothing (Arrive packet) reply
arrival-nothing packet reply sent dropped best_sent best_lost rows = record {
  clock = λ t. refl;
  sent = sent;
  dropped = dropped;
  best_sent = best_sent;
  best_lost = best_lost;
  pours = no-pours (Arrive packet) reply refl;
  source = refl;
  offer = refl;
  rows = rows;
}
