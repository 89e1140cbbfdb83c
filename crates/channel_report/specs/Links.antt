-- What the history of a link says of the link: its clock; how many of the channels' packets have departed; how many source packets
-- were dropped because they found no slot; and of its best-effort packets how many have departed, how many were lost, and how many
-- pours were refused.
use Rattle.std.specs.Prelude.{ℕ, ◌+◌, Bool, true, false, not, ◌&&◌, Option, Some, None, List, [], ◌∷◌, codes, nat_eq}
use Rattle.std.specs.Fmt.{decimal}
use Rattle.net_units.specs.Numbers.{link_number}
use Rattle.link_steps.specs.Scan.{clock_of}
use Rattle.link_steps.specs.declared.asks.Ask.{Ask}
use Rattle.link_steps.specs.declared.asks.Ask.TheVariants.{Pour}
use Rattle.link_steps.specs.declared.replies.Entry.{Entry}
use Rattle.link_steps.specs.declared.replies.Reply.{Reply}
use Rattle.link_steps.specs.declared.replies.Reply.TheVariants.{Ticked, Refused}
use Rattle.link_steps.specs.declared.replies.Sent.{Sent}
use Rattle.call_script.specs.Versions.{has_best_effort}
use Rattle.call_script.specs.declared.entries.LinkEntry.{LinkEntry}
use Rattle.call_script.specs.declared.version.Version.{Version}
use Rattle.run_record.specs.Runs.{part_of}
use Rattle.run_record.specs.declared.done.Done.{Done}
use Rattle.text_writer.specs.Lines.{whole_line}

-- ---- counts

abbrev pub one_if : Bool → ℕ
one_if true = 1
one_if false = 0

-- how many of the channels' packets leave in an entry
abbrev pub one_if_some : Option Sent → ℕ
one_if_some None = 0
one_if_some (Some sent) = 1

abbrev pub sent_by : Reply → ℕ
sent_by (Ticked clock full sent best_sent best_lost) = one_if_some sent
sent_by _ = 0

-- how many source packets are dropped
abbrev pub dropped_by : Reply → ℕ
dropped_by (Ticked clock full sent best_sent best_lost) = full
dropped_by _ = 0

-- how many best-effort packets leave, and are lost
abbrev pub best_sent_by : Reply → ℕ
best_sent_by (Ticked clock full sent best_sent best_lost) = one_if best_sent
best_sent_by _ = 0

abbrev pub best_lost_by : Reply → ℕ
best_lost_by (Ticked clock full sent best_sent best_lost) = one_if best_lost
best_lost_by _ = 0

-- whether an ask is for best-effort packets, and how many of these are refused
abbrev pub asks_best : Ask → Bool
asks_best (Pour count gap size) = true
asks_best _ = false

abbrev pub pours_refused_by : Ask → Reply → ℕ
pours_refused_by ask (Refused refusal) = one_if (asks_best ask)
pours_refused_by ask _ = 0

-- the sum over a history
unfoldable pub total_in : (Entry → ℕ) → List Entry → ℕ
total_in count [] = 0
total_in count (e ∷ past) = count e + total_in count past

abbrev pub sent_in : List Entry → ℕ
sent_in = total_in (λ e. sent_by e.reply)

abbrev pub dropped_in : List Entry → ℕ
dropped_in = total_in (λ e. dropped_by e.reply)

abbrev pub best_sent_in : List Entry → ℕ
best_sent_in = total_in (λ e. best_sent_by e.reply)

abbrev pub best_lost_in : List Entry → ℕ
best_lost_in = total_in (λ e. best_lost_by e.reply)

abbrev pub pours_refused_in : List Entry → ℕ
pours_refused_in = total_in (λ e. pours_refused_by e.ask e.reply)

-- ---- the line

-- best P lost X refused Y, of a link with best-effort packets
abbrev pub best_words : Bool → List Entry → List (List ℕ)
best_words false h = []
best_words true h = codes "best" ∷ decimal (best_sent_in h) ∷ codes "lost" ∷ decimal (best_lost_in h) ∷ codes "refused" ∷ decimal (pours_refused_in h) ∷ []

-- whether the plan's version has best-effort packets, and the link takes some
abbrev pub takes_best : Version → LinkEntry → Bool
takes_best version entry = has_best_effort version && not (nat_eq entry.shape.best 0)

-- link NAME clock C sent S full G, and best P lost X refused Y
abbrev pub told_link : List ℕ → Bool → List Entry → List ℕ
told_link name best h = whole_line (
    codes "link" ∷ name
    ∷ codes "clock" ∷ decimal (clock_of h)
    ∷ codes "sent" ∷ decimal (sent_in h)
    ∷ codes "full" ∷ decimal (dropped_in h)
    ∷ best_words best h)

abbrev pub link_line : Version → List Done → LinkEntry → List ℕ
link_line version run entry = told_link entry.name (takes_best version entry) (part_of (link_number entry.shape.link) run)
