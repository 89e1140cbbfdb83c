-- Before a channel's first submit at a link the plan of its row is empty, and the row of a later hop never has one.
use Rattle.std.proofs.Common.{◌≡◌, ℕ, Bool, true, false, List, [], ◌∷◌, Some, refl, sym, ap, ◌∙◌}
use Rattle.std.proofs.lemmas.Bool.{eqb-true, and_parts}
use Rattle.std.specs.Prelude.{find, nat_eq}
use Rattle.net_units.specs.Numbers.{channel_number}
use Rattle.link_steps.specs.declared.asks.Ask.{Ask}
use Rattle.link_steps.specs.declared.asks.Ask.TheVariants.{Submit}
use Rattle.link_steps.specs.declared.replies.Entry.{Entry}
use Rattle.link_steps.specs.declared.replies.Reply.{Reply}
use Rattle.link_steps.specs.declared.replies.Reply.TheVariants as Is
use Rattle.link_steps.specs.declared.shape.LinkShape.{LinkShape}
use Rattle.link_steps.specs.Lists.{Each}
use Rattle.link_steps.specs.Rows.{Row, SourcePacket, made_by}
use Rattle.link_steps.specs.Scan.{Scan, clock_of, scan_of, is_row_at_hop}
use Rattle.link_steps.specs.Reservation.{is_same}
use Rattle.net_units.specs.declared.numbers.ChanNo.{ChanNo}
use Rattle.channel_laws.proofs.ChannelRows.{find-passes}
use Rattle.link_steps.proofs.SearchAndFilter.{Each-find}
use Rattle.channel_laws.specs.Channels.{channel_of}
use Rattle.channel_laws.specs.Unsent.{IsUnsent, NoneSent}
use Rattle.channel_laws.proofs.PlanLaw.{On, IsPlanLaw, SubmitKeeps, after-keeps}

abbrev EmptyIf : ℕ → ℕ → ℕ → Bool → List SourcePacket → Type 0
EmptyIf c t own b plan = own ≡ c → plan ≡ []

empty-law : (c : ℕ) → IsPlanLaw (EmptyIf c)
empty-law c = record {
  later = λ t own b plan empty. empty;
  fresh = λ t own b same. refl;
  made = λ t own b plan empty same. ap (made_by t) (empty same);
}

empty-submits : (c t : ℕ) (scan : Scan) (ask : Ask) (reply : Reply) → IsUnsent c ask → SubmitKeeps (EmptyIf c) t scan ask reply
empty-submits c t scan (Submit chan count gap size) (Is.Planned clock) other = λ row found empty same. absurd (other (at-chan row found ∙ same)) where
  at-chan : (row : Row) → find (is_row_at_hop chan true) scan.rows ≡ Some row → channel_number chan ≡ channel_of row
  at-chan row found = sym (eqb-true (channel_of row) (channel_number chan) (and_parts (nat_eq (channel_of row) (channel_number chan)) _ (find-passes (is_row_at_hop chan true) row scan.rows found)).0)
empty-submits c t scan _ _ other = tt

unsent-empty : (shape : LinkShape) (c : ℕ) (h : List Entry) → NoneSent c h → Each (On (EmptyIf c) (clock_of h)) (scan_of shape h).rows
unfolding scan_of clock_of
unsent-empty shape c [] none = tt
unsent-empty shape c (e ∷ past) none = after-keeps (EmptyIf c) (empty-law c) shape (clock_of past) (scan_of shape past) e.ask e.reply (empty-submits c (clock_of past) (scan_of shape past) e.ask e.reply none.0) (unsent-empty shape c past none.1)

-- its row at a first hop has no plan
pub unsent-left : (shape : LinkShape) (chan : ChanNo) (h : List Entry) (row : Row) → NoneSent (channel_number chan) h → find (is_row_at_hop chan true) (scan_of shape h).rows ≡ Some row → row.plan ≡ []
unsent-left shape chan h row none found =
    let own : channel_of row ≡ channel_number chan = eqb-true (channel_of row) (channel_number chan) (and_parts (nat_eq (channel_of row) (channel_number chan)) _ (find-passes (is_row_at_hop chan true) row (scan_of shape h).rows found)).0 in
    Each-find (On (EmptyIf (channel_number chan)) (clock_of h)) (is_row_at_hop chan true) (scan_of shape h).rows row (unsent-empty shape (channel_number chan) h none) found own

pub row-at-hop : (chan : ChanNo) (row : Row) (rows : List Row) → find (is_row_at_hop chan true) rows ≡ Some row → channel_of row ≡ channel_number chan
row-at-hop chan row rows found = eqb-true (channel_of row) (channel_number chan) (and_parts (nat_eq (channel_of row) (channel_number chan)) _ (find-passes (is_row_at_hop chan true) row rows found)).0

-- ---- a later hop has no plan

abbrev pub LaterEmpty : ℕ → ℕ → Bool → List SourcePacket → Type 0
LaterEmpty t own b plan = b ≡ false → plan ≡ []

later-law : IsPlanLaw LaterEmpty
later-law = record {
  later = λ t own b plan empty. empty;
  fresh = λ t own b same. refl;
  made = λ t own b plan empty same. ap (made_by t) (empty same);
}

first-same : (b : Bool) → is_same b true ≡ true → b ≡ true
first-same true same = refl
first-same false same = cc

later-submits : (t : ℕ) (scan : Scan) (ask : Ask) (reply : Reply) → SubmitKeeps LaterEmpty t scan ask reply
later-submits t scan (Submit chan count gap size) (Is.Planned clock) = λ row found empty same. absurd (let first : row.terms.first ≡ true = first-same row.terms.first (and_parts (nat_eq (channel_of row) (channel_number chan)) (is_same row.terms.first true) (find-passes (is_row_at_hop chan true) row scan.rows found)).1 in let clash : true ≡ false = sym first ∙ same in cc)
later-submits t scan _ _ = tt

pub later-empty : (shape : LinkShape) (h : List Entry) → Each (On LaterEmpty (clock_of h)) (scan_of shape h).rows
unfolding scan_of clock_of
later-empty shape [] = tt
later-empty shape (e ∷ past) = after-keeps LaterEmpty later-law shape (clock_of past) (scan_of shape past) e.ask e.reply (later-submits (clock_of past) (scan_of shape past) e.ask e.reply) (later-empty shape past)
