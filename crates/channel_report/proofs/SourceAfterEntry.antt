-- What is kept of a source after what an entry does for it.
use Rattle.std.proofs.Common.{◌≡◌, ℕ, ◌+◌, List, ◌++◌, sym, ◌∙◌, ap, arith}
use Rattle.std.specs.Prelude.{filter}
use Rattle.std.proofs.lemmas.Bool.{eq-eqb}
use Rattle.std.proofs.lemmas.List.Elements.{filter-append}
use Rattle.net_units.specs.Numbers.{channel_number}
use Rattle.net_units.specs.declared.numbers.ChanNo.{ChanNo}
use Rattle.channel_report.specs.ChannelTallies.{KeepsTally, never}
use Rattle.channel_report.specs.Sources.{is_made, planned_after, refused_by, ticks_from}
use Rattle.channel_report.specs.declared.channel_tally.ChannelTally.{ChannelTally}
use Rattle.channel_report.specs.declared.source_act.Act.TheVariants.{Plans, Refuses, Cancels}
use Rattle.channel_report.proofs.PlannedTicks.{made-both}

pub keeps-planned : (number clock tick gap count refused : ℕ) (chan : ChanNo) (planned : List ℕ) (old new : ChannelTally) → channel_number chan ≡ number → KeepsTally planned refused old → new.ticks.items ≡ old.ticks.items ++ filter (is_made never) (ticks_from tick gap count) → new.refused ≡ old.refused
    → KeepsTally (planned_after number clock planned (Plans chan tick gap count)) (0 + refused) new
keeps-planned number clock tick gap count refused chan planned old new own keeps ticks same = record {
  ticks = rw (eq-eqb (channel_number chan) number own) (ticks ∙ ap (λ front. front ++ filter (is_made never) (ticks_from tick gap count)) keeps.ticks ∙ sym (filter-append (is_made never) planned (ticks_from tick gap count)));
  refuses = omega (arith, same, keeps.refuses);
}

pub keeps-refused : (number clock refused : ℕ) (chan : ChanNo) (planned : List ℕ) (old new : ChannelTally) → channel_number chan ≡ number → KeepsTally planned refused old → new.ticks.items ≡ old.ticks.items → new.refused ≡ old.refused + 1
    → KeepsTally (planned_after number clock planned (Refuses chan)) (refused_by number (Refuses chan) + refused) new
keeps-refused number clock refused chan planned old new own keeps ticks same = record {
  ticks = ticks ∙ keeps.ticks;
  refuses = rw (eq-eqb (channel_number chan) number own) (omega (arith, same, keeps.refuses));
}

pub keeps-cancelled : (number clock refused : ℕ) (chan : ChanNo) (planned : List ℕ) (old new : ChannelTally) → channel_number chan ≡ number → KeepsTally planned refused old → new.ticks.items ≡ filter (is_made clock) old.ticks.items → new.refused ≡ old.refused
    → KeepsTally (planned_after number clock planned (Cancels chan)) (0 + refused) new
keeps-cancelled number clock refused chan planned old new own keeps ticks same = record {
  ticks = rw (eq-eqb (channel_number chan) number own) (ticks ∙ ap (filter (is_made clock)) keeps.ticks ∙ made-both clock never planned);
  refuses = omega (arith, same, keeps.refuses);
}
