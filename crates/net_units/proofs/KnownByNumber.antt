-- A link, an actor, a channel and a level are each known by their number: two of one number are the same.
use Rattle.std.proofs.Common.{◌≡◌, ◌<◌, ◌≤◌}
use Rattle.std.proofs.Math.Bridge.{le_prop}
use mathlib.Core.HLevel.{is_prop→PathP}
use Rattle.net_units.specs.Numbers.{link_number, actor_number, channel_number, level_number}
use Rattle.net_units.specs.declared.numbers.LinkNo.{LinkNo}
use Rattle.net_units.specs.declared.numbers.ActorNo.{ActorNo}
use Rattle.net_units.specs.declared.numbers.ChanNo.{ChanNo}
use Rattle.net_units.specs.declared.numbers.Level.{Level}

pub same-link : (a b : LinkNo) → link_number a ≡ link_number b → a ≡ b
same-link a b same = λ i. record { number = same i; small = is_prop→PathP (λ j. same j < 32) (λ j. le_prop) a.small b.small i }

pub same-actor : (a b : ActorNo) → actor_number a ≡ actor_number b → a ≡ b
same-actor a b same = λ i. record { number = same i; small = is_prop→PathP (λ j. same j < 65) (λ j. le_prop) a.small b.small i }

pub same-channel : (a b : ChanNo) → channel_number a ≡ channel_number b → a ≡ b
same-channel a b same = λ i. record { number = same i; small = is_prop→PathP (λ j. same j < 1048576) (λ j. le_prop) a.small b.small i }

pub same-level : (a b : Level) → level_number a ≡ level_number b → a ≡ b
same-level a b same = λ i. record {
  number = same i;
  least = is_prop→PathP (λ j. 1 ≤ same j) (λ j. le_prop) a.least b.least i;
  most = is_prop→PathP (λ j. same j ≤ 8) (λ j. le_prop) a.most b.most i;
}
