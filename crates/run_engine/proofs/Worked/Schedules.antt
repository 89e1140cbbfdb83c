-- Worked schedules, computed from the definitions: the turns of items that are spelled out, and where a schedule asks too much.
use Rattle.std.proofs.Common.{◌≡◌, ℕ, [], ◌∷◌, refl}
use Rattle.run_engine.proofs.Words.{Do, ActorNo}
use Rattle.run_engine.specs.schedules.Schedules.{lined_turns, repeated, turns_of, turn_of}
use Rattle.run_engine.proofs.Worked.Networks.{k1, k2, plane}
use Rattle.run_engine.proofs.Worked.Setups.{in_turn}

-- do ACTOR COUNT, on this line
abbrev item : ℕ → ActorNo → ℕ → Do
item line actor count = record { line = line; actor = actor; count = count }

-- one step each, three times over
ring-turns : turns_of (item 7 k1 1 ∷ item 8 k2 1 ∷ item 9 k1 1 ∷ item 10 k2 1 ∷ item 11 k1 1 ∷ item 12 k2 1 ∷ []) ≡ in_turn
unfolding lined_turns repeated
ring-turns = refl

-- an item is as many turns in a row, and each tells its line
runs-of-turns : turns_of (item 7 k1 2 ∷ item 8 plane 3 ∷ item 9 k2 1 ∷ []) ≡ k1 ∷ k1 ∷ plane ∷ plane ∷ plane ∷ k2 ∷ []
unfolding lined_turns repeated
runs-of-turns = refl

lines-of-turns : lined_turns (item 7 k1 2 ∷ item 8 plane 1 ∷ []) ≡ turn_of (item 7 k1 2) ∷ turn_of (item 7 k1 2) ∷ turn_of (item 8 plane 1) ∷ []
unfolding lined_turns repeated
lines-of-turns = refl
