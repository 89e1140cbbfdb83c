-- What `put_all` keeps while it writes a piece.
use Rattle.std.proofs.Common.{◌≡◌, ℕ, ◌+◌, ◌≤◌, List, length, take, drop, length-drop, sym, subst, arith}
use Rattle.std.specs.Prelude.{Option}
use Rattle.std.specs.Io.KnownBytes.{Appends}
use Rattle.std.proofs.KnownBytes.{Appends-trans}
use Rattle.std.proofs.Math.Seq.{take-add}
use Rattle.byte_ends.specs.Writing.{Puts}

-- the first `count` bytes of the piece were written
pub record PutSoFar (count : ℕ) (piece : List ℕ) (written written' : Option (List ℕ)) (faults faults' : ℕ) : Type 0 where
  pub within : count ≤ length piece
  pub appends : Appends written written' (take count piece)
  pub counts : faults ≤ faults'

-- one more write takes the next bytes of the piece, of which `rest` is what is left
pub PutSoFar-more : (done count : ℕ) (piece rest : List ℕ) (a b c : Option (List ℕ)) (f g h : ℕ) → rest ≡ drop done piece
    → PutSoFar done piece a b f g → Puts count b c rest g h → PutSoFar (done + count) piece a c f h
PutSoFar-more done count piece rest a b c f g h is_rest so_far more_of_rest =
    let more = rw is_rest at more_of_rest in
    record {
      within = omega (arith, so_far.within, more.fits, length-drop done piece);
      appends = subst (λ l. Appends a c l) (sym (take-add done count piece)) (Appends-trans a b c _ _ so_far.appends more.appends);
      counts = omega (arith, so_far.counts, more.counts);
    }
