-- What a read of bytes in memory does to them.
use Rattle.std.proofs.Common.{ℕ, List, Some, take-append-drop, sym, arith}
use Rattle.byte_ends.specs.Reading.{Takes}
use Rattle.byte_ends.specs.Supply.{Supply, Supplied}

-- a read that a supply answers is one of a source that tells its bytes
pub Takes-supplied : (n f : ℕ) (s t : Supply) (room : List ℕ) → Supplied n s t room → Takes n (Some s.left) (Some t.left) room f f
Takes-supplied n f s t room h =
    record {
      some = h.some;
      fits = omega (arith, h.count);
      moves = rw (h.rest, h.moved) (sym (take-append-drop n s.left));
      counts = omega arith;
    }
