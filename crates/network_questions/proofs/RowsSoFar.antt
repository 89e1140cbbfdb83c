-- The rows of a network's requests, gathered one after another.
use Rattle.std.proofs.Common.{◌≡◌, ℕ, suc, ◌+◌, List, [], ◌∷◌, ◌++◌, length, subst, arith}
use Rattle.answer_tables.specs.declared.rows.RequestRow.{RequestRow}
use Rattle.network_files.specs.declared.network.Network.{Network}
use Rattle.network_questions.specs.Asked.{AreRowsFrom, IsRowOf}
use Rattle.network_questions.specs.declared.asking.Asking.{Asking}

pub no-rows : (network : Network) (asking : Asking) → AreRowsFrom network asking 0 []
unfolding AreRowsFrom
no-rows network asking = tt

pub rows-more : (network : Network) (asking : Asking) (n : ℕ) (rows : List RequestRow) (row : RequestRow) → AreRowsFrom network asking n rows → IsRowOf network asking (n + length rows) row
    → AreRowsFrom network asking n (rows ++ row ∷ [])
unfolding AreRowsFrom
rows-more network asking n [] row are is = (subst (λ (k : ℕ). IsRowOf network asking k row) (let same : n + 0 ≡ n = omega arith in same) is, tt)
rows-more network asking n (first ∷ rows) row are is =
    (are.0, rows-more network asking (suc n) rows row are.1 (subst (λ (k : ℕ). IsRowOf network asking k row) (let same : n + suc (length rows) ≡ suc n + length rows = omega arith in same) is))
