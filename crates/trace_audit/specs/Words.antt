-- The words by which what an audit finds is printed: `audit ok ROWS`, or `audit row N WORD`.
use Rattle.std.specs.Prelude.{ℕ, List, ◌++◌, codes}
use Rattle.std.specs.Fmt.{decimal}
use Rattle.trace_audit.specs.declared.finding.Check.{Check}
use Rattle.trace_audit.specs.declared.finding.Check.TheVariants.{Known, Order, Size, Arrive, Eligible, Bound}
use Rattle.trace_audit.specs.declared.finding.Finding.{Finding}
use Rattle.trace_audit.specs.declared.finding.Finding.TheVariants.{Sound, Fault}

abbrev pub check_word : Check → List ℕ
check_word Known = codes "known"
check_word Order = codes "order"
check_word Size = codes "size"
check_word Arrive = codes "arrive"
check_word Eligible = codes "eligible"
check_word Bound = codes "bound"

abbrev pub finding_text : Finding → List ℕ
finding_text (Sound rows) = codes "audit ok " ++ decimal rows
finding_text (Fault row word) = codes "audit row " ++ decimal row ++ codes " " ++ check_word word
