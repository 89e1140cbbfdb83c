-- What was written of two texts, one after the other.
use Rattle.std.proofs.Common.{◌≡◌, ℕ, ◌≤◌, Option, Result, Ok, Err, List, ◌++◌, sym, ap, ◌∙◌, subst, append_assoc, arith}
use Rattle.std.proofs.KnownBytes.{Appends-trans}
use Rattle.std.specs.Io.KnownBytes.{Appends}
use Rattle.std.specs.Prelude.{IsErrAnd}
use Rattle.byte_ends.proofs.Gathering.{part-of-longer}
use Rattle.byte_ends.specs.Gathering.{WritesPart}
use Rattle.text_writer.specs.Telling.{IsWhy, WritesText}
use Rattle.text_writer.specs.declared.fault.ReportFault.{ReportFault}
use Rattle.text_writer.specs.declared.fault.ReportFault.TheVariants as fault
use Rattle.text_writer.proofs.TextsTold.{why-later}

-- the first was written whole
pub then-written : (result : Result (Unit {0}) ReportFault) (a b c : Option (List ℕ)) (f f' f'' : ℕ) (text more : List ℕ) → Appends a b text × (f ≤ f') → WritesText result b c f' f'' more → WritesText result a c f f'' (text ++ more)
then-written (Ok done) a b c f f' f'' text more first second = (Appends-trans a b c text more first.0 second.0, omega (arith, first.1, second.1))
then-written (Err why) a b c f f' f'' text more first second = (
  record {
    front = text ++ second.0.front;
    rest = second.0.rest;
    appends = Appends-trans a b c text second.0.front first.0 second.0.appends;
    joined = append_assoc text second.0.front second.0.rest ∙ ap (λ (rest : List ℕ). text ++ rest) second.0.joined;
  },
  why-later why f f' f'' first.1 second.1,
)

-- a fault stopped the first
pub stopped-within : (result : Result (Unit {0}) ReportFault) (why : ReportFault) (a b : Option (List ℕ)) (f f' : ℕ) (text more : List ℕ) → IsErrAnd result (λ fault. fault ≡ why) → WritesPart a b text × IsWhy why f f' → WritesText result a b f f' (text ++ more)
stopped-within (Ok done) why a b f f' text more is failing = absurd is
stopped-within (Err other) why a b f f' text more is failing = (part-of-longer a b text more failing.0, subst (λ (e : ReportFault). IsWhy e f f') (sym is) failing.1)
