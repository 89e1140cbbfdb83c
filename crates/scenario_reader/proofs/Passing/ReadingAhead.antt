-- Before the first line, what is ahead comes to what all bytes come to, and so it does after each line.
use Rattle.std.proofs.Common.{◌≡◌, ◌≢◌, ℕ, suc, Bool, false, List, [], ◌∷◌, ◌++◌, Option, Some, None, IfSome, Ok, Err, refl, arith, true, ◌+◌, ◌∙◌, ap, ap₂, subst, sym, append_assoc}
use Rattle.std.proofs.KnownBytes.{Consumes-nil, Consumes-trans}
use Rattle.std.proofs.lemmas.List.{length-append}
use Rattle.std.proofs.lemmas.List.Elements.{All-take}
use Rattle.std.proofs.lemmas.Option.{same_Some}
use Rattle.std.proofs.lemmas.Result.{err_from_is_err_and}
use Rattle.std.specs.Prelude.{IsErrAnd, Result}
use Rattle.byte_ends.specs.Answers.{AnswersEnd, AnswersLine, AnswersNoLineEnd, AnswersReadFault, AnswersTooLong, Foretells as BeforeLine, outlook_before}
use Rattle.byte_ends.specs.Cutting.{Cutting, IsCutting, IsOf, allowance, ahead as bytes_ahead}
use Rattle.byte_ends.specs.WholeLines.{Outlook, feed, all_given, outlook, whole_lines}
use Rattle.byte_ends.specs.declared.lines.Cut.TheVariants.{End, Line}
use Rattle.byte_ends.specs.declared.lines.LineRefusal.TheVariants.{NoLineEnd, TooLong as LineTooLong}
use Rattle.byte_ends.proofs.Outlooks.{whole_lines-line, whole_lines-none, allowance-line}
use Rattle.call_script.specs.Parts.{PlanParts}
use Rattle.call_script.specs.declared.schedule.Schedule.{Schedule}
use Rattle.scenario_reader.specs.Causes.{unless}
use Rattle.scenario_reader.specs.Drafts.{Said, is_complete, parts_said, schedule_said}
use Rattle.scenario_reader.specs.Reading.{PlanRead, at_end, passes_and, are_let_pass, PassesFrom}
use Rattle.scenario_reader.specs.ReadSteps.{AddsLine, RefusedAs, RefusesLine, end_rule, IsByLine, Language, ahead, judged_on, whole, Foretells, PassesOn, StopsPassing, TakesOneTooMany, TakesTooMany, ComesToEnd, ReadsOn, ReadsLine, Refuses, TellsLines}
use Rattle.scenario_reader.specs.Words.{cause_of}
use Rattle.scenario_reader.specs.declared.cause.Cause.{Cause}
use Rattle.scenario_reader.specs.declared.cause.LineCause.{LineCause}
use Rattle.scenario_reader.specs.declared.cause.LineCause.TheVariants as cause
use Rattle.scenario_reader.specs.declared.reader.ReadRefusal.{ReadRefusal}
use Rattle.scenario_reader.specs.declared.reader.ReadRefusal.TheVariants as refusal
use Rattle.scenario_reader.specs.declared.reader.TheConstants.{MOST_BYTES}

-- no byte was taken yet
abbrev pub at_start : Cutting
at_start = record { most = MOST_BYTES; taken = 0; pending = []; ended = false; number = 0; line = [] }

pub foretells-at_start : {W R : Type 0} (k : Language W R) (left : Option (List ℕ)) → Foretells k left (ahead k at_start k.first left)
foretells-at_start k None = tt
foretells-at_start k (Some bytes) = refl

-- what is ahead comes to the same after one line more
pub foretells-next : {W R : Type 0} (k : Language W R) (told : Option (List ℕ)) (now after : Option R) → Foretells k told now → IfSome now (λ r. after ≡ Some r) → Foretells k told after
foretells-next k None now after f e = tt
foretells-next k (Some bytes) None after f e = cc
foretells-next k (Some bytes) (Some r) after f e = e ∙ f

-- a line that was let pass leaves the rest to be let pass
pub passes-line : {W R : Type 0} (k : Language W R) (s t : Cutting) (said after : W) (left left' : Option (List ℕ)) → AnswersLine s t left left' → k.says said t.number t.line ≡ Ok after → PassesOn k s t said after left left'
passes-line k s t said after left left' a says =
    let bytes = a.moves.bytes in
    record {
      bytes = bytes;
      from_source = a.moves.from_source;
      counted = a.moves.counted;
      same = λ more.
          let rest = t.pending ++ more in
          let split : s.pending ++ (bytes ++ more) ≡ t.line ++ feed ∷ rest =
          sym (append_assoc s.pending bytes more) ∙ ap (λ xs. xs ++ more) a.moves.joined
          ∙ append_assoc (t.line ++ feed ∷ []) t.pending more ∙ append_assoc t.line (feed ∷ []) rest in
          let number : suc s.number ≡ t.number = omega (arith, a.number) in
          ap (λ xs. are_let_pass k.says s.number (whole_lines (allowance s) xs) said) split
          ∙ ap (λ ls. are_let_pass k.says s.number ls said) (whole_lines-line (allowance s) (allowance t) t.line rest a.no_feed (allowance-line s t left left' a))
          ∙ ap (λ n. passes_and (k.says said n t.line) (λ d. are_let_pass k.says n (whole_lines (allowance t) rest) d)) number
          ∙ ap (λ j. passes_and j (λ d. are_let_pass k.says t.number (whole_lines (allowance t) rest) d)) says;
    }

-- what is ahead comes to what the line says and what is ahead after it
line-ahead : {W R : Type 0} (k : Language W R) (s t : Cutting) (said : W) (bytes rest : List ℕ) → IsByLine k → t.number ≡ s.number + 1 → outlook (allowance s) (s.pending ++ bytes) ≡ outlook_before (Ok Line) t.line (outlook (allowance t) (t.pending ++ rest))
    → k.on s.number (outlook (allowance s) (s.pending ++ bytes)) said ≡ judged_on k (k.says said t.number t.line) t.number (outlook (allowance t) (t.pending ++ rest))
line-ahead k s t said bytes rest by number foretold =
    let next : suc s.number ≡ t.number = omega (arith, number) in
    let after = outlook (allowance t) (t.pending ++ rest) in
    ap (λ (o : Outlook). k.on s.number o said) foretold ∙ by.next s.number t.line after said ∙ ap (λ n. judged_on k (k.says said n t.line) n after) next

-- after a line that is let pass it comes to the same
same-ahead : {W R : Type 0} (k : Language W R) (s t : Cutting) (said after : W) (left left' : Option (List ℕ)) → IsByLine k → t.number ≡ s.number + 1 → BeforeLine (Ok Line) s t (bytes_ahead s left) (bytes_ahead t left')
    → k.says said t.number t.line ≡ Ok after → IfSome (ahead k s said left) (λ r. ahead k t after left' ≡ Some r)
same-ahead k s t said after None left' by number foretold says = tt
same-ahead k s t said after (Some bytes) None by number foretold says = absurd foretold
same-ahead k s t said after (Some bytes) (Some rest) by number foretold says =
    ap Some (sym (line-ahead k s t said bytes rest by number foretold ∙ ap (λ j. judged_on k j t.number (outlook (allowance t) (t.pending ++ rest))) says))

pub line-reads : {W R : Type 0} (k : Language W R) (s t : Cutting) (said after : W) (left left' : Option (List ℕ)) → IsByLine k → IsCutting t → IsOf s left → AnswersLine s t left left' → BeforeLine (Ok Line) s t (bytes_ahead s left) (bytes_ahead t left')
    → k.says said t.number t.line ≡ Ok after → ReadsOn k s t said after left left'
line-reads k s t said after left left' by cutting of a foretold says = record {
  number = a.number;
  most = a.moves.same_most;
  cutting = cutting;
  source = a.moves.same_source of;
  passes = passes-line k s t said after left left' a says;
  same = same-ahead k s t said after left left' by a.number foretold says;
}

-- a line that is refused is the verdict
line-refused : {W R : Type 0} (k : Language W R) (s t : Cutting) (said : W) (left left' : Option (List ℕ)) (at : ℕ) (told : Cause) → IsByLine k → t.number ≡ s.number + 1 → BeforeLine (Ok Line) s t (bytes_ahead s left) (bytes_ahead t left')
    → at ≡ t.number → RefusedAs told (k.says said t.number t.line) → IfSome (ahead k s said left) (RefusesLine k at told)
line-refused k s t said None left' at told by number foretold here refused = tt
line-refused k s t said (Some bytes) None at told by number foretold here refused = absurd foretold
line-refused k s t said (Some bytes) (Some rest) at told by number foretold here refused = record {
  why = refused.why;
  same = refused.same;
  is = line-ahead k s t said bytes rest by number foretold ∙ ap (λ j. judged_on k j t.number (outlook (allowance t) (t.pending ++ rest))) refused.is ∙ ap (λ n. k.refused n refused.why) (sym here);
}

pub refused-reads : {W R : Type 0} (k : Language W R) (s t : Cutting) (said after : W) (left left' : Option (List ℕ)) (faults faults' : ℕ) (e : ReadRefusal) → IsByLine k → t.number ≡ s.number + 1 → BeforeLine (Ok Line) s t (bytes_ahead s left) (bytes_ahead t left')
    → AddsLine {X = Unit {0}} (Err e) t.number after (k.says said t.number t.line) → ReadsLine k (Err e) s t said after left left' faults faults'
refused-reads k s t said after left left' faults faults' (refusal.Refused at told) by number foretold adds =
    line-refused k s t said left left' at told by number foretold adds.0 adds.1
refused-reads k s t said after left left' faults faults' refusal.Memory by number foretold adds = tt
refused-reads k s t said after left left' faults faults' refusal.ReadFault by number foretold adds = absurd adds
refused-reads k s t said after left left' faults faults' (refusal.TooLong taken) by number foretold adds = absurd adds

-- where one byte too many was taken, the bytes come to that
over-ahead : {W R : Type 0} (k : Language W R) (s t : Cutting) (taken : ℕ) (said : W) (left left' : Option (List ℕ)) → IsByLine k → BeforeLine (Err (LineTooLong taken)) s t (bytes_ahead s left) (bytes_ahead t left') → IfSome (ahead k s said left) (λ r. r ≡ k.over)
over-ahead k s t taken said None left' by foretold = tt
over-ahead k s t taken said (Some bytes) None by foretold = absurd foretold
over-ahead k s t taken said (Some bytes) (Some rest) by foretold = ap (λ (o : Outlook). k.on s.number o said) foretold ∙ by.over s.number said

pub over-reads : {W R : Type 0} (k : Language W R) (s t : Cutting) (taken : ℕ) (said : W) (left left' : Option (List ℕ)) → IsByLine k → AnswersTooLong taken s t left left' → BeforeLine (Err (LineTooLong taken)) s t (bytes_ahead s left) (bytes_ahead t left') → TakesOneTooMany k taken s said left left'
over-reads k s t taken said left left' by a foretold =
    let m = a.stays.moves in
    record {
      over = over-ahead k s t taken said left left' by foretold;
      one_more = omega (arith, a.count, a.over.too_many, m.same_most);
      bytes = m.bytes;
      from_source = m.from_source;
      counted = omega (arith, a.count, m.counted);
    }

-- where the input is at its end, nothing is ahead
end-ahead : {W R : Type 0} (k : Language W R) (s t : Cutting) (said : W) (left left' : Option (List ℕ)) → BeforeLine (Ok End) s t (bytes_ahead s left) (bytes_ahead t left') → IfSome (ahead k s said left) (λ r. r ≡ k.on s.number (record { lines = []; ending = all_given }) said)
end-ahead k s t said None left' foretold = tt
end-ahead k s t said (Some bytes) None foretold = absurd foretold
end-ahead k s t said (Some bytes) (Some rest) foretold = ap (λ (o : Outlook). k.on s.number o said) foretold

pub end-reads : {W R : Type 0} (k : Language W R) (s t : Cutting) (said : W) (left left' : Option (List ℕ)) → IsOf s left → AnswersEnd s t left left' → BeforeLine (Ok End) s t (bytes_ahead s left) (bytes_ahead t left') → ComesToEnd k s t said said left left'
end-reads k s t said left left' of a foretold = record {
  number = a.stays.same_number;
  same = refl;
  nothing_left = a.stays.moves.same_source of a.done.at_end;
  ends = end-ahead k s t said left left' foretold;
}

-- where it ends inside a line, what is ahead is that this line is cut
cut-ahead : {W R : Type 0} (k : Language W R) (s t : Cutting) (line : ℕ) (said : W) (left left' : Option (List ℕ)) → IsByLine k → BeforeLine (Err (NoLineEnd line)) s t (bytes_ahead s left) (bytes_ahead t left')
    → suc s.number ≡ line → IfSome (ahead k s said left) (RefusesLine k line (cause_of cause.Cut))
cut-ahead k s t line said None left' by foretold number = tt
cut-ahead k s t line said (Some bytes) None by foretold number = absurd foretold
cut-ahead k s t line said (Some bytes) (Some rest) by foretold number = record {
  why = cause.Cut;
  same = refl;
  is = ap (λ (o : Outlook). k.on s.number o said) foretold ∙ by.cut s.number said ∙ ap (λ n. k.refused n cause.Cut) number;
}

pub cut-reads : {W R : Type 0} (k : Language W R) (s t : Cutting) (line : ℕ) (said : W) (left left' : Option (List ℕ)) → IsByLine k → AnswersNoLineEnd line s t left left' → BeforeLine (Err (NoLineEnd line)) s t (bytes_ahead s left) (bytes_ahead t left')
    → IfSome (ahead k s said left) (RefusesLine k line (cause_of cause.Cut))
cut-reads k s t line said left left' by a foretold = cut-ahead k s t line said left left' by foretold (omega (arith, a.place, a.stays.same_number))

-- where the source failed, no whole line is ahead, and no byte too many was taken
pub passes-fault : {W R : Type 0} (k : Language W R) (s t : Cutting) (said : W) (left left' : Option (List ℕ)) (faults faults' : ℕ) → AnswersReadFault s t left left' faults faults' → StopsPassing k s said left left'
passes-fault k s t said left left' faults faults' a =
    let m = a.stays.moves in
    record {
      bytes = m.bytes;
      from_source = m.from_source;
      few = omega (arith, m.counted, m.same_most, a.open_still.room);
      passing = ap (λ xs. are_let_pass k.says s.number (whole_lines (allowance s) xs) said) m.joined
          ∙ ap (λ ls. are_let_pass k.says s.number ls said) (whole_lines-none (allowance s) t.pending (All-take (λ b. b ≢ feed) (allowance s) t.pending a.open_still.no_line));
    }

-- before the first line no byte was taken
pub passes-at_start : {W R : Type 0} (k : Language W R) (left : Option (List ℕ)) → PassesOn k at_start at_start k.first k.first left left
passes-at_start k left = record { bytes = []; from_source = Consumes-nil left; counted = refl; same = λ more. refl }

-- and so on after one line more
pub passes-next : {W R : Type 0} (k : Language W R) (r s t : Cutting) (first said after : W) (left left' left'' : Option (List ℕ)) → PassesOn k r s first said left left' → PassesOn k s t said after left' left'' → PassesOn k r t first after left left''
passes-next k r s t first said after left left' left'' p q = record {
  bytes = p.bytes ++ q.bytes;
  from_source = Consumes-trans left left' left'' p.bytes q.bytes p.from_source q.from_source;
  counted = omega (arith, p.counted, q.counted, length-append p.bytes q.bytes);
  same = λ more. ap (λ xs. are_let_pass k.says r.number (whole_lines (allowance r) (r.pending ++ xs)) first) (append_assoc p.bytes q.bytes more) ∙ p.same (q.bytes ++ more) ∙ q.same more;
}

-- what was taken up to a next line that a fault kept from being read is no more than may be read, and holds no whole line that is refused
pub reads-to-fault : {W R : Type 0} (k : Language W R) (e : ReadRefusal) (s t : Cutting) (said after : W) (left left' left'' : Option (List ℕ)) (faults faults' : ℕ) → e ≡ refusal.ReadFault → s.most ≡ MOST_BYTES
    → PassesOn k at_start s k.first said left left' → ReadsLine k (Err e) s t said after left' left'' faults faults' → PassesFrom k.says k.first MOST_BYTES left left''
reads-to-fault k e s t said after left left' left'' faults faults' is most p reads =
    let fails = rw is at reads in
    let q = fails.stops in
    record {
      bytes = p.bytes ++ q.bytes;
      from_source = Consumes-trans left left' left'' p.bytes q.bytes p.from_source q.from_source;
      few = omega (arith, most, p.counted, q.few, length-append p.bytes q.bytes);
      passing = p.same q.bytes ∙ q.passing;
    }

-- and what was taken where it is one byte too many is as many bytes as the refusal tells
pub reads-too-many : {W R : Type 0} (k : Language W R) (e : ReadRefusal) (s t : Cutting) (taken : ℕ) (said after : W) (left left' left'' : Option (List ℕ)) (faults faults' : ℕ) → e ≡ refusal.TooLong taken → s.most ≡ MOST_BYTES
    → PassesOn k at_start s k.first said left left' → ReadsLine k (Err e) s t said after left' left'' faults faults' → TakesTooMany taken MOST_BYTES left left''
reads-too-many k e s t taken said after left left' left'' faults faults' is most p reads =
    let q = rw is at reads in
    record {
      bytes = p.bytes ++ q.bytes;
      from_source = Consumes-trans left left' left'' p.bytes q.bytes p.from_source q.from_source;
      counted = omega (arith, p.counted, q.counted, length-append p.bytes q.bytes);
      one_more = omega (arith, q.one_more, most);
    }

-- ---- the answer

-- what is ahead comes to something, where it was foretold
foretold : {R : Type 0} (told : Option R) (r : R) (P : R → Type 0) → told ≡ Some r → IfSome told P → P r
foretold None r P e p = cc
foretold (Some s) r P e p = subst P (same_Some s r e) p

-- a refusal tells what the bytes come to
pub tells-refused : {W R : Type 0} (k : Language W R) (e : ReadRefusal) (s t : Cutting) (said after : W) (told left left' : Option (List ℕ)) (faults faults' : ℕ) → s.most ≡ MOST_BYTES
    → Foretells k told (ahead k s said left) → ReadsLine k (Err e) s t said after left left' faults faults' → IfSome told (λ bytes. Refuses k e (whole k bytes))
tells-refused k e s t said after None left left' faults faults' most f reads = tt
tells-refused k refusal.Memory s t said after (Some bytes) left left' faults faults' most f reads = tt
tells-refused k refusal.ReadFault s t said after (Some bytes) left left' faults faults' most f reads = tt
tells-refused k (refusal.TooLong taken) s t said after (Some bytes) left left' faults faults' most f reads =
    (foretold (ahead k s said left) (whole k bytes) (λ r. r ≡ k.over) f reads.over, reads.one_more ∙ ap (λ n. n + 1) most)
tells-refused k (refusal.Refused line told) s t said after (Some bytes) left left' faults faults' most f reads =
    foretold (ahead k s said left) (whole k bytes) (RefusesLine k line told) f reads

-- a refusal that is handed on tells the same
pub tells-handed : {X : Type 0} (r : Result X ReadRefusal) (e : ReadRefusal) (P : Result X ReadRefusal → Type 0) → IsErrAnd r (λ y. y ≡ e) → P (Err e) → P r
tells-handed r e P h tells =
    let p = err_from_is_err_and r h in
    subst P (sym p.1) (subst (λ y. P (Err y)) (sym p.2) tells)

-- at the end the bytes come to what was said
pub ended : {W R : Type 0} (k : Language W R) (told : Option (List ℕ)) (s t : Cutting) (said after : W) (left left' : Option (List ℕ)) → Foretells k told (ahead k s said left) → ComesToEnd k s t said after left left' → TellsLines k (Ok tt) after told
ended k None s t said after left left' f end = tt
ended k (Some bytes) s t said after left left' f end = record {
  count = t.number;
  is = foretold (ahead k s said left) (whole k bytes) (λ found. found ≡ k.on s.number (record { lines = []; ending = all_given }) said) f end.ends
      ∙ ap₂ (λ n d. k.on n (record { lines = []; ending = all_given }) d) (sym end.number) (sym end.same);
}

-- where they may not end there, the line that would be next is refused
pub ended-early : {W R : Type 0} (k : Language W R) (told : Option (List ℕ)) (s t : Cutting) (said after : W) (left left' : Option (List ℕ)) (next : ℕ) (why : LineCause) (shown : Cause) → IsByLine k → Foretells k told (ahead k s said left) → ComesToEnd k s t said after left left'
    → next ≡ t.number + 1 → k.ends after ≡ Some why → shown ≡ cause_of why → TellsLines k (Err (refusal.Refused next shown)) after told
unfolding ended
ended-early k None s t said after left left' next why shown by f end number ends same = tt
ended-early k (Some bytes) s t said after left left' next why shown by f end number ends same =
    let line : suc t.number ≡ next = omega (arith, number) in
    record {
      why = why;
      same = same;
      is = (ended k (Some bytes) s t said after left left' f end).is ∙ by.end t.number after why ends ∙ ap (λ n. k.refused n why) line;
    }

-- what the text comes to, whatever it is where it was read to its end
pub comes-to : {W R : Type 0} (k : Language W R) (told : Option (List ℕ)) (said : W) (r : R) → TellsLines k (Ok tt) said told
    → ((count : ℕ) → k.on count (record { lines = []; ending = all_given }) said ≡ r) → IfSome told (λ bytes. whole k bytes ≡ r)
comes-to k None said r tells is = tt
comes-to k (Some bytes) said r tells is = tells.is ∙ is tells.count

-- a scenario that is complete is read
pub complete-end : (count : ℕ) (said : Said) (plan : PlanParts) (schedule : Schedule) → is_complete said ≡ true → plan ≡ parts_said said → schedule ≡ schedule_said said → at_end all_given count said ≡ PlanRead plan schedule
complete-end count said plan schedule complete is given = rw complete (sym (ap₂ PlanRead is given))

-- a scenario that may end is complete
pub may-end : (said : Said) → end_rule said ≡ None → is_complete said ≡ true
may-end said = by (is_complete said)
  where
    by : (complete : Bool) → unless complete cause.End ≡ None → complete ≡ true
    by true is = refl
    by false is = cc
