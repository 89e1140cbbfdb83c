-- One entry more, at the end.
use Rattle.std.proofs.Common.{◌≡◌, ◌+◌, ◌-◌, suc, ◌++◌, ◌∷◌, [], List, length, ap, ◌∙◌, subst, arith}
use Rattle.std.proofs.lemmas.List.{length-append}
use Rattle.tick_calendar.specs.Calendar.{TimetableOf, EntryOf}
use Rattle.tick_calendar.specs.Wheel.{entries_in, AreAllFrom}
use Rattle.tick_calendar.proofs.TakesWhatIsDue.{put-kept, put-from}
use Rattle.tick_calendar.proofs.Calendar.put.Goals as goal

pub clear_if_full-requires-clause-wheel : goal.clear_if_full-requires-clause-wheel
clear_if_full-requires-clause-wheel g c = c.self.invariant.0.wheel

pub clear_if_full-requires-clause-slot : goal.clear_if_full-requires-clause-slot
clear_if_full-requires-clause-slot g c = c.self.invariant.0.slot_most

pub clear_if_full-requires-clause-ahead : goal.clear_if_full-requires-clause-ahead
clear_if_full-requires-clause-ahead g c = c.self.invariant.0.ahead

pub clear_if_full-requires-clause-fits : goal.clear_if_full-requires-clause-fits
clear_if_full-requires-clause-fits g c =
    let clock = ap (λ (s : TimetableOf _). s.clock) c.self.view_is in
    omega (arith, c.self.invariant.0.begun, c.requires.ahead, c.ranges.tick, clock)

pub clear_if_full-requires-clause-room : goal.clear_if_full-requires-clause-room
clear_if_full-requires-clause-room g c =
    let spare = ap (λ (s : TimetableOf _). s.spare) c.self.view_is in
    omega (arith, c.self.invariant.0.counted, c.self.invariant.0.roomy, c.requires.room, spare)

pub append-requires-clause-wheel : goal.append-requires-clause-wheel
append-requires-clause-wheel g c = c.clear_if_full.ensures.wheel

pub append-requires-clause-ahead : goal.append-requires-clause-ahead
append-requires-clause-ahead g c =
    let clock = ap (λ (s : TimetableOf _). s.clock) c.self.view_is in
    omega (arith, c.clear_if_full.ensures.begun, c.self.invariant.0.begun, c.requires.ahead, clock)

pub append-requires-clause-room : goal.append-requires-clause-room
append-requires-clause-room g c = c.clear_if_full.ensures.room

pub overflow_add-self : goal.overflow_add-self
overflow_add-self g c =
    let spare = ap (λ (s : TimetableOf _). s.spare) c.self.view_is in
    omega (arith, spare, c.requires.room)

pub invariant_of-self : goal.invariant_of-self
invariant_of-self g c =
    let spare = ap (λ (s : TimetableOf _). s.spare) c.self.view_is in
    let clock = ap (λ (s : TimetableOf _). s.clock) c.self.view_is in
    let kept = c.self.invariant.0 in
    let more = c.append.ensures.entries ∙ ap (λ es. es ++ (c.args.tick, c.args.key) ∷ []) c.clear_if_full.ensures.entries in
    let begun : c.self.inside.wheel.base + c.self.inside.wheel.slot ≡ c.append.new.self.base + c.append.new.self.slot = omega (arith, c.clear_if_full.ensures.begun, c.append.ensures.base, c.append.ensures.slot) in (
      put-kept c.append.new.self.places.items (entries_in c.self.inside.wheel.places.items) c.append.new.self.firsts.items c.append.new.self.lasts.items c.append.new.self.base c.append.new.self.slot
          c.self.inside.waiting c.self.inside.room c.self.inside.clock _ c.args.tick c.args.key c.append.ensures.wheel (omega (arith, c.append.ensures.slot, c.clear_if_full.ensures.slot))
          more kept.counted (omega (arith, c.requires.room, spare))
          (omega (arith, kept.roomy, c.append.ensures.capacity, c.clear_if_full.ensures.capacity)) (omega (arith, begun, kept.begun)) (omega (arith, c.requires.ahead, clock))
          (subst (λ t. AreAllFrom t (entries_in c.self.inside.wheel.places.items)) begun kept.ahead)
          (subst (λ t. AreAllFrom (suc t) (entries_in c.self.inside.wheel.places.items) → AreAllFrom (suc c.self.inside.clock) (entries_in c.self.inside.wheel.places.items)) begun kept.stands) c.if-tick-self.true,
      put-from c.self.inside.next c.min-self-inside.result c.args.tick c.args.key (entries_in c.self.inside.wheel.places.items) (entries_in c.append.new.self.places.items) (omega (arith, c.min-self-inside.ensures)) (omega (arith, c.min-self-inside.ensures)) more c.self.invariant.1,
    )

pub stand-self-inside-requires-clause-wheel : goal.stand-self-inside-requires-clause-wheel
stand-self-inside-requires-clause-wheel g c = c.append.ensures.wheel

pub stand-self-inside-requires-clause-slot : goal.stand-self-inside-requires-clause-slot
stand-self-inside-requires-clause-slot g c = omega (arith, c.append.ensures.slot, c.clear_if_full.ensures.slot)

pub stand-self-inside-requires-clause-begun : goal.stand-self-inside-requires-clause-begun
stand-self-inside-requires-clause-begun g c =
    let clock = ap (λ (s : TimetableOf _). s.clock) c.self.view_is in
    omega (arith, c.clear_if_full.ensures.begun, c.append.ensures.base, c.append.ensures.slot, c.self.invariant.0.begun, c.requires.ahead, clock)

pub stand-self-inside-requires-clause-ahead : goal.stand-self-inside-requires-clause-ahead
stand-self-inside-requires-clause-ahead g c =
    let clock = ap (λ (s : TimetableOf _). s.clock) c.self.view_is in
    let more = c.append.ensures.entries ∙ ap (λ es. es ++ (c.args.tick, c.args.key) ∷ []) c.clear_if_full.ensures.entries in
    let begun : c.self.inside.wheel.base + c.self.inside.wheel.slot ≡ c.append.new.self.base + c.append.new.self.slot = omega (arith, c.clear_if_full.ensures.begun, c.append.ensures.base, c.append.ensures.slot) in
    subst (λ t. AreAllFrom t (entries_in c.append.new.self.places.items)) begun
    (put-from (c.self.inside.wheel.base + c.self.inside.wheel.slot) (c.self.inside.wheel.base + c.self.inside.wheel.slot) c.args.tick c.args.key (entries_in c.self.inside.wheel.places.items) (entries_in c.append.new.self.places.items) (omega arith) (omega (arith, c.self.invariant.0.begun, c.requires.ahead, clock)) more c.self.invariant.0.ahead)

pub invariant_of-self-2 : goal.invariant_of-self-2
invariant_of-self-2 g c =
    let spare = ap (λ (s : TimetableOf _). s.spare) c.self.view_is in
    let clock = ap (λ (s : TimetableOf _). s.clock) c.self.view_is in
    let kept = c.self.invariant.0 in
    let more = c.append.ensures.entries ∙ ap (λ es. es ++ (c.args.tick, c.args.key) ∷ []) c.clear_if_full.ensures.entries in
    let now : c.args.tick ≡ c.self.inside.clock = omega (arith, c.requires.ahead, clock, c.if-tick-self.false) in (
      record {
        wheel = c.stand-self-inside.ensures.wheel;
        counted = omega (arith, ap length c.stand-self-inside.ensures.entries, ap length more, length-append (entries_in c.self.inside.wheel.places.items) ((c.args.tick, c.args.key) ∷ []), kept.counted);
        within = omega (arith, c.requires.room, spare);
        roomy = omega (arith, kept.roomy, c.append.ensures.capacity, c.clear_if_full.ensures.capacity, c.stand-self-inside.ensures.capacity);
        slot_most = c.stand-self-inside.ensures.slot;
        begun = omega (arith, c.stand-self-inside.ensures.begun, now);
        ahead = c.stand-self-inside.ensures.ahead;
        stands = λ none. subst (λ t. AreAllFrom (suc t) (entries_in c.stand-self-inside.new.self.places.items)) now (c.stand-self-inside.ensures.stands none);
      },
      c.stand-self-inside.ensures.next,
    )

pub returns-then-tick-self : goal.returns-then-tick-self
returns-then-tick-self g c =
    let entries = ap (λ (s : TimetableOf _). s.entries) c.self.view_is in
    let spare = ap (λ (s : TimetableOf _). s.spare) c.self.view_is in
    let clock = ap (λ (s : TimetableOf _). s.clock) c.self.view_is in
    let more : entries_in c.append.new.self.places.items ≡ c.args.self.now.entries ++ (c.args.tick, c.args.key) ∷ [] =
    c.append.ensures.entries ∙ ap (λ (es : List (EntryOf _)). es ++ (c.args.tick, c.args.key) ∷ []) (c.clear_if_full.ensures.entries ∙ entries) in
    let less : c.self.inside.room - (c.self.inside.waiting + 1) ≡ c.args.self.now.spare - 1 = omega (arith, spare) in
    cc (more, less, clock)

pub returns : goal.returns
returns g c =
    let entries = ap (λ (s : TimetableOf _). s.entries) c.self.view_is in
    let spare = ap (λ (s : TimetableOf _). s.spare) c.self.view_is in
    let clock = ap (λ (s : TimetableOf _). s.clock) c.self.view_is in
    let more : entries_in c.stand-self-inside.new.self.places.items ≡ c.args.self.now.entries ++ (c.args.tick, c.args.key) ∷ [] =
    c.stand-self-inside.ensures.entries ∙ c.append.ensures.entries ∙ ap (λ (es : List (EntryOf _)). es ++ (c.args.tick, c.args.key) ∷ []) (c.clear_if_full.ensures.entries ∙ entries) in
    let less : c.self.inside.room - (c.self.inside.waiting + 1) ≡ c.args.self.now.spare - 1 = omega (arith, spare) in
    cc (more, less, clock)
