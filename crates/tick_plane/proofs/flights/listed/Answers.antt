-- The flight of the next entry comes after the others.
use Rattle.std.proofs.Common.{◌≡◌, ℕ, suc, ◌+◌, ◌<◌, List, [], ◌∷◌, ◌++◌, get_or, take, length, sym, ap, ◌∙◌, arith}
use Rattle.std.proofs.lemmas.List.{map-append}
use Rattle.std.proofs.Math.Seq.{take-suc}
use Rattle.tick_plane.specs.declared.flight.Flight.{Flight}
use Rattle.tick_plane.specs.Carried.{Way, flight_at, flights_at}
use Rattle.tick_plane.proofs.flights.listed.Goals as goal

listed-more : (entries : List Way) (i : ℕ) (entry : Way) (now new : List Flight) → i < length entries → entry ≡ get_or entries i entry → now ≡ flights_at (take i entries) → new ≡ now ++ flight_at entry ∷ [] → new ≡ flights_at (take (i + 1) entries)
listed-more entries i entry now new within read was pushed =
    let next : i + 1 ≡ suc i = omega arith in
    let front : take (i + 1) entries ≡ take i entries ++ entry ∷ [] = ap (λ n. take n entries) next ∙ take-suc entries i entry within ∙ ap (λ (e : Way). take i entries ++ e ∷ []) (sym read) in
    pushed ∙ ap (λ (fs : List Flight). fs ++ flight_at entry ∷ []) was
    ∙ sym (ap flights_at front ∙ map-append flight_at (take i entries) (entry ∷ []))

pub loop-entry-preserved : goal.loop-entry-preserved
loop-entry-preserved c = listed-more c.args.entries.now c.loop-entry.entry-index c.entry-item.result c.loop-entry.all.items c.push.new.self.items c.loop-entry-test.true c.entry-item.is c.loop-entry.invariant c.in_ok-push.ensures.items
