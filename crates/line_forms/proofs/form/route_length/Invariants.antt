use Rattle.std.proofs.Common.{◌≡◌, ◌+◌, drop}
use Rattle.line_forms.specs.Forms.{route_length}
use Rattle.line_forms.proofs.form.route_length.Given as goal

-- the fields so far belong to the route, and what is left goes on with it
abbrev pub invariant-loop-place : goal.invariant-loop-place
invariant-loop-place l =
    l.from + route_length (drop l.from l.fields) ≡ l.place + route_length (drop l.place l.fields)
