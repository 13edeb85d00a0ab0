-- What the code's types hold: the lists of what is used of their tables.
use Rattle.std.specs.Prelude.{List, map, take, ℤ}
use Rattle.problems.specs.declared.quantity.Span.{Span}
use Rattle.problems.specs.declared.quantity.Row.{Row}
use Rattle.problems.specs.declared.vars.Vars.{Vars}
use Rattle.problems.specs.declared.ends.Ends.{Ends}
use Rattle.problems.specs.declared.problem.Problem.{Problem}
use Rattle.problems.specs.Box.{Box}

-- the ends of the variables
abbrev pub vars_in : Vars → List Span
vars_in v = take v.n v.spans

-- the box
abbrev pub box_in : Ends → Box
box_in e = record { vars = vars_in e.vars; rows = take e.m e.rows }

abbrev pub box_of : Problem → Box
box_of p = box_in p.ends

-- the rows' coefficients
abbrev pub rows_of : Problem → List (List ℤ)
rows_of p = map (λ (r : Row). take p.ends.vars.n r.coefs) (take p.ends.m p.rows)
