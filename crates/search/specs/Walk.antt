-- The walk in the code: the search that it stands for, and what a step may change.
use Rattle.std.specs.Prelude.{◌≡◌, ℕ, ◌+◌, ◌-◌, ◌<◌, ◌≤◌, true, List, ◌++◌, map, reverse, length, take, drop, replicate, pos, Some, None, Option}
use Rattle.std.specs.List.{AllByRecursion}
use Rattle.problems.specs.declared.problem.Problem.{Problem}
use Rattle.problems.specs.Blank.{no_vars}
use Rattle.problems.specs.Box.{Box, splits, with_vars}
use Rattle.problems.specs.View.{vars_in, box_of, rows_of}
use Rattle.search.specs.declared.open_split.OpenSplit.{OpenSplit}
use Rattle.lent.specs.declared.stack.Stack.{Stack}
use Rattle.search.specs.declared.record.Record.{Record}
use Rattle.search.specs.declared.walk.Walk.{Walk}
use Rattle.search.specs.declared.found.Verdict.{Verdict as VerdictType}
use Rattle.search.specs.declared.uses.Uses.{Uses as UsesType}
use Rattle.search.specs.Search.{Search, Open, Found, ends_with}
use Rattle.search.specs.Shown.{uses_of, verdict_of}

abbrev pub open_of : Box → OpenSplit → Open
open_of box o = record { variable = o.cut.0; at = o.cut.1; box = with_vars (vars_in o.vars) box }

-- the open splits, the latest first
abbrev pub opens_of : Box → List OpenSplit → List Open
opens_of box os = map (open_of box) (reverse os)

-- where a walk stands: its box, and what it counts
pub record Stand : Type 0 where
  pub at : Problem
  pub boxes : ℕ
  pub bytes : ℕ
  pub used : UsesType
  pub deepest : ℕ

abbrev pub stand_of : Walk → Record → Stand
stand_of w r = record { at = w.at; boxes = w.boxes; bytes = r.len; used = w.used; deepest = w.deepest }

-- the search so far: where the walk stands, the bytes written and the entries on the stack
abbrev pub state_of : Stand → List ℕ → List OpenSplit → Search
state_of w bytes opens =
    record {
      box = box_of w.at;
      open_splits = opens_of (box_of w.at) opens;
      boxes = w.boxes;
      bytes = take w.bytes bytes;
      used = uses_of w.used;
      deepest = w.deepest;
    }

-- the entries on the stack
abbrev pub entries_on : Stack OpenSplit → List OpenSplit
entries_on s = take s.len s.slots.now

-- the search that the walk has come to
abbrev pub reached : Walk → Record → Stack OpenSplit → Search
reached w r s = state_of (stand_of w r) r.bytes.now (entries_on s)

-- the search goes on, or ends with a verdict
abbrev pub after : ℕ → (Search → Found) → Search → Option VerdictType → Found
after n further s None = further s
after n further s (Some v) = ends_with (verdict_of n v) s

-- the entry splits its own ends, of n variables
abbrev pub Splits : ℕ → OpenSplit → Type 0
Splits n o = (o.vars.n ≡ n) × (splits o.cut.0 o.cut.1 (vars_in o.vars) ≡ true)

-- the walk is within the box that it began with
pub record Ready (root at : Problem) (opens : List OpenSplit) : Type 0 where
  pub count : at.ends.vars.n ≡ root.ends.vars.n
  pub rows : rows_of at ≡ rows_of root
  pub row_ends : (box_of at).rows ≡ (box_of root).rows
  pub each : AllByRecursion (Splits root.ends.vars.n) opens

abbrev pub blank_split : OpenSplit
blank_split = record { cut = (0, pos 0); vars = no_vars }

-- past the first len slots all is blank that was in use, and the rest as the path had it
abbrev pub Blanked : List OpenSplit → ℕ → List OpenSplit → ℕ → Type 0
Blanked path deepest slots len = (len ≤ deepest) × (drop len slots ≡ replicate (deepest - len) blank_split ++ drop deepest path)

-- one box more was tested
pub record Moved (w v : Stand) (bytes bytes' : List ℕ) (slots slots' : List OpenSplit) (len len' : ℕ) : Type 0 where
  pub boxes : v.boxes ≡ w.boxes + 1
  pub more : w.bytes ≤ v.bytes
  pub room : v.bytes ≤ w.bytes + 100
  pub kept : drop v.bytes bytes' ≡ drop v.bytes bytes
  pub place : len' ≤ len + 1
  pub long : length slots' ≡ length slots
  pub ready : (root : Problem) → Ready root w.at (take len slots) → Ready root v.at (take len' slots')
  pub blanks : (path : List OpenSplit) → Blanked path w.deepest slots len → Blanked path v.deepest slots' len'

-- the same of a walk with its record and its stack: its root and its budget stay, and so does the memory lent
pub record Stepped (w v : Walk) (r r' : Record) (s s' : Stack OpenSplit) : Type 0 where
  pub moved : Moved (stand_of w r) (stand_of v r') r.bytes.now r'.bytes.now s.slots.now s'.slots.now s.len s'.len
  pub root : v.root.now ≡ w.root.now
  pub budget : v.budget ≡ w.budget
  pub bytes : length r'.bytes.now ≡ length r.bytes.now
  pub written : r'.bytes.ghost_name ≡ r.bytes.ghost_name
  pub stack : s'.slots.ghost_name ≡ s.slots.ghost_name

-- one box more may be tested, and there is room for what is told of it
pub record Going (w : Walk) (r : Record) (s : Stack OpenSplit) : Type 0 where
  pub ready : Ready w.root.now w.at (entries_on s)
  pub left : w.boxes < w.budget
  pub room : r.len + 100 ≤ length r.bytes.now
  pub place : s.len < length s.slots.now
