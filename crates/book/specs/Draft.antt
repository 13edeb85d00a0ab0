-- Drafting a problem, before its book is opened.
use Rattle.std.specs.Prelude.{ℕ, ◌+◌, Bool, true, false, not, ◌&&◌, ◌||◌, List, [], ◌∷◌, ◌++◌, length, ℤ, pos, Some, None, Option, Result, ◌==◌, int_le, int_lt, nat_le}
use Rattle.problems.specs.declared.quantity.Span.{Span}
use Rattle.problems.specs.declared.quantity.RowEnds.{RowEnds}
use Rattle.problems.specs.declared.refusal.Refusal.TheVariants.{Length, Range, Cross, Repeat, Full}
use Rattle.problems.specs.declared.refusal.Refused.{Refused}
use Rattle.problems.specs.Whole.{eq_z, within}
use Rattle.problems.specs.Ranges.{in_order, in_reach}
use Rattle.problems.specs.Box.{Proper}
use Rattle.problems.specs.Stated.{Stated, stated, one_point, without_rows, with_row}
use Rattle.book.specs.declared.draft.Draft.{Draft}
use Rattle.book.specs.Fault.{Fault, fault, each, first_fault, replied}

-- what the draft states
abbrev pub held : Draft → Stated
held d = stated d.problem

-- ---- beginning afresh

-- n is not 1..12, or the ends are not n pairs
abbrev pub miscounted : ℤ → List Span → Bool
miscounted n ss = int_lt n (pos 1) || int_lt (pos 12) n || not (eq_z n (pos (length ss)))

abbrev pub out_of_range : Span → Bool
out_of_range s = not (within 100000 s.lower && within 100000 s.upper)

abbrev pub crossed : Span → Bool
crossed s = not (int_le s.lower s.upper)

abbrev pub new_faults : ℤ → List Span → List Fault
new_faults n ss = fault (miscounted n ss) Length 0 ∷ (each out_of_range Range 1 ss ++ each crossed Cross 1 ss)

-- ---- adding a row

abbrev pub large : ℤ → Bool
large a = not (within 100 a)

abbrev pub same_row : List ℤ → List ℤ → Bool
same_row [] [] = true
same_row [] (b ∷ bv) = false
same_row (a ∷ av) [] = false
same_row (a ∷ av) (b ∷ bv) = eq_z a b && same_row av bv

-- the coefficients, then the lower end, then the upper end
abbrev pub number_faults : ℕ → List ℤ → RowEnds → List Fault
number_faults n av e =
    each large Range 1 av
    ++ (fault (not (in_reach e.lower)) Range (n + 1) ∷ fault (not (in_reach e.upper)) Range (n + 2) ∷ [])

abbrev pub row_faults : Stated → List ℤ → RowEnds → List Fault
row_faults d av e =
    let n = length d.box.vars in
    let m = length d.rows in
    fault (not (length av == n)) Length 0
    ∷ (number_faults n av e
    ++ (fault (not (in_order e.lower e.upper)) Cross (n + m + 1)
    ∷ (each (same_row av) Repeat 1 d.rows
    ++ (fault (nat_le 12 m) Full 12 ∷ []))))

-- ---- one call

-- the reply, and the draft after
pub record Step (A : Type 0) : Type 0 where
  pub reply : Result A Refused
  pub draft : Stated

-- a refusal leaves the draft as it was
abbrev pub left_by : Stated → Stated → Option Refused → Stated
left_by before after None = after
left_by before after (Some r) = before

abbrev pub stepped : {A : Type 0} → Stated → A → Stated → List Fault → Step A
stepped before told after faults =
    record { reply = replied told (first_fault faults); draft = left_by before after (first_fault faults) }

abbrev pub begun : Stated → ℤ → List Span → Step (Unit {0})
begun d n ss = stepped d tt (without_rows ss) (new_faults n ss)

-- the number of the row's quantity is told
abbrev pub row_added : Stated → List ℤ → RowEnds → Step ℕ
row_added d av e = stepped d (length d.box.vars + length d.rows + 1) (with_row av e d) (row_faults d av e)

-- ---- any calls

pub data DraftCall : Type 0 where
  new : (n : ℤ) (ends : List Span) → DraftCall
  add_row : (coefficients : List ℤ) (ends : RowEnds) → DraftCall

abbrev pub draft_after : Stated → DraftCall → Stated
draft_after d (new n ss) = (begun d n ss).draft
draft_after d (add_row av e) = (row_added d av e).draft

-- the draft that the calls leave
abbrev pub drafted : Stated → List DraftCall → Stated
drafted d [] = d
drafted d (c ∷ cs) = drafted (draft_after d c) cs

-- whatever is called, accepted or refused, a proper problem is drafted
abbrev pub EveryDraftIsProper : Type 0
EveryDraftIsProper = (calls : List DraftCall) → Proper (drafted one_point calls).rows (drafted one_point calls).box
