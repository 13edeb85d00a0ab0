-- Every tableau of every run is sound.
use Rattle.std.proofs.Common.{◌≡◌, ℕ, suc, ◌<◌, List, [], ◌∷◌, ◌++◌, length, get_or, ℤ, pos, negsuc, ◌+ℤ◌, ◌*ℤ◌, sym, refl, ap, ◌∙◌, subst, arith}
use borrow.Author.Differences.{ints}
use Rattle.std.proofs.lemmas.List.{ext_get_or}
use Rattle.problems.specs.Rows.{dot, values}
use Rattle.problems.specs.Box.{Box, Proper}
use Rattle.problems.proofs.Propers.{row_length}
use Rattle.testers.specs.Halving.{single}
use Rattle.testers.specs.Ring.{lin}
use Rattle.testers.specs.Dots.{at_values}
use Rattle.testers.specs.Halves.{dot_single}
use Rattle.tableau.specs.declared.line.Line.{Line}
use Rattle.tableau.specs.Lines.{blank, start_line, start_lines}
use Rattle.tableau.specs.Tableau.{Tableau, run_on}
use Rattle.tableau.specs.Sound.{Hold, Sound, EveryTableauSound}
use Rattle.tableau.proofs.Keeps.{Kept}
use Rattle.tableau.proofs.Solves.{start_at, length_start}
use Rattle.tableau.proofs.Pivots.{hold_at, hold_from}
use Rattle.tableau.proofs.Runs.{run_kept}

-- ---- a line of the start says that a row's value is its quantity

dot_append : (r s x y : List ℤ) → length r ≡ length x → dot (r ++ s) (x ++ y) ≡ dot r x +ℤ dot s y
dot_append [] s [] y h = omega (arith, ints)
dot_append [] s (x ∷ xs) y h = absurd (omega arith)
dot_append (a ∷ r) s [] y h = absurd (omega arith)
dot_append (a ∷ r) s (x ∷ xs) y h = omega (arith, lin, dot_append r s xs y (omega arith))

start_dot : (m i : ℕ) (r x y : List ℤ) → i < m → length r ≡ length x → dot (start_line m i r).nums (x ++ y) ≡ dot r x +ℤ negsuc 0 *ℤ get_or y i (pos 0)
start_dot m i r x y h e = dot_append r (single m i (negsuc 0)) x y e ∙ ap (λ z. dot r x +ℤ z) (dot_single m i (negsuc 0) y h)

same_from : (a b : ℤ) → a +ℤ negsuc 0 *ℤ b ≡ pos 0 → b ≡ a
same_from a b e = omega (arith, ints)

none_from : (a b : ℤ) → b ≡ a → a +ℤ negsuc 0 *ℤ b ≡ pos 0
none_from a b e = omega (arith, ints)

length_values : (rs : List (List ℤ)) (x : List ℤ) → length (values rs x) ≡ length rs
length_values [] x = refl
length_values (r ∷ rs) x = ap suc (length_values rs x)

module _ (rows : List (List ℤ)) (box : Box) (p : Proper rows box) (x y : List ℤ) (wide : length x ≡ length box.vars) (long : length y ≡ length rows) where
  abbrev firsts : List Line
  firsts = start_lines (length rows) 0 rows

  line_says : (i : ℕ) → i < length rows → dot (get_or firsts i blank).nums (x ++ y) ≡ dot (get_or rows i []) x +ℤ negsuc 0 *ℤ get_or y i (pos 0)
  line_says i h =
      ap (λ (l : Line). dot l.nums (x ++ y)) (start_at (length rows) rows i h)
      ∙ start_dot (length rows) i (get_or rows i []) x y h (row_length (length box.vars) rows i p.coefficients h ∙ sym wide)

  pub rows_from_start : Hold firsts (x ++ y) → y ≡ values rows x
  rows_from_start e =
      ext_get_or (pos 0) y (values rows x) (long ∙ sym (length_values rows x)) (λ i h.
      let k : i < length rows = subst (λ (n : ℕ). i < n) long h in
      let l : i < length firsts = subst (λ (n : ℕ). i < n) (sym (length_start (length rows) 0 rows)) k in
      same_from (dot (get_or rows i []) x) (get_or y i (pos 0)) (sym (line_says i k) ∙ hold_at firsts (x ++ y) i l e) ∙ sym (at_values rows x i))

  pub start_from_rows : y ≡ values rows x → Hold firsts (x ++ y)
  start_from_rows e =
      hold_from firsts (x ++ y) (λ i h.
      let k : i < length rows = subst (λ (n : ℕ). i < n) (length_start (length rows) 0 rows) h in
      line_says i k ∙ none_from (dot (get_or rows i []) x) (get_or y i (pos 0)) (ap (λ (v : List ℤ). get_or v i (pos 0)) e ∙ at_values rows x i))

-- ---- sound

pub kept_sound : (rows : List (List ℤ)) (box : Box) (t : Tableau) → Proper rows box → Kept rows box t → Sound rows box t
kept_sound rows box t p kept =
    record {
      solved = kept.solved;
      rows_hold = λ x y wide long h. rows_from_start rows box p x y wide long (kept.back (x ++ y) h);
      lines_hold = λ x y wide long e. kept.onward (x ++ y) (start_from_rows rows box p x y wide long e);
      reduced = kept.reduced;
      at_ends = kept.at_ends;
    }

pub every_tableau_sound : (rows : List (List ℤ)) (box : Box) → Proper rows box → EveryTableauSound rows box
every_tableau_sound rows box p pivots = kept_sound rows box (run_on pivots rows box).tableau p (run_kept rows box p pivots)
