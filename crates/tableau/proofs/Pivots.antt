-- A pivot that a look names keeps all that a run keeps.
use Rattle.std.proofs.Common.{◌≡◌, ℕ, zero, suc, ◌<◌, eqb, List, [], ◌∷◌, length, get_or, set, ℤ, pos, ◌<ℤ◌, sym, refl, ap, ◌∙◌, subst, ⊎_elim, le_of_suc-le-suc, not-suc-le-zero, arith}
use borrow.Author.Differences.{ints}
use Rattle.std.proofs.lemmas.List.{length-set, get_or-set_same, get_or-set_other}
use Rattle.std.proofs.lemmas.Bool.{eqb-false, cases_eq, cond_both, eqb-true}
use Rattle.problems.specs.Rows.{dot}
use Rattle.problems.specs.Box.{Box, no_ends}
use Rattle.tableau.specs.declared.line.Line.{Line}
use Rattle.tableau.specs.declared.run.Violation.{Violation}
use Rattle.tableau.specs.Lines.{blank, turned, substituted}
use Rattle.tableau.specs.Tableau.{Tableau, ends_of, exchanged, end_value, moved, pivoted}
use Rattle.tableau.specs.Sound.{Solved, Hold, Nonbasic, AtAnEnd}
use Rattle.tableau.proofs.Keeps.{quantities, Kept}
use Rattle.tableau.proofs.Looks.{Good}
use Rattle.tableau.proofs.Solves.{length_exchanged, exchanged_at, turned_negative, turned_zero, solved_pivot}
use Rattle.tableau.proofs.Turns.{Coprime, turned_holds, turned_back, length_turned, turned_coprime, cleared_holds, cleared_back, length_cleared, cleared_coprime}

-- ---- lines at their places

pub hold_at : (ls : List Line) (z : List ℤ) (i : ℕ) → i < length ls → Hold ls z → dot (get_or ls i blank).nums z ≡ pos 0
hold_at [] z i h e = absurd (not-suc-le-zero h)
hold_at (l ∷ ls) z zero h e = e.0
hold_at (l ∷ ls) z (suc i) h e = hold_at ls z i (le_of_suc-le-suc h) e.1

pub hold_from : (ls : List Line) (z : List ℤ) → ((i : ℕ) → i < length ls → dot (get_or ls i blank).nums z ≡ pos 0) → Hold ls z
hold_from [] z e = tt
hold_from (l ∷ ls) z e = (e 0 (omega arith), hold_from ls z (λ i h. e (suc i) (omega arith)))

each_exchanged : (P : Line → Type 0) (place q : ℕ) (t : Line) (ls : List Line) (i : ℕ) → i < length ls → (i ≡ place → P t)
    → ((i ≡ place → ⊥) → P (substituted q t (get_or ls i blank))) → P (get_or (exchanged place q t 0 ls) i blank)
each_exchanged P place q t ls i h a b =
    subst P (sym (exchanged_at place q t ls i h))
    (cond_both (eqb i place) t (substituted q t (get_or ls i blank)) P (λ y. a (eqb-true i place y)) (λ n. b (eqb-false i place n)))

exchanged_there : (place q : ℕ) (t : Line) (ls : List Line) → place < length ls → get_or (exchanged place q t 0 ls) place blank ≡ t
exchanged_there place q t ls h = each_exchanged (λ x. x ≡ t) place q t ls place h (λ _. refl) (λ n. absurd (n refl))

exchanged_elsewhere : (place q : ℕ) (t : Line) (ls : List Line) (i : ℕ) → i < length ls → (i ≡ place → ⊥)
    → get_or (exchanged place q t 0 ls) i blank ≡ substituted q t (get_or ls i blank)
exchanged_elsewhere place q t ls i h n = each_exchanged (λ x. x ≡ substituted q t (get_or ls i blank)) place q t ls i h (λ e. absurd (n e)) (λ _. refl)

-- no two lines have one basic quantity
pub basics_apart : (ls : List Line) → Solved ls → (i j : ℕ) → i < length ls → j < length ls → (i ≡ j → ⊥) → (get_or ls j blank).basic ≡ (get_or ls i blank).basic → ⊥
basics_apart ls s i j h k n e =
    let a = s.own i h in
    let b = ap (λ m. get_or (get_or ls i blank).nums m (pos 0)) (sym e) ∙ s.other i j h k n in
    absurd (omega (arith, ints))

module _ (rows : List (List ℤ)) (box : Box) (t : Tableau) (f : Violation) (q : ℕ) (g : Good (ends_of box) (quantities rows box) t f q) (kept : Kept rows box t) where
  abbrev line : ℕ → Line
  line i = get_or t.lines i blank

  abbrev new : Line
  new = turned q (line f.place)

  abbrev news : List Line
  news = exchanged f.place q new 0 t.lines

  negative_at : get_or new.nums q (pos 0) <ℤ pos 0
  negative_at = turned_negative q (line f.place) g.enters.moves

  was : (i : ℕ) → i < length news → i < length t.lines
  was i h = subst (λ (n : ℕ). i < n) (length_exchanged f.place q new 0 t.lines) h

  is : (i : ℕ) → i < length t.lines → i < length news
  is i h = subst (λ (n : ℕ). i < n) (sym (length_exchanged f.place q new 0 t.lines)) h

  zero_in_new : (i : ℕ) → i < length t.lines → (i ≡ f.place → ⊥) → get_or new.nums (line i).basic (pos 0) ≡ pos 0
  zero_in_new i h n = turned_zero q (line f.place) (line i).basic (kept.solved.other f.place i g.placed h (λ e. n (sym e)))

  not_entering : (i : ℕ) → i < length t.lines → (i ≡ f.place → ⊥) → (line i).basic ≡ q → ⊥
  not_entering i h n e =
      g.enters.moves (ap (λ m. get_or (line f.place).nums m (pos 0)) (sym e) ∙ kept.solved.other f.place i g.placed h (λ d. n (sym d)))

  not_leaving : (i : ℕ) → i < length t.lines → (i ≡ f.place → ⊥) → (line i).basic ≡ f.basic → ⊥
  not_leaving i h n e = basics_apart t.lines kept.solved f.place i g.placed h (λ d. n (sym d)) (e ∙ g.names)

  each : (P : Line → Type 0) (i : ℕ) → i < length news → (i ≡ f.place → P new) → (i < length t.lines → (i ≡ f.place → ⊥) → P (substituted q new (line i))) → P (get_or news i blank)
  each P i h a b = each_exchanged P f.place q new t.lines i (was i h) a (b (was i h))

  -- ---- the values

  abbrev seat : ℤ
  seat = end_value f.side (get_or (ends_of box) f.basic no_ends)

  abbrev after : List ℤ
  after = moved f q (ends_of box) t.values

  wide_new : length after ≡ quantities rows box
  wide_new = length-set (set t.values f.basic seat) q (pos 0) ∙ length-set t.values f.basic seat ∙ kept.wide

  at_entering : get_or after q (pos 0) ≡ pos 0
  at_entering =
      get_or-set_same (set t.values f.basic seat) q (pos 0) (pos 0)
      (subst (λ (n : ℕ). q < n) (sym (length-set t.values f.basic seat ∙ kept.wide)) g.enters.inside)

  at_leaving : get_or after f.basic (pos 0) ≡ seat
  at_leaving =
      get_or-set_other (set t.values f.basic seat) q f.basic (pos 0) (pos 0) (λ e. g.enters.apart (sym e ∙ g.names))
      ∙ get_or-set_same t.values f.basic seat (pos 0) (subst (λ (n : ℕ). f.basic < n) (sym kept.wide) (subst (λ (b : ℕ). b < quantities rows box) (sym g.names) (kept.inside f.place g.placed)))

  at_other : (j : ℕ) → (j ≡ q → ⊥) → (j ≡ f.basic → ⊥) → get_or after j (pos 0) ≡ get_or t.values j (pos 0)
  at_other j a b = get_or-set_other (set t.values f.basic seat) q j (pos 0) (pos 0) a ∙ get_or-set_other t.values f.basic j seat (pos 0) b

  zero_new : (i : ℕ) → i < length news → get_or after (get_or news i blank).basic (pos 0) ≡ pos 0
  zero_new i h =
      each (λ x. get_or after x.basic (pos 0) ≡ pos 0) i h (λ _. at_entering)
      (λ w n. at_other (line i).basic (not_entering i w n) (not_leaving i w n) ∙ kept.zero_at i w)

  was_nonbasic : (j : ℕ) → Nonbasic news j → (j ≡ f.basic → ⊥) → Nonbasic t.lines j
  was_nonbasic j free n i h e =
      ⊎_elim (λ (p : i ≡ f.place). n (sym e ∙ ap (λ m. (line m).basic) p ∙ sym g.names))
      (λ (p : i ≡ f.place → ⊥). free i (is i h) (ap (λ (x : Line). x.basic) (exchanged_elsewhere f.place q new t.lines i h p) ∙ e)) (cases_eq i f.place)

  ends_new : (j : ℕ) → j < quantities rows box → Nonbasic news j → AtAnEnd (get_or (ends_of box) j no_ends) (get_or after j (pos 0))
  ends_new j h free =
      let apart : j ≡ q → ⊥ = λ e. free f.place (is f.place g.placed) (ap (λ (x : Line). x.basic) (exchanged_there f.place q new t.lines g.placed) ∙ sym e) in
      ⊎_elim (λ (e : j ≡ f.basic). subst (λ m. AtAnEnd (get_or (ends_of box) m no_ends) (get_or after m (pos 0))) (sym e) (subst (AtAnEnd (get_or (ends_of box) f.basic no_ends)) (sym at_leaving) g.seated))
      (λ (n : j ≡ f.basic → ⊥). subst (AtAnEnd (get_or (ends_of box) j no_ends)) (sym (at_other j apart n)) (kept.at_ends j h (was_nonbasic j free n))) (cases_eq j f.basic)

  -- ---- the solutions

  onward_new : (z : List ℤ) → Hold t.lines z → Hold news z
  onward_new z e =
      let own = turned_holds q (line f.place) z (hold_at t.lines z f.place g.placed e) in
      hold_from news z
      (λ i h. each (λ x. dot x.nums z ≡ pos 0) i h (λ _. own) (λ w n. cleared_holds q new.nums (line i).nums z own (hold_at t.lines z i w e)))

  back_new : (z : List ℤ) → Hold news z → Hold t.lines z
  back_new z e =
      let own : dot new.nums z ≡ pos 0 =
      ap (λ (x : Line). dot x.nums z) (sym (exchanged_there f.place q new t.lines g.placed)) ∙ hold_at news z f.place (is f.place g.placed) e in
      hold_from t.lines z (λ i h.
      ⊎_elim (λ (p : i ≡ f.place). ap (λ m. dot (line m).nums z) p ∙ turned_back q (line f.place) z own)
      (λ (n : i ≡ f.place → ⊥). cleared_back q new.nums (line i).nums z negative_at own
      (ap (λ (x : Line). dot x.nums z) (sym (exchanged_elsewhere f.place q new t.lines i h n)) ∙ hold_at news z i (is i h) e)) (cases_eq i f.place))

  pub pivot_keeps : Kept rows box (pivoted (ends_of box) f q t)
  pivot_keeps =
      record {
        solved = solved_pivot f.place q t.lines kept.solved g.placed g.enters.moves;
        inside = λ i h. each (λ x. x.basic < quantities rows box) i h (λ _. g.enters.inside) (λ w _. kept.inside i w);
        long = λ i h. each (λ x. length x.nums ≡ quantities rows box) i h (λ _. length_turned q (line f.place) ∙ kept.long f.place g.placed)
            (λ w _. length_cleared q new.nums (line i).nums (quantities rows box) (length_turned q (line f.place) ∙ kept.long f.place g.placed) (kept.long i w));
        wide = wide_new;
        zero_at = zero_new;
        at_ends = ends_new;
        onward = λ z h. onward_new z (kept.onward z h);
        back = λ z h. kept.back z (back_new z h);
        reduced = λ i d h. each (λ x. Coprime x.nums) i h (λ _. turned_coprime q (line f.place) (λ c. kept.reduced f.place c g.placed))
            (λ w n. cleared_coprime q new.nums (line i).nums (line i).basic negative_at (zero_in_new i w n) (kept.solved.own i w) (λ c. kept.reduced i c w)) d;
      }
