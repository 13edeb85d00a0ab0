-- A step of the walk in the code is a step of the search.
use Rattle.std.proofs.Common.{◌≡◌, ℕ, suc, ◌+◌, ◌-◌, ◌<◌, ◌≤◌, max, Bool, true, cond, eqb, List, [], ◌∷◌, ◌++◌, map, reverse, length, get_or, take, drop, set, replicate, ℤ, Some, None, Ok, Err, Option, Result, sym, refl, ap, ◌∙◌, subst, ⊎_elim, add-one, arith, length-set, drop-cons, get_or-set_same}
use Rattle.std.specs.List.{AllByRecursion}
use Rattle.std.proofs.lemmas.List.{length-map, length-take-le, length-reverse, reverse-append, take_more, take_more_set, drop-set-lt, drop-drop, take-set}
use Rattle.std.proofs.ByRecursion.{All-push}
use Rattle.std.proofs.lemmas.Bool.{cases_lt, eq-eqb}
use Rattle.std.specs.Option.{option_map}
use Rattle.problems.specs.declared.quantity.Span.{Span}
use Rattle.problems.specs.declared.quantity.RowEnds.{RowEnds}
use Rattle.problems.specs.declared.vars.Vars.{Vars}
use Rattle.problems.specs.declared.problem.Problem.{Problem}
use Rattle.problems.specs.Box.{Box, splits, high, lower_half, with_vars}
use Rattle.testers.specs.Leaf.{Leaf}
use Rattle.problems.specs.View.{vars_in, box_of, rows_of}
use Rattle.problems.proofs.Boxes.{length_low, length_high}
use Rattle.problems.proofs.Views.{vars_long}
use Rattle.search.specs.declared.open_split.OpenSplit.{OpenSplit}
use Rattle.search.specs.Bytes.{split_bytes, leaf_bytes}
use Rattle.search.specs.declared.uses.Uses.{Uses as UsesType}
use Rattle.search.specs.Search.{Search, Open, Found, with_split, with_leaf, also_used, next, ends_with}
use Rattle.search.specs.Search.Verdict.{none}
use Rattle.lent.specs.Stacks.{Pushed}
use Rattle.search.specs.Shown.{uses_of}
use Rattle.search.specs.Written.{wrote}
use Rattle.search.specs.Walk.{Stand, open_of, opens_of, state_of, Splits, Ready, blank_split, Blanked, Moved}
use Rattle.search.proofs.Written.{wrote_take, wrote_drop}

-- ---- the stack's slots

-- one entry more on the stack
pub pushed : {E : Type 0} (xs ys : List E) (n : ℕ) (e : E) → n < length xs → ys ≡ set xs n e → take (n + 1) ys ≡ take n xs ++ (e ∷ [])
pushed xs ys n e h p = ap (take (n + 1)) p ∙ take_more_set xs n e h

pub newest_first : {E : Type 0} (xs : List E) (e : E) → reverse (xs ++ (e ∷ [])) ≡ e ∷ reverse xs
newest_first xs e = reverse-append xs (e ∷ [])

-- blanks stay blanks when an entry goes on
pub blanks_pushed : (path xs ys : List OpenSplit) (d n : ℕ) (e : OpenSplit) → ys ≡ set xs n e → Blanked path d xs n → Blanked path (max d (n + 1)) ys (n + 1)
blanks_pushed path xs ys d n e p b =
    ⊎_elim (λ (h : n < d). (omega arith, grown h)) (λ (h : d ≤ n). (omega arith, reached h)) (cases_lt n d)
  where
    rest : drop (n + 1) ys ≡ drop 1 (drop n xs)
    rest = ap (drop (n + 1)) p ∙ drop-set-lt (n + 1) xs n e (omega arith) ∙ sym (drop-drop 1 n xs)

    grown : n < d → drop (n + 1) ys ≡ replicate (max d (n + 1) - (n + 1)) blank_split ++ drop (max d (n + 1)) path
    grown h =
        let m : max d (n + 1) ≡ d = omega arith in
        let s : d - n ≡ suc (d - (n + 1)) = omega arith in
        rw m (rest ∙ ap (drop 1) b.1 ∙ ap (λ k. drop 1 (replicate k blank_split ++ drop d path)) s)

    reached : d ≤ n → drop (n + 1) ys ≡ replicate (max d (n + 1) - (n + 1)) blank_split ++ drop (max d (n + 1)) path
    reached h =
        let m : max d (n + 1) ≡ d + 1 = omega (arith, b.0) in
        let z : d - n ≡ 0 = omega arith in
        let y : d + 1 - (n + 1) ≡ 0 = omega arith in
        rw (m, y) (rest ∙ ap (drop 1) b.1 ∙ ap (λ k. drop 1 (replicate k blank_split ++ drop d path)) z ∙ drop-drop 1 d path)

-- and when one is taken off
pub blanks_popped : (path xs ys : List OpenSplit) (d n m : ℕ) → 0 < n → n ≤ length xs → m ≡ n - 1 → ys ≡ set xs m blank_split → Blanked path d xs n → Blanked path d ys m
blanks_popped path xs ys d n m h l e p b =
    let k : m < length xs = omega arith in
    let s : d - m ≡ suc (d - n) = omega (arith, b.0) in
    let j : suc m ≡ n = omega arith in (
      omega (arith, b.0),
      ap (drop m) p ∙ drop-cons (set xs m blank_split) m blank_split (rw (length-set xs m blank_split) k)
          ∙ ap (λ (o : OpenSplit). o ∷ drop (suc m) (set xs m blank_split)) (get_or-set_same xs m blank_split blank_split k)
          ∙ ap (λ (os : List OpenSplit). blank_split ∷ os) (drop-set-lt (suc m) xs m blank_split (omega arith) ∙ ap (λ i. drop i xs) j ∙ b.1)
          ∙ ap (λ i. replicate i blank_split ++ drop d path) (sym s),
    )

-- what stands below the entry that is taken off
pub popped : {E : Type 0} (xs ys : List E) (n m : ℕ) (b : E) → 0 < n → n ≤ length xs → m ≡ n - 1 → ys ≡ set xs m b → take n xs ≡ take m ys ++ (get_or xs m b ∷ [])
popped xs ys n m b h l e p =
    let j : n ≡ m + 1 = omega arith in
    ap (λ i. take i xs) j ∙ take_more xs m b (omega arith) ∙ ap (λ (zs : List _). zs ++ (get_or xs m b ∷ [])) (sym (ap (take m) p ∙ take-set xs m b))

pub all_front : {X : Type 0} (P : X → Type 0) (xs ys : List X) → AllByRecursion P (xs ++ ys) → AllByRecursion P xs
all_front P [] ys h = tt
all_front P (x ∷ xs) ys h = (h.0, all_front P xs ys h.1)

pub all_last : {X : Type 0} (P : X → Type 0) (xs : List X) (y : X) → AllByRecursion P (xs ++ (y ∷ [])) → P y
all_last P [] y h = h.0
all_last P (x ∷ xs) y h = all_last P xs y h.1

-- what holds of every entry holds of the one that is taken off
pub top_holds : {E : Type 0} (P : E → Type 0) (xs ys : List E) (n m : ℕ) (b o : E) → 0 < n → n ≤ length xs → m ≡ n - 1 → ys ≡ set xs (n - 1) b → o ≡ get_or xs (n - 1) b → AllByRecursion P (take n xs) → P o
top_holds P xs ys n m b o h l e p q a =
    let t = popped xs ys n m b h l e (p ∙ ap (λ i. set xs i b) (sym e)) in
    subst P (ap (λ i. get_or xs i b) e ∙ sym q) (all_last P (take m ys) (get_or xs m b) (subst (AllByRecursion P) t a))

-- ---- boxes

-- with-vars of a box's own ends is the box, and only the rows' ends of the other box matter
open_same : (a b : Box) → a.rows ≡ b.rows → (os : List OpenSplit) → map (open_of a) os ≡ map (open_of b) os
open_same a b e [] = refl
open_same a b e (o ∷ os) =
    ap (λ (es : List RowEnds). record { variable = o.cut.0; at = o.cut.1; box = record { vars = vars_in o.vars; rows = es } } ∷ map (open_of a) os) e
    ∙ ap (λ (ps : List Open). open_of b o ∷ ps) (open_same a b e os)

-- as many variables as the list has
count_of : (p q : Problem) → length (box_of p).vars ≡ length (box_of q).vars → p.ends.vars.n ≡ q.ends.vars.n
count_of p q e = sym (vars_long p.ends.vars) ∙ e ∙ vars_long q.ends.vars

-- a half that was asked for and is there
pub half_is : (vars : Vars) (res : Option Vars) (half : Vars) (cut : Bool) (part : List Span) → res ≡ Some half → cut ≡ true → option_map vars_in res ≡ cond {A = Option (List Span)} cut (Some part) None → vars_in half ≡ part
half_is vars res half cut part p c e =
    let q : Some (vars_in half) ≡ Some part = sym (ap (option_map vars_in) p) ∙ e ∙ ap (λ (b : Bool). cond {A = Option (List Span)} b (Some part) None) c in
    cc

pub half_there : {A : Type 0} (res : Option Vars) (cut : Bool) (part : List Span) → res ≡ None → cut ≡ true → option_map vars_in res ≡ cond {A = Option (List Span)} cut (Some part) None → A
half_there res cut part p c e =
    let q : None ≡ Some part = sym (ap (option_map vars_in) p) ∙ e ∙ ap (λ (b : Bool). cond {A = Option (List Span)} b (Some part) None) c in
    let z : ◌≡◌ {A = ℕ} 0 1 = cc in
    absurd (omega arith)

-- and put in its place
pub half_put : (at after : Problem) (half : Vars) (r : Bool) (part : List Span) → vars_in half ≡ part → length part ≡ length (box_of at).vars
    → r ≡ eqb (length (vars_in half)) (length (box_of at).vars) → box_of after ≡ cond r (with_vars (vars_in half) (box_of at)) (box_of at) → box_of after ≡ with_vars part (box_of at)
half_put at after half r part h l v e =
    let t : r ≡ true = v ∙ eq-eqb _ _ (ap length h ∙ l) in
    e ∙ ap (λ (b : Bool). cond b (with_vars (vars_in half) (box_of at)) (box_of at)) t ∙ ap (λ (ss : List Span). with_vars ss (box_of at)) h

-- an entry for which there was room
pub put_on : {E : Type 0} (xs ys : List E) (n m : ℕ) (e : E) (r : Result (Unit {0}) E) → n < length xs → Pushed xs n e ys m r → (ys ≡ set xs n e) × (m ≡ n + 1)
put_on xs ys n m e (Ok u) h p = (p.1, p.2)
put_on xs ys n m e (Err y) h p = absurd (omega (arith, p.0))

-- ---- a split

module _ (w : Stand) (bs bs' : List ℕ) (xs ys : List OpenSplit) (n m : ℕ) (v : ℕ) (k : ℤ) (at : Problem) (e : OpenSplit) (d b : ℕ)
    (room : w.bytes + 100 ≤ length bs) (wrote-split : bs' ≡ wrote w.bytes (split_bytes v k) bs) (b-is : b ≡ w.bytes + 6)
    (place : n < length xs) (put : ys ≡ set xs n e) (m-is : m ≡ n + 1) (e-is : e ≡ record { cut = (v, k); vars = w.at.ends.vars })
    (half : box_of at ≡ lower_half v k (box_of w.at)) (d-is : d ≡ max w.deepest m) where
  abbrev moved_to : Stand
  moved_to = record { at = at; boxes = w.boxes + 1; bytes = b; used = w.used; deepest = d }

  entries : take m ys ≡ take n xs ++ (e ∷ [])
  entries = ap (λ i. take i ys) m-is ∙ pushed xs ys n e place put

  opens : opens_of (box_of at) (take m ys) ≡ record { variable = v; at = k; box = box_of w.at } ∷ opens_of (box_of w.at) (take n xs)
  opens =
      ap (λ (os : List OpenSplit). map (open_of (box_of at)) (reverse os)) entries
      ∙ ap (map (open_of (box_of at))) (newest_first (take n xs) e)
      ∙ open_same (box_of at) (box_of w.at) (ap (λ (x : Box). x.rows) half) (e ∷ reverse (take n xs))
      ∙ ap (λ (o : OpenSplit). open_of (box_of w.at) o ∷ opens_of (box_of w.at) (take n xs)) e-is

  written : take b bs' ≡ take w.bytes bs ++ split_bytes v k
  written = ap (λ i. take i bs') b-is ∙ ap (take (w.bytes + 6)) wrote-split ∙ wrote_take w.bytes (split_bytes v k) bs (omega arith)

  pub split_state : state_of moved_to bs' (take m ys) ≡ with_split v k (state_of w bs (take n xs))
  split_state =
      let long : length (opens_of (box_of w.at) (take n xs)) ≡ n = length-map (reverse (take n xs)) (open_of (box_of w.at)) ∙ length-reverse (take n xs) ∙ length-take-le n xs (omega arith) in
      let deep : d ≡ max w.deepest (suc (length (opens_of (box_of w.at) (take n xs)))) = d-is ∙ ap (max w.deepest) (m-is ∙ add-one n ∙ ap suc (sym long)) in
      λ i. record { box = half i; open_splits = opens i; boxes = add-one w.boxes i; bytes = written i; used = uses_of w.used; deepest = deep i }

  pub split_moved : splits v k (box_of w.at).vars ≡ true → rows_of at ≡ rows_of w.at → Moved w moved_to bs bs' xs ys n m
  split_moved cuts same =
      record {
        boxes = refl;
        more = omega arith;
        room = omega arith;
        kept = ap (λ i. drop i bs') b-is ∙ ap (drop (w.bytes + 6)) wrote-split ∙ wrote_drop w.bytes (split_bytes v k) bs (omega arith) ∙ ap (λ i. drop i bs) (sym b-is);
        place = omega arith;
        long = ap length put ∙ length-set xs n e;
        ready = λ root r.
            let c = count_of at w.at (ap (λ (x : Box). length x.vars) half ∙ length_low v k (box_of w.at).vars) in
            record {
              count = c ∙ r.count;
              rows = same ∙ r.rows;
              row_ends = ap (λ (x : Box). x.rows) half ∙ r.row_ends;
              each = subst (AllByRecursion (Splits root.ends.vars.n)) (sym entries)
                  (All-push (Splits root.ends.vars.n) (take n xs) e r.each (subst (Splits root.ends.vars.n) (sym e-is) (r.count, cuts)));
            };
        blanks = λ path bl. rw (d-is, m-is) (blanks_pushed path xs ys w.deepest n e put bl);
      }

-- ---- a leaf

module _ (root : Problem) (w : Stand) (bs bs' : List ℕ) (xs ys : List OpenSplit) (n m : ℕ) (l : Leaf) (u : UsesType) (b : ℕ)
    (room : w.bytes + 100 ≤ length bs) (short : length (leaf_bytes l) ≤ 100) (wrote-leaf : bs' ≡ wrote w.bytes (leaf_bytes l) bs) (b-is : b ≡ w.bytes + length (leaf_bytes l))
    (noted : uses_of u ≡ also_used (rows_of w.at) (box_of root) (box_of w.at) l (uses_of w.used)) where
  abbrev left_at : Problem → Stand
  left_at at = record { at = at; boxes = w.boxes + 1; bytes = b; used = u; deepest = w.deepest }

  abbrev told_so_far : Search
  told_so_far = with_leaf (rows_of w.at) (box_of root) l (state_of w bs (take n xs))

  leaf_written : take b bs' ≡ take w.bytes bs ++ leaf_bytes l
  leaf_written =
      ap (λ i. take i bs') b-is ∙ ap (take (w.bytes + length (leaf_bytes l))) wrote-leaf ∙ wrote_take w.bytes (leaf_bytes l) bs (omega arith)

  leaf_kept : drop b bs' ≡ drop b bs
  leaf_kept =
      ap (λ i. drop i bs') b-is ∙ ap (drop (w.bytes + length (leaf_bytes l))) wrote-leaf ∙ wrote_drop w.bytes (leaf_bytes l) bs (omega arith)
      ∙ ap (λ i. drop i bs) (sym b-is)

  -- no split is open
  pub last_leaf : (further : Search → Found) → n ≡ 0 → ys ≡ xs → m ≡ n
      → next further told_so_far (opens_of (box_of w.at) (take n xs)) ≡ ends_with (none (uses_of u)) (state_of (left_at w.at) bs' (take m ys))
  last_leaf further z same e =
      let none_open : take n xs ≡ [] = ap (λ i. take i xs) z in
      let here : take m ys ≡ take n xs = ap (λ i. take i ys) e ∙ ap (take n) same in
      ap (λ (os : List OpenSplit). next further told_so_far (opens_of (box_of w.at) os)) none_open
      ∙ (λ i. record { verdict = none (sym noted i); boxes = sym (add-one w.boxes) i; bytes = sym leaf_written i; deepest = w.deepest })

  pub last_moved : n ≡ 0 → ys ≡ xs → m ≡ n → Moved w (left_at w.at) bs bs' xs ys n m
  last_moved z same e =
      let here : take m ys ≡ take n xs = ap (λ i. take i ys) e ∙ ap (take n) same in
      record {
        boxes = refl;
        more = omega arith;
        room = omega arith;
        kept = leaf_kept;
        place = omega arith;
        long = ap length same;
        ready = λ r h. record { count = h.count; rows = h.rows; row_ends = h.row_ends; each = subst (AllByRecursion (Splits r.ends.vars.n)) (sym here) h.each };
        blanks = λ path bl. rw (same, e) bl;
      }

  -- the latest open split is taken up
  module _ (o : OpenSplit) (at : Problem) (some : 0 < n) (fits : n ≤ length xs) (m-is : m ≡ n - 1) (off : ys ≡ set xs (n - 1) blank_split) (o_is : o ≡ get_or xs (n - 1) blank_split)
      (half : box_of at ≡ with_vars (high o.cut.0 o.cut.1 (vars_in o.vars)) (box_of w.at)) where
    off_at : ys ≡ set xs m blank_split
    off_at = off ∙ ap (λ i. set xs i blank_split) (sym m-is)

    entries_were : take n xs ≡ take m ys ++ (o ∷ [])
    entries_were =
        popped xs ys n m blank_split some fits m-is off_at ∙ ap (λ (p : OpenSplit). take m ys ++ (p ∷ [])) (ap (λ i. get_or xs i blank_split) m-is ∙ sym o_is)

    opens_were : opens_of (box_of w.at) (take n xs) ≡ open_of (box_of w.at) o ∷ opens_of (box_of w.at) (take m ys)
    opens_were = ap (opens_of (box_of w.at)) entries_were ∙ ap (map (open_of (box_of w.at))) (newest_first (take m ys) o)

    pub next_leaf : (further : Search → Found)
        → next further told_so_far (opens_of (box_of w.at) (take n xs)) ≡ further (state_of (left_at at) bs' (take m ys))
    next_leaf further =
        let rest : opens_of (box_of w.at) (take m ys) ≡ opens_of (box_of at) (take m ys) = sym (open_same (box_of at) (box_of w.at) (ap (λ (x : Box). x.rows) half) (reverse (take m ys))) in
        ap (next further told_so_far) opens_were
        ∙ ap further (λ i. record { box = sym half i; open_splits = rest i; boxes = sym (add-one w.boxes) i; bytes = sym leaf_written i; used = sym noted i; deepest = w.deepest })

    pub next_moved : Ready root w.at (take n xs) → rows_of at ≡ rows_of w.at → Moved w (left_at at) bs bs' xs ys n m
    next_moved was same =
        record {
          boxes = refl;
          more = omega arith;
          room = omega arith;
          kept = leaf_kept;
          place = omega arith;
          long = ap length off ∙ length-set xs (n - 1) blank_split;
          ready = λ r h.
              let all = subst (AllByRecursion (Splits r.ends.vars.n)) entries_were h.each in
              let mine = all_last (Splits r.ends.vars.n) (take m ys) o all in
              let c : length (box_of at).vars ≡ r.ends.vars.n
              = ap (λ (x : Box). length x.vars) half ∙ length_high o.cut.0 o.cut.1 (vars_in o.vars) ∙ vars_long o.vars ∙ mine.0 in
              record {
                count = sym (vars_long at.ends.vars) ∙ c;
                rows = same ∙ h.rows;
                row_ends = ap (λ (x : Box). x.rows) half ∙ h.row_ends;
                each = all_front (Splits r.ends.vars.n) (take m ys) (o ∷ []) all;
              };
          blanks = λ path bl. blanks_popped path xs ys w.deepest n m some fits m-is off_at bl;
        }
