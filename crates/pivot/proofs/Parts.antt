-- The first k numbers of a line, written as a part.
use Rattle.std.proofs.Common.{◌≡◌, ℕ, zero, suc, ◌+◌, ◌-◌, ◌<◌, ◌≤◌, true, cond, eqb, List, [], ◌∷◌, ◌++◌, map, length, get_or, take, drop, set, ℤ, negsuc, sym, ap, ◌∙◌, subst, add-one, arith}
use Rattle.std.proofs.lemmas.List.{take_at, length-append, length-drop, length-take-le, drop_more, take_more_set, append_assoc, map-append, drop-set-lt}
use Rattle.problems.specs.Rows.{scale}
use Rattle.problems.specs.Whole.{all_within}
use Rattle.tableau.specs.declared.line.Line.{Line}
use Rattle.tableau.specs.Lines.{substituted}
use Rattle.tableau.specs.Tableau.{exchanged, small_lines}
use Rattle.pivot.specs.Shapes.{seen, Shaped, AllShaped, LineOk, LinesOk}
use Rattle.pivot.proofs.Walks.{negate_within}
use Rattle.std.proofs.lemmas.Bool.{and_parts}

pub front : (k : ℕ) (r : List ℤ) → take (k - 0) r ≡ take k r
front k r = let e : k - 0 ≡ k = omega arith in ap (λ n. take n r) e

pub front_long : (k : ℕ) (r : List ℤ) → k ≤ length r → length (take (k - 0) r) ≡ k
front_long k r h = ap length (front k r) ∙ length-take-le k r h

pub put_long : (k : ℕ) (new r : List ℤ) → length new ≡ k → k ≤ length r → length (new ++ drop (k - 0) r) ≡ length r
put_long k new r e h = simp (length-append, length-drop) (omega arith)

pub turned_ok : (k q : ℕ) (l : Line) (new : List ℤ) → q < k → k ≤ 24 → LineOk k l → length new ≡ k → new ≡ scale (negsuc 0) (take (k - 0) l.nums)
    → LineOk k (record { basic = q; nums = new ++ drop (k - 0) l.nums })
turned_ok k q l new h s o e n =
    let g : k ≤ length l.nums = omega (arith, o.long) in
    record {
      basic = h;
      small = ap (all_within 1000000000) (take_at new (drop (k - 0) l.nums) k e ∙ n ∙ ap (scale (negsuc 0)) (front k l.nums)) ∙ negate_within 1000000000 (take k l.nums) ∙ o.small;
      long = put_long k new l.nums e g ∙ o.long;
    }

-- ---- all lines

-- one line more is written in its place
pub exchange_next : (place q k : ℕ) (t : Line) (ls : List Line) (j : ℕ) (new d : Line) → j < length ls
    → seen k new ≡ cond (eqb j place) t (substituted q t (seen k (get_or ls j d)))
    → map (seen k) (take (j + 1) (set ls j new)) ++ exchanged place q t (j + 1) (map (seen k) (drop (j + 1) (set ls j new)))
    ≡ map (seen k) (take j ls) ++ exchanged place q t j (map (seen k) (drop j ls))
exchange_next place q k t ls j new d h n =
    let f : Line → Line = seen k in
    let x = exchanged place q t (j + 1) (map f (drop (j + 1) (set ls j new))) in
    let a = map f (take j ls) in
    let r = map f (drop (j + 1) ls) in
    let l : j < j + 1 = omega arith in
    ap (λ (m : List Line). map f m ++ x) (take_more_set ls j new h)
    ∙ ap (λ (m : List Line). m ++ x) (map-append f (take j ls) (new ∷ []))
    ∙ append_assoc a (f new ∷ []) x
    ∙ ap (λ (m : List Line). a ++ (f new ∷ exchanged place q t (j + 1) (map f m))) (drop-set-lt (j + 1) ls j new l)
    ∙ ap (λ (i : ℕ). a ++ (f new ∷ exchanged place q t i r)) (add-one j)
    ∙ ap (λ (y : Line). a ++ (y ∷ exchanged place q t (suc j) r)) n
    ∙ sym (ap (λ (m : List Line). a ++ exchanged place q t j (map f m)) (drop_more ls j d h))

pub shaped_set : (k : ℕ) (ls : List Line) (j : ℕ) (new : Line) → AllShaped k ls → Shaped k new → AllShaped k (set ls j new)
shaped_set k [] j new a s = a
shaped_set k (l ∷ ls) zero new a s = (s, a.1)
shaped_set k (l ∷ ls) (suc j) new a s = (a.0, shaped_set k ls j new a.1 s)

pub ok_shaped : (k : ℕ) (ls : List Line) → LinesOk k ls → AllShaped k ls
ok_shaped k [] o = tt
ok_shaped k (l ∷ ls) o = (record { basic = o.0.basic; long = o.0.long }, ok_shaped k ls o.1)

pub shaped_ok : (k : ℕ) (ls : List Line) → AllShaped k ls → small_lines (map (seen k) ls) ≡ true → LinesOk k ls
shaped_ok k [] a s = tt
shaped_ok k (l ∷ ls) a s = let e = and_parts _ _ s in (record { basic = a.0.basic; small = e.0; long = a.0.long }, shaped_ok k ls a.1 e.1)

ok_suc : (k : ℕ) (ls : List Line) (i : ℕ) → LinesOk k (drop i ls) → LinesOk k (drop (suc i) ls)
ok_suc k [] i o = tt
ok_suc k (l ∷ ls) zero o = o.1
ok_suc k (l ∷ ls) (suc i) o = ok_suc k ls i o

pub ok_next : (k : ℕ) (ls : List Line) (i : ℕ) (new : Line) → LinesOk k (drop i ls) → LinesOk k (drop (i + 1) (set ls i new))
ok_next k ls i new o =
    let l : i < i + 1 = omega arith in
    subst (LinesOk k) (sym (drop-set-lt (i + 1) ls i new l ∙ ap (λ n. drop n ls) (add-one i))) (ok_suc k ls i o)
