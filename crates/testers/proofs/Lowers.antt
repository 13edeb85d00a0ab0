-- The lower ends, one variable at a time and as a table.
use Rattle.std.proofs.Common.{◌≡◌, Some, None, Option, ℕ, zero, suc, subst, le_of_suc-le-suc, not-suc-le-zero, ◌+◌, ◌-◌, ◌<◌, ◌≤◌, List, [], ◌∷◌, ◌++◌, length, get_or, take, set, replicate, ℤ, pos, sym, refl, ap, ◌∙◌, arith}
use Rattle.std.proofs.lemmas.List.{length-take-le, set_at, take_more, append_assoc, take_all, take_at, ext_get_or, get_or-replicate, length-replicate}
use denote.Ref.{Bor}
use denote.Param.Members.{Mut, Called}
use Rattle.std.specs.Array.{IsFromFnResultFrom}
use Rattle.std.specs.Slice.{IsItemAt}
use Rattle.std.specs.Option.{MatchOption, option_map, unwrap_or}
use Rattle.problems.specs.declared.quantity.Span.{Span}
use Rattle.problems.specs.Box.{nowhere}
use Rattle.testers.specs.Halving.{lowers}

-- ---- the lower ends

pub length_lowers : (ss : List Span) → length (lowers ss) ≡ length ss
length_lowers [] = refl
length_lowers (s ∷ ss) = ap suc (length_lowers ss)

lowers_append : (a b : List Span) → lowers (a ++ b) ≡ lowers a ++ lowers b
lowers_append [] b = refl
lowers_append (s ∷ a) b = ap (λ (t : List ℤ). s.lower ∷ t) (lowers_append a b)

-- one more is copied into a table of c places
pub lowers_next : (c : ℕ) (ss : List Span) (i : ℕ) (v : ℤ) → i < length ss → length ss ≤ c → v ≡ (get_or ss i nowhere).lower
    → set (lowers (take i ss) ++ replicate (c - i) (pos 0)) i v ≡ lowers (take (i + 1) ss) ++ replicate (c - (i + 1)) (pos 0)
lowers_next c ss i v h s e =
    let zeros = replicate (c - (i + 1)) (pos 0) in
    let front = lowers (take i ss) in
    let m : c - i ≡ suc (c - (i + 1)) = omega arith in
    let l : length front ≡ i = length_lowers (take i ss) ∙ length-take-le i ss (omega arith) in
    let more = ap lowers (take_more ss i nowhere h) ∙ lowers_append (take i ss) (get_or ss i nowhere ∷ []) in
    ap (λ n. set (front ++ replicate n (pos 0)) i v) m
    ∙ set_at front (pos 0) zeros v i l
    ∙ ap (λ (x : ℤ). front ++ (x ∷ zeros)) e
    ∙ sym (append_assoc front ((get_or ss i nowhere).lower ∷ []) zeros)
    ∙ ap (λ (x : List ℤ). x ++ zeros) (sym more)

pub lowers_end : (c : ℕ) (ss : List Span) (i : ℕ) → length ss ≤ i → i ≤ length ss
    → lowers (take i ss) ++ replicate (c - i) (pos 0) ≡ lowers ss ++ replicate (c - length ss) (pos 0)
lowers_end c ss i h k =
    let e : i ≡ length ss = omega arith in
    ap (λ (x : List Span). lowers x ++ replicate (c - i) (pos 0)) (take_all i ss h) ∙ ap (λ n. lowers ss ++ replicate (c - n) (pos 0)) e

-- the point that the list tells of n variables
pub lowers_say : (c : ℕ) (ss : List Span) (n : ℕ) → length ss ≡ n → take n (lowers ss ++ replicate (c - length ss) (pos 0)) ≡ lowers ss
lowers_say c ss n e = take_at (lowers ss) (replicate (c - length ss) (pos 0)) n (length_lowers ss ∙ e)

-- ---- a table of c places, made place by place

-- calls that each give h of the place make the list of h
made_by : {F B : Type 0} (m : Mut F (ℕ × Unit {0}) B) (h : ℕ → B) (f : F) (ys : List B) → ((i : ℕ) (b : B) (q : F) → Called m f (i, tt) b q → (q ≡ f) × (b ≡ h i))
    → (i n : ℕ) → IsFromFnResultFrom m f ys i n → (k : ℕ) (d : B) → k < n → get_or ys (i + k) d ≡ h (i + k)
made_by m h f ys call i zero r k d l = absurd (not-suc-le-zero l)
made_by m h f ys call i (suc n) r zero d l =
    let z : i + 0 ≡ i = omega arith in
    rw z (r.2.1 d ∙ (call i r.1 r.0 r.3).1)
made_by {F} m h f ys call i (suc n) r (suc k) d l =
    let same = (call i r.1 r.0 r.3).0 in
    let z : i + suc k ≡ (i + 1) + k = omega arith in
    rw z (made_by m h f ys call (i + 1) n (subst (λ (q : F). IsFromFnResultFrom m q ys (i + 1) n) same r.4) k d (le_of_suc-le-suc l))

-- and so do all calls from the first place on
pub all_made : {F B : Type 0} (m : Mut F (ℕ × Unit {0}) B) (h : ℕ → B) (f : F) (ys : List B) (n : ℕ) → ((i : ℕ) (b : B) (q : F) → Called m f (i, tt) b q → (q ≡ f) × (b ≡ h i))
    → IsFromFnResultFrom m f ys 0 n → (k : ℕ) (d : B) → k < n → get_or ys k d ≡ h k
all_made m h f ys n call r k d l =
    let z : 0 + k ≡ k = omega arith in
    rw z at (made_by m h f ys call 0 n r k d l)

-- the lower end of what `get` lends, 0 past the last variable
got_lower : (r : Option (Bor Span)) (b : ℤ) → MatchOption r (b ≡ pos 0) (λ x. b ≡ x.now.lower) → b ≡ (unwrap_or (option_map (λ (x : Bor Span). x.now) r) nowhere).lower
got_lower None b h = h
got_lower (Some x) b h = h

lower_at : (ss : List Span) (i : ℕ) → (get_or ss i nowhere).lower ≡ get_or (lowers ss) i (pos 0)
lower_at [] i = refl
lower_at (s ∷ ss) zero = refl
lower_at (s ∷ ss) (suc i) = lower_at ss i

pub lower_got : (ss : List Span) (i : ℕ) (r : Option (Bor Span)) (b : ℤ) → IsItemAt ss i r → MatchOption r (b ≡ pos 0) (λ x. b ≡ x.now.lower) → b ≡ get_or (lowers ss) i (pos 0)
lower_got ss i r b g h = got_lower r b h ∙ ap (λ (s : Span). s.lower) (g.4 (omega arith) nowhere) ∙ lower_at ss i

-- what stands at each place of the table
padded_at : (c : ℕ) (xs : List ℤ) (i : ℕ) → i < c → get_or (take c xs ++ replicate (c - length xs) (pos 0)) i (pos 0) ≡ get_or xs i (pos 0)
padded_at zero xs i h = absurd (not-suc-le-zero h)
padded_at (suc c) [] i h = let e : suc c - 0 ≡ suc c = omega arith in rw e (get_or-replicate (suc c) i (pos 0) (pos 0) h)
padded_at (suc c) (x ∷ xs) zero h = refl
padded_at (suc c) (x ∷ xs) (suc i) h = let e : suc c - suc (length xs) ≡ c - length xs = omega arith in rw e (padded_at c xs i (le_of_suc-le-suc h))

padded_long : (c : ℕ) (xs : List ℤ) → length (take c xs ++ replicate (c - length xs) (pos 0)) ≡ c
padded_long zero xs = let e : 0 - length xs ≡ 0 = omega arith in rw e refl
padded_long (suc c) [] = let e : suc c - 0 ≡ suc c = omega arith in rw e (length-replicate (suc c) (pos 0))
padded_long (suc c) (x ∷ xs) = let e : suc c - suc (length xs) ≡ c - length xs = omega arith in rw e (ap suc (padded_long c xs))

pub lowers_made : (c : ℕ) (ss : List Span) (ys : List ℤ) → length ys ≡ c → ((i : ℕ) → i < c → get_or ys i (pos 0) ≡ get_or (lowers ss) i (pos 0))
    → ys ≡ take c (lowers ss) ++ replicate (c - length ss) (pos 0)
lowers_made c ss ys l h =
    ext_get_or (pos 0) ys (take c (lowers ss) ++ replicate (c - length (lowers ss)) (pos 0)) (l ∙ sym (padded_long c (lowers ss)))
    (λ i k. h i (rw (sym l) k) ∙ sym (padded_at c (lowers ss) i (rw (sym l) k)))
    ∙ ap (λ n. take c (lowers ss) ++ replicate (c - n) (pos 0)) (length_lowers ss)
