-- Bytes written one after the other are bytes written at once.
use Rattle.std.proofs.Common.{◌≡◌, ℕ, ◌+◌, ◌≤◌, List, [], ◌++◌, length, length-drop, take, drop, sym, refl, ap, ◌∙◌, add-zero, add_assoc, subst, arith}
use borrow.Rule.Slice.PartMut.{put_mid}
use Rattle.std.proofs.lemmas.List.{append_assoc, length-append, length-take-le, take_at, drop_at, drop-drop, take-append-drop}
use Rattle.search.specs.declared.record.Record.{Record}
use Rattle.search.specs.Written.{wrote, Wrote}

front_long : (p : ℕ) (bs xs : List ℕ) → p ≤ length xs → length (take p xs ++ bs) ≡ p + length bs
front_long p bs xs h = length-append (take p xs) bs ∙ ap (λ n. n + length bs) (length-take-le p xs h)

pub wrote_none : (p : ℕ) (xs : List ℕ) → wrote p [] xs ≡ xs
unfolding wrote
wrote_none p xs = rw add-zero (take-append-drop p xs)

-- what stands up to the end of what was written
pub wrote_take : (p : ℕ) (bs xs : List ℕ) → p ≤ length xs → take (p + length bs) (wrote p bs xs) ≡ take p xs ++ bs
unfolding wrote
wrote_take p bs xs h = rw (← append_assoc (take p xs) bs (drop (p + length bs) xs)) (take_at (take p xs ++ bs) _ _ (front_long p bs xs h))

-- what stands after it
pub wrote_drop : (p : ℕ) (bs xs : List ℕ) → p ≤ length xs → drop (p + length bs) (wrote p bs xs) ≡ drop (p + length bs) xs
unfolding wrote
wrote_drop p bs xs h = rw (← append_assoc (take p xs) bs (drop (p + length bs) xs)) (drop_at (take p xs ++ bs) _ _ (front_long p bs xs h))

begun : (p : ℕ) (bs xs : List ℕ) → wrote p bs xs ≡ take p xs ++ (bs ++ drop (p + length bs) xs)
unfolding wrote
begun p bs xs = refl

joined : (p : ℕ) (bs cs xs : List ℕ) → (take p xs ++ bs) ++ (cs ++ drop (p + length (bs ++ cs)) xs) ≡ wrote p (bs ++ cs) xs
unfolding wrote
joined p bs cs xs = simp append_assoc

past : (p : ℕ) (bs cs xs : List ℕ) → p ≤ length xs → drop (p + length bs + length cs) (wrote p bs xs) ≡ drop (p + length (bs ++ cs)) xs
past p bs cs xs h =
    sym (drop-drop (length cs) (p + length bs) (wrote p bs xs)) ∙ ap (drop (length cs)) (wrote_drop p bs xs h) ∙ drop-drop (length cs) (p + length bs) xs
    ∙ ap (λ n. drop n xs) (simp (length-append, add_assoc))

pub wrote_more : (p : ℕ) (bs cs xs : List ℕ) → p ≤ length xs → wrote (p + length bs) cs (wrote p bs xs) ≡ wrote p (bs ++ cs) xs
wrote_more p bs cs xs h = begun (p + length bs) cs (wrote p bs xs) ∙ rw (wrote_take p bs xs h, past p bs cs xs h) (joined p bs cs xs)

-- the same place told in two ways
pub wrote_next : (p q : ℕ) (bs cs xs : List ℕ) → q ≡ p + length bs → p ≤ length xs → wrote q cs (wrote p bs xs) ≡ wrote p (bs ++ cs) xs
wrote_next p q bs cs xs e h = rw e (wrote_more p bs cs xs h)

-- a part overwritten by the bytes of a piece
pub part_wrote : (p k : ℕ) (bs xs ys : List ℕ) → ys ≡ bs → k ≡ length bs → put_mid p k xs ys ≡ wrote p bs xs
unfolding wrote
part_wrote p k bs xs ys e l = rw (e, l) (ap (λ (zs : List ℕ). take p xs ++ (bs ++ zs)) (drop-drop (length bs) p xs))

-- an entry written in two pieces
pub wrote_both : (bs cs : List ℕ) (r s t : Record) → Wrote bs r s → Wrote cs s t → Wrote (bs ++ cs) r t
wrote_both bs cs r s t first second =
    record {
      bytes = second.bytes ∙ ap (λ i. wrote i cs s.bytes.now) first.len ∙ ap (wrote (r.len + length bs) cs) first.bytes ∙ wrote_more r.len bs cs r.bytes.now r.within;
      len = rw length-append (omega arith);
      long = second.long ∙ first.long;
      named = second.named ∙ first.named;
    }

-- as long as before
pub wrote_long : (p : ℕ) (bs xs : List ℕ) → p + length bs ≤ length xs → length (wrote p bs xs) ≡ length xs
unfolding wrote
wrote_long p bs xs h = let l = length-take-le p xs (omega arith) in rw (length-append, length-append, l, length-drop) (omega arith)

-- the same bytes told in two ways
pub wrote_as : (bs cs : List ℕ) (r s : Record) → bs ≡ cs → Wrote bs r s → Wrote cs r s
wrote_as bs cs r s e w = subst (λ (xs : List ℕ). Wrote xs r s) e w
