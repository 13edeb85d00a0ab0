-- Bytes written into others.
use Rattle.std.specs.Prelude.{◌≡◌, ℕ, ◌+◌, List, ◌++◌, length, take, drop}
use Rattle.search.specs.declared.record.Record.{Record}

-- xs with bs from place p on, and everything else as it was
unfoldable pub wrote : ℕ → List ℕ → List ℕ → List ℕ
wrote p bs xs = take p xs ++ (bs ++ drop (p + length bs) xs)

-- bs is written at the end of the record r, which becomes s: the same bytes lent
pub record Wrote (bs : List ℕ) (r s : Record) : Type 0 where
  pub bytes : s.bytes.now ≡ wrote r.len bs r.bytes.now
  pub len : s.len ≡ r.len + length bs
  pub long : length s.bytes.now ≡ length r.bytes.now
  pub named : s.bytes.ghost_name ≡ r.bytes.ghost_name
