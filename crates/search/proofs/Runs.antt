-- A walk from its first box on is the search of that box.
use Rattle.std.proofs.Common.{◌≡◌, ℕ, suc, ◌+◌, ◌-◌, ◌*◌, ◌<◌, ◌≤◌, List, length, drop, sym, ap, ◌∙◌, subst, arith}
use Rattle.std.proofs.lemmas.List.{drop-drop}
use Rattle.problems.specs.declared.problem.Problem.{Problem}
use Rattle.testers.specs.Tester.{Meaning}
use Rattle.problems.specs.View.{box_of, rows_of}
use Rattle.search.specs.declared.open_split.OpenSplit.{OpenSplit}
use Rattle.lent.specs.declared.stack.Stack.{Stack}
use Rattle.search.specs.declared.record.Record.{Record}
use Rattle.search.specs.declared.walk.Walk.{Walk}
use Rattle.search.specs.declared.found.Verdict.{Verdict as VerdictType}
use Rattle.search.specs.Search.{Search, Found, told, search_on, search_box, ends_with}
use Rattle.search.specs.Shown.{verdict_of}
use Rattle.search.specs.Walk.{entries_on, reached, Ready, Blanked, Stepped}

-- what is left to search comes out as the whole search does, of a record and a stack that were q and o
pub record Under (m : Meaning) (root : Problem) (budget : ℕ) (q : Record) (o : Stack OpenSplit) (w : Walk) (r : Record) (s : Stack OpenSplit) : Type 0 where
  pub goes : search_on m (rows_of root) (box_of root) (budget - w.boxes) (reached w r s) ≡ search_box m (rows_of root) (box_of root) budget
  pub root_is : w.root.now ≡ root
  pub budget_is : w.budget ≡ budget
  pub ready : Ready root w.at (entries_on s)
  pub room : r.len ≤ 100 * w.boxes
  pub few : s.len ≤ w.boxes
  pub kept : drop r.len r.bytes.now ≡ drop r.len q.bytes.now
  pub long : length r.bytes.now ≡ length q.bytes.now
  pub places : length s.slots.now ≡ length o.slots.now
  pub blanks : Blanked o.slots.now w.deepest s.slots.now s.len
  pub written : r.bytes.ghost_name ≡ q.bytes.ghost_name
  pub stack : s.slots.ghost_name ≡ o.slots.ghost_name

-- what one more box leads to
abbrev pub Leads : Meaning → Walk → Record → Stack OpenSplit → ((Search → Found) → Found) → Type 0
Leads m w r s to =
    (further : Search → Found) → told (rows_of w.root.now) (box_of w.root.now) further (reached w r s) (m (rows_of w.root.now) (box_of w.at)) ≡ to further

module _ (m : Meaning) (root : Problem) (budget : ℕ) (q : Record) (o : Stack OpenSplit) (w : Walk) (r : Record) (s : Stack OpenSplit) (under : Under m root budget q o w r s) where
  module _ (v : Walk) (r' : Record) (s' : Stack OpenSplit) (left : w.boxes < budget) (stepped : Stepped w v r r' s s') where
    abbrev one_more : ℕ
    one_more = budget - (w.boxes + 1)

    unfolds : told (rows_of root) (box_of root) (search_on m (rows_of root) (box_of root) one_more) (reached w r s) (m (rows_of root) (box_of w.at)) ≡ search_box m (rows_of root) (box_of root) budget
    unfolds =
        let e : budget - w.boxes ≡ suc one_more = omega arith in
        ap (λ k. search_on m (rows_of root) (box_of root) k (reached w r s)) (sym e) ∙ under.goes

    of_root : (to : Problem → (Search → Found) → Found) → Leads m w r s (to w.root.now) → (further : Search → Found)
        → told (rows_of root) (box_of root) further (reached w r s) (m (rows_of root) (box_of w.at)) ≡ to root further
    of_root to step further =
        subst (λ (p : Problem). told (rows_of p) (box_of p) further (reached w r s) (m (rows_of p) (box_of w.at)) ≡ to p further) under.root_is (step further)

    -- what was not written stands as at the start
    pub kept_on : drop r'.len r'.bytes.now ≡ drop r'.len q.bytes.now
    kept_on =
        let e : r'.len ≡ r.len + (r'.len - r.len) = omega (arith, stepped.moved.more) in
        let past : (xs : List ℕ) → drop r'.len xs ≡ drop (r'.len - r.len) (drop r.len xs) = λ xs. ap (λ k. drop k xs) e ∙ sym (drop-drop (r'.len - r.len) r.len xs) in
        stepped.moved.kept ∙ past r.bytes.now ∙ ap (drop (r'.len - r.len)) under.kept ∙ sym (past q.bytes.now)

    -- the search goes on
    pub goes_on : Leads m w r s (λ further. further (reached v r' s')) → Under m root budget q o v r' s'
    goes_on step =
        let b = stepped.moved.boxes in
        record {
          goes = ap (λ k. search_on m (rows_of root) (box_of root) (budget - k) (reached v r' s')) b
              ∙ sym (of_root (λ _ further. further (reached v r' s')) step (search_on m (rows_of root) (box_of root) one_more)) ∙ unfolds;
          root_is = stepped.root ∙ under.root_is;
          budget_is = stepped.budget ∙ under.budget_is;
          ready = stepped.moved.ready root under.ready;
          room = omega (arith, b, stepped.moved.room, under.room);
          few = omega (arith, b, stepped.moved.place, under.few);
          kept = kept_on;
          long = stepped.bytes ∙ under.long;
          places = stepped.moved.long ∙ under.places;
          blanks = stepped.moved.blanks o.slots.now under.blanks;
          written = stepped.written ∙ under.written;
          stack = stepped.stack ∙ under.stack;
        }

    -- or ends
    pub ends_here : (verdict : VerdictType) → Leads m w r s (λ further. ends_with (verdict_of w.root.now.ends.vars.n verdict) (reached v r' s'))
        → ends_with (verdict_of root.ends.vars.n verdict) (reached v r' s') ≡ search_box m (rows_of root) (box_of root) budget
    ends_here verdict step =
        sym (of_root (λ p _. ends_with (verdict_of p.ends.vars.n verdict) (reached v r' s')) step (search_on m (rows_of root) (box_of root) one_more)) ∙ unfolds
