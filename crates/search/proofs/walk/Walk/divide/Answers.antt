use Rattle.std.proofs.Common.{◌≡◌, ℕ, ℤ, max, refl, ap, ◌∙◌, arith}
use Rattle.problems.specs.declared.vars.Vars.{Vars}
use Rattle.problems.specs.Box.{splits, low, lower_half}
use Rattle.problems.specs.View.{vars_in, box_of, rows_of}
use Rattle.problems.proofs.Boxes.{length_low}
use Rattle.problems.proofs.Views.{proper}
use Rattle.search.specs.declared.open_split.OpenSplit.{OpenSplit}
use Rattle.search.specs.Walk.{stand_of}
use Rattle.search.proofs.Entries.{split_small}
use Rattle.search.proofs.Walks.{half_is, half_put, put_on, split_state, split_moved}
use Rattle.search.proofs.walk.Walk.divide.Goals as goal

pub write_split-requires : goal.write_split-requires
write_split-requires c =
    let w = c.args.self.now in
    let cut = split_small (rows_of w.at) (box_of w.at) c.args.cut.0 c.args.cut.1 (proper w.at) c.requires.splits in
    record { variable = cut.0; small = cut.1; room = omega (arith, c.requires.going.room) }

lower : (c : goal.After-self-1) → box_of c.put_vars.new.self ≡ lower_half c.args.cut.0 c.args.cut.1 (box_of c.args.self.now.at)
lower c =
    let v = c.args.cut.0 in
    let k = c.args.cut.1 in
    let at = c.args.self.now.at in
    let s = c.saved-vars.ensures in
    let h = half_is c.saved-vars.result c.below.result c.in-Some.half (splits v k (vars_in c.saved-vars.result)) (low v k (vars_in c.saved-vars.result))
    c.in-Some.is (ap (λ (t : Vars). splits v k (vars_in t)) s ∙ c.requires.splits) c.below.ensures ∙ ap (λ (t : Vars). low v k (vars_in t)) s in
    half_put at c.put_vars.new.self c.in-Some.half c.put_vars.result (low v k (box_of at).vars) h (length_low v k (box_of at).vars) c.put_vars.ensures.value c.put_vars.ensures.ends

abbrev with_cut : ℕ × ℤ → Vars → OpenSplit
with_cut cut vars = record { cut = cut; vars = vars }

pub returns-in-Some : goal.returns-in-Some
returns-in-Some c =
    let going = c.requires.going in
    let r = c.args.written.now in
    let w = stand_of c.args.self.now r in
    let bs = c.write_split.new.self in
    let s = c.args.stack.now in
    let st = c.push.new.self in
    let e : OpenSplit = record { cut = c.args.cut; vars = c.saved-vars.result } in
    let e-is = ap (λ (t : Vars). with_cut c.args.cut t) c.saved-vars.ensures in
    let q = put_on s.slots.now st.slots.now s.len st.len e _ going.place c.push.ensures.after in
    let d-is = c.max-self.ensures ∙ ap (max w.deepest) c.len.ensures.value in
    record {
      state = split_state w r.bytes.now bs.bytes.now s.slots.now st.slots.now s.len st.len
          c.args.cut.0 c.args.cut.1 c.put_vars.new.self e c.max-self.result bs.len
          going.room c.write_split.ensures.bytes c.write_split.ensures.len going.place q.0 q.1 e-is (lower c) d-is;
      moved = record {
        moved = split_moved w r.bytes.now bs.bytes.now s.slots.now st.slots.now s.len st.len
            c.args.cut.0 c.args.cut.1 c.put_vars.new.self e c.max-self.result bs.len
            going.room c.write_split.ensures.bytes c.write_split.ensures.len going.place q.0 q.1 e-is (lower c) d-is
            c.requires.splits c.put_vars.ensures.rows;
        root = refl;
        budget = refl;
        bytes = c.write_split.ensures.long;
        written = c.write_split.ensures.named;
        stack = c.push.ensures.named;
      };
    }
