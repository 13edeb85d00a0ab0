use Rattle.std.proofs.Common.{◌≤◌, length, refl, sym, ◌∙◌, arith}
use Rattle.problems.specs.Box.{splits, high}
use Rattle.problems.specs.View.{vars_in}
use Rattle.testers.specs.Told.{leaf_in}
use Rattle.problems.proofs.Boxes.{length_high}
use Rattle.problems.proofs.Views.{vars_long}
use Rattle.search.specs.Bytes.{leaf_bytes}
use Rattle.search.specs.Walk.{Splits, stand_of}
use Rattle.search.proofs.Walks.{half_is, half_there, half_put, top_holds, last_leaf, last_moved, next_leaf, next_moved}
use Rattle.search.proofs.walk.Walk.refute.Goals as goal

pub returns-in_default : goal.returns-in_default
returns-in_default c =
    let root = c.args.self.now.root.now in
    let r = c.args.written.now in
    let w = stand_of c.args.self.now r in
    let bs = c.write_leaf.new.self in
    let s = c.args.stack.now in
    let st = c.pop.new.self in
    let l = leaf_in w.at.ends.vars.n w.at.ends.m c.args.leaf.now in
    let p = c.in_default.ensures.after in
    let wrote = c.write_leaf.ensures.after in
    let short : length (leaf_bytes l) ≤ 100 = omega (arith, wrote.len, c.write_leaf.ensures.short) in
    let room = c.requires.going.room in
    record {
      goes = λ further. last_leaf root w r.bytes.now bs.bytes.now s.slots.now st.slots.now s.len st.len
          l c.note.new.used bs.len room short wrote.bytes wrote.len c.note.ensures further p.0 p.1 p.2;
      moved = record {
        moved = last_moved root w r.bytes.now bs.bytes.now s.slots.now st.slots.now s.len st.len
            l c.note.new.used bs.len room short wrote.bytes wrote.len c.note.ensures p.0 p.1 p.2;
        root = refl;
        budget = refl;
        bytes = wrote.long;
        written = wrote.named;
        stack = c.pop.ensures.named;
      };
    }

pub returns-in-Some-above : goal.returns-in-Some-above
returns-in-Some-above c =
    let root = c.args.self.now.root.now in
    let r = c.args.written.now in
    let w = stand_of c.args.self.now r in
    let bs = c.write_leaf.new.self in
    let st = c.args.stack.now in
    let ys = c.pop.new.self.slots.now in
    let m = c.pop.new.self.len in
    let o = c.in-Some.split in
    let l = leaf_in w.at.ends.vars.n w.at.ends.m c.args.leaf.now in
    let p = c.in-Some.ensures.after in
    let wrote = c.write_leaf.ensures.after in
    let short : length (leaf_bytes l) ≤ 100 = omega (arith, wrote.len, c.write_leaf.ensures.short) in
    let room = c.requires.going.room in
    let t = top_holds (Splits root.ends.vars.n) st.slots.now ys st.len m _ o p.0 st.within p.2 p.1 p.3 c.requires.going.ready.each in
    let part = high o.cut.0 o.cut.1 (vars_in o.vars) in
    let h = half_is o.vars c.above.result c.in-Some-above.half (splits o.cut.0 o.cut.1 (vars_in o.vars)) part c.in-Some-above.is t.1 c.above.ensures in
    let n = length_high o.cut.0 o.cut.1 (vars_in o.vars) ∙ vars_long o.vars ∙ t.0 ∙ sym c.requires.going.ready.count ∙ sym (vars_long w.at.ends.vars) in
    let b = half_put w.at c.put_vars.new.self c.in-Some-above.half c.put_vars.result part h n c.put_vars.ensures.value c.put_vars.ensures.ends in
    record {
      goes = next_leaf root w r.bytes.now bs.bytes.now st.slots.now ys st.len m l c.note.new.used bs.len
          room short wrote.bytes wrote.len c.note.ensures o c.put_vars.new.self p.0 st.within p.2 p.1 p.3 b;
      moved = record {
        moved = next_moved root w r.bytes.now bs.bytes.now st.slots.now ys st.len m l c.note.new.used bs.len
            room short wrote.bytes wrote.len c.note.ensures o c.put_vars.new.self p.0 st.within p.2 p.1 p.3 b
            c.requires.going.ready c.put_vars.ensures.rows;
        root = refl;
        budget = refl;
        bytes = wrote.long;
        written = wrote.named;
        stack = c.pop.ensures.named;
      };
    }

-- an open split has its upper half
pub returns-in_default-above : goal.returns-in_default-above
returns-in_default-above c =
    let st = c.args.stack.now in
    let o = c.in-Some.split in
    let p = c.in-Some.ensures.after in
    let t = top_holds (Splits c.args.self.now.root.now.ends.vars.n) st.slots.now c.pop.new.self.slots.now st.len c.pop.new.self.len _ o p.0 st.within p.2 p.1 p.3 c.requires.going.ready.each in
    half_there c.above.result (splits o.cut.0 o.cut.1 (vars_in o.vars)) (high o.cut.0 o.cut.1 (vars_in o.vars)) c.in_default-above.is t.1 c.above.ensures
