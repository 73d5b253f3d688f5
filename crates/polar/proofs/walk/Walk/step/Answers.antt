use Rattle.std.proofs.Common.{◌≡◌, ℕ, ◌+◌, ◌-◌, ◌/◌, ◌<◌, ◌≤◌, [], length, take, sym, arith}
use Rattle.polar.specs.Preorder.{Fitting, fresh, frame_at, turned, todo}
use Rattle.polar.specs.declared.walk.Walk.{Walk}
use Rattle.polar.proofs.Walked.{kind_inner, kind_leaf, fitting_child, stepped_left, stepped_right, stepped_out, at_top, todo_leaf, todo_both}
use Rattle.polar.proofs.walk.Walk.step.Goals as goal
use Rattle.polar.proofs.walk.Walk.step.Goals.{In-Leaf-default}

child_fits : (walk : Walk) (n from : ℕ) → 2 ≤ (frame_at walk.frames walk.depth).len → n ≤ (frame_at walk.frames walk.depth).len - (frame_at walk.frames walk.depth).len / 2
    → from + n ≤ (frame_at walk.frames walk.depth).first + (frame_at walk.frames walk.depth).len → Fitting (walk.depth + 1) (fresh n from)
child_fits walk n from long part within =
    let fits = walk.fitting walk.depth (omega arith) in
    ((fitting_child walk.depth (frame_at walk.frames walk.depth).len n walk.shallow long fits.0 part).1, omega arith)

pub enter-requires-clause-fitting : goal.enter-requires-clause-fitting
enter-requires-clause-fitting c =
    let walk = c.args.self.now in
    let f = frame_at walk.frames walk.depth in
    let long : 2 ≤ f.len = kind_inner f.len (sym c.in-Inner-Neither.ensures) in
    child_fits walk c.children-left.result.0 f.first long (omega arith) (omega arith)

pub enter-requires-in-Inner-Left-clause-fitting : goal.enter-requires-in-Inner-Left-clause-fitting
enter-requires-in-Inner-Left-clause-fitting c =
    let walk = c.args.self.now in
    let f = frame_at walk.frames walk.depth in
    let long : 2 ≤ f.len = kind_inner f.len (sym c.in-Inner-Left.ensures) in
    child_fits walk c.children-left.result.1 (f.first + c.children-left.result.0) long (omega arith) (omega arith)

leaf_finished : (c : In-Leaf-default) → todo (turned (take c.args.self.now.depth c.args.self.now.frames)) (frame_at c.args.self.now.frames c.args.self.now.depth) ≡ []
leaf_finished c =
    let f = frame_at c.args.self.now.frames c.args.self.now.depth in
    todo_leaf _ f (kind_leaf f.len (sym c.in-Leaf-default.ensures))

pub leave-requires-in-Leaf-default : goal.leave-requires-in-Leaf-default
leave-requires-in-Leaf-default c =
    let walk = c.args.self.now in
    at_top walk.frames walk.depth (leaf_finished (goal.at.leave-requires-in-Leaf-default c).In-Leaf-default) c.requires

pub returns-in-Inner-Neither : goal.returns-in-Inner-Neither
returns-in-Inner-Neither c =
    let walk = c.args.self.now in
    let f = frame_at walk.frames walk.depth in
    let long : 2 ≤ f.len = kind_inner f.len (sym c.in-Inner-Neither.ensures) in
    let e = c.enter.ensures in
    let within : walk.depth + 1 < length walk.frames = omega (arith, c.enter.new.self.shallow, e.depth) in
    stepped_left walk.frames walk.depth c.children-left.result.0 within c.in-Inner-Neither.is-1 long (omega arith) e.frames e.depth

pub returns-in-Inner-Left : goal.returns-in-Inner-Left
returns-in-Inner-Left c =
    let walk = c.args.self.now in
    let f = frame_at walk.frames walk.depth in
    let long : 2 ≤ f.len = kind_inner f.len (sym c.in-Inner-Left.ensures) in
    let e = c.enter-in-Inner-Left.ensures in
    let within : walk.depth + 1 < length walk.frames = omega (arith, c.enter-in-Inner-Left.new.self.shallow, e.depth) in
    stepped_right walk.frames walk.depth c.children-left.result.0 c.children-left.result.1 within c.in-Inner-Left.is-1 long (omega arith) (omega arith) e.frames e.depth

pub returns-in-Inner-Both : goal.returns-in-Inner-Both
returns-in-Inner-Both c =
    let walk = c.args.self.now in
    let finished = todo_both (turned (take walk.depth walk.frames)) (frame_at walk.frames walk.depth) c.in-Inner-Both.is-1 in
    stepped_out walk.frames walk.depth finished (omega arith) c.leave.ensures.frames c.leave.ensures.depth

pub returns-in-Leaf-default : goal.returns-in-Leaf-default
returns-in-Leaf-default c =
    let walk = c.args.self.now in
    let e = c.leave-in-Leaf-default.ensures in
    stepped_out walk.frames walk.depth (leaf_finished (goal.at.returns-in-Leaf-default c).In-Leaf-default) (omega arith) e.frames e.depth
