-- `planner::plan::write_plan`: an allocation of the first n is the task's, and the parts with all tasks are the plan.
use Prim.Native.Nat.{◌<◌}
use mathlib.Core.Path.{◌≡◌, refl, ap, ◌∙◌}
use native.Mathlib.Omega.{arith}
use lib.ListN.{take, get_or}
use Rattle.std.proofs.lemmas.List.{get_or-take, length-take}
use Rattle.allocation.specs.declared.allocate.Allocation.{Allocation}
use Rattle.allocation.specs.Allocation.{allocation_at, no_allocation}
use Rattle.planner.specs.means.Writing.{with_task}
use Rattle.planner.proofs.Plans.{parts_up_to, parts_none, parts_more, parts_all}
use Rattle.planner.proofs.plan.write_plan.Goals.{In-loop-i}
use Rattle.planner.proofs.plan.write_plan.Goals as goal

pub loop-i-init : goal.loop-i-init
loop-i-init c = (refl, parts_none c.args.allocated.now.count c.args.allocated.now.allocations c.args.buffer.now)

inside : (c : In-loop-i) → c.loop-i.i < c.args.allocated.now.count
inside c = omega (arith, length-take {A = Allocation})

one : (c : In-loop-i) →
    get_or (take c.from-count.result c.args.allocated.now.allocations) c.loop-i.i no_allocation ≡ allocation_at c.args.allocated.now.allocations c.loop-i.i
unfolding allocation_at
one c = get_or-take c.from-count.result c.args.allocated.now.allocations c.loop-i.i no_allocation (omega (arith, inside c))

pub write_task-requires-clause-bounded : goal.write_task-requires-clause-bounded
write_task-requires-clause-bounded c =
    let at = (goal.at.write_task-requires-clause-bounded c).In-loop-i in
    rw (one at) (c.requires.all_bounded.each c.loop-i.i (inside at))

pub loop-i-preserved : goal.loop-i-preserved
loop-i-preserved c =
    let at = (goal.at.loop-i-preserved c).In-loop-i in (
      c.write_task.auto.buffer ∙ c.loop-i.invariant.0,
      c.write_task.ensures
          ∙ rw (one at, c.from-count.ensures)
          (ap (with_task c.args.allocated.now.count c.loop-i.i (allocation_at c.args.allocated.now.allocations c.loop-i.i)) c.loop-i.invariant.1
          ∙ parts_more c.args.allocated.now.count c.args.allocated.now.allocations c.args.buffer.now c.loop-i.i (inside at)),
    )

pub returns : goal.returns
returns c =
    let few = c.requires.all_bounded.few in
    let all : c.loop-i.i ≡ c.args.allocated.now.count = omega (arith, length-take {A = Allocation}) in
    c.loop-i.invariant.1
    ∙ ap (parts_up_to c.args.allocated.now.count c.args.allocated.now.allocations c.args.buffer.now) all
    ∙ parts_all c.args.allocated.now.count c.args.allocated.now.allocations c.args.buffer.now
