-- `planner::plan::plan`: the allocation's refusal is the plan's; else the buffer's room decides, and the plan's bytes
-- are written.
use Rattle.std.proofs.Common.{◌≡◌, ◌≤◌, ◌*◌, length, Ok, Err, sym, ap, ◌∙◌, arith}
use Rattle.std.proofs.lemmas.Result.{err_from_is_err_and}
use Rattle.sheet.proofs.Said.{said}
use Rattle.sheet.specs.Format.{task_set_of}
use Rattle.allocation.specs.declared.allocate.Allocated.{Allocated}
use Rattle.allocation.specs.Allocation.{allocation_answer, allocations_for}
use Rattle.allocation.proofs.Allocations.{allocated_ok, allocated_err, allocated_bounded}
use Rattle.planner.proofs.Plans.{plan_refused, plan_room, plan_accepted, planned_refused, planned_accepted}
use Rattle.planner.proofs.plan.plan.Goals.{In_ok-allocated}
use Rattle.planner.proofs.plan.plan.Goals as goal

pub returns-in_err-allocated : goal.returns-in_err-allocated
returns-in_err-allocated c =
    let p = err_from_is_err_and c.from_residual.result c.from_residual.ensures.1 in
    let answer = plan_refused c.args.sheet.now (length c.args.buffer.now) (allocated_err _ (sym c.allocate.ensures.whole ∙ c.in_err-allocated.was)) in
    let same = p.1 ∙ ap (λ r. Err r) p.2 ∙ sym answer in
    record { answered = same; says = said same; written = sym (planned_refused c.args.sheet.now c.args.buffer.now answer) }

-- Past the first test the sheet is accepted, and this is what is fixed for its tasks.
told : (c : In_ok-allocated) → (allocation_answer c.args.sheet.now ≡ Ok tt)
    × (c.in_ok-allocated.allocated ≡ record { count = (task_set_of c.args.sheet.now).count; allocations = allocations_for c.args.sheet.now })
told c = allocated_ok c.args.sheet.now (sym c.allocate.ensures.whole ∙ c.in_ok-allocated.was)

counted : (c : In_ok-allocated) → c.in_ok-allocated.allocated.count ≡ (task_set_of c.args.sheet.now).count
counted c = ap (λ (a : Allocated). a.count) (told c).1

pub returns-then-buffer-from : goal.returns-then-buffer-from
returns-then-buffer-from c =
    let before = (goal.at.returns-then-buffer-from c).In_ok-allocated in
    let answer = plan_room c.args.sheet.now (length c.args.buffer.now) (told before).0 (rw (← counted before) (omega arith)) in
    record { answered = sym answer; says = said (sym answer); written = sym (planned_refused c.args.sheet.now c.args.buffer.now answer) }

pub write_plan-requires-clause-all_bounded : goal.write_plan-requires-clause-all_bounded
write_plan-requires-clause-all_bounded c =
    let both = told (goal.at.write_plan-requires-clause-all_bounded c).In_ok-allocated in
    rw both.1 (allocated_bounded c.args.sheet.now both.0)

pub returns : goal.returns
returns c =
    let before = (goal.at.returns c).In_ok-allocated in
    let both = told before in
    let room : 9 * (task_set_of c.args.sheet.now).count ≤ length c.args.buffer.now = omega (arith, counted before) in
    let answer = plan_accepted c.args.sheet.now (length c.args.buffer.now) both.0 room in
    record {
      answered = sym answer;
      says = said (sym answer);
      written = rw (c.write_plan.ensures, both.1) (sym (planned_accepted c.args.sheet.now c.args.buffer.now answer room));
    }
