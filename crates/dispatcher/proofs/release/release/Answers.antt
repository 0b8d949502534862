-- `dispatcher::release::release`: refused, the state is handed back; accepted, the task's entry has its job.
use Prim.Native.Nat.{◌≤◌, ◌<◌}
use mathlib.Core.Bool.{true}
use mathlib.Core.Path.{◌≡◌, sym, ap, ◌∙◌}
use native.Mathlib.Omega.{arith}
use lib.ListN.{length, set}
use Rattle.std.specs.Prelude.{Ok}
use Rattle.sheet.proofs.Faults.{both_accepted, rule_kept}
use Rattle.sheet.specs.Refusal.{number_of, task_of, Says}
use Rattle.entries.specs.declared.state.TaskState.{TaskState}
use Rattle.model.specs.Step.{release_refusal}
use Rattle.dispatcher.specs.Answers.{Released}
use Rattle.dispatcher.specs.Holds.{model_of}
use Rattle.dispatcher.specs.Sound.{is_sound}
use Rattle.dispatcher.proofs.Soundness.{few_entries}
use Rattle.dispatcher.proofs.Releases.{accepted_known, release_accepted, refused_whole}
use Rattle.dispatcher.proofs.release.release.Goals.{In-Ok}
use Rattle.dispatcher.proofs.release.release.Goals as goal

-- What the call returns says the number and the task of its equal.
told : {x y : Released} → x ≡ y → (x ≡ y) × Says x.answer (number_of y.answer) (task_of y.answer)
told e = (e, record { number_is = ap (λ (r : Released). number_of r.answer) e; task_is = ap (λ (r : Released). task_of r.answer) e })

pub returns-in-Err : goal.returns-in-Err
returns-in-Err c =
    let both = told (refused_whole c.args.state c.args.task (sym c.release_answer.ensures ∙ c.in-Err.is)) in
    record { whole = both.0; says = both.1 }

-- An accepted release is of a sound state, and names a task.
accepted : (c : In-Ok) → (is_sound c.args.state ≡ true) × (release_refusal (model_of c.args.state) c.args.task ≡ Ok tt)
accepted c =
    let both = both_accepted _ _ (sym c.release_answer.ensures ∙ c.in-Ok.is) in
    (rule_kept _ _ both.0, both.1)

long : (c : In-Ok) → c.args.state.count ≤ length c.args.state.entries
long c = omega (arith, few_entries c.args.state (accepted c).0)

known : (c : In-Ok) → c.args.task < c.args.state.count
known c = accepted_known c.args.state c.args.task (long c) (accepted c).1

pub offset_bounds-next-task : goal.offset_bounds-next-task
offset_bounds-next-task c =
    let t = (goal.at.offset_bounds-next-task c).In-Ok in
    omega (arith, known t, few_entries c.args.state (accepted t).0)

pub bounds-next-task : goal.bounds-next-task
bounds-next-task c =
    let t = (goal.at.bounds-next-task c).In-Ok in
    omega (arith, known t, few_entries c.args.state (accepted t).0)

pub returns-in-Ok : goal.returns-in-Ok
returns-in-Ok c =
    let t = (goal.at.returns-in-Ok c).In-Ok in
    let both = told
    (ap (λ (e : TaskState). record {
      state = record { processors = c.args.state.processors; count = c.args.state.count; critical = c.args.state.critical; entries = set c.args.state.entries c.args.task e };
      answer = Ok tt;
    }) c.release.ensures
    ∙ release_accepted c.args.state c.args.task (long t) (accepted t).0 (known t) (accepted t).1) in
    record { whole = both.0; says = both.1 }
