-- The zeros of a derived `Default`: an array of them is the list of zeros, and so a task of them the task of zeros.
use Prim.Native.Nat.{ℕ}
use mathlib.Core.Path.{◌≡◌, sym, ◌∙◌}
use mathlib.Core.List.{List}
use native.Mathlib.Omega.{arith}
use lib.ListN.{replicate}
use Rattle.std.proofs.lemmas.List.{length-replicate, get_or-replicate, same_lists}
use Rattle.std.specs.Array.{AllOfLen}
use Rattle.sheet.specs.declared.task.Task.{Task}
use Rattle.sheet.specs.declared.task.TaskSet.{TaskSet}
use Rattle.sheet.specs.Format.{zero_task, zero_task_set}

-- All elements are the one that passes.
all_the_same : {A : Type 0} (P : A → Type 0) (a : A) → ((x : A) → P x → x ≡ a) → (n : ℕ) (xs : List A) → AllOfLen P xs n → xs ≡ replicate n a
all_the_same P a one n xs all =
    let long = all.long in
    same_lists xs (replicate n a) (long ∙ sym (length-replicate n a))
    (λ k d below. one _ (all.at k d (omega arith)) ∙ sym (get_or-replicate n k a d (omega arith)))

pub default_is_zero_task : (t : Task) → t.figures.deadline ≡ 0 → t.figures.nominal.work ≡ 0 → t.figures.nominal.span ≡ 0 → t.figures.overload.work ≡ 0
    → t.figures.overload.span ≡ 0 → AllOfLen (λ x. x ≡ 0) t.predecessors 32 → t.level ≡ 0 → t.nodes ≡ 0 → t ≡ zero_task
unfolding zero_task
default_is_zero_task t deadline work span overload_work overload_span masks level nodes =
    λ i. record {
      figures = record {
        deadline = deadline i;
        nominal = record { work = work i; span = span i };
        overload = record { work = overload_work i; span = overload_span i };
      };
      predecessors = all_the_same (λ x. x ≡ 0) 0 (λ x none. none) 32 t.predecessors masks i;
      level = level i;
      nodes = nodes i;
    }

-- What a derived `Default` says of a task.
abbrev ZeroTask : Task → Type 0
ZeroTask t =
    ((t.figures.deadline ≡ 0)
    × (((t.figures.nominal.work ≡ 0) × (t.figures.nominal.span ≡ 0)) × ((t.figures.overload.work ≡ 0) × (t.figures.overload.span ≡ 0))))
    × (AllOfLen (λ x. x ≡ 0) t.predecessors 32 × ((t.level ≡ 0) × (t.nodes ≡ 0)))

pub default_is_zero_task_set : (s : TaskSet) → s.processors ≡ 0 → s.count ≡ 0 → AllOfLen ZeroTask s.tasks 16 → s ≡ zero_task_set
unfolding zero_task_set
default_is_zero_task_set s processors count tasks =
    let one : (t : Task) → ZeroTask t → t ≡ zero_task =
    λ t z. default_is_zero_task t z.0.0 z.0.1.0.0 z.0.1.0.1 z.0.1.1.0 z.0.1.1.1 z.1.0 z.1.1.0 z.1.1.1 in
    λ i. record { processors = processors i; count = count i; tasks = all_the_same ZeroTask zero_task one 16 s.tasks tasks i }
