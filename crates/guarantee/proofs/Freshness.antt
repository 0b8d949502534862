-- The fresh state of an accepted sheet (S8.1) holds the model's fresh start (S10.2), and it is sound (S7.2).
use Prim.Native.Nat.{ℕ, suc, ◌≤◌, ◌<◌}
use mathlib.Core.Bool.{Bool, true, false, ◌&&◌}
use mathlib.Core.List.{List, [], ◌∷◌}
use mathlib.Core.Path.{◌≡◌, refl, sym, ap, ap₂, ◌∙◌}
use native.Mathlib.Omega.{arith}
use lib.ListN.{length, get_or, take}
use lib.Pow.{pow_pos}
use lib.Seq.{ext_get_or}
use borrow.Author.Tests.{le-leb}
use Rattle.sheet.specs.declared.task.Task.{Task}
use Rattle.sheet.specs.declared.task.TaskSet.{TaskSet}
use Rattle.sheet.specs.Format.{task_in}
use Rattle.sheet.specs.Level.{figure_limit}
use Rattle.basics.proofs.Cells.{cells-length, cells_at}
use Rattle.shares.specs.declared.share.Share.{Share}
use Rattle.shares.specs.Totals.{share_total, share_at}
use Rattle.allocation.specs.Lawful.{LawfulSet, LawfulShares}
use Rattle.allocation.specs.declared.allocate.Allocation.{Allocation}
use Rattle.allocation.specs.Allocation.{allocation_of, allocation_at}
use Rattle.allocation.proofs.Lawfulness.{figures_kept}
use Rattle.model.specs.Row.{Row}
use Rattle.model.specs.Step.{no_row, row_at}
use Rattle.model.specs.Plan.{fresh_row, fresh_rows, fresh}
use Rattle.model.proofs.Fresh.{fresh-length, fresh_row_lem}
use Rattle.entries.specs.declared.state.TaskState.{TaskState}
use Rattle.dispatcher.specs.declared.state.State.{State}
use Rattle.entries.specs.Entry.{fixed_of, job_of, row_of}
use Rattle.dispatcher.specs.Holds.{entries_of, model_of, row_shares}
use Rattle.entries.specs.Sound.{entry_sound}
use Rattle.dispatcher.specs.Sound.{entries_sound, is_sound}
use Rattle.start.specs.Fresh.{fresh_entry, zero_entry}
use Rattle.start.specs.Start.{entries_below, fresh_state}
use Rattle.dispatcher.proofs.Entries.{no_entry, entry_at, entries_length, entries_at}
use Rattle.dispatcher.proofs.Rows.{model_length, model_row}
use Rattle.entries.proofs.Soundness.{sound_entry}
use Rattle.dispatcher.proofs.Soundness.{sound_state}
use Rattle.guarantee.proofs.Planning.{planned}

-- A fresh entry, with what is fixed for a task, is a fresh row.
row_fresh : (tasks : TaskSet) (shares : List Share) (i : ℕ) →
    row_of (fresh_entry (task_in tasks i) (allocation_of tasks shares i)) ≡ fresh_row (task_in tasks i) (share_at shares i)
unfolding row_of fixed_of job_of fresh_entry fresh_row allocation_of
row_fresh tasks shares i = refl

-- Entries that are sound one by one are sound together.
all_sound : (es : List TaskState) → ((i : ℕ) → i < length es → entry_sound (get_or es i no_entry) ≡ true) → entries_sound es ≡ true
all_sound [] each = refl
all_sound (e ∷ es) each = ap₂ ◌&&◌ (each 0 (omega arith)) (all_sound es (λ i h. each (suc i) (omega arith)))

-- The shares of fresh rows total what the shares do.
shares_fresh : (critical : Bool) (tasks : List Task) (shares : List Share) → share_total critical (row_shares (fresh_rows tasks shares)) ≤ share_total critical shares
unfolding fresh_row
shares_fresh critical [] shares = omega arith
shares_fresh critical (t ∷ tasks) [] = omega arith
shares_fresh critical (t ∷ tasks) (s ∷ shares) = omega (arith, shares_fresh critical tasks shares)

module _ (tasks : TaskSet) (lawful : LawfulSet tasks) (shares : List Share) (shared : LawfulShares tasks shares)
    (allocations : List Allocation) (fixed : (i : ℕ) → i < tasks.count → allocation_at allocations i ≡ allocation_of tasks shares i) where
  state : State
  state = fresh_state tasks allocations

  count_is : state.count ≡ tasks.count
  unfolding state fresh_state
  count_is = refl

  entries_long : state.count ≤ length state.entries
  unfolding state fresh_state entries_below
  entries_long =
      let few = lawful.few_tasks in
      omega (arith, cells-length (λ i. fresh_entry (task_in tasks i) (allocation_at allocations i)) zero_entry 0 16 tasks.count)

  entry_is : (i : ℕ) → i < tasks.count → entry_at state i ≡ fresh_entry (task_in tasks i) (allocation_of tasks shares i)
  unfolding state fresh_state entries_below
  entry_is i inside =
      let few = lawful.few_tasks in
      cells_at (λ i. fresh_entry (task_in tasks i) (allocation_at allocations i)) zero_entry 16 tasks.count i no_entry (omega arith) inside
      ∙ ap (fresh_entry (task_in tasks i)) (fixed i inside)

  row_is : (i : ℕ) → i < tasks.count → row_at (model_of state) i ≡ row_at (fresh tasks shares) i
  row_is i inside =
      model_row state entries_long i (omega (arith, count_is))
      ∙ ap row_of (entry_is i inside)
      ∙ row_fresh tasks shares i
      ∙ sym (fresh_row_lem tasks shares (planned tasks lawful shares shared) i inside)

  rows_is : (model_of state).rows ≡ (fresh tasks shares).rows
  unfolding row_at
  rows_is =
      ext_get_or no_row (model_of state).rows (fresh tasks shares).rows
      (model_length state entries_long ∙ count_is ∙ sym (fresh-length tasks shares (planned tasks lawful shares shared)))
      (λ i h. row_is i (omega (arith, model_length state entries_long, count_is)))

  -- The fresh state holds the model's fresh start.
  pub fresh_model : model_of (fresh_state tasks allocations) ≡ fresh tasks shares
  unfolding state fresh_state model_of fresh
  fresh_model = ap (λ (rows : List Row). record { critical = false; rows = rows }) rows_is

  entry_sound_lem : (i : ℕ) → i < tasks.count → entry_sound (fresh_entry (task_in tasks i) (allocation_of tasks shares i)) ≡ true
  unfolding fresh_entry allocation_of
  entry_sound_lem i inside =
      let t = task_in tasks i in
      let rules = lawful.lawful i inside in
      let kept = figures_kept t.level t.figures rules.figures in
      sound_entry (fresh_entry t (allocation_of tasks shares i))
      (record {
        level = rules.level;
        nodes = rules.nodes;
        masks = rules.masks;
        deadline = rw (le-leb 1 t.figures.deadline kept.deadline_from) (le-leb t.figures.deadline (figure_limit t.level) kept.deadline_to);
        virtual = shared.virtual i inside;
        age = omega arith;
        ended = pow_pos t.nodes;
        alive = refl;
      })

  entries_sound_lem : entries_sound (entries_of state) ≡ true
  entries_sound_lem =
      all_sound (entries_of state)
      (λ i h.
      let inside : i < tasks.count = omega (arith, entries_length state entries_long, count_is) in
      rw (entries_at state entries_long i (omega (arith, count_is)), entry_is i inside) (entry_sound_lem i inside))

  shares_fit : (critical : Bool) → share_total critical (row_shares (model_of state).rows) ≤ tasks.processors
  unfolding fresh
  shares_fit critical =
      rw rows_is
      (omega (arith, shares_fresh critical (take tasks.count tasks.tasks) shares, (planned tasks lawful shares shared).fits critical))

  -- The fresh state is sound.
  pub fresh_sound : is_sound (fresh_state tasks allocations) ≡ true
  unfolding state fresh_state
  fresh_sound =
      sound_state state
      (record {
        processors = rw (le-leb 1 tasks.processors lawful.some_processors) (le-leb tasks.processors 64 lawful.few_processors);
        count = rw (le-leb 1 tasks.count lawful.some_tasks) (le-leb tasks.count 16 lawful.few_tasks);
        entries = entries_sound_lem;
        typical = shares_fit false;
        critical = shares_fit true;
      })
