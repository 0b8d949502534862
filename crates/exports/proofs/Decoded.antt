-- Entries read one after the other: cells that are all filled are the whole.
use Prim.Native.Nat.{ℕ, ◌+◌, ◌<◌}
use mathlib.Core.Path.{◌≡◌, ap, ap₂, ◌∙◌}
use mathlib.Core.Bool.{not}
use mathlib.Core.List.{List}
use native.Mathlib.Omega.{arith}
use lib.Dec.{eqb}
use lib.ListN.{get_or, set, replicate}
use Rattle.basics.specs.Lists.{cells}
use Rattle.basics.proofs.Cells.{cells_none, cells_store, cells_full}
use Rattle.entries.specs.declared.state.TaskState.{TaskState}
use Rattle.start.specs.Fresh.{zero_entry}
use Rattle.dispatcher.specs.declared.state.State.{State}
use Rattle.exports.specs.Words.{is_set, entry_at, state_from}

module _ (line : List ℕ) where
  -- The state that the line says, with these entries.
  abbrev state_with : List TaskState → State
  state_with entries =
      record { processors = get_or line 0 0; count = get_or line 1 0; critical = is_set (get_or line 2 0); entries = entries }

  -- The same with the first count entries, and zeros in the place of the others.
  unfoldable pub state_below : ℕ → State
  state_below count = state_with (cells 16 (entry_at line) zero_entry count)

  pub state_none : (e : TaskState) → e ≡ zero_entry →
      record { processors = get_or line 0 0; count = get_or line 1 0; critical = not (eqb (get_or line 2 0) 0); entries = replicate 16 e } ≡ state_below 0
  unfolding state_below is_set
  state_none e none = rw (none, cells_none (entry_at line) zero_entry 0 16 0 (omega arith))

  pub state_store : (i : ℕ) (s : State) (e : TaskState) → i < 16 → s ≡ state_below i → e ≡ entry_at line i →
      record { processors = s.processors; count = s.count; critical = s.critical; entries = set s.entries i e } ≡ state_below (i + 1)
  unfolding state_below
  state_store i s e inside so_far next =
      ap₂
      (λ (s : State) (e : TaskState). record { processors = s.processors; count = s.count; critical = s.critical; entries = set s.entries i e })
      so_far
      next
      ∙ ap state_with (cells_store (entry_at line) zero_entry 16 i inside)

  pub state_whole : state_below 16 ≡ state_from line
  unfolding state_below state_from
  state_whole = ap state_with (cells_full (entry_at line) zero_entry 0 16 16 (omega arith))
