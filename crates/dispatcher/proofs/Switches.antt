-- The switch of a state's entries, one after the other: those passed are switched, and those to come are as they were.
use Prim.Native.Nat.{ℕ, zero, suc, ◌+◌, ◌≤◌, ◌<◌}
use mathlib.Core.Path.{◌≡◌, refl, ap}
use mathlib.Core.Bool.{true}
use mathlib.Core.List.{List, [], ◌∷◌, ◌++◌, map}
use native.Mathlib.Numerals.{add-one}
use native.Mathlib.Omega.{arith}
use lib.ListN.{length, get_or, set, take, drop}
use Rattle.model.specs.Row.{switched_row}
use Rattle.entries.specs.declared.state.TaskState.{TaskState}
use Rattle.entries.specs.Entry.{row_of, with_row}
use Rattle.dispatcher.specs.declared.state.State.{State}
use Rattle.dispatcher.specs.Holds.{entries_of, model_of, with_rows, with_model}
use Rattle.dispatcher.proofs.Entries.{no_entry}

-- S8.6: an entry after the switch.
abbrev pub switched : TaskState → TaskState
switched e = with_row e (switched_row (row_of e))

-- The first i entries switched.
abbrev pub switched_up_to : List TaskState → ℕ → List TaskState
switched_up_to es i = map switched (take i es) ++ drop i es

switched_first : (es : List TaskState) (i : ℕ) → i < length es →
    set (switched_up_to es i) i (switched (get_or (switched_up_to es i) i no_entry)) ≡ switched_up_to es (suc i)
switched_first [] i h = absurd (omega arith)
switched_first (e ∷ es) zero h = refl
switched_first (e ∷ es) (suc i) h = ap (λ (xs : List TaskState). switched e ∷ xs) (switched_first es i (omega arith))

pub switched_stored : (es : List TaskState) (i : ℕ) → i < length es →
    set (switched_up_to es i) i (switched (get_or (switched_up_to es i) i no_entry)) ≡ switched_up_to es (i + 1)
switched_stored es i h = rw (add-one i) (switched_first es i h)

none_switched : (i : ℕ) → switched_up_to [] i ≡ []
none_switched zero = refl
none_switched (suc i) = refl

-- All of them switched, with the entries behind them, are the entries with the switched rows.
switched_rows : (es : List TaskState) (n i : ℕ) → length (take n es) ≤ i →
    switched_up_to (take n es) i ++ drop n es ≡ with_rows es (map switched_row (map row_of (take n es)))
switched_rows [] zero i h = rw (none_switched i)
switched_rows [] (suc n) i h = rw (none_switched i)
switched_rows (e ∷ es) zero i h = rw (none_switched i)
switched_rows (e ∷ es) (suc n) zero h = absurd (omega arith)
switched_rows (e ∷ es) (suc n) (suc i) h = ap (λ (xs : List TaskState). switched e ∷ xs) (switched_rows es n i (omega arith))

pub switched_all : (s : State) (n i : ℕ) (es : List TaskState) → n ≡ s.count → length (take n s.entries) ≤ i → es ≡ switched_up_to (take n s.entries) i →
    ◌≡◌ {A = State} (record { processors = s.processors; count = s.count; critical = true; entries = es ++ drop n s.entries })
    (with_model s (record { critical = true; rows = map switched_row (model_of s).rows }))
unfolding with_model model_of entries_of
switched_all s n i es count all e =
    rw (e, switched_rows s.entries n i all, count)
