-- S2.14: Plan goes by what is fixed for a sheet, and that is the same for its wide form.
use Prim.Native.Nat.{ℕ}
use mathlib.Core.List.{List}
use mathlib.Core.Path.{◌≡◌}
use lib.ListN.{length}
use Rattle.std.specs.Prelude.{Ok}
use Rattle.reader.specs.Reading.{read_answer}
use Rattle.allocation.specs.Wide.{wide_form, WideAllocated}
use Rattle.allocation.proofs.Allocations.{answer_same}
use Rattle.allocation.proofs.Wide.{wide_allocated, wide_count, wide_line}
use Rattle.planner.specs.Plan.{plan_answer, planned}
use Rattle.planner.specs.Wide.{WidePlanned}

-- The same is fixed for both.
module _ (s : List ℕ) (accepted : read_answer s ≡ Ok tt) where
  same_answer : (room : ℕ) → plan_answer (wide_form s) room ≡ plan_answer s room
  unfolding plan_answer WideAllocated
  same_answer room = rw (answer_same (wide_form s) s (wide_allocated s accepted), wide_count s accepted)

  same_bytes : (buffer : List ℕ) → planned (wide_form s) buffer ≡ planned s buffer
  unfolding planned
  same_bytes buffer = rw (same_answer (length buffer), wide_count s accepted, wide_line s accepted)

pub wide_planned : WidePlanned
unfolding WidePlanned
wide_planned s accepted = record { answer = same_answer s accepted; bytes = same_bytes s accepted }
