-- S2.14: a sheet and its wide form get the same answer of Plan, and the same bytes in any buffer.
use Rattle.std.specs.Prelude.{ℕ, List, ◌≡◌}
use Rattle.std.specs.Prelude.{Ok}
use Rattle.reader.specs.Reading.{read_answer}
use Rattle.allocation.specs.Wide.{wide_form}
use Rattle.planner.specs.Plan.{plan_answer, planned}

-- What Plan does with both sheets.
pub record SamePlan (s : List ℕ) : Type 0 where
  pub answer : (room : ℕ) → plan_answer (wide_form s) room ≡ plan_answer s room
  pub bytes : (buffer : List ℕ) → planned (wide_form s) buffer ≡ planned s buffer

-- This holds of every sheet that the reader accepts.
unfoldable pub WidePlanned : Type 0
WidePlanned = (s : List ℕ) → read_answer s ≡ Ok tt → SamePlan s
