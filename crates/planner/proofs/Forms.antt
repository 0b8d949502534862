-- The laws of the wide form on a concrete sheet: what is written, byte by byte, and that the premises of each law can
-- be met.
use Prim.Native.Nat.{ℕ}
use mathlib.Core.List.{List, [], ◌∷◌}
use mathlib.Core.Path.{◌≡◌, refl}
use Rattle.basics.specs.Lists.{cells_from}
use Rattle.basics.specs.Numbers.{u16_bytes, u32_bytes}
use Rattle.sheet.specs.Level.{is_wide}
use Rattle.std.specs.Prelude.{Ok}
use Rattle.sheet.specs.Format.{task_in, task_set_of}
use Rattle.sheet.specs.Encoding.{figure_bytes, masks_bytes, record_bytes, directory_bytes, sheet_bytes}
use Rattle.sheet.specs.Wide.{wide_level, wide_task, wide_set}
use Rattle.reader.specs.Reading.{read_of}
use Rattle.reader.proofs.Readings.{read_ok}
use Rattle.reader.proofs.Worked.{dye_sheet, worked}
use Rattle.allocation.specs.Allocation.{allocated_of}
use Rattle.allocation.specs.Wide.{SheetRead, SheetAgain, wide_form, WideRead, WideAllocated}
use Rattle.allocation.proofs.Accepted.{sheet_lawful}
use Rattle.allocation.proofs.Sheets.{sheet_padded, sheet_read, wide_read}
use Rattle.allocation.proofs.Again.{sheet_again}
use Rattle.allocation.proofs.Wide.{wide_allocated}
use Rattle.planner.specs.Wide.{SamePlan, WidePlanned}
use Rattle.planner.proofs.Wide.{wide_planned}

-- The wide form of the dye line: its second record, of 16 bytes, is rewritten, and has 26.
abbrev wide_dye : List ℕ
wide_dye =
    5
    ∷ 2
    ∷ 10 ∷ 0 ∷ 26 ∷ 0 ∷ 36 ∷ 0 ∷ 26 ∷ 0
    ∷ 17 ∷ 1 ∷ 128 ∷ 26 ∷ 6 ∷ 0 ∷ 224 ∷ 147 ∷ 4 ∷ 0 ∷ 0 ∷ 53 ∷ 12 ∷ 0 ∷ 112 ∷ 17 ∷ 1 ∷ 0 ∷ 64 ∷ 13 ∷ 3 ∷ 0 ∷ 0 ∷ 0 ∷ 0 ∷ 0
    ∷ 16 ∷ 1 ∷ 18 ∷ 0 ∷ 0 ∷ 0 ∷ 30 ∷ 0 ∷ 0 ∷ 0 ∷ 30 ∷ 0 ∷ 0 ∷ 0 ∷ 6 ∷ 0 ∷ 0 ∷ 0 ∷ 6 ∷ 0 ∷ 0 ∷ 0 ∷ 0 ∷ 0 ∷ 0 ∷ 0 ∷ []

-- S2.14: the bytes of the wide form.
pub wide_bytes : wide_form dye_sheet ≡ wide_dye
unfolding wide_form wide_set wide_task wide_level sheet_bytes directory_bytes record_bytes masks_bytes figure_bytes u16_bytes u32_bytes is_wide cells_from task_in
wide_bytes = let said = (read_ok dye_sheet worked.mixed).1 in rw (← said)

-- S2: it is what is written of its own task set, and that is read as it is.
pub some_again : sheet_bytes (task_set_of dye_sheet) ≡ dye_sheet
unfolding SheetAgain
some_again = sheet_again dye_sheet refl worked.mixed_accepted

pub some_read : read_of (sheet_bytes (task_set_of dye_sheet)) ≡ Ok ((task_set_of dye_sheet))
unfolding SheetRead
some_read = sheet_read (task_set_of dye_sheet) (sheet_lawful dye_sheet worked.mixed_accepted) (sheet_padded dye_sheet worked.mixed_accepted)

-- S2.14: it is accepted, and so is its wide form.
pub some_wide : read_of wide_dye ≡ Ok (wide_set (task_set_of dye_sheet))
unfolding WideRead
some_wide = rw (← wide_bytes) (wide_read dye_sheet worked.mixed_accepted)

pub some_fixed : allocated_of wide_dye ≡ allocated_of dye_sheet
unfolding WideAllocated
some_fixed = rw (← wide_bytes) (wide_allocated dye_sheet worked.mixed_accepted)

pub some_plan : SamePlan dye_sheet
unfolding WidePlanned
some_plan = wide_planned dye_sheet worked.mixed_accepted
