-- Worked facts by computation: numbers, lines, the fields of a task and a refusal, byte by byte.
use Prim.Native.Nat.{ℕ}
use mathlib.Core.Path.{◌≡◌, refl}
use mathlib.Core.List.{List, [], ◌∷◌}
use Rattle.std.specs.Prelude.{Err}
use Rattle.sheet.specs.declared.refusal.Refusal.TheVariants.{NoFit}
use Rattle.basics.specs.Lists.{range}
use Rattle.allocation.specs.declared.allocate.Allocation.{Allocation}
use Rattle.allocation.specs.Allocation.{allocation_at}
use Rattle.plan_text.specs.Decimal.{digits_within, decimal}
use Rattle.basics.specs.Digits.{value_of}
use Rattle.plan_text.specs.Lines.{line}
use Rattle.plan_text.specs.Printed.{fields_of, plan_lines, refusal_line, lines_for}

-- What is fixed for a task: its shares a and b, where its blocks begin, V and the remainder.
abbrev fixed : ℕ → ℕ → ℕ → ℕ → ℕ → ℕ → Allocation
fixed a b typical critical v left =
    record {
      share = record { typical = a; critical = b };
      offset = record { typical = typical; critical = critical };
      virtual_deadline = v;
      remainder = left;
    }

-- Three tasks, of which the last has the shares (5, 8), blocks from 4 and from 7 on, the V 276 and the remainder 4.
abbrev three : List Allocation
three = fixed 3 6 0 0 5 2 ∷ fixed 1 1 3 6 0 0 ∷ fixed 5 8 4 7 276 4 ∷ []

pub record Worked : Type 0 where
  -- S6.3: decimals of one digit and of more; no zero stands in front.
  pub zero : decimal 0 ≡ 48 ∷ []
  pub nine : decimal 9 ≡ 57 ∷ []
  pub ten : decimal 10 ≡ 49 ∷ 48 ∷ []
  pub byte : decimal 255 ≡ 50 ∷ 53 ∷ 53 ∷ []
  pub five_digits : decimal 10000 ≡ 49 ∷ 48 ∷ 48 ∷ 48 ∷ 48 ∷ []
  -- S6.3: the highest digit stands first.
  pub read : value_of (50 ∷ 53 ∷ 48 ∷ []) ≡ 250
  -- S6.3: one blank between two numbers, and a newline behind the last.
  pub of_two : line (7 ∷ 10 ∷ []) ≡ 55 ∷ 32 ∷ 49 ∷ 48 ∷ 10 ∷ []
  -- S6.1: the task, its typical offset and length, its critical offset and length, V, the remainder.
  pub fields : fields_of 2 (fixed 5 8 4 7 276 4) ≡ 2 ∷ 4 ∷ 5 ∷ 7 ∷ 8 ∷ 276 ∷ 4 ∷ []
  -- S6.1: a line for each task, in their order.
  pub lines : plan_lines 3 three
      ≡ 48 ∷ 32 ∷ 48 ∷ 32 ∷ 51 ∷ 32 ∷ 48 ∷ 32 ∷ 54 ∷ 32 ∷ 53 ∷ 32 ∷ 50 ∷ 10
      ∷ 49 ∷ 32 ∷ 51 ∷ 32 ∷ 49 ∷ 32 ∷ 54 ∷ 32 ∷ 49 ∷ 32 ∷ 48 ∷ 32 ∷ 48 ∷ 10
      ∷ 50 ∷ 32 ∷ 52 ∷ 32 ∷ 53 ∷ 32 ∷ 55 ∷ 32 ∷ 56 ∷ 32 ∷ 50 ∷ 55 ∷ 54 ∷ 32 ∷ 52 ∷ 10 ∷ []
  -- S6.2: `refused 8 255` and a newline.
  pub refusal : lines_for (Err NoFit)
      ≡ 114 ∷ 101 ∷ 102 ∷ 117 ∷ 115 ∷ 101 ∷ 100 ∷ 32 ∷ 56 ∷ 32 ∷ 50 ∷ 53 ∷ 53 ∷ 10 ∷ []

worked : Worked
unfolding range allocation_at digits_within decimal fields_of plan_lines refusal_line
worked =
    record {
      zero = refl;
      nine = refl;
      ten = refl;
      byte = refl;
      five_digits = refl;
      read = refl;
      of_two = refl;
      fields = refl;
      lines = refl;
      refusal = refl;
    }
