-- The parts of a list of bytes that a record is read from: figures, masks and the whole are written as they were.
use Prim.Native.Nat.{ℕ, zero, suc, ◌≤◌, ◌+◌, ◌*◌}
use mathlib.Core.Bool.{Bool, true, false, cond}
use mathlib.Core.List.{List, ◌∷◌, ◌++◌}
use mathlib.Core.Path.{◌≡◌, refl, ap, ap₂, ◌∙◌}
use native.Mathlib.Omega.{arith}
use lib.Dec.{ltb}
use lib.ListN.{length}
use borrow.Author.Tests.{lt-ltb}
use Rattle.std.specs.List.{list_all}
use Rattle.basics.specs.Lists.{cells_from}
use Rattle.basics.specs.Numbers.{u32_at}
use Rattle.basics.proofs.Parts.{part, join, part_length, two_part, u16_part, u32_part}
use Rattle.sheet.specs.Format.{level_at, nodes_at, figure_at, figures_at, masks_at, task_at}
use Rattle.sheet.specs.Level.{is_wide, bytes_before_masks}
use Rattle.sheet.specs.Encoding.{figure_bytes, masks_bytes, record_bytes}

-- The bytes of a figure.
abbrev width : Bool → ℕ
width wide = cond wide 4 2

-- Before the masks stand two bytes and five figures.
front_size : (wide : Bool) → 2 + width wide * 5 ≡ cond wide 22 12
front_size true = refl
front_size false = refl

module _ (s : List ℕ) (bytes : list_all (λ b. ltb b 256) s ≡ true) where
  figure_part : (wide : Bool) (at i : ℕ) → at + 2 + width wide * (i + 1) ≤ length s →
      figure_bytes wide (figure_at wide s at i) ≡ part s (at + 2 + width wide * i) (width wide)
  unfolding figure_bytes figure_at
  figure_part true at i inside = u32_part s bytes (at + 2 + 4 * i) (omega arith)
  figure_part false at i inside = u16_part s bytes (at + 2 + 2 * i) (omega arith)

  -- Figure i behind the bytes before it.
  figure_more : (wide : Bool) (at i : ℕ) {front : List ℕ} → at + 2 + width wide * (i + 1) ≤ length s →
      front ≡ part s at (2 + width wide * i) → front ++ figure_bytes wide (figure_at wide s at i) ≡ part s at (2 + width wide * (i + 1))
  figure_more wide at i inside before =
      ap₂ ◌++◌ before (figure_part wide at i inside)
      ∙ join s at (2 + width wide * i) (at + 2 + width wide * i) (width wide) (2 + width wide * (i + 1)) (omega arith) (omega arith)

  -- Level, number of nodes and the five figures.
  front_part : (wide : Bool) (at : ℕ) → at + cond wide 22 12 ≤ length s →
      level_at s at
      ∷ nodes_at s at
      ∷ figure_bytes wide (figure_at wide s at 0)
      ++ figure_bytes wide (figure_at wide s at 1)
      ++ figure_bytes wide (figure_at wide s at 2)
      ++ figure_bytes wide (figure_at wide s at 3)
      ++ figure_bytes wide (figure_at wide s at 4)
      ≡ part s at (cond wide 22 12)
  unfolding level_at nodes_at
  front_part wide at inside =
      let none : 2 ≡ 2 + width wide * 0 = omega arith in
      let all = front_size wide in
      figure_more wide at 4 (omega arith)
      (figure_more wide at 3 (omega arith)
      (figure_more wide at 2 (omega arith)
      (figure_more wide at 1 (omega arith)
      (figure_more wide at 0 (omega arith) (two_part s at (omega arith) ∙ ap (part s at) none)))))
      ∙ ap (part s at) all

  -- The masks from node first on.
  masks_part : (at first size k count : ℕ) → k ≤ size → first + k ≡ count → at + 4 * count ≤ length s →
      masks_bytes k (cells_from first size (λ v. u32_at s (at + 4 * v)) 0 count) ≡ part s (at + 4 * first) (4 * k)
  unfolding masks_bytes cells_from
  masks_part at first size zero count few end inside = refl
  masks_part at first zero (suc k) count few end inside = absurd (omega arith)
  masks_part at first (suc size) (suc k) count few end inside =
      rw (lt-ltb first count (omega arith))
      (ap₂ ◌++◌ (u32_part s bytes (at + 4 * first) (omega arith)) (masks_part at (suc first) size k count (omega arith) (omega arith) inside)
      ∙ join s (at + 4 * first) 4 (at + 4 * suc first) (4 * k) (4 * suc k) (omega arith) (omega arith))

  -- A record.
  module _ (at : ℕ) (few : nodes_at s at ≤ 32) (inside : at + (bytes_before_masks (level_at s at) + 4 * nodes_at s at) ≤ length s) where
    pub record_part : record_bytes (task_at s at) ≡ part s at (bytes_before_masks (level_at s at) + 4 * nodes_at s at)
    unfolding record_bytes task_at figures_at masks_at bytes_before_masks
    record_part =
        let before = bytes_before_masks (level_at s at) in
        let k = nodes_at s at in
        ap₂ ◌++◌ (front_part (is_wide (level_at s at)) at (omega arith)) (masks_part (at + before) 0 32 k k few (omega arith) (omega arith))
        ∙ join s at before (at + before + 4 * 0) (4 * k) (before + 4 * k) (omega arith) refl

    pub record_size : length (record_bytes (task_at s at)) ≡ bytes_before_masks (level_at s at) + 4 * nodes_at s at
    record_size = ap length record_part ∙ part_length s at _ inside
