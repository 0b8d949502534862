-- S5.6 in plain words, with no enumeration: which set of low tasks is kept, and what becomes of the shares.
use Rattle.std.specs.Prelude.{ℕ, ◌+◌, ◌≤◌, ◌<◌, ◌≡◌, true, length, get_or}
use mathlib.Core.List.{List, Memᴰ}
use Rattle.sheet.specs.declared.task.Task.{Task}
use Rattle.sheet.specs.Format.{missing_task}
use Rattle.sheet.specs.Level.{is_low}
use Rattle.shares.specs.declared.share.Share.{Share}
use Rattle.shares.specs.Totals.{share_at, critical_total}
use Rattle.basics.specs.Order.{no_later}
use Rattle.keeping.specs.Kept.{processors_for, typical_share_at, kept_share}

-- A set of low tasks: their numbers, rising.
pub record LowSet (tasks : List Task) (set : List ℕ) : Type 0 where
  pub rising : (j : ℕ) → j + 1 < length set → get_or set j 0 < get_or set (j + 1) 0
  pub known : (i : ℕ) → Memᴰ i set → i < length tasks
  pub low : (i : ℕ) → Memᴰ i set → is_low (get_or tasks i missing_task).level ≡ true

-- One that M processors can hold beside the critical shares of a choice.
pub record HeldSet (M : ℕ) (tasks : List Task) (choice : List Share) (set : List ℕ) : Type 0 where
  pub lows : LowSet tasks set
  pub fits : critical_total choice + processors_for (typical_share_at choice) set ≤ M

-- S5.6: the kept set can be held. No set that can be held has more tasks; none with as many has fewer processors; and
-- of those with as many of both its list comes first.
pub record BestKept (M : ℕ) (tasks : List Task) (choice : List Share) (kept : List ℕ) : Type 0 where
  pub held : HeldSet M tasks choice kept
  pub most : (set : List ℕ) → HeldSet M tasks choice set → length set ≤ length kept
  pub fewest : (set : List ℕ) → HeldSet M tasks choice set → length set ≡ length kept →
      processors_for (typical_share_at choice) kept ≤ processors_for (typical_share_at choice) set
  pub first : (set : List ℕ) → HeldSet M tasks choice set → length set ≡ length kept →
      processors_for (typical_share_at choice) set ≡ processors_for (typical_share_at choice) kept → no_later kept set ≡ true

-- S5.6: what becomes of the shares of a choice. There are as many; a kept task's critical share is its typical one; all
-- else stays; and the critical total is the choice's and the kept tasks' together.
pub record KeptShares (choice : List Share) (kept : List ℕ) (shares : List Share) : Type 0 where
  pub each : length shares ≡ length choice
  pub stays : (i : ℕ) → Memᴰ i kept → share_at shares i ≡ kept_share (share_at choice i)
  pub others : (i : ℕ) → (Memᴰ i kept → ⊥) → share_at shares i ≡ share_at choice i
  pub total : critical_total shares ≡ critical_total choice + processors_for (typical_share_at choice) kept
