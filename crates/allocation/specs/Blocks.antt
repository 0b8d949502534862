-- S5.4: the blocks of processors that the tasks have in each mode.
use Rattle.std.specs.Prelude.{ℕ, ◌+◌, ◌≤◌, ◌<◌, ◌≡◌, Bool, List, length, get_or, take}
use Rattle.shares.specs.declared.share.Share.{Share}
use Rattle.shares.specs.Totals.{share_in, share_total, no_processors}

-- S5.4: task i's block in a mode begins at the sum of the shares before it.
unfoldable pub offset_in : Bool → List Share → ℕ → ℕ
offset_in mode shares i = share_total mode (take i shares)

-- S5.4: it is as long as the task's share.
unfoldable pub length_in : Bool → List Share → ℕ → ℕ
length_in mode shares i = share_in mode (get_or shares i no_processors)

-- S5.4 in plain words, in each mode: the first block begins at processor 0, each other one where the one before it
-- ends; so no two have a processor in common, and all end within M.
pub record BlocksInOrder (M : ℕ) (shares : List Share) : Type 0 where
  pub first : (mode : Bool) → offset_in mode shares 0 ≡ 0
  pub behind : (mode : Bool) (i : ℕ) → i < length shares →
      offset_in mode shares (i + 1) ≡ offset_in mode shares i + length_in mode shares i
  pub apart : (mode : Bool) (i j : ℕ) → i < j → j < length shares →
      offset_in mode shares i + length_in mode shares i ≤ offset_in mode shares j
  pub inside : (mode : Bool) (i : ℕ) → i < length shares → offset_in mode shares i + length_in mode shares i ≤ M
