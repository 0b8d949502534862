-- The blocks lie in order: each begins where the one before it ends, and the last end is the sum of the shares, which
-- is within M.
use Prim.Native.Nat.{ℕ, zero, suc, ◌+◌, ◌-◌, ◌≤◌, ◌<◌}
use mathlib.Core.Path.{◌≡◌, refl, sym, subst}
use mathlib.Core.Bool.{Bool, true, false}
use mathlib.Core.List.{List}
use native.Mathlib.Omega.{arith}
use lib.ListN.{length}
use Rattle.sheet.specs.declared.task.TaskSet.{TaskSet}
use Rattle.shares.specs.declared.share.Share.{Share}
use Rattle.shares.specs.Totals.{share_at, share_total}
use Rattle.shares.proofs.Totals.{total_next, total_part}
use Rattle.allocation.specs.Blocks.{offset_in, length_in, BlocksInOrder}
use Rattle.allocation.specs.Lawful.{LawfulShares}

-- The next block starts where this one ends.
pub offset_next : (mode : Bool) (shares : List Share) (i : ℕ) → i < length shares →
    offset_in mode shares (i + 1) ≡ offset_in mode shares i + length_in mode shares i
unfolding offset_in length_in share_at
offset_next mode shares i inside = total_next mode shares i inside

pub offset_first : (mode : Bool) (shares : List Share) → offset_in mode shares 0 ≡ 0
unfolding offset_in
offset_first false shares = refl
offset_first true shares = refl

module _ (mode : Bool) (shares : List Share) where
  -- A block ends before any later one begins.
  blocks_apart : (i d : ℕ) → i + d + 1 < length shares →
      offset_in mode shares i + length_in mode shares i ≤ offset_in mode shares (i + d + 1)
  blocks_apart i zero inside =
      let e : i + 0 + 1 ≡ i + 1 = omega arith in
      rw e (let n = offset_next mode shares i (omega arith) in omega arith)
  blocks_apart i (suc d) inside =
      let e : i + suc d ≡ i + d + 1 = omega arith in
      rw e (let n = offset_next mode shares (i + d + 1) (omega arith) in omega (arith, blocks_apart i d (omega arith)))

  block_inside : (i : ℕ) → i < length shares → offset_in mode shares i + length_in mode shares i ≤ share_total mode shares
  unfolding offset_in
  block_inside i inside = omega (arith, offset_next mode shares i inside, total_part mode shares (i + 1))

-- Shares that total at most M in each mode lie in order and end within M.
pub blocks_in_order : (M : ℕ) (shares : List Share) → ((mode : Bool) → share_total mode shares ≤ M) → BlocksInOrder M shares
blocks_in_order M shares within =
    record {
      first = λ mode. offset_first mode shares;
      behind = λ mode i inside. offset_next mode shares i inside;
      apart = λ mode i j before inside. later mode i j before inside;
      inside = λ mode i inside. let h = within mode in omega (arith, block_inside mode shares i inside);
    }
  where
    later : (mode : Bool) (i j : ℕ) → i < j → j < length shares → offset_in mode shares i + length_in mode shares i ≤ offset_in mode shares j
    later mode i j before inside =
        let e : j ≡ i + (j - i - 1) + 1 = omega arith in
        subst (λ (k : ℕ). offset_in mode shares i + length_in mode shares i ≤ offset_in mode shares k) (sym e)
        (blocks_apart mode shares i (j - i - 1) (omega arith))

-- S5.4 of the shares that the tasks of a set get.
pub shares_blocks : (set : TaskSet) (shares : List Share) → LawfulShares set shares → BlocksInOrder set.processors shares
shares_blocks set shares given = blocks_in_order set.processors shares given.fits
