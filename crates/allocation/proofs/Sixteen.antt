-- The line of sixteen shares: it begins with the shares of the tasks, and has zeros behind them.
use Prim.Native.Nat.{ℕ, ◌≤◌, ◌<◌}
use mathlib.Core.Bool.{Bool}
use mathlib.Core.List.{List}
use mathlib.Core.Path.{◌≡◌, sym, ap, ◌∙◌}
use native.Mathlib.Decide.{dec_lt}
use native.Mathlib.Omega.{arith}
use lib.ListN.{length, get_or, take, get_or-eq_default}
use lib.Seq.{ext_get_or, get_or-take, length-take-le}
use Rattle.basics.proofs.Cells.{cells-length, cells_at, cells_past}
use Rattle.shares.specs.declared.share.Share.{Share}
use Rattle.shares.specs.Totals.{no_processors, share_at, share_total}
use Rattle.allocation.specs.Blocks.{offset_in}
use Rattle.allocation.specs.Allocation.{sixteen}

module _ (shares : List Share) where
  pub sixteen-length : length (sixteen shares) ≡ 16
  unfolding sixteen
  sixteen-length = cells-length (λ j. get_or shares j no_processors) no_processors 0 16 (length shares)

  module _ (few : length shares ≤ 16) where
    -- Each task's share is the same, and so is that of a number that is no task.
    pub share_same : (i : ℕ) → share_at (sixteen shares) i ≡ share_at shares i
    unfolding sixteen share_at
    share_same i = go (dec_lt i (length shares))
      where
        go : Dec (i < length shares) → get_or (sixteen shares) i no_processors ≡ get_or shares i no_processors
        go (yes inside) = cells_at (λ j. get_or shares j no_processors) no_processors 16 (length shares) i no_processors (omega arith) inside
        go (no past) =
            cells_past (λ j. get_or shares j no_processors) no_processors 16 (length shares) i (omega arith)
            ∙ sym (get_or-eq_default shares no_processors (omega arith))

    pub sixteen-take : (i : ℕ) → i ≤ length shares → take i (sixteen shares) ≡ take i shares
    unfolding share_at
    sixteen-take i to =
        let whole = sixteen-length in
        let long : length (take i (sixteen shares)) ≡ i = length-take-le i (sixteen shares) (omega arith) in
        ext_get_or no_processors (take i (sixteen shares)) (take i shares) (long ∙ sym (length-take-le i shares to))
        (λ j inside.
        let below : j < i = omega arith in
        get_or-take i (sixteen shares) j no_processors below ∙ share_same j ∙ sym (get_or-take i shares j no_processors below))

    pub offset_same : (mode : Bool) (i : ℕ) → i ≤ length shares → offset_in mode (sixteen shares) i ≡ offset_in mode shares i
    unfolding offset_in
    offset_same mode i to = ap (share_total mode) (sixteen-take i to)
