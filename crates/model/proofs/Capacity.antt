-- S10.8, capacity: each task runs at most what it is granted, the grants are the shares in the mode, and these total at
-- most M.
use Prim.Native.Nat.{ℕ, ◌+◌, ◌≤◌, ◌<◌, zero-le}
use mathlib.Core.Path.{◌≡◌, refl, ap, ◌∙◌}
use mathlib.Core.Bool.{Bool}
use mathlib.Core.List.{List, [], ◌∷◌, map}
use native.Mathlib.Nat.{le_trans}
use native.Mathlib.Omega.{arith}
use native.Mathlib.Decide.{dec_lt}
use lib.ListN.{length, get_or, take, length-take}
use Rattle.sheet.specs.declared.task.Task.{Task}
use Rattle.sheet.specs.declared.task.TaskSet.{TaskSet}
use Rattle.basics.specs.Lists.{range}
use Rattle.shares.specs.declared.share.Share.{Share}
use Rattle.shares.specs.Totals.{share_in, share_at, share_total}
use Rattle.model.specs.Budget.{sum_below}
use Rattle.model.specs.Row.{Fixed, Row, ready, running, fixed_part}
use Rattle.model.specs.Step.{Model, Call, row_at, no_row, granted, running_at}
use Rattle.model.specs.Run.{after}
use Rattle.model.specs.Plan.{fresh_row, fresh_rows, fresh, Planned}
use Rattle.model.specs.Claim.{Capacity}
use Rattle.model.proofs.Sums.{sum_le, sum_first}
use Rattle.model.proofs.Lasting.{fixed_after, no_row_lem}
use Rattle.model.proofs.Fresh.{fixed_at, rows_after}

-- No more nodes run than are granted.
pub running-count : (grant : ℕ) (r : Row) → length (running grant r) ≤ grant
unfolding running
running-count grant r = omega (arith, length-take grant (ready r))

pub runs_granted : (m : Model) (i : ℕ) → length (running_at m i) ≤ granted m i
unfolding running_at
runs_granted m i = running-count (granted m i) (row_at m i)

-- The share of a fixed part.
abbrev share_of : Bool → Fixed → ℕ
share_of critical f = share_in critical f.share

-- The sum of a number over the fixed parts.
abbrev total_fixed : (Fixed → ℕ) → List Fixed → ℕ
total_fixed f [] = 0
total_fixed f (x ∷ xs) = f x + total_fixed f xs

-- The same by the numbers of the rows.
total_numbered : (f : Fixed → ℕ) (rows : List Row) →
    sum_below (length rows) (λ i. f (get_or rows i no_row).fixed) ≡ total_fixed f (map fixed_part rows)
unfolding sum_below
total_numbered f [] = refl
total_numbered f (r ∷ rows) =
    sum_first (length rows) (λ i. f (get_or (r ∷ rows) i no_row).fixed)
    ∙ ap (λ (n : ℕ). f r.fixed + n) (total_numbered f rows)

total_fresh : (critical : Bool) (tasks : List Task) (shares : List Share) →
    total_fixed (share_of critical) (map fixed_part (fresh_rows tasks shares)) ≤ share_total critical shares
unfolding fresh_row
total_fresh critical [] shares = zero-le
total_fresh critical (t ∷ tasks) [] = zero-le
total_fresh critical (t ∷ tasks) (s ∷ shares) = omega (arith, total_fresh critical tasks shares)

none_ready : length (ready no_row) ≡ 0
unfolding ready range
none_ready = refl

none_run : (m : Model) (i : ℕ) → row_at m i ≡ no_row → length (running_at m i) ≡ 0
unfolding running_at running
none_run m i e = rw e (omega (arith, length-take (granted m i) (ready no_row), none_ready))

module _ (ts : TaskSet) (shares : List Share) (planned : Planned ts shares) where
  -- What is granted is the share of the plan in the mode.
  granted_share : (calls : List Call) (i : ℕ) → i < ts.count →
      granted (after (fresh ts shares) calls) i ≡ share_in (after (fresh ts shares) calls).critical (share_at shares i)
  unfolding granted fresh_row
  granted_share calls i h =
      ap (share_of (after (fresh ts shares) calls).critical) (fixed_at ts shares planned calls i h)

  granted_total : (calls : List Call) →
      sum_below (length (after (fresh ts shares) calls).rows) (granted (after (fresh ts shares) calls)) ≤ ts.processors
  unfolding granted row_at fresh
  granted_total calls =
      rw (total_numbered (share_of critical) (after (fresh ts shares) calls).rows, fixed_after (fresh ts shares) calls)
      (le_trans (total_fresh critical (take ts.count ts.tasks) shares) (planned.fits critical))
    where
      critical : Bool
      critical = (after (fresh ts shares) calls).critical

  -- S10.8.
  pub capacity : (calls : List Call) → Capacity ts shares (after (fresh ts shares) calls)
  capacity calls =
      record {
        each = λ i. go i (dec_lt i ts.count);
        together =
            le_trans
            (sum_le (length m.rows) (λ i. length (running_at m i)) (granted m) (λ i _. runs_granted m i))
            (granted_total calls);
      }
    where
      m : Model
      m = after (fresh ts shares) calls

      go : (i : ℕ) → Dec (i < ts.count) → length (running_at m i) ≤ share_in m.critical (share_at shares i)
      go i (yes h) = rw (granted_share calls i h) at (runs_granted m i)
      go i (no h) = rw (none_run m i (no_row_lem m i (omega (arith, rows_after ts shares planned calls)))) zero-le
