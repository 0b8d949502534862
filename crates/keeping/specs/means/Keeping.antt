-- S5.6 as the code goes about it: the low tasks are those without a critical share, and the least shares are kept
-- first.
use Rattle.std.specs.Prelude.{ℕ, ◌+◌, ◌≤◌, ◌<◌, ◌≡◌, ◌⊎◌, List, set, take}
use Rattle.shares.specs.declared.share.Share.{Share}
use Rattle.shares.specs.Totals.{share_at, critical_total}
use Rattle.keeping.specs.Kept.{first_held, typical_share_at, left_over, kept_share, with_kept}
use Rattle.keeping.specs.Running.{critical_share_at, without}

-- The shares of n tasks on M processors, with those of the kept tasks.
unfoldable pub kept_line : ℕ → ℕ → List Share → List Share
kept_line M n shares = with_kept (first_held (typical_share_at shares) (left_over M (take n shares)) (without n shares)) shares

-- Task i does not come after task j: its share is smaller, or as large and its number no larger.
abbrev pub NotAfter : (ℕ → ℕ) → ℕ → ℕ → Type 0
NotAfter share i j = (share i < share j) ⊎ ((share i ≡ share j) × (i ≤ j))

-- The next task to keep of the first n that have no critical share, and the critical total with it: the first of all,
-- if M processors hold that total; else n and M + 1 stand for none.
pub data Next (M n : ℕ) (shares : List Share) : ℕ → ℕ → Type 0 where
  none : ((j : ℕ) → j < n → critical_share_at shares j ≡ 0 → M < critical_total (take n shares) + typical_share_at shares j) →
      Next M n shares n (M + 1)
  found : {i : ℕ} → i < n → critical_share_at shares i ≡ 0 → critical_total (take n shares) + typical_share_at shares i ≤ M →
      ((j : ℕ) → j < n → critical_share_at shares j ≡ 0 → NotAfter (typical_share_at shares) i j) →
      Next M n shares i (critical_total (take n shares) + typical_share_at shares i)

-- The shares of n tasks on M processors after k tasks were kept, each the next one at its time.
pub data KeptAfter (M n : ℕ) (shares : List Share) : ℕ → List Share → Type 0 where
  none_kept : KeptAfter M n shares 0 shares
  one_more : {k i total : ℕ} {line : List Share} → KeptAfter M n shares k line → Next M n line i total → total ≤ M →
      KeptAfter M n shares (k + 1) (set line i (kept_share (share_at line i)))

-- What the code needs of the shares of n tasks: each has a typical share, none above M, and the critical ones total at
-- most M.
pub record Keepable (M n : ℕ) (shares : List Share) : Type 0 where
  pub few : n ≤ 16
  pub small : M ≤ 64
  pub some_share : (i : ℕ) → i < n → 1 ≤ typical_share_at shares i
  pub within : (i : ℕ) → i < n → typical_share_at shares i ≤ M
  pub fits : critical_total (take n shares) ≤ M
