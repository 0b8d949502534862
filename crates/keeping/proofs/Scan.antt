-- The search for the next task to keep, one task after the other: the first of all seen so far with which the critical
-- total is within M, or none.
use Prim.Native.Nat.{ℕ, ◌+◌, ◌≤◌, ◌<◌}
use mathlib.Core.Path.{◌≡◌, refl, subst}
use mathlib.Core.Logic.{inl, inr}
use mathlib.Core.List.{List}
use native.Mathlib.Decide.{dec_lt}
use native.Mathlib.Omega.{arith}
use lib.ListN.{take}
use Rattle.std.specs.Prelude.{Option, Some, None, MatchOption, IfSome}
use borrow.Author.Count.{below_more}
use Rattle.shares.specs.declared.share.Share.{Share}
use Rattle.shares.specs.Totals.{critical_total}
use Rattle.keeping.specs.Kept.{typical_share_at}
use Rattle.keeping.specs.Running.{critical_share_at}
use Rattle.keeping.specs.declared.NextKept.{NextKept}
use Rattle.keeping.specs.means.Keeping.{NotAfter, Next, none, found}

-- The task that was found, or n; and the total with it, or the one that stands for none.
abbrev pub task_or : ℕ → Option NextKept → ℕ
task_or n None = n
task_or n (Some next) = next.task

abbrev pub total_or : ℕ → Option NextKept → ℕ
total_or none_yet None = none_yet
total_or none_yet (Some next) = next.total

module _ (M n : ℕ) (shares : List Share) where
  -- The critical total with task j kept too.
  abbrev with : ℕ → ℕ
  with j = critical_total (take n shares) + typical_share_at shares j

  -- What is known once the tasks below i are seen: either the task is n, and none with which the total is within M was
  -- seen, or it is the first of those that were. A total below `below` is within M and comes before it.
  pub data Seen (i task below : ℕ) : Type 0 where
    nothing_seen : task ≡ n → below ≡ M + 1 → ((j : ℕ) → j < i → critical_share_at shares j ≡ 0 → M < with j) → Seen i task below
    a_task : task < i → critical_share_at shares task ≡ 0 → below ≡ with task → below ≤ M →
        ((j : ℕ) → j < i → critical_share_at shares j ≡ 0 → NotAfter (typical_share_at shares) task j) → Seen i task below

  -- Before any task is seen there is none.
  pub seen_none : (task below : ℕ) → task ≡ n → below ≡ M + 1 → Seen 0 task below
  seen_none task below no_one whole = nothing_seen no_one whole (λ j before low. absurd (omega arith))

  at_least : (i task below : ℕ) → Seen i task below → (j : ℕ) → j < i → critical_share_at shares j ≡ 0 → below ≤ with j
  at_least i task below (nothing_seen none_yet whole more) j before low = let past = more j before low in omega arith
  at_least i task below (a_task inside zero-share same fits first) j before low = go (first j before low)
    where
      go : NotAfter (typical_share_at shares) task j → below ≤ with j
      go (inl less) = omega arith
      go (inr (equal, _)) = omega arith

  pub to_cap : (i task below : ℕ) → Seen i task below → below ≤ M + 1
  to_cap i task below (nothing_seen none_yet whole more) = omega arith
  to_cap i task below (a_task inside zero-share same fits first) = omega arith

  -- A smaller total comes first.
  pub seen_taken : (i task below : ℕ) → Seen i task below → critical_share_at shares i ≡ 0 → with i < below →
      (task' below' : ℕ) → task' ≡ i → below' ≡ with i → Seen (i + 1) task' below'
  seen_taken i task below seen low less task' below' here same =
      rw here
      (a_task (omega arith) low same (omega (arith, to_cap i task below seen))
      (below_more (λ j. critical_share_at shares j ≡ 0 → NotAfter (typical_share_at shares) i j) i
      (λ j before zero-share. inl (omega (arith, at_least i task below seen j before zero-share)))
      (λ zero-share. inr (refl, omega arith))))

  -- Any other leaves what was found.
  seen_on : (i task below : ℕ) → Seen i task below → (critical_share_at shares i ≡ 0 → below ≤ with i) → Seen (i + 1) task below
  seen_on i task below (nothing_seen none_yet whole more) past =
      nothing_seen none_yet whole
      (below_more (λ j. critical_share_at shares j ≡ 0 → M < with j) i more (λ low. omega (arith, past low)))
  seen_on i task below (a_task inside zero-share same fits first) past =
      a_task (omega arith) zero-share same fits
      (below_more (λ j. critical_share_at shares j ≡ 0 → NotAfter (typical_share_at shares) task j) i first
      (λ low. later (dec_lt (typical_share_at shares task) (typical_share_at shares i)) (past low)))
    where
      later : Dec (typical_share_at shares task < typical_share_at shares i) → below ≤ with i → NotAfter (typical_share_at shares) task i
      later (yes h) least = inl h
      later (no h) least = inr (omega arith, omega arith)

  pub seen_left : (i task below : ℕ) → Seen i task below → (critical_share_at shares i ≡ 0 → below ≤ with i) →
      (task' below' : ℕ) → task' ≡ task → below' ≡ below → Seen (i + 1) task' below'
  seen_left i task below seen past task' below' same same' = rw (same, same') (seen_on i task below seen past)

  pub seen_all : (task below : ℕ) → Seen n task below → Next M n shares task below
  seen_all task below (nothing_seen none_yet whole more) = rw (none_yet, whole) (none more)
  seen_all task below (a_task inside low same fits first) = rw same (found inside low (omega arith) first)

  -- The same of what the search holds.
  pub record SeenSoFar (i : ℕ) (next : Option NextKept) (below : ℕ) : Type 0 where
    pub total : below ≡ total_or (M + 1) next
    pub within : IfSome next (λ k. k.total ≤ M)
    pub seen : Seen i (task_or n next) below

  -- What is found of all tasks.
  pub found_next : (next : Option NextKept) (below : ℕ) → SeenSoFar n next below →
      MatchOption next (Next M n shares n (M + 1)) (λ k. Next M n shares k.task k.total)
  found_next None below seen = subst (Next M n shares n) seen.total (seen_all n below seen.seen)
  found_next (Some k) below seen = subst (Next M n shares k.task) seen.total (seen_all k.task below seen.seen)
