-- Worked facts by computation: which of three tasks are kept, and the totals with one task more kept.
use Prim.Native.Nat.{ℕ, zero, suc, ◌≤◌, ◌<◌}
use mathlib.Core.Path.{◌≡◌, refl}
use mathlib.Core.Logic.{◌⊎◌, inl, inr}
use mathlib.Core.List.{List, [], ◌∷◌}
use native.Mathlib.Omega.{arith}
use lib.Dec.{lit≤}
use lib.ListN.{get_or}
use Rattle.basics.specs.Lists.{range}
use Rattle.basics.specs.Order.{least_by, least, capped_at}
use Rattle.shares.specs.declared.share.Share.{Share}
use Rattle.shares.specs.Totals.{no_processors, share_at}
use Rattle.keeping.specs.Kept.{holdable, first_held, typical_share_at, kept_share}
use Rattle.keeping.specs.Running.{critical_share_at, without, total_with_task, totals_with_one, totals_keeping}
use Rattle.keeping.specs.means.Keeping.{found, KeptAfter, none_kept, one_more, Keepable}

-- Tasks 0, 1 and 2 with these shares.
abbrev pub three : ℕ → ℕ → ℕ → ℕ → ℕ
three a b c i = get_or (a ∷ b ∷ c ∷ []) i 0

pub record Worked : Type 0 where
  -- S5.6: on 3 processors two tasks of one each are kept, and not one task of three.
  pub most : first_held (three 3 1 1) 3 (0 ∷ 1 ∷ 2 ∷ []) ≡ 1 ∷ 2 ∷ []
  -- Of two sets with as many tasks the one with fewer processors is kept, though the other fits as well.
  pub fewest : first_held (three 2 1 1) 3 (0 ∷ 1 ∷ 2 ∷ []) ≡ 1 ∷ 2 ∷ []
  -- With as many of both the list that comes first.
  pub first : first_held (three 1 1 1) 2 (0 ∷ 1 ∷ 2 ∷ []) ≡ 0 ∷ 1 ∷ []
  -- A smaller share is kept first, whatever its number.
  pub by_share : first_held (three 2 2 1) 3 (0 ∷ 1 ∷ 2 ∷ []) ≡ 0 ∷ 2 ∷ []
  -- With nothing left over no task is kept; with enough, all are.
  pub nothing : first_held (three 1 1 1) 0 (0 ∷ 1 ∷ 2 ∷ []) ≡ []
  pub all : first_held (three 3 1 2) 6 (0 ∷ 1 ∷ 2 ∷ []) ≡ 0 ∷ 1 ∷ 2 ∷ []

-- A high task and three low ones, and the same once the last is kept.
abbrev pub four : ℕ → List Share
four last =
    record { typical = 1; critical = 2 }
    ∷ record { typical = 3; critical = 0 }
    ∷ record { typical = 2; critical = 0 }
    ∷ record { typical = 1; critical = last }
    ∷ []

pub record WorkedTotals : Type 0 where
  -- S5.7: with one of the low tasks more kept the critical total 2 comes to 5, 4 or 3; on 8 processors 3 is held.
  pub first_of_all : totals_with_one 4 (four 0) ≡ 5 ∷ 4 ∷ 3 ∷ []
  pub held : capped_at 9 (least (totals_with_one 4 (four 0))) ≡ 3
  -- Then 3 comes to 6 or 5; on 5 processors 5 is held, and on 3 it is 4.
  pub second : totals_with_one 4 (four 1) ≡ 6 ∷ 5 ∷ []
  pub held_second : capped_at 6 (least (totals_with_one 4 (four 1))) ≡ 5
  pub above : capped_at 4 (least (totals_with_one 4 (four 1))) ≡ 4
  -- Of all sets of two low tasks the least total is the same 5.
  pub of_two : totals_keeping 4 (four 0) 2 ≡ 7 ∷ 6 ∷ 5 ∷ []

pub worked_totals : WorkedTotals
unfolding least_by least range share_at typical_share_at kept_share critical_share_at without total_with_task totals_with_one totals_keeping
worked_totals =
    record {
      first_of_all = refl;
      held = refl;
      second = refl;
      held_second = refl;
      above = refl;
      of_two = refl;
    }

-- There are shares from which tasks can be kept, and shares after one was: those four on 8 processors.
pub some_able : Keepable 8 4 (four 0)
unfolding typical_share_at share_at
some_able =
    record { few = lit≤ tt; small = lit≤ tt; some_share = λ i inside. (share i inside).0; within = λ i inside. (share i inside).1; fits = lit≤ tt }
  where
    share : (i : ℕ) → i < 4 → (1 ≤ (get_or (four 0) i no_processors).typical) × ((get_or (four 0) i no_processors).typical ≤ 8)
    share zero inside = (lit≤ tt, lit≤ tt)
    share (suc zero) inside = (lit≤ tt, lit≤ tt)
    share (suc (suc zero)) inside = (lit≤ tt, lit≤ tt)
    share (suc (suc (suc zero))) inside = (lit≤ tt, lit≤ tt)
    share (suc (suc (suc (suc i)))) inside = absurd (omega arith)

pub some_after : KeptAfter 8 4 (four 0) 1 (four 1)
unfolding kept_share typical_share_at critical_share_at share_at
some_after = one_more none_kept (found {i = 3} (lit≤ tt) refl (lit≤ tt) first) (lit≤ tt)
  where
    first : (j : ℕ) → j < 4 → (get_or (four 0) j no_processors).critical ≡ 0 →
        (1 < (get_or (four 0) j no_processors).typical) ⊎ ((1 ≡ (get_or (four 0) j no_processors).typical) × (3 ≤ j))
    first zero inside low = absurd (omega arith)
    first (suc zero) inside low = inl (lit≤ tt)
    first (suc (suc zero)) inside low = inl (lit≤ tt)
    first (suc (suc (suc zero))) inside low = inr (refl, lit≤ tt)
    first (suc (suc (suc (suc j)))) inside low = absurd (omega arith)

pub worked : Worked
unfolding least_by holdable first_held
worked =
    record {
      most = refl;
      fewest = refl;
      first = refl;
      by_share = refl;
      nothing = refl;
      all = refl;
    }
