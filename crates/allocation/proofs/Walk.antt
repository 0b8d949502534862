-- The walk forward: what is read off the lines at one task, the tasks left after it, and the answers that it ends in.
use Prim.Native.Nat.{ℕ, ◌+◌, ◌-◌, ◌≤◌, ◌<◌}
use mathlib.Core.Path.{◌≡◌, refl, sym, ap, ◌∙◌}
use mathlib.Core.List.{List, ◌∷◌}
use native.Mathlib.Omega.{arith}
use lib.ListN.{length, get_or, drop, set}
use borrow.Author.Tests.{le-leb, lt-leb}
use Rattle.std.specs.Prelude.{Ok, Err, None, Some}
use Rattle.sheet.specs.declared.refusal.Refusal.TheVariants.{NoFit}
use Rattle.basics.specs.Lists.{cells}
use Rattle.basics.proofs.Cells.{cells_store}
use Rattle.shares.specs.declared.share.Share.{Share}
use Rattle.shares.specs.Totals.{no_processors}
use Rattle.allocation.specs.Allocation.{sixteen}
use Rattle.allocation.specs.means.Selection.{cell_at, least_from, best_share, least_total, totals_of, offered, shares_at, best_total, selected, missing_offer, offers_up_to, last_totals, selection_of, total_at, missing_totals, Small}
use Rattle.allocation.proofs.Lines.{totals_small, offers_length, offers_open, whole_line, rest_line, entry_totals, best_total_is, step_some, step_from, step_to, step-within, step_shares, shares_length, open_at, open_rest, sixteen_is}

-- The answers that the walk ends in.
module _ (M : ℕ) (offers : List (ℕ → ℕ)) where
  select_past : M < least_total M offers (best_total M offers) → selected M offers ≡ None
  unfolding selected
  select_past past = rw (lt-leb _ M past)

  select_within : least_total M offers (best_total M offers) ≤ M → selected M offers ≡ Some (shares_at M offers (best_total M offers))
  unfolding selected
  select_within within = rw (le-leb _ M within)

  pub selection_none : M < least_total M offers (best_total M offers) →
      Err NoFit ≡ selection_of M offers
  unfolding selection_of
  selection_none past = rw (select_past past)

  pub selection_some : least_total M offers (best_total M offers) ≤ M → (shares : List Share) →
      shares ≡ sixteen (shares_at M offers (best_total M offers)) → Ok shares ≡ selection_of M offers
  unfolding selection_of
  selection_some within shares e = rw (select_within within, e)

-- Before the walk: the best typical total is read off the line of all tasks.
module _ (M n : ℕ) (offers : List (List ℕ)) (there : n ≤ length offers) (few : n ≤ 16) (small : M ≤ 64)
    (all : List (List ℕ)) (lines : all ≡ last_totals M (offers_up_to n offers) n) where
  whole_is : (get_or all n missing_totals) ≡ totals_of M (offers_up_to n offers)
  whole_is = rw lines (whole_line M n (offers_up_to n offers) (offers_length n offers there) few)

  pub first_is : least_from (total_at (get_or all n missing_totals)) 0 M ≡ best_total M (offers_up_to n offers)
  first_is = rw whole_is (best_total_is M (offers_up_to n offers) small)

  pub total_is : (t : ℕ) → t ≤ M → get_or (get_or all n missing_totals) t 0 ≡ least_total M (offers_up_to n offers) t
  unfolding total_at
  total_is t to = rw whole_is (entry_totals M (offers_up_to n offers) t (omega arith))

-- The totals of the tasks after task i are small.
pub rest_small : (M n : ℕ) (offers : List (List ℕ)) → n ≤ length offers → n ≤ 16 → M ≤ 64 → (i : ℕ) → i < n → (all : List (List ℕ)) →
    all ≡ last_totals M (offers_up_to n offers) n → Small (get_or all (n - 1 - i) missing_totals)
rest_small M n offers there few small i inside all lines =
    rw (lines, rest_line M n (offers_up_to n offers) (offers_length n offers there) few i inside)
    (totals_small M (drop (i + 1) (offers_up_to n offers)) small)

-- What the walk has at task i, where the tasks from i on have `left` typical processors and task i takes a of them.
pub record Step (M n : ℕ) (offers : List (List ℕ)) (i left a : ℕ) (shares : List Share) : Type 0 where
  pub from : 1 ≤ a
  pub to : a ≤ left
  pub within : least_total M (drop (i + 1) (offers_up_to n offers)) (left - a) ≤ M
  pub rest : drop (i + 1) shares ≡ shares_at M (drop (i + 1) (offers_up_to n offers)) (left - a)
  pub store : set (cells 16 (λ j. get_or shares j no_processors) no_processors i) i
      (record { typical = a; critical = get_or (get_or offers i missing_offer) (a - 1) 0 })
      ≡ cells 16 (λ j. get_or shares j no_processors) no_processors (i + 1)

module _ (M n : ℕ) (offers : List (List ℕ)) (there : n ≤ length offers) (few : n ≤ 16) (small : M ≤ 64)
    (i left : ℕ) (inside : i < n) (left_to : left ≤ M) (within : least_total M (drop i (offers_up_to n offers)) left ≤ M) where
  here : least_total M (cell_at (get_or offers i missing_offer) ∷ drop (i + 1) (offers_up_to n offers)) left ≤ M
  here = rw (offers_open n offers there i inside) at within

  pub walk_some : 1 ≤ left
  walk_some =
      step_some M (cell_at (get_or offers i missing_offer)) (drop (i + 1) (offers_up_to n offers)) left _ (omega arith) here refl

  module _ (all : List (List ℕ)) (lines : all ≡ last_totals M (offers_up_to n offers) n) (a : ℕ)
      (best : a ≡ best_share (cell_at (get_or offers i missing_offer)) (total_at (get_or all (n - 1 - i) missing_totals)) left)
      (shares : List Share) (from : drop i shares ≡ shares_at M (drop i (offers_up_to n offers)) left) where
    best_is : a ≡ best_share (cell_at (get_or offers i missing_offer)) (total_at (totals_of M (drop (i + 1) (offers_up_to n offers)))) left
    best_is = rw (lines, rest_line M n (offers_up_to n offers) (offers_length n offers there) few i inside) at best

    opened : drop i shares ≡ offered (cell_at (get_or offers i missing_offer)) a ∷ shares_at M (drop (i + 1) (offers_up_to n offers)) (left - a)
    opened =
        from ∙ ap (λ (r : List (ℕ → ℕ)). shares_at M r left) (offers_open n offers there i inside)
        ∙ step_shares M _ (drop (i + 1) (offers_up_to n offers)) left a (omega arith) here best_is

    pub walk_step : Step M n offers i left a shares
    unfolding cell_at
    walk_step =
        record {
          from = step_from M _ (drop (i + 1) (offers_up_to n offers)) left a (omega arith) here best_is;
          to = step_to M _ (drop (i + 1) (offers_up_to n offers)) left a (omega arith) here best_is;
          within = step-within M _ (drop (i + 1) (offers_up_to n offers)) left a (omega arith) here best_is;
          rest = open_rest shares i _ _ opened;
          store =
              ap (λ (s : Share). set (cells 16 (λ j. get_or shares j no_processors) no_processors i) i s)
              (sym (open_at shares i _ _ opened no_processors))
              ∙ cells_store (λ j. get_or shares j no_processors) no_processors 16 i (omega arith);
        }

-- After the walk.
pub walk_done : (M n : ℕ) (offers : List (List ℕ)) → n ≤ length offers → (i : ℕ) → i ≡ n →
    cells 16 (λ j. get_or (shares_at M (offers_up_to n offers) (best_total M (offers_up_to n offers))) j no_processors) no_processors i
    ≡ sixteen (shares_at M (offers_up_to n offers) (best_total M (offers_up_to n offers)))
walk_done M n offers there i done =
    sixteen_is i _
    (shares_length M (offers_up_to n offers) (best_total M (offers_up_to n offers)) ∙ offers_length n offers there ∙ sym done)
