-- Totals by tasks: the totals of the last tasks one task after the other, and what the selection reads off them.
use Prim.Native.Nat.{ℕ, suc, ◌+◌, ◌-◌, ◌≤◌, ◌<◌, min}
use mathlib.Core.Path.{◌≡◌, refl, sym, ap, ◌∙◌}
use mathlib.Core.List.{List, [], ◌∷◌, map}
use native.Mathlib.Numerals.{add-one}
use native.Mathlib.Omega.{arith}
use native.Mathlib.Decide.{dec_le}
use lib.ListN.{length, get_or, take, drop, set, replicate, length-map, get_or-map, get_or-eq_default}
use lib.Seq.{drop-cons, get_or-take, get_or-drop, drop-drop, length-take-le}
use Rattle.basics.specs.Lists.{cells, cells_from}
use Rattle.std.proofs.lemmas.List.{drop_all}
use Rattle.basics.proofs.Cells.{cells_none, cells_store, cells_at}
use Rattle.shares.specs.declared.share.Share.{Share}
use Rattle.shares.specs.Offer.{tabulate}
use Rattle.shares.proofs.Offers.{tabulate_at, tabulate-length, tabulated}
use Rattle.shares.specs.Totals.{no_processors}
use Rattle.allocation.specs.Allocation.{sixteen}
use Rattle.allocation.specs.means.Selection.{cell_at, least_from, sum_at, best_share, total_with, least_total, totals_of, offered, shares_at, best_total, missing_offer, missing_totals, offers_up_to, last_totals, total_at, Small, OfferWithin}
use Rattle.allocation.proofs.Firsts.{least_same, least_taken, least_kept}
use Rattle.allocation.proofs.Optimal.{best_from, best_to, with_positive, with_best, with_none, with_some, total_bound}

-- Numbers that agree are tabulated alike.
pub tabulate_same : (g h : ℕ → ℕ) (n : ℕ) → ((x : ℕ) → x < n → g x ≡ h x) → tabulate g 0 n ≡ tabulate h 0 n
tabulate_same g h n same =
    tabulated h (tabulate g 0 n) 0 n (tabulate-length g 0 n)
    (λ i inside.
    let e : 0 + i ≡ i = omega arith in
    tabulate_at g 0 n i inside ∙ ap g e ∙ same i inside ∙ ap h (sym e))

-- What numbers in a table say.
pub table_at : (g : ℕ → ℕ) (n t : ℕ) → t < n → total_at (tabulate g 0 n) t ≡ g t
unfolding total_at
table_at g n t inside =
    let e : 0 + t ≡ t = omega arith in
    tabulate_at g 0 n t inside ∙ ap g e

-- What totals say.
pub entry_totals : (M : ℕ) (offers : List (ℕ → ℕ)) (t : ℕ) → t ≤ 64 → total_at (totals_of M offers) t ≡ least_total M offers t
unfolding total_at totals_of
entry_totals M offers t within = table_at (least_total M offers) 65 t (omega arith)

-- Numbers within a bound are so in a table.
pub table_within : (g : ℕ → ℕ) (k n bound : ℕ) → ((x : ℕ) → g x ≤ bound) → (j : ℕ) → get_or (tabulate g k n) j 0 ≤ bound
table_within g k n bound within j = go (dec_le n j)
  where
    go : Dec (n ≤ j) → get_or (tabulate g k n) j 0 ≤ bound
    go (yes past) =
        let beyond : length (tabulate g k n) ≤ j = omega (arith, tabulate-length g k n) in
        rw (get_or-eq_default (tabulate g k n) 0 beyond) (omega arith)
    go (no inside) = rw (tabulate_at g k n j (omega arith)) (within (k + j))

-- Offers and totals are small enough for the sum of two.
pub totals_small : (M : ℕ) (offers : List (ℕ → ℕ)) → M ≤ 64 → Small (totals_of M offers)
unfolding totals_of
totals_small M offers few j = omega (arith, table_within (least_total M offers) 0 65 (M + 1) (total_bound M offers) j)

pub offer_small : (M : ℕ) (offer : List ℕ) → M ≤ 64 → OfferWithin M offer → Small offer
offer_small M offer few range j = omega (arith, range.small j)

-- So their sum fits a byte.
pub sum_fits : (ys : List ℕ) → Small ys → (x j : ℕ) → x ≤ 65 → x + get_or ys j 0 < 256
sum_fits ys small x j few = omega (arith, small j)

-- The sum of two cells is the total where the task takes a of t, if they are the cells of a and of what a leaves.
module _ (offer rest : List ℕ) (t a : ℕ) where
  pub sum_is : (i j : ℕ) → i ≡ a - 1 → j ≡ t - a → get_or offer i 0 + get_or rest j 0 ≡ sum_at (cell_at offer) (total_at rest) t a
  unfolding cell_at total_at sum_at
  sum_is i j own left = rw (own, left)

-- The first best share of a task among the shares up to a, and its total.
pub record BestUpTo (offer rest : List ℕ) (t a best least : ℕ) : Type 0 where
  pub from : 1 ≤ a
  pub to : a ≤ t
  pub first : best ≡ least_from (sum_at (cell_at offer) (total_at rest) t) 1 (a - 1)
  pub sum : least ≡ sum_at (cell_at offer) (total_at rest) t best

module _ {offer rest : List ℕ} {t a best least : ℕ} (so_far : BestUpTo offer rest t a best least) (more : a < t) where
  -- A smaller sum at the next share is the least.
  pub best_taken : {a' best' next : ℕ} → a' ≡ a + 1 → best' ≡ a + 1 → next ≡ sum_at (cell_at offer) (total_at rest) t (a + 1) → next < least →
      BestUpTo offer rest t a' best' next
  best_taken same own here less =
      rw (same, own)
      (record {
        from = omega arith;
        to = omega arith;
        first = least_taken (sum_at (cell_at offer) (total_at rest) t) 1 a best so_far.from so_far.first (omega (arith, so_far.sum, here));
        sum = here;
      })

  -- Any other leaves the least as it was.
  pub best_left : {a' next : ℕ} → a' ≡ a + 1 → least ≤ next → next ≡ sum_at (cell_at offer) (total_at rest) t (a + 1) → BestUpTo offer rest t a' best least
  best_left same no_less here =
      rw same
      (record {
        from = omega arith;
        to = omega arith;
        first = least_kept (sum_at (cell_at offer) (total_at rest) t) 1 a best so_far.from so_far.first (omega (arith, so_far.sum, here));
        sum = so_far.sum;
      })

-- The totals of no task.
pub totals_none : (M x : ℕ) → x ≡ M + 1 → set (replicate 65 x) 0 0 ≡ totals_of M []
unfolding totals_of least_total tabulate
totals_none M x cap = rw cap

-- Totals that agree below t give one best share, and one total.
module _ (M : ℕ) (offer rest rest' : ℕ → ℕ) (t : ℕ) (same : (x : ℕ) → x < t → rest x ≡ rest' x) where
  sum_same : (a : ℕ) → 1 ≤ a → a ≤ t → sum_at offer rest t a ≡ sum_at offer rest' t a
  unfolding sum_at
  sum_same a from to = ap (λ (x : ℕ). offer a + x) (same (t - a) (omega arith))

  pub best_same : 1 ≤ t → best_share offer rest t ≡ best_share offer rest' t
  unfolding best_share
  best_same one = least_same (sum_at offer rest t) (sum_at offer rest' t) 1 (t - 1) (λ a from to. sum_same a from (omega arith))

  pub with_same : total_with M offer rest t ≡ total_with M offer rest' t
  with_same = go (dec_le 1 t)
    where
      go : Dec (1 ≤ t) → total_with M offer rest t ≡ total_with M offer rest' t
      go (yes one) =
          with_some M offer rest t one
          ∙ ap (λ (x : ℕ). min x (M + 1))
          (sum_same (best_share offer rest t) (best_from M offer rest t) (best_to M offer rest t one)
          ∙ ap (sum_at offer rest' t) (best_same one))
          ∙ sym (with_some M offer rest' t one)
      go (no zero_left) = with_none M offer rest t (omega arith) ∙ sym (with_none M offer rest' t (omega arith))

-- The totals of one task more.
pub totals_more : (M : ℕ) (offer : ℕ → ℕ) (offers : List (ℕ → ℕ)) →
    tabulate (total_with M offer (total_at (totals_of M offers))) 0 65 ≡ totals_of M (offer ∷ offers)
unfolding totals_of least_total
totals_more M offer offers =
    tabulate_same (total_with M offer (total_at (totals_of M offers))) (total_with M offer (least_total M offers)) 65
    (λ t inside. with_same M offer (total_at (totals_of M offers)) (least_total M offers) t (λ x below. entry_totals M offers x (omega arith)))

-- The first n offers.
module _ (n : ℕ) (offers : List (List ℕ)) (there : n ≤ length offers) where
  pub offers_length : length (offers_up_to n offers) ≡ n
  unfolding offers_up_to
  offers_length = length-map (take n offers) cell_at ∙ length-take-le n offers there

  -- The offer of task i before those after it.
  pub offers_open : (i : ℕ) → i < n → drop i (offers_up_to n offers) ≡ cell_at (get_or offers i missing_offer) ∷ drop (i + 1) (offers_up_to n offers)
  unfolding offers_up_to
  offers_open i inside =
      let within : i < length (map cell_at (take n offers)) = omega (arith, offers_length) in
      drop-cons (map cell_at (take n offers)) i (cell_at []) within
      ∙ rw (add-one i)
      (ap (λ (offer : ℕ → ℕ). offer ∷ drop (suc i) (map cell_at (take n offers)))
      (get_or-map cell_at (take n offers) i missing_offer
      ∙ ap cell_at (get_or-take n offers i missing_offer inside)))

-- The totals of the last k tasks.
abbrev pub line : ℕ → List (ℕ → ℕ) → ℕ → ℕ → List ℕ
line M offers n k = totals_of M (drop (n - k) offers)

abbrev pub no_line : ℕ → List ℕ
no_line M = totals_of M []

-- The lines of up to k tasks are filled.
unfoldable pub lines : ℕ → List (ℕ → ℕ) → ℕ → ℕ → List (List ℕ)
lines M offers n k = cells 17 (line M offers n) (no_line M) (k + 1)

module _ (M n : ℕ) (offers : List (ℕ → ℕ)) (all_present : length offers ≡ n) where
  pub lines_start : replicate 17 (no_line M) ≡ lines M offers n 0
  unfolding lines
  lines_start =
      ap (λ (x : List ℕ). set (replicate 17 (no_line M)) 0 x) (ap (λ (r : List (ℕ → ℕ)). totals_of M r) (sym (drop_all (n - 0) offers (omega arith))))
      ∙ ap (λ (l : List (List ℕ)). set l 0 (line M offers n 0)) (sym (cells_none (line M offers n) (no_line M) 0 17 0 (omega arith)))
      ∙ cells_store (line M offers n) (no_line M) 17 0 (omega arith)

  pub lines_at : (k j : ℕ) → j ≤ k → j < 17 → get_or (lines M offers n k) j missing_totals ≡ line M offers n j
  unfolding lines
  lines_at k j from inside = cells_at (line M offers n) (no_line M) 17 (k + 1) j missing_totals inside (omega arith)

  pub lines_store : (k : ℕ) → k + 1 < 17 → set (lines M offers n k) (k + 1) (line M offers n (k + 1)) ≡ lines M offers n (k + 1)
  unfolding lines
  lines_store k inside = cells_store (line M offers n) (no_line M) 17 (k + 1) inside

  pub lines_last : lines M offers n n ≡ last_totals M offers n
  unfolding lines last_totals
  lines_last = refl

-- The line that the loop stores, from the offer of the task and the line before.
pub line_more : (M n : ℕ) (offers : List (List ℕ)) → n ≤ length offers → (k : ℕ) → k < n →
    tabulate (total_with M (cell_at (get_or offers (n - 1 - k) missing_offer)) (total_at (line M (offers_up_to n offers) n k))) 0 65
    ≡ (line M (offers_up_to n offers) n (k + 1))
line_more M n offers there k inside =
    let place : n - 1 - k ≡ n - (k + 1) = omega arith in
    let next : n - (k + 1) + 1 ≡ n - k = omega arith in
    rw place
    (totals_more M (cell_at (get_or offers (n - (k + 1)) missing_offer)) (drop (n - k) (offers_up_to n offers))
    ∙ ap (totals_of M)
    (sym (offers_open n offers there (n - (k + 1)) (omega arith)
    ∙ ap (λ (x : ℕ). cell_at (get_or offers (n - (k + 1)) missing_offer) ∷ drop x (offers_up_to n offers)) next)))

-- What the selection reads off the lines of n tasks.
module _ (M n : ℕ) (offers : List (ℕ → ℕ)) (all_present : length offers ≡ n) (few : n ≤ 16) where
  pub whole_line : (get_or (last_totals M offers n) n missing_totals) ≡ totals_of M offers
  whole_line =
      let none : n - n ≡ 0 = omega arith in
      rw (← lines_last M n offers all_present)
      (ap (λ (x : List ℕ). x) (lines_at M n offers all_present n n (omega arith) (omega arith))
      ∙ ap (λ (x : ℕ). totals_of M (drop x offers)) none)

  pub rest_line : (i : ℕ) → i < n → (get_or (last_totals M offers n) (n - 1 - i) missing_totals) ≡ totals_of M (drop (i + 1) offers)
  rest_line i inside =
      let place : n - (n - 1 - i) ≡ i + 1 = omega arith in
      rw (← lines_last M n offers all_present)
      (ap (λ (x : List ℕ). x) (lines_at M n offers all_present n (n - 1 - i) (omega arith) (omega arith))
      ∙ ap (λ (x : ℕ). totals_of M (drop x offers)) place)

-- The best typical total.
pub best_total_is : (M : ℕ) (offers : List (ℕ → ℕ)) → M ≤ 64 → least_from (total_at (totals_of M offers)) 0 M ≡ best_total M offers
unfolding best_total
best_total_is M offers small =
    least_same (total_at (totals_of M offers)) (least_total M offers) 0 M (λ t from to. entry_totals M offers t (omega arith))

-- One step of the walk: the first task's share, and what is left for the tasks after it.
module _ (M : ℕ) (offer : ℕ → ℕ) (offers : List (ℕ → ℕ)) (t a : ℕ) (small : t ≤ 64) (within : least_total M (offer ∷ offers) t ≤ M)
    (best : a ≡ best_share offer (total_at (totals_of M offers)) t) where
  pub step_some : 1 ≤ t
  unfolding least_total
  step_some = with_positive M offer (least_total M offers) t within

  step_best : a ≡ best_share offer (least_total M offers) t
  step_best =
      best
      ∙ best_same M offer (total_at (totals_of M offers)) (least_total M offers) t (λ x below. entry_totals M offers x (omega arith)) step_some

  pub step_from : 1 ≤ a
  step_from = rw step_best (best_from M offer (least_total M offers) t)

  pub step_to : a ≤ t
  step_to = rw step_best (best_to M offer (least_total M offers) t step_some)

  pub step-within : least_total M offers (t - a) ≤ M
  unfolding least_total
  step-within =
      let sum = with_best M offer (least_total M offers) t within in
      rw step_best (omega arith)

  pub step_shares : shares_at M (offer ∷ offers) t ≡ offered offer a ∷ shares_at M offers (t - a)
  unfolding shares_at
  step_shares = rw step_best

pub shares_length : (M : ℕ) (offers : List (ℕ → ℕ)) (t : ℕ) → length (shares_at M offers t) ≡ length offers
unfolding shares_at
shares_length M [] t = refl
shares_length M (offer ∷ offers) t = ap suc (shares_length M offers (t - best_share offer (least_total M offers) t))

-- A list that is known from i on.
module _ {A : Type 0} (l : List A) (i : ℕ) (x : A) (rest : List A) (e : drop i l ≡ x ∷ rest) where
  pub open_at : (d : A) → get_or l i d ≡ x
  open_at d =
      let place : i + 0 ≡ i = omega arith in
      ap (λ (j : ℕ). get_or l j d) (sym place) ∙ sym (get_or-drop i l 0 d) ∙ ap (λ (r : List A). get_or r 0 d) e

  pub open_rest : drop (i + 1) l ≡ rest
  open_rest = sym (drop-drop 1 i l) ∙ ap (drop 1) e

-- The shares as a line of sixteen.
pub sixteen_is : (n : ℕ) (shares : List Share) → length shares ≡ n →
    cells 16 (λ j. get_or shares j no_processors) no_processors n ≡ sixteen shares
unfolding sixteen
sixteen_is n shares long = rw long

-- No shares as a line of sixteen.
pub sixteen_none : replicate 16 no_processors ≡ sixteen []
unfolding sixteen cells_from
sixteen_none = refl
