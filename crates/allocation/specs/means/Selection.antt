-- S5.3 by totals, as the selection works. An offer says the least critical share of a task at each typical share, and M
-- + 1 stands for none and for any total above M.
use Rattle.std.specs.Prelude.{ℕ, zero, suc, ◌+◌, ◌-◌, ◌≤◌, ◌<◌, min, ◌≡◌, Bool, cond, List, [], ◌∷◌, map, leb, ltb, eqb, get_or, drop, take, replicate, Result, Ok, Option, None, Some, is_none, unwrap_or}
use Rattle.std.specs.List.{list_all}
use Rattle.shares.specs.declared.share.Share.{Share}
use Rattle.shares.specs.Offer.{tabulate, offer_of}
use Rattle.basics.specs.Lists.{cells}
use Rattle.allocation.specs.Allocation.{sixteen}
use Rattle.sheet.specs.declared.task.TaskSet.{TaskSet}
use Rattle.sheet.specs.declared.refusal.Refusal.{Refusal}
use Rattle.sheet.specs.declared.refusal.Refusal.TheVariants.{NoShare, NoFit}
use Rattle.sheet.specs.Refusal.{Answer, refused_if, ◌or_else◌}
use Rattle.sheet.specs.Format.{task_in}

-- What the 64 numbers of an offer say at typical share a.
unfoldable pub cell_at : List ℕ → ℕ → ℕ
cell_at cells a = get_or cells (a - 1) 0

-- What 65 totals say at typical total t.
unfoldable pub total_at : List ℕ → ℕ → ℕ
total_at totals t = get_or totals t 0

-- Of two numbers the first, unless f is smaller at the second.
abbrev pub better : (ℕ → ℕ) → ℕ → ℕ → ℕ
better f x y = cond (ltb (f y) (f x)) y x

-- The first of the numbers k to k + n at which f is least.
unfoldable pub least_from : (ℕ → ℕ) → ℕ → ℕ → ℕ
least_from f k zero = k
least_from f k (suc n) = better f (least_from f k n) (k + suc n)

-- The critical total where a task takes a of t typical processors, and the tasks after it, with these totals, the rest.
unfoldable pub sum_at : (ℕ → ℕ) → (ℕ → ℕ) → ℕ → ℕ → ℕ
sum_at offer rest t a = offer a + rest (t - a)

-- The first typical share from 1 to t at which that total is least.
unfoldable pub best_share : (ℕ → ℕ) → (ℕ → ℕ) → ℕ → ℕ
best_share offer rest t = least_from (sum_at offer rest t) 1 (t - 1)

-- The least critical total of a task and the tasks after it with typical total t; none at t = 0, since the task takes a
-- processor. M + 1 stands for none, and for any total above M.
unfoldable pub total_with : ℕ → (ℕ → ℕ) → (ℕ → ℕ) → ℕ → ℕ
total_with M offer rest t = cond (eqb t 0) (M + 1) (min (sum_at offer rest t (best_share offer rest t)) (M + 1))

-- The least critical total of tasks with these offers and typical total t.
unfoldable pub least_total : ℕ → List (ℕ → ℕ) → ℕ → ℕ
least_total M [] t = cond (eqb t 0) 0 (M + 1)
least_total M (offer ∷ offers) t = total_with M offer (least_total M offers) t

-- These totals at typical totals 0 to 64.
unfoldable pub totals_of : ℕ → List (ℕ → ℕ) → List ℕ
totals_of M offers = tabulate (least_total M offers) 0 65

-- Totals from number 63 on, and M + 1 before them, for typical totals below 0.
unfoldable pub padded : ℕ → List ℕ → List ℕ
padded M totals = tabulate (λ j. cond (ltb j 63) (M + 1) (total_at totals (j - 63))) 0 128

-- Totals lowered to what they come to where a task takes a, with this critical share, and the tasks after it, with
-- these padded totals, the rest.
unfoldable pub lowered : ℕ → ℕ → (ℕ → ℕ) → List ℕ → List ℕ
lowered a critical rest totals =
    tabulate (λ t. cond (eqb t 0) (total_at totals t) (min (total_at totals t) (critical + rest (63 + t - a)))) 0 65

-- Numbers of which two come to no more than a byte holds.
abbrev pub Small : List ℕ → Type 0
Small numbers = (j : ℕ) → get_or numbers j 0 ≤ 65

-- What stands for an offer where a list has none.
abbrev pub missing_offer : List ℕ
missing_offer = []

-- What the code needs of an offer: no number exceeds M + 1, and above M nothing is offered.
pub record OfferWithin (M : ℕ) (offer : List ℕ) : Type 0 where
  pub small : (j : ℕ) → get_or offer j 0 ≤ M + 1
  pub past : (a : ℕ) → M < a → a ≤ 64 → cell_at offer a ≡ M + 1

-- The same of each of n offers.
abbrev pub OffersWithin : ℕ → ℕ → List (List ℕ) → Type 0
OffersWithin M n offers = (i : ℕ) → i < n → OfferWithin M (get_or offers i missing_offer)

-- The pair that an offer offers at typical share a.
abbrev pub offered : (ℕ → ℕ) → ℕ → Share
offered offer a = record { typical = a; critical = offer a }

-- The shares of the tasks with typical total t, each task with its best share of what is left.
unfoldable pub shares_at : ℕ → List (ℕ → ℕ) → ℕ → List Share
shares_at M [] t = []
shares_at M (offer ∷ offers) t =
    offered offer (best_share offer (least_total M offers) t)
    ∷ shares_at M offers (t - best_share offer (least_total M offers) t)

-- The first typical total within M at which the critical total is least.
unfoldable pub best_total : ℕ → List (ℕ → ℕ) → ℕ
best_total M offers = least_from (least_total M offers) 0 M

-- The shares that the offers select, or none where every critical total exceeds M.
unfoldable pub selected : ℕ → List (ℕ → ℕ) → Option (List Share)
selected M offers =
    cond (leb (least_total M offers (best_total M offers)) M) (Some (shares_at M offers (best_total M offers))) None

-- An offer of zeros: what stands in the place of a task that is not there.
abbrev pub zero_offer : List ℕ
zero_offer = replicate 64 0

-- S4.4: the offers of the tasks of a set.
unfoldable pub offers_of : TaskSet → List (List ℕ)
offers_of set = cells 16 (λ i. offer_of set.processors (task_in set i)) zero_offer set.count

-- S9.7: whether an offer offers nothing within M.
unfoldable pub offers_none : ℕ → List ℕ → Bool
offers_none M offer = list_all (λ b. ltb M b) offer

-- S9.7: refusal 7 of task i, by its offer.
unfoldable pub offer_answer : ℕ → List (List ℕ) → ℕ → Answer
offer_answer M offers i = refused_if (offers_none M (get_or offers i missing_offer)) (NoShare i)

-- The first n offers, as functions of the typical share.
unfoldable pub offers_up_to : ℕ → List (List ℕ) → List (ℕ → ℕ)
offers_up_to n offers = map cell_at (take n offers)

-- The totals of the last k tasks, for each k up to the number n of offers.
unfoldable pub last_totals : ℕ → List (ℕ → ℕ) → ℕ → List (List ℕ)
last_totals M offers n =
    cells 17 (λ k. totals_of M (drop (n - k) offers)) (totals_of M []) (n + 1)

-- The totals of the last tasks of a set.
unfoldable pub totals_for : TaskSet → List (List ℕ)
totals_for set = last_totals set.processors (offers_up_to set.count (offers_of set)) set.count

-- What stands for totals where a list has none.
abbrev pub missing_totals : List ℕ
missing_totals = []

-- S9.8: refusal 8 and the shares, by the offers.
unfoldable pub selection_of : ℕ → List (ℕ → ℕ) → Result (List Share) Refusal
selection_of M offers =
    refused_if (is_none (selected M offers)) NoFit
    or_else Ok (sixteen (unwrap_or (selected M offers) []))
