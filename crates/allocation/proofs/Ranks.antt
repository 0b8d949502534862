-- The order on choices: two choices that come no later than each other are one, since a choice is known by its numbers.
use Prim.Native.Nat.{ℕ, ◌≤◌}
use mathlib.Core.Path.{◌≡◌, refl, ap₂}
use mathlib.Core.Bool.{true}
use mathlib.Core.List.{List, [], ◌∷◌}
use native.Mathlib.Omega.{arith}
use Rattle.shares.specs.declared.share.Share.{Share}
use Rattle.shares.specs.Totals.{typical_total, critical_total}
use Rattle.basics.specs.Order.{no_later}
use Rattle.allocation.specs.Choice.{pair_numbers, rank}
use Rattle.basics.proofs.Order.{no_later_if}

-- The same of two choices by their first pairs, and by their totals.
pub pairs_no_later : (s u : Share) (c d : List Share) → s.typical ≤ u.typical →
    (s.typical ≡ u.typical → s.critical ≡ u.critical) →
    (s.typical ≡ u.typical → no_later (pair_numbers c) (pair_numbers d) ≡ true) →
    no_later (pair_numbers (s ∷ c)) (pair_numbers (u ∷ d)) ≡ true
pairs_no_later s u c d typical critical rest =
    no_later_if s.typical u.typical (s.critical ∷ pair_numbers c) (u.critical ∷ pair_numbers d) typical
    (λ same.
    let equal = critical same in
    no_later_if s.critical u.critical (pair_numbers c) (pair_numbers d) (omega arith) (λ same'. rest same))

pub ranks_no_later : (c d : List Share) → critical_total c ≤ critical_total d →
    (critical_total c ≡ critical_total d → typical_total c ≤ typical_total d) →
    (critical_total c ≡ critical_total d → typical_total c ≡ typical_total d → no_later (pair_numbers c) (pair_numbers d) ≡ true) →
    no_later (rank c) (rank d) ≡ true
ranks_no_later c d critical typical rest =
    no_later_if (critical_total c) (critical_total d) (typical_total c ∷ pair_numbers c) (typical_total d ∷ pair_numbers d) critical
    (λ same. no_later_if (typical_total c) (typical_total d) (pair_numbers c) (pair_numbers d) (typical same) (rest same))

-- A choice is known by its numbers.
pub pairs_same : (c d : List Share) → pair_numbers c ≡ pair_numbers d → c ≡ d
pairs_same [] [] e = refl
pairs_same [] (u ∷ d) e = absurd (cc)
pairs_same (s ∷ c) [] e = absurd (cc)
pairs_same (s ∷ c) (u ∷ d) e =
    let rest : pair_numbers c ≡ pair_numbers d = cc in
    let typical : s.typical ≡ u.typical = cc in
    let critical : s.critical ≡ u.critical = cc in
    let here : s ≡ u = ap₂ (λ (a b : ℕ). record { typical = a; critical = b }) typical critical in
    rw (here, pairs_same c d rest)

pub rank_same : (c d : List Share) → rank c ≡ rank d → c ≡ d
rank_same c d e = pairs_same c d (cc)
