-- The selection is right, for any offers. Every choice has a critical total of at least the least one at its typical
-- total; the selected shares have just that; and a rival with the same totals agrees with the offers at each task, so
-- that the first best share comes no later than the rival's.
use Prim.Native.Nat.{ℕ, ◌+◌, ◌-◌, ◌≤◌, ◌<◌, min}
use mathlib.Core.Path.{◌≡◌, refl, sym, ap, ◌∙◌, subst}
use mathlib.Core.Bool.{Bool, true, false, cond}
use mathlib.Core.List.Memᴰ
use mathlib.Core.List.{List, [], ◌∷◌, Memᴰ}
use Rattle.std.specs.Prelude.{None, Some, filter}
use native.Mathlib.Omega.{arith}
use native.Mathlib.Nat.{min-le_left, min-le_right, min-eq_left, min-eq_right}
use native.Mathlib.Decide.{dec_le}
use lib.Dec.{leb, eqb}
use borrow.Author.Tests.{leb-true, leb-false, le-leb, eqb-true, ne_eqb}
use Rattle.std.proofs.lemmas.Bool.{and_parts}
use Rattle.shares.specs.declared.share.Share.{Share}
use Rattle.shares.specs.Totals.{typical_total, critical_total}
use Rattle.basics.specs.Order.{no_later, least_by}
use Rattle.allocation.specs.Choice.{choices, fits, pair_numbers, rank}
use Rattle.allocation.specs.means.Selection.{sum_at, best_share, total_with, least_total, offered, shares_at, best_total, selected}
use Rattle.basics.proofs.Members.{flat_map-has, flat_map_from, filter-has, filter_from, none_empty}
use Rattle.basics.proofs.Order.{least_is, least_of_none}
use Rattle.allocation.proofs.Ranks.{pairs_no_later, ranks_no_later, rank_same}
use Rattle.allocation.proofs.Firsts.{least_from_lem, least_to, least_at_most, least-first_at}

-- An offer that says no more than a task's options: each has a typical share of 1 or more and, up to a top, a critical
-- share of at least what the offer says.
pub record Below (top : ℕ) (options : List Share) (offer : ℕ → ℕ) : Type 0 where
  pub positive : (s : Share) → Memᴰ s options → 1 ≤ s.typical
  pub least : (s : Share) → Memᴰ s options → s.typical ≤ top → offer s.typical ≤ s.critical

-- What is asked of a task's offer: each option has a typical share of 1 to M and a critical share within M of at least
-- what the offer says, and what the offer offers within M is an option.
pub record OfferOf (M : ℕ) (options : List Share) (offer : ℕ → ℕ) : Type 0 where
  pub positive : (s : Share) → Memᴰ s options → 1 ≤ s.typical
  pub within : (s : Share) → Memᴰ s options → s.typical ≤ M
  pub small : (s : Share) → Memᴰ s options → s.critical ≤ M
  pub least : (s : Share) → Memᴰ s options → offer s.typical ≤ s.critical
  pub offers : (a : ℕ) → 1 ≤ a → a ≤ 64 → offer a ≤ M → Memᴰ (offered offer a) options

-- An offer for each task.
pub data EachOffer (P : List Share → (ℕ → ℕ) → Type 0) : List (List Share) → List (ℕ → ℕ) → Type 0 where
  no_offer : EachOffer P [] []
  offer_and : {options : List Share} {offer : ℕ → ℕ} {rest : List (List Share)} {offers : List (ℕ → ℕ)} →
      P options offer → EachOffer P rest offers → EachOffer P (options ∷ rest) (offer ∷ offers)

abbrev pub Offers : ℕ → List (List Share) → List (ℕ → ℕ) → Type 0
Offers M = EachOffer (OfferOf M)

all_below_lem : {M : ℕ} {tasks : List (List Share)} {offers : List (ℕ → ℕ)} (top : ℕ) → Offers M tasks offers → EachOffer (Below top) tasks offers
all_below_lem top no_offer = no_offer
all_below_lem top (offer_and r rs) = offer_and (record { positive = r.positive; least = λ s m to. r.least s m }) (all_below_lem top rs)

-- One option of each task.
abbrev pub Takes : List (List Share) → List Share → Type 0
Takes [] [] = Unit
Takes [] (s ∷ choice) = ⊥
Takes (options ∷ rest) [] = ⊥
Takes (options ∷ rest) (s ∷ choice) = Memᴰ s options × Takes rest choice

pub takes_choice : (rest : List (List Share)) (choice : List Share) → Takes rest choice → Memᴰ choice (choices rest)
takes_choice [] [] t = Memᴰ.head refl
takes_choice [] (s ∷ choice) t = absurd t
takes_choice (options ∷ rest) [] t = absurd t
takes_choice (options ∷ rest) (s ∷ choice) (m, t) =
    flat_map-has _ options s (s ∷ choice) m (Memᴰ.map (λ c. s ∷ c) (takes_choice rest choice t))

pub choice_takes : (rest : List (List Share)) (choice : List Share) → Memᴰ choice (choices rest) → Takes rest choice
choice_takes [] [] m = tt
choice_takes [] (s ∷ choice) m =
    let same : s ∷ choice ≡ [] = Memᴰ.eq_of_singleton m in
    absurd (cc)
choice_takes (options ∷ rest) choice m =
    let found = flat_map_from _ options choice m in
    let tail = Memᴰ.of_map (λ c. found.0 ∷ c) (choices rest) found.1.1 in
    subst (Takes (options ∷ rest)) tail.2 (found.1.0, choice_takes rest tail.0 tail.1)

-- One task beside the tasks after it.
module _ (M : ℕ) (offer rest : ℕ → ℕ) (t : ℕ) where
  pub with_none : t ≡ 0 → total_with M offer rest t ≡ M + 1
  unfolding total_with
  with_none e = rw e

  pub with_some : 1 ≤ t → total_with M offer rest t ≡ min (sum_at offer rest t (best_share offer rest t)) (M + 1)
  unfolding total_with
  with_some one = rw (ne_eqb t 0 (λ e. omega arith))

  pub best_from : 1 ≤ best_share offer rest t
  unfolding best_share
  best_from = least_from_lem (sum_at offer rest t) 1 (t - 1)

  pub best_to : 1 ≤ t → best_share offer rest t ≤ t
  unfolding best_share
  best_to one = omega (arith, least_to (sum_at offer rest t) 1 (t - 1))

  best_least : (a : ℕ) → 1 ≤ a → a ≤ t → sum_at offer rest t (best_share offer rest t) ≤ sum_at offer rest t a
  unfolding best_share
  best_least a from to = least_at_most (sum_at offer rest t) 1 (t - 1) a from (omega arith)

  best_first : (a : ℕ) → 1 ≤ a → a ≤ t → sum_at offer rest t a ≤ sum_at offer rest t (best_share offer rest t) → best_share offer rest t ≤ a
  unfolding best_share
  best_first a from to = least-first_at (sum_at offer rest t) 1 (t - 1) a from (omega arith)

  pub with_at_most : (a : ℕ) → 1 ≤ a → a ≤ t → total_with M offer rest t ≤ offer a + rest (t - a)
  unfolding sum_at
  with_at_most a from to =
      rw (with_some (omega arith))
      (omega (arith, min-le_left (sum_at offer rest t (best_share offer rest t)) (M + 1), best_least a from to))

  pub with_positive : total_with M offer rest t ≤ M → 1 ≤ t
  with_positive within = go (dec_le 1 t)
    where
      go : Dec (1 ≤ t) → 1 ≤ t
      go (yes one) = one
      go (no zero_left) = absurd (omega (arith, with_none (omega arith)))

  pub with_bound : total_with M offer rest t ≤ M + 1
  with_bound = go (dec_le 1 t)
    where
      go : Dec (1 ≤ t) → total_with M offer rest t ≤ M + 1
      go (yes one) = rw (with_some one) (min-le_right (sum_at offer rest t (best_share offer rest t)) (M + 1))
      go (no zero_left) = omega (arith, with_none (omega arith))

  pub with_best : total_with M offer rest t ≤ M → total_with M offer rest t ≡ offer (best_share offer rest t) + rest (t - best_share offer rest t)
  unfolding sum_at
  with_best within = go (sum_at offer rest t (best_share offer rest t)) (with_some (with_positive within)) (dec_le (sum_at offer rest t (best_share offer rest t)) (M + 1))
    where
      go : (x : ℕ) → total_with M offer rest t ≡ min x (M + 1) → Dec (x ≤ M + 1) → total_with M offer rest t ≡ x
      go x e (yes h) = e ∙ min-eq_left h
      go x e (no h) =
          let most : M + 1 ≤ x = omega arith in
          absurd (omega (arith, e ∙ min-eq_right most))

  -- A share whose total is as small comes no earlier.
  pub with_first : total_with M offer rest t ≤ M → (a : ℕ) → 1 ≤ a → a ≤ t → offer a + rest (t - a) ≤ total_with M offer rest t →
      best_share offer rest t ≤ a
  unfolding sum_at
  with_first within a from to less = best_first a from to (rw (with_best within) at less)

-- Every choice with a typical total up to the top has at least the least critical total there.
pub total_least : (M : ℕ) {top : ℕ} {tasks : List (List Share)} {offers : List (ℕ → ℕ)} → EachOffer (Below top) tasks offers →
    (choice : List Share) → Takes tasks choice → typical_total choice ≤ top → least_total M offers (typical_total choice) ≤ critical_total choice
unfolding least_total
total_least M no_offer [] t to = omega arith
total_least M no_offer (s ∷ choice) t to = absurd t
total_least M (offer_and r rs) [] t to = absurd t
total_least M (offer_and {offer = offer} {offers = offers} r rs) (s ∷ choice) (m, t) to =
    let left : s.typical + typical_total choice - s.typical ≡ typical_total choice = omega arith in
    let here = with_at_most M offer (least_total M offers) (s.typical + typical_total choice) s.typical (r.positive s m) (omega arith) in
    let here' : total_with M offer (least_total M offers) (s.typical + typical_total choice) ≤ offer s.typical + least_total M offers (typical_total choice) =
    rw left at here in
    omega (arith, r.least s m (omega arith), total_least M rs choice t (omega arith))

-- No least critical total exceeds M + 1.
pub total_bound : (M : ℕ) (offers : List (ℕ → ℕ)) (t : ℕ) → least_total M offers t ≤ M + 1
unfolding least_total
total_bound M [] t = go (eqb t 0)
  where
    go : (e : Bool) → cond e 0 (M + 1) ≤ M + 1
    go true = omega arith
    go false = omega arith
total_bound M (offer ∷ offers) t = with_bound M offer (least_total M offers) t

-- What the selected shares are where the least critical total is within M.
pub record Sound (M : ℕ) (tasks : List (List Share)) (offers : List (ℕ → ℕ)) (t : ℕ) : Type 0 where
  pub takes : Takes tasks (shares_at M offers t)
  pub typical : typical_total (shares_at M offers t) ≡ t
  pub critical : critical_total (shares_at M offers t) ≡ least_total M offers t

pub select_sound : {M : ℕ} {tasks : List (List Share)} {offers : List (ℕ → ℕ)} → Offers M tasks offers → (t : ℕ) → t ≤ 64 →
    least_total M offers t ≤ M → Sound M tasks offers t
unfolding least_total shares_at
select_sound {M} no_offer t to within = go (eqb t 0) refl within
  where
    go : (e : Bool) → eqb t 0 ≡ e → cond e 0 (M + 1) ≤ M → Sound M [] [] t
    go true e h = let z = eqb-true t 0 e in record { takes = tt; typical = sym z; critical = sym (rw e) }
    go false e h = absurd (omega arith)
select_sound {M} (offer_and {offer = offer} {rest = tasks} {offers = offers} r rs) t to within =
    let one = with_positive M offer (least_total M offers) t within in
    let a = best_share offer (least_total M offers) t in
    let a_from : 1 ≤ a = best_from M offer (least_total M offers) t in
    let a_to : a ≤ t = best_to M offer (least_total M offers) t one in
    let sum : total_with M offer (least_total M offers) t ≡ offer a + least_total M offers (t - a) = with_best M offer (least_total M offers) t within in
    let later : Sound M tasks offers (t - a) = select_sound rs (t - a) (omega arith) (omega arith) in
    record {
      takes = (r.offers a a_from (omega arith) (omega arith), later.takes);
      typical = let e = later.typical in omega arith;
      critical = let e = later.critical in omega arith;
    }

-- A rival with the same totals comes no earlier, task by task.
pub select_first : {M : ℕ} {tasks : List (List Share)} {offers : List (ℕ → ℕ)} → Offers M tasks offers → (t : ℕ) → t ≤ 64 →
    least_total M offers t ≤ M → (rival : List Share) → Takes tasks rival → typical_total rival ≡ t →
    critical_total rival ≡ least_total M offers t → no_later (pair_numbers (shares_at M offers t)) (pair_numbers rival) ≡ true
unfolding least_total shares_at
select_first no_offer t to within rival takes typical critical = refl
select_first (offer_and r rs) t to within [] takes typical critical = absurd takes
select_first {M} (offer_and {offer = offer} {rest = tasks} {offers = offers} r rs) t to within (s ∷ rival) (m, takes) typical critical =
    let total = total_with M offer (least_total M offers) t in
    let a = best_share offer (least_total M offers) t in
    let a_to : a ≤ t = best_to M offer (least_total M offers) t (with_positive M offer (least_total M offers) t within) in
    let one : 1 ≤ s.typical = r.positive s m in
    let left : t - s.typical ≡ typical_total rival = omega arith in
    let least : offer s.typical ≤ s.critical = r.least s m in
    let rest_least : least_total M offers (t - s.typical) ≤ critical_total rival = rw left (total_least M (all_below_lem t rs) rival takes (omega arith)) in
    let most : total ≤ offer s.typical + least_total M offers (t - s.typical) =
    with_at_most M offer (least_total M offers) t s.typical one (omega arith) in
    let no_later_lem : a ≤ s.typical = with_first M offer (least_total M offers) t within s.typical one (omega arith) (omega arith) in
    let own : s.critical ≡ offer s.typical = omega arith in
    let rest_own : critical_total rival ≡ least_total M offers (t - s.typical) = omega arith in
    pairs_no_later (offered offer a) s (shares_at M offers (t - a)) rival no_later_lem
    (λ same. ap offer same ∙ sym own)
    (λ same.
    let gone : t - s.typical ≡ t - a = ap (λ (x : ℕ). t - x) (sym same) in
    let rest_same : critical_total rival ≡ least_total M offers (t - a) = rest_own ∙ ap (least_total M offers) gone in
    select_first rs (t - a) (omega arith) (omega arith) rival takes (omega arith) rest_same)

pub best_total_within : (M : ℕ) (offers : List (ℕ → ℕ)) → best_total M offers ≤ M
unfolding best_total
best_total_within M offers = omega (arith, least_to (least_total M offers) 0 M)

module _ {M : ℕ} {tasks : List (List Share)} {offers : List (ℕ → ℕ)} (r : Offers M tasks offers) (few : M ≤ 64) where
  best_total_least : (t : ℕ) → t ≤ M → least_total M offers (best_total M offers) ≤ least_total M offers t
  unfolding best_total
  best_total_least t to = least_at_most (least_total M offers) 0 M t (omega arith) (omega arith)

  best_total_first : (t : ℕ) → t ≤ M → least_total M offers t ≤ least_total M offers (best_total M offers) → best_total M offers ≤ t
  unfolding best_total
  best_total_first t to = least-first_at (least_total M offers) 0 M t (omega arith) (omega arith)

  -- A choice that fits has its totals within M, and at least the least critical total.
  fitting_total : (choice : List Share) → Memᴰ choice (filter (fits M) (choices tasks)) →
      Takes tasks choice × (typical_total choice ≤ M) × (critical_total choice ≤ M)
  unfolding fits
  fitting_total choice m =
      let found = filter_from (fits M) (choices tasks) choice m in (
        choice_takes tasks choice found.0,
        leb-true _ _ (and_parts _ _ found.1).0,
        leb-true _ _ (and_parts (leb (typical_total choice) M) _ found.1).1,
      )

  fitting-least : (choice : List Share) → Memᴰ choice (filter (fits M) (choices tasks)) →
      least_total M offers (best_total M offers) ≤ critical_total choice
  fitting-least choice m =
      let (takes, typical, critical) = fitting_total choice m in
      omega (arith, best_total_least (typical_total choice) typical, total_least M (all_below_lem M r) choice takes typical)

  -- Nothing fits where the least critical total exceeds M.
  select_none : M < least_total M offers (best_total M offers) → filter (fits M) (choices tasks) ≡ []
  select_none past =
      none_empty (filter (fits M) (choices tasks))
      (λ choice m. omega (arith, fitting-least choice m, (fitting_total choice m).2))

  module _ (within : least_total M offers (best_total M offers) ≤ M) where
    select_fits : Memᴰ (shares_at M offers (best_total M offers)) (filter (fits M) (choices tasks))
    unfolding fits
    select_fits =
        let sound = select_sound r (best_total M offers) (omega (arith, best_total_within M offers)) within in
        let typical : typical_total (shares_at M offers (best_total M offers)) ≤ M = rw sound.typical (best_total_within M offers) in
        let critical : critical_total (shares_at M offers (best_total M offers)) ≤ M = rw sound.critical within in
        filter-has (fits M) (choices tasks) (shares_at M offers (best_total M offers)) (takes_choice tasks _ sound.takes)
        (rw (le-leb _ M typical, le-leb _ M critical))

    select_no_later : (rival : List Share) → Memᴰ rival (filter (fits M) (choices tasks)) →
        no_later (rank (shares_at M offers (best_total M offers))) (rank rival) ≡ true
    select_no_later rival m =
        let (takes, typical, critical) = fitting_total rival m in
        let sound = select_sound r (best_total M offers) (omega (arith, best_total_within M offers)) within in
        let least = total_least M (all_below_lem M r) rival takes typical in
        ranks_no_later (shares_at M offers (best_total M offers)) rival
        (omega (arith, sound.critical, fitting-least rival m))
        (λ same.
        let first = best_total_first (typical_total rival) typical (omega (arith, sound.critical)) in
        omega (arith, sound.typical))
        (λ same-critical same_typical.
        select_first r (best_total M offers) (omega (arith, best_total_within M offers)) within rival takes
        (sym same_typical ∙ sound.typical) (sym same-critical ∙ sound.critical))

    select_chosen : least_by rank (filter (fits M) (choices tasks)) ≡ Some (shares_at M offers (best_total M offers))
    select_chosen = least_is rank rank_same _ _ select_fits select_no_later

  -- What the offers select is the least choice that fits.
  pub select_least : least_by rank (filter (fits M) (choices tasks)) ≡ selected M offers
  unfolding selected
  select_least = go (leb (least_total M offers (best_total M offers)) M) refl
    where
      go : (e : Bool) → leb (least_total M offers (best_total M offers)) M ≡ e →
          least_by rank (filter (fits M) (choices tasks)) ≡ cond e (Some (shares_at M offers (best_total M offers))) None
      go true e = select_chosen (leb-true _ M e)
      go false e = ap (least_by rank) (select_none (leb-false _ M e)) ∙ least_of_none rank
