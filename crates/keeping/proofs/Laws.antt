-- S5.6 for a reader: the kept set in plain words, and what becomes of the shares; and so what holds of the shares that
-- the tasks of a set get.
use Prim.Native.Nat.{ℕ, zero, suc, ◌+◌, ◌-◌, ◌≤◌, ◌<◌}
use mathlib.Core.Path.{◌≡◌, refl, sym, ap, ◌∙◌, subst}
use mathlib.Core.Logic.{◌⊎◌, inl, inr}
use mathlib.Core.Bool.{Bool, true, false, cond}
use mathlib.Core.List.Memᴰ
use mathlib.Core.List.{List, [], ◌∷◌, Memᴰ}
use Rattle.std.specs.Prelude.{Option, None, Some, unwrap_or}
use native.Mathlib.Omega.{arith}
use native.Mathlib.Decide.{dec_lt}
use lib.ListN.{length, get_or, take, length-map, get_or-eq_default}
use lib.Seq.{take-length}
use borrow.Author.Tests.{leb-true, le-leb}
use Rattle.std.specs.Cmp.{both_ways}
use Rattle.std.proofs.lemmas.Bool.{false_from_ne_true}
use Rattle.basics.specs.Lists.{range, is_in}
use Rattle.basics.proofs.Lists.{length-range, get_or-map_range}
use Rattle.basics.proofs.Members.{range-has, range-within, filter-has, filter_from, is_in_lem, in_is}
use Rattle.sheet.specs.declared.task.Task.{Task}
use Rattle.sheet.specs.Format.{missing_task}
use Rattle.sheet.specs.Level.{is_low}
use Rattle.shares.specs.declared.share.Share.{Share}
use Rattle.shares.specs.Totals.{no_processors, share_at, share_in, share_total, typical_total, critical_total}
use Rattle.shares.proofs.Totals.{total_same}
use Rattle.basics.specs.Order.{no_later, least_by}
use Rattle.keeping.specs.Kept.{low_numbers, subsets, processors_for, holdable, kept_rank, first_held, typical_share_at, left_over, kept_tasks, kept_share, with_kept}
use Rattle.keeping.specs.KeptSet.{LowSet, HeldSet, BestKept, KeptShares}
use Rattle.basics.proofs.Order.{no_later_then, least_member, least_first, least_none}
use Rattle.keeping.proofs.Parts.{Part, nothing, taken, left, part_subset, subset_part, part_length, part_member, part_rising, filter_part, Rising, range_rising, rising_part, neighbours_rising, rising_neighbours}

-- The first of the sets that can be held is one of them, and comes no later than any.
module _ (share : ℕ → ℕ) (room : ℕ) (numbers : List ℕ) where
  none_held_lem : Memᴰ [] (holdable share room numbers)
  unfolding holdable
  none_held_lem = filter-has _ (subsets numbers) [] (empty numbers) (le-leb 0 room (omega arith))
    where
      empty : (l : List ℕ) → Memᴰ [] (subsets l)
      empty l = part_subset (skip l)
        where
          skip : (l : List ℕ) → Part l []
          skip [] = nothing
          skip (i ∷ l) = left (skip l)

  found_held : Memᴰ (first_held share room numbers) (holdable share room numbers)
      × ((set : List ℕ) → Memᴰ set (holdable share room numbers) →
      no_later (kept_rank share numbers (first_held share room numbers)) (kept_rank share numbers set) ≡ true)
  unfolding first_held
  found_held = go (least_by (kept_rank share numbers) (holdable share room numbers)) refl
    where
      go : (o : Option (List ℕ)) → least_by (kept_rank share numbers) (holdable share room numbers) ≡ o →
          Memᴰ (unwrap_or o []) (holdable share room numbers)
          × ((set : List ℕ) → Memᴰ set (holdable share room numbers) →
          no_later (kept_rank share numbers (unwrap_or o [])) (kept_rank share numbers set) ≡ true)
      go None e =
          absurd (Memᴰ.not-nil
          (subst (Memᴰ []) (least_none (kept_rank share numbers) (holdable share room numbers) e) none_held_lem))
      go (Some set) e = (
        least_member (kept_rank share numbers) (holdable share room numbers) set e,
        λ other m. least_first (kept_rank share numbers) (holdable share room numbers) set other e m,
      )

  holdable_from : (set : List ℕ) → Memᴰ set (holdable share room numbers) → Part numbers set × (processors_for share set ≤ room)
  unfolding holdable
  holdable_from set m =
      let found = filter_from _ (subsets numbers) set m in
      (subset_part numbers set found.0, leb-true (processors_for share set) room found.1)

  holdable-has : (set : List ℕ) → Part numbers set → processors_for share set ≤ room → Memᴰ set (holdable share room numbers)
  unfolding holdable
  holdable-has set p few = filter-has _ (subsets numbers) set (part_subset p) (le-leb (processors_for share set) room few)

  pub first_part : Part numbers (first_held share room numbers)
  first_part = (holdable_from (first_held share room numbers) found_held.0).0

  pub first_fits : processors_for share (first_held share room numbers) ≤ room
  first_fits = (holdable_from (first_held share room numbers) found_held.0).1

  -- Where the first held set stands to a part that can be held as well: by the processors and the list, and by all.
  abbrev ByProcessors : List ℕ → Type 0
  ByProcessors set =
      (processors_for share (first_held share room numbers) < processors_for share set)
      ⊎ ((processors_for share (first_held share room numbers) ≡ processors_for share set) × (no_later (first_held share room numbers) set ≡ true))

  abbrev ByTasks : List ℕ → Type 0
  ByTasks set =
      (length numbers - length (first_held share room numbers) < length numbers - length set)
      ⊎ ((length numbers - length (first_held share room numbers) ≡ length numbers - length set)
      × (no_later (processors_for share (first_held share room numbers) ∷ first_held share room numbers) (processors_for share set ∷ set) ≡ true))

  module _ (set : List ℕ) (p : Part numbers set) (few : processors_for share set ≤ room) where
    by_tasks : ByTasks set
    by_tasks =
        no_later_then (length numbers - length (first_held share room numbers)) (length numbers - length set)
        (processors_for share (first_held share room numbers) ∷ first_held share room numbers) (processors_for share set ∷ set)
        (found_held.1 set (holdable-has set p few))

    pub first_most : length set ≤ length (first_held share room numbers)
    first_most = go by_tasks
      where
        go : ByTasks set → length set ≤ length (first_held share room numbers)
        go (inl less) = omega (arith, part_length p, part_length first_part)
        go (inr (same, _)) = omega (arith, part_length p, part_length first_part)

    module _ (same : length set ≡ length (first_held share room numbers)) where
      by_processors : ByProcessors set
      by_processors = go by_tasks
        where
          go : ByTasks set → ByProcessors set
          go (inl less) = absurd (omega arith)
          go (inr (_, rest)) =
              no_later_then (processors_for share (first_held share room numbers)) (processors_for share set) (first_held share room numbers) set rest

      pub first_fewest : processors_for share (first_held share room numbers) ≤ processors_for share set
      first_fewest = go by_processors
        where
          go : ByProcessors set → processors_for share (first_held share room numbers) ≤ processors_for share set
          go (inl less) = omega arith
          go (inr (equal, _)) = omega arith

      pub first_list : processors_for share set ≡ processors_for share (first_held share room numbers) → no_later (first_held share room numbers) set ≡ true
      first_list total = go by_processors
        where
          go : ByProcessors set → no_later (first_held share room numbers) set ≡ true
          go (inl less) = absurd (omega arith)
          go (inr (_, rest)) = rest

-- The low tasks, and sets of them.
module _ (tasks : List Task) where
  pub low_rising : Rising (low_numbers tasks)
  unfolding low_numbers
  low_rising = part_rising (filter_part _ (range 0 (length tasks))) (range_rising 0 (length tasks))

  pub low_known : (i : ℕ) → Memᴰ i (low_numbers tasks) → (i < length tasks) × (is_low (get_or tasks i missing_task).level ≡ true)
  unfolding low_numbers
  low_known i m =
      let found = filter_from _ (range 0 (length tasks)) i m in
      (omega (arith, (range-within 0 (length tasks) i found.0).1), found.1)

  low_has : (i : ℕ) → i < length tasks → is_low (get_or tasks i missing_task).level ≡ true → Memᴰ i (low_numbers tasks)
  unfolding low_numbers
  low_has i inside low = filter-has _ (range 0 (length tasks)) i (range-has 0 (length tasks) i (omega arith) (omega arith)) low

  part_low : (set : List ℕ) → Part (low_numbers tasks) set → LowSet tasks set
  part_low set p =
      record {
        rising = rising_neighbours set (part_rising p low_rising);
        known = λ i m. (low_known i (part_member p i m)).0;
        low = λ i m. (low_known i (part_member p i m)).1;
      }

  low_part : (set : List ℕ) → LowSet tasks set → Part (low_numbers tasks) set
  low_part set lows =
      rising_part (low_numbers tasks) set low_rising (neighbours_rising set lows.rising) (λ i m. low_has i (lows.known i m) (lows.low i m))

-- S5.6: the kept set, where the choice fits.
pub kept_best : (M : ℕ) (tasks : List Task) (choice : List Share) → critical_total choice ≤ M → BestKept M tasks choice (kept_tasks M tasks choice)
unfolding kept_tasks left_over
kept_best M tasks choice fits =
    record {
      held =
          record {
            lows = part_low tasks _ (first_part share room (low_numbers tasks));
            fits = omega (arith, first_fits share room (low_numbers tasks));
          };
      most = λ set held. first_most share room (low_numbers tasks) set (low_part tasks set held.lows) (few set held);
      fewest = λ set held same. first_fewest share room (low_numbers tasks) set (low_part tasks set held.lows) (few set held) same;
      first = λ set held same total. first_list share room (low_numbers tasks) set (low_part tasks set held.lows) (few set held) same total;
    }
  where
    share : ℕ → ℕ
    share = typical_share_at choice

    room : ℕ
    room = left_over M choice

    few : (set : List ℕ) → HeldSet M tasks choice set → processors_for share set ≤ room
    few set held = let fit = held.fits in omega arith

-- Shares with those of the kept tasks, one by one: the share of task i, where it may be kept.
abbrev pub share_if : Bool → Share → Share
share_if kept s = cond kept (kept_share s) s

module _ (kept : List ℕ) (choice : List Share) where
  pub with_length : length (with_kept kept choice) ≡ length choice
  unfolding with_kept
  with_length = length-map (range 0 (length choice)) _ ∙ length-range 0 (length choice)

  pub with_share_lem : (i : ℕ) → share_at (with_kept kept choice) i ≡ cond (is_in i kept) (kept_share (share_at choice i)) (share_at choice i)
  unfolding with_kept share_at kept_share
  with_share_lem i = go (dec_lt i (length choice))
    where
      none_there : (t : Bool) → no_processors ≡ share_if t no_processors
      none_there true = refl
      none_there false = refl

      go : Dec (i < length choice) →
          get_or (with_kept kept choice) i no_processors ≡ cond (is_in i kept) (kept_share (get_or choice i no_processors)) (get_or choice i no_processors)
      go (yes inside) =
          let e : 0 + i ≡ i = omega arith in
          get_or-map_range (λ j. cond (is_in j kept) (kept_share (get_or choice j no_processors)) (get_or choice j no_processors)) 0 (length choice) i no_processors inside
          ∙ ap (λ (j : ℕ). cond (is_in j kept) (kept_share (get_or choice j no_processors)) (get_or choice j no_processors)) e
      go (no past) =
          get_or-eq_default (with_kept kept choice) no_processors (omega (arith, with_length))
          ∙ none_there (is_in i kept)
          ∙ ap (share_if (is_in i kept)) (sym (get_or-eq_default choice no_processors (omega arith)))

  pub with_typical : (i : ℕ) → (share_at (with_kept kept choice) i).typical ≡ (share_at choice i).typical
  unfolding kept_share
  with_typical i = ap (λ (s : Share). s.typical) (with_share_lem i) ∙ go (is_in i kept)
    where
      go : (t : Bool) → (share_if t (share_at choice i)).typical ≡ (share_at choice i).typical
      go true = refl
      go false = refl

-- Sums over numbers.
sum_ext : (f g : ℕ → ℕ) (numbers : List ℕ) → ((i : ℕ) → Memᴰ i numbers → f i ≡ g i) → processors_for f numbers ≡ processors_for g numbers
sum_ext f g [] same = refl
sum_ext f g (i ∷ numbers) same =
    rw (same i (Memᴰ.head refl), sum_ext f g numbers (λ j m. same j (Memᴰ.tail m)))

sum_next : (f : ℕ → ℕ) (first count : ℕ) → processors_for f (range (suc first) count) ≡ processors_for (λ i. f (suc i)) (range first count)
unfolding range
sum_next f first zero = refl
sum_next f first (suc count) = ap (λ (x : ℕ). f (suc first) + x) (sum_next f (suc first) count)

total_sum : (mode : Bool) (shares : List Share) → share_total mode shares ≡ processors_for (λ i. share_in mode (share_at shares i)) (range 0 (length shares))
unfolding range share_at
total_sum mode [] = refl
total_sum mode (s ∷ shares) =
    ap (λ (x : ℕ). share_in mode s + x)
    (total_sum mode shares ∙ sym (sum_next (λ i. share_in mode (get_or (s ∷ shares) i no_processors)) 0 (length shares)))

-- What a set adds to a sum, where its members had nothing before.
module _ (typical critical : ℕ → ℕ) (test : ℕ → Bool) where
  set_sum : {numbers set : List ℕ} → Part numbers set → Rising numbers → ((j : ℕ) → Memᴰ j numbers → test j ≡ is_in j set) →
      ((j : ℕ) → Memᴰ j set → critical j ≡ 0) →
      processors_for (λ j. cond (test j) (typical j) (critical j)) numbers ≡ processors_for critical numbers + processors_for typical set
  set_sum nothing rising same zero_before = refl
  set_sum (taken {i} {numbers} {set} p) rising same zero_before =
      omega (
        arith,
        ap {B = ℕ} (λ (t : Bool). cond t (typical i) (critical i)) (same i (Memᴰ.head refl) ∙ in_is i (i ∷ set) (Memᴰ.head refl)),
        zero_before i (Memᴰ.head refl),
        set_sum p rising.1 (λ j m. same j (Memᴰ.tail m) ∙ behind j m) (λ j m. zero_before j (Memᴰ.tail m)),
      )
    where
      behind : (j : ℕ) → Memᴰ j numbers → is_in j (i ∷ set) ≡ is_in j set
      behind j m =
          both_ways (is_in j (i ∷ set)) (is_in j set) (λ e. go (Memᴰ.cases_cons (is_in_lem j (i ∷ set) e)))
          (λ e. in_is j (i ∷ set) (Memᴰ.tail (is_in_lem j set e)))
        where
          go : (j ≡ i) ⊎ Memᴰ j set → is_in j set ≡ true
          go (inl equal) = absurd (omega (arith, rising.0 j m))
          go (inr later) = in_is j set later
  set_sum (left {i} {numbers} {set} p) rising same zero_before =
      omega (
        arith,
        ap {B = ℕ} (λ (t : Bool). cond t (typical i) (critical i)) (same i (Memᴰ.head refl) ∙ out),
        set_sum p rising.1 (λ j m. same j (Memᴰ.tail m)) zero_before,
      )
    where
      out : is_in i set ≡ false
      out = false_from_ne_true _ (λ e. omega (arith, rising.0 i (part_member p i (is_in_lem i set e))))

-- The totals with the kept tasks' shares.
module _ (kept : List ℕ) (choice : List Share) where
  pub with_typical_total : typical_total (with_kept kept choice) ≡ typical_total choice
  with_typical_total =
      ap typical_total (sym (take-length (with_kept kept choice)))
      ∙ total_same false (with_kept kept choice) choice (with_length kept choice) (with_typical kept choice) (length (with_kept kept choice))
      ∙ ap (λ (n : ℕ). typical_total (take n choice)) (with_length kept choice)
      ∙ ap typical_total (take-length choice)

  pub with_critical_total : Part (range 0 (length choice)) kept → ((j : ℕ) → Memᴰ j kept → (share_at choice j).critical ≡ 0) →
      critical_total (with_kept kept choice) ≡ critical_total choice + processors_for (typical_share_at choice) kept
  unfolding typical_share_at kept_share
  with_critical_total p zero_before =
      total_sum true (with_kept kept choice)
      ∙ ap (λ (n : ℕ). processors_for (λ i. (share_at (with_kept kept choice) i).critical) (range 0 n)) (with_length kept choice)
      ∙ sum_ext _ (λ j. cond (is_in j kept) (share_at choice j).typical (share_at choice j).critical) (range 0 (length choice)) (λ i m. at i)
      ∙ set_sum (λ j. (share_at choice j).typical) (λ j. (share_at choice j).critical) (λ j. is_in j kept) p (range_rising 0 (length choice)) (λ j m. refl) zero_before
      ∙ ap (λ (x : ℕ). x + processors_for (λ j. (share_at choice j).typical) kept) (sym (total_sum true choice))
    where
      at : (i : ℕ) → (share_at (with_kept kept choice) i).critical ≡ cond (is_in i kept) (share_at choice i).typical (share_at choice i).critical
      at i = ap (λ (s : Share). s.critical) (with_share_lem kept choice i) ∙ go (is_in i kept)
        where
          go : (t : Bool) → (share_if t (share_at choice i)).critical ≡ cond t (share_at choice i).typical (share_at choice i).critical
          go true = refl
          go false = refl

-- S5.6: the shares, where each low task of the choice has the critical share 0.
module _ (M : ℕ) (tasks : List Task) (choice : List Share) (each : length choice ≡ length tasks)
    (zero_before : (i : ℕ) → i < length tasks → is_low (get_or tasks i missing_task).level ≡ true → (share_at choice i).critical ≡ 0) where
  kept_part : Part (low_numbers tasks) (kept_tasks M tasks choice)
  unfolding kept_tasks
  kept_part = first_part (typical_share_at choice) (left_over M choice) (low_numbers tasks)

  pub kept_low : (i : ℕ) → Memᴰ i (kept_tasks M tasks choice) → (i < length tasks) × (is_low (get_or tasks i missing_task).level ≡ true)
  kept_low i m = low_known tasks i (part_member kept_part i m)

  kept_range : Part (range 0 (length choice)) (kept_tasks M tasks choice)
  kept_range =
      rising_part (range 0 (length choice)) (kept_tasks M tasks choice) (range_rising 0 (length choice)) (part_rising kept_part (low_rising tasks))
      (λ i m. range-has 0 (length choice) i (omega arith) (omega (arith, (kept_low i m).0)))

  pub kept_shares : KeptShares choice (kept_tasks M tasks choice) (with_kept (kept_tasks M tasks choice) choice)
  kept_shares =
      record {
        each = with_length (kept_tasks M tasks choice) choice;
        stays = λ i m. with_share_lem (kept_tasks M tasks choice) choice i ∙ ap (λ (t : Bool). share_if t (share_at choice i)) (in_is i (kept_tasks M tasks choice) m);
        others = λ i out. with_share_lem (kept_tasks M tasks choice) choice i ∙ left_out i out (is_in i (kept_tasks M tasks choice)) refl;
        total = with_critical_total (kept_tasks M tasks choice) choice kept_range (λ j m. let low = kept_low j m in zero_before j low.0 low.1);
      }
    where
      left_out : (i : ℕ) → (Memᴰ i (kept_tasks M tasks choice) → ⊥) → (t : Bool) → is_in i (kept_tasks M tasks choice) ≡ t →
          share_if t (share_at choice i) ≡ share_at choice i
      left_out i out true e = absurd (out (is_in_lem i (kept_tasks M tasks choice) e))
      left_out i out false e = refl
