-- Keeping the least shares first is right. The tasks are split by a share and a number: those up to it are in, those
-- beyond it are out. Against any other set each task that is in alone takes no more than that share, and each that is
-- out alone no less, so that the split comes no later in the order of the sets than any set that can be held.
use Prim.Native.Nat.{ℕ, zero, suc, ◌+◌, ◌-◌, ◌≤◌, ◌<◌}
use mathlib.Core.Path.{◌≡◌, refl, sym, ap, subst}
use mathlib.Core.Logic.{◌⊎◌, inl, inr}
use mathlib.Core.Bool.{Bool, true, false}
use mathlib.Core.List.{List, [], ◌∷◌, Memᴰ}
use native.Mathlib.Omega.{arith}
use native.Mathlib.Decide.{dec_le}
use lib.Dec.{leb}
use lib.ListN.{length}
use borrow.Author.Tests.{leb-true, le-leb}
use Rattle.std.specs.Prelude.{filter, Option, unwrap_or}
use Rattle.basics.specs.Lists.{kept_if}
use Rattle.basics.proofs.Members.{filter-has, filter_from}
use Rattle.basics.specs.Order.{no_later}
use Rattle.keeping.specs.Kept.{subsets, processors_for, holdable, kept_rank, first_held}
use Rattle.basics.proofs.Order.{no_later_if, least_is}
use Rattle.keeping.proofs.Parts.{Part, nothing, taken, left, part_subset, subset_part, part_length, part_member, filter_part, Rising}

-- As many processors for each task.
abbrev even : ℕ → ℕ → ℕ
even width i = width

even_same : (width : ℕ) (a b : List ℕ) → length a ≡ length b → processors_for (even width) a ≡ processors_for (even width) b
even_same width [] [] e = refl
even_same width [] (j ∷ b) e = absurd (omega arith)
even_same width (i ∷ a) [] e = absurd (omega arith)
even_same width (i ∷ a) (j ∷ b) e = ap (λ (x : ℕ). width + x) (even_same width a b (omega arith))

-- One task more takes as many more.
even_more : (width : ℕ) (a b : List ℕ) → length a < length b → processors_for (even width) a + width ≤ processors_for (even width) b
even_more width a [] e = absurd (omega arith)
even_more width [] (j ∷ b) e = omega arith
even_more width (i ∷ a) (j ∷ b) e = omega (arith, even_more width a b (omega arith))

module _ (share : ℕ → ℕ) (test : ℕ → Bool) where
  -- A width between the tasks that are in and those that are out.
  record Between (width : ℕ) (numbers : List ℕ) : Type 0 where
    pub inside : (i : ℕ) → Memᴰ i numbers → test i ≡ true → share i ≤ width
    pub outside : (i : ℕ) → Memᴰ i numbers → test i ≡ false → width ≤ share i

  between_rest : {width i : ℕ} {numbers : List ℕ} → Between width (i ∷ numbers) → Between width numbers
  between_rest b = record { inside = λ j m. b.inside j (Memᴰ.tail m); outside = λ j m. b.outside j (Memᴰ.tail m) }

  -- What the tasks that are in take, against those of another set.
  exchange : (width : ℕ) {numbers set : List ℕ} → Part numbers set → Between width numbers →
      processors_for share (filter test numbers) + processors_for (even width) set
      ≤ processors_for share set + processors_for (even width) (filter test numbers)
  exchange width nothing b = omega arith
  exchange width (taken {i} {numbers} {set} p) b = go (test i) refl (exchange width p (between_rest b))
    where
      go : (t : Bool) → test i ≡ t →
          processors_for share (filter test numbers) + processors_for (even width) set
          ≤ processors_for share set + processors_for (even width) (filter test numbers) →
          processors_for share (kept_if t i (filter test numbers)) + processors_for (even width) (i ∷ set)
          ≤ processors_for share (i ∷ set) + processors_for (even width) (kept_if t i (filter test numbers))
      go true e rest = omega arith
      go false e rest = let more = b.outside i (Memᴰ.head refl) e in omega arith
  exchange width (left {i} {numbers} {set} p) b = go (test i) refl (exchange width p (between_rest b))
    where
      go : (t : Bool) → test i ≡ t →
          processors_for share (filter test numbers) + processors_for (even width) set
          ≤ processors_for share set + processors_for (even width) (filter test numbers) →
          processors_for share (kept_if t i (filter test numbers)) + processors_for (even width) set
          ≤ processors_for share set + processors_for (even width) (kept_if t i (filter test numbers))
      go true e rest = let less = b.inside i (Memᴰ.head refl) e in omega arith
      go false e rest = rest

  -- The tasks up to a share and a number are in, those beyond them out.
  pub record Split (numbers : List ℕ) : Type 0 where
    pub width : ℕ
    pub last : ℕ
    pub inside : (i : ℕ) → Memᴰ i numbers → test i ≡ true → (share i < width) ⊎ ((share i ≡ width) × (i ≤ last))
    pub outside : (i : ℕ) → Memᴰ i numbers → test i ≡ false → (width < share i) ⊎ ((share i ≡ width) × (last < i))

  module _ {numbers : List ℕ} (split : Split numbers) where
    at_most : {i : ℕ} → (share i < split.width) ⊎ ((share i ≡ split.width) × (i ≤ split.last)) → share i ≤ split.width
    at_most (inl less) = omega arith
    at_most (inr (same, _)) = omega arith

    at_least : {i : ℕ} → (split.width < share i) ⊎ ((share i ≡ split.width) × (split.last < i)) → split.width ≤ share i
    at_least (inl more) = omega arith
    at_least (inr (same, _)) = omega arith

    split_between : Between split.width numbers
    split_between = record { inside = λ i m e. at_most (split.inside i m e); outside = λ i m e. at_least (split.outside i m e) }

    abbrev split_rest : {i : ℕ} {rest : List ℕ} → numbers ≡ i ∷ rest → Split rest
    split_rest same =
        record {
          width = split.width;
          last = split.last;
          inside = λ j m. split.inside j (subst (Memᴰ j) (sym same) (Memᴰ.tail m));
          outside = λ j m. split.outside j (subst (Memᴰ j) (sym same) (Memᴰ.tail m));
        }

    -- As many tasks take no fewer processors.
    pub fewest : (set : List ℕ) → Part numbers set → length set ≡ length (filter test numbers) →
        processors_for share (filter test numbers) ≤ processors_for share set
    fewest set p same = omega (arith, exchange split.width p split_between, even_same split.width set (filter test numbers) same)

    -- Where each task that is out takes more than what is left, a larger set takes more than all.
    pub too_many : (rest : ℕ) → ((i : ℕ) → Memᴰ i numbers → test i ≡ false → rest < share i) →
        (set : List ℕ) → Part numbers set → length (filter test numbers) < length set →
        processors_for share (filter test numbers) + rest < processors_for share set
    too_many rest none set p more = go (dec_le split.width rest)
      where
        by : (width : ℕ) → rest < width → Between width numbers → processors_for share (filter test numbers) + rest < processors_for share set
        by width past b = omega (arith, exchange width p b, even_more width (filter test numbers) set more)

        go : Dec (split.width ≤ rest) → processors_for share (filter test numbers) + rest < processors_for share set
        go (yes h) =
            by (suc rest) (omega arith)
            (record { inside = λ i m e. omega (arith, split_between.inside i m e); outside = λ i m e. none i m e })
        go (no h) = by split.width (omega arith) split_between

  -- With as many tasks and as many processors the list of the split comes first: at the first difference the task is
  -- in, since one that is out would take as much as the split's last, and all behind it that are in less.
  in_order : {numbers set : List ℕ} → Part numbers set → Rising numbers → Split numbers →
      length set ≡ length (filter test numbers) → processors_for share set ≡ processors_for share (filter test numbers) →
      no_later (filter test numbers) set ≡ true
  in_order nothing rising split same total = refl
  in_order (taken {i} {numbers} {set} p) rising split same total =
      go (test i) refl same total (in_order p rising.1 (split_rest split refl))
    where
      go : (t : Bool) → test i ≡ t → length (i ∷ set) ≡ length (kept_if t i (filter test numbers)) →
          processors_for share (i ∷ set) ≡ processors_for share (kept_if t i (filter test numbers)) →
          (length set ≡ length (filter test numbers) → processors_for share set ≡ processors_for share (filter test numbers) →
          no_later (filter test numbers) set ≡ true) →
          no_later (kept_if t i (filter test numbers)) (i ∷ set) ≡ true
      go true e same' total' rest = no_later_if i i (filter test numbers) set (omega arith) (λ _. rest (omega arith) (omega arith))
      go false e same' total' rest = absurd (impossible (split.outside i (Memᴰ.head refl) e))
        where
          -- The tasks behind i that are in.
          behind : List ℕ
          behind = filter test numbers

          impossible : (split.width < share i) ⊎ ((share i ≡ split.width) × (split.last < i)) → ⊥
          impossible (inl more) =
              omega (
                arith,
                exchange split.width p (split_between (split_rest split refl)),
                even_same split.width (i ∷ set) behind same',
                total',
              )
          impossible (inr (equal, late)) = by_width split.width refl
            where
              less : (j : ℕ) → Memᴰ j numbers → test j ≡ true → share j < split.width
              less j m q = either (split.inside j (Memᴰ.tail m) q)
                where
                  either : (share j < split.width) ⊎ ((share j ≡ split.width) × (j ≤ split.last)) → share j < split.width
                  either (inl h) = h
                  either (inr (_, h)) = absurd (omega (arith, rising.0 j m))

              by_width : (w : ℕ) → split.width ≡ w → ⊥
              by_width zero none = first (filter test numbers) refl
                where
                  first : (l : List ℕ) → filter test numbers ≡ l → ⊥
                  first [] q = omega (arith, same', ap length q)
                  first (j ∷ l) q =
                      let found = filter_from test numbers j (subst (Memᴰ j) (sym q) (Memᴰ.head refl)) in
                      omega (arith, less j found.0 found.1)
              by_width (suc w) some =
                  omega (
                    arith,
                    exchange w p
                        (record {
                          inside = λ j m q. omega (arith, less j m q);
                          outside = λ j m q. omega (arith, (split_between split).outside j (Memᴰ.tail m) q);
                        }),
                    even_same w (i ∷ set) behind same',
                    total',
                  )
  in_order (left {i} {numbers} {set} p) rising split same total =
      go (test i) refl same total (in_order p rising.1 (split_rest split refl))
    where
      ahead : (s : List ℕ) → ((j : ℕ) → Memᴰ j s → i < j) → (rest : List ℕ) → length s ≡ suc (length rest) → no_later (i ∷ rest) s ≡ true
      ahead [] above rest long = absurd (omega arith)
      ahead (j ∷ s) above rest long =
          let more = above j (Memᴰ.head refl) in
          no_later_if i j rest s (omega arith) (λ equal. absurd (omega arith))

      go : (t : Bool) → test i ≡ t → length set ≡ length (kept_if t i (filter test numbers)) →
          processors_for share set ≡ processors_for share (kept_if t i (filter test numbers)) →
          (length set ≡ length (filter test numbers) → processors_for share set ≡ processors_for share (filter test numbers) →
          no_later (filter test numbers) set ≡ true) →
          no_later (kept_if t i (filter test numbers)) set ≡ true
      go true e same' total' rest = ahead set (λ j m. rising.0 j (part_member p j m)) (filter test numbers) same'
      go false e same' total' rest = rest same' total'

  -- So it is the first of the sets that can be held.
  module _ (numbers : List ℕ) (rising : Rising numbers) (split : Split numbers) (room rest : ℕ)
      (sum : processors_for share (filter test numbers) + rest ≡ room)
      (full : (i : ℕ) → Memᴰ i numbers → test i ≡ false → rest < share i) where
    split_held : Memᴰ (filter test numbers) (holdable share room numbers)
    unfolding holdable
    split_held =
        filter-has _ (subsets numbers) (filter test numbers) (part_subset (filter_part test numbers))
        (le-leb (processors_for share (filter test numbers)) room (omega arith))

    split_first : (set : List ℕ) → Memᴰ set (holdable share room numbers) →
        no_later (kept_rank share numbers (filter test numbers)) (kept_rank share numbers set) ≡ true
    unfolding holdable
    split_first set m =
        no_later_if (length numbers - length (filter test numbers)) (length numbers - length set)
        (processors_for share (filter test numbers) ∷ filter test numbers) (processors_for share set ∷ set) (omega (arith, as_many))
        (λ equal.
        let same : length set ≡ length (filter test numbers) = omega (arith, equal, as_many, part_length part, part_length (filter_part test numbers)) in
        no_later_if (processors_for share (filter test numbers)) (processors_for share set) (filter test numbers) set (fewest split set part same)
        (λ total. in_order part rising split same (sym total)))
      where
        found : Memᴰ set (subsets numbers) × (leb (processors_for share set) room ≡ true)
        found = filter_from _ (subsets numbers) set m

        part : Part numbers set
        part = subset_part numbers set found.0

        as_many : length set ≤ length (filter test numbers)
        as_many = go (dec_le (length set) (length (filter test numbers)))
          where
            go : Dec (length set ≤ length (filter test numbers)) → length set ≤ length (filter test numbers)
            go (yes h) = h
            go (no h) =
                absurd (omega (arith, too_many split rest full set part (omega arith), leb-true (processors_for share set) room found.1))

    pub first_held_lem : first_held share room numbers ≡ filter test numbers
    unfolding first_held
    first_held_lem =
        ap (λ (o : Option (List ℕ)). unwrap_or o [])
        (least_is (kept_rank share numbers) (λ c d e. cc) (holdable share room numbers) (filter test numbers) split_held split_first)
