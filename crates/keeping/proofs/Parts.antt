-- Sets of numbers as parts of a list: each number of the list is in or not. Every set that is enumerated is a part and
-- every part is enumerated; a rising list of members of a rising list is a part; what a test keeps is one.
use Prim.Native.Nat.{ℕ, zero, suc, ◌+◌, ◌≤◌, ◌<◌}
use mathlib.Core.Path.{◌≡◌, refl, sym, subst}
use mathlib.Core.Logic.{◌⊎◌, inl, inr}
use mathlib.Core.Bool.{Bool, true, false}
use mathlib.Core.List.Memᴰ
use mathlib.Core.List.{List, [], ◌∷◌, map, Memᴰ}
use native.Mathlib.Omega.{arith}
use lib.ListN.{length, get_or}
use Rattle.std.specs.Prelude.{filter}
use Rattle.basics.specs.Lists.{range, kept_if}
use Rattle.basics.proofs.Members.{range-within}
use Rattle.keeping.specs.Kept.{subsets}

-- A part of a list of numbers.
pub data Part : List ℕ → List ℕ → Type 0 where
  nothing : Part [] []
  taken : {i : ℕ} {numbers set : List ℕ} → Part numbers set → Part (i ∷ numbers) (i ∷ set)
  left : {i : ℕ} {numbers set : List ℕ} → Part numbers set → Part (i ∷ numbers) set

pub part_subset : {numbers set : List ℕ} → Part numbers set → Memᴰ set (subsets numbers)
part_subset nothing = Memᴰ.head refl
part_subset (taken {i} {numbers} {set} p) =
    Memᴰ.append_left (subsets numbers) (Memᴰ.map (λ s. i ∷ s) (part_subset p))
part_subset (left {i} {numbers} {set} p) = Memᴰ.append_right (map (λ s. i ∷ s) (subsets numbers)) (part_subset p)

pub subset_part : (numbers set : List ℕ) → Memᴰ set (subsets numbers) → Part numbers set
subset_part [] set m = subst (Part []) (sym (Memᴰ.eq_of_singleton m)) nothing
subset_part (i ∷ numbers) set m = go (subset_part numbers) (Memᴰ.append_cases (map (λ s. i ∷ s) (subsets numbers)) m)
  where
    go : ((s : List ℕ) → Memᴰ s (subsets numbers) → Part numbers s) →
        Memᴰ set (map (λ s. i ∷ s) (subsets numbers)) ⊎ Memᴰ set (subsets numbers) → Part (i ∷ numbers) set
    go rest (inl with-i) =
        let found = Memᴰ.of_map (λ s. i ∷ s) (subsets numbers) with-i in
        subst (Part (i ∷ numbers)) found.2 (taken (rest found.0 found.1))
    go rest (inr later) = left (rest set later)

pub part_length : {numbers set : List ℕ} → Part numbers set → length set ≤ length numbers
part_length nothing = omega arith
part_length (taken p) = omega (arith, part_length p)
part_length (left p) = omega (arith, part_length p)

pub part_member : {numbers set : List ℕ} → Part numbers set → (i : ℕ) → Memᴰ i set → Memᴰ i numbers
part_member nothing i m = m
part_member (taken {i = j} {numbers} {set} p) i m = go (part_member p i) (Memᴰ.cases_cons m)
  where
    go : (Memᴰ i set → Memᴰ i numbers) → (i ≡ j) ⊎ Memᴰ i set → Memᴰ i (j ∷ numbers)
    go rest (inl same) = Memᴰ.head same
    go rest (inr later) = Memᴰ.tail (rest later)
part_member (left p) i m = Memᴰ.tail (part_member p i m)

-- What a test keeps is a part.
pub filter_part : (test : ℕ → Bool) (numbers : List ℕ) → Part numbers (filter test numbers)
filter_part test [] = nothing
filter_part test (i ∷ numbers) = go (test i) (filter_part test numbers)
  where
    go : (t : Bool) → Part numbers (filter test numbers) → Part (i ∷ numbers) (kept_if t i (filter test numbers))
    go true p = taken p
    go false p = left p

-- A list of numbers of which each is below all behind it.
abbrev pub Rising : List ℕ → Type 0
Rising [] = Unit
Rising (i ∷ numbers) = ((j : ℕ) → Memᴰ j numbers → i < j) × Rising numbers

pub range_rising : (first count : ℕ) → Rising (range first count)
unfolding range
range_rising first zero = tt
range_rising first (suc count) = (λ j m. (range-within (suc first) count j m).0, range_rising (suc first) count)

pub part_rising : {numbers set : List ℕ} → Part numbers set → Rising numbers → Rising set
part_rising nothing r = tt
part_rising (taken p) r = (λ j m. r.0 j (part_member p j m), part_rising p r.1)
part_rising (left p) r = part_rising p r.1

-- A rising list of members is a part.
pub rising_part : (numbers set : List ℕ) → Rising numbers → Rising set → ((i : ℕ) → Memᴰ i set → Memᴰ i numbers) → Part numbers set
rising_part [] [] r s m = nothing
rising_part [] (j ∷ set) r s m = absurd (Memᴰ.not-nil (m j (Memᴰ.head refl)))
rising_part (i ∷ numbers) [] r s m = left (rising_part numbers [] r.1 tt (λ k n. absurd (Memᴰ.not-nil n)))
rising_part (i ∷ numbers) (j ∷ set) r s m =
    go (rising_part numbers set r.1 s.1) (rising_part numbers (j ∷ set) r.1 s) (Memᴰ.cases_cons (m j (Memᴰ.head refl)))
  where
    -- Each number of the set above i is among the rest.
    above : (k : ℕ) → i < k → (k ≡ i) ⊎ Memᴰ k numbers → Memᴰ k numbers
    above k more (inl same) = absurd (omega arith)
    above k more (inr later) = later

    go : (((k : ℕ) → Memᴰ k set → Memᴰ k numbers) → Part numbers set) →
        (((k : ℕ) → Memᴰ k (j ∷ set) → Memᴰ k numbers) → Part numbers (j ∷ set)) →
        (j ≡ i) ⊎ Memᴰ j numbers → Part (i ∷ numbers) (j ∷ set)
    go rest whole (inl same) =
        subst (λ (x : ℕ). Part (i ∷ numbers) (x ∷ set)) (sym same)
        (taken (rest (λ k n. let more = s.0 k n in above k (omega arith) (Memᴰ.cases_cons (m k (Memᴰ.tail n))))))
    go rest whole (inr later) =
        left (whole (λ k n. above k (from k (Memᴰ.cases_cons n)) (Memᴰ.cases_cons (m k n))))
      where
        from : (k : ℕ) → (k ≡ j) ⊎ Memᴰ k set → i < k
        from k (inl same) = let first = r.0 j later in omega arith
        from k (inr n) = let first = r.0 j later in let more = s.0 k n in omega arith

-- Neighbours that rise make a rising list, and the other way round.
pub neighbours_rising : (set : List ℕ) → ((j : ℕ) → j + 1 < length set → get_or set j 0 < get_or set (j + 1) 0) → Rising set
neighbours_rising [] h = tt
neighbours_rising (i ∷ []) h = (λ j m. absurd (Memᴰ.not-nil m), tt)
neighbours_rising (i ∷ k ∷ set) h =
    let rest =
    neighbours_rising (k ∷ set)
    (λ j inside. let e : suc j + 1 ≡ suc (j + 1) = omega arith in rw e at (h (suc j) (omega arith))) in
    (λ j m. above rest j (Memᴰ.cases_cons m), rest)
  where
    above : Rising (k ∷ set) → (j : ℕ) → (j ≡ k) ⊎ Memᴰ j set → i < j
    above rest j (inl same) = let first = h 0 (omega arith) in omega arith
    above rest j (inr later) = let first = h 0 (omega arith) in let more = rest.0 j later in omega arith

pub rising_neighbours : (set : List ℕ) → Rising set → (j : ℕ) → j + 1 < length set → get_or set j 0 < get_or set (j + 1) 0
rising_neighbours [] r j inside = absurd (omega arith)
rising_neighbours (i ∷ []) r j inside = absurd (omega arith)
rising_neighbours (i ∷ k ∷ set) r zero inside = r.0 k (Memᴰ.head refl)
rising_neighbours (i ∷ k ∷ set) r (suc j) inside =
    let e : suc j + 1 ≡ suc (j + 1) = omega arith in
    rw e (rising_neighbours (k ∷ set) r.1 j (omega arith))
