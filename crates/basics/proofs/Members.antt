-- What the members of an enumerated list are, by induction on the list.
use Prim.Native.Nat.{ℕ, zero, suc, ◌+◌, ◌≤◌, ◌<◌}
use mathlib.Core.Path.{◌≡◌, refl, sym, ap, ◌∙◌, subst}
use mathlib.Core.Logic.{◌⊎◌, inl, inr, ◌≢◌}
use mathlib.Core.Bool.{Bool, true, false, cond, ◌&&◌, ◌||◌, false≢true}
use mathlib.Core.List.Memᴰ
use mathlib.Core.List.{List, [], ◌∷◌, ◌++◌, Memᴰ}
use Rattle.std.specs.List.{list_all}
use Rattle.std.specs.Prelude.{None, Some, filter, flat_map, find}
use native.Mathlib.Omega.{arith}
use lib.Arith.{lt_of_le-ne}
use lib.Dec.{eqb}
use lib.ListN.{length, get_or}
use borrow.Author.Tests.{eqb-true, eqb-false, eq-eqb}
use Rattle.basics.specs.Lists.{range, kept_if, is_empty, is_in, greatest}

-- The numbers of a range.
pub range-has : (first count x : ℕ) → first ≤ x → x < first + count → Memᴰ x (range first count)
unfolding range
range-has first zero x from below = absurd (omega arith)
range-has first (suc count) x from below =
    go (eqb x first) refl (range-has (suc first) count x)
  where
    go : (t : Bool) → eqb x first ≡ t → (suc first ≤ x → x < suc first + count → Memᴰ x (range (suc first) count)) →
        Memᴰ x (first ∷ range (suc first) count)
    go true e rest = Memᴰ.head (eqb-true x first e)
    go false e rest =
        let other : first ≢ x = λ q. eqb-false x first e (sym q) in
        Memᴰ.tail (rest (lt_of_le-ne from other) (omega arith))

pub range-within : (first count x : ℕ) → Memᴰ x (range first count) → (first ≤ x) × (x < first + count)
unfolding range
range-within first zero x m = absurd (Memᴰ.not-nil m)
range-within first (suc count) x m =
    go (range-within (suc first) count x) (Memᴰ.cases_cons m)
  where
    go : (Memᴰ x (range (suc first) count) → (suc first ≤ x) × (x < suc first + count)) →
        (x ≡ first) ⊎ Memᴰ x (range (suc first) count) → (first ≤ x) × (x < first + suc count)
    go rest (inl e) = (omega arith, omega arith)
    go rest (inr later) = let bounds = rest later in (omega arith, omega arith)

module _ {A B : Type 0} where
  -- A member of what f gives for some member.
  pub flat_map-has : (f : A → List B) (xs : List A) (x : A) (y : B) → Memᴰ x xs → Memᴰ y (f x) → Memᴰ y (flat_map f xs)
  flat_map-has f [] x y m n = absurd (Memᴰ.not-nil m)
  flat_map-has f (z ∷ xs) x y m n = go (λ later. flat_map-has f xs x y later n) (Memᴰ.cases_cons m)
    where
      go : (Memᴰ x xs → Memᴰ y (flat_map f xs)) → (x ≡ z) ⊎ Memᴰ x xs → Memᴰ y (f z ++ flat_map f xs)
      go rest (inl e) = Memᴰ.append_left (flat_map f xs) (subst (λ w. Memᴰ y (f w)) e n)
      go rest (inr later) = Memᴰ.append_right (f z) (rest later)

  pub flat_map_from : (f : A → List B) (xs : List A) (y : B) → Memᴰ y (flat_map f xs) → (x : A) × (Memᴰ x xs × Memᴰ y (f x))
  flat_map_from f [] y m = absurd (Memᴰ.not-nil m)
  flat_map_from f (z ∷ xs) y m = go (flat_map_from f xs y) (Memᴰ.append_cases (f z) m)
    where
      go : (Memᴰ y (flat_map f xs) → (x : A) × (Memᴰ x xs × Memᴰ y (f x))) →
          Memᴰ y (f z) ⊎ Memᴰ y (flat_map f xs) → (x : A) × (Memᴰ x (z ∷ xs) × Memᴰ y (f x))
      go rest (inl here) = (z, (Memᴰ.head refl, here))
      go rest (inr later) = let found = rest later in (found.0, (Memᴰ.tail found.1.0, found.1.1))

module _ {A : Type 0} (test : A → Bool) where
  pub filter-has : (xs : List A) (x : A) → Memᴰ x xs → test x ≡ true → Memᴰ x (filter test xs)
  filter-has [] x m e = absurd (Memᴰ.not-nil m)
  filter-has (z ∷ xs) x m e = go (test z) refl (λ later. filter-has xs x later e) (Memᴰ.cases_cons m)
    where
      go : (t : Bool) → test z ≡ t → (Memᴰ x xs → Memᴰ x (filter test xs)) → (x ≡ z) ⊎ Memᴰ x xs →
          Memᴰ x (kept_if t z (filter test xs))
      go true q rest (inl same) = Memᴰ.head same
      go true q rest (inr later) = Memᴰ.tail (rest later)
      go false q rest (inl same) = absurd (false≢true (sym q ∙ ap test (sym same) ∙ e))
      go false q rest (inr later) = rest later

  pub filter_from : (xs : List A) (x : A) → Memᴰ x (filter test xs) → Memᴰ x xs × (test x ≡ true)
  filter_from [] x m = absurd (Memᴰ.not-nil m)
  filter_from (z ∷ xs) x m = go (test z) refl (filter_from xs x) m
    where
      step : test z ≡ true → (Memᴰ x (filter test xs) → Memᴰ x xs × (test x ≡ true)) →
          (x ≡ z) ⊎ Memᴰ x (filter test xs) → Memᴰ x (z ∷ xs) × (test x ≡ true)
      step q rest (inl same) = (Memᴰ.head same, ap test same ∙ q)
      step q rest (inr later) = let found = rest later in (Memᴰ.tail found.0, found.1)

      go : (t : Bool) → test z ≡ t → (Memᴰ x (filter test xs) → Memᴰ x xs × (test x ≡ true)) →
          Memᴰ x (kept_if t z (filter test xs)) → Memᴰ x (z ∷ xs) × (test x ≡ true)
      go true q rest n = step q rest (Memᴰ.cases_cons n)
      go false q rest n = let found = rest n in (Memᴰ.tail found.0, found.1)

  -- Every member passes.
  pub all_member : (xs : List A) (x : A) → list_all test xs ≡ true → Memᴰ x xs → test x ≡ true
  all_member [] x e m = absurd (Memᴰ.not-nil m)
  all_member (z ∷ xs) x e m = go (test z) refl e (all_member xs x) (Memᴰ.cases_cons m)
    where
      go : (t : Bool) → test z ≡ t → t && list_all test xs ≡ true → (list_all test xs ≡ true → Memᴰ x xs → test x ≡ true) →
          (x ≡ z) ⊎ Memᴰ x xs → test x ≡ true
      go true q h rest (inl same) = ap test same ∙ q
      go true q h rest (inr later) = rest h later
      go false q h rest w = absurd (false≢true h)

  pub all-members : (xs : List A) → ((x : A) → Memᴰ x xs → test x ≡ true) → list_all test xs ≡ true
  all-members [] h = refl
  all-members (z ∷ xs) h = rw (h z (Memᴰ.head refl), all-members xs (λ x m. h x (Memᴰ.tail m)))

  -- What is found is a member that passes.
  pub find_some : (xs : List A) (x : A) → find test xs ≡ Some x → Memᴰ x xs × (test x ≡ true)
  find_some [] x e = absurd (cc)
  find_some (z ∷ xs) x e = go (test z) refl (find_some xs x) e
    where
      go : (t : Bool) → test z ≡ t → (find test xs ≡ Some x → Memᴰ x xs × (test x ≡ true)) →
          cond t (Some z) (find test xs) ≡ Some x → Memᴰ x (z ∷ xs) × (test x ≡ true)
      go true q rest h = let same : x ≡ z = cc in (Memᴰ.head same, ap test same ∙ q)
      go false q rest h = let found = rest h in (Memᴰ.tail found.0, found.1)

  -- Nothing is found only where no member passes.
  pub find_none : (xs : List A) (x : A) → find test xs ≡ None → Memᴰ x xs → test x ≡ true → ⊥
  find_none [] x e m h = Memᴰ.not-nil m
  find_none (z ∷ xs) x e m h = go (test z) refl (λ f later. find_none xs x f later h) e (Memᴰ.cases_cons m)
    where
      go : (t : Bool) → test z ≡ t → (find test xs ≡ None → Memᴰ x xs → ⊥) →
          cond t (Some z) (find test xs) ≡ None → (x ≡ z) ⊎ Memᴰ x xs → ⊥
      go true q rest f w = cc
      go false q rest f (inl same) = false≢true (sym q ∙ ap test (sym same) ∙ h)
      go false q rest f (inr later) = rest f later

module _ {A : Type 0} where
  pub empty_none : (xs : List A) (x : A) → is_empty xs ≡ true → Memᴰ x xs → ⊥
  empty_none [] x e m = Memᴰ.not-nil m
  empty_none (z ∷ xs) x e m = false≢true e

  pub none_empty : (xs : List A) → ((x : A) → Memᴰ x xs → ⊥) → xs ≡ []
  none_empty [] h = refl
  none_empty (z ∷ xs) h = absurd (h z (Memᴰ.head refl))

  -- What stands at a place of the list.
  pub get_or-has : (xs : List A) (i : ℕ) (d : A) → i < length xs → Memᴰ (get_or xs i d) xs
  get_or-has [] i d h = absurd (omega arith)
  get_or-has (x ∷ xs) zero d h = Memᴰ.head refl
  get_or-has (x ∷ xs) (suc i) d h = Memᴰ.tail (get_or-has xs i d (omega arith))

-- No number of a list exceeds the greatest.
pub greatest-has : (xs : List ℕ) (x : ℕ) → Memᴰ x xs → x ≤ greatest xs
greatest-has [] x m = absurd (Memᴰ.not-nil m)
greatest-has (z ∷ xs) x m = go (greatest-has xs x) (Memᴰ.cases_cons m)
  where
    go : (Memᴰ x xs → x ≤ greatest xs) → (x ≡ z) ⊎ Memᴰ x xs → x ≤ greatest (z ∷ xs)
    go rest (inl e) = omega (arith, e)
    go rest (inr later) = omega (arith, rest later)

-- Whether a number is in a list.
pub is_in_lem : (i : ℕ) (list : List ℕ) → is_in i list ≡ true → Memᴰ i list
is_in_lem i [] e = absurd (false≢true e)
is_in_lem i (j ∷ list) e = go (eqb i j) refl e (is_in_lem i list)
  where
    go : (t : Bool) → eqb i j ≡ t → (t || is_in i list) ≡ true → (is_in i list ≡ true → Memᴰ i list) → Memᴰ i (j ∷ list)
    go true same h rest = Memᴰ.head (eqb-true i j same)
    go false differs h rest = Memᴰ.tail (rest h)

pub in_is : (i : ℕ) (list : List ℕ) → Memᴰ i list → is_in i list ≡ true
in_is i [] m = absurd (Memᴰ.not-nil m)
in_is i (j ∷ list) m = go (eqb i j) refl (in_is i list) (Memᴰ.cases_cons m)
  where
    go : (t : Bool) → eqb i j ≡ t → (Memᴰ i list → is_in i list ≡ true) → (i ≡ j) ⊎ Memᴰ i list → (t || is_in i list) ≡ true
    go true e rest m' = refl
    go false e rest (inl same) = absurd (false≢true (sym e ∙ eq-eqb i j same))
    go false e rest (inr later) = rest later
