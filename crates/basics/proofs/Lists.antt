-- Laws of `range`, `filter` and `list_any`: lengths, elements, and tests that agree. By induction on the list
-- or on the count of the range.
use Rattle.std.specs.List.{list_any}
use Rattle.std.specs.Prelude.{filter, flat_map}
use Prim.Native.Nat.{ℕ, zero, suc, ◌+◌, ◌≤◌, ◌<◌}
use mathlib.Core.Path.{◌≡◌, refl, sym, ap, ap₂, ◌∙◌}
use mathlib.Core.Bool.{Bool, true, false, ◌||◌, false≢true}
use mathlib.Core.List.{List, [], ◌∷◌, ◌++◌, map, Memᴰ}
use native.Mathlib.Nat.{add-zero, zero-add, le_refl}
use native.Mathlib.Omega.{arith}
use lib.ListN.{length, get_or, replicate}
use Rattle.std.proofs.lemmas.Bool.{or_parts}
use Rattle.std.proofs.lemmas.List.{get_or-map}
use Rattle.basics.specs.Lists.{range, kept_if}
use Rattle.basics.proofs.Members.{range-within}

-- The numbers of a range.
pub length-range : (first n : ℕ) → length (range first n) ≡ n
unfolding range
length-range first zero = refl
length-range first (suc n) = ap suc (length-range (suc first) n)

pub get_or-range : (first n i d : ℕ) → i < n → get_or (range first n) i d ≡ first + i
unfolding range
get_or-range first zero i d h = absurd (omega arith)
get_or-range first (suc n) zero d h = sym (add-zero first)
get_or-range first (suc n) (suc i) d h = get_or-range (suc first) n i d (omega arith) ∙ omega arith

-- What f gives for the number at a place of a range.
pub get_or-map_range : {A : Type 0} (f : ℕ → A) (first n i : ℕ) (d : A) → i < n → get_or (map f (range first n)) i d ≡ f (first + i)
get_or-map_range f first n i d h =
    get_or-map f (range first n) i 0 d (omega (arith, length-range first n)) ∙ ap f (get_or-range first n i 0 h)

pub range-append : (first m n : ℕ) → range first (m + n) ≡ range first m ++ range (first + m) n
unfolding range
range-append first zero n = rw (zero-add, add-zero)
range-append first (suc m) n =
    let e : suc m + n ≡ suc (m + n) = omega arith in
    let d : suc first + m ≡ first + suc m = omega arith in
    rw (e, ← d) (ap (λ (xs : List ℕ). first ∷ xs) (range-append (suc first) m n))

pub map_suc_range : (first n : ℕ) → map suc (range first n) ≡ range (suc first) n
unfolding range
map_suc_range first zero = refl
map_suc_range first (suc n) = ap (λ (xs : List ℕ). suc first ∷ xs) (map_suc_range (suc first) n)

-- Tests that agree on the list's numbers keep the same of them.
pub filter_agree : (p q : ℕ → Bool) (xs : List ℕ) → ((v : ℕ) → Memᴰ v xs → p v ≡ q v) → filter p xs ≡ filter q xs
filter_agree p q [] same = refl
filter_agree p q (x ∷ xs) same = ap₂ (λ (t : Bool) (vs : List ℕ). kept_if t x vs) (same x (Memᴰ.head refl)) (filter_agree p q xs (λ v m. same v (Memᴰ.tail m)))

pub filter_ext : (p q : ℕ → Bool) (first n : ℕ) → ((v : ℕ) → first ≤ v → v < first + n → p v ≡ q v) → filter p (range first n) ≡ filter q (range first n)
filter_ext p q first n same = filter_agree p q (range first n) (λ v m. let b = range-within first n v m in same v b.0 b.1)

pub filter_ext_below : (p q : ℕ → Bool) (k : ℕ) → ((v : ℕ) → v < k → p v ≡ q v) → filter p (range 0 k) ≡ filter q (range 0 k)
filter_ext_below p q k same = filter_ext p q 0 k (λ v low high. same v (omega arith))

map_kept : (t : Bool) (x : ℕ) (xs : List ℕ) → map suc (kept_if t x xs) ≡ kept_if t (suc x) (map suc xs)
map_kept true x xs = refl
map_kept false x xs = refl

pub filter-map_suc : (p : ℕ → Bool) (xs : List ℕ) → filter p (map suc xs) ≡ map suc (filter (λ v. p (suc v)) xs)
filter-map_suc p [] = refl
filter-map_suc p (x ∷ xs) = ap (kept_if (p (suc x)) (suc x)) (filter-map_suc p xs) ∙ sym (map_kept (p (suc x)) x (filter (λ v. p (suc v)) xs))

-- The numbers below suc k that pass: 0 or not, and the successors of those below k that pass one place up.
pub filter_next : (p : ℕ → Bool) (k : ℕ) → filter p (range 0 (suc k)) ≡ kept_if (p 0) 0 (map suc (filter (λ v. p (suc v)) (range 0 k)))
unfolding range
filter_next p k = ap (kept_if (p 0) 0) (ap (filter p) (sym (map_suc_range 0 k)) ∙ filter-map_suc p (range 0 k))

-- A test that nothing passes keeps nothing.
pub filter_none : (p : ℕ → Bool) (xs : List ℕ) → ((v : ℕ) → Memᴰ v xs → p v ≡ false) → filter p xs ≡ []
filter_none p [] fails = refl
filter_none p (x ∷ xs) fails = rw (fails x (Memᴰ.head refl)) (filter_none p xs (λ v m. fails v (Memᴰ.tail m)))

-- A test that everything passes keeps the list.
pub filter_all : (p : ℕ → Bool) (xs : List ℕ) → ((v : ℕ) → Memᴰ v xs → p v ≡ true) → filter p xs ≡ xs
filter_all p [] passes = refl
filter_all p (x ∷ xs) passes = rw (passes x (Memᴰ.head refl)) (ap (λ (vs : List ℕ). x ∷ vs) (filter_all p xs (λ v m. passes v (Memᴰ.tail m))))

-- What two functions give for the numbers of a range is the same where they agree on these.
pub flat_map_same : {A : Type 0} (f g : ℕ → List A) (first n : ℕ) → ((i : ℕ) → first ≤ i → i < first + n → f i ≡ g i) →
    flat_map f (range first n) ≡ flat_map g (range first n)
unfolding range
flat_map_same f g first zero same = refl
flat_map_same f g first (suc n) same =
    ap₂ ◌++◌ (same first (le_refl first) (omega arith)) (flat_map_same f g (suc first) n (λ i low high. same i (omega arith) (omega arith)))

-- Where no member passes, none does by its place, and the other way round; where some member passes, it has a place.
module _ {A : Type 0} (test : A → Bool) (d : A) where
  pub any_none : (xs : List A) (i : ℕ) → list_any test xs ≡ false → i < length xs → test (get_or xs i d) ≡ false
  any_none [] i e h = absurd (omega arith)
  any_none (x ∷ xs) zero e h = (or_parts (test x) (list_any test xs) e).0
  any_none (x ∷ xs) (suc i) e h = any_none xs i (or_parts (test x) (list_any test xs) e).1 (omega arith)

  pub none_any : (xs : List A) → ((i : ℕ) → i < length xs → test (get_or xs i d) ≡ false) → list_any test xs ≡ false
  none_any [] h = refl
  none_any (x ∷ xs) h = ap₂ ◌||◌ (h 0 (omega arith)) (none_any xs (λ i b. h (suc i) (omega arith)))

  pub any_some : (xs : List A) → list_any test xs ≡ true → (i : ℕ) × ((i < length xs) × (test (get_or xs i d) ≡ true))
  any_some [] e = absurd (false≢true e)
  any_some (x ∷ xs) e = go (test x) refl e (any_some xs)
    where
      go : (t : Bool) → test x ≡ t → (t || list_any test xs) ≡ true →
          (list_any test xs ≡ true → (i : ℕ) × ((i < length xs) × (test (get_or xs i d) ≡ true))) →
          (i : ℕ) × ((i < length (x ∷ xs)) × (test (get_or (x ∷ xs) i d) ≡ true))
      go true h e rest = (0, (omega arith, h))
      go false h e rest = let found = rest e in (suc found.0, (omega (arith, found.1.0), found.1.1))

-- Zeros behind a list read as what lies past its end.
pub get_or-padded : (xs : List ℕ) (n j : ℕ) → get_or (xs ++ replicate n 0) j 0 ≡ get_or xs j 0
get_or-padded [] zero j = refl
get_or-padded [] (suc n) zero = refl
get_or-padded [] (suc n) (suc j) = get_or-padded [] n j
get_or-padded (x ∷ xs) n zero = refl
get_or-padded (x ∷ xs) n (suc j) = get_or-padded xs n j
