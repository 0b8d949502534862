-- The order by numbers: no two lists come no later than each other, and the least of a list is the one member that
-- comes no later than any; and what the least of some numbers up to a cap is.
use Prim.Native.Nat.{ℕ, ◌≤◌, ◌<◌}
use mathlib.Core.Path.{◌≡◌, refl, sym, ◌∙◌, subst}
use mathlib.Core.Logic.{◌⊎◌, inl, inr}
use mathlib.Core.Bool.{Bool, true, false, ◌&&◌, ◌||◌, false≢true}
use mathlib.Core.List.Memᴰ
use mathlib.Core.List.{List, [], ◌∷◌, Memᴰ}
use Rattle.std.specs.Prelude.{Option, None, Some}
use native.Mathlib.Omega.{arith}
use native.Mathlib.Decide.{dec_le}
use native.Mathlib.Nat.{min-eq_left, min-eq_right}
use lib.Dec.{ltb, eqb}
use borrow.Author.Tests.{ltb-true, ltb-false, eqb-true, eq-eqb}
use Rattle.std.proofs.lemmas.Bool.{false_from_ne_true}
use Rattle.basics.specs.Order.{no_later, least_by, least, capped_at}
use Rattle.basics.proofs.Members.{all_member, all-members, find_some, find_none}

-- Of two first numbers the smaller decides, and equal ones leave it to the rest.
pub no_later_if : (x y : ℕ) (xs ys : List ℕ) → x ≤ y → (x ≡ y → no_later xs ys ≡ true) → no_later (x ∷ xs) (y ∷ ys) ≡ true
no_later_if x y xs ys le same = go (ltb x y) refl
  where
    go : (t : Bool) → ltb x y ≡ t → t || eqb x y && no_later xs ys ≡ true
    go true e = refl
    go false e =
        let equal : x ≡ y = omega (arith, ltb-false x y e) in
        rw (eq-eqb x y equal) (same equal)

pub no_later_then : (x y : ℕ) (xs ys : List ℕ) → no_later (x ∷ xs) (y ∷ ys) ≡ true → (x < y) ⊎ ((x ≡ y) × (no_later xs ys ≡ true))
no_later_then x y xs ys e = go (ltb x y) (eqb x y) refl refl e
  where
    go : (t u : Bool) → ltb x y ≡ t → eqb x y ≡ u → t || u && no_later xs ys ≡ true →
        (x < y) ⊎ ((x ≡ y) × (no_later xs ys ≡ true))
    go true u less same h = inl (ltb-true x y less)
    go false true less same h = inr (eqb-true x y same, h)
    go false false less same h = absurd (false≢true h)

pub no_later_both : (xs ys : List ℕ) → no_later xs ys ≡ true → no_later ys xs ≡ true → xs ≡ ys
no_later_both [] [] e f = refl
no_later_both [] (y ∷ ys) e f = absurd (false≢true f)
no_later_both (x ∷ xs) [] e f = absurd (false≢true e)
no_later_both (x ∷ xs) (y ∷ ys) e f =
    go (no_later_both xs ys) (no_later_then x y xs ys e) (no_later_then y x ys xs f)
  where
    go : (no_later xs ys ≡ true → no_later ys xs ≡ true → xs ≡ ys) →
        (x < y) ⊎ ((x ≡ y) × (no_later xs ys ≡ true)) → (y < x) ⊎ ((y ≡ x) × (no_later ys xs ≡ true)) → x ∷ xs ≡ y ∷ ys
    go rest (inl h) (inl k) = absurd (omega arith)
    go rest (inl h) (inr k) = absurd (omega arith)
    go rest (inr h) (inl k) = absurd (omega arith)
    go rest (inr (same, h)) (inr (same', k)) = rw (same, rest h k)

-- The least of a list: it is a member, and comes no later than any.
module _ {A : Type 0} (numbers : A → List ℕ) where
  pub least_member : (list : List A) (c : A) → least_by numbers list ≡ Some c → Memᴰ c list
  unfolding least_by
  least_member list c e = (find_some _ list c e).0

  pub least_first : (list : List A) (c d : A) → least_by numbers list ≡ Some c → Memᴰ d list → no_later (numbers c) (numbers d) ≡ true
  unfolding least_by
  least_first list c d e m = all_member _ list d (find_some _ list c e).1 m

  -- There is one where a member comes no later than any.
  least_there : (list : List A) (c : A) → Memᴰ c list →
      ((d : A) → Memᴰ d list → no_later (numbers c) (numbers d) ≡ true) → least_by numbers list ≡ None → ⊥
  unfolding least_by
  least_there list c m first e = find_none _ list c e m (all-members _ list first)

  -- That member is the least, if a member is known by its numbers.
  pub least_is : ((c d : A) → numbers c ≡ numbers d → c ≡ d) → (list : List A) (c : A) → Memᴰ c list →
      ((d : A) → Memᴰ d list → no_later (numbers c) (numbers d) ≡ true) → least_by numbers list ≡ Some c
  least_is known list c m first = go (least_by numbers list) refl
    where
      go : (o : Option A) → least_by numbers list ≡ o → o ≡ Some c
      go None e = absurd (least_there list c m first e)
      go (Some d) e =
          let same : d ≡ c = known d c (no_later_both (numbers d) (numbers c) (least_first list d c e m) (first d (least_member list d e))) in
          rw same

  pub least_of_none : least_by numbers [] ≡ None
  unfolding least_by
  least_of_none = refl

-- The order is total and carries over.
no_later_self : (xs : List ℕ) → no_later xs xs ≡ true
no_later_self [] = refl
no_later_self (x ∷ xs) = no_later_if x x xs xs (omega arith) (λ e. no_later_self xs)

no_later_or : (xs ys : List ℕ) → no_later xs ys ≡ false → no_later ys xs ≡ true
no_later_or [] ys e = absurd (false≢true (sym e))
no_later_or (x ∷ xs) [] e = refl
no_later_or (x ∷ xs) (y ∷ ys) e = no_later_if y x ys xs (go (dec_le y x)) (λ same. no_later_or xs ys (rest same))
  where
    go : Dec (y ≤ x) → y ≤ x
    go (yes h) = h
    go (no h) = absurd (false≢true (sym e ∙ no_later_if x y xs ys (omega arith) (λ same. absurd (omega arith))))

    rest : y ≡ x → no_later xs ys ≡ false
    rest same = false_from_ne_true _ (λ q. false≢true (sym e ∙ no_later_if x y xs ys (omega arith) (λ _. q)))

no_later_through : (xs ys zs : List ℕ) → no_later xs ys ≡ true → no_later ys zs ≡ true → no_later xs zs ≡ true
no_later_through [] ys zs e f = refl
no_later_through (x ∷ xs) [] zs e f = absurd (false≢true e)
no_later_through (x ∷ xs) (y ∷ ys) [] e f = absurd (false≢true f)
no_later_through (x ∷ xs) (y ∷ ys) (z ∷ zs) e f =
    go (no_later_through xs ys zs) (no_later_then x y xs ys e) (no_later_then y z ys zs f)
  where
    go : (no_later xs ys ≡ true → no_later ys zs ≡ true → no_later xs zs ≡ true) →
        (x < y) ⊎ ((x ≡ y) × (no_later xs ys ≡ true)) → (y < z) ⊎ ((y ≡ z) × (no_later ys zs ≡ true)) → no_later (x ∷ xs) (z ∷ zs) ≡ true
    go rest (inl h) (inl k) = no_later_if x z xs zs (omega arith) (λ same. absurd (omega arith))
    go rest (inl h) (inr (k, _)) = no_later_if x z xs zs (omega arith) (λ same. absurd (omega arith))
    go rest (inr (h, _)) (inl k) = no_later_if x z xs zs (omega arith) (λ same. absurd (omega arith))
    go rest (inr (h, xy)) (inr (k, yz)) = no_later_if x z xs zs (omega arith) (λ same. rest xy yz)

-- A list with a member has a least one.
module _ {A : Type 0} (numbers : A → List ℕ) where
  least_among : (c : A) (cs : List A) →
      (e : A) × (Memᴰ e (c ∷ cs) × ((d : A) → Memᴰ d (c ∷ cs) → no_later (numbers e) (numbers d) ≡ true))
  least_among c [] =
      (c, (Memᴰ.head refl, λ d m. subst (λ (x : A). no_later (numbers c) (numbers x) ≡ true) (sym (Memᴰ.eq_of_singleton m)) (no_later_self (numbers c))))
  least_among c (b ∷ cs) = go (least_among b cs)
    where
      go : (e : A) × (Memᴰ e (b ∷ cs) × ((d : A) → Memᴰ d (b ∷ cs) → no_later (numbers e) (numbers d) ≡ true)) →
          (e : A) × (Memᴰ e (c ∷ b ∷ cs) × ((d : A) → Memᴰ d (c ∷ b ∷ cs) → no_later (numbers e) (numbers d) ≡ true))
      go (e, (m, first)) = either (no_later (numbers c) (numbers e)) refl
        where
          from_c : no_later (numbers c) (numbers e) ≡ true → (d : A) → (d ≡ c) ⊎ Memᴰ d (b ∷ cs) → no_later (numbers c) (numbers d) ≡ true
          from_c q d (inl same) = subst (λ (x : A). no_later (numbers c) (numbers x) ≡ true) (sym same) (no_later_self (numbers c))
          from_c q d (inr later) = no_later_through (numbers c) (numbers e) (numbers d) q (first d later)

          from_e : no_later (numbers c) (numbers e) ≡ false → (d : A) → (d ≡ c) ⊎ Memᴰ d (b ∷ cs) → no_later (numbers e) (numbers d) ≡ true
          from_e q d (inl same) = subst (λ (x : A). no_later (numbers e) (numbers x) ≡ true) (sym same) (no_later_or (numbers c) (numbers e) q)
          from_e q d (inr later) = first d later

          either : (t : Bool) → no_later (numbers c) (numbers e) ≡ t →
              (e : A) × (Memᴰ e (c ∷ b ∷ cs) × ((d : A) → Memᴰ d (c ∷ b ∷ cs) → no_later (numbers e) (numbers d) ≡ true))
          either true q = (c, (Memᴰ.head refl, λ d n. from_c q d (Memᴰ.cases_cons n)))
          either false q = (e, (Memᴰ.tail m, λ d n. from_e q d (Memᴰ.cases_cons n)))

  -- There is no least one only where there is no member.
  pub least_none : (list : List A) → least_by numbers list ≡ None → list ≡ []
  least_none [] e = refl
  least_none (c ∷ cs) e =
      let found = least_among c cs in
      absurd (least_there numbers (c ∷ cs) found.0 found.1.0 found.1.1 e)

-- The least of some numbers up to a cap: a number within the cap that exceeds none of them, and that is one of them
-- if below the cap.
module _ (cap : ℕ) (numbers : List ℕ) (x : ℕ) (to : x ≤ cap) (below : (y : ℕ) → Memᴰ y numbers → x ≤ y)
    (one : x < cap → Memᴰ x numbers) where
  whole : Memᴰ x numbers ⊎ (x ≡ cap)
  whole = go (dec_le cap x)
    where
      go : Dec (cap ≤ x) → Memᴰ x numbers ⊎ (x ≡ cap)
      go (yes h) = inr (omega arith)
      go (no h) = inl (one (omega arith))

  pub capped_is : x ≡ capped_at cap (least numbers)
  unfolding least
  capped_is = go (least_by (λ y. y ∷ []) numbers) refl whole
    where
      smallest : (y : ℕ) → least_by (λ z. z ∷ []) numbers ≡ Some y → Memᴰ x numbers → y ≤ x
      smallest y e m = first (no_later_then y x [] [] (least_first (λ z. z ∷ []) numbers y x e m))
        where
          first : (y < x) ⊎ ((y ≡ x) × (no_later [] [] ≡ true)) → y ≤ x
          first (inl h) = omega arith
          first (inr (h, _)) = omega arith

      go : (o : Option ℕ) → least_by (λ y. y ∷ []) numbers ≡ o → Memᴰ x numbers ⊎ (x ≡ cap) → x ≡ capped_at cap o
      go None e (inl m) = absurd (Memᴰ.not-nil (subst (Memᴰ x) (least_none (λ y. y ∷ []) numbers e) m))
      go None e (inr same) = same
      go (Some y) e (inl m) =
          let equal : x ≡ y = omega (arith, smallest y e m, below y (least_member (λ z. z ∷ []) numbers y e)) in
          let fits : y ≤ cap = omega arith in
          equal ∙ sym (min-eq_left fits)
      go (Some y) e (inr same) =
          let past : cap ≤ y = omega (arith, below y (least_member (λ z. z ∷ []) numbers y e)) in
          same ∙ sym (min-eq_right past)
