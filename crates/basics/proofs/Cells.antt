-- Cells filled one after the other: a store at the count gives the cells of the count plus one. And what each of them
-- holds.
use Prim.Native.Nat.{ℕ, zero, suc, ◌≤◌, ◌<◌, ◌+◌, ◌-◌}
use mathlib.Core.Bool.{Bool, true, false, cond}
use mathlib.Core.List.{List, [], ◌∷◌, map}
use mathlib.Core.Path.{◌≡◌, refl, sym, ap, ap₂, ◌∙◌}
use native.Mathlib.Decide.{dec_lt}
use native.Mathlib.Omega.{arith}
use native.Mathlib.Numerals.{add-one}
use lib.Dec.{ltb}
use lib.ListN.{length, get_or, set, take, drop, replicate}
use borrow.Author.Tests.{lt-ltb, le-ltb}
use Rattle.basics.specs.Lists.{range, cells, cells_from}

module _ {A : Type 0} (f : ℕ → A) (none : A) where
  -- Every cell is empty from the count on.
  pub cells_none : (first size count : ℕ) → count ≤ first → cells_from first size f none count ≡ replicate size none
  unfolding cells_from
  cells_none first zero count h = refl
  cells_none first (suc size) count h = rw (le-ltb first count h, cells_none (suc first) size count (omega arith))

  pub cells-length : (first size count : ℕ) → length (cells_from first size f none count) ≡ size
  unfolding cells_from
  cells-length first zero count = refl
  cells-length first (suc size) count = ap suc (cells-length (suc first) size count)

  cells_store_at : (size first d count : ℕ) → d < size → first + d ≡ count → set (cells_from first size f none count) d (f count) ≡ cells_from first size f none (suc count)
  unfolding cells_from
  cells_store_at zero first d count h e = absurd (omega arith)
  cells_store_at (suc size) first zero count h e =
      let same : first ≡ count = omega arith in
      rw same
      (rw (
        lt-ltb count (suc count) (omega arith),
        cells_none (suc count) size count (omega arith),
        cells_none (suc count) size (suc count) (omega arith),
      ))
  cells_store_at (suc size) first (suc d) count h e =
      rw (
        lt-ltb first count (omega arith),
        lt-ltb first (suc count) (omega arith),
        cells_store_at size (suc first) d count (omega arith) (omega arith),
      )

  -- A store at the count adds what the next cell is to hold.
  pub cells_store_from : (first size d count : ℕ) → d < size → first + d ≡ count
      → set (cells_from first size f none count) d (f count) ≡ cells_from first size f none (count + 1)
  cells_store_from first size d count h e = rw (add-one count) (cells_store_at size first d count h e)

  pub cells_store : (size count : ℕ) → count < size → set (cells size f none count) count (f count) ≡ cells size f none (count + 1)
  cells_store size count h = cells_store_from 0 size count count h (omega arith)

  -- A filled cell holds what it is to hold.
  cells_at_from : (size first count j : ℕ) (d : A) → j < size → first + j < count → get_or (cells_from first size f none count) j d ≡ f (first + j)
  unfolding cells_from
  cells_at_from zero first count j d inside filled = absurd (omega arith)
  cells_at_from (suc size) first count zero d inside filled =
      let e : first + 0 ≡ first = omega arith in
      rw (lt-ltb first count (omega arith), e)
  cells_at_from (suc size) first count (suc j) d inside filled =
      let e : suc first + j ≡ first + suc j = omega arith in
      cells_at_from size (suc first) count j d (omega arith) (omega arith) ∙ ap f e

  pub cells_at : (size count j : ℕ) (d : A) → j < size → j < count → get_or (cells size f none count) j d ≡ f j
  cells_at size count j d inside filled =
      let e : 0 + j ≡ j = omega arith in
      cells_at_from size 0 count j d inside (omega arith) ∙ ap f e

  -- A cell from the count on is empty, and so is any behind the last.
  cells_past_from : (size first count j : ℕ) → count ≤ first + j → get_or (cells_from first size f none count) j none ≡ none
  unfolding cells_from
  cells_past_from zero first count j past = refl
  cells_past_from (suc size) first count zero past = rw (le-ltb first count (omega arith))
  cells_past_from (suc size) first count (suc j) past = cells_past_from size (suc first) count j (omega arith)

  pub cells_past : (size count j : ℕ) → count ≤ j → get_or (cells size f none count) j none ≡ none
  cells_past size count j past = cells_past_from size 0 count j (omega arith)

  -- What an empty cell and what f gives keep, each cell keeps.
  cells-keep_from : (P : A → Type 0) (size first count j : ℕ) → P none → ((v : ℕ) → first + j ≡ v → P (f v)) →
      P (get_or (cells_from first size f none count) j none)
  unfolding cells_from
  cells-keep_from P zero first count j empty full = empty
  cells-keep_from P (suc size) first count zero empty full = go (ltb first count)
    where
      go : (t : Bool) → P (cond t (f first) none)
      go true = full first (omega arith)
      go false = empty
  cells-keep_from P (suc size) first count (suc j) empty full = cells-keep_from P size (suc first) count j empty (λ v e. full v (omega arith))

  pub cells-keep : (P : A → Type 0) (size count j : ℕ) → P none → P (f j) → P (get_or (cells size f none count) j none)
  cells-keep P size count j empty full =
      cells-keep_from P size 0 count j empty (λ v e. let same : j ≡ v = omega arith in rw (← same) full)

  -- Where all cells are filled they are what f gives in turn.
  pub cells_full : (first size count : ℕ) → first + size ≤ count → cells_from first size f none count ≡ map f (range first size)
  unfolding cells_from range
  cells_full first zero count h = refl
  cells_full first (suc size) count h =
      rw (lt-ltb first count (omega arith), cells_full (suc first) size count (omega arith))

-- Cells that agree below the count are alike.
pub cells_same : {A : Type 0} (f g : ℕ → A) (none : A) (first size count : ℕ) →
    ((i : ℕ) → i < count → f i ≡ g i) → cells_from first size f none count ≡ cells_from first size g none count
unfolding cells_from
cells_same f g none first zero count same = refl
cells_same f g none first (suc size) count same =
    ap₂ ◌∷◌ (go (dec_lt first count)) (cells_same f g none (suc first) size count same)
  where
    go : Dec (first < count) → cond (ltb first count) (f first) none ≡ cond (ltb first count) (g first) none
    go (yes h) = ap (λ x. cond (ltb first count) x none) (same first h)
    go (no h) = rw (le-ltb first count (omega arith))

-- Cells are a list where the filled ones hold its first n members and the others of it are as the empty ones.
pub cells_whole : {A : Type 0} (f : ℕ → A) (none d : A) (list : List A) (first n count : ℕ) → count ≡ first + n → n ≤ length list →
    ((v j : ℕ) → v ≡ first + j → j < n → f v ≡ get_or list j d) → drop n list ≡ replicate (length list - n) none →
    cells_from first (length list) f none count ≡ list
unfolding cells_from
cells_whole f none d list first zero count c few same rest =
    let all : length list - 0 ≡ length list = omega arith in
    cells_none f none first (length list) count (omega arith) ∙ sym (rest ∙ ap (λ (n : ℕ). replicate n none) all)
cells_whole f none d [] first (suc n) count c few same rest = absurd (omega arith)
cells_whole f none d (x ∷ list) first (suc n) count c few same rest =
    let left : suc (length list) - suc n ≡ length list - n = omega arith in
    rw (
      lt-ltb first count (omega arith),
      same first 0 (omega arith) (omega arith),
      cells_whole f none d list (suc first) n count (omega arith) (omega arith) (λ v j e h. same v (suc j) (omega arith) (omega arith))
          (rest ∙ ap (λ (n : ℕ). replicate n none) left),
    )

-- The cells from the count on are empty.
pub cells_rest : {A : Type 0} (f : ℕ → A) (none : A) (n first size count : ℕ) → count ≡ first + n → n ≤ size →
    drop n (cells_from first size f none count) ≡ replicate (size - n) none
unfolding cells_from
cells_rest f none zero first size count e h =
    let all : size - 0 ≡ size = omega arith in
    rw all (cells_none f none first size count (omega arith))
cells_rest f none (suc n) first zero count e h = absurd (omega arith)
cells_rest f none (suc n) first (suc size) count e h =
    let left : suc size - suc n ≡ size - n = omega arith in
    rw left (cells_rest f none n (suc first) size count (omega arith) (omega arith))

-- The cells that are filled, in turn.
pub cells_taken : {A : Type 0} (f : ℕ → A) (none : A) (first size k count : ℕ) → k ≤ size → first + k ≡ count →
    take k (cells_from first size f none count) ≡ map f (range first k)
unfolding cells_from range
cells_taken f none first size zero count few end = refl
cells_taken f none first zero (suc k) count few end = absurd (omega arith)
cells_taken f none first (suc size) (suc k) count few end =
    rw (lt-ltb first count (omega arith), cells_taken f none (suc first) size k count (omega arith) (omega arith))
