-- What each task gives, one task after the other.
use Prim.Native.Nat.{ℕ, zero, suc, ◌+◌, ◌*◌}
use mathlib.Core.Path.{◌≡◌, sym, ap, ◌∙◌}
use mathlib.Core.List.{List, ◌++◌, append_assoc, append-nil}
use native.Mathlib.Numerals.{add-one}
use native.Mathlib.Omega.{arith}
use lib.ListN.{length, length-append}
use Rattle.std.specs.Prelude.{flat_map}
use Rattle.basics.specs.Lists.{range}

-- The bytes of one task more.
module _ (f : ℕ → List ℕ) where
  flat_map_snoc : (first count : ℕ) → flat_map f (range first (suc count)) ≡ flat_map f (range first count) ++ f (first + count)
  unfolding range
  flat_map_snoc first zero = let e : first + 0 ≡ first = omega arith in rw e (append-nil (f first))
  flat_map_snoc first (suc count) =
      let e : suc first + count ≡ first + suc count = omega arith in
      ap (λ (l : List ℕ). f first ++ l) (flat_map_snoc (suc first) count ∙ ap (λ (x : ℕ). flat_map f (range (suc first) count) ++ f x) e)
      ∙ sym (append_assoc (f first) (flat_map f (range (suc first) count)) (f (first + suc count)))

  pub flat_map_next : (count : ℕ) → flat_map f (range 0 (count + 1)) ≡ flat_map f (range 0 count) ++ f count
  flat_map_next count =
      let e : 0 + count ≡ count = omega arith in
      rw (add-one count) (flat_map_snoc 0 count ∙ ap (λ (x : ℕ). flat_map f (range 0 count) ++ f x) e)

  flat_map-length : (width : ℕ) → ((i : ℕ) → length (f i) ≡ width) → (first count : ℕ) → length (flat_map f (range first count)) ≡ width * count
  unfolding range
  flat_map-length width same first zero = omega arith
  flat_map-length width same first (suc count) =
      length-append (f first) (flat_map f (range (suc first) count))
      ∙ omega (arith, same first, flat_map-length width same (suc first) count)

  -- With so many bytes for each task.
  pub part_length : (width : ℕ) → ((i : ℕ) → length (f i) ≡ width) → (count : ℕ) → length (flat_map f (range 0 count)) ≡ width * count
  part_length width same = flat_map-length width same 0
