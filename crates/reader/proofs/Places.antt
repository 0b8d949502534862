-- The directory read entry by entry: where the next record has to begin, and refusal 2 of the task.
use Prim.Native.Nat.{ℕ, ◌+◌, ◌*◌, ◌-◌}
use mathlib.Core.List.{List}
use mathlib.Core.Path.{◌≡◌, refl}
use native.Mathlib.Numerals.{add-one}
use lib.ListN.{length}
use Rattle.std.specs.Prelude.{Ok, Err}
use Rattle.sheet.specs.declared.refusal.Refusal.TheVariants.{BadPlace}
use Rattle.sheet.specs.Format.{count_of, offset_of, length_of, place_of}
use Rattle.reader.specs.Reading.{place_answer, end_answer}
use Rattle.sheet.proofs.Faults.{kept_equal, broken_equal}

module _ (s : List ℕ) where
  pub start_first : place_of s 0 ≡ 2 + 4 * count_of s
  unfolding place_of
  start_first = refl

  pub start_next : (i : ℕ) → place_of s (i + 1) ≡ offset_of s i + length_of s i
  unfolding place_of
  start_next i = rw (add-one i)

  pub place_kept : (i : ℕ) → offset_of s i ≡ place_of s i → place_answer s i ≡ Ok tt
  unfolding place_answer
  place_kept i e = kept_equal (offset_of s i) (place_of s i) (BadPlace i) e

  pub place_broken : (i : ℕ) → (offset_of s i ≡ place_of s i → ⊥) → place_answer s i ≡ Err (BadPlace i)
  unfolding place_answer
  place_broken i n = broken_equal (offset_of s i) (place_of s i) (BadPlace i) n

  pub end_kept : (n : ℕ) → n ≡ count_of s → place_of s n ≡ length s → end_answer s ≡ Ok tt
  unfolding end_answer
  end_kept n c e = rw (← c) (kept_equal (place_of s n) (length s) (BadPlace (n - 1)) e)

  pub end_broken : (n : ℕ) → n ≡ count_of s → (place_of s n ≡ length s → ⊥) → end_answer s ≡ Err (BadPlace (n - 1))
  unfolding end_answer
  end_broken n c e = rw (← c) (broken_equal (place_of s n) (length s) (BadPlace (n - 1)) e)
