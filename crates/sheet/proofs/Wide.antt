-- S2.14: what a level says that is not wide, and the wide form of a level.
use Prim.Native.Nat.{ℕ, ◌+◌, ◌≤◌, ◌<◌}
use mathlib.Core.Bool.{Bool, true, false, or-false}
use mathlib.Core.Path.{◌≡◌, refl}
use native.Mathlib.Omega.{arith}
use lib.Dec.{leb, eqb}
use borrow.Author.Tests.{leb-false, le-leb, lt-leb, ne_eqb}
use Rattle.std.proofs.lemmas.Bool.Decides.{nat_tests}
use Rattle.sheet.specs.Level.{level_lawful, is_high, is_wide, figure_limit, bytes_before_masks}
use Rattle.sheet.specs.Format.{figure_at}
use Rattle.sheet.specs.Encoding.{figure_bytes}
use Rattle.sheet.specs.Wide.{wide_level, NarrowLevels, WideLevel, WideLevels}

-- A level that is not wide lies below 16.
narrow_below : (level : ℕ) → is_wide level ≡ false → level < 16
unfolding is_wide
narrow_below level e = leb-false 16 level e

narrow_high : (level : ℕ) → level < 16 → is_high level ≡ eqb level 1
unfolding is_high
narrow_high level h = rw (ne_eqb level 17 (λ e. omega arith)) (or-false (eqb level 1))

narrow_lawful : (level : ℕ) → level < 16 → level_lawful level ≡ leb level 1
unfolding level_lawful
narrow_lawful level h = rw (lt-leb 16 level h) (or-false (leb level 1))

pub narrow_levels : NarrowLevels
unfolding NarrowLevels figure_limit bytes_before_masks figure_at figure_bytes
narrow_levels level e =
    record {
      lawful = narrow_lawful level (narrow_below level e);
      high = narrow_high level (narrow_below level e);
      limit = rw e;
      before_masks = rw e;
      read = λ s at i same. rw (same, e);
      written = λ x. rw e;
    }

-- The levels 0 and 1 are not wide.
pub first_narrow : (level : ℕ) → level ≤ 1 → is_wide level ≡ false
unfolding is_wide
first_narrow level h = lt-leb 16 level (omega arith)

-- Sixteen more is wide, and it is high, and lawful, where a level below 16 is.
module _ (level more : ℕ) (sixteen : more ≡ level + 16) (below : level < 16) where
  more_wide : is_wide more ≡ true
  unfolding is_wide
  more_wide = le-leb 16 more (omega arith)

  more_high : is_high more ≡ is_high level
  unfolding is_high
  more_high = grind (arith, nat_tests)

  more_lawful : level_lawful more ≡ level_lawful level
  unfolding level_lawful
  more_lawful = grind (arith, nat_tests)

pub wide_levels : WideLevels
unfolding WideLevels wide_level
wide_levels level = go (is_wide level) refl
  where
    go : (wide : Bool) → is_wide level ≡ wide → WideLevel level
    go true e = record { wide = rw (e, e); high = rw e; lawful = rw e }
    go false e =
        let below = narrow_below level e in
        record {
          wide = rw e (more_wide level _ (omega arith) below);
          high = rw e (more_high level _ (omega arith) below);
          lawful = rw e (more_lawful level _ (omega arith) below);
        }
