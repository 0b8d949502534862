-- What the level of a task says (S2.6, S2.7, S2.9). All else asks here.
use Rattle.std.specs.Prelude.{ℕ, Bool, cond, not, ◌||◌, leb, eqb}
use Rattle.basics.specs.Numbers.{within}

-- S2.7: the level is low, 0, or high, 1; or the same in the wide form, 16 or 17.
unfoldable pub level_lawful : ℕ → Bool
level_lawful level = leb level 1 || within 16 17 level

-- S2.6: whether a task of this level is high.
unfoldable pub is_high : ℕ → Bool
is_high level = eqb level 1 || eqb level 17

-- S2.6: whether it is low, which is to say not high.
unfoldable pub is_low : ℕ → Bool
is_low level = not (is_high level)

-- S2.6: whether its record is in the wide form.
unfoldable pub is_wide : ℕ → Bool
is_wide level = leb 16 level

-- S2.9: the greatest figure that it may have.
unfoldable pub figure_limit : ℕ → ℕ
figure_limit level = cond (is_wide level) 1000000 10000

-- S2.6: the bytes of its record before the masks.
unfoldable pub bytes_before_masks : ℕ → ℕ
bytes_before_masks level = cond (is_wide level) 22 12
