-- S4.1: the one share that a low task may have, and S7.4: when it is kept.
use Rattle.std.specs.Prelude.{ℕ, ◌+◌, ◌-◌, ◌/◌, Bool, cond, ◌&&◌, leb, ltb, Option, Some, None}
use Rattle.sheet.specs.declared.task.Figures.{Figures}
use Rattle.sheet.specs.Level.{is_low}
use Rattle.shares.specs.declared.share.Share.{Share}

-- n / d rounded up.
unfoldable pub ceil_div : ℕ → ℕ → ℕ
ceil_div n d = (n + (d - 1)) / d

-- S4.1: the work beside the span, over the time that the deadline leaves beside it, rounded up (the paper's equation
-- 3).
unfoldable pub low_share : Figures → ℕ
low_share f = ceil_div (f.nominal.work - f.nominal.span) (f.deadline - f.nominal.span)

-- S4.1: a low task has its share where its span is below its deadline and there are so many processors.
unfoldable pub has_low_share : ℕ → Figures → Bool
has_low_share M f = ltb f.nominal.span f.deadline && leb (low_share f) M

-- S7.4: a low task is kept in the critical mode if its critical share is above 0.
unfoldable pub is_kept : ℕ → Share → Bool
is_kept level s = is_low level && ltb 0 s.critical

-- The answer to the search for a low task's share.
unfoldable pub low_answer : ℕ → Figures → Option ℕ
low_answer M f = cond (has_low_share M f) (Some (low_share f)) None
