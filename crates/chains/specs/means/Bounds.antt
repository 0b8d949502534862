-- Times of up to 32 nodes whose sums stay within a word.
use Rattle.std.specs.Prelude.{ℕ, ◌≤◌, List, get_or}

-- Numbers as a function of their place; 0 past the end.
abbrev pub time_at : List ℕ → ℕ → ℕ
time_at times v = get_or times v 0

-- The greatest time of a node.
abbrev pub time_limit : ℕ
time_limit = 262140

-- Each time is at most the greatest.
unfoldable pub Small : List ℕ → Type 0
Small times = (v : ℕ) → time_at times v ≤ time_limit
