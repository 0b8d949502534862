-- The shares of all tasks: each one's share in a mode, and their sums (S5.2).
use Rattle.std.specs.Prelude.{ℕ, ◌+◌, Bool, true, false, cond, List, [], ◌∷◌, get_or}
use Rattle.shares.specs.declared.share.Share.{Share}

-- No processors: what stands for the share of a task that is not there.
abbrev pub no_processors : Share
no_processors = record { typical = 0; critical = 0 }

-- Task i's shares.
unfoldable pub share_at : List Share → ℕ → Share
share_at shares i = get_or shares i no_processors

-- S8.3: a task's share in a mode, the critical one or the typical one.
abbrev pub share_in : Bool → Share → ℕ
share_in critical s = cond critical s.critical s.typical

-- The sum of the shares in a mode.
abbrev pub share_total : Bool → List Share → ℕ
share_total critical [] = 0
share_total critical (s ∷ shares) = share_in critical s + share_total critical shares

-- The sum of the typical shares.
abbrev pub typical_total : List Share → ℕ
typical_total shares = share_total false shares

-- The sum of the critical shares.
abbrev pub critical_total : List Share → ℕ
critical_total shares = share_total true shares
