-- A text's array: its bytes at the front, and zeros behind them.
use Rattle.std.proofs.Common.{◌≡◌, ℕ, ◌+◌, ◌<◌, List, length, take, set}
use Rattle.std.proofs.lemmas.List.{take_more_set}
use borrow.Author.Tests.{lt-ltb}
use Rattle.plan_text.specs.means.Growth.{room, with_byte}

-- One byte more, where there is room.
pub longer : (bytes : List ℕ) (len b : ℕ) → len < room → len < length bytes → length (take len bytes) ≡ len →
    take (len + 1) (set bytes len b) ≡ with_byte (take len bytes) b
unfolding with_byte
longer bytes len b few inside whole = rw (whole, lt-ltb len room few) (take_more_set bytes len b inside)
