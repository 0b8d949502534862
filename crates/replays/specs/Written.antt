-- S13.7: what the exported Replay answers.
use Rattle.std.specs.Prelude.{ℕ, List, ◌≡◌, length, Option, unwrap_or}
use Rattle.guarantee.specs.Replay.{replayed_of, replay_over}

-- S13.7: how many bytes a replay wrote; 0 where the buffer is short.
abbrev pub bytes_written : Option ℕ → ℕ
bytes_written written = unwrap_or written 0

-- S13.7: one that wrote none leaves the buffer.
unfoldable pub ShortLeaves : Type 0
ShortLeaves =
    (sheet calls out : List ℕ) → bytes_written (replayed_of sheet calls (length out)) ≡ 0 → replay_over sheet calls out ≡ out
