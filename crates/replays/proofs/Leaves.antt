-- S13.7: a replay that answers 0 was short, since one that is written has two bytes at least.
use Prim.Native.Nat.{ℕ, ◌≤◌}
use mathlib.Core.Path.{◌≡◌, refl}
use mathlib.Core.Bool.{Bool, true, false, cond}
use mathlib.Core.List.{List, ◌++◌}
use native.Mathlib.Omega.{arith}
use lib.Dec.{leb}
use lib.ListN.{length, drop}
use Rattle.sheet.specs.Refusal.{Answer}
use Rattle.std.specs.Prelude.{Ok, Err}
use Rattle.start.specs.Start.{start_of}
use Rattle.guarantee.specs.Encoding.{calls_of}
use Rattle.guarantee.specs.Record.{answer_bytes}
use Rattle.guarantee.specs.Replay.{records_of, calls_run, replay_bytes, replayed_of, replay_over}
use Rattle.replays.specs.Written.{ShortLeaves}

-- A replay that is written has at least the two bytes of Start's answer.
some_bytes : (sheet calls : List ℕ) → 2 ≤ length (replay_bytes sheet calls)
unfolding replay_bytes
some_bytes sheet calls = go (start_of sheet).answer
  where
    go : (a : Answer) → 2 ≤ length (answer_bytes a ++ records_of (start_of sheet).state (calls_run a (calls_of calls)))
    go (Ok x) = omega arith
    go (Err r) = omega arith

pub short_leaves : ShortLeaves
unfolding ShortLeaves replayed_of replay_over
short_leaves sheet calls out none = go (leb (length (replay_bytes sheet calls)) (length out)) refl
  where
    go : (t : Bool) → leb (length (replay_bytes sheet calls)) (length out) ≡ t →
        cond t (replay_bytes sheet calls ++ drop (length (replay_bytes sheet calls)) out) out ≡ out
    go true fits = absurd (omega (arith, some_bytes sheet calls, (rw fits at none)))
    go false fits = refl
