-- `plan_cases::accepted`: the first bytes of the plan stand behind 0 and 255, and zeros behind them.
use Rattle.std.proofs.Common.{◌≡◌, ℕ, List, ◌∷◌, ◌++◌, take, drop, replicate}
use Rattle.sheet.specs.Refusal.{no_task}
use Rattle.plan_cases.proofs.accepted.Given as goal

-- The numbers after i bytes of the plan.
abbrev pub numbers_at : List ℕ → ℕ → List ℕ
numbers_at plan i = 0 ∷ no_task ∷ (take i plan ++ drop i (replicate 18 0))

abbrev pub invariant-loop-i : goal.invariant-loop-i
invariant-loop-i l = l.numbers ≡ numbers_at l.plan l.i
