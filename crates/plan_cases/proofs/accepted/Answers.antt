-- `plan_cases::accepted`: each turn puts one byte more of the plan behind 0 and 255.
use Rattle.std.proofs.Common.{◌≡◌, ℕ, suc, ◌+◌, ◌<◌, List, [], ◌∷◌, ◌++◌, length, get_or, set, take, drop, replicate, ap, append_assoc, add-one, arith, drop-cons}
use Rattle.std.proofs.Math.Seq.{take-suc, set_at, length-take-le}
use Rattle.std.proofs.lemmas.List.{get_or-take}
use Rattle.sheet.specs.Refusal.{no_task}
use Rattle.plan_cases.proofs.accepted.Invariants.{numbers_at}
use Rattle.plan_cases.proofs.accepted.Goals as goal

-- One byte copied to the front of another list, after those before it.
copy_step : (xs ys : List ℕ) (i : ℕ) → i < length xs → i < length ys →
    set (take i xs ++ drop i ys) i (get_or xs i 0) ≡ take (i + 1) xs ++ drop (i + 1) ys
copy_step xs ys i h g =
    rw (
      add-one i,
      take-suc xs i 0 h,
      drop-cons ys i 0 g,
      set_at (take i xs) (get_or ys i 0) (drop (suc i) ys) (get_or xs i 0) i (length-take-le i xs (omega arith)),
      append_assoc (take i xs) (get_or xs i 0 ∷ []) (drop (suc i) ys),
    )

-- The same behind two numbers.
one_more : (plan numbers : List ℕ) (i : ℕ) → i < 18 → i < length plan → numbers ≡ numbers_at plan i →
    set numbers (i + 2) (get_or plan i 0) ≡ numbers_at plan (i + 1)
one_more plan numbers i h g e =
    let place : i + 2 ≡ suc (suc i) = omega arith in
    rw (e, place) (ap (λ (l : List ℕ). 0 ∷ no_task ∷ l) (copy_step plan (replicate 18 0) i g h))

pub loop-i-preserved : goal.loop-i-preserved
loop-i-preserved c =
    rw (c.from-in-loop-i.ensures, get_or-take 18 c.args.plan.now c.loop-i.i 0 (omega arith))
    (one_more c.args.plan.now c.loop-i.numbers c.loop-i.i (omega arith) (omega arith) c.loop-i.invariant)
