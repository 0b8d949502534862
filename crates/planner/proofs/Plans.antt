-- The plan of a sheet: its parts grow task by task and then stand one behind the other, and the answer goes refusal by
-- refusal.
use Prim.Native.Nat.{ℕ, ◌+◌, ◌*◌, ◌≤◌, ◌<◌}
use mathlib.Core.Path.{◌≡◌, refl, sym, ap, ◌∙◌}
use mathlib.Core.Bool.{true, false}
use mathlib.Core.List.{List, ◌++◌}
use native.Mathlib.Omega.{arith}
use lib.ListN.{length, set, drop, length-append}
use lib.Seq.{sets, sets-eq}
use borrow.Author.Tests.{lt-ltb, le-ltb}
use Rattle.std.specs.Prelude.{Ok, Err}
use Rattle.sheet.specs.declared.refusal.Refusal.{Refusal}
use Rattle.sheet.specs.declared.refusal.Refusal.TheVariants.{ShortBuffer}
use Rattle.sheet.specs.Format.{task_set_of}
use Rattle.allocation.specs.declared.allocate.Allocation.{Allocation}
use Rattle.allocation.specs.Allocation.{allocation_at, allocation_answer, allocations_for}
use Rattle.basics.specs.Numbers.{u32_bytes}
use Rattle.basics.specs.Lists.{range}
use Rattle.basics.proofs.Bytes.{sets-append, sets_apart}
use Rattle.planner.specs.Plan.{block_of, block_bytes, virtual_bytes, remainder_bytes, plan_bytes, plan_answer, planned}
use Rattle.planner.specs.means.Writing.{with_task}
use Rattle.planner.proofs.Parts.{blocks-length, blocks_more, virtuals_length, virtuals_more, remainders_length, remainders_more}

-- A task's bytes set one part after the other, where they belong.
pub task_set : (n i : ℕ) (a : Allocation) (old first second third fourth : List ℕ) {in_typical in_critical in_virtuals in_remainders v : ℕ} →
    first ≡ sets old in_typical (block_of false a) → in_typical ≡ 2 * i →
    second ≡ sets first in_critical (block_of true a) → in_critical ≡ 2 * n + 2 * i →
    third ≡ sets second in_virtuals (u32_bytes v) → in_virtuals ≡ 4 * n + 4 * i → v ≡ a.virtual_deadline →
    fourth ≡ set third in_remainders a.remainder → in_remainders ≡ 8 * n + i →
    fourth ≡ with_task n i a old
unfolding with_task
task_set n i a old first second third fourth e₁ at₁ e₂ at₂ e₃ at₃ v-is e₄ at₄ =
    rw (e₄, e₃, e₂, e₁, at₁, at₂, at₃, at₄, v-is)

-- Bytes set behind those that begin the buffer.
behind : (old xs ys : List ℕ) (place : ℕ) → place ≡ length xs → sets (sets old 0 xs) place ys ≡ sets old 0 (xs ++ ys)
behind old xs ys place here =
    let e : 0 + length xs ≡ place = omega arith in
    rw (← e) (sym (sets-append old 0 xs ys))

-- Bytes set before a part leave it as it is.
before : (old new : List ℕ) (at : ℕ) (own : List ℕ) (place : ℕ) (part : List ℕ) → at + length own ≤ place → sets old at own ≡ new →
    sets (sets old place part) at own ≡ sets new place part
before old new at own place part apart e = sets_apart old at own place part apart ∙ ap (λ (l : List ℕ). sets l place part) e

module _ (n : ℕ) (allocations : List Allocation) (old : List ℕ) where
  -- The buffer with these bytes in the four parts, and with those of the first i tasks.
  abbrev parts : List ℕ → List ℕ → List ℕ → List ℕ → List ℕ
  parts typical critical virtuals remainders =
      sets (sets (sets (sets old 0 typical) (2 * n) critical) (4 * n) virtuals) (8 * n) remainders

  unfoldable pub parts_up_to : ℕ → List ℕ
  parts_up_to i =
      parts (block_bytes false i allocations) (block_bytes true i allocations) (virtual_bytes i allocations) (remainder_bytes i allocations)

  pub parts_none : old ≡ parts_up_to 0
  unfolding parts_up_to block_bytes virtual_bytes remainder_bytes range
  parts_none = refl

  -- One task more: each part takes its bytes, and the parts behind it stay as they are.
  pub parts_more : (i : ℕ) → i < n → with_task n i (allocation_at allocations i) (parts_up_to i) ≡ parts_up_to (i + 1)
  unfolding parts_up_to with_task u32_bytes
  parts_more i inside =
      let a = allocation_at allocations i in
      let critical = block_bytes true i allocations in
      let virtuals = virtual_bytes i allocations in
      let remainders = remainder_bytes i allocations in
      let typical' = block_bytes false (i + 1) allocations in
      let critical' = block_bytes true (i + 1) allocations in
      let virtuals' = virtual_bytes (i + 1) allocations in
      let first : sets (parts (block_bytes false i allocations) critical virtuals remainders) (2 * i) (block_of false a)
      ≡ parts typical' critical virtuals remainders =
      before _ _ (2 * i) (block_of false a) (8 * n) remainders (omega arith)
      (before _ _ (2 * i) (block_of false a) (4 * n) virtuals (omega arith)
      (before _ _ (2 * i) (block_of false a) (2 * n) critical (omega arith) (blocks_more allocations false old 0 i (2 * i) (omega arith)))) in
      let second : sets (parts typical' critical virtuals remainders) (2 * n + 2 * i) (block_of true a) ≡ parts typical' critical' virtuals remainders =
      before _ _ (2 * n + 2 * i) (block_of true a) (8 * n) remainders (omega arith)
      (before _ _ (2 * n + 2 * i) (block_of true a) (4 * n) virtuals (omega arith) (blocks_more allocations true _ (2 * n) i _ refl)) in
      let third : sets (parts typical' critical' virtuals remainders) (4 * n + 4 * i) (u32_bytes a.virtual_deadline)
      ≡ parts typical' critical' virtuals' remainders =
      before _ _ (4 * n + 4 * i) (u32_bytes a.virtual_deadline) (8 * n) remainders (omega arith) (virtuals_more allocations _ (4 * n) i _ refl) in
      rw (first, second, third) (remainders_more allocations _ (8 * n) i _ refl)

  blocks_end : length (block_bytes false n allocations ++ block_bytes true n allocations) ≡ 4 * n
  blocks_end =
      length-append (block_bytes false n allocations) (block_bytes true n allocations)
      ∙ omega (arith, blocks-length allocations false n, blocks-length allocations true n)

  virtuals_end : length (block_bytes false n allocations ++ block_bytes true n allocations ++ virtual_bytes n allocations) ≡ 8 * n
  virtuals_end =
      length-append (block_bytes false n allocations ++ block_bytes true n allocations) (virtual_bytes n allocations)
      ∙ omega (arith, blocks_end, virtuals_length allocations n)

  plan_length : length (plan_bytes n allocations) ≡ 9 * n
  unfolding plan_bytes
  plan_length =
      length-append (block_bytes false n allocations ++ block_bytes true n allocations ++ virtual_bytes n allocations) (remainder_bytes n allocations)
      ∙ omega (arith, virtuals_end, remainders_length allocations n)

  -- All tasks: the parts stand one behind the other.
  pub parts_all : parts_up_to n ≡ sets old 0 (plan_bytes n allocations)
  unfolding parts_up_to plan_bytes
  parts_all =
      let typical = block_bytes false n allocations in
      let critical = block_bytes true n allocations in
      let virtuals = virtual_bytes n allocations in
      rw (
        behind old typical critical (2 * n) (sym (blocks-length allocations false n)),
        behind old (typical ++ critical) virtuals (4 * n) (sym blocks_end),
      )
      (behind old (typical ++ critical ++ virtuals) (remainder_bytes n allocations) (8 * n) (sym virtuals_end))

  -- The bytes at the front of the buffer.
  pub plan_set : 9 * n ≤ length old → sets old 0 (plan_bytes n allocations) ≡ plan_bytes n allocations ++ drop (length (plan_bytes n allocations)) old
  plan_set fit =
      let e : 0 + length (plan_bytes n allocations) ≡ length (plan_bytes n allocations) = omega arith in
      sets-eq (plan_bytes n allocations) old 0 (omega (arith, plan_length)) ∙ rw e

-- The answer of a plan, refusal by refusal.
module _ (s : List ℕ) (room : ℕ) where
  pub plan_refused : {r : Refusal} → allocation_answer s ≡ Err r → plan_answer s room ≡ Err r
  unfolding plan_answer
  plan_refused e = rw e

  pub plan_room : allocation_answer s ≡ Ok tt → room < 9 * (task_set_of s).count → plan_answer s room ≡ Err ShortBuffer
  unfolding plan_answer
  plan_room e short = rw (e, lt-ltb room _ short)

  pub plan_accepted : allocation_answer s ≡ Ok tt → 9 * (task_set_of s).count ≤ room → plan_answer s room ≡ Ok tt
  unfolding plan_answer
  plan_accepted e enough = rw (e, le-ltb room _ enough)

-- The buffer after a refusal, and after success.
module _ (s buffer : List ℕ) where
  pub planned_refused : {r : Refusal} → plan_answer s (length buffer) ≡ Err r → planned s buffer ≡ buffer
  unfolding planned
  planned_refused e = rw e

  pub planned_accepted : plan_answer s (length buffer) ≡ Ok tt → 9 * (task_set_of s).count ≤ length buffer →
      planned s buffer ≡ sets buffer 0 (plan_bytes (task_set_of s).count (allocations_for s))
  unfolding planned
  planned_accepted e fit = rw (e, plan_set (task_set_of s).count (allocations_for s) buffer fit)
