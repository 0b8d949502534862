-- Laws of the records (S12.2): stores one behind the other, lengths, and the tasks of a state one at a time.
use Prim.Native.Nat.{ℕ, suc, ◌+◌, ◌*◌, ◌≤◌, ◌<◌}
use mathlib.Core.Path.{◌≡◌, refl, sym, ap, ◌∙◌}
use mathlib.Core.List.{List, [], ◌∷◌, ◌++◌, map}
use mathlib.Core.Bool.{Bool, true, false}
use mir.Val.{bool_byte}
use native.Mathlib.Numerals.{add-one}
use native.Mathlib.Omega.{arith}
use lib.ListN.{length, drop, set, length-append}
use lib.Seq.{sets, length-sets}
use Rattle.basics.specs.Lists.{bit}
use Rattle.basics.proofs.Bytes.{sets-append}
use Rattle.model.specs.Row.{Row}
use Rattle.model.specs.Step.{Model, release}
use Rattle.dispatcher.specs.declared.state.State.{State}
use Rattle.entries.specs.Entry.{row_of}
use Rattle.dispatcher.specs.Holds.{entries_of, model_of}
use Rattle.dispatcher.proofs.Entries.{entry_at, left_next, left_none}
use Rattle.std.specs.Prelude.{Ok, Err, unwrap_or}
use Rattle.dispatcher.specs.Answers.{Released, tick_number, tick_task}
use Rattle.sheet.specs.Refusal.{no_task}
use Rattle.dispatcher.specs.declared.tick.TickAnswer.{TickAnswer}
use Rattle.dispatcher.specs.declared.tick.TickAnswer.TheVariants.{Ran, Switched, Returned, Refused as TickRefused}
use Rattle.dispatcher.specs.Calls.{release_of}
use Rattle.guarantee.specs.Record.{Turn}
use Rattle.guarantee.specs.Runs.{Said, released, ticked}
use Rattle.basics.specs.Numbers.{u32_bytes}
use Rattle.guarantee.specs.Record.{outcome_of, outcome_number, refusal_number, named_task, said_number, said_task, task_bytes, rows_bytes, model_bytes, record_of, turn_of, turn_bytes}

pub u32_length : (x : ℕ) → length (u32_bytes x) ≡ 4
unfolding u32_bytes
u32_length x = refl

pub task_length : (r : Row) → length (task_bytes r) ≡ 9
unfolding task_bytes
task_length r =
    omega (arith, length-append (u32_bytes r.age) (u32_bytes r.job.ended), u32_length r.age, u32_length r.job.ended)

pub rows_length : (rows : List Row) → length (rows_bytes rows) ≡ 9 * length rows
rows_length [] = refl
rows_length (r ∷ rows) =
    omega (arith, length-append (task_bytes r) (rows_bytes rows), task_length r, rows_length rows)

pub record_length : (said : Said) (m : Model) → length (record_of said m) ≡ 4 + 9 * length m.rows
unfolding record_of model_bytes
record_length said m = omega (arith, rows_length m.rows)

-- A mark as a byte.
pub bit_of : (b : Bool) {x : ℕ} → x ≡ bool_byte b → x ≡ bit b
bit_of true e = e
bit_of false e = e

-- A task's 9 bytes.
pub task_stored : (out : List ℕ) (at alive : ℕ) (r : Row) → alive ≡ bit r.job.alive →
    sets (sets (set out at alive) (at + 1) (u32_bytes r.age)) (at + 5) (u32_bytes r.job.ended) ≡ sets out at (task_bytes r)
unfolding task_bytes
task_stored out at alive r e =
    let one : at + 1 ≡ suc at = omega arith in
    let five : at + 5 ≡ suc at + length (u32_bytes r.age) = omega (arith, u32_length r.age) in
    rw (e, five, one) (sym (sets-append (set out at (bit r.job.alive)) (suc at) (u32_bytes r.age) (u32_bytes r.job.ended)))

-- The mode's byte, and the tasks behind it.
pub state_stored : (out : List ℕ) (at mode : ℕ) (m : Model) → mode ≡ bit m.critical →
    sets (set out at mode) (at + 1) (rows_bytes m.rows) ≡ sets out at (model_bytes m)
unfolding model_bytes
state_stored out at mode m e = rw (e, add-one at)

-- As bytes: 0 where there is no refusal, and 255 where there is no task.
refusal_byte : (a : TickAnswer) → unwrap_or (refusal_number a) 0 ≡ tick_number a
refusal_byte Ran = refl
refusal_byte (Switched i) = refl
refusal_byte Returned = refl
refusal_byte (TickRefused r) = refl

task_byte : (a : TickAnswer) → unwrap_or (named_task a) no_task ≡ tick_task a
task_byte Ran = refl
task_byte (Switched i) = refl
task_byte Returned = refl
task_byte (TickRefused r) = refl

-- The record of a turn.
pub turn_stored : (out : List ℕ) (at : ℕ) (t : Turn) {number refusal task : ℕ} → number ≡ outcome_number t.answer →
    refusal ≡ unwrap_or (refusal_number t.answer) 0 → task ≡ unwrap_or (named_task t.answer) no_task →
    sets (set (set (set out at number) (at + 1) refusal) (at + 2) task) (at + 3) (model_bytes (model_of t.state)) ≡ sets out at (turn_bytes t)
unfolding turn_bytes
turn_stored out at t number_is refusal_is task_is =
    let one : at + 1 ≡ suc at = omega arith in
    let two : at + 2 ≡ suc (suc at) = omega arith in
    let three : at + 3 ≡ suc (suc (suc at)) = omega arith in
    rw (number_is, refusal_is, task_is, refusal_byte t.answer, task_byte t.answer, one, two, three)

-- On the way through a state's tasks: what is written, with what is left to write, is the whole.
pub record Putting (whole : List ℕ) (bytes : ℕ) (s : State) (start : ℕ) (out : List ℕ) (i : ℕ) : Type 0 where
  pub size : length out ≡ bytes
  pub upto : i ≤ s.count
  pub room : start + 9 * s.count ≤ bytes
  pub left : sets out (start + 9 * i) (rows_bytes (map row_of (drop i (entries_of s)))) ≡ whole

module _ (s : State) (long : s.count ≤ length s.entries) where
  pub putting_none : (start : ℕ) (out : List ℕ) → start + 9 * s.count ≤ length out →
      Putting (sets out start (rows_bytes (model_of s).rows)) (length out) s start out 0
  unfolding model_of
  putting_none start out room =
      let none : start + 9 * 0 ≡ start = omega arith in
      record { size = refl; upto = omega arith; room = room; left = rw none refl }

  pub putting_more : (whole : List ℕ) (bytes start : ℕ) (out : List ℕ) (i : ℕ) → i < s.count → Putting whole bytes s start out i →
      Putting whole bytes s start (sets out (start + 9 * i) (task_bytes (row_of (entry_at s i)))) (i + 1)
  putting_more whole bytes start out i h p =
      let r = row_of (entry_at s i) in
      let rest = rows_bytes (map row_of (drop (suc i) (entries_of s))) in
      let next : start + 9 * (i + 1) ≡ start + 9 * i + length (task_bytes r) = omega (arith, task_length r) in
      let left : sets out (start + 9 * i) (task_bytes r ++ rest) ≡ whole = rw (left_next s long i h) at p.left in
      record {
        size = length-sets out (start + 9 * i) (task_bytes r) ∙ p.size;
        upto = omega arith;
        room = p.room;
        left = rw (next, add-one i) (sym (sets-append out (start + 9 * i) (task_bytes r) rest) ∙ left);
      }

  pub putting_all : (whole : List ℕ) (bytes start : ℕ) (out : List ℕ) (i : ℕ) → s.count ≤ i → Putting whole bytes s start out i → out ≡ whole
  putting_all whole bytes start out i h p = rw (left_none s long i h) at p.left

-- A turn from what a Release or a Tick returned.
pub turn_released : (s : State) (i : ℕ) (r : Released) → r ≡ release_of s i →
    ◌≡◌ {A = Turn} (record { state = r.state; answer = outcome_of (released r.answer) }) (turn_of s (release i))
unfolding turn_of
turn_released s i r e = ap (λ (x : Released). record { state = x.state; answer = outcome_of (released x.answer) }) e

-- An outcome says the number and the task of the answer.
pub outcome_said : (said : Said) → (tick_number (outcome_of said) ≡ said_number said) × (tick_task (outcome_of said) ≡ said_task said)
outcome_said (released (Ok x)) = (refl, refl)
outcome_said (released (Err r)) = (refl, refl)
outcome_said (ticked a) = (refl, refl)
