-- A reading by its answer, cause by cause.
use Prim.Native.Nat.{ℕ, ◌≤◌}
use mathlib.Core.Bool.{true, false, ◌&&◌}
use mathlib.Core.List.{List}
use mathlib.Core.Path.{◌≡◌, refl, sym, ◌∙◌}
use lib.Dec.{leb}
use lib.ListN.{length}
use Rattle.std.specs.Prelude.{Result, Ok, Err}
use Rattle.std.proofs.lemmas.Bool.{and_parts}
use Rattle.basics.proofs.Logic.{within_bounds}
use Rattle.sheet.specs.declared.refusal.Refusal.{Refusal}
use Rattle.sheet.specs.declared.refusal.Refusal.TheVariants.{BadHeader}
use Rattle.sheet.specs.declared.task.Task.{Task}
use Rattle.sheet.specs.declared.task.TaskSet.{TaskSet}
use Rattle.sheet.specs.Refusal.{Answer, ◌or_else◌, first_over}
use Rattle.sheet.specs.Format.{processors_of, count_of, tasks_below, task_set_of}
use Rattle.basics.specs.Numbers.{within}
use Rattle.reader.specs.Reading.{header_lawful, header_answer, place_answer, end_answer, record_answer, read_of, read_answer}
use Rattle.sheet.proofs.Faults.{after_accepted, after_refused, or_else_ok, or_else_err}

-- The task set of a sheet, by its fields.
pub set_whole : (s : List ℕ) (processors count : ℕ) (tasks : List Task) → processors ≡ processors_of s → count ≡ count_of s →
    tasks ≡ tasks_below s (count_of s) → ◌≡◌ {A = TaskSet} (record { processors = processors; count = count; tasks = tasks }) (task_set_of s)
unfolding task_set_of
set_whole s processors count tasks p c t = rw (p, c, t)

-- Causes in order may be bracketed either way.
pub or_else_assoc : {A : Type 0} (x y : Answer) (z : Result A Refusal) → ((x or_else y) or_else z) ≡ (x or_else y or_else z)
or_else_assoc (Ok u) y z = refl
or_else_assoc (Err r) y z = refl

-- The whole answer, cause by cause.
module _ (s : List ℕ) where
  pub answer_header : header_lawful s ≡ false → read_of s ≡ Err BadHeader
  unfolding read_of read_answer header_answer
  answer_header e = rw e

  pub answer_directory : header_lawful s ≡ true →
      ((first_over (place_answer s) 0 (count_of s) or_else end_answer s) or_else first_over (record_answer s) 0 (count_of s) or_else Ok (task_set_of s))
      ≡ read_of s
  unfolding read_of read_answer header_answer
  answer_directory e =
      rw (e, or_else_assoc (first_over (place_answer s) 0 (count_of s)), or_else_assoc (first_over (place_answer s) 0 (count_of s)), or_else_assoc (end_answer s))

  -- A lawful header, and the answer on the directory of the n tasks that it names.
  module _ (n : ℕ) (count : n ≡ count_of s) (lawful : header_lawful s ≡ true) (places : Answer)
      (said : places ≡ (first_over (place_answer s) 0 n or_else end_answer s)) where
    pub places_refused : (r : Refusal) → places ≡ Err r → Err r ≡ read_of s
    places_refused r refused = sym (after_refused _ _ (rw count at (sym said) ∙ refused)) ∙ answer_directory lawful

    pub places_kept : (whole : Result TaskSet Refusal) → places ≡ Ok tt → whole ≡ (first_over (record_answer s) 0 n or_else Ok (task_set_of s)) →
        whole ≡ read_of s
    places_kept whole kept same = same ∙ rw count (sym (after_accepted _ _ (rw count at (sym said) ∙ kept)) ∙ answer_directory lawful)

-- A lawful header names 1 to 16 tasks.
pub header_count : (s : List ℕ) → header_lawful s ≡ true → (1 ≤ count_of s) × (count_of s ≤ 16)
unfolding header_lawful
header_count s e =
    let both = (and_parts (leb 2 (length s) && within 1 64 (processors_of s)) (within 1 16 (count_of s)) (and_parts _ _ e).0).1 in
    within_bounds 1 16 (count_of s) both

-- What a reading says of the answer: the sheet's task set where it is accepted, and else its refusal.
pub read_ok : (s : List ℕ) {set : TaskSet} → read_of s ≡ Ok set → (read_answer s ≡ Ok tt) × (set ≡ task_set_of s)
unfolding read_of
read_ok s e = or_else_ok (read_answer s) e

pub read_err : (s : List ℕ) {r : Refusal} → read_of s ≡ Err r → read_answer s ≡ Err r
unfolding read_of
read_err s e = or_else_err (read_answer s) _ e

pub read_accepted : (s : List ℕ) → read_answer s ≡ Ok tt → read_of s ≡ Ok (task_set_of s)
unfolding read_of
read_accepted s e = after_accepted _ _ e
