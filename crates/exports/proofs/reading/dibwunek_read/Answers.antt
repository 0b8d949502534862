-- `exports::reading::dibwunek_read`: the reader's answer, without the set.
use mathlib.Core.Path.{◌≡◌, refl, ap, ◌∙◌}
use Rattle.std.specs.Result.{result_and}
use Rattle.std.specs.Prelude.{Result, Ok, Err}
use Rattle.sheet.specs.declared.refusal.Refusal.{Refusal}
use Rattle.sheet.specs.declared.task.TaskSet.{TaskSet}
use Rattle.sheet.specs.Refusal.{Answer, ◌or_else◌, answer_word}
use Rattle.sheet.specs.Format.{task_set_of}
use Rattle.reader.specs.Reading.{read_of, read_answer}
use Rattle.exports.proofs.reading.dibwunek_read.Goals as goal

without_set : (a : Answer) (set : TaskSet) → result_and {T = TaskSet} {U = Unit {0}} (a or_else Ok set) (Ok tt) ≡ a
without_set (Ok u) set = refl
without_set (Err r) set = refl

pub returns : goal.returns
unfolding read_of
returns c =
    c.answer_word.ensures
    ∙ ap answer_word (c.and.ensures ∙ ap (λ (r : Result TaskSet Refusal). result_and {U = Unit {0}} r (Ok tt)) c.read.ensures.whole
    ∙ without_set (read_answer c.args.sheet.now) (task_set_of c.args.sheet.now))
