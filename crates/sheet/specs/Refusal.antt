-- S3: answers, the refusals and what they say, causes put in order, and what a call leaves in a lent buffer.
use Rattle.std.specs.Prelude.{ℕ, zero, suc, ◌+◌, ◌*◌, Bool, true, false, List, ◌++◌, ◌≡◌, length, drop, Option, Some, None, unwrap_or, Result, Ok, Err, ⊤}
use Rattle.std.specs.Result.{result_and}
use Rattle.sheet.specs.declared.refusal.Refusal.{Refusal}
use Rattle.sheet.specs.declared.refusal.Refusal.TheVariants.{BadHeader, BadPlace, BadRecord, BadFigure, BadMask, NotHeavy, NoShare, NoFit, ShortBuffer, NotSound, UnknownTask, LowInCritical, TooEarly, WrongCount, NotRunning, WrongLength, BadText, BadGraph, FigureOutside}

-- S3.1: what a call answers: that it did what it was asked, or the refusal.
abbrev pub Answer : Type 0
Answer = Result ⊤ Refusal

-- S9: the number of a refusal.
abbrev pub number : Refusal → ℕ
number BadHeader = 1
number (BadPlace i) = 2
number (BadRecord i) = 3
number (BadFigure i) = 4
number (BadMask i) = 5
number (NotHeavy i) = 6
number (NoShare i) = 7
number NoFit = 8
number ShortBuffer = 9
number NotSound = 10
number UnknownTask = 11
number (LowInCritical i) = 12
number (TooEarly i) = 13
number WrongCount = 14
number (NotRunning i) = 15
number WrongLength = 16
number BadText = 17
number BadGraph = 18
number FigureOutside = 19

-- S9: the task that a refusal names, if it names one.
abbrev pub task : Refusal → Option ℕ
task BadHeader = None
task (BadPlace i) = Some i
task (BadRecord i) = Some i
task (BadFigure i) = Some i
task (BadMask i) = Some i
task (NotHeavy i) = Some i
task (NoShare i) = Some i
task NoFit = None
task ShortBuffer = None
task NotSound = None
task UnknownTask = None
task (LowInCritical i) = Some i
task (TooEarly i) = Some i
task WrongCount = None
task (NotRunning i) = Some i
task WrongLength = None
task BadText = None
task BadGraph = None
task FigureOutside = None

-- S3.1: what stands for the task where an answer names none.
abbrev pub no_task : ℕ
no_task = 255

-- S3.1: the number of an answer, 0 where the call is accepted.
abbrev pub number_of : {A : Type 0} → Result A Refusal → ℕ
number_of (Ok x) = 0
number_of (Err r) = number r

-- S3.1: the task of an answer, 255 where the call is accepted or the refusal names none.
abbrev pub task_of : {A : Type 0} → Result A Refusal → ℕ
task_of (Ok x) = no_task
task_of (Err r) = unwrap_or (task r) no_task

-- S3.2: the answer to one cause: refused if it holds.
abbrev pub refused_if : Bool → Refusal → Answer
refused_if true r = Err r
refused_if false r = Ok tt

infixr 40 ◌or_else◌
-- S3.2: two causes in order: the first refusal counts.
abbrev pub ◌or_else◌ : {A : Type 0} → Answer → Result A Refusal → Result A Refusal
◌or_else◌ first later = result_and first later

-- S3.2: a cause put to count tasks, from the task first on: the first of them at fault is named.
unfoldable pub first_over : (ℕ → Answer) → ℕ → ℕ → Answer
first_over cause first zero = Ok tt
first_over cause first (suc count) = cause first or_else first_over cause (suc first) count

-- S3.1: the number and the task that an answer says.
pub record Says {A : Type 0} (a : Result A Refusal) (number task : ℕ) : Type 0 where
  pub number_is : number_of a ≡ number
  pub task_is : task_of a ≡ task

-- S13.4: an answer in one word: its number, and 256 times its task.
unfoldable pub answer_word : Answer → ℕ
answer_word a = number_of a + 256 * task_of a

-- S3.4: the bytes that a call writes go to the front of the buffer, and what is behind them stays; a refusal leaves
-- all as it was.
abbrev pub written_if : Answer → List ℕ → List ℕ → List ℕ
written_if (Ok x) bytes buffer = bytes ++ drop (length bytes) buffer
written_if (Err r) bytes buffer = buffer
