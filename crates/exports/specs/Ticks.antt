-- S8.7: a tick's answer as a number.
use Rattle.std.specs.Prelude.{ℕ, ◌+◌, ◌*◌, Err}
use Rattle.sheet.specs.Refusal.{no_task, answer_word}
use Rattle.dispatcher.specs.declared.tick.TickAnswer.{TickAnswer}
use Rattle.dispatcher.specs.declared.tick.TickAnswer.TheVariants.{Ran, Switched, Returned, Refused}

-- The word of a call that was accepted, and of a tick that ran: 0, and 256 times 255.
abbrev pub accepted_word : ℕ
accepted_word = 256 * no_task

-- S13.4: the number, and 256 times the task; a switch adds 65536, a return 131072.
unfoldable pub tick_word : TickAnswer → ℕ
tick_word Ran = accepted_word
tick_word (Switched task) = 65536 + 256 * task
tick_word Returned = 131072 + accepted_word
tick_word (Refused r) = answer_word (Err r)
