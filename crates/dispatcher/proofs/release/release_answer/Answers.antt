-- `dispatcher::release::release_answer`: not sound; no such task; else what the task's entry answers.
use Prim.Native.Nat.{◌≤◌}
use mathlib.Core.Bool.{true}
use mathlib.Core.Path.{◌≡◌, sym, ◌∙◌}
use native.Mathlib.Omega.{arith}
use lib.ListN.{length}
use Rattle.dispatcher.specs.Sound.{is_sound}
use Rattle.dispatcher.proofs.Soundness.{few_entries}
use Rattle.dispatcher.proofs.Releases.{unknown, known}
use Rattle.dispatcher.proofs.release.release_answer.Goals.{Else-not-is_sound}
use Rattle.dispatcher.proofs.release.release_answer.Goals as goal

-- Past the first test the state is sound, and the line has an entry for each task.
sound : (c : Else-not-is_sound) → is_sound c.args.state.now ≡ true
sound c = sym c.is_sound.ensures ∙ c.if-not-is_sound.false

long : (c : Else-not-is_sound) → c.args.state.now.count ≤ length c.args.state.now.entries
long c = omega (arith, few_entries c.args.state.now (sound c))

pub returns-then-from-task : goal.returns-then-from-task
returns-then-from-task c =
    let t = (goal.at.returns-then-from-task c).Else-not-is_sound in
    rw (sound t) (sym (unknown c.args.state.now c.args.task (long t) (omega (arith, c.from.ensures))))

pub bounds-state-task : goal.bounds-state-task
bounds-state-task c = omega (arith, c.from.ensures, few_entries c.args.state.now (sound (goal.at.bounds-state-task c).Else-not-is_sound))

pub returns : goal.returns
returns c =
    let t = (goal.at.returns c).Else-not-is_sound in
    rw (sound t) (c.release_answer.ensures ∙ sym (known c.args.state.now c.args.task (long t) (omega (arith, c.from.ensures))))
