-- `dispatcher::state::State::has_sound_entries`: the entry of a turn is that of the next task, and what is passed, with
-- what is left, is the whole.
use Prim.Native.Nat.{◌≤◌, ◌<◌}
use mathlib.Core.Path.{◌≡◌, sym, ap, ◌∙◌}
use native.Mathlib.Omega.{arith}
use lib.ListN.{length, take, get_or}
use lib.Seq.{length-take-le}
use Rattle.entries.specs.declared.state.TaskState.{TaskState}
use Rattle.dispatcher.proofs.Entries.{no_entry, entry_at, turn_entry, passed_none, passed_broken, passed_more}
use Rattle.dispatcher.proofs.state.State.has_sound_entries.Goals.{Start, In-loop-e}
use Rattle.dispatcher.proofs.state.State.has_sound_entries.Goals as goal

-- The line has sixteen entries.
long : (c : Start) → c.args.self.now.count ≤ length c.args.self.now.entries
long c = omega arith

pub loop-e-init : goal.loop-e-init
loop-e-init c = passed_none c.args.self.now (long (goal.at.loop-e-init c).Start)

inside : (c : In-loop-e) → c.loop-e.e-index < c.args.self.now.count
inside c = omega (arith, c.from.ensures, c.loop-e-test.true, length-take-le _ c.args.self.now.entries (long (goal.at.In-loop-e c).Start))

here : (c : In-loop-e) → get_or (take c.from.result c.args.self.now.entries) c.loop-e.e-index no_entry ≡ entry_at c.args.self.now c.loop-e.e-index
here c = turn_entry c.args.self.now c.from.result c.loop-e.e-index c.from.ensures (inside c)

pub returns-then-not-is_sound : goal.returns-then-not-is_sound
returns-then-not-is_sound c =
    let t = (goal.at.returns-then-not-is_sound c).In-loop-e in
    rw (passed_broken c.args.self.now (long (goal.at.returns-then-not-is_sound c).Start) _ _ _ (inside t) (rw (here t) at (sym c.is_sound.ensures ∙ c.if-not-is_sound.true)) c.loop-e.invariant)

pub loop-e-preserved : goal.loop-e-preserved
loop-e-preserved c =
    let t = (goal.at.loop-e-preserved c).In-loop-e in
    let typical : c.from-typical.result ≡ (entry_at c.args.self.now c.loop-e.e-index).share.typical =
    c.from-typical.ensures ∙ c.in_mode.ensures ∙ ap (λ (e : TaskState). e.share.typical) (here t) in
    let critical : c.from-critical.result ≡ (entry_at c.args.self.now c.loop-e.e-index).share.critical =
    c.from-critical.ensures ∙ c.in_mode-in-loop-e.ensures ∙ ap (λ (e : TaskState). e.share.critical) (here t) in
    rw (typical, critical)
    (passed_more c.args.self.now (long (goal.at.loop-e-preserved c).Start) _ _ _ (inside t)
    (rw (here t) at (sym c.is_sound.ensures ∙ c.if-not-is_sound.false))
    (omega (arith, typical, c.from-typical.ensures))
    (omega (arith, critical, c.from-critical.ensures))
    c.loop-e.invariant)
