-- `dispatcher::tick::pass_over`: each refusal is the tick's; a turn adds what the next task's entry says, and makes
-- its part of the tick.
use Prim.Native.Nat.{ℕ, ◌+◌, ◌≤◌}
use mathlib.Core.Bool.{true, false, not, ◌&&◌}
use Rattle.std.specs.Prelude.{None}
use Rattle.std.proofs.Common.{rules}
use mathlib.Core.Path.{◌≡◌, sym, ap, ap₂, ◌∙◌}
use native.Mathlib.Omega.{arith}
use lib.Dec.{leb}
use lib.ListN.{length, get_or}
use Rattle.basics.specs.Numbers.{within}
use Rattle.nodes.specs.Sets.{is_within}
use Rattle.sheet.specs.declared.refusal.Refusal.{Refusal}
use Rattle.shares.specs.Totals.{share_in}
use Rattle.model.specs.Row.{is_subset, running_set, ticked_row, has_high_job, is_late}
use Rattle.model.specs.Step.{granted}
use Rattle.entries.specs.declared.state.TaskState.{TaskState}
use Rattle.entries.specs.Entry.{row_of, with_row}
use Rattle.entries.specs.Sound.{entry_sound}
use Rattle.entries.proofs.NodeSets.{within_subset}
use Rattle.entries.proofs.Soundness.{few_nodes}
use Rattle.dispatcher.specs.declared.tick.TickAnswer.TheVariants.{Refused}
use Rattle.dispatcher.specs.Holds.{model_of}
use Rattle.dispatcher.proofs.Soundness.{ranges_broken, count-within}
use Rattle.dispatcher.proofs.Entries.{no_entry, entry_at}
use Rattle.dispatcher.proofs.Rows.{granted_entry}
use Rattle.dispatcher.proofs.Ticks.{test_after, scanned_none, scanned_entry, scanned_broken, scanned_more, tick_unsound, tick_miscounted, scanned_unfit, scanned_wrong, scanned_parts, scanned_passed}
use Rattle.dispatcher.proofs.tick.pass_over.Goals.{Start, Else-not-is_in_range, Else-not-is_sound, Else-not-fits}
use Rattle.dispatcher.proofs.tick.pass_over.Goals as goal

-- The line has sixteen entries.
sixteen : (c : Start) → length c.args.state.now.entries ≡ 16
sixteen c = omega arith

pub returns-then-reports-from-clause-refused : goal.returns-then-reports-from-clause-refused
returns-then-reports-from-clause-refused c =
    tick_miscounted c.args.state.now c.args.reports.now (sixteen (goal.at.returns-then-reports-from-clause-refused c).Start)
    (λ e. c.if-reports-from.true (e ∙ sym c.from.ensures))
    ∙ ap (λ (r : Refusal). record { state = c.args.state.now; answer = Refused r }) (sym c.miscounted.ensures)

pub returns-then-not-is_in_range-clause-refused : goal.returns-then-not-is_in_range-clause-refused
returns-then-not-is_in_range-clause-refused c =
    tick_unsound c.args.state.now c.args.reports.now (ranges_broken c.args.state.now (sym c.is_in_range.ensures ∙ c.if-not-is_in_range.true))

-- Past the first two tests: M and n are in range, there is an entry and a report for each task.
ranges : (c : Else-not-is_in_range) → (within 1 64 c.args.state.now.processors && within 1 16 c.args.state.now.count) ≡ true
ranges c = sym c.is_in_range.ensures ∙ c.if-not-is_in_range.false

few : (c : Else-not-is_in_range) → c.args.state.now.count ≤ 16
few c = count-within c.args.state.now (ranges c)

long : (c : Else-not-is_in_range) → c.args.state.now.count ≤ length c.args.state.now.entries
long c = omega (arith, few c, sixteen (goal.at.Else-not-is_in_range c).Start)

same : (c : Else-not-is_in_range) → length c.args.reports.now ≡ c.args.state.now.count
same c = c.if-reports-from.false ∙ c.from.ensures

pub loop-i-init : goal.loop-i-init
loop-i-init c =
    let none : c.default-pass.result ≡ record { typical = 0; critical = 0; wrong = None; late = None; high = false } = search rules in
    rw none (scanned_none c.args.state.now c.args.reports.now (long (goal.at.loop-i-init c).Else-not-is_in_range))

pub returns-then-not-is_sound-clause-refused : goal.returns-then-not-is_sound-clause-refused
returns-then-not-is_sound-clause-refused c =
    let t = (goal.at.returns-then-not-is_sound-clause-refused c).Else-not-is_in_range in
    tick_unsound c.args.state.now c.args.reports.now
    (scanned_broken c.args.state.now c.args.reports.now (long t) c.loop-i.i _ _ _ _ _ _ c.loop-i.invariant (ranges t) (omega arith)
    (ap entry_sound (sym (scanned_entry c.args.state.now c.args.reports.now (long t) _ _ _ _ _ _ _ _ c.loop-i.invariant (omega arith) c.from-in-loop-i.ensures))
    ∙ sym c.is_sound.ensures
    ∙ c.if-not-is_sound.true))

-- The entry of the turn is as it came, and sound.
untouched : (c : Else-not-is_sound) → get_or c.loop-i.state.entries c.from-in-loop-i.result no_entry ≡ entry_at c.args.state.now c.loop-i.i
untouched c =
    scanned_entry c.args.state.now c.args.reports.now (long (goal.at.Else-not-is_sound c).Else-not-is_in_range) _ _ _ _ _ _ _ _ c.loop-i.invariant (omega arith) c.from-in-loop-i.ensures

sound : (c : Else-not-is_sound) → entry_sound (entry_at c.args.state.now c.loop-i.i) ≡ true
sound c = ap entry_sound (sym (untouched c)) ∙ sym c.is_sound.ensures ∙ c.if-not-is_sound.false

few_here : (c : Else-not-is_sound) → (get_or c.loop-i.state.entries c.from-in-loop-i.result no_entry).nodes ≤ 32
few_here c = rw (untouched c) (few_nodes _ (sound c))

pub running-requires : goal.running-requires
running-requires c = few_here (goal.at.running-requires c).Else-not-is_sound

pub tick-requires : goal.tick-requires
tick-requires c = few_here (goal.at.tick-requires c).Else-not-is_sound

pub loop-i-preserved : goal.loop-i-preserved
unfolding with_row
loop-i-preserved c =
    let s = c.args.state.now in
    let reports = c.args.reports.now in
    let t = (goal.at.loop-i-preserved c).Else-not-is_in_range in
    let u = (goal.at.loop-i-preserved c).Else-not-is_sound in
    let report = get_or reports c.loop-i.i 0 in
    let e = entry_at s c.loop-i.i in
    let stored : c.tick.new.self ≡ with_row e (ticked_row (row_of e) report) =
    c.tick.ensures
    ∙ ap₂ (λ (x : TaskState) (n : ℕ). with_row x (ticked_row (row_of x) (get_or reports n 0))) (untouched u) c.from-in-loop-i-2.ensures in
    let runs : c.running.result ≡ running_set (granted (model_of s) c.loop-i.i) (row_of e) =
    c.running.ensures
    ∙ ap (λ (x : TaskState). running_set (share_in s.critical x.share) (row_of x)) (untouched u)
    ∙ ap (λ (n : ℕ). running_set n (row_of e)) (sym (granted_entry s (long t) c.loop-i.i (omega arith))) in
    let inside : c.is_subset-wrong.result ≡ is_subset report (running_set (granted (model_of s) c.loop-i.i) (row_of e)) =
    c.is_subset-wrong.ensures
    ∙ ap₂ (is_within 32) (c.from_bits.ensures ∙ ap (λ (n : ℕ). get_or reports n 0) c.from-in-loop-i-2.ensures) runs
    ∙ within_subset report _ (omega (arith, c.type_inv.reports c.loop-i.i)) in
    let typical : c.add.new.self.typical ≡ c.loop-i.pass.typical + e.share.typical =
    c.add.ensures.typical ∙ ap (λ (x : TaskState). c.loop-i.pass.typical + x.share.typical) stored in
    let critical : c.add.new.self.critical ≡ c.loop-i.pass.critical + e.share.critical =
    c.add.ensures.critical ∙ ap (λ (x : TaskState). c.loop-i.pass.critical + x.share.critical) stored in
    rw c.from-in-loop-i.ensures
    (scanned_more s reports (long t) c.loop-i.i _ _ _ _ _ c.loop-i.state _ _ _ _ _ (not c.is_subset-wrong.result) c.is_late.result c.has_high_job.result c.tick.new.self
    c.loop-i.invariant
    (same t)
    (omega arith)
    (sound u)
    (omega (arith, typical, c.add.ensures.small.0))
    (omega (arith, critical, c.add.ensures.small.1))
    typical
    critical
    c.add.ensures.wrong
    c.add.ensures.late
    c.add.ensures.high
    (ap not inside)
    (c.is_late.ensures ∙ test_after is_late e report _ stored)
    (c.has_high_job.ensures ∙ test_after has_high_job e report _ stored)
    stored)

pub returns-then-not-fits-clause-refused : goal.returns-then-not-fits-clause-refused
returns-then-not-fits-clause-refused c =
    let t = (goal.at.returns-then-not-fits-clause-refused c).Else-not-is_in_range in
    scanned_unfit c.args.state.now c.args.reports.now (long t) (same t) c.loop-i.i c.loop-i.pass c.loop-i.state c.loop-i.invariant (omega arith) (ranges t)
    (sym c.fits.ensures ∙ c.if-not-fits.true)

-- Past the last test the shares fit.
fit : (c : Else-not-fits)
    → (leb c.loop-i.pass.typical c.args.state.now.processors && leb c.loop-i.pass.critical c.args.state.now.processors) ≡ true
fit c = sym c.fits.ensures ∙ c.if-not-fits.false

pub returns-in-Some-clause-refused : goal.returns-in-Some-clause-refused
returns-in-Some-clause-refused c =
    let t = (goal.at.returns-in-Some-clause-refused c).Else-not-is_in_range in
    scanned_wrong c.args.state.now c.args.reports.now (long t) (same t) c.loop-i.i c.loop-i.pass c.loop-i.state c.loop-i.invariant (omega arith) (ranges t)
    (fit (goal.at.returns-in-Some-clause-refused c).Else-not-fits) c.in-Some.is

pub returns-in-Some-clause-stopped : goal.returns-in-Some-clause-stopped
returns-in-Some-clause-stopped c =
    let t = (goal.at.returns-in-Some-clause-stopped c).Else-not-is_in_range in
    scanned_parts c.args.state.now c.args.reports.now (long t) (same t) c.loop-i.i c.loop-i.pass c.loop-i.state c.loop-i.invariant (omega arith) (ranges t)

pub returns-clause-passed : goal.returns-clause-passed
returns-clause-passed c =
    let t = (goal.at.returns-clause-passed c).Else-not-is_in_range in
    scanned_passed c.args.state.now c.args.reports.now (long t) (same t) c.loop-i.i c.loop-i.pass c.loop-i.state c.loop-i.invariant (omega arith) (ranges t)
    (fit (goal.at.returns-clause-passed c).Else-not-fits) c.in_default.is
