-- `keeping::with_kept`: the next task has a typical share, so that the line with its critical share is one that is kept
-- so far.
use Prim.Native.Nat.{ℕ, ◌+◌, ◌≤◌}
use mathlib.Core.Path.{◌≡◌, ◌∙◌}
use mathlib.Core.List.{List}
use native.Mathlib.Omega.{arith}
use lib.ListN.{length, set, take}
use Rattle.shares.specs.declared.share.Share.{Share}
use Rattle.shares.specs.Totals.{share_at, critical_total}
use Rattle.keeping.specs.Kept.{typical_share_at}
use Rattle.keeping.specs.means.Keeping.{Next}
use Rattle.keeping.proofs.Running.{next_above, next_total}
use Rattle.keeping.proofs.Front.{front_able, front_next, front_none}
use Rattle.keeping.proofs.Steps.{KeptSoFar, kept_none, kept_more, kept_all, line_able, line-length}
use Rattle.keeping.proofs.with_kept.Goals.{In-Some}
use Rattle.keeping.proofs.with_kept.Goals as goal

pub loop-next-init : goal.loop-next-init
loop-next-init c = ((0, kept_none c.args.m c.args.n c.args.shares c.requires), cc)

pub next_kept-requires-clause-keepable : goal.next_kept-requires-clause-keepable
next_kept-requires-clause-keepable c =
    let few = c.requires.few in
    let long : c.args.n ≤ length c.loop-next.all = omega (arith, line-length c.args.m c.args.n c.args.shares c.requires c.loop-next.invariant.0.1) in
    rw c.from-count.ensures
    (front_able c.args.m c.args.n c.loop-next.all long
    (line_able c.args.m c.args.n c.args.shares c.requires c.loop-next.invariant.0.1))

-- The line has no fewer shares than tasks.
long : (c : In-Some) → c.args.n ≤ length c.loop-next.all
long c =
    let few = c.requires.few in omega (arith, line-length c.args.m c.args.n c.args.shares c.requires c.loop-next.invariant.0.1)

-- What the search found: the next task, with its typical share.
next_found : (c : In-Some) → Next c.args.m c.args.n c.loop-next.all c.in-Some.next.task c.in-Some.next.total
next_found c = front_next c.args.m c.args.n c.loop-next.all (long c) (rw c.from-count.ensures at c.in-Some.ensures.next)

-- The line with the next task's critical share is one that is kept so far, and its critical total is the next one.
module _ (c : In-Some) (typical critical : ℕ) (same : typical ≡ typical_share_at c.loop-next.all c.in-Some.next.task)
    (same' : critical ≡ typical_share_at c.loop-next.all c.in-Some.next.task) where
  abbrev stored : List Share
  stored = set c.loop-next.all c.in-Some.next.task (record { typical = typical; critical = critical })

  kept : KeptSoFar c.args.m c.args.n c.args.shares (c.loop-next.invariant.0.0 + 1) stored
  kept =
      kept_more c.args.m c.args.n c.args.shares c.requires c.loop-next.invariant.0.1 (long c) c.in-Some.next.task c.in-Some.next.total
      c.in-Some.ensures.within (next_found c) typical critical same same'

  reached : (total : ℕ) → total ≡ c.in-Some.next.total → total ≡ critical_total (take c.args.n stored)
  reached total same_total = same_total ∙ next_total (long c) (next_found c) c.in-Some.ensures.within typical critical same'

pub loop-next-preserved : goal.loop-next-preserved
unfolding typical_share_at share_at
loop-next-preserved c =
    let at = (goal.at.loop-next-preserved c).In-Some in
    ((_, kept at _ _ (omega arith) (omega arith)), reached at _ _ (omega arith) (omega arith) _ (omega arith))

pub loop-next-smaller : goal.loop-next-smaller
loop-next-smaller c =
    let at = (goal.at.loop-next-smaller c).In-Some in
    let able = line_able c.args.m c.args.n c.args.shares c.requires c.loop-next.invariant.0.1 in
    let within = c.in-Some.ensures.within in
    omega (arith, next_above able (next_found at), c.loop-next.invariant.1)

pub returns : goal.returns
returns c =
    let none = rw (c.from-count.ensures) at c.in_default.ensures.next in
    let few = c.requires.few in
    let long : c.args.n ≤ length c.loop-next.all = omega (arith, line-length c.args.m c.args.n c.args.shares c.requires c.loop-next.invariant.0.1) in
    let next = front_none c.args.m c.args.n c.loop-next.all long none in
    kept_all c.args.m c.args.n c.args.shares c.requires c.loop-next.invariant.0.1 _ _ (omega arith) next
