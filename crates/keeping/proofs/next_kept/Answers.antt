-- `keeping::next_kept`: a total that is tested is that of the task, and what the loop holds of all tasks is what is
-- found.
use Prim.Native.Nat.{ℕ, ◌+◌, ◌≤◌}
use mathlib.Core.Path.{◌≡◌, refl, ◌∙◌}
use mathlib.Core.List.{List}
use native.Mathlib.Omega.{arith}
use lib.ListN.{length, take, get_or}
use Rattle.std.specs.Prelude.{Option, Some, None, MatchOption}
use Rattle.std.specs.Option.{option_map_or}
use Rattle.std.proofs.Math.Seq.{take-length}
use Rattle.basics.specs.Order.{least, capped_at}
use Rattle.shares.specs.declared.share.Share.{Share}
use Rattle.shares.specs.Totals.{share_at, critical_total, no_processors}
use Rattle.keeping.specs.declared.NextKept.{NextKept}
use Rattle.keeping.specs.Kept.{typical_share_at}
use Rattle.keeping.specs.Running.{critical_share_at, totals_with_one}
use Rattle.keeping.specs.means.Keeping.{Next}
use Rattle.keeping.proofs.Running.{next_least}
use Rattle.keeping.proofs.Scan.{seen_taken, seen_left, found_next, to_cap}
use Rattle.keeping.proofs.next_kept.Goals.{then-share-eq0+then-with-smallest, else-share-eq0, else-share-eq0-via-then-share-eq0+else-with-smallest, else-share-eq0-via-else-share-eq0, In-loop-task, After-loop-task}
use Rattle.keeping.proofs.next_kept.Goals as goal

-- A task's typical share is from 1 to m.
record Read (m : ℕ) (shares : List Share) (i : ℕ) (share : Share) : Type 0 where
  pub typical : share.typical ≡ typical_share_at shares i
  pub critical : share.critical ≡ critical_share_at shares i
  pub one : 1 ≤ share.typical
  pub most : share.typical ≤ m

read : (c : In-loop-task) →
    Read c.args.m c.args.shares.now c.loop-task.task (get_or c.args.shares.now c.loop-task.task no_processors)
unfolding typical_share_at critical_share_at share_at
read c =
    let able = c.requires.keepable in
    record { typical = refl; critical = refl; one = able.some_share c.loop-task.task (omega arith); most = able.within c.loop-task.task (omega arith) }

-- The critical total of all of them.
total_of : (c : In-loop-task) → c.args.total ≡ critical_total (take (length c.args.shares.now) c.args.shares.now)
total_of c = rw (take-length c.args.shares.now) c.requires.is_total

pub overflow_add-with : goal.overflow_add-with
overflow_add-with c =
    let share = read (goal.at.overflow_add-with c).In-loop-task in
    record { fits = let fits = c.requires.keepable.fits in let small = c.requires.keepable.small in omega (arith, share.most, total_of (goal.at.overflow_add-with c).In-loop-task) }

-- The test says that the task has no critical share and the total with it is below the least so far; or not both.
pub loop-task-preserved : goal.loop-task-preserved
loop-task-preserved c =
    let share = read (goal.at.loop-task-preserved c).In-loop-task in
    let before = c.loop-task.invariant in
    let total = total_of (goal.at.loop-task-preserved c).In-loop-task in
    elim c.if-share-eq0.branch [
      | then-share-eq0+then-with-smallest w ↦
          let less = w.if-with-smallest.true in
          let cap = to_cap c.args.m (length c.args.shares.now) c.args.shares.now c.loop-task.task _ c.loop-task.smallest before.seen in
          rw w.next-is (record {
            total = w.smallest-is ∙ omega arith;
            within = omega arith;
            seen =
                seen_taken c.args.m (length c.args.shares.now) c.args.shares.now c.loop-task.task _ c.loop-task.smallest before.seen (omega (arith, share.critical))
                (omega (arith, share.typical)) _ _ refl (w.smallest-is ∙ omega (arith, share.typical));
          })
      | else-share-eq0 w ↦
          rw (w.next-is, w.smallest-is) (record {
            total = before.total;
            within = before.within;
            seen =
                seen_left c.args.m (length c.args.shares.now) c.args.shares.now c.loop-task.task _ c.loop-task.smallest before.seen
                (λ low. elim w.else-share-eq0.branch [
                  | else-share-eq0-via-then-share-eq0+else-with-smallest w' ↦ let more = w'.if-with-smallest.false in omega (arith, share.typical)
                  | else-share-eq0-via-else-share-eq0 w' ↦ let some = w'.if-share-eq0.false in absurd (omega (arith, share.critical))
                ])
                _ _ refl refl;
          })
    ]

-- What the loop holds once all tasks are passed.
found : (c : After-loop-task) →
    MatchOption c.loop-task.next (Next c.args.m (length c.args.shares.now) c.args.shares.now (length c.args.shares.now) (c.args.m + 1))
    (λ k. Next c.args.m (length c.args.shares.now) c.args.shares.now k.task k.total)
found c =
    let all : c.loop-task.task ≡ length c.args.shares.now = omega arith in
    found_next c.args.m (length c.args.shares.now) c.args.shares.now c.loop-task.next c.loop-task.smallest (rw all at c.loop-task.invariant)

pub returns-clause-next : goal.returns-clause-next
returns-clause-next c = found (goal.at.returns-clause-next c).After-loop-task

-- The total that was found is the least of the totals with one task more, up to m + 1.
least_total : (m n : ℕ) (shares : List Share) → n ≤ length shares → (next : Option NextKept) →
    MatchOption next (Next m n shares n (m + 1)) (λ k. Next m n shares k.task k.total) →
    option_map_or (λ (k : NextKept). k.total) next (m + 1) ≡ capped_at (m + 1) (least (totals_with_one n shares))
least_total m n shares long None next = next_least long next
least_total m n shares long (Some k) next = next_least long next

pub returns-clause-held : goal.returns-clause-held
returns-clause-held c =
    let few = c.requires.keepable.few in
    least_total c.args.m (length c.args.shares.now) c.args.shares.now (omega arith) c.loop-task.next (found (goal.at.returns-clause-held c).After-loop-task)
