-- `shares::offer::low_offer`: an offer of m + 1, with 0 in the cell of the task's share where it has one.
use mathlib.Core.Path.{◌≡◌}
use mathlib.Core.Bool.{true}
use native.Mathlib.Omega.{arith}
use Rattle.std.specs.Prelude.{Some, None}
use Rattle.shares.specs.Low.{low_share, has_low_share, low_answer}
use Rattle.shares.proofs.Levels.{has_within, low_critical_none, low_critical_other, answer_share, answer_no_share, low_offer_none, low_offer_at}
use Rattle.shares.proofs.offer.low_offer.Goals.{In-Some}
use Rattle.shares.proofs.offer.low_offer.Goals as goal

-- The task has the share that was found.
found : (c : In-Some) →
    (has_low_share c.args.m c.args.f ≡ true)
    × (low_share c.args.f ≡ c.in-Some.share)
found c =
    let e : low_answer c.args.m c.args.f ≡ Some c.in-Some.share = cc in
    answer_share c.args.m c.args.f _ e

pub bounds-offer-from : goal.bounds-offer-from
bounds-offer-from c =
    omega (arith, has_within c.args.m c.args.f (found (goal.at.bounds-offer-from c).In-Some).0, (found (goal.at.bounds-offer-from c).In-Some).1)

pub returns-then-share-gt0 : goal.returns-then-share-gt0
returns-then-share-gt0 c =
    let own = found (goal.at.returns-then-share-gt0 c).In-Some in
    rw c.from.ensures
    (low_offer_at c.args.m c.args.f 64 c.in-Some.share own.0 own.1 (omega arith) (omega (arith, has_within c.args.m c.args.f own.0, own.1)))

pub returns-else-share-gt0 : goal.returns-else-share-gt0
returns-else-share-gt0 c =
    low_offer_none c.args.m c.args.f 64
    (λ a one. low_critical_other _ _ a (λ e. omega (arith, (found (goal.at.returns-else-share-gt0 c).In-Some).1)))

pub returns-in_default : goal.returns-in_default
returns-in_default c =
    let e : low_answer c.args.m c.args.f ≡ None = cc in
    low_offer_none c.args.m c.args.f 64 (λ a one. low_critical_none c.args.m c.args.f a (answer_no_share c.args.m c.args.f e))
