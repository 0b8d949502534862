-- `allocation::selection::last_totals`: the goals that the check leaves.
use lib.ListN.{get_or, set}
use Rattle.shares.specs.Offer.{tabulate}
use Rattle.allocation.specs.means.Selection.{cell_at, total_with, missing_offer, offers_up_to, total_at, missing_totals}
use Rattle.allocation.proofs.Lines.{line, totals_small, lines, offers_length, lines_start, lines_at, lines_store, lines_last, line_more}
use Prim.Native.Nat.{ℕ, ◌+◌, ◌-◌}
use mathlib.Core.Path.{◌≡◌, ap, ◌∙◌}
use mathlib.Core.List.{List}
use native.Mathlib.Omega.{arith}
use Rattle.allocation.proofs.selection.last_totals.Goals as goal

pub loop-k-init : goal.loop-k-init
loop-k-init c = (
  omega arith,
  c.requires
      ∙ lines_start c.args.offers.now.processors c.args.offers.now.count (offers_up_to c.args.offers.now.count c.args.offers.now.cells) (offers_length c.args.offers.now.count c.args.offers.now.cells (omega arith)),
)

pub totals_with-requires : goal.totals_with-requires
totals_with-requires c =
    let offers = offers_up_to c.args.offers.now.count c.args.offers.now.cells in
    let long = offers_length c.args.offers.now.count c.args.offers.now.cells (omega arith) in
    record {
      within = rw c.from-count.ensures (c.args.offers.now.within (c.args.offers.now.count - 1 - c.loop-k.k) (omega arith));
      small =
          rw (c.loop-k.invariant.1, lines_at c.args.offers.now.processors c.args.offers.now.count offers long c.loop-k.k c.loop-k.k (omega arith) (omega arith))
          (totals_small c.args.offers.now.processors _ (omega arith));
    }

pub loop-k-preserved : goal.loop-k-preserved
loop-k-preserved c =
    let offers = offers_up_to c.args.offers.now.count c.args.offers.now.cells in
    let long = offers_length c.args.offers.now.count c.args.offers.now.cells (omega arith) in
    let with = total_with c.args.offers.now.processors (cell_at (get_or c.args.offers.now.cells (c.args.offers.now.count - 1 - c.loop-k.k) missing_offer)) in
    let stored : c.totals_with.result ≡ (line c.args.offers.now.processors offers c.args.offers.now.count (c.loop-k.k + 1)) =
    (rw c.from-count.ensures at c.totals_with.ensures)
    ∙ ap (λ (l : List (List ℕ)). tabulate (with (total_at (get_or l c.loop-k.k missing_totals))) 0 65) c.loop-k.invariant.1
    ∙ ap (λ (x : List ℕ). tabulate (with (total_at x)) 0 65) (lines_at c.args.offers.now.processors c.args.offers.now.count offers long c.loop-k.k c.loop-k.k (omega arith) (omega arith))
    ∙ line_more c.args.offers.now.processors c.args.offers.now.count c.args.offers.now.cells (omega arith) c.loop-k.k (omega arith) in (
      omega arith,
      ap (λ (x : List ℕ). set c.loop-k.all (c.loop-k.k + 1) x) stored
          ∙ ap (λ (l : List (List ℕ)). set l (c.loop-k.k + 1) (line c.args.offers.now.processors offers c.args.offers.now.count (c.loop-k.k + 1))) c.loop-k.invariant.1
          ∙ lines_store c.args.offers.now.processors c.args.offers.now.count offers long c.loop-k.k (omega arith),
    )

pub returns : goal.returns
returns c =
    let offers = offers_up_to c.args.offers.now.count c.args.offers.now.cells in
    let done : c.loop-k.k ≡ c.args.offers.now.count = omega arith in
    c.loop-k.invariant.1 ∙ ap (lines c.args.offers.now.processors offers c.args.offers.now.count) done
    ∙ lines_last c.args.offers.now.processors c.args.offers.now.count offers (offers_length c.args.offers.now.count c.args.offers.now.cells (omega arith))
