-- `keeping::critical_total`: what the chain gives are the critical shares.
use Prim.Native.Nat.{ℕ, ◌+◌}
use mathlib.Core.List.{List, [], ◌∷◌}
use mathlib.Core.Path.{◌≡◌, ◌∙◌}
use native.Mathlib.Omega.{arith}
use borrow.Author.Rules.{rules}
use Rattle.std.specs.Prelude.{sum_by, fold}
use Rattle.std.proofs.lemmas.Iterator.{YieldsList-from_slice, YieldsList-from_map}
use Rattle.std.proofs.lemmas.Iterator.Consumers.{sum_by_from_yields_List, fits_by_from_yields_list}
use Rattle.shares.specs.declared.share.Share.{Share}
use Rattle.shares.specs.Totals.{critical_total}
use Rattle.keeping.proofs.critical_total.Goals as goal

summed_from : (total : ℕ) (shares : List Share) → fold (λ (n : ℕ) (s : Share). n + s.critical) total shares ≡ total + critical_total shares
summed_from total [] = omega arith
summed_from total (s ∷ shares) = omega (arith, summed_from (total + s.critical) shares)

summed : (shares : List Share) → sum_by (λ (s : Share). s.critical) shares ≡ critical_total shares
summed shares = omega (arith, summed_from 0 shares)

pub sum-requires-clause-fits : goal.sum-requires-clause-fits
sum-requires-clause-fits c =
    let small = summed c.args.shares.now in
    fits_by_from_yields_list _ _ c.map.result _
    (YieldsList-from_map _ (λ (s : Share). s.critical) (YieldsList-from_slice c.args.shares.now cc) c.map.ensures.closure (λ x r q k. search rules))
    (omega (arith, small))

pub returns : goal.returns
returns c =
    sum_by_from_yields_List _ _ c.map.result _ c.sum.ensures.ran
    (YieldsList-from_map _ (λ (s : Share). s.critical) (YieldsList-from_slice c.args.shares.now cc) c.map.ensures.closure (λ x r q k. search rules))
    ∙ summed c.args.shares.now
