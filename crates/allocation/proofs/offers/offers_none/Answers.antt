-- `allocation::offers::offers_none`: the chain's test is the definition's.
use Prim.Native.Nat.{ℕ}
use mathlib.Core.Bool.{Bool, ◌&&◌}
use mathlib.Core.List.{List, [], ◌∷◌}
use mathlib.Core.Path.{◌≡◌, refl, ap, ◌∙◌}
use borrow.Author.Rules.{rules}
use borrow.Author.Tests.{tests}
use lib.Dec.{ltb}
use Rattle.std.specs.List.{list_all}
use Rattle.std.proofs.lemmas.Iterator.{YieldsList-from_slice}
use Rattle.std.proofs.lemmas.Iterator.Search.{all_from_yields_List}
use Rattle.allocation.specs.means.Selection.{offers_none}
use Rattle.allocation.proofs.offers.offers_none.Goals as goal

same_all : (test : ℕ → Bool) (xs : List ℕ) → list_all test xs ≡ list_all test xs
same_all test [] = refl
same_all test (x ∷ xs) = ap (λ (t : Bool). test x && t) (same_all test xs)

pub returns : goal.returns
unfolding offers_none
returns c =
    all_from_yields_List (λ b. ltb c.args.m b) _ _ c.all.result c.all.ensures.ran (YieldsList-from_slice c.args.cells.now cc)
    (λ x b q k. search (rules, tests))
    ∙ same_all (λ b. ltb c.args.m b) c.args.cells.now
