-- `sheet::rules::masks_lawful`: the chain tests the masks of the nodes below k, each by the definition's test.
use Prim.Native.Nat.{ℕ, suc, ◌+◌, ◌<◌, ◌/◌, ◌^◌}
use mathlib.Core.Bool.{Bool, ◌&&◌}
use mathlib.Core.List.{List, [], ◌∷◌}
use mathlib.Core.Path.{◌≡◌, refl, ap, ap₂, ◌∙◌}
use native.Mathlib.Nat.{zero-add}
use native.Mathlib.Omega.{arith}
use borrow.Author.Rules.{rules}
use borrow.Author.Tests.{tests}
use lib.Dec.{eqb}
use lib.ListN.{get_or, length, take}
use Rattle.std.specs.List.{enumerate_from, list_all, range_with_len}
use Rattle.basics.specs.Lists.{all_below}
use Rattle.std.proofs.lemmas.List.{get_or-take, length-take}
use Rattle.std.proofs.lemmas.Iterator.{YieldsList-from_slice}
use Rattle.std.proofs.lemmas.Iterator.Consumers.{YieldsList-from_enumerate}
use Rattle.std.proofs.lemmas.Iterator.Search.{all_from_yields_List}
use Rattle.basics.proofs.Below.{list_all-range}
use Rattle.sheet.specs.Rules.{masks_lawful, mask_lawful}
use Rattle.sheet.proofs.Logic.{shifted_lawful}
use Rattle.sheet.proofs.rules.masks_lawful.Goals as goal

-- Masks with their numbers from `first` on, tested as the numbers are.
all_numbered : (test : ℕ × ℕ → Bool) (p : ℕ → Bool) (first : ℕ) (masks : List ℕ)
    → ((i : ℕ) → i < length masks → test (first + i, get_or masks i 0) ≡ p (first + i))
    → list_all test (enumerate_from first masks) ≡ list_all p (range_with_len first (length masks))
all_numbered test p first [] same = refl
all_numbered test p first (mask ∷ masks) same =
    let here : first + 0 ≡ first = omega arith in
    ap₂ ◌&&◌ (rw here at (same 0 (omega arith)))
    (all_numbered test p (first + 1) masks (λ i h. let next : first + suc i ≡ first + 1 + i = omega arith in rw next at (same (suc i) (omega arith))))

pub returns : goal.returns
unfolding masks_lawful
returns c =
    let masks = c.args.masks.now in
    let front = take c.from.result masks in
    let test = λ (p : ℕ × ℕ). eqb (p.1 / 2 ^ p.0) 0 in
    let all : length front ≡ c.args.nodes = omega (arith, length-take {A = ℕ}) in
    all_from_yields_List test _ _ c.all.result c.all.ensures.ran (YieldsList-from_enumerate (YieldsList-from_slice front (cc)) (cc)) (λ x b q k. search (rules, tests))
    ∙ all_numbered test (mask_lawful masks) 0 front
    (λ v h. rw (zero-add v, get_or-take c.from.result masks v 0 (omega arith)) (shifted_lawful masks v))
    ∙ list_all-range (mask_lawful masks) (length front)
    ∙ ap (λ (n : ℕ). all_below n (mask_lawful masks)) all
