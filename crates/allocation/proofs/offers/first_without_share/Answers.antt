-- `allocation::offers::first_without_share`: what the chain finds is the task that refusal 7 names.
use Prim.Native.Nat.{ℕ, zero, suc}
use mathlib.Core.Bool.{Bool, true, false}
use mathlib.Core.List.{List}
use mathlib.Core.Path.{◌≡◌, refl, ◌∙◌, sym}
use native.Mathlib.Omega.{arith}
use native.Mathlib.Numerals.{add-one}
use borrow.Author.Rules.{rules}
use borrow.Author.Tests.{tests}
use lib.ListN.{get_or}
use Rattle.std.specs.Prelude.{MatchOption, Ok, Err}
use Rattle.std.specs.List.{find, range_with_len}
use Rattle.std.proofs.lemmas.Iterator.{YieldsList-from_range}
use Rattle.std.proofs.lemmas.Iterator.Search.{find_from_yields_List}
use Rattle.std.proofs.lemmas.Iterator.Adapters.{option_map_id}
use Rattle.sheet.specs.declared.refusal.Refusal.TheVariants.{NoShare}
use Rattle.sheet.specs.Refusal.{first_over}
use Rattle.allocation.specs.means.Selection.{offers_none, offer_answer, missing_offer}
use Rattle.allocation.proofs.offers.first_without_share.Goals as goal

-- The first of the tasks k to k + n that may take nothing.
module _ (M : ℕ) (cells : List (List ℕ)) where
  abbrev none_of : ℕ → Bool
  none_of i = offers_none M (get_or cells i missing_offer)

  first_found : (k n : ℕ) →
      MatchOption (find none_of (range_with_len k n)) (first_over (offer_answer M cells) k n ≡ Ok tt)
      (λ i. first_over (offer_answer M cells) k n ≡ Err (NoShare i))
  unfolding first_over offer_answer
  first_found k zero = refl
  first_found k (suc n) = go (none_of k) refl (first_found (suc k) n)
    where
      go : (t : Bool) → none_of k ≡ t → MatchOption (find none_of (range_with_len (suc k) n)) (first_over (offer_answer M cells) (suc k) n ≡ Ok tt)
          (λ i. first_over (offer_answer M cells) (suc k) n ≡ Err (NoShare i)) →
          MatchOption (find none_of (range_with_len k (suc n))) (first_over (offer_answer M cells) k (suc n) ≡ Ok tt)
          (λ i. first_over (offer_answer M cells) k (suc n) ≡ Err (NoShare i))
      go true e rest = rw e refl
      go false e rest = rw (e, add-one k) rest

pub returns : goal.returns
returns c =
    let M = c.args.offers.now.processors in
    let cells = c.args.offers.now.cells in
    let found = find_from_yields_List (none_of M cells) _ _ c.find.result c.find.ensures.ran
    (YieldsList-from_range 0 c.args.offers.now.count c.args.offers.now.count (cc) (omega arith)) (λ x b q k. search (rules, tests)) in
    rw (sym (option_map_id c.find.result) ∙ found) (first_found M cells 0 c.args.offers.now.count)
