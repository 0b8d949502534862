-- `allocation::choice::choose`: a refusal of a step is the choice's, and what is selected and kept is what the set
-- gets.
use Rattle.std.proofs.Common.{◌≡◌, Ok, sym, ◌∙◌}
use Rattle.std.proofs.lemmas.Result.{err_from_is_err_and}
use Rattle.sheet.proofs.Said.{said}
use Rattle.allocation.specs.Allocation.{choice_of}
use Rattle.allocation.proofs.Sets.{chosen_line, choice_refused, choice_selected}
use Rattle.allocation.proofs.KeptLine.{choice_passed, choice_able, choice_kept, choice_says}
use Rattle.allocation.proofs.choice.choose.Goals.{After-select, After-from_residual, After-with_kept}
use Rattle.allocation.proofs.choice.choose.Goals as goal

pub returns-in-Some : goal.returns-in-Some
returns-in-Some c =
    let e = choice_refused c.args.set.now c.requires _ c.offers_of-offers.ensures.cells
    (rw (c.offers_of-offers.ensures.processors, c.offers_of-offers.ensures.count) at c.in-Some.ensures) in
    record { whole = cc; verdict = choice_says c.args.set.now e; says = said e }

-- What was selected is the choice.
selected_is : (c : After-select) → chosen_line c.args.set.now ≡ c.select.result
selected_is c =
    sym (choice_selected c.args.set.now c.requires _ c.offers_of-offers.ensures.cells c.select.result
    (rw (c.offers_of-offers.ensures.processors, c.offers_of-offers.ensures.count) at c.in_default.ensures)
    (rw (c.offers_of-offers.ensures.processors, c.offers_of-offers.ensures.count) at c.select.ensures))

no_choice : (c : After-from_residual) → c.from_residual.result ≡ choice_of c.args.set.now
no_choice c =
    let p = err_from_is_err_and c.from_residual.result c.from_residual.ensures.1 in
    rw (p.1, p.2) (choice_passed c.args.set.now c.requires (selected_is (goal.at.After-from_residual c).After-select ∙ c.in_err-shares.was))

pub returns-in_err-shares : goal.returns-in_err-shares
returns-in_err-shares c = let e = no_choice c in record { whole = e; verdict = choice_says c.args.set.now e; says = said e }

pub with_kept-requires : goal.with_kept-requires
with_kept-requires c =
    choice_able c.args.set.now c.requires _ (selected_is (goal.at.with_kept-requires c).After-select ∙ c.in_ok-shares.was)

chosen : (c : After-with_kept) → Ok c.with_kept.result ≡ choice_of c.args.set.now
chosen c =
    choice_kept c.args.set.now c.requires _ (selected_is (goal.at.After-with_kept c).After-select ∙ c.in_ok-shares.was) _ c.with_kept.ensures

pub returns : goal.returns
returns c = let e = chosen c in record { whole = e; verdict = choice_says c.args.set.now e; says = said e }
