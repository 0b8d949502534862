-- `allocation::allocate::allocate`: a refusal of the reader or of the choice is the answer, and what is fixed for the
-- set is that of the sheet.
use Rattle.std.proofs.Common.{◌≡◌, Ok, sym, ap, ◌∙◌}
use Rattle.std.proofs.lemmas.Result.{err_from_is_err_and}
use Rattle.sheet.proofs.Said.{said}
use Rattle.sheet.specs.declared.task.TaskSet.{TaskSet}
use Rattle.sheet.specs.Format.{task_set_of}
use Rattle.reader.specs.Reading.{read_answer}
use Rattle.reader.proofs.Readings.{read_ok, read_err}
use Rattle.allocation.specs.Allocation.{choice_answer, choice_of, sixteen, shares_of, allocated_of}
use Rattle.allocation.proofs.Accepted.{sheet_lawful}
use Rattle.allocation.proofs.KeptLine.{accepted_shares, choice_ok, choice_err}
use Rattle.allocation.proofs.Allocations.{shares_fit, answer_read, answer_choice, allocated_refused, line_fixed, allocated_accepted}
use Rattle.allocation.proofs.allocate.allocate.Goals.{After-from_residual, In_ok-set, After-choose, In-Ok, After-allocations_of}
use Rattle.allocation.proofs.allocate.allocate.Goals as goal

unread : (c : After-from_residual) → c.from_residual.result ≡ allocated_of c.args.sheet.now
unread c =
    let p = err_from_is_err_and c.from_residual.result c.from_residual.ensures.1 in
    rw (p.1, p.2) (allocated_refused _ (answer_read _ (read_err c.args.sheet.now (sym c.read.ensures.whole ∙ c.in_err-set.was))))

pub returns-in_err-set : goal.returns-in_err-set
returns-in_err-set c = let e = unread c in record { whole = e; says = said e }

-- Past the reader the sheet is accepted, and the set is what it says.
told : (c : In_ok-set) → (read_answer c.args.sheet.now ≡ Ok tt) × (c.in_ok-set.set ≡ task_set_of c.args.sheet.now)
told c = read_ok c.args.sheet.now (sym c.read.ensures.whole ∙ c.in_ok-set.was)

pub choose-requires : goal.choose-requires
choose-requires c =
    let both = told (goal.at.choose-requires c).In_ok-set in rw both.1 (sheet_lawful c.args.sheet.now both.0)

-- What the choice answers.
chosen : (c : After-choose) → choice_of (task_set_of c.args.sheet.now) ≡ c.choose.result
chosen c = let both = told (goal.at.After-choose c).In_ok-set in rw (c.choose.ensures.whole, both.1)

pub returns-in-Err : goal.returns-in-Err
returns-in-Err c =
    let both = told (goal.at.returns-in-Err c).In_ok-set in
    let refused = choice_err (task_set_of c.args.sheet.now) (chosen (goal.at.returns-in-Err c).After-choose ∙ c.in-Err.is) in
    let e = allocated_refused _ (answer_choice _ both.0 ∙ refused) in
    record { whole = e; says = said e }

-- Past the choice, it is accepted, and the shares are those of the set.
kept : (c : In-Ok) → (choice_answer (task_set_of c.args.sheet.now) ≡ Ok tt) × (c.in-Ok.shares ≡ sixteen (shares_of (task_set_of c.args.sheet.now)))
kept c = choice_ok (task_set_of c.args.sheet.now) (chosen (goal.at.In-Ok c).After-choose ∙ c.in-Ok.is)

pub allocations_of-requires : goal.allocations_of-requires
allocations_of-requires c =
    let set = told (goal.at.allocations_of-requires c).In_ok-set in
    let shares = kept (goal.at.allocations_of-requires c).In-Ok in
    let lawful = sheet_lawful c.args.sheet.now set.0 in
    rw (set.1, shares.1) (shares_fit (task_set_of c.args.sheet.now) lawful _ (accepted_shares _ lawful shares.0))

planned : (c : After-allocations_of) → Ok (record { count = c.in_ok-set.set.count; allocations = c.allocations_of.result }) ≡ allocated_of c.args.sheet.now
planned c =
    let set = told (goal.at.After-allocations_of c).In_ok-set in
    let shares = kept (goal.at.After-allocations_of c).In-Ok in
    let accepted = answer_choice _ set.0 ∙ shares.0 in
    allocated_accepted _ accepted _ _ (ap (λ (t : TaskSet). t.count) set.1) (rw (c.allocations_of.ensures, set.1, shares.1) (line_fixed _ accepted))

pub returns-in-Ok : goal.returns-in-Ok
returns-in-Ok c = let e = planned c in record { whole = e; says = said e }
