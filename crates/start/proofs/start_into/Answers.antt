-- `start::start_into`: refused by the reader, or by the choice, or accepted. Past the reader the set is what the sheet
-- says, and lawful; past the choice the shares are those of the set.
use Rattle.std.proofs.Common.{◌≡◌, Ok, sym, ap, ◌∙◌}
use Rattle.std.specs.Prelude.{Err}
use Rattle.sheet.specs.Format.{task_set_of}
use Rattle.sheet.proofs.Said.{said}
use Rattle.reader.specs.Reading.{read_answer}
use Rattle.reader.proofs.Readings.{read_ok, read_err}
use Rattle.allocation.specs.Allocation.{choice_answer, choice_of, sixteen, shares_of}
use Rattle.allocation.proofs.Accepted.{sheet_lawful}
use Rattle.allocation.proofs.KeptLine.{accepted_shares, choice_ok, choice_err}
use Rattle.allocation.proofs.Allocations.{shares_fit, answer_read, answer_choice, line_fixed}
use Rattle.start.specs.Start.{Started}
use Rattle.start.specs.Start.{start_of}
use Rattle.start.proofs.Starts.{start_refused, start_accepted}
use Rattle.start.proofs.start_into.Goals.{In_default, In-Ok, In-Ok-choose, After-begin, In-Err}
use Rattle.start.proofs.start_into.Goals as goal

unread : (c : In_default) → ◌≡◌ {A = Started} (record { state = c.zero_state.result; answer = Err c.in_default.field-0 }) (start_of c.args.sheet.now)
unread c = rw c.zero_state.ensures (start_refused _ (answer_read _ (read_err c.args.sheet.now (sym c.read-reading.ensures.whole ∙ c.in_default.is))))

-- By the equations that are known there, under whatever name the reader's refusal is given on.
pub returns-in_default : goal.returns-in_default
returns-in_default c =
    let both = unread (goal.at.returns-in_default c).In_default in
    let answer = ap (λ (r : Started). r.answer) both in
    record { answered = cc answer; says = said (cc answer); started = ap (λ (r : Started). r.state) both }

-- Past the reader the sheet is accepted, and the set is what it says.
read : (c : In-Ok) → (read_answer c.args.sheet.now ≡ Ok tt) × (c.in-Ok.set ≡ task_set_of c.args.sheet.now)
read c = read_ok c.args.sheet.now (sym c.read-reading.ensures.whole ∙ c.in-Ok.is)

pub choose-requires : goal.choose-requires
choose-requires c =
    let both = read (goal.at.choose-requires c).In-Ok in rw both.1 (sheet_lawful c.args.sheet.now both.0)

unchosen : (c : In-Err) → ◌≡◌ {A = Started} (record { state = c.zero_state.result; answer = Err c.in-Err.refusal }) (start_of c.args.sheet.now)
unchosen c =
    let both = read (goal.at.In-Err c).In-Ok in
    let chosen : choice_of (task_set_of c.args.sheet.now) ≡ Err c.in-Err.refusal =
    ap choice_of (sym both.1) ∙ sym c.choose.ensures.whole ∙ c.in-Err.is in
    rw c.zero_state.ensures (start_refused _ (answer_choice _ both.0 ∙ choice_err (task_set_of c.args.sheet.now) chosen))

pub returns-in-Err : goal.returns-in-Err
returns-in-Err c =
    let same = ap (λ (r : Started). r.answer) (unchosen c) in
    record { answered = same; says = said same; started = ap (λ (r : Started). r.state) (unchosen c) }

-- Past the choice, it is accepted, and the shares are those of the set.
kept : (c : In-Ok-choose) → (choice_answer (task_set_of c.args.sheet.now) ≡ Ok tt) × (c.in-Ok-choose.shares ≡ sixteen (shares_of (task_set_of c.args.sheet.now)))
kept c =
    let both = read (goal.at.In-Ok-choose c).In-Ok in
    choice_ok (task_set_of c.args.sheet.now) (ap choice_of (sym both.1) ∙ sym c.choose.ensures.whole ∙ c.in-Ok-choose.is)

pub allocations_of-requires : goal.allocations_of-requires
allocations_of-requires c =
    let set = read (goal.at.allocations_of-requires c).In-Ok in
    let shares = kept (goal.at.allocations_of-requires c).In-Ok-choose in
    let lawful = sheet_lawful c.args.sheet.now set.0 in
    rw (set.1, shares.1) (shares_fit (task_set_of c.args.sheet.now) lawful _ (accepted_shares _ lawful shares.0))

pub begin-requires-clause-few : goal.begin-requires-clause-few
begin-requires-clause-few c =
    let set = read (goal.at.begin-requires-clause-few c).In-Ok in
    rw set.1 (sheet_lawful c.args.sheet.now set.0).few_tasks

planned : (c : After-begin) → ◌≡◌ {A = Started} (record { state = c.begin.new.state; answer = Ok tt }) (start_of c.args.sheet.now)
planned c =
    let set = read (goal.at.After-begin c).In-Ok in
    let shares = kept (goal.at.After-begin c).In-Ok-choose in
    let accepted = answer_choice _ set.0 ∙ shares.0 in
    rw (c.begin.ensures, c.allocations_of.ensures, set.1, shares.1, line_fixed _ accepted) (start_accepted _ accepted)

pub returns : goal.returns
returns c =
    let same = ap (λ (r : Started). r.answer) (planned c) in
    record { answered = same; says = said same; started = ap (λ (r : Started). r.state) (planned c) }
