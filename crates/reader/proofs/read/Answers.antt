-- `reader::read`: past the header's test the count is the sheet's; each refusal is the first of the whole reading.
use Rattle.std.proofs.Common.{◌≡◌, Err, true, sym, ◌∙◌}
use Rattle.std.proofs.lemmas.Result.{err_from_is_err_and}
use Rattle.sheet.specs.declared.refusal.Refusal.TheVariants.{BadHeader}
use Rattle.sheet.proofs.Said.{said}
use Rattle.sheet.specs.Format.{count_of}
use Rattle.reader.specs.Reading.{header_lawful, read_of}
use Rattle.reader.proofs.Readings.{answer_header, places_refused, places_kept, header_count}
use Rattle.reader.proofs.read.Goals.{After-byte_at-n, Then-not-header_lawful, After-from_residual, After-read_tasks}
use Rattle.reader.proofs.read.Goals as goal

refused : (c : Then-not-header_lawful) → Err BadHeader ≡ read_of c.args.sheet.now
refused c = sym (answer_header c.args.sheet.now (sym c.header_lawful.ensures ∙ c.if-not-header_lawful.true))

pub returns-then-not-header_lawful : goal.returns-then-not-header_lawful
returns-then-not-header_lawful c = record { whole = refused c; says = said (refused c) }

-- Past the first test the header is lawful, and it says the number of tasks.
lawful : (c : After-byte_at-n) → header_lawful c.args.sheet.now ≡ true
lawful c = sym c.header_lawful.ensures ∙ c.if-not-header_lawful.false

counted : (c : After-byte_at-n) → c.byte_at-n.result ≡ count_of c.args.sheet.now
unfolding count_of
counted c = c.byte_at-n.ensures

pub places_answer-requires : goal.places_answer-requires
places_answer-requires c =
    let count = counted c in
    let range = header_count c.args.sheet.now (lawful c) in
    (count, rw count range.0, rw count range.1)

placed : (c : After-from_residual) → c.from_residual.result ≡ read_of c.args.sheet.now
placed c =
    let before = (goal.at.After-from_residual c).After-byte_at-n in
    let p = err_from_is_err_and c.from_residual.result c.from_residual.ensures.1 in
    rw (p.1, p.2) (places_refused c.args.sheet.now _ (counted before) (lawful before) _ c.places_answer.ensures _ c.in_err-places_answer.was)

pub returns-in_err-places_answer : goal.returns-in_err-places_answer
returns-in_err-places_answer c =
    let e = placed c in record { whole = e; says = said e }

pub read_tasks-requires : goal.read_tasks-requires
read_tasks-requires c =
    let before = (goal.at.read_tasks-requires c).After-byte_at-n in
    let count = counted before in
    (count, rw count (header_count c.args.sheet.now (lawful before)).1)

tasks_read : (c : After-read_tasks) → c.read_tasks.result ≡ read_of c.args.sheet.now
tasks_read c =
    let before = (goal.at.After-read_tasks c).After-byte_at-n in
    places_kept c.args.sheet.now _ (counted before) (lawful before) _ c.places_answer.ensures _ c.in_ok-places_answer.was c.read_tasks.ensures

pub returns : goal.returns
returns c = let e = tasks_read c in record { whole = e; says = said e }
