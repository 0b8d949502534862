-- Laws of a replay (S12.2, S12.3): its records one call at a time, its length, the room for it, and the state that Start hands to it.
use Prim.Native.Nat.{ℕ, ◌+◌, ◌-◌, ◌*◌, ◌/◌, ◌≤◌, ◌<◌}
use mathlib.Core.Path.{◌≡◌, refl, sym, ap, ap₂, subst, ◌∙◌}
use mathlib.Core.Bool.{Bool, true, false, cond}
use mathlib.Core.List.{List, [], ◌∷◌, ◌++◌}
use native.Mathlib.Nat.{le-div_iff_mul-le, suc-mul}
use native.Mathlib.Omega.{arith}
use lib.Dec.{leb}
use lib.ListN.{length, drop, length-append, length-replicate}
use lib.Seq.{sets, sets-eq, length-sets}
use borrow.Author.Tests.{le-leb, lt-leb}
use Rattle.sheet.specs.Refusal.{Answer}
use Rattle.std.specs.Prelude.{Ok, Err, Some, None}
use Rattle.basics.proofs.Logic.{leb_same}
use Rattle.sheet.specs.Refusal.{◌or_else◌}
use Rattle.sheet.specs.Format.{task_in}
use Rattle.sheet.specs.Format.{task_set_of}
use Rattle.basics.proofs.Cells.{cells-length}
use Rattle.allocation.specs.Allocation.{allocation_at, allocation_answer, allocations_for}
use Rattle.allocation.proofs.Allocations.{read_lawful}
use Rattle.model.specs.Step.{Call, release, tick, step}
use Rattle.dispatcher.specs.declared.state.State.{State}
use Rattle.dispatcher.specs.Answers.{Released}
use Rattle.start.specs.Start.{Started}
use Rattle.dispatcher.specs.Answers.{Ticked}
use Rattle.dispatcher.specs.declared.tick.TickAnswer.TheVariants.{Refused as TickRefused}
use Rattle.sheet.specs.declared.refusal.Refusal.TheVariants.{NotSound}
use Rattle.dispatcher.specs.Holds.{model_of, with_model}
use Rattle.dispatcher.specs.Sound.{is_sound}
use Rattle.dispatcher.specs.Calls.{released_by, ticked_by, release_of, tick_of}
use Rattle.start.specs.Fresh.{fresh_entry, zero_entry}
use Rattle.start.specs.Start.{entries_below, fresh_state, zero_state, started_with, prepared_of, start_of}
use Rattle.guarantee.specs.Record.{Turn}
use Rattle.guarantee.specs.Runs.{state_of, said_of}
use Rattle.guarantee.specs.Encoding.{calls_from, calls_of}
use Rattle.guarantee.specs.Record.{answer_bytes, outcome_of, outcome_number, record_of, model_bytes, turn_of, turn_bytes}
use Rattle.guarantee.specs.Replay.{records_of, calls_run, replay_bytes, replayed_of, replay_over}
use Rattle.basics.proofs.Bytes.{sets-append}
use Rattle.dispatcher.proofs.Rows.{rows_length, model_length}
use Rattle.guarantee.proofs.Encodings.{calls_exact}
use Rattle.guarantee.proofs.Records.{record_length, outcome_said}

-- A product is compared by a quotient.
pub room_quotient : (room count size : ℕ) → 1 ≤ size → 2 ≤ room → leb count ((room - 2) / size) ≡ leb (2 + count * size) room
room_quotient room count size some two =
    let fits = le-div_iff_mul-le {k = size} {x = count} {y = room - 2} some in
    leb_same count ((room - 2) / size) (2 + count * size) room (λ h. omega (arith, fits.0 h)) (λ h. fits.1 (omega arith))

-- A call keeps the number of tasks and the line of entries.
module _ (s : State) where
  abbrev Kept : State → Type 0
  Kept t = (t.count ≡ s.count) × (length t.entries ≡ length s.entries)

  either_kept : {A : Type 0} (f : A → State) (b : Bool) (x y : A) → Kept (f x) → Kept (f y) → Kept (f (cond b x y))
  either_kept f true x y p q = p
  either_kept f false x y p q = q

  pub state_kept : (c : Call) → ((state_of s c).count ≡ s.count) × (length (state_of s c).entries ≡ length s.entries)
  unfolding release_of tick_of with_model
  state_kept (release i) =
      either_kept (λ (r : Released). r.state) (is_sound s) (released_by s (step (model_of s) (release i))) (record { state = s; answer = Err NotSound })
      (refl, rows_length s.entries (step (model_of s) (release i)).model.rows) (refl, refl)
  state_kept (tick reports) =
      either_kept (λ (r : Ticked). r.state) (is_sound s) (ticked_by s (step (model_of s) (tick reports))) (record { state = s; answer = TickRefused NotSound })
      (refl, rows_length s.entries (step (model_of s) (tick reports)).model.rows) (refl, refl)

-- The record of a call has 4 + 9n bytes.
module _ (s : State) (long : s.count ≤ length s.entries) where
  next_long : (c : Call) → (state_of s c).count ≤ length (state_of s c).entries
  next_long c = omega (arith, (state_kept s c).0, (state_kept s c).1)

  pub call_length : (c : Call) → length (record_of (said_of s c) (model_of (state_of s c))) ≡ 4 + 9 * s.count
  call_length c =
      omega (arith, record_length (said_of s c) (model_of (state_of s c)), model_length (state_of s c) (next_long c), (state_kept s c).0)

pub records_length : (s : State) → s.count ≤ length s.entries → (calls : List Call) → length (records_of s calls) ≡ length calls * (4 + 9 * s.count)
records_length s long [] = omega arith
records_length s long (c ∷ calls) =
    omega (
      arith,
      length-append (record_of (said_of s c) (model_of (state_of s c))) (records_of (state_of s c) calls),
      call_length s long c,
      records_length (state_of s c) (next_long s long c) calls,
      ap (λ (n : ℕ). length calls * (4 + 9 * n)) (state_kept s c).0,
      suc-mul (length calls) (4 + 9 * s.count),
    )

-- On the way through the calls: what is written, with the records of the calls left, is the whole, and there is room for them.
pub record Replaying (whole : List ℕ) (bytes tasks : ℕ) (calls : List Call) (s : State) (out : List ℕ) (place : ℕ) : Type 0 where
  pub size : length out ≡ bytes
  pub tasks_kept : s.count ≡ tasks
  pub line : length s.entries ≡ 16
  pub room : place + length (records_of s calls) ≤ bytes
  pub left : sets out place (records_of s calls) ≡ whole

module _ (whole : List ℕ) (bytes tasks : ℕ) (call : Call) (rest : List Call) (s : State) (out : List ℕ) (place : ℕ) (few : tasks ≤ 16)
    (p : Replaying whole bytes tasks (call ∷ rest) s out place) where
  long : s.count ≤ length s.entries
  long = omega (arith, p.tasks_kept, p.line)

  record_here : List ℕ
  record_here = record_of (said_of s call) (model_of (state_of s call))

  here_length : length record_here ≡ 4 + 9 * tasks
  unfolding record_here
  here_length = omega (arith, call_length s long call, p.tasks_kept)

  after_here : List ℕ
  after_here = records_of (state_of s call) rest

  records_here : records_of s (call ∷ rest) ≡ record_here ++ after_here
  unfolding record_here after_here
  records_here = refl

  records_room : place + (4 + 9 * tasks) + length after_here ≤ bytes
  records_room = omega (arith, p.room, ap length records_here, length-append record_here after_here, here_length)

  -- The record ends within the buffer.
  pub replaying_end : place + (4 + 9 * tasks) ≤ bytes
  replaying_end = omega (arith, records_room)

  module _ (turn : Turn) (e : turn ≡ turn_of s call) where
    state_here : turn.state ≡ state_of s call
    unfolding turn_of
    state_here = ap (λ (t : Turn). t.state) e

    bytes_here : turn_bytes turn ≡ record_here
    unfolding turn_of turn_bytes record_of record_here
    bytes_here =
        let said = said_of s call in
        let both = outcome_said said in
        ap turn_bytes e
        ∙ ap₂ (λ (n i : ℕ). outcome_number (outcome_of said) ∷ n ∷ i ∷ model_bytes (model_of (state_of s call))) both.0 both.1

    tasks_here : turn.state.count ≡ tasks
    tasks_here = ap (λ (t : State). t.count) state_here ∙ (state_kept s call).0 ∙ p.tasks_kept

    pub replaying_line : turn.state.count ≤ length turn.state.entries
    replaying_line =
        let same : length turn.state.entries ≡ 16 = ap (λ (t : State). length t.entries) state_here ∙ (state_kept s call).1 ∙ p.line in
        omega (arith, tasks_here)

    pub replaying_room : (turn.state.count ≤ 16) × (place + 4 + 9 * turn.state.count ≤ length out)
    replaying_room = (omega (arith, tasks_here), omega (arith, tasks_here, records_room, p.size))

    pub replaying_more : Replaying whole bytes tasks rest turn.state (sets out place (turn_bytes turn)) (place + (4 + 9 * tasks))
    unfolding after_here
    replaying_more =
        let here : place + (4 + 9 * tasks) ≡ place + length record_here = omega (arith, here_length) in
        subst (λ (t : State). Replaying whole bytes tasks rest t (sets out place (turn_bytes turn)) (place + (4 + 9 * tasks))) (sym state_here)
        (subst (λ (b : List ℕ). Replaying whole bytes tasks rest (state_of s call) (sets out place b) (place + (4 + 9 * tasks))) (sym bytes_here)
        (record {
          size = length-sets out place record_here ∙ p.size;
          tasks_kept = (state_kept s call).0 ∙ p.tasks_kept;
          line = (state_kept s call).1 ∙ p.line;
          room = records_room;
          left = rw here (sym (sets-append out place record_here after_here) ∙ ap (sets out place) (sym records_here) ∙ p.left);
        }))

-- With no call left, what is written is the whole.
pub replaying_all : (whole : List ℕ) (bytes tasks : ℕ) (calls : List Call) (s : State) (out : List ℕ) (place : ℕ) → calls ≡ [] →
    Replaying whole bytes tasks calls s out place → out ≡ whole
replaying_all whole bytes tasks calls s out place none p =
    let done : sets out place (records_of s []) ≡ whole = rw none at p.left in
    done

-- S7.1: the state that Start returns has sixteen entries and at most as many tasks.
pub start_few : (sheet : List ℕ) → (start_of sheet).state.count ≤ 16
unfolding start_of prepared_of fresh_state zero_state
start_few sheet = go (allocation_answer sheet) refl
  where
    go : (a : Answer) → allocation_answer sheet ≡ a → (started_with (a or_else Ok (fresh_state (task_set_of sheet) (allocations_for sheet)))).state.count ≤ 16
    go (Ok x) e = (read_lawful sheet e).few_tasks
    go (Err r) e = omega arith

pub start-line : (sheet : List ℕ) → length (start_of sheet).state.entries ≡ 16
unfolding start_of prepared_of fresh_state entries_below zero_state
start-line sheet = go (allocation_answer sheet)
  where
    go : (a : Answer) → length (started_with (a or_else Ok (fresh_state (task_set_of sheet) (allocations_for sheet)))).state.entries ≡ 16
    go (Ok x) = cells-length (λ i. fresh_entry (task_in (task_set_of sheet) i) (allocation_at (allocations_for sheet) i)) zero_entry 0 16 (task_set_of sheet).count
    go (Err r) = length-replicate 16 zero_entry

-- The calls that are run are the first of the log, as many as they are.
pub run_exact : (a : Answer) (calls : List ℕ) → calls_from (length (calls_run a (calls_of calls))) calls 0 ≡ calls_run a (calls_of calls)
unfolding calls_of calls_from
run_exact (Ok x) calls = calls_exact (length calls) calls 0
run_exact (Err r) calls = refl

module _ (sheet calls : List ℕ) where
  pub replay_length : length (replay_bytes sheet calls) ≡ 2 + length (calls_run (start_of sheet).answer (calls_of calls)) * (4 + 9 * (start_of sheet).state.count)
  unfolding replay_bytes
  replay_length =
      let s = (start_of sheet).state in
      omega (arith, records_length s (omega (arith, start_few sheet, start-line sheet)) (calls_run (start_of sheet).answer (calls_of calls)))

  -- A buffer that is too short, and one that is not.
  pub replay_short : (out : List ℕ) → length out < length (replay_bytes sheet calls) → (None ≡ replayed_of sheet calls (length out)) × (out ≡ replay_over sheet calls out)
  unfolding replayed_of replay_over
  replay_short out h = (rw (lt-leb (length (replay_bytes sheet calls)) (length out) h), rw (lt-leb (length (replay_bytes sheet calls)) (length out) h))

  pub replay_written : (out : List ℕ) → length (replay_bytes sheet calls) ≤ length out →
      (Some (length (replay_bytes sheet calls)) ≡ replayed_of sheet calls (length out)) × (sets out 0 (replay_bytes sheet calls) ≡ replay_over sheet calls out)
  unfolding replayed_of replay_over
  replay_written out h =
      let e : 0 + length (replay_bytes sheet calls) ≡ length (replay_bytes sheet calls) = omega arith in
      let t = le-leb (length (replay_bytes sheet calls)) (length out) h in
      (rw t, rw t (sets-eq (replay_bytes sheet calls) out 0 (omega arith) ∙ ap (λ (n : ℕ). replay_bytes sheet calls ++ drop n out) e))

-- What the code makes of a sheet and its calls: Start's answer and state, the log that is run, and the number of its calls.
module _ (sheet calls log : List ℕ) (count : ℕ) (st : Started) (e : st ≡ start_of sheet)
    (run : calls_of log ≡ calls_run st.answer (calls_of calls)) (n : count ≡ length (calls_of log)) where
  calls_are : calls_of log ≡ calls_run (start_of sheet).answer (calls_of calls)
  calls_are = run ∙ ap (λ (t : Started). calls_run t.answer (calls_of calls)) e

  number : count ≡ length (calls_run (start_of sheet).answer (calls_of calls))
  number = n ∙ ap length calls_are

  pub replay_size : 2 + count * (4 + 9 * st.state.count) ≡ length (replay_bytes sheet calls)
  replay_size =
      ap (λ (t : Started). 2 + count * (4 + 9 * t.state.count)) e
      ∙ ap (λ (k : ℕ). 2 + k * (4 + 9 * (start_of sheet).state.count)) number
      ∙ sym (replay_length sheet calls)

  pub replay_few : st.state.count ≤ 16
  replay_few = subst (λ (t : Started). t.state.count ≤ 16) (sym e) (start_few sheet)

  -- There is room for the records.
  pub replay_room : (bytes : ℕ) → length (replay_bytes sheet calls) ≤ bytes → 2 + length (records_of st.state (calls_of log)) ≤ bytes
  unfolding replay_bytes
  replay_room bytes fits =
      let room : 2 + length (records_of (start_of sheet).state (calls_of log)) ≤ bytes =
      omega (arith, ap (λ (l : List Call). length (records_of (start_of sheet).state l)) calls_are) in
      subst (λ (t : Started). 2 + length (records_of t.state (calls_of log)) ≤ bytes) (sym e) room

  -- The answer and the records, one behind the other.
  pub replay_put : (out : List ℕ) → sets (sets out 0 (answer_bytes st.answer)) 2 (records_of st.state (calls_of log)) ≡ sets out 0 (replay_bytes sheet calls)
  unfolding replay_bytes
  replay_put out =
      let a = (start_of sheet).answer in
      ap (λ (t : Started). sets (sets out 0 (answer_bytes t.answer)) 2 (records_of t.state (calls_of log))) e
      ∙ ap (λ (l : List Call). sets (sets out 0 (answer_bytes a)) 2 (records_of (start_of sheet).state l)) calls_are
      ∙ sym (sets-append out 0 (answer_bytes a) (records_of (start_of sheet).state (calls_run a (calls_of calls))))
