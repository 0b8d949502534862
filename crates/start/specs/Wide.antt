-- S2.14: Start makes the same of a sheet and of its wide form, but for the levels.
use Rattle.std.specs.Prelude.{ℕ, List, ◌≡◌, get_or, Ok}
use Rattle.basics.specs.Lists.{cells}
use Rattle.sheet.specs.Wide.{wide_level}
use Rattle.reader.specs.Reading.{read_answer}
use Rattle.allocation.specs.Wide.{wide_form}
use Rattle.entries.specs.declared.state.TaskState.{TaskState}
use Rattle.dispatcher.specs.declared.state.State.{State}
use Rattle.start.specs.Fresh.{zero_entry}
use Rattle.start.specs.Start.{start_of}

-- An entry with its level in the wide form. All else stays.
unfoldable pub wide_entry : TaskState → TaskState
wide_entry e =
    record {
      level = wide_level e.level;
      nodes = e.nodes;
      predecessors = e.predecessors;
      deadline = e.deadline;
      virtual_deadline = e.virtual_deadline;
      share = e.share;
      age = e.age;
      job = e.job;
    }

-- A state with the entry of each of its tasks in the wide form.
unfoldable pub wide_state : State → State
wide_state st =
    record {
      processors = st.processors;
      count = st.count;
      critical = st.critical;
      entries = cells 16 (λ i. wide_entry (get_or st.entries i zero_entry)) zero_entry st.count;
    }

-- Of every sheet that the reader accepts: the same answer, 7 and 8 among them, and the same state but for the levels.
unfoldable pub WideStarted : Type 0
WideStarted =
    (s : List ℕ) → read_answer s ≡ Ok tt →
    start_of (wide_form s) ≡ record { state = wide_state (start_of s).state; answer = (start_of s).answer }
