-- A run (S10.1): the model after a list of calls, its answers, its accepted ticks, on which of them a node runs, and
-- true reports.
use Rattle.std.specs.Prelude.{ℕ, ◌+◌, ◌≡◌, Bool, true, false, cond, ◌&&◌, List, [], ◌∷◌, ◌++◌, eqb, get_or, is_ok}
use Rattle.nodes.specs.Sets.{has, set_of}
use Rattle.model.specs.Step.{Model, Call, release, tick, Answer, step, refusal_of, running_at}

-- S10.1: the model after a list of calls: each call starts from what the one before it left, accepted or refused.
abbrev pub after : Model → List Call → Model
after m [] = m
after m (c ∷ calls) = after (step m c).model calls

-- S10.3: the answers of a list of calls.
abbrev pub answers : Model → List Call → List Answer
answers m [] = []
answers m (c ∷ calls) = (step m c).answer ∷ answers (step m c).model calls

-- S3.2: whether the call is accepted: none of its refusals holds.
unfoldable pub is_accepted : Model → Call → Bool
is_accepted m c = is_ok (refusal_of m c)

-- Whether the call is an accepted tick.
abbrev pub is_tick : Model → Call → Bool
is_tick m (release i) = false
is_tick m (tick reports) = is_accepted m (tick reports)

-- Whether the call is an accepted Release of task i.
abbrev pub is_release_of : ℕ → Model → Call → Bool
is_release_of i m (release j) = eqb i j && is_accepted m (release j)
is_release_of i m (tick reports) = false

-- How many calls of a list pass a test that may look at the model just before the call.
abbrev pub count_calls : (Model → Call → Bool) → Model → List Call → ℕ
count_calls p m [] = 0
count_calls p m (c ∷ calls) = cond (p m c) 1 0 + count_calls p (step m c).model calls

-- S10.4: the number of ticks in a list of calls: only accepted ones count.
abbrev pub ticks_in : Model → List Call → ℕ
ticks_in m calls = count_calls is_tick m calls

-- The number of accepted Releases of task i in a list of calls.
abbrev pub releases_in : ℕ → Model → List Call → ℕ
releases_in i m calls = count_calls (is_release_of i) m calls

-- Whether node v of task i is running.
unfoldable pub is_running : ℕ → ℕ → Model → Bool
is_running i v m = has (set_of (running_at m i)) v

-- S10.5: node v of task i runs on a call: the call is an accepted tick, and in the model just before it the node is
-- running.
abbrev pub runs_on : ℕ → ℕ → Model → Call → Bool
runs_on i v m c = is_tick m c && is_running i v m

-- The number of accepted ticks of a list on which node v of task i runs.
abbrev pub runs_in : ℕ → ℕ → Model → List Call → ℕ
runs_in i v m calls = count_calls (runs_on i v) m calls

-- S10.5: whether a tick has to report a node that ran on so many ticks before it: the node runs on this tick too, and
-- with it has run its length.
unfoldable pub is_due : Bool → ℕ → ℕ → Bool
is_due runs ran len = runs && eqb (ran + 1) len

-- S10.5: the reports of the job of task i whose release left the model m are true over the calls that follow, up to the
-- next accepted Release of i: each accepted tick reports of i just the nodes that are due.
unfoldable pub TrueReports : ℕ → (ℕ → ℕ) → Model → List Call → Type 0
TrueReports i lengths m calls =
    (before : List Call) (reports : List ℕ) (rest : List Call) →
    calls ≡ before ++ tick reports ∷ rest →
    releases_in i m before ≡ 0 →
    is_accepted (after m before) (tick reports) ≡ true →
    (v : ℕ) → has (get_or reports i 0) v ≡ is_due (is_running i v (after m before)) (runs_in i v m before) (lengths v)
