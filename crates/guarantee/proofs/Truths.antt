-- What S10.5, S10.9 and S10.10 ask of a run, by tests that compute. Reports are true if each accepted tick reports just the set of
-- nodes whose length is reached with it; a mode that is typical throughout is so until any tick; and what holds at each accepted
-- Release of a run holds of every job in it.
use Prim.Native.Nat.{ℕ, ◌+◌}
use mathlib.Core.Path.{◌≡◌, refl, sym, ap, subst, ◌∙◌}
use mathlib.Core.Bool.{Bool, true, false, cond, not, ◌&&◌, ◌||◌, true≢false, and-eq-true_iff}
use mathlib.Core.List.{List, [], ◌∷◌, ◌++◌}
use native.Mathlib.Nat.{zero-add}
use native.Mathlib.Omega.{arith}
use borrow.Author.Tests.{eqb-true, not-true}
use lib.Dec.{eqb, ltb}
use lib.ListN.{get_or}
use Rattle.std.specs.Prelude.{filter}
use Rattle.basics.specs.Lists.{range}
use Rattle.nodes.specs.Sets.{has, set_of}
use Rattle.nodes.proofs.Members.{has-set_of-filter}
use Rattle.model.specs.Row.{running_set}
use Rattle.model.specs.Step.{Model, Call, release, tick, step, row_at, granted, running_at}
use Rattle.model.specs.Run.{after, is_accepted, is_release_of, releases_in, is_running, runs_on, runs_in, is_due, TrueReports}
use Rattle.model.specs.Claim.{ReleaseIn, begun}
use Rattle.model.specs.Beside.{TypicalUntil}
use Rattle.model.proofs.Nodes.{runs_test}

-- Whether node v of task i runs and its length is reached with a tick, where each node u ran on c u ticks before.
abbrev is_reached : ℕ → (ℕ → ℕ) → (ℕ → ℕ) → Model → ℕ → Bool
is_reached i len c m v = is_due (is_running i v m) (c v) (len v)

-- The set of these nodes.
abbrev reached_set : ℕ → (ℕ → ℕ) → (ℕ → ℕ) → Model → ℕ
reached_set i len c m = set_of (filter (is_reached i len c m) (range 0 (row_at m i).fixed.nodes))

-- Whether a call is no accepted tick, or one that reports just that set.
abbrev is_true : ℕ → (ℕ → ℕ) → (ℕ → ℕ) → Model → Call → Bool
is_true i len c m (release j) = true
is_true i len c m (tick reports) = cond (is_accepted m (tick reports)) (eqb (get_or reports i 0) (reached_set i len c m)) true

-- What each node has run after one more call.
abbrev ran_next : ℕ → Model → Call → (ℕ → ℕ) → ℕ → ℕ
ran_next i m x c v = c v + cond (runs_on i v m x) 1 0

-- Whether the calls are so, up to the next accepted Release of task i.
abbrev pub all_true : ℕ → (ℕ → ℕ) → (ℕ → ℕ) → Model → List Call → Bool
all_true i len c m [] = true
all_true i len c m (x ∷ calls) =
    is_true i len c m x && (is_release_of i m x || all_true i len (ran_next i m x c) (step m x).model calls)

-- Only nodes of the task run.
runs_only : (a b r t : Bool) → a ≡ (b && r) → (b && (a && t)) ≡ (a && t)
runs_only a true r t e = refl
runs_only true false r t e = absurd (true≢false e)
runs_only false false r t e = refl

reached_at : (i : ℕ) (len c : ℕ → ℕ) (m : Model) (v : ℕ) → has (reached_set i len c m) v ≡ is_reached i len c m v
unfolding is_running running_at running_set is_due
reached_at i len c m v =
    has-set_of-filter (is_reached i len c m) (row_at m i).fixed.nodes v
    ∙ runs_only (is_running i v m) (ltb v (row_at m i).fixed.nodes) _ _ (runs_test (granted m i) (row_at m i) v)

-- An accepted tick that passes the test.
true_here : (i : ℕ) (len c : ℕ → ℕ) (m : Model) (reports : List ℕ) →
    is_true i len c m (tick reports) ≡ true → is_accepted m (tick reports) ≡ true → get_or reports i 0 ≡ reached_set i len c m
true_here i len c m reports h a =
    eqb-true (get_or reports i 0) (reached_set i len c m)
    (sym (ap (λ (t : Bool). cond t (eqb (get_or reports i 0) (reached_set i len c m)) true) a) ∙ h)

-- A Release that is not counted leaves the test of the rest.
rest_true : (t r : Bool) (n : ℕ) → (t || r) ≡ true → cond t 1 0 + n ≡ 0 → (r ≡ true) × (n ≡ 0)
rest_true true r n h z = absurd (omega arith)
rest_true false r n h z = (h, omega arith)

true_along : (i : ℕ) (len c : ℕ → ℕ) (m : Model) (before : List Call) (reports : List ℕ) (rest : List Call) →
    all_true i len c m (before ++ tick reports ∷ rest) ≡ true →
    releases_in i m before ≡ 0 →
    is_accepted (after m before) (tick reports) ≡ true →
    (v : ℕ) → has (get_or reports i 0) v ≡ is_due (is_running i v (after m before)) (c v + runs_in i v m before) (len v)
true_along i len c m [] reports rest h z a v =
    let here = ((and-eq-true_iff (is_true i len c m (tick reports)) _).0 h).0 in
    let none : c v ≡ c v + 0 = omega arith in
    ap (λ (n : ℕ). has n v) (true_here i len c m reports here a)
    ∙ reached_at i len c m v
    ∙ ap (λ (n : ℕ). is_due (is_running i v m) n (len v)) none
true_along i len c m (x ∷ before) reports rest h z a v =
    let later = rest_true (is_release_of i m x) _ _ ((and-eq-true_iff (is_true i len c m x) _).0 h).1 z in
    let grouped : ran_next i m x c v + runs_in i v (step m x).model before ≡ c v + runs_in i v m (x ∷ before) = omega arith in
    true_along i len (ran_next i m x c) (step m x).model before reports rest later.0 later.1 a v
    ∙ ap (λ (n : ℕ). is_due (is_running i v (after m (x ∷ before))) n (len v)) grouped

pub true_reports : (i : ℕ) (len : ℕ → ℕ) (m : Model) (calls : List Call) → all_true i len (λ _. 0) m calls ≡ true → TrueReports i len m calls
unfolding TrueReports
true_reports i len m calls h before reports rest e z a v =
    true_along i len (λ _. 0) m before reports rest (subst (λ (l : List Call). all_true i len (λ _. 0) m l ≡ true) e h) z a v
    ∙ ap (λ (n : ℕ). is_due (is_running i v (after m before)) n (len v)) (zero-add (runs_in i v m before))

-- Whether the mode is typical before each of these calls and after the last.
abbrev pub all_typical : Model → List Call → Bool
all_typical m [] = not m.critical
all_typical m (x ∷ calls) = not m.critical && all_typical (step m x).model calls

typical_along : (m : Model) (before rest : List Call) → all_typical m (before ++ rest) ≡ true → (after m before).critical ≡ false
typical_along m [] [] h = not-true m.critical h
typical_along m [] (x ∷ rest) h = not-true m.critical ((and-eq-true_iff (not m.critical) _).0 h).0
typical_along m (x ∷ before) rest h = typical_along (step m x).model before rest ((and-eq-true_iff (not m.critical) _).0 h).1

pub typical_until : (d : ℕ) (m : Model) (calls : List Call) → all_typical m calls ≡ true → TypicalUntil d m calls
unfolding TypicalUntil
typical_until d m calls h before rest e few =
    typical_along m before rest (subst (λ (l : List Call). all_typical m l ≡ true) e h)

-- What a claim about jobs says at each accepted Release of a run: of the task, the model just after it, and the calls since.
abbrev pub AtReleases : (ℕ → Model → List Call → Type 0) → Model → List Call → Type 0
AtReleases P m [] = Unit {0}
AtReleases P m (release i ∷ calls) =
    (is_accepted m (release i) ≡ true → P i (step m (release i)).model calls) × AtReleases P (step m (release i)).model calls
AtReleases P m (tick reports ∷ calls) = AtReleases P (step m (tick reports)).model calls

at_release : (P : ℕ → Model → List Call → Type 0) (m : Model) (before : List Call) (i : ℕ) (since : List Call) →
    AtReleases P m (before ++ release i ∷ since) → is_accepted (after m before) (release i) ≡ true →
    P i (step (after m before) (release i)).model since
at_release P m [] i since h a = h.0 a
at_release P m (release j ∷ before) i since h a = at_release P (step m (release j)).model before i since h.1 a
at_release P m (tick reports ∷ before) i since h a = at_release P (step m (tick reports)).model before i since h a

pub at_releases : (P : ℕ → Model → List Call → Type 0) (m : Model) (calls : List Call) → AtReleases P m calls →
    (i : ℕ) (job : ReleaseIn m i calls) → P i (begun job) job.since
unfolding begun
at_releases P m calls h i job =
    at_release P m job.before i job.since (subst (AtReleases P m) job.list h) job.accepted
