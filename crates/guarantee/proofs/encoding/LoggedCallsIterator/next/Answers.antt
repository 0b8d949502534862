-- `guarantee::encoding::LoggedCallsIterator::next`: a whole call comes first, and those behind it are left.
use Rattle.std.proofs.Common.{◌≡◌, ◌∷◌, Some, None, arith}
use Rattle.basics.specs.Numbers.{byte_at}
use Rattle.guarantee.specs.Encoding.{kind_of, call_in, calls_of}
use Rattle.guarantee.proofs.Encodings.{calls_step, call_whole, calls_unknown, calls_cut}
use Rattle.guarantee.proofs.encoding.LoggedCallsIterator.next.Goals.{In_ok-kind, In_ok-bytes}
use Rattle.guarantee.proofs.encoding.LoggedCallsIterator.next.Goals as goal

pub returns-in_err-kind-clause-steps : goal.returns-in_err-kind-clause-steps
returns-in_err-kind-clause-steps c =
    let unknown : kind_of (byte_at c.args.self.now.rest.now 0) ≡ None = grind (arith, c.try_from.ensures, c.ok.ensures, c.in_err-kind.was, c.byte_at.ensures) in
    let none = calls_unknown c.args.self.now.rest.now unknown in
    rw c.from_residual.ensures (none, none)

known : (c : In_ok-kind) → kind_of (byte_at c.args.self.now.rest.now 0) ≡ Some c.in_ok-kind.kind
known c = grind (arith, c.try_from.ensures, c.ok.ensures, c.in_ok-kind.was, c.byte_at.ensures)

pub returns-in_err-bytes-clause-steps : goal.returns-in_err-bytes-clause-steps
returns-in_err-bytes-clause-steps c =
    let k = known (goal.at.returns-in_err-bytes-clause-steps c).In_ok-kind in
    let none = calls_cut c.args.self.now.rest.now c.in_ok-kind.kind k (rw (← c.asked_by-size.ensures.value) c.in_err-bytes.ensures.cases) in
    rw c.from_residual-in_err-bytes.ensures (none, none)

pub invariant_of-result : goal.invariant_of-result
invariant_of-result c =
    record {
      whole = call_whole c.args.self.now.rest.now c.asked_by-size.result c.in_ok-kind.kind c.in_ok-bytes.bytes.now
          c.asked_by-size.ensures.value c.in_ok-bytes.ensures.cases.1 c.in_ok-bytes.ensures.cases.3;
    }

step : (c : In_ok-bytes) →
    calls_of c.args.self.now.rest.now ≡ call_in c.in_ok-kind.kind c.in_ok-bytes.bytes.now ∷ calls_of c.in_ok-bytes.rest.now
step c =
    let split = c.in_ok-bytes.ensures.cases in
    let k = known (goal.at.In_ok-bytes c).In_ok-kind in
    rw (split.1, split.2)
    (calls_step c.args.self.now.rest.now c.in_ok-kind.kind c.asked_by-size.result k c.asked_by-size.ensures.value
    c.asked_by-size.ensures.some split.0)

pub returns-clause-steps : goal.returns-clause-steps
returns-clause-steps c = step (goal.at.returns-clause-steps c).In_ok-bytes

pub returns-clause-goes : goal.returns-clause-goes
returns-clause-goes c =
    let next = step (goal.at.returns-clause-goes c).In_ok-bytes in
    record { on = λ f. (tt, tt, rw next (omega arith)); keeps = tt; rests = λ f. tt }
