-- `input::read_full`: a read that gives bytes, one that gives none, and one that fails.
-- What a read puts behind the front makes the front longer.
use Rattle.std.proofs.Common.{rules, arith, ◌≡◌, ◌≤◌, ◌+◌, ◌-◌, ◌∙◌, ℕ, List, ◌++◌, length, take, sym, ap, subst, length-take-le}
use Rattle.std.proofs.Math.Seq.{take-append-add}
use Rattle.std.proofs.lemmas.List.{take-append-le}
use Rattle.std.specs.declared.option.Option.{Option}
use Rattle.std.specs.Io.KnownBytes.{Consumes}
use Rattle.std.proofs.KnownBytes.{Consumes-trans}
use borrow.Rule.Slice.PartMut.{post_of}
use Rattle.input.proofs.read_full.Goals as goal

filled_more : (a b c : Option (List ℕ)) (front part rest : List ℕ) (at n : ℕ) → length front ≡ at → n ≤ length part
    → Consumes a b front → Consumes b c (take n part) → Consumes a c (take (at + n) (front ++ (part ++ rest)))
filled_more a b c front part rest at n long within first second =
    subst (λ k. Consumes a c (take (k + n) (front ++ (part ++ rest)))) long
    (subst (Consumes a c) (sym (take-append-add front (part ++ rest) n ∙ ap (λ l. front ++ l) (take-append-le n part rest within)))
    (Consumes-trans a b c front (take n part) first second))

pub loop-done-preserved : goal.loop-done-preserved
loop-done-preserved g c =
    let done = c.loop-done.done in
    let before = c.loop-done.invariant in
    let long = length-take-le done c.loop-done.buffer (omega (arith, before.0, before.1)) in (
      search rules,
      search rules,
      filled_more (g.R.Read.remaining c.args.input.now) (g.R.Read.remaining c.loop-done.input) (g.R.Read.remaining c.read.new.self) (take done c.loop-done.buffer) c.read.new.buf
          (post_of done (length c.loop-done.buffer - done) c.loop-done.buffer) done c.in-Ok.n long c.in-Ok.ensures.bound.0 before.2 c.in-Ok.ensures.bytes.0,
    )
