-- `shares::search::least_critical`: the two sums are the sides of the test at b, so that the search stops where the
-- definition does.
use Prim.Native.Nat.{ℕ, suc, ◌+◌, ◌-◌, ◌*◌, ◌≤◌, ◌<◌}
use mathlib.Core.Path.{◌≡◌, refl, sym, ap, ◌∙◌}
use native.Mathlib.Omega.{arith}
use Rattle.std.specs.Prelude.{leb}
use Rattle.std.proofs.lemmas.Bool.{le-leb, lt-leb}
use Rattle.shares.specs.declared.test.Terms.{Terms}
use Rattle.shares.specs.means.Terms.{meets}
use Rattle.shares.specs.Search.{first, least_critical, found_of}
use Rattle.shares.proofs.Least.{least_past}
use Rattle.shares.proofs.Walk.{search_past, search_here, search_on, least_by_terms, answer_none, answer_at}
use Rattle.shares.proofs.search.least_critical.Goals.{At-loop-b}
use Rattle.shares.proofs.search.least_critical.Goals as goal

pub returns-then-m-a : goal.returns-then-m-a
returns-then-m-a c =
    sym (ap (found_of c.args.m) (least_past c.args.m c.args.f c.args.a (omega arith)) ∙ answer_none c.args.m)

-- The test at b, by the two sums.
tested : (t : Terms) (a b need have : ℕ) → need ≡ t.slope * b + t.fixed + t.extra * (b - a) → have ≡ t.supply * b → meets t a b ≡ leb need have
unfolding meets
tested t a b need have n h = rw (n, h) refl

pub loop-b-preserved : goal.loop-b-preserved
loop-b-preserved c =
    let i = c.loop-b.invariant in
    let less : c.loop-b.have < c.loop-b.need = omega arith in
    let failed = tested _ _ _ _ _ i.needed i.had ∙ lt-leb _ _ less in
    let more : c.loop-b.b + 1 - c.args.a ≡ suc (c.loop-b.b - c.args.a) = omega (arith, i.from) in
    record {
      from = omega (arith, i.from);
      to = omega (arith, i.to);
      same = i.same ∙ search_on _ _ c.loop-b.b (omega (arith, i.to)) failed;
      needed = rw more (omega (arith, i.needed));
      had = omega (arith, i.had);
    }

-- What the search from b gives is the least critical share.
least_from_b : (c : At-loop-b) →
    least_critical c.args.m c.args.f c.args.a
    ≡ first (meets c.new-t.result c.args.a) (c.args.m + 1) c.loop-b.b
    (c.args.m + 1 - c.loop-b.b)
least_from_b c =
    least_by_terms c.args.m c.args.f c.args.a
    ∙ ap (λ (t : Terms). first (meets t c.args.a) (c.args.m + 1) c.args.a (c.args.m + 1 - c.args.a)) (sym c.new-t.ensures.equal)
    ∙ c.loop-b.invariant.same

pub returns-then-b-end : goal.returns-then-b-end
returns-then-b-end c =
    let past : c.args.m < c.loop-b.b = omega arith in
    sym (ap (found_of c.args.m) (least_from_b (goal.at.returns-then-b-end c).At-loop-b ∙ search_past _ c.args.m _ past) ∙ answer_none c.args.m)

pub returns-then-need-have : goal.returns-then-need-have
returns-then-need-have c =
    let i = c.loop-b.invariant in
    let within : c.loop-b.b ≤ c.args.m = omega (arith, i.to) in
    let covered : c.loop-b.need ≤ c.loop-b.have = omega arith in
    let met = tested _ _ _ _ _ i.needed i.had ∙ le-leb _ _ covered in
    let here = search_here _ c.args.m c.loop-b.b within met in
    sym (ap (found_of c.args.m) (least_from_b (goal.at.returns-then-need-have c).At-loop-b ∙ here) ∙ answer_at c.args.m c.loop-b.b within)
