-- `exports::decoding::entries_fit`: the chain tests the words of the sixteen entries, each from its place on.
use Prim.Native.Nat.{ℕ}
use mathlib.Core.Path.{refl, ap, ◌∙◌}
use native.Mathlib.Omega.{arith}
use lib.ListN.{drop}
use borrow.Author.Rules.{rules}
use Rattle.std.proofs.lemmas.Iterator.{YieldsList-from_range}
use Rattle.std.proofs.lemmas.Iterator.Search.{all_from_yields_List}
use Rattle.std.proofs.lemmas.List.{take_rest}
use Rattle.basics.proofs.Below.{list_all-range}
use Rattle.exports.specs.Words.{entry_start, entry_fits}
use Rattle.exports.proofs.decoding.entries_fit.Goals as goal

pub returns : goal.returns
returns c =
    let test = λ (i : ℕ). entry_fits (drop (entry_start i) c.args.line.now) in
    all_from_yields_List test _ _ c.all.result c.all.ensures.ran (YieldsList-from_range 0 16 16 refl (omega arith))
    (λ x b q k. let e = ap entry_fits (take_rest c.args.line.now (entry_start x)) in search (rules, e))
    ∙ list_all-range test 16
