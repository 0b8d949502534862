-- `chains::longest_among`: what the chain gives are the chains that end at the nodes, and the library takes the greatest.
use Rattle.std.proofs.Common.{◌∙◌, rules, tests, ap}
use mathlib.Core.Path.{sym}
use Rattle.std.specs.Option.{unwrap_or}
use Rattle.std.proofs.lemmas.Iterator.{YieldsList-from_map}
use Rattle.std.proofs.lemmas.Iterator.Adapters.{option_map_id}
use Rattle.std.proofs.lemmas.Iterator.Consumers.{YieldsList-from_first, max_from_yields_List}
use Rattle.std.specs.Prelude.{get_or}
use Rattle.nodes.specs.Sets.{members}
use Rattle.chains.specs.Chains.{longest_among}
use Rattle.chains.proofs.Greatest.{greatest_reduced}
use Rattle.chains.proofs.longest_among.Goals as goal

pub returns : goal.returns
unfolding longest_among
returns c =
    c.unwrap_or.ensures
    ∙ ap (λ o. unwrap_or o 0) (
    sym (option_map_id _)
    ∙ max_from_yields_List c.map.result _ c.max.ensures.ran
    (YieldsList-from_map _ (λ v. get_or c.args.chains.now v 0) (YieldsList-from_first (λ m. m) (λ m. m) (members 32 c.args.nodes) (c.map.ensures.source ∙ c.iter.ensures)) c.map.ensures.closure (λ x r q k. search (rules, tests)))
    )
    ∙ greatest_reduced _
