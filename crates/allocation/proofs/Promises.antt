-- What functions of `promise` promise, by the lemmas of each subject.
use Rattle.allocation.specs.Promise.{BestChoice, NoOption, KeptChoice, HeldTotals, SheetLawful, SheetRounded}
use Rattle.allocation.proofs.Accepted.{sheet_lawful}
use Rattle.allocation.proofs.Blocks.{shares_blocks}
use Rattle.allocation.proofs.Held.{held}
use Rattle.allocation.proofs.Rounding.{sheet_rounded}
use Rattle.allocation.proofs.SetShares.{typical_stays, set_kept, set_shares, shares_lawful, kept_marked}
use Rattle.allocation.proofs.Ways.{no_option_plain, set_best}

pub best_choice : BestChoice
unfolding BestChoice
best_choice = set_best

pub no_option : NoOption
unfolding NoOption
no_option = no_option_plain

pub kept_choice : KeptChoice
unfolding KeptChoice
kept_choice set choice lawful chosen_it =
    record {
      best = set_kept set lawful choice chosen_it;
      shares = set_shares set lawful choice chosen_it;
      typical = typical_stays set choice;
      marked = kept_marked set lawful choice chosen_it;
      lawful = shares_lawful set lawful choice chosen_it;
      blocks = shares_blocks set _ (shares_lawful set lawful choice chosen_it);
    }

pub held_totals : HeldTotals
unfolding HeldTotals
held_totals = held

pub lawful_sheet : SheetLawful
unfolding SheetLawful
lawful_sheet = sheet_lawful

pub rounded_sheet : SheetRounded
unfolding SheetRounded
rounded_sheet = sheet_rounded
