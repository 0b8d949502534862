-- `plan_text::text::Text::push_number`: a tenth of a number of more digits is smaller.
use Rattle.plan_text.proofs.text.Text.+push_number.Given as goal

abbrev pub decreases-push_number : goal.decreases-push_number
decreases-push_number l = l.n
