-- What `promise` promises of numbers in decimal, by the law on their digits.
use Rattle.plan_text.specs.Decimal.{DecimalReads}
use Rattle.plan_text.proofs.Digits.{decimal-reads}

pub decimal_reads : DecimalReads
unfolding DecimalReads
decimal_reads n = decimal-reads n
