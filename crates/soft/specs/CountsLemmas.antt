-- Counts keep the rules of a soft kind, and their score is fair, as those of whole numbers do. Assumes nothing.
use Rattle.std.specs.Prelude.{refl}
use Rattle.std.proofs.Common.{arith}
use Rattle.soft.specs.Kind.{Rules, AllFair}
use Rattle.soft.specs.Counts.{count_kind, count_score, top_count, held, counted}
use Rattle.soft.specs.Whole.{whole_kind, whole_score}
use Rattle.soft.specs.CarriedLemmas.{carried_rules, carried_fair}
use Rattle.soft.specs.WholeLemmas.{whole_rules, whole_fair}

pub count_rules : Rules count_kind
count_rules = carried_rules held counted (whole_kind top_count) (λ v r small p. refl) (whole_rules top_count (omega arith) (omega arith))

pub count_fair : AllFair count_kind count_score
count_fair = carried_fair held counted (whole_kind top_count) whole_score (whole_fair top_count)
