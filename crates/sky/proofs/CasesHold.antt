-- Every case by hand of 01 holds, in one statement over the list.
use mathlib.Core.List.{List, [], ◌∷◌, ◌++◌, map}
use Rattle.arithmetic.specs.Each.{Each, more, none}
use Rattle.heading.specs.Cases as Middles
use Rattle.heading.proofs.CasesHold as MiddlesHold
use Rattle.number_rules.specs.Cases as Numbers
use Rattle.number_rules.proofs.CasesHold as NumbersHold
use Rattle.sum_rules.specs.Cases as Sums
use Rattle.sum_rules.proofs.CasesHold as SumsHold
use Rattle.sky.specs.Cases.{Case, CasesHold, Holds, of_middles, of_numbers, of_sums}

joined : (xs ys : List Case) → Each Holds xs → Each Holds ys → Each Holds (xs ++ ys)
joined [] ys none k = k
joined (x ∷ xs) ys (more h hs) k = more h (joined xs ys hs k)

from_numbers : (cs : List Numbers.Case) → Each Numbers.Holds cs → Each Holds (map of_numbers cs)
from_numbers [] none = none
from_numbers (c ∷ cs) (more h hs) = more h (from_numbers cs hs)

from_sums : (cs : List Sums.Case) → Each Sums.Holds cs → Each Holds (map of_sums cs)
from_sums [] none = none
from_sums (c ∷ cs) (more h hs) = more h (from_sums cs hs)

from_middles : (cs : List Middles.Case) → Each Middles.Holds cs → Each Holds (map of_middles cs)
from_middles [] none = none
from_middles (c ∷ cs) (more h hs) = more h (from_middles cs hs)

pub cases_hold : CasesHold
cases_hold =
    joined (map of_numbers Numbers.cases) (map of_sums Sums.cases ++ map of_middles Middles.cases) (from_numbers Numbers.cases NumbersHold.cases_hold)
    (joined (map of_sums Sums.cases) (map of_middles Middles.cases) (from_sums Sums.cases SumsHold.cases_hold) (from_middles Middles.cases MiddlesHold.cases_hold))
