-- Cases by hand (01, ●), all of them in one list: those of numbers, of sums and of the middle of two azimuths.
use Rattle.std.specs.Prelude.{List, ◌++◌, map}
use Rattle.arithmetic.specs.Each.{Each}
use Rattle.heading.specs.Cases as Middles
use Rattle.number_rules.specs.Cases as Numbers
use Rattle.sum_rules.specs.Cases as Sums

pub data Case : Type 0 where
  of_numbers : Numbers.Case → Case
  of_sums : Sums.Case → Case
  of_middles : Middles.Case → Case

abbrev pub Holds : Case → Type 0
Holds (of_numbers c) = Numbers.Holds c
Holds (of_sums c) = Sums.Holds c
Holds (of_middles c) = Middles.Holds c

abbrev pub cases : List Case
cases = map of_numbers Numbers.cases ++ (map of_sums Sums.cases ++ map of_middles Middles.cases)

-- every one of them holds
abbrev pub CasesHold : Type 0
CasesHold = Each Holds cases
