-- `line_answers::sheet::arguments_at` meets its contract.
use mathlib.Core.List.{List}
use mathlib.Core.Path.{◌∙◌, ◌≡◌, ap}
use Prim.Native.Nat.{◌≤◌}
use lib.IntN.{pos, ℤ}
use Rattle.numbers.proofs.Machine.{Mirror, field, from_nat, nat_fits, told}
use Rattle.number_rules.specs.Angle.{full_turn}
use Rattle.line_answers.specs.Sheet.{arguments}
use Rattle.sum_terms.proofs.InstantLaws.{mean_most, reached, value_small}
use Rattle.sum_rules.specs.Instant.{powers}
use Rattle.sum_rules.specs.Moon as Moon
use Rattle.sum_rules.specs.Moon.{argument}
use Rattle.sum_rules.specs.MoonTerms.{L'}
use Rattle.sum_rules.specs.Sidereal.{mean}
use Rattle.sum_rules.specs.Table.{column}
use Rattle.sum_rules.specs.declared.instant.Instant.{Instant}
use Rattle.line_answers.proofs.sheet.arguments_at.Goals as goal
use Rattle.line_answers.proofs.sheet.arguments_at.Goals.{After-arguments-moon, After-mean_at-sidereal, After-powers_at, After-powers_at-2, Start}

module _ (s : Start) where
  abbrev instant : Instant
  instant = s.args.instant

  abbrev tt₀ : Mirror
  tt₀ = field instant.tt s.requires.tt_near tt

  abbrev ut₀ : Mirror
  ut₀ = field instant.ut s.requires.ut_near tt

powers_is : (c : After-powers_at) → c.powers_at.result ≡ powers (instant (goal.at.After-powers_at c).Start).tt
powers_is c = c.powers_at.ensures ∙ ap powers (tt₀ (goal.at.After-powers_at c).Start).same

ut_powers_is : (c : After-powers_at-2) → c.powers_at-2.result ≡ powers (instant (goal.at.After-powers_at-2 c).Start).ut
ut_powers_is c = c.powers_at-2.ensures ∙ ap powers (ut₀ (goal.at.After-powers_at-2 c).Start).same

sidereal_is : (c : After-mean_at-sidereal) → c.mean_at-sidereal.result ≡ mean (instant (goal.at.After-mean_at-sidereal c).Start).ut
sidereal_is c = c.mean_at-sidereal.ensures ∙ (λ i. mean (ut_powers_is (goal.at.After-mean_at-sidereal c).After-powers_at-2 i).n)

sidereal_small : (c : After-mean_at-sidereal) → c.mean_at-sidereal.result ≤ full_turn
sidereal_small c = rw (sidereal_is c) (mean_most (instant (goal.at.After-mean_at-sidereal c).Start).ut)

pub arguments-moon-requires : goal.arguments-moon-requires
arguments-moon-requires c = reached (powers_is (goal.at.arguments-moon-requires c).After-powers_at) c.requires.tt_near

pub mean_at-sidereal-requires : goal.mean_at-sidereal-requires
mean_at-sidereal-requires c = reached (ut_powers_is (goal.at.mean_at-sidereal-requires c).After-powers_at-2) c.requires.ut_near

pub overflow_cast-sidereal : goal.overflow_cast-sidereal
overflow_cast-sidereal c = nat_fits (sidereal_small (goal.at.overflow_cast-sidereal c).After-mean_at-sidereal) tt

pub returns : goal.returns
unfolding arguments
returns c =
    let m = (goal.at.returns c).After-mean_at-sidereal in
    let k = (goal.at.After-mean_at-sidereal m).After-arguments-moon in
    let n = (instant (goal.at.After-arguments-moon k).Start).tt in
    let first = ap (λ (row : List ℤ). column row 0) (k.arguments-moon.ensures ∙ (λ i. Moon.arguments (powers_is (goal.at.After-arguments-moon k).After-powers_at i).n)) in
    let longitude = (told {r = column k.arguments-moon.result 0} {v = argument L' n} first (value_small L' n) tt).same in
    let sidereal = (from_nat (sidereal_small m) tt).same ∙ ap pos (sidereal_is m) in
    λ i. record { tt = (tt₀ (goal.at.After-arguments-moon k).Start).same i; longitude = longitude i; sidereal = sidereal i }
