-- `curve::minute_of` meets its contract.
use mathlib.Core.Path.{◌∙◌, ◌≡◌}
use native.Mathlib.Nat.{le_of_lt}
use lib.IntN.{pos}
use borrow.Author.Rules.{rules}
use mir.Syntax.{w64}
use mir.Val.{SFits, of_z, to_z}
use mir.ValLaws.{to_z-of_z}
use Rattle.numbers.proofs.Machine.{Mirror, ◌⊗◌, fits, from_nat, kept, lit}
use Rattle.sum_rules.specs.Instant.{terrestrial_time, universal_time}
use Rattle.day.specs.Curve.{minute, minute_of}
use Rattle.day.proofs.curve.minute_of.Goals as goal
use Rattle.day.proofs.curve.minute_of.Goals.{Start}

module _ (s : Start) where
  ut1_fits : SFits w64 s.args.date.ut1
  ut1_fits = search rules

  delta_fits : SFits w64 s.args.date.delta_t
  delta_fits = search rules

  abbrev elapsed : Mirror
  elapsed = from_nat (le_of_lt s.requires.1) tt ⊗ lit (pos minute)

  -- what `instant_at` is handed
  days_is : to_z w64 (of_z w64 s.args.days) ≡ s.args.days
  days_is = to_z-of_z w64 s.args.days s.ranges.days

  ut1_is : to_z w64 (of_z w64 s.args.date.ut1) ≡ s.args.date.ut1
  ut1_is = to_z-of_z w64 s.args.date.ut1 ut1_fits

  delta_is : to_z w64 (of_z w64 s.args.date.delta_t) ≡ s.args.date.delta_t
  delta_is = to_z-of_z w64 s.args.date.delta_t delta_fits

pub overflow_mul-minute : goal.overflow_mul-minute
overflow_mul-minute c = fits (elapsed (goal.at.overflow_mul-minute c).Start) tt

pub instant_at-requires : goal.instant_at-requires
instant_at-requires c =
    let s = (goal.at.instant_at-requires c).Start in
    rw (days_is s, (kept (elapsed s) tt).same, ut1_is s, delta_is s) (s.requires.0.each s.args.minute s.requires.1)

pub returns : goal.returns
unfolding minute_of
returns c =
    let s = (goal.at.returns c).Start in
    let e = (kept (elapsed s) tt).same in
    let ut = c.instant_at.ensures.0 ∙ (λ i. universal_time (days_is s i) (e i) (ut1_is s i)) in
    let tt₀ = c.instant_at.ensures.1 ∙ (λ i. terrestrial_time (universal_time (days_is s i) (e i) (ut1_is s i)) (delta_is s i)) in
    λ i. record { ut = ut i; tt = tt₀ i }
