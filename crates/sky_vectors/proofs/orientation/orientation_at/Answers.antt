-- `sky_vectors::orientation::orientation_at` meets its contract.
use mathlib.Core.Path.{◌∙◌, ◌≡◌, ap}
use Prim.Native.Nat.{◌^◌, ◌≤◌}
use lib.IntN.{◌+ℤ◌, nat_abs, ℤ}
use mir.Syntax.{w64}
use mir.Val.{of_z, to_z}
use Rattle.numbers.proofs.Machine.{Mirror, ◌⊕◌, arg, asked, fits, gave, kept, passed, told}
use Rattle.sky_vectors.specs.Orientation.{orientation}
use Rattle.earth.proofs.NutationLaws.{Δε_most, Δψ_most}
use Rattle.earth.proofs.SiderealLaws.{apparent_most}
use Rattle.sum_rules.specs.Instant.{furthest}
use Rattle.sum_rules.specs.Nutation.{mean_obliquity, obliquity, Δψ}
use Rattle.sum_rules.specs.Sidereal.{apparent}
use Rattle.sky_vectors.proofs.orientation.orientation_at.Goals as goal
use Rattle.sky_vectors.proofs.orientation.orientation_at.Goals.{After-apparent_at-greenwich, After-obliquity_at-obliquity, Start}

module _ (s : Start) where
  abbrev ut : ℤ
  ut = s.args.ut.n

  abbrev n : ℤ
  n = s.args.tt.n

  near : nat_abs n ≤ furthest
  near = s.requires.reached.0.1.near

  abbrev Δψ_mirror : Mirror
  Δψ_mirror = told {r = s.args.nutation.longitude} s.requires.reached.1.0 (Δψ_most n near) tt

  abbrev Δε_mirror : Mirror
  Δε_mirror = told {r = s.args.nutation.obliquity} s.requires.reached.1.1 (Δε_most n near) tt

  abbrev longitude : Mirror
  longitude = arg s.ranges.longitude s.requires.within

module _ (c : After-apparent_at-greenwich) where
  abbrev nodded : After-obliquity_at-obliquity
  nodded = (goal.at.After-apparent_at-greenwich c).After-obliquity_at-obliquity

  abbrev start : Start
  start = (goal.at.After-obliquity_at-obliquity nodded).Start

  obliquity_is : to_z w64 (of_z w64 nodded.obliquity_at-obliquity.result) ≡ obliquity (n start)
  obliquity_is =
      passed nodded.obliquity_at-obliquity.type_inv
      (nodded.obliquity_at-obliquity.ensures ∙ ap (λ (z : ℤ). mean_obliquity (n start) +ℤ z) (Δε_mirror start).same)

  abbrev greenwich : Mirror
  greenwich =
      gave {m = 2 ^ 36} c.apparent_at-greenwich.type_inv (c.apparent_at-greenwich.ensures ∙ (λ i. apparent (ut start) ((Δψ_mirror start).same i) (obliquity_is i)))
      (apparent_most (ut start) (Δψ (n start)) (obliquity (n start)) (Δψ_most (n start) (near start)))

  abbrev sidereal : Mirror
  sidereal = greenwich ⊕ longitude start

pub obliquity_at-obliquity-requires : goal.obliquity_at-obliquity-requires
obliquity_at-obliquity-requires c = let s = (goal.at.obliquity_at-obliquity-requires c).Start in (s.requires.reached.0.1, asked (Δε_mirror s) tt)

pub apparent_at-greenwich-requires : goal.apparent_at-greenwich-requires
apparent_at-greenwich-requires c = let s = (goal.at.apparent_at-greenwich-requires c).Start in (s.requires.reached.0.0, asked (Δψ_mirror s) tt)

pub overflow_add-sidereal : goal.overflow_add-sidereal
overflow_add-sidereal c = fits (sidereal (goal.at.overflow_add-sidereal c).After-apparent_at-greenwich) tt

pub returns : goal.returns
unfolding orientation
returns c = λ i. record { sidereal = (kept (sidereal (goal.at.returns c).After-apparent_at-greenwich) tt).same i; obliquity = obliquity_is (goal.at.returns c).After-apparent_at-greenwich i }
