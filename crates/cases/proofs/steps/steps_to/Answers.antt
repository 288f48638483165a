-- `cases::steps::steps_to` meets its contract.
use mathlib.Core.Path.{◌∙◌, ◌≡◌, ap, subst⁻¹}
use Prim.Native.Nat.{◌≤◌}
use lib.IntN.{nat_abs, ℤ}
use Rattle.number_rules.specs.Angle.{half_turn}
use mir.Syntax.{w64}
use mir.Val.{SFits, of_z, to_z}
use mir.ValLaws.{to_z-of_z}
use Rattle.request.proofs.RequestLaws.{on_earth}
use Rattle.sky_vectors.specs.Geocentric.{geocentric}
use Rattle.sky_vectors.specs.Orientation.{orientation}
use Rattle.sky_vectors.specs.Station.{runner}
use Rattle.sky_vectors.specs.declared.station.Runner.{Runner}
use Rattle.sky_vectors.proofs.SkySizes.{runner_stands}
use Rattle.sum_rules.specs.Nutation.{Δε, Δψ}
use borrow.Author.Rules.{rules}
use Rattle.cases.proofs.steps.steps_to.Goals as goal
use Rattle.cases.proofs.steps.steps_to.Goals.{After-geocentric_at-centre, After-moment_of-moment, After-nutation_at-nutation, After-runner_at-runner, Start}

-- the states on the way
module _ (e : After-geocentric_at-centre) where
  abbrev nodding : After-nutation_at-nutation
  nodding = (goal.at.After-geocentric_at-centre e).After-nutation_at-nutation

  abbrev at : After-moment_of-moment
  at = (goal.at.After-nutation_at-nutation nodding).After-moment_of-moment

  abbrev s : Start
  s = (goal.at.After-moment_of-moment at).Start

longitude_is : (r : After-runner_at-runner) → to_z w64 (of_z w64 r.runner_at-runner.result.longitude) ≡ (runner (s (goal.at.After-runner_at-runner r).After-geocentric_at-centre).args.point).longitude
longitude_is r = to_z-of_z w64 r.runner_at-runner.result.longitude (fits r) ∙ ap (λ (x : Runner). x.longitude) r.runner_at-runner.ensures
  where
    fits : (r : After-runner_at-runner) → SFits w64 r.runner_at-runner.result.longitude
    fits r = search rules

pub runner_at-runner-requires : goal.runner_at-runner-requires
runner_at-runner-requires c =
    let e = (goal.at.runner_at-runner-requires c).After-geocentric_at-centre in
    on_earth (s e).args.point (s e).requires.1

pub orientation_at-orientation-requires : goal.orientation_at-orientation-requires
orientation_at-orientation-requires c =
    let r = (goal.at.orientation_at-orientation-requires c).After-runner_at-runner in
    let e = (goal.at.After-runner_at-runner r).After-geocentric_at-centre in record {
      within = subst⁻¹ (λ (z : ℤ). nat_abs z ≤ half_turn) (longitude_is r) (runner_stands (s e).args.point (on_earth (s e).args.point (s e).requires.1)).longitude_size;
      reached = (((at e).moment_of-moment.ensures.0.0, (at e).moment_of-moment.ensures.0.1), ((nodding e).nutation_at-nutation.ensures.0, (nodding e).nutation_at-nutation.ensures.1));
    }

pub returns : goal.returns
returns c =
    let r = (goal.at.returns c).After-runner_at-runner in
    let e = (goal.at.After-runner_at-runner r).After-geocentric_at-centre in
    let ut_is = (at e).moment_of-moment.ensures.1.0 in
    let tt_is = (at e).moment_of-moment.ensures.1.1 in record {
      longitude_value = ((nodding e).nutation_at-nutation.ensures.0 ∙ ap Δψ tt_is, (nodding e).nutation_at-nutation.ensures.1 ∙ ap Δε tt_is);
      centre_value = (
        e.geocentric_at-centre.ensures ∙ ap (geocentric (s e).args.body) tt_is,
        c.orientation_at-orientation.ensures ∙ (λ i. orientation (longitude_is r i) (ut_is i) (tt_is i)),
      );
    }
