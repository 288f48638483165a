-- `sky_vectors::station::runner_at` meets its contract.
use mathlib.Core.Path.{◌∙◌, ◌≡◌, ap, ap₂}
use lib.IntN.{◌*ℤ◌, pos}
use Rattle.numbers.proofs.Machine.{Mirror, ◌⊗◌, asked, field, fits, kept, lit}
use Rattle.sky_vectors.specs.Observer.{observer}
use Rattle.numbers.specs.SineCosine.{sine_cosine}
use Rattle.sky_vectors.specs.Station.{runner}
use Rattle.numbers.proofs.SineCosineLaws.{gave_one_angle, gave_sine_cosine}
use Rattle.sky_vectors.proofs.station.runner_at.Goals as goal
use Rattle.sky_vectors.proofs.station.runner_at.Goals.{After-sine_cosine-latitude, After-struct_told-2-1, Start}

module _ (s : Start) where
  abbrev longitude : Mirror
  longitude = lit (pos 10) ⊗ field s.args.point.longitude s.requires.longitude_size tt

  abbrev latitude : Mirror
  latitude = lit (pos 10) ⊗ field s.args.point.latitude s.requires.latitude_size tt

  abbrev height : Mirror
  height = field s.args.point.height s.requires.height_size tt

abbrev start : After-struct_told-2-1 → Start
start c = (goal.at.After-struct_told-2-1 c).Start

module _ (c : After-sine_cosine-latitude) where
  abbrev begun : Start
  begun = start (goal.at.After-sine_cosine-latitude c).After-struct_told-2-1

  latitude_is : c.sine_cosine-latitude.result ≡ sine_cosine (pos 10 *ℤ begun.args.point.latitude)
  latitude_is = gave_sine_cosine _ c.sine_cosine-latitude.ensures ∙ ap sine_cosine (kept (latitude begun) tt).same

pub overflow_mul-longitude : goal.overflow_mul-longitude
overflow_mul-longitude c = fits (longitude (goal.at.overflow_mul-longitude c).Start) tt

pub overflow_mul-point : goal.overflow_mul-point
overflow_mul-point c = fits (latitude (start (goal.at.overflow_mul-point c).After-struct_told-2-1)) tt

pub observer_at-observer-requires : goal.observer_at-observer-requires
observer_at-observer-requires c =
    let k = (goal.at.observer_at-observer-requires c).After-sine_cosine-latitude in
    (gave_one_angle _ k.sine_cosine-latitude.ensures, asked (height (begun k)) tt)

pub returns : goal.returns
unfolding runner
returns c =
    let k = (goal.at.returns c).After-sine_cosine-latitude in
    let l = (kept (longitude (begun k)) tt).same in
    let o = c.observer_at-observer.ensures ∙ ap₂ observer (latitude_is k) (height (begun k)).same in
    λ i. record { longitude = l i; latitude = latitude_is k i; observer = o i }
