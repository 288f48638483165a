-- Where the runner stands (01, "From the centre to the runner": Observer).
use Rattle.std.specs.Prelude.{◌≡◌, ℕ, ◌*ℤ◌, ◌+ℤ◌, ◌-ℤ◌, pos, Some, ℤ}
use Rattle.arithmetic.specs.Floor.{⌊◌÷◌⌋}
use Rattle.arctangent.specs.Arctangent.{angle_of, arctangent}
use Rattle.number_rules.specs.Sine.{cosine, sine}
use Rattle.numbers.specs.SineCosine.{sine_cosine}
use Rattle.numbers.specs.declared.sine.SineCosine.{SineCosine}
use Rattle.sky_vectors.specs.Product.{◌·◌}
use Rattle.sky_vectors.specs.declared.observer.Observer.{Observer}
use Rattle.sky_vectors.specs.declared.vector.Vector.{Vector}

-- the Earth's radius at the equator, in metres
abbrev pub radius : ℕ
radius = 6_378_140

-- the polar radius, times 10⁸, where the equator's is 1
abbrev pub polar : ℤ
polar = pos 99_664_719

-- w = arctangent(floor(99,664,719 sinφ/10⁸), cosφ), the angle of a pair that has a direction
abbrev pub polar_sine : SineCosine → ℤ
polar_sine φ = ⌊ polar *ℤ φ.sine ÷ 100_000_000 ⌋

unfoldable pub flattened : SineCosine → ℕ
flattened φ = angle_of (polar_sine φ) φ.cosine

-- THE CLAIM, for every latitude: the arctangent never says "no direction" there
abbrev pub EveryLatitudeDirected : Type 0
EveryLatitudeDirected = (x : ℤ) → let φ = sine_cosine x in arctangent (polar_sine φ) φ.cosine ≡ Some (record { units = flattened φ })

-- f = cos w + floor(H cosφ/6,378,140); g = floor(99,664,719 sin w/10⁸) + floor(H sinφ/6,378,140)
unfoldable pub observer : SineCosine → ℤ → Observer
observer φ height =
    let w = pos (flattened φ) in
    record {
      f = cosine w +ℤ ⌊ height *ℤ φ.cosine ÷ radius ⌋;
      g = ⌊ polar *ℤ sine w ÷ 100_000_000 ⌋ +ℤ ⌊ height *ℤ φ.sine ÷ radius ⌋;
    }

-- a less p·f, z less p·g
unfoldable pub shifted : ℤ → Observer → Vector → Vector
shifted p from vector = record { x = vector.x -ℤ p · from.f; y = vector.y; z = vector.z -ℤ p · from.g }
