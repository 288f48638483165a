-- `sky_vectors::observer::observer_at` meets its contract. Each local is mirrored once, at the place where it is known.
use mathlib.Core.Path.{◌∙◌, ◌≡◌, ap, subst₂, sym}
use Prim.Native.Nat.{◌+◌, ◌<◌}
use lib.IntN.{nat_abs, pos, ℤ}
use Rattle.number_rules.specs.Sine.{cosine, sine}
use Rattle.numbers.proofs.Machine.{Mirror, ◌⊕◌, ◌⊗◌, arg, fits, floor_gave, kept, lit, told}
use Rattle.number_rules.proofs.SineSize.{cosine_most, sine_most}
use Rattle.sky_vectors.specs.Observer.{flattened, observer, polar, radius}
use Rattle.numbers.proofs.SineCosineLaws.{cosine_in, sine_in}
use Rattle.sky_vectors.proofs.LatitudeLaws.{directed}
use Rattle.sky_vectors.proofs.SkyMirror.{angle_fits, angle_gave}
use Rattle.sky_vectors.proofs.observer.observer_at.Goals as goal
use Rattle.sky_vectors.proofs.observer.observer_at.Goals.{After-angle_of-angle, After-floor_div, After-floor_div-3, After-floor_div-flattened, After-sine_cosine-w, After-struct_told-2-1, After-struct_told-4-1, Start}

module _ (k : After-struct_told-2-1) where
  abbrev start : Start
  start = k.before.before

  abbrev sine_φ : Mirror
  sine_φ = sine_in start.requires.0

  abbrev cosine_φ : Mirror
  cosine_φ = cosine_in start.requires.0

  abbrev height : Mirror
  height = arg start.ranges.height start.requires.1

  abbrev shrunk : Mirror
  shrunk = lit polar ⊗ sine_φ

abbrev polar_sine : After-floor_div-flattened → Mirror
polar_sine k = floor_gave (kept (shrunk k.before) tt) 100_000_000 k.floor_div-flattened.type_inv k.floor_div-flattened.ensures

abbrev angle : After-angle_of-angle → Mirror
angle k = angle_gave (polar_sine k.before) (cosine_φ k.before.before) k.angle_of-angle.ensures

module _ (k : After-sine_cosine-w) where
  abbrev read : After-struct_told-2-1
  read = k.before.before.before

  abbrev w : ℤ
  w = pos (flattened (start read).args.latitude)

  sine_is : k.sine_cosine-w.result.sine ≡ sine w
  unfolding flattened
  sine_is = k.sine_cosine-w.ensures.0 ∙ ap sine (angle k.before).same

  cosine_is : k.sine_cosine-w.result.cosine ≡ cosine w
  unfolding flattened
  cosine_is = k.sine_cosine-w.ensures.1 ∙ ap cosine (angle k.before).same

  abbrev cosine_w : Mirror
  cosine_w = told cosine_is (cosine_most w) tt

  abbrev along : Mirror
  along = height read ⊗ cosine_φ read

  abbrev axial : Mirror
  axial = lit polar ⊗ told sine_is (sine_most w) tt

  abbrev upwards : Mirror
  upwards = height read ⊗ sine_φ read

-- the state in which w became known
abbrev known : After-struct_told-4-1 → After-sine_cosine-w
known k = k.before.before

abbrev f : After-floor_div → Mirror
f k = let e = known k.before in cosine_w e ⊕ floor_gave (kept (along e) tt) radius k.floor_div.type_inv k.floor_div.ensures

abbrev g : After-floor_div-3 → Mirror
g k =
    let e = known k.before.before.before in
    floor_gave (kept (axial e) tt) 100_000_000 k.floor_div-2.type_inv k.floor_div-2.ensures
    ⊕ floor_gave (kept (upwards e) tt) radius k.floor_div-3.type_inv k.floor_div-3.ensures

pub overflow_mul-sine : goal.overflow_mul-sine
overflow_mul-sine k = fits (shrunk (goal.at.overflow_mul-sine k).After-struct_told-2-1) tt

pub angle_of-angle-requires : goal.angle_of-angle-requires
angle_of-angle-requires k =
    subst₂ (λ (y x : ℤ). 0 < nat_abs y + nat_abs x) (sym (polar_sine (goal.at.angle_of-angle-requires k).After-floor_div-flattened).same) (sym (cosine_φ (goal.at.angle_of-angle-requires k).After-struct_told-2-1).same) (directed (start (goal.at.angle_of-angle-requires k).After-struct_told-2-1).requires.0)

pub overflow_cast-angle : goal.overflow_cast-angle
overflow_cast-angle k = angle_fits (polar_sine (goal.at.overflow_cast-angle k).After-floor_div-flattened) (cosine_φ (goal.at.overflow_cast-angle k).After-struct_told-2-1) k.angle_of-angle.ensures

pub overflow_mul-height : goal.overflow_mul-height
overflow_mul-height k = fits (along (known (goal.at.overflow_mul-height k).After-struct_told-4-1)) tt

pub overflow_add-f : goal.overflow_add-f
overflow_add-f k = fits (f (goal.at.overflow_add-f k).After-floor_div) tt

pub overflow_mul-sine_w : goal.overflow_mul-sine_w
overflow_mul-sine_w k = fits (axial (known (goal.at.overflow_mul-sine_w k).After-struct_told-4-1)) tt

pub overflow_mul-height-2 : goal.overflow_mul-height-2
overflow_mul-height-2 k = fits (upwards (known (goal.at.overflow_mul-height-2 k).After-struct_told-4-1)) tt

pub overflow_add-g : goal.overflow_add-g
overflow_add-g k = fits (g (goal.at.overflow_add-g k).After-floor_div-3) tt

pub returns : goal.returns
unfolding observer
returns k = λ i. record { f = (kept (f (goal.at.returns k).After-floor_div) tt).same i; g = (kept (g (goal.at.returns k).After-floor_div-3) tt).same i }
