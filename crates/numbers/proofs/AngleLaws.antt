-- What `Angle::new` gave at a parameter.
use mathlib.Core.Path.{◌∙◌, ◌≡◌, ap, subst⁻¹}
use Prim.Native.Nat.{◌<◌, ℕ}
use lib.IntN.{ℤ}
use mir.Syntax.{w64}
use mir.Val.{SFits, of_z, to_z}
use Rattle.number_rules.specs.Angle.{full_turn, reduced}
use Rattle.number_rules.proofs.SineLaws.{reduced_below}
use Rattle.numbers.proofs.Machine.{any}

module _ {x : ℤ} (f : SFits w64 x) {u : ℕ} (e : u ≡ reduced (to_z w64 (of_z w64 x))) where
  pub new_is : u ≡ reduced x
  new_is = e ∙ ap reduced (any f).same

  pub new_below : u < full_turn
  new_below = subst⁻¹ (λ (n : ℕ). n < full_turn) new_is (reduced_below x)
