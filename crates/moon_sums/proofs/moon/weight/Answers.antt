-- `moon_sums::moon::weight` meets its contract.
use mathlib.Core.Path.{◌∙◌, ◌≡◌, ap, refl, sym}
use Prim.Native.Nat.{suc, zero, ℕ}
use native.Mathlib.Omega.{arith}
use lib.IntN.{◌*ℤ◌, nat_abs, pos, ℤ}
use Rattle.arithmetic.specs.Floor.{⌊◌÷◌⌋}
use Rattle.numbers.proofs.Machine.{Mirror, ◌⊗◌, fits, floor_gave, kept, lit, told}
use Rattle.sum_rules.specs.Moon.{weight}
use Rattle.sum_rules.specs.declared.moon.Eccentricity.{Eccentricity}
use Rattle.sum_terms.proofs.NarrowMirror.{narrow_same}
use Rattle.moon_sums.proofs.moon.weight.Goals as goal
use Rattle.moon_sums.proofs.moon.weight.Goals.{After-unsigned_abs}

-- what the tests of m leave
twice : (e : Eccentricity) (m : ℕ) (l : ℤ) → (m ≡ 0 → ⊥) → (m ≡ 1 → ⊥) → weight e m l ≡ ⌊ l *ℤ e.e2 ÷ 10_000 ⌋
unfolding weight
twice e zero l h k = absurd (h refl)
twice e (suc zero) l h k = absurd (k refl)
twice e (suc (suc m)) l h k = refl

module _ (c : After-unsigned_abs) where
  abbrev l_mirror : Mirror
  l_mirror = told (c.from-l.ensures ∙ narrow_same c.args.l c.requires.1.1 tt) c.requires.1.1 tt

  abbrev hundred : Mirror
  hundred = lit (pos 100) ⊗ l_mirror

  abbrev by_e : Mirror
  by_e = l_mirror ⊗ told {r = c.args.e.e} refl c.requires.0.once tt

  abbrev by_e2 : Mirror
  by_e2 = l_mirror ⊗ told {r = c.args.e.e2} refl c.requires.0.twice tt

  -- the weight by the size of m
  by_multiple : weight c.args.e c.unsigned_abs.result c.args.l ≡ weight c.args.e (nat_abs c.args.m) c.args.l
  by_multiple = ap (λ (m : ℕ). weight c.args.e m c.args.l) (c.unsigned_abs.ensures.value ∙ ap nat_abs (narrow_same c.args.m c.requires.1.0 tt))

pub overflow_mul-l : goal.overflow_mul-l
overflow_mul-l c = fits (by_e (goal.at.overflow_mul-l c).After-unsigned_abs) tt

pub overflow_mul-l-in_default : goal.overflow_mul-l-in_default
overflow_mul-l-in_default c = fits (by_e2 (goal.at.overflow_mul-l-in_default c).After-unsigned_abs) tt

pub returns-in-0 : goal.returns-in-0
unfolding weight
returns-in-0 c =
    let a = (goal.at.returns-in-0 c).After-unsigned_abs in
    (kept (hundred a) tt).same ∙ ap (λ (m : ℕ). weight c.args.e m c.args.l) (sym c.in-0.is) ∙ by_multiple a

pub returns-in-1 : goal.returns-in-1
unfolding weight
returns-in-1 c =
    let a = (goal.at.returns-in-1 c).After-unsigned_abs in
    (floor_gave (kept (by_e a) tt) 10_000 c.floor_div.type_inv c.floor_div.ensures).same
    ∙ ap (λ (m : ℕ). weight c.args.e m c.args.l) (sym c.in-1.is) ∙ by_multiple a

pub returns-in_default : goal.returns-in_default
returns-in_default c =
    let a = (goal.at.returns-in_default c).After-unsigned_abs in
    (floor_gave (kept (by_e2 a) tt) 10_000 c.floor_div-in_default.type_inv c.floor_div-in_default.ensures).same
    ∙ sym (twice c.args.e c.unsigned_abs.result c.args.l (λ h. omega (arith, h)) (λ h. omega (arith, h)))
    ∙ by_multiple a
