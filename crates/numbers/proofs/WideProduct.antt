-- Long division of c n by d, by the digits of c to base 2¹⁶.
use mathlib.Core.Bool.{Bool, ◌&&◌}
use mathlib.Core.List.{[], ◌∷◌}
use mathlib.Core.Path.{◌∙◌, ◌≡◌, ap, sym}
use Prim.Native.Nat.{◌*◌, ◌+◌, ◌/◌, ◌<◌, ◌^◌, ℕ}
use native.Mathlib.Nat.{le_trans}
use lib.Dec.{T, leb, leb→le, ltb, ltb→lt}
use lib.IntN.{◌*ℤ◌, ◌+ℤ◌, ◌-ℤ◌, pos, ℤ}
use lib.Signed.{mag}
use mir.Facts.{and_yes}
use Rattle.arithmetic.specs.Floor.{◌modulo◌, ⌊◌÷◌⌋}
use Rattle.arithmetic.proofs.FloorLaws.{floor_most, next_digit, next_modulo}
use Rattle.arithmetic.proofs.Integers.{solveℤ}
use Rattle.arithmetic.proofs.Sizes.{mul_bound}
use Rattle.arithmetic.proofs.Solver.{◌:*◌, ◌:+◌, ◌:-◌, x0, x1, x2, x3}
use Rattle.numbers.specs.Whole.{MulDiv}
use Rattle.numbers.proofs.Machine.{Mirror, ◌⊗◌, floor_gave}

abbrev pub base : ℕ
base = 65536

module _ (c n : ℤ) (d : ℕ) (p : 0 < d) where
  abbrev pub upper : ℤ
  upper = ⌊ c ÷ base ⌋

  abbrev pub top : ℤ
  top = ⌊ upper ÷ base ⌋

  abbrev pub middle : ℤ
  middle = upper -ℤ top *ℤ pos base

  abbrev pub low : ℤ
  low = c -ℤ upper *ℤ pos base

  abbrev pub first : ℤ
  first = top *ℤ n

  abbrev pub second : ℤ
  second = pos (first modulo d) *ℤ pos base +ℤ middle *ℤ n

  abbrev pub third : ℤ
  third = pos (second modulo d) *ℤ pos base +ℤ low *ℤ n

  -- x n from the digits of x
  digits : (x y : ℤ) → x *ℤ n ≡ y *ℤ n *ℤ pos base +ℤ (x -ℤ y *ℤ pos base) *ℤ n
  digits x y = solveℤ (x0 :* x2) (x1 :* x2 :* x3 :+ (x0 :- x1 :* x3) :* x2) (x ∷ y ∷ n ∷ pos base ∷ []) tt

  pub upper_floor : ⌊ first ÷ d ⌋ *ℤ pos base +ℤ ⌊ second ÷ d ⌋ ≡ ⌊ upper *ℤ n ÷ d ⌋
  upper_floor = sym (ap (λ (z : ℤ). ⌊ z ÷ d ⌋) (digits upper top) ∙ next_digit first (middle *ℤ n) base p)

  upper_modulo : (upper *ℤ n) modulo d ≡ second modulo d
  upper_modulo = ap (λ (z : ℤ). z modulo d) (digits upper top) ∙ next_modulo first (middle *ℤ n) base p

  pub wide_floor : ⌊ upper *ℤ n ÷ d ⌋ *ℤ pos base +ℤ ⌊ third ÷ d ⌋ ≡ ⌊ c *ℤ n ÷ d ⌋
  wide_floor =
      sym
      (ap (λ (z : ℤ). ⌊ z ÷ d ⌋) (digits c upper)
      ∙ next_digit (upper *ℤ n) (low *ℤ n) base p
      ∙ ap (λ (m : ℕ). ⌊ upper *ℤ n ÷ d ⌋ *ℤ pos base +ℤ ⌊ pos m *ℤ pos base +ℤ low *ℤ n ÷ d ⌋) upper_modulo)

-- ---- for callers
abbrev pub in_range : ℕ → ℕ → ℕ → Bool
in_range m n d = leb m (2 ^ 46) && (leb n (2 ^ 42) && (ltb 0 d && (leb d (2 ^ 45) && leb (m * n / d + 1) (2 ^ 61))))

-- what `mul_div` requires at x and y, for a divisor that is a numeral: `mul-div-asked x y d tt`
pub mul_div_asked : (x y : Mirror) (d : ℕ) → T (in_range x.most y.most d) → MulDiv x.machine y.machine d
mul_div_asked x y d t =
    let t₁ = and_yes (leb x.most (2 ^ 46)) _ t in
    let t₂ = and_yes (leb y.most (2 ^ 42)) _ t₁.1 in
    let t₃ = and_yes (ltb 0 d) _ t₂.1 in
    let t₄ = and_yes (leb d (2 ^ 45)) _ t₃.1 in
    rw (x.same, y.same)
    (record {
      factor = le_trans x.bound (leb→le x.most (2 ^ 46) t₁.0);
      time = le_trans y.bound (leb→le y.most (2 ^ 42) t₂.0);
      above = ltb→lt 0 d t₃.0;
      divisor = leb→le d (2 ^ 45) t₄.0;
      quotient =
          le_trans (floor_most (x.number *ℤ y.number) d (x.most * y.most) (mul_bound x.number y.number x.bound y.bound))
          (leb→le (x.most * y.most / d + 1) (2 ^ 61) t₄.1);
    })

-- and what it gave: `mul-div-gave x y d c.mul-div.ok c.mul-div.ensures`
abbrev pub mul_div_gave : {r : ℤ} (x y : Mirror) (d : ℕ) → mag r < 2 ^ 63 → r ≡ ⌊ x.machine *ℤ y.machine ÷ d ⌋ → Mirror
mul_div_gave x y d f e = floor_gave (x ⊗ y) d f e
