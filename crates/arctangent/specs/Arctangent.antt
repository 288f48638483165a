-- The arctangent of (y, x) (01, "Arctangent", as 02's Item 5 mends it): a reduced angle, or no direction.
use Rattle.std.specs.Prelude.{Some, None, cond, ◌↔◌, ◌≡◌, ℕ, zero, suc, ◌+◌, ◌^◌, eqb, ℤ, pos, negsuc, neg_ℤ, nat_abs, ◌+ℤ◌, ◌-ℤ◌, ◌*ℤ◌}
use Rattle.arithmetic.specs.Floor.{⌊◌÷◌⌋}
use Rattle.arctangent.specs.Direction.{Direction, Reduced}
use Rattle.arctangent.specs.declared.turning.Turning.{Turning}
use Rattle.numbers.specs.Whole.{by_sign}
use Rattle.number_rules.specs.Angle.{half_turn, reduced}
use Rattle.number_rules.specs.ArctangentTable.{turn_by}

-- step k, from the old pair
unfoldable pub step : ℕ → Turning ℤ → Turning ℤ
step k s =
    by_sign s.y
    (record { x = s.x +ℤ ⌊ s.y ÷ 2 ^ k ⌋; y = s.y -ℤ ⌊ s.x ÷ 2 ^ k ⌋; angle = s.angle +ℤ pos (turn_by k) })
    s
    (record { x = s.x -ℤ ⌊ s.y ÷ 2 ^ k ⌋; y = s.y +ℤ ⌊ s.x ÷ 2 ^ k ⌋; angle = s.angle -ℤ pos (turn_by k) })

-- the steps 0 to k - 1
unfoldable pub steps : ℕ → Turning ℤ → Turning ℤ
steps zero s = s
steps (suc k) s = step k (steps k s)

-- both times 1024; x negative: negate both, start at 180 degrees, else at 0
unfoldable pub start : ℤ → ℤ → Turning ℤ
start y (pos x) = record { x = pos x *ℤ pos 1024; y = y *ℤ pos 1024; angle = pos 0 }
start y (negsuc x) = record { x = neg_ℤ (negsuc x *ℤ pos 1024); y = neg_ℤ (y *ℤ pos 1024); angle = pos half_turn }

-- the angle after all thirty, reduced
unfoldable pub angle_of : ℤ → ℤ → ℕ
angle_of y x = reduced (steps 30 (start y x)).angle

-- both zero: no direction
unfoldable pub arctangent : ℤ → ℤ → Direction
arctangent y x = cond (eqb (nat_abs y + nat_abs x) 0) None (Some (record { units = angle_of y x }))

-- THE CLAIMS, for any two numbers: no direction exactly when both are zero, and every angle is reduced
abbrev pub NoneAtZeros : Type 0
NoneAtZeros = (y x : ℤ) → (arctangent y x ≡ None) ↔ ((y ≡ pos 0) × (x ≡ pos 0))

abbrev pub EveryDirectionReduced : Type 0
EveryDirectionReduced = (y x : ℤ) → Reduced (arctangent y x)
