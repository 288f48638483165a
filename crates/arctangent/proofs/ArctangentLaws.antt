-- The arctangent: which case a test of the sign leaves, how large the numbers grow, and what a direction keeps to.
use mathlib.Core.Bool.{Bool, cond, false, true}
use mathlib.Core.List.{[], ◌∷◌}
use mathlib.Core.Path.{◌∙◌, ◌≡◌, ap, refl, subst, subst⁻¹, sym}
use Prim.Native.Nat.{◌*◌, ◌+◌, ◌/◌, ◌<◌, ◌^◌, ◌≤◌, suc, zero, ℕ}
use native.Mathlib.Decide.{dec_lt, le_ind}
use native.Mathlib.Nat.{le_of_lt, le_refl, le_trans}
use native.Mathlib.Numerals.{add-one}
use native.Mathlib.Omega.{arith}
use lib.Dec.{T, eqb, lit≤, ltb→lt}
use lib.IntN.{◌*ℤ◌, ◌+ℤ◌, ◌-ℤ◌, nat_abs, negsuc, neg_ℤ, pos, ℤ}
use lib.Signed.{◌<ℤ◌, ◌≤ℤ◌}
use borrow.Author.Tests.{ne_eqb}
use Rattle.arithmetic.specs.Floor.{⌊◌÷◌⌋}
use Rattle.arithmetic.proofs.FloorLaws.{floor_most}
use Rattle.arithmetic.proofs.Integers.{solveℤ}
use Rattle.arithmetic.proofs.Sizes.{abs_neg, add_bound, mul_bound, sub_bound}
use Rattle.arithmetic.proofs.Solver.{◌:*◌, ◌:+◌, ◌:-◌, con, k0, k1, x0, x1}
use Rattle.number_rules.specs.Angle.{full_turn, half_turn}
use Rattle.arctangent.specs.Arctangent.{EveryDirectionReduced, NoneAtZeros, angle_of, arctangent, start, step, steps}
use Rattle.arctangent.specs.Direction.{Direction, DirectionsTold, Reduced, angle_or, is_there, mark}
use Rattle.std.specs.Prelude.{None, Some, is_some}
use Rattle.number_rules.specs.ArctangentTable.{turn_by}
use Rattle.numbers.specs.Whole.{by_sign, sign}
use Rattle.arctangent.specs.Turning.{Sized, grown}
use Rattle.arctangent.specs.declared.turning.Turning.{Turning}
use Rattle.number_rules.proofs.ArctangentTableLaws.{turn_small}
use Rattle.number_rules.proofs.SineLaws.{reduced_below}
use Rattle.numbers.proofs.Machine.{Mirror}
use Rattle.numbers.proofs.SignLaws.{signed_small}

-- ---- a step as the code takes it: by the sign of y, with no case
pub step_signed : (k : ℕ) (s : Turning ℤ)
    → step k s ≡ record { x = s.x +ℤ sign s.y *ℤ ⌊ s.y ÷ 2 ^ k ⌋; y = s.y -ℤ sign s.y *ℤ ⌊ s.x ÷ 2 ^ k ⌋; angle = s.angle +ℤ sign s.y *ℤ pos (turn_by k) }
unfolding step
step_signed k s = go s.y
  where
    dx : ℤ
    dx = ⌊ s.y ÷ 2 ^ k ⌋

    dy : ℤ
    dy = ⌊ s.x ÷ 2 ^ k ⌋

    t : ℤ
    t = pos (turn_by k)

    none : (a b : ℤ) → a ≡ a +ℤ pos 0 *ℤ b
    none a b = solveℤ x0 (x0 :+ k0 :* x1) (a ∷ b ∷ []) tt

    none' : (a b : ℤ) → a ≡ a -ℤ pos 0 *ℤ b
    none' a b = solveℤ x0 (x0 :- k0 :* x1) (a ∷ b ∷ []) tt

    one : (a b : ℤ) → a +ℤ b ≡ a +ℤ pos 1 *ℤ b
    one a b = solveℤ (x0 :+ x1) (x0 :+ k1 :* x1) (a ∷ b ∷ []) tt

    one' : (a b : ℤ) → a -ℤ b ≡ a -ℤ pos 1 *ℤ b
    one' a b = solveℤ (x0 :- x1) (x0 :- k1 :* x1) (a ∷ b ∷ []) tt

    less : (a b : ℤ) → a -ℤ b ≡ a +ℤ negsuc 0 *ℤ b
    less a b = solveℤ (x0 :- x1) (x0 :+ con (negsuc 0) :* x1) (a ∷ b ∷ []) tt

    less' : (a b : ℤ) → a +ℤ b ≡ a -ℤ negsuc 0 *ℤ b
    less' a b = solveℤ (x0 :+ x1) (x0 :- con (negsuc 0) :* x1) (a ∷ b ∷ []) tt

    go : (y : ℤ) → ◌≡◌ {A = Turning ℤ}
        (by_sign y (record { x = s.x +ℤ dx; y = s.y -ℤ dy; angle = s.angle +ℤ t }) s (record { x = s.x -ℤ dx; y = s.y +ℤ dy; angle = s.angle -ℤ t }))
        (record { x = s.x +ℤ sign y *ℤ dx; y = s.y -ℤ sign y *ℤ dy; angle = s.angle +ℤ sign y *ℤ t })
    go (pos zero) = λ i. record { x = none s.x dx i; y = none' s.y dy i; angle = none s.angle t i }
    go (pos (suc m)) = λ i. record { x = one s.x dx i; y = one' s.y dy i; angle = one s.angle t i }
    go (negsuc m) = λ i. record { x = less s.x dx i; y = less' s.y dy i; angle = less s.angle t i }

pub start_left : (y : ℤ) {x : ℤ} → x <ℤ pos 0 → ◌≡◌ {A = Turning ℤ} (record { x = neg_ℤ (x *ℤ pos 1024); y = neg_ℤ (y *ℤ pos 1024); angle = pos half_turn }) (start y x)
unfolding start
start_left y {x = pos n} h = absurd (none n (ltb→lt n 0 h.lt))
  where
    none : (n : ℕ) → n < 0 → ⊥
    none n h = omega arith
start_left y {x = negsuc n} h = refl

pub start_right : (y : ℤ) {x : ℤ} → pos 0 ≤ℤ x → ◌≡◌ {A = Turning ℤ} (record { x = x *ℤ pos 1024; y = y *ℤ pos 1024; angle = pos 0 }) (start y x)
unfolding start
start_right y {x = pos n} h = refl
start_right y {x = negsuc n} h = absurd h.le

pub steps_next : (k : ℕ) (s : Turning ℤ) → step k (steps k s) ≡ steps (k + 1) s
unfolding steps
steps_next k s = rw add-one

-- ---- sizes: x and y at most b before step k are at most b + b / 2ᵏ + 1 after it
step_sized : (k b a : ℕ) (s : Turning ℤ) → k < 30 → Sized b a s → Sized (b + (b / 2 ^ k + 1)) (a + 4_500_000_000) (step k s)
step_sized k b a s h p =
    subst⁻¹ (Sized (b + (b / 2 ^ k + 1)) (a + 4_500_000_000)) (step_signed k s)
    (record {
      x_size = add_bound s.x (sign s.y *ℤ dx) p.x_size (signed_small s.y dx (floor_most s.y (2 ^ k) b p.y_size));
      y_size = sub_bound s.y (sign s.y *ℤ dy) p.y_size (signed_small s.y dy (floor_most s.x (2 ^ k) b p.x_size));
      angle_size = add_bound s.angle (sign s.y *ℤ t) p.angle_size (signed_small s.y t (turn_small k h));
    })
  where
    dx : ℤ
    dx = ⌊ s.y ÷ 2 ^ k ⌋

    dy : ℤ
    dy = ⌊ s.x ÷ 2 ^ k ⌋

    t : ℤ
    t = pos (turn_by k)

grown_mono : (b k m : ℕ) → k ≤ m → grown b k ≤ grown b m
unfolding grown
grown_mono b k m h = le_ind (λ (m : ℕ). grown b k ≤ grown b m) (le_refl (grown b k)) (λ m _ ih. le_trans ih (more (grown b m) (grown b m / 2 ^ m))) m h
  where
    more : (x y : ℕ) → x ≤ x + (y + 1)
    more x y = omega arith

steps_bounded : (b k a : ℕ) (s : Turning ℤ) → k ≤ 30 → Sized b a s → Sized (grown b k) (a + k * 4_500_000_000) (steps k s)
unfolding steps grown
steps_bounded b zero a s h p = subst (λ (n : ℕ). Sized b n s) (same a) p
  where
    same : (a : ℕ) → a ≡ a + 0 * 4_500_000_000
    same a = omega arith
steps_bounded b (suc k) a s h p =
    subst (λ (n : ℕ). Sized (grown b k + (grown b k / 2 ^ k + 1)) n (step k (steps k s))) (next a k)
    (step_sized k (grown b k) (a + k * 4_500_000_000) (steps k s) h (steps_bounded b k a s (omega arith) p))
  where
    next : (a k : ℕ) → a + k * 4_500_000_000 + 4_500_000_000 ≡ a + suc k * 4_500_000_000
    next a k = omega arith

-- from b no step leaves a number above m
pub steps_sized : (b m k : ℕ) (s : Turning ℤ) → grown b 30 ≤ m → k ≤ 30 → Sized b (2 ^ 50) s → Sized m (2 ^ 60) (steps k s)
steps_sized b m k s l h p =
    let q = steps_bounded b k (2 ^ 50) s h p in
    let n = le_trans (grown_mono b k 30 h) l in
    record { x_size = le_trans q.x_size n; y_size = le_trans q.y_size n; angle_size = omega (arith, q.angle_size) }

-- so that there is room for the first pair
pub first_room : (b : ℕ) {m : ℕ} → grown b 30 ≤ m → b ≤ m
unfolding grown
first_room b h = le_trans (grown_mono b 0 30 (lit≤ tt)) h

-- and for a sum of two coordinates
pub sum_room : (a b c : ℤ) {m : ℕ} → nat_abs a ≤ m → nat_abs b ≤ m → nat_abs c ≤ 1 → nat_abs (a +ℤ c *ℤ b) ≤ 2 * m
sum_room a b c h k l = omega (arith, add_bound a (c *ℤ b) h (mul_bound c b l k))

-- the first pair: both numbers times 1024
pub start_sized : (y x : ℤ) {m : ℕ} → nat_abs y ≤ m → nat_abs x ≤ m → Sized (m * 1024) (2 ^ 50) (start y x)
unfolding start
start_sized y (pos n) h k = record { x_size = mul_bound (pos n) (pos 1024) k (le_refl 1024); y_size = mul_bound y (pos 1024) h (le_refl 1024); angle_size = lit≤ tt }
start_sized y (negsuc n) h k = record {
  x_size = rw abs_neg (mul_bound (negsuc n) (pos 1024) k (le_refl 1024));
  y_size = rw abs_neg (mul_bound y (pos 1024) h (le_refl 1024));
  angle_size = lit≤ tt;
}

-- ---- the direction
pub angle_below : (y x : ℤ) → angle_of y x < full_turn
unfolding angle_of
angle_below y x = reduced_below (steps 30 (start y x)).angle

-- both numbers zero or not
pub both_zero : {y x : ℤ} → y ≡ pos 0 → x ≡ pos 0 → arctangent y x ≡ None
unfolding arctangent
both_zero e f = rw (e, f) refl

pub not_both : (y x : ℤ) → 0 < nat_abs y + nat_abs x → arctangent y x ≡ Some (record { units = angle_of y x })
unfolding arctangent
not_both y x h = rw (ne_eqb (nat_abs y + nat_abs x) 0 (omega arith)) refl

pub arctangent_reduced : EveryDirectionReduced
unfolding arctangent
arctangent_reduced y x = go (eqb (nat_abs y + nat_abs x) 0)
  where
    go : (b : Bool) → Reduced (cond b None (Some (record { units = angle_of y x })))
    go true = tt
    go false = angle_below y x

pub none_at_zeros : NoneAtZeros
none_at_zeros y x = (go (dec_lt 0 (nat_abs y + nat_abs x)), λ both. both_zero both.0 both.1)
  where
    none : (z : ℤ) → nat_abs z ≤ 0 → z ≡ pos 0
    none (pos n) h = ap pos (omega arith)
    none (negsuc n) h = absurd (omega arith)

    go : Dec (0 < nat_abs y + nat_abs x) → arctangent y x ≡ None → (y ≡ pos 0) × (x ≡ pos 0)
    go (yes h) e = absurd (subst T (ap is_there (sym (not_both y x h) ∙ e)) tt)
    go (no h) e = (none y (omega (arith, h)), none x (omega (arith, h)))

-- ---- what a call of `arctangent` gave
module _ {r : Direction} (y x : Mirror) (e : r ≡ arctangent y.machine x.machine) where
  pub gave_direction : r ≡ arctangent y.number x.number
  gave_direction = e ∙ (λ i. arctangent (y.same i) (x.same i))

  pub gave_reduced : Reduced r
  gave_reduced = subst⁻¹ Reduced e (arctangent_reduced y.machine x.machine)

-- ---- its angle, with a number below a full turn for none, is such a number too
pub angle_most : (none : ℤ) (d : Direction) → nat_abs none ≤ full_turn → Reduced d → nat_abs (angle_or none d) ≤ full_turn
angle_most none (Some angle) h r = le_of_lt r
angle_most none None h r = h

pub angle_natural : (none : ℕ) (d : Direction) → angle_or (pos none) d ≡ pos (nat_abs (angle_or (pos none) d))
angle_natural none (Some angle) = refl
angle_natural none None = refl

-- the library's test of it
pub some_there : (d : Direction) → is_some d ≡ is_there d
some_there (Some angle) = refl
some_there None = refl

-- one direction and no other is there and has the angle
pub direction_tells : DirectionsTold
direction_tells (Some a) (Some b) there same = ap (λ (z : ℤ). Some (record { units = nat_abs z })) same
direction_tells (Some a) None there same = absurd (subst T there tt)
direction_tells None (Some b) there same = absurd (subst⁻¹ T there tt)
direction_tells None None there same = refl

-- the mark is no reduced angle
pub mark_tells : (d : Direction) → Reduced d → angle_or mark d ≡ mark → d ≡ None
mark_tells (Some angle) r same = absurd (omega (arith, r, ap nat_abs same))
mark_tells None r same = refl
