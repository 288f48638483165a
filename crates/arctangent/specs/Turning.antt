-- A pair that the arctangent turns, in coordinates of any kind: the whole numbers that it stands for, and how large they grow.
use Rattle.std.specs.Prelude.{ℕ, zero, suc, ◌+◌, ◌*◌, ◌/◌, ◌^◌, ◌≤◌, ℤ, nat_abs}
use Rattle.std.proofs.Common.{lit≤}
use Rattle.arctangent.specs.declared.turning.Turning.{Turning}

-- the pair in whole numbers
abbrev pub turning : {T : Type 0} → (T → ℤ) → Turning T → Turning ℤ
turning number s = record { x = number s.x; y = number s.y; angle = s.angle }

-- both of its coordinates
abbrev pub Both : {T : Type 0} → (T → Type 0) → Turning T → Type 0
Both P s = P s.x × P s.y

-- x and y at most b on either side of zero, and the angle at most a
pub record Sized (b a : ℕ) (s : Turning ℤ) : Type 0 where
  pub x_size : nat_abs s.x ≤ b
  pub y_size : nat_abs s.y ≤ b
  pub angle_size : nat_abs s.angle ≤ a

-- numbers of at most b are at most this after k steps
unfoldable pub grown : ℕ → ℕ → ℕ
grown b zero = b
grown b (suc k) = grown b k + (grown b k / 2 ^ k + 1)

-- what 64 bits have room for, and what limbs have
pub narrow_enough : grown (2 ^ 40 * 1024) 30 ≤ 2 ^ 60
unfolding grown
narrow_enough = lit≤ tt

pub wide_enough : grown (2 ^ 63 * 1024) 30 ≤ 2 ^ 82
unfolding grown
wide_enough = lit≤ tt
